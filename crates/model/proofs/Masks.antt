-- What the code's operations on sixteen bits do to members; the least value. Assumes nothing.
use Rattle.model.specs.Kit.{◌≡◌, refl, sym, ap, ap₂, ◌∙◌, Bool, true, false, not, ℕ, zero, suc, ◌+◌, ◌-◌, ◌*◌, ◌/◌, ◌%◌, ◌^◌, ◌≤◌, ◌<◌, min, not-suc-le-zero, le_of_suc-le-suc, mod-eq_of_lt}
use Rattle.model.specs.Kit.{lt_of_le_of_lt, arith, eqb, ltb, lit<, bit_and, bit_or, or_lt, and_le_l, pow-lt, count_trailing_zeros, eq-eqb, ne_eqb, lt-ltb, le-ltb}
use Rattle.model.specs.Lists.{both, either}
use Rattle.model.specs.ValueSets.{has, mask_of, full_mask, without_mask, only_mask, union_mask, common_mask, least, least_step, one_if}
use mathlib.Core.Path.{fun_ext}
use Prim.Native.Nat.{max}
use lib.Dec.{leb-suc-suc, eqb-zero-suc, eqb-suc-zero, eqb-suc-suc}
use lib.Bits.{and_step, or_step, and_lt, and_mask, and_le_r}
use lib.Pow.{pow_pos, shr-shr}
use lib.Count.{under}
use Rattle.model.proofs.{Sets.has_zero, Sets.has_suc, Sets.has_none, Sets.has_mask, Sets.mask_lt, Sets.mask_ext, Sets.pow2, Lists.both_true, Lists.both_false}

-- ---- what the code's operations do to members
min_bit : (a b : ℕ) → a < 2 → b < 2 → eqb (min a b) 1 ≡ both (eqb a 1) (eqb b 1)
min_bit zero zero ha hb = refl
min_bit zero (suc zero) ha hb = refl
min_bit zero (suc (suc b)) ha hb = absurd (omega arith)
min_bit (suc zero) zero ha hb = refl
min_bit (suc zero) (suc zero) ha hb = refl
min_bit (suc zero) (suc (suc b)) ha hb = absurd (omega arith)
min_bit (suc (suc a)) b ha hb = absurd (omega arith)

max_bit : (a b : ℕ) → a < 2 → b < 2 → eqb (max a b) 1 ≡ either (eqb a 1) (eqb b 1)
max_bit zero zero ha hb = refl
max_bit zero (suc zero) ha hb = refl
max_bit zero (suc (suc b)) ha hb = absurd (omega arith)
max_bit (suc zero) zero ha hb = refl
max_bit (suc zero) (suc zero) ha hb = refl
max_bit (suc zero) (suc (suc b)) ha hb = absurd (omega arith)
max_bit (suc (suc a)) b ha hb = absurd (omega arith)

-- a number whose halves and last bit are known
step_zero : (n m : ℕ) → n % 2 ≡ m → has n 0 ≡ eqb m 1
step_zero n m e = has_zero n ∙ ap (λ (x : ℕ). eqb x 1) e

step_suc : (n m v : ℕ) → n / 2 ≡ m → has n (suc v) ≡ has m v
step_suc n m v e = has_suc n v ∙ ap (λ (x : ℕ). has x v) e

pub has_and : (a b v : ℕ) → has (bit_and a b) v ≡ both (has a v) (has b v)
has_and a b zero =
    step_zero (bit_and a b) (min (a % 2) (b % 2)) (omega (arith, and_step a b))
    ∙ min_bit (a % 2) (b % 2) (omega arith) (omega arith)
    ∙ sym (ap₂ both (has_zero a) (has_zero b))
has_and a b (suc v) =
    step_suc (bit_and a b) (bit_and (a / 2) (b / 2)) v (omega (arith, and_step a b)) ∙ has_and (a / 2) (b / 2) v
    ∙ sym (ap₂ both (has_suc a v) (has_suc b v))

pub has_or : (a b v : ℕ) → has (bit_or a b) v ≡ either (has a v) (has b v)
has_or a b zero =
    step_zero (bit_or a b) (max (a % 2) (b % 2)) (omega (arith, or_step a b))
    ∙ max_bit (a % 2) (b % 2) (omega arith) (omega arith)
    ∙ sym (ap₂ either (has_zero a) (has_zero b))
has_or a b (suc v) =
    step_suc (bit_or a b) (bit_or (a / 2) (b / 2)) v (omega (arith, or_step a b)) ∙ has_or (a / 2) (b / 2) v
    ∙ sym (ap₂ either (has_suc a v) (has_suc b v))

not_bit : (a b : ℕ) → a < 2 → b ≡ 1 - a → eqb b 1 ≡ not (eqb a 1)
not_bit zero b h e = eq-eqb b 1 (omega arith)
not_bit (suc zero) b h e = ne_eqb b 1 (λ q. omega arith)
not_bit (suc (suc a)) b h e = absurd (omega arith)

pub has_not : (k t v : ℕ) → t < 2 ^ k → v < k → has ((2 ^ k - 1) - t) v ≡ not (has t v)
has_not zero t v h l = absurd (not-suc-le-zero l)
has_not (suc k) t zero h l =
    has_zero ((2 ^ suc k - 1) - t) ∙ not_bit (t % 2) (((2 ^ suc k - 1) - t) % 2) (omega arith) (omega (arith, pow2 k))
    ∙ ap not (sym (has_zero t))
has_not (suc k) t (suc v) h l =
    step_suc ((2 ^ suc k - 1) - t) ((2 ^ k - 1) - t / 2) v (omega (arith, pow2 k))
    ∙ has_not k (t / 2) v (omega (arith, pow2 k)) (le_of_suc-le-suc l) ∙ ap not (sym (has_suc t v))

pub has_one : (u v : ℕ) → has (2 ^ u) v ≡ eqb v u
has_one zero zero = has_zero 1
has_one zero (suc v) = has_suc 1 v ∙ has_none v ∙ sym (eqb-suc-zero v)
has_one (suc u) zero = step_zero (2 ^ suc u) 0 (omega (arith, pow2 u)) ∙ sym (eqb-zero-suc u)
has_one (suc u) (suc v) = step_suc (2 ^ suc u) (2 ^ u) v (omega (arith, pow2 u)) ∙ has_one u v ∙ sym (eqb-suc-suc v u)

pub has_one_if : (b : Bool) (u v : ℕ) → has (one_if b u) v ≡ both b (eqb v u)
has_one_if true u v = has_one u v
has_one_if false u v = has_none v

-- ---- the laws of the least value
pub least_none : (k : ℕ) (f : ℕ → Bool) → ((j : ℕ) → j < k → f j ≡ false) → least k f ≡ k
unfolding least
least_none zero f h = refl
least_none (suc k) f h = ap (λ (b : Bool). least_step b (least k (λ v. f (suc v)))) (h 0 (omega arith)) ∙ ap suc (least_none k (λ v. f (suc v)) (λ j l. h (suc j) (omega arith)))

pub least_at : (k : ℕ) (f : ℕ → Bool) (i : ℕ) → i < k → ((j : ℕ) → j < i → f j ≡ false) → f i ≡ true → least k f ≡ i
unfolding least
least_at zero f i l h e = absurd (not-suc-le-zero l)
least_at (suc k) f zero l h e = ap (λ (b : Bool). least_step b (least k (λ v. f (suc v)))) e
least_at (suc k) f (suc i) l h e =
    ap (λ (b : Bool). least_step b (least k (λ v. f (suc v)))) (h 0 (omega arith))
    ∙ ap suc (least_at k (λ v. f (suc v)) i (le_of_suc-le-suc l) (λ j m. h (suc j) (omega arith)) e)

pub least_below : (k : ℕ) (f : ℕ → Bool) (j : ℕ) → j < least k f → f j ≡ false
unfolding least
least_below zero f j l = absurd (not-suc-le-zero l)
least_below (suc k) f j l = below (least_below k (λ v. f (suc v))) (f 0) refl j l
  where
    below : ((i : ℕ) → i < least k (λ v. f (suc v)) → f (suc i) ≡ false) → (b : Bool) → f 0 ≡ b → (i : ℕ) → i < least_step b (least k (λ v. f (suc v))) → f i ≡ false
    below h true e i l' = absurd (not-suc-le-zero l')
    below h false e zero l' = e
    below h false e (suc i) l' = h i (le_of_suc-le-suc l')

pub least_is : (k : ℕ) (f : ℕ → Bool) → least k f < k → f (least k f) ≡ true
unfolding least
least_is zero f l = absurd (not-suc-le-zero l)
least_is (suc k) f l = go (least_is k (λ v. f (suc v))) (f 0) refl l
  where
    go : (least k (λ v. f (suc v)) < k → f (suc (least k (λ v. f (suc v)))) ≡ true) → (b : Bool) → f 0 ≡ b →
        least_step b (least k (λ v. f (suc v))) < suc k → f (least_step b (least k (λ v. f (suc v)))) ≡ true
    go ih true e l = e
    go ih false e l = ih (le_of_suc-le-suc l)

-- ---- the operations of the type, as comprehensions
-- a set is the comprehension of its members
pub is_mask : (s : ℕ) (f : ℕ → Bool) → s < 2 ^ 16 → ((v : ℕ) → v < 16 → has s v ≡ f v) → s ≡ mask_of f
is_mask s f h e = mask_ext 16 s (mask_of f) h (mask_lt 16 f) (λ v l. e v l ∙ sym (has_mask 16 f v l))

one_lt : (v : ℕ) → v < 16 → 2 ^ v < 2 ^ 16
one_lt v h = pow-lt h

pub shl_one : (v : ℕ) → v < 16 → 1 * 2 ^ v % 2 ^ 16 ≡ 2 ^ v
shl_one v h =
    let e : 1 * 2 ^ v ≡ 2 ^ v = omega arith in
    ap (λ (n : ℕ). n % 2 ^ 16) e ∙ mod-eq_of_lt (one_lt v h)

pub common_op : (s t : ℕ) → s < 2 ^ 16 → t < 2 ^ 16 → bit_and s t ≡ common_mask s t
common_op s t hs ht = is_mask (bit_and s t) _ (and_lt 16 s t hs ht) (λ v l. has_and s t v)

pub union_op : (s t : ℕ) → s < 2 ^ 16 → t < 2 ^ 16 → bit_or s t ≡ union_mask s t
union_op s t hs ht = is_mask (bit_or s t) _ (or_lt 16 s t hs ht) (λ v l. has_or s t v)

pub without_op : (s u : ℕ) → s < 2 ^ 16 → u < 16 → bit_and s ((2 ^ 16 - 1) - 1 * 2 ^ u % 2 ^ 16) ≡ without_mask s u
without_op s u hs hu =
    rw (shl_one u hu)
    (is_mask (bit_and s ((2 ^ 16 - 1) - 2 ^ u)) _
    (lt_of_le_of_lt (and_le_l s ((2 ^ 16 - 1) - 2 ^ u)) hs)
    (λ v l. has_and s ((2 ^ 16 - 1) - 2 ^ u) v
    ∙ ap (both (has s v)) (has_not 16 (2 ^ u) v (one_lt u hu) l ∙ ap not (has_one u v))))

pub without_none : (s u : ℕ) → s < 2 ^ 16 → 16 ≤ u → s ≡ without_mask s u
without_none s u hs hu =
    is_mask s _ hs
    (λ v l. sym (ap (λ (b : Bool). both (has s v) (not b)) (ne_eqb v u (λ e. omega arith)) ∙ both_true (has s v)))

pub only_op : (s u : ℕ) → s < 2 ^ 16 → u < 16 → bit_and s (1 * 2 ^ u % 2 ^ 16) ≡ only_mask s u
only_op s u hs hu =
    rw (shl_one u hu)
    (is_mask (bit_and s (2 ^ u)) _ (lt_of_le_of_lt (and_le_l s (2 ^ u)) hs)
    (λ v l. has_and s (2 ^ u) v ∙ ap (both (has s v)) (has_one u v)))

pub only_none : (s u : ℕ) → 16 ≤ u → 0 ≡ only_mask s u
only_none s u hu =
    is_mask 0 _ (lit< tt)
    (λ v l. has_none v ∙ sym (ap (both (has s v)) (ne_eqb v u (λ e. omega arith)) ∙ both_false (has s v)))

-- ---- the full set

pub has_ones : (w v : ℕ) → has (2 ^ w - 1) v ≡ ltb v w
has_ones zero v = has_none v ∙ sym (le-ltb v 0 (omega arith))
has_ones (suc w) zero =
    let e : (2 ^ suc w - 1) % 2 ≡ 1 = omega (arith, pow2 w, pow_pos w) in
    has_zero (2 ^ suc w - 1) ∙ eq-eqb ((2 ^ suc w - 1) % 2) 1 e ∙ sym (lt-ltb 0 (suc w) (omega arith))
has_ones (suc w) (suc v) =
    let e : (2 ^ suc w - 1) / 2 ≡ 2 ^ w - 1 = omega (arith, pow2 w, pow_pos w) in
    has_suc (2 ^ suc w - 1) v ∙ ap (λ (n : ℕ). has n v) e ∙ has_ones w v ∙ sym (leb-suc-suc (suc v) w)

pub full_op : (w : ℕ) → w < 16 → 1 * 2 ^ w % 2 ^ 16 - 1 ≡ full_mask w
full_op w h = rw (shl_one w h) (is_mask (2 ^ w - 1) _ (omega (arith, one_lt w h)) (λ v l. has_ones w v))

pub full_all : (w : ℕ) → 16 ≤ w → 65535 ≡ full_mask w
full_all w h = is_mask 65535 _ (lit< tt) (λ v l. has_ones 16 v ∙ lt-ltb v 16 l ∙ sym (lt-ltb v w (omega arith)))

-- ---- the lowest member
low_step : (d t : ℕ) → d < 2 → under d t ≡ least_step (eqb d 1) t
low_step zero t h = refl
low_step (suc zero) t h = refl
low_step (suc (suc d)) t h = absurd (omega arith)

pub lowest_op : (k s : ℕ) → count_trailing_zeros k s ≡ least k (has s)
unfolding count_trailing_zeros least
lowest_op zero s = refl
lowest_op (suc k) s =
    low_step (s % 2) (count_trailing_zeros k (s / 2)) (omega arith)
    ∙ ap₂ least_step (sym (has_zero s)) (lowest_op k (s / 2) ∙ ap (least k) (sym (fun_ext (has_suc s))))

-- ---- the member test
pub contains_op : (s v : ℕ) → eqb (bit_and (s / 2 ^ v) 1) 1 ≡ has s v
unfolding has
contains_op s v = ap (λ (n : ℕ). eqb n 1) (and_mask (s / 2 ^ v) 1)

pub shl_pos : (v : ℕ) → v < 16 → 1 ≤ 1 * 2 ^ v % 2 ^ 16
shl_pos v h = rw (shl_one v h) (pow_pos v)

-- ---- a shift, and the last eight bits
pub has_shr : (x s i : ℕ) → has (x / 2 ^ s) i ≡ has x (s + i)
unfolding has
has_shr x s i = ap (λ (n : ℕ). eqb (n % 2) 1) (shr-shr x s i)

pub byte_has : (s w : ℕ) → w < 8 → has (bit_and s 255) w ≡ has s w
byte_has s w h = has_and s 255 w ∙ ap (both (has s w)) (has_not 8 0 w (omega arith) h ∙ ap not (has_none w)) ∙ both_true (has s w)

pub byte_lt : (s : ℕ) → bit_and s 255 < 256
byte_lt s = omega (arith, and_le_r s 255)
