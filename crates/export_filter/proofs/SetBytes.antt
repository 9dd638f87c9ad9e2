-- Sets as pairs of bytes: reading, writing, and back again. Assumes nothing.
use Rattle.model.specs.Kit.{◌≡◌, refl, sym, ap, ap₂, ◌∙◌, subst, List, [], ◌∷◌, ◌++◌, ℕ, zero, suc, ◌+◌, ◌*◌, ◌-◌, ◌/◌, ◌%◌, ◌≤◌, ◌<◌, add-one, arith, length, take, get_or, set, below_more}
use Rattle.model.specs.Written.{Written}
use lib.Seq.{take-suc, ext_get_or, get_or-set_same, get_or-set_other}
use Rattle.model.proofs.Written.{written_then}
use Rattle.export_filter.specs.Filter.{sets_in, bytes_of}

-- ---- reading
pub length_sets : (b : List ℕ) (n : ℕ) → length b ≡ 2 * n → length (sets_in b) ≡ n
unfolding sets_in
length_sets [] n e = omega arith
length_sets (x ∷ []) n e = omega arith
length_sets (x ∷ y ∷ r) n e = omega (arith, length_sets r (n - 1) (omega arith))

pub at_sets : (b : List ℕ) (n : ℕ) → length b ≡ 2 * n → (k : ℕ) → k < n → get_or (sets_in b) k 0 ≡ get_or b (2 * k) 0 + 256 * get_or b (2 * k + 1) 0
unfolding sets_in
at_sets [] n e k h = absurd (omega arith)
at_sets (x ∷ []) n e k h = absurd (omega arith)
at_sets (x ∷ y ∷ r) n e zero h = refl
at_sets (x ∷ y ∷ r) n e (suc k) h =
    let a : suc (suc (2 * k)) ≡ 2 * suc k = omega arith in
    let c : suc (suc (2 * k + 1)) ≡ 2 * suc k + 1 = omega arith in
    at_sets r (n - 1) (omega arith) k (omega arith)
    ∙ ap₂ (λ (i j : ℕ). get_or (x ∷ y ∷ r) i 0 + 256 * get_or (x ∷ y ∷ r) j 0) a c

-- words that are read one by one
pub loaded : (b ws : List ℕ) → length b ≡ 2 * length ws → ((k : ℕ) → k < length ws → get_or ws k 0 ≡ get_or b (2 * k) 0 + 256 * get_or b (2 * k + 1) 0) → ws ≡ sets_in b
loaded b ws e h = ext_get_or 0 ws (sets_in b) (sym (length_sets b (length ws) e)) (λ k l. h k l ∙ sym (at_sets b (length ws) e k l))

-- ---- writing
pub bytes_append : (a b : List ℕ) → bytes_of (a ++ b) ≡ bytes_of a ++ bytes_of b
unfolding bytes_of
bytes_append [] b = refl
bytes_append (s ∷ a) b = ap (λ (l : List ℕ). s % 256 ∷ s / 256 ∷ l) (bytes_append a b)

pub length_bytes : (ws : List ℕ) → length (bytes_of ws) ≡ 2 * length ws
unfolding bytes_of
length_bytes [] = refl
length_bytes (w ∷ ws) = omega (arith, length_bytes ws)

-- what is read and written again
pub bytes_back : (b : List ℕ) (n : ℕ) → length b ≡ 2 * n → ((i : ℕ) → get_or b i 0 < 256) → bytes_of (sets_in b) ≡ b
unfolding sets_in bytes_of
bytes_back [] n e h = refl
bytes_back (x ∷ []) n e h = absurd (omega arith)
bytes_back (x ∷ y ∷ r) n e h =
    let x< : x < 256 = h 0 in
    let low : (x + 256 * y) % 256 ≡ x = omega arith in
    let high : (x + 256 * y) / 256 ≡ y = omega arith in
    ap₂ (λ (i j : ℕ). i ∷ j ∷ bytes_of (sets_in r)) low high ∙ ap (λ (l : List ℕ). x ∷ y ∷ l) (bytes_back r (n - 1) (omega arith) (λ i. h (suc (suc i))))

-- one word more
pub bytes_turn : {d e : List ℕ} {at : ℕ} {f : List ℕ} {m : ℕ} (i : ℕ) (ws : List ℕ) → i < length ws → at ≤ length d → Written d 0 (bytes_of (take i ws)) e at → Written e at
    (get_or ws i 0 % 256 ∷ get_or ws i 0 / 256 ∷ []) f m → Written d 0 (bytes_of (take (i + 1) ws)) f m
unfolding bytes_of
bytes_turn {d} {e} {at} {f} {m} i ws h fits v w =
    let same : bytes_of (take (i + 1) ws) ≡ bytes_of (take i ws) ++ (get_or ws i 0 % 256 ∷ get_or ws i 0 / 256 ∷ []) =
    ap (λ (k : ℕ). bytes_of (take k ws)) (add-one i) ∙ ap bytes_of (take-suc ws i 0 h) ∙ bytes_append (take i ws) (get_or ws i 0 ∷ []) in
    subst (λ (l : List ℕ). Written d 0 l f m) (sym same) (written_then fits v w)

-- a store keeps what held of every index passed, and adds the index stored at
pub stored_more : (P : ℕ → ℕ → Type 0) (l : List ℕ) (i v : ℕ) → i < length l → ((k : ℕ) → k < i → P k (get_or l k 0)) → P i v → (k : ℕ) → k < i + 1 → P k (get_or (set l i v) k 0)
stored_more P l i v h old new = below_more (λ k. P k (get_or (set l i v) k 0)) i
    (λ k lt. subst (P k) (sym (get_or-set_other l i k v 0 (λ e. absurd (omega arith)))) (old k lt))
    (subst (P i) (sym (get_or-set_same l i v 0 h)) new)
