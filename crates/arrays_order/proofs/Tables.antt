-- Support tables with two coordinates exchanged. Assumes nothing.
use Rattle.model.specs.Kit.{◌≡◌, refl, sym, ap, ◌∙◌, Bool, true, false, List, [], ◌∷◌, ℕ, ◌+◌, ◌*◌, ◌/◌, ◌%◌, ◌^◌, ◌≤◌, ◌<◌, dec_lt, arith, eqb, eqb-true}
use Rattle.model.specs.{Lists.at, Lists.both, ValueSets.has, ValueSets.mask_of, ValueSets.least_step, ValueSets.least, Inner.Filling.Filled}
use mathlib.Core.Path.{fun_ext}
use Rattle.order.specs.Reordered.{position, value_of}
use Rattle.model.proofs.{Sets.has_mask, Sets.mask_lt, Sets.has_none, Masks.is_mask, Members.one_has, Lists.at_small_1, Lists.at_small_2}
use Rattle.arrays_order.specs.Inner.Steps.{Cell, Swapped, Transposed, Meant, Framed}

-- ---- sets
pub mask_same : (f g : ℕ → Bool) → ((v : ℕ) → v < 16 → f v ≡ g v) → mask_of f ≡ mask_of g
mask_same f g h = is_mask (mask_of f) g (mask_lt 16 f) (λ v l. has_mask 16 f v l ∙ h v l)

pub mask_none : (f : ℕ → Bool) → ((v : ℕ) → v < 16 → f v ≡ false) → mask_of f ≡ 0
mask_none f h = sym (is_mask 0 f (omega arith) (λ v l. has_none v ∙ sym (h v l)))

pub cell_yes : (s w v : ℕ) → v < 16 → has s w ≡ true → Cell s w v (1 * 2 ^ v % 2 ^ 16)
cell_yes s w v l e = record { has_is = λ x. one_has 16 v x l ∙ ap (λ (b : Bool). both b (eqb x v)) (sym e); few = omega arith }

pub cell_no : (s w v : ℕ) → has s w ≡ false → Cell s w v 0
cell_no s w v e = record { has_is = λ x. has_none x ∙ ap (λ (b : Bool). both b (eqb x v)) (sym e); few = omega arith }

pub column_of : (base j : ℕ) (from : List ℕ) (r : ℕ) → j < 16 → r ≡ mask_of (λ v. has (at from (base + v)) j) → r ≡ mask_of (λ v. has (at from (base + (16 * (j / 16) + v))) (j % 16))
column_of base j from r h e =
    e ∙ mask_same (λ v. has (at from (base + v)) j) (λ v. has (at from (base + (16 * (j / 16) + v))) (j % 16)) (λ v l.
    let f : j ≡ j % 16 = omega arith in
    let g : base + v ≡ base + (16 * (j / 16) + v) = omega arith in
    ap (λ (n : ℕ). has (at from n) j) g ∙ ap (has (at from (base + (16 * (j / 16) + v)))) f)

-- sixteen sets more
pub transposed_turn : (base k : ℕ) (old mid new : List ℕ) → Transposed base (16 * k) old mid → Transposed (base + 16 * k) 16 mid new → Transposed base (16 * (k + 1)) old new
transposed_turn base k old mid new a b = record {
  size = b.size ∙ a.size;
  here = λ j l. here j l (dec_lt j (16 * k));
  other = λ j n. b.other j (λ u m e. n (16 * k + u) (omega arith) (omega arith)) ∙ a.other j (λ u m e. n u (omega arith) e);
}
  where
    here : (j : ℕ) → j < 16 * (k + 1) → Dec (j < 16 * k) → at new (base + j) ≡ mask_of (λ v. has (at old (base + (16 * (j / 16) + v))) (j % 16))
    here j l (yes i) = b.other (base + j) (λ u m e. omega arith) ∙ a.here j i
    here j l (no i) =
        let e : base + j ≡ base + 16 * k + j % 16 = omega arith in
        let s : j % 16 < 16 = omega arith in
        ap (at new) e ∙ b.here (j % 16) s
        ∙ mask_same (λ v. has (at mid (base + 16 * k + (16 * (j % 16 / 16) + v))) (j % 16 % 16)) (λ v. has (at old (base + (16 * (j / 16) + v))) (j % 16)) (λ v m.
        let f : base + 16 * k + (16 * (j % 16 / 16) + v) ≡ base + (16 * (j / 16) + v) = omega arith in
        let g : j % 16 % 16 ≡ j % 16 = omega arith in
        ap (λ (n : ℕ). has (at mid n) (j % 16 % 16)) f ∙ ap (has (at mid (base + (16 * (j / 16) + v)))) g ∙ ap (λ (n : ℕ). has n (j % 16))
        (a.other (base + (16 * (j / 16) + v)) (λ u o q. omega arith)))

-- ---- the value of a variable, whose name is one of two or three
-- no number has two names
abbrev pub Never : Bool → Bool → Type 0
Never p q = p ≡ true → q ≡ true → ⊥

pub never : (x y n : ℕ) → (x ≡ y → ⊥) → Never (eqb x n) (eqb y n)
never x y n h e f = h (eqb-true x n e ∙ sym (eqb-true y n f))

swap_2 : (b c : ℕ) (q s : Bool) → Never q s → at (b ∷ c ∷ []) (least_step q (least_step s 0)) ≡ at (c ∷ b ∷ []) (least_step s (least_step q 0))
unfolding at
swap_2 b c true true h = absurd (h refl refl)
swap_2 b c true false h = refl
swap_2 b c false true h = refl
swap_2 b c false false h = refl

swap_first : (a b c : ℕ) (p q s : Bool) → Never p q → at (a ∷ b ∷ c ∷ []) (least_step p (least_step q (least_step s 0))) ≡ at (b ∷ a ∷ c ∷ []) (least_step q (least_step p (least_step s 0)))
unfolding at
swap_first a b c true true s h = absurd (h refl refl)
swap_first a b c true false s h = refl
swap_first a b c false true s h = refl
swap_first a b c false false true h = refl
swap_first a b c false false false h = refl

swap_last : (a b c : ℕ) (p q s : Bool) → Never q s → at (a ∷ b ∷ c ∷ []) (least_step p (least_step q (least_step s 0))) ≡ at (a ∷ c ∷ b ∷ []) (least_step p (least_step s (least_step q 0)))
unfolding at
swap_last a b c p true true h = absurd (h refl refl)
swap_last a b c true true false h = refl
swap_last a b c false true false h = refl
swap_last a b c true false true h = refl
swap_last a b c false false true h = refl
swap_last a b c true false false h = refl
swap_last a b c false false false h = refl

value_2 : (x y b c : ℕ) → (x ≡ y → ⊥) → value_of (x ∷ y ∷ []) (b ∷ c ∷ []) ≡ value_of (y ∷ x ∷ []) (c ∷ b ∷ [])
unfolding value_of position least at
value_2 x y b c h = fun_ext (λ n. swap_2 b c (eqb x n) (eqb y n) (never x y n h))

value_first : (x y z a b c : ℕ) → (x ≡ y → ⊥) → value_of (x ∷ y ∷ z ∷ []) (a ∷ b ∷ c ∷ []) ≡ value_of (y ∷ x ∷ z ∷ []) (b ∷ a ∷ c ∷ [])
unfolding value_of position least at
value_first x y z a b c h = fun_ext (λ n. swap_first a b c (eqb x n) (eqb y n) (eqb z n) (never x y n h))

value_last : (x y z a b c : ℕ) → (y ≡ z → ⊥) → value_of (x ∷ y ∷ z ∷ []) (a ∷ b ∷ c ∷ []) ≡ value_of (x ∷ z ∷ y ∷ []) (a ∷ c ∷ b ∷ [])
unfolding value_of position least at
value_last x y z a b c h = fun_ext (λ n. swap_last a b c (eqb x n) (eqb y n) (eqb z n) (never y z n h))

-- ---- the table of a test, with two names exchanged
-- the values before the last, of two names and of three
meant_2 : (Q : (ℕ → ℕ) → Bool) (x y base : ℕ) (s : List ℕ) → ((b : ℕ) → b < 16 → at s (base + b) ≡ mask_of (λ v. Q (value_of (x ∷ y ∷ []) (b ∷ v ∷ [])))) → Meant Q (x ∷ y ∷ []) base s
unfolding at
meant_2 Q x y base s h [] e l = absurd (omega arith)
meant_2 Q x y base s h (b ∷ []) e l = h b (l 0 (omega arith))
meant_2 Q x y base s h (b ∷ c ∷ vs) e l = absurd (omega arith)

meant_3 : (Q : (ℕ → ℕ) → Bool) (x y z base : ℕ) (s : List ℕ) → ((a b : ℕ) → a < 16 → b < 16 → at s (base + (16 * a + b)) ≡ mask_of (λ v. Q (value_of (x ∷ y ∷ z ∷ []) (a ∷ b ∷ v ∷ [])))) → Meant Q
    (x ∷ y ∷ z ∷ []) base s
unfolding at
meant_3 Q x y z base s h [] e l = absurd (omega arith)
meant_3 Q x y z base s h (a ∷ []) e l = absurd (omega arith)
meant_3 Q x y z base s h (a ∷ b ∷ []) e l = h a b (l 0 (omega arith)) (l 1 (omega arith))
meant_3 Q x y z base s h (a ∷ b ∷ c ∷ vs) e l = absurd (omega arith)

pub transposed_2 : (Q : (ℕ → ℕ) → Bool) (x y base : ℕ) (old new : List ℕ) → (x ≡ y → ⊥) → Transposed base 16 old new → Meant Q (x ∷ y ∷ []) base old → Meant Q (y ∷ x ∷ []) base new
transposed_2 Q x y base old new h t m = meant_2 Q y x base new (λ c l.
    let e : c / 16 ≡ 0 = omega arith in
    let f : c % 16 ≡ c = omega arith in
    t.here c l ∙ mask_same (λ v. has (at old (base + (16 * (c / 16) + v))) (c % 16)) (λ v. Q (value_of (y ∷ x ∷ []) (c ∷ v ∷ []))) (λ v k.
    let g : base + (16 * (c / 16) + v) ≡ base + v = omega arith in
    ap (λ (n : ℕ). has (at old n) (c % 16)) g ∙ ap (has (at old (base + v))) f ∙ ap (λ (n : ℕ). has n c) (m (v ∷ []) refl (at_small_1 v k))
    ∙ has_mask 16 (λ w. Q (value_of (x ∷ y ∷ []) (v ∷ w ∷ []))) c l ∙ ap Q (value_2 x y v c h)))

pub swapped_3 : (Q : (ℕ → ℕ) → Bool) (x y z base : ℕ) (old new : List ℕ) → (x ≡ y → ⊥) → Swapped base old new → Meant Q (x ∷ y ∷ z ∷ []) base old → Meant Q (y ∷ x ∷ z ∷ []) base new
swapped_3 Q x y z base old new h t m = meant_3 Q y x z base new (λ b a l k.
    let j : 16 * b + a < 256 = omega arith in
    let g : base + (16 * ((16 * b + a) % 16) + (16 * b + a) / 16) ≡ base + (16 * a + b) = omega arith in
    t.here (16 * b + a) j ∙ ap (at old) g ∙ m (a ∷ b ∷ []) refl (at_small_2 a b k l) ∙ ap mask_of (fun_ext (λ v. ap Q (value_first x y z a b v h))))

pub transposed_3 : (Q : (ℕ → ℕ) → Bool) (x y z base : ℕ) (old new : List ℕ) → (y ≡ z → ⊥) → Transposed base 256 old new → Meant Q (x ∷ y ∷ z ∷ []) base old → Meant Q (x ∷ z ∷ y ∷ []) base new
transposed_3 Q x y z base old new h t m = meant_3 Q x z y base new (λ a c k l.
    let j : 16 * a + c < 256 = omega arith in
    let f : (16 * a + c) % 16 ≡ c = omega arith in
    t.here (16 * a + c) j ∙ mask_same (λ v. has (at old (base + (16 * ((16 * a + c) / 16) + v))) ((16 * a + c) % 16)) (λ v. Q (value_of (x ∷ z ∷ y ∷ []) (a ∷ c ∷ v ∷ []))) (λ v i.
    let g : base + (16 * ((16 * a + c) / 16) + v) ≡ base + (16 * a + v) = omega arith in
    ap (λ (n : ℕ). has (at old n) ((16 * a + c) % 16)) g ∙ ap (has (at old (base + (16 * a + v)))) f ∙ ap (λ (n : ℕ). has n c) (m (a ∷ v ∷ []) refl (at_small_2 a v k i))
    ∙ has_mask 16 (λ w. Q (value_of (x ∷ y ∷ z ∷ []) (a ∷ v ∷ w ∷ []))) c l ∙ ap Q (value_last x y z a v c h)))

-- ---- the rest of the supports
pub framed_of : (base m : ℕ) (P : ℕ → ℕ → Type 0) (old new : List ℕ) → m ≤ 256 → Filled (λ j. base + j) P m old new → Framed base old new
framed_of base m P old new h f = record { low = λ j l. f.other j (λ v k e. omega arith); high = λ j l. f.other j (λ v k e. omega arith); size = f.size }

pub framed_none : (base : ℕ) (s : List ℕ) → Framed base s s
framed_none base s = record { low = λ j l. refl; high = λ j l. refl; size = refl }

pub framed_both : (base : ℕ) (old mid new : List ℕ) → Framed base old mid → Framed base mid new → Framed base old new
framed_both base old mid new a b = record { low = λ j l. b.low j l ∙ a.low j l; high = λ j l. b.high j l ∙ a.high j l; size = b.size ∙ a.size }
