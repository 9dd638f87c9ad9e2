-- Rows cut from bytes and joined again, and what is answered about lent room. Assumes nothing.
use Rattle.model.specs.Kit.{◌≡◌, refl, sym, ap, ap₂, ◌∙◌, List, [], ◌∷◌, ◌++◌, Memᴰ, Memᴰ-head, Memᴰ-tail, Memᴰ-not_nil, ℕ, zero, suc, ◌+◌, ◌*◌, ◌/◌, ◌≤◌, ◌<◌, suc-mul}
use Rattle.model.specs.Kit.{arith, length, take, drop, length-append, length-drop, take-append-drop, length-take-le}
use Rattle.model.specs.{Lists.flat, Run.listed_plans, Verdict.Verdict, Verdict.accepted, Room.rows_in, Room.wrote, Room.refusal, Room.outcome_of, Room.room_after, Room.numbered}
use native.Mathlib.Nat.{zero-mul, mul-div_cancel, div-eq_of_lt, add-mul-div_right, div-add-mod'}
use lib.Seq.{take_at, drop_at}

-- ---- tests that fail, and that pass
-- ---- rows of one length
abbrev pub Wide : ℕ → List (List ℕ) → Type 0
Wide n rows = (r : List ℕ) → Memᴰ r rows → length r ≡ n

pub wide_tail : {n : ℕ} {r : List ℕ} {rows : List (List ℕ)} → Wide n (r ∷ rows) → Wide n rows
wide_tail w s m = w s (Memᴰ-tail m)

pub length_listed : (n k : ℕ) (b : List ℕ) → length (listed_plans n k b) ≡ k
unfolding listed_plans
length_listed n zero b = refl
length_listed n (suc k) b = ap suc (length_listed n k (drop n b))

pub listed_wide : (n k : ℕ) (b : List ℕ) → k * n ≤ length b → Wide n (listed_plans n k b)
unfolding listed_plans
listed_wide n zero b h r m = absurd (Memᴰ-not_nil m)
listed_wide n (suc k) b h r (Memᴰ-head e) = ap length e ∙ length-take-le n b (omega (arith, suc-mul k n))
listed_wide n (suc k) b h r (Memᴰ-tail m) = listed_wide n k (drop n b) (omega (arith, suc-mul k n, length-drop n b)) r m

pub length_flat : (n : ℕ) (rows : List (List ℕ)) → Wide n rows → length (flat rows) ≡ length rows * n
unfolding flat
length_flat n [] w = sym (zero-mul n)
length_flat n (r ∷ rows) w = omega (arith, length-append r (flat rows), length_flat n rows (wide_tail w), w r (Memᴰ-head refl), suc-mul (length rows) n)

pub cut_flat : (n : ℕ) (rows : List (List ℕ)) → Wide n rows → listed_plans n (length rows) (flat rows) ≡ rows
unfolding listed_plans flat
cut_flat n [] w = refl
cut_flat n (r ∷ rows) w =
    let e : length r ≡ n = w r (Memᴰ-head refl) in
    ap₂ (λ (x : List ℕ) (y : List (List ℕ)). x ∷ y) (take_at r (flat rows) n e) (ap (listed_plans n (length rows)) (drop_at r (flat rows) n e) ∙ cut_flat n rows (wide_tail w))

pub flat_cut : (n k : ℕ) (b : List ℕ) → k * n ≡ length b → flat (listed_plans n k b) ≡ b
unfolding listed_plans flat
flat_cut n zero [] e = refl
flat_cut n zero (x ∷ b) e = absurd (omega (arith, zero-mul n))
flat_cut n (suc k) b e = ap (λ (r : List ℕ). take n b ++ r) (flat_cut n k (drop n b) (omega (arith, suc-mul k n, length-drop n b))) ∙ take-append-drop n b

-- ---- bytes as rows
pub rows_wide : (n : ℕ) (b : List ℕ) → Wide n (rows_in n b)
unfolding rows_in
rows_wide n b = listed_wide n (length b / n) b (omega (arith, div-add-mod' (length b) n))

pub rows_none : (n : ℕ) (b : List ℕ) → 1 ≤ n → length b < n → rows_in n b ≡ []
unfolding rows_in listed_plans
rows_none n b h l = ap (λ (k : ℕ). listed_plans n k b) (div-eq_of_lt l)

pub rows_cons : (n : ℕ) (b : List ℕ) → 1 ≤ n → n ≤ length b → rows_in n b ≡ take n b ∷ rows_in n (drop n b)
unfolding rows_in listed_plans
rows_cons n b h l =
    let e : length b ≡ length (drop n b) + 1 * n = omega (arith, length-drop n b, suc-mul 0 n, zero-mul n) in
    let one : length (drop n b) / n + 1 ≡ suc (length (drop n b) / n) = omega arith in
    ap (λ (k : ℕ). listed_plans n k b) (ap (λ (k : ℕ). k / n) e ∙ add-mul-div_right (length (drop n b)) 1 h ∙ one)

pub rows_back : (n : ℕ) (rows : List (List ℕ)) → 1 ≤ n → Wide n rows → rows_in n (flat rows) ≡ rows
unfolding rows_in
rows_back n rows h w =
    ap (λ (k : ℕ). listed_plans n k (flat rows)) (ap (λ (k : ℕ). k / n) (length_flat n rows w) ∙ mul-div_cancel (length rows) h) ∙ cut_flat n rows w

-- ---- what is answered
pub refused_out : (k : ℕ) (v : Verdict) (t d : List ℕ) → (k ≡ 0 → ⊥) → numbered k ≡ v → (refusal k 0 ≡ outcome_of v t) × (d ≡ room_after v t d)
refused_out zero v t d h e = absurd (h refl)
refused_out (suc k) v t d h e = (ap (λ (w : Verdict). outcome_of w t) e, ap (λ (w : Verdict). room_after w t d) e)

pub none_accepted : (k : ℕ) (v : Verdict) → k ≡ 0 → numbered k ≡ v → v ≡ accepted
none_accepted k v h e = sym e ∙ ap numbered h

pub wrote_out : (v : Verdict) (t d e : List ℕ) (n : ℕ) → v ≡ accepted → e ≡ t ++ drop (length t) d → n ≡ length t → (wrote n ≡ outcome_of v t) × (e ≡ room_after v t d)
wrote_out v t d e n p f g = (ap wrote g ∙ sym (ap (λ (u : Verdict). outcome_of u t) p), f ∙ sym (ap (λ (u : Verdict). room_after u t d) p))
