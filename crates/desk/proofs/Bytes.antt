-- Parts of a buffer, numbers read back, and lists of bytes. Assumes nothing.
use Rattle.model.specs.Kit.{◌≡◌, refl, sym, ap, ap₂, ◌∙◌, subst, Bool, true, false, ◌⊎◌, inl, inr, List, [], ◌∷◌, ◌++◌, ℕ, zero, suc, ◌+◌, ◌-◌, ◌*◌, ◌/◌, ◌%◌, ◌^◌, ◌≤◌, ◌<◌, arith, length, take, drop}
use Rattle.model.specs.Kit.{set, replicate, length-take, length-drop, ltb, get_or-drop, length-take-le, ltb-true, ltb-false}
use Rattle.model.specs.{Lists.at, Sheet.«word», Bytes.two_bytes, Bytes.four_bytes, Written.placed}
use Rattle.model.proofs.{Lists.at_take, Lists.at_ext, Written.length_placed, Written.placed_before, Written.placed_in, Written.placed_after}
use Rattle.desk.specs.Inner.Layout.{long}

-- a part with the same bytes
pub part_is : (c d : List ℕ) (from at-d n : ℕ) → from + n ≤ length c → at-d + n ≤ length d → ((i : ℕ) → i < n → at c (from + i) ≡ at d (at-d + i)) → take n (drop from c) ≡ take n (drop at-d d)
unfolding at
part_is c d from at-d n g h same = at_ext (take n (drop from c)) (take n (drop at-d d)) lengths each
  where
    lengths : length (take n (drop from c)) ≡ length (take n (drop at-d d))
    lengths = length-take-le n (drop from c) (let e = length-drop from c in omega arith) ∙ sym (length-take-le n (drop at-d d) (let e = length-drop at-d d in omega arith))

    each : (i : ℕ) → i < length (take n (drop from c)) → at (take n (drop from c)) i ≡ at (take n (drop at-d d)) i
    each i l =
        let k : i < n = omega (arith, length-take n (drop from c)) in
        at_take n (drop from c) i k ∙ get_or-drop from c i 0 ∙ same i k ∙ sym (at_take n (drop at-d d) i k ∙ get_or-drop at-d d i 0)

-- numbers
pub word_of : (b : List ℕ) (o k : ℕ) → at b o ≡ k % 256 → at b (o + 1) ≡ k / 256 → «word» b o ≡ k
unfolding «word»
word_of b o k e f = ap₂ (λ (x y : ℕ). x + 256 * y) e f ∙ (let z : k % 256 + 256 * (k / 256) ≡ k = omega arith in z)

pub long_of : (b : List ℕ) (o k : ℕ) → at b o ≡ k % 256 → at b (o + 1) ≡ k / 256 % 256 → at b (o + 2) ≡ k / 65536 % 256 → at b (o + 2 + 1) ≡ k / 16777216 → long b o ≡ k
unfolding long «word»
long_of b o k e f g h =
    ap₂ (λ (x y : ℕ). x + 65536 * y) (ap₂ (λ (x y : ℕ). x + 256 * y) e f) (ap₂ (λ (x y : ℕ). x + 256 * y) g h)
    ∙ (let z : k % 256 + 256 * (k / 256 % 256) + 65536 * (k / 65536 % 256 + 256 * (k / 16777216)) ≡ k = omega arith in z)

-- ---- lists of bytes
abbrev pub Small : List ℕ → Type 0
Small l = (i : ℕ) → at l i < 256

pub small_nil : Small []
unfolding at
small_nil i = omega arith

pub small_cons : (x : ℕ) (l : List ℕ) → x < 256 → Small l → Small (x ∷ l)
unfolding at
small_cons x l h s zero = h
small_cons x l h s (suc i) = s i

pub small_append : (xs ys : List ℕ) → Small xs → Small ys → Small (xs ++ ys)
unfolding at
small_append [] ys s u i = u i
small_append (x ∷ xs) ys s u zero = s 0
small_append (x ∷ xs) ys s u (suc i) = small_append xs ys (λ j. s (suc j)) u i

pub small_replicate : (n : ℕ) → Small (replicate n 0)
unfolding at
small_replicate zero i = omega arith
small_replicate (suc n) zero = omega arith
small_replicate (suc n) (suc i) = small_replicate n i

pub small_take : (n : ℕ) (l : List ℕ) → Small l → Small (take n l)
unfolding at
small_take zero l s i = omega arith
small_take (suc n) [] s i = omega arith
small_take (suc n) (x ∷ l) s zero = s 0
small_take (suc n) (x ∷ l) s (suc i) = small_take n l (λ j. s (suc j)) i

pub small_drop : (n : ℕ) (l : List ℕ) → Small l → Small (drop n l)
unfolding at
small_drop n l s i = subst (λ (x : ℕ). x < 256) (sym (get_or-drop n l i 0)) (s (n + i))

pub small_placed : (b : List ℕ) (p : ℕ) (t : List ℕ) → Small b → Small t → Small (placed b p t)
unfolding placed
small_placed b p t s u = small_append (take p b ++ t) (drop (p + length t) b) (small_append (take p b) t (small_take p b s) u) (small_drop (p + length t) b s)

pub small_set : (l : List ℕ) (k v : ℕ) → v < 256 → Small l → Small (set l k v)
unfolding at
small_set [] k v h s i = s i
small_set (x ∷ l) zero v h s zero = h
small_set (x ∷ l) zero v h s (suc i) = s (suc i)
small_set (x ∷ l) (suc k) v h s zero = s 0
small_set (x ∷ l) (suc k) v h s (suc i) = small_set l k v h (λ j. s (suc j)) i

pub small_four : (k : ℕ) → k < 2 ^ 32 → Small (four_bytes k)
unfolding four_bytes
small_four k h =
    small_cons (k % 256) (k / 256 % 256 ∷ k / 65536 % 256 ∷ k / 16777216 ∷ []) (omega arith)
    (small_cons (k / 256 % 256) (k / 65536 % 256 ∷ k / 16777216 ∷ []) (omega arith) (small_cons (k / 65536 % 256) (k / 16777216 ∷ []) (omega arith)
    (small_cons (k / 16777216) [] (omega arith) small_nil)))

pub small_two : (k : ℕ) → k < 65536 → Small (two_bytes k)
small_two k h = small_cons (k % 256) (k / 256 ∷ []) (omega arith) (small_cons (k / 256) [] (omega arith) small_nil)

-- ---- two texts put apart, in either order
pub placed_apart : (b : List ℕ) (i j : ℕ) (t u : List ℕ) → i + length t ≤ j → j + length u ≤ length b → placed (placed b j u) i t ≡ placed (placed b i t) j u
placed_apart b i j t u h l = at_ext (placed (placed b j u) i t) (placed (placed b i t) j u) (len₁ ∙ sym len₂)
    (λ x m. each x (ltb x i) refl (ltb x (i + length t)) refl (ltb x j) refl (ltb x (j + length u)) refl)
  where
    fit₁ : i + length t ≤ length b
    fit₁ = omega arith

    len_t : length (placed b i t) ≡ length b
    len_t = length_placed b i t fit₁

    len_u : length (placed b j u) ≡ length b
    len_u = length_placed b j u l

    fit_t : i + length t ≤ length (placed b j u)
    fit_t = let e = len_u in omega arith

    fit_u : j + length u ≤ length (placed b i t)
    fit_u = let e = len_t in omega arith

    len₁ : length (placed (placed b j u) i t) ≡ length b
    len₁ = length_placed (placed b j u) i t fit_t ∙ len_u

    len₂ : length (placed (placed b i t) j u) ≡ length b
    len₂ = length_placed (placed b i t) j u fit_u ∙ len_t

    -- outside the first text, and outside the second
    out_t : (c : List ℕ) → i + length t ≤ length c → (x : ℕ) → (x < i) ⊎ (i + length t ≤ x) → at (placed c i t) x ≡ at c x
    out_t c f x (inl m) = placed_before c i t f x m
    out_t c f x (inr m) = placed_after c i t f x m

    out_u : (c : List ℕ) → j + length u ≤ length c → (x : ℕ) → (x < j) ⊎ (j + length u ≤ x) → at (placed c j u) x ≡ at c x
    out_u c f x (inl m) = placed_before c j u f x m
    out_u c f x (inr m) = placed_after c j u f x m

    neither : (x : ℕ) → (x < i) ⊎ (i + length t ≤ x) → (x < j) ⊎ (j + length u ≤ x) → at (placed (placed b j u) i t) x ≡ at (placed (placed b i t) j u) x
    neither x m n = out_t (placed b j u) fit_t x m ∙ out_u b l x n ∙ sym (out_u (placed b i t) fit_u x n ∙ out_t b fit₁ x m)

    in_first : (x y : ℕ) → i + y ≡ x → y < length t → x < j → at (placed (placed b j u) i t) x ≡ at (placed (placed b i t) j u) x
    in_first x y e m n =
        ap (at (placed (placed b j u) i t)) (sym e) ∙ placed_in (placed b j u) i t fit_t y m
        ∙ sym (placed_before (placed b i t) j u fit_u x n ∙ ap (at (placed b i t)) (sym e) ∙ placed_in b i t fit₁ y m)

    in_second : (x y : ℕ) → j + y ≡ x → y < length u → i + length t ≤ x → at (placed (placed b j u) i t) x ≡ at (placed (placed b i t) j u) x
    in_second x y e m n =
        placed_after (placed b j u) i t fit_t x n ∙ ap (at (placed b j u)) (sym e) ∙ placed_in b j u l y m
        ∙ sym (ap (at (placed (placed b i t) j u)) (sym e) ∙ placed_in (placed b i t) j u fit_u y m)

    each : (x : ℕ) (p : Bool) → ltb x i ≡ p → (q : Bool) → ltb x (i + length t) ≡ q → (r : Bool) → ltb x j ≡ r → (s : Bool) → ltb x (j + length u) ≡ s → at (placed (placed b j u) i t) x ≡ at
        (placed (placed b i t) j u) x
    each x true e q f r g s k = let m = ltb-true x i e in neither x (inl m) (inl (omega arith))
    each x false e true f r g s k = let m = ltb-false x i e in let n = ltb-true x (i + length t) f in in_first x (x - i) (omega arith) (omega arith) (omega arith)
    each x false e false f true g s k = neither x (inr (ltb-false x (i + length t) f)) (inl (ltb-true x j g))
    each x false e false f false g true k = let m = ltb-false x j g in let n = ltb-true x (j + length u) k in in_second x (x - j) (omega arith) (omega arith) (ltb-false x (i + length t) f)
    each x false e false f false g false k = neither x (inr (ltb-false x (i + length t) f)) (inr (ltb-false x (j + length u) k))
