-- Laws of the test of any over what a function gives in turn. Assumes nothing.
use Rattle.model.specs.Kit.{◌≡◌, refl, sym, ap, ap₂, ◌∙◌, Bool, true, false, List, [], ◌∷◌, ◌++◌, map, Memᴰ, Memᴰ-head, Memᴰ-tail, ℕ, zero, suc, ◌+◌, ◌<◌, arith, add-one, get_or}
use Rattle.model.specs.Lists.{either, any, below, up_from}
use Rattle.model.proofs.{Lists.any_cons, Lists.up_from_add, Lists.map_append, Lists.below_e, Members.either_no}

pub either_assoc : (a b c : Bool) → either (either a b) c ≡ either a (either b c)
either_assoc true b c = refl
either_assoc false b c = refl

module _ {A : Type 0} where
  any_append : (p : A → Bool) (l m : List A) → any p (l ++ m) ≡ either (any p l) (any p m)
  unfolding any
  any_append p [] m = refl
  any_append p (x ∷ l) m =
      any_cons p x (l ++ m) ∙ ap (either (p x)) (any_append p l m) ∙ sym (either_assoc (p x) (any p l) (any p m))
      ∙ ap (λ (t : Bool). either t (any p m)) (sym (any_cons p x l))

  -- one more
  pub any_more : (p : A → Bool) (f : ℕ → A) (k : ℕ) → any p (map f (below (suc k))) ≡ either (any p (map f (below k))) (p (f k))
  unfolding below up_from any
  any_more p f k =
      ap (λ (n : ℕ). any p (map f (up_from 0 n))) (sym (add-one k))
      ∙ ap (λ (l : List ℕ). any p (map f l)) (up_from_add 0 k 1)
      ∙ ap (any p) (map_append f (up_from 0 k) (up_from (0 + k) 1))
      ∙ any_append p (map f (up_from 0 k)) (f (0 + k) ∷ [])
      ∙ ap (either (any p (map f (up_from 0 k)))) (any_cons p (f (0 + k)) [] ∙ either_no (p (f (0 + k))) ∙ ap (λ (n : ℕ). p (f n)) (let e : 0 + k ≡ k = omega arith in e))

  pub any_none : (p : A → Bool) (f : ℕ → A) → any p (map f (below 0)) ≡ false
  unfolding below up_from any
  any_none p f = refl

  any_ext : (p q : A → Bool) (l : List A) → ((x : A) → Memᴰ x l → p x ≡ q x) → any p l ≡ any q l
  unfolding any
  any_ext p q [] h = refl
  any_ext p q (x ∷ l) h = any_cons p x l ∙ ap₂ either (h x (Memᴰ-head refl)) (any_ext p q l (λ y m. h y (Memᴰ-tail m))) ∙ sym (any_cons q x l)

any_map : {A B : Type 0} (p : B → Bool) (f : A → B) (l : List A) → any p (map f l) ≡ any (λ x. p (f x)) l
unfolding any
any_map p f [] = refl
any_map p f (x ∷ l) = any_cons p (f x) (map f l) ∙ ap (either (p (f x))) (any_map p f l) ∙ sym (any_cons (λ y. p (f y)) x l)

-- two tests that agree below k
pub any_same : {A B : Type 0} (p : A → Bool) (q : B → Bool) (f : ℕ → A) (g : ℕ → B) (k : ℕ) → ((j : ℕ) → j < k → p (f j) ≡ q (g j)) → any p (map f (below k)) ≡ any q (map g (below k))
any_same p q f g k h = any_map p f (below k) ∙ any_ext (λ j. p (f j)) (λ j. q (g j)) (below k) (λ j m. h j (below_e k j m)) ∙ sym (any_map q g (below k))

pub get_d_below : {A : Type 0} (f : ℕ → A) (k e : ℕ) (x : A) → e < k → get_or (map f (below k)) e x ≡ f e
unfolding below up_from
get_d_below {A} f k e x l = from 0 k e l ∙ ap f (let z : 0 + e ≡ e = omega arith in z)
  where
    from : (a k e : ℕ) → e < k → get_or (map f (up_from a k)) e x ≡ f (a + e)
    from a zero e l = absurd (omega arith)
    from a (suc k) zero l = ap f (let z : a ≡ a + 0 = omega arith in z)
    from a (suc k) (suc e) l = from (suc a) k e (omega arith) ∙ ap f (let z : suc a + e ≡ a + suc e = omega arith in z)
