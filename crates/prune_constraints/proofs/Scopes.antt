-- What the arrays of a problem say of one of its constraints: its scope and its table. Assumes nothing.
use Rattle.model.specs.Kit.{◌≡◌, refl, sym, ap, ◌∙◌, subst, List, [], ◌∷◌, Memᴰ, Memᴰ-head, Memᴰ-tail, ℕ, ◌+◌, ◌<◌, arith, T, length}
use Rattle.model.specs.{Lists.at, Lists.ascending, Problem.Problem, Problem.constraint_at}
use Rattle.model.proofs.Lists.{list_1, list_2, list_3}
use Rattle.arrays.specs.{Inner.Places.SCOPES, Inner.Layout.arity_in, Inner.Layout.variable_in}
use Rattle.arrays.proofs.Links.{good}
use Rattle.prune_constraints.specs.Inner.Steps.{ConstraintsHeld, Scoped}

-- what holds of each variable of a scope of three
pub of_three : {P : ℕ → Type 0} {scope : List ℕ} {x y z : ℕ} → scope ≡ x ∷ y ∷ z ∷ [] → ((i : ℕ) → Memᴰ i scope → P i) → P x × P y × P z
of_three {scope = scope} {x} {y} {z} e f = (f _ (here (Memᴰ-head refl)), f _ (here (Memᴰ-tail (Memᴰ-head refl))), f _ (here (Memᴰ-tail (Memᴰ-tail (Memᴰ-head refl)))))
  where
    here : {i : ℕ} → Memᴰ i (x ∷ y ∷ z ∷ []) → Memᴰ i scope
    here {i} m = subst (λ (l : List ℕ). Memᴰ i l) (sym e) m

module _ {p : Problem} {numbers supports : List ℕ} (g : ConstraintsHeld p numbers supports) (k : ℕ) (h : k < length p.constraints) where
  -- the scope as the code reads it
  abbrev word : ℕ
  word = at numbers (SCOPES + k)

  scoped : (scope : List ℕ) → (constraint_at p k).scope ≡ scope → Scoped (constraint_at p k) supports k scope
  scoped scope e = record {
    is = e;
    inside = λ x m. let i = (good g.well_formed k h).inside x (subst (λ (z : List ℕ). Memᴰ x z) (sym e) m) in omega (arith, g.well_formed.few);
    ordered = subst (λ (z : List ℕ). T (ascending z)) e (good g.well_formed k h).ordered;
    room = omega (arith, g.well_formed.most);
    table = λ vs l b. g.tabled k h vs (l ∙ ap length (sym e)) b;
  }

  -- x, y and z are what is read of it
  module _ (x : ℕ) (ex : x ≡ variable_in word 0) where
    pub read_1 : (arity_in word ≡ 3 → ⊥) → (arity_in word ≡ 2 → ⊥) → Scoped (constraint_at p k) supports k (x ∷ [])
    read_1 a b =
        let e = g.numbered.arity k h in
        let l : length (constraint_at p k).scope ≡ 1 = omega (arith, (good g.well_formed k h).some, (good g.well_formed k h).few) in
        scoped _ (list_1 (constraint_at p k).scope x l (sym (g.numbered.scope k 0 h (omega (arith, l))) ∙ sym ex))

    module _ (y : ℕ) (ey : y ≡ variable_in word 1) where
      pub read_2 : arity_in word ≡ 2 → Scoped (constraint_at p k) supports k (x ∷ y ∷ [])
      read_2 e =
          let l = sym (g.numbered.arity k h) ∙ e in
          scoped _ (list_2 (constraint_at p k).scope x y l (sym (g.numbered.scope k 0 h (omega (arith, l))) ∙ sym ex) (sym (g.numbered.scope k 1 h (omega (arith, l))) ∙ sym ey))

      pub read_3 : (z : ℕ) → z ≡ variable_in word 2 → arity_in word ≡ 3 → Scoped (constraint_at p k) supports k (x ∷ y ∷ z ∷ [])
      read_3 z ez e =
          let l = sym (g.numbered.arity k h) ∙ e in
          scoped _ (list_3 (constraint_at p k).scope x y z l (sym (g.numbered.scope k 0 h (omega (arith, l))) ∙ sym ex) (sym (g.numbered.scope k 1 h (omega (arith, l))) ∙ sym ey)
          (sym (g.numbered.scope k 2 h (omega (arith, l))) ∙ sym ez))
