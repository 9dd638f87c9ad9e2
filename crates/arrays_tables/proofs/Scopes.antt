-- The scope of a constraint on two variables, as the numbers hold it. Assumes nothing.
use Rattle.model.specs.Kit.{◌≡◌, refl, sym, ap, ◌∙◌, subst, Bool, true, false, List, [], ◌∷◌, ℕ, ◌+◌, ◌*◌, ◌/◌, ◌%◌, ◌<◌, arith, T, eqb, length, eq-eqb, ne_eqb}
use Rattle.std.specs.Bool.{MatchBool}
use Rattle.std.specs.List.{between, AllWithin, HoldsAt}
use Rattle.model.specs.{Lists.at, Lists.same, Lists.both, Problem.Problem, Problem.constraint_at}
use Rattle.model.proofs.{Lists.of_T, Lists.of_not, Lists.not_of, Lists.same_eq, Lists.same_refl, Lists.list_2, Masks.least_at, Masks.least_below}
use Rattle.arrays.specs.{Inner.Places.SCOPES, Inner.Layout.Numbers, Inner.Tables.link_of, Inner.Tables.is_by_rows}
use Rattle.arrays.proofs.{Copies.copied_at, Links.by_rows_link}

-- ---- as the numbers hold it
first_byte : (n : ℕ) → n / 256 % 256 ≡ n % 16777216 / 256 % 256
first_byte n = omega arith

second_byte : (n : ℕ) → n / 65536 % 256 ≡ n % 16777216 / 65536
second_byte n = omega arith

byte_1 : (m n : ℕ) → m % 16777216 ≡ n % 16777216 → m / 256 % 256 ≡ n / 256 % 256
byte_1 m n e = first_byte m ∙ ap (λ (z : ℕ). z / 256 % 256) e ∙ sym (first_byte n)

byte_2 : (m n : ℕ) → m % 16777216 ≡ n % 16777216 → m / 65536 % 256 ≡ n / 65536 % 256
byte_2 m n e = second_byte m ∙ ap (λ (z : ℕ). z / 65536) e ∙ sym (second_byte n)

module _ (p : Problem) (numbers : List ℕ) (nb : Numbers p numbers) where
  -- arity and scope in the first three bytes
  pub key_two : (k : ℕ) → k < length p.constraints → length (constraint_at p k).scope ≡ 2 →
      (at numbers (SCOPES + k) % 16777216 ≡ 2 + 256 * at (constraint_at p k).scope 0 + 65536 * at (constraint_at p k).scope 1) × (at (constraint_at p k).scope 0 < 256) ×
      (at (constraint_at p k).scope 1 < 256)
  key_two k h e =
      let a : at numbers (SCOPES + k) % 256 ≡ 2 = nb.arity k h ∙ e in
      let b : at numbers (SCOPES + k) / 256 % 256 ≡ at (constraint_at p k).scope 0 = nb.scope k 0 h (omega arith) in
      let c : at numbers (SCOPES + k) / 65536 % 256 ≡ at (constraint_at p k).scope 1 = nb.scope k 1 h (omega arith) in
      (omega arith, omega arith, omega arith)

  pub arity_two : (k : ℕ) → k < length p.constraints → at numbers (SCOPES + k) % 16777216 % 256 ≡ 2 → length (constraint_at p k).scope ≡ 2
  arity_two k h e = omega (arith, nb.arity k h)

  module _ (k : ℕ) (h : k < length p.constraints) where
    pub first_other : (at numbers (SCOPES + k) % 16777216 % 256 ≡ 2 → ⊥) → false ≡ is_by_rows p k
    unfolding is_by_rows
    first_other n = sym (ap (λ (b : Bool). both b (eqb (link_of p (at (constraint_at p k).scope 0) (at (constraint_at p k).scope 1)) k))
        (ne_eqb (length (constraint_at p k).scope) 2 (λ (e : length (constraint_at p k).scope ≡ 2). n (let a : at numbers (SCOPES + k) % 256 ≡ 2 = nb.arity k h ∙ e in omega arith))))

    module _ (e : at numbers (SCOPES + k) % 16777216 % 256 ≡ 2) where
      scope : (constraint_at p k).scope ≡ at (constraint_at p k).scope 0 ∷ at (constraint_at p k).scope 1 ∷ []
      scope = list_2 (constraint_at p k).scope _ _ (arity_two k h e) refl refl

      -- a constraint with the same number has the same scope, and the other way round
      same_scope : (i : ℕ) → i < length p.constraints → at numbers (SCOPES + i) % 16777216 ≡ at numbers (SCOPES + k) % 16777216 → (constraint_at p i).scope ≡ at (constraint_at p k).scope 0 ∷ at
          (constraint_at p k).scope 1 ∷ []
      same_scope i l q =
          let d : length (constraint_at p i).scope ≡ 2 = arity_two i l (ap (λ (n : ℕ). n % 256) q ∙ e) in
          let c : length (constraint_at p k).scope ≡ 2 = arity_two k h e in
          let u : at (constraint_at p i).scope 0 ≡ at (constraint_at p k).scope 0 = sym (nb.scope i 0 l (omega arith)) ∙ byte_1 (at numbers (SCOPES + i)) (at numbers (SCOPES + k)) q
          ∙ nb.scope k 0 h (omega arith) in
          let v : at (constraint_at p i).scope 1 ≡ at (constraint_at p k).scope 1 = sym (nb.scope i 1 l (omega arith)) ∙ byte_2 (at numbers (SCOPES + i)) (at numbers (SCOPES + k)) q
          ∙ nb.scope k 1 h (omega arith) in
          list_2 (constraint_at p i).scope _ _ d u v

      same_number : (i : ℕ) → i < length p.constraints → (constraint_at p i).scope ≡ at (constraint_at p k).scope 0 ∷ at (constraint_at p k).scope 1 ∷ [] → at numbers
          (SCOPES + i) % 16777216 ≡ at numbers (SCOPES + k) % 16777216
      unfolding at
      same_number i l q =
          let d : length (constraint_at p i).scope ≡ 2 = ap length q in
          (key_two i l d).0 ∙ ap (λ (s : List ℕ). 2 + 256 * at s 0 + 65536 * at s 1) q ∙ sym (key_two k h (arity_two k h e)).0

      pub first_no : (i : ℕ) → i < k → at numbers (SCOPES + i) % 16777216 ≡ at numbers (SCOPES + k) % 16777216 → false ≡ is_by_rows p k
      unfolding link_of
      first_no i l q = sym (by_rows_link p k _ _ scope ∙ ne_eqb _ k (λ z. of_not _ (least_below (length p.constraints)
          (λ j. same (constraint_at p j).scope (at (constraint_at p k).scope 0 ∷ at (constraint_at p k).scope 1 ∷ [])) i (omega arith))
          (subst (λ (s : List ℕ). T (same (constraint_at p i).scope s)) (same_scope i (omega arith) q) (same_refl (constraint_at p i).scope))))

      pub first_yes : ((i : ℕ) → i < k → at numbers (SCOPES + i) % 16777216 ≡ at numbers (SCOPES + k) % 16777216 → ⊥) → true ≡ is_by_rows p k
      unfolding link_of
      first_yes n = sym (by_rows_link p k _ _ scope ∙ eq-eqb _ k (least_at (length p.constraints)
          (λ j. same (constraint_at p j).scope (at (constraint_at p k).scope 0 ∷ at (constraint_at p k).scope 1 ∷ [])) k h
          (λ j l. not_of _ (λ t. n j l (same_number j (omega arith) (same_eq _ _ t))))
          (of_T _ (subst (λ (s : List ℕ). T (same (constraint_at p k).scope s)) scope (same_refl (constraint_at p k).scope)))))

      -- the code's search of the numbers before
      pub first_search : (part : List ℕ) (r : Bool) → part ≡ between SCOPES (SCOPES + k) numbers → length part ≡ k →
          MatchBool r (AllWithin (λ n. n % 16777216 ≡ at numbers (SCOPES + k) % 16777216 → ⊥) part 0 (length part))
          ((i : ℕ) × (i < length part) × HoldsAt (λ n. n % 16777216 ≡ at numbers (SCOPES + k) % 16777216) part i) → r ≡ is_by_rows p k
      unfolding at
      first_search part true q n f = first_yes (λ i l z. f i 0 (omega arith) (omega arith) (ap (λ (m : ℕ). m % 16777216) (copied_at numbers part SCOPES k i q l) ∙ z))
      first_search part false q n f =
          let l : f.0 < k = omega (arith, f.1) in
          first_no f.0 l (ap (λ (m : ℕ). m % 16777216) (sym (copied_at numbers part SCOPES k f.0 q l)) ∙ f.2 0)
