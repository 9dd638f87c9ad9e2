-- The constraints that can refuse three pairs, asked one after another. Assumes nothing.
use Rattle.model.specs.Kit.{◌≡◌, refl, sym, ap, ◌∙◌, subst, Bool, true, false, List, [], ◌∷◌, Memᴰ-head, Memᴰ-tail, inl, inr, ⊎_elim, ℕ, ◌-◌, ◌/◌, ◌^◌, ◌≤◌, ◌<◌, lt_of_le_of_lt}
use Rattle.model.specs.Kit.{lt_of_lt_of_le, arith, T, eqb, eqb_refl, length, bit_and, bit_or, and_le_l, count_trailing_zeros}
use Rattle.model.specs.{Lists.any, Lists.at, ValueSets.has, Problem.Problem, Problem.constraint_at}
use lib.Pow.{pow_mono}
use Rattle.model.proofs.{Lists.T_of, Lists.of_T, Lists.not_of, Lists.of_not, Lists.all_i, Lists.any_i, Sets.has_lt, Sets.has_none, Members.low_has, Members.rest_i}
use Rattle.sheet_table.specs.Inner.Forbidden.{blocked, number_of, clashes, value_in, refused_by, Refusing, Triple, Pending}
use Rattle.sheet_table.proofs.Codes.{variable_lt}
use Rattle.sheet_carried.proofs.{Blocks.clash_blocked, Scopes.all_has, Triples.OneGives, Triples.found, Triples.refused_all, Triples.refused_blocked, Triples.blocked_refused}

module _ (p : Problem) (numbers supports : List ℕ) (a b e : ℕ) (t : Triple p numbers supports a b e) where
  -- ---- two of the pairs clash
  pub first_clash : clashes a b ≡ true → true ≡ blocked p (number_of p a ∷ number_of p b ∷ number_of p e ∷ [])
  first_clash h = sym (of_T _ (clash_blocked p t.ready.framed.stated a b _ t.first t.second (T_of (clashes a b) h) (Memᴰ-head refl) (Memᴰ-tail (Memᴰ-head refl))))

  pub second_clash : clashes a e ≡ true → true ≡ blocked p (number_of p a ∷ number_of p b ∷ number_of p e ∷ [])
  second_clash h = sym (of_T _ (clash_blocked p t.ready.framed.stated a e _ t.first t.third (T_of (clashes a e) h) (Memᴰ-head refl)
      (Memᴰ-tail (Memᴰ-tail (Memᴰ-head refl)))))

  pub third_clash : clashes b e ≡ true → true ≡ blocked p (number_of p a ∷ number_of p b ∷ number_of p e ∷ [])
  third_clash h = sym (of_T _ (clash_blocked p t.ready.framed.stated b e _ t.second t.third (T_of (clashes b e) h) (Memᴰ-tail (Memᴰ-head refl))
      (Memᴰ-tail (Memᴰ-tail (Memᴰ-head refl)))))

  pub variables_small : (a / 16 < 16) × (b / 16 < 16) × (e / 16 < 16)
  variables_small =
      let w = t.ready.framed.stated in
      (variable_lt p w a t.first, variable_lt p w b t.second, variable_lt p w e t.third)

  -- ---- which constraints are asked
  one_of : (x : ℕ) → OneGives a b e x (value_in a b e x) → T (any (eqb x) (a / 16 ∷ b / 16 ∷ e / 16 ∷ []))
  one_of x (inl g) = any_i (eqb x) _ x (Memᴰ-head (sym g.0)) (eqb_refl x)
  one_of x (inr (inl g)) = any_i (eqb x) _ x (Memᴰ-tail (Memᴰ-head (sym g.0))) (eqb_refl x)
  one_of x (inr (inr g)) = any_i (eqb x) _ x (Memᴰ-tail (Memᴰ-tail (Memᴰ-head (sym g.0)))) (eqb_refl x)

  pub pending_start : (set : ℕ) → set < 2 ^ length p.constraints → Pending p a b e set set
  pending_start set h = record { few = h; whole = λ k l i r. i }

  module _ (set rest : ℕ) (l : Pending p a b e set rest) where
    module _ (n : rest ≡ 0 → ⊥) where
      fits : rest < 2 ^ 64
      fits = lt_of_lt_of_le l.few (pow_mono (let h : length p.constraints ≤ 64 = omega (arith, t.ready.framed.stated.most) in h))

      pub pending_next : count_trailing_zeros 64 rest < length p.constraints
      pending_next = has_lt (length p.constraints) rest _ l.few (low_has 64 rest (omega arith) fits).0

      pub pending_stop : refused_by (constraint_at p (count_trailing_zeros 64 rest)) a b e ≡ true → Refusing p a b e set true
      pending_stop r =
          record {
            yes = λ q. refused_blocked p t.ready.framed.stated a b e t.first t.second t.third (count_trailing_zeros 64 rest) pending_next (T_of _ r);
            no = λ q. absurd (subst T q tt);
          }

      pub pending_rest : refused_by (constraint_at p (count_trailing_zeros 64 rest)) a b e ≡ false → Pending p a b e set (bit_and rest (rest - 1))
      pending_rest r =
          record {
            few = lt_of_le_of_lt (and_le_l rest (rest - 1)) l.few;
            whole = λ k h i s. ⊎_elim (λ q. q) (λ q. absurd (of_not _ r (subst (λ (j : ℕ). T (refused_by (constraint_at p j) a b e)) q s))) (rest_i 64 rest (omega arith) fits k (l.whole k h i s));
          }

    pub pending_none : rest ≡ 0 → Refusing p a b e set false
    pending_none z =
        record {
          yes = λ q. absurd (subst T (sym q) tt);
          no = λ q k h i s. of_not (has rest k) (ap (λ (n : ℕ). has n k) z ∙ has_none k) (l.whole k h i s);
        }

  pub asked_yes : (set : ℕ) (r : Bool) → Refusing p a b e set r → r ≡ true → true ≡ blocked p (number_of p a ∷ number_of p b ∷ number_of p e ∷ [])
  asked_yes set r h q = sym (of_T _ (h.yes q))

  -- all constraints on the variables are asked
  pub asked_all : (set : ℕ) (r : Bool) → set ≡ bit_or (bit_or (at numbers (a / 16)) (at numbers (b / 16))) (at numbers (e / 16)) → Refusing p a b e set r → clashes a b ≡ false → clashes a e ≡ false
      → clashes b e ≡ false →
      r ≡ blocked p (number_of p a ∷ number_of p b ∷ number_of p e ∷ [])
  asked_all set r es h ab ae be = go r refl
    where
      go : (q : Bool) → r ≡ q → r ≡ blocked p (number_of p a ∷ number_of p b ∷ number_of p e ∷ [])
      go true q = q ∙ asked_yes set r h q
      go false q =
          q
          ∙ sym (not_of _ (λ s.
          let w = t.ready.framed.stated in
          let v = variables_small in
          let k = blocked_refused p w a b e t.first t.second t.third ab ae be s in
          h.no q k.0 k.1
          (subst (λ (n : ℕ). T (has n k.0)) (sym es)
          (all_has p numbers t.ready.framed (a / 16) (b / 16) (e / 16) v.0 v.1 v.2 k.0 k.1
          (all_i _ (constraint_at p k.0).scope (λ x m. one_of x (found a b e x (refused_all p w a b e t.first t.second t.third (constraint_at p k.0) k.2 x m))))))
          k.2))
