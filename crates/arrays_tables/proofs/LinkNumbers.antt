-- The numbers of the constraints that are pruned by variable. Assumes nothing.
use Rattle.model.specs.Kit.{◌≡◌, sym, ap, ap₂, ◌∙◌, subst, true, not, List, ℕ, ◌+◌, ◌-◌, ◌^◌, ◌<◌, lt_of_le_of_lt, arith, bit_and, and_le_l, T, eqb, length, set, length-set, ne_eqb}
use Rattle.model.specs.{Lists.any, Lists.at, Lists.both, ValueSets.has, Problem.Problem, Problem.constraint_at, Inner.WellFormed.WellFormed, Inner.Filling.Filled, Inner.Filling.Gathered}
use Rattle.model.proofs.{Lists.T_of, Lists.among_e, Lists.at_set, Lists.at_set_other, Masks.has_and, Masks.has_not, Members.has_0, Members.and_i, Filling.gathered_is, Filling.gathered_lt}
use Rattle.arrays.specs.Inner.Places.{BY_ROWS, LINKED, LOOSE, OTHERS, VARIABLES, NUMBERS}
use Rattle.arrays.specs.{Inner.Layout.Numbers, Inner.Tables.is_by_rows}
use Rattle.arrays.proofs.Links.{good}
use Rattle.arrays_tables.specs.Inner.Steps.{LinkedFirst, LinkNumbers}

-- two sets with a common member meet
meet : (a b k : ℕ) → T (has a k) → T (has b k) → not (eqb (bit_and a b) 0) ≡ true
meet a b k s t = ap not (ne_eqb (bit_and a b) 0 (λ e. has_0 k (subst (λ (n : ℕ). T (has n k)) e (and_i a b k s t))))

-- a variable of a scope is one of the problem's
pub scope_below : (p : Problem) → WellFormed p → (k x : ℕ) → k < length p.constraints → T (any (eqb x) (constraint_at p k).scope) → x < p.variables
scope_below p wf k x h t = (good wf k h).inside x (among_e x (constraint_at p k).scope t)

module _ (old : List ℕ) (m vars : ℕ) (long : length old ≡ NUMBERS) (small : m < 2 ^ 64)
    (gm : (p : Problem) → Numbers p old → Gathered (is_by_rows p) (length p.constraints) m)
    (gv : Gathered (λ x. not (eqb (bit_and (at old x) m) 0)) (at old VARIABLES) vars)
    (new : List ℕ) (r : Filled (λ x. OTHERS + x) (λ x w. w ≡ bit_and (at (set (set old LINKED vars) BY_ROWS m) x) ((2 ^ 64 - 1) - m)) 16 (set (set old LINKED vars) BY_ROWS m) new) where
  low : (j : ℕ) → j < LINKED → at new j ≡ at old j
  low j l = r.other j (λ v k e. omega arith) ∙ at_set_other (set old LINKED vars) BY_ROWS m j (λ e. omega arith) ∙ at_set_other old LINKED vars j (λ e. omega arith)

  at_linked : at new LINKED ≡ vars
  at_linked = r.other LINKED (λ v k e. omega arith) ∙ at_set_other (set old LINKED vars) BY_ROWS m LINKED (λ e. omega arith) ∙ at_set old LINKED vars (omega arith)

  at_by_rows : at new BY_ROWS ≡ m
  at_by_rows = r.other BY_ROWS (λ v k e. omega arith) ∙ at_set (set old LINKED vars) BY_ROWS m (omega (arith, length-set old LINKED vars))

  at_others : (x : ℕ) → x < 16 → at new (OTHERS + x) ≡ bit_and (at old x) ((2 ^ 64 - 1) - m)
  at_others x l =
      r.here x l
      ∙ ap (λ (n : ℕ). bit_and n ((2 ^ 64 - 1) - m)) (at_set_other (set old LINKED vars) BY_ROWS m x (λ e. omega arith) ∙ at_set_other old LINKED vars x (λ e. omega arith))

  -- with no variable called loose
  abbrev first : List ℕ
  first = set new LOOSE 0

  first_at : (j : ℕ) → (j ≡ LOOSE → ⊥) → at first j ≡ at new j
  first_at j n = at_set_other new LOOSE 0 j n

  new_long : length new ≡ NUMBERS
  new_long = r.size ∙ length-set (set old LINKED vars) BY_ROWS m ∙ length-set old LINKED vars ∙ long

  none_loose : (x : ℕ) → T (has (at first LOOSE) x) → ⊥
  none_loose x t = has_0 x (subst (λ (n : ℕ). T (has n x)) (at_set new LOOSE 0 (omega (arith, new_long))) t)

  linked_first : (p : Problem) → Numbers p old → WellFormed p → LinkedFirst p new
  linked_first p nb wf = record {
    by_rows = λ k h. ap (λ (n : ℕ). has n k) by_rows ∙ gathered_is (is_by_rows p) _ m k (gm p nb) h;
    linked = λ x k h b t.
        (let l = scope_below p wf k x h t in
        let l16 : x < 16 = omega (arith, wf.few) in
        T_of _ (ap (λ (n : ℕ). has n x) linked ∙ gathered_is _ _ vars x gv (omega (arith, nb.variables))
        ∙ meet (at old x) m k (subst T (sym (nb.touching x k l16 h)) t) (subst T (sym (gathered_is (is_by_rows p) _ m k (gm p nb) h)) b)));
    linked_few = λ x t. (let l = gathered_lt _ _ vars x gv (subst (λ (n : ℕ). T (has n x)) linked t) in omega (arith, nb.variables));
    touching = λ x k l h.
        (let k64 : k < 64 = omega (arith, wf.most) in
        ap (λ (n : ℕ). has n k) (others x l) ∙ has_and (at old x) ((2 ^ 64 - 1) - m) k
        ∙ ap₂ both (nb.touching x k l h) (has_not 64 m k small k64 ∙ ap not (gathered_is (is_by_rows p) _ m k (gm p nb) h)));
    touching_few = λ x l. subst (λ (n : ℕ). n < 2 ^ length p.constraints) (sym (others x l)) (lt_of_le_of_lt (and_le_l (at old x) ((2 ^ 64 - 1) - m)) (nb.touching_few x l));
    loose = λ x u v y w t. absurd (none_loose x t);
  }
    where
      linked : at first LINKED ≡ vars
      linked = first_at LINKED (λ e. omega arith) ∙ at_linked

      by_rows : at first BY_ROWS ≡ m
      by_rows = first_at BY_ROWS (λ e. omega arith) ∙ at_by_rows

      others : (x : ℕ) → x < 16 → at first (OTHERS + x) ≡ bit_and (at old x) ((2 ^ 64 - 1) - m)
      others x l = first_at (OTHERS + x) (λ e. omega arith) ∙ at_others x l

  pub link_numbers : LinkNumbers old new
  link_numbers = record {
    linked = linked_first;
    size = new_long ∙ sym long;
    kept = low;
  }
