-- An entry with the key of a prefix keeps the figures of its subtree. Assumes nothing.
use Rattle.model.specs.Kit.{◌≡◌, refl, sym, ap, ◌∙◌, subst, Bool, not, inl, inr, List, [], ◌∷◌, Memᴰ, Memᴰ-head, Memᴰ-tail, ℕ, ◌+◌, ◌-◌, ◌*◌, ◌%◌, ◌≤◌, ◌<◌, ℕ_discrete, arith, bit_and}
use Rattle.model.specs.Kit.{T, eqb, leb, eqb_refl, leb→le, length, drop, length-drop, eqb-true, le-leb, eq-eqb, ne_eqb}
use Rattle.model.specs.{Lists.at, Lists.any, ValueSets.has, Problem.Problem, Problem.Constraint, Search.sets_at, Run.Tally}
use Rattle.model.proofs.Lists.{T_of, both_i, either_l, either_r, any_i, keep_e, at_ext, place_of, Sorted, sorted_keep, ascending_sorted, at_drop}
use Rattle.model.proofs.{Filling.gathered_is, Masks.has_and, Sets.has_none, Prune.Sized, Prune.sets_at_sets, Tree.well_sized}
use Rattle.arrays.specs.Inner.Places.{MARKS, ENTAILED, OBEYED, VARIABLES, ASKS}
use Rattle.prune.specs.Inner.Node.{block_of}
use Rattle.run_alike.specs.{Inner.Alike.unsettled, Inner.Alike.SameSettled, Inner.Claims.SameBelow}
use Rattle.run_alike.proofs.Sets.{own_value, own_only}
use Rattle.run_passed.specs.Inner.Compared.{SameMark}
use Rattle.run_passed.proofs.Compared.{key_below}
use Rattle.run_state.specs.{Inner.Memo.MarksRead, Inner.Memo.Kept, Inner.Pair.prefix_of, Inner.Pair.own_problem_in, Inner.Pair.AtPrefix}
use Rattle.run_state.proofs.Prefix.{length_prefix}
use Rattle.run_key.specs.Inner.Key.{Pending, compared}
use Rattle.run_entry.specs.Inner.Entry.{Compared}

-- two of the variables that are left of a scope
two_left : (l : List ℕ) → Sorted (λ (x y : ℕ). x < y) l → 2 ≤ length l → (i : ℕ) × (j : ℕ) × (i < j) × Memᴰ i l × Memᴰ j l
two_left [] s n = absurd (omega arith)
two_left (x ∷ []) s n = absurd (omega arith)
two_left (x ∷ y ∷ l) s n = (x, y, s.0 y (Memᴰ-head refl), Memᴰ-head refl, Memᴰ-tail (Memᴰ-head refl))

module _ (p : Problem) (stack work supports tables numbers list : List ℕ) (tally : Tally) (k : ℕ) (h : AtPrefix p stack work supports tables numbers list tally k) (asks : at numbers ASKS ≡ 0 → ⊥)
    (made pending low good s : ℕ) (pend : Pending numbers k p.variables pending) (r : MarksRead (λ e. at work (16 * k + MARKS + e)) (length (own_problem_in p numbers).symmetries) k low good)
    (c : Compared stack numbers work made k pending low good s) (order : List ℕ) (e : Kept p (own_problem_in p numbers) order work list s) where
  abbrev a : List ℕ
  a = prefix_of work k

  abbrev b : List ℕ
  b = e.prefix

  z : Sized p
  z = well_sized p h.well

  size_a : length a ≡ k
  size_a = length_prefix work k

  size_b : length b ≡ k
  size_b = sym e.depth ∙ c.depth

  sized : length a ≡ length b
  sized = size_a ∙ sym size_b

  variables : at numbers VARIABLES ≡ p.variables
  variables = h.ready.indexed.numbered.variables

  -- a set that is compared is the same
  set_same : (x : ℕ) → x < p.variables → T (compared numbers pending low x) → at (sets_at p a) x ≡ at (sets_at p b) x
  set_same x l t = sym (h.held.sets x l) ∙ c.sets x (subst (λ (n : ℕ). x < n) (sym variables) l) t ∙ e.sets x l

  from_low : (x : ℕ) → low ≤ x → T (compared numbers pending low x)
  from_low x l = either_l (leb low x) (not (eqb (bit_and (at numbers x) pending) 0)) (T_of (leb low x) (le-leb low x l))

  -- and then a settled value is
  value_same : (x : ℕ) → x < k → T (compared numbers pending low x) → at a x ≡ at b x
  value_same x l t =
      let i = h.inner in
      own_only p z b e.live x (at a x) (omega (arith, size_b))
      (subst (λ (q : ℕ). T (has q (at a x))) (set_same x (omega arith) t) (own_value p z a h.live x (omega (arith, size_a)) (omega arith)))

  later : (x : ℕ) → k ≤ x → x < p.variables → at (sets_at p a) x ≡ at (sets_at p b) x
  later x l u = set_same x u (from_low x (omega (arith, r.within)))

  sets : drop (length a) (sets_at p a) ≡ drop (length a) (sets_at p b)
  sets =
      at_ext (drop (length a) (sets_at p a)) (drop (length a) (sets_at p b))
      (length-drop (length a) (sets_at p a) ∙ ap (λ (n : ℕ). n - length a) ((sets_at_sets p a z).0 ∙ sym (sets_at_sets p b z).0) ∙ sym (length-drop (length a) (sets_at p b)))
      (λ i l. at_drop (length a) (sets_at p a) i
      ∙ later (length a + i) (omega (arith, size_a)) (omega (arith, length-drop (length a) (sets_at p a), (sets_at_sets p a z).0)) ∙ sym (at_drop (length a) (sets_at p b) i))

  -- a constraint that has two variables left is pending
  settled : SameSettled (own_problem_in p numbers) a b
  settled d m two x i l =
      let q = place_of p.constraints d (record { scope = []; rows = [] }) m in
      let n = q.0 in
      let good-d = h.well.constrained d m in
      let w = two_left (unsettled (length a) d.scope) (sorted_keep (λ (x y : ℕ). x < y) (leb (length a)) d.scope (ascending_sorted d.scope good-d.ordered)) two in
      let u = keep_e (leb (length a)) d.scope w.0 w.3 in
      let v = keep_e (leb (length a)) d.scope w.1 w.4 in
      let touches : (y : ℕ) → Memᴰ y d.scope → T (has (at numbers y) n) = λ y o.
      subst T (sym (h.ready.indexed.numbered.touching y n (omega (arith, h.ready.well_formed.few, good-d.inside y o)) q.1))
      (subst (λ (f : Constraint). T (any (eqb y) f.scope)) (sym q.2) (any_i (eqb y) d.scope y o (eqb_refl y))) in
      let open-n : T (has pending n) = pend n w.0 w.1 (omega (arith, leb→le (length a) w.0 u.1, size_a)) w.2 (good-d.inside w.1 v.0) (touches w.0 u.0)
      (touches w.1 v.0) in
      value_same x (omega (arith, size_a)) (either_r (leb low x) (not (eqb (bit_and (at numbers x) pending) 0)) (shared x n (touches x i) open-n))
    where
      shared : (x n : ℕ) → T (has (at numbers x) n) → T (has pending n) → T (not (eqb (bit_and (at numbers x) pending) 0))
      shared x n t u =
          let both-n : T (has (bit_and (at numbers x) pending) n) = subst T (sym (has_and (at numbers x) pending n)) (both_i (has (at numbers x) n) (has pending n) t u) in
          subst (λ (g : Bool). T (not g)) (sym (ne_eqb (bit_and (at numbers x) pending) 0 (λ o. subst T (ap (λ (f : ℕ). has f n) o ∙ has_none n) both-n))) tt

  -- the marks
  same_marks : (f : ℕ) → f < length (own_problem_in p numbers).symmetries → SameMark low (at work (16 * k + MARKS + f)) (e.marks f)
  same_marks f l = go (ℕ_discrete m OBEYED) (ℕ_discrete n OBEYED)
    where
      m : ℕ
      m = at work (16 * k + MARKS + f)

      n : ℕ
      n = e.marks f

      alike : eqb m OBEYED ≡ eqb n OBEYED
      alike =
          sym (gathered_is (λ g. eqb (at work (16 * k + MARKS + g)) OBEYED) (length (own_problem_in p numbers).symmetries) good f r.obeyed l)
          ∙ ap (λ (q : ℕ). has q f) (sym c.good_is) ∙ gathered_is (λ g. eqb (e.marks g) OBEYED) (length (own_problem_in p numbers).symmetries) _ f e.read.obeyed l

      go : Dec (m ≡ OBEYED) → Dec (n ≡ OBEYED) → SameMark low m n
      go (yes q) (yes u) = inl (q, u)
      go (yes q) (no u) = absurd (u (eqb-true n OBEYED (sym alike ∙ eq-eqb m OBEYED q)))
      go (no q) (yes u) = absurd (q (eqb-true m OBEYED (alike ∙ eq-eqb n OBEYED u)))
      go (no q) (no u) = inr (q, u, r.passed f l q, subst (λ (g : ℕ). g ≤ n % ENTAILED) c.low_is (e.read.passed f l u))

  pub found_below : SameBelow p (p.variables - k) a b
  found_below =
      let i = h.inner in
      key_below (own_problem_in p numbers) h.ready.well_formed (block_of numbers) p.symmetries h.ready.block h.well (h.respected asks) a b (λ f. at work (16 * k + MARKS + f)) e.marks
      h.live e.live
      h.marked e.right (record { sized = sized; sets = sets; settled = settled; low = low; agrees = λ x l u. value_same x (omega (arith, size_a)) (from_low x l); marks = same_marks })
      (p.variables - k) (omega (arith, size_a))
