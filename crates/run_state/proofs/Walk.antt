-- Laws of the walk: it goes on where a first part of it left off, and a stopped run changes nothing. Assumes nothing.
use Rattle.model.specs.Kit.{◌≡◌, refl, sym, ap, ◌∙◌, subst, Bool, true, false, List, [], ◌∷◌, ◌++◌, ℕ, suc, ◌+◌, ◌*◌, ◌≤◌, ◌<◌, mul-le-mul_right, arith, eqb, leb, length, length-set, length-replicate}
use Rattle.model.specs.Kit.{leb-true, leb-false, eqb-true, eqb-false, eq-eqb, ne_eqb, le-leb, lt-leb}
use Rattle.model.specs.{Written.placed, Lists.at, Lists.total, Problem.Problem, Search.is_plan, Run.Tally, Run.settled_by}
use Rattle.model.proofs.{Written.length_placed, Lists.length_below, Tally.total_set}
use Rattle.order.specs.Reordered.{position, write}
use Rattle.arrays.specs.Inner.Places.{ALL, FULL}
use Rattle.run_state.specs.Inner.Walk.{with_node, no_nodes, Summed, State, noted, listed, counted, exhausted, visit, walk}

pub length_write : (order r : List ℕ) → length (write order r) ≡ length order
unfolding write
length_write order r = length_below (λ x. at r (position order x)) (length order)

-- ---- a plan is found
pub listed_full : (n room : ℕ) (row : List ℕ) (s : State) → room < suc s.plans → listed n room row s ≡ record { tally = s.tally; plans = s.plans; stop = FULL; list = s.list; last = s.last }
unfolding listed
listed_full n room row s h = rw (lt-leb (suc s.plans) room h)

pub listed_kept : (n room : ℕ) (row : List ℕ) (s : State) → suc s.plans ≤ room →
    listed n room row s ≡ record { tally = s.tally; plans = suc s.plans; stop = ALL; list = noted (s.plans * n) row s.list; last = s.last }
unfolding listed
listed_kept n room row s h = rw (le-leb (suc s.plans) room h)

pub noted_none : (i : ℕ) (row list : List ℕ) → length list ≡ 0 → noted i row list ≡ list
unfolding noted
noted_none i row list e = rw (eq-eqb (length list) 0 e)

pub noted_over : (i : ℕ) (row list : List ℕ) → (length list ≡ 0 → ⊥) → noted i row list ≡ placed list i row
unfolding noted
noted_over i row list n = rw (ne_eqb (length list) 0 n)

pub length_noted : (i : ℕ) (row list : List ℕ) → ((length list ≡ 0 → ⊥) → i + length row ≤ length list) → length (noted i row list) ≡ length list
length_noted i row list h = go (eqb (length list) 0) refl
  where
    go : (b : Bool) → eqb (length list) 0 ≡ b → length (noted i row list) ≡ length list
    go true e = ap length (noted_none i row list (eqb-true (length list) 0 e))
    go false e = let n = eqb-false (length list) 0 e in ap length (noted_over i row list n) ∙ length_placed list i row (h n)

module _ (p : Problem) (order : List ℕ) (limit room : ℕ) where
  -- ---- one node
  pub visit_stopped : (t : List ℕ) (s : State) → (s.stop ≡ ALL → ⊥) → visit p order limit room t s ≡ s
  unfolding visit
  visit_stopped t s h = rw (ne_eqb s.stop ALL h)

  pub visit_spent : (t : List ℕ) (s : State) → s.stop ≡ ALL → s.tally.nodes ≡ limit → visit p order limit room t s ≡ exhausted s
  unfolding visit
  visit_spent t s g h = rw (eq-eqb s.stop ALL g, eq-eqb s.tally.nodes limit h)

  pub visit_other : (t : List ℕ) (s : State) → s.stop ≡ ALL → (s.tally.nodes ≡ limit → ⊥) → is_plan p t ≡ false → visit p order limit room t s ≡ counted (at order (settled_by t)) t s
  unfolding visit
  visit_other t s g h e = rw (eq-eqb s.stop ALL g, ne_eqb s.tally.nodes limit h, e)

  pub visit_plan : (t : List ℕ) (s : State) → s.stop ≡ ALL → (s.tally.nodes ≡ limit → ⊥) → is_plan p t ≡ true → visit p order limit room t s ≡ listed p.variables room (write order t)
      (counted (at order (settled_by t)) t s)
  unfolding visit
  visit_plan t s g h e = rw (eq-eqb s.stop ALL g, ne_eqb s.tally.nodes limit h, e)

  -- ---- along a list
  pub walk_append : (ts us : List (List ℕ)) (s : State) → walk p order limit room (ts ++ us) s ≡ walk p order limit room us (walk p order limit room ts s)
  unfolding walk
  walk_append [] us s = refl
  walk_append (t ∷ ts) us s = walk_append ts us (visit p order limit room t s)

  pub walk_stopped : (ts : List (List ℕ)) (s : State) → (s.stop ≡ ALL → ⊥) → walk p order limit room ts s ≡ s
  unfolding walk
  walk_stopped [] s h = refl
  walk_stopped (t ∷ ts) s h = ap (walk p order limit room ts) (visit_stopped t s h) ∙ walk_stopped ts s h

-- ---- what holds all along: the nodes made are within the limit, the list keeps its length, and there is room for the plans
pub record Fits (p : Problem) (limit room size : ℕ) (s : State) : Type 0 where
  pub allowed : s.tally.nodes ≤ limit
  pub sized : length s.list ≡ size
  pub roomy : s.plans ≤ room

module _ (p : Problem) (order : List ℕ) (sized : length order ≡ p.variables) (limit room size : ℕ) (enough : (size ≡ 0 → ⊥) → room * p.variables ≤ size) where
  listed_fits : (t : List ℕ) (s : State) → length t ≡ p.variables → Fits p limit room size s → Fits p limit room size (listed p.variables room t s)
  listed_fits t s e f = go (leb (suc s.plans) room) refl
    where
      go : (b : Bool) → leb (suc s.plans) room ≡ b → Fits p limit room size (listed p.variables room t s)
      go true q =
          let h : suc s.plans ≤ room = leb-true (suc s.plans) room q in
          let m : suc s.plans * p.variables ≤ room * p.variables = mul-le-mul_right p.variables h in
          let z = f.sized in
          subst (Fits p limit room size) (sym (listed_kept p.variables room t s h))
          record { allowed = f.allowed; sized = length_noted (s.plans * p.variables) t s.list (λ n. let l = enough (λ g. n (z ∙ g)) in omega arith) ∙ z; roomy = h }
      go false q =
          subst (Fits p limit room size) (sym (listed_full p.variables room t s (leb-false (suc s.plans) room q)))
          record { allowed = f.allowed; sized = f.sized; roomy = f.roomy }

  pub visit_fits : (t : List ℕ) (s : State) → Fits p limit room size s → Fits p limit room size (visit p order limit room t s)
  visit_fits t s f = go (eqb s.stop ALL) refl (eqb s.tally.nodes limit) refl (is_plan p t) refl
    where
      go : (a : Bool) → eqb s.stop ALL ≡ a → (b : Bool) → eqb s.tally.nodes limit ≡ b → (c : Bool) → is_plan p t ≡ c → Fits p limit room size (visit p order limit room t s)
      go false d b e c h = subst (Fits p limit room size) (sym (visit_stopped p order limit room t s (eqb-false s.stop ALL d))) f
      go true d true e c h =
          subst (Fits p limit room size) (sym (visit_spent p order limit room t s (eqb-true s.stop ALL d) (eqb-true s.tally.nodes limit e)))
          record { allowed = f.allowed; sized = f.sized; roomy = f.roomy }
      go true d false e false h =
          let n = eqb-false s.tally.nodes limit e in
          subst (Fits p limit room size) (sym (visit_other p order limit room t s (eqb-true s.stop ALL d) n h))
          record { allowed = let l = f.allowed in omega arith; sized = f.sized; roomy = f.roomy }
      go true d false e true h =
          let n = eqb-false s.tally.nodes limit e in
          subst (Fits p limit room size) (sym (visit_plan p order limit room t s (eqb-true s.stop ALL d) n h))
          (listed_fits (write order t) (counted (at order (settled_by t)) t s) (length_write order t ∙ sized) record { allowed = let l = f.allowed in omega arith; sized = f.sized; roomy = f.roomy })

  pub walk_fits : (ts : List (List ℕ)) (s : State) → Fits p limit room size s → Fits p limit room size (walk p order limit room ts s)
  unfolding walk
  walk_fits [] s f = f
  walk_fits (t ∷ ts) s f = walk_fits ts (visit p order limit room t s) (visit_fits t s f)

-- ---- the counts add up: of nothing, and with one node more, counted
pub none_summed : Summed no_nodes
unfolding total
none_summed = record { twelve = length-replicate {A = ℕ} 12 0; sum = refl }

pub summed_more : (x : ℕ) (t : Tally) → x < 12 → Summed t → Summed (with_node x t)
summed_more x t l s = record {
  twelve = length-set t.counts x (at t.counts x + 1) ∙ s.twelve;
  sum = total_set t.counts x (let e = s.twelve in omega arith) ∙ ap (λ (n : ℕ). n + 1) s.sum;
}
