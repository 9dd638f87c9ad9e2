-- A run on the arrays of a problem that has no block (specs/Held). Assumes nothing.
use Rattle.model.specs.Kit.{◌≡◌, refl, sym, ap, ◌∙◌, subst, subst₂, Bool, true, false, List, map, ℕ, ◌^◌, ◌<◌, arith, eqb, eqb-true, eqb-false, length, set, length-set}
use Rattle.model.specs.{Lists.at, Lists.below, Problem.Problem, Run.result_of, Run.written, Run.Tally}
use Rattle.model.proofs.Lists.{at_set, at_set_other}
use Rattle.order.specs.{Reordered.write, RunBy.result_by}
use Rattle.order.proofs.{LeadersBy.ordering_below, LeadersBy.reordered_below, RunBy.same_result}
use Rattle.arrays.specs.{Inner.Places.LIMIT, Inner.Places.ROOM, Inner.Places.PLANS, Inner.Places.DEEPER, Inner.Places.NUMBERS, Inner.Layout.Compiled}
use Rattle.run_state.specs.{Inner.Walk.no_nodes, Inner.Walk.tally_by, Inner.Pair.ListRoom, Inner.Pair.AtPrefix}
use Rattle.run_search.specs.Inner.Begun.{Laid, Writable, Begun, Ended}
use Rattle.run_search.proofs.{Begun.numbers_kept, Begun.laid_alone, Explored.ran_tree}
use Rattle.run.proofs.Whole.{kept_listed}
use Rattle.families_count.specs.Inner.Held.{Runs, Ran}

module _ (p : Problem) (stack work supports tables numbers images list : List ℕ) (h : Runs p stack work supports tables numbers images list) (limit : ℕ) (bounded : List ℕ)
    (put : bounded ≡ set (set numbers LIMIT limit) ROOM 4096) where
  same₀ : (i : ℕ) → i < LIMIT → at bounded i ≡ at numbers i
  same₀ i l = ap (λ (l : List ℕ). at l i) put ∙ at_set_other (set numbers LIMIT limit) ROOM 4096 i (λ e. omega arith) ∙ at_set_other numbers LIMIT limit i (λ e. omega arith)

  long₀ : length bounded ≡ NUMBERS
  long₀ = ap length put ∙ length-set (set numbers LIMIT limit) ROOM 4096 ∙ length-set numbers LIMIT limit ∙ h.long

  at_limit : at bounded LIMIT ≡ limit
  at_limit = ap (λ (l : List ℕ). at l LIMIT) put ∙ at_set_other (set numbers LIMIT limit) ROOM 4096 LIMIT (λ e. omega arith) ∙ at_set numbers LIMIT limit (let e = h.long in omega arith)

  at_room : at bounded ROOM ≡ 4096
  at_room = ap (λ (l : List ℕ). at l ROOM) put ∙ at_set (set numbers LIMIT limit) ROOM 4096 (let l = length-set numbers LIMIT limit in let e = h.long in omega arith)

  compiled₀ : Compiled p bounded supports images
  compiled₀ = record {
    numbered = numbers_kept p numbers bounded h.limits.well_formed.few h.limits.well_formed.most (λ i l. same₀ i l)
        h.compiled.numbered;
    supported = h.compiled.supported;
    imaged = h.compiled.imaged;
  }

  -- the search may be made ready
  pub runs_laid : (bytes : List ℕ) → (length bytes ≡ 16) × ((k : ℕ) → k < 16 → at bytes k ≡ k) → Laid p p (below p.variables) bounded supports images bytes 0 1
  runs_laid bytes placed = laid_alone p bounded supports images bytes compiled₀ h.limits 1 (λ n. h.respected) long₀ placed

  roomy : ListRoom p.variables 4096 list 0
  roomy = record { some = h.limits.well_formed.some; fits = λ o. (let e = h.lent in omega arith); listed = omega arith; small = omega arith }

  module _ (small : limit < 2 ^ 32) (stack₁ work₁ tables₁ numbers₁ : List ℕ) (step : ℕ) (b : Begun p (below p.variables) bounded work stack₁ work₁ supports tables₁ numbers₁ step) where
    pub runs_live : step ≡ DEEPER → AtPrefix p stack₁ work₁ supports tables₁ numbers₁ list no_nodes 0
    runs_live e = b.live e (subst (λ (k : ℕ). k < 2 ^ 32) (sym at_limit) small) list (subst₂ (λ (r k : ℕ). ListRoom p.variables r list k) (sym at_room) (sym h.begun) roomy)

    by_position : map (write (below p.variables)) (result_of p limit (length list)).rows ≡ (result_of p limit (length list)).rows
    unfolding result_by
    by_position =
        let w = h.limits.well_formed in
        ap (λ (z : Problem). map (write (below p.variables)) (result_of z limit (length list)).rows) (sym (reordered_below p w)) ∙ (same_result p w limit (length list)).1

    module _ (stack₂ work₂ list₂ : List ℕ) (tally₂ : Tally) (stop : ℕ) (q : Ended stack₁ work₁ supports tables₁ numbers₁ list step stack₂ work₂ list₂ tally₂ stop) where
      still_writable : Writable stack₂ work₂ tables₁
      still_writable = go (eqb step DEEPER) refl
        where
          go : (c : Bool) → eqb step DEEPER ≡ c → Writable stack₂ work₂ tables₁
          go true c =
              let e = eqb-true step DEEPER c in
              let w = q.some e p (runs_live e) in
              record { stack_length = w.stack_length ∙ b.writable.stack_length; work_length = w.work_length ∙ b.writable.work_length; tables_length = b.writable.tables_length }
          go false c =
              let o = q.none (eqb-false step DEEPER c) in
              record { stack_length = ap length o.2 ∙ b.writable.stack_length; work_length = ap length o.3 ∙ b.writable.work_length; tables_length = b.writable.tables_length }

      pub runs_so : Ran p limit numbers list stack₂ work₂ tables₁ numbers₁ list₂ tally₂ stop
      unfolding tally_by
      runs_so =
          let some = h.limits.well_formed.some in
          let long = h.lent in
          let r = ran_tree p (below p.variables) (ordering_below p.variables).sized limit 4096 (length list) list (omega arith) (omega arith) (λ o. refl) work₁
          (b.same PLANS (omega arith) ∙ h.begun)
          bounded stack₁ supports tables₁ numbers₁ step work b at_limit at_room small roomy h.begun stack₂ work₂ list₂ tally₂ stop q in
          record {
            nodes = ap (λ (t : Tally). t.nodes) r.tally;
            plans = r.plans;
            stopped = r.stopped;
            wrote = r.wrote ∙ kept_listed p (below p.variables) limit list some ∙ ap (λ (rows : List (List ℕ)). written rows list) by_position;
            same = λ i l. b.first i (omega arith) ∙ same₀ i l;
            long = b.long;
            writable = still_writable;
          }
