-- A plan that was found has room unless as many are listed as the list has room for. Assumes nothing.
use Rattle.model.specs.Kit.{◌≡◌, refl, sym, ap₂, ◌∙◌, List, ℕ, suc, ◌+◌, ◌*◌, ◌≤◌, mul-le-mul_right, add-one, arith, length, set, length-set}
use Rattle.model.specs.Lists.{at}
use Rattle.model.proofs.Lists.{at_set, at_set_other}
use Rattle.order.specs.Reordered.{write}
use Rattle.arrays.specs.Inner.Places.{PLANS, ALL, FULL, WORK}
use Rattle.run_state.specs.{Inner.Walk.noted, Inner.Pair.prefix_of, Inner.Pair.ListRoom, Inner.Pair.Listed}
use Rattle.run_state.proofs.Walk.{listed_full, listed_kept}

module _ (n room : ℕ) (list : List ℕ) (plans : ℕ) (h : ListRoom n room list plans) (e : plans ≡ room → ⊥) where
  pub one_more : suc plans ≤ room
  one_more = let l = h.listed in omega arith

  pub fits_bytes : (length list ≡ 0 → ⊥) → plans * n + n ≤ length list
  fits_bytes o =
      let m : suc plans * n ≤ room * n = mul-le-mul_right n one_more in
      let a = h.fits o in omega arith

module _ (n room : ℕ) (order work list : List ℕ) (h : ListRoom n room list (at work PLANS)) where
  pub full_now : at work PLANS ≡ room → Listed n room order work list work list FULL
  full_now e = record {
    state = λ tally last. sym (listed_full n room (write order (prefix_of work n)) record { tally = tally; plans = at work PLANS; stop = ALL; list = list; last = last } (omega arith));
    known = omega arith;
    others = λ i o. refl;
    work_length = refl;
  }

  pub kept_now : (list' : List ℕ) → length work ≡ WORK → (at work PLANS ≡ room → ⊥) → list' ≡ noted (at work PLANS * n) (write order (prefix_of work n)) list →
      Listed n room order work list (set work PLANS (at work PLANS + 1)) list' ALL
  kept_now list' w e q = record {
    state = λ tally last.
        ap₂ (λ (k : ℕ) (l : List ℕ). record { tally = tally; plans = k; stop = ALL; list = l; last = last }) (at_set work PLANS (at work PLANS + 1) (omega arith) ∙ add-one (at work PLANS)) q
        ∙ sym (listed_kept n room (write order (prefix_of work n)) record { tally = tally; plans = at work PLANS; stop = ALL; list = list; last = last } (one_more n room list (at work PLANS) h e));
    known = omega arith;
    others = λ i o. at_set_other work PLANS (at work PLANS + 1) i o;
    work_length = length-set work PLANS (at work PLANS + 1);
  }
