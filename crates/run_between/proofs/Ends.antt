-- Before the walk along a part and after it: the path put in `work`, and what the call holds then. Assumes nothing.
use Rattle.model.specs.Kit.{◌≡◌, refl, sym, ap, ◌∙◌, subst, Bool, true, false, List, ℕ, ◌+◌, ◌-◌, ◌≤◌, ◌<◌, min, ℕ_discrete, dec_lt, arith, T, eqb, length, take, set, length-set, length-take}
use Rattle.model.specs.Kit.{length-take-le, eqb-true, eqb-false}
use Rattle.model.specs.{Lists.at, Problem.Problem, Search.sets_at, Search.is_live, Run.Tally}
use Rattle.model.proofs.Lists.{at_set, at_set_other, at_take, at_out}
use Rattle.arrays.specs.Inner.Places.{ROOM, PLANS, LAST, ALL, DEEPER, WORK, MEMO}
use Rattle.prune.specs.Inner.Node.{SetsHeld, Marked}
use Rattle.prune.proofs.Marks.{marked_on}
use Rattle.run_state.specs.{Inner.Walk.no_nodes, Inner.Pair.prefix_of, Inner.Pair.order_in, Inner.Pair.own_problem_in, Inner.Pair.Cleared, Inner.Pair.ListRoom, Inner.Pair.AtPrefix}
use Rattle.run_state.specs.Inner.Pair.{Walked}
use Rattle.run_state.proofs.{Memo.memo_on, Prefix.prefix_zero, Prefix.prefix_is}
use Rattle.run_tree.proofs.Turns.{ready_on}
use Rattle.run_ranges.specs.Inner.Within.{within}
use Rattle.run_between.specs.Inner.Steps.{AtBelow, PutPath, Valued, Parted}

-- ---- `put_path`
pub record Putting (path work₀ work : List ℕ) (i : ℕ) : Type 0 where
  pub values : (j : ℕ) → j < i → at work j ≡ at path j
  pub bytes : (j : ℕ) → j < i → at work j < 256
  pub others : (j : ℕ) → i ≤ j → at work j ≡ at work₀ j
  pub same : length work ≡ length work₀

pub putting_start : (path work : List ℕ) → Putting path work work 0
putting_start path work = record { values = λ j l. absurd (omega arith); bytes = λ j l. absurd (omega arith); others = λ j l. refl; same = refl }

pub putting_next : (path work₀ work : List ℕ) (i v : ℕ) → Putting path work₀ work i → length work₀ ≡ WORK → i < 12 → v ≡ at path i → v < 256 → Putting path work₀ (set work i v) (i + 1)
putting_next path work₀ work i v h n l e b = record {
  values = λ j k. by_case (eqb j i) refl (λ q. ap (at (set work i v)) q ∙ here ∙ e ∙ ap (at path) (sym q)) (λ q. at_set_other work i v j q ∙ h.values j (omega arith));
  bytes = λ j k. by_case2 (eqb j i) refl (λ q. subst (λ (x : ℕ). x < 256) (sym (ap (at (set work i v)) q ∙ here)) b)
      (λ q. subst (λ (x : ℕ). x < 256) (sym (at_set_other work i v j q)) (h.bytes j (omega arith)));
  others = λ j k. at_set_other work i v j (λ q. omega arith) ∙ h.others j (omega arith);
  same = length-set work i v ∙ h.same;
}
  where
    here : at (set work i v) i ≡ v
    here = at_set work i v (let s = h.same in omega arith)

    by_case : {j : ℕ} (c : Bool) → eqb j i ≡ c → (j ≡ i → at (set work i v) j ≡ at path j) → ((j ≡ i → ⊥) → at (set work i v) j ≡ at path j) → at (set work i v) j ≡ at path j
    by_case {j} true q f g = f (eqb-true j i q)
    by_case {j} false q f g = g (eqb-false j i q)

    by_case2 : {j : ℕ} (c : Bool) → eqb j i ≡ c → (j ≡ i → at (set work i v) j < 256) → ((j ≡ i → ⊥) → at (set work i v) j < 256) → at (set work i v) j < 256
    by_case2 {j} true q f g = f (eqb-true j i q)
    by_case2 {j} false q f g = g (eqb-false j i q)

pub putting_done : (path work₀ work : List ℕ) (i end : ℕ) → Putting path work₀ work i → length work₀ ≡ WORK → end ≡ min (length path) 12 → end ≤ i → i ≤ end → PutPath path work₀ (set work LAST end)
putting_done path work₀ work i end h n e l u =
    let here : at (set work LAST end) LAST ≡ end = at_set work LAST end (let s = h.same in omega arith) in
    record {
      values = λ j k m. at_set_other work LAST end j (λ q. omega arith) ∙ h.values j (omega arith);
      last = here ∙ e;
      bytes = λ j k. let m : j < end = subst (λ (x : ℕ). j < x) here k in subst (λ (x : ℕ). x < 256) (sym (at_set_other work LAST end j (λ q. omega arith))) (h.bytes j (omega arith));
      others = λ j k q. at_set_other work LAST end j q ∙ h.others j (omega arith);
      work_length = length-set work LAST end ∙ h.same;
    }

-- ---- what was prepared, with the path in it
pub record Begun (path work work' : List ℕ) : Type 0 where
  pub values : (i : ℕ) → i < length path → i < 12 → at work' i ≡ at path i
  pub last : at work' LAST ≡ min (length path) 12
  pub bytes : (i : ℕ) → i < at work' LAST → at work' i < 256
  pub others : (i : ℕ) → 12 ≤ i → i < WORK → (i ≡ LAST → ⊥) → at work' i ≡ at work i
  pub sized : length work' ≡ WORK

pub begun_so : (path work copy work' : List ℕ) → length copy ≡ WORK → ((i : ℕ) → i < WORK → at copy i ≡ at work i) → PutPath path copy work' → Begun path work work'
begun_so path work copy work' n c h = record { values = h.values; last = h.last; bytes = h.bytes; others = λ i l u q. h.others i (omega arith) q ∙ c i u; sized = h.work_length ∙ n }

module _ (path work work' : List ℕ) (h : Begun path work work') where
  pub put_last : prefix_of work' (at work' LAST) ≡ take 12 path
  put_last =
      let l = h.last in
      let n : at work' LAST ≡ length (take 12 path) = l ∙ sym (length-take 12 path ∙ (let e : min 12 (length path) ≡ min (length path) 12 = omega arith in e)) in
      sym (prefix_is (take 12 path) work' (at work' LAST) (sym n) (λ j m. at_take 12 path j (omega arith) ∙ sym (h.values j (omega arith) (omega arith))))

  pub put_short : at work' LAST ≤ 12
  put_short = let l = h.last in omega arith

  pub put_prefix : {p : Problem} {stack supports tables numbers list : List ℕ} {tally : Tally} → AtPrefix p stack work supports tables numbers list tally 0
      → AtPrefix p stack work' supports tables numbers list tally 0
  put_prefix {p} {stack} {supports} {tables} {numbers} {list} {tally} g =
      let e : prefix_of work' 0 ≡ prefix_of work 0 = prefix_zero work' ∙ sym (prefix_zero work) in
      record {
        ready = ready_on g.ready refl (h.sized ∙ sym g.ready.work_length);
        inner = g.inner;
        live = subst (λ (t : List ℕ). T (is_live p t)) (sym e) g.live;
        held = subst (λ (t : List ℕ). SetsHeld (own_problem_in p numbers) stack 0 (sets_at p t)) (sym e) g.held;
        marked = marked_on (own_problem_in p numbers) p.symmetries work work' (prefix_of work' 0) 0 g.ready.symmetries (λ i l u. h.others i (omega arith) (omega arith) (λ q. omega arith))
            (subst (λ (t : List ℕ). Marked (own_problem_in p numbers) p.symmetries work t 0) (sym e) g.marked);
        limited = g.limited;
        allowed = g.allowed;
        summed = g.summed;
        order = g.order;
        room = subst (λ (n : ℕ). ListRoom p.variables (at numbers ROOM) list n) (sym (h.others PLANS (omega arith) (omega arith) (λ q. omega arith))) g.room;
        well = g.well;
        respected = g.respected;
        memo = memo_on p (own_problem_in p numbers) (order_in numbers p.variables) work work' list (λ i l. later g.ready.work_length i (omega arith) (dec_lt i WORK))
            (h.others PLANS (omega arith) (omega arith) (λ q. omega arith)) g.memo;
      }
    where
      later : length work ≡ WORK → (i : ℕ) → MEMO ≤ i → Dec (i < WORK) → at work' i ≡ at work i
      later long i l (yes u) = h.others i (omega arith) u (λ q. omega arith)
      later long i l (no u) = at_out work' i (omega (arith, h.sized)) ∙ sym (at_out work i (omega arith))

  pub put_asks : {p : Problem} {stack supports tables numbers list : List ℕ} {tally : Tally} → AtPrefix p stack work supports tables numbers list tally 0
      → AtBelow p path stack work' supports tables numbers list tally 0
  put_asks g = record { prefix = put_prefix g; stands = λ i l z. ap (at work') (let e : 0 + i ≡ i = omega arith in e) ∙ h.values i l (omega arith); short = λ z. put_short }

-- ---- `last_values`
pub record Valuing (work : List ℕ) (i : ℕ) (last : List ℕ) : Type 0 where
  pub twelve : length last ≡ 12
  pub values : (j : ℕ) → j < i → at last j ≡ at work j

pub valuing_next : (work last : List ℕ) (i : ℕ) → i < 12 → Valuing work i last → Valuing work (i + 1) (set last i (at work i))
valuing_next work last i l h = record { twelve = length-set last i (at work i) ∙ h.twelve; values = λ j m. go j m (ℕ_discrete j i) }
  where
    go : (j : ℕ) → j < i + 1 → Dec (j ≡ i) → at (set last i (at work i)) j ≡ at work j
    go j m (yes e) = subst (λ (x : ℕ). at (set last i (at work i)) x ≡ at work x) (sym e) (at_set last i (at work i) (let z = h.twelve in omega arith))
    go j m (no e) = at_set_other last i (at work i) j e ∙ h.values j (omega arith)

pub valued_last : (work last : List ℕ) → at work LAST ≤ 12 → Valued work last → take (at work LAST) last ≡ prefix_of work (at work LAST)
valued_last work last l h =
    prefix_is (take (at work LAST) last) work (at work LAST) (length-take-le (at work LAST) last (let z = h.twelve in omega arith)) (λ i m. at_take (at work LAST) last i m ∙ h.values i m)

-- ---- `walk_part`
module _ (from upto stack work supports tables numbers list : List ℕ) (step : ℕ) where
  pub parted_none : step ≡ ALL → (tally : Tally) → Cleared tally → Parted from upto stack work supports tables numbers list step stack work list tally ALL
  parted_none a tally t = record { none = λ z. (sym a, t.is, refl, refl); some = λ z. absurd (omega arith) }

  pub parted_asks : (tally : Tally) → Cleared tally → {p : Problem} → AtBelow p from stack work supports tables numbers list no_nodes 0 → AtBelow p from stack work supports tables numbers list tally 0
  parted_asks tally t {p} g = subst (λ (y : Tally). AtBelow p from stack work supports tables numbers list y 0) (sym t.is) g

  pub parted_some : step ≡ DEEPER → (tally : Tally) → Cleared tally → (stack' work' list' : List ℕ) (tally' : Tally) (stop : ℕ) →
      ((p : Problem) → AtBelow p from stack work supports tables numbers list tally 0 → Walked p
      (within p (p.variables - 0) (prefix_of work 0) from upto) stack work numbers list tally 0 stack' work' list' tally' stop) →
      Parted from upto stack work supports tables numbers list step stack' work' list' tally' stop
  parted_some e tally t stack' work' list' tally' stop f = record {
    none = λ n. absurd (n e);
    some = λ z p g. subst (λ (y : Tally). Walked p (within p (p.variables - 0) (prefix_of work 0) from upto) stack work numbers list y 0 stack' work' list' tally' stop) t.is
        (f p (parted_asks tally t g));
  }
