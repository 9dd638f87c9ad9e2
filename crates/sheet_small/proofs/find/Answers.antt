-- `find`: before candidate n, what is left of the list once `seen` sheets are passed. Assumes nothing.
use Rattle.model.specs.Kit.{refl, sym, ◌∙◌, subst, ℕ, ◌+◌, arith, rules}
use Rattle.sheet_small.proofs.{Walk.Came, Walk.came_first, Walk.came_last, Walk.came_refused, Walk.came_accepted, Walk.found}
use Rattle.sheet_small.proofs.find.Goals as goal
use Rattle.sheet_small.proofs.find.Goals.{else-passes, then-passes+else-seen-k}

pub loop-n-init : goal.loop-n-init
loop-n-init c = (search rules, search rules, came_first)

pub returns-then-seen-k : goal.returns-then-seen-k
returns-then-seen-k c =
    found c.args.k c.loop-n.seen c.loop-n.n c.numbered.result (omega arith) c.loop-n.invariant.2
    c.numbered.ensures (sym c.passes.ensures ∙ c.if-passes.true) c.if-seen-k.true

pub loop-n-preserved : goal.loop-n-preserved
loop-n-preserved c =
    let e = sym c.passes.ensures in
    (elim c.if-passes.branch [
      | then-passes+else-seen-k w ↦ (
        search rules,
        omega (arith, w.seen-is, w.if-seen-k.false, c.loop-n.invariant.1),
        subst (λ (s : ℕ). Came s (c.loop-n.n + 1)) (sym w.seen-is) (came_accepted c.loop-n.seen c.loop-n.n (omega arith) c.loop-n.invariant.2 (e ∙ w.if-passes.true)),
      )
      | else-passes w ↦ (
        search rules,
        omega (arith, w.seen-is, c.loop-n.invariant.1),
        subst (λ (s : ℕ). Came s (c.loop-n.n + 1)) (sym w.seen-is) (came_refused c.loop-n.seen c.loop-n.n (omega arith) c.loop-n.invariant.2 (e ∙ w.if-passes.false)),
      )
    ])

pub returns : goal.returns
returns c =
    record {
      past = λ z. omega (arith, came_last c.loop-n.seen c.loop-n.n (omega arith) c.loop-n.invariant.2, c.loop-n.invariant.1);
      here = λ z. absurd (z refl);
    }
