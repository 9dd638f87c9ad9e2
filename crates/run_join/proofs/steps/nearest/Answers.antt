-- `nearest`: after k turns it is that of the first k heads. Assumes nothing.
use Rattle.model.specs.Kit.{◌≡◌, refl, sym, ap, ◌∙◌, suc, arith, Bool}
use Rattle.model.specs.Lists.{choose}
use Rattle.run_join.specs.Join.{nearest_of, head_number}
use Rattle.run_join.proofs.Turns.{head_at, head_or, near_turn, chosen_few}
use Rattle.run_join.proofs.steps.nearest.Goals as goal
use Rattle.run_join.proofs.steps.nearest.Goals.{then-is_nearer, else-is_nearer}

pub loop-k-init : goal.loop-k-init
unfolding nearest_of
loop-k-init c = (refl, omega arith)

pub is_nearer-requires : goal.is_nearer-requires
is_nearer-requires c = (head_or c.args.l.now c.args.n c.requires c.loop-k.near (omega arith), head_at c.args.l.now c.args.n c.requires c.loop-k.k (omega arith))

pub loop-k-preserved : goal.loop-k-preserved
loop-k-preserved c =
    let l = c.args.l.now in
    let s = c.args.here.now in
    let k = c.loop-k.k in
    let t = c.is_nearer.result in
    let picked : head_number c.if-is_nearer.near ≡ choose t (suc k) (head_number c.loop-k.near) = elim c.if-is_nearer.branch [
      | then-is_nearer w ↦ ap head_number w.near-is ∙ sym (ap (λ (b : Bool). choose b (suc k) (head_number c.loop-k.near)) w.if-is_nearer.true)
      | else-is_nearer w ↦ ap head_number w.near-is ∙ sym (ap (λ (b : Bool). choose b (suc k) (head_number c.loop-k.near)) w.if-is_nearer.false)
    ] in
    (near_turn l s k c.loop-k.near c.if-is_nearer.near t picked c.loop-k.invariant.0 c.is_nearer.ensures, chosen_few l s k c.loop-k.near c.if-is_nearer.near t picked c.loop-k.invariant.1)

pub returns : goal.returns
returns c =
    let e : c.loop-k.k ≡ c.args.n = omega arith in
    (c.loop-k.invariant.0 ∙ ap (nearest_of c.args.l.now c.args.here.now) e, omega arith)
