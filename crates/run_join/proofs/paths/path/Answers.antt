-- `path`: the bytes behind the first. Assumes nothing.
use Rattle.model.specs.Kit.{◌≡◌, ap, ◌∙◌, ℕ, ◌+◌, ◌-◌, arith, take, drop}
use Rattle.model.specs.Lists.{at}
use Rattle.run_join.proofs.{Orders.short, Slices.path_part}
use Rattle.run_join.proofs.paths.path.Goals as goal

pub slice_bounds-result-end : goal.slice_bounds-result-end
unfolding at
slice_bounds-result-end c = omega (arith, short c.args.l.now c.args.o c.requires.shaped)

pub returns : goal.returns
unfolding at
returns c =
    let few = short c.args.l.now c.args.o c.requires.shaped in
    let n : c.args.o + 1 + c.from-length.result - (c.args.o + 1) ≡ at c.args.l.now c.args.o = omega (arith, c.from-length.ensures) in
    ap (λ (k : ℕ). take k (drop (c.args.o + 1) c.args.l.now)) n ∙ path_part c.args.l.now c.args.o (omega arith)
