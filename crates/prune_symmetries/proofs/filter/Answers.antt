-- The exact filter, by how far the pass came. Assumes nothing.
use Rattle.std.proofs.lemmas.Option.{MatchOption-at_none, MatchOption-at_some}
use Rattle.model.specs.Kit.{sym, subst}
use Rattle.prune_symmetries.specs.Inner.Levels.{FilterEnsures}
use Rattle.prune_symmetries.proofs.{Splits.pass_split_lem, Nogoods.ready, Nogoods.reached_none, Nogoods.reached_end, Nogoods.resolved}
use Rattle.prune_symmetries.proofs.filter.Goals as goal

pub pass-requires : goal.pass-requires
pass-requires c = (c.requires.0, ready c.requires.1)

pub returns-in_err-reached : goal.returns-in_err-reached
returns-in_err-reached c = λ p w.
    subst (FilterEnsures p c.args.sets.now c.args.work.now c.args.e c.args.k c.pass.new.sets) (sym c.from_residual.ensures)
    (reached_none w c.pass.new.sets c.pass.ensures.sixteen (MatchOption-at_none _ _ c.in_err-reached.was (c.pass.ensures.entries p (ready w))))

pub resolve-requires : goal.resolve-requires
resolve-requires c =
    (c.requires.0, (pass_split_lem (ready c.requires.1) (MatchOption-at_some _ _ _ c.in_ok-reached.was (c.pass.ensures.entries c.requires.0 (ready c.requires.1))) c.if-reached-k.true).at_split)

pub returns-then-reached-k : goal.returns-then-reached-k
returns-then-reached-k c = λ p w.
    let f = pass_split_lem (ready w) (MatchOption-at_some _ _ _ c.in_ok-reached.was (c.pass.ensures.entries p (ready w))) c.if-reached-k.true in
    resolved w c.pass.new.sets c.in_ok-reached.reached f c.resolve.new.sets c.resolve.result (c.resolve.ensures p f.at_split)

pub returns : goal.returns
returns c = λ p w. reached_end w c.pass.new.sets c.in_ok-reached.reached c.if-reached-k.false (MatchOption-at_some _ _ _ c.in_ok-reached.was (c.pass.ensures.entries p (ready w)))
