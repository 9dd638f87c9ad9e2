-- `find_ways`: the heads that lead, or all. Assumes nothing.
use Rattle.model.specs.Kit.{sym, ◌∙◌}
use Rattle.run_join.proofs.{Leads.ways_joined, Leads.ways_yes, Leads.ways_no}
use Rattle.run_join.proofs.ways.find_ways.Goals as goal

pub returns-then-any_first : goal.returns-then-any_first
returns-then-any_first c =
    ways_yes c.args.l.now c.args.n c.requires.1 _ c.mark_leading.ensures (sym (ways_joined c.args.l.now c.args.n c.requires.1 _ c.mark_leading.ensures) ∙ sym c.any_first.ensures ∙ c.if-any_first.true)

pub returns : goal.returns
returns c =
    ways_no c.args.l.now c.args.n c.requires.1 _ c.mark_all.ensures (sym (ways_joined c.args.l.now c.args.n c.requires.1 _ c.mark_leading.ensures) ∙ sym c.any_first.ensures ∙ c.if-any_first.false)
