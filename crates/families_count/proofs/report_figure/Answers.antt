-- The dash where the run isn't finished, its plans where there are no symmetries, else the count. Assumes nothing.
use Rattle.model.specs.Lists.{at}
use Rattle.families_count.proofs.{Bare.cut_short, Bare.not_cut, Bare.listed_dash, Bare.listed_plans, Bare.listed_whole, Bare.report_told}
use Rattle.families_count.proofs.report_figure.Goals as goal

pub returns-then-is_err : goal.returns-then-is_err
unfolding at
returns-then-is_err c = λ b h. listed_dash _ _ _ _ _ _ _ _ _ h (cut_short c.args.stop c.is_err.result c.is_err.ensures.value c.if-is_err.true)

pub returns-then-symmetries-eq0 : goal.returns-then-symmetries-eq0
unfolding at
returns-then-symmetries-eq0 c = λ b h. listed_plans _ _ _ _ _ _ _ _ _ h (not_cut c.args.stop c.is_err.result c.is_err.ensures.value c.if-is_err.false) c.if-symmetries-eq0.true

pub counted-requires : goal.counted-requires
unfolding at
counted-requires c = (_, _, _, listed_whole _ _ _ _ _ _ _ _ _ c.requires.1)

pub returns : goal.returns
unfolding at
returns c = λ b h. report_told _ _ h.verdict _ (c.counted.ensures _ _ _ (listed_whole _ _ _ _ _ _ _ _ _ h))
