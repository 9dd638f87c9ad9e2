-- The bare run, and the count over all solutions and all images where it is finished. Assumes nothing.
use Rattle.model.specs.Lists.{at}
use Rattle.families_count.proofs.{Bare.cut_short, Bare.not_cut, Bare.bare_runs, Bare.bare_dash, Bare.bare_counted, Bare.bare_number}
use Rattle.families_count.proofs.figure.Goals as goal

pub run_arrays-part-requires : goal.run_arrays-part-requires
unfolding at
run_arrays-part-requires c = (_, bare_runs _ _ _ _ _ _ _ _ _ _ c.requires.3 _ _ c.requires.4 _)

pub returns-then-is_err : goal.returns-then-is_err
unfolding at
returns-then-is_err c = λ b pairs block h r. bare_dash _ _ _ _ _ _ _ _ _ _ h _ _ r _ _ _ _ _ _ _ _ _ (c.run_arrays-part.ensures _ (bare_runs _ _ _ _ _ _ _ _ _ _ h _ _ r _))
    (cut_short c.run_arrays-part.result.stop c.is_err.result c.is_err.ensures.value c.if-is_err.true)

pub families-requires : goal.families-requires
unfolding at
families-requires c =
    let g = c.run_arrays-part.ensures _ (bare_runs _ _ _ _ _ _ _ _ _ _ c.requires.3 _ _ c.requires.4 _) in
    (_, bare_counted _ _ _ _ _ _ _ _ _ _ c.requires.3 _ _ c.requires.4 _ _ _ _ _ _ _ _ _ g (not_cut c.run_arrays-part.result.stop c.is_err.result c.is_err.ensures.value c.if-is_err.false))

pub returns : goal.returns
unfolding at
returns c = λ b pairs block h r.
    let g = c.run_arrays-part.ensures _ (bare_runs _ _ _ _ _ _ _ _ _ _ h _ _ r _) in
    let k = bare_counted _ _ _ _ _ _ _ _ _ _ h _ _ r _ _ _ _ _ _ _ _ _ g (not_cut c.run_arrays-part.result.stop c.is_err.result c.is_err.ensures.value c.if-is_err.false) in
    bare_number _ _ _ _ _ _ _ _ _ _ h _ _ r _ _ _ _ _ _ _ _ _ g (not_cut c.run_arrays-part.result.stop c.is_err.result c.is_err.ensures.value c.if-is_err.false) _ (c.families.ensures _ k)
