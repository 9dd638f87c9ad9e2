-- `put_missing`: two paths. Assumes nothing.
use Rattle.std.specs.Prelude.{Option}
use Rattle.model.specs.Kit.{sym, subst}
use Rattle.model.specs.Written.{Written}
use Rattle.run_join.specs.{Calls.told_by, declared.Missing.Missing}
use Rattle.export_join.specs.Joined.{range_for}
use Rattle.export_join.proofs.{Wides.two_put}
use Rattle.export_join.proofs.pieces.put_missing.Goals as goal

pub returns-in-Some : goal.returns-in-Some
returns-in-Some c =
    subst (λ (m : Option Missing). Written c.args.out.now 120 (range_for c.args.l.now (told_by m)) c.put_begin.new.out 146) (sym c.in-Some.is)
    (two_put _ _ c.requires.0 c.put_stand.ensures c.put_begin.ensures)
