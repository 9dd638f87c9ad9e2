use Rattle.sheet.proofs.{Whole.formed, Whole.tables_new, Whole.recompile_no, Whole.recompile_yes}
use Rattle.sheet.proofs.recompile.Goals as goal

pub decode_all-requires : goal.decode_all-requires
decode_all-requires c =
    (tables_new _ _ _ (formed _ _ _ _ c.read.ensures _ c.in-Ok.is), c.read.ensures.headed _ c.in-Ok.is)

pub returns-in-Ok : goal.returns-in-Ok
returns-in-Ok c = recompile_yes _ _ _ _ _ c.read.ensures _ _ c.in-Ok.is c.decode_all.ensures

pub returns-in-Err : goal.returns-in-Err
returns-in-Err c = recompile_no _ _ _ _ _ c.read.ensures _ c.in-Err.is
