-- `put_begin`: the head, or the last path. Assumes nothing.
use Rattle.std.specs.Prelude.{Option}
use Rattle.model.specs.Kit.{sym, ap, ◌∙◌, subst, List, ℕ, ◌+◌}
use Rattle.model.specs.Written.{Written}
use Rattle.run_join.specs.Join.{head_number}
use Rattle.export_join.specs.Joined.{begin_bytes}
use Rattle.export_join.proofs.{Wides.end_at}
use Rattle.export_join.proofs.pieces.put_begin.Goals as goal

pub returns-in-None : goal.returns-in-None
returns-in-None c =
    subst (λ (x : List ℕ). Written c.args.out.now c.args.start x c.put_path.new.out (c.args.start + 13))
    (end_at ∙ ap (λ (k : Option ℕ). begin_bytes c.args.l.now (head_number k)) (sym c.in-None.is)) c.put_path.ensures
