-- The part of the buffer is the bytes. Assumes nothing.
use Rattle.model.specs.Kit.{refl, sym, subst, List, ℕ, ◌+◌, arith, length}
use Rattle.std.proofs.lemmas.Slice.{put_mid-paste}
use Rattle.model.specs.Written.{Written}
use Rattle.model.proofs.Written.{written_paste}
use Rattle.wire.proofs.put.Goals as goal

pub returns : goal.returns
returns c =
    let t : List ℕ = c.args.bytes.now in
    subst (λ (l : List ℕ). Written c.args.out.now c.args.at t l (c.args.at + length t))
    (sym (put_mid-paste _ _ _ _ t (length t) c.copy_from_slice.ensures.after (omega arith) refl)) (written_paste c.args.out.now c.args.at t (length t) refl)
