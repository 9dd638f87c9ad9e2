-- `put_short`: after i turns the buffer has the first i bytes at the place. Assumes nothing.
use Rattle.model.specs.Kit.{◌≡◌, refl, sym, ap, ◌∙◌, List, ℕ, ◌+◌, ◌<◌, add-one, arith, length, get_or, set, length-set}
use Rattle.model.specs.Written.{Written}
use lib.Seq.{paste, paste-zero, paste-suc}
use Rattle.model.proofs.Written.{written_paste}
use Rattle.list_merge.proofs.put_short.Goals as goal

-- a turn stores one byte more
turn : (d : List ℕ) (at : ℕ) (t : List ℕ) (i : ℕ) (o : List ℕ) → at + i < length d → i < length t → o ≡ paste d at t i → set o (at + i) (get_or t i 0) ≡ paste d at t (i + 1)
turn d at t i o h k e = ap (λ (l : List ℕ). set l (at + i) (get_or t i 0)) e ∙ paste-suc d at t i 0 h k ∙ ap (paste d at t) (sym (add-one i))

whole : (d : List ℕ) (at : ℕ) (t : List ℕ) (i : ℕ) (o : List ℕ) → i ≡ length t → o ≡ paste d at t i → Written d at t o (at + length t)
whole d at t i o e p = rw (p, sym e) (written_paste d at t i e)

pub loop-i-init : goal.loop-i-init
loop-i-init c = (paste-zero c.args.out.now c.args.at c.args.row.now, refl)

pub loop-i-preserved : goal.loop-i-preserved
loop-i-preserved c =
    (turn c.args.out.now c.args.at c.args.row.now c.loop-i.i c.loop-i.out (omega arith) (omega arith) c.loop-i.invariant.0, simp length-set c.loop-i.invariant.1)

pub returns : goal.returns
returns c = whole c.args.out.now c.args.at c.args.row.now c.loop-i.i c.loop-i.out (omega arith) c.loop-i.invariant.0

pub shape_of-out : goal.shape_of-out
shape_of-out c = c.loop-i.invariant.1
