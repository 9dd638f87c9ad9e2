use Rattle.model.specs.Kit.{◌≡◌, arith}
use Rattle.sheet.proofs.{RowTurn.key_one, RowTurn.key_two, RowTurn.key_three, RowTurn.key_bad}
use Rattle.sheet.proofs.rows.key.Goals as goal

pub returns-then-d-v : goal.returns-then-d-v
returns-then-d-v c = key_bad _ _ _ _ 0 _ _ c.requires.0 c.if-d-v.true (omega arith) c.read_word-v.ensures

pub returns-then-a-eq1 : goal.returns-then-a-eq1
returns-then-a-eq1 c = key_one _ _ _ _ c.requires.2 _ c.if-d-v.false c.read_word-v.ensures c.if-a-eq1.true

pub returns-then-d-w : goal.returns-then-d-w
returns-then-d-w c = key_bad _ _ _ _ 1 _ _ (omega (arith, c.requires.0)) c.if-d-w.true (omega arith) c.read_word-w.ensures

pub returns-then-a-eq2 : goal.returns-then-a-eq2
returns-then-a-eq2 c =
    key_two _ _ _ _ c.requires.2 _ c.if-d-v.false c.read_word-v.ensures _ c.if-d-w.false c.read_word-w.ensures c.if-a-eq2.true

pub returns-then-d-u : goal.returns-then-d-u
returns-then-d-u c = key_bad _ _ _ _ 2 _ _ (omega (arith, c.requires)) c.if-d-u.true (omega arith) c.read_word-u.ensures

pub returns : goal.returns
returns c =
    let three : c.args.a ≡ 3 = omega (arith, c.if-a-eq1.false, c.if-a-eq2.false, c.requires) in
    key_three _ _ _ _ c.requires.2 _ c.if-d-v.false c.read_word-v.ensures _ c.if-d-w.false c.read_word-w.ensures _ c.if-d-u.false c.read_word-u.ensures three
