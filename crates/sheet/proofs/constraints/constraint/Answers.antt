use Rattle.std.proofs.lemmas.Result.{err_from_is_err_and}
use Rattle.model.specs.Kit.{arith}
use Rattle.sheet.proofs.ConstraintTurn.{few, product, refused_9, refused_10, refused_9_later, refused_11, refused_rows, passed}
use Rattle.sheet.proofs.constraints.constraint.Goals as goal

pub returns-then-third-o : goal.returns-then-third-o
returns-then-third-o c = refused_9 _ _ _ _ _ _ _ _ c.requires.3 c.if-third-o.true

pub returns-then-not-counts_fit : goal.returns-then-not-counts_fit
returns-then-not-counts_fit c = refused_10 _ _ _ _ _ _ _ _ c.requires.3 c.if-third-o.false _ _
    c.read_word-a.ensures c.read_word-r.ensures _ c.counts_fit.ensures c.if-not-counts_fit.true

pub overflow_add-from-2 : goal.overflow_add-from-2
overflow_add-from-2 c = omega (
  arith,
  few c.read_word-a.result c.read_word-r.result _ c.counts_fit.ensures c.if-not-counts_fit.false,
  c.requires.4,
  c.requires.0.third,
  c.requires.3,
  c.well_formed,
)

pub overflow_mul-next : goal.overflow_mul-next
overflow_mul-next c = omega (
  arith,
  few c.read_word-a.result c.read_word-r.result _ c.counts_fit.ensures c.if-not-counts_fit.false,
  product
      c.read_word-a.result c.read_word-r.result _ c.counts_fit.ensures c.if-not-counts_fit.false,
)

pub overflow_mul-next-2 : goal.overflow_mul-next-2
overflow_mul-next-2 c = omega (
  arith,
  few c.read_word-a.result c.read_word-r.result _ c.counts_fit.ensures c.if-not-counts_fit.false,
  product
      c.read_word-a.result c.read_word-r.result _ c.counts_fit.ensures c.if-not-counts_fit.false,
)

pub overflow_add-next : goal.overflow_add-next
overflow_add-next c = omega (
  arith,
  few c.read_word-a.result c.read_word-r.result _ c.counts_fit.ensures c.if-not-counts_fit.false,
  product
      c.read_word-a.result c.read_word-r.result _ c.counts_fit.ensures c.if-not-counts_fit.false,
  c.requires.4,
  c.requires.0.third,
  c.requires.3,
  c.well_formed,
)

pub returns-then-third-next : goal.returns-then-third-next
returns-then-third-next c = refused_9_later _ _ _ _ _ _ _ _ c.requires.3 c.if-third-o.false _ _
    c.read_word-a.ensures c.read_word-r.ensures _ c.counts_fit.ensures c.if-not-counts_fit.false
    c.if-third-next.true

pub scope-requires : goal.scope-requires
scope-requires c =
    let f = few c.read_word-a.result c.read_word-r.result _ c.counts_fit.ensures
    c.if-not-counts_fit.false in (
      f.0,
      f.1,
      omega (arith, c.requires.1, c.requires.0.few),
      c.requires.5,
      omega (
        arith,
        c.if-third-next.false,
        c.requires.0.third,
        c.requires.3,
      ),
    )

pub returns-then-not-scope : goal.returns-then-not-scope
returns-then-not-scope c = refused_11 _ _ _ _ _ _ _ _ c.requires.3
    c.if-third-o.false _ _ c.read_word-a.ensures
    c.read_word-r.ensures _ c.counts_fit.ensures
    c.if-not-counts_fit.false c.if-third-next.false _
    c.requires.1 _ c.scope.ensures c.if-not-scope.true

pub ask-requires : goal.ask-requires
ask-requires c =
    let f = few c.read_word-a.result c.read_word-r.result _
    c.counts_fit.ensures c.if-not-counts_fit.false in (
      f.0,
      f.1,
      f.2,
      omega (
        arith,
        c.requires.2,
        c.requires.0.sixteen,
      ),
      omega (
        arith,
        c.if-third-next.false,
        c.requires.0.third,
        c.requires.3,
      ),
      omega
          (arith, c.requires.5),
    )

pub returns-in_err-ask : goal.returns-in_err-ask
returns-in_err-ask c =
    let p = err_from_is_err_and c.from_residual.result c.from_residual.ensures.1 in
    rw (p.1, p.2)
    (refused_rows _ _ _ _ _ _ _ _ c.requires.3 c.if-third-o.false _ _ c.read_word-a.ensures c.read_word-r.ensures _ c.counts_fit.ensures c.if-not-counts_fit.false
    c.if-third-next.false _ c.requires.1 _ c.scope.ensures c.if-not-scope.false _ c.requires.2 (omega (arith, c.requires.2, c.requires.0.sixteen)) _ c.ask.ensures _ c.in_err-ask.was)

pub returns : goal.returns
returns c =
    passed _ _ _ _ _ _ _ _ c.requires.3 c.if-third-o.false _ _ c.read_word-a.ensures c.read_word-r.ensures _ c.counts_fit.ensures c.if-not-counts_fit.false
    c.if-third-next.false _ c.requires.1 _ c.scope.ensures c.if-not-scope.false _ c.requires.2 (omega (arith, c.requires.2, c.requires.0.sixteen)) _ c.ask.ensures c.in_ok-ask.was
