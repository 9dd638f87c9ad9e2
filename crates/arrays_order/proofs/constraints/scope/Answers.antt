-- By the number of names. Assumes nothing.
use Rattle.model.specs.Kit.{ap, arith, length}
use Rattle.arrays_order.proofs.{Tables.framed_none, Sorts.stays_1, Scopes.scope_one, Scopes.scope_two, Scopes.scope_three, Scopes.for_names}
use Rattle.arrays_order.proofs.constraints.scope.Goals as goal

pub returns-then-a-eq1 : goal.returns-then-a-eq1
returns-then-a-eq1 c = (
  λ names s. (let q = scope_one _ _ names s _ c.arity-a.ensures _ _ c.scope_at.ensures c.entry-x.ensures c.if-a-eq1.true in
      for_names names _ _ _ _ _ q.1 (stays_1 _ _ _ q.0).0),
  framed_none _ _,
)

pub entry-y-requires : goal.entry-y-requires
entry-y-requires c =
    omega (arith, c.scope_at-2.ensures, c.requires.1.variable 1 (omega (arith, c.requires.1.arity, c.requires.1.some, c.arity-a.ensures, c.if-a-eq1.false)))

pub two-requires : goal.two-requires
two-requires c =
    let q = scope_two _ _ _ c.requires.1 _ c.arity-a.ensures _ _ c.scope_at.ensures c.entry-x.ensures _ _
    c.scope_at-2.ensures c.entry-y.ensures c.if-a-eq2.true in
    (q.0, q.1, q.2)

pub returns-then-a-eq2 : goal.returns-then-a-eq2
returns-then-a-eq2 c = (
  λ names s. (let q = scope_two _ _ names s _ c.arity-a.ensures _ _ c.scope_at.ensures c.entry-x.ensures _ _ c.scope_at-2.ensures
      c.entry-y.ensures c.if-a-eq2.true in
      for_names names _ _ _ _ _ q.3 c.two.ensures.0),
  c.two.ensures.1,
)

pub entry-z-requires : goal.entry-z-requires
entry-z-requires c =
    omega (arith, c.scope_at-3.ensures, c.requires.1.variable 2 (omega (arith, c.requires.1.arity, c.requires.1.some, c.arity-a.ensures, c.if-a-eq1.false, c.if-a-eq2.false)))

pub three-requires : goal.three-requires
three-requires c =
    let q = scope_three _ _ _ c.requires.1 _ c.arity-a.ensures _ _ c.scope_at.ensures c.entry-x.ensures _ _
    c.scope_at-2.ensures c.entry-y.ensures _ _ c.scope_at-3.ensures c.entry-z.ensures
    c.if-a-eq1.false c.if-a-eq2.false in
    (c.requires.2 (ap length q.6), q.0, q.1, q.2, q.3, q.4, q.5)

pub returns : goal.returns
returns c = (
  λ names s. (let q = scope_three _ _ names s _ c.arity-a.ensures _ _ c.scope_at.ensures c.entry-x.ensures _ _
      c.scope_at-2.ensures c.entry-y.ensures _ _
      c.scope_at-3.ensures c.entry-z.ensures
      c.if-a-eq1.false c.if-a-eq2.false in
      for_names names _ _ _ _ _ q.6 c.three.ensures.0),
  c.three.ensures.1,
)

pub entry-x-requires : goal.entry-x-requires
entry-x-requires c = omega (arith, c.scope_at.ensures, c.requires.1.variable 0 c.requires.1.some)
