-- `filter::load` meets its contract. Assumes nothing.
use Rattle.model.specs.Kit.{◌++◌, length, drop, List, ℕ, arith, false, sym, subst, eqb-true, eqb-false}
use Rattle.model.specs.Lists.{at}
use Rattle.filter.specs.Inner.Lists.{Loaded}
use Rattle.filter.proofs.{Copies.loaded}
use Rattle.filter.proofs.load.Goals as goal

pub returns-then-contains : goal.returns-then-contains
unfolding at
returns-then-contains c =
    let w = c.if-contains.ensures.cases in
    (w.0, w.1, eqb-true _ 0 (w.2 0))

pub returns : goal.returns
unfolding at
returns c =
    let ss = c.args.source.now in
    subst (λ (front : List ℕ). Loaded false ss (front ++ drop (length ss) c.args.target.now)) (sym c.copy_from_slice.ensures.after)
    (loaded ss c.args.target.now c.requires.0 c.requires.1 (λ x. omega (arith, c.type_inv.source x)) c.requires.2 (λ x l. eqb-false _ 0 (c.if-contains.ensures.cases x 0 (omega arith) l)))
