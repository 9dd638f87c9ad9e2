-- `run_search::begin` meets its contract: proofs/Begun. Assumes nothing.
use Rattle.model.specs.Kit.{ap, ◌∙◌, List, ℕ, set}
use Rattle.model.specs.Lists.{at}
use Rattle.arrays.specs.Inner.Places.{BLOCK, ASKS}
use Rattle.run_search.proofs.{Begun.compact, Begun.ready, Begun.begun_dead, Begun.begun_live}
use Rattle.run_search.proofs.begin.Goals as goal

pub index-requires : goal.index-requires
index-requires c =
    let n = ap (λ (k : List ℕ). set k ASKS c.args.asks) (c.put_block.ensures ∙ ap (λ (k : List ℕ). set k BLOCK c.args.positions) c.put_order.ensures) in
    (_, compact _ _ _ _ _ _ _ _ _ c.requires.0.3 _ n _ c.requires.1.tables_length)

pub root-requires : goal.root-requires
unfolding at
root-requires c =
    let n = ap (λ (k : List ℕ). set k ASKS c.args.asks) (c.put_block.ensures ∙ ap (λ (k : List ℕ). set k BLOCK c.args.positions) c.put_order.ensures) in
    let m = c.index.ensures _ (compact _ _ _ _ _ _ _ _ _ c.requires.0.3 _ n _ c.requires.1.tables_length) in
    (_, _, ready _ _ _ _ _ _ _ _ _ c.requires.0.3 _ n _ _ _ m _ _ c.requires.1.stack_length (c.clear.ensures.long ∙ c.requires.1.work_length))

pub returns-then-root : goal.returns-then-root
unfolding at
returns-then-root c = λ p own by l.
    let n = ap (λ (k : List ℕ). set k ASKS c.args.asks) (c.put_block.ensures ∙ ap (λ (k : List ℕ). set k BLOCK c.args.positions) c.put_order.ensures) in
    let m = c.index.ensures _ (compact _ _ _ _ _ _ _ _ _ l _ n _ c.requires.1.tables_length) in
    begun_dead _ _ _ _ _ _ _ _ _ l _ n _ _ _ m _ _ _ _ _ _ c.requires.1 c.clear.ensures (c.root.ensures _ _
    (ready _ _ _ _ _ _ _ _ _ l _ n _ _ _ m _ _ c.requires.1.stack_length (c.clear.ensures.long ∙ c.requires.1.work_length))) c.if-root.true

pub returns-else-root : goal.returns-else-root
unfolding at
returns-else-root c = λ p own by l.
    let n = ap (λ (k : List ℕ). set k ASKS c.args.asks) (c.put_block.ensures ∙ ap (λ (k : List ℕ). set k BLOCK c.args.positions) c.put_order.ensures) in
    let m = c.index.ensures _ (compact _ _ _ _ _ _ _ _ _ l _ n _ c.requires.1.tables_length) in
    begun_live _ _ _ _ _ _ _ _ _ l _ n _ _ _ m _ _ _ _ _ _ c.requires.1 c.clear.ensures (c.root.ensures _ _
    (ready _ _ _ _ _ _ _ _ _ l _ n _ _ _ m _ _ c.requires.1.stack_length (c.clear.ensures.long ∙ c.requires.1.work_length))) c.if-root.false
