-- The loop: the pairs before number k are made. Assumes nothing.
use Rattle.model.specs.Kit.{sym, ◌∙◌, arith, not-true, not-false}
use Rattle.families_closed.proofs.{Open.pair_parts, Open.missing_found, Open.missing_all, Testing.open_two, Testing.open_no, Codes.and_last, Codes.square_few}
use Rattle.families_closed.proofs.Symmetries.first_missing.Goals as goal

pub loop-k-init : goal.loop-k-init
loop-k-init c = λ p n e j l. absurd (omega arith)

pub is_made-requires : goal.is_made-requires
is_made-requires c =
    let q = pair_parts c.args.self.now.count c.loop-k.k (omega arith) in
    (c.requires.0, c.requires.1, c.requires.2, q.1, q.2)

pub returns-then-not-is_made : goal.returns-then-not-is_made
returns-then-not-is_made c = λ p n e.
    let q = pair_parts c.args.self.now.count c.loop-k.k (omega arith) in
    let k = missing_found p _ c.loop-k.k e (omega arith) (c.loop-k.invariant p n e)
    (sym (c.is_made.ensures p n e q.1 q.2) ∙ not-true c.is_made.result c.if-not-is_made.true-raw) in
    open_two p _ _ e k (omega arith)

pub loop-k-preserved : goal.loop-k-preserved
loop-k-preserved c = λ p n e.
    let q = pair_parts c.args.self.now.count c.loop-k.k (omega arith) in
    and_last c.loop-k.k _ (c.loop-k.invariant p n e)
    (sym (c.is_made.ensures p n e q.1 q.2) ∙ not-false c.is_made.result c.if-not-is_made.false-raw)

pub returns : goal.returns
returns c = λ p n e. open_no p _ _ e (missing_all p _ c.loop-k.k e (omega arith) (c.loop-k.invariant p n e)) (omega arith)

pub overflow_mul-k-end : goal.overflow_mul-k-end
overflow_mul-k-end c = omega (arith, square_few c.requires.1 c.requires.2)

pub nonzero_div-first : goal.nonzero_div-first
nonzero_div-first c = (pair_parts c.args.self.now.count c.loop-k.k (omega arith)).0

pub nonzero_rem-second : goal.nonzero_rem-second
nonzero_rem-second c = (pair_parts c.args.self.now.count c.loop-k.k (omega arith)).0
