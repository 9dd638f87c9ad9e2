use Rattle.model.specs.Kit.{◌≡◌, sym, ◌∙◌, ◌^◌, ◌<◌, lt_of_le_of_lt, arith, lit<, length, count_trailing_zeros}
use Rattle.model.specs.Problem.{Problem, constraint_at}
use lib.Count.{trailing_le}
use Rattle.sheet_table.specs.Inner.Forbidden.{Triple, refused_by}
use Rattle.model.proofs.Members.{rest_less}
use Rattle.sheet_carried.proofs.{Asking.pending_start, Asking.pending_next, Asking.pending_stop, Asking.pending_rest, Asking.pending_none}
use Rattle.sheet_carried.proofs.forbidden.any_refuses.Goals as goal

pub loop-pending-init : goal.loop-pending-init
loop-pending-init c = λ p t h. pending_start p _ _ _ _ _ t _ h

pub returns-then-refused : goal.returns-then-refused
returns-then-refused c =
    let asked : (p : Problem) (t : Triple p c.args.numbers.now c.args.supports.now c.args.a c.args.b c.args.e) → c.args.set < 2 ^ length p.constraints →
    c.refused.result ≡ refused_by (constraint_at p (count_trailing_zeros 64 c.loop-pending.pending)) c.args.a c.args.b c.args.e =
    λ p t h. c.refused.ensures p t.ready (pending_next p _ _ _ _ _ t _ _ (c.loop-pending.invariant p t h) c.loop-pending-test.true) in
    λ p t h. pending_stop p _ _ _ _ _ t _ _ (c.loop-pending.invariant p t h) c.loop-pending-test.true (sym (asked p t h) ∙ c.if-refused.true)

pub loop-pending-preserved : goal.loop-pending-preserved
loop-pending-preserved c =
    let asked : (p : Problem) (t : Triple p c.args.numbers.now c.args.supports.now c.args.a c.args.b c.args.e) → c.args.set < 2 ^ length p.constraints →
    c.refused.result ≡ refused_by (constraint_at p (count_trailing_zeros 64 c.loop-pending.pending)) c.args.a c.args.b c.args.e =
    λ p t h. c.refused.ensures p t.ready (pending_next p _ _ _ _ _ t _ _ (c.loop-pending.invariant p t h) c.loop-pending-test.true) in
    λ p t h. pending_rest p _ _ _ _ _ t _ _ (c.loop-pending.invariant p t h) c.loop-pending-test.true (sym (asked p t h) ∙ c.if-refused.false)

pub returns : goal.returns
returns c = λ p t h. pending_none p _ _ _ _ _ t _ _ (c.loop-pending.invariant p t h) c.loop-pending-test.false

pub overflow_cast-k : goal.overflow_cast-k
overflow_cast-k c = record { fits = lt_of_le_of_lt (trailing_le 64 _) (lit< tt) }

pub refused-requires : goal.refused-requires
refused-requires c = (c.requires.0, c.requires.1.ready, pending_next c.requires.0 _ _ _ _ _ c.requires.1 _ _ (c.loop-pending.invariant c.requires.0 c.requires.1 c.requires.2) c.loop-pending-test.true)

pub loop-pending-smaller : goal.loop-pending-smaller
loop-pending-smaller c = rest_less _ c.loop-pending-test.true
