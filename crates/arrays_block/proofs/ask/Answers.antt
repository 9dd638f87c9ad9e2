use Rattle.model.specs.Kit.{sym, ap, ◌∙◌}
use Rattle.std.specs.Prelude.{Err}
use Rattle.model.specs.{Refusals.verdict_from, declared.refusals.Refusal.Refusal}
use Rattle.model.proofs.Lists.{T_of}
use Rattle.arrays_block.proofs.{Asking.variables_are, Asking.block_no}
use Rattle.arrays_block.proofs.ask.Goals as goal

pub returns-then-not-is_block : goal.returns-then-not-is_block
returns-then-not-is_block c = λ p h.
    ap (λ (by : Refusal). verdict_from (Err by)) c.into.ensures ∙ block_no p _ _ h _ _ (sym (c.is_block.ensures p (variables_are p _ _ h)) ∙ c.if-not-is_block.true)

pub returns : goal.returns
returns c = λ p h. c.trades.ensures p h (T_of _ (sym (c.is_block.ensures p (variables_are p _ _ h)) ∙ c.if-not-is_block.false))

pub trades-requires : goal.trades-requires
trades-requires c = (c.requires.0.0, c.requires.0.1, T_of _ (sym (c.is_block.ensures c.requires.0.0 (variables_are c.requires.0.0 _ _ c.requires.0.1)) ∙ c.if-not-is_block.false))
