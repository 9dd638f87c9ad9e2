-- `is_first`: two tests. Assumes nothing.
use Rattle.model.specs.Kit.{sym, ap, ◌∙◌, Bool, List, ℕ, []}
use Rattle.model.specs.Lists.{both, same}
use Rattle.run_join.specs.Join.{from_at}
use Rattle.run_join.proofs.Slices.{none_is}
use Rattle.run_join.proofs.ways.is_first.Goals as goal

pub returns-then-is_marked : goal.returns-then-is_marked
returns-then-is_marked c =
    c.is_empty.ensures ∙ none_is c.from.result.now ∙ ap (λ (s : List ℕ). same s []) c.from.ensures
    ∙ sym (ap (λ (b : Bool). both b (same (from_at c.args.l.now c.args.k) [])) (sym c.is_marked.ensures ∙ c.if-is_marked.true))
