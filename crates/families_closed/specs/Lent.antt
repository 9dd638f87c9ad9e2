-- Are the exchanges of a run closed that is lent a sheet, pairs and a block (paper 02, #112)? The exchanges are the sheet's own, then the block's rows.
use Rattle.std.specs.Prelude.{List, ℕ, Option, None, Some, Result}
use Rattle.model.specs.{Verdict.reply, Refusals.reply_from, declared.refusals.Refusal.Refusal}
use Rattle.run_input.specs.Lent.{verdict_lent, problem_with}
use Rattle.families_closed.specs.Open.{Open, none, two, first_open}
use Rattle.families_closed.specs.declared.Missing.{Missing}
pub use Rattle.model.specs.Verdict.{Reply, refusal, answered}

-- the refusal of such a run, or the first two exchanges whose product is missing
abbrev pub Told : Type 0
Told = Reply Open

abbrev pub told : Open → Told
told o = answered o

unfoldable pub closed_lent : List ℕ → List ℕ → List ℕ → Told
closed_lent b pairs block = reply (verdict_lent b pairs block) (first_open (problem_with b block))

-- the two that a search finds
abbrev pub open_of : Option Missing → Open
open_of None = none
open_of (Some m) = two m.first m.second

-- the answer of `closed`
abbrev pub means : Result (Option Missing) Refusal → Told
means = reply_from open_of
