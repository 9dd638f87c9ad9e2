-- The contracts of `turn` and `rounds` (specs/Calls, specs/RoundsCalls) from what is shown of the replies and the bytes. Assumes nothing.
use Rattle.model.specs.Kit.{List, ℕ}
use Rattle.std.proofs.Common.{Option, Result}
use Rattle.model.specs.declared.{refusals.Question.Question}
use Rattle.desk.specs.{Meaning.means_turned, declared.Stands.Stands}
use Rattle.desk_turns.specs.{Meaning.means_rounds, Calls.Turned, RoundsCalls.Rounded, declared.Given.Given}
use Rattle.desk_turns.proofs.Serving as serving
use Rattle.desk_turns.proofs.Rounding as rounding

pub turned : {b c : List ℕ} {r : Result (Option Stands) Question} → serving.Turned b (means_turned r) c → Turned b c r
turned h = record { answers = h.0; leaves = h.1 }

pub rounded : {b : List ℕ} {turns : ℕ} {c : List ℕ} {r : Result Given Question} → rounding.Rounded b turns (means_rounds r) c → Rounded b turns c r
rounded h = record { answers = h.0; leaves = h.1 }
