-- What callers of `rounds` hold: the contract. b are the queue's bytes before and c after the call, r came back.
use Rattle.std.specs.Prelude.{◌≡◌, List, ℕ, Result}
use Rattle.model.specs.declared.{refusals.Question.Question}
use Rattle.desk.specs.Inner.Layout.{rounds_on, rounds_after}
use Rattle.desk_turns.specs.{Meaning.means_rounds, declared.Given.Given}

pub record Rounded (b : List ℕ) (turns : ℕ) (c : List ℕ) (r : Result Given Question) : Type 0 where
  pub answers : means_rounds r ≡ rounds_on b turns
  pub leaves : c ≡ rounds_after b turns
