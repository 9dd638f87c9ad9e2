-- What a run says of "at least m plans" (paper 02, #101).
use Rattle.std.specs.Prelude.{List, ℕ}
use Rattle.model.specs.{Verdict.reply, Run.finished, Run.spent, Run.full, Run.Answer, Run.refusal, Run.answered}
use Rattle.run_input.specs.Lent.{verdict_lent}
use Rattle.run_enough.specs.{AtLeast.enough, AtLeast.too_few, AtLeast.unknown, Lent.EnoughAnswer}

-- where no plan is asked for
unfoldable pub enough_none : List ℕ → List ℕ → List ℕ → EnoughAnswer
enough_none b pairs block = reply (verdict_lent b pairs block) (enough 0 0)

-- what a run with room for one plan less than m says
abbrev pub enough_for : Answer → ℕ → EnoughAnswer
enough_for (refusal number item) m = refusal number item
enough_for (answered (finished plans nodes)) m = answered (too_few plans nodes)
enough_for (answered (spent plans nodes)) m = answered (unknown plans nodes)
enough_for (answered (full plans nodes)) m = answered (enough m nodes)
