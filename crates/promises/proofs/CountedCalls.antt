-- A call of `run_counted` is one of `run_lent` that is lent a tally of nothing. Assumes nothing.
use Rattle.promises.specs.CountedCalls.{CountedCalls}

pub counted_calls : CountedCalls
counted_calls b pairs block limit out r after c = record { answers = c.0; leaves = c.1; counts = c.2 }
