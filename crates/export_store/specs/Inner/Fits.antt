-- Between the functions of the crate: numbers that the code and the answer hold.
use Rattle.std.specs.Prelude.{◌^◌, ◌<◌}
use Rattle.model.specs.Room.{Outcome, answered, refusal}

abbrev pub OutcomeFits : Outcome → Type 0
OutcomeFits (answered k) = k < 2 ^ 32
OutcomeFits (refusal number item) = item < 256
