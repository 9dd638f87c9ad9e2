-- What the functions inside the crate say to each other.
use Rattle.std.specs.Prelude.{◌^◌, ◌<◌}
use Rattle.run_enough.specs.{AtLeast.enough, AtLeast.too_few, AtLeast.unknown, Lent.EnoughAnswer}
use Rattle.run_enough.specs.Lent as L

-- the item of a refusal stands in one byte, and the two numbers of an answer in four bytes each
abbrev pub SmallSaid : EnoughAnswer → Type 0
SmallSaid (L.refusal number item) = item < 256
SmallSaid (L.answered (enough plans made)) = (plans < 2 ^ 32) × (made < 2 ^ 32)
SmallSaid (L.answered (too_few plans made)) = (plans < 2 ^ 32) × (made < 2 ^ 32)
SmallSaid (L.answered (unknown plans made)) = (plans < 2 ^ 32) × (made < 2 ^ 32)
