-- What the code that looks for a slot answers.
use Rattle.std.specs.Prelude.{ℕ, Option, Some, None}
use Rattle.desk.specs.Queue.{Found, none_found, slot}

-- the slot that was found, if one was
abbrev pub found : Option ℕ → Found
found None = none_found
found (Some k) = slot k
