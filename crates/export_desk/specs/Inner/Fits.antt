-- Between the functions of the crate: numbers that the code and an answer of n bytes hold.
use Rattle.std.specs.Prelude.{◌≡◌, ℕ, ◌^◌, ◌<◌}
use Rattle.desk.specs.Queue.{QueueReply, refusal, answered, queued, idle, served, released}

-- of a reply
abbrev pub ReplyFits : QueueReply → ℕ → Type 0
ReplyFits (refusal number item) n = item < 256
ReplyFits (answered (queued k)) n = (n ≡ 12) × (k < 2 ^ 32)
ReplyFits (answered idle) n = n ≡ 16
ReplyFits (answered (served k s plans made)) n = (n ≡ 16) × (k < 2 ^ 32) × (plans < 2 ^ 32) × (made < 2 ^ 32)
ReplyFits (answered (released count room)) n = (n ≡ 12) × (count < 2 ^ 32)

-- of what the status replies, with the counts behind it
abbrev pub StatusFits : QueueReply → ℕ → Type 0
StatusFits (refusal number item) n = item < 256
StatusFits (answered (queued k)) n = Unit {0}
StatusFits (answered idle) n = Unit {0}
StatusFits (answered (served k s plans made)) n = (n ≡ 64) × (k < 2 ^ 32) × (plans < 2 ^ 32) × (made < 2 ^ 32)
StatusFits (answered (released count room)) n = Unit {0}
