-- What the answers mean: put and remove write no bytes.
use Rattle.std.specs.Prelude.{ℕ, Result, Ok, Err}
use Rattle.model.specs.{Room.Outcome, Refusals.reply_from_question}
use Rattle.model.specs.declared.{refusals.Question.Question}

abbrev pub means : Result Unit Question → Outcome
means r = reply_from_question (λ done. 0) r

abbrev pub means_bytes : Result ℕ Question → Outcome
means_bytes r = reply_from_question (λ bytes. bytes) r

-- the answer of put or remove as one with a number of bytes
abbrev pub with_none : Result Unit Question → Result ℕ Question
with_none (Ok done) = Ok 0
with_none (Err asked) = Err asked
