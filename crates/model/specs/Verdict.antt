-- The answer to a list of questions: accepted, or the number and the item of the first "no".
use Rattle.std.specs.Prelude.{Bool, true, false, ℕ}

pub data Verdict : Type 0 where
  accepted : Verdict
  refused : ℕ → ℕ → Verdict

-- a question: its number and item where the answer is no, else what is asked after it
abbrev pub ask : Bool → ℕ → ℕ → Verdict → Verdict
ask true number item later = later
ask false number item later = refused number item

abbrev pub is_accepted : Verdict → Bool
is_accepted accepted = true
is_accepted (refused number item) = false

-- what is told of something asked: the number and the item of the first "no", or the answer
pub data Reply (A : Type 0) : Type 0 where
  refusal : ℕ → ℕ → Reply A
  answered : A → Reply A

abbrev pub reply : {A : Type 0} → Verdict → A → Reply A
reply accepted a = answered a
reply (refused number item) a = refusal number item

-- what is there after the questions: as it came where they refuse, else what the answer leaves
abbrev pub kept : {A : Type 0} → Verdict → A → A → A
kept accepted before after = after
kept (refused number item) before after = before
