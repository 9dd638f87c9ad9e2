-- The answers to questions that are put to a sheet in parts (paper 01).
use Rattle.std.specs.Prelude.{◌≡◌, Bool, List, ℕ}
use Rattle.model.specs.{Lists.all, Verdict.Verdict, Verdict.accepted, Verdict.refused, Verdict.ask, Verdict.is_accepted, Sheet.problem_of, Sheet.form_verdict, Sheet.permutes_pairs}

-- the verdict of some questions, and then of those asked after them
abbrev pub and_then : Verdict → Verdict → Verdict
and_then accepted later = later
and_then (refused number item) later = refused number item

-- the verdict of the questions of a part alone: their first "no", or that there is none
abbrev pub Answers : (Verdict → Verdict) → Verdict → Type 0
Answers part v = (later : Verdict) → part later ≡ and_then v later

-- whether bytes pass questions 1 to 15: what compiling them needs
unfoldable pub compilable : List ℕ → Bool
compilable b = is_accepted (form_verdict b (ask (all (permutes_pairs (problem_of b)) (problem_of b).symmetries) 15 0 accepted))
