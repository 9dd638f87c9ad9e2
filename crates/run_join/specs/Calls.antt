-- What a caller of `join` holds.
use Rattle.std.specs.Prelude.{◌≡◌, Option, None, Some, Result, Ok, Err, List, ℕ, ◌≤◌, ◌<◌}
use Rattle.model.specs.{Lists.at, Lists.choose, Verdict.Verdict, Verdict.accepted, Verdict.refused, Verdict.Reply, Verdict.reply, Refusals.reply_from_question}
use Rattle.model.specs.declared.refusals.Question.{Question}
use Rattle.run_join.specs.Join.{join_verdict, heads_in, head_number, joined, stands, nearest, plans_of, nodes_of, count_of}
use Rattle.run_join.specs.declared.{Joining.Joining, Missing.Missing}

-- one comes to the last path; or where one stands, and the nearest beginning after it
pub data Told : Type 0 where
  nothing_missing : Told
  missing : ℕ → ℕ → Told

abbrev pub told_by : Option Missing → Told
told_by None = nothing_missing
told_by (Some m) = missing (head_number m.from) (head_number m.upto)

-- the refusal, or that
unfoldable pub answer_for : Verdict → List ℕ → Reply Told
answer_for v l = reply v (choose (joined l) nothing_missing (missing (stands l) (nearest l)))

-- the sums of the heads taken; none after a refusal
abbrev pub figure_for : Verdict → ℕ → ℕ
figure_for accepted x = x
figure_for (refused number item) x = 0

abbrev pub figure_in : (Joining → ℕ) → Result Joining Question → ℕ
figure_in figure (Ok j) = figure j
figure_in figure (Err asked) = 0

-- a call: the heads lent, and what came back. It is the function's contract
pub record CallJoin (l : List ℕ) (r : Result Joining Question) : Type 0 where
  pub answers : reply_from_question (λ j. told_by j.missing) r ≡ answer_for (join_verdict l) l
  -- the heads that it names are among those lent
  pub inside : (j : Joining) (m : Missing) → r ≡ Ok j → j.missing ≡ Some m → (head_number m.from ≤ heads_in l) × (head_number m.upto ≤ heads_in l)
  pub plans : figure_in (λ j. j.plans) r ≡ figure_for (join_verdict l) (plans_of l)
  pub nodes : figure_in (λ j. j.nodes) r ≡ figure_for (join_verdict l) (nodes_of l)
  pub counts : (x : ℕ) → x < 12 → figure_in (λ j. at j.counts x) r ≡ figure_for (join_verdict l) (count_of l x)
