-- A run: the nodes of the tree in their order, up to where it ends (paper 01, "The search").
use Rattle.std.specs.Prelude.{true, false, List, [], ◌∷◌, ◌++◌, ℕ, zero, suc, ◌-◌, ◌*◌, length, take, drop, leb, eqb}
use Rattle.model.specs.{Lists.keep, Lists.flat, Lists.tabulate, Problem.Problem, Search.nodes, Search.is_plan, Verdict.reply, Verdict.kept, Sheet.verdict_of, Sheet.problem_of}
pub use Rattle.model.specs.Verdict.{Reply, refusal, answered}

-- how a run ends; each ending carries the plans listed and the nodes made (the paper's trial figure)
pub data Ending : Type 0 where
  finished : ℕ → ℕ → Ending
  spent : ℕ → ℕ → Ending
  full : ℕ → ℕ → Ending

abbrev pub plans_in : Ending → ℕ
plans_in (finished plans made) = plans
plans_in (spent plans made) = plans
plans_in (full plans made) = plans

abbrev pub nodes_in : Ending → ℕ
nodes_in (finished plans made) = made
nodes_in (spent plans made) = made
nodes_in (full plans made) = made

pub record Result : Type 0 where
  pub ending : Ending
  pub rows : List (List ℕ)

-- a walk along the nodes that are left, after `made` nodes that listed `rows`; limit is the paper's allowance, room the list's length in bytes
unfoldable pub search : Problem → ℕ → ℕ → List (List ℕ) → ℕ → List (List ℕ) → Result
search p limit room [] made rows = record { ending = finished (length rows) made; rows = rows }
search p limit room (t ∷ ts) made rows =
    elim (eqb made limit) [
      | true ↦ record { ending = spent (length rows) made; rows = rows }
      | false ↦
          elim (is_plan p t) [
            | false ↦ search p limit room ts (suc made) rows
            | true ↦
                elim (leb (suc (length rows) * p.variables) room) [
                  | false ↦ record { ending = full (length rows) (suc made); rows = rows }
                  | true ↦
                      search p limit room ts (suc made) (rows ++ (t ∷ []))
                ]
          ]
    ]

unfoldable pub result_of : Problem → ℕ → ℕ → Result
result_of p limit room = search p limit room (nodes p) 0 []

-- ---- what a caller holds
-- what a run answers: the number and item of a refusal, or how it ended
abbrev pub Answer : Type 0
Answer = Reply Ending

abbrev pub ended : Ending → Answer
ended e = answered e

unfoldable pub answer_of : List ℕ → ℕ → List ℕ → Answer
answer_of b limit out = reply (verdict_of b) (result_of (problem_of b) limit (length out)).ending

-- the caller's list after the run: the rows at its front, all bytes after them as they came
unfoldable pub written : List (List ℕ) → List ℕ → List ℕ
written rows out = flat rows ++ drop (length (flat rows)) out

unfoldable pub list_of : List ℕ → ℕ → List ℕ → List ℕ
list_of b limit out = kept (verdict_of b) out (written (result_of (problem_of b) limit (length out)).rows out)

-- ---- the tally
-- the nodes made, and of these the nodes that settle each of twelve variables (paper 02, #107: trials by place)
pub record Tally : Type 0 where
  pub nodes : ℕ
  pub counts : List ℕ

-- a node settles the variable of its last value
abbrev pub settled_by : List ℕ → ℕ
settled_by node = length node - 1

-- twelve counts: how many elements f takes to 0, to 1, .. to 11
unfoldable pub counts_by : {A : Type 0} → (A → ℕ) → List A → List ℕ
counts_by f l = tabulate 12 (λ x. length (keep (λ a. eqb (f a) x) l))

-- the tally of the first k nodes of the tree
unfoldable pub tally_at : Problem → ℕ → Tally
tally_at p k = record { nodes = k; counts = counts_by settled_by (take k (nodes p)) }

-- the caller's tally after the run: that of the nodes made, or as it came where the sheet was refused
abbrev pub tally_for : Answer → (ℕ → Tally) → Tally → Tally
tally_for (refusal number item) made tally = tally
tally_for (answered e) made tally = made (nodes_in e)

unfoldable pub tally_of : List ℕ → ℕ → List ℕ → Tally → Tally
tally_of b limit out tally = tally_for (answer_of b limit out) (tally_at (problem_of b)) tally

-- the listed plans: k rows of n bytes at the front of the list
unfoldable pub listed_plans : ℕ → ℕ → List ℕ → List (List ℕ)
listed_plans n zero out = []
listed_plans n (suc k) out = take n out ∷ listed_plans n k (drop n out)
