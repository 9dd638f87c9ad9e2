-- The memo of a run, in `work` from MEMO on: what is kept of the nodes below a prefix that were all walked along.
use Rattle.std.specs.Prelude.{◌≡◌, List, [], ◌∷◌, map, ℕ, suc, ◌+◌, ◌-◌, ◌*◌, ◌%◌, ◌≤◌, ◌<◌, T, eqb, length}
use Rattle.model.specs.{Lists.at, Lists.keep, Lists.tabulate, Inner.Filling.Gathered, Problem.Problem, Search.sets_at, Search.is_live, Search.nodes_below, Search.is_plan, Run.settled_by}
use Rattle.model.specs.{Run.counts_by}
use Rattle.order.specs.Reordered.{write}
use Rattle.arrays.specs.Inner.Places.{ENTAILED, OBEYED, PLANS, MEMO, ENTRY, ENTRIES, DEPTH, LOW, GOOD, NODES, LENGTH, ROWS, FIRST, SETS, ENDS, COUNTS}
use Rattle.prune_symmetries.specs.Inner.Levels.{Mark}
use Rattle.run_cut.specs.Parts.{last_of}

-- what g marks of a depth k say: up to which level the lists that are not obeyed for good say nothing more, and which lists are
pub record MarksRead (marks : ℕ → ℕ) (g k low good : ℕ) : Type 0 where
  pub within : low ≤ k
  pub passed : (e : ℕ) → e < g → (marks e ≡ OBEYED → ⊥) → low ≤ marks e % ENTAILED
  pub obeyed : Gathered (λ e. eqb (marks e) OBEYED) g good

-- the nodes below a prefix
abbrev pub subtree : Problem → List ℕ → List (List ℕ)
subtree p b = nodes_below p (p.variables - length b) b

-- rows of n bytes stand in a list one behind the other, the first as number i
unfoldable pub Stand : ℕ → ℕ → List (List ℕ) → List ℕ → Type 0
Stand n i [] list = Unit {0}
Stand n i (row ∷ rows) list = ((j : ℕ) → j < n → at list (i * n + j) ≡ at row j) × Stand n (suc i) rows list

-- the plans below a prefix
abbrev pub plans_below : Problem → List ℕ → List (List ℕ)
plans_below p b = keep (is_plan p) (subtree p b)

-- the entry at s keeps the subtree of the live prefix b, whose marks are right: its key, its figures, and where its plans stand in a list that has bytes
pub record Kept (p own : Problem) (order work list : List ℕ) (s : ℕ) : Type 0 where
  pub prefix : List ℕ
  pub marks : ℕ → ℕ
  pub live : T (is_live p prefix)
  pub inner : length prefix < p.variables
  pub narrow : p.variables ≤ 12
  pub right : (e : ℕ) → e < length own.symmetries → Mark own (sets_at p prefix) prefix e (marks e)
  pub depth : at work (s + DEPTH) ≡ length prefix
  pub read : MarksRead marks (length own.symmetries) (length prefix) (at work (s + LOW)) (at work (s + GOOD))
  pub sets : (x : ℕ) → x < p.variables → at work (s + SETS + x) ≡ at (sets_at p prefix) x
  pub nodes : at work (s + NODES) ≡ length (subtree p prefix)
  pub some : 0 < at work (s + NODES)
  pub rows : at work (s + ROWS) ≡ length (plans_below p prefix)
  pub past : at work (s + FIRST) + at work (s + ROWS) ≤ at work PLANS
  pub stand : (length list ≡ 0 → ⊥) → Stand p.variables (at work (s + FIRST)) (map (write order) (plans_below p prefix)) list
  pub counts : (x : ℕ) → x < 12 → at work (s + COUNTS + x) ≡ at (counts_by (λ t. at order (settled_by t)) (subtree p prefix)) x
  pub last : (path : List ℕ) → last_of path (subtree p prefix) ≡ tabulate (at work (s + LENGTH)) (λ x. at work (s + ENDS + x))
  pub deep : length prefix ≤ at work (s + LENGTH)
  pub short : at work (s + LENGTH) ≤ 12

-- where entry i stands
abbrev pub entry_at : ℕ → ℕ
entry_at i = MEMO + ENTRY * i

-- each entry that holds something keeps a subtree
abbrev pub Remembers : Problem → Problem → List ℕ → List ℕ → List ℕ → Type 0
Remembers p own order work list = (i : ℕ) → i < ENTRIES → (at work (entry_at i + DEPTH) ≡ 0 → ⊥) → Kept p own order work list (entry_at i)
