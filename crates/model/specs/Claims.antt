-- What question 16 shows and what a sheet with one exchange more is answered, in the paper's words; and the words of the filter, of the sets at a prefix and of the
-- second and the third demand, in which filter and promises state them. The proofs are in proofs/Demands.antt and OneMoreAccepted.antt.
use Rattle.std.specs.Prelude.{◌≡◌, Bool, false, not, List, ◌++◌, map, ℕ, suc, ◌+◌, ◌-◌, ◌*◌, ◌^◌, ◌≤◌, ◌<◌, length, take, drop, replicate, T, leb}
use Rattle.model.specs.Kit.{Memᴰ}
use Rattle.model.specs.{Lists.any, Lists.at, Lists.keep, Lists.flat, Lists.below, Lists.both, Lists.earlier, Bytes.two_bytes, ValueSets.has, ValueSets.any_empty, Problem.Problem}
use Rattle.model.specs.{Problem.Constraint, Problem.is_solution, Problem.assignments, Problem.takes, Problem.respects, Verdict.accepted, Verdict.ask, Sheet.words, Sheet.problem_of, Sheet.header_of}
use Rattle.model.specs.{Sheet.verdict_of, Sheet.permutes_pairs, Nogood.Entry, Nogood.filtered, Search.entries_of, Search.row_with, Search.nodes, Search.is_plan, Run.Ending, Run.finished, Run.spent}
use Rattle.model.specs.{Run.full, Run.plans_in, Run.list_of, Run.listed_plans}

-- ---- the filter
-- a gives each variable a value of its set
abbrev pub Drawn : List ℕ → List ℕ → Type 0
Drawn ds a = (length a ≡ length ds) × ((x : ℕ) → x < length ds → T (has (at ds x) (at a x)))

-- ---- question 16
-- the exchanges of an accepted sheet permute its pairs and respect it
abbrev pub SymmetriesRespect : Type 0
SymmetriesRespect =
    (b : List ℕ) → verdict_of b ≡ accepted → (g : List ℕ) → Memᴰ g (problem_of b).symmetries → T (permutes_pairs (problem_of b) g) × T (respects (problem_of b) g)

-- ---- the sets at a prefix
-- a prefix gives values to variables 0, 1, ..; in another order (paper 02, #108) its value j is that of variable `name j`
abbrev pub nogoods_in : (ℕ → ℕ) → Problem → List ℕ → List ℕ → List Entry
nogoods_in name p g prefix = flat (map (λ j. entries_of p g (name j) (at prefix j)) (below (length prefix)))

-- sets inside the initial ones, given the prefix's variables fixed, in which every value of each constraint's variable has a row of that constraint
-- inside the sets, and the filter for each symmetry's list takes nothing away
pub record Consistent (name : ℕ → ℕ) (p : Problem) (prefix ds : List ℕ) : Type 0 where
  pub sized : length ds ≡ p.variables
  pub sixteen : (x : ℕ) → at ds x < 2 ^ 16
  pub inside : (x v : ℕ) → T (has (at ds x) v) → T (has (at p.initial x) v)
  pub given : (j v : ℕ) → j < length prefix → T (has (at ds (name j)) v) → v ≡ at prefix j
  pub rows : (c : Constraint) → Memᴰ c p.constraints → (x v : ℕ) → Memᴰ x c.scope → T (has (at ds x) v) → T (any (row_with ds x v c.scope) c.rows)
  pub filters : (g : List ℕ) → Memᴰ g p.symmetries → filtered ds (nogoods_in name p g prefix) ≡ ds

-- the sets ds at a live prefix are the largest such sets; at a dead one all are empty, and any such sets have an empty one among them
abbrev pub Largest : (ℕ → ℕ) → Problem → List ℕ → Bool → List ℕ → Type 0
Largest name p prefix live ds =
    (T live → Consistent name p prefix ds × ((es : List ℕ) → Consistent name p prefix es → (x v : ℕ) → T (has (at es x) v) → T (has (at ds x) v)))
    × (live ≡ false → (ds ≡ replicate p.variables 0) × ((es : List ℕ) → Consistent name p prefix es → T (any_empty es)))

-- ---- demands 2 and 3: the words in which they are stated, of a run in any order of the variables
-- the plans that a caller finds in its list after a run that ended so
abbrev pub plans_held : List ℕ → ℕ → List ℕ → Ending → List (List ℕ)
plans_held b limit out e = listed_plans (problem_of b).variables (plans_in e) (list_of b limit out)

-- s is a leader: a solution onto which no symmetry takes a solution that reads earlier; `less` says which of two rows reads earlier (paper 01: `earlier`)
pub record Leader (less : List ℕ → List ℕ → Bool) (p : Problem) (s : List ℕ) : Type 0 where
  pub solves : T (is_solution p s)
  pub unbeaten : (g t : List ℕ) → Memᴰ g p.symmetries → T (is_solution p t) → T (less t s) → T (takes p g t s) → ⊥

-- the same as a test: every solution is one of the assignments
abbrev pub is_leader : (List ℕ → List ℕ → Bool) → Problem → List ℕ → Bool
is_leader less p s =
    both (is_solution p s)
    (not (any (λ g. any (λ t. both (is_solution p t) (both (less t s) (takes p g t s))) (assignments p.initial)) p.symmetries))

-- the leaders in reading order, each once
abbrev pub leaders : Problem → List (List ℕ)
leaders p = keep (is_leader earlier p) (assignments p.initial)

-- from a to c by symmetries, one after another, each step giving a solution that reads later than the one before
pub data Chain (less : List ℕ → List ℕ → Bool) (p : Problem) (a : List ℕ) : List ℕ → Type 0 where
  here : Chain less p a a
  step : (b c g : List ℕ) → Chain less p a b → Memᴰ g p.symmetries → T (takes p g b c) → T (is_solution p c) → T (less b c) → Chain less p a c

-- how many of the tree's first k nodes are plans
abbrev pub plans_among : Problem → ℕ → ℕ
plans_among p k = length (keep (is_plan p) (take k (nodes p)))

-- the counts are those of the tree up to where the run ended:
-- a finished run made every node; a spent one as many as the limit, and a further node is due; a full one ended on a plan that found no room
abbrev pub CountsAt : Problem → ℕ → ℕ → Ending → Type 0
CountsAt p limit room (finished plans made) = (made ≡ length (nodes p)) × (plans_among p made ≡ plans)
CountsAt p limit room (spent plans made) = (made ≡ limit) × (made < length (nodes p)) × (plans_among p made ≡ plans)
CountsAt p limit room (full plans made) = (room < suc plans * p.variables) × (plans_among p made ≡ suc plans) × (plans_among p (made - 1) ≡ plans)

-- ---- one exchange more
-- the length of a sheet that has the table t more
abbrev pub size_with : List ℕ → List ℕ → ℕ
size_with b t = (header_of b).size + length t

-- sheet c has one exchange more than b: the table t stands at place k among them, g and the length are raised to fit,
-- and all other bytes are the same in the same order
abbrev pub OneMore : List ℕ → List ℕ → ℕ → List ℕ → Type 0
OneMore b c k t =
    (k ≤ (header_of b).symmetries) × (length t ≡ 2 * ((header_of b).variables * (header_of b).values)) ×
    (c ≡ take 6 b ++ two_bytes ((header_of b).symmetries + 1) ++ take 6 (drop 8 b) ++ two_bytes (size_with b t)
    ++ take ((header_of b).third + k * length t - 16) (drop 16 b) ++ t ++ drop ((header_of b).third + k * length t) b)

-- the exchange that stands in the bytes t of a table
abbrev pub exchange_in : List ℕ → List ℕ → List ℕ
exchange_in b t = words t 0 ((header_of b).variables * (header_of b).values)

-- what c is answered where b is accepted: a seventeenth exchange is refused, else 15 and 16 are put to the new one at its place, and nothing else is
-- refused
abbrev pub OneMoreAnswer : Type 0
OneMoreAnswer =
    (b c t : List ℕ) (k : ℕ) → OneMore b c k t → verdict_of b ≡ accepted →
    verdict_of c ≡ ask (leb ((header_of b).symmetries + 1) 16) 5 0 (ask (permutes_pairs (problem_of b) (exchange_in b t)) 15 k (ask (respects (problem_of b) (exchange_in b t)) 16 k accepted))
