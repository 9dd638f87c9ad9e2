-- What is claimed of parts of a run that are run apart, of what their callers hold; the statements can be read without the proofs.
use Rattle.std.specs.Prelude.{◌≡◌, ◌⊎◌, List, [], ◌∷◌, map, ℕ, ◌*◌, ◌≤◌, T, length, replicate}
use Rattle.model.specs.Run.{finished, spent, full, Answer, refusal, answered, ended, written, Tally, listed_plans}
use Rattle.model.specs.{Lists.flat, Lists.at, Lists.total, Verdict.accepted, Verdict.refused, Sheet.problem_of}
use Rattle.run_cut.specs.{Parts.after, Parts.last_of, Between.Cuts}
use Rattle.run_input.specs.Lent.{verdict_lent, answer_lent, list_lent, tally_lent}
use Rattle.run_ranges.specs.Ranges.{answer_part, list_part, plans_said, nodes_said, tally_part, last_part}

-- ---- a call of a part
-- what was handed over: the two paths, the limit, the list as it came; and what came back: the answer, the list, the tally, and where the part stands
pub record Part : Type 0 where
  pub from : List ℕ
  pub upto : List ℕ
  pub limit : ℕ
  pub out : List ℕ
  pub answer : Answer
  pub list : List ℕ
  pub tally : Tally
  pub last : List ℕ

-- they are as defined: the contract of the call
pub record CallRange (b pairs block : List ℕ) (c : Part) : Type 0 where
  pub answers : c.answer ≡ answer_part b pairs block c.from c.upto c.limit c.out
  pub leaves : c.list ≡ list_part b pairs block c.from c.upto c.limit c.out
  pub counts : c.tally ≡ tally_part b pairs block c.from c.upto c.limit c.out
  pub stands : c.last ≡ last_part b pairs block c.from c.upto c.limit c.out

-- the plans of n bytes that the caller finds in its list
abbrev pub plans_held : ℕ → Part → List (List ℕ)
plans_held n c = listed_plans n (plans_said c.answer) c.list

-- ---- a refusal: the number and item of the run's, no byte written, nothing counted, and the part stands where it began
abbrev pub RefusedPart : Type 0
RefusedPart =
    (b pairs block : List ℕ) (c : Part) → CallRange b pairs block c → (number item : ℕ) → verdict_lent b pairs block ≡ refused number item →
    (c.answer ≡ refusal number item) × (c.list ≡ c.out) × (c.tally ≡ record { nodes = 0; counts = replicate 12 0 })

-- ---- from the empty path to the path 255 the part is the run
pub record WholeRun (b pairs block : List ℕ) (limit : ℕ) (out : List ℕ) : Type 0 where
  pub answer : answer_part b pairs block [] (255 ∷ []) limit out ≡ answer_lent b pairs block limit out
  pub list : list_part b pairs block [] (255 ∷ []) limit out ≡ list_lent b pairs block limit out
  pub tally : tally_part b pairs block [] (255 ∷ []) limit out ≡ tally_lent b pairs block limit out record { nodes = 0; counts = replicate 12 0 }

abbrev pub WholeRunClaim : Type 0
WholeRunClaim = (b pairs block : List ℕ) (limit : ℕ) (out : List ℕ) → WholeRun b pairs block limit out

-- ---- parts that join
-- how far a part has come: to its end where it is finished, to its last node where it is spent. A part that is full cannot be gone on with
abbrev pub Goes : Answer → Type 0
Goes (answered (finished plans made)) = Unit {0}
Goes (answered (spent plans made)) = Unit {0}
Goes (answered (full plans made)) = ⊥
Goes (refusal number item) = ⊥

abbrev pub reached_for : Answer → List ℕ → List ℕ → List ℕ
reached_for (answered (finished plans made)) upto last = upto
reached_for (answered (spent plans made)) upto last = last
reached_for (answered (full plans made)) upto last = last
reached_for (refusal number item) upto last = last

abbrev pub reached_by : Part → List ℕ
reached_by c = reached_for c.answer c.upto c.last

-- calls of parts, whatever their limits and their lists: each begins where the one in front of it has come to, and none ends before it begins
abbrev pub Chain : List ℕ → List ℕ → List ℕ → List ℕ → List Part → List ℕ → Type 0
Chain b pairs block from [] upto = from ≡ upto
Chain b pairs block from (c ∷ cs) upto =
    (c.from ≡ from) × (T (after c.upto c.from) → ⊥) × CallRange b pairs block c × Goes c.answer × Chain b pairs block (reached_by c) cs upto

-- the plans of all parts, one behind the other, and the sums of their figures
abbrev pub all_plans : ℕ → List Part → List (List ℕ)
all_plans n cs = flat (map (plans_held n) cs)

abbrev pub sum_plans : List Part → ℕ
sum_plans cs = total (map (λ c. plans_said c.answer) cs)

abbrev pub sum_nodes : List Part → ℕ
sum_nodes cs = total (map (λ c. nodes_said c.answer) cs)

abbrev pub sum_counts : ℕ → List Part → ℕ
sum_counts x cs = total (map (λ c. at c.tally.counts x) cs)

-- an answer, a list and a tally that are those of the parts together
pub record Together (n : ℕ) (cs : List Part) (out : List ℕ) (a : Answer) (list : List ℕ) (tally : Tally) : Type 0 where
  pub finishes : a ≡ ended (finished (sum_plans cs) (sum_nodes cs))
  pub plans : listed_plans n (sum_plans cs) list ≡ all_plans n cs
  pub wrote : list ≡ written (all_plans n cs) out
  pub nodes : tally.nodes ≡ sum_nodes cs
  pub counts : (x : ℕ) → at tally.counts x ≡ sum_counts x cs

-- a call from where the first began to where the last came, with limit and room enough, is finished with what they hold together ..
abbrev pub PartsJoin : Type 0
PartsJoin =
    (b pairs block from upto : List ℕ) (cs : List Part) → verdict_lent b pairs block ≡ accepted → Chain b pairs block from cs upto →
    (c : Part) → CallRange b pairs block c → c.from ≡ from → c.upto ≡ upto → sum_nodes cs ≤ c.limit → sum_plans cs * (problem_of b).variables ≤ length c.out →
    Together (problem_of b).variables cs c.out c.answer c.list c.tally

-- .. and so is the run, where they go from the empty path to the path 255
abbrev pub JoinedRun : Type 0
JoinedRun =
    (b pairs block : List ℕ) (cs : List Part) → verdict_lent b pairs block ≡ accepted → Chain b pairs block [] cs (255 ∷ []) →
    (limit : ℕ) (out : List ℕ) (tally : Tally) → sum_nodes cs ≤ limit → sum_plans cs * (problem_of b).variables ≤ length out →
    Together (problem_of b).variables cs out (answer_lent b pairs block limit out) (list_lent b pairs block limit out) (tally_lent b pairs block limit out tally)

-- ---- in one piece: a call from where the first began, to any path that is not before where they came to, with as many nodes allowed as they made and room for
-- their plans, holds what they hold together; it is finished where no node is left, else spent
pub record SoFar (n : ℕ) (cs : List Part) (out : List ℕ) (a : Answer) (list : List ℕ) (tally : Tally) : Type 0 where
  pub ends : (a ≡ ended (finished (sum_plans cs) (sum_nodes cs))) ⊎ (a ≡ ended (spent (sum_plans cs) (sum_nodes cs)))
  pub wrote : list ≡ written (all_plans n cs) out
  pub nodes : tally.nodes ≡ sum_nodes cs
  pub counts : (x : ℕ) → at tally.counts x ≡ sum_counts x cs

abbrev pub OnePiece : Type 0
OnePiece =
    (b pairs block from came upto : List ℕ) (cs : List Part) → verdict_lent b pairs block ≡ accepted → Chain b pairs block from cs came → (T (after upto came) → ⊥) →
    (c : Part) → CallRange b pairs block c → c.from ≡ from → c.upto ≡ upto → c.limit ≡ sum_nodes cs → sum_plans cs * (problem_of b).variables ≤ length c.out →
    SoFar (problem_of b).variables cs c.out c.answer c.list c.tally

-- ---- cuts in order (run_cut's `Cuts`), the last of them the path 255, and a finished call of each range between two of them
abbrev pub Done : Answer → Type 0
Done (answered (finished plans made)) = Unit {0}
Done (answered (spent plans made)) = ⊥
Done (answered (full plans made)) = ⊥
Done (refusal number item) = ⊥

abbrev pub CutAt : List ℕ → List ℕ → List ℕ → List ℕ → List (List ℕ) → List Part → Type 0
CutAt b pairs block from [] [] = Unit {0}
CutAt b pairs block from [] (c ∷ cs) = ⊥
CutAt b pairs block from (cut ∷ cuts) [] = ⊥
CutAt b pairs block from (cut ∷ cuts) (c ∷ cs) = (c.from ≡ from) × (c.upto ≡ cut) × CallRange b pairs block c × Done c.answer × CutAt b pairs block cut cuts cs

abbrev pub CutsRun : Type 0
CutsRun =
    (b pairs block : List ℕ) (cuts : List (List ℕ)) (cs : List Part) → verdict_lent b pairs block ≡ accepted → Cuts [] cuts → last_of [] cuts ≡ 255 ∷ [] → CutAt b pairs block [] cuts cs →
    (limit : ℕ) (out : List ℕ) (tally : Tally) → sum_nodes cs ≤ limit → sum_plans cs * (problem_of b).variables ≤ length out →
    Together (problem_of b).variables cs out (answer_lent b pairs block limit out) (list_lent b pairs block limit out) (tally_lent b pairs block limit out tally)
