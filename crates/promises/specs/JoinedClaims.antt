-- What the holder of all parts of a run has, by what `join` answered to their heads; the statements can be read without the proofs. That the heads are of calls
-- of one sheet, one list of pairs and one block is supposed (HeldHeads): heads whose names differ are refused, and who has the bytes can compare them.
use Rattle.std.specs.Prelude.{◌≡◌, ◌↔◌, List, [], ◌∷◌, map, ℕ, suc, ◌*◌, ◌≤◌, ◌<◌, T, length, take, None, Some, Result, Ok}
use Rattle.model.specs.Kit.{Memᴰ}
use Rattle.model.specs.{Lists.at, Lists.rows_ascend, Problem.is_solution, Sheet.problem_of, Verdict.accepted, Run.finished, Run.spent, Run.full, Run.ended, Run.written, Run.Tally, Claims.Leader}
use Rattle.order.specs.Reordered.{read, earlier_by}
use Rattle.run_input.specs.Lent.{verdict_lent, problem_with, order_lent, problem_lent, answer_lent, list_lent, tally_lent}
use Rattle.run_ranges.specs.{Ranges.nodes_said, Claims.Part, Claims.CallRange, Claims.plans_held, Claims.Goes, Claims.Done, Claims.Chain, Claims.all_plans}
use Rattle.run_cut.specs.{Parts.after, Parts.last_of, Between.nodes_between, Between.Cuts}
use Rattle.run_join.specs.Join.{from_at, reach_at, heads_in, head_number, join_verdict, stand_path, begin_or}
use Rattle.model.specs.declared.refusals.Question.{Question}
use Rattle.run_join.specs.{Calls.CallJoin, declared.Missing.Missing, declared.Joining.Joining}
use Rattle.promises.specs.JoinedHeads.{HeadOf, cut_twelve, HeldHeads, taken_parts, head_bytes, HeldBytes, part_at}
use Rattle.model.specs.Claims as Reads

-- ---- twelve values
-- a path's values behind the twelfth bound no range, so a call is a call with both paths cut to twelve values
abbrev pub TwelveNodes : Type 0
TwelveNodes =
    (b pairs block from upto : List ℕ) → verdict_lent b pairs block ≡ accepted →
    nodes_between (problem_lent b pairs block) from upto ≡ nodes_between (problem_lent b pairs block) (take 12 from) (take 12 upto)

abbrev pub TwelveValues : Type 0
TwelveValues = (b pairs block : List ℕ) (c : Part) → verdict_lent b pairs block ≡ accepted → CallRange b pairs block c → CallRange b pairs block (cut_twelve c)

-- ---- heads
-- the 115 bytes of a call's head say what the call said ..
abbrev pub HeadSays : Type 0
HeadSays = (b pairs block : List ℕ) (c : Part) → verdict_lent b pairs block ≡ accepted → CallRange b pairs block c → HeadOf (head_bytes b pairs block c) 0 c
    × (length (head_bytes b pairs block c) ≡ 115)

-- .. and so does each of many heads, one behind the other
abbrev pub HeadsSay : Type 0
HeadsSay =
    (b pairs block : List ℕ) (cs : List Part) (l : List ℕ) → HeldBytes b pairs block cs l → HeldHeads b pairs block l (part_at b pairs block cs) × (heads_in l ≡ length cs)

-- ---- joined
-- the run with limit and list enough: finished with the plans and nodes answered; its list is the plans of the parts taken, one behind the other; its counts are
-- those answered
pub record RunHeld (b pairs block : List ℕ) (cs : List Part) (r : Joining) (limit : ℕ) (out : List ℕ) (tally : Tally) : Type 0 where
  pub answer : answer_lent b pairs block limit out ≡ ended (finished r.plans r.nodes)
  pub list : list_lent b pairs block limit out ≡ written (all_plans (problem_of b).variables cs) out
  pub nodes : (tally_lent b pairs block limit out tally).nodes ≡ r.nodes
  pub counts : (x : ℕ) → x < 12 → at (tally_lent b pairs block limit out tally).counts x ≡ at r.counts x

-- demands 2 and 3 of some plans: they are the leaders in the settling order, ascending strictly, so each stands there once; s is a solution exactly when one of
-- them becomes s by symmetries, one after another, each giving a solution that reads later; there are none exactly when there is no solution
pub record DemandsHeld (b pairs block : List ℕ) (plans : List (List ℕ)) (number : ℕ) : Type 0 where
  pub many : length plans ≡ number
  pub leaders : (s : List ℕ) → Memᴰ s plans ↔ Leader (earlier_by (order_lent b pairs)) (problem_with b block) s
  pub ascend : T (rows_ascend (map (read (order_lent b pairs)) plans))
  pub chains : (s : List ℕ) → length s ≡ (problem_of b).variables →
      T (is_solution (problem_with b block) s) ↔ ∥ ((t : List ℕ) × Memᴰ t plans × Reads.Chain (earlier_by (order_lent b pairs)) (problem_with b block) t s) ∥₁
  pub nothing : (number ≡ 0) ↔ ((s : List ℕ) → T (is_solution (problem_with b block) s) → ⊥)

-- the heads taken are parts one behind the other from the first to the last path. The limit is any number: also one beyond what a call can be allowed
pub record JoinedHeld (b pairs block : List ℕ) (cs : List Part) (r : Joining) : Type 0 where
  pub chain : Chain b pairs block [] cs (255 ∷ [])
  pub run : (limit : ℕ) (out : List ℕ) (tally : Tally) → r.nodes ≤ limit → r.plans * (problem_of b).variables ≤ length out → RunHeld b pairs block cs r limit out tally
  pub demands : DemandsHeld b pairs block (all_plans (problem_of b).variables cs) r.plans

abbrev pub JoinedHeldClaim : Type 0
JoinedHeldClaim =
    (b pairs block l : List ℕ) (part : ℕ → Part) → HeldHeads b pairs block l part → (j : Joining) → CallJoin l (Ok j) → j.missing ≡ None →
    JoinedHeld b pairs block (taken_parts l part) j

-- ---- joined exactly
-- heads that are lent, one behind the other from a path to another: each begins where the one before it reaches, and goes on
abbrev pub HeadChain : List ℕ → List ℕ → List ℕ → List ℕ → Type 0
HeadChain l from [] upto = from ≡ upto
HeadChain l from (k ∷ ks) upto = (k < heads_in l) × (from_at l k ≡ from) × T (after from (reach_at l k)) × HeadChain l (reach_at l k) ks upto

-- nothing is missing
abbrev pub Joins : Result Joining Question → Type 0
Joins r = (j : Joining) × (r ≡ Ok j) × (j.missing ≡ None)

-- the answer is so exactly when there are such heads from the first to the last path
abbrev pub JoinedExactly : Type 0
JoinedExactly = (l : List ℕ) → join_verdict l ≡ accepted → (r : Result Joining Question) → CallJoin l r → Joins r ↔ ((ks : List ℕ) × HeadChain l [] ks (255 ∷ []))

-- ---- missing
-- from where one stands no head goes on: none begins there and reaches anything after it; and none begins after it and before the end of the missing range
pub record MissingHeld (l from upto : List ℕ) : Type 0 where
  pub stuck : (k : ℕ) → k < heads_in l → from_at l k ≡ from → T (after from (reach_at l k)) → ⊥
  pub clear : (k : ℕ) → k < heads_in l → T (after from (from_at l k)) → T (after (from_at l k) upto) → ⊥
  pub before : from ≡ 255 ∷ [] → ⊥

abbrev pub MissingHeldClaim : Type 0
MissingHeldClaim =
    (l : List ℕ) (j : Joining) → CallJoin l (Ok j) → (m : Missing) → j.missing ≡ Some m → MissingHeld l (stand_path l (head_number m.from)) (begin_or l (head_number m.upto))

-- up to there the heads taken are parts one behind the other
abbrev pub MissingChain : Type 0
MissingChain =
    (b pairs block l : List ℕ) (part : ℕ → Part) → HeldHeads b pairs block l part → (j : Joining) → CallJoin l (Ok j) → (m : Missing) → j.missing ≡ Some m →
    Chain b pairs block [] (taken_parts l part) (stand_path l (head_number m.from))

-- ---- a spent part and a full part
-- a spent part is a finished part of the range up to its last node: a call of that range, with limit and room enough, is finished with what the part holds
pub record SameHeld (n : ℕ) (c d : Part) : Type 0 where
  pub plans : plans_held n d ≡ plans_held n c
  pub nodes : d.tally.nodes ≡ nodes_said c.answer
  pub counts : (x : ℕ) → at d.tally.counts x ≡ at c.tally.counts x

abbrev pub SpentFinished : Type 0
SpentFinished =
    (b pairs block : List ℕ) (c : Part) → verdict_lent b pairs block ≡ accepted → CallRange b pairs block c → (T (after c.upto c.from) → ⊥) →
    (plans made : ℕ) → c.answer ≡ ended (spent plans made) →
    (d : Part) → CallRange b pairs block d → d.from ≡ c.from → d.upto ≡ c.last → made ≤ d.limit → plans * (problem_of b).variables ≤ length d.out →
    (d.answer ≡ ended (finished plans made)) × SameHeld (problem_of b).variables c d

-- a full part is not: a call of that range finds one plan more than the part listed
abbrev pub FullLacks : Type 0
FullLacks =
    (b pairs block : List ℕ) (c : Part) → verdict_lent b pairs block ≡ accepted → CallRange b pairs block c → (T (after c.upto c.from) → ⊥) →
    (plans made : ℕ) → c.answer ≡ ended (full plans made) →
    (d : Part) → CallRange b pairs block d → d.from ≡ c.from → d.upto ≡ c.last → made ≤ d.limit → suc plans * (problem_of b).variables ≤ length d.out →
    d.answer ≡ ended (finished (suc plans) made)

-- ---- heads that join
-- heads of calls of one lending, none of them full and not too many, are not refused
abbrev pub HeadsAccepted : Type 0
HeadsAccepted =
    (b pairs block : List ℕ) (cs : List Part) (l : List ℕ) → HeldBytes b pairs block cs l → length cs ≤ 65536 → ((c : Part) → Memᴰ c cs → Goes c.answer) →
    join_verdict l ≡ accepted

-- the ranges between cuts, from a path on
abbrev pub ranges_of : List ℕ → List (List ℕ) → List (List ℕ × List ℕ)
ranges_of from [] = []
ranges_of from (cut ∷ cuts) = (from, cut) ∷ ranges_of cut cuts

-- finished calls of these ranges, all of them and no others, in any order, repeats too
pub record CutHeld (cuts : List (List ℕ)) (cs : List Part) : Type 0 where
  pub each : (c : Part) → Memᴰ c cs → Done c.answer × Memᴰ (c.from, c.upto) (ranges_of [] cuts)
  pub all : (from upto : List ℕ) → Memᴰ (from, upto) (ranges_of [] cuts) → (c : Part) × Memᴰ c cs × (c.from ≡ from) × (c.upto ≡ upto)

-- the cuts in order, the last of them the path 255: their heads join
abbrev pub CutsJoined : Type 0
CutsJoined =
    (b pairs block : List ℕ) (cuts : List (List ℕ)) (cs : List Part) (l : List ℕ) → HeldBytes b pairs block cs l → length cs ≤ 65536 → Cuts [] cuts → last_of [] cuts ≡ 255 ∷ [] →
    CutHeld cuts cs → (r : Result Joining Question) → CallJoin l r → Joins r
