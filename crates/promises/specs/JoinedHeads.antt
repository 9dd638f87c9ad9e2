-- The heads of calls of parts, as their holder lends them to `join`. Beyond the bytes this says what each number in a head is, in terms of the call.
use Rattle.std.specs.Prelude.{◌≡◌, List, [], map, ℕ, ◌+◌, ◌*◌, ◌<◌, take, get_or}
use Rattle.model.specs.Kit.{Memᴰ}
use Rattle.model.specs.{Lists.at, Lists.flat, Run.finished, Run.spent, Run.full, Run.Answer, Run.refusal, Run.answered, Verdict.accepted}
use Rattle.run_input.specs.Lent.{verdict_lent}
use Rattle.run_ranges.specs.{Ranges.plans_said, Ranges.nodes_said, Claims.Part, Claims.CallRange}
use Rattle.run_join.specs.Join.{four_at, path_at, kind_at, from_at, heads_in, taken}
use Rattle.export_parts.specs.{Head.head_for, Parts.part_of}

-- ---- a call and its head
-- 1 finished, 2 spent, 3 full; a refused call has no head
abbrev pub kind_said : Answer → ℕ
kind_said (answered (finished plans made)) = 1
kind_said (answered (spent plans made)) = 2
kind_said (answered (full plans made)) = 3
kind_said (refusal number item) = 0

-- what is read of head k of some bytes is what the call said; of a path its first twelve values
pub record HeadOf (l : List ℕ) (k : ℕ) (c : Part) : Type 0 where
  pub kind : kind_at l k ≡ kind_said c.answer
  pub plans : four_at l (115 * k + 4) ≡ plans_said c.answer
  pub nodes : four_at l (115 * k + 8) ≡ nodes_said c.answer
  pub counts : (x : ℕ) → x < 12 → four_at l (115 * k + 12 + 4 * x) ≡ at c.tally.counts x
  pub from : from_at l k ≡ take 12 c.from
  pub upto : path_at l (115 * k + 89) ≡ take 12 c.upto
  pub last : path_at l (115 * k + 102) ≡ take 12 c.last

-- the call with its two paths cut to twelve values
abbrev pub cut_twelve : Part → Part
cut_twelve c = record {
  from = take 12 c.from;
  upto = take 12 c.upto;
  limit = c.limit;
  out = c.out;
  answer = c.answer;
  list = c.list;
  tally = c.tally;
  last = c.last;
}

-- ---- what a holder lends to `join`
-- every head is that of a call of one accepted lending, whatever its range, limit and list; in any order, repeats too
pub record HeldHeads (b pairs block l : List ℕ) (part : ℕ → Part) : Type 0 where
  pub lent : verdict_lent b pairs block ≡ accepted
  pub calls : (k : ℕ) → k < heads_in l → CallRange b pairs block (part k)
  pub heads : (k : ℕ) → k < heads_in l → HeadOf l k (part k)

-- the calls whose heads `join` takes, one behind the other
abbrev pub taken_parts : List ℕ → (ℕ → Part) → List Part
taken_parts l part = map (λ k. cut_twelve (part k)) (taken l)

-- the bytes are the heads of these calls, one behind the other
abbrev pub head_bytes : List ℕ → List ℕ → List ℕ → Part → List ℕ
head_bytes b pairs block c = head_for b pairs block c c.answer []

pub record HeldBytes (b pairs block : List ℕ) (cs : List Part) (l : List ℕ) : Type 0 where
  pub lent : verdict_lent b pairs block ≡ accepted
  pub calls : (c : Part) → Memᴰ c cs → CallRange b pairs block c
  pub bytes : l ≡ flat (map (head_bytes b pairs block) cs)

-- call k of them
abbrev pub part_at : List ℕ → List ℕ → List ℕ → List Part → ℕ → Part
part_at b pairs block cs k = get_or cs k (part_of b pairs block [] [] 0 [])
