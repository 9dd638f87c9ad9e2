-- What a caller of `run_part` holds, in the words of crate run_ranges.
use Rattle.std.specs.Prelude.{List, ℕ, take}
use Rattle.run_state.specs.Meaning.{tally_in}
use Rattle.run.specs.Meaning.{means}
use Rattle.run_ranges.specs.Claims.{Part, CallRange}
use Rattle.run_part.specs.declared.PartRun.{PartRun}

-- a call: the two paths, the limit and the list as it came, what came back, and the list at the end
abbrev pub held : List ℕ → List ℕ → ℕ → List ℕ → PartRun → List ℕ → Part
held from upto limit out r after = record {
  from = from;
  upto = upto;
  limit = limit;
  out = out;
  answer = means r.answer;
  list = after;
  tally = tally_in r.tally;
  last = take r.length
      r.last;
}

-- a call of `run_part`: r came back, `after` is the list at the end. This is its contract
abbrev pub CallPart : List ℕ → List ℕ → List ℕ → List ℕ → List ℕ → ℕ → List ℕ → PartRun → List ℕ → Type 0
CallPart b pairs block from upto limit out r after = CallRange b pairs block (held from upto limit out r after)
