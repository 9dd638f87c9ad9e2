-- `padded`: the first thirteen bytes there. Assumes nothing.
use Rattle.model.specs.Kit.{subst, List, ℕ, ◌+◌, ◌-◌, ◌<◌, arith, length, take, drop}
use Rattle.std.specs.Prelude.{Option}
use Rattle.std.specs.{Option.MatchOption, Array.IsFirstChunk}
use Rattle.std.proofs.Common.{Bor}
use Rattle.run_join.proofs.Padded.{part_path, part_same}
use Rattle.run_join.proofs.paths.padded.Goals as goal

pub returns : goal.returns
returns c =
    let l = c.args.l.now in
    let o = c.args.o in
    let n = o + 13 - o in
    let m = take n (drop o l) in
    let first = subst (λ (r : Option (Bor (List ℕ))). MatchOption r (length m < 13) (λ y. IsFirstChunk m y.now 13)) c.unwrap.ensures c.first_chunk.ensures.cases in
    (part_path l _ o n c.requires first (omega arith), part_same l _ o n c.requires first (omega arith))
