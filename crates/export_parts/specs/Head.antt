-- The head of a part of a run, in 115 bytes: how the part ended with its plans, its nodes and its twelve counts, the name of its problem, its range, and where it stands.
use Rattle.std.specs.Prelude.{List, [], ◌∷◌, ◌++◌, ℕ, ◌+◌, ◌*◌, ◌%◌, length, take}
use Rattle.model.specs.{Lists.at, Lists.tabulate, Run.Ending, Run.Answer, Run.refusal, Run.answered}
use Rattle.run_ranges.specs.Claims.{Part}
use Rattle.export_run.specs.Run.{ending_bytes}
use Rattle.export_counts.specs.Tallied.{numbers_of}

-- ---- the name of a problem
-- the digest of bytes by a base: from 1 on, each byte in turn
unfoldable pub digest_from : ℕ → ℕ → List ℕ → ℕ
digest_from base h [] = h
digest_from base h (x ∷ xs) = digest_from base ((h * base + x + 1) % 2147483647) xs

unfoldable pub digest : ℕ → List ℕ → ℕ
digest base bytes = digest_from base 1 bytes

-- the sheet by two bases, the pairs, the block
unfoldable pub name_bytes : List ℕ → List ℕ → List ℕ → List ℕ
name_bytes b pairs block = numbers_of (digest 1000003 b ∷ digest 65599 b ∷ digest 1000003 pairs ∷ digest 1000003 block ∷ [])

-- ---- a path in 13 bytes: how many of its first twelve values there are, then these, then zeros
unfoldable pub path_bytes : List ℕ → List ℕ
path_bytes path = length (take 12 path) ∷ tabulate 12 (at path)

-- ---- the head of a part that ended
unfoldable pub head_of : List ℕ → List ℕ → List ℕ → Part → Ending → List ℕ
head_of b pairs block c e =
    (ending_bytes e ++ numbers_of c.tally.counts) ++ name_bytes b pairs block ++ (path_bytes c.from ++ path_bytes c.upto ++ path_bytes c.last)

-- the lent answer: as it came where the part was refused
abbrev pub head_for : List ℕ → List ℕ → List ℕ → Part → Answer → List ℕ → List ℕ
head_for b pairs block c (refusal number item) answer = answer
head_for b pairs block c (answered e) answer = head_of b pairs block c e
