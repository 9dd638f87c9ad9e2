-- What is claimed of a run in parts, as statements about any problem; they can be read without the proofs.
use Rattle.std.specs.Prelude.{◌≡◌, List, [], ◌∷◌, map, ℕ, ◌≤◌, length}
use Rattle.model.specs.{Lists.keep, Lists.flat, Lists.total, Problem.Problem, Search.nodes, Search.is_plan, Run.spent, Run.finished, Run.nodes_in, Run.Result, Run.search, Run.result_of, Run.tally_at}
use Rattle.run_cut.specs.{Between.ranges, Between.Cuts, Between.and_next, Between.resumed, Parts.Progress, Parts.start, Parts.progress_at, Parts.go_on, Parts.counts_after, Parts.progress_after}

-- a run cut after k nodes goes on from the last of them to what it is in one piece
abbrev pub FromCut : Type 0
FromCut =
    (p : Problem) (limit room k plans made : ℕ) → k ≤ limit → (result_of p k room).ending ≡ spent plans made → go_on p limit room (progress_at p k) ≡ result_of p limit room

-- a smaller limit first, then the rest: where the first part ended, that is the whole; where it was spent, it goes on
abbrev pub InParts : Type 0
InParts = (p : Problem) (limit room k : ℕ) → k ≤ limit → result_of p limit room ≡ resumed p limit room (result_of p k room).ending (result_of p k room).rows

-- the same of a run that goes on from any path, whatever it had made and listed
abbrev pub FromAnywhere : Type 0
FromAnywhere =
    (p : Problem) (limit room k : ℕ) (s : Progress) → s.made ≤ k → k ≤ limit →
    go_on p limit room s ≡ and_next (go_on p k room s).ending (go_on p k room s) (go_on p limit room (progress_after p s (go_on p k room s)))

-- and it stands so: with a part that was spent first, what is carried on, counts and last node with it, comes to the same
abbrev pub StandsAnywhere : Type 0
StandsAnywhere =
    (p : Problem) (limit room k plans made : ℕ) (s : Progress) → s.made ≤ k → k ≤ limit → (go_on p k room s).ending ≡ spent plans made →
    progress_after p (progress_after p s (go_on p k room s)) (go_on p limit room (progress_after p s (go_on p k room s))) ≡ progress_after p s (go_on p limit room s)

-- from the start the counts are those of the run's tally
abbrev pub CountsFromStart : Type 0
CountsFromStart = (p : Problem) (limit room : ℕ) → counts_after p start (go_on p limit room start) ≡ (tally_at p (nodes_in (result_of p limit room).ending)).counts

-- ---- parts of one tree, run apart
-- the parts of a tree cut at any paths, each bounded by two, are the whole tree, one behind the other
abbrev pub RangesWhole : Type 0
RangesWhole = (p : Problem) (cuts : List (List ℕ)) → Cuts [] cuts → flat (ranges p [] cuts) ≡ nodes p

-- a run of a part that finished, whatever its limit and its room
abbrev pub Finished : Problem → List (List ℕ) → Result → Type 0
Finished p part r = (limit : ℕ) × (room : ℕ) × (plans : ℕ) × (made : ℕ) × (r ≡ search p limit room part 0 []) × (r.ending ≡ finished plans made)

abbrev pub AllFinished : Problem → List (List (List ℕ)) → List Result → Type 0
AllFinished p [] [] = Unit {0}
AllFinished p [] (r ∷ rs) = ⊥
AllFinished p (part ∷ parts) [] = ⊥
AllFinished p (part ∷ parts) (r ∷ rs) = Finished p part r × AllFinished p parts rs

-- so parts that were run apart list all plans of the tree, in its order, and make all its nodes
abbrev pub Together : Type 0
Together =
    (p : Problem) (cuts : List (List ℕ)) (rs : List Result) → Cuts [] cuts → AllFinished p (ranges p [] cuts) rs →
    (flat (map (λ r. r.rows) rs) ≡ keep (is_plan p) (nodes p)) × (total (map (λ r. nodes_in r.ending) rs) ≡ length (nodes p))
