-- A block's orderings say of what is left to do only what the sets say: what goes on behind one prefix is carried over to another with the same sets behind it,
-- whatever values of the block either has settled.
use Rattle.std.specs.Prelude.{◌≡◌, Bool, List, ℕ, T, length, drop}
use Rattle.model.specs.{Problem.Problem, Problem.with_symmetries, Search.sets_at, Search.is_live, Inner.WellFormed.WellFormed}
use Rattle.block.specs.Inner.BlockSets.{Reorders, BlockIn}
use Rattle.run_alike.specs.Inner.Alike.{Carries}

abbrev pub BlockCarries : Type 0
BlockCarries =
    (p : Problem) → WellFormed p → (block : ℕ → Bool) (gs : List (List ℕ)) → BlockIn p block gs →
    let q = with_symmetries p gs in
    (a b : List ℕ) → T (is_live q a) → T (is_live q b) → length a ≡ length b → drop (length a) (sets_at q a) ≡ drop (length a) (sets_at q b) →
    (g : List ℕ) → Reorders p block g → Carries q g a b
