-- What is claimed of two prefixes that leave the same to do. They can be read without the proofs.
use Rattle.std.specs.Prelude.{◌≡◌, List, ◌++◌, map, ℕ, ◌+◌, ◌≤◌, ◌<◌, length, take, drop, T}
use Rattle.model.specs.Kit.{Memᴰ}
use Rattle.model.specs.{Lists.keep, Lists.at, Problem.Problem, Search.nogoods_of, Search.sets_at, Search.is_live, Search.nodes_below, Search.is_plan, Run.settled_by, Run.counts_by}
use Rattle.model.specs.Inner.WellFormed.{WellFormed, Respected}
use Rattle.run_alike.specs.Inner.Alike.{residue, Vacuous, Alike, moved}

-- the subtrees below a and b are one, up to the values settled before them
pub record SameBelow (p : Problem) (m : ℕ) (a b : List ℕ) : Type 0 where
  -- the nodes in their order
  pub nodes : nodes_below p m a ≡ map (moved a) (nodes_below p m b)
  -- the plans in their order
  pub plans : keep (is_plan p) (nodes_below p m a) ≡ map (moved a) (keep (is_plan p) (nodes_below p m b))
  -- how many there are
  pub made : length (nodes_below p m a) ≡ length (nodes_below p m b)
  pub listed : length (keep (is_plan p) (nodes_below p m a)) ≡ length (keep (is_plan p) (nodes_below p m b))
  -- and of these the nodes that settle each variable, by any number f that the variable stands for (a place by its position in a settling order)
  pub counts : (f : ℕ → ℕ) → counts_by (λ t. f (settled_by t)) (nodes_below p m a) ≡ counts_by (λ t. f (settled_by t)) (nodes_below p m b)
  -- the same suffixes are plans
  pub same : (s : List ℕ) → is_plan p (a ++ s) ≡ is_plan p (b ++ s)

-- two live prefixes of an accepted sheet's problem that leave the same to do have the same subtree
abbrev pub AlikeBelow : Type 0
AlikeBelow =
    (p : Problem) → WellFormed p → Respected p → (a b : List ℕ) → T (is_live p a) → T (is_live p b) → Alike p a b →
    (m : ℕ) → length a + m ≡ p.variables → SameBelow p m a b

-- two prefixes with the same values from `low` on leave the same of a list whose levels up to `low`, and maybe more, say nothing more at each
abbrev pub KeptLeft : Type 0
KeptLeft =
    (p : Problem) → WellFormed p → Respected p → (g : List ℕ) → Memᴰ g p.symmetries → (a b : List ℕ) → T (is_live p a) → T (is_live p b) →
    length a ≤ p.variables → length a ≡ length b → drop (length a) (sets_at p a) ≡ drop (length a) (sets_at p b) →
    (low i j : ℕ) → low ≤ i → low ≤ j → i ≤ length a → j ≤ length b → ((x : ℕ) → low ≤ x → x < length a → at a x ≡ at b x) →
    Vacuous (sets_at p a) (nogoods_of p g (take i a)) → Vacuous (sets_at p b) (nogoods_of p g (take j b)) →
    residue (sets_at p a) (nogoods_of p g a) ≡ residue (sets_at p b) (nogoods_of p g b)
