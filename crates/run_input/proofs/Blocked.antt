-- The block in the problem that the run walks: the positions of its variables in the order are a block of the compiled problem, whose orderings are those of the run.
-- Assumes nothing.
use Rattle.model.specs.Kit.{◌≡◌, refl, sym, ap, ◌∙◌, List, map, ℕ, ◌<◌, T, length, take}
use Rattle.model.specs.{Lists.at, ValueSets.has, Problem.pair, Verdict.is_accepted, Sheet.problem_of, Inner.Filling.Gathered}
use lib.Seq.{take_at}
use Rattle.order.specs.Reordered.{renamed, symmetry_in, reordered}
use Rattle.block.specs.{Block.tables_lent, Block.in_lent, Inner.BlockSets.BlockIn}
use Rattle.run_input.specs.Lent.{verdict_lent, order_lent, problem_lent}
use Rattle.model.proofs.{Lists.at_take, Lists.map_append, Filling.gathered_is, Filling.gathered_lt}
use Rattle.block.proofs.BlockLent.{block_same, lent_reordered}
use Rattle.run_input.proofs.Lent.{lent_passed, well_sheet, ordering_lent}

module _ (b pairs block : List ℕ) (good : T (is_accepted (verdict_lent b pairs block))) (order : List ℕ) (settled : take (problem_of b).variables order ≡ order_lent b pairs)
    (set : ℕ) (g : Gathered (λ i. in_lent block (at order i)) (problem_of b).variables set) where
  pub block_walked : BlockIn (reordered (order_lent b pairs) (problem_of b)) (has set) (problem_lent b pairs block).symmetries
  unfolding symmetry_in renamed pair
  block_walked =
      block_same (reordered (order_lent b pairs) (problem_of b)) (λ i. in_lent block (at (order_lent b pairs) i)) (has set) (problem_lent b pairs block).symmetries
      (λ i l. ap (in_lent block) (ap (λ (o : List ℕ). at o i) (sym settled) ∙ at_take (problem_of b).variables order i l) ∙ sym (gathered_is _ _ set i g l))
      (lent_reordered (problem_of b) (well_sheet b pairs block good) (order_lent b pairs) (ordering_lent b pairs block good) block (lent_passed b pairs block good).blocked)

  pub block_inside : (x : ℕ) → T (has set x) → x < (problem_of b).variables
  block_inside x = gathered_lt _ _ set x g

-- the compiled problem's symmetries are the first of the run's
pub own_first : (b pairs block : List ℕ) →
    take (length (reordered (order_lent b pairs) (problem_of b)).symmetries) (problem_lent b pairs block).symmetries ≡ (reordered (order_lent b pairs) (problem_of b)).symmetries
unfolding symmetry_in renamed pair
own_first b pairs block =
    ap (take (length own)) (map_append (symmetry_in (order_lent b pairs) (problem_of b)) (problem_of b).symmetries (tables_lent (problem_of b) block))
    ∙ take_at own (map (symmetry_in (order_lent b pairs) (problem_of b)) (tables_lent (problem_of b) block)) (length own) refl
  where
    own : List (List ℕ)
    own = map (symmetry_in (order_lent b pairs) (problem_of b)) (problem_of b).symmetries
