-- What is known of how a walk stopped, and of what `enter` answered. Assumes nothing.
use Rattle.std.specs.Prelude.{Result, Ok, Err}
use Rattle.model.specs.Kit.{◌≡◌, refl, sym, ap, ◌∙◌, arith}
use Rattle.arrays.specs.Inner.Places.{ALL, DEEPER}
use Rattle.run_state.specs.{Inner.Cut.node_in, Inner.Cut.step_of, declared.Cut.Cut, declared.Node.Node, declared.Node.TheVariants.Leaf, declared.Node.TheVariants.Inner}
use Rattle.run_state.proofs.Stops.{cut_known}
use Rattle.run_tree.specs.{Inner.Stopped.number_of, declared.Stop.Stop, declared.Stop.TheVariants.All, declared.Stop.TheVariants.Spent, declared.Stop.TheVariants.Full}

pub was_cut : (stop : Stop) → (stop ≡ All → ⊥) → number_of stop ≡ ALL → ⊥
was_cut All n = λ e. n refl
was_cut Spent n = λ e. omega arith
was_cut Full n = λ e. omega arith

-- nodes are below the one that was made
pub goes_on : {step : Result Node Cut} {node : Node} → step ≡ Ok node → node ≡ Inner → step_of step ≡ DEEPER
goes_on is inner = ap step_of is ∙ ap node_in inner

-- no node is below it
pub is_leaf : {step : Result Node Cut} {node : Node} → step ≡ Ok node → node ≡ Leaf → step_of step ≡ ALL
is_leaf is leaf = ap step_of is ∙ ap node_in leaf

pub leaf_ends : {step : Result Node Cut} {node : Node} → step ≡ Ok node → node ≡ Leaf → step_of step ≡ DEEPER → ⊥
leaf_ends is leaf e = let a = is_leaf is leaf in omega arith

pub cut_ends : {step : Result Node Cut} {by : Cut} → step ≡ Err by → step_of step ≡ DEEPER → ⊥
cut_ends {step} {by} is e = (cut_known by).2 (sym (ap step_of is) ∙ e)
