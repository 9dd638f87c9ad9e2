-- The measures: variables left, then values left.
use Rattle.run_tree.proofs.Turns.{μ_settle, μ_try}
use Rattle.run_tree.proofs.+settle_try_value.Given as goal

abbrev pub decreases-settle_variable : goal.decreases-settle_variable
decreases-settle_variable l = μ_settle l.k l.m

abbrev pub decreases-try_value : goal.decreases-try_value
decreases-try_value l = μ_try l.k l.m
