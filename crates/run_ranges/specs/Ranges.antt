-- A part of a run that is lent a sheet, pairs and a block: the nodes of its tree that come after one path and not after another, walked along as a run
-- walks along all of them, with a limit and a list of its own. A path is a list of values in the settling order, of any length; the empty path comes
-- before every node, the path 255 after every node.
use Rattle.std.specs.Prelude.{List, [], map, ℕ, length, take}
use Rattle.model.specs.Run.{plans_in, nodes_in, Result, search, Answer, refusal, answered, written, Tally, settled_by, counts_by}
use Rattle.model.specs.{Lists.at, Verdict.reply, Verdict.kept}
use Rattle.order.specs.Reordered.{write}
use Rattle.run_cut.specs.{Between.nodes_between, Parts.last_of}
use Rattle.run_input.specs.Lent.{verdict_lent, order_lent, problem_lent}

-- the nodes of the part, in the order of the search
abbrev pub part_nodes : List ℕ → List ℕ → List ℕ → List ℕ → List ℕ → List (List ℕ)
part_nodes b pairs block from upto = nodes_between (problem_lent b pairs block) from upto

-- a run of them, its rows by place number
unfoldable pub result_part : List ℕ → List ℕ → List ℕ → List ℕ → List ℕ → ℕ → ℕ → Result
result_part b pairs block from upto limit room =
    let r = search (problem_lent b pairs block) limit room (part_nodes b pairs block from upto) 0 [] in
    record { ending = r.ending; rows = map (write (order_lent b pairs)) r.rows }

-- ---- what a caller holds
-- the refusal of the run, or how the part ended, with its plans and its nodes
unfoldable pub answer_part : List ℕ → List ℕ → List ℕ → List ℕ → List ℕ → ℕ → List ℕ → Answer
answer_part b pairs block from upto limit out = reply (verdict_lent b pairs block) (result_part b pairs block from upto limit (length out)).ending

unfoldable pub list_part : List ℕ → List ℕ → List ℕ → List ℕ → List ℕ → ℕ → List ℕ → List ℕ
list_part b pairs block from upto limit out = kept (verdict_lent b pairs block) out (written (result_part b pairs block from upto limit (length out)).rows out)

-- the figures of an answer; a refusal has none
abbrev pub plans_said : Answer → ℕ
plans_said (refusal number item) = 0
plans_said (answered e) = plans_in e

abbrev pub nodes_said : Answer → ℕ
nodes_said (refusal number item) = 0
nodes_said (answered e) = nodes_in e

-- the nodes that the part made
abbrev pub made_by : Answer → List ℕ → List ℕ → List ℕ → List ℕ → List ℕ → List (List ℕ)
made_by a b pairs block from upto = take (nodes_said a) (part_nodes b pairs block from upto)

-- of these, those that settle each of twelve places
unfoldable pub tally_part : List ℕ → List ℕ → List ℕ → List ℕ → List ℕ → ℕ → List ℕ → Tally
tally_part b pairs block from upto limit out =
    let a = answer_part b pairs block from upto limit out in
    record { nodes = nodes_said a; counts = counts_by (λ t. at (order_lent b pairs) (settled_by t)) (made_by a b pairs block from upto) }

-- where the part stands: the last node that it made, else where it began, of which twelve values are kept (a node has no more)
unfoldable pub last_part : List ℕ → List ℕ → List ℕ → List ℕ → List ℕ → ℕ → List ℕ → List ℕ
last_part b pairs block from upto limit out = last_of (take 12 from) (made_by (answer_part b pairs block from upto limit out) b pairs block from upto)
