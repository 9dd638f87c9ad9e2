-- What is left of a list, and why the law wants question 16: a table that permutes the pairs and does not respect them, by computation. Assumes nothing.
-- Values 0 and 1; the table trades (0, 1) with (1, 1), and variables 2 and 3. The prefixes 0 and 1 leave the same sets and nothing of the list, not ended;
-- but variable 1's own pair has the image (0, 1), which the prefix 1 has and the prefix 0 has not, so that the list ends there below 0 alone.
use Rattle.model.specs.Kit.{◌≡◌, refl, true, false, List, [], ◌∷◌, map, ℕ, length, drop}
use Rattle.model.specs.Problem.{Problem, assignments, pair, is_pair, within, doubled, pairs_at, excluded, forbidden, respects}
use Rattle.model.specs.Search.{entries_at, nogoods_of, row_with, supported, pruned, narrowed, rounds, sets_at, is_live, nodes_below}
use Rattle.model.specs.{Lists.all, Lists.any, Lists.keep, Lists.flat, Lists.tabulate, Lists.up_from, Lists.below, Lists.at, Lists.same, ValueSets.has, ValueSets.mask_below, ValueSets.members}
use Rattle.model.specs.{ValueSets.any_empty, Sheet.distinct, Sheet.permutes_pairs, Nogood.equality, Nogood.disequality, Nogood.obeys_from, Nogood.obeying, Nogood.used, Nogood.filtered}
use Rattle.run_alike.specs.Inner.Alike.{Residue, residue, moved}

-- every definition that computes
listed : ℕ
unfolding all any keep flat tabulate up_from below at same has mask_below members any_empty assignments pair is_pair within doubled pairs_at excluded forbidden respects
listed = 0

opened : ℕ
unfolding listed distinct permutes_pairs obeys_from obeying used filtered entries_at nogoods_of row_with supported pruned narrowed rounds sets_at is_live nodes_below residue
opened = 0

-- a disequality stays while its value is there, an equality goes where its value is the only one, and ends the list where it is gone
pub ended : residue (2 ∷ 3 ∷ []) (disequality 1 0 ∷ equality 0 1 ∷ equality 0 0 ∷ disequality 1 1 ∷ []) ≡ record { kept = disequality 1 0 ∷ []; stopped = true }
unfolding opened
ended = refl

abbrev pub table : List ℕ
table = 0 ∷ 3 ∷ 2 ∷ 1 ∷ 6 ∷ 7 ∷ 4 ∷ 5 ∷ []

abbrev pub traded : Problem
traded = record { variables = 4; values = 2; initial = 3 ∷ 2 ∷ 3 ∷ 3 ∷ []; constraints = []; symmetries = table ∷ [] }

abbrev pub nothing_left : Residue
nothing_left = record { kept = []; stopped = false }

pub permutes : permutes_pairs traded table ≡ true
unfolding opened
permutes = refl

pub respects_not : respects traded table ≡ false
unfolding opened
respects_not = refl

pub same_sets : drop 1 (sets_at traded (1 ∷ [])) ≡ drop 1 (sets_at traded (0 ∷ []))
unfolding opened
same_sets = refl

pub left_of_1 : residue (sets_at traded (1 ∷ [])) (nogoods_of traded table (1 ∷ [])) ≡ nothing_left
unfolding opened
left_of_1 = refl

pub left_of_0 : residue (sets_at traded (0 ∷ [])) (nogoods_of traded table (0 ∷ [])) ≡ nothing_left
unfolding opened
left_of_0 = refl

pub below_1 : length (nodes_below traded 3 (1 ∷ [])) ≡ 6
unfolding opened
below_1 = refl

pub below_0 : length (nodes_below traded 3 (0 ∷ [])) ≡ 7
unfolding opened
below_0 = refl

-- with the trade of variables 2 and 3 alone, which respects them, the same prefixes have the same subtree
abbrev pub trade : List ℕ
trade = 0 ∷ 1 ∷ 2 ∷ 3 ∷ 6 ∷ 7 ∷ 4 ∷ 5 ∷ []

abbrev pub untouched : Problem
untouched = record { variables = 4; values = 2; initial = 3 ∷ 2 ∷ 3 ∷ 3 ∷ []; constraints = []; symmetries = trade ∷ [] }

pub respects_trade : respects untouched trade ≡ true
unfolding opened
respects_trade = refl

pub left_alike : residue (sets_at untouched (1 ∷ [])) (nogoods_of untouched trade (1 ∷ [])) ≡ residue (sets_at untouched (0 ∷ [])) (nogoods_of untouched trade (0 ∷ []))
unfolding opened
left_alike = refl

pub below_alike : nodes_below untouched 3 (1 ∷ []) ≡ map (moved (1 ∷ [])) (nodes_below untouched 3 (0 ∷ []))
unfolding opened
below_alike = refl

pub below_six : length (nodes_below untouched 3 (0 ∷ [])) ≡ 6
unfolding opened
below_six = refl
