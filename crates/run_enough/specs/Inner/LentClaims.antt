-- What is claimed of "at least m plans?" (paper 02, #101), asked of a sheet, pairs and a block. The proofs are in proofs/LentEnough.antt.
use Rattle.std.specs.Prelude.{◌≡◌, ◌↔◌, List, ℕ, ◌*◌, ◌≤◌, ◌<◌, length}
use Rattle.model.specs.{Verdict.accepted, Verdict.refused, Sheet.problem_of, Run.finished, Run.spent, Run.ended, Claims.plans_among}
use Rattle.order.specs.RunBy.{leaders_by}
use Rattle.run_input.specs.Lent.{verdict_lent, problem_with, order_lent, problem_lent, answer_lent, plans_lent}
use Rattle.run_enough.specs.{AtLeast.enough, AtLeast.too_few, AtLeast.unknown, Lent.EnoughAnswer, Lent.refusal, Lent.answered, Lent.enough_lent}

-- a refusal is answered with its number and item
abbrev pub EnoughRefusedLent : Type 0
EnoughRefusedLent = (b pairs block : List ℕ) (limit m number item : ℕ) → verdict_lent b pairs block ≡ refused number item → enough_lent b pairs block limit m ≡ refusal number item

-- m = 0: yes without a node, once every question is passed, whatever the limit
abbrev pub EnoughNoneLent : Type 0
EnoughNoneLent = (b pairs block : List ℕ) (limit : ℕ) → verdict_lent b pairs block ≡ accepted → enough_lent b pairs block limit 0 ≡ answered (enough 0 0)

-- what was said, where the complete run is finished with `count` plans in its list, after so many nodes: yes and no agree with the list; yes or no is said where the limit allows its nodes
pub record AgreesLent (said : EnoughAnswer) (limit m nodes count : ℕ) : Type 0 where
  pub yes_so : (plans made : ℕ) → said ≡ answered (enough plans made) → m ≤ count
  pub no_so : (plans made : ℕ) → said ≡ answered (too_few plans made) → (count < m) × (plans ≡ count) × (made ≡ nodes)
  pub decided : nodes ≤ limit → (plans made : ℕ) → said ≡ answered (unknown plans made) → ⊥
  pub yes_exactly : nodes ≤ limit → ((plans : ℕ) × (made : ℕ) × (said ≡ answered (enough plans made))) ↔ (m ≤ count)

abbrev pub EnoughAgreesLent : Type 0
EnoughAgreesLent =
    (b pairs block : List ℕ) (limit m limit' : ℕ) (out : List ℕ) (plans made : ℕ) → answer_lent b pairs block limit' out ≡ ended (finished plans made) →
    AgreesLent (enough_lent b pairs block limit m) limit m made (length (plans_lent b pairs block limit' out (finished plans made)))

-- the figures: on yes, of the nodes up to the m-th plan and no further; else those of a run with the same limit and room for all plans
pub record FiguresLent (said : EnoughAnswer) (b pairs block : List ℕ) (limit m : ℕ) : Type 0 where
  pub on_yes : (plans made : ℕ) → said ≡ answered (enough plans made) →
      (plans ≡ m) × (made ≤ limit) × (plans_among (problem_lent b pairs block) made ≡ m) × ((k : ℕ) → k < made → plans_among (problem_lent b pairs block) k < m)
  pub on_no : (plans made : ℕ) → said ≡ answered (too_few plans made) →
      (out : List ℕ) → length (leaders_by (order_lent b pairs) (problem_with b block)) * (problem_of b).variables ≤ length out → answer_lent b pairs block limit out ≡ ended (finished plans made)
  pub on_spent : (plans made : ℕ) → said ≡ answered (unknown plans made) →
      (out : List ℕ) → length (leaders_by (order_lent b pairs) (problem_with b block)) * (problem_of b).variables ≤ length out → answer_lent b pairs block limit out ≡ ended (spent plans made)

abbrev pub EnoughFiguresLent : Type 0
EnoughFiguresLent = (b pairs block : List ℕ) (limit m : ℕ) → FiguresLent (enough_lent b pairs block limit m) b pairs block limit m

-- a larger limit changes no answer but spent
abbrev pub EnoughMoreLent : Type 0
EnoughMoreLent =
    (b pairs block : List ℕ) (limit limit' m : ℕ) → limit ≤ limit' → ((plans made : ℕ) → enough_lent b pairs block limit m ≡ answered (unknown plans made) → ⊥) →
    enough_lent b pairs block limit' m ≡ enough_lent b pairs block limit m
