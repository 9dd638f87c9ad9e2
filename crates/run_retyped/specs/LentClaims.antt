-- Retyped exchanges (paper 02, #109): two sheets that differ only in the order of their exchanges, both lent the same pairs and block.
-- The proofs are in proofs/LentRetyped.antt.
use Rattle.std.specs.Prelude.{◌≡◌, ◌↔◌, List, ℕ}
use Rattle.model.specs.{Verdict.accepted, Run.Tally}
use Rattle.order.specs.RunBy.{sets_by}
use Rattle.run_input.specs.Lent.{verdict_lent, problem_with, order_lent, problem_lent, answer_lent, list_lent, tally_lent}
use Rattle.run_retyped.specs.Retyped.{SameSearch, SameButOrder}

-- no run can tell them apart: the same sets, by place number, at every prefix, the same tree, and under one limit and room the same answer, list and tally
pub record SameRunsLent (b c pairs block : List ℕ) : Type 0 where
  pub search : SameSearch (problem_lent b pairs block) (problem_lent c pairs block)
  pub sets : (prefix : List ℕ) → sets_by (order_lent c pairs) (problem_with c block) prefix ≡ sets_by (order_lent b pairs) (problem_with b block) prefix
  pub answers : (limit : ℕ) (out : List ℕ) → answer_lent c pairs block limit out ≡ answer_lent b pairs block limit out
  pub lists : (limit : ℕ) (out : List ℕ) → list_lent c pairs block limit out ≡ list_lent b pairs block limit out
  pub tallies : (limit : ℕ) (out : List ℕ) (tally : Tally) → tally_lent c pairs block limit out tally ≡ tally_lent b pairs block limit out tally

abbrev pub RetypedLent : Type 0
RetypedLent = (b c pairs block : List ℕ) → verdict_lent b pairs block ≡ accepted → verdict_lent c pairs block ≡ accepted → SameButOrder b c → SameRunsLent b c pairs block

-- where one is accepted, the other is too
abbrev pub RetypedAcceptedLent : Type 0
RetypedAcceptedLent = (b c pairs block : List ℕ) → verdict_lent b pairs block ≡ accepted → SameButOrder b c → verdict_lent c pairs block ≡ accepted

-- so of two that differ only so, seen from either, one is accepted exactly if the other is
abbrev pub RetypedExactly : Type 0
RetypedExactly = (b c pairs block : List ℕ) → SameButOrder b c → SameButOrder c b → (verdict_lent b pairs block ≡ accepted) ↔ (verdict_lent c pairs block ≡ accepted)
