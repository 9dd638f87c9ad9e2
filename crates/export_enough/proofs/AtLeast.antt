-- What `planner_at_least` answers, by what it called. Assumes nothing.
use Rattle.model.specs.Kit.{◌≡◌, sym, ap, ◌∙◌, Bool, List, ℕ, ◌^◌, ◌<◌, arith, length, eq-eqb, ne_eqb}
use Rattle.model.specs.{Lists.choose, Problem.Problem, Verdict.Verdict, Verdict.accepted, Verdict.refused, Verdict.reply}
use Rattle.run_input.specs.Lent.{verdict_lent, problem_lent}
use Rattle.run_enough.specs.{AtLeast.Enough, AtLeast.enough, AtLeast.too_few, AtLeast.unknown, AtLeast.enough_of, Lent.EnoughAnswer, Lent.answered, Lent.enough_lent}
use Rattle.run_enough.proofs.AtLeast.{Said, said, to_limit}
use Rattle.wire.specs.Wire.{wrong_length}
use Rattle.export_enough.specs.{Enough.said_code, Enough.said_bytes, Enough.enough_code, Enough.enough_bytes, Inner.Inner.SmallSaid}
use Rattle.wire.proofs.Codes.{Small}
use Rattle.export_lent.proofs.Lent.{lent_small}

-- ---- the numbers fit
of_said : (p : Problem) (limit m : ℕ) → limit < 2 ^ 32 → m < 2 ^ 32 → (e : Enough) → Said p limit m e → SmallSaid (answered e)
of_said p limit m l h (enough plans made) s = (omega (arith, s.0), omega (arith, s.1, to_limit p m limit s.2))
of_said p limit m l h (too_few plans made) s = (omega (arith, s.0, s.2), omega (arith, s.1, s.3))
of_said p limit m l h (unknown plans made) s = (omega (arith, s.0, s.2), omega (arith, s.1))

pub small_said : (b pairs block : List ℕ) (limit m : ℕ) → limit < 2 ^ 32 → m < 2 ^ 32 → SmallSaid (enough_lent b pairs block limit m)
unfolding enough_lent
small_said b pairs block limit m l h = go (verdict_lent b pairs block) (lent_small b pairs block)
  where
    go : (v : Verdict) → Small v → SmallSaid (reply v (enough_of (problem_lent b pairs block) limit m))
    go accepted s = of_said (problem_lent b pairs block) limit m l h (enough_of (problem_lent b pairs block) limit m) (said (problem_lent b pairs block) limit m)
    go (refused number item) s = s

-- ---- the answer's length is asked first
module _ (b pairs block : List ℕ) (m limit : ℕ) (answer : List ℕ) where
  pub wrong_size : (length answer ≡ 12 → ⊥) → (wrong_length ≡ enough_code b pairs block m limit answer) × (answer ≡ enough_bytes b pairs block m limit answer)
  unfolding enough_code enough_bytes
  wrong_size n =
      let e = ne_eqb (length answer) 12 n in (
        sym (ap (λ (d : Bool). choose d (said_code (enough_lent b pairs block limit m)) wrong_length) e),
        sym (ap (λ (d : Bool). choose d (said_bytes (enough_lent b pairs block limit m) answer) answer) e),
      )

  pub right_size : (said : EnoughAnswer) (code : ℕ) (answer' : List ℕ) → length answer ≡ 12 → said ≡ enough_lent b pairs block limit m → code ≡ said_code said → answer' ≡ said_bytes said answer →
      (code ≡ enough_code b pairs block m limit answer) × (answer' ≡ enough_bytes b pairs block m limit answer)
  unfolding enough_code enough_bytes
  right_size said code answer' n s c a =
      let e = eq-eqb (length answer) 12 n in (
        c ∙ ap said_code s ∙ sym (ap (λ (d : Bool). choose d (said_code (enough_lent b pairs block limit m)) wrong_length) e),
        a ∙ ap (λ (z : EnoughAnswer). said_bytes z answer) s ∙ sym (ap (λ (d : Bool). choose d (said_bytes (enough_lent b pairs block limit m) answer) answer) e),
      )
