-- What `planner_small_sheet` answers, by what it called. Assumes nothing.
use Rattle.model.specs.Kit.{◌≡◌, sym, ap, ◌∙◌, Bool, true, false, List, ℕ, length, eq-eqb, ne_eqb}
use Rattle.model.specs.Room.{Outcome}
use Rattle.sheet_small.specs.Answers.{small_outcome, small_room}
use Rattle.wire.specs.{Wire.wrong_length, Outcomes.outcome_code, Outcomes.outcome_answer}
use Rattle.export_small.specs.SmallSheets.{small_code, small_out, small_answer}

module _ (k : ℕ) (out answer : List ℕ) where
  abbrev pick_code : Bool → ℕ
  pick_code t = elim t [ true ↦ outcome_code (small_outcome k out) | false ↦ wrong_length ]

  abbrev pick_out : Bool → List ℕ
  pick_out t = elim t [ true ↦ small_room k out | false ↦ out ]

  abbrev pick_answer : Bool → List ℕ
  pick_answer t = elim t [ true ↦ outcome_answer (small_outcome k out) answer | false ↦ answer ]

  abbrev Answered : ℕ → List ℕ → List ℕ → Type 0
  Answered r after bytes = (r ≡ small_code k out answer) × ((after ≡ small_out k out answer) × (bytes ≡ small_answer k out answer))

  pub wrong_length_lem : (length answer ≡ 12 → ⊥) → Answered wrong_length out answer
  unfolding small_code small_out small_answer
  wrong_length_lem h = let e = ne_eqb (length answer) 12 h in (sym (ap pick_code e), (sym (ap pick_out e), sym (ap pick_answer e)))

  pub answered : (o : Outcome) (r : ℕ) (after bytes : List ℕ) → length answer ≡ 12 → o ≡ small_outcome k out → r ≡ outcome_code o → after ≡ small_room k out → bytes ≡ outcome_answer o answer
      → Answered r after bytes
  unfolding small_code small_out small_answer
  answered o r after bytes h s c a b =
      let e = eq-eqb (length answer) 12 h in
      (c ∙ ap outcome_code s ∙ sym (ap pick_code e), (a ∙ sym (ap pick_out e), b ∙ ap (λ (q : Outcome). outcome_answer q answer) s ∙ sym (ap pick_answer e)))
