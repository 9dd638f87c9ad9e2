-- What a call that writes to lent room answers, by what it called. Assumes nothing.
use Rattle.model.specs.Kit.{◌≡◌, sym, ap, ◌∙◌, Bool, List, ℕ, length, eq-eqb, ne_eqb}
use Rattle.model.specs.{Lists.choose, Verdict.Verdict, Verdict.accepted, Verdict.refused, Room.Outcome, Room.wrote, Room.refusal, Room.outcome_of, Room.room_after}
use Rattle.model.proofs.Demands.{reply_so, reply_refused}
use Rattle.wire.specs.{Wire.wrong_length, Outcomes.outcome_code, Outcomes.outcome_answer, Outcomes.lent_code, Outcomes.lent_room, Outcomes.lent_answer}

pub refused_is : (v : Verdict) (text : List ℕ) (number item : ℕ) → refusal number item ≡ outcome_of v text → v ≡ refused number item
refused_is v text number item e = reply_refused v (length text) number item (sym e)

pub wrote_is : (v : Verdict) (text : List ℕ) (k : ℕ) → wrote k ≡ outcome_of v text → (v ≡ accepted) × (k ≡ length text)
wrote_is v text k e = let r = reply_so v (length text) k (sym e) in (r.0, sym r.1)

module _ (v : Verdict) (text room answer : List ℕ) where
  abbrev Answered : ℕ → List ℕ → List ℕ → Type 0
  Answered r after bytes = (r ≡ lent_code v text answer) × ((after ≡ lent_room v text answer room) × (bytes ≡ lent_answer v text answer))

  pub wrong_answer : (length answer ≡ 12 → ⊥) → Answered wrong_length room answer
  unfolding lent_code lent_room lent_answer
  wrong_answer h =
      let e = ne_eqb (length answer) 12 h in (
        sym (ap {B = ℕ} (λ (t : Bool). choose t (outcome_code (outcome_of v text)) wrong_length) e),
        (
          sym (ap {B = List ℕ} (λ (t : Bool). choose t (room_after v text room) room) e),
          sym (ap {B = List ℕ} (λ (t : Bool). choose t (outcome_answer (outcome_of v text) answer) answer) e),
        ),
      )

  pub right_answer : (o : Outcome) (r : ℕ) (after bytes : List ℕ) → length answer ≡ 12 → o ≡ outcome_of v text → r ≡ outcome_code o → after ≡ room_after v text room → bytes ≡ outcome_answer o answer
      → Answered r after bytes
  unfolding lent_code lent_room lent_answer
  right_answer o r after bytes h so code l w =
      let e = eq-eqb (length answer) 12 h in (
        code ∙ ap outcome_code so ∙ sym (ap {B = ℕ} (λ (t : Bool). choose t (outcome_code (outcome_of v text)) wrong_length) e),
        (
          l ∙ sym (ap {B = List ℕ} (λ (t : Bool). choose t (room_after v text room) room) e),
          w ∙ ap (λ (q : Outcome). outcome_answer q answer) so ∙ sym (ap {B = List ℕ} (λ (t : Bool). choose t (outcome_answer (outcome_of v text) answer) answer) e),
        ),
      )
