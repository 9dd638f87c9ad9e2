-- What a merge answers, by what it called. Assumes nothing.
use Rattle.model.specs.Kit.{◌≡◌, sym, ap, ◌∙◌, Bool, List, ℕ, length, eq-eqb, ne_eqb}
use Rattle.model.specs.{Lists.choose, Verdict.Verdict, Room.Outcome, Room.outcome_of, Room.room_after}
use Rattle.list_merge.specs.Merge.{merged, merge_verdict}
use Rattle.wire.specs.{Wire.wrong_length, Outcomes.outcome_code, Outcomes.lent_code, Outcomes.lent_room}
use Rattle.export_merge.specs.Merged.{merge_outcome, merge_answer, CallMerged}
use Rattle.wire.proofs.Outcomes as lent

module _ (n : ℕ) (pairs a b room answer : List ℕ) where
  abbrev v : Verdict
  v = merge_verdict n pairs a b (length room)

  abbrev text : List ℕ
  text = merged n pairs a b

  pub wrong_answer : (length answer ≡ 12 → ⊥) → CallMerged n pairs a b room answer wrong_length room answer
  unfolding merge_answer
  wrong_answer h =
      let r = lent.wrong_answer v text room answer h in
      record { returns = r.0; leaves = r.1.0; tells = sym (ap {B = List ℕ} (λ (t : Bool). choose t (merge_outcome (outcome_of v text) answer) answer) (ne_eqb (length answer) 12 h)) }

  pub right_answer : (o : Outcome) (r : ℕ) (after bytes : List ℕ) → length answer ≡ 12 → o ≡ outcome_of v text → r ≡ outcome_code o → after ≡ room_after v text room → bytes ≡ merge_outcome o answer →
      CallMerged n pairs a b room answer r after bytes
  unfolding lent_code lent_room merge_answer
  right_answer o r after bytes h so code l w =
      let e = eq-eqb (length answer) 12 h in
      record {
        returns = code ∙ ap outcome_code so ∙ sym (ap {B = ℕ} (λ (t : Bool). choose t (outcome_code (outcome_of v text)) wrong_length) e);
        leaves = l ∙ sym (ap {B = List ℕ} (λ (t : Bool). choose t (room_after v text room) room) e);
        tells = w ∙ ap (λ (q : Outcome). merge_outcome q answer) so ∙ sym (ap {B = List ℕ} (λ (t : Bool). choose t (merge_outcome (outcome_of v text) answer) answer) e);
      }
