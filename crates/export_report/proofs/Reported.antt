-- What a run's answer says of the report. Assumes nothing.
use Rattle.model.specs.Kit.{◌≡◌, refl, sym, ap, ap₂, ◌∙◌, subst, Bool, true, false, List, [], ◌∷◌, ℕ, ◌*◌, ◌≤◌, ◌<◌, arith, eqb, leb, length, take, drop, length-append, le-leb, lt-leb}
use Rattle.model.specs.{Lists.at, Lists.choose, Bytes.four_bytes, Verdict.Verdict, Verdict.accepted, Verdict.refused, Verdict.ask, Verdict.kept, Room.Outcome, Room.wrote, Room.refusal}
use Rattle.model.specs.{Room.outcome_of}
use Rattle.model.specs.{Room.room_after, Sheet.header_of, Sheet.problem_of, Sheet.verdict_of, Run.Ending, Run.plans_in, Run.result_of, Run.ended, Run.answer_of, Run.written, Run.list_of}
use Rattle.model.specs.{Run.listed_plans}
use native.Mathlib.Nat.{le_of_mul-le-mul_right}
use Rattle.report.specs.{Report.line, Report.refused_word, Report.result_text, Report.report_for, Report.report_of, Report.REPORT_LIMIT, Inner.Text.ended_text, Inner.Text.Fitted}
use Rattle.families_figure.specs.Figure.{report_figure}
use Rattle.families_count.specs.Inner.Held.{Sized}
use Rattle.families_count.proofs.Bare.{report_dash}
use Rattle.model.proofs.{Accepted.passed, Accepted.is_accepted_lem, Demands.reply_so, Demands.read_back, Runs.rows_counted, Runs.rows_sized, Runs.rows_fit}
use Rattle.wire.specs.{Wire.wrong_length, Wire.three_numbers, Outcomes.outcome_code, Outcomes.outcome_answer, Outcomes.lent_code, Outcomes.lent_room, Outcomes.lent_answer}
use Rattle.export_report.specs.{Report.report_verdict, Report.report_code, Report.report_bytes, Report.report_answer, Report.length_told, Report.CallReport, Inner.Inner.Listed}
use Rattle.export_report.specs.Inner.Inner.{Dashed}
use Rattle.wire.proofs.Outcomes as lent

-- ---- refusals
pub refused_text : (b : List ℕ) (number item : ℕ) → verdict_of b ≡ refused number item → line refused_word (number ∷ item ∷ []) ≡ report_for (verdict_of b) b
unfolding report_for
refused_text b number item e = sym (ap (λ (v : Verdict). report_for v b) e)

-- ---- the plans and the text of a run that ended
variables_of : (b : List ℕ) → (problem_of b).variables ≡ (header_of b).variables
unfolding problem_of
variables_of b = refl

module _ (b : List ℕ) (n : ℕ) (out : List ℕ) (e : Ending) (size : Sized b n) (long : length out ≡ 4096 * n) (h : answer_of b REPORT_LIMIT out ≡ ended e) where
  ran : (verdict_of b ≡ accepted) × ((result_of (problem_of b) REPORT_LIMIT (length out)).ending ≡ e)
  unfolding answer_of
  ran = reply_so (verdict_of b) (result_of (problem_of b) REPORT_LIMIT (length out)).ending e h

  pub verdict : verdict_of b ≡ accepted
  verdict = ran.0

  counted : plans_in e ≡ length (result_of (problem_of b) REPORT_LIMIT (length out)).rows
  counted = sym (ap plans_in ran.1) ∙ rows_counted (problem_of b) REPORT_LIMIT (length out)

  width : n ≡ (problem_of b).variables
  width = size.true_of verdict

  fitting : plans_in e * n ≤ 4096 * n
  fitting =
      let p = problem_of b in
      let f : length (result_of p REPORT_LIMIT (length out)).rows * p.variables ≤ 4096 * n = subst (λ (k : ℕ). length (result_of p REPORT_LIMIT (length out)).rows * p.variables ≤ k) long
      (rows_fit p REPORT_LIMIT (length out)) in
      subst (λ (k : ℕ). k * n ≤ 4096 * n) (sym counted) (subst (λ (k : ℕ). length (result_of p REPORT_LIMIT (length out)).rows * k ≤ 4096 * n) (sym width) f)

  pub listed : (list : List ℕ) → length list ≡ length out → Listed e n list
  listed list same =
      let some : 0 < n = omega (arith, width, variables_of b, (passed b (is_accepted_lem (verdict_of b) verdict)).header.some) in
      record { few = size.most; most = le_of_mul-le-mul_right fitting some; inside = omega (arith, fitting) }

  room_is : length out ≡ 4096 * (problem_of b).variables
  room_is = long ∙ ap (λ (k : ℕ). 4096 * k) width

  pub dashed : Dashed e (report_figure b REPORT_LIMIT)
  dashed k = report_dash b REPORT_LIMIT verdict (λ plans nodes q. k plans nodes (sym (ap (λ (m : ℕ). (result_of (problem_of b) REPORT_LIMIT m).ending) (sym room_is) ∙ ran.1) ∙ q))

  pub ended_text_lem : (list : List ℕ) → list ≡ list_of b REPORT_LIMIT out → ended_text e (report_figure b REPORT_LIMIT) n list ≡ report_for (verdict_of b) b
  unfolding ended_text report_for list_of
  ended_text_lem list l =
      let p = problem_of b in
      let rows : listed_plans n (plans_in e) list ≡ (result_of p REPORT_LIMIT (length out)).rows =
      ap₂ (λ (k : ℕ) (o : List ℕ). listed_plans k (plans_in e) o) width (l ∙ ap (λ (v : Verdict). kept v out (written (result_of p REPORT_LIMIT (length out)).rows out)) verdict)
      ∙ read_back p.variables (result_of p REPORT_LIMIT (length out)).rows out (plans_in e) counted (rows_sized p REPORT_LIMIT (length out)) in
      let so : (result_of p REPORT_LIMIT (length out)).ending ≡ e = ran.1 in
      let f = report_figure b REPORT_LIMIT in
      let whole : ended_text e f n list ≡ result_text (result_of p REPORT_LIMIT (length out)) f =
      ap₂ (λ (x : Ending) (y : List (List ℕ)). result_text (record { ending = x; rows = y }) f) (sym so) rows in
      whole
      ∙ ap (λ (k : ℕ). result_text (result_of p REPORT_LIMIT k) f) room_is
      ∙ sym (ap (λ (v : Verdict). report_for v b) verdict)

-- ---- the exported report
module _ (input out answer : List ℕ) where
  pub wrong_answer : (length answer ≡ 12 → ⊥) → CallReport input out answer wrong_length out answer
  unfolding report_code report_bytes report_answer
  wrong_answer h = let r = lent.wrong_answer (report_verdict input out) (report_of input) out answer h in record { returns = r.0; leaves = r.1.0; tells = r.1.1 }

  module _ (right : length answer ≡ 12) (after : List ℕ) (r : ℕ) (f : Fitted out (report_of input) after r) where
    -- the outcome is that of the question about the room
    outcome : (o : Outcome) (code : ℕ) (bytes : List ℕ) → o ≡ outcome_of (report_verdict input out) (report_of input) → code ≡ outcome_code o → after ≡ room_after (report_verdict input out)
        (report_of input) out → bytes ≡ outcome_answer o answer →
        CallReport input out answer code after bytes
    unfolding report_code report_bytes report_answer
    outcome o code bytes so c l w =
        let r = lent.right_answer (report_verdict input out) (report_of input) out answer o code after bytes right so c l w in record { returns = r.0; leaves = r.1.0; tells = r.1.1 }

    pub too_short : length out < r → CallReport input out answer (22 * 256) after answer
    unfolding report_verdict
    too_short h =
        let e : report_verdict input out ≡ refused 22 0 = ap {B = Verdict} (λ (b : Bool). ask b 22 0 accepted) (lt-leb (length (report_of input)) (length out) (omega (arith, f.count))) in
        outcome (refusal 22 0) (22 * 256) answer (sym (ap (λ (v : Verdict). outcome_of v (report_of input)) e)) refl
        (f.short (omega (arith, f.count)) ∙ sym (ap (λ (v : Verdict). room_after v (report_of input) out) e)) refl

    pub reported : r ≤ length out → (bytes : List ℕ) → bytes ≡ three_numbers 1 r 0 → CallReport input out answer 0 after bytes
    unfolding report_verdict
    reported h bytes w =
        let e : report_verdict input out ≡ accepted = ap {B = Verdict} (λ (b : Bool). ask b 22 0 accepted) (le-leb (length (report_of input)) (length out) (omega (arith, f.count))) in
        outcome (wrote (length (report_of input))) 0 bytes (sym (ap (λ (v : Verdict). outcome_of v (report_of input)) e)) refl
        (f.fits (omega (arith, f.count)) ∙ sym (ap (λ (v : Verdict). room_after v (report_of input) out) e)) (w ∙ ap (λ (k : ℕ). three_numbers 1 k 0) f.count)

pub whole_input : (input out after : List ℕ) (r : ℕ) → Fitted out (report_for (verdict_of (take 65536 input)) (take 65536 input)) after r → Fitted out (report_of input) after r
unfolding report_of
whole_input input out after r f = f

second_told : (k : ℕ) → length_told (three_numbers 1 k 0) ≡ k
unfolding three_numbers four_bytes at
second_told k = omega arith

-- where 0 comes back, the length told is the report's, which lies inside the buffer
pub report_inside : (input out answer : List ℕ) (code : ℕ) (out' answer' : List ℕ) → CallReport input out answer code out' answer' → code ≡ 0 → (length_told answer' ≡ length (report_of input)) ×
    (length_told answer' ≤ length out')
unfolding report_code report_bytes report_answer report_verdict lent_code lent_room lent_answer
report_inside input out answer code out' answer' c z = go (eqb (length answer) 12) (leb (length (report_of input)) (length out)) (sym z ∙ c.returns) c.leaves c.tells
  where
    go : (t u : Bool) → 0 ≡ choose t (outcome_code (outcome_of (ask u 22 0 accepted) (report_of input))) wrong_length → out' ≡ choose t (room_after (ask u 22 0 accepted) (report_of input) out) out →
        answer' ≡ choose t (outcome_answer (outcome_of (ask u 22 0 accepted) (report_of input)) answer) answer → (length_told answer' ≡ length (report_of input)) × (length_told answer' ≤ length out')
    go true true q l w =
        let e : length_told answer' ≡ length (report_of input) = ap (λ (a : List ℕ). length_told a) w ∙ second_told (length (report_of input)) in
        (e, omega (arith, e, ap length l, length-append (report_of input) (drop (length (report_of input)) out)))
    go true false q l w = absurd (omega arith)
    go false u q l w = absurd (omega arith)
