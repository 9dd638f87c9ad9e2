-- What a caller of `question` holds (specs/Calls). Assumes nothing.
use Rattle.model.specs.Kit.{◌≡◌, sym, ap, ◌∙◌}
use Rattle.model.specs.{Verdict.Verdict, Sheet.verdict_of}
use Rattle.model.proofs.{OneMoreAccepted.one_more_accepted, Numbering.is_accepted_answer, Numbering.is_refused, Numbering.refused_said}
use Rattle.sheet.specs.Calls.{Says, QuestionCalls, OneMoreCalls}
use Rattle.std.specs.Prelude.{Result}
use Rattle.model.specs.{Refusals.verdict_from, declared.refusals.Refusal.Refusal}

-- an answer says its verdict
pub says : (r : Result Unit Refusal) (v : Verdict) → verdict_from r ≡ v → Says r v
says r v e = record {
  accepts = (λ q. sym e ∙ ap verdict_from q, λ q. is_accepted_answer r (e ∙ q));
  refuses = λ number item. (λ n. sym e ∙ refused_said r number item n, λ q. is_refused r number item (e ∙ q));
}

pub question_calls : QuestionCalls
question_calls b r c = says r (verdict_of b) c

pub one_more_calls : OneMoreCalls
one_more_calls b c t k r o x y =
    let s = (question_calls c r y).accepts in
    let m = one_more_accepted b c t k o (sym x) in
    (λ e. m.0 (s.0 e), λ q. s.1 (m.1 q))
