-- What callers of planner_question and planner_run hold (specs/Exported), from the contracts and `demands`. Assumes nothing.
use Rattle.std.specs.Prelude.{Ok}
use Rattle.model.specs.Kit.{◌≡◌, refl, sym, ap, ◌∙◌, subst, Bool, true, false, not, List, [], ◌∷◌, ℕ, zero, suc, ◌+◌, ◌*◌, ◌^◌, ◌<◌, arith, leb, ltb, eqb, length, eq-eqb, eqb-true, eqb-false}
use Rattle.model.specs.Sheet.{Header, word, header_of, problem_of, scope_at, rows_at, after_at, header_verdict, sets_verdict, constraint_verdict, constraints_verdict, permutes_pairs, offsets_fit}
use Rattle.model.specs.Sheet.{tables_fit}
use Rattle.model.specs.Sheet.{form_verdict, symmetries_verdict, verdict_of}
use Rattle.model.specs.{Lists.choose, Lists.both, Lists.all, Lists.at, Lists.below, Lists.ascending, Lists.rows_ascend, Bytes.four_bytes, Problem.Problem, Problem.respects, Verdict.Verdict}
use Rattle.model.specs.{Verdict.accepted, Verdict.refused, Verdict.ask, Verdict.reply, Verdict.kept, Run.refusal, Run.ended, Run.finished, Run.spent, Run.full, Run.answer_of, Run.written, Run.list_of}
use Rattle.run_state.specs.{Meaning.ending_of, declared.Ending.Ending, declared.Ending.TheVariants.Finished, declared.Ending.TheVariants.Spent, declared.Ending.TheVariants.Full}
use Rattle.run.specs.{Calls.CallRun}
use Rattle.promises.proofs.Demands.{demands}
use Rattle.wire.specs.Wire.{code_of, wrong_length, three_numbers, four_at}
use Rattle.export_run.specs.{Run.question_code, Run.ending_bytes, Run.answer_code, Run.answer_bytes, Run.run_code, Run.run_list, Run.run_answer, Calls.CallExported}
use Rattle.promises.specs.Exported.{QuestionCode, Tells, Exported}
use Rattle.export_run.proofs.Ran.{wrong_answer}
use Rattle.model.specs.Run as R

-- ---- no question has the number 0
abbrev Named : Verdict → Type 0
Named accepted = Unit {0}
Named (refused number item) = 0 < number

ask_named : (c : Bool) (number item : ℕ) (later : Verdict) → 0 < number → Named later → Named (ask c number item later)
ask_named true number item later h k = k
ask_named false number item later h k = h

sets_named : (b : List ℕ) (h : Header) (xs : List ℕ) (later : Verdict) → Named later → Named (sets_verdict b h xs later)
unfolding sets_verdict
sets_named b h [] later k = k
sets_named b h (x ∷ xs) later k =
    let w = word b (16 + 2 * x) in
    ask_named (both (ltb w (2 ^ h.values)) (not (eqb w 0))) 8 x (sets_verdict b h xs later) (omega arith) (sets_named b h xs later k)

constraints_named : (b : List ℕ) (h : Header) (k i o : ℕ) (later : Verdict) → Named later → Named (constraints_verdict b h k i o later)
unfolding constraints_verdict constraint_verdict
constraints_named b h zero i o later n = ask_named (eqb o h.third) 9 i later (omega arith) n
constraints_named b h (suc k) i o later n =
    let v0 = constraints_verdict b h k (suc i) (after_at b o) later in
    let ascend = rows_ascend (rows_at b o) in
    let v1 = ask ascend 13 i v0 in
    let valued = all (all (λ w. ltb w h.values)) (rows_at b o) in
    let v2 = ask valued 12 i v1 in
    let scoped = both (all (λ x. ltb x h.variables) (scope_at b o)) (ascending (scope_at b o)) in
    let v3 = ask scoped 11 i v2 in
    let tail = leb (after_at b o) h.third in
    let v4 = ask tail 9 i v3 in
    let sized = both (both (leb 1 (word b o)) (leb (word b o) 3)) (leb (word b (o + 2)) 256) in
    let v5 = ask sized 10 i v4 in
    ask_named (leb (o + 4) h.third) 9 i v5 (omega arith)
    (ask_named sized 10 i v4 (omega arith)
    (ask_named tail 9 i v3 (omega arith)
    (ask_named scoped 11 i v2 (omega arith)
    (ask_named valued 12 i v1 (omega arith)
    (ask_named ascend 13 i v0 (omega arith) (constraints_named b h k (suc i) (after_at b o) later n))))))

symmetries_named : (p : Problem) (i : ℕ) (gs : List (List ℕ)) → Named (symmetries_verdict p i gs)
unfolding symmetries_verdict
symmetries_named p i [] = tt
symmetries_named p i (g ∷ gs) =
    let v = symmetries_verdict p (suc i) gs in
    ask_named (permutes_pairs p g) 15 i (ask (respects p g) 16 i v) (omega arith) (ask_named (respects p g) 16 i v (omega arith) (symmetries_named p (suc i) gs))

header_named : (h : Header) (bytes : ℕ) (later : Verdict) → Named later → Named (header_verdict h bytes later)
unfolding header_verdict
header_named h bytes later n =
    let v7 = ask (offsets_fit h) 7 0 later in
    let v6 = ask (eqb h.size bytes) 6 0 v7 in
    let v5 = ask (leb h.symmetries 16) 5 0 v6 in
    let v4 = ask (leb h.constraints 32) 4 0 v5 in
    let v3 = ask (both (leb 1 h.values) (leb h.values 16)) 3 0 v4 in
    let v2 = ask (both (leb 1 h.variables) (leb h.variables 12)) 2 0 v3 in
    ask_named (leb 16 bytes) 1 0 v2 (omega arith)
    (ask_named (both (leb 1 h.variables) (leb h.variables 12)) 2 0 v3 (omega arith)
    (ask_named (both (leb 1 h.values) (leb h.values 16)) 3 0 v4 (omega arith)
    (ask_named (leb h.constraints 32) 4 0 v5 (omega arith)
    (ask_named (leb h.symmetries 16) 5 0 v6 (omega arith)
    (ask_named (eqb h.size bytes) 6 0 v7 (omega arith)
    (ask_named (offsets_fit h) 7 0 later (omega arith) n))))))

verdict_named : (b : List ℕ) → Named (verdict_of b)
unfolding verdict_of form_verdict
verdict_named b =
    let h = header_of b in
    let v = symmetries_verdict (problem_of b) 0 (problem_of b).symmetries in
    let v14 = ask (tables_fit h) 14 0 v in
    let v9 = constraints_verdict b h h.constraints 0 h.second v14 in
    let v8 = sets_verdict b h (below h.variables) v9 in
    header_named h (length b) v8
    (sets_named b h (below h.variables) v9
    (constraints_named b h h.constraints 0 h.second v14
    (ask_named (tables_fit h) 14 0 v (omega arith) (symmetries_named (problem_of b) 0 (problem_of b).symmetries))))

pub question_code_lem : QuestionCode
unfolding question_code
question_code_lem b code c = record {
  accepts = (λ z. go (verdict_of b) refl (sym c ∙ z), λ e. c ∙ ap code_of e);
  refuses = λ number item e. c ∙ ap code_of e;
}
  where
    go : (v : Verdict) → verdict_of b ≡ v → code_of (verdict_of b) ≡ 0 → verdict_of b ≡ accepted
    go accepted e z = e
    go (refused number item) e z = let n : 0 < number = subst Named e (verdict_named b) in let y : number * 256 + item ≡ 0 = sym (ap code_of e) ∙ z in absurd (omega arith)

-- ---- the three numbers
pub first_of : (k a b : ℕ) → four_at (three_numbers k a b) 0 ≡ k
unfolding three_numbers four_bytes at
first_of k a b = omega arith

pub second_of : (k a b : ℕ) → four_at (three_numbers k a b) 4 ≡ a
unfolding three_numbers four_bytes at
second_of k a b = omega arith

pub third_of : (k a b : ℕ) → four_at (three_numbers k a b) 8 ≡ b
unfolding three_numbers four_bytes at
third_of k a b = omega arith

pub ending_as : R.Ending → Ending
ending_as (finished plans nodes) = Finished plans nodes
ending_as (spent plans nodes) = Spent plans nodes
ending_as (full plans nodes) = Full plans nodes

pub ending_as_lem : (e : R.Ending) → ending_of (ending_as e) ≡ e
unfolding ending_as
ending_as_lem (finished plans nodes) = refl
ending_as_lem (spent plans nodes) = refl
ending_as_lem (full plans nodes) = refl

pub told : (e : R.Ending) → Tells (ending_bytes e) (ending_as e)
unfolding ending_as
told (finished plans nodes) = (first_of 1 plans nodes, second_of 1 plans nodes, third_of 1 plans nodes)
told (spent plans nodes) = (first_of 2 plans nodes, second_of 2 plans nodes, third_of 2 plans nodes)
told (full plans nodes) = (first_of 3 plans nodes, second_of 3 plans nodes, third_of 3 plans nodes)

-- an ending whose first number is 1 is finished, with the second number of plans
pub is_finish : (l : List ℕ) (e : Ending) → Tells l e → four_at l 0 ≡ 1 → (nodes : ℕ) × (e ≡ Finished (four_at l 4) nodes)
is_finish l (Finished plans nodes) t h = (nodes, ap (λ (p : ℕ). Finished p nodes) (sym t.1))
is_finish l (Spent plans nodes) t h = absurd (let q = t.0 in omega arith)
is_finish l (Full plans nodes) t h = absurd (let q = t.0 in omega arith)

module _ (b : List ℕ) (limit : ℕ) (list answer : List ℕ) (code : ℕ) (list' answer' : List ℕ) (c : CallExported b limit list answer code list' answer') where
  unfit : (length answer ≡ 12 → ⊥) → (code ≡ wrong_length) × (list' ≡ list) × (answer' ≡ answer)
  unfit n = let w = wrong_answer b limit list answer n in (c.returns ∙ sym w.returns, c.leaves ∙ sym w.leaves, c.tells ∙ sym w.tells)

  -- an answer of twelve bytes
  module _ (twelve : length answer ≡ 12) where
    abbrev fit : eqb (length answer) 12 ≡ true
    fit = eq-eqb (length answer) 12 twelve

    so : (a : R.Answer) → answer_of b limit list ≡ a → (code ≡ answer_code a) × (list' ≡ list_of b limit list) × (answer' ≡ answer_bytes a answer)
    unfolding run_code run_list run_answer
    so a e = (
      c.returns ∙ ap {B = ℕ} (λ (t : Bool). choose t (answer_code (answer_of b limit list)) wrong_length) fit ∙ ap answer_code e,
      c.leaves ∙ ap {B = List ℕ} (λ (t : Bool). choose t (list_of b limit list) list) fit,
      c.tells ∙ ap {B = List ℕ} (λ (t : Bool). choose t (answer_bytes (answer_of b limit list) answer) answer) fit ∙ ap (λ (x : R.Answer). answer_bytes x answer) e,
    )

    refuses : (number item : ℕ) → verdict_of b ≡ refused number item → (code ≡ number * 256 + item) × (list' ≡ list) × (answer' ≡ answer)
    unfolding answer_of list_of
    refuses number item e =
        let x = R.result_of (problem_of b) limit (length list) in
        let s = so (refusal number item) (ap (λ (v : Verdict). reply v x.ending) e) in
        (s.0, s.1 ∙ ap (λ (v : Verdict). kept v list (written x.rows list)) e, s.2)

    ran_so : verdict_of b ≡ accepted → (code ≡ 0) × ((e : R.Ending) × (answer_of b limit list ≡ ended e) × (list' ≡ list_of b limit list) × (answer' ≡ ending_bytes e))
    unfolding answer_of
    ran_so e =
        let x = (R.result_of (problem_of b) limit (length list)).ending in
        let a = ap (λ (v : Verdict). reply v x) e in
        let s = so (ended x) a in
        (s.0, (x, a, s.1, s.2))

  zero_so : code ≡ 0 → (length answer ≡ 12) × (verdict_of b ≡ accepted)
  zero_so z = let t = twelve (eqb (length answer) 12) refl in (t, good t (verdict_of b) refl)
    where
      twelve : (t : Bool) → eqb (length answer) 12 ≡ t → length answer ≡ 12
      twelve true e = eqb-true (length answer) 12 e
      twelve false e = absurd (let w = (unfit (eqb-false (length answer) 12 e)).0 in omega arith)

      good : length answer ≡ 12 → (v : Verdict) → verdict_of b ≡ v → verdict_of b ≡ accepted
      good t accepted e = e
      good t (refused number item) e =
          let w = (refuses t number item e).0 in
          let n : 0 < number = subst Named e (verdict_named b) in
          absurd (omega arith)

  called : code ≡ 0 → (e : Ending) × Tells answer' e × CallRun b limit list (Ok e) list'
  called z =
      let f = zero_so z in
      let r = (ran_so f.0 f.1).1 in (
        ending_as r.0,
        subst (λ (l : List ℕ). Tells l (ending_as r.0)) (sym r.3) (told r.0),
        record { answers = ap ended (ending_as_lem r.0) ∙ sym r.1; leaves = r.2 },
      )

pub exported : Exported
exported b limit list answer code list' answer' c = record {
  unfit = unfit b limit list answer code list' answer' c;
  refuses = refuses b limit list answer code list' answer' c;
  ends = λ f. (ran_so b limit list answer code list' answer' c f.0 f.1).0;
  zero = zero_so b limit list answer code list' answer' c;
  called = called b limit list answer code list' answer' c;
  at_end = λ z. let r = called b limit list answer code list' answer' c z in (r.0, r.1, (demands b limit list (Ok r.0) list' r.2).at_end r.0 refl);
  at_finish = λ z k. let r = called b limit list answer code list' answer' c z in let f = is_finish answer' r.0 r.1 k in
      (demands b limit list (Ok r.0) list' r.2).at_finish (four_at answer' 4) f.0 (ap Ok f.1);
}
