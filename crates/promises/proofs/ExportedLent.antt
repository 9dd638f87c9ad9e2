-- What callers of planner_run_lent, planner_at_least and planner_closed hold (specs/ExportedLent), from the contracts and the theorems about the calls inside.
-- Assumes nothing.
use Rattle.std.specs.Prelude.{Option, None, Some, Result, Ok, Err}
use Rattle.model.specs.Kit.{◌≡◌, refl, sym, ap, ◌∙◌, subst, subst₂, Bool, true, false, List, [], ◌∷◌, ◌++◌, ℕ, zero, suc, ◌+◌, ◌*◌, ◌%◌, ◌<◌, not-suc-le-zero, arith, leb, ltb, eqb, length, eq-eqb}
use Rattle.model.specs.Kit.{ne_eqb, eqb-true, eqb-false}
use Rattle.model.specs.{Lists.choose, Lists.all, Lists.both, Lists.at, Bytes.four_bytes, Problem.Problem, Problem.respects, Verdict.Verdict, Verdict.accepted, Verdict.refused, Verdict.ask}
use Rattle.model.specs.{Sheet.problem_of, Sheet.permutes_pairs, Sheet.symmetries_verdict, Sheet.verdict_of, Run.ended, Run.finished, Run.spent, Run.full, Run.nodes_in}
use lib.Seq.{get_or-append-add}
use Rattle.order.specs.{Order.settles_all, Order.order_verdict, RunBy.place_counts, RunBy.place_tally, RunBy.tallied_by}
use Rattle.block.specs.Block.{block_tables, is_block_at, block_verdict, block_lent}
use Rattle.sheet.specs.Meaning.{and_then}
use Rattle.run_input.specs.Lent.{verdict_lent, problem_with, order_lent, answer_lent, list_lent}
use Rattle.run_input.proofs.Lent.{demanded_lent}
use Rattle.run_state.specs.{Meaning.tally_in, declared.Tally.Tally, declared.Ending.Ending, declared.Ending.TheVariants.Finished, declared.Ending.TheVariants.Spent, declared.Ending.TheVariants.Full}
use Rattle.run_enough.specs.{AtLeast.enough, AtLeast.too_few, AtLeast.unknown, Lent.EnoughAnswer, Lent.enough_lent}
use Rattle.families_closed.specs.{Open.none, Open.two, Lent.Told, Lent.refusal, Lent.answered, Lent.closed_lent, Lent.means as closed_means}
use Rattle.families_closed.proofs.Calls.{closed_calls}
use Rattle.run.specs.{Meaning.said_enough, declared.Enough.Enough, Calls.CallLent, Calls.no_tally}
use Rattle.promises.proofs.Exported.{question_code_lem, first_of, second_of, third_of, ending_as, ending_as_lem, is_finish}
use Rattle.promises.proofs.{EnoughCalls.enough_calls, Demands.demands_lent}
use Rattle.wire.specs.Wire.{code_of, wrong_length, three_numbers, four_at}
use Rattle.export_run.specs.Run.{question_code, ending_bytes, answer_code}
use Rattle.promises.specs.Exported.{Tells}
use Rattle.promises.specs.ExportedLent.{TellsCounts, RunBytesHeld, RunBytes, SaidTold, EnoughBytes, ClosedTold, ClosedBytes}
use Rattle.export_counts.specs.Tallied.{numbers_of}
use Rattle.export_lent.specs.{Lent.placed_bytes, Lent.lent_run_code, Lent.lent_run_list, Lent.lent_run_answer, Calls.CallRunBytes}
use Rattle.export_enough.specs.Enough.{said_code, said_bytes, enough_code, enough_bytes}
use Rattle.export_closed.specs.Closed.{told_code, told_bytes, closed_code, closed_answer}
use Rattle.export_lent.proofs.Lent.{wrong_answer}
use Rattle.model.specs.Run as R
use Rattle.run_enough.specs.Lent as E
use Rattle.families_closed.specs.declared.Missing.{Missing}
use Rattle.model.specs.{Refusals.number_of as papers_number, declared.refusals.Question.Question, declared.refusals.Refusal.Refusal}
use Rattle.promises.proofs.Asked.{asked_lent, reply_asked}
use Rattle.run.specs.declared.Enough.TheVariants as N
use Rattle.promises.proofs.Exported as X

-- ---- numbers behind others
shifted : (front l : List ℕ) (k o : ℕ) → length front ≡ k → four_at (front ++ l) (k + o) ≡ four_at l o
unfolding at
shifted front l k o e =
    let a₀ = one o in
    let a₁ : at (front ++ l) (k + o + 1) ≡ at l (o + 1) = ap (at (front ++ l)) (let q : k + o + 1 ≡ k + (o + 1) = omega arith in q) ∙ one (o + 1) in
    let a₂ : at (front ++ l) (k + o + 2) ≡ at l (o + 2) = ap (at (front ++ l)) (let q : k + o + 2 ≡ k + (o + 2) = omega arith in q) ∙ one (o + 2) in
    let a₃ : at (front ++ l) (k + o + 3) ≡ at l (o + 3) = ap (at (front ++ l)) (let q : k + o + 3 ≡ k + (o + 3) = omega arith in q) ∙ one (o + 3) in
    omega (arith, a₀, a₁, a₂, a₃)
  where
    one : (i : ℕ) → at (front ++ l) (k + i) ≡ at l i
    one i = ap (λ (j : ℕ). at (front ++ l) (j + i)) (sym e) ∙ get_or-append-add front l i 0

four_long : (k : ℕ) → length (four_bytes k) ≡ 4
unfolding four_bytes
four_long k = refl

-- number x of some numbers of four bytes
first_number : (k : ℕ) (l : List ℕ) → four_at (four_bytes k ++ l) 0 ≡ k
unfolding four_bytes at
first_number k l = omega arith

number_of : (ks : List ℕ) (x : ℕ) → x < length ks → four_at (numbers_of ks) (4 * x) ≡ at ks x
unfolding numbers_of at
number_of [] x h = absurd (not-suc-le-zero h)
number_of (k ∷ ks) zero h = first_number k (numbers_of ks)
number_of (k ∷ ks) (suc x) h =
    ap (four_at (four_bytes k ++ numbers_of ks)) (let e : 4 * suc x ≡ 4 + 4 * x = omega arith in e) ∙ shifted (four_bytes k) (numbers_of ks) 4 (4 * x) (four_long k) ∙ number_of ks x (omega arith)

-- twelve bytes before them
three_long : (k a b : ℕ) → length (three_numbers k a b) ≡ 12
unfolding three_numbers four_bytes
three_long k a b = refl

ending_long : (e : R.Ending) → length (ending_bytes e) ≡ 12
ending_long (finished plans made) = three_long 1 plans made
ending_long (spent plans made) = three_long 2 plans made
ending_long (full plans made) = three_long 3 plans made

-- the twelve bytes themselves
abbrev SameFront : List ℕ → List ℕ → Type 0
SameFront m l = (four_at m 0 ≡ four_at l 0) × (four_at m 4 ≡ four_at l 4) × (four_at m 8 ≡ four_at l 8)

three_front : (k a b : ℕ) (l : List ℕ) → SameFront (three_numbers k a b ++ l) (three_numbers k a b)
unfolding three_numbers four_bytes at
three_front k a b l = (refl, refl, refl)

ending_front : (e : R.Ending) (l : List ℕ) → SameFront (ending_bytes e ++ l) (ending_bytes e)
ending_front (finished plans made) l = three_front 1 plans made l
ending_front (spent plans made) l = three_front 2 plans made l
ending_front (full plans made) l = three_front 3 plans made l

tells_other : (m l : List ℕ) (e : Ending) → SameFront m l → Tells l e → Tells m e
tells_other m l (Finished plans made) f t = (f.0 ∙ t.0, f.1 ∙ t.1, f.2 ∙ t.2)
tells_other m l (Spent plans made) f t = (f.0 ∙ t.0, f.1 ∙ t.1, f.2 ∙ t.2)
tells_other m l (Full plans made) f t = (f.0 ∙ t.0, f.1 ∙ t.1, f.2 ∙ t.2)

told_front : (e : R.Ending) (l : List ℕ) → Tells (ending_bytes e ++ l) (ending_as e)
told_front e l = tells_other (ending_bytes e ++ l) (ending_bytes e) (ending_as e) (ending_front e l) (X.told e)

-- ---- no question has the number 0
abbrev Zero : Verdict → Type 0
Zero v = code_of v ≡ 0 → v ≡ accepted

ask_zero : (c : Bool) (number item : ℕ) (later : Verdict) → 0 < number → Zero later → Zero (ask c number item later)
ask_zero true number item later h k = k
ask_zero false number item later h k = λ e. absurd (omega arith)

sheet_zero : (b : List ℕ) → Zero (verdict_of b)
unfolding question_code
sheet_zero b e = (question_code_lem b (question_code b) refl).accepts.0 e

symmetries_zero : (p : Problem) (i : ℕ) (gs : List (List ℕ)) → Zero (symmetries_verdict p i gs)
unfolding symmetries_verdict
symmetries_zero p i [] = λ e. refl
symmetries_zero p i (g ∷ gs) =
    let last = symmetries_verdict p (suc i) gs in
    ask_zero (permutes_pairs p g) 15 i (ask (respects p g) 16 i last) (omega arith) (ask_zero (respects p g) 16 i last (omega arith) (symmetries_zero p (suc i) gs))

block_zero : (p : Problem) (block : List ℕ) → Zero (block_lent p block)
unfolding block_lent block_verdict
block_zero p [] = λ e. refl
block_zero p (first ∷ []) = λ e. absurd (omega arith)
block_zero p (first ∷ m ∷ []) =
    let last = symmetries_verdict p (length p.symmetries) (block_tables p first m) in
    ask_zero (is_block_at p first m) 36 0 last (omega arith) (symmetries_zero p (length p.symmetries) (block_tables p first m))
block_zero p (first ∷ m ∷ x ∷ block) = λ e. absurd (omega arith)

order_zero : (n : ℕ) (pairs : List ℕ) (later : Verdict) → Zero later → Zero (order_verdict n pairs later)
unfolding order_verdict
order_zero n pairs later k =
    let v30 = ask (settles_all n pairs) 30 0 later in
    let c29 = all (λ x. ltb x n) pairs in
    ask_zero (both (leb (length pairs) 128) (eqb (length pairs % 2) 0)) 28 0 (ask c29 29 0 v30) (omega arith)
    (ask_zero c29 29 0 v30 (omega arith) (ask_zero (settles_all n pairs) 30 0 later (omega arith) k))

then_zero : (v u : Verdict) → Zero v → Zero u → Zero (and_then v u)
then_zero accepted u h k = k
then_zero (refused number item) u h k = h

lent_zero : (b pairs block : List ℕ) → Zero (verdict_lent b pairs block)
unfolding verdict_lent
lent_zero b pairs block =
    then_zero (verdict_of b) (order_verdict (problem_of b).variables pairs (block_lent (problem_of b) block)) (sheet_zero b)
    (order_zero (problem_of b).variables pairs (block_lent (problem_of b) block) (block_zero (problem_of b) block))

module _ (b pairs block : List ℕ) (limit : ℕ) (list answer : List ℕ) (code : ℕ) (list' answer' : List ℕ) (c : CallRunBytes b pairs block limit list answer code list' answer') where
  unfit : (length answer ≡ 60 → ⊥) → (code ≡ wrong_length) × (list' ≡ list) × (answer' ≡ answer)
  unfit n = let w = wrong_answer b pairs block limit list answer n in (c.0 ∙ sym w.0, c.1.0 ∙ sym w.1.0, c.1.1 ∙ sym w.1.1)

  module _ (sixty : length answer ≡ 60) where
    abbrev fit : eqb (length answer) 60 ≡ true
    fit = eq-eqb (length answer) 60 sixty

    so : (a : R.Answer) → answer_lent b pairs block limit list ≡ a → (code ≡ answer_code a) × (list' ≡ list_lent b pairs block limit list) × (answer' ≡ placed_bytes b pairs block a answer)
    unfolding lent_run_code lent_run_list lent_run_answer
    so a e = (
      c.0 ∙ ap {B = ℕ} (λ (t : Bool). choose t (answer_code (answer_lent b pairs block limit list)) wrong_length) fit ∙ ap answer_code e,
      c.1.0 ∙ ap {B = List ℕ} (λ (t : Bool). choose t (list_lent b pairs block limit list) list) fit,
      c.1.1 ∙ ap {B = List ℕ} (λ (t : Bool). choose t (placed_bytes b pairs block (answer_lent b pairs block limit list) answer) answer) fit ∙ ap
          (λ (x : R.Answer). placed_bytes b pairs block x answer) e,
    )

    refuses : (number item : ℕ) → verdict_lent b pairs block ≡ refused number item → (code ≡ number * 256 + item) × (list' ≡ list) × (answer' ≡ answer)
    refuses number item e =
        let q = (demanded_lent b pairs block).refuses number item e limit list (tally_in no_tally) in
        let s = so (R.refusal number item) q.0 in
        (s.0, s.1 ∙ q.1, s.2)

    module _ (good : verdict_lent b pairs block ≡ accepted) where
      ran : (e : R.Ending) × (answer_lent b pairs block limit list ≡ ended e)
      ran = (demanded_lent b pairs block).ends good limit list

      abbrev e : Ending
      e = ending_as ran.0

      -- the tally that the bytes tell
      tally : Tally
      tally = record { nodes = nodes_in ran.0; counts = place_counts (order_lent b pairs) (problem_with b block) (nodes_in ran.0) }

      call : CallLent b pairs block limit list no_tally (Ok e) list' tally
      unfolding tallied_by tally
      call = record {
        answers = ap ended (ending_as_lem ran.0) ∙ sym ran.1;
        leaves = (so (ended ran.0) ran.1).1;
        counts = sym (ap (λ (a : R.Answer). R.tally_for a (place_tally (order_lent b pairs) (problem_with b block)) (tally_in no_tally)) ran.1);
      }

      bytes : answer' ≡ ending_bytes ran.0 ++ numbers_of tally.counts
      unfolding tally
      bytes = (so (ended ran.0) ran.1).2

      tells : Tells answer' e
      tells = subst (λ (l : List ℕ). Tells l e) (sym bytes) (told_front ran.0 (numbers_of tally.counts))

      twelve : length tally.counts ≡ 12
      twelve = ((demands_lent b pairs block limit list no_tally (Ok e) list' tally call).1.tallied e refl).twelve

      tells_counts : TellsCounts answer' tally
      tells_counts x h = ap (λ (l : List ℕ). four_at l (12 + 4 * x)) bytes ∙ shifted (ending_bytes ran.0) (numbers_of tally.counts) 12 (4 * x) (ending_long ran.0) ∙ number_of
          tally.counts x (omega (arith, twelve))

  zero_so : code ≡ 0 → (length answer ≡ 60) × (verdict_lent b pairs block ≡ accepted)
  zero_so z = let s = sixty (eqb (length answer) 60) refl in (s, good s (verdict_lent b pairs block) refl)
    where
      sixty : (t : Bool) → eqb (length answer) 60 ≡ t → length answer ≡ 60
      sixty true e = eqb-true (length answer) 60 e
      sixty false e = absurd (let w = (unfit (eqb-false (length answer) 60 e)).0 in omega arith)

      good : length answer ≡ 60 → (v : Verdict) → verdict_lent b pairs block ≡ v → verdict_lent b pairs block ≡ accepted
      good s accepted e = e
      good s (refused number item) e = lent_zero b pairs block (ap code_of e ∙ sym (refuses s number item e).0 ∙ z)

  held : RunBytesHeld b pairs block limit list answer code list' answer'
  held = record {
    unfit = unfit;
    refuses = refuses;
    zero = zero_so;
    ends = λ s g. (
      (so s (ended (ran s g).0) (ran s g).1).0,
      (
        e s g,
        tally s g,
        tells s g,
        tells_counts s g,
        call s g,
        (demands_lent b pairs block limit list no_tally (Ok (e s g)) list' (tally s g) (call s g)).0.at_end (e s g) refl,
        (demands_lent b pairs block limit list no_tally (Ok (e s g)) list' (tally s g) (call s g)).1.tallied (e s g) refl,
      ),
    );
    at_finish = λ s g k.
        let f = is_finish answer' (e s g) (tells s g) k in
        (demands_lent b pairs block limit list no_tally (Ok (e s g)) list' (tally s g) (call s g)).0.at_finish (four_at answer' 4) f.0 (ap Ok f.1);
  }

pub run_bytes_lem : RunBytes
run_bytes_lem = held

-- ---- planner_at_least
said_by : (a : EnoughAnswer) → ((number item : ℕ) → a ≡ E.refusal number item → (q : Question) × (papers_number q ≡ number)) → (r : Result Enough Refusal) × (said_enough r ≡ a)
said_by (E.refusal number item) asked =
    let q = asked number item refl in
    (Err (record { question = q.0; item = item }), ap (λ (k : ℕ). E.refusal k item) q.1)
said_by (E.answered (enough plans made)) asked = (Ok (N.Yes plans made), refl)
said_by (E.answered (too_few plans made)) asked = (Ok (N.No plans made), refl)
said_by (E.answered (unknown plans made)) asked = (Ok (N.Spent plans made), refl)

said_told : (r : Result Enough Refusal) (answer : List ℕ) → SaidTold r answer (said_code (said_enough r)) (said_bytes (said_enough r) answer)
said_told (Err by) answer = (refl, refl)
said_told (Ok (N.Yes plans made)) answer = (refl, first_of 1 plans made, second_of 1 plans made, third_of 1 plans made)
said_told (Ok (N.No plans made)) answer = (refl, first_of 2 plans made, second_of 2 plans made, third_of 2 plans made)
said_told (Ok (N.Spent plans made)) answer = (refl, first_of 3 plans made, second_of 3 plans made, third_of 3 plans made)

pub enough_bytes_lem : EnoughBytes
unfolding enough_code enough_bytes enough_lent
enough_bytes_lem b pairs block m limit answer code answer' c = record {
  unfit = λ n.
      let e = ne_eqb (length answer) 12 n in
      (c.0 ∙ ap {B = ℕ} (λ (t : Bool). choose t (said_code a) wrong_length) e, c.1 ∙ ap {B = List ℕ} (λ (t : Bool). choose t (said_bytes a answer) answer) e);
  called = λ l.
      let e = eq-eqb (length answer) 12 l in
      let x : code ≡ said_code a = c.0 ∙ ap {B = ℕ} (λ (t : Bool). choose t (said_code a) wrong_length) e in
      let y : answer' ≡ said_bytes a answer = c.1 ∙ ap {B = List ℕ} (λ (t : Bool). choose t (said_bytes a answer) answer) e in
      let r = said_by a (reply_asked (verdict_lent b pairs block) _ (asked_lent b pairs block)) in
      let told = subst (λ (k : EnoughAnswer). SaidTold r.0 answer (said_code k) (said_bytes k answer)) r.1 (said_told r.0 answer) in
      (r.0, subst₂ (SaidTold r.0 answer) (sym x) (sym y) told, r.1, enough_calls b pairs block limit m r.0 r.1);
}
  where
    a : EnoughAnswer
    a = enough_lent b pairs block limit m

-- ---- planner_closed
closed_by : (a : Told) → ((number item : ℕ) → a ≡ refusal number item → (q : Question) × (papers_number q ≡ number)) → (r : Result (Option Missing) Refusal) × (closed_means r ≡ a)
closed_by (refusal number item) asked =
    let q = asked number item refl in
    (Err (record { question = q.0; item = item }), ap (λ (k : ℕ). refusal k item) q.1)
closed_by (answered none) asked = (Ok None, refl)
closed_by (answered (two first second)) asked = (Ok (Some (record { first = first; second = second })), refl)

closed_told : (r : Result (Option Missing) Refusal) (answer : List ℕ) → ClosedTold r answer (told_code (closed_means r)) (told_bytes (closed_means r) answer)
closed_told (Err by) answer = (refl, refl)
closed_told (Ok None) answer = (refl, first_of 1 0 0)
closed_told (Ok (Some m)) answer = (refl, first_of 2 m.first m.second, second_of 2 m.first m.second, third_of 2 m.first m.second)

pub closed_bytes : ClosedBytes
unfolding closed_code closed_answer closed_lent
closed_bytes b pairs block answer code answer' c = record {
  unfit = λ n.
      let e = ne_eqb (length answer) 12 n in
      (c.0 ∙ ap {B = ℕ} (λ (t : Bool). choose t (told_code a) wrong_length) e, c.1 ∙ ap {B = List ℕ} (λ (t : Bool). choose t (told_bytes a answer) answer) e);
  called = λ l.
      let e = eq-eqb (length answer) 12 l in
      let x : code ≡ told_code a = c.0 ∙ ap {B = ℕ} (λ (t : Bool). choose t (told_code a) wrong_length) e in
      let y : answer' ≡ told_bytes a answer = c.1 ∙ ap {B = List ℕ} (λ (t : Bool). choose t (told_bytes a answer) answer) e in
      let r = closed_by a (reply_asked (verdict_lent b pairs block) _ (asked_lent b pairs block)) in
      let told = subst (λ (k : Told). ClosedTold r.0 answer (told_code k) (told_bytes k answer)) r.1 (closed_told r.0 answer) in
      (r.0, subst₂ (ClosedTold r.0 answer) (sym x) (sym y) told, r.1, closed_calls b pairs block r.0 r.1);
}
  where
    a : Told
    a = closed_lent b pairs block
