-- What a caller of `at_least` holds (paper 02, #101). Assumes nothing.
use Rattle.model.specs.{Verdict.refusal, Refusals.number_of, Refusals.IsRefusal, declared.refusals.Refusal.Refusal}
use Rattle.model.proofs.Numbering.{refusal_known, refusal_is}
use Rattle.std.specs.Prelude.{Result, Ok, Err}
use Rattle.model.specs.Kit.{◌≡◌, refl, sym, ap, ◌∙◌, subst, List, ℕ, suc, ◌≤◌, ◌<◌, mul-le-mul_right, dec_lt, arith, length}
use Rattle.model.specs.{Lists.keep, Problem.Problem, Sheet.problem_of, Search.nodes, Search.is_plan, Run.plans_in, Claims.plans_among}
use Rattle.model.proofs.{Room.length_listed, Lists.never}
use Rattle.order.specs.RunBy.{leaders_by}
use Rattle.order.proofs.Demanded.{ran_by}
use Rattle.run_input.specs.Lent.{problem_with, order_lent, problem_lent, lent_input, list_lent}
use Rattle.run_enough.specs.{AtLeast.enough, AtLeast.too_few, AtLeast.unknown, Lent.enough_lent, Inner.LentClaims.AgreesLent, Inner.LentClaims.FiguresLent}
use Rattle.run_enough.proofs.AtLeast.{among_all, among_most}
use Rattle.run_enough.proofs.LentEnough.{tree_leaders, enough_refused_lent, enough_none_lent, enough_agrees_lent, enough_figures_lent, enough_more_lent}
use Rattle.run_state.specs.{declared.Tally.Tally, Meaning.ending_of, declared.Ending.Ending}
use Rattle.run.specs.{Meaning.means, Meaning.said_enough, Calls.CallLent, Calls.CallEnough, declared.Enough.Enough}
use Rattle.promises.specs.EnoughCalls.{Agrees, Roomy, EnoughHeld, EnoughCalls}
use Rattle.promises.proofs.{RetypedCalls.answer_known, Demands.demands_lent}
use Rattle.run_state.specs.declared.Ending.TheVariants as E
use Rattle.run.specs.declared.Enough.TheVariants as N

-- what is said is known by what it means
said_known : (r : Result Enough Refusal) (s : Result Enough Refusal) → said_enough r ≡ said_enough s → r ≡ s
said_known (Err a) (Err b) h = refusal_known {A = Enough} a b (let n : number_of a.question ≡ number_of b.question = cc in n) (let i : a.item ≡ b.item = cc in i)
said_known (Err by) (Ok (N.Yes x y)) h = never (cc)
said_known (Err by) (Ok (N.No x y)) h = never (cc)
said_known (Err by) (Ok (N.Spent x y)) h = never (cc)
said_known (Ok (N.Yes a b)) (Err by) h = never (cc)
said_known (Ok (N.Yes a b)) (Ok (N.Yes x y)) h = let e : enough a b ≡ enough x y = cc in let f : a ≡ x = cc in let g : b ≡ y = cc in cc
said_known (Ok (N.Yes a b)) (Ok (N.No x y)) h = absurd (let e : enough a b ≡ too_few x y = cc in never (cc))
said_known (Ok (N.Yes a b)) (Ok (N.Spent x y)) h = absurd (let e : enough a b ≡ unknown x y = cc in never (cc))
said_known (Ok (N.No a b)) (Err by) h = never (cc)
said_known (Ok (N.No a b)) (Ok (N.Yes x y)) h = absurd (let e : too_few a b ≡ enough x y = cc in never (cc))
said_known (Ok (N.No a b)) (Ok (N.No x y)) h = let e : too_few a b ≡ too_few x y = cc in let f : a ≡ x = cc in let g : b ≡ y = cc in cc
said_known (Ok (N.No a b)) (Ok (N.Spent x y)) h = absurd (let e : too_few a b ≡ unknown x y = cc in never (cc))
said_known (Ok (N.Spent a b)) (Err by) h = never (cc)
said_known (Ok (N.Spent a b)) (Ok (N.Yes x y)) h = absurd (let e : unknown a b ≡ enough x y = cc in never (cc))
said_known (Ok (N.Spent a b)) (Ok (N.No x y)) h = absurd (let e : unknown a b ≡ too_few x y = cc in never (cc))
said_known (Ok (N.Spent a b)) (Ok (N.Spent x y)) h = let e : unknown a b ≡ unknown x y = cc in let f : a ≡ x = cc in let g : b ≡ y = cc in cc

said_refused : (r : Result Enough Refusal) (number item : ℕ) → said_enough r ≡ refusal number item → IsRefusal r number item
said_refused (Ok (N.Yes a b)) number item h = never (cc)
said_refused (Ok (N.No a b)) number item h = never (cc)
said_refused (Ok (N.Spent a b)) number item h = never (cc)
said_refused (Err by) number item h = refusal_is {A = Enough} by number item (let n : number_of by.question ≡ number = cc in n) (let i : by.item ≡ item = cc in i)

-- with room for all plans a run of k trials, k being no more than the tree has, lists the plans among the first k
module _ (b pairs block : List ℕ) (k : ℕ) (out : List ℕ) (tally : Tally) (after : List ℕ) (tally' : Tally) (roomy : Roomy b pairs block out)
    (inside : k ≤ length (nodes (problem_lent b pairs block))) where
  abbrev p : Problem
  p = problem_lent b pairs block

  among : (e : Ending) → CallLent b pairs block k out tally (Ok e) after tally' → plans_in (ending_of e) ≡ plans_among (problem_lent b pairs block) k
  among (E.Finished plans made) c =
      let q = (demands_lent b pairs block k out tally (Ok (E.Finished plans made)) after tally' c).0.at_end (E.Finished plans made) refl in
      let same : made ≡ k = omega (arith, q.counts.0, q.allowed) in
      sym q.counts.1 ∙ ap (plans_among p) same
  among (E.Spent plans made) c =
      let q = (demands_lent b pairs block k out tally (Ok (E.Spent plans made)) after tally' c).0.at_end (E.Spent plans made) refl in
      sym q.counts.2 ∙ ap (plans_among p) q.counts.0
  among (E.Full plans made) c =
      let q = (demands_lent b pairs block k out tally (Ok (E.Full plans made)) after tally' c).0.at_end (E.Full plans made) refl in
      let t = tree_leaders b pairs block (ran_by (lent_input b pairs block) k out (ending_of (E.Full plans made)) (sym c.answers)).good in
      let g : suc plans ≤ length (keep (is_plan p) (nodes p)) = subst (λ (j : ℕ). j ≤ length (keep (is_plan p) (nodes p))) q.counts.1 (among_most p made) in
      let l : suc plans ≤ length (leaders_by (order_lent b pairs) (problem_with b block)) = subst (λ (j : ℕ). suc plans ≤ j) t g in
      absurd (omega (arith, q.counts.0, mul-le-mul_right (problem_of b).variables l, roomy))

module _ (b pairs block : List ℕ) (limit m : ℕ) (r : Result Enough Refusal) (s : CallEnough b pairs block limit m r) where
  told : (x : Result Enough Refusal) → r ≡ x → enough_lent b pairs block limit m ≡ said_enough x
  told x e = sym s ∙ ap said_enough e

  agrees : (limit' : ℕ) (out : List ℕ) (tally : Tally) (a : Result Ending Refusal) (after : List ℕ) (tally' : Tally) → CallLent b pairs block limit' out tally a after tally' →
      (plans made : ℕ) → a ≡ Ok (E.Finished plans made) → Agrees r limit m plans made
  agrees limit' out tally a after tally' x plans made e =
      let q = subst (AgreesLent (enough_lent b pairs block limit m) limit m made) (length_listed (problem_of b).variables plans (list_lent b pairs block limit' out))
      (enough_agrees_lent b pairs block limit m limit' out plans made (sym x.answers ∙ ap means e)) in
      record {
        yes_so = λ k t y. q.yes_so k t (told (Ok (N.Yes k t)) y);
        no_so = λ k t y. q.no_so k t (told (Ok (N.No k t)) y);
        decided = λ l k t y. q.decided l k t (told (Ok (N.Spent k t)) y);
        yes_exactly = λ l. (
          λ y. (q.yes_exactly l).0 (y.0, y.1, told (Ok (N.Yes y.0 y.1)) y.2),
          λ g. let y = (q.yes_exactly l).1 g in
              (y.0, y.1, said_known r (Ok (N.Yes y.0 y.1)) (s ∙ y.2)),
        );
      }

  abbrev figures : FiguresLent (enough_lent b pairs block limit m) b pairs block limit m
  figures = enough_figures_lent b pairs block limit m

  abbrev q : Problem
  q = problem_lent b pairs block

  on_yes : (plans made : ℕ) → r ≡ Ok (N.Yes plans made) → (plans ≡ m) × (made ≤ limit)
      × ((k : ℕ) → k ≤ made → (out : List ℕ) (tally : Tally) (e : Ending) (after : List ℕ) (tally' : Tally) → CallLent b pairs block k out tally (Ok e) after tally' → Roomy b pairs block out →
      (k ≡ made → plans_in (ending_of e) ≡ m) × (k < made → plans_in (ending_of e) < m))
  on_yes plans made y =
      let f = figures.on_yes plans made (told (Ok (N.Yes plans made)) y) in (
        f.0,
        f.1,
        λ k l out tally e after tally' c w.
            let g = among b pairs block k out tally after tally' w (omega (arith, inside f, l)) e c in
            (λ z. g ∙ ap (plans_among q) z ∙ f.2, λ z. subst (λ (j : ℕ). j < m) (sym g) (f.3 k z)),
      )
    where
      inside : (plans ≡ m) × (made ≤ limit) × (plans_among (problem_lent b pairs block) made ≡ m) × ((k : ℕ) → k < made → plans_among (problem_lent b pairs block) k < m) → made ≤ length
          (nodes (problem_lent b pairs block))
      inside f = go (dec_lt (length (nodes q)) made)
        where
          go : Dec (length (nodes q) < made) → made ≤ length (nodes q)
          go (yes l) = absurd (omega (arith, f.3 (length (nodes q)) l, f.2, among_all q (length (nodes q)) (omega arith), among_all q made (omega arith)))
          go (no l) = omega arith

  held : EnoughHeld b pairs block limit m r
  held = record {
    refuses = λ number item v. said_refused r number item (s ∙ enough_refused_lent b pairs block limit m number item v);
    none = λ v z. said_known r (Ok (N.Yes 0 0)) (s ∙ ap (enough_lent b pairs block limit) z ∙ enough_none_lent b pairs block limit v);
    agrees = agrees;
    on_yes = on_yes;
    on_no = λ plans made y out tally a after tally' x w. answer_known a (Ok (E.Finished plans made)) (x.answers ∙ figures.on_no plans made (told (Ok (N.No plans made)) y) out w);
    on_spent = λ plans made y out tally a after tally' x w. answer_known a (Ok (E.Spent plans made)) (x.answers ∙ figures.on_spent plans made (told (Ok (N.Spent plans made)) y) out w);
    more = λ limit' r' s' l h.
        said_known r' r (s' ∙ enough_more_lent b pairs block limit limit' m l (λ plans made e. h plans made (said_known r (Ok (N.Spent plans made)) (s ∙ e))) ∙ sym s);
  }

pub enough_calls : EnoughCalls
enough_calls = held
