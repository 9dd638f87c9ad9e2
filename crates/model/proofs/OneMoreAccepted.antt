-- What a sheet with one exchange more is answered (specs/Claims). Assumes nothing.
use Rattle.model.specs.Kit.{◌≡◌, sym, ap, ap₂, ◌∙◌, subst, ◌↔◌, Bool, true, List, ◌∷◌, ◌++◌, Memᴰ, Memᴰ-append_left, ℕ, suc, ◌+◌, ◌*◌, ◌^◌, ◌<◌, arith, T, leb, leb→le, length, eq-eqb}
use Rattle.model.specs.Kit.{le-leb}
use Rattle.model.specs.Sheet.{Header, word, header_of, header_verdict, problem_of, sets_verdict, constraints_verdict, tables_fit, form_verdict, permutes_pairs, symmetries_verdict, verdict_of}
use Rattle.model.specs.{Lists.below, Problem.Problem, Problem.respects, Problem.with_symmetries, Verdict.Verdict, Verdict.accepted, Verdict.ask, Verdict.is_accepted, Claims.size_with}
use Rattle.model.specs.{Claims.OneMore, Claims.exchange_in, Claims.OneMoreAnswer}
use mathlib.Core.List.Memᴰ
use Rattle.model.proofs.OneMore.{word_agree, header_more, length_more, below_third, before, after, added, length_before, added_is, longer, old}
use Rattle.model.proofs.Asked.{tables_header, header_but_five, sets_pass, constraints_pass, symmetries_i, symmetries_first, permutes_same, respects_same}
use Rattle.model.proofs.{Lists.of_T, Lists.below_e, Accepted.HeaderPassed, Accepted.Passed, Accepted.passed, Accepted.asked, Accepted.at_words}

module _ (b c t : List ℕ) (k : ℕ) (more : OneMore b c k t) (ok : Passed b) where
  abbrev h : Header
  h = header_of b

  abbrev raised : Header
  raised = tables_header (header_of b) ((header_of b).symmetries + 1) (size_with b t)

  header_good : HeaderPassed (tables_header (header_of b) 0 (size_with b t)) (length c)
  header_good =
      let q = ok.header in
      let l = length_more b c t k more ok in
      record {
        long = omega (arith, q.long);
        some = q.some;
        few = q.few;
        one = q.one;
        sixteen = q.sixteen;
        constraints = q.constraints;
        symmetries = omega arith;
        whole = omega (arith, q.whole);
        first = q.first;
        second = q.second;
        ordered = q.ordered;
        third = omega (arith, q.third);
      }

  sets_good : (x : ℕ) → x < (header_of b).variables → (word c (16 + 2 * x) < 2 ^ (header_of b).values) × (0 < word c (16 + 2 * x))
  unfolding problem_of
  sets_good x l =
      let e = word_agree b c 16 h.third (below_third b c t k more ok) (16 + 2 * x) (omega arith) (omega (arith, ok.header.second, ok.header.ordered)) in
      let f = at_words b 16 h.variables x l in
      subst (λ (s : ℕ). (s < 2 ^ h.values) × (0 < s)) (f ∙ sym e) (ok.well.narrow x l, ok.well.nonempty x l)

  -- the tables: those of b pass
  passes : (g : List ℕ) → Memᴰ g (problem_of b).symmetries → T (permutes_pairs (problem_of b) g) × T (respects (problem_of b) g)
  passes g m = ((ok.well.symmetric g m).permutes, ok.respected.respectful g m)

  tables_answer : symmetries_verdict (problem_of c) 0 (problem_of c).symmetries
      ≡ ask (permutes_pairs (problem_of b) (exchange_in b t)) 15 k (ask (respects (problem_of b) (exchange_in b t)) 16 k accepted)
  tables_answer =
      let p = problem_of b in
      let xs = before b c t k more ok in
      let ys = after b c t k more ok in
      let g = added b c t k more ok in
      let q = with_symmetries p (xs ++ (g ∷ ys)) in
      let all_of : (f : List ℕ) → Memᴰ f (xs ++ ys) → T (permutes_pairs q f) × T (respects q f) = λ f m. (let r = passes f (subst (Memᴰ f) (sym (old b c t k more ok)) m) in
      (subst T (sym (permutes_same p (xs ++ (g ∷ ys)) f)) r.0, subst T (sym (respects_same p (xs ++ (g ∷ ys)) f)) r.1)) in
      let place : 0 + length xs ≡ k = omega (arith, length_before b c t k more ok) in
      ap (λ (z : Problem). symmetries_verdict z 0 z.symmetries) (longer b c t k more ok)
      ∙ symmetries_first q xs 0 g ys (λ f m. all_of f (Memᴰ-append_left ys m))
      ∙ ap₂ (λ (i : ℕ) (v : Verdict). ask (permutes_pairs q g) 15 i (ask (respects q g) 16 i v)) place (symmetries_i q (suc (0 + length xs)) ys (λ f m. all_of f (Memᴰ.append_right xs m)))
      ∙ ap₂ (λ (x y : Bool). ask x 15 k (ask y 16 k accepted)) (permutes_same p (xs ++ (g ∷ ys)) g) (respects_same p (xs ++ (g ∷ ys)) g)
      ∙ ap (λ (z : List ℕ). ask (permutes_pairs p z) 15 k (ask (respects p z) 16 k accepted)) (added_is b c t k more ok)

  fits : tables_fit raised ≡ true
  fits = eq-eqb (size_with b t) (h.third + 2 * ((h.symmetries + 1) * (h.variables * h.values))) (let e = more.1 in omega (arith, ok.fits))

  answer : verdict_of c ≡ ask (leb ((header_of b).symmetries + 1) 16) 5 0 (ask (permutes_pairs (problem_of b) (exchange_in b t)) 15 k (ask (respects (problem_of b) (exchange_in b t)) 16 k accepted))
  unfolding verdict_of form_verdict
  answer =
      let n = h.variables in
      let last = ask (permutes_pairs (problem_of b) (exchange_in b t)) 15 k (ask (respects (problem_of b) (exchange_in b t)) 16 k accepted) in
      let end = ask (tables_fit raised) 14 0 last in
      ap₂ (λ (h : Header) (v : Verdict). header_verdict h (length c) (sets_verdict c h (below h.variables) (constraints_verdict c h h.constraints 0 h.second (ask (tables_fit h) 14 0 v))))
      (header_more b c t k more ok) tables_answer
      ∙ header_but_five raised (length c) _ header_good
      ∙ ap (ask (leb (h.symmetries + 1) 16) 5 0)
      (sets_pass c raised (below n) _ (λ x m. sets_good x (below_e n x m))
      ∙ constraints_pass b c h (below_third b c t k more ok) (h.symmetries + 1) (size_with b t) h.constraints 0 h.second ok.walked.0 end (omega (arith, ok.header.second)) ok.walked.1
      ∙ ap (λ (q : Bool). ask q 14 0 last) fits)

pub one_more_answer : OneMoreAnswer
one_more_answer b c t k more e = answer b c t k more (passed b (subst (λ (v : Verdict). T (is_accepted v)) (sym e) tt))

-- so c is accepted exactly if it has at most 16 exchanges and the new one passes 15 and 16
pub one_more_accepted : (b c t : List ℕ) (k : ℕ) → OneMore b c k t → verdict_of b ≡ accepted →
    (verdict_of c ≡ accepted) ↔ (((header_of b).symmetries < 16) × T (permutes_pairs (problem_of b) (exchange_in b t)) × T (respects (problem_of b) (exchange_in b t)))
one_more_accepted b c t k more e =
    let a = one_more_answer b c t k more e in
    let p = problem_of b in
    let g = exchange_in b t in
    let n = (header_of b).symmetries in (
      λ f. (let q5 = asked (leb (n + 1) 16) 5 0 (ask (permutes_pairs p g) 15 k (ask (respects p g) 16 k accepted)) (subst (λ (v : Verdict). T (is_accepted v)) (sym f ∙ a) tt) in
          let q15 = asked (permutes_pairs p g) 15 k (ask (respects p g) 16 k accepted) q5.1 in
          let q16 = asked (respects p g) 16 k accepted q15.1 in
          let l = leb→le (n + 1) 16 q5.0 in
          (omega arith, q15.0, q16.0)),
      λ q. (let l = q.0 in
          a ∙ ap (λ (x : Bool). ask x 5 0 (ask (permutes_pairs p g) 15 k (ask (respects p g) 16 k accepted))) (le-leb (n + 1) 16 (omega arith))
          ∙ ap₂ (λ (x y : Bool). ask x 15 k (ask y 16 k accepted)) (of_T (permutes_pairs p g) q.1) (of_T (respects p g) q.2)),
    )
