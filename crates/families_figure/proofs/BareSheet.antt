-- A sheet without its exchanges is accepted where the sheet is, and states the same problem without symmetries (specs/FigureClaims). Assumes nothing.
use Rattle.model.specs.Kit.{◌≡◌, refl, sym, ap, ap₂, ◌∙◌, subst, Bool, true, List, [], ◌++◌, map, ℕ, suc, ◌+◌, ◌-◌, ◌*◌, ◌^◌, ◌≤◌, ◌<◌, arith, length, take, drop, length-append, length-take}
use Rattle.model.specs.Kit.{length-drop, get_or-take, get_or-drop, eq-eqb}
use Rattle.model.specs.Sheet.{Header, word, words, header_of, header_verdict, constraints_from, table_at, problem_of, sets_verdict, constraints_verdict, tables_fit, form_verdict, symmetries_verdict}
use Rattle.model.specs.Sheet.{verdict_of}
use Rattle.model.specs.{Lists.at, Lists.below, Lists.up_from, Bytes.two_bytes, Problem.Problem, Problem.Constraint, Verdict.Verdict, Verdict.accepted, Verdict.ask}
use Rattle.model.proofs.{Lists.at_skip, Lists.below_e, Accepted.HeaderPassed, Accepted.Passed, Accepted.at_words, OneMore.word_of, OneMore.at_left, OneMore.Agree, OneMore.word_agree}
use Rattle.model.proofs.{OneMore.words_agree, OneMore.constraints_agree, Asked.tables_header, Asked.header_passes, Asked.sets_pass, Asked.constraints_pass, Demands.of_accepted}
use Rattle.families_figure.specs.{Figure.problem_bare, Figure.bare_sheet, FigureClaims.BareSheet}

-- the header without exchanges
abbrev bare_header : Header → Header
bare_header h = tables_header h 0 h.third

-- ---- the bytes
module _ (b : List ℕ) (ok : Passed b) where
  abbrev c : List ℕ
  c = bare_sheet b

  abbrev third : ℕ
  third = (header_of b).third

  l1 : length (take 6 b) ≡ 6
  l1 = length-take 6 b ∙ omega (arith, ok.header.long)

  l3 : length (take 6 (drop 8 b)) ≡ 6
  l3 = length-take 6 (drop 8 b) ∙ omega (arith, ok.header.long, length-drop 8 b)

  low : 16 ≤ third
  low = omega (arith, ok.header.second, ok.header.ordered)

  l5 : length (take (third - 16) (drop 16 b)) ≡ third - 16
  l5 = length-take (third - 16) (drop 16 b) ∙ omega (arith, ok.header.third, ok.header.whole, length-drop 16 b)

  e5 : List ℕ
  e5 = take (third - 16) (drop 16 b)

  e4 : List ℕ
  e4 = two_bytes third ++ e5

  e3 : List ℕ
  e3 = take 6 (drop 8 b) ++ e4

  e2 : List ℕ
  e2 = two_bytes 0 ++ e3

  whole : c ≡ take 6 b ++ e2
  unfolding bare_sheet e2 e3 e4 e5
  whole = refl

  at2 : (i : ℕ) → 6 ≤ i → at c i ≡ at e2 (i - 6)
  at2 i h = ap (λ (l : List ℕ). at l i) whole ∙ at_skip (take 6 b) e2 6 i l1 h

  at3 : (i : ℕ) → 8 ≤ i → at c i ≡ at e3 (i - 8)
  unfolding e2
  at3 i h = at2 i (omega arith) ∙ at_skip (two_bytes 0) e3 2 (i - 6) refl (omega arith) ∙ ap (at e3) (omega arith)

  at4 : (i : ℕ) → 14 ≤ i → at c i ≡ at e4 (i - 14)
  unfolding e3
  at4 i h = at3 i (omega arith) ∙ at_skip (take 6 (drop 8 b)) e4 6 (i - 8) l3 (omega arith) ∙ ap (at e4) (omega arith)

  at5 : (i : ℕ) → 16 ≤ i → at c i ≡ at e5 (i - 16)
  unfolding e4
  at5 i h = at4 i (omega arith) ∙ at_skip (two_bytes third) e5 2 (i - 14) refl (omega arith) ∙ ap (at e5) (omega arith)

  front : Agree b c 0 6
  unfolding at
  front i h l = ap (λ (l : List ℕ). at l i) whole ∙ at_left (take 6 b) e2 6 i l1 l ∙ get_or-take 6 b i 0 l

  no_symmetries : word c 6 ≡ 0
  unfolding e2 at
  no_symmetries = word_of c 6 0 (at2 6 (omega arith)) (at2 7 (omega arith))

  middle : Agree b c 8 14
  unfolding e3 at
  middle i h l =
      at3 i h ∙ at_left (take 6 (drop 8 b)) e4 6 (i - 8) l3 (omega arith) ∙ get_or-take 6 (drop 8 b) (i - 8) 0 (omega arith) ∙ get_or-drop 8 b (i - 8) 0 ∙ ap (at b) (omega arith)

  shorter : word c 14 ≡ third
  unfolding e4 at
  shorter = word_of c 14 third (at4 14 (omega arith)) (at4 15 (omega arith))

  body : Agree b c 16 third
  unfolding e5 at
  body i h l = at5 i h ∙ get_or-take (third - 16) (drop 16 b) (i - 16) 0 (omega arith) ∙ get_or-drop 16 b (i - 16) 0 ∙ ap (at b) (omega arith)

  long : length c ≡ third
  unfolding bare_sheet
  long =
      length-append (take 6 b) (two_bytes 0 ++ (take 6 (drop 8 b) ++ (two_bytes third ++ take (third - 16) (drop 16 b))))
      ∙ ap₂ (λ (x y : ℕ). x + suc (suc y)) l1 (length-append (take 6 (drop 8 b)) (two_bytes third ++ take (third - 16) (drop 16 b)) ∙ ap₂ (λ (x y : ℕ). x + suc (suc y)) l3 l5) ∙ omega (arith, low)

  header : header_of c ≡ bare_header (header_of b)
  unfolding header_of
  header =
      let e0 = word_agree b c 0 6 front 0 (omega arith) (omega arith) in
      let e2 = word_agree b c 0 6 front 2 (omega arith) (omega arith) in
      let e4 = word_agree b c 0 6 front 4 (omega arith) (omega arith) in
      let e8 = word_agree b c 8 14 middle 8 (omega arith) (omega arith) in
      let e10 = word_agree b c 8 14 middle 10 (omega arith) (omega arith) in
      let e12 = word_agree b c 8 14 middle 12 (omega arith) (omega arith) in
      λ j. record { variables = e0 j; values = e2 j; constraints = e4 j; symmetries = no_symmetries j; first = e8 j; second = e10 j; third = e12 j; size = shorter j }

  pub bare_problem : problem_of (bare_sheet b) ≡ problem_bare b
  unfolding problem_of below up_from
  bare_problem =
      ap (λ (h : Header). record {
        variables = h.variables;
        values = h.values;
        initial = words c 16 h.variables;
        constraints = constraints_from c h.constraints h.second;
        symmetries = map
            (table_at c h) (below h.symmetries);
      }) header
      ∙ ap₂ (λ (i : List ℕ) (cs : List Constraint). record { variables = (header_of b).variables; values = (header_of b).values; initial = i; constraints = cs; symmetries = [] })
      (words_agree b c 16 third body 16 (header_of b).variables (omega arith) (omega (arith, ok.header.second, ok.header.ordered)))
      (constraints_agree b c third body (header_of b) refl (header_of b).constraints 0 (header_of b).second ok.walked.0 (omega (arith, ok.header.second)) ok.walked.1)

  sets_good : (x : ℕ) → x < (header_of b).variables → (word (bare_sheet b) (16 + 2 * x) < 2 ^ (header_of b).values) × (0 < word (bare_sheet b) (16 + 2 * x))
  unfolding problem_of
  sets_good x l =
      let e = word_agree b c 16 third body (16 + 2 * x) (omega arith) (omega (arith, ok.header.second, ok.header.ordered)) in
      let f = at_words b 16 (header_of b).variables x l in
      subst (λ (s : ℕ). (s < 2 ^ (header_of b).values) × (0 < s)) (f ∙ sym e) (ok.well.narrow x l, ok.well.nonempty x l)

  header_good : HeaderPassed (bare_header (header_of b)) (length (bare_sheet b))
  header_good =
      let q = ok.header in
      record {
        long = omega (arith, long, low);
        some = q.some;
        few = q.few;
        one = q.one;
        sixteen = q.sixteen;
        constraints = q.constraints;
        symmetries = omega arith;
        whole = sym long;
        first = q.first;
        second = q.second;
        ordered = q.ordered;
        third = omega arith;
      }

  pub bare_accepted : verdict_of (bare_sheet b) ≡ accepted
  unfolding verdict_of form_verdict symmetries_verdict
  bare_accepted =
      let h = bare_header (header_of b) in
      let n = (header_of b).variables in
      let last : symmetries_verdict (problem_of c) 0 (problem_of c).symmetries ≡ accepted = ap (λ (q : Problem). symmetries_verdict q 0 q.symmetries) bare_problem in
      let e14 : tables_fit h ≡ true = eq-eqb third (third + 2 * (0 * (n * (header_of b).values))) (omega arith) in
      let end = ask (tables_fit h) 14 0 accepted in
      ap₂ (λ (h : Header) (v : Verdict). header_verdict h (length c) (sets_verdict c h (below h.variables) (constraints_verdict c h h.constraints 0 h.second (ask (tables_fit h) 14 0 v))))
      header last
      ∙ header_passes h (length c) _ header_good
      ∙ sets_pass c h (below n) _ (λ x m. sets_good x (below_e n x m))
      ∙ constraints_pass b c (header_of b) body 0 (header_of b).third (header_of b).constraints 0 (header_of b).second ok.walked.0 end (omega (arith, ok.header.second)) ok.walked.1
      ∙ ap (λ (q : Bool). ask q 14 0 accepted) e14

pub bare_passed : (b : List ℕ) → Passed b → (verdict_of (bare_sheet b) ≡ accepted) × (problem_of (bare_sheet b) ≡ problem_bare b)
bare_passed b ok = (bare_accepted b ok, bare_problem b ok)

pub bare_sheet_lem : BareSheet
bare_sheet_lem b e = bare_passed b (of_accepted b e)
