-- Paper 02, #109, sheets: two accepted sheets that differ only in the order of their exchanges have the same runs. Assumes nothing.
use Rattle.model.specs.Kit.{◌≡◌, refl, sym, ap, ap₂, ◌∙◌, subst, not, List, [], ◌∷◌, map, Memᴰ, Memᴰ-head, Memᴰ-tail, Memᴰ-map, Memᴰ-of_map, ℕ, zero, suc, ◌+◌, ◌*◌, ◌^◌, ◌≤◌, ◌<◌}
use Rattle.model.specs.Kit.{arith, T, leb, ltb, eqb, leb→le, length, take, drop, get_or-drop}
use Rattle.model.specs.Sheet.{Header, word, words, header_of, scope_at, rows_at, after_at, constraints_from, table_at, problem_of, sets_verdict, constraint_verdict, constraints_verdict}
use Rattle.model.specs.Sheet.{header_verdict}
use Rattle.model.specs.Sheet.{form_verdict, permutes_pairs, symmetries_verdict, verdict_of}
use Rattle.model.specs.{Lists.all, Lists.both, Lists.at, Lists.below, Lists.ascending, Lists.rows_ascend, Problem.Problem, Problem.respects, Problem.with_symmetries, Verdict.Verdict, Verdict.accepted}
use Rattle.model.specs.{Verdict.ask, Verdict.is_accepted, Inner.WellFormed.WellFormed, Inner.WellFormed.Respected}
use mathlib.Core.List.Permᴰ
use mathlib.Core.List.{Permᴰ, map-map}
use Rattle.run_retyped.specs.Retyped.{block_size, blocks, SameButOrder}
use Rattle.run_retyped.proofs.SameSearch.{SameSymmetries}
use Rattle.model.proofs.OneMore.{after_low, arity, count, after_agree, scope_agree, rows_agree, Agree, word_same, words_same, word_agree, words_agree, constraints_agree}
use Rattle.model.proofs.{Lists.at_take, Lists.below_e, Lists.map_ext, Accepted.Passed, Accepted.passed, Accepted.asked, Asked.symmetries_i, Asked.good_other, Asked.respects_other}

-- ---- a member of a list is one of any order of it
pub perm_mem : {A : Type 0} {x : A} {l m : List A} → Permᴰ l m → Memᴰ x l → Memᴰ x m
perm_mem Permᴰ.nil i = i
perm_mem (Permᴰ.cons e p) (Memᴰ-head q) = Memᴰ-head (q ∙ e)
perm_mem (Permᴰ.cons e p) (Memᴰ-tail i) = Memᴰ-tail (perm_mem p i)
perm_mem (Permᴰ.swap e f) (Memᴰ-head q) = Memᴰ-tail (Memᴰ-head (q ∙ e))
perm_mem (Permᴰ.swap e f) (Memᴰ-tail (Memᴰ-head q)) = Memᴰ-head (q ∙ f)
perm_mem (Permᴰ.swap e f) (Memᴰ-tail (Memᴰ-tail i)) = Memᴰ-tail (Memᴰ-tail i)
perm_mem (Permᴰ.trans p q) i = perm_mem q (perm_mem p i)

perm_map : {A B : Type 0} (f : A → B) (y : B) {l m : List A} → Permᴰ l m → Memᴰ y (map f l) → Memᴰ y (map f m)
perm_map f y {l} {m} p i = let r = Memᴰ-of_map f l i in subst (λ z. Memᴰ z (map f m)) r.2 (Memᴰ-map f (perm_mem p r.1))

-- ---- a table is the numbers of its block
at_block : (b : List ℕ) (o w i : ℕ) → i < w → at (take w (drop o b)) i ≡ at b (o + i)
unfolding at
at_block b o w i h = at_take w (drop o b) i h ∙ get_or-drop o b i 0

table_block : (b : List ℕ) (h : Header) (i : ℕ) → table_at b h i ≡ words (take (block_size h) (drop (h.third + i * block_size h) b)) 0 (h.variables * h.values)
unfolding table_at
table_block b h i = sym (words_same b block 0 (h.third + 2 * (i * m)) m go)
  where
    m : ℕ
    m = h.variables * h.values

    o : ℕ
    o = h.third + i * block_size h

    block : List ℕ
    block = take (block_size h) (drop o b)

    go : (j : ℕ) → j < m → word block (0 + 2 * j) ≡ word b (h.third + 2 * (i * m) + 2 * j)
    go j l =
        let e₁ : o + (0 + 2 * j) ≡ h.third + 2 * (i * m) + 2 * j = omega arith in
        let e₂ : o + (0 + 2 * j + 1) ≡ h.third + 2 * (i * m) + 2 * j + 1 = omega arith in
        word_same b block (0 + 2 * j) (h.third + 2 * (i * m) + 2 * j)
        (at_block b o (block_size h) (0 + 2 * j) (omega arith) ∙ ap (at b) e₁) (at_block b o (block_size h) (0 + 2 * j + 1) (omega arith) ∙ ap (at b) e₂)

tables_blocks : (b : List ℕ) (h : Header) → map (table_at b h) (below h.symmetries) ≡ map (λ t. words t 0 (h.variables * h.values)) (blocks h b)
unfolding blocks
tables_blocks b h =
    map_ext (table_at b h) (λ i. numbers (block i)) (below h.symmetries) (λ i m. table_block b h i) ∙ sym (map-map numbers block (below h.symmetries))
  where
    block : ℕ → List ℕ
    block i = take (block_size h) (drop (h.third + i * block_size h) b)

    numbers : List ℕ → List ℕ
    numbers t = words t 0 (h.variables * h.values)

-- ---- the same header, sets and constraints
module _ (b c : List ℕ) (ok : Passed b) (s : SameButOrder b c) where
  abbrev third : ℕ
  third = (header_of b).third

  agree : Agree b c 0 third
  agree i h l = sym (at_take third c i l) ∙ ap (λ (l : List ℕ). at l i) s.front ∙ at_take third b i l

  low : 18 ≤ third
  low = omega (arith, ok.header.second, ok.header.ordered, ok.header.some)

  same_header : header_of c ≡ header_of b
  unfolding header_of
  same_header = λ i. record {
    variables = w 0 (omega arith) i;
    values = w 2 (omega arith) i;
    constraints = w 4 (omega arith) i;
    symmetries = w 6 (omega arith) i;
    first = w 8 (omega arith) i;
    second = w 10 (omega arith) i;
    third = w 12 (omega arith) i;
    size = w 14 (omega arith) i;
  }
    where
      w : (o : ℕ) → o ≤ 14 → word c o ≡ word b o
      w o l = word_agree b c 0 third agree o (omega arith) (omega (arith, low))

  same_initial : words c 16 (header_of c).variables ≡ words b 16 (header_of b).variables
  same_initial = ap (λ (h : Header). words c 16 h.variables) same_header ∙ words_agree b c 0 third agree 16 (header_of b).variables (omega arith)
      (omega (arith, ok.header.second, ok.header.ordered))

  same_rules : constraints_from c (header_of c).constraints (header_of c).second ≡ constraints_from b (header_of b).constraints (header_of b).second
  same_rules =
      ap (λ (h : Header). constraints_from c h.constraints h.second) same_header
      ∙ constraints_agree b c third (λ i h l. agree i (omega arith) l) (header_of b) refl (header_of b).constraints 0 (header_of b).second ok.walked.0 (omega (arith, ok.header.second))
      ok.walked.1

  abbrev tables : List ℕ → List (List ℕ)
  tables d = map (λ t. words t 0 ((header_of b).variables * (header_of b).values)) (blocks (header_of b) d)

  tables_b : (problem_of b).symmetries ≡ tables b
  unfolding problem_of
  tables_b = tables_blocks b (header_of b)

  tables_c : (problem_of c).symmetries ≡ tables c
  unfolding problem_of
  tables_c = ap (λ (h : Header). map (table_at c h) (below h.symmetries)) same_header ∙ tables_blocks c (header_of b)

  pub same_symmetries : SameSymmetries (problem_of b) (problem_of c)
  unfolding problem_of
  same_symmetries = record {
    variables = ap (λ (h : Header). h.variables) same_header;
    values = ap (λ (h : Header). h.values) same_header;
    initial = same_initial;
    constraints = same_rules;
    symmetries = λ g. (
      λ m. subst (Memᴰ g) (sym tables_c) (perm_map (λ t. words t 0 ((header_of b).variables * (header_of b).values)) g s.permuted (subst (Memᴰ g) tables_b m)),
      λ m. subst (Memᴰ g) (sym tables_b) (perm_map (λ t. words t 0 ((header_of b).variables * (header_of b).values)) g (Permᴰ.symm s.permuted) (subst (Memᴰ g) tables_c m)),
    );
  }

-- ---- one accepted, the other too
module _ (b c : List ℕ) (ok : Passed b) (g : Agree b c 16 (header_of b).third) where
  abbrev h : Header
  h = header_of b

  pub sets_same : (xs : List ℕ) → ((x : ℕ) → Memᴰ x xs → x < (header_of b).variables) → (v : Verdict) → sets_verdict c (header_of b) xs v ≡ sets_verdict b (header_of b) xs v
  unfolding sets_verdict
  sets_same [] l v = refl
  sets_same (x ∷ xs) l v =
      let e : word c (16 + 2 * x) ≡ word b (16 + 2 * x) = word_agree b c 16 h.third g (16 + 2 * x) (omega arith)
      (omega (arith, ok.header.second, ok.header.ordered, l x (Memᴰ-head refl))) in
      ap₂ (λ (y : ℕ) (w : Verdict). ask (both (ltb y (2 ^ h.values)) (not (eqb y 0))) 8 x w) e (sets_same xs (λ y m. l y (Memᴰ-tail m)) v)

  pub constraints_same : (k i o : ℕ) (v w : Verdict) → 16 ≤ o → T (is_accepted (constraints_verdict b (header_of b) k i o v)) → constraints_verdict c (header_of b) k i o w ≡ constraints_verdict b
      (header_of b) k i o w
  unfolding constraints_verdict constraint_verdict
  constraints_same zero i o v w low t = refl
  constraints_same (suc k) i o v w low t =
      let q1 = asked (leb (o + 4) h.third) 9 i _ t in
      let q2 = asked (both (both (leb 1 (word b o)) (leb (word b o) 3)) (leb (word b (o + 2)) 256)) 10 i _ q1.1 in
      let q3 = asked (leb (after_at b o) h.third) 9 i _ q2.1 in
      let q4 = asked (both (all (λ x. ltb x h.variables) (scope_at b o)) (ascending (scope_at b o))) 11 i _ q3.1 in
      let q5 = asked (all (all (λ w. ltb w h.values)) (rows_at b o)) 12 i _ q4.1 in
      let q6 = asked (rows_ascend (rows_at b o)) 13 i (constraints_verdict b h k (suc i) (after_at b o) v) q5.1 in
      let head : o + 4 ≤ h.third = leb→le (o + 4) h.third q1.0 in
      let tail : after_at b o ≤ h.third = leb→le (after_at b o) h.third q3.0 in
      let ea = arity b c h.third g o low head tail in
      let ec = count b c h.third g o low head tail in
      let es = scope_agree b c h.third g o low head tail in
      let er = rows_agree b c h.third g o low head tail in
      let ef = after_agree b c h.third g o low head tail in
      let rest : constraints_verdict c h k (suc i) (after_at c o) w ≡ constraints_verdict b h k (suc i) (after_at b o) w = ap (λ (y : ℕ). constraints_verdict c h k (suc i) y w) ef ∙ constraints_same k
      (suc i) (after_at b o) v w (after_low b o low) q6.1 in
      λ j. ask (leb (o + 4) h.third) 9 i
      (ask (both (both (leb 1 (ea j)) (leb (ea j) 3)) (leb (ec j) 256)) 10 i
      (ask (leb (ef j) h.third) 9 i
      (ask (both (all (λ x. ltb x h.variables) (es j)) (ascending (es j))) 11 i
      (ask (all (all (λ w. ltb w h.values)) (er j)) 12 i
      (ask (rows_ascend (er j)) 13 i (rest j))))))

-- all questions but those to the tables, and then a last answer
abbrev pub questions : List ℕ → Header → Verdict → Verdict
questions b h last =
    let n = h.variables in
    let d = h.values in
    ask (leb 16 (length b)) 1 0
    (ask (both (leb 1 n) (leb n 12)) 2 0
    (ask (both (leb 1 d) (leb d 16)) 3 0
    (ask (leb h.constraints 32) 4 0
    (ask (leb h.symmetries 16) 5 0
    (ask (eqb h.size (length b)) 6 0
    (ask (both (eqb h.first 16) (both (eqb h.second (16 + 2 * n)) (both (leb h.second h.third) (leb h.third h.size)))) 7 0
    (sets_verdict b h (below n)
    (constraints_verdict b h h.constraints 0 h.second
    (ask (eqb h.size (h.third + 2 * (h.symmetries * (n * d)))) 14 0 last)))))))))

pub verdict_is : (b : List ℕ) → verdict_of b ≡ questions b (header_of b) (symmetries_verdict (problem_of b) 0 (problem_of b).symmetries)
unfolding verdict_of form_verdict header_verdict
verdict_is b = refl

questions_same : (b c : List ℕ) → Passed b → SameButOrder b c → (last : Verdict) → questions c (header_of b) last ≡ questions b (header_of b) last
questions_same b c ok s last =
    let h = header_of b in
    let g : Agree b c 16 h.third = λ i m l. agree b c ok s i (omega arith) l in
    let n = h.variables in
    let d = h.values in
    let end = ask (eqb h.size (h.third + 2 * (h.symmetries * (n * d)))) 14 0 last in
    let rest : sets_verdict c h (below n) (constraints_verdict c h h.constraints 0 h.second end) ≡ sets_verdict b h (below n) (constraints_verdict b h h.constraints 0 h.second end) =
    sets_same b c ok g (below n) (λ x m. below_e n x m) (constraints_verdict c h h.constraints 0 h.second end)
    ∙ ap (sets_verdict b h (below n)) (constraints_same b c ok g h.constraints 0 h.second ok.walked.0 end (omega (arith, ok.header.second)) ok.walked.1) in
    λ j. ask (leb 16 (s.long j)) 1 0
    (ask (both (leb 1 n) (leb n 12)) 2 0
    (ask (both (leb 1 d) (leb d 16)) 3 0
    (ask (leb h.constraints 32) 4 0
    (ask (leb h.symmetries 16) 5 0
    (ask (eqb h.size (s.long j)) 6 0
    (ask (both (eqb h.first 16) (both (eqb h.second (16 + 2 * n)) (both (leb h.second h.third) (leb h.third h.size)))) 7 0 (rest j)))))))

-- the questions to the tables
tables_pass : (p q : Problem) → SameSymmetries p q → WellFormed p → Respected p → symmetries_verdict q 0 q.symmetries ≡ accepted
tables_pass p q s w r = subst (λ (r : Problem). symmetries_verdict r 0 gs ≡ accepted) (sym whole) (symmetries_i (with_symmetries p gs) 0 gs each)
  where
    gs : List (List ℕ)
    gs = q.symmetries

    whole : q ≡ with_symmetries p gs
    whole = λ i. record { variables = s.variables i; values = s.values i; initial = s.initial i; constraints = s.constraints i; symmetries = gs }

    each : (g : List ℕ) → Memᴰ g gs → T (permutes_pairs (with_symmetries p gs) g) × T (respects (with_symmetries p gs) g)
    each g m = let i = (s.symmetries g).1 m in ((good_other p gs g (w.symmetric g i)).permutes, respects_other p gs g (r.respectful g i))

-- where one is accepted, the other is too; that no run can tell them apart is stated in specs/LentClaims (RetypedLent), of the run that is lent pairs and a block
pub retyped_accepted : (b c : List ℕ) → verdict_of b ≡ accepted → SameButOrder b c → verdict_of c ≡ accepted
retyped_accepted b c hb s =
    verdict_is c ∙ ap (λ (h : Header). questions c h (symmetries_verdict (problem_of c) 0 (problem_of c).symmetries)) (same_header b c ok s)
    ∙ questions_same b c ok s (symmetries_verdict (problem_of c) 0 (problem_of c).symmetries)
    ∙ ap (questions b (header_of b)) (tables_pass (problem_of b) (problem_of c) (same_symmetries b c ok s) ok.well ok.respected ∙ sym
    (symmetries_i (problem_of b) 0 (problem_of b).symmetries (λ g m. ((ok.well.symmetric g m).permutes, ok.respected.respectful g m))))
    ∙ sym (verdict_is b) ∙ hb
  where
    ok : Passed b
    ok = passed b (subst (λ (v : Verdict). T (is_accepted v)) (sym hb) tt)
