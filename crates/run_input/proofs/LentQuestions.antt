-- The questions put to a sheet, pairs and a block (specs/LentClaims): their order, and what 30 and 36 mean. Assumes nothing.
use Rattle.model.specs.Kit.{◌≡◌, refl, sym, ap, ap₂, ◌∙◌, subst, Bool, true, false, ◌↔◌, ◌⊎◌, inl, inr, ⊎_elim, List, [], ◌∷◌, Memᴰ, ℕ, suc, ◌%◌, ◌≤◌, ◌<◌, arith, T, leb, ltb, eqb, leb→le}
use Rattle.model.specs.Kit.{ltb→lt, eqb→eq, length, le-leb, eq-eqb}
use Rattle.model.specs.{Lists.both, Lists.all, Problem.Problem, Problem.respects, Verdict.Verdict, Verdict.accepted, Verdict.refused, Verdict.ask, Sheet.problem_of, Sheet.permutes_pairs}
use Rattle.model.specs.{Sheet.symmetries_verdict, Sheet.verdict_of}
use Rattle.model.proofs.Lists.{both_l, both_r, of_T, T_of, not_of, all_e}
use Rattle.order.specs.Order.{Circle, settles_all, order_verdict}
use Rattle.order.proofs.Order.{question_30, no_circle_passes}
use Rattle.sheet.specs.Meaning.{and_then}
use Rattle.block.specs.Block.{block_tables, is_block_at, block_verdict, block_lent}
use Rattle.block.proofs.Block.{block_is, is_block}
use Rattle.run_input.specs.{Lent.verdict_lent, LentClaims.Pairs, LentClaims.NamesBlock, LentClaims.QuestionsLentClaim}

-- ---- the block's questions
abbrev number_in : Verdict → ℕ
number_in accepted = 0
number_in (refused number item) = number

-- the questions to the tables are 15 and 16
abbrev OfTables : Verdict → Type 0
OfTables v = (number_in v ≡ 0) ⊎ (number_in v ≡ 15) ⊎ (number_in v ≡ 16)

tables_number : (p : Problem) (i : ℕ) (gs : List (List ℕ)) → OfTables (symmetries_verdict p i gs)
unfolding symmetries_verdict
tables_number p i [] = inl refl
tables_number p i (g ∷ gs) = go (permutes_pairs p g) (respects p g) (tables_number p (suc i) gs)
  where
    go : (b c : Bool) → OfTables (symmetries_verdict p (suc i) gs) → OfTables (ask b 15 i (ask c 16 i (symmetries_verdict p (suc i) gs)))
    go false c h = inr (inl refl)
    go true false h = inr (inr refl)
    go true true h = h

tables_not : (k item : ℕ) → 17 ≤ k → (v : Verdict) → OfTables v → v ≡ refused k item → ⊥
tables_not k item l v h e =
    let n : number_in v ≡ k = ap number_in e in
    ⊎_elim {C = ⊥} (λ z. omega arith) (⊎_elim {C = ⊥} (λ z. omega arith) (λ z. omega arith)) h

module _ (p : Problem) (first m : ℕ) where
  block_asked : T (is_block_at p first m) → block_verdict p first m ≡ symmetries_verdict p (length p.symmetries) (block_tables p first m)
  unfolding block_verdict
  block_asked t = ap (λ (b : Bool). ask b 36 0 (symmetries_verdict p (length p.symmetries) (block_tables p first m))) (of_T (is_block_at p first m) t)

  block_cases : T (is_block_at p first m) ⊎ (block_verdict p first m ≡ refused 36 0)
  unfolding block_verdict
  block_cases = go (is_block_at p first m) refl
    where
      go : (b : Bool) → is_block_at p first m ≡ b → T (is_block_at p first m) ⊎ (ask (is_block_at p first m) 36 0 (symmetries_verdict p (length p.symmetries) (block_tables p first m)) ≡ refused 36 0)
      go true e = inl (T_of (is_block_at p first m) e)
      go false e = inr (ap (λ (b : Bool). ask b 36 0 (symmetries_verdict p (length p.symmetries) (block_tables p first m))) e)

-- the block's questions: nothing lent passes, bytes that name no block get 36, and for a block there are its tables
none_passes : (p : Problem) → block_lent p [] ≡ accepted
unfolding block_lent
none_passes p = refl

named : (p : Problem) (block : List ℕ) (n : NamesBlock p.variables block) → block_lent p block ≡ symmetries_verdict p (length p.symmetries) (block_tables p n.0 n.1)
unfolding block_lent
named p block n = ap (block_lent p) n.2 ∙ block_asked p n.0 n.1 (is_block p n.0 n.1 (n.3, n.4) n.5)

not_named : (p : Problem) (block : List ℕ) → (block ≡ [] → ⊥) → (NamesBlock p.variables block → ⊥) → block_lent p block ≡ refused 36 0
unfolding block_lent
not_named p [] h k = absurd (h refl)
not_named p (first ∷ []) h k = refl
not_named p (first ∷ m ∷ []) h k =
    ⊎_elim {C = block_verdict p first m ≡ refused 36 0} (λ t. let r = block_is p first m t in absurd (k (first, m, refl, r.0.0, r.0.1, r.1))) (λ e. e) (block_cases p first m)
not_named p (first ∷ m ∷ x ∷ more) h k = refl

is_36 : (p : Problem) (block : List ℕ) → (block_lent p block ≡ refused 36 0) ↔ ((block ≡ [] → ⊥) × (NamesBlock p.variables block → ⊥))
is_36 p block = (
  λ e. (
    λ z. let c : ◌≡◌ {A = ℕ} 0 36 = ap number_in (sym (none_passes p)) ∙ ap (λ (l : List ℕ). number_in (block_lent p l)) (sym z) ∙ ap number_in e in omega arith,
    λ n. tables_not 36 0 (omega arith) (symmetries_verdict p (length p.symmetries) (block_tables p n.0 n.1)) (tables_number p (length p.symmetries) (block_tables p n.0 n.1))
        (sym (named p block n) ∙ e),
  ),
  λ r. not_named p block r.0 r.1,
)

not_30 : (p : Problem) (block : List ℕ) → block_lent p block ≡ refused 30 0 → ⊥
unfolding block_lent
not_30 p [] e = let c : ◌≡◌ {A = ℕ} 0 30 = ap number_in e in omega arith
not_30 p (first ∷ []) e = let c : ◌≡◌ {A = ℕ} 36 30 = ap number_in e in omega arith
not_30 p (first ∷ m ∷ []) e =
    ⊎_elim {C = ⊥} (λ t. tables_not 30 0 (omega arith) (symmetries_verdict p (length p.symmetries) (block_tables p first m)) (tables_number p (length p.symmetries) (block_tables p first m))
    (sym (block_asked p first m t) ∙ e))
    (λ q. let c : ◌≡◌ {A = ℕ} 36 30 = ap number_in (sym q ∙ e) in omega arith) (block_cases p first m)
not_30 p (first ∷ m ∷ x ∷ more) e = let c : ◌≡◌ {A = ℕ} 36 30 = ap number_in e in omega arith

-- ---- the pairs' questions
module _ (n : ℕ) (pairs : List ℕ) (later : Verdict) where
  is_28 : ((length pairs ≤ 128) × (length pairs % 2 ≡ 0) → ⊥) → order_verdict n pairs later ≡ refused 28 0
  unfolding order_verdict
  is_28 h =
      let a = leb (length pairs) 128 in
      let c = eqb (length pairs % 2) 0 in
      ap (λ (q : Bool). ask q 28 0 (ask (all (λ x. ltb x n) pairs) 29 0 (ask (settles_all n pairs) 30 0 later)))
      (not_of (both a c) (λ t. h (leb→le (length pairs) 128 (both_l a c t), eqb→eq (length pairs % 2) 0 (both_r a c t))))

  is_29 : length pairs ≤ 128 → length pairs % 2 ≡ 0 → (((x : ℕ) → Memᴰ x pairs → x < n) → ⊥) → order_verdict n pairs later ≡ refused 29 0
  unfolding order_verdict
  is_29 few whole h =
      ap₂ (λ (q r : Bool). ask q 28 0 (ask r 29 0 (ask (settles_all n pairs) 30 0 later))) (ap₂ both (le-leb (length pairs) 128 few) (eq-eqb (length pairs % 2) 0 whole))
      (not_of (all (λ x. ltb x n) pairs) (λ t. h (λ x m. ltb→lt x n (all_e (λ x. ltb x n) pairs t x m))))

pub questions_lent : QuestionsLentClaim
unfolding verdict_lent
questions_lent b pairs block = record {
  sheet = λ number item e. ap (λ (v : Verdict). and_then v (order_verdict n pairs (block_lent p block))) e;
  half = λ e h. rest e ∙ is_28 n pairs (block_lent p block) h;
  outside = λ e few whole h. rest e ∙ is_29 n pairs (block_lent p block) few whole h;
  circle = λ e q. subst (λ (v : Verdict). (v ≡ refused 30 0) ↔ Circle pairs) (sym (rest e)) (question_30 n pairs q.few q.whole q.inside (block_lent p block) (not_30 p block));
  unknown = λ e q ok. subst (λ (v : Verdict). (v ≡ refused 36 0) ↔ ((block ≡ [] → ⊥) × (NamesBlock n block → ⊥))) (sym (pass e q ok)) (is_36 p block);
  rows = λ e q ok k. pass e q ok ∙ named p block k;
  none = λ e q ok z. pass e q ok ∙ ap (block_lent p) z ∙ none_passes p;
}
  where
    p : Problem
    p = problem_of b

    n : ℕ
    n = (problem_of b).variables

    rest : verdict_of b ≡ accepted → and_then (verdict_of b) (order_verdict (problem_of b).variables pairs (block_lent (problem_of b) block)) ≡ order_verdict (problem_of b).variables pairs
        (block_lent (problem_of b) block)
    rest e = ap (λ (v : Verdict). and_then v (order_verdict (problem_of b).variables pairs (block_lent (problem_of b) block))) e

    pass : verdict_of b ≡ accepted → Pairs (problem_of b).variables pairs → (Circle pairs → ⊥) → and_then (verdict_of b)
        (order_verdict (problem_of b).variables pairs (block_lent (problem_of b) block)) ≡ block_lent (problem_of b) block
    pass e q ok = rest e ∙ no_circle_passes n pairs q.few q.whole q.inside (block_lent p block) ok
