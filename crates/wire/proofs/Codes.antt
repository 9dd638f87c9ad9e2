-- The item of a refusal is below 256, so that its number and its item stand in one code. Assumes nothing.
use Rattle.model.specs.Kit.{◌≡◌, refl, subst, Bool, true, false, not, List, [], ◌∷◌, ℕ, zero, suc, ◌+◌, ◌*◌, ◌^◌, ◌≤◌, ◌<◌, arith, leb, ltb, eqb, length, leb-true}
use Rattle.model.specs.{Lists.both, Lists.all, Lists.ascending, Lists.rows_ascend, Lists.up_from, Lists.below, Problem.Problem, Problem.respects, Verdict.Verdict, Verdict.accepted, Verdict.refused}
use Rattle.model.specs.{Verdict.ask, Sheet.Header, Sheet.header_of, Sheet.problem_of, Sheet.word, Sheet.scope_at, Sheet.rows_at, Sheet.after_at, Sheet.permutes_pairs, Sheet.header_verdict}
use Rattle.model.specs.{Sheet.sets_verdict}
use Rattle.model.specs.{Sheet.constraint_verdict, Sheet.constraints_verdict, Sheet.form_verdict, Sheet.symmetries_verdict, Sheet.verdict_of}
use Rattle.model.proofs.{Lists.both_second, Accepted.symmetries_are}

abbrev pub Small : Verdict → Type 0
Small accepted = Unit {0}
Small (refused number item) = item < 256

pub ask_small : (c : Bool) (number item : ℕ) (later : Verdict) → item < 256 → (c ≡ true → Small later) → Small (ask c number item later)
ask_small true number item later h k = k refl
ask_small false number item later h k = h

-- ---- the sheet's questions
sets_small : (b : List ℕ) (h : Header) (k a : ℕ) (later : Verdict) → a + k ≤ 256 → Small later → Small (sets_verdict b h (up_from a k) later)
unfolding sets_verdict up_from
sets_small b h zero a later le s = s
sets_small b h (suc k) a later le s =
    let w = word b (16 + 2 * a) in
    let rest : Small (sets_verdict b h (up_from (suc a) k) later) = sets_small b h k (suc a) later (omega arith) s in
    ask_small (both (ltb w (2 ^ h.values)) (not (eqb w 0))) 8 a (sets_verdict b h (up_from (suc a) k) later) (omega arith) (λ e. rest)

constraints_small : (b : List ℕ) (h : Header) (k i o : ℕ) (later : Verdict) → i + k < 256 → Small later → Small (constraints_verdict b h k i o later)
unfolding constraints_verdict constraint_verdict
constraints_small b h zero i o later le s = ask_small (eqb o h.third) 9 i later (omega arith) (λ e. s)
constraints_small b h (suc k) i o later le s =
    let l : i < 256 = omega arith in
    let v0 = constraints_verdict b h k (suc i) (after_at b o) later in
    let s0 : Small v0 = constraints_small b h k (suc i) (after_at b o) later (omega arith) s in
    let ascend = rows_ascend (rows_at b o) in
    let v1 = ask ascend 13 i v0 in
    let valued = all (all (λ w. ltb w h.values)) (rows_at b o) in
    let v2 = ask valued 12 i v1 in
    let scoped = both (all (λ x. ltb x h.variables) (scope_at b o)) (ascending (scope_at b o)) in
    let v3 = ask scoped 11 i v2 in
    let v4 = ask (leb (after_at b o) h.third) 9 i v3 in
    let sized = both (both (leb 1 (word b o)) (leb (word b o) 3)) (leb (word b (o + 2)) 256) in
    ask_small (leb (o + 4) h.third) 9 i (ask sized 10 i v4) l
    (λ e. ask_small sized 10 i v4 l
    (λ e. ask_small (leb (after_at b o) h.third) 9 i v3 l
    (λ e. ask_small scoped 11 i v2 l
    (λ e. ask_small valued 12 i v1 l
    (λ e. ask_small ascend 13 i v0 l
    (λ e. s0))))))

pub symmetries_small : (p : Problem) (i : ℕ) (gs : List (List ℕ)) → i + length gs ≤ 256 → Small (symmetries_verdict p i gs)
unfolding symmetries_verdict
symmetries_small p i [] le = tt
symmetries_small p i (g ∷ gs) le =
    let l : i < 256 = omega arith in
    let v0 = symmetries_verdict p (suc i) gs in
    let s0 : Small v0 = symmetries_small p (suc i) gs (omega arith) in
    ask_small (permutes_pairs p g) 15 i (ask (respects p g) 16 i v0) l (λ e. ask_small (respects p g) 16 i v0 l (λ e. s0))

pub verdict_small : (b : List ℕ) → Small (verdict_of b)
unfolding verdict_of form_verdict header_verdict below
verdict_small b =
    let h = header_of b in
    let n = h.variables in
    let d = h.values in
    let z : 0 < 256 = omega arith in
    let c14 = eqb h.size (h.third + 2 * (h.symmetries * (n * d))) in
    let v14 = symmetries_verdict (problem_of b) 0 (problem_of b).symmetries in
    let v13 = constraints_verdict b h h.constraints 0 h.second (ask c14 14 0 v14) in
    let v7 = sets_verdict b h (up_from 0 n) v13 in
    let c7 = both (eqb h.first 16) (both (eqb h.second (16 + 2 * n)) (both (leb h.second h.third) (leb h.third h.size))) in
    let v6 = ask c7 7 0 v7 in
    let c6 = eqb h.size (length b) in
    let v5 = ask c6 6 0 v6 in
    let c5 = leb h.symmetries 16 in
    let v4 = ask c5 5 0 v5 in
    let c4 = leb h.constraints 32 in
    let v3 = ask c4 4 0 v4 in
    let c3 = both (leb 1 d) (leb d 16) in
    let v2 = ask c3 3 0 v3 in
    let c2 = both (leb 1 n) (leb n 12) in
    ask_small (leb 16 (length b)) 1 0 (ask c2 2 0 v2) z
    (λ e1. ask_small c2 2 0 v2 z
    (λ e2. ask_small c3 3 0 v3 z
    (λ e3. ask_small c4 4 0 v4 z
    (λ e4. ask_small c5 5 0 v5 z
    (λ e5. ask_small c6 6 0 v6 z
    (λ e6. ask_small c7 7 0 v7 z
    (λ e7. sets_small b h n 0 v13 (omega (arith, leb-true n 12 (both_second (leb 1 n) (leb n 12) e2)))
    (constraints_small b h h.constraints 0 h.second (ask c14 14 0 v14) (omega (arith, leb-true h.constraints 32 e4))
    (ask_small c14 14 0 v14 z
    (λ e14. symmetries_small (problem_of b) 0 (problem_of b).symmetries (omega (arith, symmetries_are b, leb-true h.symmetries 16 e5))))))))))))

pub refused_small : (v : Verdict) (number item : ℕ) → v ≡ refused number item → Small v → item < 256
refused_small v number item e s = subst Small e s
