-- A spent part is a finished part of the range up to its last node, a full part is not (specs/JoinedClaims). Assumes nothing.
use Rattle.model.specs.Kit.{◌≡◌, refl, sym, ap, ap₂, ◌∙◌, subst, Bool, true, false, List, [], ◌∷◌, append-nil, ℕ, suc, ◌+◌, ◌*◌, ◌≤◌, arith, ltb, length, take, length-take, take_all, ltb-true}
use Rattle.model.specs.Kit.{ltb-false}
use Rattle.model.specs.Run.{Ending, finished, full, plans_in, search, Answer, ended, listed_plans}
use Rattle.model.specs.{Lists.at, Lists.flat, Lists.keep, Lists.total, Problem.Problem, Search.is_plan, Sheet.problem_of}
use Rattle.model.proofs.Runs.{Ended, Walk, walk}
use Rattle.run_cut.specs.{Between.nodes_between, Parts.last_of}
use Rattle.run_input.specs.Lent.{problem_lent}
use Rattle.run_ranges.specs.{Ranges.plans_said, Ranges.nodes_said, Claims.Goes, Claims.reached_for, Claims.plans_held}
use Rattle.run_ranges.proofs.{Between.before_of, Between.stop, Joined.parts_join, Joined.finishes}
use Rattle.promises.specs.JoinedClaims.{SpentFinished, FullLacks}
use Rattle.promises.proofs.{JoinedTwelve.small_lent, JoinedHeads.answered, JoinedTaken.last_is}

pub spent_finished : SpentFinished
unfolding total flat
spent_finished b pairs block c so call forth plans made is d call' e f l m =
    let n = (problem_of b).variables in
    let p : plans_said c.answer + 0 ≡ plans = (let z = ap plans_said is in omega arith) in
    let q : nodes_said c.answer + 0 ≡ made = (let z = ap nodes_said is in omega arith) in
    let t = parts_join b pairs block c.from c.last (c ∷ []) so (refl, forth, call, subst Goes (sym is) tt, ap (λ (a : Answer). reached_for a c.upto c.last) is) d call' e f
    (subst (λ (x : ℕ). x ≤ d.limit) (sym q) l) (subst (λ (x : ℕ). x * n ≤ length d.out) (sym p) m) in
    let a : d.answer ≡ ended (finished plans made) = t.finishes ∙ ap₂ (λ (x y : ℕ). ended (finished x y)) p q in (
      a,
      record {
        plans = ap (λ (x : ℕ). listed_plans n x d.list) (ap plans_said a ∙ sym p) ∙ t.plans ∙ append-nil (plans_held n c);
        nodes = t.nodes ∙ (let z : nodes_said c.answer + 0 ≡ nodes_said c.answer = omega arith in z);
        counts = λ x. t.counts x ∙ (let z : at c.tally.counts x + 0 ≡ at c.tally.counts x = omega arith in z);
      },
    )

-- ---- a full walk
module _ (p : Problem) (limit room : ℕ) (ts : List (List ℕ)) (plans made : ℕ) (e : (search p limit room ts 0 []).ending ≡ full plans made) where
  w : Walk p limit room ts 0 [] (search p limit room ts 0 [])
  w = walk p limit room ts 0 []

  -- its last node is a plan that is not listed
  one_more : (made ≤ length ts) × (length (keep (is_plan p) (take made ts)) ≡ suc plans)
  one_more =
      let q = subst (Ended p limit room ts 0 w.passed) e w.ended in
      let k = w.passed in
      let c : plans ≡ length (keep (is_plan p) (take k ts)) = sym (ap plans_in e) ∙ w.counted ∙ ap length w.listed in
      let z : made ≡ suc k = omega (arith, q.0) in
      (inside q z (ltb k (length ts)) refl, ap (λ (j : ℕ). length (keep (is_plan p) (take j ts))) z ∙ q.2 ∙ ap suc (sym c))
    where
      inside : Ended p limit room ts 0 w.passed (full plans made) → made ≡ suc w.passed → (d : Bool) → ltb w.passed (length ts) ≡ d → made ≤ length ts
      inside q z true f = let h = ltb-true w.passed (length ts) f in omega arith
      inside q z false f =
          let h = ltb-false w.passed (length ts) f in
          let a = ap (λ (l : List (List ℕ)). length (keep (is_plan p) l)) (take_all (suc w.passed) ts (omega arith)) in
          let b = ap (λ (l : List (List ℕ)). length (keep (is_plan p) l)) (take_all w.passed ts (omega arith)) in
          absurd (omega (arith, q.2))

pub full_lacks : FullLacks
full_lacks b pairs block c so call forth plans made is d call' e f l m =
    let p = problem_lent b pairs block in
    let ts = nodes_between p c.from c.upto in
    let us = take made ts in
    let w : (search p c.limit (length c.out) ts 0 []).ending ≡ full plans made = back (sym (answered b pairs block c call so) ∙ is) in
    let o = one_more p c.limit (length c.out) ts plans made w in
    let last : c.last ≡ last_of (take 12 c.from) us = last_is b pairs block c so call ∙ ap (λ (a : Answer). last_of (take 12 c.from) (take (nodes_said a) ts)) is in
    let made-up-to = stop p c.from c.upto made (before_of p c.from c.upto forth) (small_lent b pairs block so) in
    let range : nodes_between p d.from d.upto ≡ us = ap₂ (nodes_between p) e (f ∙ last) ∙ made-up-to.done in
    let long : length us ≡ made = (let z = length-take made ts in let y = o.0 in omega arith) in
    let done = finishes p d.limit (length d.out) us (subst (λ (x : ℕ). x ≤ d.limit) (sym long) l) (subst (λ (x : ℕ). x * p.variables ≤ length d.out) (sym o.1) m) in
    answered b pairs block d call' so ∙ ap (λ (x : List (List ℕ)). ended (search p d.limit (length d.out) x 0 []).ending) range ∙ ap ended (done ∙ ap₂ finished o.1 long)
  where
    back : {x y : Ending} → ended x ≡ ended y → x ≡ y
    back h = cc
