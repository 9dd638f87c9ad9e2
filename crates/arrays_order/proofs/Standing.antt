-- Where a variable stands in the order. Assumes nothing.
use Rattle.model.specs.Kit.{◌≡◌, refl, sym, ap, ap₂, ◌∙◌, subst, Bool, true, false, not, List, [], ◌∷◌, ℕ, zero, suc, ◌+◌, ◌≤◌, ◌<◌, arith, dec_lt, eqb, ltb, lt-ltb, le-ltb, length, take}
use Rattle.model.specs.Kit.{length-take-le}
use Rattle.std.proofs.Common.{cond, Option, Some, None}
use Rattle.std.specs.List.{position_or_len}
use Rattle.std.specs.Option.{unwrap_or}
use Rattle.model.specs.{Lists.at, ValueSets.least, ValueSets.least_step}
use Rattle.model.proofs.Least.{first_most}
use Rattle.arrays_order.specs.Inner.Steps.{stand}

-- the library's first place is the model's
pub first_stand : (n : ℕ) (order : List ℕ) (x : ℕ) → n ≤ length order → position_or_len (λ y. eqb y x) (take n order) ≡ stand n order x
unfolding least at
first_stand zero order x h = refl
first_stand (suc n) [] x h = absurd (omega arith)
first_stand (suc n) (y ∷ order) x h = go (eqb y x) (first_stand n order x (omega arith))
  where
    go : (b : Bool) → position_or_len (λ z. eqb z x) (take n order) ≡ stand n order x →
        cond (not b) (1 + position_or_len (λ z. eqb z x) (take n order)) 0 ≡ least_step b (least n (λ i. eqb (at order i) x))
    go true e = refl
    go false e = omega arith

or_none : (p n : ℕ) → p ≤ n → unwrap_or (cond (ltb p n) (Some p) None) n ≡ p
or_none p n h = go (dec_lt p n)
  where
    go : Dec (p < n) → unwrap_or (cond (ltb p n) (Some p) None) n ≡ p
    go (yes l) = ap (λ (b : Bool). unwrap_or (cond b (Some p) None) n) (lt-ltb p n l)
    go (no m) = ap (λ (b : Bool). unwrap_or (cond b (Some p) None) n) (le-ltb p n (omega arith)) ∙ (let e : n ≡ p = omega arith in e)

-- what the library's search tells, n where there is none
pub stood : (n : ℕ) (order : List ℕ) (x r : ℕ) (found : Option ℕ) → n ≤ length order → r ≡ unwrap_or found n →
    found ≡ cond (ltb (position_or_len (λ y. eqb y x) (take n order)) (length (take n order))) (Some (position_or_len (λ y. eqb y x) (take n order))) None →
    (r ≡ stand n order x) × (r ≤ n)
stood n order x r found h e f = (is, subst (λ (k : ℕ). k ≤ n) (sym is) most)
  where
    most : stand n order x ≤ n
    most = first_most (λ i. eqb (at order i) x) n

    is : r ≡ stand n order x
    is = e ∙ ap (λ (o : Option ℕ). unwrap_or o n) (f ∙ ap₂ (λ (p k : ℕ). cond (ltb p k) (Some p) None) (first_stand n order x h) (length-take-le n order h)) ∙ or_none (stand n order x) n most
