-- Marks as bits, and the heads that are marked. Assumes nothing.
use Rattle.model.specs.Kit.{◌≡◌, refl, sym, ap, ap₂, ◌∙◌, subst, Bool, true, false, not, List, ℕ, ◌+◌, ◌/◌, ◌%◌, ◌≤◌, ◌<◌, arith, bit_or, T, eqb, ltb, length, set, replicate, length-set}
use Rattle.model.specs.Kit.{length-replicate, eq-eqb, ne_eqb, eqb-true, eqb-false, ltb-true, ltb-false}
use Rattle.std.specs.Prelude.{Option, None, Some, MatchOption}
use Rattle.model.specs.{Lists.at, Lists.both, Lists.either, ValueSets.has}
use Rattle.model.proofs.{Lists.T_of, Lists.of_T, Lists.of_not, Lists.at_set, Lists.at_set_other, Lists.at_replicate, Lists.either_l, Lists.never, Masks.has_or, Members.either_no, Sets.has_none}
use Rattle.run_join.specs.Inner.Inner.{marked, NoMarks, MarkedToo, Pending}

pub marked_none : NoMarks (replicate 1024 0)
unfolding marked
marked_none = record { long = length-replicate {A = ℕ} 1024 0; none = λ k. ap (λ (s : ℕ). has s (k % 64)) (at_replicate 1024 (k / 64)) ∙ has_none (k % 64) }

pub marked_too : (marks : List ℕ) (k v : ℕ) → k < 65536 → length marks ≡ 1024 → ((y : ℕ) → has v y ≡ eqb y (k % 64)) → MarkedToo marks k (set marks (k / 64) (bit_or (at marks (k / 64)) v))
unfolding marked
marked_too marks k v h long one = record { long = length-set marks (k / 64) w ∙ long; bits = λ j. go j (eqb (j / 64) (k / 64)) refl }
  where
    w : ℕ
    w = bit_or (at marks (k / 64)) v

    digit : (j : ℕ) → j / 64 ≡ k / 64 → (b : Bool) → eqb (j % 64) (k % 64) ≡ b → b ≡ eqb j k
    digit j q true e = sym (eq-eqb j k (let d = eqb-true (j % 64) (k % 64) e in omega arith))
    digit j q false e = sym (ne_eqb j k (λ z. eqb-false (j % 64) (k % 64) e (ap (λ (x : ℕ). x % 64) z)))

    go : (j : ℕ) (b : Bool) → eqb (j / 64) (k / 64) ≡ b → has (at (set marks (k / 64) w) (j / 64)) (j % 64) ≡ either (has (at marks (j / 64)) (j % 64)) (eqb j k)
    go j true e =
        let q : j / 64 ≡ k / 64 = eqb-true (j / 64) (k / 64) e in
        ap (λ (x : ℕ). has (at (set marks (k / 64) w) x) (j % 64)) q ∙ ap (λ (s : ℕ). has s (j % 64)) (at_set marks (k / 64) w (omega arith))
        ∙ has_or (at marks (k / 64)) v (j % 64)
        ∙ ap₂ either (ap (λ (x : ℕ). has (at marks x) (j % 64)) (sym q)) (one (j % 64) ∙ digit j q (eqb (j % 64) (k % 64)) refl)
    go j false e =
        ap (λ (s : ℕ). has s (j % 64)) (at_set_other marks (k / 64) w (j / 64) (eqb-false (j / 64) (k / 64) e))
        ∙ sym (ap (either (has (at marks (j / 64)) (j % 64))) (ne_eqb j k (λ z. eqb-false (j / 64) (k / 64) e (ap (λ (x : ℕ). x / 64) z))) ∙ either_no (has (at marks (j / 64)) (j % 64)))

-- ---- one more head
module _ (marks : List ℕ) (k : ℕ) (marks' : List ℕ) (m : MarkedToo marks k marks') where
  pub too_itself : marked marks' k ≡ true
  too_itself = m.bits k ∙ ap (either (marked marks k)) (eq-eqb k k refl) ∙ or_true (marked marks k)
    where
      or_true : (b : Bool) → either b true ≡ true
      or_true true = refl
      or_true false = refl

  pub too_kept : (j : ℕ) → T (marked marks j) → T (marked marks' j)
  too_kept j t = subst T (sym (m.bits j)) (either_l (marked marks j) (eqb j k) t)

  pub too_other : (j : ℕ) → (j ≡ k → ⊥) → marked marks' j ≡ marked marks j
  too_other j d = m.bits j ∙ ap (either (marked marks j)) (ne_eqb j k d) ∙ either_no (marked marks j)

-- each below k, and k
pub all_turn : (marks : List ℕ) (k : ℕ) (marks' : List ℕ) → ((j : ℕ) → j < k → marked marks j ≡ true) → MarkedToo marks k marks' → (j : ℕ) → j < k + 1 → marked marks' j ≡ true
all_turn marks k marks' h m j i = go (ltb j k) refl
  where
    go : (b : Bool) → ltb j k ≡ b → marked marks' j ≡ true
    go true e = of_T (marked marks' j) (too_kept marks k marks' m j (T_of (marked marks j) (h j (ltb-true j k e))))
    go false e = let z : k ≡ j = (let f = ltb-false j k e in omega arith) in subst (λ (x : ℕ). marked marks' x ≡ true) z (too_itself marks k marks' m)

-- ---- the first that is pending
pub pending_is : (marks done : List ℕ) (n : ℕ) (r : Option ℕ) → MatchOption r ((k : ℕ) → 0 ≤ k → k < n → both (marked marks k) (not (marked done k)) ≡ false)
    (λ i. (0 ≤ i) × (i < n) × (both (marked marks i) (not (marked done i)) ≡ true) × ((k : ℕ) → 0 ≤ k → k < i → both (marked marks k) (not (marked done k)) ≡ false)) → Pending marks done n r
pending_is marks done n None m = record { none = λ e k h t. go (marked marks k) (marked done k) (m k (omega arith) h) t; one = λ k e. never (cc) }
  where
    go : (a b : Bool) → both a (not b) ≡ false → T a → T b
    go true true q t = tt
    go true false q t = absurd (of_not true q tt)
    go false b q t = absurd t
pending_is marks done n (Some i) m =
    let t = go (marked marks i) (marked done i) m.2 in
    record { none = λ e. never (cc); one = λ k e. subst (λ (j : ℕ). (j < n) × T (marked marks j) × (T (marked done j) → ⊥)) (let z : i ≡ k = cc in z) (m.1, t.0, t.1) }
  where
    go : (a b : Bool) → both a (not b) ≡ true → T a × (T b → ⊥)
    go true false q = (tt, λ t. t)
    go true true q = absurd (of_not false refl (T_of false q))
    go false b q = absurd (of_not false refl (T_of false q))
