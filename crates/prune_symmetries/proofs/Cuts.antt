-- The two loops over the table's sixteen sets of a level: what each turn does. Assumes nothing.
use Rattle.model.specs.Kit.{◌≡◌, refl, sym, ap, ◌∙◌, subst, Bool, true, false, not, List, ℕ, ◌+◌, ◌-◌, ◌^◌, ◌≤◌, ◌<◌, ℕ_discrete, arith, bit_and, bit_or, T, eqb, length, set, length-set, eqb-true}
use Rattle.model.specs.Kit.{eqb-false}
use Rattle.model.specs.Lists.{at}
use mathlib.Core.Bool.{◌||◌}
use Rattle.model.proofs.{Lists.at_set, Lists.at_set_other, Lists.set_each, Members.or_zero_e}
use Rattle.prune_symmetries.specs.Inner.Levels.{Missed, Taken}

-- ---- whether a value goes
abbrev pub Missing : List ℕ → List ℕ → ℕ → ℕ → ℕ → Type 0
Missing ss tables first hit y = (y ≤ 16) × (hit ≡ 0 → (z : ℕ) → z < y → bit_and (at ss z) (at tables (first + z)) ≡ 0)

pub missing_none : (ss tables : List ℕ) (first : ℕ) → Missing ss tables first 0 0
missing_none ss tables first = (omega arith, λ e z h. absurd (omega arith))

pub missing_next : (ss tables : List ℕ) (first hit y : ℕ) → y < 16 → Missing ss tables first hit y → Missing ss tables first (bit_or hit (bit_and (at ss y) (at tables (first + y)))) (y + 1)
missing_next ss tables first hit y h m = (omega arith, λ e z l. let o = or_zero_e hit (bit_and (at ss y) (at tables (first + y))) e in go (m.1 o.0) o.1 z l (ℕ_discrete z y))
  where
    go : ((z : ℕ) → z < y → bit_and (at ss z) (at tables (first + z)) ≡ 0) → bit_and (at ss y) (at tables (first + y)) ≡ 0 → (z : ℕ) → z < y + 1 → Dec (z ≡ y) → bit_and (at ss z)
        (at tables (first + z)) ≡ 0
    go before here z l (yes e) = subst (λ (i : ℕ). bit_and (at ss i) (at tables (first + i)) ≡ 0) (sym e) here
    go before here z l (no e) = before z (omega arith)

pub missed : (ss tables : List ℕ) (first hit y : ℕ) → 16 ≤ y → Missing ss tables first hit y → Missed (not (eqb hit 0)) ss tables first
missed ss tables first hit y h m e z l = m.1 (none (eqb hit 0) refl e) z (omega arith)
  where
    none : (b : Bool) → eqb hit 0 ≡ b → not b ≡ false → hit ≡ 0
    none true q e = eqb-true hit 0 q
    none false q e = absurd (subst T e tt)

-- ---- the values go
pub record Taking (ss tables : List ℕ) (first : ℕ) (rs : List ℕ) (r : Bool) (y : ℕ) : Type 0 where
  pub bound : y ≤ 16
  pub sixteen : length rs ≡ length ss
  pub each : (z : ℕ) → z < y → at rs z ≡ bit_and (at ss z) ((2 ^ 16 - 1) - at tables (first + z))
  pub rest : (z : ℕ) → y ≤ z → at rs z ≡ at ss z
  pub empty : r ≡ true → (z : ℕ) × (z < y) × (at rs z ≡ 0)
  pub full : r ≡ false → (z : ℕ) → z < y → at rs z ≡ 0 → ⊥

pub taking_none : (ss tables : List ℕ) (first : ℕ) → Taking ss tables first ss false 0
taking_none ss tables first =
    record {
      bound = omega arith;
      sixteen = refl;
      each = λ z h. absurd (omega arith);
      rest = λ z h. refl;
      empty = λ e. absurd (subst T (sym e) tt);
      full = λ e z h. absurd (omega arith);
    }

module _ {ss tables : List ℕ} {first : ℕ} {rs : List ℕ} {r : Bool} {y : ℕ} (n : length ss ≡ 16) (h : y < 16) (t : Taking ss tables first rs r y) where
  abbrev cut : ℕ
  cut = bit_and (at rs y) ((2 ^ 16 - 1) - at tables (first + y))

  inside : y < length rs
  inside = omega (arith, t.sixteen)

  pub taking_next : Taking ss tables first (set rs y cut) (r || eqb cut 0) (y + 1)
  taking_next =
      record {
        bound = omega arith;
        sixteen = length-set rs y cut ∙ t.sixteen;
        each = λ z l. set_each (λ i s. s ≡ bit_and (at ss i) ((2 ^ 16 - 1) - at tables (first + i))) rs y cut z inside
            (ap (λ (s : ℕ). bit_and s ((2 ^ 16 - 1) - at tables (first + y))) (t.rest y (omega arith)))
            (λ q. t.each z (omega arith));
        rest = λ z l. at_set_other rs y cut z (λ q. omega arith) ∙ t.rest z (omega arith);
        empty = gone r refl (eqb cut 0) refl;
        full = λ q z l. set_each (λ i s. s ≡ 0 → ⊥) rs y cut z inside (here r (eqb cut 0) refl q) (λ d. t.full (before r (eqb cut 0) q) z (omega arith));
      }
    where
      here : (b c : Bool) → eqb cut 0 ≡ c → b || c ≡ false → cut ≡ 0 → ⊥
      here true c q e = absurd (subst T e tt)
      here false true q e = absurd (subst T e tt)
      here false false q e = eqb-false cut 0 q

      before : (b c : Bool) → b || c ≡ false → b ≡ false
      before true c e = absurd (subst T e tt)
      before false c e = refl

      gone : (b : Bool) → r ≡ b → (c : Bool) → eqb cut 0 ≡ c → b || c ≡ true → (z : ℕ) × (z < y + 1) × (at (set rs y cut) z ≡ 0)
      gone true d c q e = let w = t.empty d in let l = w.1 in (w.0, omega arith, at_set_other rs y cut w.0 (λ i. omega arith) ∙ w.2)
      gone false d true q e = (y, omega arith, at_set rs y cut inside ∙ eqb-true cut 0 q)
      gone false d false q e = absurd (subst T (sym e) tt)

pub taken : {ss tables : List ℕ} {first : ℕ} {rs : List ℕ} {r : Bool} {y : ℕ} → 16 ≤ y → Taking ss tables first rs r y → Taken ss tables first rs r
taken {ss} {tables} {first} {rs} {r} {y} h t =
    let b = t.bound in
    record {
      sixteen = t.sixteen;
      each = λ z l. t.each z (omega arith);
      empty = λ e. let w = t.empty e in let l = w.1 in (w.0, omega arith, w.2);
      full = λ e z l. t.full e z (omega arith);
    }
