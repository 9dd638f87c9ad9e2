-- The loop that cuts the first twelve sets down to the cover, the last first. Assumes nothing.
use Rattle.model.specs.Kit.{◌≡◌, refl, sym, ap, ◌∙◌, subst, false, ◌⊎◌, inl, inr, List, ℕ, ◌-◌, ◌*◌, ◌%◌, ◌^◌, ◌≤◌, ◌<◌, arith, ℕ_discrete, dec_lt, T, eqb, eqb→eq, eqb_refl, length, set, length-set}
use Rattle.model.specs.Kit.{bit_and, bit_or}
use Rattle.model.specs.{Lists.at, ValueSets.has}
use Rattle.model.proofs.{Lists.TDec, Lists.not_of, Lists.of_not, Lists.at_set, Lists.at_set_other, Members.has_0, Members.or_i, Members.or_e, Members.one_has}
use Rattle.prune_pairs.specs.Inner.Steps.{Spared, CutOrKept, CutDead, CutDown}

-- of the first twelve sets those from y on are cut so far
pub record Cutting (ds cover es : List ℕ) (changed y : ℕ) : Type 0 where
  pub few : y ≤ 12
  pub sized : length es ≡ 16
  pub cut : (i : ℕ) → y ≤ i → i < 12 → at es i ≡ bit_and (at ds i) (at cover i)
  pub kept : (i : ℕ) → has changed i ≡ false → at es i ≡ at ds i
  pub moved : (i : ℕ) → T (has changed i) → (y ≤ i) × (i < 12) × (at es i ≡ at ds i → ⊥) × (at es i ≡ 0 → ⊥)

pub cutting_begin : (ds cover : List ℕ) → length ds ≡ 16 → Cutting ds cover ds 0 12
cutting_begin ds cover l = record {
  few = omega arith;
  sized = l;
  cut = λ i h m. absurd (omega arith);
  kept = λ i e. refl;
  moved = λ i t. absurd (has_0 i t);
}

-- each set is cut or as it came
cutting_each : {ds cover es : List ℕ} {changed y : ℕ} → Cutting ds cover es changed y → CutOrKept ds cover es
cutting_each {ds} {cover} {es} {changed} {y} c = record { sized = c.sized; each = λ i. go i (TDec (has changed i)) }
  where
    go : (i : ℕ) → T (has changed i) ⊎ (T (has changed i) → ⊥) → (at es i ≡ bit_and (at ds i) (at cover i)) ⊎ (at es i ≡ at ds i)
    go i (inl t) = let q = c.moved i t in inl (c.cut i q.0 q.1)
    go i (inr n) = inr (c.kept i (not_of (has changed i) n))

-- where the cut would take nothing from the sets before
pub cutting_end : {ds cover es : List ℕ} {changed y : ℕ} → Cutting ds cover es changed y → Spared ds cover y → CutDown ds cover es changed
cutting_end {ds} {cover} {es} {changed} {y} c h = record {
  so_far = cutting_each c;
  cut = λ i l. cut i l (dec_lt i y);
  kept = c.kept;
  changed = λ i t. let q = c.moved i t in (q.1, q.2, q.3);
}
  where
    cut : (i : ℕ) → i < 12 → Dec (i < y) → at es i ≡ bit_and (at ds i) (at cover i)
    cut i l (yes b) = c.kept i (not_of (has changed i) (λ t. omega (arith, (c.moved i t).0))) ∙ sym (h i b l)
    cut i l (no b) = c.cut i (omega arith) l

-- one turn, whose set has the same values in the cover, fewer, or none
module _ {ds cover es : List ℕ} {changed k : ℕ} (c : Cutting ds cover es changed k) (h : 0 < k) where
  abbrev y : ℕ
  y = k - 1

  abbrev new : ℕ
  new = bit_and (at es y) (at cover y)

  cutting_lt : y < 12
  cutting_lt = omega arith

  here : at es y ≡ at ds y
  here = c.kept y (not_of (has changed y) (λ t. omega (arith, (c.moved y t).0)))

  cut_here : bit_and (at es y) (at cover y) ≡ bit_and (at ds y) (at cover y)
  cut_here = ap (λ (s : ℕ). bit_and s (at cover y)) here

  pub cutting_same : new ≡ at es y → Cutting ds cover es changed y
  cutting_same e = record {
    few = omega arith;
    sized = c.sized;
    cut = λ i l m. cut i l m (ℕ_discrete i y);
    kept = c.kept;
    moved = λ i t. let q = c.moved i t in (omega (arith, q.0), q.1, q.2, q.3);
  }
    where
      cut : (i : ℕ) → y ≤ i → i < 12 → Dec (i ≡ y) → at es i ≡ bit_and (at ds i) (at cover i)
      cut i l m (yes q) = subst (λ (j : ℕ). at es j ≡ bit_and (at ds j) (at cover j)) (sym q) (sym e ∙ cut_here)
      cut i l m (no n) = c.cut i (omega arith) m

  pub cutting_dead : (new ≡ at es y → ⊥) → new ≡ 0 → CutDead ds cover es
  cutting_dead n e = record { dead = (y, cutting_lt, sym cut_here ∙ e, λ z. n (e ∙ sym (here ∙ z))); so_far = cutting_each c }

  pub cutting_less : (new ≡ at es y → ⊥) → (new ≡ 0 → ⊥) → Cutting ds cover (set es y new) (bit_or changed (1 * 2 ^ y % 2 ^ 64)) y
  cutting_less n z = record {
    few = omega arith;
    sized = length-set es y new ∙ c.sized;
    cut = λ i l m. cut i l m (ℕ_discrete i y);
    kept = λ i e. there i (λ q. of_not (has more i) e (or_i changed one i (inr (subst T (sym (one_has 64 y i (omega arith))) (subst (λ (j : ℕ). T (eqb i j)) q (eqb_refl i))))))
        ∙ c.kept i (not_of (has changed i) (λ t. of_not (has more i) e (or_i changed one i (inl t))));
    moved = λ i t. moved i (or_e changed one i t);
  }
    where
      one : ℕ
      one = 1 * 2 ^ y % 2 ^ 64

      more : ℕ
      more = bit_or changed one

      now : at (set es y new) y ≡ new
      now = at_set es y new (omega (arith, c.sized))

      there : (i : ℕ) → (i ≡ y → ⊥) → at (set es y new) i ≡ at es i
      there i q = at_set_other es y new i q

      cut : (i : ℕ) → y ≤ i → i < 12 → Dec (i ≡ y) → at (set es y new) i ≡ bit_and (at ds i) (at cover i)
      cut i l m (yes q) = subst (λ (j : ℕ). at (set es y new) j ≡ bit_and (at ds j) (at cover j)) (sym q) (now ∙ cut_here)
      cut i l m (no o) = there i o ∙ c.cut i (omega arith) m

      moved : (i : ℕ) → T (has changed i) ⊎ T (has one i) → (y ≤ i) × (i < 12) × (at (set es y new) i ≡ at ds i → ⊥) × (at (set es y new) i ≡ 0 → ⊥)
      moved i (inl t) = let q = c.moved i t in
          let e : at (set es y new) i ≡ at es i = there i (λ f. omega (arith, q.0)) in
          (omega (arith, q.0), q.1, λ f. q.2 (sym e ∙ f), λ f. q.3 (sym e ∙ f))
      moved i (inr t) =
          subst (λ (j : ℕ). (y ≤ j) × (j < 12) × (at (set es y new) j ≡ at ds j → ⊥) × (at (set es y new) j ≡ 0 → ⊥)) (sym (eqb→eq i y (subst T (one_has 64 y i (omega arith)) t)))
          (omega arith, cutting_lt, λ e. n (sym now ∙ e ∙ sym here), λ e. z (sym now ∙ e))
