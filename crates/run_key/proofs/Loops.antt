-- One turn of each of the loops. Assumes nothing.
use Rattle.model.specs.Kit.{◌≡◌, refl, sym, ap, ◌∙◌, subst, Bool, true, false, not, List, ℕ, ◌+◌, ◌*◌, ◌%◌, ◌≤◌, ◌<◌, ℕ_discrete, arith, bit_and, bit_or, T, eqb, ltb, leb, eq-eqb, ne_eqb}
use Rattle.model.specs.Kit.{min, ltb-true, ltb-false, le-leb, lt-leb}
use Rattle.model.specs.{Lists.at, Lists.either, Lists.choose, ValueSets.has}
use Rattle.model.proofs.{Lists.both_i, Lists.either_l, Lists.either_r, Masks.has_and, Masks.has_or}
use Rattle.arrays.specs.Inner.Places.{ENTAILED, OBEYED, SETS}
use Rattle.run_key.specs.Inner.Key.{Seen, Pending, lowered, compared, SameSets}

-- ---- the constraints that have one variable, and two
or_l : (a b c : ℕ) → T (has a c) → T (has (bit_or a b) c)
or_l a b c t = subst T (sym (has_or a b c)) (either_l (has a c) (has b c) t)

or_r : (a b c : ℕ) → T (has b c) → T (has (bit_or a b) c)
or_r a b c t = subst T (sym (has_or a b c)) (either_r (has a c) (has b c) t)

module _ (numbers : List ℕ) (k x : ℕ) where
  pub seen_turn : (r : ℕ) → Seen numbers k x r → Seen numbers k (x + 1) (bit_or r (at numbers x))
  seen_turn r h c i l u t = go (ℕ_discrete i x)
    where
      go : Dec (i ≡ x) → T (has (bit_or r (at numbers x)) c)
      go (yes e) = or_r r (at numbers x) c (subst (λ (j : ℕ). T (has (at numbers j) c)) e t)
      go (no n) = or_l r (at numbers x) c (h c i l (omega arith) t)

  pub pending_turn : (once twice : ℕ) → Seen numbers k x once → Pending numbers k x twice → Pending numbers k (x + 1) (bit_or twice (bit_and once (at numbers x)))
  pending_turn once twice s h c i j l m u t t' = go (ℕ_discrete j x)
    where
      go : Dec (j ≡ x) → T (has (bit_or twice (bit_and once (at numbers x))) c)
      go (yes e) =
          or_r twice (bit_and once (at numbers x)) c (subst T (sym (has_and once (at numbers x) c))
          (both_i (has once c) (has (at numbers x) c) (s c i l (omega arith) t) (subst (λ (y : ℕ). T (has (at numbers y) c)) e t')))
      go (no n) = or_l twice (bit_and once (at numbers x)) c (h c i j l m (omega arith) t t')

-- ---- the lower of a level and a mark's
pub lowered_le : (low mark : ℕ) → lowered low mark ≤ low
unfolding lowered
lowered_le low mark = go (eqb mark OBEYED) (ltb (mark % ENTAILED) low) refl
  where
    go : (a b : Bool) → ltb (mark % ENTAILED) low ≡ b → choose a low (choose b (mark % ENTAILED) low) ≤ low
    go true b e = omega arith
    go false true e = omega (arith, ltb-true (mark % ENTAILED) low e)
    go false false e = omega arith

pub lowered_passed : (low mark : ℕ) → (mark ≡ OBEYED → ⊥) → lowered low mark ≤ mark % ENTAILED
unfolding lowered
lowered_passed low mark n = subst (λ (a : Bool). choose a low (choose (ltb (mark % ENTAILED) low) (mark % ENTAILED) low) ≤ mark % ENTAILED) (sym (ne_eqb mark OBEYED n))
    (go (ltb (mark % ENTAILED) low) refl)
  where
    go : (b : Bool) → ltb (mark % ENTAILED) low ≡ b → choose b (mark % ENTAILED) low ≤ mark % ENTAILED
    go true e = omega arith
    go false e = omega (arith, ltb-false (mark % ENTAILED) low e)

-- as it is computed
pub lowered_obeyed : (low mark : ℕ) → mark ≡ OBEYED → low ≡ lowered low mark
unfolding lowered
lowered_obeyed low mark e = sym (ap (λ (a : Bool). choose a low (choose (ltb (mark % ENTAILED) low) (mark % ENTAILED) low)) (eq-eqb mark OBEYED e))

pub lowered_passing : (low mark : ℕ) → (mark ≡ OBEYED → ⊥) → min low (mark % ENTAILED) ≡ lowered low mark
unfolding lowered
lowered_passing low mark n = go (ltb (mark % ENTAILED) low) refl ∙ sym (ap (λ (a : Bool). choose a low (choose (ltb (mark % ENTAILED) low) (mark % ENTAILED) low)) (ne_eqb mark OBEYED n))
  where
    go : (b : Bool) → ltb (mark % ENTAILED) low ≡ b → min low (mark % ENTAILED) ≡ choose b (mark % ENTAILED) low
    go true e = omega (arith, ltb-true (mark % ENTAILED) low e)
    go false e = omega (arith, ltb-false (mark % ENTAILED) low e)

pub either_yes : (low x : ℕ) (b : Bool) → low ≤ x → leb low x ≡ either (leb low x) b
either_yes low x b l = le-leb low x l ∙ sym (ap (λ (a : Bool). either a b) (le-leb low x l))

pub either_no : (low x : ℕ) (b : Bool) → (low ≤ x → ⊥) → b ≡ either (leb low x) b
either_no low x b n = sym (ap (λ (a : Bool). either a b) (lt-leb low x (omega arith)))

pub not_both : (b : Bool) → not b ≡ true → T b → ⊥
not_both true e t = subst T (sym e) tt
not_both false e t = t

-- ---- the marks of a depth
abbrev pub PassedBy : (ℕ → ℕ) → ℕ → ℕ → Type 0
PassedBy marks e low = (f : ℕ) → f < e → (marks f ≡ OBEYED → ⊥) → low ≤ marks f % ENTAILED

pub passed_turn : (marks : ℕ → ℕ) (e low : ℕ) → PassedBy marks e low → PassedBy marks (e + 1) (lowered low (marks e))
passed_turn marks e low h f l n = go (ℕ_discrete f e)
  where
    go : Dec (f ≡ e) → lowered low (marks e) ≤ marks f % ENTAILED
    go (yes q) = subst (λ (g : ℕ). lowered low (marks e) ≤ marks g % ENTAILED) (sym q) (lowered_passed low (marks e) (λ z. n (ap marks q ∙ z)))
    go (no q) = let a = h f (omega arith) n in let b = lowered_le low (marks e) in omega arith

-- ---- sets that are compared
pub same_turn : (stack numbers work : List ℕ) (k pending low s x : ℕ) → SameSets stack numbers work k x pending low s →
    (T (compared numbers pending low x) → at stack (16 * k + x) ≡ at work (s + SETS + x)) → SameSets stack numbers work k (x + 1) pending low s
same_turn stack numbers work k pending low s x h e y l t = go (ℕ_discrete y x)
  where
    go : Dec (y ≡ x) → at stack (16 * k + y) ≡ at work (s + SETS + y)
    go (yes q) = subst (λ (j : ℕ). at stack (16 * k + j) ≡ at work (s + SETS + j)) (sym q) (e (subst (λ (j : ℕ). T (compared numbers pending low j)) q t))
    go (no n) = h y (omega arith) t
