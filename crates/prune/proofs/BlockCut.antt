-- The values below one taken from some of sixteen sets: the loop of `cut`, and what it is for a block. Assumes nothing.
use Rattle.model.specs.Kit.{◌≡◌, refl, sym, ap, ◌∙◌, subst, Bool, true, false, not, List, ⊎_elim, ℕ, suc, ◌-◌, ◌*◌, ◌/◌, ◌%◌, ◌^◌, ◌≤◌, ◌<◌, lt_of_le_of_lt, mod-eq_of_lt, arith, ℕ_discrete, T, T_not}
use Rattle.model.specs.Kit.{eqb, ltb, bit_and, bit_or, and_le_l, count_trailing_zeros, length, set, take, length-set, pow-lt, eqb-true, eq-eqb, ne_eqb, ltb-true, ltb-false, lt-ltb, le-ltb}
use Rattle.model.specs.{Lists.both, Lists.at, ValueSets.has, ValueSets.mask_of, ValueSets.full_mask, ValueSets.one_if, Inner.Pruning.Sets}
use lib.Pow.{pow_pos}
use Rattle.model.proofs.Lists.{both_l, both_r, T_of, of_T, of_not, not_of, at_ext, at_out, at_set, at_set_other, at_tabulate, length_tabulate, both_true}
use Rattle.model.proofs.{Sets.has_none, Sets.pow2, Sets.has_mask, Sets.mask_lt, Sets.mask_ext, Masks.contains_op, Masks.has_and, Masks.has_not, Masks.has_ones, Masks.has_one_if}
use Rattle.model.proofs.{Masks.is_mask, Members.Rest, Members.rest_begin, Members.rest_low, Members.rest_turn, Members.rest_has, Members.rest_i, Members.or_e, Firsts.take_at, Firsts.take_length}
use Rattle.std.specs.Prelude.{Option, None, Some}
use Rattle.prune_constraints.proofs.Stores.{Moves, moves_more}
use Rattle.block.specs.Inner.BlockSets.{cut_after}
use Rattle.block.proofs.BlockSets.{cut_sets}
use Rattle.prune.specs.Inner.Steps.{Differ, cut_below, CutEmpty, CutTo, CutOr}

-- ---- one set
pub not_below : (s v : ℕ) → s < 2 ^ 16 → bit_and s ((2 ^ 16 - 1) - full_mask v) ≡ mask_of (λ u. both (has s u) (not (ltb u v)))
not_below s v h =
    is_mask (bit_and s ((2 ^ 16 - 1) - full_mask v)) _ (lt_of_le_of_lt (and_le_l s ((2 ^ 16 - 1) - full_mask v)) h)
    (λ u l. has_and s ((2 ^ 16 - 1) - full_mask v) u ∙ ap (both (has s u)) (has_not 16 (full_mask v) u (mask_lt 16 (λ w. ltb w v)) l ∙ ap not (has_mask 16 (λ w. ltb w v) u l)))

-- ---- sixteen sets
module _ (some v : ℕ) (sets : List ℕ) (s : Sets 16 sets) where
  pub at_below : (y : ℕ) → y < 16 → at (cut_below some v sets) y ≡ mask_of (λ u. both (has (at sets y) u) (not (both (has some y) (ltb u v))))
  unfolding cut_below
  at_below y l = at_tabulate (length sets) _ y (omega (arith, s.0))

  pub length_below : length (cut_below some v sets) ≡ 16
  unfolding cut_below
  length_below = length_tabulate (length sets) _ ∙ s.0

  pub below_same : (y : ℕ) → y < 16 → has some y ≡ false → at (cut_below some v sets) y ≡ at sets y
  below_same y l e = at_below y l ∙ sym (is_mask (at sets y) _ (s.1 y) (λ u h. sym (ap (λ (b : Bool). both (has (at sets y) u) (not (both b (ltb u v)))) e ∙ both_true (has (at sets y) u))))

  pub below_cut : (y : ℕ) → y < 16 → T (has some y) → at (cut_below some v sets) y ≡ mask_of (λ u. both (has (at sets y) u) (not (ltb u v)))
  below_cut y l t =
      at_below y l
      ∙ mask_ext 16 _ _ (mask_lt 16 _) (mask_lt 16 _)
      (λ u h. has_mask 16 _ u h ∙ ap (λ (b : Bool). both (has (at sets y) u) (not (both b (ltb u v)))) (of_T (has some y) t) ∙ sym (has_mask 16 _ u h))

differs : (sets sets' : List ℕ) (changed : ℕ) → length sets ≡ 16 → length sets' ≡ 16 → Moves sets sets' changed → Differ sets sets' changed
differs sets sets' changed e e' m = record { few = few; differ = λ x l. m x }
  where
    few : (x : ℕ) → T (has changed x) → x < 16
    few x t = go (ltb x 16) refl
      where
        go : (b : Bool) → ltb x 16 ≡ b → x < 16
        go true q = ltb-true x 16 q
        go false q =
            let l = ltb-false x 16 q in
            absurd (of_not (has changed x) (m x ∙ ap not (eq-eqb (at sets' x) (at sets x) (at_out sets' x (omega arith) ∙ sym (at_out sets x (omega arith))))) t)

-- ---- the loop
pub record Cutting (some v : ℕ) (sets₀ sets : List ℕ) (left changed : ℕ) : Type 0 where
  pub rest : Rest 64 some left
  pub sixteen : Sets 16 sets
  pub due : (y : ℕ) → T (has left y) → at sets y ≡ at sets₀ y
  pub done : (y : ℕ) → y < 16 → has left y ≡ false → at sets y ≡ at (cut_below some v sets₀) y
  pub full : (y : ℕ) → T (has some y) → has left y ≡ false → at sets y ≡ 0 → at sets₀ y ≡ 0
  pub moves : Moves sets₀ sets changed
  pub few : (x : ℕ) → T (has changed x) → T (has some x)

module _ (some v : ℕ) (sets₀ : List ℕ) (s₀ : Sets 16 sets₀) (inside : (y : ℕ) → T (has some y) → y < 16) where
  pub cutting_begin : some < 2 ^ 64 → Cutting some v sets₀ sets₀ some 0
  cutting_begin h = record {
    rest = rest_begin 64 some h;
    sixteen = s₀;
    due = λ y t. refl;
    done = λ y l e. sym (below_same some v sets₀ s₀ y l e);
    full = λ y t e. absurd (of_not (has some y) e t);
    moves = λ i. has_none i ∙ sym (ap not (eq-eqb (at sets₀ i) (at sets₀ i) refl));
    few = λ x t. absurd (of_not (has 0 x) (has_none x) t);
  }

  module _ {sets : List ℕ} {left changed : ℕ} (c : Cutting some v sets₀ sets left changed) (n : left ≡ 0 → ⊥) where
    abbrev low : ℕ
    low = count_trailing_zeros 64 left

    low_in : T (has some low) × (low < 64)
    low_in = rest_low 64 some left c.rest n

    low_left : T (has left low)
    low_left = (rest_low 64 left left (c.rest.0, λ v t. t) n).0

    pub low_16 : low < 16
    low_16 = inside low low_in.0

    module _ (kept : ℕ) (k : kept ≡ mask_of (λ u. both (has (at sets low) u) (not (ltb u v)))) where
      kept_is : at (cut_below some v sets₀) low ≡ kept
      kept_is = below_cut some v sets₀ s₀ low low_16 low_in.0 ∙ ap (λ (d : ℕ). mask_of (λ u. both (has d u) (not (ltb u v)))) (sym (c.due low low_left)) ∙ sym k

      pub cutting_dead : kept ≡ 0 → CutEmpty (cut_below some v sets₀) some
      cutting_dead e = (low, (low_in.0, kept_is ∙ e))

      pub cutting_turn : (kept ≡ 0 → ⊥) → (moved : ℕ) → moved ≡ one_if (not (eqb kept (at sets low))) low → Cutting some v sets₀ (set sets low kept) (bit_and left (left - 1)) (bit_or changed moved)
      cutting_turn z moved m = record {
        rest = rest_turn 64 some left c.rest n;
        sixteen = (length-set sets low kept ∙ c.sixteen.0, λ x. small x (ℕ_discrete x low));
        due = λ y t. let q = others y t in at_set_other sets low kept y q.1 ∙ c.due y q.0;
        done = λ y l e. done y l e (ℕ_discrete y low);
        full = λ y t e. full y t e (ℕ_discrete y low);
        moves = moves_more sets₀ sets changed low kept moved (m ∙ ap (λ (d : ℕ). one_if (not (eqb kept d)) low) (c.due low low_left)) c.moves low_in_sets (c.due low low_left);
        few = λ x t. few x t;
      }
        where
          low_in_sets : low < length sets
          low_in_sets = let l = low_16 in let e = c.sixteen.0 in omega arith

          small : (x : ℕ) → Dec (x ≡ low) → at (set sets low kept) x < 2 ^ 16
          small x (yes e) = subst (λ (d : ℕ). d < 2 ^ 16) (sym (ap (at (set sets low kept)) e ∙ at_set sets low kept low_in_sets ∙ k)) (mask_lt 16 _)
          small x (no e) = subst (λ (d : ℕ). d < 2 ^ 16) (sym (at_set_other sets low kept x e)) (c.sixteen.1 x)

          positive : 0 < left
          positive = omega arith

          others : (y : ℕ) → T (has (bit_and left (left - 1)) y) → T (has left y) × (y ≡ low → ⊥)
          others y t =
              let q = subst T (rest_has 64 left y positive c.rest.0) t in
              (both_l (has left y) (not (eqb y low)) q, λ e. T_not (eqb y low) (both_r (has left y) (not (eqb y low)) q) (T_of (eqb y low) (eq-eqb y low e)))

          gone : (y : ℕ) → has (bit_and left (left - 1)) y ≡ false → (y ≡ low → ⊥) → has left y ≡ false
          gone y e d = not_of (has left y) (λ t. ⊎_elim (λ q. of_not (has (bit_and left (left - 1)) y) e q) d (rest_i 64 left positive c.rest.0 y t))

          done : (y : ℕ) → y < 16 → has (bit_and left (left - 1)) y ≡ false → Dec (y ≡ low) → at (set sets low kept) y ≡ at (cut_below some v sets₀) y
          done y l e (yes q) = ap (at (set sets low kept)) q ∙ at_set sets low kept low_in_sets ∙ sym kept_is ∙ ap (at (cut_below some v sets₀)) (sym q)
          done y l e (no q) = at_set_other sets low kept y q ∙ c.done y l (gone y e q)

          full : (y : ℕ) → T (has some y) → has (bit_and left (left - 1)) y ≡ false → Dec (y ≡ low) → at (set sets low kept) y ≡ 0 → at sets₀ y ≡ 0
          full y t e (yes q) f = absurd (z (sym (at_set sets low kept low_in_sets) ∙ ap (at (set sets low kept)) (sym q) ∙ f))
          full y t e (no q) f = c.full y t (gone y e q) (sym (at_set_other sets low kept y q) ∙ f)

          few : (x : ℕ) → T (has (bit_or changed moved) x) → T (has some x)
          few x t =
              ⊎_elim {C = T (has some x)} (c.few x)
              (λ q. subst (λ (y : ℕ). T (has some y)) (sym (eqb-true x low (of_T (eqb x low)
              (both_r (not (eqb kept (at sets low))) (eqb x low) (subst T (ap (λ (d : ℕ). has d x) m ∙ has_one_if (not (eqb kept (at sets low))) low x) q))))) low_in.0)
              (or_e changed moved x t)

  pub cutting_end : {sets : List ℕ} {left changed : ℕ} → Cutting some v sets₀ sets left changed → left ≡ 0 → CutTo sets₀ (cut_below some v sets₀) sets some changed
  cutting_end {sets} {left} {changed} c e = record {
    cut_to = at_ext sets (cut_below some v sets₀) (c.sixteen.0 ∙ sym (length_below some v sets₀ s₀)) (λ x l. c.done x (omega (arith, c.sixteen.0)) (none x));
    full = λ y t. c.full y t (none y);
    differ = differs sets₀ sets changed s₀.0 c.sixteen.0 c.moves;
    few = c.few;
  }
    where
      none : (y : ℕ) → has left y ≡ false
      none y = ap (λ (m : ℕ). has m y) e ∙ has_none y

-- ---- the block's later variables
pub bit_out : (s k : ℕ) → (bit_and (s / 2 ^ k) 1 ≡ 1 → ⊥) → has s k ≡ false
bit_out s k e = sym (contains_op s k) ∙ ne_eqb (bit_and (s / 2 ^ k) 1) 1 e

pub two_some : (k : ℕ) → k < 12 → 1 ≤ 2 * 2 ^ k % 2 ^ 64
two_some k h = let q : suc k < 64 = omega arith in let f : 2 ^ suc k < 2 ^ 64 = pow-lt q in subst (λ (n : ℕ). 1 ≤ n) (sym (mod-eq_of_lt (subst (λ (n : ℕ). n < 2 ^ 64) (pow2 k) f)))
    (omega (arith, pow_pos k))

module _ (block k v : ℕ) (sets : List ℕ) (s : Sets 16 sets) where
  at_after : (y : ℕ) → y < 16 → at (cut_after (has block) k v sets) y ≡ mask_of (λ u. both (has (at sets y) u) (not (both (both (has block k) (has block y)) (both (ltb k y) (ltb u v)))))
  unfolding cut_after
  at_after y l = at_tabulate (length sets) _ y (omega (arith, s.0))

  length_after : length (cut_after (has block) k v sets) ≡ 16
  unfolding cut_after
  length_after = length_tabulate (length sets) _ ∙ s.0

  -- as the sets of the first variables
  pub after_take : (n : ℕ) → n ≤ 16 → take n (cut_after (has block) k v sets) ≡ cut_after (has block) k v (take n sets)
  unfolding cut_after
  after_take n h =
      at_ext (take n cut) (cut_after (has block) k v (take n sets)) (take_length n cut cut_16 h ∙ sym (length_tabulate (length (take n sets)) _ ∙ take_length n sets s h))
      (λ y l. let i : y < n = subst (λ (m : ℕ). y < m) (take_length n cut cut_16 h) l in
      take_at n cut cut_16 h y i ∙ at_after y (omega arith)
      ∙ ap (λ (d : ℕ). mask_of (λ u. both (has d u) (not (both (both (has block k) (has block y)) (both (ltb k y) (ltb u v)))))) (sym (take_at n sets s h y i))
      ∙ sym (at_tabulate (length (take n sets)) _ y (subst (λ (m : ℕ). y < m) (sym (take_length n sets s h)) i)))
    where
      cut : List ℕ
      cut = cut_after (has block) k v sets

      cut_16 : Sets 16 cut
      cut_16 = cut_sets (has block) k v sets 16 s.0

  -- k is none of the block's
  pub after_none : has block k ≡ false → CutTo sets (cut_after (has block) k v sets) sets block 0
  after_none e = record {
    cut_to = sym same;
    full = λ y t f. f;
    differ = differs sets sets 0 s.0 s.0 (λ i. has_none i ∙ sym (ap not (eq-eqb (at sets i) (at sets i) refl)));
    few = λ x t. absurd (of_not (has 0 x) (has_none x) t);
  }
    where
      same : cut_after (has block) k v sets ≡ sets
      same =
          at_ext (cut_after (has block) k v sets) sets (length_after ∙ sym s.0)
          (λ y l. let h : y < 16 = omega (arith, length_after) in at_after y h ∙ sym (is_mask (at sets y) _ (s.1 y)
          (λ u h. sym (ap (λ (b : Bool). both (has (at sets y) u) (not (both (both b (has block y)) (both (ltb k y) (ltb u v))))) e ∙ both_true (has (at sets y) u)))))

  -- k is one of them: those after it
  module _ (few : k < 12) (t : T (has block k)) (small : (y : ℕ) → T (has block y) → y < 16) (later : ℕ) (e : later ≡ bit_and block ((2 ^ 64 - 1) - (2 * 2 ^ k % 2 ^ 64 - 1))) where
    has_later : (y : ℕ) → y < 16 → has later y ≡ both (has block y) (ltb k y)
    has_later y l =
        ap (λ (n : ℕ). has n y) e ∙ has_and block ((2 ^ 64 - 1) - (2 * 2 ^ k % 2 ^ 64 - 1)) y
        ∙ ap (both (has block y)) (ap (λ (n : ℕ). has ((2 ^ 64 - 1) - n) y) front ∙ has_not 64 (2 ^ suc k - 1) y bound (omega arith) ∙ ap not (has_ones (suc k) y) ∙ flip (ltb y (suc k)) refl)
      where
        fits : 2 ^ suc k < 2 ^ 64
        fits = let h : suc k < 64 = omega arith in pow-lt h

        front : 2 * 2 ^ k % 2 ^ 64 - 1 ≡ 2 ^ suc k - 1
        front = ap (λ (n : ℕ). n - 1) (mod-eq_of_lt (subst (λ (n : ℕ). n < 2 ^ 64) (pow2 k) fits) ∙ sym (pow2 k))

        bound : 2 ^ suc k - 1 < 2 ^ 64
        bound = omega (arith, fits)

        flip : (b : Bool) → ltb y (suc k) ≡ b → not b ≡ ltb k y
        flip true q = let z = ltb-true y (suc k) q in sym (le-ltb k y (omega arith))
        flip false q = let z = ltb-false y (suc k) q in sym (lt-ltb k y (omega arith))

    pub later_small : (y : ℕ) → T (has later y) → y < 16
    later_small y q = small y (both_l (has block y) (has ((2 ^ 64 - 1) - (2 * 2 ^ k % 2 ^ 64 - 1)) y)
        (subst T (ap (λ (n : ℕ). has n y) e ∙ has_and block ((2 ^ 64 - 1) - (2 * 2 ^ k % 2 ^ 64 - 1)) y) q))

    in_block_lem : (y : ℕ) → T (has later y) → T (has block y)
    in_block_lem y q = both_l (has block y) (ltb k y) (subst T (has_later y (later_small y q)) q)

    same : cut_below later v sets ≡ cut_after (has block) k v sets
    same =
        at_ext (cut_below later v sets) (cut_after (has block) k v sets) (length_below later v sets s ∙ sym length_after)
        (λ y l. let h : y < 16 = omega (arith, length_below later v sets s) in
        at_below later v sets s y h
        ∙ mask_ext 16 _ _ (mask_lt 16 _) (mask_lt 16 _)
        (λ u h'. has_mask 16 _ u h' ∙ ap (λ (b : Bool). both (has (at sets y) u) (not b)) (lost y u h) ∙ sym (has_mask 16 _ u h'))
        ∙ sym (at_after y h))
      where
        assoc : (a b c : Bool) → both (both a b) c ≡ both (both true a) (both b c)
        assoc true b c = refl
        assoc false b c = refl

        lost : (y u : ℕ) → y < 16 → both (has later y) (ltb u v) ≡ both (both (has block k) (has block y)) (both (ltb k y) (ltb u v))
        lost y u h =
            ap (λ (b : Bool). both b (ltb u v)) (has_later y h) ∙ assoc (has block y) (ltb k y) (ltb u v)
            ∙ ap (λ (b : Bool). both (both b (has block y)) (both (ltb k y) (ltb u v))) (sym (of_T (has block k) t))

    pub after_some : (sets' : List ℕ) (r : Option ℕ) → CutOr sets (cut_below later v sets) sets' later r → CutOr sets (cut_after (has block) k v sets) sets' block r
    after_some sets' None c = (c.0, (in_block_lem c.0 c.1.0, ap (λ (l : List ℕ). at l c.0) (sym same) ∙ c.1.1))
    after_some sets' (Some r) c = record {
      cut_to = c.cut_to ∙ same;
      full = λ y b z. full y b z (has later y) refl;
      differ = c.differ;
      few = λ x h. in_block_lem x (c.few x h);
    }
      where
        full : (y : ℕ) → T (has block y) → at sets' y ≡ 0 → (b : Bool) → has later y ≡ b → at sets y ≡ 0
        full y b z true f = c.full y (T_of (has later y) f) z
        full y b z false f = sym (below_same later v sets s y (small y b) f) ∙ ap (λ (l : List ℕ). at l y) (sym c.cut_to) ∙ z
