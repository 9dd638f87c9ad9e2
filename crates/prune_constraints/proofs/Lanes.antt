-- Numbers of eight lanes of eight bits, and the functions over them. Assumes nothing.
use Rattle.model.specs.Kit.{◌≡◌, refl, sym, ap, ◌∙◌, subst, Bool, true, false, ◌⊎◌, inl, inr, ⊎_elim, List, ℕ, zero, suc, ◌+◌, ◌-◌, ◌*◌, ◌/◌, ◌%◌, ◌^◌, ◌<◌, lt_of_le_of_lt, arith, T, ltb, lit<}
use Rattle.model.specs.Kit.{bit_and, bit_or, ltb-true, ltb-false, lt-ltb}
use Rattle.model.specs.{Lists.both, Lists.either, Lists.at, ValueSets.has}
use lib.Bits.{and_le_r, and_mask}
use Rattle.model.proofs.Masks.{has_and, has_or, has_ones, has_shr, byte_has, byte_lt}
use Rattle.model.proofs.{Lists.either_l, Lists.either_r, Lists.either_e, Lists.both_true, Lists.both_false, Sets.has_lt, Members.either_no, Members.or_i, Members.or_e, Members.and_i, Members.and_e}
use Rattle.arrays.specs.Inner.Tables.{UnionOf}
use Rattle.prune_constraints.specs.Inner.Lanes.{FullLanes, LaneUnion, FullHeads, Halves, TogetherIn, InLanes, InLane}

cases8 : (P : ℕ → Type 0) → P 0 → P 1 → P 2 → P 3 → P 4 → P 5 → P 6 → P 7 → (j : ℕ) → j < 8 → P j
cases8 P a b c d e f g h zero l = a
cases8 P a b c d e f g h (suc zero) l = b
cases8 P a b c d e f g h (suc (suc zero)) l = c
cases8 P a b c d e f g h (suc (suc (suc zero))) l = d
cases8 P a b c d e f g h (suc (suc (suc (suc zero)))) l = e
cases8 P a b c d e f g h (suc (suc (suc (suc (suc zero))))) l = f
cases8 P a b c d e f g h (suc (suc (suc (suc (suc (suc zero)))))) l = g
cases8 P a b c d e f g h (suc (suc (suc (suc (suc (suc (suc zero))))))) l = h
cases8 P a b c d e f g h (suc (suc (suc (suc (suc (suc (suc (suc j)))))))) l = absurd (omega arith)

-- ---- the bits of a mask
masked : (x k i : ℕ) → has k i ≡ true → has (bit_and x k) i ≡ has x i
masked x k i h = has_and x k i ∙ ap (both (has x i)) h ∙ both_true (has x i)

out : (x k i : ℕ) → has k i ≡ false → has (bit_and x k) i ≡ false
out x k i h = has_and x k i ∙ ap (both (has x i)) h ∙ both_false (has x i)

-- a bit of x | y under a mask, where one of the two lacks it
left : (x y k i : ℕ) → has k i ≡ true → has y i ≡ false → has (bit_and (bit_or x y) k) i ≡ has x i
left x y k i h n = masked (bit_or x y) k i h ∙ has_or x y i ∙ ap (either (has x i)) n ∙ either_no (has x i)

right : (x y k i : ℕ) → has k i ≡ true → has x i ≡ false → has (bit_and (bit_or x y) k) i ≡ has y i
right x y k i h n = masked (bit_or x y) k i h ∙ has_or x y i ∙ ap (λ (b : Bool). either b (has y i)) n

-- x is m under the mask l: one step folds it by s onto the mask k
module _ (m l k s i : ℕ) (h : has k i ≡ true) where
  abbrev x : ℕ
  x = bit_and m l

  stays : has l (s + i) ≡ false → has (bit_and (bit_or (bit_and m l) (bit_and m l / 2 ^ s)) k) i ≡ has (bit_and m l) i
  stays n = left x (x / 2 ^ s) k i h (has_shr x s i ∙ out m l (s + i) n)

  comes : has l i ≡ false → has (bit_and (bit_or (bit_and m l) (bit_and m l / 2 ^ s)) k) i ≡ has (bit_and m l) (s + i)
  comes n = right x (x / 2 ^ s) k i h (out m l i n) ∙ has_shr x s i

-- ---- three doublings: the union of eight bits that stand u apart
abbrev twice : ℕ → ℕ → ℕ
twice x s = bit_or x (x / 2 ^ s)

abbrev eight : ℕ → ℕ → ℕ
eight u x = twice (twice (twice x (4 * u)) (2 * u)) u

twice_e : (x s i : ℕ) → T (has (twice x s) i) → T (has x i) ⊎ T (has x (s + i))
twice_e x s i t = ⊎_elim inl (λ q. inr (subst T (has_shr x s i) q)) (either_e (has x i) (has (x / 2 ^ s) i) (subst T (has_or x (x / 2 ^ s) i) t))

twice_l : (x s i : ℕ) → T (has x i) → T (has (twice x s) i)
twice_l x s i t = subst T (sym (has_or x (x / 2 ^ s) i)) (either_l (has x i) (has (x / 2 ^ s) i) t)

twice_r : (x s i : ℕ) → T (has x (s + i)) → T (has (twice x s) i)
twice_r x s i t = subst T (sym (has_or x (x / 2 ^ s) i)) (either_r (has x i) (has (x / 2 ^ s) i) (subst T (sym (has_shr x s i)) t))

module _ (u x i : ℕ) where
  abbrev Some : Type 0
  Some = (w : ℕ) × (w < 8) × T (has x (i + u * w))

  spot : (w n : ℕ) → n ≡ i + u * w → w < 8 → T (has x n) → Some
  spot w n e h t = (w, h, subst (λ (z : ℕ). T (has x z)) e t)

  eight_e : T (has (eight u x) i) → (w : ℕ) × (w < 8) × T (has x (i + u * w))
  eight_e t =
      ⊎_elim
      (λ p. ⊎_elim
      (λ q. ⊎_elim (spot 0 i (omega arith) (lit< tt)) (spot 4 (4 * u + i) (omega arith) (lit< tt)) (twice_e x (4 * u) i q))
      (λ q. ⊎_elim (spot 2 (2 * u + i) (omega arith) (lit< tt)) (spot 6 (4 * u + (2 * u + i)) (omega arith) (lit< tt)) (twice_e x (4 * u) (2 * u + i) q))
      (twice_e (twice x (4 * u)) (2 * u) i p))
      (λ p. ⊎_elim
      (λ q. ⊎_elim (spot 1 (u + i) (omega arith) (lit< tt)) (spot 5 (4 * u + (u + i)) (omega arith) (lit< tt)) (twice_e x (4 * u) (u + i) q))
      (λ q. ⊎_elim (spot 3 (2 * u + (u + i)) (omega arith) (lit< tt)) (spot 7 (4 * u + (2 * u + (u + i))) (omega arith) (lit< tt)) (twice_e x (4 * u) (2 * u + (u + i)) q))
      (twice_e (twice x (4 * u)) (2 * u) (u + i) p))
      (twice_e (twice (twice x (4 * u)) (2 * u)) u i t)

  eight_i : (w : ℕ) → w < 8 → T (has x (i + u * w)) → T (has (eight u x) i)
  eight_i =
      cases8 (λ w. T (has x (i + u * w)) → T (has (eight u x) i))
      (λ t. twice_l b u i (twice_l a (2 * u) i (twice_l x (4 * u) i (here 0 i (omega arith) t))))
      (λ t. twice_r b u i (twice_l a (2 * u) (u + i) (twice_l x (4 * u) (u + i) (here 1 (u + i) (omega arith) t))))
      (λ t. twice_l b u i (twice_r a (2 * u) i (twice_l x (4 * u) (2 * u + i) (here 2 (2 * u + i) (omega arith) t))))
      (λ t. twice_r b u i (twice_r a (2 * u) (u + i) (twice_l x (4 * u) (2 * u + (u + i)) (here 3 (2 * u + (u + i)) (omega arith) t))))
      (λ t. twice_l b u i (twice_l a (2 * u) i (twice_r x (4 * u) i (here 4 (4 * u + i) (omega arith) t))))
      (λ t. twice_r b u i (twice_l a (2 * u) (u + i) (twice_r x (4 * u) (u + i) (here 5 (4 * u + (u + i)) (omega arith) t))))
      (λ t. twice_l b u i (twice_r a (2 * u) i (twice_r x (4 * u) (2 * u + i) (here 6 (4 * u + (2 * u + i)) (omega arith) t))))
      (λ t. twice_r b u i (twice_r a (2 * u) (u + i) (twice_r x (4 * u) (2 * u + (u + i)) (here 7 (4 * u + (2 * u + (u + i))) (omega arith) t))))
    where
      a : ℕ
      a = twice x (4 * u)

      b : ℕ
      b = twice (twice x (4 * u)) (2 * u)

      here : (w n : ℕ) → n ≡ i + u * w → T (has x (i + u * w)) → T (has x n)
      here w n e t = subst (λ (z : ℕ). T (has x z)) (sym e) t

-- ---- the lanes that are not empty
abbrev ones : ℕ
ones = 72340172838076673

abbrev pairs : ℕ
pairs = 844437815230467

abbrev fours : ℕ
fours = 64424509455

abbrev gather : ℕ → ℕ
gather c = bit_and (twice (bit_and (twice (bit_and (twice c 7) pairs) 14) fours) 28) 255

-- the first bits of the lanes, side by side
module _ (m : ℕ) where
  abbrev g : ℕ
  g = twice (bit_and m ones) 7

  abbrev f : ℕ
  f = twice (bit_and (twice (bit_and m ones) 7) pairs) 14

  touched_all : (j : ℕ) → j < 8 → has (gather (bit_and m ones)) j ≡ has (bit_and m ones) (8 * j)
  unfolding has
  touched_all =
      cases8 (λ j. has (gather (bit_and m ones)) j ≡ has (bit_and m ones) (8 * j))
      (stays f fours 255 28 0 refl refl ∙ stays g pairs fours 14 0 refl refl ∙ stays m ones pairs 7 0 refl refl)
      (stays f fours 255 28 1 refl refl ∙ stays g pairs fours 14 1 refl refl ∙ comes m ones pairs 7 1 refl refl)
      (stays f fours 255 28 2 refl refl ∙ comes g pairs fours 14 2 refl refl ∙ stays m ones pairs 7 16 refl refl)
      (stays f fours 255 28 3 refl refl ∙ comes g pairs fours 14 3 refl refl ∙ comes m ones pairs 7 17 refl refl)
      (comes f fours 255 28 4 refl refl ∙ stays g pairs fours 14 32 refl refl ∙ stays m ones pairs 7 32 refl refl)
      (comes f fours 255 28 5 refl refl ∙ stays g pairs fours 14 33 refl refl ∙ comes m ones pairs 7 33 refl refl)
      (comes f fours 255 28 6 refl refl ∙ comes g pairs fours 14 34 refl refl ∙ stays m ones pairs 7 48 refl refl)
      (comes f fours 255 28 7 refl refl ∙ comes g pairs fours 14 35 refl refl ∙ comes m ones pairs 7 49 refl refl)

ones_at : (j : ℕ) → j < 8 → has ones (8 * j) ≡ true
unfolding has
ones_at = cases8 (λ j. has ones (8 * j) ≡ true) refl refl refl refl refl refl refl refl

pub byte_fits : (x : ℕ) → bit_and x 255 < 2 ^ 16
byte_fits x = lt_of_le_of_lt (and_le_r x 255) (lit< tt)

pub and_fits : (x e : ℕ) → e < 256 → bit_and x e < 2 ^ 16
and_fits x e h = lt_of_le_of_lt (and_le_r x e) (omega arith)

at_spot : (x a b : ℕ) → a ≡ b → T (has x a) → T (has x b)
at_spot x a b e t = subst (λ (z : ℕ). T (has x z)) e t

pub full_heads : (x : ℕ) → FullHeads x (bit_and (eight 1 x) ones)
full_heads x = record {
  heads_i = λ j w h l t. subst T (sym (masked (eight 1 x) ones (8 * j) (ones_at j h))) (eight_i 1 x (8 * j) w l (at_spot x (8 * j + w) (8 * j + 1 * w) (omega arith) t));
  heads_e = λ j h t. let r = eight_e 1 x (8 * j) (subst T (masked (eight 1 x) ones (8 * j) (ones_at j h)) t) in (r.0, r.1, at_spot x (8 * j + 1 * r.0) (8 * j + r.0) (omega arith) r.2);
}

pub full_lanes : (x : ℕ) → FullLanes x (gather (bit_and (eight 1 x) ones))
full_lanes x = record {
  full_i = λ j w h l t. subst T (sym (touched_all (eight 1 x) j h)) ((full_heads x).heads_i j w h l t);
  full_e = λ j t. let h : j < 8 = has_lt 8 (gather (bit_and (eight 1 x) ones)) j (byte_lt (twice (bit_and (twice (bit_and (twice (bit_and (eight 1 x) ones) 7) pairs) 14) fours) 28)) t in
      (h, (full_heads x).heads_e j h (subst T (touched_all (eight 1 x) j h) t));
}

-- where the first bits are those of all lanes of b, the lanes that are not empty are those of b
pub lanes_of : {b c x : ℕ} (s : ℕ) → b < 2 ^ 8 → ((j w : ℕ) → j < 8 → w < 8 → has s (8 * j + w) ≡ has b j) → FullHeads x c → c ≡ bit_and s ones → FullLanes x b
lanes_of {b} {c} s h p f e = record {
  full_i = λ j w k l t. subst T (head j k) (f.heads_i j w k l t);
  full_e = λ j t. let k = has_lt 8 b j h t in (k, f.heads_e j k (subst T (sym (head j k)) t));
}
  where
    head : (j : ℕ) → j < 8 → has c (8 * j) ≡ has b j
    head j k = let z : 8 * j ≡ 8 * j + 0 = omega arith in ap (λ (n : ℕ). has n (8 * j)) e ∙ masked s ones (8 * j) (ones_at j k) ∙ ap (has s) z ∙ p j 0 k (lit< tt)

-- ---- the union of the lanes
pub lane_union : (x : ℕ) → LaneUnion x (bit_and (eight 8 x) 255)
lane_union x = record {
  union_i = λ j w h l t. subst T (sym (first w l)) (eight_i 8 x w j h (at_spot x (8 * j + w) (w + 8 * j) (omega arith) t));
  union_e = λ w t. let h : w < 8 = has_lt 8 (bit_and (eight 8 x) 255) w (byte_lt (eight 8 x)) t in
      let r = eight_e 8 x w (subst T (first w h) t) in
      (h, (r.0, r.1, at_spot x (w + 8 * r.0) (8 * r.0 + w) (omega arith) r.2));
}
  where
    first : (w : ℕ) → w < 8 → has (bit_and (eight 8 x) 255) w ≡ has (eight 8 x) w
    first w h = byte_has (eight 8 x) w h

-- ---- the set e in every lane of b
-- the lane j by itself
lane_0 : (y w : ℕ) → w < 8 → has y w ≡ has (y % 256) w
lane_0 y w h = sym (byte_has y w h) ∙ ap (λ (n : ℕ). has n w) (and_mask y 8)

lane : (y j w : ℕ) → w < 8 → has y (8 * j + w) ≡ has (y / 2 ^ (8 * j) % 256) w
lane y j w h = sym (has_shr y (8 * j) w) ∙ lane_0 (y / 2 ^ (8 * j)) w h

copied : (e j w : ℕ) → e < 256 → j < 8 → w < 8 → has (e * ones) (8 * j + w) ≡ has e w
copied e j w h l k =
    lane (e * ones) j w k ∙ ap (λ (n : ℕ). has n w) (cases8 (λ j. e * ones / 2 ^ (8 * j) % 256 ≡ e)
    (let a : e * ones / 2 ^ 0 ≡ e * 72340172838076673 = omega arith in let b : e * 72340172838076673 % 256 ≡ e = omega arith in ap (λ (n : ℕ). n % 256) a ∙ b)
    (let a : e * ones / 2 ^ 8 ≡ e * 282578800148737 = omega arith in let b : e * 282578800148737 % 256 ≡ e = omega arith in ap (λ (n : ℕ). n % 256) a ∙ b)
    (let a : e * ones / 2 ^ 16 ≡ e * 1103823438081 = omega arith in let b : e * 1103823438081 % 256 ≡ e = omega arith in ap (λ (n : ℕ). n % 256) a ∙ b)
    (let a : e * ones / 2 ^ 24 ≡ e * 4311810305 = omega arith in let b : e * 4311810305 % 256 ≡ e = omega arith in ap (λ (n : ℕ). n % 256) a ∙ b)
    (let a : e * ones / 2 ^ 32 ≡ e * 16843009 = omega arith in let b : e * 16843009 % 256 ≡ e = omega arith in ap (λ (n : ℕ). n % 256) a ∙ b)
    (let a : e * ones / 2 ^ 40 ≡ e * 65793 = omega arith in let b : e * 65793 % 256 ≡ e = omega arith in ap (λ (n : ℕ). n % 256) a ∙ b)
    (let a : e * ones / 2 ^ 48 ≡ e * 257 = omega arith in let b : e * 257 % 256 ≡ e = omega arith in ap (λ (n : ℕ). n % 256) a ∙ b)
    (let a : e * ones / 2 ^ 56 ≡ e * 1 = omega arith in let b : e * 1 % 256 ≡ e = omega arith in ap (λ (n : ℕ). n % 256) a ∙ b)
    j l)

-- ---- the lanes of the members of a set together, by its halves
lower_has : (a i : ℕ) → i < 4 → has (bit_and a 15) i ≡ has a (0 + i)
lower_has a i h = let e : i ≡ 0 + i = omega arith in masked a 15 i (has_ones 4 i ∙ lt-ltb i 4 h) ∙ ap (has a) e

module _ (lane : ℕ → ℕ → ℕ) {a x y : ℕ} (k : a < 2 ^ 8) (lower : UnionOf (bit_and a 15) (λ i j. lane (0 + i) j) x) (upper : UnionOf (a / 2 ^ 4) (λ i j. lane (4 + i) j) y) where
  united_i : (i j w : ℕ) → j < 8 → w < 8 → T (has a i) → T (has (lane i j) w) → T (has (bit_or x y) (8 * j + w))
  united_i i j w g h t q = or_i x y (8 * j + w) (go (ltb i 4) refl)
    where
      go : (d : Bool) → ltb i 4 ≡ d → T (has x (8 * j + w)) ⊎ T (has y (8 * j + w))
      go true c = let l = ltb-true i 4 c in let m : i ≡ 0 + i = omega arith in inl (lower.union_i i j w l g h (subst T (sym (lower_has a i l)) (at_spot a i (0 + i) m t))
          (subst (λ (z : ℕ). T (has (lane z j) w)) m q))
      go false c =
          let l : i ≡ 4 + (i - 4) = omega (arith, ltb-false i 4 c) in
          let m : i - 4 < 4 = omega (arith, has_lt 8 a i k t) in
          inr (upper.union_i (i - 4) j w m g h (subst T (sym (has_shr a 4 (i - 4))) (at_spot a i (4 + (i - 4)) l t)) (subst (λ (z : ℕ). T (has (lane z j) w)) l q))

  united_e : (j w : ℕ) → j < 8 → w < 8 → T (has (bit_or x y) (8 * j + w)) → (i : ℕ) × T (has a i) × T (has (lane i j) w)
  united_e j w g h t =
      ⊎_elim
      (λ q. let r = lower.union_e j w g h q in (0 + r.0, subst T (lower_has a r.0 r.1) r.2, r.3))
      (λ q. let r = upper.union_e j w g h q in (4 + r.0, subst T (has_shr a 4 r.0) r.2, r.3))
      (or_e x y (8 * j + w) t)

pub halves_together : (numbers : List ℕ) (base a : ℕ) (lane : ℕ → ℕ → ℕ) → a < 2 ^ 8 → Halves numbers base lane →
    TogetherIn a lane (bit_or (at numbers (base + bit_and a 15)) (at numbers (base + 16 + a / 2 ^ 4)))
halves_together numbers base a lane k f = record { together_i = united_i lane k lower upper; together_e = united_e lane k lower upper }
  where
    lower : UnionOf (bit_and a 15) (λ i j. lane (0 + i) j) (at numbers (base + bit_and a 15))
    lower = let z : base + 16 * 0 + bit_and a 15 ≡ base + bit_and a 15 = omega arith in subst (λ (i : ℕ). UnionOf (bit_and a 15) (λ i j. lane (0 + i) j) (at numbers i)) z
        (f 0 (bit_and a 15) (lit< tt) (lt_of_le_of_lt (and_le_r a 15) (lit< tt)))

    upper : UnionOf (a / 2 ^ 4) (λ i j. lane (4 + i) j) (at numbers (base + 16 + a / 2 ^ 4))
    upper = f 1 (a / 2 ^ 4) (lit< tt) (omega arith)

-- under all lanes of b and e in each
pub lanes_in : (a b e s x : ℕ) (lane : ℕ → ℕ → ℕ) → b < 2 ^ 8 → e < 256 → ((j w : ℕ) → j < 8 → w < 8 → has s (8 * j + w) ≡ has b j) → TogetherIn a lane x → InLanes a b e lane
    (bit_and (bit_and x s) (e * ones))
lanes_in a b e s x lane l n p f = record {
  lanes_i = λ i j w t u v q.
      let g = has_lt 8 b j l u in
      let h = has_lt 8 e w n v in
      and_i (bit_and x s) (e * ones) (8 * j + w) (and_i x s (8 * j + w) (f.together_i i j w g h t q) (subst T (sym (p j w g h)) u)) (subst T (sym (copied e j w n g h)) v);
  lanes_e = λ j w g h t.
      let q = and_e (bit_and x s) (e * ones) (8 * j + w) t in
      let r = and_e x s (8 * j + w) q.0 in
      let o = f.together_e j w g h r.0 in
      (o.0, o.1, subst T (p j w g h) r.1, subst T (copied e j w n g h) q.1, o.2);
}

-- one lane, and e in it
pub lane_in : (a j e x : ℕ) (lane : ℕ → ℕ → ℕ) → j < 8 → e < 256 → TogetherIn a lane x → InLane a j e lane (bit_and (x / 2 ^ (8 * j)) e)
lane_in a j e x lane g n f = record {
  lane_i = λ i w t v q. and_i (x / 2 ^ (8 * j)) e w (subst T (sym (has_shr x (8 * j) w)) (f.together_i i j w g (has_lt 8 e w n v) t q)) v;
  lane_e = λ w t.
      let q = and_e (x / 2 ^ (8 * j)) e w t in
      let o = f.together_e j w g (has_lt 8 e w n q.1) (subst T (has_shr x (8 * j) w) q.0) in
      (o.0, o.1, q.1, o.2);
}
