-- Twelve counts in a slot's bytes, and that none of them is more than all that is counted. Assumes nothing.
use Rattle.model.specs.Kit.{◌≡◌, refl, sym, ap, ◌∙◌, Bool, true, false, List, [], ◌∷◌, ℕ, zero, suc, ◌+◌, ◌-◌, ◌*◌, ◌^◌, ◌≤◌, ◌<◌, min, arith, ltb, length, replicate, ltb-true, ltb-false}
use Rattle.model.specs.{Lists.at, Lists.flat, Bytes.four_bytes}
use Rattle.model.proofs.Lists.{at_ext, at_out, at_append, at_skip, at_replicate, length_tabulate, at_tabulate}
use Rattle.run_cut.specs.Parts.{added}
use Rattle.run_cut.proofs.Counts.{length_added, at_added}
use Rattle.desk.specs.{Inner.Places.COUNTS, Inner.Layout.long, Inner.Layout.nodes_at, Inner.Layout.counts_at, Inner.Layout.count_bytes}
use Rattle.desk.proofs.Bytes.{Small, small_nil, small_append, small_four}

-- ---- none is more than all
pub added_most : (xs ys : List ℕ) (m n : ℕ) → ((x : ℕ) → at xs x ≤ m) → ((x : ℕ) → at ys x ≤ n) → (x : ℕ) → at (added xs ys) x ≤ m + n
added_most xs ys m n f g x = go (ltb x 12) refl
  where
    go : (b : Bool) → ltb x 12 ≡ b → at (added xs ys) x ≤ m + n
    go true e = let z = at_added xs ys x (ltb-true x 12 e) in let a = f x in let b = g x in omega arith
    go false e = let z = at_out (added xs ys) x (let s = length_added xs ys in let o = ltb-false x 12 e in omega arith) in omega arith

-- ---- the counts that a slot's bytes mean
module _ (b : List ℕ) (p : ℕ) where
  pub counts_length : length (counts_at b p) ≡ 12
  unfolding counts_at
  counts_length = length_tabulate 12 (λ x. min (nodes_at b p) (long b (p + COUNTS + 4 * x)))

  pub counts_is : (x : ℕ) → x < 12 → at (counts_at b p) x ≡ min (nodes_at b p) (long b (p + COUNTS + 4 * x))
  unfolding counts_at
  counts_is x l = at_tabulate 12 (λ x. min (nodes_at b p) (long b (p + COUNTS + 4 * x))) x l

  pub counts_most : (x : ℕ) → at (counts_at b p) x ≤ nodes_at b p
  counts_most x = go (ltb x 12) refl
    where
      go : (t : Bool) → ltb x 12 ≡ t → at (counts_at b p) x ≤ nodes_at b p
      go true e = let z = counts_is x (ltb-true x 12 e) in omega arith
      go false e = let z = at_out (counts_at b p) x (let s = counts_length in let o = ltb-false x 12 e in omega arith) in omega arith

  pub counts_zero : nodes_at b p ≡ 0 → counts_at b p ≡ replicate 12 0
  counts_zero e = at_ext (counts_at b p) (replicate 12 0) counts_length (λ x l. (let z = counts_most x in let y : at (counts_at b p) x ≡ 0 = omega arith in y) ∙ sym (at_replicate 12 x))

-- twelve numbers that stand so
pub counts_as : (b : List ℕ) (p : ℕ) (ks : List ℕ) → length ks ≡ 12 → ((x : ℕ) → x < 12 → min (nodes_at b p) (long b (p + COUNTS + 4 * x)) ≡ at ks x) → counts_at b p ≡ ks
counts_as b p ks n h = at_ext (counts_at b p) ks (counts_length b p ∙ sym n) (λ x l. let m : x < 12 = (let s = counts_length b p in omega arith) in counts_is b p x m ∙ h x m)

-- ---- their bytes
pub count_length : (ks : List ℕ) → length (count_bytes ks) ≡ 4 * length ks
unfolding count_bytes flat four_bytes
count_length [] = refl
count_length (k ∷ ks) = omega (arith, count_length ks)

pub count_byte : (ks : List ℕ) (x j : ℕ) → x < length ks → j < 4 → at (count_bytes ks) (4 * x + j) ≡ at (four_bytes (at ks x)) j
unfolding count_bytes flat four_bytes at
count_byte [] x j l m = absurd (omega arith)
count_byte (k ∷ ks) zero j l m = at_append (four_bytes k) (count_bytes ks) (4 * 0 + j) (omega arith) ∙ ap (at (four_bytes k)) (let e : 4 * 0 + j ≡ j = omega arith in e)
count_byte (k ∷ ks) (suc x) j l m =
    at_skip (four_bytes k) (count_bytes ks) 4 (4 * suc x + j) refl (omega arith) ∙ ap (at (count_bytes ks)) (let e : 4 * suc x + j - 4 ≡ 4 * x + j = omega arith in
    e) ∙ count_byte ks x j (omega arith) m

pub count_small : (ks : List ℕ) → ((x : ℕ) → at ks x < 2 ^ 32) → Small (count_bytes ks)
unfolding count_bytes flat at
count_small [] h = small_nil
count_small (k ∷ ks) h = small_append (four_bytes k) (count_bytes ks) (small_four k (h 0)) (count_small ks (λ x. h (suc x)))
