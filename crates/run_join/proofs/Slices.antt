-- Slices compared, and tests of the numbers of a range, in the words of this library. Assumes nothing.
use Rattle.model.specs.Kit.{◌≡◌, refl, sym, ap, ◌∙◌, subst, Bool, true, false, List, [], ◌∷◌, ℕ, zero, suc, ◌+◌, ◌<◌, ◌≤◌, add-one, arith, T, eqb, ne_eqb, lt-ltb, le-ltb, length, take, drop}
use Rattle.model.specs.Kit.{length-take-le, length-drop}
use Rattle.model.specs.Lists.{all, any, at, up_from, same, tabulate}
use Rattle.model.proofs.Lists.{T_of, of_T, TExt, same_eq, same_refl, at_ext, at_take, at_drop, at_tabulate, length_tabulate}
use Rattle.std.specs.Prelude.{◌&&◌, ◌||◌, ◌==◌}
use lib.Pointwise.{pointwise, bytes_decides}
use Rattle.std.specs.List.{list_all, list_any, range_with_len}
use Rattle.std.specs.Ordering.{MatchOrdering, nat_cmp}
use Rattle.std.specs.declared.cmp.Ordering.{Ordering}
use Rattle.std.specs.declared.cmp.Ordering.TheVariants.{Less, Equal, Greater}
use Rattle.std.proofs.lemmas.Cmp.{ranked}
use Rattle.run_cut.specs.Parts.{after}
use Rattle.run_cut.proofs.Parts.{after_ne, after_eq}
use Rattle.run_join.specs.Join.{path_at}

-- ---- two slices
pub same_of : (a b : List ℕ) → a ≡ b → T (same a b)
same_of a b e = subst (λ (x : List ℕ). T (same a x)) e (same_refl a)

pub pointwise_same : (a b : List ℕ) → pointwise eqb a b ≡ same a b
pointwise_same a b =
    TExt (pointwise eqb a b) (same a b) (λ t. same_of a b ((bytes_decides a b).0 (of_T (pointwise eqb a b) t))) (λ t. T_of (pointwise eqb a b) ((bytes_decides a b).1 (same_eq a b t)))

pub none_is : (a : List ℕ) → (length a == 0) ≡ same a []
unfolding same
none_is [] = refl
none_is (x ∷ a) = ne_eqb (suc (length a)) 0 (λ z. omega arith)

-- the first difference decides, else the shorter is the smaller
pub after_pair : (x y : ℕ) (xs ys : List ℕ) (o : Ordering) → o ≡ nat_cmp x y →
    MatchOrdering o (after (x ∷ xs) (y ∷ ys) ≡ true) (after (x ∷ xs) (y ∷ ys) ≡ after xs ys) (after (x ∷ xs) (y ∷ ys) ≡ false)
after_pair x y xs ys o e = go o (ranked x y o e)
  where
    go : (o : Ordering) → MatchOrdering o (x < y) (x ≡ y) (y < x) → MatchOrdering o (after (x ∷ xs) (y ∷ ys) ≡ true) (after (x ∷ xs) (y ∷ ys) ≡ after xs ys) (after (x ∷ xs) (y ∷ ys) ≡ false)
    go Less h = after_ne x y xs ys (λ z. omega arith) ∙ lt-ltb x y h
    go Equal h = ap (λ (z : ℕ). after (x ∷ xs) (z ∷ ys)) (sym h) ∙ after_eq x xs ys
    go Greater h = after_ne x y xs ys (λ z. omega arith) ∙ le-ltb x y (omega arith)

-- the bytes from a place on are those of another list, counted from there
pub part_is : (l m : List ℕ) (o n : ℕ) → o + n ≤ length l → length m ≡ n → ((i : ℕ) → i < n → at l (o + i) ≡ at m i) → take n (drop o l) ≡ m
part_is l m o n h e f =
    let long : length (take n (drop o l)) ≡ n = length-take-le n (drop o l) (omega (arith, length-drop o l)) in
    at_ext (take n (drop o l)) m (long ∙ sym e) (λ i j. at_take n (drop o l) i (omega arith) ∙ at_drop o l i ∙ f i (omega arith))

pub at_part : (l : List ℕ) (o n i : ℕ) → i < n → at (take n (drop o l)) i ≡ at l (o + i)
at_part l o n i h = at_take n (drop o l) i h ∙ at_drop o l i

pub path_part : (l : List ℕ) (o : ℕ) → o + 1 + at l o ≤ length l → take (at l o) (drop (o + 1) l) ≡ path_at l o
unfolding path_at
path_part l o h =
    part_is l (tabulate (at l o) (λ i. at l (o + 1 + i))) (o + 1) (at l o) h (length_tabulate (at l o) (λ i. at l (o + 1 + i)))
    (λ i j. sym (at_tabulate (at l o) (λ i. at l (o + 1 + i)) i j))

-- ---- the numbers of a range
module _ (p : ℕ → Bool) where
  pub range_all : (a n : ℕ) → list_all p (range_with_len a n) ≡ all p (up_from a n)
  unfolding all up_from
  range_all a zero = refl
  range_all a (suc n) = go (p a) (range_all (a + 1) n ∙ ap (λ (k : ℕ). all p (up_from k n)) (add-one a))
    where
      go : (b : Bool) → list_all p (range_with_len (a + 1) n) ≡ all p (up_from (suc a) n) → (b && list_all p (range_with_len (a + 1) n)) ≡ elim b [ true ↦ all p (up_from (suc a) n) | false ↦ false ]
      go true e = e
      go false e = refl

  pub range_any : (a n : ℕ) → list_any p (range_with_len a n) ≡ any p (up_from a n)
  unfolding any up_from
  range_any a zero = refl
  range_any a (suc n) = go (p a) (range_any (a + 1) n ∙ ap (λ (k : ℕ). any p (up_from k n)) (add-one a))
    where
      go : (b : Bool) → list_any p (range_with_len (a + 1) n) ≡ any p (up_from (suc a) n) → (b || list_any p (range_with_len (a + 1) n)) ≡ elim b [ true ↦ true | false ↦ any p (up_from (suc a) n) ]
      go true e = refl
      go false e = e
