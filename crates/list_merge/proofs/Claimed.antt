-- The claims of paper 02, #106. Assumes nothing.
use Rattle.model.specs.Kit.{◌≡◌, refl, sym, ap, ◌∙◌, subst, ◌⊎◌, inl, inr, ⊎_elim, List, [], ◌∷◌, map, Memᴰ, Memᴰ-head, Memᴰ-not_nil, ℕ, ◌≤◌, arith, T}
use Rattle.model.specs.{Lists.flat, Lists.below, Lists.rows_ascend, Room.rows_in, Verdict.Verdict, Verdict.accepted, Verdict.is_accepted}
use Rattle.model.proofs.{Lists.T_of, Lists.of_T, Lists.earlier_asym, Lists.Sorted, Lists.sorted_ext, Accepted.asked, Room.Wide, Room.wide_tail, Room.rows_wide, Room.rows_none, Room.rows_back}
use Rattle.order.specs.{Order.settling_order, Order.order_verdict, Order.Ordering, Reordered.read}
use Rattle.order.proofs.{Order.order_passed, LeadersBy.read_below}
use Rattle.list_merge.specs.Merge.{ascends, union, merged_by, merged, whole_lists, ordered_verdict, merge_verdict}
use Rattle.list_merge.specs.{Inner.Inner.Places, Claims.MergedExactly, Claims.Ascends, Claims.NothingLentClaim}
use Rattle.list_merge.specs.Inner.Claims.{Itself, Empty, Swapped}
use Rattle.list_merge.proofs.{Reading.Earlier, Reading.ascends_none, Reading.sorted_of, Reading.ascends_of, Union.union_e, Union.union_i, Union.union_wide, Union.union_sorted}
use Rattle.list_merge.proofs.{Asking.rows_bytes, Asking.Whole, Asking.whole_e}
use Rattle.order.proofs.Order as O

-- the merged bytes as rows are the union
pub merged_rows : (n : ℕ) (order a b : List ℕ) → 1 ≤ n → rows_in n (merged_by n order a b) ≡ union order (rows_in n a) (rows_in n b)
unfolding merged_by
merged_rows n order a b h = rows_back n (union order (rows_in n a) (rows_in n b)) h (union_wide n order (rows_in n a) (rows_in n b) (rows_wide n a) (rows_wide n b))

pub holds_by : (n : ℕ) (order a b : List ℕ) → 1 ≤ n → (r : List ℕ) →
    (Memᴰ r (rows_in n (merged_by n order a b)) → Memᴰ r (rows_in n a) ⊎ Memᴰ r (rows_in n b))
    × (Memᴰ r (rows_in n a) ⊎ Memᴰ r (rows_in n b) → Memᴰ r (rows_in n (merged_by n order a b)))
holds_by n order a b h r =
    let e = merged_rows n order a b h in (
      λ m. union_e order (rows_in n a) (rows_in n b) r (subst (λ (l : List (List ℕ)). Memᴰ r l) e m),
      λ m. subst (λ (l : List (List ℕ)). Memᴰ r l) (sym e) (union_i order (rows_in n a) (rows_in n b) r m),
    )

pub ascends_by : (n : ℕ) (order a b : List ℕ) → 1 ≤ n → Places n order → T (ascends order (rows_in n a)) → T (ascends order (rows_in n b)) → T (ascends order (rows_in n (merged_by n order a b)))
ascends_by n order a b h p s t =
    subst (λ (l : List (List ℕ)). T (ascends order l)) (sym (merged_rows n order a b h))
    (ascends_of order (union order (rows_in n a) (rows_in n b)) (union_sorted n order p (rows_in n a) (rows_in n b) (rows_wide n a) (rows_wide n b) (sorted_of order (rows_in n a) s)))

-- ---- by place
read_all : (n : ℕ) (rows : List (List ℕ)) → Wide n rows → map (read (below n)) rows ≡ rows
read_all n [] w = refl
read_all n (r ∷ rows) w = cons (read_below n r (w r (Memᴰ-head refl))) (read_all n rows (wide_tail w))
  where
    cons : read (below n) r ≡ r → map (read (below n)) rows ≡ rows → read (below n) r ∷ map (read (below n)) rows ≡ r ∷ rows
    cons p q = ap (λ (x : List ℕ). x ∷ map (read (below n)) rows) p ∙ ap (λ (l : List (List ℕ)). r ∷ l) q

pub nothing_lent : NothingLentClaim
unfolding merged ascends
nothing_lent n a b = record {
  bytes = ap (λ (o : List ℕ). merged_by n o a b) (O.no_pairs n);
  order = O.no_pairs n;
  ascend = ap rows_ascend (read_all n (rows_in n a) (rows_wide n a));
}

-- ---- what an accepted merge says
pub record Accepted (n : ℕ) (pairs a b : List ℕ) : Type 0 where
  pub whole : Whole n a b
  pub ordering : Ordering n (settling_order n pairs)
  pub places : Places n (settling_order n pairs)
  pub first : T (ascends (settling_order n pairs) (rows_in n a))
  pub second : T (ascends (settling_order n pairs) (rows_in n b))

pub accepted_of : (n : ℕ) (pairs a b : List ℕ) (room : ℕ) → merge_verdict n pairs a b room ≡ accepted → Accepted n pairs a b
unfolding merge_verdict ordered_verdict
accepted_of n pairs a b room e =
    let t : T (is_accepted (merge_verdict n pairs a b room)) = subst (λ (v : Verdict). T (is_accepted v)) (sym e) tt in
    let later = ordered_verdict n (settling_order n pairs) a b room in
    let q₁ = asked (whole_lists n a b) 24 0 (order_verdict n pairs later) t in
    let o = order_passed n pairs later q₁.1 in
    let q₂ = asked (ascends (settling_order n pairs) (rows_in n a)) 25 0 _ o.1 in
    let q₃ = asked (ascends (settling_order n pairs) (rows_in n b)) 26 0 _ q₂.1 in
    let g = o.0.settled.ordering in
    record { whole = whole_e n a b (of_T _ q₁.0); ordering = g; places = record { inside = g.inside; each = g.each }; first = q₂.0; second = q₃.0 }

pub merged_exactly : MergedExactly
unfolding merged
merged_exactly n pairs a b room e r = holds_by n (settling_order n pairs) a b (accepted_of n pairs a b room e).whole.some r

pub ascends_strictly : Ascends
unfolding merged
ascends_strictly n pairs a b room e =
    let k = accepted_of n pairs a b room e in
    ascends_by n (settling_order n pairs) a b k.whole.some k.places k.first k.second

-- ---- two ways to the same rows
module _ (n : ℕ) (pairs a b : List ℕ) (k : Accepted n pairs a b) where
  abbrev order : List ℕ
  order = settling_order n pairs

  -- lists of rows that ascend in the order and have the same rows are equal
  same_rows : (rows others : List (List ℕ)) → Sorted (Earlier order) rows → Sorted (Earlier order) others → ((r : List ℕ) → Memᴰ r rows → Memᴰ r others) →
      ((r : List ℕ) → Memᴰ r others → Memᴰ r rows) → rows ≡ others
  same_rows rows others = sorted_ext (Earlier order) (λ x y. earlier_asym (read order x) (read order y)) rows others

  first_sorted : Sorted (Earlier order) (rows_in n a)
  first_sorted = sorted_of order (rows_in n a) k.first

  second_sorted : Sorted (Earlier order) (rows_in n b)
  second_sorted = sorted_of order (rows_in n b) k.second

  bytes_back : flat (rows_in n a) ≡ a
  bytes_back = rows_bytes n a k.whole.first

  union_itself : union order (rows_in n a) (rows_in n a) ≡ rows_in n a
  union_itself =
      same_rows (union order (rows_in n a) (rows_in n a)) (rows_in n a) (union_sorted n order k.places (rows_in n a) (rows_in n a) (rows_wide n a) (rows_wide n a) first_sorted) first_sorted
      (λ r m. ⊎_elim {C = Memᴰ r (rows_in n a)} (λ q. q) (λ q. q) (union_e order (rows_in n a) (rows_in n a) r m)) (λ r m. union_i order (rows_in n a) (rows_in n a) r (inl m))

  union_none : union order [] (rows_in n a) ≡ rows_in n a
  union_none =
      same_rows (union order [] (rows_in n a)) (rows_in n a) (union_sorted n order k.places [] (rows_in n a) (λ r m. absurd (Memᴰ-not_nil m)) (rows_wide n a)
      (sorted_of order [] (T_of _ (ascends_none order)))) first_sorted
      (λ r m. ⊎_elim {C = Memᴰ r (rows_in n a)} (λ q. absurd (Memᴰ-not_nil q)) (λ q. q) (union_e order [] (rows_in n a) r m)) (λ r m. union_i order [] (rows_in n a) r (inr m))

  union_swapped : union order (rows_in n b) (rows_in n a) ≡ union order (rows_in n a) (rows_in n b)
  union_swapped =
      same_rows (union order (rows_in n b) (rows_in n a)) (union order (rows_in n a) (rows_in n b))
      (union_sorted n order k.places (rows_in n b) (rows_in n a) (rows_wide n b) (rows_wide n a) second_sorted)
      (union_sorted n order k.places (rows_in n a) (rows_in n b) (rows_wide n a) (rows_wide n b) first_sorted)
      (λ r m. union_i order (rows_in n a) (rows_in n b) r (⊎_elim {C = Memᴰ r (rows_in n a) ⊎ Memᴰ r (rows_in n b)} inr inl (union_e order (rows_in n b) (rows_in n a) r m)))
      (λ r m. union_i order (rows_in n b) (rows_in n a) r (⊎_elim {C = Memᴰ r (rows_in n b) ⊎ Memᴰ r (rows_in n a)} inr inl (union_e order (rows_in n a) (rows_in n b) r m)))

pub itself : Itself
unfolding merged merged_by
itself n pairs a room e = let k = accepted_of n pairs a a room e in ap flat (union_itself n pairs a a k) ∙ bytes_back n pairs a a k

pub empty : Empty
unfolding merged merged_by union
empty n pairs a room e =
    let k = accepted_of n pairs a [] room e in
    let none : rows_in n [] ≡ [] = rows_none n [] k.whole.some (omega (arith, k.whole.some)) in (
      ap (λ (l : List (List ℕ)). flat (union (settling_order n pairs) (rows_in n a) l)) none ∙ bytes_back n pairs a [] k,
      ap (λ (l : List (List ℕ)). flat (union (settling_order n pairs) l (rows_in n a))) none ∙ ap flat (union_none n pairs a [] k) ∙ bytes_back n pairs a [] k,
    )

pub swapped : Swapped
unfolding merged merged_by
swapped n pairs a b room e = ap flat (union_swapped n pairs a b (accepted_of n pairs a b room e))
