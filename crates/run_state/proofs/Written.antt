-- A plan's bytes over a list, by variable number: one turn of `keep` for each variable in the order. Assumes nothing.
use Rattle.model.specs.Kit.{◌≡◌, refl, sym, ap, ◌∙◌, subst, List, ℕ, ◌+◌, ◌-◌, ◌≤◌, ◌<◌, not-suc-le-zero, dec_lt, ℕ_discrete, arith, length, take, set, length-set, length-take-le}
use Rattle.model.specs.{Written.placed, Lists.at}
use Rattle.model.proofs.Written.{length_placed, placed_before, placed_in, placed_after}
use Rattle.model.proofs.Lists.{mem_at, at_set, at_set_other, at_ext, at_take, at_tabulate, at_below, length_tabulate}
use Rattle.order.specs.{Order.Ordering, Reordered.position, Reordered.write}
use Rattle.order.proofs.Reordered.{position_e}
use Rattle.run_state.specs.Inner.Pair.{prefix_of, settling, order_in}
use Rattle.run_state.proofs.{Walk.length_write, Prefix.prefix_at}

-- ---- the order among the numbers
pub order_at : (numbers : List ℕ) (n k : ℕ) → k < n → at (order_in numbers n) k ≡ settling numbers k
unfolding order_in
order_at numbers n k l = at_tabulate n (settling numbers) k l

pub length_order : (numbers : List ℕ) (n : ℕ) → length (order_in numbers n) ≡ n
unfolding order_in
length_order numbers n = length_tabulate n (settling numbers)

pub order_taken : (numbers order : List ℕ) (n : ℕ) → n ≤ length order → ((k : ℕ) → k < n → settling numbers k ≡ at order k) → order_in numbers n ≡ take n order
order_taken numbers order n l h =
    at_ext (order_in numbers n) (take n order) (length_order numbers n ∙ sym (length-take-le n order l))
    (λ k m. let j : k < n = omega (arith, length_order numbers n) in order_at numbers n k j ∙ h k j ∙ sym (at_take n order k j))

pub settling_inside : (numbers : List ℕ) (n k : ℕ) → Ordering n (order_in numbers n) → k < n → settling numbers k < n
settling_inside numbers n k o l = subst (λ (x : ℕ). x < n) (order_at numbers n k l) (o.inside (at (order_in numbers n) k) (mem_at (order_in numbers n) k (omega (arith, o.sized))))

-- ---- the values of `work` put by the order
pub record Put (start : ℕ) (order work list : List ℕ) (k : ℕ) (list' : List ℕ) : Type 0 where
  pub sized : length list' ≡ length list
  pub put : (i : ℕ) → i < k → at list' (start + at order i) ≡ at work i
  pub others : (j : ℕ) → ((i : ℕ) → i < k → j ≡ start + at order i → ⊥) → at list' j ≡ at list j

pub put_none : (start : ℕ) (order work list : List ℕ) → Put start order work list 0 list
put_none start order work list = record { sized = refl; put = λ i l. absurd (not-suc-le-zero l); others = λ j h. refl }

module _ (start n : ℕ) (order work list : List ℕ) (o : Ordering n order) (fits : start + n ≤ length list) where
  pub place_inside : (k : ℕ) → k < n → start + at order k < length list
  place_inside k l = omega (arith, o.inside (at order k) (mem_at order k (omega (arith, o.sized))))

  pub put_turn : (k : ℕ) (list' : List ℕ) → Put start order work list k list' → k < n → Put start order work list (k + 1) (set list' (start + at order k) (at work k))
  put_turn k list' h l = record {
    sized = length-set list' (start + at order k) (at work k) ∙ h.sized;
    put = λ i m. go i m (ℕ_discrete i k);
    others = λ j g. at_set_other list' (start + at order k) (at work k) j (g k (omega arith)) ∙ h.others j (λ i m. g i (omega arith));
  }
    where
      go : (i : ℕ) → i < k + 1 → Dec (i ≡ k) → at (set list' (start + at order k) (at work k)) (start + at order i) ≡ at work i
      go i m (yes e) = subst (λ (j : ℕ). at (set list' (start + at order k) (at work k)) (start + at order j) ≡ at work j) (sym e)
          (at_set list' (start + at order k) (at work k) (omega (arith, place_inside k l, h.sized)))
      go i m (no e) =
          at_set_other list' (start + at order k) (at work k) (start + at order i) (λ q. e (o.once i k (omega arith) l (omega arith))) ∙ h.put i (omega arith)

  abbrev row : List ℕ
  row = write order (prefix_of work n)

  row_length : length row ≡ n
  row_length = length_write order (prefix_of work n) ∙ o.sized

  row_at : (x : ℕ) → x < n → at row x ≡ at work (position order x)
  unfolding write
  row_at x l =
      at_below (λ y. at (prefix_of work n) (position order y)) (length order) x (omega (arith, o.sized))
      ∙ prefix_at work n (position order x) (omega (arith, (position_e order x (o.each x l)).0, o.sized))

  pub put_all : (list' : List ℕ) → Put start order work list n list' → list' ≡ placed list start row
  put_all list' h = at_ext list' (placed list start row) (h.sized ∙ sym (length_placed list start row (omega (arith, row_length)))) (λ j l. go j (dec_lt j start) (dec_lt j (start + n)))
    where
      over : start + length row ≤ length list
      over = omega (arith, row_length)

      far : (j : ℕ) → (j < start → ⊥) → (j < start + n → ⊥) → at list' j ≡ at list j
      far j a b = h.others j (λ i l e. omega (arith, o.inside (at order i) (mem_at order i (omega (arith, o.sized)))))

      go : (j : ℕ) → Dec (j < start) → Dec (j < start + n) → at list' j ≡ at (placed list start row) j
      go j (yes a) b = h.others j (λ i l e. omega arith) ∙ sym (placed_before list start row over j a)
      go j (no a) (no b) = far j a b ∙ sym (placed_after list start row over j (omega (arith, row_length)))
      go j (no a) (yes b) =
          let x = j - start in
          let l : x < n = omega arith in
          let s : j ≡ start + x = omega arith in
          let q = position_e order x (o.each x l) in
          ap (at list') (s ∙ ap (λ (y : ℕ). start + y) (sym q.1)) ∙ h.put (position order x) (omega (arith, q.0, o.sized))
          ∙ sym (ap (at (placed list start row)) s ∙ placed_in list start row over x (omega (arith, row_length)) ∙ row_at x l)
