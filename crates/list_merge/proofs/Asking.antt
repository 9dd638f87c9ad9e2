-- The questions as the code puts them. Assumes nothing.
use Rattle.model.specs.Kit.{◌≡◌, refl, sym, ap, ap₂, ◌∙◌, subst, Bool, true, false, List, [], ◌∷◌, ◌++◌, ℕ, ◌+◌, ◌/◌, ◌%◌, ◌≤◌, ◌<◌, arith, leb, ltb, eqb, leb→le, eqb→eq, length, take, length-append}
use Rattle.model.specs.Kit.{lt-leb, ne_eqb, le-leb, eq-eqb, leb-true, leb-false, ltb-false}
use Rattle.model.specs.Room.{Outcome, rows_in, wrote, refusal, outcome_of, room_after}
use Rattle.model.specs.{Lists.both, Lists.all, Lists.flat, Lists.same, Verdict.Verdict, Verdict.accepted, Verdict.refused, Verdict.ask}
use native.Mathlib.Nat.{div-add-mod'}
use Rattle.model.proofs.{Lists.T_of, Lists.both_l, Lists.both_r, Lists.both_no_l, Lists.both_no_r, Lists.both_yes, Lists.never, Room.flat_cut, Room.refused_out, Room.wrote_out, Written.fronted}
use Rattle.order.specs.{Order.settling_order, Order.settles_all, Order.order_verdict, Inner.Settled.Ordered, Inner.Settled.followed, Reordered.earlier_by}
use Rattle.order.proofs.Placing.{settling_of}
use Rattle.std.proofs.Common.{Result, Ok, Err, is_ok}
use Rattle.model.specs.{Refusals.number_of, Refusals.verdict_from_question}
use Rattle.model.specs.declared.{refusals.Question.Question}
use Rattle.list_merge.specs.Meaning.{means}
use Rattle.list_merge.specs.Merge.{ascends, insert, union, merged_by, merged, whole_lists, ordered_verdict, merge_verdict}
use Rattle.list_merge.specs.Inner.Inner.{Rests, Sorts, Walked}

-- ---- 25 to 27
module _ (n : ℕ) (order a b d : List ℕ) where
  abbrev Refused : ℕ → Type 0
  Refused k =
      (refusal k 0 ≡ outcome_of (ordered_verdict n order a b (length d)) (merged_by n order a b))
      × (d ≡ room_after (ordered_verdict n order a b (length d)) (merged_by n order a b) d)

  verdict : (p q r : Bool) → ascends order (rows_in n a) ≡ p → ascends order (rows_in n b) ≡ q → leb (length (merged_by n order a b)) (length d) ≡ r →
      ask p 25 0 (ask q 26 0 (ask r 27 0 accepted)) ≡ ordered_verdict n order a b (length d)
  unfolding ordered_verdict
  verdict p q r e f g =
      sym (ap₂ (λ (x y : Bool). ask x 25 0 (ask y 26 0 (ask (leb (length (merged_by n order a b)) (length d)) 27 0 accepted))) e f
      ∙ ap (λ (z : Bool). ask p 25 0 (ask q 26 0 (ask z 27 0 accepted))) g)

  pub no_25 : ascends order (rows_in n a) ≡ false → Refused 25
  no_25 e = refused_out 25 (ordered_verdict n order a b (length d)) (merged_by n order a b) d (λ z. omega arith) (verdict false _ _ e refl refl)

  pub no_26 : ascends order (rows_in n a) ≡ true → ascends order (rows_in n b) ≡ false → Refused 26
  no_26 e f = refused_out 26 (ordered_verdict n order a b (length d)) (merged_by n order a b) d (λ z. omega arith) (verdict true false _ e f refl)

  pub no_27 : ascends order (rows_in n a) ≡ true → ascends order (rows_in n b) ≡ true → leb (length (merged_by n order a b)) (length d) ≡ false → Refused 27
  no_27 e f g = refused_out 27 (ordered_verdict n order a b (length d)) (merged_by n order a b) d (λ z. omega arith) (verdict true true false e f g)

  pub wrote_all : ascends order (rows_in n a) ≡ true → ascends order (rows_in n b) ≡ true → leb (length (merged_by n order a b)) (length d) ≡ true → (d' after : List ℕ) (o : Outcome) → d' ≡ d
      → Walked true d' (merged_by n order a b) after o →
      (o ≡ outcome_of (ordered_verdict n order a b (length d)) (merged_by n order a b)) × (after ≡ room_after (ordered_verdict n order a b (length d)) (merged_by n order a b) d)
  wrote_all e f g d' after o z w' =
      let w : Walked true d (merged_by n order a b) after o = subst (λ (l : List ℕ). Walked true l (merged_by n order a b) after o) z w' in
      let h = fronted (w.written refl) in
      let r = wrote_out (ordered_verdict n order a b (length d)) (merged_by n order a b) d after (length (merged_by n order a b)) (sym (verdict true true true e f g)) h.bytes h.count in
      (w.fits (leb-true (length (merged_by n order a b)) (length d) g) ∙ r.0, r.1)

-- ---- the merged list is no longer than both
insert_length : (order r : List ℕ) (rows : List (List ℕ)) → length (flat (insert order r rows)) ≤ length r + length (flat rows)
unfolding insert flat
insert_length order r [] = omega (arith, length-append r [])
insert_length order r (s ∷ rows) = go (insert_length order r rows) (same r s) (earlier_by order r s)
  where
    go : length (flat (insert order r rows)) ≤ length r + length (flat rows) → (p q : Bool) → length {A = ℕ}
        (flat (elim p [ true ↦ s ∷ rows | false ↦ elim q [ true ↦ r ∷ s ∷ rows | false ↦ s ∷ insert order r rows ] ])) ≤ length r + length (s ++ flat rows)
    go ih true q = omega arith
    go ih false true = omega (arith, length-append r (s ++ flat rows))
    go ih false false = omega (arith, length-append s (flat (insert order r rows)), length-append s (flat rows))

pub union_length : (order : List ℕ) (rows others : List (List ℕ)) → length (flat (union order rows others)) ≤ length (flat rows) + length (flat others)
unfolding union flat
union_length order rows [] = omega arith
union_length order rows (r ∷ others) = omega (arith, insert_length order r (union order rows others), union_length order rows others, length-append r (flat others))

pub rows_bytes : (n : ℕ) (a : List ℕ) → length a % n ≡ 0 → flat (rows_in n a) ≡ a
unfolding rows_in
rows_bytes n a e = flat_cut n (length a / n) a (omega (arith, div-add-mod' (length a) n))

pub fits_both : (n : ℕ) (order a b : List ℕ) → Sorts n order a b → (room : ℕ) → ltb room (length a + length b) ≡ false → true ≡ leb (length (merged_by n order a b)) room
unfolding merged_by
fits_both n order a b s room h =
    sym (le-leb _ room (omega (
      arith,
      union_length order (rows_in n a) (rows_in n b),
      ap length (rows_bytes n a s.rests.first),
      ap length (rows_bytes n b s.rests.second),
      ltb-false room
          (length a + length b) h,
    )))

-- ---- what a count tells
module _ (writes : Bool) (d text after : List ℕ) (o : Outcome) (w : Walked writes d text after o) where
  told_yes : (x : ℕ) → o ≡ wrote x → true ≡ leb (length text) (length d)
  told_yes x e = go (leb (length text) (length d)) refl
    where
      go : (t : Bool) → leb (length text) (length d) ≡ t → true ≡ t
      go true q = refl
      go false q = let k : o ≡ refusal 27 0 = w.short (leb-false (length text) (length d) q) in never (cc)

  told_no : (x y : ℕ) → o ≡ refusal x y → false ≡ leb (length text) (length d)
  told_no x y e = go (leb (length text) (length d)) refl
    where
      go : (t : Bool) → leb (length text) (length d) ≡ t → false ≡ t
      go true q = let k : o ≡ wrote (length text) = w.fits (leb-true (length text) (length d) q) in never (cc)
      go false q = refl

pub told : (writes : Bool) (d text after : List ℕ) (r : Result ℕ Question) → Walked writes d text after (means r) → is_ok r ≡ leb (length text) (length d)
told writes d text after (Ok k) w = told_yes writes d text after (wrote k) w k refl
told writes d text after (Err e) w = told_no writes d text after (refusal (number_of e) 0) w (number_of e) 0 refl

-- ---- 24
module _ (n : ℕ) (a b : List ℕ) where
  pub few : n < 1 → false ≡ whole_lists n a b
  unfolding whole_lists
  few h = sym (both_no_l (both (leb 1 n) (leb n 12)) (both (eqb (length a % n) 0) (eqb (length b % n) 0)) (both_no_l (leb 1 n) (leb n 12) (lt-leb 1 n h)))

  pub many : 12 < n → false ≡ whole_lists n a b
  unfolding whole_lists
  many h = sym (both_no_l (both (leb 1 n) (leb n 12)) (both (eqb (length a % n) 0) (eqb (length b % n) 0)) (both_no_r (leb 1 n) (leb n 12) (lt-leb n 12 h)))

  pub half_first : (length a % n ≡ 0 → ⊥) → false ≡ whole_lists n a b
  unfolding whole_lists
  half_first h = sym (both_no_r (both (leb 1 n) (leb n 12)) (both (eqb (length a % n) 0) (eqb (length b % n) 0)) (both_no_l (eqb (length a % n) 0) (eqb (length b % n) 0) (ne_eqb (length a % n) 0 h)))

  pub by_second : 1 ≤ n → n ≤ 12 → length a % n ≡ 0 → eqb (length b % n) 0 ≡ whole_lists n a b
  unfolding whole_lists
  by_second h₁ h₂ h₃ = sym (ap₂ both (both_yes (leb 1 n) (leb n 12) (le-leb 1 n h₁) (le-leb n 12 h₂)) (ap (λ (t : Bool). both t (eqb (length b % n) 0)) (eq-eqb (length a % n) 0 h₃)))

  pub record Whole : Type 0 where
    pub some : 1 ≤ n
    pub most : n ≤ 12
    pub first : length a % n ≡ 0
    pub second : length b % n ≡ 0

  pub whole_e : whole_lists n a b ≡ true → Whole
  unfolding whole_lists
  whole_e e =
      let t = T_of _ e in
      let l = both_l (both (leb 1 n) (leb n 12)) (both (eqb (length a % n) 0) (eqb (length b % n) 0)) t in
      let r = both_r (both (leb 1 n) (leb n 12)) (both (eqb (length a % n) 0) (eqb (length b % n) 0)) t in
      record {
        some = leb→le 1 n (both_l (leb 1 n) (leb n 12) l);
        most = leb→le n 12 (both_r (leb 1 n) (leb n 12) l);
        first = eqb→eq (length a % n) 0 (both_l (eqb (length a % n) 0) (eqb (length b % n) 0) r);
        second = eqb→eq (length b % n) 0 (both_r (eqb (length a % n) 0) (eqb (length b % n) 0) r);
      }

-- ---- the whole merge
module _ (n : ℕ) (pairs a b d : List ℕ) where
  abbrev verdict_is : Verdict
  verdict_is = merge_verdict n pairs a b (length d)

  pub no_24 : (o : Outcome) → whole_lists n a b ≡ false → o ≡ refusal 24 0 → (o ≡ outcome_of verdict_is (merged n pairs a b)) × (d ≡ room_after verdict_is (merged n pairs a b) d)
  unfolding merge_verdict
  no_24 o e s =
      let r = refused_out 24 verdict_is (merged n pairs a b) d (λ z. omega arith) (sym (ap
      (λ (t : Bool). ask t 24 0 (order_verdict n pairs (ordered_verdict n (settling_order n pairs) a b (length d)))) e)) in
      (s ∙ r.0, r.1)

  module _ (yes : whole_lists n a b ≡ true) {old new : List ℕ} {r : Result Unit Question} (q : Ordered n pairs old new r) where
    abbrev later_is : Verdict
    later_is = ordered_verdict n (settling_order n pairs) a b (length d)

    asked : verdict_is ≡ followed (verdict_from_question r) later_is
    unfolding merge_verdict
    asked = ap (λ (t : Bool). ask t 24 0 (order_verdict n pairs later_is)) yes ∙ q.answer later_is

    pub no_pairs : (e : Question) → r ≡ Err e → (refusal (number_of e) 0 ≡ outcome_of verdict_is (merged n pairs a b)) × (d ≡ room_after verdict_is (merged n pairs a b) d)
    no_pairs e z =
        let v : verdict_is ≡ refused (number_of e) 0 = asked ∙ ap (λ (s : Result Unit Question). followed (verdict_from_question s) later_is) z in
        (ap (λ (w : Verdict). outcome_of w (merged n pairs a b)) (sym v), sym (ap (λ (w : Verdict). room_after w (merged n pairs a b) d) v))

    module _ (z : r ≡ Ok tt) where
      pub ready : Rests n (take n new) a b
      ready =
          let w = whole_e n a b yes in
          let g = (settling_of n pairs old new r q (ap is_ok z)).ordering in
          record { places = record { inside = g.inside; each = g.each }; some = w.some; first = w.first; second = w.second }

      pub answered : (o : Outcome) (after : List ℕ) → o ≡ outcome_of (ordered_verdict n (take n new) a b (length d)) (merged_by n (take n new) a b) →
          after ≡ room_after (ordered_verdict n (take n new) a b (length d)) (merged_by n (take n new) a b) d →
          (o ≡ outcome_of verdict_is (merged n pairs a b)) × (after ≡ room_after verdict_is (merged n pairs a b) d)
      unfolding merged
      answered o after e f =
          let v : later_is ≡ verdict_is = sym (asked ∙ ap (λ (s : Result Unit Question). followed (verdict_from_question s) later_is) z) in
          let s = q.settled (ap is_ok z) in (
            e ∙ ap (λ (l : List ℕ). outcome_of (ordered_verdict n l a b (length d)) (merged_by n l a b)) s ∙ ap (λ (w : Verdict). outcome_of w (merged_by n (settling_order n pairs) a b)) v,
            f ∙ ap (λ (l : List ℕ). room_after (ordered_verdict n l a b (length d)) (merged_by n l a b) d) s ∙ ap (λ (w : Verdict). room_after w (merged_by n (settling_order n pairs) a b) d) v,
          )

-- ---- every refusal's item is 0
abbrev Itemless : Verdict → Type 0
Itemless accepted = Unit {0}
Itemless (refused number item) = item ≡ 0

ask_itemless : (c : Bool) (number : ℕ) (later : Verdict) → Itemless later → Itemless (ask c number 0 later)
ask_itemless true number later h = h
ask_itemless false number later h = refl

pub merge_item : (n : ℕ) (pairs a b : List ℕ) (room number item : ℕ) → merge_verdict n pairs a b room ≡ refused number item → item ≡ 0
unfolding merge_verdict order_verdict ordered_verdict
merge_item n pairs a b room number item e =
    subst Itemless e
    (ask_itemless (whole_lists n a b) 24 _
    (ask_itemless (both (leb (length pairs) 128) (eqb (length pairs % 2) 0)) 28 _
    (ask_itemless (all (λ x. ltb x n) pairs) 29 _
    (ask_itemless (settles_all n pairs) 30 _
    (ask_itemless (ascends (settling_order n pairs) (rows_in n a)) 25 _
    (ask_itemless (ascends (settling_order n pairs) (rows_in n b)) 26 _
    (ask_itemless (leb (length (merged_by n (settling_order n pairs) a b)) room) 27 accepted tt)))))))
