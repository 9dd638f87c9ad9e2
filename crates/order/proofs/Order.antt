-- The settling order: question 30 is answered "no" exactly where the pairs go round in a circle, and elsewhere the order is the paper's.
-- Assumes nothing.
use Rattle.model.specs.Kit.{◌≡◌, refl, sym, ap, ap₂, ◌∙◌, subst, Bool, true, false, not, List, [], ◌∷◌, ◌++◌, map, Memᴰ, Memᴰ-head, Memᴰ-tail, Memᴰ-not_nil, Memᴰ-cast, Memᴰ-map}
use Rattle.model.specs.Kit.{Memᴰ-of_map, ◌↔◌, ◌⊎◌, inl, inr, ℕ, zero, suc, ◌+◌, ◌-◌, ◌%◌, ◌≤◌, ◌<◌, ℕ_discrete, dec_lt, arith, T, T_not, not_T, leb, ltb, eqb, eqb→eq, eqb_refl, ltb→lt, lt→ltb, leb→le}
use Rattle.model.specs.Kit.{length, take, length-append, take_all, ltb-false, eq-eqb}
use Rattle.model.specs.Lists.{all, any, keep, below, up_from, at, both}
use Rattle.model.specs.{ValueSets.least, Problem.within, Sheet.distinct, Verdict.Verdict, Verdict.refused, Verdict.ask, Examples.Each}
use mathlib.Core.Path.{fun_ext}
use lib.Dec.{le→leb}
use lib.Seq.{take-suc, take-append-le}
use Rattle.order.specs.Order.{pairs_in, Before, Path, one, more, Circle, forerunners, can_follow, settled_first, settling_order, settles_all, order_verdict, Settling}
use Rattle.order.specs.{Claims.OrderPassedClaim, Claims.Question30, Claims.SettlingUnique, Claims.SamePairs, Examples.tests_order}
use Rattle.model.proofs.Lists.{both_i, both_l, both_r, TDec, T_of, of_T, not_of, of_not, stable, TExt, all_cons, all_i, all_e, keep_i, keep_e, among_i, among_e, below_i, below_e, length_below}
use Rattle.model.proofs.Lists.{at_below, up_from_add, at_seam, at_ext, mem_at, at_mem, at_take}
use Rattle.model.proofs.{Masks.least_at, Masks.least_below, Masks.least_is, Counting.distinct_below, Counting.no_more, Counting.onto, Counting.twice, Accepted.asked, Pairs.within_i, Pairs.within_e}

-- ---- the pairs
-- the places of a pair are bytes of the lending
pub before_bytes : (pairs : List ℕ) (q : ℕ × ℕ) → Memᴰ q (pairs_in pairs) → Memᴰ q.0 pairs × Memᴰ q.1 pairs
unfolding pairs_in
before_bytes [] q m = absurd (Memᴰ-not_nil m)
before_bytes (x ∷ []) q m = absurd (Memᴰ-not_nil m)
before_bytes (x ∷ y ∷ pairs) q (Memᴰ-head e) = (Memᴰ-head (ap (λ (z : ℕ × ℕ). z.0) e), Memᴰ-tail (Memᴰ-head (ap (λ (z : ℕ × ℕ). z.1) e)))
before_bytes (x ∷ y ∷ pairs) q (Memᴰ-tail m) = let r = before_bytes pairs q m in (Memᴰ-tail (Memᴰ-tail r.0), Memᴰ-tail (Memᴰ-tail r.1))

pub fore_i : (pairs : List ℕ) (x y : ℕ) → Before pairs x y → Memᴰ x (forerunners pairs y)
unfolding forerunners
fore_i pairs x y m = Memᴰ-map (λ q. q.0) (keep_i (λ q. eqb q.1 y) (pairs_in pairs) (x, y) m (eqb_refl y))

pub fore_e : (pairs : List ℕ) (x y : ℕ) → Memᴰ x (forerunners pairs y) → Before pairs x y
unfolding forerunners
fore_e pairs x y m =
    let r = Memᴰ-of_map (λ q. q.0) (keep (λ q. eqb q.1 y) (pairs_in pairs)) m in
    let k = keep_e (λ q. eqb q.1 y) (pairs_in pairs) r.0 r.1 in
    Memᴰ-cast (ap₂ {C = ℕ × ℕ} (λ a b. (a, b)) (sym r.2) (sym (eqb→eq r.0.1 y k.1))) k.0

-- what a place that can follow is
pub follow_i : (pairs settled : List ℕ) (y : ℕ) → (Memᴰ y settled → ⊥) → ((x : ℕ) → Before pairs x y → Memᴰ x settled) → T (can_follow pairs settled y)
unfolding can_follow
follow_i pairs settled y n h =
    both_i (not (any (eqb y) settled)) (within (forerunners pairs y) settled) (not_T (any (eqb y) settled) (λ t. n (among_e y settled t)))
    (within_i (forerunners pairs y) settled (λ x m. h x (fore_e pairs x y m)))

pub follow_e : (pairs settled : List ℕ) (y : ℕ) → T (can_follow pairs settled y) → (Memᴰ y settled → ⊥) × ((x : ℕ) → Before pairs x y → Memᴰ x settled)
unfolding can_follow
follow_e pairs settled y t = (
  λ m. T_not (any (eqb y) settled) (both_l (not (any (eqb y) settled)) (within (forerunners pairs y) settled) t) (among_i y settled m),
  λ x b. within_e (forerunners pairs y) settled (both_r (not (any (eqb y) settled)) (within (forerunners pairs y) settled) t) x (fore_i pairs x y b),
)

-- ---- the first k places
module _ (n : ℕ) (pairs : List ℕ) where
  abbrev first : ℕ → List ℕ
  first k = settled_first n pairs k

  abbrev next : ℕ → ℕ
  next k = least n (can_follow pairs (settled_first n pairs k))

  first_zero : first 0 ≡ []
  unfolding settled_first
  first_zero = refl

  first_suc : (k : ℕ) → first (suc k) ≡ first k ++ (next k ∷ [])
  unfolding settled_first
  first_suc k = refl

  pub first_length : (k : ℕ) → length (first k) ≡ k
  unfolding settled_first
  first_length zero = refl
  first_length (suc k) = length-append (first k) (next k ∷ []) ∙ (let e = first_length k in omega arith)

  pub first_take : (i k : ℕ) → i ≤ k → take i (first k) ≡ first i
  first_take i zero h = take_all i (first 0) (omega (arith, first_length 0)) ∙ ap first (let e : 0 ≡ i = omega arith in e)
  first_take i (suc k) h = go (first_take i k) (ℕ_discrete i (suc k))
    where
      go : (i ≤ k → take i (first k) ≡ first i) → Dec (i ≡ suc k) → take i (first (suc k)) ≡ first i
      go ih (yes e) = take_all i (first (suc k)) (omega (arith, first_length (suc k))) ∙ ap first (sym e)
      go ih (no e) = ap (take i) (first_suc k) ∙ take-append-le i (first k) (next k ∷ []) (omega (arith, first_length k)) ∙ ih (omega arith)

  first_last : (k : ℕ) → at (first (suc k)) k ≡ next k
  first_last k = ap₂ at (first_suc k) (sym (first_length k)) ∙ at_seam (first k) (next k) []

  pub first_at : (k i : ℕ) → i < k → at (first k) i ≡ next i
  first_at k i h = sym (at_take (suc i) (first k) i (omega arith)) ∙ ap (λ (l : List ℕ). at l i) (first_take (suc i) k h) ∙ first_last i

  order_at : (i : ℕ) → i < n → at (settling_order n pairs) i ≡ next i
  unfolding settling_order
  order_at i h = first_at n i h

  pub order_length : length (settling_order n pairs) ≡ n
  unfolding settling_order
  order_length = first_length n

  order_take : (k : ℕ) → k ≤ n → take k (settling_order n pairs) ≡ first k
  unfolding settling_order
  order_take k h = first_take k n h

  -- ---- where the order settles every place
  module _ (s : T (settles_all n pairs)) where
    next_small : (i : ℕ) → i < n → next i < n
    unfolding settles_all
    next_small i h =
        subst (λ (z : ℕ). z < n) (order_at i h)
        (ltb→lt (at (settling_order n pairs) i) n (all_e (λ x. ltb x n) (settling_order n pairs) s (at (settling_order n pairs) i) (mem_at (settling_order n pairs) i (omega (arith, order_length)))))

    next_follows : (i : ℕ) → i < n → T (can_follow pairs (first i) (next i))
    next_follows i h = T_of (can_follow pairs (first i) (next i)) (least_is n (can_follow pairs (first i)) (next_small i h))

    -- what stands before is settled before, so no place comes twice
    in_first : (i j : ℕ) → i < j → Memᴰ (next i) (first j)
    in_first i j h = Memᴰ-cast (sym (first_at j i h)) (mem_at (first j) i (omega (arith, first_length j)))

    no_repeat : (i j : ℕ) → i < j → j < n → next i ≡ next j → ⊥
    no_repeat i j h l e = (follow_e pairs (first j) (next j) (next_follows j l)).0 (Memᴰ-cast (sym e) (in_first i j h))

    next_once : (i j : ℕ) → i < n → j < n → next i ≡ next j → i ≡ j
    next_once i j h l e = go (ℕ_discrete i j) (dec_lt i j)
      where
        go : Dec (i ≡ j) → Dec (i < j) → i ≡ j
        go (yes q) d = q
        go (no q) (yes d) = absurd (no_repeat i j d l e)
        go (no q) (no d) = absurd (no_repeat j i (omega arith) h (sym e))

    order_map : settling_order n pairs ≡ map (λ (i : ℕ). next i) (below n)
    order_map =
        at_ext (settling_order n pairs) (map (λ (i : ℕ). next i) (below n)) (order_length ∙ sym (length_below (λ (i : ℕ). next i) n))
        (λ i h. let l : i < n = omega (arith, order_length) in order_at i l ∙ sym (at_below (λ (i : ℕ). next i) n i l))

    order_once : T (distinct (settling_order n pairs))
    order_once = subst (λ (l : List ℕ). T (distinct l)) (sym order_map) (distinct_below (λ (i : ℕ). next i) n next_once)

    order_inside : (x : ℕ) → Memᴰ x (settling_order n pairs) → x < n
    unfolding settles_all
    order_inside x m = ltb→lt x n (all_e (λ x. ltb x n) (settling_order n pairs) s x m)

    forwards : (i j : ℕ) → i < n → j < n → Before pairs (next i) (next j) → i < j
    forwards i j h l b =
        let m = (follow_e pairs (first j) (next j) (next_follows j l)).1 (next i) b in
        let r = at_mem (first j) (next i) m in
        let k : r.0 < j = omega (arith, first_length j, r.1) in
        let e : r.0 ≡ i = next_once r.0 i (omega arith) h (sym (first_at j r.0 k) ∙ r.2) in
        omega arith

    pub settling : Settling n pairs (settling_order n pairs)
    settling = record {
      ordering = record {
        sized = order_length;
        inside = order_inside;
        each = λ x h. onto (settling_order n pairs) n order_length order_once order_inside x h;
        once = λ i j h l e. next_once i j h l (sym (order_at i h) ∙ e ∙ order_at j l);
      };
      forward = λ i j h l b. forwards i j h l (subst (λ (z : ℕ). Before pairs z (next j)) (order_at i h) (subst (λ (z : ℕ). Before pairs (at (settling_order n pairs) i) z) (order_at j l) b));
      possible = λ k h. subst (λ (z : ℕ). T (can_follow pairs (take k (settling_order n pairs)) z)) (sym (order_at k h))
          (subst (λ (f : List ℕ). T (can_follow pairs f (next k))) (sym (order_take k (omega arith))) (next_follows k h));
      lowest = λ k y h l. ap (λ (f : List ℕ). can_follow pairs f y) (order_take k (omega arith)) ∙ least_below n (can_follow pairs (first k)) y (subst (λ (z : ℕ). y < z) (order_at k h) l);
    }

    -- ---- then there is no circle: along a path the places in the order rise
    module _ (small : T (all (λ x. ltb x n) pairs)) where
      before_small : (x y : ℕ) → Before pairs x y → (x < n) × (y < n)
      before_small x y b =
          let r = before_bytes pairs (x, y) b in
          (ltb→lt x n (all_e (λ x. ltb x n) pairs small x r.0), ltb→lt y n (all_e (λ x. ltb x n) pairs small y r.1))

      abbrev Stands : ℕ → Type 0
      Stands x = (i : ℕ) × (i < n) × (next i ≡ x)

      stands : (x : ℕ) → x < n → Stands x
      stands x h =
          let r = at_mem (settling_order n pairs) x (settling.ordering.each x h) in
          let l : r.0 < n = omega (arith, order_length, r.1) in
          (r.0, l, sym (order_at r.0 l) ∙ r.2)

      before_rises : (x y i j : ℕ) → Before pairs x y → i < n → j < n → next i ≡ x → next j ≡ y → i < j
      before_rises x y i j b h l e q = forwards i j h l (subst (λ (z : ℕ). Before pairs (next i) z) (sym q) (subst (λ (z : ℕ). Before pairs z y) (sym e) b))

      path_rises : (x y i j : ℕ) → Path pairs x y → i < n → j < n → next i ≡ x → next j ≡ y → i < j
      path_rises x y i j (one z b) h l e q = before_rises x z i j b h l e q
      path_rises x y i j (more m z r b) h l e q =
          let k = stands m (before_small m z b).0 in
          let a : i < k.0 = path_rises x m i k.0 r h k.1 e k.2 in
          let c : k.0 < j = before_rises m z k.0 j b k.1 l k.2 q in
          omega arith

      path_small : (x y : ℕ) → Path pairs x y → x < n
      path_small x y (one z b) = (before_small x z b).0
      path_small x y (more m z r b) = path_small x m r

      pub no_circle : Circle pairs → ⊥
      no_circle c =
          let k = stands c.0 (path_small c.0 c.0 c.1) in
          let l : k.0 < k.0 = path_rises c.0 c.0 k.0 k.0 c.1 k.1 k.1 k.2 k.2 in
          omega arith

-- ---- where it does not, going back from forerunner to forerunner leads round
not_all : (p : ℕ → Bool) (l : List ℕ) → (T (all p l) → ⊥) → (x : ℕ) × Memᴰ x l × (T (p x) → ⊥)
unfolding all
not_all p [] h = absurd (h tt)
not_all p (x ∷ l) h = go (not_all p l) (TDec (p x))
  where
    go : ((T (all p l) → ⊥) → (x : ℕ) × Memᴰ x l × (T (p x) → ⊥)) → T (p x) ⊎ (T (p x) → ⊥) → (y : ℕ) × Memᴰ y (x ∷ l) × (T (p y) → ⊥)
    go ih (inl t) = let r = ih (λ a. h (subst T (sym (all_cons p x l)) (both_i (p x) (all p l) t a))) in (r.0, Memᴰ-tail r.1, r.2)
    go ih (inr t) = (x, Memᴰ-head refl, t)

module _ (n : ℕ) (pairs : List ℕ) (small : T (all (λ x. ltb x n) pairs)) (settled : List ℕ) (stuck : (y : ℕ) → y < n → can_follow pairs settled y ≡ false) where
  abbrev Waiting : Type 0
  Waiting = (y : ℕ) × (y < n) × (Memᴰ y settled → ⊥)

  -- a place that waits has a forerunner that waits
  waits_for : (y : Waiting) → (x : ℕ) × (x < n) × (Memᴰ x settled → ⊥) × Before pairs x y.0
  waits_for y =
      let r = not_all (λ x. any (eqb x) settled) (forerunners pairs y.0)
      (λ t. of_not (can_follow pairs settled y.0) (stuck y.0 y.1)
      (follow_i pairs settled y.0 y.2 (λ x b. among_e x settled (all_e (λ x. any (eqb x) settled) (forerunners pairs y.0) t x (fore_i pairs x y.0 b))))) in
      let b = fore_e pairs r.0 y.0 r.1 in
      (r.0, ltb→lt r.0 n (all_e (λ x. ltb x n) pairs small r.0 (before_bytes pairs (r.0, y.0) b).0), λ m. r.2 (among_i r.0 settled m), b)

  back : Waiting → ℕ → Waiting
  back y zero = y
  back y (suc i) = let z = back y i in let r = waits_for z in (r.0, r.1, r.2)

  back_before : (y : Waiting) (i : ℕ) → Before pairs (back y (suc i)).0 (back y i).0
  unfolding back
  back_before y i = (waits_for (back y i)).3

  back_path : (y : Waiting) (d i : ℕ) → Path pairs (back y (i + suc d)).0 (back y i).0
  back_path y zero i =
      let e : suc i ≡ i + 1 = omega arith in
      subst (λ (k : ℕ). Path pairs (back y k).0 (back y i).0) e (one (back y i).0 (back_before y i))
  back_path y (suc d) i =
      let e : suc i + suc d ≡ i + suc (suc d) = omega arith in
      subst (λ (k : ℕ). Path pairs (back y k).0 (back y i).0) e (more (back y (suc i)).0 (back y i).0 (back_path y d (suc i)) (back_before y i))

  round : Waiting → Circle pairs
  round y =
      let r = twice (λ i. (back y i).0) n (λ i. (back y i).1) in
      let l = r.2 in
      let e : r.0 + suc (r.1 - suc r.0) ≡ r.1 = omega arith in
      let p = back_path y (r.1 - suc r.0) r.0 in
      ((back y r.1).0, subst (λ (z : ℕ). Path pairs (back y r.1).0 z) r.3 (subst (λ (k : ℕ). Path pairs (back y k).0 (back y r.0).0) e p))

-- fewer settled places than n leave one
left_over : (n : ℕ) (settled : List ℕ) → length settled < n → (y : ℕ) × (y < n) × (Memᴰ y settled → ⊥)
left_over n settled h =
    let r = not_all (λ x. any (eqb x) settled) (map (λ (i : ℕ). i) (below n))
    (λ t. let l = no_more (map (λ (i : ℕ). i) (below n)) settled (distinct_below (λ (i : ℕ). i) n (λ i j p q e. e))
    (λ x m. among_e x settled (all_e (λ x. any (eqb x) settled) (map (λ (i : ℕ). i) (below n)) t x m)) in
    (let e = length_below (λ (i : ℕ). i) n in omega arith)) in
    let q = Memᴰ-of_map (λ (i : ℕ). i) (below n) r.1 in
    (r.0, subst (λ (z : ℕ). z < n) q.2 (below_e n q.0 q.1), λ m. r.2 (among_i r.0 settled m))

pub circle_found : (n : ℕ) (pairs : List ℕ) → T (all (λ x. ltb x n) pairs) → (T (settles_all n pairs) → ⊥) → Circle pairs
unfolding settles_all
circle_found n pairs small h =
    let r = not_all (λ x. ltb x n) (settling_order n pairs) h in
    let q = at_mem (settling_order n pairs) r.0 r.1 in
    let k = q.0 in
    let l : k < n = omega (arith, order_length n pairs, q.1) in
    let e : least n (can_follow pairs (settled_first n pairs k)) ≡ r.0 = sym (order_at n pairs k l) ∙ q.2 in
    let out : n ≤ r.0 = ltb-false r.0 n (not_of (ltb r.0 n) r.2) in
    round n pairs small (settled_first n pairs k) (λ y j. least_below n (can_follow pairs (settled_first n pairs k)) y (omega arith))
    (left_over n (settled_first n pairs k) (omega (arith, first_length n pairs k)))

-- ---- the questions
asks : (b : Bool) (k : ℕ) (v : Verdict) → T b → ask b k 0 v ≡ v
asks true k v t = refl
asks false k v t = absurd t

asked_no : (b : Bool) (k : ℕ) (v : Verdict) → (T b → ⊥) → ask b k 0 v ≡ refused k 0
asked_no true k v t = absurd (t tt)
asked_no false k v t = refl

-- pairs that pass 28 and 29: at most 64, whole, of places below n
module _ (n : ℕ) (pairs : List ℕ) (few : length pairs ≤ 128) (whole : length pairs % 2 ≡ 0) (inside : (x : ℕ) → Memᴰ x pairs → x < n) (later : Verdict) where
  inside_test : T (all (λ x. ltb x n) pairs)
  inside_test = all_i (λ x. ltb x n) pairs (λ x m. lt→ltb x n (inside x m))

  only_30 : order_verdict n pairs later ≡ ask (settles_all n pairs) 30 0 later
  unfolding order_verdict
  only_30 =
      asks (both (leb (length pairs) 128) (eqb (length pairs % 2) 0)) 28 (ask (all (λ x. ltb x n) pairs) 29 0 (ask (settles_all n pairs) 30 0 later))
      (both_i (leb (length pairs) 128) (eqb (length pairs % 2) 0) (le→leb (length pairs) 128 few) (T_of (eqb (length pairs % 2) 0) (eq-eqb (length pairs % 2) 0 whole)))
      ∙ asks (all (λ x. ltb x n) pairs) 29 (ask (settles_all n pairs) 30 0 later) inside_test

  -- a circle gets 30, and without one nothing is asked
  pub circle_refused : Circle pairs → order_verdict n pairs later ≡ refused 30 0
  circle_refused c = only_30 ∙ asked_no (settles_all n pairs) 30 later (λ s. no_circle n pairs s inside_test c)

  pub no_circle_passes : (Circle pairs → ⊥) → order_verdict n pairs later ≡ later
  no_circle_passes h = only_30 ∙ asks (settles_all n pairs) 30 later (stable (settles_all n pairs) (λ f. h (circle_found n pairs inside_test f)))

  -- so 30 is given exactly for a circle, if what is asked later does not give it
  thirty : (later ≡ refused 30 0 → ⊥) → (order_verdict n pairs later ≡ refused 30 0) ↔ Circle pairs
  thirty other = (λ e. go e (TDec (settles_all n pairs)), circle_refused)
    where
      go : order_verdict n pairs later ≡ refused 30 0 → T (settles_all n pairs) ⊎ (T (settles_all n pairs) → ⊥) → Circle pairs
      go e (inl s) = absurd (other (sym (only_30 ∙ asks (settles_all n pairs) 30 later s) ∙ e))
      go e (inr s) = circle_found n pairs inside_test s

pub question_30 : Question30
question_30 n pairs few whole inside later = thirty n pairs few whole inside later

-- pairs that pass all three
pub order_passed : OrderPassedClaim
unfolding order_verdict
order_passed n pairs later t =
    let q = both (leb (length pairs) 128) (eqb (length pairs % 2) 0) in
    let a = asked q 28 0 (ask (all (λ x. ltb x n) pairs) 29 0 (ask (settles_all n pairs) 30 0 later)) t in
    let b = asked (all (λ x. ltb x n) pairs) 29 0 (ask (settles_all n pairs) 30 0 later) a.1 in
    let c = asked (settles_all n pairs) 30 0 later b.1 in (
      record {
        few = leb→le (length pairs) 128 (both_l (leb (length pairs) 128) (eqb (length pairs % 2) 0) a.0);
        whole = eqb→eq (length pairs % 2) 0 (both_r (leb (length pairs) 128) (eqb (length pairs % 2) 0) a.0);
        inside = λ x m. ltb→lt x n (all_e (λ x. ltb x n) pairs b.0 x m);
        settled = settling n pairs c.0;
        acyclic = no_circle n pairs c.0 b.0;
      },
      c.1,
    )

-- ---- no pairs: the places as they are numbered
none_before : (x y : ℕ) → Before [] x y → ⊥
unfolding pairs_in
none_before x y b = Memᴰ-not_nil b

no_pairs_first : (n k : ℕ) → k ≤ n → settled_first n [] k ≡ below k
unfolding settled_first below up_from
no_pairs_first n zero h = refl
no_pairs_first n (suc k) h =
    let ih = no_pairs_first n k (omega arith) in
    let free : (y : ℕ) → (Memᴰ y (below k) → ⊥) → T (can_follow [] (below k) y) = λ y m. follow_i [] (below k) y m (λ x b. absurd (none_before x y b)) in
    let e : least n (can_follow [] (below k)) ≡ k = least_at n (can_follow [] (below k)) k (omega arith)
    (λ j l. not_of (can_follow [] (below k) j) (λ t. (follow_e [] (below k) j t).0 (below_i k j l)))
    (of_T (can_follow [] (below k) k) (free k (λ m. let l = below_e k k m in omega arith))) in
    let u : suc k ≡ k + 1 = omega arith in
    ap (λ (f : List ℕ). f ++ (least n (can_follow [] f) ∷ [])) ih ∙ ap (λ (z : ℕ). below k ++ (z ∷ [])) e ∙ sym
    (ap below u ∙ up_from_add 0 k 1 ∙ ap (λ (z : ℕ). below k ++ (z ∷ [])) (let z : 0 + k ≡ k = omega arith in z))

pub no_pairs : (n : ℕ) → settling_order n [] ≡ below n
unfolding settling_order
no_pairs n = no_pairs_first n n (omega arith)

pub no_pairs_asked : (n : ℕ) (later : Verdict) → order_verdict n [] later ≡ later
no_pairs_asked n later = no_circle_passes n [] (omega arith) refl (λ x m. absurd (Memᴰ-not_nil m)) later (λ c. none c.0 c.0 c.1)
  where
    none : (x y : ℕ) → Path [] x y → ⊥
    none x y (one z b) = none_before x z b
    none x y (more m z r b) = none_before m z b

-- ---- what determines the order
-- the order in the paper's words is one list
pub settling_unique : SettlingUnique
unfolding at
settling_unique n pairs a b s t =
    let la = s.ordering.sized in
    let lb = t.ordering.sized in
    sym (take_all n a (omega arith)) ∙ front n (omega arith) ∙ take_all n b (omega arith)
  where
    next_same : (k : ℕ) → k < n → take k a ≡ take k b → at a k ≡ at b k
    next_same k h e = go (ℕ_discrete (at a k) (at b k)) (dec_lt (at a k) (at b k))
      where
        go : Dec (at a k ≡ at b k) → Dec (at a k < at b k) → at a k ≡ at b k
        go (yes q) d = q
        go (no q) (yes d) = absurd (of_not (can_follow pairs (take k b) (at a k)) (t.lowest k (at a k) h d) (subst (λ (f : List ℕ). T (can_follow pairs f (at a k))) e (s.possible k h)))
        go (no q) (no d) = absurd (of_not (can_follow pairs (take k a) (at b k)) (s.lowest k (at b k) h (omega arith))
            (subst (λ (f : List ℕ). T (can_follow pairs f (at b k))) (sym e) (t.possible k h)))

    front : (k : ℕ) → k ≤ n → take k a ≡ take k b
    front zero h = refl
    front (suc k) h =
        let la = s.ordering.sized in
        let lb = t.ordering.sized in
        let e = front k (omega arith) in
        take-suc a k 0 (omega arith) ∙ ap₂ (λ (f : List ℕ) (x : ℕ). f ++ (x ∷ [])) e (next_same k h e) ∙ sym (take-suc b k 0 (omega arith))

-- only which pairs there are counts: repeats and their order do not
pub same_pairs : SamePairs
unfolding settling_order
same_pairs n pairs others h = all_of n
  where
    follow_same : (settled : List ℕ) (y : ℕ) → can_follow pairs settled y ≡ can_follow others settled y
    follow_same settled y =
        TExt (can_follow pairs settled y) (can_follow others settled y)
        (λ t. let r = follow_e pairs settled y t in follow_i others settled y r.0 (λ x b. r.1 x ((h x y).1 b)))
        (λ t. let r = follow_e others settled y t in follow_i pairs settled y r.0 (λ x b. r.1 x ((h x y).0 b)))

    all_of : (k : ℕ) → settled_first n pairs k ≡ settled_first n others k
    all_of zero = first_zero n pairs ∙ sym (first_zero n others)
    all_of (suc k) =
        first_suc n pairs k
        ∙ ap (λ (f : List ℕ). f ++ (least n (can_follow pairs f) ∷ [])) (all_of k)
        ∙ ap (λ (f : ℕ → Bool). settled_first n others k ++ (least n f ∷ [])) (fun_ext (follow_same (settled_first n others k)))
        ∙ sym (first_suc n others k)

-- ---- examples, by computation
pub examples_order : Each tests_order
unfolding order_verdict settles_all settling_order settled_first can_follow forerunners pairs_in keep any all within least
examples_order = (refl, (refl, (refl, (refl, (refl, (refl, (refl, tt)))))))
