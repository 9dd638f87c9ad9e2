-- Pairs by their index, and the order one place after another. Assumes nothing.
use Rattle.model.specs.Kit.{◌≡◌, refl, sym, ap, ap₂, ◌∙◌, subst, Bool, true, false, ◌⊎◌, inl, inr, List, [], ◌∷◌, ◌++◌, Memᴰ, Memᴰ-head, Memᴰ-tail, Memᴰ-not_nil, ℕ, zero, suc, ◌+◌}
use Rattle.model.specs.Kit.{◌-◌, ◌*◌, ◌/◌, ◌%◌, ◌^◌, ◌≤◌, ◌<◌, not-suc-le-zero, ℕ_discrete, arith, bit_or, or_lt, T, leb, ltb, eqb, ltb→lt, lt→ltb, eqb_refl, length, take, drop, set, length-set}
use Rattle.model.specs.Kit.{length-take, length-drop, get_or-drop, le-leb, lt-leb, eq-eqb, ne_eqb, eqb-true}
use Rattle.model.specs.{Lists.all, Lists.any, Lists.at, Lists.both, Lists.either, ValueSets.has, ValueSets.least, Verdict.Verdict, Verdict.accepted, Verdict.ask, Verdict.is_accepted}
use Rattle.order.specs.Order.{pairs_in, Before, can_follow, settled_first, settling_order, settles_all, order_verdict, Settling}
use Rattle.order.specs.Inner.Settled.{SetOf, Befores, Settled, Ordered}
use Rattle.std.proofs.Common.{◌&&◌, get_or}
use Rattle.std.proofs.lemmas.List.{drop-drop}
use Rattle.std.proofs.Common.{Result, Ok, Err, is_ok}
use Rattle.std.specs.List.{list_all}
use Rattle.model.specs.declared.{refusals.Question.Question}
use Rattle.model.specs.declared.refusals.Question.TheVariants as question
use Rattle.model.proofs.Lists.{T_of, of_T, not_of, of_not, all_i, all_e, any_cons, among_i, among_e, mem_at, at_mem, at_ext, at_take, at_set, at_set_other}
use Rattle.model.proofs.{Lists.both_false, Masks.has_or, Sets.has_none, Sets.mask_ext, Members.or_i, Members.or_e}
use Rattle.order.proofs.Order.{follow_i, follow_e, first_length, first_at, order_length, order_passed}

-- ---- pairs by their index
pub before_at : (pairs : List ℕ) (i : ℕ) → 2 * i + 1 < length pairs → Before pairs (at pairs (2 * i)) (at pairs (2 * i + 1))
unfolding pairs_in at
before_at [] i h = absurd (not-suc-le-zero h)
before_at (x ∷ []) i h = absurd (omega arith)
before_at (x ∷ y ∷ pairs) zero h = Memᴰ-head refl
before_at (x ∷ y ∷ pairs) (suc i) h =
    let e : 2 * suc i ≡ suc (suc (2 * i)) = omega arith in
    let f : 2 * suc i + 1 ≡ suc (suc (2 * i + 1)) = omega arith in
    subst (λ (k : ℕ). Memᴰ (at (x ∷ y ∷ pairs) k, at (x ∷ y ∷ pairs) (2 * suc i + 1)) (pairs_in (x ∷ y ∷ pairs))) (sym e)
    (subst (λ (k : ℕ). Memᴰ (at pairs (2 * i), at (x ∷ y ∷ pairs) k) (pairs_in (x ∷ y ∷ pairs))) (sym f) (Memᴰ-tail (before_at pairs i (omega arith))))

pub record Indexed (pairs : List ℕ) (x y : ℕ) : Type 0 where
  pub index : ℕ
  pub inside : 2 * index + 1 < length pairs
  pub first : at pairs (2 * index) ≡ x
  pub second : at pairs (2 * index + 1) ≡ y

pub before_index : (pairs : List ℕ) (x y : ℕ) → Before pairs x y → Indexed pairs x y
unfolding pairs_in at
before_index [] x y m = absurd (Memᴰ-not_nil m)
before_index (a ∷ []) x y m = absurd (Memᴰ-not_nil m)
before_index (a ∷ b ∷ pairs) x y (Memᴰ-head e) = record { index = 0; inside = omega arith; first = sym (ap (λ (z : ℕ × ℕ). z.0) e); second = sym (ap (λ (z : ℕ × ℕ). z.1) e) }
before_index (a ∷ b ∷ pairs) x y (Memᴰ-tail m) = later (before_index pairs x y m)
  where
    later : Indexed pairs x y → Indexed (a ∷ b ∷ pairs) x y
    later r =
        let e : 2 * suc r.index ≡ suc (suc (2 * r.index)) = omega arith in
        let f : 2 * suc r.index + 1 ≡ suc (suc (2 * r.index + 1)) = omega arith in
        record { index = suc r.index; inside = omega (arith, r.inside); first = ap (at (a ∷ b ∷ pairs)) e ∙ r.first; second = ap (at (a ∷ b ∷ pairs)) f ∙ r.second }

-- ---- loops: one more
pub more : (l : List ℕ) (n i : ℕ) → ((j : ℕ) → j < i → at l j < n) → at l i < n → (j : ℕ) → j < i + 1 → at l j < n
more l n i h k j m = go (ℕ_discrete j i)
  where
    go : Dec (j ≡ i) → at l j < n
    go (yes e) = subst (λ (z : ℕ). at l z < n) (sym e) k
    go (no e) = h j (omega arith)

pub more_no : (f : ℕ → Bool) (i : ℕ) → ((j : ℕ) → j < i → f j ≡ false) → f i ≡ false → (j : ℕ) → j < i + 1 → f j ≡ false
more_no f i h k j m = go (ℕ_discrete j i)
  where
    go : Dec (j ≡ i) → f j ≡ false
    go (yes e) = ap f e ∙ k
    go (no e) = h j (omega arith)

-- ---- question 29
pub below_all : (pairs : List ℕ) (n : ℕ) → ((i : ℕ) → i < length pairs → at pairs i < n) → true ≡ all (λ x. ltb x n) pairs
below_all pairs n h =
    sym (of_T (all (λ x. ltb x n) pairs) (all_i (λ x. ltb x n) pairs (λ x m. let r = at_mem pairs x m in lt→ltb x n (subst (λ (z : ℕ). z < n) r.2 (h r.0 r.1)))))

pub below_each : (pairs : List ℕ) (n : ℕ) → n ≤ 12 → all (λ x. ltb x n) pairs ≡ true → (i : ℕ) → i < length pairs → at pairs i < 16
below_each pairs n h e i l = let k = ltb→lt (at pairs i) n (all_e (λ x. ltb x n) pairs (T_of (all (λ x. ltb x n) pairs) e) (at pairs i) (mem_at pairs i l)) in omega arith

pub below_not : (pairs : List ℕ) (n i : ℕ) → i < length pairs → n ≤ at pairs i → false ≡ all (λ x. ltb x n) pairs
below_not pairs n i h l =
    sym (not_of (all (λ x. ltb x n) pairs) (λ t. let k = ltb→lt (at pairs i) n (all_e (λ x. ltb x n) pairs t (at pairs i) (mem_at pairs i h)) in omega arith))

-- ---- what can follow
module _ (pairs l : List ℕ) (settled y : ℕ) (h : SetOf settled l) where
  member : (x : ℕ) → T (has settled x) → Memᴰ x l
  member x t = among_e x l (subst T (h x) t)

  member_has : (x : ℕ) → Memᴰ x l → T (has settled x)
  member_has x m = subst T (sym (h x)) (among_i x l m)

  pub settled_not : T (has settled y) → false ≡ can_follow pairs l y
  settled_not t = sym (not_of (can_follow pairs l y) (λ c. (follow_e pairs l y c).0 (member y t)))

  module _ (befores : List ℕ) (b : Befores pairs (length pairs / 2) befores) where
    all_settled : has settled y ≡ false → bit_or (at befores y) settled ≡ settled → true ≡ can_follow pairs l y
    all_settled n e = sym (of_T (can_follow pairs l y) (follow_i pairs l y (λ m. of_not (has settled y) n (member_has y m)) (λ x f. into x (before_index pairs x y f))))
      where
        into : (x : ℕ) → Indexed pairs x y → Memᴰ x l
        into x r =
            let i : r.index < length pairs / 2 = omega (arith, r.inside) in
            let t : T (has (at befores y) x) = subst (λ (z : ℕ). T (has (at befores y) z)) r.first
            (subst (λ (z : ℕ). T (has (at befores z) (at pairs (2 * r.index)))) r.second (b.within r.index i)) in
            member x (subst (λ (z : ℕ). T (has z x)) e (or_i (at befores y) settled x (inl t)))

    some_wait : settled < 2 ^ 64 → (bit_or (at befores y) settled ≡ settled → ⊥) → false ≡ can_follow pairs l y
    some_wait s n = sym (not_of (can_follow pairs l y) (λ c. n (mask_ext 64 (bit_or (at befores y) settled) settled (or_lt 64 (at befores y) settled (b.few y) s) s
        (λ v k. has_or (at befores y) settled v ∙ go (has (at befores y) v) (has settled v) (here c v)))))
      where
        go : (p q : Bool) → (T p → T q) → either p q ≡ q
        go true true f = refl
        go true false f = absurd (f tt)
        go false q f = refl

        here : T (can_follow pairs l y) → (v : ℕ) → T (has (at befores y) v) → T (has settled v)
        here c v t =
            let r = b.alone v y t in
            member_has v ((follow_e pairs l y c).1 v (subst (λ (z : ℕ). Before pairs v z) r.3
            (subst (λ (z : ℕ). Before pairs z (at pairs (2 * r.0 + 1))) r.2 (before_at pairs r.0 (omega (arith, r.1))))))

    pub follows : has settled y ≡ false → settled < 2 ^ 64 → eqb (bit_or (at befores y) settled) settled ≡ can_follow pairs l y
    follows n s = go (ℕ_discrete (bit_or (at befores y) settled) settled)
      where
        go : Dec (bit_or (at befores y) settled ≡ settled) → eqb (bit_or (at befores y) settled) settled ≡ can_follow pairs l y
        go (yes e) = eq-eqb (bit_or (at befores y) settled) settled e ∙ all_settled n e
        go (no m) = ne_eqb (bit_or (at befores y) settled) settled m ∙ some_wait s m

-- ---- forerunners, one pair after another
pub below_64 : (x : ℕ) → x < 16 → x < 64
below_64 x h = omega arith

pub befores_begin : (pairs befores : List ℕ) → length befores ≡ 16 → ((y : ℕ) → at befores y ≡ 0) → Befores pairs 0 befores
befores_begin pairs befores h z = record {
  within = λ i l. absurd (omega arith);
  alone = λ x y t. absurd (of_not (has (at befores y) x) (ap (λ (s : ℕ). has s x) (z y) ∙ has_none x) t);
  few = λ y. (let e = z y in omega arith);
  size = h;
}

module _ (pairs befores : List ℕ) (i one : ℕ) (b : Befores pairs i befores) (h : at pairs (2 * i + 1) < 16) (f : one < 2 ^ 64) (o : (y : ℕ) → has one y ≡ eqb y (at pairs (2 * i))) where
  abbrev first : ℕ
  first = at pairs (2 * i)

  abbrev second : ℕ
  second = at pairs (2 * i + 1)

  abbrev united : ℕ
  united = bit_or (at befores (at pairs (2 * i + 1))) one

  abbrev after : List ℕ
  after = set befores (at pairs (2 * i + 1)) (bit_or (at befores (at pairs (2 * i + 1))) one)

  there : (y : ℕ) → y ≡ second → at after y ≡ united
  there y e = ap (at after) e ∙ at_set befores second united (omega (arith, b.size))

  grows : (x y : ℕ) → T (has (at befores y) x) → Dec (y ≡ second) → T (has (at after y) x)
  grows x y t (yes e) = subst (λ (s : ℕ). T (has s x)) (sym (there y e)) (or_i (at befores second) one x (inl (subst (λ (z : ℕ). T (has (at befores z) x)) e t)))
  grows x y t (no n) = subst (λ (s : ℕ). T (has s x)) (sym (at_set_other befores second united y n)) t

  pub befores_turn : Befores pairs (i + 1) (set befores (at pairs (2 * i + 1)) (bit_or (at befores (at pairs (2 * i + 1))) one))
  befores_turn = record {
    within = λ j l. within j l (ℕ_discrete j i);
    alone = λ x y t. alone x y t (ℕ_discrete y second);
    few = λ y. few y (ℕ_discrete y second);
    size = length-set befores second united ∙ b.size;
  }
    where
      within : (j : ℕ) → j < i + 1 → Dec (j ≡ i) → T (has (at after (at pairs (2 * j + 1))) (at pairs (2 * j)))
      within j l (yes e) =
          subst (λ (k : ℕ). T (has (at after (at pairs (2 * k + 1))) (at pairs (2 * k)))) (sym e)
          (subst (λ (s : ℕ). T (has s first)) (sym (there second refl)) (or_i (at befores second) one first (inr (subst T (sym (o first)) (eqb_refl first)))))
      within j l (no n) = grows (at pairs (2 * j)) (at pairs (2 * j + 1)) (b.within j (omega arith)) (ℕ_discrete (at pairs (2 * j + 1)) second)

      wider : (x y : ℕ) → (j : ℕ) × (j < i) × (at pairs (2 * j) ≡ x) × (at pairs (2 * j + 1) ≡ y) → (j : ℕ) × (j < i + 1) × (at pairs (2 * j) ≡ x) × (at pairs (2 * j + 1) ≡ y)
      wider x y r = (r.0, let k = r.1 in omega arith, r.2, r.3)

      split : (x y : ℕ) → y ≡ second → T (has (at befores second) x) ⊎ T (has one x) → (j : ℕ) × (j < i + 1) × (at pairs (2 * j) ≡ x) × (at pairs (2 * j + 1) ≡ y)
      split x y e (inl t) = wider x y (b.alone x y (subst (λ (z : ℕ). T (has (at befores z) x)) (sym e) t))
      split x y e (inr t) = (i, omega arith, sym (eqb-true x first (of_T (eqb x first) (subst T (o x) t))), sym e)

      alone : (x y : ℕ) → T (has (at after y) x) → Dec (y ≡ second) → (j : ℕ) × (j < i + 1) × (at pairs (2 * j) ≡ x) × (at pairs (2 * j + 1) ≡ y)
      alone x y t (yes e) = split x y e (or_e (at befores second) one x (subst (λ (s : ℕ). T (has s x)) (there y e) t))
      alone x y t (no n) = wider x y (b.alone x y (subst (λ (s : ℕ). T (has s x)) (at_set_other befores second united y n) t))

      few : (y : ℕ) → Dec (y ≡ second) → at after y < 2 ^ 64
      few y (yes e) = subst (λ (s : ℕ). s < 2 ^ 64) (sym (there y e)) (or_lt 64 (at befores second) one (b.few second) f)
      few y (no n) = subst (λ (s : ℕ). s < 2 ^ 64) (sym (at_set_other befores second united y n)) (b.few y)

pub befores_end : (pairs befores : List ℕ) (n i : ℕ) → n ≤ i → i ≤ n → Befores pairs i befores → Befores pairs n befores
befores_end pairs befores n i h l b = let e : i ≡ n = omega arith in subst (λ (k : ℕ). Befores pairs k befores) e b

-- ---- the order, one place after another
any_last : (x : ℕ) (b : Bool) → either b (any (eqb x) []) ≡ b
unfolding any
any_last x true = refl
any_last x false = refl

any_append : (x : ℕ) (l : List ℕ) (z : ℕ) → any (eqb x) (l ++ (z ∷ [])) ≡ either (any (eqb x) l) (eqb x z)
any_append x [] z = any_cons (eqb x) z [] ∙ any_last x (eqb x z) ∙ ap (λ (b : Bool). either b (eqb x z)) (sym (any_last x false))
any_append x (a ∷ l) z = any_cons (eqb x) a (l ++ (z ∷ [])) ∙ go (any_append x l z) (eqb x a) ∙ ap (λ (b : Bool). either b (eqb x z)) (sym (any_cons (eqb x) a l))
  where
    go : any (eqb x) (l ++ (z ∷ [])) ≡ either (any (eqb x) l) (eqb x z) → (b : Bool) → either b (any (eqb x) (l ++ (z ∷ []))) ≡ either (either b (any (eqb x) l)) (eqb x z)
    go ih true = refl
    go ih false = ih

module _ (n : ℕ) (pairs : List ℕ) where
  abbrev next_of : ℕ → ℕ
  next_of k = least n (can_follow pairs (settled_first n pairs k))

  first_more : (k : ℕ) → settled_first n pairs (suc k) ≡ settled_first n pairs k ++ (next_of k ∷ [])
  unfolding settled_first
  first_more k = refl

  -- the first k places are settled, and each is below n
  pub record Placing (k settled : ℕ) (old new : List ℕ) : Type 0 where
    pub holds : SetOf settled (settled_first n pairs k)
    pub placed : (i : ℕ) → i < k → at new i ≡ next_of i
    pub others : (i : ℕ) → k ≤ i → at new i ≡ at old i
    pub small : (i : ℕ) → i < k → next_of i < n
    pub size : length new ≡ length old

  pub placing_begin : (l : List ℕ) → Placing 0 0 l l
  unfolding settled_first any
  placing_begin l = record { holds = λ x. has_none x; placed = λ i h. absurd (not-suc-le-zero h); others = λ i h. refl; small = λ i h. absurd (not-suc-le-zero h); size = refl }

  pub placing_turn : (k settled x one : ℕ) (old new : List ℕ) → Placing k settled old new → k < length old → x ≡ next_of k → x < n → ((y : ℕ) → has one y ≡ eqb y x) →
      Placing (k + 1) (bit_or settled one) old (set new k x)
  placing_turn k settled x one old new r h e l o = record {
    holds = λ y. has_or settled one y ∙ ap₂ either (r.holds y) (o y ∙ ap (eqb y) e) ∙ sym (any_append y (settled_first n pairs k) (next_of k)) ∙ ap (any (eqb y)) (sym step);
    placed = λ i m. placed i m (ℕ_discrete i k);
    others = λ i m. at_set_other new k x i (λ q. omega arith) ∙ r.others i (omega arith);
    small = λ i m. small i m (ℕ_discrete i k);
    size = length-set new k x ∙ r.size;
  }
    where
      step : settled_first n pairs (k + 1) ≡ settled_first n pairs k ++ (next_of k ∷ [])
      step = ap (settled_first n pairs) (let q : k + 1 ≡ suc k = omega arith in q) ∙ first_more k

      placed : (i : ℕ) → i < k + 1 → Dec (i ≡ k) → at (set new k x) i ≡ next_of i
      placed i m (yes q) = ap (at (set new k x)) q ∙ at_set new k x (omega (arith, r.size)) ∙ e ∙ ap (λ (j : ℕ). next_of j) (sym q)
      placed i m (no q) = at_set_other new k x i q ∙ r.placed i (omega arith)

      small : (i : ℕ) → i < k + 1 → Dec (i ≡ k) → next_of i < n
      small i m (yes q) = subst (λ (j : ℕ). next_of j < n) (sym q) (subst (λ (z : ℕ). z < n) e l)
      small i m (no q) = r.small i (omega arith)

  pub placing_stuck : (k settled : ℕ) (old new : List ℕ) → Placing k settled old new → k < n → next_of k ≡ n → Settled n pairs old new false
  unfolding settles_all settling_order
  placing_stuck k settled old new r h e = record {
    answer = below_not (settled_first n pairs n) n k (omega (arith, first_length n pairs n)) (subst (λ (z : ℕ). n ≤ z) (sym e ∙ sym (first_at n pairs n k h)) (omega arith));
    places = λ t i m. absurd t;
    others = λ t i m. absurd t;
    size = r.size;
  }

  pub placing_end : (k settled : ℕ) (old new : List ℕ) → Placing k settled old new → n ≤ k → k ≤ n → Settled n pairs old new true
  unfolding settles_all settling_order
  placing_end k settled old new r h l = record {
    answer = below_all (settled_first n pairs n) n (λ i m. let q : i < n = omega (arith, first_length n pairs n) in subst (λ (z : ℕ). z < n) (sym (first_at n pairs n i q)) (r.small i (omega arith)));
    places = λ t i m. r.placed i (omega arith) ∙ sym (first_at n pairs n i m);
    others = λ t i m. r.others i (omega arith);
    size = r.size;
  }

-- ---- the answers
module _ (n : ℕ) (pairs old : List ℕ) where
  pub not_whole : (128 < length pairs) ⊎ (length pairs % 2 ≡ 0 → ⊥) → Ordered n pairs old old (Err question.WholePairs)
  unfolding order_verdict
  not_whole h = record {
    answer = λ later. ap (λ (b : Bool). ask b 28 0 (ask (all (λ x. ltb x n) pairs) 29 0 (ask (settles_all n pairs) 30 0 later))) (no h);
    settled = λ e. absurd (cc);
    rest = λ e. absurd (cc);
    kept = λ e. refl;
    size = refl;
  }
    where
      no : (128 < length pairs) ⊎ (length pairs % 2 ≡ 0 → ⊥) → both (leb (length pairs) 128) (eqb (length pairs % 2) 0) ≡ false
      no (inl long) = ap (λ (b : Bool). both b (eqb (length pairs % 2) 0)) (lt-leb (length pairs) 128 long)
      no (inr odd) = ap (both (leb (length pairs) 128)) (ne_eqb (length pairs % 2) 0 odd) ∙ both_false (leb (length pairs) 128)

  module _ (few : length pairs ≤ 128) where
    module _ (whole : length pairs % 2 ≡ 0) where
      first_asked : (later : Verdict) → order_verdict n pairs later ≡ ask (all (λ x. ltb x n) pairs) 29 0 (ask (settles_all n pairs) 30 0 later)
      unfolding order_verdict
      first_asked later = ap₂ (λ (b c : Bool). ask (both b c) 28 0 (ask (all (λ x. ltb x n) pairs) 29 0 (ask (settles_all n pairs) 30 0 later))) (le-leb (length pairs) 128 few)
          (eq-eqb (length pairs % 2) 0 whole)

      pub outside : all (λ x. ltb x n) pairs ≡ false → Ordered n pairs old old (Err question.PairPlaces)
      outside h = record {
        answer = λ later. first_asked later ∙ ap (λ (b : Bool). ask b 29 0 (ask (settles_all n pairs) 30 0 later)) h;
        settled = λ e. absurd (cc);
        rest = λ e. absurd (cc);
        kept = λ e. refl;
        size = refl;
      }

      module _ (inside : all (λ x. ltb x n) pairs ≡ true) where
        pub circle : (mid new : List ℕ) (r : Bool) → Settled n pairs mid new r → r ≡ false → Ordered n pairs old old (Err question.NoCircle)
        circle mid new r s e = record {
          answer = λ later. first_asked later ∙ ap₂ (λ (b c : Bool). ask b 29 0 (ask c 30 0 later)) inside (sym s.answer ∙ e);
          settled = λ z. absurd (cc);
          rest = λ z. absurd (cc);
          kept = λ z. refl;
          size = refl;
        }

        pub ordered : (new : List ℕ) (r : Bool) → n ≤ length old → Settled n pairs old new r → r ≡ true → Ordered n pairs old new (Ok tt)
        unfolding at
        ordered new r long s e = record {
          answer = λ later. first_asked later ∙ ap₂ (λ (b c : Bool). ask b 29 0 (ask c 30 0 later)) inside (sym s.answer ∙ e);
          settled = λ z. take_is;
          rest = λ z. drop_is;
          kept = λ z. absurd (cc);
          size = s.size;
        }
          where
            take_long : length (take n new) ≡ n
            take_long = length-take n new ∙ (let e = s.size in omega arith)

            take_is : take n new ≡ settling_order n pairs
            take_is = at_ext (take n new) (settling_order n pairs) (take_long ∙ sym (order_length n pairs))
                (λ i h. let l : i < n = omega (arith, take_long) in at_take n new i l ∙ s.places (T_of r e) i l)

            drop_is : drop n new ≡ drop n old
            drop_is =
                at_ext (drop n new) (drop n old) (length-drop n new ∙ ap (λ (k : ℕ). k - n) s.size ∙ sym (length-drop n old))
                (λ i h. get_or-drop n new i 0 ∙ s.others (T_of r e) (n + i) (omega arith) ∙ sym (get_or-drop n old i 0))

-- ---- for callers: the bytes are the settling order in the paper's words
pub settling_of : (n : ℕ) (pairs old new : List ℕ) (r : Result Unit Question) → Ordered n pairs old new r → is_ok r ≡ true → Settling n pairs (take n new)
settling_of n pairs old new (Err asked) q e = absurd (cc)
settling_of n pairs old new (Ok done) q e =
    subst (λ (l : List ℕ). Settling n pairs l) (sym (q.settled e)) (order_passed n pairs accepted (subst (λ (v : Verdict). T (is_accepted v)) (sym (q.answer accepted)) tt)).0.settled

-- ---- pairs one after another, two bytes each
-- the chunk after i pairs, and what is left behind it
pub record Taken (pairs pair behind : List ℕ) (i : ℕ) : Type 0 where
  pub inside : 2 * i + 1 < length pairs
  pub first : get_or pair 0 0 ≡ get_or pairs (2 * i) 0
  pub second : get_or pair 1 0 ≡ get_or pairs (2 * i + 1) 0
  pub onward : behind ≡ drop (2 * (i + 1)) pairs
  pub first_small : get_or pair 0 0 < 16
  pub second_small : get_or pair 1 0 < 16

pub taken : (pairs pair rest behind : List ℕ) (i size : ℕ) → ((j : ℕ) → j < length pairs → at pairs j < 16) → size ≡ 2 → rest ≡ drop (2 * i) pairs → rest ≡ pair ++ behind →
    length pair ≡ size → Taken pairs pair behind i
unfolding at
taken pairs [] rest behind i size small two e f h = absurd (omega arith)
taken pairs (a ∷ []) rest behind i size small two e f h = absurd (omega arith)
taken pairs (a ∷ b ∷ c ∷ l) rest behind i size small two e f h = absurd (omega arith)
taken pairs (a ∷ b ∷ []) rest behind i size small two e f h = record {
  inside = inside;
  first = first;
  second = second;
  onward = ap (drop 2) (sym g) ∙ drop-drop 2 (2 * i) pairs ∙ ap (λ (k : ℕ). drop k pairs) one_more;
  first_small = omega (arith, first, small (2 * i) (omega (arith, inside)));
  second_small = omega (arith, second, small (2 * i + 1) inside);
}
  where
    g : drop (2 * i) pairs ≡ a ∷ b ∷ behind
    g = sym e ∙ f

    inside : 2 * i + 1 < length pairs
    inside = omega (arith, length-drop (2 * i) pairs, ap length g)

    zero_more : 2 * i + 0 ≡ 2 * i
    zero_more = omega arith

    one_more : 2 * i + 2 ≡ 2 * (i + 1)
    one_more = omega arith

    first : a ≡ get_or pairs (2 * i) 0
    first = ap (λ (l : List ℕ). get_or l 0 0) (sym g) ∙ get_or-drop (2 * i) pairs 0 0 ∙ ap (λ (k : ℕ). get_or pairs k 0) zero_more

    second : b ≡ get_or pairs (2 * i + 1) 0
    second = ap (λ (l : List ℕ). get_or l 1 0) (sym g) ∙ get_or-drop (2 * i) pairs 1 0

-- the library's test of a list is the model's
pub all_is : (p : ℕ → Bool) (l : List ℕ) → list_all p l ≡ all p l
unfolding all
all_is p [] = refl
all_is p (x ∷ l) = go (p x) (all_is p l)
  where
    go : (b : Bool) → list_all p l ≡ all p l → (b && list_all p l) ≡ (elim b [ true ↦ all p l | false ↦ false ])
    go true e = e
    go false e = refl

-- the forerunners after one more pair
pub befores_taken : (pairs pair behind : List ℕ) (i n y one : ℕ) (befores : List ℕ) → Taken pairs pair behind i → n ≡ i + 1 → y ≡ get_or pair 1 0 → Befores pairs i befores →
    one < 2 ^ 64 → ((z : ℕ) → has one z ≡ eqb z (get_or pair 0 0)) → Befores pairs n (set befores y (bit_or (at befores y) one))
unfolding at
befores_taken pairs pair behind i n y one befores t e s b f o =
    subst (λ (k : ℕ). Befores pairs k (set befores y (bit_or (at befores y) one))) (sym e)
    (subst (λ (z : ℕ). Befores pairs (i + 1) (set befores z (bit_or (at befores z) one))) (sym (s ∙ t.second))
    (befores_turn pairs befores i one b (omega (arith, t.second, t.second_small)) f (λ z. o z ∙ ap (eqb z) t.first)))
