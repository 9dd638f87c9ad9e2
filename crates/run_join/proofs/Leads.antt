-- The heads that lead to the last path. Assumes nothing.
use Rattle.model.specs.Kit.{◌≡◌, refl, sym, ap, ◌∙◌, subst, Bool, true, false, not, ◌⊎◌, inl, inr, List, [], ◌∷◌, ℕ, zero, suc, ◌+◌, ◌≤◌, ◌<◌, arith, T, eqb, ltb, length}
use Rattle.model.specs.Kit.{eqb-true, eqb-false, ltb-true, ltb-false}
use Rattle.std.specs.Prelude.{None, Some}
use Rattle.model.specs.Lists.{any, below, both, either, choose, keep, same}
use Rattle.model.proofs.Lists.{T_of, of_T, of_not, TExt, both_i, both_l, both_r, either_l, either_r, either_e, any_i, any_e, below_i, below_e, same_eq}
use Rattle.model.proofs.Members.{either_no}
use Rattle.run_cut.specs.Parts.{after}
use Rattle.run_join.specs.Join.{from_at, reach_at, heads_in, goes_on, comes, joined, leads, may_take}
use Rattle.run_join.specs.Inner.Inner.{marked, NoMarks, MarkedToo, MarkedBack, Pending, Leading, Ways}
use Rattle.run_join.proofs.{Slices.same_of, Fewer.keep_less, Fewer.further, Fewer.fewer, Fewer.further_few, Bits.too_itself, Bits.too_kept, Bits.too_other}

abbrev end : List ℕ
end = 255 ∷ []

module _ (l : List ℕ) where
  -- ---- one head after another
  -- a head begins at a path, goes on, and leads to the last path by so many heads
  abbrev pub Next : ℕ → List ℕ → Type 0
  Next f s = (k : ℕ) × (k < heads_in l) × (from_at l k ≡ s) × T (goes_on l k) × T (comes l f (reach_at l k))

  abbrev test : ℕ → List ℕ → ℕ → Bool
  test f s k = elim (both (same (from_at l k) s) (goes_on l k)) [ true ↦ comes l f (reach_at l k) | false ↦ false ]

  pub comes_end : (f : ℕ) (s : List ℕ) → s ≡ end → T (comes l f s)
  unfolding comes
  comes_end zero s e = same_of s end e
  comes_end (suc f) s e = go (same s end) refl
    where
      go : (b : Bool) → same s end ≡ b → T (elim b [ true ↦ true | false ↦ any (test f s) (below (heads_in l)) ])
      go true q = tt
      go false q = absurd (of_not (same s end) q (same_of s end e))

  pub comes_next : (f : ℕ) (s : List ℕ) → Next f s → T (comes l (suc f) s)
  unfolding comes
  comes_next f s (k, i, b, g, t) = go (same s end)
    where
      passed : (c : Bool) → T c → T (elim c [ true ↦ comes l f (reach_at l k) | false ↦ false ])
      passed true u = t
      passed false u = absurd u

      go : (b : Bool) → T (elim b [ true ↦ true | false ↦ any (test f s) (below (heads_in l)) ])
      go true = tt
      go false = any_i (test f s) (below (heads_in l)) k (below_i (heads_in l) k i) (passed (both (same (from_at l k) s) (goes_on l k))
          (both_i (same (from_at l k) s) (goes_on l k) (same_of (from_at l k) s b) g))

  pub comes_e : (f : ℕ) (s : List ℕ) → T (comes l (suc f) s) → (s ≡ end) ⊎ Next f s
  unfolding comes
  comes_e f s t = go (same s end) refl t
    where
      found : (k : ℕ) → k < heads_in l → (c : Bool) → both (same (from_at l k) s) (goes_on l k) ≡ c → T (elim c [ true ↦ comes l f (reach_at l k) | false ↦ false ]) → Next f s
      found k i true e u =
          let w = T_of (both (same (from_at l k) s) (goes_on l k)) e in
          (k, i, same_eq (from_at l k) s (both_l (same (from_at l k) s) (goes_on l k) w), both_r (same (from_at l k) s) (goes_on l k) w, u)
      found k i false e u = absurd u

      go : (b : Bool) → same s end ≡ b → T (elim b [ true ↦ true | false ↦ any (test f s) (below (heads_in l)) ]) → (s ≡ end) ⊎ Next f s
      go true e u = inl (same_eq s end (T_of (same s end) e))
      go false e u = let k = any_e (test f s) (below (heads_in l)) u in inr (found k.0 (below_e (heads_in l) k.0 k.1) (both (same (from_at l k.0) s) (goes_on l k.0)) refl k.2)

  -- ---- as many heads as there are are enough
  comes_zero : (s : List ℕ) → T (comes l 0 s) → s ≡ end
  unfolding comes
  comes_zero s t = same_eq s end t

  more : (f : ℕ) (s : List ℕ) → T (comes l f s) → T (comes l (suc f) s)
  more zero s t = comes_end 1 s (comes_zero s t)
  more (suc f) s t = go (more f) (comes_e f s t)
    where
      go : ((s : List ℕ) → T (comes l f s) → T (comes l (suc f) s)) → (s ≡ end) ⊎ Next f s → T (comes l (suc (suc f)) s)
      go ih (inl e) = comes_end (suc (suc f)) s e
      go ih (inr (k, i, b, g, u)) = comes_next (suc f) s (k, i, b, g, ih (reach_at l k) u)

  most : (f g : ℕ) (s : List ℕ) → f ≤ g → T (comes l f s) → T (comes l g s)
  most f zero s h t = let z : f ≡ 0 = omega arith in subst (λ (x : ℕ). T (comes l x s)) z t
  most f (suc g) s h t = go (most f g s) (ltb f (suc g)) refl
    where
      go : (f ≤ g → T (comes l f s) → T (comes l g s)) → (b : Bool) → ltb f (suc g) ≡ b → T (comes l (suc g) s)
      go ih true e = more g s (ih (let q = ltb-true f (suc g) e in omega arith) t)
      go ih false e = let z : f ≡ suc g = (let q = ltb-false f (suc g) e in omega arith) in subst (λ (x : ℕ). T (comes l x s)) z t

  few : (f : ℕ) (s : List ℕ) → T (comes l f s) → T (comes l (further l s) s)
  few zero s t = comes_end (further l s) s (comes_zero s t)
  few (suc f) s t = go (few f) (comes_e f s t)
    where
      go : ((s : List ℕ) → T (comes l f s) → T (comes l (further l s) s)) → (s ≡ end) ⊎ Next f s → T (comes l (further l s) s)
      go ih (inl e) = comes_end (further l s) s e
      go ih (inr (k, i, b, g, u)) =
          let h = fewer l s k i (subst (λ (x : List ℕ). T (after x (reach_at l k))) b g) in
          most (suc (further l (reach_at l k))) (further l s) s (omega arith) (comes_next (further l (reach_at l k)) s (k, i, b, g, ih (reach_at l k) u))

  pub comes_all : (f : ℕ) (s : List ℕ) → T (comes l f s) → T (comes l (heads_in l) s)
  comes_all f s t = most (further l s) (heads_in l) s (further_few l s) (few f s t)

  pub comes_from : (s : List ℕ) → Next (heads_in l) s → T (comes l (heads_in l) s)
  comes_from s n = comes_all (suc (heads_in l)) s (comes_next (heads_in l) s n)

  pub comes_out : (s : List ℕ) → T (comes l (heads_in l) s) → (s ≡ end) ⊎ Next (heads_in l) s
  comes_out s t = comes_e (heads_in l) s (more (heads_in l) s t)

-- ---- the heads that reach a path are marked, head by head
-- those of the first k heads that go on and reach the path s are marked too, and no others
abbrev pub Back : List ℕ → List ℕ → ℕ → List ℕ → List ℕ → Type 0
Back s l k marks marks' =
    (length marks' ≡ 1024) × ((j : ℕ) → j < k → marked marks' j ≡ either (marked marks j) (both (same (reach_at l j) s) (goes_on l j))) × ((j : ℕ) → k ≤ j → marked marks' j ≡ marked marks j)

pub back_none : (s l marks : List ℕ) → length marks ≡ 1024 → Back s l 0 marks marks
back_none s l marks long = (long, λ j h. absurd (omega arith), λ j h. refl)

module _ (s l : List ℕ) (k : ℕ) (marks old : List ℕ) (b : Back s l k marks old) where
  at_k : (j : ℕ) → j < k + 1 → (ltb j k ≡ false) → k ≡ j
  at_k j h e = let f = ltb-false j k e in omega arith

  pub back_yes : (new : List ℕ) → both (same (reach_at l k) s) (goes_on l k) ≡ true → MarkedToo old k new → Back s l (k + 1) marks new
  back_yes new e m = (m.long, λ j h. go j h (ltb j k) refl, λ j h. too_other old k new m j (λ z. omega arith) ∙ b.2 j (omega arith))
    where
      or_true : (x : Bool) → either x true ≡ true
      or_true true = refl
      or_true false = refl

      go : (j : ℕ) → j < k + 1 → (c : Bool) → ltb j k ≡ c → marked new j ≡ either (marked marks j) (both (same (reach_at l j) s) (goes_on l j))
      go j h true q = let i = ltb-true j k q in too_other old k new m j (λ z. omega arith) ∙ b.1 j i
      go j h false q =
          subst (λ (x : ℕ). marked new x ≡ either (marked marks x) (both (same (reach_at l x) s) (goes_on l x))) (at_k j h q)
          (too_itself old k new m ∙ sym (ap (either (marked marks k)) e ∙ or_true (marked marks k)))

  pub back_no : both (same (reach_at l k) s) (goes_on l k) ≡ false → Back s l (k + 1) marks old
  back_no e = (b.0, λ j h. go j h (ltb j k) refl, λ j h. b.2 j (omega arith))
    where
      go : (j : ℕ) → j < k + 1 → (c : Bool) → ltb j k ≡ c → marked old j ≡ either (marked marks j) (both (same (reach_at l j) s) (goes_on l j))
      go j h true q = b.1 j (ltb-true j k q)
      go j h false q =
          subst (λ (x : ℕ). marked old x ≡ either (marked marks x) (both (same (reach_at l x) s) (goes_on l x))) (at_k j h q)
          (b.2 k (omega arith) ∙ sym (ap (either (marked marks k)) e ∙ either_no (marked marks k)))

pub back_all : (s l : List ℕ) (n k : ℕ) (marks new : List ℕ) → n ≤ k → Back s l k marks new → MarkedBack s l n marks new
back_all s l n k marks new h b = record { long = b.0; bits = λ j i. b.1 j (omega arith) }

-- ---- heads that lead are marked, one behind the other
-- what is marked leads; marked are the heads that reach the last path, and those that reach where a head begins that is done
pub record Marking (l : List ℕ) (n : ℕ) (marks done : List ℕ) : Type 0 where
  pub long : length marks ≡ 1024
  pub wide : length done ≡ 1024
  pub sound : (k : ℕ) → k < n → T (marked marks k) → T (leads l k)
  pub last : (k : ℕ) → k < n → reach_at l k ≡ end → T (goes_on l k) → T (marked marks k)
  pub back : (j : ℕ) → j < n → T (marked done j) → (k : ℕ) → k < n → reach_at l k ≡ from_at l j → T (goes_on l k) → T (marked marks k)

-- those not done
abbrev pub left : ℕ → List ℕ → ℕ
left n done = length (keep (λ k. not (marked done k)) (below n))

module _ (l : List ℕ) (n : ℕ) (many : n ≡ heads_in l) where
  marked_back : (s marks new : List ℕ) → MarkedBack s l n marks new → (k : ℕ) → k < n → reach_at l k ≡ s → T (goes_on l k) → T (marked new k)
  marked_back s marks new b k h e g =
      subst T (sym (b.bits k h)) (either_r (marked marks k) (both (same (reach_at l k) s) (goes_on l k)) (both_i (same (reach_at l k) s) (goes_on l k) (same_of (reach_at l k) s e) g))

  back_kept : (s marks new : List ℕ) → MarkedBack s l n marks new → (k : ℕ) → k < n → T (marked marks k) → T (marked new k)
  back_kept s marks new b k h t = subst T (sym (b.bits k h)) (either_l (marked marks k) (both (same (reach_at l k) s) (goes_on l k)) t)

  back_e : (s marks new : List ℕ) → MarkedBack s l n marks new → (k : ℕ) → k < n → T (marked new k) → T (marked marks k) ⊎ ((reach_at l k ≡ s) × T (goes_on l k))
  back_e s marks new b k h t = go (either_e (marked marks k) (both (same (reach_at l k) s) (goes_on l k)) (subst T (b.bits k h) t))
    where
      go : T (marked marks k) ⊎ T (both (same (reach_at l k) s) (goes_on l k)) → T (marked marks k) ⊎ ((reach_at l k ≡ s) × T (goes_on l k))
      go (inl u) = inl u
      go (inr u) = inr (same_eq (reach_at l k) s (both_l (same (reach_at l k) s) (goes_on l k) u), both_r (same (reach_at l k) s) (goes_on l k) u)

  pub marking_begin : (s marks new done : List ℕ) → s ≡ end → NoMarks marks → MarkedBack s l n marks new → NoMarks done → Marking l n new done
  marking_begin s marks new done z none b d =
      record {
        long = b.long;
        wide = d.long;
        sound = λ k h t. leading k (back_e s marks new b k h t);
        last = λ k h e g. marked_back s marks new b k h (e ∙ sym z) g;
        back = λ j h t. absurd (of_not (marked done j) (d.none j) t);
      }
    where
      leading : (k : ℕ) → T (marked marks k) ⊎ ((reach_at l k ≡ s) × T (goes_on l k)) → T (leads l k)
      leading k (inl t) = absurd (of_not (marked marks k) (none.none k) t)
      leading k (inr (e, g)) = both_i (goes_on l k) (comes l (heads_in l) (reach_at l k)) g (comes_end l (heads_in l) (reach_at l k) (e ∙ z))

  module _ (marks done : List ℕ) (m : Marking l n marks done) (j : ℕ) (p : Pending marks done n (Some j)) where
    pub marking_inside : j < n
    marking_inside = (p.one j refl).0

    pub marking_turn : (done' new : List ℕ) → MarkedToo done j done' → MarkedBack (from_at l j) l n marks new → Marking l n new done'
    marking_turn done' new t b =
        record {
          long = b.long;
          wide = t.long;
          sound = λ k h u. leading k h (back_e (from_at l j) marks new b k h u);
          last = λ k h e g. back_kept (from_at l j) marks new b k h (m.last k h e g);
          back = λ i h u k q e g. before i h u k q e g (eqb i j) refl;
        }
      where
        lead : T (leads l j)
        lead = m.sound j marking_inside (p.one j refl).1

        leading : (k : ℕ) → k < n → T (marked marks k) ⊎ ((reach_at l k ≡ from_at l j) × T (goes_on l k)) → T (leads l k)
        leading k h (inl u) = m.sound k h u
        leading k h (inr (e, g)) =
            both_i (goes_on l k) (comes l (heads_in l) (reach_at l k)) g
            (comes_from l (reach_at l k) (
              j,
              let i = marking_inside in omega arith,
              sym e,
              both_l (goes_on l j) (comes l (heads_in l) (reach_at l j)) lead,
              both_r (goes_on l j)
                  (comes l (heads_in l) (reach_at l j)) lead,
            ))

        before : (i : ℕ) → i < n → T (marked done' i) → (k : ℕ) → k < n → reach_at l k ≡ from_at l i → T (goes_on l k) → (c : Bool) → eqb i j ≡ c → T (marked new k)
        before i h u k q e g true z = marked_back (from_at l j) marks new b k q (e ∙ ap (from_at l) (eqb-true i j z)) g
        before i h u k q e g false z = back_kept (from_at l j) marks new b k q (m.back i h (subst T (too_other done j done' t i (eqb-false i j z)) u) k q e g)

    pub fewer_left : (done' : List ℕ) → MarkedToo done j done' → left n done' < left n done
    fewer_left done' t =
        keep_less (λ k. not (marked done k)) (λ k. not (marked done' k)) (λ k u. not_kept (marked done k) (marked done' k) (too_kept done j done' t k) u) (below n) j
        (below_i n j marking_inside) (not_i (marked done j) (p.one j refl).2) (not_e (marked done' j) (too_itself done j done' t))
      where
        not_e : (b : Bool) → b ≡ true → T (not b) → ⊥
        not_e true e u = u
        not_e false e u = of_not false refl (T_of false e)

        not_kept : (a b : Bool) → (T a → T b) → T (not b) → T (not a)
        not_kept true b f u = not_e b (of_T b (f tt)) u
        not_kept false b f u = tt

        not_i : (a : Bool) → (T a → ⊥) → T (not a)
        not_i true f = f tt
        not_i false f = tt

  pub marking_end : (marks done : List ℕ) → Marking l n marks done → Pending marks done n None → Leading l n marks
  marking_end marks done m p = record {
    long = m.long;
    bits = λ k h. TExt (marked marks k) (leads l k) (m.sound k h)
        (λ t. all (heads_in l) k h (both_l (goes_on l k) (comes l (heads_in l) (reach_at l k)) t) (both_r (goes_on l k) (comes l (heads_in l) (reach_at l k)) t));
  }
    where
      all : (f k : ℕ) → k < n → T (goes_on l k) → T (comes l f (reach_at l k)) → T (marked marks k)
      all zero k h g t = m.last k h (comes_zero l (reach_at l k) t) g
      all (suc f) k h g t = go (all f) (comes_e l f (reach_at l k) t)
        where
          go : ((j : ℕ) → j < n → T (goes_on l j) → T (comes l f (reach_at l j)) → T (marked marks j)) → (reach_at l k ≡ end) ⊎ Next l f (reach_at l k) → T (marked marks k)
          go ih (inl e) = m.last k h e g
          go ih (inr (j, i, b, u, v)) = let w : j < n = omega arith in m.back j w (p.none refl j w (ih j w u v)) k h (sym b) g

  -- ---- whether a marked head begins at the empty path
  pub ways_joined : (marks : List ℕ) → Leading l n marks → any (λ k. both (marked marks k) (same (from_at l k) [])) (below n) ≡ joined l
  unfolding same
  ways_joined marks m = TExt (any first (below n)) (joined l) there (λ t. back (comes_out l [] t))
    where
      first : ℕ → Bool
      first k = both (marked marks k) (same (from_at l k) [])

      there : T (any first (below n)) → T (joined l)
      there t =
          let k = any_e first (below n) t in
          let h = below_e n k.0 k.1 in
          let u = subst T (m.bits k.0 h) (both_l (marked marks k.0) (same (from_at l k.0) []) k.2) in
          comes_from l [] (
            k.0,
            omega (arith, h),
            same_eq (from_at l k.0) [] (both_r (marked marks k.0) (same (from_at l k.0) []) k.2),
            both_l (goes_on l k.0)
                (comes l (heads_in l) (reach_at l k.0)) u,
            both_r (goes_on l k.0) (comes l (heads_in l) (reach_at l k.0)) u,
          )

      back : ([] ≡ end) ⊎ Next l (heads_in l) [] → T (any first (below n))
      back (inl e) = absurd (same_of [] end e)
      back (inr (k, i, b, g, t)) =
          let h : k < n = omega arith in
          any_i first (below n) k (below_i n k h) (both_i (marked marks k) (same (from_at l k) []) (subst T (sym (m.bits k h)) (both_i (goes_on l k) (comes l (heads_in l) (reach_at l k)) g t))
          (same_of (from_at l k) [] b))

  pub ways_yes : (marks : List ℕ) → Leading l n marks → joined l ≡ true → Ways l n marks true
  unfolding may_take
  ways_yes marks m e = record { joins = sym e; may = λ k h. m.bits k h ∙ sym (ap (λ (b : Bool). choose b (leads l k) true) e) }

  pub ways_no : (marks : List ℕ) → ((k : ℕ) → k < n → marked marks k ≡ true) → joined l ≡ false → Ways l n marks false
  unfolding may_take
  ways_no marks m e = record { joins = sym e; may = λ k h. m k h ∙ sym (ap (λ (b : Bool). choose b (leads l k) true) e) }
