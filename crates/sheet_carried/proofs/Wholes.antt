-- Rows of a constraint on the images that come from rows: for the values of all three variables at once. Assumes nothing.
use Rattle.model.specs.Kit.{◌≡◌, refl, sym, ap, ap₂, ◌∙◌, subst, true, List, [], ◌∷◌, inl, inr, ⊎_elim, ℕ, ◌+◌, ◌*◌, ◌/◌, ◌%◌, ◌<◌, arith, bit_and, T, eqb, length, drop}
use Rattle.model.specs.{Lists.any, Lists.at, Lists.both, ValueSets.has, ValueSets.members, ValueSets.common_mask, Problem.Problem, Problem.constraint_at, Inner.WellFormed.Stated}
use Rattle.model.proofs.{Lists.TDec, Lists.T_of, Lists.of_T, Lists.all_i, Lists.both_i, Lists.mem_at, Lists.among_e, Sets.mask_i, Sets.members_e}
use Rattle.sheet_table.specs.{Inner.Table.Ready, Inner.Forbidden.On, Inner.Forbidden.Across, Inner.Forbidden.Three, Inner.Forbidden.Walking}
use Rattle.sheet_table.specs.Inner.Forbidden.{FromRow, FromRows, FirstsFrom, SecondsFrom, Whole, WholeFrom, keeps}
use Rattle.sheet_table.proofs.Codes.{good, init_16, code_16, code_pair}
use Rattle.sheet_carried.proofs.Surely.{on_three_lt, on_three, on_turned, after, first_two_turned, last_two_turned}
use Rattle.sheet_carried.proofs.{Walks.walk_start, Walks.further, Walks.keeps_here, Across.carried_all}

-- as the code finds them: the values of x in the set at i
pub firsts_from : (p : Problem) → Stated p → (supports moves : List ℕ) (from i x w : ℕ) → x < p.variables →
    (first s set : ℕ) → first ≡ at p.initial x → s ≡ at supports i → set ≡ common_mask first s →
    ((t : ℕ) → T (has set t) → T (has (at supports (from + 16 * at moves (16 * x + t))) w)) → FirstsFrom p supports moves from i x w
firsts_from p st supports moves from i x w l first s set ef es e h t a b =
    h t
    (subst (λ (n : ℕ). T (has n t)) (sym (e ∙ ap₂ common_mask ef es))
    (mask_i (λ n. both (has (at p.initial x) n) (has (at supports i) n)) t (init_16 p st x t l a) (both_i (has (at p.initial x) t) _ a b)))

-- one of the constraints on the three variables
pub three_of : (p : Problem) (numbers supports : List ℕ) → Ready p numbers supports → (x y z : ℕ) → x < 16 → y < 16 → z < 16 →
    (set m : ℕ) → set ≡ bit_and (bit_and (at numbers x) (at numbers y)) (at numbers z) → T (has set m) →
    Three p numbers supports m x y z
three_of p numbers supports r x y z lx ly lz set m es i =
    let h = on_three p numbers supports r x y z lx ly lz set es m i in
    record { ready = r; inside = on_three_lt p numbers supports r x y z lx ly lz set es m i; has_first = h.0; has_second = h.1; has_third = h.2 }

-- by the sets of constraint m, of which x is the last variable
module _ (p : Problem) (numbers supports moves : List ℕ) (m k x y z : ℕ) (h : Three p numbers supports m x y z) (ly : y < x) (lz : z < x) where
  w : Stated p
  w = h.ready.framed.stated

  scope_lt : (u : ℕ) → T (any (eqb u) (constraint_at p m).scope) → u < p.variables
  scope_lt u t = (good p w m h.inside).inside u (among_e u (constraint_at p m).scope t)

  pub three_in : (x < p.variables) × (y < p.variables) × (z < p.variables)
  three_in = (scope_lt x h.has_first, scope_lt y h.has_second, scope_lt z h.has_third)

  code : (u v : ℕ) → u < p.variables → T (has (at p.initial u) v) → ((16 * u + v) / 16 ≡ u) × ((16 * u + v) % 16 ≡ v)
  code u v l t = code_16 p w (16 * u + v) u v refl (init_16 p w u v l t)

  module _ (v u : ℕ) (tv : T (has (at p.initial y) v)) (tu : T (has (at p.initial z) u)) where
    cy : ((16 * y + v) / 16 ≡ y) × ((16 * y + v) % 16 ≡ v)
    cy = code y v three_in.1 tv

    cz : ((16 * z + u) / 16 ≡ z) × ((16 * z + u) % 16 ≡ u)
    cz = code z u three_in.2 tu

    on : On p numbers supports m (16 * y + v) (16 * z + u) x
    on =
        record {
          ready = h.ready;
          inside = h.inside;
          first = inr (code_pair p w y v three_in.1 tv);
          second = inr (code_pair p w z u three_in.2 tu);
          has_first = subst (λ (n : ℕ). T (any (eqb n) (constraint_at p m).scope)) (sym cy.0) h.has_second;
          has_second = subst (λ (n : ℕ). T (any (eqb n) (constraint_at p m).scope)) (sym cz.0) h.has_third;
          has_third = h.has_first;
        }

    -- what is no row of m is blocked, what is one comes from a row of k
    module _ (t i : ℕ) (tx : T (has (at p.initial x) t)) where
      abbrev Row : Type 0
      Row = FromRow p supports moves (256 * k + 16 * at moves (16 * x + t)) (16 * x + t) (16 * y + v) (16 * z + u)

      yes : FirstsFrom p supports moves (256 * k + at moves (16 * y + v)) i x (at moves (16 * z + u)) → T (has (at supports i) t) → Row
      yes f q =
          let spot : 256 * k + at moves (16 * y + v) + 16 * at moves (16 * x + t) ≡ 256 * k + 16 * at moves (16 * x + t) + at moves (16 * y + v) = omega arith in
          inr (subst (λ (n : ℕ). T (has (at supports n) (at moves (16 * z + u)))) spot (f t tx q))

      cx : ((16 * x + t) / 16 ≡ x) × ((16 * x + t) % 16 ≡ t)
      cx = code x t three_in.0 tx

      up : y < z → i ≡ 256 * m + 16 * v + 1 * u → (T (has (at supports i) t) → ⊥) → Row
      up l e q =
          let place : 256 * m + (16 * ((16 * y + v) % 16) + (16 * z + u) % 16) ≡ i = omega (arith, cy.1, cz.1) in
          inl (first_two_turned p _ _ _ (last_two_turned p _ _ _
          (after p numbers supports m (16 * y + v) (16 * z + u) x on (omega (arith, cy.0, cz.0)) (16 * x + t) cx.0 (code_pair p w x t three_in.0 tx) (omega (arith, cz.0))
          (λ r. q (subst T (ap₂ (λ (n j : ℕ). has (at supports n) j) place cx.1) r)))))

      down : z < y → i ≡ 256 * m + 1 * v + 16 * u → (T (has (at supports i) t) → ⊥) → Row
      down l e q =
          let place : 256 * m + (16 * ((16 * z + u) % 16) + (16 * y + v) % 16) ≡ i = omega (arith, cy.1, cz.1) in
          inl (last_two_turned p _ _ _ (first_two_turned p _ _ _ (last_two_turned p _ _ _
          (after p numbers supports m (16 * z + u) (16 * y + v) x (on_turned p numbers supports m (16 * y + v) (16 * z + u) x on) (omega (arith, cy.0, cz.0)) (16 * x + t) cx.0
          (code_pair p w x t three_in.0 tx) (omega (arith, cy.0)) (λ r. q (subst T (ap₂ (λ (n j : ℕ). has (at supports n) j) place cx.1) r))))))

  pub whole_up : y < z → SecondsFrom p supports moves k (256 * m) 16 1 x y z → WholeFrom p supports moves k x y z
  whole_up l s t v tx tv u tu =
      ⊎_elim {C = Row v u tv tu t (256 * m + 16 * v + 1 * u) tx} (yes v u tv tu t _ tx (s v tv u tu)) (up v u tv tu t _ tx l refl) (TDec (has (at supports (256 * m + 16 * v + 1 * u)) t))

  pub whole_down : z < y → SecondsFrom p supports moves k (256 * m) 1 16 x y z → WholeFrom p supports moves k x y z
  whole_down l s t v tx tv u tu =
      ⊎_elim {C = Row v u tv tu t (256 * m + 1 * v + 16 * u) tx} (yes v u tv tu t _ tx (s v tv u tu)) (down v u tv tu t _ tx l refl) (TDec (has (at supports (256 * m + 1 * v + 16 * u)) t))

-- ---- a constraint on three variables
module _ (p : Problem) (numbers supports codes moves : List ℕ) (k : ℕ) (s : Whole p numbers supports codes moves k) where
  st : Stated p
  st = s.lent.ready.framed.stated

  pub whole_in : (i : ℕ) → i < 3 → at (constraint_at p k).scope i < p.variables
  whole_in i h = (good p st k s.inside).inside _ (mem_at (constraint_at p k).scope i (omega (arith, s.three)))

  start : Walking p [] numbers supports codes moves k 3 0 255 255 255
  start = walk_start p numbers supports codes moves k 3 s.lent s.inside (sym s.three)

  some : ◌≡◌ {A = ℕ} 3 0 → ⊥
  some e = omega arith

  abbrev goes_to : ℕ → ℕ
  goes_to i = at moves (192 + at (constraint_at p k).scope i)

  module _ (m x y z : ℕ) (ex : x ≡ goes_to 0) (ey : y ≡ goes_to 1) (ez : z ≡ goes_to 2) (h : Three p numbers supports m x y z) (lx : x < 12) where
    module _ (v : ℕ) (t : T (has (at p.initial (at (constraint_at p k).scope 0)) v)) where
      a : ℕ
      a = at codes (16 * at (constraint_at p k).scope 0 + v)

      goes : a / 16 ≡ x
      unfolding a
      goes = s.lent.moved.to _ (whole_in 0 (omega arith)) v t (λ q. omega (arith, ex)) ∙ sym ex

      is : 16 * x + a % 16 ≡ a
      is = omega (arith, goes)

      across : Across p numbers supports m a y z
      unfolding a
      across =
          record {
            ready = h.ready;
            inside = h.inside;
            first = inr (s.lent.coded _ v (whole_in 0 (omega arith)) t);
            has_first = subst (λ (n : ℕ). T (any (eqb n) (constraint_at p m).scope)) (sym goes) h.has_first;
            has_second = h.has_second;
            has_third = h.has_third;
          }

      back : at moves (16 * x + a % 16) ≡ v
      unfolding a
      back = ap (at moves) is ∙ s.lent.moved.back _ v (whole_in 0 (omega arith)) t

      among : T (has (at p.initial x) (a % 16))
      unfolding a
      among = subst (λ (n : ℕ). T (has (at p.initial n) (a % 16))) goes (s.lent.coded _ v (whole_in 0 (omega arith)) t).1

      each : WholeFrom p supports moves k x y z → T (keeps p codes (constraint_at p k) (drop 1 (constraint_at p k).scope) (v ∷ []))
      unfolding a
      each f =
          let key : 256 * k + 16 * at moves (16 * x + a % 16) ≡ 256 * k + 16 * (16 * 0 + v) = omega (arith, back) in
          T_of _
          (sym (carried_all p (v ∷ []) numbers supports codes moves k 2 (16 * 0 + v) 255 255 a
          (further p [] numbers supports codes moves k 3 0 255 255 255 start some v t (λ o. absurd (omega arith))) refl s.three m y z ey ez across
          (λ u tu. subst (λ (n : ℕ). FromRows p supports moves (256 * k + 16 * (16 * 0 + v)) n (16 * y + u) z) is
          (subst (λ (n : ℕ). FromRows p supports moves n (16 * x + a % 16) (16 * y + u) z) key (f (a % 16) u among tu)))))

    pub whole_kept : WholeFrom p supports moves k x y z → true ≡ keeps p codes (constraint_at p k) (constraint_at p k).scope []
    whole_kept f =
        sym (of_T _
        (all_i (λ v. keeps p codes (constraint_at p k) (drop 1 (constraint_at p k).scope) (v ∷ [])) (members (at p.initial (at (constraint_at p k).scope 0))) (λ v i. each v (members_e _ v i).1 f)))
        ∙ sym (keeps_here p [] codes numbers supports k 3 0 s.lent.ready start.chosen some)

-- where no value is chosen yet
module _ (p : Problem) (vs numbers supports codes moves : List ℕ) (k ahead key a b e : ℕ) (s : Walking p vs numbers supports codes moves k ahead key a b e) (three : ahead ≡ 3) where
  none : length vs ≡ 0
  none = omega (arith, s.chosen.split, (good p s.lent.ready.framed.stated k s.chosen.inside).few)

  pub walk_whole : Whole p numbers supports codes moves k
  walk_whole = record { lent = s.lent; inside = s.chosen.inside; three = (let e : length (constraint_at p k).scope ≡ 3 = omega (arith, s.chosen.split, none) in e) }

  pub whole_walked : true ≡ keeps p codes (constraint_at p k) (constraint_at p k).scope [] → true ≡ keeps p codes (constraint_at p k) (drop (length vs) (constraint_at p k).scope) vs
  whole_walked h = go vs none
    where
      go : (us : List ℕ) → length us ≡ 0 → true ≡ keeps p codes (constraint_at p k) (drop (length us) (constraint_at p k).scope) us
      go [] l = h
      go (u ∷ us) l = absurd (omega arith)
