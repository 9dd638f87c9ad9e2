-- Rows of a constraint on the images that come from rows: for the values of one variable at a time. Assumes nothing.
use Rattle.model.specs.Kit.{◌≡◌, refl, sym, ap, ap₂, ◌∙◌, subst, true, not, List, [], ◌∷◌, ◌⊎◌, inl, inr, ⊎_elim, ℕ, suc, ◌+◌, ◌*◌, ◌/◌, ◌%◌, ◌<◌, arith, T, eqb, not_T, length, drop, bit_and}
use Rattle.model.specs.{Lists.any, Lists.at, Lists.both, ValueSets.has, ValueSets.mask_of, ValueSets.common_mask, Problem.Problem, Problem.constraint_at, Inner.WellFormed.Stated}
use Rattle.model.proofs.{Lists.TDec, Lists.both_i, Lists.mem_at, Lists.among_e, Sets.mask_i}
use Rattle.arrays.specs.Inner.Places.{SUPPORTS}
use Rattle.sheet_table.specs.{Inner.Table.Ready, Inner.Forbidden.blocked, Inner.Forbidden.number_of, Inner.Forbidden.MaybePair, Inner.Forbidden.On}
use Rattle.sheet_table.specs.Inner.Forbidden.{Sure, Across, FromRow, FromRows, SetFrom, Walking, keeps, packed, packed_on}
use Rattle.sheet_table.proofs.Codes.{good, init_16, code_16, code_pair, variable_lt}
use Rattle.sheet_carried.proofs.Surely.{on_three_lt, on_three, after, on_turned, first_two_turned}
use Rattle.sheet_carried.proofs.{Keys.Digits, Keys.begun_digits, Walks.walked_triple, Walks.carried_kept}

-- as the code finds them: the values of z in the set, and the set that they have to come from
pub set_from : (p : Problem) → Stated p → (supports moves : List ℕ) (from i e z : ℕ) → z < p.variables → (last s free spot rows : ℕ) → last ≡ at p.initial z → s ≡ at supports i
    → free ≡ common_mask last s →
    spot ≡ at moves e → rows ≡ at supports (from + spot) → ((u : ℕ) → T (has free u) → T (has rows (at moves (16 * z + u)))) → SetFrom p supports moves from i e z
set_from p w supports moves from i e z l last s free spot rows el es ef ep er h u t q =
    subst (λ (n : ℕ). T (has n (at moves (16 * z + u)))) (er ∙ ap (λ (n : ℕ). at supports (from + n)) ep)
    (h u (subst (λ (n : ℕ). T (has n u)) (sym (ef ∙ ap₂ common_mask el es)) (mask_i (λ n. both (has (at p.initial z) n) (has (at supports i) n)) u (init_16 p w z u l t)
    (both_i (has (at p.initial z) u) _ t q))))

module _ (p : Problem) (numbers supports : List ℕ) (m a y z : ℕ) (x : Across p numbers supports m a y z) where
  w : Stated p
  w = x.ready.framed.stated

  scope_lt : (u : ℕ) → T (any (eqb u) (constraint_at p m).scope) → u < p.variables
  scope_lt u t = (good p w m x.inside).inside u (among_e u (constraint_at p m).scope t)

  pub across_second : y < p.variables
  across_second = scope_lt y x.has_second

  pub across_third : z < p.variables
  across_third = scope_lt z x.has_third

  pub across_few : (y < 12) × (z < 12) × (m < 32)
  across_few = (omega (arith, across_second, w.few), omega (arith, across_third, w.few), omega (arith, x.inside, w.most))

  module _ (v : ℕ) (t : T (has (at p.initial y) v)) where
    pub across_on : On p numbers supports m a (16 * y + v) z
    across_on =
        let c = code_16 p w (16 * y + v) y v refl (init_16 p w y v across_second t) in
        record {
          ready = x.ready;
          inside = x.inside;
          first = x.first;
          second = inr (code_pair p w y v across_second t);
          has_first = x.has_first;
          has_second = subst (λ (u : ℕ). T (any (eqb u) (constraint_at p m).scope)) (sym c.0) x.has_second;
          has_third = x.has_third;
        }

    -- as the code finds them: the values of z that are refused, those left, and the set of the rows
    pub across_rows : (moves : List ℕ) (from last none left free spot rows : ℕ) → Sure p a (16 * y + v) z none → last ≡ at p.initial z → left ≡ mask_of (λ u. not (has none u))
        → free ≡ common_mask last left →
        spot ≡ at moves (16 * y + v) → rows ≡ at supports (from + spot) → ((u : ℕ) → T (has free u) → T (has rows (at moves (16 * z + u)))) → FromRows p supports moves from a (16 * y + v) z
    across_rows moves from last none left free spot rows s el ek eo es er h u i = ⊎_elim {C = FromRow p supports moves from a (16 * y + v) (16 * z + u)} yes no (TDec (has none u))
      where
        small : u < 16
        small = init_16 p w z u across_third i

        yes : T (has none u) → FromRow p supports moves from a (16 * y + v) (16 * z + u)
        yes q =
            let c = code_16 p w (16 * z + u) z u refl small in
            inl (s (16 * z + u) c.0 (code_pair p w z u across_third i) (subst (λ (n : ℕ). T (has none n)) (sym c.1) q))

        among : (T (has none u) → ⊥) → T (has free u)
        among q =
            subst (λ (n : ℕ). T (has n u)) (sym (eo ∙ ap₂ common_mask el ek))
            (mask_i (λ n. both (has (at p.initial z) n) (has (mask_of (λ k. not (has none k))) n)) u small
            (both_i (has (at p.initial z) u) _ i (mask_i (λ k. not (has none k)) u small (not_T (has none u) q))))

        no : (T (has none u) → ⊥) → FromRow p supports moves from a (16 * y + v) (16 * z + u)
        no q = inr (subst (λ (n : ℕ). T (has n (at moves (16 * z + u)))) (er ∙ ap (λ (n : ℕ). at supports (from + n)) es) (h u (among q)))

    -- by the sets of the constraint, where z is the last of the three variables
    module _ (moves : List ℕ) (from : ℕ) (lz : y < z) (la : a / 16 < z) where
      code : ((16 * y + v) / 16 ≡ y) × ((16 * y + v) % 16 ≡ v)
      code = code_16 p w (16 * y + v) y v refl (init_16 p w y v across_second t)

      pub across_first : a / 16 < y → SetFrom p supports moves from (256 * m + 16 * (a % 16) + 1 * v) (16 * y + v) z → FromRows p supports moves from a (16 * y + v) z
      across_first l h u i = ⊎_elim {C = FromRow p supports moves from a (16 * y + v) (16 * z + u)} (λ q. inr (h u i q)) no (TDec (has (at supports (256 * m + 16 * (a % 16) + 1 * v)) u))
        where
          no : (T (has (at supports (256 * m + 16 * (a % 16) + 1 * v)) u) → ⊥) → FromRow p supports moves from a (16 * y + v) (16 * z + u)
          no q =
              let c = code_16 p w (16 * z + u) z u refl (init_16 p w z u across_third i) in
              let spot : 256 * m + (16 * (a % 16) + (16 * y + v) % 16) ≡ 256 * m + 16 * (a % 16) + 1 * v = omega (arith, code.1) in
              inl (after p numbers supports m a (16 * y + v) z across_on (omega (arith, code.0)) (16 * z + u) c.0 (code_pair p w z u across_third i) (omega (arith, code.0))
              (λ r. q (subst T (ap₂ (λ (n k : ℕ). has (at supports n) k) spot c.1) r)))

      pub across_between : y < a / 16 → SetFrom p supports moves from (256 * m + a % 16 + 16 * v) (16 * y + v) z → FromRows p supports moves from a (16 * y + v) z
      across_between l h u i = ⊎_elim {C = FromRow p supports moves from a (16 * y + v) (16 * z + u)} (λ q. inr (h u i q)) no (TDec (has (at supports (256 * m + a % 16 + 16 * v)) u))
        where
          no : (T (has (at supports (256 * m + a % 16 + 16 * v)) u) → ⊥) → FromRow p supports moves from a (16 * y + v) (16 * z + u)
          no q =
              let c = code_16 p w (16 * z + u) z u refl (init_16 p w z u across_third i) in
              let spot : 256 * m + (16 * ((16 * y + v) % 16) + a % 16) ≡ 256 * m + a % 16 + 16 * v = omega (arith, code.1) in
              inl (first_two_turned p _ _ _ (after p numbers supports m (16 * y + v) a z (on_turned p numbers supports m a (16 * y + v) z across_on) (omega (arith, code.0)) (16 * z + u) c.0
              (code_pair p w z u across_third i) la (λ r. q (subst T (ap₂ (λ (n k : ℕ). has (at supports n) k) spot c.1) r))))

-- one of the constraints on the three variables
pub across_of : (p : Problem) (numbers supports : List ℕ) → Ready p numbers supports → (a y z : ℕ) → MaybePair p a → y < 16 → z < 16 → (set m : ℕ) → set ≡ bit_and
    (bit_and (at numbers (a / 16)) (at numbers y)) (at numbers z) → T (has set m) →
    Across p numbers supports m a y z
across_of p numbers supports r a y z ma ly lz set m es i =
    let la = variable_lt p r.framed.stated a ma in
    let h = on_three p numbers supports r (a / 16) y z la ly lz set es m i in
    record { ready = r; inside = on_three_lt p numbers supports r (a / 16) y z la ly lz set es m i; first = ma; has_first = h.0; has_second = h.1; has_third = h.2 }

-- ---- the last two variables of a constraint on three
one_key : (vs : List ℕ) → length vs ≡ 1 → Digits vs → packed vs < 16
unfolding packed_on at
one_key [] l d = absurd (omega arith)
one_key (v ∷ []) l d = omega (arith, d 0 (omega arith))
one_key (v ∷ u ∷ r) l d = absurd (omega arith)

module _ (p : Problem) (vs numbers supports codes moves : List ℕ) (k ahead key b e a : ℕ) (s : Walking p vs numbers supports codes moves k ahead key b e a) (two : ahead ≡ 2)
    (three : length (constraint_at p k).scope ≡ 3) where
  st : Stated p
  st = s.lent.ready.framed.stated

  one : length vs ≡ 1
  one = omega (arith, s.chosen.split)

  pub carried_key : 256 * k + 16 * key + 15 < SUPPORTS
  carried_key =
      let g = good p st k s.chosen.inside in
      omega (arith, s.chosen.keyed, one_key vs one (begun_digits p st (constraint_at p k).scope vs g.inside s.chosen.begun), s.chosen.inside, st.most)

  pub carried_image : MaybePair p a
  carried_image = (walked_triple p vs numbers supports codes moves k ahead key b e a s).third

  pub carried_variable : (i : ℕ) → i < 3 → at (constraint_at p k).scope i < 12
  carried_variable i h = omega (arith, (good p st k s.chosen.inside).inside _ (mem_at (constraint_at p k).scope i (omega arith)), st.few)

  module _ (m y z : ℕ) (ey : y ≡ at moves (192 + at (constraint_at p k).scope 1)) (ez : z ≡ at moves (192 + at (constraint_at p k).scope 2)) (x : Across p numbers supports m a y z) where
    -- a pair of a variable that goes to one variable: its image
    image : (u t : ℕ) → u < p.variables → t ≡ at moves (192 + u) → t < 12 → (v : ℕ) → T (has (at p.initial u) v) → (16 * t + at codes (16 * u + v) % 16 ≡ at codes (16 * u + v)) × T
        (has (at p.initial t) (at codes (16 * u + v) % 16))
    image u t l et h v i =
        let c : at codes (16 * u + v) / 16 ≡ t = s.lent.moved.to u l v i (λ q. omega arith) ∙ sym et in
        (omega arith, subst (λ (n : ℕ). T (has (at p.initial n) (at codes (16 * u + v) % 16))) c (s.lent.coded u v l i).1)

    pub carried_all : ((v : ℕ) → T (has (at p.initial y) v) → FromRows p supports moves (256 * k + 16 * key) a (16 * y + v) z) →
        true ≡ keeps p codes (constraint_at p k) (drop (length vs) (constraint_at p k).scope) vs
    carried_all h = carried_kept p vs numbers supports codes moves k ahead key b e a s two each
      where
        inside : (i : ℕ) → i < 3 → at (constraint_at p k).scope i < p.variables
        inside i l = (good p st k s.chosen.inside).inside _ (mem_at (constraint_at p k).scope i (omega arith))

        each : (v u : ℕ) → T (has (at p.initial (at (constraint_at p k).scope (length vs))) v) → T (has (at p.initial (at (constraint_at p k).scope (suc (length vs)))) u) →
            T (blocked p (number_of p a ∷ number_of p (at codes (16 * at (constraint_at p k).scope (length vs) + v)) ∷ number_of p
            (at codes (16 * at (constraint_at p k).scope (suc (length vs)) + u)) ∷ []))
            ⊎ T (has (at supports (256 * k + (16 * key + v))) u)
        each v u tv tu =
            let c = constraint_at p k in
            let few = across_few p numbers supports m a y z x in
            let ly = inside (length vs) (omega (arith, one)) in
            let lz = inside (suc (length vs)) (omega (arith, one)) in
            let second : suc (length vs) ≡ 2 = omega (arith, one) in
            let iy = image (at c.scope (length vs)) y ly (ey ∙ ap (λ (n : ℕ). at moves (192 + at c.scope n)) (sym one)) few.0 v tv in
            let iz = image (at c.scope (suc (length vs))) z lz (ez ∙ ap (λ (n : ℕ). at moves (192 + at c.scope n)) (sym second)) few.1 u tu in
            let spot : 256 * k + 16 * key + at moves (at codes (16 * at c.scope (length vs) + v)) ≡ 256 * k + (16 * key + v) = omega
            (arith, s.lent.moved.back (at c.scope (length vs)) v ly tv) in
            ⊎_elim inl (λ q. inr (subst T (ap₂ (λ (n i : ℕ). has (at supports n) i) spot (s.lent.moved.back (at c.scope (suc (length vs))) u lz tu)) q))
            (subst (λ (n : ℕ). FromRow p supports moves (256 * k + 16 * key) a n (at codes (16 * at c.scope (suc (length vs)) + u))) iy.0
            (subst (FromRow p supports moves (256 * k + 16 * key) a (16 * y + at codes (16 * at c.scope (length vs) + v) % 16)) iz.0 (h _ iy.1 _ iz.1)))
