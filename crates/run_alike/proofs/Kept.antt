-- Prefixes whose first levels say nothing more, with the same values from there on, leave the same of a list (specs/Claims). Assumes nothing.
use Rattle.model.specs.Kit.{◌≡◌, refl, sym, ap, ap₂, ◌∙◌, subst, Bool, true, false, not, ⊎_elim, List, [], ◌∷◌, ◌++◌, map, Memᴰ, Memᴰ-head, Memᴰ-tail, Memᴰ-not_nil}
use Rattle.model.specs.Kit.{Memᴰ-cases_cons, Memᴰ-append_left, ℕ, zero, suc, ◌+◌, ◌-◌, ◌/◌, ◌%◌, ◌^◌, ◌≤◌, ◌<◌, dec_lt, ℕ_discrete, arith, T, eqb, length, get_or, take, drop, take-append-drop}
use Rattle.model.specs.Kit.{length-drop, pow-lt, length-take-le, eq-eqb, ne_eqb}
use Rattle.model.specs.{Lists.both, Lists.flat, Lists.up_from, Lists.at, ValueSets.has, Problem.Problem, Problem.pair, Nogood.Entry, Nogood.equality, Nogood.disequality, Nogood.is, Nogood.obeys_from}
use Rattle.model.specs.{Search.entries_at, Search.nogoods_of, Search.sets_at, Search.is_live, Inner.WellFormed.WellFormed, Inner.WellFormed.Respected}
use lib.Seq.{take-take}
use Rattle.model.proofs.{Lists.of_T, Lists.TExt, Lists.not_of, Lists.of_not, Lists.at_take, Sets.has_lt, Sets.has_none, Sets.member, Sets.mask_ext, Assignments.Filled, Assignments.drawn_through}
use Rattle.model.proofs.{Assignments.drawn_i, Assignments.drawn_e, Obey.obeys_unheld, Prune.Sized, Prune.sets_at_sets, Tree.well_sized, Tree.nogoods_append}
use Rattle.run_alike.specs.{Inner.Alike.Residue, Inner.Alike.front, Inner.Alike.residue, Inner.Alike.Vacuous, Inner.Claims.KeptLeft}
use Rattle.run_alike.proofs.Residue.{var_of, single, single_has, drawn_is, is_gone, is_only}
use Rattle.run_alike.proofs.{Sets.behind_alike, Sets.some_value, Sets.own_only, Sets.own_set, Apart.own_in, Apart.own_init, Apart.Settles, Apart.not_elsewhere, Law.entry_e, Law.bounded}

-- ---- entries that the sets decide
abbrev pub Dropped : List ℕ → Entry → Type 0
Dropped ds (equality x v) = at ds x ≡ 2 ^ v
Dropped ds (disequality x v) = has (at ds x) v ≡ false

pub residue_dropped : (ds : List ℕ) (es fs : List Entry) → ((e : Entry) → Memᴰ e es → Dropped ds e) → residue ds (es ++ fs) ≡ residue ds fs
unfolding residue
residue_dropped ds [] fs f = refl
residue_dropped ds (equality x v ∷ es) fs f =
    ap₂ (λ (b c : Bool). elim b [ true ↦ elim c [ true ↦ residue ds (es ++ fs) | false ↦ front (equality x v) (residue ds (es ++ fs)) ] | false ↦ record { kept = []; stopped = true } ])
    (of_T (has (at ds x) v) (single_has (at ds x) v (f (equality x v) (Memᴰ-head refl)))) (eq-eqb (at ds x) (2 ^ v) (f (equality x v) (Memᴰ-head refl)))
    ∙ residue_dropped ds es fs (λ e m. f e (Memᴰ-tail m))
residue_dropped ds (disequality x v ∷ es) fs f =
    ap (λ (b : Bool). elim b [ true ↦ front (disequality x v) (residue ds (es ++ fs)) | false ↦ residue ds (es ++ fs) ]) (f (disequality x v) (Memᴰ-head refl))
    ∙ residue_dropped ds es fs (λ e m. f e (Memᴰ-tail m))

-- entries that two lists of sets decide alike
abbrev Both : List ℕ → List ℕ → Entry → Type 0
Both ds rs (equality x v) = (has (at ds x) v ≡ has (at rs x) v) × (eqb (at ds x) (2 ^ v) ≡ eqb (at rs x) (2 ^ v))
Both ds rs (disequality x v) = has (at ds x) v ≡ has (at rs x) v

residue_both : (ds rs : List ℕ) (es fs hs : List Entry) → ((e : Entry) → Memᴰ e es → Both ds rs e) → residue ds fs ≡ residue rs hs → residue ds (es ++ fs) ≡ residue rs (es ++ hs)
unfolding residue
residue_both ds rs [] fs hs f e = e
residue_both ds rs (equality x v ∷ es) fs hs f e =
    let d = f (equality x v) (Memᴰ-head refl) in
    ap₂ (λ (b c : Bool). elim b [ true ↦ elim c [ true ↦ residue ds (es ++ fs) | false ↦ front (equality x v) (residue ds (es ++ fs)) ] | false ↦ record { kept = []; stopped = true } ])
    d.0 d.1
    ∙ ap (λ (r : Residue). elim (has (at rs x) v) [ true ↦ elim (eqb (at rs x) (2 ^ v)) [ true ↦ r | false ↦ front (equality x v) r ] | false ↦ record { kept = []; stopped = true } ])
    (residue_both ds rs es fs hs (λ e m. f e (Memᴰ-tail m)) e)
residue_both ds rs (disequality x v ∷ es) fs hs f e =
    ap₂ (λ (b : Bool) (r : Residue). elim b [ true ↦ front (disequality x v) r | false ↦ r ])
    (f (disequality x v) (Memᴰ-head refl)) (residue_both ds rs es fs hs (λ e m. f e (Memᴰ-tail m)) e)

-- ---- entries that say nothing more are decided
module _ (ds : List ℕ) (full : Filled ds) where
  small : (x : ℕ) → at ds x < 2 ^ 16
  small x = (full x).0

  vacuous_eq : (x v : ℕ) (es : List Entry) → x < length ds → Vacuous ds (equality x v ∷ es) → at ds x ≡ 2 ^ v
  unfolding obeys_from
  vacuous_eq x v es l f =
      let o = member (at ds x) (small x) ((full x).1 l) in
      let hv : T (has (at ds x) v) = subst (λ (u : ℕ). T (has (at ds x) u)) (only o.0 o.2) o.2 in
      mask_ext 16 (at ds x) (2 ^ v) (small x) (pow-lt (has_lt 16 (at ds x) v (small x) hv))
      (λ u b. TExt (has (at ds x) u) (has (2 ^ v) u) (λ t. subst (λ (j : ℕ). T (has (2 ^ v) j)) (sym (only u t)) (single_has (2 ^ v) v refl))
      (λ t. subst (λ (j : ℕ). T (has (at ds x) j)) (sym (single (2 ^ v) u v refl t)) hv))
    where
      only : (u : ℕ) → T (has (at ds x) u) → u ≡ v
      only u t = go (ℕ_discrete u v)
        where
          go : Dec (u ≡ v) → u ≡ v
          go (yes e) = e
          go (no n) =
              let r = drawn_through ds full x u t in
              let s = r.0 in
              let g : get_or s x 16 ≡ u = drawn_is ds s r.1 x l ∙ r.2 in
              let e₀ : is s x v ≡ false = ap (λ (j : ℕ). eqb j v) g ∙ ne_eqb u v n in
              let e₁ : is s x u ≡ true = ap (λ (j : ℕ). eqb j u) g ∙ eq-eqb u u refl in
              let e : obeys_from (is s x v) s (es ++ (disequality x u ∷ [])) ≡ both (not (is s x u)) true = f s (drawn_i ds s small r.1) (disequality x u ∷ []) in
              let q : true ≡ false = sym (obeys_unheld s (es ++ (disequality x u ∷ []))) ∙ ap (λ (b : Bool). obeys_from b s (es ++ (disequality x u ∷ []))) (sym e₀) ∙ e
              ∙ ap (λ (b : Bool). both (not b) true) e₁ in
              absurd (subst T q tt)

  vacuous_dis : (x v : ℕ) (es : List Entry) → x < length ds → Vacuous ds (disequality x v ∷ es) → has (at ds x) v ≡ false
  unfolding obeys_from
  vacuous_dis x v es l f = not_of (has (at ds x) v) go
    where
      go : T (has (at ds x) v) → ⊥
      go t =
          let r = drawn_through ds full x v t in
          let s = r.0 in
          let e₁ : is s x v ≡ true = ap (λ (j : ℕ). eqb j v) (drawn_is ds s r.1 x l ∙ r.2) ∙ eq-eqb v v refl in
          let e : both (not (is s x v)) (obeys_from true s (es ++ [])) ≡ true = f s (drawn_i ds s small r.1) [] in
          let q : true ≡ false = sym e ∙ ap (λ (b : Bool). both (not b) (obeys_from true s (es ++ []))) e₁ in
          subst T q tt

  pub vacuous_dropped : (es : List Entry) → ((e : Entry) → Memᴰ e es → var_of e < length ds) → Vacuous ds es → (e : Entry) → Memᴰ e es → Dropped ds e
  unfolding obeys_from
  vacuous_dropped [] b f e m = absurd (Memᴰ-not_nil m)
  vacuous_dropped (equality x v ∷ es) b f e m =
      let l = b (equality x v) (Memᴰ-head refl) in
      let o = vacuous_eq x v es l f in
      ⊎_elim {C = Dropped ds e} (λ q. subst (Dropped ds) (sym q) o)
      (vacuous_dropped es (λ e i. b e (Memᴰ-tail i))
      (λ s i fs. ap (λ (c : Bool). obeys_from c s (es ++ fs)) (sym (is_only ds s (drawn_e ds s i) x v l o)) ∙ f s i fs) e) (Memᴰ-cases_cons m)
  vacuous_dropped (disequality x v ∷ es) b f e m =
      let l = b (disequality x v) (Memᴰ-head refl) in
      let o = vacuous_dis x v es l f in
      ⊎_elim {C = Dropped ds e} (λ q. subst (Dropped ds) (sym q) o)
      (vacuous_dropped es (λ e i. b e (Memᴰ-tail i))
      (λ s i fs. ap (λ (c : Bool). both (not c) (obeys_from true s (es ++ fs))) (sym (is_gone ds s (drawn_e ds s i) x v l o)) ∙ f s i fs) e) (Memᴰ-cases_cons m)

filled_live : (p : Problem) → Sized p → (a : List ℕ) → T (is_live p a) → Filled (sets_at p a)
filled_live p s a live x = (
  (sets_at_sets p a s).1 x,
  λ l e. let u = some_value p s a live x (omega (arith, (sets_at_sets p a s).0)) in of_not (has 0 u.0) (has_none u.0) (subst (λ (t : ℕ). T (has t u.0)) e u.2),
)

-- ---- the levels of a live prefix up to i say nothing more
module _ (p : Problem) (w : WellFormed p) (g : List ℕ) (gm : Memᴰ g p.symmetries) (a : List ℕ) (live : T (is_live p a)) (short : length a ≤ p.variables)
    (i : ℕ) (within : i ≤ length a) (vacuous : Vacuous (sets_at p a) (nogoods_of p g (take i a))) where
  abbrev from : ℕ → List Entry
  from j = flat (map (entries_at p g a) (up_from j (length a - j)))

  at_level : (j : ℕ) → j ≤ length a → nogoods_of p g a ≡ nogoods_of p g (take j a) ++ from j
  at_level j l =
      let e = take-append-drop j a in
      ap (nogoods_of p g) (sym e) ∙ nogoods_append p g (take j a) (drop j a)
      ∙ ap (λ (c : List ℕ). nogoods_of p g (take j a) ++ flat (map (entries_at p g c) (up_from (length (take j a)) (length (drop j a))))) e
      ∙ ap₂ (λ (i n : ℕ). nogoods_of p g (take j a) ++ flat (map (entries_at p g a) (up_from i n))) (length-take-le j a l) (length-drop j a)

  -- so the sets decide their entries
  passed : (e : Entry) → Memᴰ e (nogoods_of p g (take i a)) → Dropped (sets_at p a) e
  passed = vacuous_dropped (sets_at p a) (filled_live p (well_sized p w) a live) (nogoods_of p g (take i a))
      (λ e m. bounded p w g gm a live short e (subst (λ (es : List Entry). Memᴰ e es) (sym (at_level i within)) (Memᴰ-append_left (from i) m))) vacuous

  -- and those of the levels up to any before it
  pub left_from : (low : ℕ) → low ≤ i → residue (sets_at p a) (nogoods_of p g a) ≡ residue (sets_at p a) (from low)
  left_from low l =
      ap (residue (sets_at p a)) (at_level low (omega arith))
      ∙ residue_dropped (sets_at p a) (nogoods_of p g (take low a)) (from low) (λ e m. passed e (earlier e m))
    where
      c : List ℕ
      c = take i a

      split : nogoods_of p g c ≡ nogoods_of p g (take low a) ++ flat (map (entries_at p g (take low c ++ drop low c)) (up_from (length (take low c)) (length (drop low c))))
      split =
          ap (nogoods_of p g) (sym (take-append-drop low c)) ∙ nogoods_append p g (take low c) (drop low c)
          ∙ ap (λ (d : List ℕ). nogoods_of p g d ++ flat (map (entries_at p g (take low c ++ drop low c)) (up_from (length (take low c)) (length (drop low c))))) (take-take low i a l)

      earlier : (e : Entry) → Memᴰ e (nogoods_of p g (take low a)) → Memᴰ e (nogoods_of p g c)
      earlier e m = subst (λ (es : List Entry). Memᴰ e es) (sym split) (Memᴰ-append_left _ m)

  -- the image of an own pair of these levels is settled
  pub own_settled : (x : ℕ) → x < i → at (sets_at p a) (at g (pair p x (at a x)) / p.values) ≡ 2 ^ (at g (pair p x (at a x)) % p.values)
  own_settled x l =
      subst (λ (v : ℕ). at (sets_at p a) (at g (pair p x v) / p.values) ≡ 2 ^ (at g (pair p x v) % p.values)) (at_take i a x l)
      (passed _ (own_in p g (take i a) x (subst (λ (n : ℕ). x < n) (sym (length-take-le i a within)) l)))

-- ---- two prefixes with the same values from `low` on
module _ (p : Problem) (w : WellFormed p) (g : List ℕ) (gm : Memᴰ g p.symmetries) (r : Respected p) (a b : List ℕ) (la : T (is_live p a)) (lb : T (is_live p b))
    (sized : length a ≡ length b) (later : (x : ℕ) → length a ≤ x → at (sets_at p a) x ≡ at (sets_at p b) x) (short : length a ≤ p.variables)
    (low : ℕ) (agrees : (x : ℕ) → low ≤ x → x < length a → at a x ≡ at b x) (sa : Settles p w g gm a b) (sb : Settles p w g gm b a) where
  z : Sized p
  z = well_sized p w

  -- the sets of both decide the image of a pair of a variable from `low` on alike
  Decided : ℕ → ℕ → Type 0
  Decided y v = (has (at (sets_at p a) y) v ≡ has (at (sets_at p b) y) v) × (eqb (at (sets_at p a) y) (2 ^ v) ≡ eqb (at (sets_at p b) y) (2 ^ v))

  image_decided : (j u : ℕ) → low ≤ j → j < length a → T (has (at p.initial j) u) → Decided (at g (pair p j u) / p.values) (at g (pair p j u) % p.values)
  unfolding Decided
  image_decided j u l lj t = go (dec_lt y (length a))
    where
      y : ℕ
      y = at g (pair p j u) / p.values

      v : ℕ
      v = at g (pair p j u) % p.values

      by_set : at (sets_at p a) y ≡ at (sets_at p b) y → (has (at (sets_at p a) y) v ≡ has (at (sets_at p b) y) v) × (eqb (at (sets_at p a) y) (2 ^ v) ≡ eqb (at (sets_at p b) y) (2 ^ v))
      by_set e = (ap (λ (s : ℕ). has s v) e, ap (λ (s : ℕ). eqb s (2 ^ v)) e)

      gone : (s : ℕ) → (T (has s v) → ⊥) → (has s v ≡ false) × (eqb s (2 ^ v) ≡ false)
      gone s n = (not_of (has s v) n, ne_eqb s (2 ^ v) (λ e. n (single_has s v e)))

      none_a : y < length a → (at a y ≡ at b y → ⊥) → T (has (at (sets_at p a) y) v) → ⊥
      none_a ly n h = not_elsewhere p w g gm r a b la lb sized later short sa sb j u (λ i. agrees j l i) (omega arith) t ly n (sym (own_only p z a la y v ly h))

      none_b : y < length a → (at a y ≡ at b y → ⊥) → T (has (at (sets_at p b) y) v) → ⊥
      none_b ly n h =
          not_elsewhere p w g gm r b a lb la (sym sized) (λ x i. sym (later x (omega arith))) (omega arith) sb sa j u (λ i. sym (agrees j l lj)) (omega arith) t (omega arith) (λ e. n (sym e))
          (sym (own_only p z b lb y v (omega arith) h))

      agree : y < length a → Dec (at a y ≡ at b y) → (has (at (sets_at p a) y) v ≡ has (at (sets_at p b) y) v) × (eqb (at (sets_at p a) y) (2 ^ v) ≡ eqb (at (sets_at p b) y) (2 ^ v))
      agree ly (yes e) = by_set (own_set p z a la y ly (omega arith) ∙ ap (λ (n : ℕ). 2 ^ n) e ∙ sym (own_set p z b lb y (omega arith) (omega arith)))
      agree ly (no n) =
          let ga = gone (at (sets_at p a) y) (none_a ly n) in
          let gb = gone (at (sets_at p b) y) (none_b ly n) in
          (ga.0 ∙ sym gb.0, ga.1 ∙ sym gb.1)

      go : Dec (y < length a) → (has (at (sets_at p a) y) v ≡ has (at (sets_at p b) y) v) × (eqb (at (sets_at p a) y) (2 ^ v) ≡ eqb (at (sets_at p b) y) (2 ^ v))
      go (no n) = by_set (later y (omega arith))
      go (yes ly) = agree ly (ℕ_discrete (at a y) (at b y))

  entry_both : (j : ℕ) (e : Entry) → low ≤ j → j < length a → Memᴰ e (entries_at p g a j) → Both (sets_at p a) (sets_at p b) e
  unfolding Decided
  entry_both j e l lj m =
      let o = entry_e p g a j e (own_init p w g gm a la j lj (omega arith)) m in
      let d = image_decided j o.0 l lj o.1 in
      ⊎_elim {C = Both (sets_at p a) (sets_at p b) e} (λ q. subst (Both (sets_at p a) (sets_at p b)) (sym q) d.0) (λ q. subst (Both (sets_at p a) (sets_at p b)) (sym q) d) o.2

  same_level : (j : ℕ) → at a j ≡ at b j → entries_at p g a j ≡ entries_at p g b j
  unfolding entries_at
  same_level j e = rw e

  pub levels_alike : (m j : ℕ) → low ≤ j → j + m ≡ length a → residue (sets_at p a) (flat (map (entries_at p g a) (up_from j m))) ≡ residue (sets_at p b) (flat (map (entries_at p g b) (up_from j m)))
  unfolding flat up_from residue
  levels_alike zero j l e = refl
  levels_alike (suc m) j l e =
      residue_both (sets_at p a) (sets_at p b) (entries_at p g a j) (flat (map (entries_at p g a) (up_from (suc j) m))) (flat (map (entries_at p g b) (up_from (suc j) m)))
      (λ x i. entry_both j x l (omega arith) i) (levels_alike m (suc j) (omega arith) (omega arith))
      ∙ ap (λ (es : List Entry). residue (sets_at p b) (es ++ flat (map (entries_at p g b) (up_from (suc j) m)))) (same_level j (agrees j l (omega arith)))

pub kept_left : KeptLeft
kept_left p w r g gm a b la lb short sized sets low i j li lj wa wb agrees va vb =
    left_from p w g gm a la short i wa va low li
    ∙ levels_alike p w g gm r a b la lb sized later short low agrees sa sb (length a - low) low (omega arith) (omega arith)
    ∙ ap (λ (n : ℕ). residue (sets_at p b) (flat (map (entries_at p g b) (up_from low (n - low))))) sized
    ∙ sym (left_from p w g gm b lb (omega arith) j wb vb low lj)
  where
    later : (x : ℕ) → length a ≤ x → at (sets_at p a) x ≡ at (sets_at p b) x
    later = behind_alike (sets_at p a) (sets_at p b) (length a) sets

    below_low : (x : ℕ) → x < length a → (at a x ≡ at b x → ⊥) → Dec (x < low) → x < low
    below_low x l n (yes q) = q
    below_low x l n (no q) = absurd (n (agrees x (omega arith) l))

    sa : Settles p w g gm a b
    sa x l n = let q = below_low x l n (dec_lt x low) in own_settled p w g gm a la short i wa va x (omega arith)

    sb : Settles p w g gm b a
    sb x l n = let q = below_low x (omega arith) (λ e. n (sym e)) (dec_lt x low) in own_settled p w g gm b lb (omega arith) j wb vb x (omega arith)
