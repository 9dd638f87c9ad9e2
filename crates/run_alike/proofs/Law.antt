-- Two live prefixes that leave the same to do have the same subtree (specs/Claims). Assumes nothing.
use Rattle.model.specs.Kit.{◌≡◌, refl, sym, ap, ap₂, ◌∙◌, subst, Bool, true, false, ◌⊎◌, inl, inr, ⊎_elim, List, ◌++◌, map, Memᴰ, Memᴰ-of_map, ℕ, ◌+◌, ◌-◌, ◌/◌, ◌%◌, ◌^◌, ◌≤◌, ◌<◌, dec_lt}
use Rattle.model.specs.Kit.{ℕ_discrete, arith, T, eqb, ltb, length, get_or, drop, length-append, ne_eqb}
use Rattle.model.specs.{Lists.keep, Lists.flat, Lists.up_from, Lists.below, Lists.at, ValueSets.has, ValueSets.members, Problem.Problem, Problem.pair, Nogood.Entry, Nogood.equality}
use Rattle.model.specs.{Nogood.disequality}
use Rattle.model.specs.{Nogood.is, Nogood.obeys, Search.entries_at, Search.nogoods_of, Search.sets_at, Search.is_live, Claims.Drawn, Inner.WellFormed.WellFormed}
use mathlib.Core.List.Memᴰ
use lib.ListN.{get_or-append}
use lib.Seq.{get_or-append-add}
use Rattle.model.specs.Inner.WellFormed.{Respected}
use Rattle.model.proofs.Lists.{T_of, of_T, keep_e, flat_e, map_ext, below_e, up_from_e, at_append, at_skip, get_d_at}
use Rattle.model.proofs.{Sets.members_e, Sets.has_at_lt, Assignments.drawn_i, Prune.Sized, Prune.sets_at_sets, Consistent.live_consistent, Tree.well_sized, Tree.nogoods_append, Child.child_sets}
use Rattle.run_alike.specs.Inner.Alike.{Alike, SameList, obeyed, same_left, carried, Carries, Obeyed, Residue, residue, unsettled}
use Rattle.run_alike.specs.Inner.Claims.{AlikeBelow}
use Rattle.run_alike.proofs.Residue.{var_of, Same, obeys_same, after, residue_obeys, Undecided, kept_e}
use Rattle.run_alike.proofs.{Sets.Agree, Sets.behind_alike, Sets.own_value, Sets.own_only, Sets.own_set, Below.same_below, Apart.Settles, Apart.decided, Apart.not_elsewhere}
use Rattle.model.proofs.Pairs as P
use Rattle.model.proofs.Symmetry as S

later_sets : (p : Problem) (a b : List ℕ) → Alike p a b → (x : ℕ) → length a ≤ x → at (sets_at p a) x ≡ at (sets_at p b) x
later_sets p a b h = behind_alike (sets_at p a) (sets_at p b) (length a) h.sets

alike_swapped : (p : Problem) (a b : List ℕ) → Alike p a b → Alike p b a
alike_swapped p a b h = record {
  sized = sym h.sized;
  sets = subst (λ (n : ℕ). drop n (sets_at p b) ≡ drop n (sets_at p a)) h.sized (sym h.sets);
  settled = λ c m n x i l. sym (h.settled c m (subst (λ (k : ℕ). 2 ≤ length (unsettled k c.scope)) (sym h.sized) n) x i (omega (arith, h.sized)));
  lists = λ g m. other g (h.lists g m);
}
  where
    other : (g : List ℕ) → SameList p g a b → SameList p g b a
    other g (obeyed o o') = obeyed o' o
    other g (same_left e) = same_left (sym e)
    other g (carried c c') = carried c' c

-- ---- values behind a prefix
-- l gives the variables from k on, as many as it has, a value of their sets
abbrev pub Fits : List ℕ → ℕ → List ℕ → Type 0
Fits ds k l = (i : ℕ) → i < length l → T (has (at ds (k + i)) (at l i))

pub drawn_fits : (p : Problem) (a more s : List ℕ) → Sized p → Drawn (sets_at p (a ++ more)) (a ++ s) → Fits (sets_at p a) (length a) s
drawn_fits p a more s z d i l =
    let x = length a + i in
    let e : at (a ++ s) x ≡ at s i = at_skip a s (length a) x refl (omega arith) ∙ ap (at s) (omega arith) in
    child_sets p a more z x (at s i) (subst (λ (v : ℕ). T (has (at (sets_at p (a ++ more)) x) v)) e (d.1 x (omega (arith, d.0, length-append a s))))

pub live_fits : (p : Problem) (a more : List ℕ) → Sized p → length a + length more ≤ p.variables → T (is_live p (a ++ more)) → Fits (sets_at p a) (length a) more
live_fits p a more z room live i l =
    let x = length a + i in
    let e : at (a ++ more) x ≡ at more i = at_skip a more (length a) x refl (omega arith) ∙ ap (at more) (omega arith) in
    child_sets p a more z x (at more i) (subst (λ (v : ℕ). T (has (at (sets_at p (a ++ more)) x) v)) e (own_value p z (a ++ more) live x (omega (arith, length-append a more)) (omega arith)))

-- ---- an entry that a variable adds
module _ (p : Problem) (g c : List ℕ) where
  -- it speaks of the image of a pair of that variable
  abbrev pub Of : ℕ → ℕ → Entry → Type 0
  Of j u e = (e ≡ disequality (at g (pair p j u) / p.values) (at g (pair p j u) % p.values)) ⊎ (e ≡ equality (at g (pair p j u) / p.values) (at g (pair p j u) % p.values))

  pub entry_e : (j : ℕ) (e : Entry) → T (has (at p.initial j) (at c j)) → Memᴰ e (entries_at p g c j) → (u : ℕ) × T (has (at p.initial j) u) × Of j u e
  unfolding entries_at
  entry_e j e t m =
      ⊎_elim {C = (u : ℕ) × T (has (at p.initial j) u) × Of j u e}
      (λ i. let o = Memᴰ-of_map (λ v. disequality (at g (pair p j v) / p.values) (at g (pair p j v) % p.values)) (keep (λ v. ltb v (at c j)) (members (at p.initial j))) i in
      (o.0, (members_e (at p.initial j) o.0 (keep_e (λ v. ltb v (at c j)) (members (at p.initial j)) o.0 o.1).0).1, inl (sym o.2)))
      (λ i. (at c j, t, inr (Memᴰ.eq_of_singleton i)))
      (Memᴰ.append_cases (map (λ v. disequality (at g (pair p j v) / p.values) (at g (pair p j v) % p.values)) (keep (λ v. ltb v (at c j)) (members (at p.initial j)))) m)

  pub of_var : (j u : ℕ) (e : Entry) → Of j u e → var_of e ≡ at g (pair p j u) / p.values
  of_var j u e (inl q) = ap var_of q
  of_var j u e (inr q) = ap var_of q

  of_same : (s t : List ℕ) (j u : ℕ) (e : Entry) → Of j u e → is s (at g (pair p j u) / p.values) (at g (pair p j u) % p.values) ≡ is t (at g (pair p j u) / p.values)
      (at g (pair p j u) % p.values) → Same s t e
  of_same s t j u e (inl q) i = subst (Same s t) (sym q) i
  of_same s t j u e (inr q) i = subst (Same s t) (sym q) i

module _ (p : Problem) (w : WellFormed p) where
  drawn_from : (c s : List ℕ) → T (is_live p c) → length c + length s ≡ p.variables → Fits (sets_at p c) (length c) s → Drawn (sets_at p c) (c ++ s)
  drawn_from c s live e f = (length-append c s ∙ e ∙ sym (sets_at_sets p c (well_sized p w)).0, λ x l. each x (subst (λ (n : ℕ). x < n) (sets_at_sets p c (well_sized p w)).0 l) (dec_lt x (length c)))
    where
      each : (x : ℕ) → x < p.variables → Dec (x < length c) → T (has (at (sets_at p c) x) (at (c ++ s) x))
      each x l (yes q) = subst (λ (v : ℕ). T (has (at (sets_at p c) x) v)) (sym (at_append c s x q)) (own_value p (well_sized p w) c live x q l)
      each x l (no q) =
          let d : length c + (x - length c) ≡ x = omega arith in
          subst (λ (v : ℕ). T (has (at (sets_at p c) x) v)) (sym (at_skip c s (length c) x refl (omega arith)))
          (subst (λ (y : ℕ). T (has (at (sets_at p c) y) (at s (x - length c)))) d (f (x - length c) (omega arith)))

-- what fits behind the one fits behind the other
fits_behind : (p : Problem) (a b : List ℕ) → Alike p a b → (s : List ℕ) → Fits (sets_at p a) (length a) s → Fits (sets_at p b) (length b) s
fits_behind p a b h s f i l =
    subst (λ (n : ℕ). T (has (at (sets_at p b) (n + i)) (at s i))) h.sized (subst (λ (t : ℕ). T (has t (at s i))) (later_sets p a b h (length a + i) (omega arith)) (f i l))

module _ (p : Problem) (w : WellFormed p) (g : List ℕ) (gm : Memᴰ g p.symmetries) where
  z : Sized p
  z = well_sized p w

  -- each entry of a live prefix's list speaks of a variable
  of_bounded : (c : List ℕ) (j : ℕ) (e : Entry) → j < p.variables → T (has (at p.initial j) (at c j)) → Memᴰ e (entries_at p g c j) → var_of e < p.variables
  of_bounded c j e l t m =
      let o = entry_e p g c j e t m in
      subst (λ (x : ℕ). x < p.variables) (sym (of_var p g c j o.0 e o.2))
      (P.is_pair_var p w (at g (pair p j o.0)) (S.to_pair p w g (w.symmetric g gm) (pair p j o.0) (P.is_pair_i p w.narrow j o.0 l o.1)))

  pub bounded : (c : List ℕ) → T (is_live p c) → length c ≤ p.variables → (e : Entry) → Memᴰ e (nogoods_of p g c) → var_of e < length (sets_at p c)
  unfolding nogoods_of
  bounded c live short e m =
      let r = flat_e (map (entries_at p g c) (below (length c))) e m in
      let q = Memᴰ-of_map (entries_at p g c) (below (length c)) r.1 in
      let l = below_e (length c) q.0 q.1 in
      let l' : q.0 < p.variables = omega arith in
      let b = of_bounded c q.0 e l' ((live_consistent p c z live).inside q.0 (at c q.0) (own_value p z c live q.0 l l')) (subst (λ (es : List Entry). Memᴰ e es) (sym q.2) r.2) in
      omega (arith, (sets_at_sets p c z).0)

  module _ (r : Respected p) (a b : List ℕ) (la : T (is_live p a)) (lb : T (is_live p b)) (h : Alike p a b) (left : residue (sets_at p a) (nogoods_of p g a) ≡ residue (sets_at p b)
      (nogoods_of p g b)) (s more : List ℕ) (size : length a + length s ≡ p.variables)
      (fits : Fits (sets_at p a) (length a) s) (goes : Fits (sets_at p a) (length a) more) where
    abbrev k : ℕ
    k = length a

    abbrev ra : Residue
    ra = residue (sets_at p a) (nogoods_of p g a)

    abbrev rb : Residue
    rb = residue (sets_at p b) (nogoods_of p g b)

    -- ---- a value behind the prefixes, and one of theirs
    behind : (x v : ℕ) → k ≤ x → is (a ++ s) x v ≡ is (b ++ s) x v
    behind x v l =
        let ea : k + (x - k) ≡ x = omega arith in
        let eb : length b + (x - k) ≡ x = omega (arith, h.sized) in
        ap (λ (n : ℕ). eqb n v)
        (ap (λ (y : ℕ). get_or (a ++ s) y 16) (sym ea) ∙ get_or-append-add a s (x - k) 16 ∙ sym (get_or-append-add b s (x - k) 16) ∙ ap (λ (y : ℕ). get_or (b ++ s) y 16) eb)

    of_a : (x v : ℕ) → x < k → is (a ++ s) x v ≡ eqb (at a x) v
    of_a x v l = ap (λ (n : ℕ). eqb n v) (get_or-append a s 16 x l ∙ get_d_at a x 16 l)

    of_b : (x v : ℕ) → x < k → is (b ++ s) x v ≡ eqb (at b x) v
    of_b x v l = let l' : x < length b = omega (arith, h.sized) in ap (λ (n : ℕ). eqb n v) (get_or-append b s 16 x l' ∙ get_d_at b x 16 l')

    front : (x v : ℕ) → x < k → at a x ≡ at b x → is (a ++ s) x v ≡ is (b ++ s) x v
    front x v l e = of_a x v l ∙ ap (λ (n : ℕ). eqb n v) e ∙ sym (of_b x v l)

    -- ---- an entry that is left
    left_same : (e : Entry) → Memᴰ e ra.kept → Same (a ++ s) (b ++ s) e
    left_same e m =
        go e (kept_e (sets_at p a) (nogoods_of p g a) e m).1 (kept_e (sets_at p b) (nogoods_of p g b) e (subst (λ (q : Residue). Memᴰ e q.kept) left m)).1
      where
        go : (e : Entry) → Undecided (sets_at p a) e → Undecided (sets_at p b) e → Same (a ++ s) (b ++ s) e
        go (equality x v) o o' = pick (dec_lt x k)
          where
            pick : Dec (x < k) → is (a ++ s) x v ≡ is (b ++ s) x v
            pick (yes l) = absurd (o.1 (own_set p z a la x l (omega arith) ∙ ap (λ (u : ℕ). 2 ^ u) (sym (own_only p z a la x v l o.0))))
            pick (no l) = behind x v (omega arith)
        go (disequality x v) o o' = pick (dec_lt x k)
          where
            pick : Dec (x < k) → is (a ++ s) x v ≡ is (b ++ s) x v
            pick (yes l) = front x v l (sym (own_only p z a la x v l o) ∙ own_only p z b lb x v (omega (arith, h.sized)) o')
            pick (no l) = behind x v (omega arith)

    -- ---- an entry of the variables behind
    abbrev fa : List Entry
    fa = flat (map (entries_at p g (a ++ more)) (up_from k (length more)))

    abbrev fb : List Entry
    fb = flat (map (entries_at p g (b ++ more)) (up_from (length b) (length more)))

    at_more : (c : List ℕ) → length c ≡ k → (j : ℕ) → k ≤ j → at (c ++ more) j ≡ at more (j - k)
    at_more c e j l = at_skip c more k j e l

    same_entries : (j : ℕ) → k ≤ j → entries_at p g (a ++ more) j ≡ entries_at p g (b ++ more) j
    unfolding entries_at
    same_entries j l = let e : at (a ++ more) j ≡ at (b ++ more) j = at_more a refl j l ∙ sym (at_more b (sym h.sized) j l) in rw e

    same_behind : fa ≡ fb
    same_behind =
        ap (λ (l : List (List Entry)). flat l) (map_ext (entries_at p g (a ++ more)) (entries_at p g (b ++ more)) (up_from k (length more)) (λ j m. same_entries j (up_from_e k (length more) j m).0))
        ∙ ap (λ (n : ℕ). flat (map (entries_at p g (b ++ more)) (up_from n (length more)))) h.sized

    later_same : ra.stopped ≡ false → (e : Entry) → Memᴰ e fa → Same (a ++ s) (b ++ s) e
    later_same going e m =
        let q = flat_e (map (entries_at p g (a ++ more)) (up_from k (length more))) e m in
        let o = Memᴰ-of_map (entries_at p g (a ++ more)) (up_from k (length more)) q.1 in
        let j = o.0 in
        let l = up_from_e k (length more) j o.1 in
        let i = init j l.0 l.1 in
        let u = entry_e p g (a ++ more) j e i.1 (subst (λ (es : List Entry). Memᴰ e es) (sym o.2) q.2) in
        of_same p g (a ++ more) (a ++ s) (b ++ s) j u.0 e u.2 (pick j u.0 l.0 i.0 u.1 (dec_lt (at g (pair p j u.0) / p.values) k))
      where
        short : length a ≤ p.variables
        short = omega arith

        sa : Settles p w g gm a b
        sa = decided p w g gm a b la lb h.sized left short going

        sb : Settles p w g gm b a
        sb = decided p w g gm b a lb la (sym h.sized) (sym left) (omega (arith, h.sized)) (ap (λ (y : Residue). y.stopped) (sym left) ∙ going)

        init : (j : ℕ) → k ≤ j → j < k + length more → (j < p.variables) × T (has (at p.initial j) (at (a ++ more) j))
        init j l l' =
            let d : k + (j - k) ≡ j = omega arith in
            let t : T (has (at (sets_at p a) j) (at more (j - k))) = subst (λ (y : ℕ). T (has (at (sets_at p a) y) (at more (j - k)))) d (goes (j - k) (omega arith)) in (
              subst (λ (n : ℕ). j < n) (sets_at_sets p a z).0 (has_at_lt (sets_at p a) j (at more (j - k)) t),
              subst (λ (v : ℕ). T (has (at p.initial j) v)) (sym (at_more a refl j l))
                  ((live_consistent p a z la).inside j (at more (j - k)) t),
            )

        pick : (j u : ℕ) → k ≤ j → j < p.variables → T (has (at p.initial j) u) → Dec (at g (pair p j u) / p.values < k) →
            is (a ++ s) (at g (pair p j u) / p.values) (at g (pair p j u) % p.values) ≡ is (b ++ s) (at g (pair p j u) / p.values) (at g (pair p j u) % p.values)
        pick j u l lj t (no q) = behind (at g (pair p j u) / p.values) (at g (pair p j u) % p.values) (omega arith)
        pick j u l lj t (yes q) = agree (ℕ_discrete (at a x) (at b x))
          where
            x : ℕ
            x = at g (pair p j u) / p.values

            v : ℕ
            v = at g (pair p j u) % p.values

            agree : Dec (at a x ≡ at b x) → is (a ++ s) x v ≡ is (b ++ s) x v
            agree (yes e) = front x v q e
            agree (no n) =
                of_a x v q ∙ ne_eqb (at a x) v (λ e. not_elsewhere p w g gm r a b la lb h.sized (later_sets p a b h) short sa sb j u (λ i. absurd (omega arith)) lj t q n e)
                ∙ sym (of_b x v q ∙ ne_eqb (at b x) v (λ e. not_elsewhere p w g gm r b a lb la (sym h.sized) (later_sets p b a (alike_swapped p a b h)) (omega (arith, h.sized)) sb sa j u
                (λ i. absurd (omega (arith, h.sized))) lj t (omega (arith, h.sized)) (λ e'. n (sym e')) e))

    -- ---- the whole list
    all_same : (c : Bool) → ra.stopped ≡ c → (e : Entry) → Memᴰ e (after c ra.kept fa) → Same (a ++ s) (b ++ s) e
    all_same true q e m = left_same e m
    all_same false q e m = ⊎_elim {C = Same (a ++ s) (b ++ s) e} (left_same e) (later_same q e) (Memᴰ.append_cases ra.kept m)

    pub obeyed_alike : obeys (a ++ s) (nogoods_of p g (a ++ more)) ≡ obeys (b ++ s) (nogoods_of p g (b ++ more))
    obeyed_alike =
        ap (obeys (a ++ s)) (nogoods_append p g a more)
        ∙ residue_obeys (sets_at p a) (a ++ s) (drawn_from p w a s la size fits) true (nogoods_of p g a) fa (bounded a la (omega arith))
        ∙ obeys_same true (a ++ s) (b ++ s) (after ra.stopped ra.kept fa) (all_same ra.stopped refl)
        ∙ ap₂ (λ (q : Residue) (l : List Entry). obeys (b ++ s) (after q.stopped q.kept l)) left same_behind
        ∙ sym (residue_obeys (sets_at p b) (b ++ s) (drawn_from p w b s lb (omega (arith, h.sized)) (fits_behind p a b h s fits)) true (nogoods_of p g b) fb (bounded b lb (omega (arith, h.sized))))
        ∙ ap (obeys (b ++ s)) (sym (nogoods_append p g b more))

-- ---- lists that are obeyed for good
module _ (p : Problem) (w : WellFormed p) where
  good_obeyed : (g c s more : List ℕ) → T (is_live p c) → Obeyed (sets_at p c) (nogoods_of p g c) → length c + length s ≡ p.variables → Fits (sets_at p c) (length c) s → obeys (c ++ s)
      (nogoods_of p g (c ++ more)) ≡ true
  good_obeyed g c s more live o e f =
      ap (obeys (c ++ s)) (nogoods_append p g c more)
      ∙ of_T (obeys (c ++ s) (nogoods_of p g c ++ flat (map (entries_at p g (c ++ more)) (up_from (length c) (length more)))))
      (o (c ++ s) (drawn_i (sets_at p c) (c ++ s) (sets_at_sets p c (well_sized p w)).1 (drawn_from p w c s live e f)) _)

carry : (p : Problem) → WellFormed p → Respected p → (a b : List ℕ) → T (is_live p a) → T (is_live p b) → Alike p a b → (g : List ℕ) → Memᴰ g p.symmetries → Carries p g a b
carry p w r a b la lb h g m s more e room live d o = go (h.lists g m)
  where
    z : Sized p
    z = well_sized p w

    fits : Fits (sets_at p a) (length a) s
    fits = drawn_fits p a more s z d

    go : SameList p g a b → T (obeys (b ++ s) (nogoods_of p g (b ++ more)))
    go (obeyed q q') = T_of (obeys (b ++ s) (nogoods_of p g (b ++ more))) (good_obeyed p w g b s more lb q' (omega (arith, h.sized)) (fits_behind p a b h s fits))
    go (same_left q) = subst T (obeyed_alike p w g m r a b la lb h q s more e fits (live_fits p a more z room live)) o
    go (carried c c') = c s more e room live d o

pub alike_agree : (p : Problem) → WellFormed p → Respected p → (a b : List ℕ) → T (is_live p a) → T (is_live p b) → Alike p a b → Agree p a b
alike_agree p w r a b la lb h = record {
  sized = h.sized;
  first = la;
  second = lb;
  later = later_sets p a b h;
  settled = h.settled;
  lists = carry p w r a b la lb h;
  back = carry p w r b a lb la (alike_swapped p a b h);
}

pub alike_below : AlikeBelow
alike_below p w r a b la lb h m e = same_below p w a b (alike_agree p w r a b la lb h) m e
