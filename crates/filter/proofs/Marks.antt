-- The two marks of an entry: what question 19 lets through, and what the entry then is. Then the laws of a list whose first part says nothing more,
-- or is obeyed for good. Assumes nothing.
use Rattle.model.specs.Kit.{◌≡◌, refl, sym, ap, ap₂, ◌∙◌, subst, Bool, true, false, not, List, [], ◌∷◌, ◌++◌, append_assoc, append-nil, Memᴰ, Memᴰ-head, Memᴰ-tail, Memᴰ-not_nil}
use Rattle.model.specs.Kit.{Memᴰ-append_left, ⊎_elim, ℕ, ◌%◌, ◌^◌, ◌<◌, ◌≤◌, mod-eq_of_lt, arith, T, eqb, ltb, eqb→eq, eqb_refl, length, eq-eqb, eqb-true, lt-ltb, le-ltb}
use Rattle.model.specs.Nogood.{Entry, equality, disequality, Kind, is_equality, is_disequality, both_absent, both_present, mark, kind_by, kind_of, entry_in, entry_of, value_ok, entry_ok, is}
use Rattle.model.specs.Nogood.{obeys_from, obeys}
use Rattle.model.specs.Nogood.{obeying}
use Rattle.model.specs.{Lists.at, Lists.both, ValueSets.has, ValueSets.mask_of, ValueSets.without_mask, ValueSets.only_mask, ValueSets.Inside, Problem.assignments}
use Rattle.model.proofs.Lists.{T_of, of_T, not_of, of_not, both_i, both_l, both_r, both_no_r, keep_ext, get_d_at, never}
use Rattle.model.proofs.{Sets.has_none, Sets.has_lt, Sets.mask_i, Obey.obeys_unheld, Assignments.assign_mono, Assignments.drawn_e, EntryKinds.right_kinds, Endings.entailed_left, Endings.entails_mono}
use Rattle.filter.specs.declared.Kind.TheVariants.{Equality, Disequality, BothAbsent, BothPresent}
use Rattle.filter.specs.Marks.{Vacuous, ObeyedForGood, NamesGone, Skippable, SkippedHere, SkippedBelow}
use Rattle.filter.specs.{declared.entry.Step.TheVariants.Next, declared.entry.Step.TheVariants.Obeyed, Inner.Scan.Right, Inner.Scan.step_of, Inner.Lists.kind_as}
use Rattle.filter.specs.declared.Kind as code
use Rattle.filter.proofs.Front

-- ---- the cases, as the code has them
pub kind_by_lem : (e u : ℕ) {b c : Bool} → eqb e mark ≡ b → eqb u mark ≡ c → kind_as (kind_by b c) e u ≡ kind_as (kind_of e u) e u
kind_by_lem e u p q = ap₂ (λ (b c : Bool). kind_as (kind_by b c) e u) (sym p) (sym q)

-- what an entry that is right says, its value being its own remainder
module _ (x e u : ℕ) (r : Right 16 (entry_of x e u)) where
  pub reads_variable : x < 16
  reads_variable = go (kind_of e u) r
    where
      go : (k : Kind) → Right 16 (entry_in k x e u) → x < 16
      go is_equality r = r.0
      go is_disequality r = r.0
      go both_absent r = r.0
      go both_present r = r.0

  -- an equality, or two values
  pub reads_equality : (v : ℕ) → Equality v ≡ kind_as (kind_of e u) e u → entry_of x e u ≡ equality x (v % 16)
  reads_equality v q = go (kind_of e u) r q
    where
      go : (k : Kind) → Right 16 (entry_in k x e u) → Equality v ≡ kind_as k e u → entry_in k x e u ≡ equality x (v % 16)
      go is_equality r q = let z : v ≡ e = cc in ap (equality x) (sym (ap (λ (n : ℕ). n % 16) z ∙ mod-eq_of_lt r.1))
      go is_disequality r q = never (cc)
      go both_absent r q = never (cc)
      go both_present r q = never (cc)

  pub reads_present : BothPresent ≡ kind_as (kind_of e u) e u → entry_of x e u ≡ equality x (e % 16)
  reads_present q = go (kind_of e u) r q
    where
      go : (k : Kind) → Right 16 (entry_in k x e u) → BothPresent ≡ kind_as k e u → entry_in k x e u ≡ equality x (e % 16)
      go is_equality r q = never (cc)
      go is_disequality r q = never (cc)
      go both_absent r q = never (cc)
      go both_present r q = ap (equality x) (sym (mod-eq_of_lt r.1))

  -- a disequality, or two marks
  pub reads_disequality : (v : ℕ) → Disequality v ≡ kind_as (kind_of e u) e u → entry_of x e u ≡ disequality x (v % 16)
  reads_disequality v q = go (kind_of e u) r q
    where
      go : (k : Kind) → Right 16 (entry_in k x e u) → Disequality v ≡ kind_as k e u → entry_in k x e u ≡ disequality x (v % 16)
      go is_equality r q = never (cc)
      go is_disequality r q = let z : v ≡ u = cc in ap (disequality x) (sym (ap (λ (n : ℕ). n % 16) z ∙ mod-eq_of_lt r.1))
      go both_absent r q = never (cc)
      go both_present r q = never (cc)

  pub reads_absent : BothAbsent ≡ kind_as (kind_of e u) e u → entry_of x e u ≡ disequality x (u % 16)
  reads_absent q = go (kind_of e u) r q
    where
      go : (k : Kind) → Right 16 (entry_in k x e u) → BothAbsent ≡ kind_as k e u → entry_in k x e u ≡ disequality x (u % 16)
      go is_equality r q = never (cc)
      go is_disequality r q = never (cc)
      go both_absent r q = ap (disequality x) (sym (mod-eq_of_lt r.1))
      go both_present r q = never (cc)

pub right_mono : (m n : ℕ) (e : Entry) → m ≤ n → Right m e → Right n e
right_mono m n (equality x v) h r = (omega (arith, r.0), r.1)
right_mono m n (disequality x v) h r = (omega (arith, r.0), r.1)

-- ---- question 19
pub ok_right : (n x e u : ℕ) → T (entry_ok n x e u) → Right n (entry_of x e u)
ok_right n x e u t =
    let k = right_kinds n x e u t in
    ⊎_elim {C = Right n (entry_of x e u)} (λ q. subst (Right n) (sym q.0) (k.0, q.1)) (λ q. subst (Right n) (sym q.0) (k.0, q.1)) k.1

module _ (n x e u : ℕ) where
  pub ok_out : n ≤ x → false ≡ entry_ok n x e u
  ok_out h = simp (le-ltb x n h)

  -- by the kind as the code has it
  abbrev ok_as : code.Kind → Bool
  ok_as (Equality v) = ltb v 16
  ok_as (Disequality v) = ltb v 16
  ok_as BothAbsent = false
  ok_as BothPresent = false

  pub ok_kind : x < n → (k : code.Kind) → k ≡ kind_as (kind_of e u) e u → ok_as k ≡ entry_ok n x e u
  ok_kind h k q = ap ok_as q ∙ go (kind_of e u) ∙ ap (λ (b : Bool). both b (value_ok (kind_of e u) e u)) (sym (lt-ltb x n h))
    where
      go : (k : Kind) → ok_as (kind_as k e u) ≡ value_ok k e u
      go is_equality = refl
      go is_disequality = refl
      go both_absent = refl
      go both_present = refl

-- ---- a first part that says nothing more, and one that is obeyed for good
pub vacuous_nil : (ds : List ℕ) → Vacuous ds []
vacuous_nil ds a m fs = refl

pub vacuous_append : (ds : List ℕ) (es fs : List Entry) → Vacuous ds es → Vacuous ds fs → Vacuous ds (es ++ fs)
vacuous_append ds es fs i j a m gs = ap (obeys a) (append_assoc es fs gs) ∙ i a m (fs ++ gs) ∙ j a m gs

pub for_good_append : (ds : List ℕ) (es fs : List Entry) → ObeyedForGood ds es → ObeyedForGood ds (es ++ fs)
for_good_append ds es fs s a m gs = subst (λ (l : List Entry). T (obeys a l)) (sym (append_assoc es fs gs)) (s a m (fs ++ gs))

-- they stay so as the sets shrink
pub vacuous_mono : (ds rs : List ℕ) (es : List Entry) → length rs ≡ length ds → Inside rs ds → Vacuous ds es → Vacuous rs es
vacuous_mono ds rs es l h i a m fs = i a (assign_mono rs ds a l h m) fs

pub skippable_mono : (ds rs : List ℕ) (es : List Entry) → length rs ≡ length ds → Inside rs ds → Skippable ds es → Skippable rs es
skippable_mono ds rs es l h s =
    let g = s.gone in
    record { entailed = entails_mono ds rs es l h s.entailed; gone = (g.0, g.1, g.2, subst (λ (n : ℕ). g.0 < n) (sym l) g.3, λ t. g.4 (h g.0 g.1 t)) }

-- ---- one entry
module _ (ds : List ℕ) (x v : ℕ) (h : x < length ds) where
  -- the value of x in an assignment drawn from the sets
  drawn_at : (a : List ℕ) → Memᴰ a (assignments ds) → (is a x v ≡ eqb (at a x) v) × T (has (at ds x) (at a x))
  drawn_at a m =
      let d = drawn_e ds a m in
      (ap (λ (n : ℕ). eqb n v) (get_d_at a x 16 (subst (λ (n : ℕ). x < n) (sym d.0) h)), d.1 x h)

  absent : (T (has (at ds x) v) → ⊥) → (a : List ℕ) → Memᴰ a (assignments ds) → is a x v ≡ false
  absent z a m =
      let d = drawn_at a m in
      d.0 ∙ not_of (eqb (at a x) v) (λ t. z (subst (λ (w : ℕ). T (has (at ds x) w)) (eqb→eq (at a x) v t) d.1))

  -- "not this value", which the set has not
  pub vacuous_disequality : (T (has (at ds x) v) → ⊥) → Vacuous ds (disequality x v ∷ [])
  unfolding obeys_from
  vacuous_disequality z a m fs = ap (λ (b : Bool). both (not b) (obeys a fs)) (absent z a m)

  -- "this value", which the set has alone
  pub vacuous_equality : ((w : ℕ) → T (has (at ds x) w) → w ≡ v) → Vacuous ds (equality x v ∷ [])
  unfolding obeys_from
  vacuous_equality z a m fs =
      let d = drawn_at a m in
      ap (λ (b : Bool). obeys_from b a fs) (d.0 ∙ eq-eqb (at a x) v (z (at a x) d.1))

  -- "this value", which the set has not
  pub for_good_equality : (T (has (at ds x) v) → ⊥) → ObeyedForGood ds (equality x v ∷ [])
  unfolding obeys_from
  for_good_equality z a m fs = T_of (obeys_from (is a x v) a fs) (ap (λ (b : Bool). obeys_from b a fs) (absent z a m) ∙ obeys_unheld a fs)

-- an equality that the scan passes, and one that ends it
module _ (ds : List ℕ) (x v : ℕ) (h : x < length ds) (b : at ds x < 2 ^ 16) where
  present : (f : ℕ → Bool) (w : ℕ) → T (has (at ds x) w) → T (f w) → mask_of (λ u. both (has (at ds x) u) (f u)) ≡ 0 → ⊥
  present f w t q z =
      of_not (has 0 w) (has_none w)
      (subst (λ (s : ℕ). T (has s w)) z (mask_i (λ u. both (has (at ds x) u) (f u)) w (has_lt 16 (at ds x) w b t) (both_i (has (at ds x) w) (f w) t q)))

  alone : without_mask (at ds x) v ≡ 0 → (w : ℕ) → T (has (at ds x) w) → (c : Bool) → eqb w v ≡ c → w ≡ v
  alone z w t true q = eqb-true w v q
  alone z w t false q = absurd (present (λ u. not (eqb u v)) w t (T_of (not (eqb w v)) (ap not q)) z)

  pub vacuous_next : step_of ds (equality x v) ≡ Next → Vacuous ds (equality x v ∷ [])
  vacuous_next e =
      let z : without_mask (at ds x) v ≡ 0 = eqb-true _ 0 (Front.next_keep _ (eqb (only_mask (at ds x) v) 0) e) in
      vacuous_equality ds x v h (λ w t. alone z w t (eqb w v) refl)

  pub gone_step : step_of ds (equality x v) ≡ Obeyed → T (has (at ds x) v) → ⊥
  gone_step e t = present (λ u. eqb u v) v t (eqb_refl v) (eqb-true _ 0 (Front.obeyed_keep (eqb (without_mask (at ds x) v) 0) _ e))

-- ---- what the filter leaves
pub obeying_vacuous : (ds : List ℕ) (es fs : List Entry) → Vacuous ds es → obeying ds (es ++ fs) ≡ obeying ds fs
unfolding obeying
obeying_vacuous ds es fs i = keep_ext (λ a. obeys a (es ++ fs)) (λ a. obeys a fs) (assignments ds) (λ a m. i a m fs)

pub obeying_for_good : (ds : List ℕ) (es : List Entry) → ObeyedForGood ds es → obeying ds es ≡ obeying ds []
unfolding obeying obeys_from
obeying_for_good ds es s =
    keep_ext (λ a. obeys a es) (λ a. true) (assignments ds)
    (λ a m. of_T (obeys a es) (subst (λ (l : List Entry). T (obeys a l)) (append-nil es) (s a m [])))

-- ---- an entailed list
pub skipped_here : SkippedHere
skipped_here ds rs es e n w small full = entailed_left rs es (entails_mono ds rs es n w e) small full

pub skipped_below : SkippedBelow
unfolding obeys_from
skipped_below ds es s a m fs = behind true es (s.entailed a m) s.gone.2
  where
    g : NamesGone ds es
    g = s.gone

    x : ℕ
    x = g.0

    v : ℕ
    v = g.1

    Broken : Entry → Type 0
    Broken (equality y w) = is a y w ≡ false
    Broken (disequality y w) = ⊥

    -- behind the equality nothing is asked
    behind : (c : Bool) (es : List Entry) → T (obeys_from c a es) → Memᴰ (equality x v) es → T (obeys_from c a (es ++ fs))
    behind c [] t i = absurd (Memᴰ-not_nil i)
    behind c (equality y w ∷ es) t (Memᴰ-head e) =
        T_of (obeys_from (both c (is a y w)) a (es ++ fs))
        (ap (λ (b : Bool). obeys_from b a (es ++ fs)) (both_no_r c (is a y w) (subst Broken e (absent ds x v g.3 g.4 a m))) ∙ obeys_unheld a (es ++ fs))
    behind c (equality y w ∷ es) t (Memᴰ-tail i) = behind (both c (is a y w)) es t i
    behind c (disequality y w ∷ es) t (Memᴰ-head e) = absurd (subst Broken e (absent ds x v g.3 g.4 a m))
    behind c (disequality y w ∷ es) t (Memᴰ-tail i) =
        let d = not (both c (is a y w)) in
        both_i d (obeys_from c a (es ++ fs)) (both_l d (obeys_from c a es) t) (behind c es (both_r d (obeys_from c a es) t) i)

-- and stays so as the list grows
pub skippable_append : (ds : List ℕ) (es fs : List Entry) → Skippable ds es → Skippable ds (es ++ fs)
skippable_append ds es fs s =
    let g = s.gone in
    record { entailed = λ a m. skipped_below ds es s a m fs; gone = (g.0, g.1, Memᴰ-append_left fs g.2, g.3, g.4) }
