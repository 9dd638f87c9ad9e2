-- How the filter ends, in words; and lists that every assignment obeys. Assumes nothing.
use Rattle.model.specs.Kit.{◌≡◌, refl, sym, ap, ap₂, ◌∙◌, subst, Bool, true, false, ◌↔◌, List, Memᴰ, ℕ, ◌^◌, ◌<◌, T, length}
use Rattle.model.specs.Nogood.{Entry, obeys_from, obeys, obeying, used, filtered, failed, entailed, consistent, ending_by, some_obeys, every_obeys, filter_ending}
use Rattle.model.specs.{Lists.at, ValueSets.has, ValueSets.any_empty, ValueSets.Inside, Problem.assignments, NogoodClaims.Entails, Inner.Endings.Fails, Inner.Endings.FailedExactly}
use Rattle.model.specs.Inner.Endings.{EntailedExactly, ConsistentExactly}
use Rattle.model.proofs.Lists.{T_of, of_T, not_of, of_not, TExt, all_i, all_e, any_i, any_e, keep_ext, never}
use Rattle.model.proofs.Filter.{length_filtered, filtered_sets, filtered_i, filtered_e, filtered_inside, filtered_none}
use Rattle.model.proofs.{Sets.inside_antisym, Sets.has_at_lt, Assignments.assign_mono}

-- ---- the two tests
module _ (ds : List ℕ) (es : List Entry) where
  pub some_none : some_obeys ds es ≡ false → Fails ds es
  some_none e a m o = of_not (some_obeys ds es) e (any_i (λ b. obeys b es) (assignments ds) a m o)

  pub none_some : Fails ds es → some_obeys ds es ≡ false
  none_some f = not_of (some_obeys ds es) (λ t. let r = any_e (λ b. obeys b es) (assignments ds) t in f r.0 r.1 r.2)

  pub every_i : Entails ds es → every_obeys ds es ≡ true
  every_i h = of_T (every_obeys ds es) (all_i (λ b. obeys b es) (assignments ds) h)

  pub every_e : every_obeys ds es ≡ true → Entails ds es
  every_e e = all_e (λ b. obeys b es) (assignments ds) (T_of (every_obeys ds es) e)

  pub every_no : (Entails ds es → ⊥) → every_obeys ds es ≡ false
  every_no n = not_of (every_obeys ds es) (λ t. n (all_e (λ b. obeys b es) (assignments ds) t))

  pub no_every : every_obeys ds es ≡ false → Entails ds es → ⊥
  no_every e h = of_not (every_obeys ds es) e (all_i (λ b. obeys b es) (assignments ds) h)

-- ---- the endings apart
by_failed : (b c : Bool) → ending_by b c ≡ failed → b ≡ false
by_failed false c e = refl
by_failed true true e = never (cc)
by_failed true false e = never (cc)

by_entailed : (b c : Bool) → ending_by b c ≡ entailed → (b ≡ true) × (c ≡ true)
by_entailed false c e = never (cc)
by_entailed true true e = (refl, refl)
by_entailed true false e = never (cc)

by_consistent : (b c : Bool) → ending_by b c ≡ consistent → (b ≡ true) × (c ≡ false)
by_consistent false c e = never (cc)
by_consistent true true e = never (cc)
by_consistent true false e = (refl, refl)

some_of : (b : Bool) → (b ≡ false → ⊥) → b ≡ true
some_of true f = refl
some_of false f = absurd (f refl)

apart : {b : Bool} → b ≡ true → b ≡ false → ⊥
apart p q = subst T (sym p ∙ q) tt

module _ (ds : List ℕ) (es : List Entry) where
  abbrev s : Bool
  s = some_obeys ds es

  abbrev v : Bool
  v = every_obeys (filtered ds es) es

  pub failed_i : Fails ds es → filter_ending ds es ≡ failed
  unfolding filter_ending
  failed_i f = ap (λ (b : Bool). ending_by b v) (none_some ds es f)

  pub ending_by_lem : (Fails ds es → ⊥) → {every : Bool} → every_obeys (filtered ds es) es ≡ every → filter_ending ds es ≡ ending_by true every
  unfolding filter_ending
  ending_by_lem f e = ap₂ ending_by (some_of s (λ q. f (some_none ds es q))) e

  pub entailed_i : (Fails ds es → ⊥) → Entails (filtered ds es) es → filter_ending ds es ≡ entailed
  entailed_i f h = ending_by_lem f (every_i (filtered ds es) es h)

pub failed_exactly : FailedExactly
unfolding filter_ending
failed_exactly ds es = (λ e. some_none ds es (by_failed (s ds es) (v ds es) e), failed_i ds es)

pub entailed_exactly : EntailedExactly
unfolding filter_ending
entailed_exactly ds es = (
  λ e. let r = by_entailed (s ds es) (v ds es) e in (λ f. apart r.0 (none_some ds es f), every_e (filtered ds es) es r.1),
  λ r. entailed_i ds es r.0 r.1,
)

pub consistent_exactly : ConsistentExactly
unfolding filter_ending
consistent_exactly ds es = (
  λ e. let r = by_consistent (s ds es) (v ds es) e in (λ f. apart r.0 (none_some ds es f), no_every (filtered ds es) es r.1),
  λ r. ending_by_lem ds es r.0 (every_no (filtered ds es) es r.1),
)

-- ---- a list that every assignment obeys takes nothing away, and stays so as the sets shrink
pub entailed_left : (rs : List ℕ) (es : List Entry) → Entails rs es → ((x : ℕ) → at rs x < 2 ^ 16) → any_empty rs ≡ false → filtered rs es ≡ rs
unfolding filtered obeying obeys_from
entailed_left rs es h small full =
    ap (used (length rs)) (keep_ext (λ a. obeys a es) (λ a. true) (assignments rs) (λ a m. of_T (obeys a es) (h a m))) ∙ filtered_none rs small full

pub entails_mono : (ds rs : List ℕ) (es : List Entry) → length rs ≡ length ds → Inside rs ds → Entails ds es → Entails rs es
entails_mono ds rs es n w h a m = h a (assign_mono rs ds a n w m)

-- ---- how the filter ends depends on nothing but which assignments obey
abbrev pub SameModels : List ℕ → List Entry → List ℕ → List Entry → Type 0
SameModels ss es rs fs = (a : List ℕ) → (Memᴰ a (assignments ss) × T (obeys a es)) ↔ (Memᴰ a (assignments rs) × T (obeys a fs))

module _ (ss : List ℕ) (es : List Entry) (rs : List ℕ) (fs : List Entry) (n : length ss ≡ length rs) (h : SameModels ss es rs fs) where
  filtered_models : filtered ss es ≡ filtered rs fs
  filtered_models =
      inside_antisym (length ss) (filtered ss es) (filtered rs fs) (filtered_sets ss es)
      (length_filtered rs fs ∙ sym n, (filtered_sets rs fs).1)
      (λ x w t. let r = filtered_e ss es x w t in let k = (h r.0).0 (r.1, r.2) in filtered_i rs fs x w r.0 (low ss es x w t n) k.0 k.1 r.3)
      (λ x w t. let r = filtered_e rs fs x w t in let k = (h r.0).1 (r.1, r.2) in filtered_i ss es x w r.0 (low rs fs x w t (sym n)) k.0 k.1 r.3)
    where
      low : (ds : List ℕ) (gs : List Entry) (x w : ℕ) → T (has (at (filtered ds gs) x) w) → {m : ℕ} → length ds ≡ m → x < m
      low ds gs x w t e = subst (λ (k : ℕ). x < k) (length_filtered ds gs ∙ e) (has_at_lt (filtered ds gs) x w t)

  entails_models : Entails (filtered ss es) es → Entails (filtered rs fs) fs
  entails_models e a m =
      let m' : Memᴰ a (assignments (filtered ss es)) = subst (λ (l : List ℕ). Memᴰ a (assignments l)) (sym filtered_models) m in
      ((h a).0 (assign_mono (filtered ss es) ss a (length_filtered ss es) (filtered_inside ss es) m', e a m')).1

  fails_models : Fails ss es → Fails rs fs
  fails_models f a m o = let k = (h a).1 (m, o) in f a k.0 k.1

pub same_ending : (ss : List ℕ) (es : List Entry) (rs : List ℕ) (fs : List Entry) → length ss ≡ length rs → SameModels ss es rs fs → filter_ending ss es ≡ filter_ending rs fs
unfolding filter_ending
same_ending ss es rs fs n h =
    ap₂ ending_by
    (false_ext (s ss es) (s rs fs) (λ e. none_some rs fs (fails_models ss es rs fs n h (some_none ss es e))) (λ e. none_some ss es (fails_models rs fs ss es (sym n) back (some_none rs fs e))))
    (TExt (v ss es) (v rs fs)
    (λ t. all_i (λ b. obeys b fs) (assignments (filtered rs fs)) (entails_models ss es rs fs n h (all_e (λ b. obeys b es) (assignments (filtered ss es)) t)))
    (λ t. all_i (λ b. obeys b es) (assignments (filtered ss es)) (entails_models rs fs ss es (sym n) back (all_e (λ b. obeys b fs) (assignments (filtered rs fs)) t))))
  where
    back : SameModels rs fs ss es
    back a = ((h a).1, (h a).0)

    false_ext : (b c : Bool) → (b ≡ false → c ≡ false) → (c ≡ false → b ≡ false) → b ≡ c
    false_ext true true f g = refl
    false_ext true false f g = g refl
    false_ext false c f g = sym (f refl)
