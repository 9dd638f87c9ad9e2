-- How the filter ends, for code that scans: at the end of a list, at an empty set, and at an equality that some assignments keep and some break.
-- Assumes nothing.
use Rattle.model.specs.Kit.{◌≡◌, refl, sym, ap, ◌∙◌, subst, Bool, true, false, not, List, [], ◌∷◌, Memᴰ, ℕ, ◌≤◌, ◌<◌, dec_lt, arith, T, eqb, length, set, take}
use Rattle.model.specs.Nogood.{Entry, equality, is, obeys_from, obeys, filtered, failed, entailed, consistent, ending_by, every_obeys, filter_ending}
use Rattle.model.specs.{Lists.at, Lists.same, ValueSets.has, ValueSets.only_mask, ValueSets.without_mask, ValueSets.any_empty, Problem.assignments, NogoodClaims.Entails, Inner.Endings.Fails}
use lib.Seq.{take-set-lt}
use Rattle.model.proofs.Lists.{T_of, of_T, not_of, of_not, TExt, all_i, all_e, same_eq, same_refl, at_ext, at_set, at_take}
use Rattle.model.proofs.Endings.{SameModels, every_i, every_no, failed_i, entailed_i, ending_by_lem, entailed_exactly, consistent_exactly, entailed_left, same_ending}
use Rattle.model.proofs.{Sets.members_i, Sets.members_e, Sets.empty_e, Sets.inside_antisym, Filter.filtered_inside, Obey.obeys_unheld, Assignments.assign_i, Assignments.assign_e}
use Rattle.filter.specs.Inner.Scan.{step_of, models, None, Some, Live, Passed, Remainder, Right, Changed}
use Rattle.filter.specs.{Inner.Lists.forced, declared.entry.Step.TheVariants.Split}
use Rattle.filter.proofs.Marks.{for_good_equality}
use Rattle.filter.proofs.Scan
use Rattle.filter.proofs.Front

-- ---- assignments drawn
draw_mem : (ss a : List ℕ) → Scan.Draw ss a → Memᴰ a (assignments ss)
draw_mem ss a d = assign_i ss a d.0 (λ x l. members_i (at ss x) (at a x) (d.1 x l).0 (d.1 x l).1)

mem_draw : (ss a : List ℕ) → Memᴰ a (assignments ss) → Scan.Draw ss a
mem_draw ss a m = let r = assign_e ss a m in (r.0, λ x l. members_e (at ss x) (at a x) (r.1 x l))

full_empty : (ss : List ℕ) → Scan.Full ss → any_empty ss ≡ false
full_empty ss f = not_of (any_empty ss) (λ t. let r = empty_e ss t in f r.0 r.1 r.2)

-- ---- what is asked decides which assignments obey
same_models : (ss : List ℕ) (es : List Entry) (rs : List ℕ) (fs : List Entry) → ((q : List ℕ → Bool) → models ss es q ≡ models rs fs q) → SameModels ss es rs fs
same_models ss es rs fs h a = (one ss es rs fs h a, one rs fs ss es (λ q. sym (h q)) a)
  where
    one : (ss : List ℕ) (es : List Entry) (rs : List ℕ) (fs : List Entry) → ((q : List ℕ → Bool) → models ss es q ≡ models rs fs q) → (a : List ℕ) →
        Memᴰ a (assignments ss) × T (obeys a es) → Memᴰ a (assignments rs) × T (obeys a fs)
    one ss es rs fs h a k =
        let r = Scan.models_e rs fs (same a) (subst T (h (same a)) (Scan.models_i ss es (same a) a (mem_draw ss a k.0) (same_refl a) k.1)) in
        let e : r.0 ≡ a = sym (same_eq a r.0 r.2) in
        (subst (λ (c : List ℕ). Memᴰ c (assignments rs)) e (draw_mem rs r.0 r.1), subst (λ (c : List ℕ). T (obeys c fs)) e r.3)

pub none_failed : (ss : List ℕ) (es : List Entry) → ((q : List ℕ → Bool) → models ss es q ≡ false) → filter_ending ss es ≡ failed
none_failed ss es z = failed_i ss es (λ a m o. of_not (models ss es (λ c. true)) (z (λ c. true)) (Scan.models_i ss es (λ c. true) a (mem_draw ss a m) tt o))

some_obeys : (ss : List ℕ) (es : List Entry) → T (models ss es (λ a. true)) → Fails ss es → ⊥
some_obeys ss es t f = let r = Scan.models_e ss es (λ a. true) t in f r.0 (draw_mem ss r.0 r.1) r.3

-- nothing is left to ask
every_end : (ss : List ℕ) → every_obeys ss [] ≡ true
unfolding obeys_from
every_end ss = every_i ss [] (λ a m. tt)

end_entailed : (ss : List ℕ) → Scan.Small ss → Scan.Full ss → filter_ending ss [] ≡ entailed
unfolding obeys_from
end_entailed ss b f = entailed_i ss [] (λ n. let d = Scan.drawable ss b f in n d.0 (draw_mem ss d.0 d.1) tt) (λ a m. tt)

-- ---- whether every assignment from the sets obeys
-- an equality: those that keep it decide
every_force : (ss : List ℕ) (x v : ℕ) (es : List Entry) → x < length ss → every_obeys ss (equality x v ∷ es) ≡ every_obeys (forced ss x v) es
unfolding obeys_from
every_force ss x v es h =
    TExt (every_obeys ss (equality x v ∷ es)) (every_obeys (forced ss x v) es)
    (λ t. all_i (λ a. obeys a es) (assignments (forced ss x v)) (back (all_e (λ a. obeys a (equality x v ∷ es)) (assignments ss) t)))
    (λ t. all_i (λ a. obeys a (equality x v ∷ es)) (assignments ss) (forth (all_e (λ a. obeys a es) (assignments (forced ss x v)) t)))
  where
    kept : Entails (forced ss x v) es → (a : List ℕ) → Scan.Draw ss a → (c : Bool) → eqb (at a x) v ≡ c → T (obeys_from (is a x v) a es)
    kept every a d true q =
        subst (λ (c : Bool). T (obeys_from c a es)) (sym (Scan.is_at ss a x v h d ∙ q))
        (every a (draw_mem (forced ss x v) a (Scan.cut_i ss x (Scan.equal v) a h d (T_of (eqb (at a x) v) q))))
    kept every a d false q = T_of (obeys_from (is a x v) a es) (ap (λ (c : Bool). obeys_from c a es) (Scan.is_at ss a x v h d ∙ q) ∙ obeys_unheld a es)

    forth : Entails (forced ss x v) es → Entails ss (equality x v ∷ es)
    forth every a m = let d = mem_draw ss a m in kept every a d (eqb (at a x) v) refl

    back : Entails ss (equality x v ∷ es) → Entails (forced ss x v) es
    back every a m =
        let d = Scan.cut_e ss x (Scan.equal v) a h (mem_draw (forced ss x v) a m) in
        subst (λ (c : Bool). T (obeys_from c a es)) (Scan.is_at ss a x v h d.0 ∙ of_T (eqb (at a x) v) d.1) (every a (draw_mem ss a d.0))

-- by how the filter ends, and whether it takes anything
module _ (ss : List ℕ) (es : List Entry) (b : Scan.Small ss) (f : Scan.Full ss) where
  every_left : Entails ss es → filtered ss es ≡ ss
  every_left h = entailed_left ss es h b (full_empty ss f)

  every_entailed : filter_ending ss es ≡ entailed → filtered ss es ≡ ss → every_obeys ss es ≡ true
  every_entailed e l = every_i ss es (subst (λ (rs : List ℕ). Entails rs es) l ((entailed_exactly ss es).0 e).1)

  every_consistent : filter_ending ss es ≡ consistent → every_obeys ss es ≡ false
  every_consistent e = every_no ss es (λ h. ((consistent_exactly ss es).0 e).1 (subst (λ (rs : List ℕ). Entails rs es) (sym (every_left h)) h))

  every_taken : (filtered ss es ≡ ss → ⊥) → every_obeys ss es ≡ false
  every_taken n = every_no ss es (λ h. n (every_left h))

-- ---- the same of the first n of sixteen sets
module _ {n : ℕ} {ss : List ℕ} {es : List Entry} {rs : List ℕ} {fs : List Entry} (l : Live n ss) (p : Passed n ss es rs fs) where
  pub passed_ending : filter_ending (take n ss) es ≡ filter_ending (take n rs) fs
  passed_ending = same_ending (take n ss) es (take n rs) fs (Front.front_length l ∙ sym (Front.front_length p.live)) (same_models (take n ss) es (take n rs) fs p.same)

  -- nothing was taken on the way
  pub every_passed : take n rs ≡ take n ss → every_obeys (take n ss) es ≡ every_obeys (take n ss) fs
  every_passed q =
      let m : SameModels (take n ss) es (take n ss) fs = subst (λ (t : List ℕ). SameModels (take n ss) es t fs) q (same_models (take n ss) es (take n rs) fs p.same) in
      TExt (every_obeys (take n ss) es) (every_obeys (take n ss) fs)
      (λ t. all_i (λ a. obeys a fs) (assignments (take n ss)) (λ a i. ((m a).0 (i, all_e (λ a. obeys a es) (assignments (take n ss)) t a i)).1))
      (λ t. all_i (λ a. obeys a es) (assignments (take n ss)) (λ a i. ((m a).1 (i, all_e (λ a. obeys a fs) (assignments (take n ss)) t a i)).1))

  -- a value was: some assignment that has it does not obey
  pub every_changed : (take n rs ≡ take n ss → ⊥) → every_obeys (take n ss) es ≡ false
  every_changed c = every_no (take n ss) es (λ h. c (sym (equal h)))
    where
      sized : (ts : List ℕ) → Live n ts → (length (take n ts) ≡ n) × Scan.Small (take n ts)
      sized ts m = (Front.front_length m, Front.front_small m)

      left : Entails (take n ss) es → filtered (take n rs) fs ≡ take n ss
      left h =
          sym (Scan.filtered_same (take n ss) es (take n rs) fs (Front.front_length l ∙ sym (Front.front_length p.live)) p.same)
          ∙ every_left (take n ss) es (Front.front_small l) (Front.front_full l) h

      equal : Entails (take n ss) es → take n ss ≡ take n rs
      equal h =
          inside_antisym n (take n ss) (take n rs) (sized ss l) (sized rs p.live)
          (λ x v t. filtered_inside (take n rs) fs x v (subst (λ (ts : List ℕ). T (has (at ts x) v)) (sym (left h)) t)) p.less

pub ended_entailed : {n : ℕ} {ss : List ℕ} {es : List Entry} {rs : List ℕ} → Live n ss → Passed n ss es rs [] → filter_ending (take n ss) es ≡ entailed
ended_entailed {n} {ss} {es} {rs} l p = passed_ending l p ∙ end_entailed (take n rs) (Front.front_small p.live) (Front.front_full p.live)

pub ended_every : {n : ℕ} {ss : List ℕ} {es : List Entry} {rs : List ℕ} → Live n ss → Passed n ss es rs [] → take n rs ≡ take n ss → every_obeys (take n ss) es ≡ true
ended_every {n} {ss} l p q = every_passed l p q ∙ every_end (take n ss)

-- ---- two times sixteen sets, compared
module _ {n : ℕ} {ss rs : List ℕ} (l : Live n ss) (m : Live n rs) where
  pub unchanged : (c : Bool) → Changed c ss rs → c ≡ false → rs ≡ ss
  unchanged true g q = absurd (subst T q tt)
  unchanged false g q = at_ext rs ss (m.sixteen ∙ sym l.sixteen) (λ y h. g y (omega (arith, m.sixteen)))

  -- where the others are as they were
  different : ((x : ℕ) → n ≤ x → at rs x ≡ at ss x) → (c : Bool) → Changed c ss rs → c ≡ true → take n rs ≡ take n ss → ⊥
  different u true g q e = go (dec_lt g.0 n)
    where
      go : Dec (g.0 < n) → ⊥
      go (yes h) = g.2 (sym (Front.front_at m g.0 h) ∙ ap (λ (t : List ℕ). at t g.0) e ∙ Front.front_at l g.0 h)
      go (no h) = g.2 (u g.0 (omega arith))
  different u false g q e = absurd (subst T (sym q) tt)

pub changed_front : {n : ℕ} {ss : List ℕ} {es : List Entry} {rs : List ℕ} {fs : List Entry} → Live n ss → Passed n ss es rs fs → (c : Bool) → Changed c ss rs → c ≡ true → take n rs ≡ take n ss → ⊥
changed_front l p c g q = different l p.live p.unused c g q

-- every assignment obeys exactly if no set was changed
by_either : {n : ℕ} {ss rs : List ℕ} {b : Bool} → Live n ss → Live n rs → ((x : ℕ) → n ≤ x → at rs x ≡ at ss x) → (c : Bool) → Changed c ss rs →
    (take n rs ≡ take n ss → b ≡ true) → ((take n rs ≡ take n ss → ⊥) → b ≡ false) → b ≡ not c
by_either {n} l m u true g f h = h (different l m u true g refl)
by_either {n} l m u false g f h = f (ap (take n) (unchanged l m false g refl))

pub by_changed : {n : ℕ} {ss : List ℕ} {es : List Entry} {rs : List ℕ} {fs : List Entry} → Live n ss → (p : Passed n ss es rs fs) → (c : Bool) → Changed c ss rs →
    (take n rs ≡ take n ss → every_obeys (take n ss) es ≡ true) → every_obeys (take n ss) es ≡ not c
by_changed l p c g h = by_either l p.live p.unused c g h (every_changed l p)

module _ {n : ℕ} {ss : List ℕ} (es : List Entry) (l : Live n ss) where
  pub front_consistent : filter_ending (take n ss) es ≡ consistent → every_obeys (take n ss) es ≡ false
  front_consistent e = every_consistent (take n ss) es (Front.front_small l) (Front.front_full l) e

  -- what an entailed list leaves says whether it took something
  pub front_remainder : {rs : List ℕ} → Remainder n ss es rs → filter_ending (take n ss) es ≡ entailed → (c : Bool) → Changed c ss rs → every_obeys (take n ss) es ≡ not c
  front_remainder r e c g =
      by_either l r.live r.unused c g
      (λ q. every_entailed (take n ss) es (Front.front_small l) (Front.front_full l) e (sym r.left ∙ q))
      (λ q. every_taken (take n ss) es (Front.front_small l) (Front.front_full l) (λ z. q (r.left ∙ z)))

-- ---- at an equality that some assignments keep and some break
module _ {n : ℕ} {ss : List ℕ} {es : List Entry} {rs : List ℕ} (k : Live n ss) (x v : ℕ) (fs : List Entry) (p : Passed n ss es rs (equality x v ∷ fs)) (r : Right n (equality x v))
    (e : step_of rs (equality x v) ≡ Split) where
  inside : x < length (take n rs)
  inside = subst (λ (m : ℕ). x < m) (sym (Front.front_length p.live)) r.0

  front_forced : forced (take n rs) x v ≡ take n (forced rs x v)
  front_forced = ap (λ (t : ℕ). set (take n rs) x (only_mask t v)) (Front.front_at p.live x r.0) ∙ sym (take-set-lt n rs x _ r.0)

  some : Fails (take n rs) (equality x v ∷ fs) → ⊥
  some = some_obeys (take n rs) (equality x v ∷ fs) (subst T (p.same (λ a. true)) (Front.split_some x v fs p r e))

  every_at : every_obeys (take n rs) (equality x v ∷ fs) ≡ every_obeys (take n (forced rs x v)) fs
  every_at = every_force (take n rs) x v fs inside ∙ ap (λ (m : List ℕ). every_obeys m fs) front_forced

  -- with the pair forced some assignment obeys: nothing goes, and those that keep the pair decide
  pub kept_ending : Some n (forced rs x v) fs → filter_ending (take n ss) es ≡ ending_by true (every_obeys (take n (forced rs x v)) fs)
  kept_ending t =
      passed_ending k p
      ∙ ending_by_lem (take n rs) (equality x v ∷ fs) some
      (ap (λ (m : List ℕ). every_obeys m (equality x v ∷ fs)) (sym (Front.split_kept x v fs (Front.begin (equality x v ∷ fs) p.live) r e (Front.front_length p.live) t).left) ∙ every_at)

  -- none does: the pair goes, and all that are left break the equality
  pub gone_entailed : None n (forced rs x v) fs → filter_ending (take n ss) es ≡ entailed
  gone_entailed z =
      passed_ending k p
      ∙ ending_by_lem (take n rs) (equality x v ∷ fs) some
      (ap (λ (m : List ℕ). every_obeys m (equality x v ∷ fs)) (sym (Front.split_gone x v fs (Front.begin (equality x v ∷ fs) p.live) r e (Front.front_length p.live) z).left)
      ∙ every_i (take n out) (equality x v ∷ fs) every)
    where
      out : List ℕ
      out = set rs x (without_mask (at rs x) v)

      gone : T (has (at (take n out) x) v) → ⊥
      gone t = Scan.without_gone (at rs x) v (subst (λ (s : ℕ). T (has s v)) (at_take n out x r.0 ∙ at_set rs x _ (omega (arith, r.0, p.live.few, p.live.sixteen))) t)

      every : Entails (take n out) (equality x v ∷ fs)
      every a m = for_good_equality (take n out) x v (subst (λ (j : ℕ). x < j) (sym (Front.front_length
          (Front.split_gone x v fs (Front.begin (equality x v ∷ fs) p.live) r e (Front.front_length p.live) z).live)) r.0) gone a m fs
