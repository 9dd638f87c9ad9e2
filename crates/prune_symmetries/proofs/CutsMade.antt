-- First parts of a list that are passed, one after another. Assumes nothing.
use Rattle.model.specs.Kit.{◌≡◌, refl, sym, ap, ◌∙◌, subst, List, [], ◌∷◌, ◌++◌, append_assoc, Memᴰ-head, Memᴰ-append_left, ℕ, ◌<◌, T, eqb, length, take}
use Rattle.model.specs.{Lists.at, Lists.any, ValueSets.has, ValueSets.without_mask, ValueSets.only_mask, Nogood.Entry, Nogood.equality}
use mathlib.Core.List.Memᴰ
use Rattle.model.proofs.Sets.{inside_refl, inside_trans}
use Rattle.filter.specs.Inner.Scan.{step_of, keep_step, Right, None, Live, Passed}
use Rattle.filter.specs.{declared.entry.Step.Step, declared.entry.Step.TheVariants.Next, declared.entry.Step.TheVariants.Obeyed, Marks.Vacuous}
use Rattle.filter.proofs.Marks.{vacuous_append, for_good_append, vacuous_mono, vacuous_next, gone_step, for_good_equality, obeying_vacuous, obeying_for_good}
use Rattle.prune_symmetries.specs.Inner.Levels.{CutsMade, CutsObeyed, NoneObeys}
use Rattle.filter.proofs.Front

-- ---- two scans, one after the other
pub pass_on : {n : ℕ} {ss rs ts : List ℕ} {es fs gs : List Entry} → Passed n ss es rs fs → Passed n rs fs ts gs → Passed n ss es ts gs
pass_on {n} {ss} {rs} {ts} p q = record {
  live = q.live;
  less = inside_trans (take n ts) (take n rs) (take n ss) q.less p.less;
  unused = λ x h. q.unused x h
      ∙ p.unused x h;
  same = λ t. p.same t ∙ q.same t;
}

-- the entries from the start, in other words
pub from_as : {n : ℕ} {ss rs : List ℕ} {es ds fs : List Entry} → es ≡ ds → Passed n ss es rs fs → Passed n ss ds rs fs
from_as {n} {ss} {rs} {es} {ds} {fs} e p = subst (λ (l : List Entry). Passed n ss l rs fs) e p

-- ---- the first n sets
pub same_length : {n : ℕ} {ss rs : List ℕ} → Live n ss → Live n rs → length (take n rs) ≡ length (take n ss)
same_length l m = Front.front_length m ∙ sym (Front.front_length l)

-- ---- entries that say nothing more, or are obeyed for good
pub vacuous_made : {n : ℕ} {ss : List ℕ} (es : List Entry) → Live n ss → Vacuous (take n ss) es → CutsMade n ss es ss
vacuous_made {n} {ss} es l i =
    record {
      passed = λ fs. record { live = l; less = inside_refl (take n ss); unused = λ x h. refl; same = λ q. ap (any q) (obeying_vacuous (take n ss) es fs i) };
      vacuous = i;
    }

-- an equality by itself
module _ {n : ℕ} {ss : List ℕ} (x v : ℕ) (l : Live n ss) (r : Right n (equality x v)) where
  inside : x < length (take n ss)
  inside = subst (λ (k : ℕ). x < k) (sym (Front.front_length l)) r.0

  front_step : (s : Step) → step_of ss (equality x v) ≡ s → step_of (take n ss) (equality x v) ≡ s
  front_step s e = ap (λ (t : ℕ). keep_step (eqb (without_mask t v) 0) (eqb (only_mask t v) 0)) (Front.front_at l x r.0) ∙ e

  pub equality_next : step_of ss (equality x v) ≡ Next → CutsMade n ss (equality x v ∷ []) ss
  equality_next e = vacuous_made (equality x v ∷ []) l (vacuous_next (take n ss) x v inside (Front.front_small l x) (front_step Next e))

  pub equality_obeyed : step_of ss (equality x v) ≡ Obeyed → CutsObeyed n ss (equality x v ∷ []) ss
  equality_obeyed e =
      record {
        passed = λ fs. record {
          live = l;
          less = inside_refl (take n ss);
          unused = λ y h. refl;
          same = λ q. ap (any q) (obeying_for_good (take n ss) (equality x v ∷ fs) (for_good_append (take n ss) (equality x v ∷ []) fs (for_good_equality (take n ss) x v inside gone)));
        };
        gone = (x, v, Memᴰ-head refl, inside, gone);
      }
    where
      gone : T (has (at (take n ss) x) v) → ⊥
      gone = gone_step (take n ss) x v inside (Front.front_small l x) (front_step Obeyed e)

-- ---- one part after another
module _ {n : ℕ} {ss : List ℕ} {es : List Entry} {rs : List ℕ} (p : CutsMade n ss es rs) where
  pub made_live : Live n rs
  made_live = (p.passed []).live

  pub made_on : (fs : List Entry) (ts : List ℕ) → CutsMade n rs fs ts → CutsMade n ss (es ++ fs) ts
  made_on fs ts q =
      record {
        passed = λ gs. from_as (sym (append_assoc es fs gs)) (pass_on (p.passed (fs ++ gs)) (q.passed gs));
        vacuous = vacuous_append (take n ts) es fs (vacuous_mono (take n rs) (take n ts) es (same_length made_live (q.passed []).live) (q.passed []).less p.vacuous) q.vacuous;
      }

  pub obeyed_on : (fs : List Entry) (ts : List ℕ) → CutsObeyed n rs fs ts → CutsObeyed n ss (es ++ fs) ts
  obeyed_on fs ts q =
      record {
        passed = λ gs. from_as (sym (append_assoc es fs gs)) (pass_on (p.passed (fs ++ gs)) (q.passed gs));
        gone = let g = q.gone in (g.0, g.1, Memᴰ.append_right es g.2, g.3, g.4);
      }

  pub none_on : (fs : List Entry) → NoneObeys n rs fs → NoneObeys n ss (es ++ fs)
  none_on fs z gs = subst (λ (l : List Entry). None n ss l) (sym (append_assoc es fs gs)) (λ q. (p.passed (fs ++ gs)).same q ∙ z gs q)

pub obeyed_more : {n : ℕ} {ss : List ℕ} {es : List Entry} {rs : List ℕ} (fs : List Entry) → CutsObeyed n ss es rs → CutsObeyed n ss (es ++ fs) rs
obeyed_more {n} {ss} {es} {rs} fs p =
    record {
      passed = λ gs. from_as (sym (append_assoc es fs gs)) (p.passed (fs ++ gs));
      gone = let g = p.gone in (g.0, g.1, Memᴰ-append_left fs g.2, g.3, g.4);
    }

pub none_more : (n : ℕ) (ss : List ℕ) (es fs : List Entry) → NoneObeys n ss es → NoneObeys n ss (es ++ fs)
none_more n ss es fs z gs = subst (λ (l : List Entry). None n ss l) (sym (append_assoc es fs gs)) (z (fs ++ gs))
