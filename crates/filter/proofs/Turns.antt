-- A pass over the three lists: what each turn does, and what its end says. Assumes nothing.
use Rattle.model.specs.Kit.{◌≡◌, refl, sym, ap, ◌∙◌, subst, Bool, true, false, List, [], ◌∷◌, ℕ, zero, suc, ◌+◌, ◌≤◌, ◌<◌, not-suc-le-zero, le_of_suc-le-suc, add-one, arith, eqb, length, drop}
use Rattle.model.specs.Nogood.{Entry, equality, disequality, Kind, is_equality, is_disequality, both_absent, both_present, kind_of, entry_in, entry_of, entries}
use Rattle.model.specs.{Lists.at, ValueSets.without_mask}
use Rattle.model.proofs.Lists.{never}
use Rattle.filter.specs.declared.entry.Step.TheVariants.{Next, Failed, Obeyed, Split}
use Rattle.filter.specs.Inner.Scan.{step_of, after, cut_step, Right, Stepped, None, Passed}
use Rattle.filter.specs.{declared.entry.Step.Step, Inner.Lists.Ready, Inner.Lists.SplitReached}
use Rattle.filter.proofs.Marks.{right_mono}
use Rattle.filter.proofs.Front

-- ---- the entries from k on
pub entry_at : (xs es us : List ℕ) (k : ℕ) → length es ≡ length xs → length us ≡ length xs → k < length xs
    → drop k (entries xs es us) ≡ entry_of (at xs k) (at es k) (at us k) ∷ drop (suc k) (entries xs es us)
unfolding entries at
entry_at [] es us k p q h = absurd (not-suc-le-zero h)
entry_at (x ∷ xs) [] us k p q h = absurd (let z : 0 ≡ suc (length xs) = p in omega arith)
entry_at (x ∷ xs) (e ∷ es) [] k p q h = absurd (let z : 0 ≡ suc (length xs) = q in omega arith)
entry_at (x ∷ xs) (e ∷ es) (u ∷ us) zero p q h = refl
entry_at (x ∷ xs) (e ∷ es) (u ∷ us) (suc k) p q h = entry_at xs es us k (omega arith) (omega arith) (le_of_suc-le-suc h)

pub entries_end : (xs es us : List ℕ) (k : ℕ) → length xs ≤ k → drop k (entries xs es us) ≡ []
unfolding entries
entries_end [] es us zero h = refl
entries_end [] es us (suc k) h = refl
entries_end (x ∷ xs) [] us zero h = refl
entries_end (x ∷ xs) [] us (suc k) h = refl
entries_end (x ∷ xs) (e ∷ es) [] zero h = refl
entries_end (x ∷ xs) (e ∷ es) [] (suc k) h = refl
entries_end (x ∷ xs) (e ∷ es) (u ∷ us) zero h = absurd (not-suc-le-zero h)
entries_end (x ∷ xs) (e ∷ es) (u ∷ us) (suc k) h = entries_end xs es us k (le_of_suc-le-suc h)

-- ---- entries that leave the sets as they are
never_split : (b : Bool) → cut_step b ≡ Split → ⊥
never_split true e = never (cc)
never_split false e = never (cc)

obeyed_after : (rs : List ℕ) (e : Entry) → step_of rs e ≡ Obeyed → after rs e ≡ rs
obeyed_after rs (equality x v) h = refl
obeyed_after rs (disequality x v) h = absurd (Front.never_obeyed (eqb (without_mask (at rs x) v) 0) h)

-- a split is at an equality
split_is : (rs : List ℕ) (x e u : ℕ) → step_of rs (entry_of x e u) ≡ Split
    → (entry_of x e u ≡ equality x e) × (step_of rs (equality x e) ≡ Split) × (after rs (entry_of x e u) ≡ rs)
split_is rs x e u h = go (kind_of e u) h
  where
    go : (k : Kind) → step_of rs (entry_in k x e u) ≡ Split → (entry_in k x e u ≡ equality x e) × (step_of rs (equality x e) ≡ Split) × (after rs (entry_in k x e u) ≡ rs)
    go is_equality h = (refl, h, refl)
    go is_disequality h = absurd (never_split (eqb (without_mask (at rs x) u) 0) h)
    go both_absent h = absurd (never_split (eqb (without_mask (at rs x) u) 0) h)
    go both_present h = (refl, h, refl)

-- ---- one turn
module _ {n : ℕ} {ss xs es us : List ℕ} {start : ℕ} (w : Ready n ss xs es us start) where
  pub starts : Passed n ss (drop start (entries xs es us)) ss (drop start (entries xs es us))
  starts = Front.begin (drop start (entries xs es us)) w.live

  module _ {rs : List ℕ} {i : ℕ} (p : Passed n ss (drop start (entries xs es us)) rs (drop i (entries xs es us))) where
    pub ends : length xs ≤ i → Passed n ss (drop start (entries xs es us)) rs []
    ends h = Front.pass_as (entries_end xs es us i h) p

    module _ (h : i < length xs) where
      abbrev here : Entry
      here = entry_of (at xs i) (at es i) (at us i)

      pub turn_right : Right 16 (entry_of (at xs i) (at es i) (at us i))
      turn_right = right_mono n 16 here w.live.few (w.listed.right i h)

      now : Passed n ss (drop start (entries xs es us)) rs (here ∷ drop (suc i) (entries xs es us))
      now = Front.pass_as (entry_at xs es us i w.listed.equals w.listed.others h) p

      module _ {ts : List ℕ} {r : Step} (s : Stepped rs (entry_of (at xs i) (at es i) (at us i)) ts r) where
        pub turn_next : r ≡ Next → Passed n ss (drop start (entries xs es us)) ts (drop (i + 1) (entries xs es us))
        turn_next e =
            subst (λ (l : List ℕ). Passed n ss (drop start (entries xs es us)) l (drop (i + 1) (entries xs es us))) (sym s.sets)
            (Front.pass_as (ap (λ (k : ℕ). drop k (entries xs es us)) (sym (add-one i))) (Front.pass_next here (drop (suc i) (entries xs es us)) now (w.listed.right i h) (sym s.step ∙ e)))

        pub turn_failed : r ≡ Failed → None n ss (drop start (entries xs es us))
        turn_failed e = Front.pass_failed_lem here (drop (suc i) (entries xs es us)) now (w.listed.right i h) (sym s.step ∙ e)

        pub turn_obeyed : r ≡ Obeyed → Passed n ss (drop start (entries xs es us)) ts []
        turn_obeyed e =
            subst (λ (l : List ℕ). Passed n ss (drop start (entries xs es us)) l []) (sym (s.sets ∙ obeyed_after rs here (sym s.step ∙ e)))
            (Front.pass_obeyed here (drop (suc i) (entries xs es us)) now (w.listed.right i h) (sym s.step ∙ e))

        pub turn_split : start ≤ i → r ≡ Split → SplitReached n ss xs es us start ts i
        turn_split b e =
            let q = split_is rs (at xs i) (at es i) (at us i) (sym s.step ∙ e) in
            subst (λ (l : List ℕ). SplitReached n ss xs es us start l i) (sym (s.sets ∙ q.2))
            record { at_split = record { listed = w.listed; live = p.live; bound = h; equality_is = q.0; split = q.1 }; begun = b; passed = p }
