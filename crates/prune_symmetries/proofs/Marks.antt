-- The laws of marks: 0 is one at every prefix, and they stay as the sets shrink and the prefix grows; nogoods that are not due take nothing. Assumes nothing.
use Rattle.model.specs.Kit.{◌≡◌, refl, sym, subst, Bool, true, false, List, [], ◌∷◌, ◌++◌, ℕ, ◌*◌, ◌%◌, ◌≤◌, arith, eqb, ltb, length, take, length-append, ne_eqb, ltb-true, ltb-false}
use Rattle.model.specs.{Lists.flat, Lists.up_from, Lists.below, ValueSets.any_empty, ValueSets.Inside, Problem.Problem, Problem.symmetry_at, Nogood.Entry, Nogood.obeys_from, Nogood.filtered}
use Rattle.model.specs.{NogoodClaims.Entails, Search.nogoods_of, Inner.Pruning.Sets}
use lib.Seq.{take-append-le}
use Rattle.model.proofs.{Tree.nogoods_append, Endings.entails_mono}
use Rattle.arrays.specs.Inner.Places.{ENTAILED, OBEYED}
use Rattle.filter.specs.Marks.{Vacuous, Skippable}
use Rattle.filter.proofs.Marks.{vacuous_nil, vacuous_mono, skippable_mono, skippable_append, skipped_here}
use Rattle.prune_symmetries.specs.Inner.Levels.{Mark, MarkBy, Resumes}

pub mark_start : (p : Problem) (ds prefix : List ℕ) (e : ℕ) → Mark p ds prefix e 0
unfolding nogoods_of below up_from flat obeys_from
mark_start p ds [] e = record { begun = omega arith; vacuous = vacuous_nil ds; below = omega arith; entailed = λ h a m. tt }
mark_start p ds (v ∷ prefix) e = record { begun = omega arith; vacuous = vacuous_nil ds; below = omega arith; entailed = λ h. absurd (omega arith) }

pub mark_mono : (p : Problem) (ds es prefix : List ℕ) (e m : ℕ) → length es ≡ length ds → Inside es ds → Mark p ds prefix e m → Mark p es prefix e m
mark_mono p ds es prefix e m l h = go (eqb m OBEYED)
  where
    go : (b : Bool) → MarkBy b p ds prefix e m → MarkBy b p es prefix e m
    go true s = skippable_mono ds es (nogoods_of p (symmetry_at p e) prefix) l h s
    go false r =
        record {
          begun = r.begun;
          vacuous = vacuous_mono ds es (nogoods_of p (symmetry_at p e) (take (m % ENTAILED) prefix)) l h r.vacuous;
          below = r.below;
          entailed = λ q. entails_mono ds es (nogoods_of p (symmetry_at p e) prefix) l h (r.entailed q);
        }

pub mark_longer : (p : Problem) (ds prefix : List ℕ) (v e m : ℕ) → Mark p ds prefix e m → Mark p ds (prefix ++ (v ∷ [])) e m
mark_longer p ds prefix v e m = go (eqb m OBEYED)
  where
    go : (b : Bool) → MarkBy b p ds prefix e m → MarkBy b p ds (prefix ++ (v ∷ [])) e m
    go true s =
        subst (λ (l : List Entry). Skippable ds l) (sym (nogoods_append p (symmetry_at p e) prefix (v ∷ [])))
        (skippable_append ds (nogoods_of p (symmetry_at p e) prefix) _ s)
    go false r =
        record {
          begun = omega (arith, r.begun, length-append prefix (v ∷ []));
          vacuous = subst (λ (l : List ℕ). Vacuous ds (nogoods_of p (symmetry_at p e) l)) (sym (take-append-le (m % ENTAILED) prefix (v ∷ []) r.begun)) r.vacuous;
          below = omega (arith, r.below, length-append prefix (v ∷ []));
          entailed = λ q. absurd (omega (arith, r.below, length-append prefix (v ∷ [])));
        }

module _ (p : Problem) (ds prefix : List ℕ) (e m : ℕ) (h : length prefix ≤ 12) (k : Mark p ds prefix e m) where
  -- what is not due takes nothing
  pub mark_skips : ltb m (ENTAILED * length prefix) ≡ false → Sets p.variables ds → any_empty ds ≡ false → filtered ds (nogoods_of p (symmetry_at p e) prefix) ≡ ds
  mark_skips d s full = skipped_here ds ds (nogoods_of p (symmetry_at p e) prefix) (go (eqb m OBEYED) k) refl (λ x v t. t) s.1 full
    where
      go : (b : Bool) → MarkBy b p ds prefix e m → Entails ds (nogoods_of p (symmetry_at p e) prefix)
      go true z = z.entailed
      go false z = z.entailed (ltb-false m (ENTAILED * length prefix) d)

  -- what is due resumes
  pub mark_resumes : ltb m (ENTAILED * length prefix) ≡ true → Resumes p ds prefix e m
  mark_resumes d =
      let l = ltb-true m (ENTAILED * length prefix) d in
      subst (λ (b : Bool). MarkBy b p ds prefix e m) (ne_eqb m OBEYED (λ q. omega arith)) k
