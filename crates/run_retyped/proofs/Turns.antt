-- Paper 02, #109, the filter: twice is once, smaller sets leave smaller remainders, and two lists by turns leave the largest sets that both leave alone. Assumes nothing.
use Rattle.model.specs.Kit.{◌≡◌, refl, sym, ap, ◌∙◌, subst, Bool, true, false, List, ℕ, zero, suc, ◌*◌, ◌^◌, ◌≤◌, ◌<◌, arith, T, ltb, length, ltb-true, ltb-false}
use Rattle.model.specs.{Lists.at, Lists.same, ValueSets.has, ValueSets.Inside, Nogood.Entry, Nogood.filtered, Inner.Pruning.Sets}
use Rattle.run_retyped.specs.Retyped.{Within}
use Rattle.run_retyped.specs.Inner.Turns.{FilterTwice, FilterWithin, turns, by_turns, Applied, none, first, second, LargestLeft, TurnsLargest, TurnsEither, TurnsAny}
use Rattle.model.proofs.Sets.{inside_refl, inside_trans, inside_antisym, size, size_le, size_strict}
use Rattle.model.proofs.{Lists.T_of, Lists.of_not, Lists.same_eq, Lists.same_refl, Filter.length_filtered, Filter.filtered_sets, Filter.filtered_inside, Filter.filtered_mono, Filter.filtered_idem}

pub filter_twice : FilterTwice
filter_twice = filtered_idem

pub filter_within : FilterWithin
filter_within ds rs es w = (length_filtered ds es ∙ w.0 ∙ sym (length_filtered rs es), filtered_mono ds rs es w.0 w.1)

-- ---- one time both
module _ (es fs : List Entry) where
  abbrev once : List ℕ → List ℕ
  once ds = filtered (filtered ds es) fs

  length_once : (ds : List ℕ) → length (once ds) ≡ length ds
  length_once ds = length_filtered (filtered ds es) fs ∙ length_filtered ds es

  once_sets : (ds : List ℕ) → Sets (length ds) (once ds)
  once_sets ds = subst (λ (n : ℕ). Sets n (once ds)) (length_filtered ds es) (filtered_sets (filtered ds es) fs)

  once_inside : (ds : List ℕ) → Inside (once ds) ds
  once_inside ds = inside_trans (once ds) (filtered ds es) ds (filtered_inside (filtered ds es) fs) (filtered_inside ds es)

  -- and the other way: what both together leave alone, each leaves alone
  fixed_once : (ds : List ℕ) → once ds ≡ ds → (filtered ds es ≡ ds) × (filtered ds fs ≡ ds)
  fixed_once ds e = (e₁, ap (λ (l : List ℕ). filtered l fs) (sym e₁) ∙ e)
    where
      s : Sets (length ds) ds
      s = subst (Sets (length ds)) e (once_sets ds)

      e₁ : filtered ds es ≡ ds
      e₁ = inside_antisym (length ds) (filtered ds es) ds (filtered_sets ds es) s (filtered_inside ds es)
          (λ x v t. filtered_inside (filtered ds es) fs x v (subst (λ (l : List ℕ). T (has (at l x) v)) (sym e) t))

  shrinks : (ds : List ℕ) → Sets (length ds) ds → size ds ≤ size (once ds) → once ds ≡ ds
  shrinks ds s h = inside_antisym (length ds) (once ds) ds (once_sets ds) s (once_inside ds) (size_strict (once ds) ds (length_once ds) s.1 (once_inside ds) h)

  -- ---- by turns
  turns_ind : (P : List ℕ → Type 0) → ((ds : List ℕ) → P ds → P (once ds)) → (k : ℕ) (ds : List ℕ) → P ds → P (turns es fs k ds)
  unfolding turns
  turns_ind P h zero ds d = d
  turns_ind P h (suc k) ds d = go (turns_ind P h k (once ds) (h ds d)) (same ds (once ds))
    where
      go : P (turns es fs k (once ds)) → (b : Bool) → P (elim b [ true ↦ ds | false ↦ turns es fs k (once ds) ])
      go ih true = d
      go ih false = ih

  turns_step : (k : ℕ) (ds : List ℕ) → (same ds (once ds) ≡ false → once (turns es fs k (once ds)) ≡ turns es fs k (once ds)) → once (turns es fs (suc k) ds) ≡ turns es fs (suc k) ds
  unfolding turns
  turns_step k ds h = go (same ds (once ds)) refl
    where
      go : (b : Bool) → same ds (once ds) ≡ b → once (elim b [ true ↦ ds | false ↦ turns es fs k (once ds) ]) ≡ elim b [ true ↦ ds | false ↦ turns es fs k (once ds) ]
      go true e = sym (same_eq ds (once ds) (T_of (same ds (once ds)) e))
      go false e = h e

  turns_fixed : (k : ℕ) (ds : List ℕ) → Sets (length ds) ds → size ds ≤ k → once (turns es fs k ds) ≡ turns es fs k ds
  unfolding turns
  turns_fixed zero ds s h = shrinks ds s (omega arith)
  turns_fixed (suc k) ds s h = turns_step k ds (λ e. turns_fixed k (once ds) (subst (λ (n : ℕ). Sets n (once ds)) (sym (length_once ds)) (once_sets ds)) (fewer e))
    where
      fewer : same ds (once ds) ≡ false → size (once ds) ≤ k
      fewer e = pick (ltb (size (once ds)) (size ds)) refl
        where
          pick : (b : Bool) → ltb (size (once ds)) (size ds) ≡ b → size (once ds) ≤ k
          pick true q = let l = ltb-true (size (once ds)) (size ds) q in omega arith
          pick false q = absurd (of_not (same ds (once ds)) e (subst (λ (l : List ℕ). T (same ds l)) (sym (shrinks ds s (ltb-false (size (once ds)) (size ds) q))) (same_refl ds)))

  -- the first time makes them sets of sixteen bits, whatever was lent
  by_turns_fixed : (ds : List ℕ) → once (by_turns es fs ds) ≡ by_turns es fs ds
  unfolding by_turns
  by_turns_fixed ds =
      turns_step (length ds * 16) ds
      (λ e. turns_fixed (length ds * 16) (once ds) (subst (λ (n : ℕ). Sets n (once ds)) (sym (length_once ds)) (once_sets ds))
      (subst (λ (n : ℕ). size (once ds) ≤ n * 16) (length_once ds) (size_le (once ds))))

  by_turns_inside : (ds : List ℕ) → Within (by_turns es fs ds) ds
  unfolding by_turns
  by_turns_inside ds = turns_ind (λ rs. Within rs ds) (λ rs w. (length_once rs ∙ w.0, inside_trans (once rs) rs ds (once_inside rs) w.1)) (suc (length ds * 16)) ds (refl, inside_refl ds)

  -- sets inside, that both leave alone, stay inside
  stay : (ts rs : List ℕ) → filtered ts es ≡ ts → Within ts rs → Within ts (filtered rs es)
  stay ts rs e w = let q = filter_within ts rs es w in (sym (length_filtered ts es) ∙ q.0, λ x v t. q.1 x v (subst (λ (l : List ℕ). T (has (at l x) v)) (sym e) t))

pub turns_largest : TurnsLargest
unfolding by_turns
turns_largest es fs ds =
    let q = fixed_once es fs (by_turns es fs ds) (by_turns_fixed es fs ds) in
    record {
      sixteen = subst (λ (l : List ℕ). (x : ℕ) → at l x < 2 ^ 16) (by_turns_fixed es fs ds) (once_sets es fs (by_turns es fs ds)).1;
      inside = by_turns_inside es fs ds;
      first = q.0;
      second = q.1;
      above = λ ts w e f. turns_ind es fs (Within ts) (λ rs u. stay fs fs ts (filtered rs es) f (stay es es ts rs e u)) (suc (length ds * 16)) ds w;
    }

-- there is only one such list of sets
pub largest_left_unique : (es fs : List Entry) (ds rs ts : List ℕ) → LargestLeft es fs ds rs → LargestLeft es fs ds ts → rs ≡ ts
largest_left_unique es fs ds rs ts a b =
    inside_antisym (length ds) rs ts (a.inside.0, a.sixteen) (b.inside.0, b.sixteen)
    (b.above rs a.inside a.first a.second).1 (a.above ts b.inside b.first b.second).1

largest_other : (es fs : List Entry) (ds rs : List ℕ) → LargestLeft es fs ds rs → LargestLeft fs es ds rs
largest_other es fs ds rs a = record { sixteen = a.sixteen; inside = a.inside; first = a.second; second = a.first; above = λ ts w e f. a.above ts w f e }

pub turns_either : TurnsEither
turns_either es fs ds = largest_left_unique es fs ds (by_turns es fs ds) (by_turns fs es ds) (turns_largest es fs ds) (largest_other fs es ds (by_turns fs es ds) (turns_largest fs es ds))

-- ---- any order of the two
applied_inside : (es fs : List Entry) (ds : List ℕ) {rs : List ℕ} → Applied es fs ds rs → Within rs ds
applied_inside es fs ds none = (refl, inside_refl ds)
applied_inside es fs ds (first {rs = rs} a) = let w = applied_inside es fs ds a in (length_filtered rs es ∙ w.0, inside_trans (filtered rs es) rs ds (filtered_inside rs es) w.1)
applied_inside es fs ds (second {rs = rs} a) = let w = applied_inside es fs ds a in (length_filtered rs fs ∙ w.0, inside_trans (filtered rs fs) rs ds (filtered_inside rs fs) w.1)

applied_above : (es fs : List Entry) (ds ts : List ℕ) → Within ts ds → filtered ts es ≡ ts → filtered ts fs ≡ ts → {rs : List ℕ} → Applied es fs ds rs → Within ts rs
applied_above es fs ds ts w e f none = w
applied_above es fs ds ts w e f (first {rs = rs} a) = stay es es ts rs e (applied_above es fs ds ts w e f a)
applied_above es fs ds ts w e f (second {rs = rs} a) = stay fs fs ts rs f (applied_above es fs ds ts w e f a)

pub turns_any : TurnsAny
turns_any es fs ds rs a e f =
    largest_left_unique es fs ds rs (by_turns es fs ds)
    record {
      sixteen = subst (λ (l : List ℕ). (x : ℕ) → at l x < 2 ^ 16) e (filtered_sets rs es).1;
      inside = applied_inside es fs ds a;
      first = e;
      second = f;
      above = λ ts w g h. applied_above es fs ds ts w g h a;
    }
    (turns_largest es fs ds)

-- such an order is by turns
pub turns_applied : (es fs : List Entry) (ds : List ℕ) → Applied es fs ds (by_turns es fs ds)
unfolding by_turns
turns_applied es fs ds = turns_ind es fs (Applied es fs ds) (λ rs a. second (first a)) (suc (length ds * 16)) ds none
