-- The law of specs/Compared. Assumes nothing.
use Rattle.model.specs.Kit.{◌≡◌, sym, subst, Bool, ⊎_elim, List, [], ℕ, ◌%◌, ◌≤◌, ◌<◌, arith, T, length, take, drop, eq-eqb, ne_eqb}
use Rattle.model.specs.{Problem.Problem, Problem.with_symmetries, Problem.symmetry_at, Search.nogoods_of, Search.sets_at, Search.is_live, Inner.WellFormed.WellFormed, Inner.WellFormed.Respected}
use Rattle.model.proofs.{Lists.mem_get_d, Lists.place_of, Tree.well_sized}
use Rattle.arrays.specs.Inner.Places.{ENTAILED, OBEYED}
use Rattle.filter.specs.Marks.{Skippable}
use Rattle.filter.proofs.Marks.{skipped_below}
use Rattle.prune_symmetries.specs.Inner.Levels.{Resumes, MarkBy, Mark}
use Rattle.block.specs.Inner.BlockSets.{BlockIn}
use Rattle.run_alike.specs.Inner.Alike.{Obeyed, Vacuous, SameList, obeyed, same_left, carried, Alike}
use Rattle.run_alike.proofs.{Kept.kept_left, Law.alike_below}
use Rattle.run_passed.specs.Inner.Compared.{SameKey, Right, KeyBelow}
use Rattle.run_passed.proofs.Block.{block_carries}
use Rattle.model.proofs.More as M

module _ (p : Problem) (w : WellFormed p) (block : ℕ → Bool) (gs : List (List ℕ)) (i : BlockIn p block gs) (wq : WellFormed (with_symmetries p gs)) where
  abbrev q : Problem
  q = with_symmetries p gs

  nogoods_same : (g c : List ℕ) → nogoods_of q g c ≡ nogoods_of p g c
  nogoods_same = M.nogoods_same p gs (well_sized p w) i.own

  -- what a mark says
  mark_obeyed : (a : List ℕ) (e m : ℕ) → m ≡ OBEYED → Mark p (sets_at q a) a e m → Obeyed (sets_at q a) (nogoods_of q (symmetry_at p e) a)
  mark_obeyed a e m o k =
      let s : Skippable (sets_at q a) (nogoods_of p (symmetry_at p e) a) = subst (λ (b : Bool). MarkBy b p (sets_at q a) a e m) (eq-eqb m OBEYED o) k in
      subst (Obeyed (sets_at q a)) (sym (nogoods_same (symmetry_at p e) a)) (λ t d fs. skipped_below (sets_at q a) (nogoods_of p (symmetry_at p e) a) s t d fs)

  mark_vacuous : (a : List ℕ) (e m : ℕ) → (m ≡ OBEYED → ⊥) → Mark p (sets_at q a) a e m → (m % ENTAILED ≤ length a) × Vacuous (sets_at q a) (nogoods_of q (symmetry_at p e) (take (m % ENTAILED) a))
  mark_vacuous a e m o k =
      let s : Resumes p (sets_at q a) a e m = subst (λ (b : Bool). MarkBy b p (sets_at q a) a e m) (ne_eqb m OBEYED o) k in
      (s.begun, subst (Vacuous (sets_at q a)) (sym (nogoods_same (symmetry_at p e) (take (m % ENTAILED) a))) s.vacuous)

  module _ (respected : Respected q) (a b : List ℕ) (ma mb : ℕ → ℕ) (la : T (is_live q a)) (lb : T (is_live q b)) (ra : Right p gs a ma) (rb : Right p gs b mb) (h : SameKey p gs a b ma mb)
      (short : length a ≤ p.variables) where
    own_list : (e : ℕ) → e < length p.symmetries → SameList q (symmetry_at p e) a b
    own_list e l =
        ⊎_elim {C = SameList q (symmetry_at p e) a b} (λ o. obeyed (mark_obeyed a e (ma e) o.0 (ra e l)) (mark_obeyed b e (mb e) o.1 (rb e l)))
        (λ o. let va = mark_vacuous a e (ma e) o.0 (ra e l) in
        let vb = mark_vacuous b e (mb e) o.1 (rb e l) in
        same_left (kept_left q wq respected (symmetry_at p e) (i.own (symmetry_at p e) (mem_get_d p.symmetries e [] l)) a b la lb short h.sized h.sets h.low (ma e % ENTAILED)
        (mb e % ENTAILED)
        o.2 o.3 va.0 vb.0 h.agrees va.1 vb.1)) (h.marks e l)

    back_sets : drop (length b) (sets_at q b) ≡ drop (length b) (sets_at q a)
    back_sets = subst (λ (n : ℕ). drop n (sets_at q b) ≡ drop n (sets_at q a)) h.sized (sym h.sets)

    key_alike : Alike q a b
    key_alike = record {
      sized = h.sized;
      sets = h.sets;
      settled = h.settled;
      lists = λ g m. ⊎_elim {C = SameList q g a b} (λ o. let r = place_of p.symmetries g [] o in subst (λ (f : List ℕ). SameList q f a b) r.2 (own_list r.0 r.1))
          (λ o. carried (block_carries p w block gs i a b la lb h.sized h.sets g o) (block_carries p w block gs i b a lb la (sym h.sized) back_sets g o)) (i.each g m);
    }

pub key_below : KeyBelow
key_below p w block gs i wq r a b ma mb la lb ra rb h m e = alike_below (with_symmetries p gs) wq r a b la lb (key_alike p w block gs i wq r a b ma mb la lb ra rb h (omega arith)) m e
