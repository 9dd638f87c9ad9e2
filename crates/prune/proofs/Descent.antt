-- Going down a path: the sets of depth k with one value of variable k's left and the block's later variables cut, of which nothing is known. Assumes nothing.
use Rattle.std.specs.Prelude.{Option, None, Some, is_some}
use Rattle.model.specs.Kit.{◌≡◌, T, false, refl, sym, subst, Bool, true, List, [], ℕ, ◌+◌, ◌%◌, arith, take, set}
use Rattle.model.specs.{Lists.at, ValueSets.only_mask, Problem.Problem, Problem.with_symmetries, Inner.Pruning.Sets, Inner.Pruning.Way}
use Rattle.arrays.specs.{Inner.Places.BLOCK, Inner.Pruning.sets_of}
use Rattle.block.specs.{Inner.Claims.Ascends, Inner.BlockSets.cut_after}
use Rattle.prune.specs.{Inner.Node.AtNode, Inner.Node.Reached, Inner.Node.longer, Inner.Node.block_of}
use Rattle.prune.specs.Inner.Steps.{LiveSets, Unpruned, CutEmpty, CutTo, CutOr, Loaded}
use Rattle.prune.proofs.Starts.{arrays_hold, blocked, ready_few, reached_dead, longer_is, in_initial, start_live, start_initial, start_way}
use Rattle.prune.proofs.ChildCut.{whole_is, cut_dead, cut_sets_are, cut_live, cut_inside}

module _ {p : Problem} {gs : List (List ℕ)} {stack work supports tables numbers : List ℕ} {k : ℕ} (a : AtNode p gs stack work supports tables numbers k)
    (sets : List ℕ) (l : Loaded stack k sets) {one : ℕ} (o : one ≡ only_mask (at sets k) (at work k % 16)) where
  pub descent_sixteen : Sets 16 (set sets k one)
  descent_sixteen = (start_live a sets l o).sixteen

  abbrev whole : List ℕ
  whole = cut_after (block_of numbers) k (at work k % 16) (set sets k one)

  -- a set is empty
  descent_empty : CutEmpty (cut_after (block_of numbers) k (at work k % 16) (set sets k one)) (at numbers BLOCK) → Reached p gs (longer work k) (k + 1) stack work stack work true
  descent_empty d =
      let live = start_live a sets l o in
      let w = (start_way a sets l o _ _ refl (whole_is (arrays_hold a.ready) (blocked a.ready) live k (at work k % 16))).0 in
      reached_dead p gs (ready_few a.ready) (longer work k) [] (k + 1) stack work work work (longer_is a) refl (λ j h. refl) (λ j h. refl)
      (cut_dead (arrays_hold a.ready) (blocked a.ready) live k (at work k % 16) d
      (subst (λ (z : List ℕ). Way (with_symmetries p gs) z (sets_of p whole)) (sym (longer_is a)) w) [])

  module _ {cut : List ℕ} {changed : ℕ} (c : CutTo (set sets k one) (cut_after (block_of numbers) k (at work k % 16) (set sets k one)) cut (at numbers BLOCK) changed) where
    descent_live : Unpruned p gs work numbers cut (k + 1)
    descent_live = record {
      prefix_held = record { depth = omega (arith, a.room); values = in_initial a; work_length = a.ready.work_length };
      live = cut_live (arrays_hold a.ready) (blocked a.ready) live k (at work k % 16) c;
      inside = λ x v t. start_initial a sets l o x v (cut_inside (arrays_hold a.ready) (blocked a.ready) live k (at work k % 16) c x v t);
      way = subst (λ (z : List ℕ). Way (with_symmetries p gs) z (sets_of p cut)) (sym (longer_is a)) on_way.0;
      ascends = subst (λ (z : List ℕ). Ascends (block_of numbers) z (sets_of p cut)) (sym (longer_is a)) on_way.1;
    }
      where
        live : LiveSets p (set sets k one)
        live = start_live a sets l o

        on_way : Way (with_symmetries p gs) (longer work k) (sets_of p cut) × Ascends (block_of numbers) (longer work k) (sets_of p cut)
        on_way = start_way a sets l o cut _ refl (cut_sets_are (arrays_hold a.ready) (blocked a.ready) live k (at work k % 16) c)

  -- by the answer of the cut
  pub descent_dead : (cut : List ℕ) (r : Option ℕ) → CutOr (set sets k one) (cut_after (block_of numbers) k (at work k % 16) (set sets k one)) cut (at numbers BLOCK) r → is_some r ≡ false →
      Reached p gs (longer work k) (k + 1) stack work stack work true
  descent_dead cut None c e = descent_empty c
  descent_dead cut (Some m) c e = absurd (subst T e tt)

  pub descent_unpruned : (cut : List ℕ) (r : Option ℕ) → CutOr (set sets k one) (cut_after (block_of numbers) k (at work k % 16) (set sets k one)) cut (at numbers BLOCK) r → is_some r ≡ true →
      Unpruned p gs work numbers cut (k + 1)
  descent_unpruned cut None c e = absurd (subst T (sym e) tt)
  descent_unpruned cut (Some m) c e = descent_live c

pub descent_reached : {p : Problem} {gs : List (List ℕ)} {stack work supports tables numbers : List ℕ} {k : ℕ} → AtNode p gs stack work supports tables numbers k →
    {stack' work' : List ℕ} {dead : Bool} → Reached p gs (take (k + 1) work) (k + 1) stack work stack' work' dead → Reached p gs (longer work k) (k + 1) stack work stack' work' dead
descent_reached {p} {gs} {stack} {work} {k = k} a {stack'} {work'} {dead} = subst (λ (z : List ℕ). Reached p gs z (k + 1) stack work stack' work' dead) (longer_is a)
