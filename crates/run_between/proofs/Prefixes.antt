-- `descend` goes one value down: what it asks, and what is known of the next prefix then. Assumes nothing.
use Rattle.model.specs.Kit.{◌≡◌, sym, ap, ◌∙◌, subst, Bool, true, false, List, [], ◌∷◌, ◌++◌, ℕ, suc, ◌+◌, ◌≤◌, ◌<◌, add-one, arith, T, take, not-false}
use Rattle.model.specs.{Lists.at, ValueSets.has, Problem.Problem, Search.sets_at, Search.is_live, Run.Tally}
use Rattle.model.proofs.Lists.{T_of}
use Rattle.arrays.specs.Inner.Places.{ROOM, PLANS}
use Rattle.prune.specs.Inner.Node.{SetsHeld, Marked, AtNode, Reached, longer}
use Rattle.run_state.proofs.{Memo.memo_on, Prefix.prefix_ext, Prefix.prefix_take, Prefix.prefix_snoc}
use Rattle.run_state.specs.Inner.Pair.{prefix_of, order_in, own_problem_in, ListRoom, AtPrefix}
use Rattle.run_tree.proofs.Turns.{ready_on}

-- ---- `descend` at depth k
module _ (p : Problem) (stack work supports tables numbers list : List ℕ) (tally : Tally) (k : ℕ) (h : AtPrefix p stack work supports tables numbers list tally k) where
  few : k < 12
  few = let f = h.ready.well_formed.few in let i = h.inner in omega arith

  taken : take k work ≡ prefix_of work k
  taken = prefix_take work k (let w = h.ready.work_length in let f = few in omega arith)

  longer_is : longer work k ≡ prefix_of work (suc k)
  longer_is = ap (λ (t : List ℕ). t ++ (at work k ∷ [])) taken ∙ prefix_snoc work k

  pub child_asks : T (has (at (sets_at p (prefix_of work k)) k) (at work k)) → AtNode (own_problem_in p numbers) p.symmetries stack work supports tables numbers k
  child_asks t = record {
    ready = h.ready;
    room = h.inner;
    live = subst (λ (q : List ℕ). T (is_live p q)) (sym taken) h.live;
    held = subst (λ (q : List ℕ). SetsHeld (own_problem_in p numbers) stack k (sets_at p q)) (sym taken) h.held;
    marked = subst (λ (q : List ℕ). Marked (own_problem_in p numbers) p.symmetries work q k) (sym taken) h.marked;
    member = subst (λ (q : List ℕ). T (has (at (sets_at p q) k) (at work k))) (sym taken) t;
  }

  module _ (stack' work' : List ℕ) (dead : Bool) (q : Reached (own_problem_in p numbers) p.symmetries (longer work k) (k + 1) stack work stack' work' dead) where
    child_same : (i : ℕ) → i < 16 → at work' i ≡ at work i
    child_same i l = q.kept i (omega arith)

    same_prefix : (i : ℕ) → i ≤ 12 → prefix_of work' i ≡ prefix_of work i
    same_prefix i l = prefix_ext work' work i (λ j m. child_same j (omega arith))

    same_room : ListRoom p.variables (at numbers ROOM) list (at work' PLANS)
    same_room = subst (ListRoom p.variables (at numbers ROOM) list) (sym (child_same PLANS (omega arith))) h.room

    abbrev node : List ℕ
    node = prefix_of work (suc k)

    -- the next prefix is live, with its sets and marks
    pub child_next : dead ≡ false → suc k < p.variables → AtPrefix p stack' work' supports tables numbers list tally (suc k)
    child_next e n =
        let s : prefix_of work' (suc k) ≡ node = same_prefix (suc k) (let f = few in omega arith) in
        subst (AtPrefix p stack' work' supports tables numbers list tally) (add-one k) record {
          ready = ready_on h.ready q.stack_length q.work_length;
          inner = omega arith;
          live = T_of _ (subst (λ (t : List ℕ). is_live p t ≡ true) (longer_is ∙ sym s ∙ ap (prefix_of work') (sym (add-one k))) (not-false (is_live p (longer work k)) (sym q.answers ∙ e)));
          held = subst (λ (t : List ℕ). SetsHeld (own_problem_in p numbers) stack' (k + 1) (sets_at p t)) (longer_is ∙ sym s ∙ ap (prefix_of work') (sym (add-one k))) (q.holds e);
          marked = subst (λ (t : List ℕ). Marked (own_problem_in p numbers) p.symmetries work' t (k + 1)) (longer_is ∙ sym s ∙ ap (prefix_of work') (sym (add-one k))) (q.marked e);
          limited = h.limited;
          allowed = h.allowed;
          summed = h.summed;
          order = h.order;
          room = same_room;
          well = h.well;
          respected = h.respected;
          memo = memo_on p (own_problem_in p numbers) (order_in numbers p.variables) work work' list (λ i l. q.beyond i (let f = few in omega arith)) (q.kept PLANS (omega arith)) h.memo;
        }
