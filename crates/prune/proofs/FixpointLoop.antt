-- Filters and constraints by turns: the loop of `alternate` and its ends, and the look-ups, the cuts by variable and the constraints in front of it. Assumes nothing.
use Rattle.model.specs.Kit.{◌≡◌, refl, sym, ap, ◌∙◌, subst, Bool, true, false, not, ⊎_elim, List, [], Memᴰ-head, ℕ, ◌+◌, ◌-◌, ◌*◌, ◌^◌, ◌≤◌, ◌<◌, lt_of_le_of_lt, arith, T, eqb, ltb, length, take}
use Rattle.model.specs.Kit.{bit_and, bit_or, and_le_l, length-take-le, ltb-true, ltb-false, eqb-true, eq-eqb}
use Rattle.model.specs.{Lists.at, Lists.ascending, ValueSets.has, ValueSets.any_empty, ValueSets.Inside, Problem.Problem, Problem.Constraint, Problem.with_symmetries, Problem.constraint_at}
use Rattle.model.specs.{Search.pruned, Search.sets_at, Search.is_live, Search.supported, Inner.Pruning.Sets, Inner.Pruning.closed, Inner.Pruning.Way}
use Rattle.model.specs.Inner.Pruning.{Prunes}
use Rattle.model.proofs.Lists.{T_of, of_T, not_of, of_not, at_ext, at_take, both_l, place_of, list_3, ascending_sorted}
use Rattle.model.proofs.Sets.{has_none, mask_ext, member, empty_inside, inside_antisym, size, size_inside, size_strict}
use Rattle.model.proofs.Prune.{narrowed_e, Sized, Kept, fixed_i, largest, live_is, way_live, way_end}
use Rattle.model.proofs.{Masks.has_and, Members.has_0, Members.or_e, Members.and_e, Firsts.take_sets, Firsts.take_i, Firsts.full_take, Tree.well_sized}
use Rattle.arrays.specs.{Inner.Places.LINKED, Inner.Places.LOOKS, Inner.Places.MARKS, Inner.Places.SYMMETRIES, Inner.Places.WORK, Inner.Tables.LooksUp}
use Rattle.arrays.specs.Inner.Pruning.{Given, Ended, sets_of}
use Rattle.arrays.proofs.Links.{good}
use Rattle.prune_pairs.specs.Inner.Links.{Settled, ArcsLeft}
use Rattle.prune_pairs.proofs.Settled.{settled_stays}
use Rattle.prune_constraints.specs.{Inner.Steps.Touched, Inner.LookUps.Alone, Inner.LookUps.LookUp, Inner.LookUps.LookUpsPending, Inner.LookUps.LookedLeft}
use Rattle.prune_constraints.proofs.Touching.{touched_of, touched_of_lem, touched_parts}
use Rattle.prune_symmetries.proofs.Marks.{mark_mono}
use Rattle.block.specs.Inner.Claims.{Ascends}
use Rattle.block.proofs.BlockSets.{ascends_less, way_prunes_own, fixed_whole}
use Rattle.prune.specs.{Inner.Node.MarksRight, Inner.Node.block_of, Inner.Steps.ArraysHold, Inner.Steps.Blocked, Inner.Steps.Pending, Inner.Steps.PrunedSoFar}
use Rattle.prune.specs.Inner.Steps.{AllConstrained, LiveSets, AllFiltered, EndedAt, OnlyMarks, Startable, BeforeFixpoint, LastSettled, AfterFixpoint, Differ}
use Rattle.prune.proofs.Pending.{pruned_none, pruned_more, nothing_due, take_less, still_fixed, touched_known, still_arc, constraints_pending, looked_few, looks_turn, arcs_pruned, arcs_turn}
use Rattle.prune.proofs.FilterLoop.{same_take, kept_none, kept_trans, filtered_begin, filtered_end}

-- ---- a set is empty, so the prefix is dead
pub not_live : (p : Problem) (prefix es : List ℕ) → Way p prefix es → Sized p → T (any_empty es) → is_live p prefix ≡ false
not_live p prefix es w s t =
    live_is p prefix ∙ ap not (of_T (any_empty (closed p prefix)) (empty_inside p.variables (closed p prefix) es (largest p prefix s).sets w.sets w.over t))

pub dead : (p : Problem) (gs : List (List ℕ)) (k : ℕ) (work work' sets : List ℕ) → OnlyMarks work work' k → is_live (with_symmetries p gs) (take k work) ≡ false
    → AfterFixpoint p gs k work work' sets true
dead p gs k work work' sets r e = record { answers = sym (ap not e); sets_are = λ q. absurd (subst T q tt); live = λ q. absurd (subst T q tt); marking = λ q. absurd (subst T q tt); kept = r }

-- ---- which sets differ
module _ (ds es : List ℕ) (s : Sets 16 ds) (t : Sets 16 es) (changed : ℕ) (d : Differ ds es changed) where
  pub same_at : (x : ℕ) → x < 16 → has changed x ≡ false → at es x ≡ at ds x
  same_at x l e = go (eqb (at es x) (at ds x)) refl
    where
      go : (b : Bool) → eqb (at es x) (at ds x) ≡ b → at es x ≡ at ds x
      go true q = eqb-true (at es x) (at ds x) q
      go false q = absurd (of_not (has changed x) e (T_of (has changed x) (d.differ x l ∙ ap not q)))

  pub none_differs : changed ≡ 0 → es ≡ ds
  none_differs e = at_ext es ds (t.0 ∙ sym s.0) (λ x l. same_at x (omega (arith, t.0)) (ap (λ (n : ℕ). has n x) e ∙ has_none x))

  some_differs : changed < 2 ^ 64 → (changed ≡ 0 → ⊥) → es ≡ ds → ⊥
  some_differs h n e =
      n (mask_ext 64 changed 0 h (omega arith) (λ x l. not_of (has changed x) (λ q. subst T (d.differ x (d.few x q) ∙ ap not (eq-eqb (at es x) (at ds x) (ap (λ (z : List ℕ). at z x) e))) q)
      ∙ sym (has_none x)))

  pub fewer : changed < 2 ^ 64 → (changed ≡ 0 → ⊥) → Inside es ds → size es < size ds
  fewer h n i = go (ltb (size es) (size ds)) refl
    where
      go : (b : Bool) → ltb (size es) (size ds) ≡ b → size es < size ds
      go true q = ltb-true (size es) (size ds) q
      go false q = absurd (some_differs h n (inside_antisym 16 es ds t s i (size_strict es ds (t.0 ∙ sym s.0) s.1 i (ltb-false (size es) (size ds) q))))

-- ---- what is said of work's prefix is said of another with the same prefix
module _ {p : Problem} {supports tables numbers : List ℕ} (st : ArraysHold p supports tables numbers) {work₀ work : List ℕ} {k : ℕ} (l : length work₀ ≡ WORK) (h : k ≤ p.variables)
    (r : OnlyMarks work₀ work k) where
  same_prefix : take k work ≡ take k work₀
  same_prefix = same_take work₀ work k k l r (omega (arith, h, st.well_formed.few))

  pub after_from : {gs : List (List ℕ)} {work' sets : List ℕ} {b : Bool} → AfterFixpoint p gs k work work' sets b → AfterFixpoint p gs k work₀ work' sets b
  after_from {gs = gs} {work' = work'} {sets = sets} a = record {
    answers = a.answers ∙ ap (λ (z : List ℕ). not (is_live (with_symmetries p gs) z)) same_prefix;
    sets_are = λ q. a.sets_are q ∙ ap (sets_at (with_symmetries p gs)) same_prefix;
    live = a.live;
    marking = λ q. subst (λ (z : List ℕ). MarksRight p (sets_of p sets) z work' k) same_prefix (a.marking q);
    kept = kept_trans work₀ work work' k r a.kept;
  }

-- ---- the constraints prune
module _ {p : Problem} {gs : List (List ℕ)} {supports tables numbers : List ℕ} (st : ArraysHold p supports tables numbers) (bl : Blocked p gs numbers) {work ds : List ℕ} {k todo dirty : ℕ}
    (n : BeforeFixpoint p gs work numbers ds k todo dirty) where
  n_few : p.variables ≤ 16
  n_few = omega (arith, st.well_formed.few)

  -- the sets that pruning by p leaves of sets on the way to the tree's are on it too
  stays : (es fs : List ℕ) → Prunes p (take k work) es fs → Way (with_symmetries p gs) (take k work) es → Way (with_symmetries p gs) (take k work) fs
  stays es fs r w = way_prunes_own p st.well_formed (block_of numbers) gs bl.block (take k work) es fs r w

  ends : (es : List ℕ) → Way (with_symmetries p gs) (take k work) es → T (any_empty es) → is_live (with_symmetries p gs) (take k work) ≡ false
  ends es w t = not_live (with_symmetries p gs) (take k work) es w (well_sized p st.well_formed) t

  pub constrained_dead : (es : List ℕ) → Ended p ds → AfterFixpoint p gs k work work es true
  constrained_dead es e = dead p gs k work work es (kept_none work k) (ends e.0 (stays (sets_of p ds) e.0 (e.1.0 (take k work)) n.way) e.1.1)

  -- ---- the constraints have left es, so far
  module _ {es : List ℕ} (r : PrunedSoFar p ds es) (g : Given p es) where
    inside_1 : Inside (sets_of p es) (sets_of p ds)
    inside_1 = take_less st ds es n.startable.live.sixteen g.sixteen r.less

    live_1 : LiveSets p es
    live_1 = record { sixteen = g.sixteen; full = g.full; unused = λ x l i. r.unused x l ∙ n.startable.live.unused x l i }

    marking_1 : MarksRight p (sets_of p es) (take k work) work k
    marking_1 e l =
        mark_mono p (sets_of p ds) (sets_of p es) (take k work) e (at work (16 * k + MARKS + e))
        ((take_sets p.variables es g.sixteen n_few).0 ∙ sym (take_sets p.variables ds n.startable.live.sixteen n_few).0)
        inside_1 (n.startable.marking e l)

    way_1 : Way (with_symmetries p gs) (take k work) (sets_of p es)
    way_1 = stays (sets_of p ds) (sets_of p es) (r.ways (take k work)) n.way

    ascends_1 : Ascends (block_of numbers) (take k work) (sets_of p es)
    ascends_1 = ascends_less (block_of numbers) (take k work) (sets_of p ds) (sets_of p es) inside_1 n.ascends

    -- so much is done: what is due from there on
    pruned_start : {due moved : ℕ} → Pending p numbers es due moved → BeforeFixpoint p gs work numbers es k due moved
    pruned_start w = record { startable = record { prefix_held = n.startable.prefix_held; live = live_1; pending = w; marking = marking_1 }; way = way_1; ascends = ascends_1 }

  -- the look-ups are done
  pub looks_done : {fs : List ℕ} {looks looked : ℕ} → LookedLeft p numbers supports ds fs todo looks looked →
      BeforeFixpoint p gs work numbers fs k (bit_or (bit_and todo ((2 ^ 64 - 1) - looks)) (touched_of numbers looked)) (bit_or dirty (bit_and looked (at numbers LINKED)))
  looks_done {fs = fs} {looked = looked} l = let w = looks_turn st n.startable.pending l in pruned_start (pruned_more p ds ds fs looked (pruned_none p ds) l.lessened)
      w.given w

  -- a settled variable has one value, that of the prefix
  settled : (x : ℕ) → x < k → Alone (at ds x) (at work x)
  settled x h = (
    record { some = some; only = λ u v s t. value u s ∙ sym (value v t) },
    let m = member (at ds x) (n.startable.live.sixteen.1 x) some in subst (λ (u : ℕ). T (has (at ds x) u))
        (value m.0 m.2) m.2,
  )
    where
      some : at ds x ≡ 0 → ⊥
      some = full_take p.variables ds n.startable.live.sixteen n_few n.startable.live.full x (omega (arith, n.startable.prefix_held.depth))

      value : (w : ℕ) → T (has (at ds x) w) → w ≡ at work x
      value w q =
          (narrowed_e (take k work) p.initial x w (n.way.inside x w (take_i p.variables ds n.startable.live.sixteen n_few x w (omega (arith, n.startable.prefix_held.depth)) q))).1
          (subst (λ (m : ℕ). x < m) (sym (length-take-le k work (omega (arith, n.startable.prefix_held.depth, n_few, n.startable.prefix_held.work_length)))) h)
          ∙ at_take k work x h

  -- the look-ups leave the variables that were settled before as they are
  pub looks_settled : {fs : List ℕ} {v looks looked : ℕ} → LastSettled work k v dirty → LookedLeft p numbers supports ds fs todo looks looked → Settled fs
      (bit_or dirty (bit_and looked (at numbers LINKED))) (k - 1)
  looks_settled {fs = fs} {looked = looked} a l = record {
    clean = λ y h. not_of (has (bit_or dirty (bit_and looked (at numbers LINKED))) y)
        (λ q. ⊎_elim (of_not (has dirty y) (a.clean y h))
        (λ i. of_not (has looked y) (settled_stays p ds n_few n.startable.live.sixteen y (settled y (omega arith)).0.only l.lessened l.changed)
        (and_e looked (at numbers LINKED) y i).0)
        (or_e dirty (bit_and looked (at numbers LINKED)) y q));
    single = λ y h u v s t. (settled y (omega arith)).0.only u v (l.lessened.less y u s) (l.lessened.less y v t);
  }

  -- the constraints by variable are done
  arcs_done : {es : List ℕ} {cut touched due : ℕ} → ArcsLeft p ds es cut → Touched numbers cut touched → due ≡ bit_or todo touched → BeforeFixpoint p gs work numbers es k due 0
  arcs_done l u d = let w = arcs_turn st n.startable.pending l u d in pruned_start (arcs_pruned st n.startable.pending l ds (pruned_none p ds)) w.given w

  -- no constraint takes anything more: nothing is due
  pub constrained_done : {es : List ℕ} → AllConstrained p ds es → BeforeFixpoint p gs work numbers es k 0 0
  constrained_done c =
      pruned_start c.so_far c.given
      (record {
        given = c.given;
        known = λ j t. absurd (has_0 j t);
        others = λ j l e b. c.fixed j l;
        inner = λ x t. absurd (has_0 x t);
        arcs = λ x l e. c.arcs x l;
      })

  pub constrained_size : {es : List ℕ} → AllConstrained p ds es → size es ≤ size ds
  constrained_size {es = es} c = size_inside es ds (c.given.sixteen.0 ∙ sym n.startable.live.sixteen.0) c.so_far.less

-- ---- one turn: no constraint takes anything from es, and the filters leave fs
module _ {p : Problem} {gs : List (List ℕ)} {supports tables numbers : List ℕ} (st : ArraysHold p supports tables numbers) (bl : Blocked p gs numbers) {work es : List ℕ} {k : ℕ}
    (n : BeforeFixpoint p gs work numbers es k 0 0) where
  at_rest : AllConstrained p es es
  at_rest = nothing_due st (pruned_none p es) n.startable.pending refl refl

  pub filters_dead : (work' fs : List ℕ) → OnlyMarks work work' k → EndedAt p (take k work) es → AfterFixpoint p gs k work work' fs true
  filters_dead work' fs r e = dead p gs k work work' fs r (ends st bl n e.0 (stays st bl n (sets_of p es) e.0 e.1.0 n.way) e.1.1)

  module _ {work' fs : List ℕ} (s : AllFiltered p (take k work) es fs) (m : MarksRight p (sets_of p fs) (take k work) work' k) (r : OnlyMarks work work' k) {changed : ℕ}
      (d : Differ es fs changed) where
    way_2 : Way (with_symmetries p gs) (take k work) (sets_of p fs)
    way_2 = stays st bl n (sets_of p es) (sets_of p fs) s.way n.way

    ascends_2 : Ascends (block_of numbers) (take k work) (sets_of p fs)
    ascends_2 = ascends_less (block_of numbers) (take k work) (sets_of p es) (sets_of p fs) (take_less st es fs at_rest.given.sixteen s.live.sixteen s.less) n.ascends

    -- nothing moved: no constraint and no filter takes anything
    pub fixpoint_end : changed ≡ 0 → AfterFixpoint p gs k work work' fs false
    fixpoint_end e = record {
      answers = sym (ap not (of_T (is_live (with_symmetries p gs) (take k work)) live));
      sets_are = λ q. sym sets;
      live = λ q. s.live;
      marking = λ q. m;
      kept = r;
    }
      where
        same : fs ≡ es
        same = none_differs es fs at_rest.given.sixteen s.live.sixteen changed d e

        kept : (x v : ℕ) → T (has (at (sets_of p es) x) v) → Kept p (take k work) (sets_of p es) x v
        kept x v t = record {
          member = t;
          rows = λ a i. let q = place_of p.constraints a (record { scope = []; rows = [] }) i in subst (λ (z : Constraint). T (supported (sets_of p es) x v z)) q.2
              (at_rest.fixed q.0 q.1 x v t);
          filters = λ g i. subst (λ (z : List ℕ). T (has (at z x) v)) (sym (s.fixed same g i)) t;
        }

        fixed_own : pruned p (take k work) (sets_of p fs) ≡ sets_of p fs
        fixed_own = subst (λ (z : List ℕ). pruned p (take k work) (sets_of p z) ≡ sets_of p z) (sym same)
            (fixed_i p (take k work) (sets_of p es) (take_sets p.variables es at_rest.given.sixteen (n_few st bl n)) kept)

        fixed : pruned (with_symmetries p gs) (take k work) (sets_of p fs) ≡ sets_of p fs
        fixed = fixed_whole p st.well_formed (block_of numbers) gs bl.block (take k work) (sets_of p fs) way_2.sets way_2.inside ascends_2 s.live.full fixed_own

        sets : sets_at (with_symmetries p gs) (take k work) ≡ sets_of p fs
        sets = way_live (with_symmetries p gs) (take k work) (well_sized p st.well_formed) (sets_of p fs) way_2 fixed s.live.full

        live : T (is_live (with_symmetries p gs) (take k work))
        live =
            T_of (is_live (with_symmetries p gs) (take k work))
            (live_is (with_symmetries p gs) (take k work) ∙ ap not (ap any_empty (sym (way_end (with_symmetries p gs) (take k work) (well_sized p st.well_formed) (sets_of p fs) way_2 fixed))
            ∙ s.live.full))

    -- something moved: the constraints of the changed variables are due
    module _ {left moved : ℕ} (u : Touched numbers changed left) (q : moved ≡ bit_and changed (at numbers LINKED)) where
      same_at_x : (x : ℕ) → x < p.variables → has changed x ≡ false → at fs x ≡ at es x
      same_at_x x l e = same_at es fs at_rest.given.sixteen s.live.sixteen changed d x (omega (arith, n_few st bl n)) e

      given : Given p fs
      given = record {
        sixteen = s.live.sixteen;
        full = s.live.full;
        inside = λ x v t. at_rest.given.inside x v
            (take_less st es fs at_rest.given.sixteen s.live.sixteen s.less x v t);
      }

      prefix_is : take k work' ≡ take k work
      prefix_is = same_take work work' k k n.startable.prefix_held.work_length r (omega (arith, n.startable.prefix_held.depth, n_few st bl n))

      startable : Startable p work' numbers fs k left moved
      startable = record {
        prefix_held = record {
          depth = n.startable.prefix_held.depth;
          values = λ j l. subst (λ (z : ℕ). T (has (at p.initial j) z)) (sym (r.before j (omega arith))) (n.startable.prefix_held.values j l);
          work_length = r.size ∙ n.startable.prefix_held.work_length;
        };
        live = s.live;
        pending = record {
          given = given;
          known = touched_known st changed left u d.few;
          others = λ j l e b. still_fixed st es fs changed left at_rest.given.sixteen s.live.sixteen same_at_x u j l e b (at_rest.fixed j l);
          inner = λ x t. inner_x x (both_l (has changed x) (has (at numbers LINKED) x) (subst T (ap (λ (z : ℕ). has z x) q ∙ has_and changed (at numbers LINKED) x) t));
          arcs = λ x l e. still_arc st es fs changed moved at_rest.given given s.less same_at_x q x l e (at_rest.arcs x l);
        };
        marking = subst (λ (z : List ℕ). MarksRight p (sets_of p fs) z work' k) (sym prefix_is) m;
      }
        where
          -- an unused set never changes
          inner_x : (x : ℕ) → T (has changed x) → x < p.variables
          inner_x x t = go (ltb x p.variables) refl
            where
              go : (b : Bool) → ltb x p.variables ≡ b → x < p.variables
              go true e = ltb-true x p.variables e
              go false e =
                  let o = ltb-false x p.variables e in
                  let i = d.few x t in
                  absurd (of_not (has changed x) (d.differ x i ∙ ap not (eq-eqb (at fs x) (at es x) (s.live.unused x o i ∙ sym (n.startable.live.unused x o i)))) t)

      pub fixpoint_turn : BeforeFixpoint p gs work' numbers fs k left moved
      fixpoint_turn = record {
        startable = startable;
        way = subst (λ (z : List ℕ). Way (with_symmetries p gs) z (sets_of p fs)) (sym prefix_is) way_2;
        ascends = subst (λ (z : List ℕ). Ascends (block_of numbers) z (sets_of p fs)) (sym prefix_is) ascends_2;
      }

    pub fixpoint_less : changed < 2 ^ 64 → (changed ≡ 0 → ⊥) → size fs < size es
    fixpoint_less h z = fewer es fs at_rest.given.sixteen s.live.sixteen changed d h z s.less

  -- no symmetries: there is no filter, and the marks stay as they are
  pub bare_end : at numbers SYMMETRIES ≡ 0 → AfterFixpoint p gs k work work es false
  bare_end z =
      let f = filtered_end st n.startable.prefix_held es work es 0 (omega (arith, z)) (filtered_begin st n.startable.prefix_held es n.startable.live n.startable.marking) in
      fixpoint_end (f.all_filtered refl) (f.marking refl) f.kept none refl
    where
      none : Differ es es 0
      none = record { few = λ x t. absurd (has_0 x t); differ = λ x l. has_none x ∙ sym (ap not (eq-eqb (at es x) (at es x) refl)) }

-- ---- before the turns: the look-ups, and then the constraints by variable
module _ {p : Problem} {gs : List (List ℕ)} {supports tables numbers : List ℕ} (st : ArraysHold p supports tables numbers) (bl : Blocked p gs numbers) {work ds : List ℕ} {k todo dirty : ℕ}
    (n : BeforeFixpoint p gs work numbers ds k todo dirty) (wide : todo < 2 ^ 64) where
  pub looks_pending : {v : ℕ} → LastSettled work k v dirty → LookUpsPending p numbers supports ds work todo (bit_and todo (at numbers (LOOKS + k))) v
  looks_pending {v} a = record { pending = constraints_pending st n.startable.pending; wide = wide; looks = look }
    where
      look : (c : ℕ) → T (has (bit_and todo (at numbers (LOOKS + k))) c) → LookUp p ds work c v
      look c t = record {
        known = l.known;
        three = l.three;
        first = settled st bl n (at (constraint_at p c).scope 0) (omega (arith, l.second, order));
        second = subst
            (Alone (at ds second)) told (settled st bl n second (omega (arith, l.second)));
      }
        where
          l : LooksUp p k c
          l = st.indexed.looks k c (omega (arith, n.startable.prefix_held.depth, st.well_formed.few)) (and_e todo (at numbers (LOOKS + k)) c t).1

          second : ℕ
          second = at (constraint_at p c).scope 1

          told : at work second ≡ v
          told = let e : second ≡ k - 1 = omega (arith, l.second) in ap (at work) e ∙ sym a.value

          order : at (constraint_at p c).scope 0 < at (constraint_at p c).scope 1
          order = (ascending_sorted _ (subst (λ (z : List ℕ). T (ascending z)) (list_3 (constraint_at p c).scope _ _ _ l.three refl refl refl) (good st.well_formed c l.known).ordered)).0 _
              (Memᴰ-head refl)

  -- both are done: the rest that is due may be done from there
  pub cuts_done : {fs hs : List ℕ} {looked cut t : ℕ} → LookedLeft p numbers supports ds fs todo (bit_and todo (at numbers (LOOKS + k))) looked → ArcsLeft p fs hs cut →
      t < 2 ^ 64 → Touched numbers (bit_or looked cut) t →
      BeforeFixpoint p gs work numbers hs k (bit_or (bit_and todo ((2 ^ 64 - 1) - bit_and todo (at numbers (LOOKS + k)))) t) 0
  cuts_done {looked = looked} {cut = cut} {t = t} l a h u =
      arcs_done st bl (looks_done st bl n l) a (touched_of_lem st.indexed.linked st.well_formed.most cut few)
      (touched_parts st.indexed.linked st.well_formed.most looked cut t _ (looked_few st n.startable.pending l) few (lt_of_le_of_lt (and_le_l todo _) wide) h u)
    where
      few : (x : ℕ) → T (has cut x) → x < 16
      few x q = let i = a.lessened.few x q in omega (arith, st.well_formed.few)
