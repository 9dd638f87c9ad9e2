-- The loop over the symmetries: what their filters have left before each turn, one turn, and both ends. Assumes nothing.
use Rattle.model.specs.Kit.{◌≡◌, refl, sym, ap, ◌∙◌, subst, Bool, true, false, List, [], ℕ, ◌+◌, ◌*◌, ◌%◌, ◌≤◌, ◌<◌, arith, ℕ_discrete, T, ltb, length, set, take, length-set, length-take-le, ltb-true}
use Rattle.model.specs.Kit.{ltb-false}
use Rattle.model.specs.{Lists.at, ValueSets.has, ValueSets.any_empty, ValueSets.Inside, Problem.Problem, Problem.symmetry_at, Nogood.filtered, Search.nogoods_of, Inner.Pruning.Sets}
use Rattle.model.specs.Inner.Pruning.{Prunes}
use Rattle.model.proofs.{Lists.T_of, Lists.at_ext, Lists.at_set, Lists.at_set_other, Lists.at_take, Lists.mem_get_d, Lists.place_of, Sets.inside_antisym, Sets.has_at_lt, Firsts.take_sets}
use Rattle.model.proofs.{Firsts.take_e, Firsts.take_i, Firsts.full_take, Filter.filtered_inside, Prune.filter_removal, Prunes.prunes_none, Prunes.prunes_then, Prunes.removal_prunes}
use Rattle.arrays.specs.{Inner.Places.ENTAILED, Inner.Places.MARKS, Inner.Places.SYMMETRIES, Inner.Places.WORK, Inner.Pruning.sets_of}
use Rattle.filter.specs.Marks.{Vacuous}
use Rattle.prune_symmetries.specs.Inner.Levels.{Mark, Resumes, FilterRequires, FilterFailed, FilterMade, leaves}
use Rattle.prune_symmetries.proofs.Marks.{mark_mono, mark_skips, mark_resumes}
use Rattle.prune.specs.{Inner.Node.MarksRight, Inner.Steps.ArraysHold, Inner.Steps.PrefixHeld, Inner.Steps.LiveSets, Inner.Steps.AllFiltered, Inner.Steps.AllFilteredOr}
use Rattle.prune.specs.Inner.Steps.{OnlyMarks}

-- ---- what of `work` is kept
pub kept_none : (work : List ℕ) (k : ℕ) → OnlyMarks work work k
kept_none work k = record { before = λ j h. refl; after = λ j h. refl; size = refl }

pub kept_trans : (a b c : List ℕ) (k : ℕ) → OnlyMarks a b k → OnlyMarks b c k → OnlyMarks a c k
kept_trans a b c k r s = record { before = λ j h. s.before j h ∙ r.before j h; after = λ j h. s.after j h ∙ r.after j h; size = s.size ∙ r.size }

kept_set : (a b : List ℕ) (k e m : ℕ) → e < 16 → OnlyMarks a b k → OnlyMarks a (set b (16 * k + MARKS + e) m) k
kept_set a b k e m h r = record {
  before = λ j l. at_set_other b (16 * k + MARKS + e) m j (λ q. omega arith) ∙ r.before j l;
  after = λ j l. at_set_other b (16 * k + MARKS + e) m j (λ q. omega arith) ∙ r.after j l;
  size = length-set b (16 * k + MARKS + e) m ∙ r.size;
}

take_length : (work : List ℕ) (j : ℕ) → length work ≡ WORK → j ≤ 16 → length (take j work) ≡ j
take_length work j l h = length-take-le j work (omega (arith, l))

-- the first values are the same
pub same_take : (work work' : List ℕ) (k j : ℕ) → length work ≡ WORK → OnlyMarks work work' k → j ≤ 16 → take j work' ≡ take j work
same_take work work' k j l r h =
    at_ext (take j work') (take j work) (take_length work' j (r.size ∙ l) h ∙ sym (take_length work j l h))
    (λ i m. let m' : i < j = subst (λ (n : ℕ). i < n) (take_length work' j (r.size ∙ l) h) m in at_take j work' i m' ∙ r.before i (omega arith) ∙ sym (at_take j work i m'))

take_take : (work : List ℕ) (j k : ℕ) → length work ≡ WORK → j ≤ k → k ≤ 16 → take j (take k work) ≡ take j work
take_take work j k l h f =
    at_ext (take j (take k work)) (take j work) (length-take-le j (take k work) (omega (arith, take_length work k l f)) ∙ sym (take_length work j l (omega arith)))
    (λ i m. let m' : i < j = subst (λ (n : ℕ). i < n) (length-take-le j (take k work) (omega (arith, take_length work k l f))) m in at_take j (take k work) i m' ∙ at_take k work i (omega arith)
    ∙ sym (at_take j work i m'))

-- ---- what holds before the turn of symmetry e
pub record FilteredSoFar (p : Problem) (k : ℕ) (work₀ ds work es : List ℕ) (e : ℕ) : Type 0 where
  pub live : LiveSets p es
  pub less : Inside es ds
  pub way : Prunes p (take k work₀) (sets_of p ds) (sets_of p es)
  pub fixed : es ≡ ds → (i : ℕ) → i < e → filtered (sets_of p ds) (nogoods_of p (symmetry_at p i) (take k work₀)) ≡ sets_of p ds
  pub marking : MarksRight p (sets_of p es) (take k work₀) work k
  pub kept : OnlyMarks work₀ work k

module _ {p : Problem} {supports tables numbers : List ℕ} (st : ArraysHold p supports tables numbers) {work₀ : List ℕ} {k : ℕ} (g : PrefixHeld p work₀ k) (ds : List ℕ) where
  pub filtered_begin : LiveSets p ds → MarksRight p (sets_of p ds) (take k work₀) work₀ k → FilteredSoFar p k work₀ ds work₀ ds 0
  filtered_begin l m = record { live = l; less = λ x v t. t; way = prunes_none p (take k work₀) (sets_of p ds); fixed = λ q i h. absurd (omega arith); marking = m; kept = kept_none work₀ k }

  pub filtered_end : (work es : List ℕ) (e : ℕ) → at numbers SYMMETRIES ≤ e → FilteredSoFar p k work₀ ds work es e → AllFilteredOr p k work₀ ds work es false
  filtered_end work es e h s = record { ended = λ q. absurd (subst T (sym q) tt); all_filtered = λ q. all_filtered; marking = λ q. s.marking; kept = s.kept }
    where
      all_filtered : AllFiltered p (take k work₀) ds es
      all_filtered = record {
        live = s.live;
        less = s.less;
        way = s.way;
        fixed = λ q t m. let r = place_of p.symmetries t [] m in subst (λ (z : List ℕ). filtered (sets_of p ds) (nogoods_of p z (take k work₀)) ≡ sets_of p ds) r.2
            (s.fixed q r.0 (omega (arith, r.1, st.indexed.numbered.symmetries)));
      }

  -- ---- one turn
  module _ {work es : List ℕ} {e : ℕ} (h : e < at numbers SYMMETRIES) (s : FilteredSoFar p k work₀ ds work es e) where
    e_lt : e < length p.symmetries
    e_lt = omega (arith, st.indexed.numbered.symmetries)

    pub e_few : e < 16
    e_few = omega (arith, e_lt, st.symmetries)

    pub k_few : k ≤ 12
    k_few = omega (arith, g.depth, st.well_formed.few)

    n_few : p.variables ≤ 16
    n_few = omega (arith, st.well_formed.few)

    es_sets : Sets p.variables (sets_of p es)
    es_sets = take_sets p.variables es s.live.sixteen n_few

    mark : Mark p (sets_of p es) (take k work₀) e (at work (16 * k + MARKS + e))
    mark = s.marking e e_lt

    -- what a turn that leaves fs adds
    module _ (fs : List ℕ) (sixteen : Sets 16 fs) (less : Inside fs es) (left : sets_of p fs ≡ filtered (sets_of p es) (nogoods_of p (symmetry_at p e) (take k work₀))) where
      fixed_turn : fs ≡ ds → (i : ℕ) → i < e + 1 → filtered (sets_of p ds) (nogoods_of p (symmetry_at p i) (take k work₀)) ≡ sets_of p ds
      fixed_turn q i l = go (ℕ_discrete i e)
        where
          same : es ≡ ds
          same = inside_antisym 16 es ds s.live.sixteen (subst (Sets 16) q sixteen) s.less (subst (λ (z : List ℕ). Inside z es) q less)

          go : Dec (i ≡ e) → filtered (sets_of p ds) (nogoods_of p (symmetry_at p i) (take k work₀)) ≡ sets_of p ds
          go (yes o) =
              subst (λ (z : ℕ). filtered (sets_of p ds) (nogoods_of p (symmetry_at p z) (take k work₀)) ≡ sets_of p ds) (sym o)
              (ap (λ (z : List ℕ). filtered (sets_of p z) (nogoods_of p (symmetry_at p e) (take k work₀))) (sym same) ∙ sym left ∙ ap (sets_of p) q)
          go (no o) = s.fixed same i (omega arith)

    depth_is : length (take k work₀) ≡ k
    depth_is = take_length work₀ k g.work_length (omega (arith, k_few))

    -- a symmetry whose nogoods are not due takes nothing
    pub filtered_skip : ltb (at work (16 * k + MARKS + e)) (ENTAILED * k) ≡ false → FilteredSoFar p k work₀ ds work es (e + 1)
    filtered_skip q = record {
      live = s.live;
      less = s.less;
      way = s.way;
      fixed = fixed_turn es s.live.sixteen (λ x v t. t) (sym (mark_skips p (sets_of p es) (take k work₀) e (at work (16 * k + MARKS + e)) (omega (arith, depth_is, k_few)) mark
          (rw depth_is q) es_sets s.live.full));
      marking = s.marking;
      kept = s.kept;
    }

    module _ (d : ltb (at work (16 * k + MARKS + e)) (ENTAILED * k) ≡ true) where
      resumes : Resumes p (sets_of p es) (take k work₀) e (at work (16 * k + MARKS + e))
      resumes = mark_resumes p (sets_of p es) (take k work₀) e (at work (16 * k + MARKS + e)) (omega (arith, depth_is, k_few)) mark (rw depth_is d)

      begun : at work (16 * k + MARKS + e) % ENTAILED ≤ k
      begun = omega (arith, depth_is, resumes.begun)

      prefix_is : take k work ≡ take k work₀
      prefix_is = same_take work₀ work k k g.work_length s.kept (omega (arith, k_few))

      pub levelled : FilterRequires p es work tables e k (at work (16 * k + MARKS + e) % ENTAILED)
      levelled = record {
        image_tables = st.indexed.image_tables;
        well_formed = st.well_formed;
        few = st.symmetries;
        symmetry = e_lt;
        bound = g.depth;
        drawn = λ j l. subst (λ (z : ℕ). T (has (at p.initial j) z)) (sym (s.kept.before j (omega arith))) (g.values j l);
        work_length = s.kept.size ∙ g.work_length;
        live = record { few = n_few; sixteen = s.live.sixteen.0; small = s.live.sixteen.1; full = full_take p.variables es s.live.sixteen n_few s.live.full };
        unused = s.live.unused;
        begun = begun;
        vacuous = subst (λ (z : List ℕ). Vacuous (sets_of p es) (nogoods_of p (symmetry_at p e) z))
            (take_take work₀ (at work (16 * k + MARKS + e) % ENTAILED) k g.work_length begun (omega (arith, k_few)) ∙ sym
            (same_take work₀ work k (at work (16 * k + MARKS + e) % ENTAILED) g.work_length s.kept (omega (arith, k_few, begun)))) resumes.vacuous;
      }

      -- what the filter leaves, at the prefix
      leaves_is : leaves p es work e k ≡ filtered (sets_of p es) (nogoods_of p (symmetry_at p e) (take k work₀))
      leaves_is = ap (λ (z : List ℕ). filtered (sets_of p es) (nogoods_of p (symmetry_at p e) z)) prefix_is

      left_way : Prunes p (take k work₀) (sets_of p ds) (filtered (sets_of p es) (nogoods_of p (symmetry_at p e) (take k work₀)))
      left_way =
          prunes_then p (take k work₀) (sets_of p ds) (sets_of p es) (filtered (sets_of p es) (nogoods_of p (symmetry_at p e) (take k work₀))) s.way
          (removal_prunes p (take k work₀) (sets_of p es) (filtered (sets_of p es) (nogoods_of p (symmetry_at p e) (take k work₀)))
          (filter_removal p (take k work₀) (sets_of p es) es_sets (symmetry_at p e) (mem_get_d p.symmetries e [] e_lt)))

      pub filtered_dead : {fs : List ℕ} → FilterFailed p es work e k fs → AllFilteredOr p k work₀ ds work fs true
      filtered_dead f = record {
        ended = λ _. (
          filtered (sets_of p es) (nogoods_of p (symmetry_at p e) (take k work₀)),
          (left_way, T_of (any_empty (filtered (sets_of p es) (nogoods_of p (symmetry_at p e) (take k work₀)))) (ap any_empty (sym leaves_is) ∙ f.empty)),
        );
        all_filtered = λ z. absurd (subst T z tt);
        marking = λ z. absurd (subst T z tt);
        kept = s.kept;
      }

      module _ {fs : List ℕ} {r : ℕ} (f : FilterMade p es work e k fs r) where
        here : sets_of p fs ≡ filtered (sets_of p es) (nogoods_of p (symmetry_at p e) (take k work₀))
        here = f.left ∙ leaves_is

        sixteen : Sets 16 fs
        sixteen = (f.sixteen, f.live.small)

        turn_live : LiveSets p fs
        turn_live = record { sixteen = sixteen; full = ap any_empty (f.left) ∙ f.full; unused = f.unused }

        turn_less : Inside fs es
        turn_less x v t = go (ltb x p.variables) refl
          where
            go : (b : Bool) → ltb x p.variables ≡ b → T (has (at es x) v)
            go true q =
                let i = take_i p.variables fs sixteen n_few x v (ltb-true x p.variables q) t in
                (take_e p.variables es s.live.sixteen n_few x v (filtered_inside (sets_of p es) (nogoods_of p (symmetry_at p e) (take k work₀)) x v
                (subst (λ (l : List ℕ). T (has (at l x) v)) here i))).1
            go false q =
                let o = ltb-false x p.variables q in
                let i : x < 16 = subst (λ (z : ℕ). x < z) f.sixteen (has_at_lt fs x v t) in
                subst (λ (z : ℕ). T (has z v)) (f.unused x o i ∙ sym (s.live.unused x o i)) t

        take_less : Inside (sets_of p fs) (sets_of p es)
        take_less x v t = let q = take_e p.variables fs sixteen n_few x v t in take_i p.variables es s.live.sixteen n_few x v q.0 (turn_less x v q.1)

        marking_turn : MarksRight p (sets_of p fs) (take k work₀) (set work (16 * k + MARKS + e) r) k
        marking_turn i l = go (ℕ_discrete i e)
          where
            slot : 16 * k + MARKS + e < length work
            slot = omega (arith, e_few, k_few, s.kept.size, g.work_length)

            go : Dec (i ≡ e) → Mark p (sets_of p fs) (take k work₀) i (at (set work (16 * k + MARKS + e) r) (16 * k + MARKS + i))
            go (yes q) =
                subst (λ (z : ℕ). Mark p (sets_of p fs) (take k work₀) z (at (set work (16 * k + MARKS + e) r) (16 * k + MARKS + z))) (sym q)
                (subst (Mark p (sets_of p fs) (take k work₀) e) (sym (at_set work (16 * k + MARKS + e) r slot)) (subst (λ (z : List ℕ). Mark p (sets_of p fs) z e r) prefix_is f.mark))
            go (no q) =
                subst (Mark p (sets_of p fs) (take k work₀) i) (sym (at_set_other work (16 * k + MARKS + e) r (16 * k + MARKS + i) (λ z. q (omega arith))))
                (mark_mono p (sets_of p es) (sets_of p fs) (take k work₀) i (at work (16 * k + MARKS + i)) ((take_sets p.variables fs sixteen n_few).0 ∙ sym es_sets.0) take_less (s.marking i l))

        pub filtered_turn : FilteredSoFar p k work₀ ds (set work (16 * k + MARKS + e) r) fs (e + 1)
        filtered_turn = record {
          live = turn_live;
          less = λ x v t. s.less x v (turn_less x v t);
          way = subst (Prunes p (take k work₀) (sets_of p ds)) (sym here) left_way;
          fixed = fixed_turn fs sixteen turn_less here;
          marking = marking_turn;
          kept = kept_set work₀ work k e r e_few s.kept;
        }
