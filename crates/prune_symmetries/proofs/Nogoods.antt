-- What the passes and the split leave is what the filter leaves, and the answer is a mark. Assumes nothing.
use Rattle.model.specs.Kit.{◌≡◌, sym, ap, ◌∙◌, subst, Bool, List, [], ◌++◌, append-nil, append_assoc, Memᴰ, ◌⊎◌, inl, inr, ℕ, ◌+◌, ◌*◌, ◌%◌, ◌≤◌, ◌<◌, arith, length, take, length-take-le}
use Rattle.model.specs.Kit.{ne_eqb}
use Rattle.model.specs.Nogood.{Entry, equality, filtered, entailed, filter_ending}
use Rattle.model.specs.{Lists.at, ValueSets.any_empty, Problem.Problem, Problem.symmetry_at, NogoodClaims.Entails, Search.nogoods_of}
use mathlib.Core.List.Memᴰ
use lib.Seq.{take-take}
use Rattle.model.proofs.{Lists.not_of, Lists.of_T, Sets.empty_e, Endings.entailed_exactly}
use Rattle.arrays.specs.Inner.Places.{ENTAILED, OBEYED}
use Rattle.filter.specs.{Inner.Scan.None, Inner.Scan.Passed, Inner.Scan.Remainder, Marks.Vacuous, Marks.NamesGone, Marks.Skippable}
use Rattle.filter.proofs.{Marks.vacuous_mono, Marks.vacuous_append, Endings.none_failed, Endings.passed_ending, Endings.ended_entailed}
use Rattle.prune_symmetries.specs.Inner.Levels.{MarkBy, Mark, ending_at, FilterRequires, leaves, FilterFailed, FilterMade, cuts, levels, CutsMade, CutsObeyed}
use Rattle.prune_symmetries.specs.Inner.Levels.{NoneObeys, Ready, split_entries, SplitReached, PassCame, pass_obeyed, pass_ended, pass_split, SplitResult}
use Rattle.prune_symmetries.proofs.CutsMade.{from_as, same_length, vacuous_made, made_on, obeyed_on, none_on}
use Rattle.prune_symmetries.proofs.{Levels.levels_append, Levels.levels_split, Levels.nogoods_are, Splits.short, Splits.at_obeyed, Splits.at_entailed}
use Rattle.filter.proofs.Front

module _ {p : Problem} {sets work tables : List ℕ} {e k start : ℕ} (w : FilterRequires p sets work tables e k start) where
  abbrev n : ℕ
  n = p.variables

  pub ready : Ready p sets work tables e k start
  ready =
      record {
        tabled = record { image_tables = w.image_tables; well_formed = w.well_formed; few = w.few; symmetry = w.symmetry };
        held = record { live = w.live; unused = w.unused };
        prefix = record { bound = w.bound; drawn = w.drawn };
        begun = w.begun;
      }

  -- ---- the levels before the start
  nogoods_at : (j : ℕ) → j ≤ k → nogoods_of p (symmetry_at p e) (take j work) ≡ levels p work e 0 j
  nogoods_at j h = nogoods_are p w.well_formed e work j (omega (arith, short ready, w.work_length))

  before : CutsMade n sets (levels p work e 0 start) sets
  before = vacuous_made (levels p work e 0 start) w.live (subst (λ (es : List Entry). Vacuous (take n sets) es) (nogoods_at start w.begun) w.vacuous)

  all : levels p work e 0 start ++ levels p work e start k ≡ levels p work e 0 k
  all = sym (levels_append p work e 0 start k (omega arith) w.begun)

  -- ---- the marks
  size : length (take k work) ≡ k
  size = length-take-le k work (omega (arith, short ready, w.work_length))

  -- with what the filter leaves of all levels
  module _ (ts : List ℕ) (z : Remainder n sets (levels p work e 0 k) ts) where
    -- every assignment obeys
    every : filter_ending (take n sets) (levels p work e 0 k) ≡ entailed → Entails (take n ts) (levels p work e 0 k)
    every q = subst (λ (l : List ℕ). Entails l (levels p work e 0 k)) (sym z.left) ((entailed_exactly (take n sets) (levels p work e 0 k)).0 q).1

    mark_for_good : filter_ending (take n sets) (levels p work e 0 k) ≡ entailed → NamesGone (take n ts) (levels p work e 0 k) → Mark p (take n ts) (take k work) e OBEYED
    mark_for_good q g = subst (λ (es : List Entry). Skippable (take n ts) es) (sym (nogoods_at k (omega arith))) (record { entailed = every q; gone = g })

    -- the levels up to j say nothing more
    mark_vacuous : (j m : ℕ) → j ≤ k → m % ENTAILED ≡ j → m < ENTAILED * (k + 1) → (ENTAILED * k ≤ m → Entails (take n ts) (levels p work e 0 k)) → Vacuous (take n ts) (levels p work e 0 j)
        → Mark p (take n ts) (take k work) e m
    mark_vacuous j m h q l f i =
        let s = short ready in
        let u = size in
        subst (λ (b : Bool). MarkBy b p (take n ts) (take k work) e m) (sym (ne_eqb m OBEYED (λ q. omega arith)))
        (record {
          begun = omega (arith, size);
          vacuous = subst (λ (c : ℕ). Vacuous (take n ts) (nogoods_of p (symmetry_at p e) (take c (take k work)))) (sym q)
              (subst (λ (es : List Entry). Vacuous (take n ts) es) (sym (ap (nogoods_of p (symmetry_at p e)) (take-take j k work h) ∙ nogoods_at j h)) i);
          below = omega (arith, size);
          entailed = λ d. subst (λ (es : List Entry). Entails (take n ts) es) (sym (nogoods_at k (omega arith))) (f (omega (arith, size)));
        })

  -- ---- the answer
  at_list : filter_ending (take n sets) (levels p work e 0 k) ≡ filter_ending (take n sets) (nogoods_of p (symmetry_at p e) (take k work))
  at_list = ap (filter_ending (take n sets)) (sym (nogoods_at k (omega arith)))

  pub reached_none : (ts : List ℕ) → length ts ≡ length sets → NoneObeys n sets (levels p work e start k) → FilterFailed p sets work e k ts
  reached_none ts l z =
      let d : NoneObeys n sets (levels p work e 0 k) = subst (λ (es : List Entry). NoneObeys n sets es) all (none_on before (levels p work e start k) z) in
      let o : None n sets (levels p work e 0 k) = subst (λ (es : List Entry). None n sets es) (append-nil (levels p work e 0 k)) (d []) in
      let t = Front.none_empty n sets (nogoods_of p (symmetry_at p e) (take k work)) w.well_formed.some (omega (arith, w.live.few, w.live.sixteen))
      (subst (λ (es : List Entry). None n sets es) (sym (nogoods_at k (omega arith))) o) in
      record {
        ending = sym (none_failed (take n sets) (levels p work e 0 k) o) ∙ at_list;
        empty = of_T (any_empty (leaves p sets work e k)) t;
        sixteen = l ∙ w.live.sixteen;
      }

  ensures_live : (ts : List ℕ) (r : ℕ) → Remainder n sets (levels p work e 0 k) ts → ending_at k r ≡ filter_ending (take n sets) (levels p work e 0 k) → Mark p (take n ts)
      (take k work) e r → FilterMade p sets work e k ts r
  ensures_live ts r z q m =
      let a : take n ts ≡ leaves p sets work e k = z.left ∙ ap (filtered (take n sets)) (sym (nogoods_at k (omega arith))) in
      record {
        ending = q ∙ at_list;
        full = not_of (any_empty (leaves p sets work e k)) (λ t. let r = empty_e (leaves p sets work e k) t in
            Front.front_full z.live r.0 (subst (λ (l : List ℕ). r.0 < length l) (sym a) r.1) (ap (λ (l : List ℕ). at l r.0) a ∙ r.2));
        left = a;
        live = z.live;
        unused = λ x h l. z.unused x h ∙ w.unused x h l;
        mark = m;
        sixteen = z.live.sixteen;
      }

  module _ (rs : List ℕ) where
    -- all levels passed: nothing is left to ask
    ended : Passed n sets (levels p work e 0 k) rs [] → Remainder n sets (levels p work e 0 k) rs × (filter_ending (take n sets) (levels p work e 0 k) ≡ entailed)
    ended q = (Front.ended q (Front.front_length w.live), ended_entailed w.live q)

    ensures_obeyed : CutsObeyed n sets (levels p work e start k) rs → FilterMade p sets work e k rs OBEYED
    ensures_obeyed f =
        let g : CutsObeyed n sets (levels p work e 0 k) rs = subst (λ (es : List Entry). CutsObeyed n sets es rs) all (obeyed_on before (levels p work e start k) rs f) in
        let z = ended (from_as (append-nil (levels p work e 0 k)) (g.passed [])) in
        ensures_live rs OBEYED z.0 (at_obeyed k (short ready) ∙ sym z.1) (mark_for_good rs z.0 z.1 g.gone)

    ensures_end : CutsMade n sets (levels p work e start k) rs → FilterMade p sets work e k rs (ENTAILED * k + k)
    ensures_end t =
        let l = short ready in
        let g : CutsMade n sets (levels p work e 0 k) rs = subst (λ (es : List Entry). CutsMade n sets es rs) all (made_on before (levels p work e start k) rs t) in
        let z = ended (from_as (append-nil (levels p work e 0 k)) (g.passed [])) in
        ensures_live rs (ENTAILED * k + k) z.0 (at_entailed k k l (omega arith) ∙ sym z.1)
        (mark_vacuous rs z.0 k (ENTAILED * k + k) (omega arith) (omega arith) (omega arith) (λ q. every rs z.0 z.1) g.vacuous)

    -- ---- how the pass ended
    pub reached_end : (r : ℕ) → k ≤ r → PassCame p sets work tables e k start rs r → FilterMade p sets work e k rs r
    reached_end r h (pass_obeyed q f) = subst (λ (m : ℕ). FilterMade p sets work e k rs m) (sym q) (ensures_obeyed f)
    reached_end r h (pass_ended q t) = subst (λ (m : ℕ). FilterMade p sets work e k rs m) (sym q) (ensures_end t)
    reached_end r h (pass_split q f) = absurd (omega arith)

    module _ (j : ℕ) (f : SplitReached p sets work tables e k start rs j) (ts : List ℕ) (r : ℕ) (g : SplitResult p rs work e k j ts r) where
      shrunk : length (take n ts) ≡ length (take n rs)
      shrunk = same_length f.at_split.held.live g.left.live

      -- the levels up to j, with its cuts
      front : CutsMade n sets (levels p work e 0 start ++ (levels p work e start j ++ cuts p e j (at work j))) rs
      front = made_on before (levels p work e start j ++ cuts p e j (at work j)) rs f.made

      whole : (levels p work e 0 start ++ (levels p work e start j ++ cuts p e j (at work j))) ++ split_entries p work e k j ≡ levels p work e 0 k
      whole =
          append_assoc (levels p work e 0 start) (levels p work e start j ++ cuts p e j (at work j)) (split_entries p work e k j)
          ∙ ap (λ (l : List Entry). levels p work e 0 start ++ l) (levels_split p work e start j k f.begun f.at_split.inside) ∙ all

      passed : Passed n sets (levels p work e 0 k) rs (split_entries p work e k j)
      passed = from_as whole (front.passed (split_entries p work e k j))

      left : Remainder n sets (levels p work e 0 k) ts
      left = Front.left_after passed g.left (Front.front_length w.live)

      ending : ending_at k r ≡ filter_ending (take n sets) (levels p work e 0 k)
      ending = g.ending ∙ sym (passed_ending w.live passed)

      upto : Vacuous (take n ts) (levels p work e 0 j)
      upto =
          subst (λ (es : List Entry). Vacuous (take n ts) es) (sym (levels_append p work e 0 start j (omega arith) f.begun))
          (vacuous_mono (take n rs) (take n ts) (levels p work e 0 start ++ levels p work e start j) shrunk g.less
          (vacuous_append (take n rs) (levels p work e 0 start) (levels p work e start j)
          (vacuous_mono (take n sets) (take n rs) (levels p work e 0 start) (same_length w.live f.at_split.held.live) (f.made.passed []).less before.vacuous) f.before))

      pub resolved : FilterMade p sets work e k ts r
      resolved = go g.answer
        where
          s : k ≤ 12
          s = short ready

          go : ((r ≡ OBEYED) × NamesGone (take n ts) (split_entries p work e k j)) ⊎ ((r ≡ j) ⊎ (r ≡ ENTAILED * k + j)) → FilterMade p sets work e k ts r
          go (inl q) =
              let h = q.1 in
              let d : filter_ending (take n sets) (levels p work e 0 k) ≡ entailed = sym ending ∙ ap (ending_at k) q.0 ∙ at_obeyed k s in
              ensures_live ts r left ending
              (subst (Mark p (take n ts) (take k work) e) (sym q.0)
              (mark_for_good ts left d (
                h.0,
                h.1,
                subst (λ (es : List Entry). Memᴰ (equality h.0 h.1) es) whole
                    (Memᴰ.append_right (levels p work e 0 start ++ (levels p work e start j ++ cuts p e j (at work j))) h.2),
                h.3,
                h.4,
              )))
          go (inr (inl q)) =
              let l = f.at_split.inside in
              ensures_live ts r left ending
              (subst (Mark p (take n ts) (take k work) e) (sym q)
              (mark_vacuous ts left j j (omega arith) (omega arith) (omega arith) (λ d. absurd (omega arith)) upto))
          go (inr (inr q)) =
              let l = f.at_split.inside in
              let d : filter_ending (take n sets) (levels p work e 0 k) ≡ entailed = sym ending ∙ ap (ending_at k) q ∙ at_entailed k j s (omega arith) in
              ensures_live ts r left ending
              (subst (Mark p (take n ts) (take k work) e) (sym q)
              (mark_vacuous ts left j (ENTAILED * k + j) (omega arith) (omega arith) (omega arith) (λ o. every ts left d) upto))
