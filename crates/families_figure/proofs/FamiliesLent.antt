-- The figure of a run that is lent a sheet, pairs and a block, and one of each family (specs/Inner/FigureClaims). Assumes nothing.
use Rattle.model.specs.Kit.{◌≡◌, refl, sym, ap, ap₂, ◌∙◌, subst, ◌↔◌, ◌⊎◌, inl, ⊎_elim, List, [], ◌∷◌, ◌++◌, map, append-nil, Memᴰ, Memᴰ-not_nil, ℕ, T, length}
use Rattle.model.specs.Run.{Ending, finished, spent, full, plans_in, written}
use Rattle.model.specs.{Problem.Problem, Problem.is_solution, Problem.with_symmetries, Verdict.Verdict, Verdict.accepted, Verdict.is_accepted, Verdict.reply, Verdict.kept, Claims.Leader}
use Rattle.model.specs.{Lists.up_from}
use Rattle.model.specs.{Lists.below, Sheet.header_of, Sheet.problem_of, Sheet.table_at, Inner.WellFormed.WellFormed, Inner.WellFormed.Respected}
use Rattle.order.specs.{Order.Ordering, Order.settling_order, Order.order_verdict, Reordered.earlier_by, RunBy.Input, RunBy.result_by, RunBy.leaders_by, RunBy.answer_by, RunBy.list_by}
use Rattle.order.proofs.{Order.no_circle_passes, Demanded.ran_by, RunBy.leaders_by_hold, RunBy.finished_lists, RunBy.rows_counted_by, RunBy.fewer_by}
use Rattle.sheet.specs.Meaning.{and_then}
use Rattle.block.specs.Block.{block_verdict, tables_lent, block_lent}
use Rattle.block.proofs.Claimed.{alone_closed}
use Rattle.run_input.specs.Lent.{verdict_lent, problem_with, order_lent, lent_input}
use Rattle.run_input.proofs.Lent.{lent_passed, well_sheet, well_lent, respected_lent, ordering_lent, lent_good, demanded_lent, nothing_lent}
use Rattle.families.specs.Families.{Closed, families_of}
use Rattle.families.proofs.{FamilyCount.families, JoinedBy.leader_earliest_by, JoinedBy.earliest_leader_by, JoinedBy.each_by, JoinedBy.leaders_each_by}
use Rattle.families_figure.specs.{Figure.problem_bare, Figure.bare_sheet, Figure.number, Figure.dash, Figure.figure_for, Figure.families_lent, Inner.FigureClaims.ran_with, Inner.FigureClaims.ran_bare}
use Rattle.families_figure.specs.{Inner.FigureClaims.Finished, Inner.FigureClaims.FamiliesLentClaim, Inner.FigureClaims.BareRun, FigureClaims.OneListedEach}
use Rattle.families_figure.specs.Inner.FigureClaims.{OneOfEachLent, BlockAloneClosed, BlockAloneOneEach}
use Rattle.families_figure.proofs.BareSheet.{bare_passed}
use Rattle.model.proofs.{Accepted.accepted_is, Accepted.is_accepted_lem, Asked.well_formed_with}

-- ---- the figure
number_of : (e f : Ending) (k : ℕ) → Finished e → Finished f → figure_for e f k ≡ number k
number_of e f k (plans, made, h) (plans', made', h') = ap₂ (λ (x y : Ending). figure_for x y k) h h'

dash_of : (e f : Ending) (k : ℕ) → ((Finished e → ⊥) ⊎ (Finished f → ⊥)) → figure_for e f k ≡ dash
dash_of (finished plans made) (finished plans' made') k h = absurd (⊎_elim {C = ⊥} (λ n. n (plans, made, refl)) (λ n. n (plans', made', refl)) h)
dash_of (finished plans made) (spent plans' made') k h = refl
dash_of (finished plans made) (full plans' made') k h = refl
dash_of (spent plans made) f k h = refl
dash_of (full plans made) f k h = refl

module _ (b pairs block : List ℕ) (good : T (is_accepted (verdict_lent b pairs block))) where
  pub well_bare : WellFormed (problem_bare b)
  well_bare = well_formed_with (problem_of b) [] (lent_passed b pairs block good).sheet.well (λ g m. absurd (Memᴰ-not_nil m))

  pub respected_bare : Respected (problem_bare b)
  respected_bare = record { respectful = λ g m. absurd (Memᴰ-not_nil m) }

pub families_lent_lem : FamiliesLentClaim
unfolding families_lent result_by is_solution
families_lent_lem b pairs block limit room h = record {
  count = families p w rp;
  counted = number_of (ran_with b pairs block limit room) (ran_bare b pairs limit room) (families_of p);
  dashed = dash_of (ran_with b pairs block limit room) (ran_bare b pairs limit room) (families_of p);
  bare_enough = λ f. (fewer_by bare order p.symmetries wb o (λ g m. absurd (Memᴰ-not_nil m)) limit room f.0 f.1 f.2).1;
  bare_lists = λ f s. (let r = finished_lists bare wb rb order o limit room f.0 f.1 f.2 in (
    λ m. ((leaders_by_hold bare wb rb order o s).0 (subst (Memᴰ s) r m)).solves,
    λ t. subst (Memᴰ s) (sym r) ((leaders_by_hold bare wb rb order o s).1 (record { solves = t; unbeaten = λ g u m su e tk. Memᴰ-not_nil m })),
  ));
  none = λ e. ap (λ (gs : List (List ℕ)). (result_by order (with_symmetries (problem_of b) gs) limit room).ending) e;
}
  where
    p : Problem
    p = problem_with b block

    bare : Problem
    bare = problem_bare b

    order : List ℕ
    order = order_lent b pairs

    good : T (is_accepted (verdict_lent b pairs block))
    good = is_accepted_lem (verdict_lent b pairs block) h

    w : WellFormed (problem_with b block)
    w = well_lent b pairs block good

    rp : Respected (problem_with b block)
    rp = respected_lent b pairs block good

    wb : WellFormed (problem_bare b)
    wb = well_bare b pairs block good

    rb : Respected (problem_bare b)
    rb = respected_bare b pairs block good

    o : Ordering (problem_of b).variables (order_lent b pairs)
    o = ordering_lent b pairs block good

-- the run without exchanges and block is that of the sheet without exchanges
pub bare_run : BareRun
unfolding answer_by list_by verdict_lent block_lent
bare_run b pairs block limit out h =
    let x = lent_passed b pairs block (is_accepted_lem (verdict_lent b pairs block) h) in
    let c = bare_sheet b in
    let e = bare_passed b x.sheet in
    let same : problem_with c [] ≡ problem_bare b = ap (λ (i : Input). i.problem) (nothing_lent c).input ∙ e.1 in
    let k = x.ordered in
    let v : verdict_lent c pairs [] ≡ accepted = ap₂ and_then e.0 (ap (λ (q : Problem). order_verdict q.variables pairs accepted) e.1 ∙ no_circle_passes (problem_of b).variables pairs
    k.few k.whole k.inside accepted k.acyclic) in (
      ap₂ (λ (u : Verdict) (q : Problem). reply u (result_by (settling_order q.variables pairs) q limit (length out)).ending) v same,
      ap₂ (λ (u : Verdict) (q : Problem). kept u out (written (result_by (settling_order q.variables pairs) q limit (length out)).rows out)) v same,
    )

-- ---- closed exchanges
pub one_of_each_lent : OneOfEachLent
unfolding is_solution
one_of_each_lent b pairs block limit out plans made closed h = subst (OneListedEach b pairs block plans) (sym ((demanded_lent b pairs block).lists_leaders limit out plans made h)) (record {
  earliest = λ s. (
    λ m. let l = (hold s).0 m in (l.solves, leader_earliest_by p w rp order o closed s l),
    λ r. (hold s).1 (earliest_leader_by p w rp order o s r.0 r.1),
  );
  each = λ s t. (let r = each_by p w rp order o closed s t in (r.0, (hold r.0).1 r.1, r.2, λ m i j. r.3 m ((hold m).0 i) j));
  once = leaders_each_by p w rp order o closed;
  count = listed ∙ (families p w rp).1 (leaders_by order p) (leaders_each_by p w rp order o closed);
})
  where
    p : Problem
    p = problem_with b block

    order : List ℕ
    order = order_lent b pairs

    good : T (is_accepted (verdict_lent b pairs block))
    good = lent_good b pairs block limit out (finished plans made) h

    w : WellFormed (problem_with b block)
    w = well_lent b pairs block good

    rp : Respected (problem_with b block)
    rp = respected_lent b pairs block good

    o : Ordering (problem_of b).variables (order_lent b pairs)
    o = ordering_lent b pairs block good

    hold : (s : List ℕ) → Memᴰ s (leaders_by (order_lent b pairs) (problem_with b block)) ↔ Leader (earlier_by (order_lent b pairs)) (problem_with b block) s
    hold = leaders_by_hold (problem_with b block) w rp (order_lent b pairs) o

    listed : plans ≡ length (leaders_by (order_lent b pairs) (problem_with b block))
    listed =
        let r = ran_by (lent_input b pairs block) limit out (finished plans made) h in
        sym (ap plans_in r.so) ∙ rows_counted_by p w rp order o limit (length out) ∙ ap length (finished_lists p w rp order o limit (length out) plans made r.so)

-- ---- a block alone
tables_closed : (p : Problem) → WellFormed p → p.symmetries ≡ [] → (block : List ℕ) → T (is_accepted (block_lent p block)) → Closed (with_symmetries p (p.symmetries ++ tables_lent p block))
unfolding block_lent tables_lent
tables_closed p w none [] h f g i j = absurd (Memᴰ-not_nil (subst (Memᴰ f) (append-nil p.symmetries ∙ none) i))
tables_closed p w none (first ∷ []) h f g i j = absurd h
tables_closed p w none (first ∷ m ∷ []) h f g i j = inl (alone_closed p first m w none (accepted_is (block_verdict p first m) h) f g i j)
tables_closed p w none (first ∷ m ∷ x ∷ more) h f g i j = absurd h

block_closed : (b pairs block : List ℕ) → T (is_accepted (verdict_lent b pairs block)) → (header_of b).symmetries ≡ 0 → Closed (problem_with b block)
unfolding problem_of below up_from
block_closed b pairs block good none =
    tables_closed (problem_of b) (well_sheet b pairs block good) (ap (λ (k : ℕ). map (table_at b (header_of b)) (below k)) none ∙ no_tables) block (lent_passed b pairs block good).blocked
  where
    no_tables : map (table_at b (header_of b)) (below 0) ≡ []
    no_tables = refl

pub block_alone_closed : BlockAloneClosed
block_alone_closed b pairs block h = block_closed b pairs block (is_accepted_lem (verdict_lent b pairs block) h)

pub block_alone_one_each : BlockAloneOneEach
block_alone_one_each b pairs block limit out plans made none h = one_of_each_lent b pairs block limit out plans made
    (block_closed b pairs block (lent_good b pairs block limit out (finished plans made) h) none) h
