-- The second and the third demand of any run (specs/Inner/Demanded), and paper 01's run of a sheet. Assumes nothing.
use Rattle.model.specs.Kit.{◌≡◌, refl, sym, ap, ap₂, ◌∙◌, subst, subst₂, ◌↔◌, List, [], ◌∷◌, map, Memᴰ, ℕ, ◌*◌, ◌≤◌, arith, T, length, take, drop, length-take-le}
use Rattle.model.specs.Run.{Ending, finished, plans_in, nodes_in, result_of, Answer, refusal, ended, answered, answer_of, written, list_of, listed_plans, Tally, tally_at, tally_for, tally_of}
use Rattle.model.specs.{Lists.flat, Lists.below, Lists.earlier, Problem.Problem, Problem.is_solution, Problem.with_symmetries, Verdict.Verdict, Verdict.accepted, Verdict.refused, Verdict.is_accepted}
use Rattle.model.specs.{Verdict.reply, Verdict.kept, Sheet.verdict_of, Sheet.problem_of, Search.nodes, Inner.WellFormed.WellFormed, Inner.WellFormed.Respected, Claims.Chain}
use mathlib.Core.List.{Sublistᴰ}
use lib.Seq.{drop-append_seam}
use Rattle.model.proofs.{Demands.read_back, Demands.reply_so, Demands.of_accepted, More.FewerIn, OneMore.one_more, Room.length_flat, Tally.made_inside}
use Rattle.order.specs.RunBy.{Input, sheet_input, result_by, place_tally, leaders_by, answer_by, list_by, plans_by, tallied_by}
use Rattle.order.specs.{Order.Ordering, Reordered.write, Reordered.earlier_by, Reordered.reordered, Inner.Demanded.Tallied, Inner.Demanded.Demanded, Inner.Demanded.Fewer}
use Rattle.order.specs.Inner.Demanded.{DemandedSheet, FewerSheet, SheetRunClaim}
use Rattle.order.proofs.RunBy.{sublist_map, leaders_by_ascend, leaders_by_hold, chains_by, rows_sized_by, rows_counted_by, finished_lists, first_lists, none_lists, counts_by_lem, fewer_by}
use Rattle.order.proofs.RunBy.{same_result, same_leaders, same_counts, places_total, places_none, places_twelve}
use Rattle.order.proofs.{LeadersBy.ordering_below, LeadersBy.read_below, LeadersBy.reordered_below, SetsBy.largest_by}

-- what is known where the questions are passed
pub record Sound (i : Input) : Type 0 where
  pub well : WellFormed i.problem
  pub respected : Respected i.problem
  pub ordering : Ordering i.problem.variables i.order

-- an answer that ended: all questions are passed, and the run ended so and wrote its rows
pub record RanBy (i : Input) (limit : ℕ) (out : List ℕ) (e : Ending) : Type 0 where
  pub good : i.verdict ≡ accepted
  pub so : (result_by i.order i.problem limit (length out)).ending ≡ e
  pub wrote : list_by i limit out ≡ written (result_by i.order i.problem limit (length out)).rows out

pub ran_by : (i : Input) (limit : ℕ) (out : List ℕ) (e : Ending) → answer_by i limit out ≡ ended e → RanBy i limit out e
unfolding answer_by list_by
ran_by i limit out e h =
    let x = result_by i.order i.problem limit (length out) in
    let r = reply_so i.verdict x.ending e h in
    record { good = r.0; so = r.1; wrote = ap (λ (v : Verdict). kept v out (written x.rows out)) r.0 }

module _ (i : Input) (sound : i.verdict ≡ accepted → Sound i) where
  abbrev p : Problem
  p = i.problem

  abbrev order : List ℕ
  order = i.order

  -- ---- a run that ended
  module _ (limit : ℕ) (out : List ℕ) (e : Ending) (h : answer_by i limit out ≡ ended e) where
    ran : RanBy i limit out e
    ran = ran_by i limit out e h

    known : Sound i
    known = sound (ran_by i limit out e h).good

    pub counted : plans_in e ≡ length (result_by i.order i.problem limit (length out)).rows
    counted = sym (ap plans_in ran.so) ∙ rows_counted_by p known.well known.respected order known.ordering limit (length out)

    pub sized : (r : List ℕ) → Memᴰ r (result_by i.order i.problem limit (length out)).rows → length r ≡ i.problem.variables
    sized = rows_sized_by p known.well known.respected order known.ordering limit (length out)

    pub held : plans_by i limit out e ≡ (result_by i.order i.problem limit (length out)).rows
    held = ap (listed_plans p.variables (plans_in e)) ran.wrote ∙ read_back p.variables (result_by order p limit (length out)).rows out (plans_in e) counted sized

    rest_kept : drop (plans_in e * i.problem.variables) (list_by i limit out) ≡ drop (plans_in e * i.problem.variables) out
    unfolding written
    rest_kept =
        let rows = (result_by order p limit (length out)).rows in
        let k : plans_in e * p.variables ≡ length (flat rows) = ap (λ (j : ℕ). j * p.variables) counted ∙ sym (length_flat p.variables rows sized) in
        ap₂ drop k ran.wrote ∙ drop-append_seam (flat rows) (drop (length (flat rows)) out) ∙ ap (λ (j : ℕ). drop j out) (sym k)

    tallied : (tally : Tally) → Tallied i e (tallied_by i limit out tally)
    unfolding tallied_by result_by
    tallied tally = subst (Tallied i e) (sym (ap (λ (a : Answer). tally_for a (place_tally order p) tally) h)) record {
      made = refl;
      counts = refl;
      twelve = places_twelve p order (nodes_in e);
      sum = places_total p known.well order known.ordering (nodes_in e) ∙ length-take-le (nodes_in e) (nodes (reordered order p)) inside;
      unused = places_none p known.well order known.ordering (nodes_in e);
    }
      where
        inside : nodes_in e ≤ length (nodes (reordered i.order i.problem))
        inside = subst (λ (x : Ending). nodes_in x ≤ length (nodes (reordered order p))) ran.so (made_inside (reordered order p) limit (length out))

  -- ---- a finished run
  module _ (limit : ℕ) (out : List ℕ) (plans made : ℕ) (h : answer_by i limit out ≡ ended (finished plans made)) where
    abbrev e : Ending
    e = finished plans made

    all_leaders : (result_by i.order i.problem limit (length out)).rows ≡ leaders_by i.order i.problem
    all_leaders = let k = known limit out e h in finished_lists p k.well k.respected order k.ordering limit (length out) plans made (ran limit out e h).so

    lists : plans_by i limit out (finished plans made) ≡ leaders_by i.order i.problem
    lists = held limit out e h ∙ all_leaders

    chained : (s : List ℕ) → length s ≡ i.problem.variables →
        T (is_solution i.problem s) ↔ ∥ ((l : List ℕ) × Memᴰ l (plans_by i limit out (finished plans made)) × Chain (earlier_by i.order) i.problem l s) ∥₁
    chained s n =
        let k = known limit out e h in
        subst (λ (rows : List (List ℕ)). T (is_solution p s) ↔ ∥ ((l : List ℕ) × Memᴰ l rows × Chain (earlier_by order) p l s) ∥₁) (sym lists)
        (chains_by p k.well k.respected order k.ordering s n)

    none : (plans ≡ 0) ↔ ((s : List ℕ) → T (is_solution i.problem s) → ⊥)
    none =
        let k = known limit out e h in
        let q = none_lists p k.well k.respected order k.ordering in
        let l : plans ≡ length (leaders_by order p) = counted limit out e h ∙ ap length all_leaders in
        (λ z. q.0 (none_of (leaders_by order p) (sym l ∙ z)), λ n. l ∙ ap length (q.1 n))
      where
        none_of : (r : List (List ℕ)) → length r ≡ 0 → r ≡ []
        none_of [] z = refl
        none_of (x ∷ r) z = absurd (omega arith)

  refused_so : (number item : ℕ) → i.verdict ≡ refused number item → (limit : ℕ) (out : List ℕ) (tally : Tally) →
      (answer_by i limit out ≡ refusal number item) × (list_by i limit out ≡ out) × (tallied_by i limit out tally ≡ tally)
  unfolding answer_by list_by tallied_by
  refused_so number item v limit out tally =
      let x = result_by order p limit (length out) in
      let a = ap (λ (v : Verdict). reply v x.ending) v in
      (a, ap (λ (v : Verdict). kept v out (written x.rows out)) v, ap (λ (a : Answer). tally_for a (place_tally order p) tally) a)

  pub demanded : Demanded i
  unfolding answer_by
  demanded = record {
    refuses = refused_so;
    sets_largest = λ v prefix short. (let k = sound v in largest_by p order k.ordering k.well prefix short);
    leaders_ascend = λ v. (let k = sound v in (leaders_by_ascend p k.well k.respected order k.ordering, leaders_by_hold p k.well k.respected order k.ordering));
    lists_leaders = lists;
    first_part = λ limit out e h. (let k = known limit out e h in
        held limit out e h ∙ first_lists p k.well k.respected order k.ordering limit (length out) ∙ ap (λ (x : Ending). take (plans_in x) (leaders_by order p)) (ran limit out e h).so);
    rest = rest_kept;
    counts = λ limit out e h. (let k = known limit out e h in counts_by_lem p k.well k.respected order k.ordering limit (length out) e (ran limit out e h).so);
    tallied = λ limit out tally e h. tallied limit out e h tally;
    tally_sums = λ v k short. (let s = sound v in places_total p s.well order s.ordering k ∙ length-take-le k (nodes (reordered order p)) short);
    ends = λ v limit out. ((result_by order p limit (length out)).ending, ap (λ (v : Verdict). reply v (result_by order p limit (length out)).ending) v);
    chains = chained;
    nothing_listed = none;
  }

-- ---- further symmetries
-- j is given i's order, and i's problem with i's symmetries and others
pub record Further (i j : Input) : Type 0 where
  pub tables : List (List ℕ)
  pub own : (g : List ℕ) → Memᴰ g i.problem.symmetries → Memᴰ g tables
  pub problem : j.problem ≡ with_symmetries i.problem tables
  pub order : j.order ≡ i.order

pub fewer : (i j : Input) → (i.verdict ≡ accepted → Sound i) → (j.verdict ≡ accepted → Sound j) → (i.verdict ≡ accepted → Further i j) → Fewer i j
unfolding result_by
fewer i j sound sound' further = record {
  lists = λ limit out plans made h limit' out' plans' made' h'.
      let x = ran_by i limit out (finished plans made) h in
      let x' = ran_by j limit' out' (finished plans' made') h' in
      let f = (trees x.good limit (length out) plans made x.so).0 limit' (length out') plans' made' x'.so in (
        subst₂ (λ (l m : List (List ℕ)). Sublistᴰ l m)
            (ap (λ (o : List ℕ). map (write o) (result_of (reordered j.order j.problem) limit' (length out')).rows) (sym (further x.good).order)
            ∙ sym (held j sound' limit' out' (finished plans' made') h'))
            (sym (held i sound limit out (finished plans made) h))
            (sublist_map (write i.order) f.0),
        f.1,
      );
  finishes = λ limit out plans made h out' n e h'.
      let x = ran_by i limit out (finished plans made) h in
      let x' = ran_by j limit out' e h' in
      let f = (trees x.good limit (length out) plans made x.so).1 in
      (f.0, f.1, sym x'.so ∙ ap (λ (m : ℕ). (result_of (reordered j.order j.problem) limit m).ending) n ∙ f.2);
}
  where
    trees : i.verdict ≡ accepted → FewerIn (reordered i.order i.problem) (reordered j.order j.problem)
    trees v =
        let f = further v in
        subst₂ (λ (o : List ℕ) (q : Problem). FewerIn (reordered i.order i.problem) (reordered o q)) (sym f.order) (sym f.problem)
        (fewer_by i.problem i.order f.tables (sound v).well (sound v).ordering f.own)

-- ---- paper 01's run of a sheet
pub sound_sheet : (b : List ℕ) → verdict_of b ≡ accepted → Sound (sheet_input b)
sound_sheet b v = let q = of_accepted b v in record { well = q.well; respected = q.respected; ordering = ordering_below (problem_of b).variables }

pub demanded_sheet : DemandedSheet
demanded_sheet b = demanded (sheet_input b) (sound_sheet b)

pub fewer_sheet : FewerSheet
fewer_sheet b c t k more =
    fewer (sheet_input b) (sheet_input c) (sound_sheet b) (sound_sheet c)
    (λ v. let r = one_more b c t k more (subst (λ (v : Verdict). T (is_accepted v)) (sym v) tt) in
    record { tables = r.0; own = r.1; problem = r.2; order = ap (λ (q : Problem). below q.variables) r.2 })

module _ (b : List ℕ) (limit : ℕ) (out : List ℕ) (tally : Tally) where
  abbrev Same : Type 0
  Same = (answer_by (sheet_input b) limit out ≡ answer_of b limit out) × (list_by (sheet_input b) limit out ≡ list_of b limit out)
      × (tallied_by (sheet_input b) limit out tally ≡ tally_of b limit out tally)

  abbrev q : Problem
  q = problem_of b

  same_run : (v : Verdict) → verdict_of b ≡ v → Same
  unfolding answer_by list_by tallied_by answer_of list_of tally_of tally_at
  same_run accepted v =
      let w = (sound_sheet b v).well in
      let s = same_result q w limit (length out) in
      let a : reply (verdict_of b) (result_by (below q.variables) q limit (length out)).ending ≡ reply (verdict_of b) (result_of q limit (length out)).ending = ap (reply (verdict_of b)) s.0 in (
        a,
        ap (λ (rows : List (List ℕ)). kept (verdict_of b) out (written rows out)) s.1,
        ap (λ (x : Answer). tally_for x (place_tally (below q.variables) q) tally) a ∙ tallies w (reply (verdict_of b) (result_of q limit (length out)).ending),
      )
    where
      tallies : WellFormed (problem_of b) → (a : Answer) → tally_for a (place_tally (below (problem_of b).variables) (problem_of b)) tally ≡ tally_for a (tally_at (problem_of b)) tally
      tallies w (refusal number item) = refl
      tallies w (answered e) = ap (λ (cs : List ℕ). let t : Tally = record { nodes = nodes_in e; counts = cs } in t) (same_counts (problem_of b) w (nodes_in e))
  same_run (refused number item) v =
      let x = result_by (below q.variables) q limit (length out) in
      let y = result_of q limit (length out) in
      let a : reply (verdict_of b) x.ending ≡ reply (verdict_of b) y.ending = ap (λ (v : Verdict). reply v x.ending) v ∙ sym (ap (λ (v : Verdict). reply v y.ending) v) in (
        a,
        ap (λ (v : Verdict). kept v out (written x.rows out)) v ∙ sym (ap (λ (v : Verdict). kept v out (written y.rows out)) v),
        ap (λ (v : Verdict). tally_for (reply v x.ending) (place_tally (below q.variables) q) tally) v ∙ sym (ap (λ (v : Verdict). tally_for (reply v y.ending) (tally_at q) tally) v),
      )

abbrev any_tally : Tally
any_tally = record { nodes = 0; counts = [] }

pub sheet_run : SheetRunClaim
sheet_run b = record {
  answer = λ limit out. (same_run b limit out any_tally (verdict_of b) refl).0;
  list = λ limit out. (same_run b limit out any_tally (verdict_of b) refl).1;
  tally = λ limit out tally. (same_run b limit out tally (verdict_of b) refl).2;
  tree = λ v. reordered_below (problem_of b) (sound_sheet b v).well;
  leading = λ v. let s = sound_sheet b v in same_leaders (problem_of b) s.well s.respected;
  reads = λ s t n m. ap₂ earlier (read_below (problem_of b).variables s n) (read_below (problem_of b).variables t m);
}
