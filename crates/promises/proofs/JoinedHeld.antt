-- What the holder of joined heads has (specs/JoinedClaims). Assumes nothing.
use Rattle.model.specs.Kit.{◌≡◌, refl, sym, ap, ap₂, ◌∙◌, subst, true, ◌↔◌, List, [], ◌∷◌, map, Memᴰ, Memᴰ-head, Memᴰ-tail, ℕ, ◌+◌, ◌*◌, ◌≤◌, ◌<◌, arith, T, length, replicate}
use Rattle.model.specs.Kit.{length-replicate}
use Rattle.model.specs.{Lists.at, Lists.total, Lists.rows_ascend, Problem.is_solution, Sheet.problem_of, Verdict.Verdict, Verdict.accepted, Run.finished, Run.ended, Run.Tally, Claims.Leader}
use Rattle.model.proofs.Room.{length_listed}
use Rattle.order.specs.Reordered.{read, earlier_by}
use Rattle.run_input.specs.Lent.{verdict_lent, problem_with, order_lent, problem_lent, answer_lent, list_lent, tally_lent}
use Rattle.run_input.proofs.Lent.{demanded_lent}
use Rattle.run_ranges.specs.{Ranges.plans_said, Ranges.nodes_said, Claims.Part, Claims.Chain, Claims.all_plans, Claims.sum_plans, Claims.sum_nodes, Claims.sum_counts, Claims.Together}
use Rattle.run_ranges.proofs.Joined.{joined_run}
use Rattle.run_join.specs.{Join.four_at, Join.heads_in, Join.join_verdict, Join.taken, Join.joined, Join.plans_of, Join.nodes_of, Join.count_of, Calls.figure_for, Calls.told_by}
use Rattle.run_join.specs.{declared.Missing.Missing}
use Rattle.std.specs.Prelude.{Option}
use Rattle.model.specs.Verdict.{answered}
use Rattle.promises.specs.JoinedHeads.{cut_twelve, taken_parts}
use Rattle.promises.specs.JoinedClaims.{TwelveNodes, TwelveValues, HeadSays, HeadsSay, RunHeld, DemandsHeld, JoinedHeldClaim}
use Rattle.promises.proofs.{JoinedTwelve.small_lent, JoinedTwelve.twelve_between, JoinedTwelve.call_twelve, JoinedHeads.own_head, JoinedHeads.length_bytes, JoinedHeads.heads_held}
use Rattle.promises.proofs.{JoinedTaken.taken_inside, JoinedTaken.taken_chain, JoinedStuck.said_joined, JoinedStuck.joined_stands}
use Rattle.model.specs.Claims as Reads

pub twelve_nodes : TwelveNodes
twelve_nodes b pairs block from upto so = twelve_between (problem_lent b pairs block) from upto (small_lent b pairs block so)

pub twelve_values : TwelveValues
twelve_values = call_twelve

pub head_says : HeadSays
head_says b pairs block c so call = (own_head b pairs block c call so, length_bytes b pairs block c call so)

pub heads_say : HeadsSay
heads_say = heads_held

-- sums over what is read and over the calls
same_total : (f : ℕ → ℕ) (g : Part → ℕ) (h : ℕ → Part) (ks : List ℕ) → ((k : ℕ) → Memᴰ k ks → f k ≡ g (h k)) → total (map f ks) ≡ total (map g (map h ks))
unfolding total
same_total f g h [] e = refl
same_total f g h (k ∷ ks) e = ap₂ (λ (x y : ℕ). x + y) (e k (Memᴰ-head refl)) (same_total f g h ks (λ j m. e j (Memᴰ-tail m)))

-- ---- demands 2 and 3 of parts one behind the other
module _ (b pairs block : List ℕ) (cs : List Part) (so : verdict_lent b pairs block ≡ accepted) (chain : Chain b pairs block [] cs (255 ∷ [])) where
  abbrev n : ℕ
  n = (problem_of b).variables

  abbrev room : List ℕ
  room = replicate (sum_plans cs * n) 0

  abbrev none : Tally
  none = record { nodes = 0; counts = [] }

  whole : Together n cs room (answer_lent b pairs block (sum_nodes cs) room) (list_lent b pairs block (sum_nodes cs) room) (tally_lent b pairs block (sum_nodes cs) room none)
  whole = joined_run b pairs block cs so chain (sum_nodes cs) room none (omega arith) (subst (λ (x : ℕ). sum_plans cs * n ≤ x) (sym (length-replicate (sum_plans cs * n) 0)) (omega arith))

  pub demands_held : DemandsHeld b pairs block (all_plans n cs) (sum_plans cs)
  demands_held =
      let p = problem_with b block in
      let order = order_lent b pairs in
      let d = demanded_lent b pairs block in
      let a = whole.finishes in
      let leaders = sym whole.plans ∙ d.lists_leaders (sum_nodes cs) room (sum_plans cs) (sum_nodes cs) a in
      let up = d.leaders_ascend so in
      record {
        many = ap length (sym whole.plans) ∙ length_listed n (sum_plans cs) (list_lent b pairs block (sum_nodes cs) room);
        leaders = λ s. subst (λ (rows : List (List ℕ)). Memᴰ s rows ↔ Leader (earlier_by order) p s) (sym leaders) (up.1 s);
        ascend = subst (λ (rows : List (List ℕ)). T (rows_ascend (map (read order) rows))) (sym leaders) up.0;
        chains = λ s l.
            subst (λ (rows : List (List ℕ)). T (is_solution p s) ↔ ∥ ((t : List ℕ) × Memᴰ t rows × Reads.Chain (earlier_by order) p t s) ∥₁) whole.plans
            (d.chains (sum_nodes cs) room (sum_plans cs) (sum_nodes cs) a s l);
        nothing = d.nothing_listed (sum_nodes cs) room (sum_plans cs) (sum_nodes cs) a;
      }

pub joined_held : JoinedHeldClaim
unfolding taken
joined_held b pairs block l part held j call is = record { chain = chain; run = run; demands = demands }
  where
    cs : List Part
    cs = taken_parts l part

    ok : (join_verdict l ≡ accepted) × (joined l ≡ true)
    ok = said_joined l (join_verdict l) (sym (ap (λ (k : Option Missing). answered (told_by k)) is) ∙ call.answers)

    chain : Chain b pairs block [] cs (255 ∷ [])
    chain = subst (Chain b pairs block [] cs) (joined_stands l ok.1) (taken_chain b pairs block l part held ok.0 (heads_in l) 0)

    inside : (k : ℕ) → Memᴰ k (taken l) → k < heads_in l
    inside k m = taken_inside l (heads_in l) 0 k m

    accept : (x : ℕ) → figure_for (join_verdict l) x ≡ x
    accept x = ap (λ (v : Verdict). figure_for v x) ok.0

    plans : j.plans ≡ sum_plans cs
    plans = call.plans ∙ accept (plans_of l) ∙ same_total (λ k. four_at l (115 * k + 4)) (λ c. plans_said c.answer) (λ k. cut_twelve (part k)) (taken l) (λ k m. (held.heads k (inside k m)).plans)

    nodes : j.nodes ≡ sum_nodes cs
    nodes = call.nodes ∙ accept (nodes_of l) ∙ same_total (λ k. four_at l (115 * k + 8)) (λ c. nodes_said c.answer) (λ k. cut_twelve (part k)) (taken l) (λ k m. (held.heads k (inside k m)).nodes)

    counts : (x : ℕ) → x < 12 → at j.counts x ≡ sum_counts x cs
    counts x h =
        call.counts x h ∙ accept (count_of l x)
        ∙ same_total (λ k. four_at l (115 * k + 12 + 4 * x)) (λ c. at c.tally.counts x) (λ k. cut_twelve (part k)) (taken l) (λ k m. (held.heads k (inside k m)).counts x h)

    demands : DemandsHeld b pairs block (all_plans (problem_of b).variables cs) j.plans
    demands = subst (DemandsHeld b pairs block (all_plans (problem_of b).variables cs)) (sym plans) (demands_held b pairs block cs held.lent chain)

    run : (limit : ℕ) (out : List ℕ) (tally : Tally) → j.nodes ≤ limit → j.plans * (problem_of b).variables ≤ length out → RunHeld b pairs block cs j limit out tally
    run limit out tally h i =
        let t = joined_run b pairs block cs held.lent chain limit out tally (subst (λ (x : ℕ). x ≤ limit) nodes h) (subst (λ (x : ℕ). x * (problem_of b).variables ≤ length out) plans i) in
        record {
          answer = t.finishes ∙ ap₂ (λ (x y : ℕ). ended (finished x y)) (sym plans) (sym nodes);
          list = t.wrote;
          nodes = t.nodes ∙ sym nodes;
          counts = λ x h. t.counts x ∙ sym (counts x h);
        }
