-- A run stopped after k of its trials (specs/Moments). Assumes nothing.
use Rattle.std.specs.Prelude.{Ok}
use Rattle.model.specs.Kit.{◌≡◌, refl, sym, ap, ◌∙◌, subst, subst₂, Bool, true, false, List, [], ◌∷◌, ◌++◌, ℕ, suc, ◌+◌, ◌*◌, ◌≤◌, arith, eqb, leb, length, take, length-append, eqb-true, eqb-false}
use Rattle.model.specs.{Lists.keep, Problem.Problem, Search.nodes, Search.is_plan, Run.Ending as Told, Run.spent, Run.full, Run.plans_in, Run.nodes_in, Run.Result, Run.search, Run.result_of}
use lib.Seq.{take-take}
use Rattle.model.proofs.Runs.{turn, search_turn, walk}
use Rattle.order.specs.{Reordered.reordered, RunBy.result_by, RunBy.place_counts, RunBy.leaders_by}
use Rattle.order.proofs.Demanded.{RanBy, ran_by}
use Rattle.run_input.specs.Lent.{problem_with, order_lent, lent_input}
use Rattle.run.specs.{Meaning.means}
use Rattle.run_state.specs.{Meaning.ending_of, declared.Ending.Ending}
use Rattle.promises.specs.{Demands.Demands, Demands.Tallied, Demands.TallyHeld, DemandsLent.of_lent, Moments.EachMoment}
use Rattle.promises.proofs.Demands.{demands_lent}

-- what is said of the two walks
abbrev Stopped : ℕ → Result → Result → Type 0
Stopped k r s = (nodes_in s.ending ≡ k) × (plans_in s.ending ≤ plans_in r.ending)

module _ (p : Problem) (limit k room : ℕ) where
  -- a walk lists no fewer rows than it came with
  keeps_rows : (l : ℕ) (ts : List (List ℕ)) (made : ℕ) (rows : List (List ℕ)) → length rows ≤ plans_in (search p l room ts made rows).ending
  keeps_rows l ts made rows =
      let w = walk p l room ts made rows in
      omega (arith, w.counted ∙ ap length w.listed ∙ length-append rows (keep (is_plan p) (take w.passed ts)))

  stopped : (ts : List (List ℕ)) (made : ℕ) (rows : List (List ℕ)) → made ≤ k → k ≤ nodes_in (search p limit room ts made rows).ending → Stopped k (search p limit room ts made rows)
      (search p k room ts made rows)
  unfolding search
  stopped [] made rows low high = (omega arith, omega arith)
  stopped (t ∷ ts) made rows low high =
      subst₂ (Stopped k) (sym (search_turn p limit room t ts made rows)) (sym (search_turn p k room t ts made rows))
      (go (eqb made k) refl (eqb made limit) refl (is_plan p t) (leb (suc (length rows) * p.variables) room)
      (subst (λ (r : Result). k ≤ nodes_in r.ending) (search_turn p limit room t ts made rows) high)
      (stopped ts (suc made) rows) (stopped ts (suc made) (rows ++ (t ∷ []))) (keeps_rows limit ts (suc made) rows) (keeps_rows limit ts (suc made) (rows ++ (t ∷ []))))
    where
      S : Result
      S = record { ending = spent (length rows) made; rows = rows }

      F : Result
      F = record { ending = full (length rows) (suc made); rows = rows }

      N : ℕ → Result
      N l = search p l room ts (suc made) rows

      Y : ℕ → Result
      Y l = search p l room ts (suc made) (rows ++ (t ∷ []))

      go : (b : Bool) → eqb made k ≡ b → (b' : Bool) → eqb made limit ≡ b' → (c d : Bool) → k ≤ nodes_in (turn b' c d S (N limit) F (Y limit)).ending →
          (suc made ≤ k → k ≤ nodes_in (N limit).ending → Stopped k (N limit) (N k)) → (suc made ≤ k → k ≤ nodes_in (Y limit).ending → Stopped k (Y limit) (Y k)) →
          length rows ≤ plans_in (N limit).ending → length (rows ++ (t ∷ [])) ≤ plans_in (Y limit).ending →
          Stopped k (turn b' c d S (N limit) F (Y limit)) (turn b c d S (N k) F (Y k))
      go true e true e' c d h n y i j = (eqb-true made k e, omega arith)
      go true e false e' false d h n y i j = (eqb-true made k e, i)
      go true e false e' true false h n y i j = (eqb-true made k e, omega arith)
      go true e false e' true true h n y i j = (eqb-true made k e, omega (arith, length-append rows (t ∷ [])))
      go false e true e' c d h n y i j = absurd (let f = eqb-false made k e in f (omega arith))
      go false e false e' false d h n y i j = let f = eqb-false made k e in n (past f) h
        where
          past : (made ≡ k → ⊥) → suc made ≤ k
          past f = omega arith
      go false e false e' true false h n y i j = (let f = eqb-false made k e in omega arith, omega arith)
      go false e false e' true true h n y i j = let f = eqb-false made k e in y (past f) h
        where
          past : (made ≡ k → ⊥) → suc made ≤ k
          past f = omega arith

  stopped_so : k ≤ nodes_in (result_of p limit room).ending → Stopped k (result_of p limit room) (result_of p k room)
  unfolding result_of
  stopped_so h = stopped (nodes p) 0 [] (omega arith) h

pub each_moment : EachMoment
unfolding result_by
each_moment b pairs block limit out tally e after tally' x k h out₂ tally₂ r₂ after₂ tally₂' y l = record {
  stops = (e₂.0, e₂.1, (made e₂.0 e₂.1).0);
  nodes = t.made ∙ n;
  counts = t.counts ∙ ap (place_counts (order_lent b pairs) (problem_with b block)) n;
  sum = t.sum ∙ n;
  unused = t.unused;
  plans = λ d q. (second.0.at_end d q).plans
      ∙ sym (take-take (plans_in (ending_of d)) (plans_in (ending_of e)) (leaders_by (order_lent b pairs) (problem_with b block)) (made d q).1)
      ∙ ap (take (plans_in (ending_of d))) (sym ((demands_lent b pairs block limit out tally (Ok e) after tally' x).0.at_end e refl).plans);
}
  where
    second : Demands (of_lent b pairs block) k out₂ r₂ after₂ × TallyHeld (of_lent b pairs block) tally₂ r₂ tally₂'
    second = demands_lent b pairs block k out₂ tally₂ r₂ after₂ tally₂' y

    q : Problem
    q = reordered (order_lent b pairs) (problem_with b block)

    ran : RanBy (lent_input b pairs block) limit out (ending_of e)
    ran = ran_by (lent_input b pairs block) limit out (ending_of e) (sym x.answers)

    e₂ : (d : Ending) × (r₂ ≡ Ok d)
    e₂ = second.0.ends ran.good

    -- the stopped run, beside the whole one
    made : (d : Ending) → r₂ ≡ Ok d → (nodes_in (ending_of d) ≡ k) × (plans_in (ending_of d) ≤ plans_in (ending_of e))
    made d w =
        let a = (ran_by (lent_input b pairs block) k out₂ (ending_of d) (sym y.answers ∙ ap means w)).so in
        let z = stopped_so q limit k (length out) (subst (λ (v : Told). k ≤ nodes_in v) (sym ran.so) h) in
        let u : (result_of q k (length out)).ending ≡ ending_of d = ap (λ (m : ℕ). (result_of q k m).ending) (sym l) ∙ a in
        (ap nodes_in (sym u) ∙ z.0, subst₂ (λ (v w : Told). plans_in v ≤ plans_in w) u ran.so z.1)

    n : nodes_in (ending_of e₂.0) ≡ k
    n = (made e₂.0 e₂.1).0

    t : Tallied (of_lent b pairs block) e₂.0 tally₂'
    t = second.1.tallied e₂.0 e₂.1
