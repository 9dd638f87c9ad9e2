-- Parts of a run that are run apart hold together what the run holds (specs/Claims). Assumes nothing.
use Rattle.model.specs.Kit.{◌≡◌, refl, sym, ap, ap₂, ◌∙◌, subst, ◌⊎◌, inl, inr, List, [], ◌∷◌, ◌++◌, map, Memᴰ-of_map, ℕ, suc, ◌+◌, ◌*◌, ◌≤◌, mul-le-mul_right, arith, T, length, take, drop, replicate}
use Rattle.model.specs.Kit.{length-append, length-map, take-append-drop, take_all, length-take-le}
use Rattle.model.specs.Run.{Ending, finished, spent, full, plans_in, nodes_in, Result, search, result_of, Answer, refusal, answered, ended, written, Tally, tally_for, settled_by, counts_by}
use Rattle.model.specs.Run.{listed_plans}
use Rattle.model.specs.{Lists.keep, Lists.flat, Lists.at, Lists.total, Problem.Problem, Search.nodes, Search.is_plan, Verdict.Verdict, Verdict.accepted, Verdict.reply, Verdict.kept, Sheet.problem_of}
use lib.Seq.{take-append_seam, take-append-le}
use Rattle.model.proofs.{Lists.keep_append, Lists.map_append, Runs.Ended, Runs.Walk, Runs.walk, Demands.read_back, Accepted.is_accepted_lem}
use Rattle.order.specs.{Order.Ordering, Reordered.write, RunBy.result_by, RunBy.place_counts, RunBy.place_tally, RunBy.answer_by, RunBy.list_by, RunBy.tallied_by}
use Rattle.run_cut.specs.{Parts.after, Parts.last_of, Between.Cuts, Between.nodes_between}
use Rattle.run_cut.proofs.Counts.{counts_append, counts_none}
use Rattle.run_input.specs.Lent.{verdict_lent, problem_with, order_lent, problem_lent, answer_lent, list_lent, tally_lent}
use Rattle.run_input.proofs.Lent.{well_lent, ordering_lent}
use Rattle.run_ranges.specs.Ranges.{result_part, answer_part, list_part, plans_said, nodes_said, made_by, tally_part, last_part}
use Rattle.run_ranges.specs.Claims.{Part, CallRange, plans_held, RefusedPart, WholeRunClaim, Goes, reached_for, reached_by, Chain, all_plans, sum_plans, sum_nodes, sum_counts, Together, PartsJoin}
use Rattle.run_ranges.specs.Claims.{JoinedRun, OnePiece, Done, CutAt, CutsRun}
use Rattle.run_ranges.proofs.Between.{Before, before_of, join_nodes, none_between, whole_between, stop}
use Rattle.order.proofs.Reordered as O

-- ---- a walk along some nodes
module _ (p : Problem) (limit room : ℕ) (ts : List (List ℕ)) where
  abbrev r : Result
  r = search p limit room ts 0 []

  -- finished or spent: the nodes made are the first, and their plans are listed
  abbrev Passed : Ending → Type 0
  Passed e = (r.rows ≡ keep (is_plan p) (take (nodes_in e) ts)) × (plans_in e ≡ length (keep (is_plan p) (take (nodes_in e) ts))) × (nodes_in e ≤ length ts)

  passed_by : (e : Ending) → r.ending ≡ e → (k : ℕ) → (walk p limit room ts 0 []).passed ≡ k → nodes_in e ≡ k → k ≤ length ts → Passed e
  passed_by e q k h i l =
      let w = walk p limit room ts 0 [] in
      let rows : r.rows ≡ keep (is_plan p) (take (nodes_in e) ts) = w.listed ∙ ap (λ (j : ℕ). keep (is_plan p) (take j ts)) (h ∙ sym i) in
      (rows, sym (ap plans_in q) ∙ w.counted ∙ ap length rows, omega arith)

  pub finished_passed : (plans made : ℕ) → r.ending ≡ finished plans made → Passed (finished plans made) × (made ≡ length ts)
  finished_passed plans made e =
      let w = walk p limit room ts 0 [] in
      let q = subst (Ended p limit room ts 0 w.passed) e w.ended in
      (passed_by (finished plans made) e made (omega (arith, q.0, q.1)) refl (omega (arith, q.0, q.1)), omega (arith, q.0, q.1))

  pub spent_passed : (plans made : ℕ) → r.ending ≡ spent plans made → Passed (spent plans made)
  spent_passed plans made e =
      let w = walk p limit room ts 0 [] in
      let q = subst (Ended p limit room ts 0 w.passed) e w.ended in
      passed_by (spent plans made) e made (omega (arith, q.0, q.1)) refl (omega (arith, q.0, q.1))

  pub finishes : length ts ≤ limit → length (keep (is_plan p) ts) * p.variables ≤ room → r.ending ≡ finished (length (keep (is_plan p) ts)) (length ts)
  finishes h k = go r.ending refl
    where
      w : Walk p limit room ts 0 [] (search p limit room ts 0 [])
      w = walk p limit room ts 0 []

      go : (x : Ending) → r.ending ≡ x → x ≡ finished (length (keep (is_plan p) ts)) (length ts)
      go (finished plans made) e =
          let q = finished_passed plans made e in
          ap₂ finished (q.0.1 ∙ ap (λ (l : List (List ℕ)). length (keep (is_plan p) l)) (take_all made ts (omega (arith, q.1)))) q.1
      go (spent plans made) e = absurd (let q = subst (Ended p limit room ts 0 w.passed) e w.ended in omega (arith, q.0, q.1, q.2))
      go (full plans made) e =
          absurd (let q = subst (Ended p limit room ts 0 w.passed) e w.ended in
          let n = w.passed in
          let c : plans ≡ length (keep (is_plan p) (take n ts)) = sym (ap plans_in e) ∙ w.counted ∙ ap length w.listed in
          let a = ap (λ (l : List (List ℕ)). length (keep (is_plan p) l)) (sym (take-append-drop (suc n) ts)) ∙ ap length (keep_append (is_plan p) (take (suc n) ts) (drop (suc n) ts))
          ∙ length-append (keep (is_plan p) (take (suc n) ts)) (keep (is_plan p) (drop (suc n) ts)) in
          let m : suc plans * p.variables ≤ length (keep (is_plan p) ts) * p.variables = mul-le-mul_right p.variables (omega (arith, q.2)) in
          omega (arith, q.1))

module _ (b pairs block : List ℕ) (so : verdict_lent b pairs block ≡ accepted) where
  abbrev p : Problem
  p = problem_lent b pairs block

  abbrev n : ℕ
  n = (problem_of b).variables

  abbrev order : List ℕ
  order = order_lent b pairs

  abbrev place : List ℕ → ℕ
  place t = at order (settled_by t)

  o : Ordering (problem_of b).variables (order_lent b pairs)
  o = ordering_lent b pairs block (is_accepted_lem (verdict_lent b pairs block) so)

  small : (problem_of b).variables ≤ 12
  small = (well_lent b pairs block (is_accepted_lem (verdict_lent b pairs block) so)).few

  -- ---- one call of an accepted lending
  abbrev walked : Part → Result
  walked c = search p c.limit (length c.out) (nodes_between p c.from c.upto) 0 []

  told : (c : Part) → CallRange b pairs block c → c.answer ≡ ended (walked c).ending
  unfolding answer_part result_part
  told c h = h.answers ∙ ap (λ (v : Verdict). reply v (walked c).ending) so

  wrote : (c : Part) → CallRange b pairs block c → c.list ≡ written (map (write order) (walked c).rows) c.out
  unfolding list_part result_part
  wrote c h = h.leaves ∙ ap (λ (v : Verdict). kept v c.out (written (map (write order) (walked c).rows) c.out)) so

  tallied : (c : Part) → CallRange b pairs block c → (c.tally.nodes ≡ nodes_said c.answer) × (c.tally.counts ≡ counts_by place (take (nodes_said c.answer) (nodes_between p c.from c.upto)))
  unfolding tally_part
  tallied c h = (
    ap (λ (t : Tally). t.nodes) h.counts ∙ ap nodes_said (sym h.answers),
    ap (λ (t : Tally). t.counts) h.counts ∙ ap (λ (a : Answer). counts_by place (made_by a b pairs block c.from c.upto)) (sym h.answers),
  )

  stands : (c : Part) → CallRange b pairs block c → c.last ≡ last_of (take 12 c.from) (take (nodes_said c.answer) (nodes_between p c.from c.upto))
  unfolding last_part
  stands c h = h.stands ∙ ap (λ (a : Answer). last_of (take 12 c.from) (made_by a b pairs block c.from c.upto)) (sym h.answers)

  -- rows of n bytes are read back
  rows_back : (rows : List (List ℕ)) (out : List ℕ) (k : ℕ) → k ≡ length rows → listed_plans n k (written (map (write order) rows) out) ≡ map (write order) rows
  rows_back rows out k e =
      read_back n (map (write order) rows) out k (e ∙ sym (length-map rows (write order)))
      (λ r m. let q = Memᴰ-of_map (write order) rows m in ap length (sym q.2) ∙ O.write_length (problem_with b block) order o q.0)

  -- what a caller holds of some nodes that are all made
  pub record PartHolds (ts : List (List ℕ)) (plans : List (List ℕ)) (number made : ℕ) (counts : ℕ → ℕ) : Type 0 where
    pub listed : plans ≡ map (write (order_lent b pairs)) (keep (is_plan (problem_lent b pairs block)) ts)
    pub many : number ≡ length (keep (is_plan (problem_lent b pairs block)) ts)
    pub nodes : made ≡ length ts
    pub settled : (x : ℕ) → counts x ≡ at (counts_by (λ t. at (order_lent b pairs) (settled_by t)) ts) x

  abbrev held : Part → List (List ℕ) → Type 0
  held c ts = PartHolds ts (plans_held n c) (plans_said c.answer) (nodes_said c.answer) (λ x. at c.tally.counts x)

  held_by : (c : Part) (ts : List (List ℕ)) (e : Ending) → CallRange b pairs block c → c.answer ≡ ended e → Passed p c.limit (length c.out) (nodes_between p c.from c.upto) e →
      ts ≡ take (nodes_in e) (nodes_between p c.from c.upto) → held c ts
  held_by c ts e h a q i =
      let l : nodes_in e ≤ length (nodes_between p c.from c.upto) = q.2 in
      let rows : (walked c).rows ≡ keep (is_plan p) ts = q.0 ∙ ap (keep (is_plan p)) (sym i) in
      let k : plans_in e ≡ length (keep (is_plan p) ts) = q.1 ∙ ap (λ (x : List (List ℕ)). length (keep (is_plan p) x)) (sym i) in
      record {
        listed = ap₂ (λ (x : Answer) (y : List ℕ). listed_plans n (plans_said x) y) a (wrote c h) ∙ rows_back (walked c).rows c.out (plans_in e) (k ∙ ap length (sym rows)) ∙ ap
            (map (write order)) rows;
        many = ap plans_said a ∙ k;
        nodes = ap nodes_said a ∙ sym (length-take-le (nodes_in e) (nodes_between p c.from c.upto) l) ∙ ap length (sym i);
        settled = λ x. ap (λ (cs : List ℕ). at cs x) ((tallied c h).1 ∙ ap (λ (y : Answer). counts_by place (take (nodes_said y) (nodes_between p c.from c.upto))) a ∙ ap (counts_by place) (sym i));
      }

  -- a part that went on to its end or to its last node holds the nodes up to there
  piece : (c : Part) → CallRange b pairs block c → Goes c.answer → (T (after c.upto c.from) → ⊥) → Before p c.from (reached_by c) × held c (nodes_between p c.from (reached_by c))
  piece c h g f = go (walked c).ending refl
    where
      ts : List (List ℕ)
      ts = nodes_between p c.from c.upto

      forth : Before p c.from c.upto
      forth = before_of p c.from c.upto f

      go : (e : Ending) → (walked c).ending ≡ e → Before p c.from (reached_by c) × held c (nodes_between p c.from (reached_by c))
      go (finished plans made) e =
          let a : c.answer ≡ ended (finished plans made) = told c h ∙ ap ended e in
          let q = finished_passed p c.limit (length c.out) ts plans made e in
          let z : c.upto ≡ reached_by c = sym (ap (λ (x : Answer). reached_for x c.upto c.last) a) in
          subst (λ (u : List ℕ). Before p c.from u × held c (nodes_between p c.from u)) z
          (forth, held_by c ts (finished plans made) h a q.0 (sym (take_all made ts (omega (arith, q.1)))))
      go (spent plans made) e =
          let a : c.answer ≡ ended (spent plans made) = told c h ∙ ap ended e in
          let q = spent_passed p c.limit (length c.out) ts plans made e in
          let s = stop p c.from c.upto made forth small in
          let z : last_of (take 12 c.from) (take made ts) ≡ reached_by c =
          sym (ap (λ (x : Answer). reached_for x c.upto c.last) a ∙ stands c h ∙ ap (λ (x : Answer). last_of (take 12 c.from) (take (nodes_said x) ts)) a) in
          subst (λ (u : List ℕ). Before p c.from u × held c (nodes_between p c.from u)) z
          (s.onward, held_by c (nodes_between p c.from (last_of (take 12 c.from) (take made ts))) (spent plans made) h a q s.done)
      go (full plans made) e = absurd (subst Goes (told c h ∙ ap ended e) g)

  -- ---- parts one behind the other
  abbrev held_byClaim : List Part → List (List ℕ) → Type 0
  held_byClaim cs ts = PartHolds ts (all_plans n cs) (sum_plans cs) (sum_nodes cs) (λ x. sum_counts x cs)

  holds_nothing : held_byClaim [] []
  unfolding flat total keep
  holds_nothing = record { listed = refl; many = refl; nodes = refl; settled = λ x. sym (none x) }
    where
      none : (x : ℕ) → at (counts_by place []) x ≡ 0
      none x = let e = counts_append place [] [] x in omega arith

  holds_more : (c : Part) (cs : List Part) (ts us : List (List ℕ)) → held c ts → held_byClaim cs us → held_byClaim (c ∷ cs) (ts ++ us)
  unfolding flat total
  holds_more c cs ts us h k = record {
    listed = ap₂ (λ (x y : List (List ℕ)). x ++ y) h.listed k.listed ∙ sym (map_append (write order) (keep (is_plan p) ts) (keep (is_plan p) us)) ∙ ap (map (write order))
        (sym (keep_append (is_plan p) ts us));
    many = ap₂ (λ (x y : ℕ). x + y) h.many k.many ∙ sym (length-append (keep (is_plan p) ts) (keep (is_plan p) us)) ∙ ap length (sym (keep_append (is_plan p) ts us));
    nodes = ap₂ (λ (x y : ℕ). x + y) h.nodes k.nodes ∙ sym (length-append ts us);
    settled = λ x. ap₂ (λ (i j : ℕ). i + j) (h.settled x) (k.settled x) ∙ sym (counts_append place ts us x);
  }

  pub chained : (from upto : List ℕ) (cs : List Part) → Chain b pairs block from cs upto → Before p from upto × held_byClaim cs (nodes_between p from upto)
  chained from upto [] c =
      subst (λ (u : List ℕ). Before p from u × held_byClaim [] (nodes_between p from u)) c
      (λ t m u. u, subst (held_byClaim []) (sym (none_between p from)) holds_nothing)
  chained from upto (c ∷ cs) (e, f, h, g, rest) =
      let a = piece c h g f in
      let k = chained (reached_by c) upto cs rest in
      subst (λ (u : List ℕ). Before p u upto × held_byClaim (c ∷ cs) (nodes_between p u upto)) e (
        λ t m u. a.0 t m (k.0 t m u),
        subst (held_byClaim (c ∷ cs)) (sym (join_nodes p c.from (reached_by c) upto a.0 k.0))
            (holds_more c cs (nodes_between p c.from (reached_by c)) (nodes_between p (reached_by c) upto) a.1 k.1),
      )

  -- a walk along all of them, with limit and room enough
  pub together : (cs : List Part) (ts : List (List ℕ)) → held_byClaim cs ts → (limit : ℕ) (out : List ℕ) → sum_nodes cs ≤ limit → sum_plans cs * n ≤ length out →
      (a : Answer) → a ≡ ended (search p limit (length out) ts 0 []).ending → (list : List ℕ) → list ≡ written (map (write order) (search p limit (length out) ts 0 []).rows) out →
      (tally : Tally) → (tally.nodes ≡ nodes_said a) × (tally.counts ≡ counts_by place (take (nodes_said a) ts)) → Together n cs out a list tally
  together cs ts h limit out l m a answer list leaves tally counts =
      let r = search p limit (length out) ts 0 [] in
      let e = finishes p limit (length out) ts (subst (λ (x : ℕ). x ≤ limit) h.nodes l) (subst (λ (x : ℕ). x * n ≤ length out) h.many m) in
      let q = finished_passed p limit (length out) ts (length (keep (is_plan p) ts)) (length ts) e in
      let all : take (length ts) ts ≡ ts = take_all (length ts) ts (omega arith) in
      let rows : r.rows ≡ keep (is_plan p) ts = q.0.0 ∙ ap (keep (is_plan p)) all in
      let wrote : list ≡ written (all_plans n cs) out = leaves ∙ ap (λ (x : List (List ℕ)). written x out) (ap (map (write order)) rows ∙ sym h.listed) in
      let ans : a ≡ ended (finished (sum_plans cs) (sum_nodes cs)) = answer ∙ ap ended (e ∙ ap₂ finished (sym h.many) (sym h.nodes)) in
      record {
        finishes = ans;
        plans = ap (listed_plans n (sum_plans cs)) leaves ∙ rows_back r.rows out (sum_plans cs) (h.many ∙ ap length (sym rows)) ∙ ap (map (write order)) rows ∙ sym h.listed;
        wrote = wrote;
        nodes = counts.0 ∙ ap nodes_said ans;
        counts = λ x. ap (λ (y : List ℕ). at y x) (counts.1 ∙ ap (λ (y : Answer). counts_by place (take (nodes_said y) ts)) ans ∙ ap (λ (j : ℕ). counts_by place (take j ts)) h.nodes ∙ ap
            (counts_by place) all) ∙ sym (h.settled x);
      }

-- an ending with the sums
ended_so : (b pairs block : List ℕ) (so : verdict_lent b pairs block ≡ accepted) (cs : List Part) (xs : List (List ℕ)) → held_byClaim b pairs block so cs xs → (a : Answer) (x : Ending) → a ≡ ended x →
    (x ≡ finished (length (keep (is_plan (problem_lent b pairs block)) xs)) (length xs)) ⊎ (x ≡ spent (length (keep (is_plan (problem_lent b pairs block)) xs)) (length xs)) →
    (a ≡ ended (finished (sum_plans cs) (sum_nodes cs))) ⊎ (a ≡ ended (spent (sum_plans cs) (sum_nodes cs)))
ended_so b pairs block so cs xs h a x e (inl q) = inl (e ∙ ap ended (q ∙ ap₂ finished (sym h.many) (sym h.nodes)))
ended_so b pairs block so cs xs h a x e (inr q) = inr (e ∙ ap ended (q ∙ ap₂ spent (sym h.many) (sym h.nodes)))

nodes_of : (a : Answer) (plans made : ℕ) → (a ≡ ended (finished plans made)) ⊎ (a ≡ ended (spent plans made)) → nodes_said a ≡ made
nodes_of a plans made (inl e) = ap nodes_said e
nodes_of a plans made (inr e) = ap nodes_said e

pub parts_join : PartsJoin
parts_join b pairs block from upto cs so chain c call e f l m =
    let k = chained b pairs block so from upto cs chain in
    let ts = nodes_between (problem_lent b pairs block) c.from c.upto in
    let h = subst (λ (x : List ℕ). held_byClaim b pairs block so cs (nodes_between (problem_lent b pairs block) x c.upto)) (sym e)
    (subst (λ (x : List ℕ). held_byClaim b pairs block so cs (nodes_between (problem_lent b pairs block) from x)) (sym f) k.1) in
    together b pairs block so cs ts h c.limit c.out l m c.answer (told b pairs block so c call) c.list (wrote b pairs block so c call) c.tally (tallied b pairs block so c call)

-- ---- the whole tree
module _ (b pairs block : List ℕ) (limit : ℕ) (out : List ℕ) where
  same_answer : answer_part b pairs block [] (255 ∷ []) limit out ≡ answer_lent b pairs block limit out
  unfolding answer_part result_part answer_by result_by result_of
  same_answer = ap (λ (ts : List (List ℕ)). reply (verdict_lent b pairs block) (search (problem_lent b pairs block) limit (length out) ts 0 []).ending) (whole_between (problem_lent b pairs block))

  same_list : list_part b pairs block [] (255 ∷ []) limit out ≡ list_lent b pairs block limit out
  unfolding list_part result_part list_by result_by result_of
  same_list = ap (λ (ts : List (List ℕ)). kept (verdict_lent b pairs block) out (written (map (write (order_lent b pairs)) (search (problem_lent b pairs block) limit (length out) ts 0 []).rows)
      out)) (whole_between (problem_lent b pairs block))

  same_tally : tally_part b pairs block [] (255 ∷ []) limit out ≡ tally_lent b pairs block limit out record { nodes = 0; counts = replicate 12 0 }
  unfolding tally_part tallied_by place_counts
  same_tally = ap (λ (a : Answer). tally_of a) same_answer ∙ go (answer_lent b pairs block limit out)
    where
      tally_of : Answer → Tally
      tally_of a = record { nodes = nodes_said a; counts = counts_by (λ t. at (order_lent b pairs) (settled_by t)) (made_by a b pairs block [] (255 ∷ [])) }

      go : (a : Answer) → tally_of a ≡ tally_for a (place_tally (order_lent b pairs) (problem_with b block)) record { nodes = 0; counts = replicate 12 0 }
      go (refusal number item) = ap (λ (cs : List ℕ). let t : Tally = record { nodes = 0; counts = cs } in t) (counts_none (λ (t : List ℕ). at (order_lent b pairs) (settled_by t)))
      go (answered e) = ap (λ (ts : List (List ℕ)). let t : Tally = record { nodes = nodes_in e; counts = counts_by (λ t. at (order_lent b pairs) (settled_by t)) (take (nodes_in e) ts) } in t)
          (whole_between (problem_lent b pairs block))

pub whole_run : WholeRunClaim
whole_run b pairs block limit out = record { answer = same_answer b pairs block limit out; list = same_list b pairs block limit out; tally = same_tally b pairs block limit out }

pub refused_part : RefusedPart
unfolding answer_part list_part tally_part
refused_part b pairs block c h number item v =
    let r = result_part b pairs block c.from c.upto c.limit (length c.out) in
    let a = ap (λ (x : Verdict). reply x r.ending) v in (
      h.answers ∙ a,
      h.leaves ∙ ap (λ (x : Verdict). kept x c.out (written r.rows c.out)) v,
      h.counts ∙ ap (λ (x : Answer). let t : Tally = record { nodes = nodes_said x; counts = counts_by (λ t. at (order_lent b pairs) (settled_by t)) (made_by x b pairs block c.from c.upto) } in t) a
          ∙ ap (λ (cs : List ℕ). let t : Tally = record { nodes = 0; counts = cs } in t) (counts_none (λ (t : List ℕ). at (order_lent b pairs) (settled_by t))),
    )

pub joined_run : JoinedRun
unfolding answer_by list_by tallied_by place_counts result_by result_of
joined_run b pairs block cs so chain limit out tally l m =
    let p = problem_lent b pairs block in
    let order = order_lent b pairs in
    let k = subst (held_byClaim b pairs block so cs) (whole_between p) (chained b pairs block so [] (255 ∷ []) cs chain).1 in
    let r = search p limit (length out) (nodes p) 0 [] in
    let a : answer_lent b pairs block limit out ≡ ended r.ending = ap (λ (v : Verdict). reply v r.ending) so in
    let made = place_tally order (problem_with b block) in
    together b pairs block so cs (nodes p) k limit out l m (answer_lent b pairs block limit out) a (list_lent b pairs block limit out)
    (ap (λ (v : Verdict). kept v out (written (map (write order) r.rows) out)) so)
    (tally_lent b pairs block limit out tally) (
      ap (λ (x : Answer). (tally_for x made tally).nodes) a ∙ sym (ap nodes_said a),
      ap (λ (x : Answer). (tally_for x made tally).counts) a ∙ ap (λ (x : Answer). counts_by (λ t. at order (settled_by t)) (take (nodes_said x) (nodes p))) (sym a),
    )

-- ---- in one piece
-- a walk along xs ++ ys that may make as many nodes as xs has, with room for its plans
module _ (p : Problem) (limit room : ℕ) (xs ys : List (List ℕ)) (so : limit ≡ length xs) (roomy : length (keep (is_plan p) xs) * p.variables ≤ room) where
  abbrev out : Result
  out = search p limit room (xs ++ ys) 0 []

  first : (k : ℕ) → k ≡ length xs → take k (xs ++ ys) ≡ xs
  first k e = ap (λ (j : ℕ). take j (xs ++ ys)) e ∙ take-append_seam xs ys

  fewer : (k : ℕ) → k ≤ length xs → length (keep (is_plan p) (take k (xs ++ ys))) ≤ length (keep (is_plan p) xs)
  fewer k l =
      let e : keep (is_plan p) xs ≡ keep (is_plan p) (take k xs) ++ keep (is_plan p) (drop k xs) = ap (keep (is_plan p)) (sym (take-append-drop k xs))
      ∙ keep_append (is_plan p) (take k xs) (drop k xs) in
      let n = ap length e ∙ length-append (keep (is_plan p) (take k xs)) (keep (is_plan p) (drop k xs)) in
      let t : length (keep (is_plan p) (take k (xs ++ ys))) ≡ length (keep (is_plan p) (take k xs)) = ap (λ (l : List (List ℕ)). length (keep (is_plan p) l)) (take-append-le k xs ys l) in
      omega arith

  pub one_walk : ((out.ending ≡ finished (length (keep (is_plan p) xs)) (length xs)) ⊎ (out.ending ≡ spent (length (keep (is_plan p) xs)) (length xs))) × (out.rows ≡ keep (is_plan p) xs)
  one_walk = go out.ending refl
    where
      w : Walk p limit room (xs ++ ys) 0 [] (search p limit room (xs ++ ys) 0 [])
      w = walk p limit room (xs ++ ys) 0 []

      go : (x : Ending) → out.ending ≡ x → ((out.ending ≡ finished (length (keep (is_plan p) xs)) (length xs)) ⊎ (out.ending ≡ spent (length (keep (is_plan p) xs)) (length xs))) ×
          (out.rows ≡ keep (is_plan p) xs)
      go (finished plans made) e =
          let q = finished_passed p limit room (xs ++ ys) plans made e in
          let a = subst (λ (x : Ending). nodes_in x ≤ limit) e (w.allowed (omega arith)) in
          let n = length-append xs ys in
          let m : made ≡ length xs = omega (arith, q.1) in
          let f = first made m in
          (inl (e ∙ ap₂ finished (q.0.1 ∙ ap (λ (l : List (List ℕ)). length (keep (is_plan p) l)) f) m), q.0.0 ∙ ap (keep (is_plan p)) f)
      go (spent plans made) e =
          let q = spent_passed p limit room (xs ++ ys) plans made e in
          let u = subst (Ended p limit room (xs ++ ys) 0 w.passed) e w.ended in
          let m : made ≡ length xs = omega (arith, u.2) in
          let f = first made m in
          (inr (e ∙ ap₂ spent (q.1 ∙ ap (λ (l : List (List ℕ)). length (keep (is_plan p) l)) f) m), q.0 ∙ ap (keep (is_plan p)) f)
      go (full plans made) e =
          absurd (let u = subst (Ended p limit room (xs ++ ys) 0 w.passed) e w.ended in
          let k = w.passed in
          let a = subst (λ (x : Ending). nodes_in x ≤ limit) e (w.allowed (omega arith)) in
          let c : plans ≡ length (keep (is_plan p) (take k (xs ++ ys))) = sym (ap plans_in e) ∙ w.counted ∙ ap length w.listed in
          let i = fewer (suc k) (omega (arith, u.0)) in
          let m : suc plans * p.variables ≤ length (keep (is_plan p) xs) * p.variables = mul-le-mul_right p.variables (omega (arith, u.2)) in
          omega (arith, u.1))

pub one_piece : OnePiece
one_piece b pairs block from came upto cs so chain f c call e g l m =
    let p = problem_lent b pairs block in
    let n = (problem_of b).variables in
    let order = order_lent b pairs in
    let k = chained b pairs block so from came cs chain in
    let xs = nodes_between p from came in
    let ys = nodes_between p came upto in
    let join : nodes_between p c.from c.upto ≡ xs ++ ys = ap₂ (nodes_between p) e g ∙ join_nodes p from came upto k.0 (before_of p came upto f) in
    let z : search p c.limit (length c.out) (nodes_between p c.from c.upto) 0 [] ≡ search p c.limit (length c.out) (xs ++ ys) 0 [] = ap
    (λ (ts : List (List ℕ)). search p c.limit (length c.out) ts 0 []) join in
    let o = one_walk p c.limit (length c.out) xs ys (l ∙ k.1.nodes) (subst (λ (j : ℕ). j * n ≤ length c.out) k.1.many m) in
    let a : c.answer ≡ ended (search p c.limit (length c.out) (xs ++ ys) 0 []).ending = told b pairs block so c call ∙ ap (λ (r : Result). ended r.ending) z in
    let ends = ended_so b pairs block so cs xs k.1 c.answer (search p c.limit (length c.out) (xs ++ ys) 0 []).ending a o.0 in
    let made : nodes_said c.answer ≡ sum_nodes cs = nodes_of c.answer (sum_plans cs) (sum_nodes cs) ends in
    let t = tallied b pairs block so c call in
    record {
      ends = ends;
      wrote = wrote b pairs block so c call ∙ ap (λ (rows : List (List ℕ)). written rows c.out)
          (ap (λ (r : Result). map (write order) r.rows) z ∙ ap (map (write order)) o.1 ∙ sym k.1.listed);
      nodes = t.0 ∙ made;
      counts = λ x. ap (λ (y : List ℕ). at y x) (t.1 ∙ ap₂ (λ (j : ℕ) (ts : List (List ℕ)). counts_by (λ u. at order (settled_by u)) (take j ts)) (made ∙ k.1.nodes) join ∙ ap
          (counts_by (λ u. at order (settled_by u))) (take-append_seam xs ys)) ∙ sym (k.1.settled x);
    }

-- ---- cuts in order
pub done_goes : (a : Answer) → Done a → Goes a
done_goes (answered (finished plans made)) h = tt
done_goes (answered (spent plans made)) h = absurd h
done_goes (answered (full plans made)) h = absurd h
done_goes (refusal number item) h = absurd h

done_reached : (a : Answer) → Done a → (upto last : List ℕ) → reached_for a upto last ≡ upto
done_reached (answered (finished plans made)) h upto last = refl
done_reached (answered (spent plans made)) h upto last = absurd h
done_reached (answered (full plans made)) h upto last = absurd h
done_reached (refusal number item) h upto last = absurd h

cuts_chain : (b pairs block from : List ℕ) (cuts : List (List ℕ)) (cs : List Part) → Cuts from cuts → CutAt b pairs block from cuts cs → Chain b pairs block from cs (last_of from cuts)
unfolding last_of
cuts_chain b pairs block from [] [] c h = refl
cuts_chain b pairs block from [] (c ∷ cs) o h = absurd h
cuts_chain b pairs block from (cut ∷ cuts) [] o h = absurd h
cuts_chain b pairs block from (cut ∷ cuts) (c ∷ cs) o (e, f, call, d, rest) = (
  e,
  λ t. o.0 (subst (λ (x : List ℕ). T (after x from)) f (subst (λ (x : List ℕ). T (after c.upto x)) e t)),
  call,
  done_goes c.answer d,
  subst (λ (x : List ℕ). Chain b pairs block x cs (last_of cut cuts)) (sym (done_reached c.answer d c.upto c.last ∙ f)) (cuts_chain b pairs block cut cuts cs o.1 rest),
)

pub cuts_run : CutsRun
cuts_run b pairs block cuts cs so o e h = joined_run b pairs block cs so (subst (Chain b pairs block [] cs) e (cuts_chain b pairs block [] cuts cs o h))
