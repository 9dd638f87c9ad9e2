-- Twelve values of a path are enough: a call is a call with its paths cut to twelve values. Assumes nothing.
use Rattle.model.specs.Kit.{◌≡◌, sym, ap, ap₂, ◌∙◌, Bool, not, List, [], map, ℕ, ◌≤◌, arith, length, take, length-take, take_all}
use Rattle.model.specs.Run.{search, Answer, written, Tally, settled_by, counts_by}
use Rattle.model.specs.{Lists.both, Lists.at, Problem.Problem, Search.nodes, Verdict.accepted, Verdict.reply, Verdict.kept, Sheet.problem_of}
use Rattle.model.proofs.{Lists.keep_ext, Accepted.is_accepted_lem}
use Rattle.order.specs.Reordered.{write}
use Rattle.run_cut.specs.{Between.nodes_between, Parts.last_of}
use Rattle.run_input.specs.Lent.{verdict_lent, order_lent, problem_lent}
use Rattle.run_input.proofs.Lent.{well_lent}
use Rattle.run_ranges.specs.{Ranges.part_nodes, Ranges.result_part, Ranges.answer_part, Ranges.list_part, Ranges.nodes_said, Ranges.tally_part, Ranges.last_part, Claims.Part, Claims.CallRange}
use Rattle.run_cut.proofs.Resume.{node_values}
use Rattle.run_ranges.proofs.Between.{between, after_short}
use Rattle.promises.specs.JoinedHeads.{cut_twelve}

pub twelve_again : (l : List ℕ) → take 12 (take 12 l) ≡ take 12 l
twelve_again l = take_all 12 (take 12 l) (let n = length-take 12 l in omega arith)

pub twelve_between : (p : Problem) (from upto : List ℕ) → p.variables ≤ 12 → nodes_between p from upto ≡ nodes_between p (take 12 from) (take 12 upto)
unfolding nodes_between
twelve_between p from upto h = keep_ext (between from upto) (between (take 12 from) (take 12 upto)) (nodes p) (λ t m.
    let n = (node_values p t m).1 in
    sym (ap₂ (λ (x y : Bool). both x (not y)) (after_short 12 from t (omega arith)) (after_short 12 upto t (omega arith))))

-- the definitions of a part, by its nodes
module _ (b pairs block from upto from' upto' : List ℕ) (limit : ℕ) (out : List ℕ) (q : part_nodes b pairs block from upto ≡ part_nodes b pairs block from' upto') where
  same_answer : answer_part b pairs block from upto limit out ≡ answer_part b pairs block from' upto' limit out
  unfolding answer_part result_part
  same_answer = ap (λ (ts : List (List ℕ)). reply (verdict_lent b pairs block) (search (problem_lent b pairs block) limit (length out) ts 0 []).ending) q

  same_list : list_part b pairs block from upto limit out ≡ list_part b pairs block from' upto' limit out
  unfolding list_part result_part
  same_list = ap (λ (ts : List (List ℕ)). kept (verdict_lent b pairs block) out (written (map (write (order_lent b pairs)) (search (problem_lent b pairs block) limit (length out) ts 0 []).rows) out))
      q

  same_tally : tally_part b pairs block from upto limit out ≡ tally_part b pairs block from' upto' limit out
  unfolding tally_part
  same_tally =
      let place : List ℕ → ℕ = λ t. at (order_lent b pairs) (settled_by t) in
      ap₂ (λ (a : Answer) (ts : List (List ℕ)). let t : Tally = record { nodes = nodes_said a; counts = counts_by place (take (nodes_said a) ts) } in t) same_answer q

  same_last : take 12 from ≡ take 12 from' → last_part b pairs block from upto limit out ≡ last_part b pairs block from' upto' limit out
  unfolding last_part
  same_last e =
      ap₂ (λ (a : Answer) (ts : List (List ℕ)). last_of (take 12 from) (take (nodes_said a) ts)) same_answer q
      ∙ ap (λ (l : List ℕ). last_of l (take (nodes_said (answer_part b pairs block from' upto' limit out)) (part_nodes b pairs block from' upto'))) e

pub small_lent : (b pairs block : List ℕ) → verdict_lent b pairs block ≡ accepted → (problem_of b).variables ≤ 12
small_lent b pairs block so = (well_lent b pairs block (is_accepted_lem (verdict_lent b pairs block) so)).few

pub call_twelve : (b pairs block : List ℕ) (c : Part) → verdict_lent b pairs block ≡ accepted → CallRange b pairs block c → CallRange b pairs block (cut_twelve c)
call_twelve b pairs block c so h =
    let q = twelve_between (problem_lent b pairs block) c.from c.upto (small_lent b pairs block so) in
    let from = take 12 c.from in
    let upto = take 12 c.upto in
    record {
      answers = h.answers ∙ same_answer b pairs block c.from c.upto from upto c.limit c.out q;
      leaves = h.leaves ∙ same_list b pairs block c.from c.upto from upto c.limit c.out q;
      counts = h.counts ∙ same_tally b pairs block c.from c.upto from upto c.limit c.out q;
      stands = h.stands ∙ same_last b pairs block c.from c.upto from upto c.limit c.out q (sym (twelve_again c.from));
    }
