-- What is made of a compiled problem before the search (specs/Begun): the search's tables, the order, the block, and the sets at the empty prefix.
-- Assumes nothing.
use Rattle.model.specs.Kit.{◌≡◌, refl, sym, ap, ◌∙◌, subst, subst₂, Bool, true, false, inl, List, [], ℕ, suc, ◌+◌, ◌/◌, ◌%◌, ◌^◌, ◌≤◌, ◌<◌, arith, T, not-true, not-false, length, set, take}
use Rattle.model.specs.Kit.{length-set, length-take-le, take_all}
use Rattle.model.specs.{Lists.at, Lists.below, ValueSets.has, Problem.Problem, Problem.with_symmetries, Search.is_live, Search.sets_at, Inner.WellFormed.Respected}
use Rattle.model.proofs.{Lists.T_of, Lists.at_set, Lists.at_set_other, Lists.at_ext, Lists.at_take, Members.has_0}
use Rattle.order.specs.Order.{Ordering}
use Rattle.order.proofs.LeadersBy.{ordering_below, below_at}
use Rattle.block.specs.Inner.BlockSets.{BlockIn}
use Rattle.run_input.specs.Inner.Compile.{WithinLimits}
use Rattle.arrays.specs.Inner.Places.{VARIABLES, VALUES, CONSTRAINTS, SYMMETRIES, LIMIT, ROOM, ORDER, BLOCK, ASKS, PLANS, ALL, DEEPER, NUMBERS, STACK, TABLES, WORK, DEPTH}
use Rattle.arrays.specs.Inner.Layout.{Numbers, Compiled}
use Rattle.arrays_tables.specs.Inner.Index.{Compact, Made}
use Rattle.prune.specs.Inner.Node.{Ready, SetsHeld, Marked, Reached}
use Rattle.run_state.specs.{Inner.Walk.no_nodes, Inner.Memo.entry_at, Inner.Pair.prefix_of, Inner.Pair.order_in, Inner.Pair.own_problem_in, Inner.Pair.ListRoom, Inner.Pair.AtPrefix}
use Rattle.run_memo.specs.Inner.Steps.{Cleared}
use Rattle.run_state.proofs.{Prefix.prefix_zero, Written.order_taken, Walk.none_summed}
use Rattle.run_task.specs.Inner.Task.{ordered}
use Rattle.run_task.proofs.Task.{ordered_other, length_ordered, ordered_at}
use Rattle.run_search.specs.Inner.Begun.{Laid, Writable, Begun}

-- ---- the numbers with the limit and the room among them
pub numbers_kept : (p : Problem) (numbers numbers' : List ℕ) → p.variables ≤ 12 → length p.constraints ≤ 32 → ((i : ℕ) → i < 68 → at numbers' i ≡ at numbers i) → Numbers p numbers
    → Numbers p numbers'
numbers_kept p numbers numbers' f c e h = record {
  touching = λ x k l m. ap (λ (s : ℕ). has s k) (e x (omega arith)) ∙ h.touching x k l m;
  touching_few = λ x l. subst (λ (s : ℕ). s < 2 ^ length p.constraints) (sym (e x (omega arith))) (h.touching_few x l);
  initial = λ x l. e (16 + x) (omega arith) ∙ h.initial x l;
  unused = λ x l m. e (16 + x) (omega arith) ∙ h.unused x l m;
  arity = λ k l. ap (λ (s : ℕ). s % 256) (e (32 + k) (omega arith)) ∙ h.arity k l;
  scope = λ k i l m. ap (λ (s : ℕ). s / 256 ^ suc i % 256) (e (32 + k) (omega arith)) ∙ h.scope k i l m;
  variables = e VARIABLES (omega arith) ∙ h.variables;
  values = e VALUES (omega arith) ∙ h.values;
  constraints = e CONSTRAINTS (omega arith) ∙ h.constraints;
  symmetries = e SYMMETRIES (omega arith) ∙ h.symmetries;
}

below_taken : (n : ℕ) (bytes : List ℕ) → n ≤ length bytes → ((k : ℕ) → k < n → at bytes k ≡ k) → take n bytes ≡ below n
below_taken n bytes l h =
    at_ext (take n bytes) (below n) (length-take-le n bytes l ∙ sym (ordering_below n).sized)
    (λ k m. let j : k < n = omega (arith, length-take-le n bytes l) in at_take n bytes k j ∙ h k j ∙ sym (below_at n k j))

-- with no block, and the variables in their own order, p is laid alone
pub laid_alone : (p : Problem) (numbers supports images bytes : List ℕ) → Compiled p numbers supports images → WithinLimits p → (asks : ℕ) →
    ((asks ≡ 0 → ⊥) → Respected p) → length numbers ≡ NUMBERS → (length bytes ≡ 16) × ((k : ℕ) → k < 16 → at bytes k ≡ k) →
    Laid p p (below p.variables) numbers supports images bytes 0 asks
laid_alone p numbers supports images bytes c f asks respected long placed = record {
  compiled = c;
  limits = f;
  long = long;
  bytes_length = placed.0;
  order_is = below_taken p.variables bytes (let w = f.well_formed.few in omega (arith, placed.0)) (λ k l. placed.1 k (let w = f.well_formed.few in omega arith));
  ordering = ordering_below p.variables;
  own_is = ap (with_symmetries p) (take_all (length p.symmetries) p.symmetries (omega arith));
  block = record {
    equal = λ x y l m t u. absurd (has_0 x t);
    own = λ g m. m;
    each = λ g m. inl m;
    trade = λ x y l m o t u. absurd (has_0 x t);
  };
  block_few = λ x t. absurd (has_0 x t);
  well = f.well_formed;
  respected = respected;
}

-- the search's tables are made
module _ (p own : Problem) (order numbers supports images bytes : List ℕ) (positions asks : ℕ) (h : Laid p own order numbers supports images bytes positions asks) where
  abbrev fits : WithinLimits own
  fits = h.limits

  same_variables : p.variables ≡ own.variables
  same_variables = ap (λ (q : Problem). q.variables) h.own_is

  -- the order, the block and whether the memo is asked are put, then the search's tables are made
  module _ (laid : List ℕ) (orders : laid ≡ set (set (ordered bytes 12 numbers) BLOCK positions) ASKS asks) where
    other : (i : ℕ) → (i ≡ BLOCK → ⊥) → (i ≡ ASKS → ⊥) → at laid i ≡ at (ordered bytes 12 numbers) i
    other i d n =
        ap (λ (m : List ℕ). at m i) orders ∙ at_set_other (set (ordered bytes 12 numbers) BLOCK positions) ASKS asks i n
        ∙ at_set_other (ordered bytes 12 numbers) BLOCK positions i d

    before : (i : ℕ) → i < ORDER → at laid i ≡ at numbers i
    before i l = other i (λ e. omega arith) (λ e. omega arith) ∙ ordered_other bytes 12 i numbers (λ j m e. omega arith)

    laid_long : length laid ≡ NUMBERS
    laid_long = ap length orders ∙ length-set (set (ordered bytes 12 numbers) BLOCK positions) ASKS asks ∙ length-set (ordered bytes 12 numbers) BLOCK positions ∙ length_ordered bytes 12 numbers
        ∙ h.long

    numbered : Numbers own laid
    numbered = numbers_kept own numbers laid fits.well_formed.few fits.well_formed.most (λ i l. before i (omega arith)) h.compiled.numbered

    pub compact : (tables : List ℕ) → length tables ≡ TABLES → Compact own laid supports images tables
    compact tables lt = record {
      compiled = record { numbered = numbered; supported = h.compiled.supported; imaged = h.compiled.imaged };
      well_formed = fits.well_formed;
      symmetries = fits.symmetries;
      numbers_length = laid_long;
      tables_length = lt;
    }

    module _ (tables numbers' tables' : List ℕ) (made : Made own laid supports tables numbers' tables') where
      first : (i : ℕ) → i < ORDER → at numbers' i ≡ at numbers i
      first i l = made.kept i (omega arith) ∙ before i l

      numbers_long : length numbers' ≡ NUMBERS
      numbers_long = made.numbers_length ∙ laid_long

      few : p.variables ≤ 12
      few = let f = fits.well_formed.few in let e = same_variables in omega arith

      order_put : order_in numbers' p.variables ≡ order
      order_put = order_taken numbers' bytes p.variables (let f = few in let e = h.bytes_length in omega arith)
          (λ k l. made.kept (ORDER + k) (let f = few in omega arith) ∙ other (ORDER + k) (λ e. let f = few in omega arith) (λ e. let f = few in omega arith) ∙ ordered_at bytes 12 k numbers
          (let e = h.long in omega arith)
          (let f = few in omega arith)) ∙ h.order_is

      at_block : positions ≡ at numbers' BLOCK
      at_block =
          sym (made.kept BLOCK (omega arith) ∙ ap (λ (m : List ℕ). at m BLOCK) orders ∙ at_set_other (set (ordered bytes 12 numbers) BLOCK positions) ASKS asks BLOCK (λ e. omega arith)
          ∙ at_set (ordered bytes 12 numbers) BLOCK positions (let e = h.long in let l = length_ordered bytes 12 numbers in omega arith))

      at_asks : at numbers' ASKS ≡ asks
      at_asks =
          made.kept ASKS (omega arith) ∙ ap (λ (m : List ℕ). at m ASKS) orders ∙ at_set (set (ordered bytes 12 numbers) BLOCK positions) ASKS asks
          (let e = h.long in let l = length_ordered bytes 12 numbers in let m = length-set (ordered bytes 12 numbers) BLOCK positions in omega arith)

      -- the arrays hold the first of the tree's symmetries
      own_in : own_problem_in p numbers' ≡ own
      own_in = ap (λ (n : ℕ). with_symmetries p (take n p.symmetries)) (first SYMMETRIES (omega arith) ∙ h.compiled.numbered.symmetries) ∙ h.own_is

      pub ready : (stack work : List ℕ) → length stack ≡ STACK → length work ≡ WORK → Ready (own_problem_in p numbers') p.symmetries stack work supports tables' numbers'
      ready stack work ls lw = subst (λ (r : Problem). Ready r p.symmetries stack work supports tables' numbers') (sym own_in) record {
        indexed = made.indexed;
        well_formed = fits.well_formed;
        block = subst (λ (s : ℕ). BlockIn own (has s) p.symmetries) at_block h.block;
        block_few = subst (λ (s : ℕ). (x : ℕ) → T (has s x) → x < own.variables) at_block h.block_few;
        symmetries = fits.symmetries;
        stack_length = ls;
        work_length = lw;
      }

      module _ (stack entry work stack' work' : List ℕ) (dead : Bool) (lent : Writable stack entry tables) (cleared : Cleared entry work)
          (q : Reached (own_problem_in p numbers') p.symmetries [] 0 stack work stack' work' dead) where
        abbrev writable : Writable stack' work' tables'
        writable = record {
          stack_length = q.stack_length ∙ lent.stack_length;
          work_length = q.work_length ∙ cleared.long ∙ lent.work_length;
          tables_length = made.tables_length
              ∙ lent.tables_length;
        }

        -- the search may begin where the empty prefix is live
        start : at numbers LIMIT < 2 ^ 32 → dead ≡ false → (list : List ℕ) → ListRoom p.variables (at numbers ROOM) list (at entry PLANS)
            → AtPrefix p stack' work' supports tables' numbers' list no_nodes 0
        start small e list roomy = record {
          ready = ready stack' work' (q.stack_length ∙ lent.stack_length) (q.work_length ∙ cleared.long ∙ lent.work_length);
          inner = subst (λ (n : ℕ). 0 < n) (sym same_variables) fits.well_formed.some;
          live = T_of (is_live p (prefix_of work' 0)) (ap (is_live p) (prefix_zero work') ∙ not-false (is_live p []) (sym q.answers ∙ e));
          held = subst (λ (t : List ℕ). SetsHeld (own_problem_in p numbers') stack' 0 (sets_at p t)) (sym (prefix_zero work')) (q.holds e);
          marked = subst (λ (t : List ℕ). Marked (own_problem_in p numbers') p.symmetries work' t 0) (sym (prefix_zero work')) (q.marked e);
          limited = subst (λ (k : ℕ). k < 2 ^ 32) (sym (first LIMIT (omega arith))) small;
          allowed = omega arith;
          summed = none_summed;
          order = subst (Ordering p.variables) (sym order_put) h.ordering;
          room = subst₂ (λ (r k : ℕ). ListRoom p.variables r list k) (sym (first ROOM (omega arith))) (sym (q.kept PLANS (omega arith) ∙ cleared.before PLANS (omega arith))) roomy;
          well = h.well;
          respected = λ n. h.respected (λ z. n (at_asks ∙ z));
          memo = λ i l n. absurd (n (q.beyond (entry_at i + DEPTH) (omega arith) ∙ cleared.empty i l));
        }

        pub begun_dead : dead ≡ true → Begun p order numbers entry stack' work' supports tables' numbers' ALL
        begun_dead e = record {
          dead = λ z. not-true (is_live p []) (sym q.answers ∙ e);
          known = λ z. absurd (z refl);
          order_is = order_put;
          first = first;
          same = λ i l. q.kept i (omega arith) ∙ cleared.before i (omega arith);
          live = λ z. absurd (omega arith);
          writable = writable;
          long = numbers_long;
        }

        pub begun_live : dead ≡ false → Begun p order numbers entry stack' work' supports tables' numbers' DEEPER
        begun_live e = record {
          dead = λ z. absurd (omega arith);
          known = λ z. refl;
          order_is = order_put;
          first = first;
          same = λ i l. q.kept i (omega arith) ∙ cleared.before i (omega arith);
          live = λ z small list roomy. start small e list roomy;
          writable = writable;
          long = numbers_long;
        }
