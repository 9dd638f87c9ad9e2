-- What is made of an accepted lending before the search. Assumes nothing.
use Rattle.std.specs.Prelude.{Result, Ok}
use Rattle.model.specs.Kit.{◌≡◌, refl, sym, ap, ap₂, ◌∙◌, subst, subst₂, Bool, true, false, List, ℕ, suc, ◌-◌, ◌*◌, ◌/◌, ◌%◌, ◌^◌, ◌≤◌, ◌<◌, arith, T, eqb, eqb-false, length, set, length-set}
use Rattle.model.specs.{Lists.at, Lists.choose, Problem.Problem, Problem.with_symmetries, Verdict.accepted, Verdict.refused, Verdict.is_accepted}
use Rattle.model.specs.{Inner.Filling.Gathered, Sheet.problem_of, Refusals.verdict_from, declared.refusals.Refusal.Refusal}
use native.Mathlib.Nat.{div-add-mod', mod-lt}
use Rattle.model.proofs.{Lists.at_set, Lists.at_set_other, Accepted.is_accepted_lem}
use Rattle.order.specs.Reordered.{reordered}
use Rattle.block.specs.Block.{in_lent}
use Rattle.run_input.specs.{Lent.verdict_lent, Lent.order_lent, Lent.problem_with, Lent.problem_lent, Inner.Compile.WithinLimits, Inner.Compile.CompiledLent}
use Rattle.order.proofs.Reordered.{well_reordered, respected_reordered}
use Rattle.run_input.proofs.{Lent.well_lent, Lent.respected_lent, Lent.ordering_lent, Blocked.own_first, Blocked.block_walked, Blocked.block_inside}
use Rattle.arrays.specs.Inner.{Places.VARIABLES, Places.LIMIT, Places.ROOM, Places.PLANS, Places.NUMBERS, Places.WORK, Places.WANTED, Layout.Compiled}
use Rattle.run_state.specs.Inner.Pair.{ListRoom}
use Rattle.run_task.specs.Inner.Task.{room_for}
use Rattle.run_search.specs.{Inner.Begun.Laid, Inner.Begun.Begun, Inner.Prepared.bytes_for, Inner.Prepared.Prepared}
use Rattle.run_search.proofs.Begun.{numbers_kept}

-- `compile` has answered, and no question with "no"
module _ (b pairs block : List ℕ) (numbers supports images bytes : List ℕ) (r : Result Unit Refusal) (left : CompiledLent b pairs block numbers supports images bytes r) (is : r ≡ Ok tt) where
  abbrev sheets : Problem
  sheets = reordered (order_lent b pairs) (problem_of b)

  accepts : verdict_lent b pairs block ≡ accepted
  accepts = sym left.answers ∙ ap verdict_from is

  abbrev fits₀ : WithinLimits sheets
  fits₀ = left.limits is

  abbrev h₀ : Compiled sheets numbers supports images
  h₀ = left.compiled is

  pub some_variables : 0 < at numbers VARIABLES
  some_variables = subst (λ (n : ℕ). 0 < n) (sym h₀.numbered.variables) fits₀.well_formed.some

  pub few_variables : at numbers VARIABLES ≤ 16
  few_variables = let e = h₀.numbered.variables in let f = fits₀.well_formed.few in omega arith

  good : T (is_accepted (verdict_lent b pairs block))
  good = is_accepted_lem (verdict_lent b pairs block) accepts

  module _ (limit room : ℕ) (bounded : List ℕ) (put : bounded ≡ set (set numbers LIMIT limit) ROOM room) where
    kept₀ : (i : ℕ) → i < 68 → at bounded i ≡ at numbers i
    kept₀ i l = ap (λ (l : List ℕ). at l i) put ∙ at_set_other (set numbers LIMIT limit) ROOM room i (λ e. omega arith) ∙ at_set_other numbers LIMIT limit i (λ e. omega arith)

    long_bounded : length bounded ≡ NUMBERS
    long_bounded = ap length put ∙ length-set (set numbers LIMIT limit) ROOM room ∙ length-set numbers LIMIT limit ∙ (left.sizes is).numbers_length

    pub at_limit : at bounded LIMIT ≡ limit
    at_limit = ap (λ (l : List ℕ). at l LIMIT) put ∙ at_set_other (set numbers LIMIT limit) ROOM room LIMIT (λ e. omega arith) ∙ at_set numbers LIMIT limit
        (let e = (left.sizes is).numbers_length in omega arith)

    pub at_room : at bounded ROOM ≡ room
    at_room = ap (λ (l : List ℕ). at l ROOM) put ∙ at_set (set numbers LIMIT limit) ROOM room (let l = length-set numbers LIMIT limit in let e = (left.sizes is).numbers_length in omega arith)

    compiled₀ : Compiled sheets bounded supports images
    compiled₀ = record { numbered = numbers_kept sheets numbers bounded fits₀.well_formed.few fits₀.well_formed.most kept₀ h₀.numbered; supported = h₀.supported; imaged = h₀.imaged }

    -- what stands in the arrays then
    pub laid : (positions : ℕ) → Gathered (λ i. in_lent block (at bytes i)) (at numbers VARIABLES) positions → Laid (problem_lent b pairs block) sheets
        (order_lent b pairs) bounded supports images bytes positions 1
    laid positions found =
        let g : Gathered (λ i. in_lent block (at bytes i)) (problem_of b).variables positions = subst (λ (n : ℕ). Gathered (λ i. in_lent block (at bytes i)) n positions)
        h₀.numbered.variables found in
        record {
          compiled = compiled₀;
          limits = fits₀;
          long = long_bounded;
          bytes_length = left.order_length;
          order_is = left.order_is is;
          ordering = left.ordering is;
          own_is = ap (with_symmetries sheets) (own_first b pairs block);
          block = block_walked b pairs block good bytes (left.order_is is) positions g;
          block_few = block_inside b pairs block good bytes (left.order_is is) positions g;
          well = well_reordered (problem_with b block) (order_lent b pairs) (ordering_lent b pairs block good) (well_lent b pairs block good);
          respected = λ n. respected_reordered (problem_with b block) (order_lent b pairs) (ordering_lent b pairs block good) (well_lent b pairs block good) (respected_lent b pairs block good);
        }

-- the room for plans of n bytes: in bytes, and in the list
pub room_fits : (wanted n size : ℕ) → 0 < n → room_for wanted n size * n ≤ bytes_for wanted n size
room_fits wanted n size s = go (eqb wanted 0)
  where
    go : (c : Bool) → choose c (size / n) (wanted - 1) * n ≤ choose c size ((wanted - 1) * n)
    go true = let d = div-add-mod' size n in omega arith
    go false = omega arith

pub room_most : (wanted n size : ℕ) → 0 < n → bytes_for wanted n size < suc (room_for wanted n size) * n
room_most wanted n size s = go (eqb wanted 0)
  where
    go : (c : Bool) → choose c size ((wanted - 1) * n) < suc (choose c (size / n) (wanted - 1)) * n
    go true = let d = div-add-mod' size n in let m : size % n < n = mod-lt size s in omega arith
    go false = omega arith

pub room_lent : (wanted n size : ℕ) → ((wanted ≡ 0 → ⊥) → size ≡ 0) → (size ≡ 0 → ⊥) → bytes_for wanted n size ≡ size
room_lent wanted n size u o = go (eqb wanted 0) refl
  where
    go : (c : Bool) → eqb wanted 0 ≡ c → choose c size ((wanted - 1) * n) ≡ size
    go true e = refl
    go false e = absurd (o (u (eqb-false wanted 0 e)))

-- all that the search reads is made of an accepted lending
module _ (b pairs block : List ℕ) (numbers supports images bytes : List ℕ) (r : Result Unit Refusal) (left : CompiledLent b pairs block numbers supports images bytes r) (is : r ≡ Ok tt) (limit : ℕ)
    (small : limit < 2 ^ 32) (task : List ℕ) (size room : ℕ)
    (rooms : room ≡ room_for (at task WANTED) (at numbers VARIABLES) size) (narrow : room < 2 ^ 64) (unlisted : (at task WANTED ≡ 0 → ⊥) → size ≡ 0) (bounded : List ℕ)
    (put : bounded ≡ set (set numbers LIMIT limit) ROOM room) (none : at task PLANS ≡ 0) where
  abbrev n : ℕ
  n = (problem_of b).variables

  some : 0 < n
  some = (left.limits is).well_formed.some

  rooms_is : room ≡ room_for (at task WANTED) n size
  rooms_is = rooms ∙ ap (λ (k : ℕ). room_for (at task WANTED) k size) (left.compiled is).numbered.variables

  empty_room : (list : List ℕ) → length list ≡ size → ListRoom n room list 0
  empty_room list same = record {
    some = some;
    fits = λ o. subst₂ (λ (k m : ℕ). k * n ≤ m) (sym rooms_is) (room_lent (at task WANTED) n size unlisted (λ g. o (same ∙ g)) ∙ sym same) (room_fits (at task WANTED) n size some);
    listed = omega arith;
    small = narrow;
  }

  limit_is : at bounded LIMIT ≡ limit
  limit_is = at_limit b pairs block numbers supports images bytes r left is limit room bounded put

  room_is : at bounded ROOM ≡ room
  room_is = at_room b pairs block numbers supports images bytes r left is limit room bounded put

  pub prepared : (stack' work' tables' numbers' : List ℕ) (step : ℕ) → Begun (problem_lent b pairs block) (order_lent b pairs) bounded task stack' work' supports tables' numbers' step
      → Prepared task b pairs block limit size stack' work' supports tables' numbers' step
  prepared stack' work' tables' numbers' step h = record {
    accepted = accepts b pairs block numbers supports images bytes r left is;
    begun = h.same PLANS (omega arith) ∙ none;
    dead = h.dead;
    known = h.known;
    bounded = λ z. h.first LIMIT (omega arith) ∙ limit_is;
    roomy = λ z. h.first ROOM (omega arith) ∙ room_is ∙ rooms_is;
    order = λ z. h.order_is;
    live = λ z list same. h.live z (subst (λ (k : ℕ). k < 2 ^ 32) (sym limit_is) small) list (subst₂ (λ (k m : ℕ). ListRoom n k list m) (sym room_is) (sym none) (empty_room list same));
  }
