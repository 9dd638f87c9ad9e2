-- `walk` meets its contract: the choices for the next variable one after another. Assumes nothing.
use Rattle.model.specs.Kit.{◌≡◌, refl, ◌∙◌, ap, true, List, [], ◌∷◌, ◌++◌, ℕ, ◌+◌, ◌-◌, ◌≤◌, ◌<◌, arith, length}
use Rattle.model.proofs.Lowest.{next_over}
use Rattle.model.specs.{Lists.at, Problem.Problem, Problem.constraint_at}
use Rattle.sheet_table.specs.Inner.Table.{Framed}
use Rattle.sheet_table.specs.Inner.Forbidden.{Walking}
use Rattle.sheet_carried.proofs.Walks.{last_beside, last_all, choices_over, next_place, next_spot, next_key, next_walk, walk_stop, walk_rest}
use Rattle.sheet_symmetries.proofs.walk.+walk.Goals as goal

-- the variable that is next, of what `arity` and `scope_at` promise
module _ (p : Problem) (vs numbers supports codes moves : List ℕ) (k ahead key z a b : ℕ) (s : Walking p vs numbers supports codes moves k ahead key z a b) (n : ahead ≡ 0 → ⊥)
    (count : ℕ) (is : (q : Problem) → Framed q numbers → k < length q.constraints → count ≡ length (constraint_at q k).scope) where
  place : (ahead ≤ count) × (count - ahead ≡ length vs) × (count - ahead < length (constraint_at p k).scope)
  place = next_place p vs _ _ _ _ _ _ _ _ _ _ s n count (is p s.lent.ready.framed s.chosen.inside)

  variable : (x : ℕ) → ((q : Problem) → Framed q numbers → k < length q.constraints → count - ahead < length (constraint_at q k).scope → x ≡ at (constraint_at q k).scope (count - ahead)) →
      x ≡ at (constraint_at p k).scope (length vs)
  variable x h = h p s.lent.ready.framed s.chosen.inside place.2 ∙ ap (at (constraint_at p k).scope) place.1

-- more than one variable is ahead
more : (ahead : ℕ) → (ahead ≡ 0 → ⊥) → (ahead ≡ 1 → ⊥) → ahead - 1 ≡ 0 → ⊥
more ahead n m z = omega arith

pub overflow_sub-arity : goal.overflow_sub-arity
overflow_sub-arity t c = let h = c.requires in (place h.0 h.1 _ _ _ _ _ _ _ _ _ _ h.3 h.4 _ c.arity.ensures).0

pub scope_at-x-requires : goal.scope_at-x-requires
scope_at-x-requires t c = let h = c.requires in (h.0, h.3.lent.ready.framed, h.3.chosen.inside, (place h.0 h.1 _ _ _ _ _ _ _ _ _ _ h.3 h.4 _ c.arity.ensures).2)

pub choices-set-requires : goal.choices-set-requires
choices-set-requires t c = let h = c.requires in (h.0, h.1, h.3.lent.ready, h.3.chosen, h.4, variable h.0 h.1 _ _ _ _ _ _ _ _ _ _ h.3 h.4 _ c.arity.ensures _ c.scope_at-x.ensures)

pub all_blocked-requires : goal.all_blocked-requires
all_blocked-requires t c =
    let h = c.requires in
    let x = variable h.0 h.1 _ _ _ _ _ _ _ _ _ _ h.3 h.4 _ c.arity.ensures _ c.scope_at-x.ensures in
    (h.0, last_beside h.0 h.1 _ _ _ _ _ _ _ _ _ _ _ _ h.3 c.if-ahead-eq1.true x (c.choices-set.ensures h.0 h.1 _ h.3.lent.ready h.3.chosen h.4 x))

pub returns-then-ahead-eq1 : goal.returns-then-ahead-eq1
returns-then-ahead-eq1 t c = λ p vs z s n.
    let x = variable p vs _ _ _ _ _ _ _ _ _ _ s n _ c.arity.ensures _ c.scope_at-x.ensures in
    let h = c.choices-set.ensures p vs c.args.codes.now s.lent.ready s.chosen n x in
    last_all p vs _ _ _ _ _ _ _ _ _ _ _ _ s c.if-ahead-eq1.true x h _ (c.all_blocked.ensures p (last_beside p vs _ _ _ _ _ _ _ _ _ _ _ _ s c.if-ahead-eq1.true x h))

pub carried-requires : goal.carried-requires
carried-requires t c = let h = c.requires in (h.0, h.1, _, h.2, _, h.3)

pub returns-then-carried : goal.returns-then-carried
returns-then-carried t c = λ p vs z s n. c.carried.ensures c.if-carried.true p vs _ _ _ s

pub loop-v-init : goal.loop-v-init
loop-v-init t c = rw (c.into_iter-v-iterator.ensures.into_iter_gives, c.members-v-items.ensures) (λ p vs z s n.
    c.choices-set.ensures p vs _ s.lent.ready s.chosen n (variable p vs _ _ _ _ _ _ _ _ _ _ s n _ c.arity.ensures _ c.scope_at-x.ensures))

pub overflow_mul-row : goal.overflow_mul-row
overflow_mul-row t c =
    let h = c.requires in
    let small = next_key h.0 h.1 _ _ _ _ _ _ _ _ _ _ h.3 h.4 (variable h.0 h.1 _ _ _ _ _ _ _ _ _ _ h.3 h.4 _ c.arity.ensures _ c.scope_at-x.ensures)
    (c.loop-v.invariant h.0 h.1 h.2 h.3 h.4) c.in-Some.ensures.steps in
    omega (arith, small)

pub overflow_add-row : goal.overflow_add-row
overflow_add-row t c =
    let h = c.requires in
    let small = next_key h.0 h.1 _ _ _ _ _ _ _ _ _ _ h.3 h.4 (variable h.0 h.1 _ _ _ _ _ _ _ _ _ _ h.3 h.4 _ c.arity.ensures _ c.scope_at-x.ensures)
    (c.loop-v.invariant h.0 h.1 h.2 h.3 h.4) c.in-Some.ensures.steps in
    omega (arith, small)

pub all_rows-requires : goal.all_rows-requires
all_rows-requires t c =
    let h = c.requires in
    let w = next_walk h.0 h.1 _ _ _ _ _ _ _ _ _ _ h.3 h.4 (variable h.0 h.1 _ _ _ _ _ _ _ _ _ _ h.3 h.4 _ c.arity.ensures _ c.scope_at-x.ensures)
    (c.loop-v.invariant h.0 h.1 h.2 h.3 h.4) c.in-Some.ensures.steps _ refl in
    (h.0, h.1 ++ (c.in-Some.v ∷ []), w.lent.ready, w.chosen)

pub place-requires : goal.place-requires
place-requires t c =
    let h = c.requires in
    next_spot h.0 h.1 _ _ _ _ _ _ _ _ _ _ h.3 h.4 (variable h.0 h.1 _ _ _ _ _ _ _ _ _ _ h.3 h.4 _ c.arity.ensures _ c.scope_at-x.ensures)
    (c.loop-v.invariant h.0 h.1 h.2 h.3 h.4) c.in-Some.ensures.steps

pub walk-requires : goal.walk-requires
walk-requires t c =
    let h = c.requires in
    let w = next_walk h.0 h.1 _ _ _ _ _ _ _ _ _ _ h.3 h.4 (variable h.0 h.1 _ _ _ _ _ _ _ _ _ _ h.3 h.4 _ c.arity.ensures _ c.scope_at-x.ensures)
    (c.loop-v.invariant h.0 h.1 h.2 h.3 h.4) c.in-Some.ensures.steps _ c.place.ensures.0 in
    (omega (arith, c.decreases, h.4), (h.0, h.1 ++ (c.in-Some.v ∷ []), _, w, more _ h.4 c.if-ahead-eq1.false))

pub returns-then-not-walk : goal.returns-then-not-walk
returns-then-not-walk t c = λ p vs z s n.
    let w = next_walk p vs _ _ _ _ _ _ _ _ _ _ s n (variable p vs _ _ _ _ _ _ _ _ _ _ s n _ c.arity.ensures _ c.scope_at-x.ensures)
    (c.loop-v.invariant p vs z s n) c.in-Some.ensures.steps _ c.place.ensures.0 in
    walk_stop p vs _ _ _ _ _ _ _ _ _ _ s n (variable p vs _ _ _ _ _ _ _ _ _ _ s n _ c.arity.ensures _ c.scope_at-x.ensures)
    (c.loop-v.invariant p vs z s n) c.in-Some.ensures.steps
    (c.walk.ensures p _ _ w (more _ n c.if-ahead-eq1.false)) c.if-not-walk.true

pub loop-v-preserved-else-not-walk : goal.loop-v-preserved-else-not-walk
loop-v-preserved-else-not-walk t c = λ p vs z s n.
    let w = next_walk p vs _ _ _ _ _ _ _ _ _ _ s n (variable p vs _ _ _ _ _ _ _ _ _ _ s n _ c.arity.ensures _ c.scope_at-x.ensures)
    (c.loop-v.invariant p vs z s n) c.in-Some.ensures.steps _ c.place.ensures.0 in
    walk_rest p vs _ _ _ _ _ _ _ _ _ _ s n (variable p vs _ _ _ _ _ _ _ _ _ _ s n _ c.arity.ensures _ c.scope_at-x.ensures)
    (c.loop-v.invariant p vs z s n) c.in-Some.ensures.steps
    (c.walk.ensures p _ _ w (more _ n c.if-ahead-eq1.false)) c.if-not-walk.false

pub loop-v-preserved : goal.loop-v-preserved
loop-v-preserved t c = λ p vs z s n.
    let w = next_walk p vs _ _ _ _ _ _ _ _ _ _ s n (variable p vs _ _ _ _ _ _ _ _ _ _ s n _ c.arity.ensures _ c.scope_at-x.ensures)
    (c.loop-v.invariant p vs z s n) c.in-Some.ensures.steps _ refl in
    walk_rest p vs _ _ _ _ _ _ _ _ _ _ s n (variable p vs _ _ _ _ _ _ _ _ _ _ s n _ c.arity.ensures _ c.scope_at-x.ensures)
    (c.loop-v.invariant p vs z s n) c.in-Some.ensures.steps
    (c.all_rows.ensures c.if-not-all_rows.false p _ _ w.lent.ready w.chosen) refl

pub returns : goal.returns
returns t c = λ p vs z s n. choices_over (c.loop-v.invariant p vs z s n) (next_over c.in-None.ensures.steps)
