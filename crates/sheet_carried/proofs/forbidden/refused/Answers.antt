use Rattle.model.specs.Kit.{◌∙◌, ap, not, ◌+◌, ◌*◌, ◌/◌, ◌≤◌, ◌<◌, arith, length}
use Rattle.model.specs.Problem.{Problem, constraint_at}
use Rattle.arrays.specs.Inner.Places.{SUPPORTS}
use Rattle.sheet_table.specs.{Inner.Table.Ready}
use Rattle.sheet_table.proofs.Codes.{good}
use Rattle.sheet_carried.proofs.{Rows.looked_none, Rows.looked_lt, Rows.looked_more, Rows.looked_stop, Rows.looked_place, Rows.looked_all}
use Rattle.sheet_carried.proofs.forbidden.refused.Goals as goal

pub loop-i-init : goal.loop-i-init
loop-i-init c = λ p r h. looked_none (constraint_at p _) _ _ _

pub returns-then-v-ge16 : goal.returns-then-v-ge16
returns-then-v-ge16 c =
    let inside : (p : Problem) → Ready p c.args.numbers.now c.args.supports.now → c.args.k < length p.constraints → c.loop-i.i < length (constraint_at p c.args.k).scope =
    λ p r h. omega (arith, c.arity-count.ensures p r.framed h) in
    λ p r h. looked_stop _ _ _ _ _ _ (c.loop-i.invariant p r h) _ _ (inside p r h)
    (c.scope_at.ensures p r.framed h (inside p r h)) c.value_in-v.ensures c.if-v-ge16.true

pub loop-i-preserved : goal.loop-i-preserved
loop-i-preserved c =
    let inside : (p : Problem) → Ready p c.args.numbers.now c.args.supports.now → c.args.k < length p.constraints → c.loop-i.i < length (constraint_at p c.args.k).scope =
    λ p r h. omega (arith, c.arity-count.ensures p r.framed h) in
    λ p r h. looked_more _ _ _ _ _ _ (c.loop-i.invariant p r h) _ _ (inside p r h)
    (c.scope_at.ensures p r.framed h (inside p r h)) c.value_in-v.ensures c.if-v-ge16.false

pub returns : goal.returns
returns c =
    let over : (p : Problem) → Ready p c.args.numbers.now c.args.supports.now → c.args.k < length p.constraints → length (constraint_at p c.args.k).scope ≤ c.loop-i.i =
    λ p r h. omega (arith, c.arity-count.ensures p r.framed h) in
    λ p r h. ap not c.contains.ensures ∙ looked_all p _ _ r _ h _ _ _ _ _ (c.loop-i.invariant p r h) (over p r h) _ c.support.ensures

pub scope_at-requires : goal.scope_at-requires
scope_at-requires c =
    let inside : (p : Problem) → Ready p c.args.numbers.now c.args.supports.now → c.args.k < length p.constraints → c.loop-i.i < length (constraint_at p c.args.k).scope =
    λ p r h. omega (arith, c.arity-count.ensures p r.framed h) in
    (c.requires.0, c.requires.1.framed, c.requires.2, inside c.requires.0 c.requires.1 c.requires.2)

pub overflow_mul-key : goal.overflow_mul-key
overflow_mul-key c =
    let inside : (p : Problem) → Ready p c.args.numbers.now c.args.supports.now → c.args.k < length p.constraints → c.loop-i.i < length (constraint_at p c.args.k).scope =
    λ p r h. omega (arith, c.arity-count.ensures p r.framed h) in
    let small : c.loop-i.key < 256 =
    looked_lt _ _ _ _ _ _ (c.loop-i.invariant c.requires.0 c.requires.1 c.requires.2) (inside c.requires.0 c.requires.1 c.requires.2)
    (good c.requires.0 c.requires.1.framed.stated _ c.requires.2).few in
    omega (arith, small)

pub overflow_add-key : goal.overflow_add-key
overflow_add-key c =
    let inside : (p : Problem) → Ready p c.args.numbers.now c.args.supports.now → c.args.k < length p.constraints → c.loop-i.i < length (constraint_at p c.args.k).scope =
    λ p r h. omega (arith, c.arity-count.ensures p r.framed h) in
    let small : c.loop-i.key < 256 =
    looked_lt _ _ _ _ _ _ (c.loop-i.invariant c.requires.0 c.requires.1 c.requires.2) (inside c.requires.0 c.requires.1 c.requires.2)
    (good c.requires.0 c.requires.1.framed.stated _ c.requires.2).few in
    omega (arith, small, c.if-v-ge16.false)

pub overflow_mul-k : goal.overflow_mul-k
overflow_mul-k c =
    let over : (p : Problem) → Ready p c.args.numbers.now c.args.supports.now → c.args.k < length p.constraints → length (constraint_at p c.args.k).scope ≤ c.loop-i.i =
    λ p r h. omega (arith, c.arity-count.ensures p r.framed h) in
    let place : 256 * c.args.k + c.loop-i.key / 16 < SUPPORTS =
    looked_place c.requires.0 _ _ c.requires.1 _ c.requires.2 _ _ _ _ _ (c.loop-i.invariant c.requires.0 c.requires.1 c.requires.2) (over c.requires.0 c.requires.1 c.requires.2) in
    omega (arith, place)

pub overflow_add-k : goal.overflow_add-k
overflow_add-k c =
    let over : (p : Problem) → Ready p c.args.numbers.now c.args.supports.now → c.args.k < length p.constraints → length (constraint_at p c.args.k).scope ≤ c.loop-i.i =
    λ p r h. omega (arith, c.arity-count.ensures p r.framed h) in
    let place : 256 * c.args.k + c.loop-i.key / 16 < SUPPORTS =
    looked_place c.requires.0 _ _ c.requires.1 _ c.requires.2 _ _ _ _ _ (c.loop-i.invariant c.requires.0 c.requires.1 c.requires.2) (over c.requires.0 c.requires.1 c.requires.2) in
    omega (arith, place)

pub support-requires : goal.support-requires
support-requires c =
    let over : (p : Problem) → Ready p c.args.numbers.now c.args.supports.now → c.args.k < length p.constraints → length (constraint_at p c.args.k).scope ≤ c.loop-i.i =
    λ p r h. omega (arith, c.arity-count.ensures p r.framed h) in
    let place : 256 * c.args.k + c.loop-i.key / 16 < SUPPORTS =
    looked_place c.requires.0 _ _ c.requires.1 _ c.requires.2 _ _ _ _ _ (c.loop-i.invariant c.requires.0 c.requires.1 c.requires.2) (over c.requires.0 c.requires.1 c.requires.2) in
    place
