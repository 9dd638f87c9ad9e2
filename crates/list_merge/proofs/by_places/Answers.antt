-- `by_places`: the rows agree at the first i places of the order. Assumes nothing.
use Rattle.model.specs.Kit.{◌≡◌, refl, sym, ap, ap₂, ◌∙◌, List, ℕ, ◌+◌, ◌≤◌, ◌<◌, arith, rules, ltb, length, get_or}
use Rattle.model.proofs.Lists.{mem_get_d}
use Rattle.list_merge.specs.Inner.Inner.{way_of}
use Rattle.order.specs.Reordered.{earlier_by}
use Rattle.list_merge.proofs.{Stepping.way_same, Stepping.cmp_way, Reading.onwards, Reading.come_eq, Reading.come_end, Reading.come_way}
use Rattle.list_merge.proofs.by_places.Goals as goal

-- the place k decides, where the rows agree before it
decided : (order a b : List ℕ) (k x y : ℕ) → k < length order → earlier_by order a b ≡ onwards order a b k → earlier_by order b a ≡ onwards order b a k → x ≡ get_or a (get_or order k 0) 0 →
    y ≡ get_or b
    (get_or order k 0) 0 → (x ≡ y → length order ≤ k + 1) → way_of (ltb x y) (ltb y x) ≡ way_of (earlier_by order a b) (earlier_by order b a)
decided order a b k x y h p q ex ey last =
    ap₂ way_of (ap₂ ltb ex ey ∙ sym (come_way order a b k h (λ z. last (ex ∙ z ∙ sym ey))) ∙ sym p) (ap₂ ltb ey ex ∙ sym (come_way order b a k h (λ z. last (ex ∙ sym z ∙ sym ey))) ∙ sym q)

-- where they agree at a place too, they are compared from the next on
onward : (order a b : List ℕ) (k j x y : ℕ) → k < length order → j ≡ k + 1 → earlier_by order a b ≡ onwards order a b k → x ≡ get_or a (get_or order k 0) 0 → y ≡ get_or b (get_or order k 0) 0 → x ≡ y
    → earlier_by order a b ≡ onwards order a b j
onward order a b k j x y h e p ex ey z = p ∙ come_eq order a b k h (sym ex ∙ z ∙ ey) ∙ ap (onwards order a b) (sym e)

pub loop-i-init : goal.loop-i-init
loop-i-init c = (search rules, refl, refl)

pub at_place-x-requires : goal.at_place-x-requires
at_place-x-requires c = (
  omega (arith, c.loop-i-test.true),
  (c.requires _
      (mem_get_d c.args.order.now c.loop-i.i 0 (omega (arith, c.loop-i-test.true)))).0,
)

pub at_place-y-requires : goal.at_place-y-requires
at_place-y-requires c = (
  omega (arith, c.loop-i-test.true),
  (c.requires _
      (mem_get_d c.args.order.now c.loop-i.i 0 (omega (arith, c.loop-i-test.true)))).1,
)

pub returns-then-x-y : goal.returns-then-x-y
returns-then-x-y c =
    c.cmp.ensures ∙ cmp_way c.at_place-x.result c.at_place-y.result ∙ decided c.args.order.now c.args.a.now c.args.b.now c.loop-i.i _ _ (omega (arith, c.loop-i-test.true)) c.loop-i.invariant.1
    c.loop-i.invariant.2 c.at_place-x.ensures c.at_place-y.ensures (λ z. absurd (c.if-x-y.true z))

pub at_place-z-requires : goal.at_place-z-requires
at_place-z-requires c = (
  omega (arith, c.loop-i-test.true),
  (c.requires _ (mem_get_d c.args.order.now (c.loop-i.i + 1) 0
      (omega (arith, c.loop-i-test.true)))).0,
)

pub at_place-w-requires : goal.at_place-w-requires
at_place-w-requires c = (
  omega (arith, c.loop-i-test.true),
  (c.requires _ (mem_get_d c.args.order.now (c.loop-i.i + 1) 0
      (omega (arith, c.loop-i-test.true)))).1,
)

pub returns-then-z-w : goal.returns-then-z-w
returns-then-z-w c =
    c.cmp-then-z-w.ensures ∙ cmp_way c.at_place-z.result c.at_place-w.result
    ∙ decided c.args.order.now c.args.a.now c.args.b.now (c.loop-i.i + 1) _ _ (omega arith)
    (onward c.args.order.now c.args.a.now c.args.b.now c.loop-i.i (c.loop-i.i + 1) _ _ (omega arith) refl c.loop-i.invariant.1 c.at_place-x.ensures c.at_place-y.ensures c.if-x-y.false)
    (onward c.args.order.now c.args.b.now c.args.a.now c.loop-i.i (c.loop-i.i + 1) _ _ (omega arith) refl c.loop-i.invariant.2 c.at_place-y.ensures c.at_place-x.ensures (sym c.if-x-y.false))
    c.at_place-z.ensures c.at_place-w.ensures
    (λ z. absurd (c.if-z-w.true z))

pub loop-i-preserved : goal.loop-i-preserved
loop-i-preserved c = (
  omega arith,
  onward c.args.order.now c.args.a.now c.args.b.now (c.loop-i.i + 1) (c.loop-i.i + 2) _ _ (omega arith) (omega arith)
      (onward c.args.order.now c.args.a.now c.args.b.now c.loop-i.i (c.loop-i.i + 1) _ _ (omega arith) refl c.loop-i.invariant.1 c.at_place-x.ensures c.at_place-y.ensures c.if-x-y.false)
      c.at_place-z.ensures c.at_place-w.ensures c.if-z-w.false,
  onward c.args.order.now c.args.b.now c.args.a.now (c.loop-i.i + 1) (c.loop-i.i + 2) _ _ (omega arith) (omega arith)
      (onward c.args.order.now c.args.b.now c.args.a.now c.loop-i.i (c.loop-i.i + 1) _ _ (omega arith) refl c.loop-i.invariant.2 c.at_place-y.ensures c.at_place-x.ensures (sym c.if-x-y.false))
      c.at_place-w.ensures c.at_place-z.ensures (sym c.if-z-w.false),
)

pub at_place-requires : goal.at_place-requires
at_place-requires c = (
  omega (arith, c.if-i-order.true),
  (c.requires _
      (mem_get_d c.args.order.now c.loop-i.i 0 (omega (arith, c.if-i-order.true)))).0,
)

pub at_place-requires-then-i-order : goal.at_place-requires-then-i-order
at_place-requires-then-i-order c = (omega (arith, c.if-i-order.true), (c.requires _ (mem_get_d c.args.order.now c.loop-i.i 0 (omega (arith, c.if-i-order.true)))).1)

pub returns-then-i-order : goal.returns-then-i-order
returns-then-i-order c =
    c.cmp-then-i-order.ensures ∙ cmp_way c.at_place.result c.at_place-then-i-order.result
    ∙ decided c.args.order.now c.args.a.now c.args.b.now c.loop-i.i _ _ c.if-i-order.true c.loop-i.invariant.1 c.loop-i.invariant.2
    c.at_place.ensures c.at_place-then-i-order.ensures (λ z. omega (arith, c.loop-i-test.false))

pub returns : goal.returns
returns c =
    way_same _ _ (c.loop-i.invariant.1 ∙ come_end c.args.order.now c.args.a.now c.args.b.now c.loop-i.i c.if-i-order.false)
    (c.loop-i.invariant.2 ∙ come_end c.args.order.now c.args.b.now c.args.a.now c.loop-i.i c.if-i-order.false)
