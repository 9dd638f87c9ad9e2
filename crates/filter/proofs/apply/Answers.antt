-- `filter::apply` meets its contract. Assumes nothing.
use Rattle.model.specs.Kit.{refl, length, rules}
use Rattle.model.specs.Nogood.{entries}
use Rattle.filter.proofs.Splits.{ones_small, empty_applied, load_ready, none_applied, left_sixteen, left_applied}
use Rattle.filter.proofs.apply.Goals as goal

pub load-requires : goal.load-requires
load-requires c = (search rules, refl, ones_small 16)

pub returns-then-load : goal.returns-then-load
returns-then-load c =
    empty_applied c.args.sets.now (entries c.args.index.now c.args.equal.now c.args.not_equal.now) c.load.new.target c.load.result c.load.ensures c.if-load.true
    c.clear.ensures

pub propagate-ending-requires : goal.propagate-ending-requires
propagate-ending-requires c = (
  length c.args.sets.now,
  load_ready c.args.sets.now (entries c.args.index.now c.args.equal.now c.args.not_equal.now) c.load.new.target c.load.result c.load.ensures
      c.if-load.false c.requires.1,
)

pub store-requires : goal.store-requires
store-requires c =
    let ss = c.args.sets.now in
    let es = entries c.args.index.now c.args.equal.now c.args.not_equal.now in
    let ready = load_ready ss es c.load.new.target c.load.result c.load.ensures c.if-load.false c.requires.1 in
    let scanned = c.propagate-ending.ensures (length ss) ready in
    (search rules, left_sixteen ss es c.load.new.target c.load.result c.load.ensures c.if-load.false c.propagate-ending.new.sets c.propagate-ending.result scanned c.in-Entailed.is)

pub returns-in-Failed : goal.returns-in-Failed
returns-in-Failed c =
    let ss = c.args.sets.now in
    let es = entries c.args.index.now c.args.equal.now c.args.not_equal.now in
    let ready = load_ready ss es c.load.new.target c.load.result c.load.ensures c.if-load.false c.requires.1 in
    none_applied ss es c.load.new.target c.load.result c.load.ensures c.if-load.false c.propagate-ending.new.sets c.propagate-ending.result
    (c.propagate-ending.ensures (length ss) ready) c.in-Failed.is c.clear-in-Failed.ensures

pub returns-in-Entailed : goal.returns-in-Entailed
returns-in-Entailed c =
    let ss = c.args.sets.now in
    let es = entries c.args.index.now c.args.equal.now c.args.not_equal.now in
    let ready = load_ready ss es c.load.new.target c.load.result c.load.ensures c.if-load.false c.requires.1 in
    left_applied ss es c.load.new.target c.load.result c.load.ensures c.if-load.false c.propagate-ending.new.sets c.propagate-ending.result
    (c.propagate-ending.ensures (length ss) ready) c.in-Entailed.is c.store.ensures
