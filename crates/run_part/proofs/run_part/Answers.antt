-- `run_part::run_part` meets its contract: proofs/Done. Assumes nothing.
use Rattle.model.specs.Kit.{refl, sym, subst, rules, take}
use Rattle.model.specs.Lists.{at}
use Rattle.arrays.specs.Inner.Places.{PLANS, LAST, NUMBERS, STACK, SUPPORTS, TABLES, WORK, WANTED}
use Rattle.sheet.proofs.Whole.{zeros}
use Rattle.std.specs.Prelude.{Err}
use Rattle.model.specs.Run.{Tally}
use Rattle.run.specs.Meaning.{means}
use Rattle.run_ranges.specs.Claims.{CallRange}
use Rattle.run_between.proofs.Ends.{begun_so, put_short}
use Rattle.run_part.proofs.{Done.part_asks, Done.part_short, Done.part_bytes, Done.part_call, Done.refused_call, Done.stood}
use Rattle.run_part.proofs.run_part.Goals as goal

pub prepare-prepared-requires : goal.prepare-prepared-requires
prepare-prepared-requires c = record {
  stack_length = (zeros STACK).sized;
  work_length = (zeros WORK).sized;
  none_listed = (zeros WORK).blank PLANS;
  supports_blank = zeros SUPPORTS;
  tables_length = (zeros TABLES).sized;
  numbers_blank = zeros NUMBERS;
  unlisted = λ n. absurd (n ((zeros WORK).blank WANTED));
}

pub walk_part-part-requires : goal.walk_part-part-requires
walk_part-part-requires c = λ e. (
  _,
  part_asks _ c.args.sheet.now c.args.pairs.now c.args.block.now c.args.from.now c.args.upto.now c.args.limit c.args.list.now ((zeros WORK).blank WANTED) _ _ _ _ _ _ c.in-Ok.ensures _
      (begun_so _ _ _ _ (search rules) (λ i l. refl) c.put_path.ensures) e,
)

pub stands-requires : goal.stands-requires
stands-requires c =
    let begun = begun_so _ c.prepare-prepared.new.work _ _ (search rules) (λ i l. refl) c.put_path.ensures in
    (put_short _ _ _ begun, begun.bytes)

pub stands-requires-2 : goal.stands-requires-2
stands-requires-2 c = (
  part_short _ c.args.sheet.now c.args.pairs.now c.args.block.now c.args.from.now c.args.upto.now c.args.limit c.args.list.now ((zeros WORK).blank WANTED) _ _ _ _ _ _ c.in-Ok.ensures _
      (begun_so _ _ _ _ (search rules) (λ i l. refl) c.put_path.ensures) _ _ _ _ _ c.walk_part-part.ensures,
  part_bytes _ c.args.sheet.now c.args.pairs.now c.args.block.now c.args.from.now c.args.upto.now c.args.limit c.args.list.now ((zeros WORK).blank WANTED) _ _ _ _ _ _ c.in-Ok.ensures _
      (begun_so _ _ _ _ (search rules) (λ i l. refl) c.put_path.ensures) _ _ _ _ _ c.walk_part-part.ensures,
)

pub returns-in-Err : goal.returns-in-Err
unfolding at
returns-in-Err c =
    let begun = begun_so _ c.prepare-prepared.new.work _ _ (search rules) (λ i l. refl) c.put_path.ensures in
    let s = c.stands.ensures in
    stood _ _ _ _ _ _ _ _ _ _ _ _ s.0 s.1 s.2
    (subst (λ (t : Tally). CallRange c.args.sheet.now c.args.pairs.now c.args.block.now record {
      from = c.args.from.now;
      upto = c.args.upto.now;
      limit = c.args.limit;
      out = c.args.list.now;
      answer = means (Err c.in-Err.refusal);
      list = c.args.list.now;
      tally = t;
      last = take (at c.put_path.new.work LAST) c.stands.result.last;
    })
    (sym c.new.ensures.is) (refused_call _ _ _ _ _ _ _ _ c.in-Err.ensures _ _ begun _ s.3))

pub returns : goal.returns
unfolding at
returns c =
    let s = c.stands-2.ensures in
    stood _ _ _ _ _ _ _ _ _ _ _ _ s.0 s.1 s.2
    (part_call _ c.args.sheet.now c.args.pairs.now c.args.block.now c.args.from.now c.args.upto.now c.args.limit c.args.list.now ((zeros WORK).blank WANTED) _ _ _ _ _ _ c.in-Ok.ensures _
    (begun_so _ _ _ _ (search rules) (λ i l. refl) c.put_path.ensures) _ _ _ _ _ c.walk_part-part.ensures _ refl _ c.answered-ending.ensures _ s.3)
