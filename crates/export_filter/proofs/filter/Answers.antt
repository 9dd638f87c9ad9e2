-- `filter`: the two refusals that need no filter, and the filter. Assumes nothing.
use Rattle.model.specs.Kit.{◌≡◌, sym, ap, ◌∙◌, ℕ, ◌*◌, ◌/◌, arith, length, replicate, length-take-le}
use Rattle.export_filter.specs.Filter.{filter_answer_code}
use Rattle.export_filter.proofs.Filtered.{odd_code, odd_bytes, even_code, even_bytes, refused_bytes, many, answer_refused}
use Rattle.export_filter.proofs.filter.Goals as goal

pub returns-then-sets-ne0 : goal.returns-then-sets-ne0
returns-then-sets-ne0 c =
    record {
      answers = odd_code c.args.sets.now c.args.index.now c.args.equal.now c.args.not_equal.now c.if-sets-ne0.true;
      leaves = odd_bytes c.args.sets.now c.args.index.now c.args.equal.now
          c.args.not_equal.now c.if-sets-ne0.true;
    }

pub returns-then-n-gt12 : goal.returns-then-n-gt12
returns-then-n-gt12 c =
    let n = length c.args.sets.now / 2 in
    let twice : length c.args.sets.now ≡ 2 * n = omega arith in
    let e = many c.args.sets.now c.args.index.now c.args.equal.now c.args.not_equal.now n twice c.if-n-gt12.true in
    record {
      answers = sym (ap filter_answer_code (answer_refused c.args.sets.now c.args.index.now c.args.equal.now c.args.not_equal.now 17 0 e))
          ∙ even_code c.args.sets.now c.args.index.now c.args.equal.now c.args.not_equal.now c.if-sets-ne0.false;
      leaves = refused_bytes c.args.sets.now c.args.index.now c.args.equal.now c.args.not_equal.now n 17 0 twice (λ i. (c.slice_known-1.given i).fits) e
          ∙ even_bytes c.args.sets.now c.args.index.now c.args.equal.now c.args.not_equal.now c.if-sets-ne0.false;
    }

pub slice_bounds-filter_words-end : goal.slice_bounds-filter_words-end
slice_bounds-filter_words-end c = sym (length-take-le {A = ℕ} (length c.args.sets.now / 2) (replicate 12 0)
    c.if-n-gt12.false)

pub filter_words-requires : goal.filter_words-requires
filter_words-requires c = omega (
  arith,
  length-take-le {A = ℕ} (length c.args.sets.now / 2) (replicate 12 0)
      c.if-n-gt12.false,
  c.if-sets-ne0.false,
)

pub returns : goal.returns
returns c =
    record {
      answers = c.filter_words.ensures.value ∙ even_code c.args.sets.now c.args.index.now c.args.equal.now c.args.not_equal.now c.if-sets-ne0.false;
      leaves = c.filter_words.ensures.sets_after ∙ even_bytes
          c.args.sets.now c.args.index.now c.args.equal.now c.args.not_equal.now c.if-sets-ne0.false;
    }
