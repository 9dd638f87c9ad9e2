-- `filter::question` meets its contract. Assumes nothing.
use Rattle.model.specs.Kit.{⊎_elim, rules, arith, refl, ap, ◌∙◌}
use Rattle.filter.proofs.Questions.{no_set, many_sets, other_equals, other_others, long_lists, wrong_entry, all_right}
use Rattle.model.specs.{Verdict.Verdict, Verdict.refused, Refusals.number_of, declared.refusals.Refusal.Refusal}
use Rattle.filter.proofs.question.Goals as goal

abbrev told : Refusal → Verdict
told by = refused (number_of by.question) by.item

pub returns-then-n-eq0 : goal.returns-then-n-eq0
returns-then-n-eq0 c =
    ap told c.from.ensures
    ∙ ⊎_elim (λ w. no_set c.args.sets.now c.args.index.now c.args.equal.now c.args.not_equal.now (omega (arith, w)))
    (λ w. many_sets c.args.sets.now c.args.index.now c.args.equal.now c.args.not_equal.now w.1) c.then-n-eq0.either

pub returns-then-equal-m : goal.returns-then-equal-m
returns-then-equal-m c =
    ap told c.from-then-equal-m.ensures
    ∙ ⊎_elim (λ w. other_equals c.args.sets.now c.args.index.now c.args.equal.now c.args.not_equal.now (omega arith) (search rules) w)
    (⊎_elim (λ w. other_others c.args.sets.now c.args.index.now c.args.equal.now c.args.not_equal.now (omega arith) (search rules) w.1)
    (λ w. long_lists c.args.sets.now c.args.index.now c.args.equal.now c.args.not_equal.now (omega arith) (search rules) w.2)) c.then-equal-m.either

pub returns-in-Some : goal.returns-in-Some
returns-in-Some c =
    wrong_entry c.args.sets.now c.args.index.now c.args.equal.now c.args.not_equal.now (omega arith) (search rules) c.if-equal-m.false
    c.if-not_equal-m.false c.if-m-gt192.false c.in-Some.item c.in-Some.ensures.1 (λ e. omega (arith, c.in-Some.ensures.0, e))

pub returns-in-None : goal.returns-in-None
returns-in-None c =
    all_right c.args.sets.now c.args.index.now c.args.equal.now c.args.not_equal.now (omega arith) (search rules) c.if-equal-m.false
    c.if-not_equal-m.false c.if-m-gt192.false _ c.in-None.ensures refl

pub first_wrong-requires : goal.first_wrong-requires
first_wrong-requires c = (c.if-equal-m.false, c.if-not_equal-m.false)
