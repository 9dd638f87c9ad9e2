-- `filter::read` meets its contract. Assumes nothing.
use Rattle.model.specs.Kit.{sym, ◌∙◌, subst}
use Rattle.model.specs.Nogood.{Entry}
use Rattle.filter.specs.Inner.Scan.{Stepped}
use Rattle.filter.proofs.{Marks.reads_variable, Marks.reads_equality, Marks.reads_disequality, Marks.reads_absent, Marks.reads_present}
use Rattle.filter.proofs.read.Goals as goal

pub returns-in-Equality : goal.returns-in-Equality
returns-in-Equality c =
    subst (λ (e : Entry). Stepped c.args.sets.now e c.args.sets.now c.equality.result)
    (sym (reads_equality c.args.x c.args.equal c.args.not_equal c.requires c.in-Equality.v
    (sym c.in-Equality.is ∙ c.kind_of.ensures))) c.equality.ensures

pub returns-in-Disequality : goal.returns-in-Disequality
returns-in-Disequality c =
    subst (λ (e : Entry). Stepped c.args.sets.now e c.disequality.new.sets c.disequality.result)
    (sym (reads_disequality c.args.x c.args.equal c.args.not_equal c.requires c.in-Disequality.v
    (sym c.in-Disequality.is ∙ c.kind_of.ensures))) c.disequality.ensures

pub returns-in-BothAbsent : goal.returns-in-BothAbsent
returns-in-BothAbsent c =
    subst (λ (e : Entry). Stepped c.args.sets.now e c.disequality-in-BothAbsent.new.sets c.disequality-in-BothAbsent.result)
    (sym (reads_absent c.args.x c.args.equal c.args.not_equal c.requires (sym c.in-BothAbsent.is ∙ c.kind_of.ensures))) c.disequality-in-BothAbsent.ensures

pub returns-in-BothPresent : goal.returns-in-BothPresent
returns-in-BothPresent c =
    subst (λ (e : Entry). Stepped c.args.sets.now e c.args.sets.now c.equality-in-BothPresent.result)
    (sym (reads_present c.args.x c.args.equal c.args.not_equal c.requires (sym c.in-BothPresent.is ∙ c.kind_of.ensures))) c.equality-in-BothPresent.ensures

pub equality-requires : goal.equality-requires
equality-requires c = reads_variable c.args.x c.args.equal c.args.not_equal c.requires

pub disequality-requires : goal.disequality-requires
disequality-requires c = reads_variable c.args.x c.args.equal c.args.not_equal c.requires

pub disequality-requires-in-BothAbsent : goal.disequality-requires-in-BothAbsent
disequality-requires-in-BothAbsent c = reads_variable c.args.x c.args.equal c.args.not_equal c.requires

pub equality-requires-in-BothPresent : goal.equality-requires-in-BothPresent
equality-requires-in-BothPresent c = reads_variable c.args.x c.args.equal c.args.not_equal c.requires
