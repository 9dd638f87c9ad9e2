-- Whether an entry has a key. Assumes nothing.
use Rattle.model.specs.Kit.{sym, subst, T, arith}
use Rattle.model.specs.Lists.{at}
use Rattle.run_entry.proofs.is_same.Goals as goal

pub returns-then-work-s : goal.returns-then-work-s
returns-then-work-s c = λ e. absurd (subst T (sym e) tt)

pub returns-then-work-s-2 : goal.returns-then-work-s-2
returns-then-work-s-2 c = λ e. absurd (subst T (sym e) tt)

pub returns-then-work-s-3 : goal.returns-then-work-s-3
returns-then-work-s-3 c = λ e. absurd (subst T (sym e) tt)

pub overflow_sub-numbers : goal.overflow_sub-numbers
unfolding at
overflow_sub-numbers c = omega arith

pub overflow_sub-numbers-2 : goal.overflow_sub-numbers-2
unfolding at
overflow_sub-numbers-2 c = omega arith

pub returns-then-numbers-work : goal.returns-then-numbers-work
returns-then-numbers-work c = λ e. absurd (subst T (sym e) tt)

pub returns : goal.returns
unfolding at
returns c = λ e. record { depth = omega arith; low_is = omega arith; good_is = omega arith; fits = omega arith; room = omega arith; sets = c.same_sets.ensures e }
