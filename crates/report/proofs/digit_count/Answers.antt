-- `digit_count`: one digit below 10, two below 100. Assumes nothing.
use Rattle.model.specs.Kit.{sym, arith}
use Rattle.report.proofs.{Digits.length_one, Digits.length_two, Digits.length_three}
use Rattle.report.proofs.digit_count.Goals as goal

pub returns-in-0-to-9 : goal.returns-in-0-to-9
returns-in-0-to-9 c = (sym (length_one _ (omega arith)), omega arith)

pub returns-in-10-to-99 : goal.returns-in-10-to-99
returns-in-10-to-99 c = (sym (length_two _ (omega arith) (omega arith)), omega arith)

pub returns-in_default : goal.returns-in_default
returns-in_default c = (sym (length_three _ (omega arith) (omega arith)), omega arith)
