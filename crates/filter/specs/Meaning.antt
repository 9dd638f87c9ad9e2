-- What the answer of the filter means.
use Rattle.std.specs.Prelude.{Result}
use Rattle.model.specs.Nogood.{FilterEnding, failed, entailed, consistent, FilterAnswer}
use Rattle.model.specs.{Refusals.reply_from, declared.refusals.Refusal.Refusal}
use Rattle.filter.specs.declared.Ending.{Ending}
use Rattle.filter.specs.declared.Ending.TheVariants as ending

-- the ending of paper 02, #102
abbrev pub ending_of : Ending → FilterEnding
ending_of ending.Failed = failed
ending_of ending.Entailed = entailed
ending_of ending.Consistent = consistent

-- the ending, or the number and the item of paper 01 for a refusal
abbrev pub means : Result Ending Refusal → FilterAnswer
means r = reply_from ending_of r
