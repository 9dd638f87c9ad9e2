-- The linked variables, the constraints pruned by variable, and the others of each variable. Assumes nothing.
use Rattle.model.specs.Kit.{◌^◌, ◌<◌, rules}
use Rattle.arrays_tables.proofs.{LinkNumbers.link_numbers}
use Rattle.arrays_tables.proofs.linked.linked.Goals as goal

pub returns : goal.returns
returns c =
    let small : c.all_first-set.result < 2 ^ 64 = search rules in
    link_numbers _ _ _ c.told-numbers small c.all_first-set.ensures
    c.variables_of-variables.ensures _ c.others.ensures
