-- What a tally and an ending mean in the words of model's definitions.
use Rattle.model.specs.Run.{finished, spent, full}
use Rattle.run_state.specs.{declared.Tally.Tally, declared.Ending.Ending, declared.Ending.TheVariants.Finished, declared.Ending.TheVariants.Spent, declared.Ending.TheVariants.Full}
use Rattle.model.specs.Run as Run

-- a tally has the nodes made and twelve counts of them
abbrev pub tally_in : Tally → Run.Tally
tally_in t = record { nodes = t.nodes; counts = t.counts }

-- an ending carries the plans listed and the nodes made
abbrev pub ending_of : Ending → Run.Ending
ending_of (Finished plans nodes) = finished plans nodes
ending_of (Spent plans nodes) = spent plans nodes
ending_of (Full plans nodes) = full plans nodes
