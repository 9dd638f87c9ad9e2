-- The row that the symmetry makes is that of a solution, whose number the search finds.
use Rattle.families.proofs.{Rows.numbering_finding, Rows.numbering_end}
use Rattle.families.proofs.Solutions.image.Goals as goal

pub returns : goal.returns
returns c = λ p n. numbering_end n (c.find.ensures p _ (numbering_finding n (c.carry-sought.ensures p n.imaging n.finder.weighed)))

pub find-requires : goal.find-requires
find-requires c = (_, _, numbering_finding c.requires.1 (c.carry-sought.ensures c.requires.0 c.requires.1.imaging c.requires.1.finder.weighed))
