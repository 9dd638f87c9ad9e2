-- The filter's three questions are known by their numbers. Assumes nothing.
use Rattle.model.specs.Kit.{◌≡◌, refl, sym, ap, ◌∙◌, ℕ, eqb}
use Rattle.model.specs.{Lists.choose, Refusals.number_of, declared.refusals.Question.Question}
use Rattle.model.specs.declared.refusals.Question.TheVariants as question

-- the filter's question of a number, and another for every other number
abbrev pub named : ℕ → Question → Question
named n other = choose (eqb n 17) question.Sets (choose (eqb n 18) question.ListLengths (choose (eqb n 19) question.Entry other))

named_is : (q : Question) → named (number_of q) q ≡ q
named_is question.Header = refl
named_is question.Variables = refl
named_is question.Values = refl
named_is question.Constraints = refl
named_is question.Symmetries = refl
named_is question.SheetLength = refl
named_is question.Offsets = refl
named_is question.InitialSet = refl
named_is question.ConstraintEnd = refl
named_is question.ConstraintSize = refl
named_is question.Scope = refl
named_is question.RowValues = refl
named_is question.RowOrder = refl
named_is question.TableLength = refl
named_is question.PairsPermuted = refl
named_is question.Respected = refl
named_is question.Sets = refl
named_is question.ListLengths = refl
named_is question.Entry = refl
named_is question.WholeRows = refl
named_is question.SmallValues = refl
named_is question.Room = refl
named_is question.Columns = refl
named_is question.TwoLists = refl
named_is question.FirstAscends = refl
named_is question.SecondAscends = refl
named_is question.MergeRoom = refl
named_is question.WholePairs = refl
named_is question.PairPlaces = refl
named_is question.NoCircle = refl
named_is question.Owner = refl
named_is question.FreeSlot = refl
named_is question.TableSize = refl
named_is question.HeldKey = refl
named_is question.CopyRoom = refl
named_is question.Block = refl
named_is question.FreeSeat = refl
named_is question.HeldSeat = refl
named_is question.Position = refl
named_is question.SheetRoom = refl
named_is question.WholeHeads = refl
named_is question.HeadShape = refl
named_is question.SameSheet = refl
named_is question.NoneFull = refl
named_is question.BufferLength = refl

pub by_number : (n : ℕ) (q known : Question) → named n q ≡ known → number_of q ≡ n → q ≡ known
by_number n q known e h = sym (named_is q) ∙ ap (λ (k : ℕ). named k q) h ∙ e
