-- A question by its number: two questions with one number are one. Assumes nothing.
use Rattle.model.specs.Kit.{◌≡◌, refl, sym, ap, ◌∙◌, ℕ, eqb}
use Rattle.model.specs.{Lists.choose, Refusals.number_of}
use Rattle.model.specs.declared.{refusals.Question.Question}
use Rattle.model.specs.declared.refusals.Question.TheVariants as question

abbrev question_of : ℕ → Question
question_of n =
    choose (eqb n 1) question.Header (
    choose (eqb n 2) question.Variables (
    choose (eqb n 3) question.Values (
    choose (eqb n 4) question.Constraints (
    choose (eqb n 5) question.Symmetries (
    choose (eqb n 6) question.SheetLength (
    choose (eqb n 7) question.Offsets (
    choose (eqb n 8) question.InitialSet (
    choose (eqb n 9) question.ConstraintEnd (
    choose (eqb n 10) question.ConstraintSize (
    choose (eqb n 11) question.Scope (
    choose (eqb n 12) question.RowValues (
    choose (eqb n 13) question.RowOrder (
    choose (eqb n 14) question.TableLength (
    choose (eqb n 15) question.PairsPermuted (
    choose (eqb n 16) question.Respected (
    choose (eqb n 17) question.Sets (
    choose (eqb n 18) question.ListLengths (
    choose (eqb n 19) question.Entry (
    choose (eqb n 20) question.WholeRows (
    choose (eqb n 21) question.SmallValues (
    choose (eqb n 22) question.Room (
    choose (eqb n 23) question.Columns (
    choose (eqb n 24) question.TwoLists (
    choose (eqb n 25) question.FirstAscends (
    choose (eqb n 26) question.SecondAscends (
    choose (eqb n 27) question.MergeRoom (
    choose (eqb n 28) question.WholePairs (
    choose (eqb n 29) question.PairPlaces (
    choose (eqb n 30) question.NoCircle (
    choose (eqb n 31) question.Owner (
    choose (eqb n 32) question.FreeSlot (
    choose (eqb n 33) question.TableSize (
    choose (eqb n 34) question.HeldKey (
    choose (eqb n 35) question.CopyRoom (
    choose (eqb n 36) question.Block (
    choose (eqb n 37) question.FreeSeat (
    choose (eqb n 38) question.HeldSeat (
    choose (eqb n 39) question.Position (
    choose (eqb n 40) question.SheetRoom (
    choose (eqb n 41) question.WholeHeads (
    choose (eqb n 42) question.HeadShape (
    choose (eqb n 43) question.SameSheet (
    choose (eqb n 44) question.NoneFull (
    question.BufferLength))))))))))))))))))))))))))))))))))))))))))))

question_is : (q : Question) → question_of (number_of q) ≡ q
question_is question.Header = refl
question_is question.Variables = refl
question_is question.Values = refl
question_is question.Constraints = refl
question_is question.Symmetries = refl
question_is question.SheetLength = refl
question_is question.Offsets = refl
question_is question.InitialSet = refl
question_is question.ConstraintEnd = refl
question_is question.ConstraintSize = refl
question_is question.Scope = refl
question_is question.RowValues = refl
question_is question.RowOrder = refl
question_is question.TableLength = refl
question_is question.PairsPermuted = refl
question_is question.Respected = refl
question_is question.Sets = refl
question_is question.ListLengths = refl
question_is question.Entry = refl
question_is question.WholeRows = refl
question_is question.SmallValues = refl
question_is question.Room = refl
question_is question.Columns = refl
question_is question.TwoLists = refl
question_is question.FirstAscends = refl
question_is question.SecondAscends = refl
question_is question.MergeRoom = refl
question_is question.WholePairs = refl
question_is question.PairPlaces = refl
question_is question.NoCircle = refl
question_is question.Owner = refl
question_is question.FreeSlot = refl
question_is question.TableSize = refl
question_is question.HeldKey = refl
question_is question.CopyRoom = refl
question_is question.Block = refl
question_is question.FreeSeat = refl
question_is question.HeldSeat = refl
question_is question.Position = refl
question_is question.SheetRoom = refl
question_is question.WholeHeads = refl
question_is question.HeadShape = refl
question_is question.SameSheet = refl
question_is question.NoneFull = refl
question_is question.BufferLength = refl

pub same_question : (p q : Question) → number_of p ≡ number_of q → p ≡ q
same_question p q e = sym (question_is p) ∙ ap question_of e ∙ question_is q
