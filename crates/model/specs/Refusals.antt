-- Refusals by name (crate model's `Question` and `Refusal`): the papers' number of each question, and what an answer that may be a refusal says.
use Rattle.std.specs.Prelude.{◌≡◌, ℕ, Result, Ok, Err}
use Rattle.model.specs.{Verdict.Verdict, Verdict.accepted, Verdict.refused, Verdict.Reply, Verdict.answered, Verdict.refusal}
use Rattle.model.specs.declared.{refusals.Question.Question, refusals.Refusal.Refusal}
use Rattle.model.specs.declared.refusals.Question.TheVariants as question

abbrev pub number_of : Question → ℕ
number_of question.Header = 1
number_of question.Variables = 2
number_of question.Values = 3
number_of question.Constraints = 4
number_of question.Symmetries = 5
number_of question.SheetLength = 6
number_of question.Offsets = 7
number_of question.InitialSet = 8
number_of question.ConstraintEnd = 9
number_of question.ConstraintSize = 10
number_of question.Scope = 11
number_of question.RowValues = 12
number_of question.RowOrder = 13
number_of question.TableLength = 14
number_of question.PairsPermuted = 15
number_of question.Respected = 16
number_of question.Sets = 17
number_of question.ListLengths = 18
number_of question.Entry = 19
number_of question.WholeRows = 20
number_of question.SmallValues = 21
number_of question.Room = 22
number_of question.Columns = 23
number_of question.TwoLists = 24
number_of question.FirstAscends = 25
number_of question.SecondAscends = 26
number_of question.MergeRoom = 27
number_of question.WholePairs = 28
number_of question.PairPlaces = 29
number_of question.NoCircle = 30
number_of question.Owner = 31
number_of question.FreeSlot = 32
number_of question.TableSize = 33
number_of question.HeldKey = 34
number_of question.CopyRoom = 35
number_of question.Block = 36
number_of question.FreeSeat = 37
number_of question.HeldSeat = 38
number_of question.Position = 39
number_of question.SheetRoom = 40
number_of question.WholeHeads = 41
number_of question.HeadShape = 42
number_of question.SameSheet = 43
number_of question.NoneFull = 44
number_of question.BufferLength = 255

-- the verdict that an answer to questions says
abbrev pub verdict_from : Result Unit Refusal → Verdict
verdict_from (Ok done) = accepted
verdict_from (Err refused_by) = refused (number_of refused_by.question) refused_by.item

-- the same of questions whose refusals have item 0
abbrev pub verdict_from_question : Result Unit Question → Verdict
verdict_from_question (Ok done) = accepted
verdict_from_question (Err asked) = refused (number_of asked) 0

-- what an answer tells, where an answer that is no refusal means something
abbrev pub reply_from : {A B : Type 0} → (A → B) → Result A Refusal → Reply B
reply_from means (Ok a) = answered (means a)
reply_from means (Err refused_by) = refusal (number_of refused_by.question) refused_by.item

abbrev pub reply_from_question : {A B : Type 0} → (A → B) → Result A Question → Reply B
reply_from_question means (Ok a) = answered (means a)
reply_from_question means (Err asked) = refusal (number_of asked) 0

-- the answer is the refusal by the question of this number, with this item
abbrev pub IsRefusal : {A : Type 0} → Result A Refusal → ℕ → ℕ → Type 0
IsRefusal r number item = (q : Question) × (number_of q ≡ number) × (r ≡ Err (record { question = q; item = item }))
