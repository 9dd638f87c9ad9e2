-- The papers' numbers tell the questions apart, so an answer is known by what it says. Assumes nothing.
use Rattle.model.specs.Kit.{◌≡◌, refl, sym, ap, ◌∙◌, List, [], ◌∷◌, ℕ, ◌-◌, get_or}
use Rattle.std.specs.Prelude.{Result, Ok, Err}
use Rattle.model.specs.{Verdict.accepted, Verdict.refused, Verdict.refusal, Refusals.number_of, Refusals.verdict_from, Refusals.reply_from, Refusals.IsRefusal}
use Rattle.model.specs.declared.{refusals.Question.Question, refusals.Refusal.Refusal}
use Rattle.model.proofs.Lists.{never}
use Rattle.model.specs.declared.refusals.Question.TheVariants as question

-- the questions by their numbers, but for the last
abbrev numbered : List Question
numbered =
    question.Header ∷ question.Variables ∷ question.Values ∷ question.Constraints ∷ question.Symmetries ∷ question.SheetLength
    ∷ question.Offsets ∷ question.InitialSet ∷ question.ConstraintEnd ∷ question.ConstraintSize ∷ question.Scope ∷ question.RowValues
    ∷ question.RowOrder ∷ question.TableLength ∷ question.PairsPermuted ∷ question.Respected ∷ question.Sets ∷ question.ListLengths
    ∷ question.Entry ∷ question.WholeRows ∷ question.SmallValues ∷ question.Room ∷ question.Columns ∷ question.TwoLists
    ∷ question.FirstAscends ∷ question.SecondAscends ∷ question.MergeRoom ∷ question.WholePairs ∷ question.PairPlaces ∷ question.NoCircle
    ∷ question.Owner ∷ question.FreeSlot ∷ question.TableSize ∷ question.HeldKey ∷ question.CopyRoom ∷ question.Block
    ∷ question.FreeSeat ∷ question.HeldSeat ∷ question.Position ∷ question.SheetRoom ∷ question.WholeHeads ∷ question.HeadShape
    ∷ question.SameSheet ∷ question.NoneFull
    ∷ []

question_of : ℕ → Question
question_of n = get_or numbered (n - 1) question.BufferLength

back : (q : Question) → question_of (number_of q) ≡ q
unfolding question_of
back question.Header = refl
back question.Variables = refl
back question.Values = refl
back question.Constraints = refl
back question.Symmetries = refl
back question.SheetLength = refl
back question.Offsets = refl
back question.InitialSet = refl
back question.ConstraintEnd = refl
back question.ConstraintSize = refl
back question.Scope = refl
back question.RowValues = refl
back question.RowOrder = refl
back question.TableLength = refl
back question.PairsPermuted = refl
back question.Respected = refl
back question.Sets = refl
back question.ListLengths = refl
back question.Entry = refl
back question.WholeRows = refl
back question.SmallValues = refl
back question.Room = refl
back question.Columns = refl
back question.TwoLists = refl
back question.FirstAscends = refl
back question.SecondAscends = refl
back question.MergeRoom = refl
back question.WholePairs = refl
back question.PairPlaces = refl
back question.NoCircle = refl
back question.Owner = refl
back question.FreeSlot = refl
back question.TableSize = refl
back question.HeldKey = refl
back question.CopyRoom = refl
back question.Block = refl
back question.FreeSeat = refl
back question.HeldSeat = refl
back question.Position = refl
back question.SheetRoom = refl
back question.WholeHeads = refl
back question.HeadShape = refl
back question.SameSheet = refl
back question.NoneFull = refl
back question.BufferLength = refl

pub number_of-injective : (q r : Question) → number_of q ≡ number_of r → q ≡ r
number_of-injective q r e = sym (back q) ∙ ap question_of e ∙ back r

-- ---- refusals by their numbers and items
pub refusal_known : {A : Type 0} (a b : Refusal) → number_of a.question ≡ number_of b.question → a.item ≡ b.item → ◌≡◌ {A = Result A Refusal} (Err a) (Err b)
refusal_known {A} a b n i =
    ap {B = Result A Refusal} (λ (q : Question). Err (record { question = q; item = a.item })) (number_of-injective a.question b.question n)
    ∙ ap {B = Result A Refusal} (λ (k : ℕ). Err (record { question = b.question; item = k })) i

pub refusal_is : {A : Type 0} (by : Refusal) (number item : ℕ) → number_of by.question ≡ number → by.item ≡ item → IsRefusal {A = A} (Err by) number item
refusal_is by number item n i = (by.question, n, ap (λ (k : ℕ). Err (record { question = by.question; item = k })) i)

-- ---- answers by what they say
pub is_accepted_answer : (r : Result Unit Refusal) → verdict_from r ≡ accepted → r ≡ Ok tt
is_accepted_answer (Ok done) e = refl
is_accepted_answer (Err by) e = never (cc)

pub is_refused : (r : Result Unit Refusal) (number item : ℕ) → verdict_from r ≡ refused number item → IsRefusal r number item
is_refused (Ok done) number item e = never (cc)
is_refused (Err by) number item e = refusal_is by number item (let n : number_of by.question ≡ number = cc in n) (let i : by.item ≡ item = cc in i)

pub refused_said : (r : Result Unit Refusal) (number item : ℕ) → IsRefusal r number item → verdict_from r ≡ refused number item
refused_said r number item h = ap verdict_from h.2 ∙ ap (λ (k : ℕ). refused k item) h.1

module _ {A B : Type 0} (f : A → B) where
  pub is_refusal : (r : Result A Refusal) (number item : ℕ) → reply_from f r ≡ refusal number item → IsRefusal r number item
  is_refusal (Ok a) number item e = never (cc)
  is_refusal (Err by) number item e = refusal_is by number item (let n : number_of by.question ≡ number = cc in n) (let i : by.item ≡ item = cc in i)

  pub refusal_said : (r : Result A Refusal) (number item : ℕ) → IsRefusal r number item → reply_from f r ≡ refusal number item
  refusal_said r number item h = ap (reply_from f) h.2 ∙ ap (λ (k : ℕ). refusal k item) h.1
