-- Each refusal of a run has the number of a question that has a name. Assumes nothing.
use Rattle.model.specs.Kit.{◌≡◌, Bool, true, false, List, [], ◌∷◌, ℕ, zero, suc, ◌+◌, leb, ltb}
use Rattle.model.specs.{Lists.below, Lists.both, Lists.all, Lists.ascending, Lists.rows_ascend, Problem.Problem, Verdict.Verdict, Verdict.accepted, Verdict.refused, Verdict.ask, Verdict.reply}
use Rattle.model.specs.{Verdict.refusal, Refusals.number_of}
use Rattle.model.specs.Sheet.{Header, header_of, header_verdict, sets_verdict, constraint_verdict, constraints_verdict, form_verdict, symmetries_verdict, verdict_of, problem_of, after_at, «word»}
use Rattle.model.specs.Sheet.{scope_at, rows_at}
use Rattle.model.specs.declared.refusals.Question.{Question}
use Rattle.model.proofs.Lists.{never}
use Rattle.order.specs.Order.{order_verdict}
use Rattle.block.specs.Block.{block_verdict, block_lent, block_tables}
use Rattle.sheet.specs.Meaning.{and_then}
use Rattle.run_input.specs.Lent.{verdict_lent}
use Rattle.model.specs.declared.refusals.Question.TheVariants as question

abbrev pub Asked : Verdict → Type 0
Asked v = (number item : ℕ) → v ≡ refused number item → (q : Question) × (number_of q ≡ number)

passed : Asked accepted
passed number item e = never (cc)

refuses : (q : Question) (item : ℕ) → Asked (refused (number_of q) item)
refuses q item number i e = (q, let n : number_of q ≡ number = cc in n)

asks : (b : Bool) (q : Question) (item : ℕ) (later : Verdict) → Asked later → Asked (ask b (number_of q) item later)
asks true q item later l = l
asks false q item later l = refuses q item

module _ (b : List ℕ) (h : Header) where
  header_asks : (bytes : ℕ) (later : Verdict) → Asked later → Asked (header_verdict h bytes later)
  unfolding header_verdict
  header_asks bytes later l =
      asks _ question.Header 0 _
      (asks _ question.Variables 0 _
      (asks _ question.Values 0 _
      (asks _ question.Constraints 0 _
      (asks _ question.Symmetries 0 _
      (asks _ question.SheetLength 0 _
      (asks _ question.Offsets 0 later l))))))

  sets_ask : (xs : List ℕ) (later : Verdict) → Asked later → Asked (sets_verdict b h xs later)
  unfolding sets_verdict
  sets_ask [] later l = l
  sets_ask (x ∷ xs) later l = asks _ question.InitialSet x _ (sets_ask xs later l)

  constraint_asks : (i o : ℕ) (later : Verdict) → Asked later → Asked (constraint_verdict b h i o later)
  unfolding constraint_verdict
  constraint_asks i o later l =
      asks (leb (o + 4) h.third) question.ConstraintEnd i _
      (asks (both (both (leb 1 (word b o)) (leb (word b o) 3)) (leb (word b (o + 2)) 256)) question.ConstraintSize i _
      (asks (leb (after_at b o) h.third) question.ConstraintEnd i _
      (asks (both (all (λ x. ltb x h.variables) (scope_at b o)) (ascending (scope_at b o))) question.Scope i _
      (asks (all (all (λ w. ltb w h.values)) (rows_at b o)) question.RowValues i _
      (asks (rows_ascend (rows_at b o)) question.RowOrder i later l)))))

  constraints_ask : (k i o : ℕ) (later : Verdict) → Asked later → Asked (constraints_verdict b h k i o later)
  unfolding constraints_verdict
  constraints_ask zero i o later l = asks _ question.ConstraintEnd i later l
  constraints_ask (suc k) i o later l = constraint_asks i o _ (constraints_ask k (suc i) (after_at b o) later l)

form_asks : (b : List ℕ) (later : Verdict) → Asked later → Asked (form_verdict b later)
unfolding form_verdict
form_asks b later l =
    let h = header_of b in
    header_asks b h _ _ (sets_ask b h (below h.variables) _ (constraints_ask b h h.constraints 0 h.second _ (asks _ question.TableLength 0 later l)))

symmetries_ask : (p : Problem) (i : ℕ) (gs : List (List ℕ)) → Asked (symmetries_verdict p i gs)
unfolding symmetries_verdict
symmetries_ask p i [] = passed
symmetries_ask p i (g ∷ gs) = asks _ question.PairsPermuted i _ (asks _ question.Respected i _ (symmetries_ask p (suc i) gs))

order_asks : (n : ℕ) (pairs : List ℕ) (later : Verdict) → Asked later → Asked (order_verdict n pairs later)
unfolding order_verdict
order_asks n pairs later l = asks _ question.WholePairs 0 _ (asks _ question.PairPlaces 0 _ (asks _ question.NoCircle 0 later l))

block_asks : (p : Problem) (block : List ℕ) → Asked (block_lent p block)
unfolding block_lent block_verdict
block_asks p [] = passed
block_asks p (first ∷ []) = refuses question.Block 0
block_asks p (first ∷ m ∷ []) = asks _ question.Block 0 _ (symmetries_ask p _ (block_tables p first m))
block_asks p (first ∷ m ∷ x ∷ more) = refuses question.Block 0

then_asks : (v later : Verdict) → Asked v → Asked later → Asked (and_then v later)
then_asks accepted later l m = m
then_asks (refused number item) later l m = l

pub asked_lent : (b pairs block : List ℕ) → Asked (verdict_lent b pairs block)
unfolding verdict_lent verdict_of
asked_lent b pairs block =
    then_asks _ _ (form_asks b _ (symmetries_ask (problem_of b) 0 (problem_of b).symmetries)) (order_asks _ pairs _ (block_asks (problem_of b) block))

pub reply_asked : {A : Type 0} (v : Verdict) (x : A) → Asked v → (number item : ℕ) → reply v x ≡ refusal number item → (q : Question) × (number_of q ≡ number)
reply_asked accepted x a number item e = never (cc)
reply_asked (refused n i) x a number item e = a number item (let k : n ≡ number = cc in let j : i ≡ item = cc in cc)
