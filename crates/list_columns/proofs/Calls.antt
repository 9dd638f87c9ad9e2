-- What callers of `to_columns` and `to_rows` hold (specs/Calls). Assumes nothing.
use Rattle.model.specs.Kit.{◌≡◌, refl, ap, ap₂, ◌∙◌, subst, List, ◌++◌, ℕ, length, take, drop}
use Rattle.model.specs.{Verdict.Verdict, Verdict.accepted, Verdict.refused, Room.wrote, Room.outcome_of, Room.room_after}
use lib.Seq.{take-append_seam, drop-append_seam}
use Rattle.model.proofs.Lists.{never}
use Rattle.list_columns.specs.Columns.{columns_of, rows_of, variables, columns_verdict, rows_verdict}
use Rattle.list_columns.specs.Calls.{CallColumns, CallRows, Wrote, RowsBackCalls, StoreBackCalls}
use Rattle.std.proofs.Common.{Result, Ok, Err}
use Rattle.model.specs.declared.{refusals.Question.Question}
use Rattle.list_columns.specs.Meaning.{means}
use Rattle.list_columns.proofs.Back.{rows_back, store_back}

is_written : (r : Result ℕ Question) (k : ℕ) → means r ≡ wrote k → r ≡ Ok k
is_written (Ok j) k e = let f : j ≡ k = cc in ap Ok f
is_written (Err asked) k e = never (cc)

-- an answer with a number of bytes: nothing was refused, and the text stands at the front
text_front : (v : Verdict) (text room : List ℕ) (k : ℕ) (after : List ℕ) → wrote k ≡ outcome_of v text → after ≡ room_after v text room → (v ≡ accepted) × (take k after ≡ text)
text_front accepted text room k after e w = (
  refl,
  ap₂ take (let n : k ≡ length text = cc in n) w ∙ take-append_seam text (drop (length text) room),
)
text_front (refused number item) text room k after e w = never (cc)

-- an accepted call wrote its text
accepted_wrote : (v : Verdict) (text text' room : List ℕ) (r : Result ℕ Question) (after : List ℕ) → means r ≡ outcome_of v text → after ≡ room_after v text room → v ≡ accepted → text ≡ text'
    → Wrote text' room r after
accepted_wrote v text text' room r after e w a q = subst (λ (t : List ℕ). Wrote t room r after) q record {
  answer = is_written r (length text) (e ∙ ap (λ (u : Verdict). outcome_of u text) a);
  front = ap (take (length text)) written ∙ take-append_seam text (drop (length text) room);
  rest = ap (drop (length text)) written ∙ drop-append_seam text (drop (length text) room);
}
  where
    written : after ≡ text ++ drop (length text) room
    written = w ∙ ap (λ (u : Verdict). room_after u text room) a

pub rows_back_calls : RowsBackCalls
rows_back_calls n b room k after c back r after₂ d l =
    let f = text_front (columns_verdict n b (length room)) (columns_of n b) room k after c.0 c.1 in
    let q = rows_back n b (length room) (length back) f.0 l in
    let e : CallRows (columns_of n b) back r after₂ = subst (λ (s : List ℕ). CallRows s back r after₂) f.1 d in
    accepted_wrote (rows_verdict (columns_of n b) (length back)) (rows_of (columns_of n b)) b back r after₂ e.0 e.1 q.0 q.1

pub store_back_calls : StoreBackCalls
store_back_calls s room k after bytes c back r after₂ d l =
    let f = text_front (rows_verdict s (length room)) (rows_of s) room k after c.0 c.1 in
    let q = store_back s (length room) (length back) bytes f.0 l in
    let e : CallColumns (variables s) (rows_of s) back r after₂ = subst (λ (t : List ℕ). CallColumns (variables s) t back r after₂) f.1 d in
    accepted_wrote (columns_verdict (variables s) (rows_of s) (length back)) (columns_of (variables s) (rows_of s)) s back r after₂ e.0 e.1 q.0 q.1
