-- The store's exported calls: an outcome's numbers fit the code and the answer; answers of 12 bytes and of another length. Assumes nothing.
use Rattle.model.specs.Kit.{◌≡◌, sym, ap, ◌∙◌, Bool, true, false, List, ℕ, ◌+◌, ◌≤◌, min, arith, leb, ltb, eqb, length, drop, length-take, eq-eqb, ne_eqb}
use Rattle.model.specs.{Lists.both, Lists.either, Lists.choose, Verdict.Verdict, Verdict.accepted, Verdict.refused, Verdict.ask, Sheet.«word», Room.Outcome, Room.outcome_of, Room.wrote}
use Rattle.std.specs.Prelude.{Result, Ok, Err, MatchResult, IsOkAnd}
use Rattle.model.specs.declared.refusals.Question.{Question}
use Rattle.store.specs.Meaning.{means, means_bytes}
use Rattle.store.specs.Store.{none, table, is_table, table_in, Entries, keys_of, Action, put, fetch, remove, StoreCall, call, action_verdict, call_verdict, copied_out, size}
use Rattle.store.specs.Inner.Layout.{slot_at, slot_with, table_at, store_of, verdict_on, reply_on, bytes_after}
use Rattle.wire.specs.{Wire.wrong_length, Outcomes.outcome_code, Outcomes.outcome_answer}
use Rattle.wire.proofs.Codes.{Small, ask_small}
use Rattle.export_store.specs.{Stored.stored_code, Stored.stored_answer, Stored.stored_bytes, Stored.stored_room, Inner.Fits.OutcomeFits}

-- ---- an outcome fits
-- every refusal has item 0
ask_plain : (t : Bool) (number : ℕ) (later : Verdict) → Small later → Small (ask t number 0 later)
ask_plain t number later h = ask_small t number 0 later (omega arith) (λ e. h)

action_small : (es : Entries) (key : ℕ) (a : Action) → Small (action_verdict es key a)
unfolding action_verdict
action_small es key (put t) = ask_plain (leb (length t) 2048) 33 _ (ask_plain (either (is_table (es key)) (ltb (length (keys_of es)) 4)) 32 accepted tt)
action_small es key (fetch room) = ask_plain (is_table (es key)) 34 _ (ask_plain (leb (length (table_in (es key))) (length room)) 35 accepted tt)
action_small es key remove = ask_plain (is_table (es key)) 34 accepted tt

verdict_on_small : (b : List ℕ) (x : StoreCall) → Small (verdict_on b x)
unfolding verdict_on call_verdict
verdict_on_small b (call o key a) = ask_plain (eqb (length b) size) 255 _ (ask_plain (ltb o 4) 31 _ (action_small (store_of b o) key a))

-- no table has over 2,048 bytes
table_short : (b : List ℕ) (o key : ℕ) → length (table_in (store_of b o key)) ≤ 2048
unfolding store_of table_at
table_short b o key = go (both (ltb o 4) (ltb (slot_with b o key) 4))
  where
    go : (t : Bool) → length (table_in (choose t (table (table_at b (slot_at o (slot_with b o key)))) none)) ≤ 2048
    go true = omega (arith, length-take (min 2048 («word» b (slot_at o (slot_with b o key) + 2))) (drop (slot_at o (slot_with b o key) + 4) b))
    go false = omega arith

written_short : (b : List ℕ) (o key : ℕ) (a : Action) → length (copied_out a (store_of b o key)) ≤ 2048
written_short b o key (put t) = omega arith
written_short b o key (fetch room) = table_short b o key
written_short b o key remove = omega arith

pub reply_holds : (b : List ℕ) (x : StoreCall) → OutcomeFits (reply_on b x).outcome
unfolding reply_on
reply_holds b (call o key a) = go (verdict_on b (call o key a)) (verdict_on_small b (call o key a))
  where
    go : (v : Verdict) → Small v → OutcomeFits (outcome_of v (copied_out a (store_of b o key)))
    go accepted h = let l = written_short b o key a in omega arith
    go (refused number item) h = h

-- put and remove write no bytes
pub told_none : (P : Unit → ℕ → Type 0) (r : Result Unit Question) (s : Result ℕ Question) → MatchResult r (λ done. IsOkAnd s (P done)) (λ asked. s ≡ Err asked) →
    ((done : Unit) (bytes : ℕ) → P done bytes → bytes ≡ 0) → means_bytes s ≡ means r
told_none P (Ok done) (Ok bytes) h nought = ap wrote (nought done bytes h)
told_none P (Ok done) (Err asked) h nought = absurd h
told_none P (Err asked) s h nought = ap means_bytes h

-- ---- by the answer's length
module _ {A : Type 0} (yes other : A) (answer : List ℕ) where
  short : (length answer ≡ 12 → ⊥) → other ≡ choose (eqb (length answer) 12) yes other
  short h = sym (ap (λ (t : Bool). choose t yes other) (ne_eqb (length answer) 12 h))

  full : length answer ≡ 12 → yes ≡ choose (eqb (length answer) 12) yes other
  full h = sym (ap (λ (t : Bool). choose t yes other) (eq-eqb (length answer) 12 h))

module _ (b : List ℕ) (x : StoreCall) (answer : List ℕ) where
  -- the three things said of a call that may change the store
  abbrev pub Answered : ℕ → List ℕ → List ℕ → Type 0
  Answered n c d = (n ≡ stored_code b x answer) × ((c ≡ stored_bytes b x answer) × (d ≡ stored_answer b x answer))

  pub unanswered : (length answer ≡ 12 → ⊥) → Answered wrong_length b answer
  unfolding stored_code stored_bytes stored_answer
  unanswered h = (short (outcome_code (reply_on b x).outcome) wrong_length answer h, (short (bytes_after b x) b answer h, short (outcome_answer (reply_on b x).outcome answer) answer answer h))

  -- an outcome told
  module _ (h : length answer ≡ 12) (r : Outcome) (e : r ≡ (reply_on b x).outcome) (n : ℕ) (d : List ℕ) (f : n ≡ outcome_code r) (g : d ≡ outcome_answer r answer) where
    code_told : n ≡ stored_code b x answer
    unfolding stored_code
    code_told = f ∙ ap outcome_code e ∙ full (outcome_code (reply_on b x).outcome) wrong_length answer h

    answer_told : d ≡ stored_answer b x answer
    unfolding stored_answer
    answer_told = g ∙ ap (λ (q : Outcome). outcome_answer q answer) e ∙ full (outcome_answer (reply_on b x).outcome answer) answer answer h

    pub answered : (c : List ℕ) → c ≡ bytes_after b x → Answered n c d
    unfolding stored_bytes
    answered c k = (code_told, (k ∙ full (bytes_after b x) b answer h, answer_told))

-- the same of a fetch, which may change its room
module _ (b : List ℕ) (o key : ℕ) (room answer : List ℕ) where
  abbrev pub Fetched : ℕ → List ℕ → List ℕ → Type 0
  Fetched n c d = (n ≡ stored_code b (call o key (fetch room)) answer) × ((c ≡ stored_room b o key room answer) × (d ≡ stored_answer b (call o key (fetch room)) answer))

  pub unfetched : (length answer ≡ 12 → ⊥) → Fetched wrong_length room answer
  unfolding stored_room
  unfetched h = let r = unanswered b (call o key (fetch room)) answer h in (r.0, (short (reply_on b (call o key (fetch room))).room room answer h, r.1.1))

  pub fetched : length answer ≡ 12 → (r : Outcome) → r ≡ (reply_on b (call o key (fetch room))).outcome → (n : ℕ) (d : List ℕ) → n ≡ outcome_code r → d ≡ outcome_answer r answer →
      (c : List ℕ) → c ≡ (reply_on b (call o key (fetch room))).room → Fetched n c d
  unfolding stored_room
  fetched h r e n d f g c k = (
    code_told b (call o key (fetch room)) answer h r e n d f g,
    (k ∙ full (reply_on b (call o key (fetch room))).room room answer h, answer_told b (call o key (fetch room)) answer h r e n d f g),
  )
