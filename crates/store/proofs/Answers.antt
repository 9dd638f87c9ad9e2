-- What the code's answers come to, case by case. Assumes nothing.
use Rattle.model.specs.Kit.{◌≡◌, refl, sym, ap, ap₂, ◌∙◌, subst, Bool, true, false, ℕ_discrete, dec_lt, eqb, eq-eqb, ne_eqb, List, ◌++◌, ℕ, ◌+◌, ◌-◌, ◌≤◌, ◌<◌, min, arith, leb, ltb, length, take}
use Rattle.model.specs.Kit.{drop, length-drop, length-take-le, lt-ltb, le-ltb, le-leb, lt-leb}
use Rattle.model.specs.{Lists.at, Verdict.Verdict, Verdict.accepted, Verdict.refused, Verdict.ask, Sheet.«word», Written.placed, Room.Outcome, Room.wrote, Room.refusal}
use native.Mathlib.Nat.{zero-add}
use Rattle.store.specs.Store.{StoreEntry, table, is_table, table_in, Action, put, fetch, remove, call, action_verdict, call_verdict, store_after, copied_out, room_in, reply_of, size}
use Rattle.store.specs.Inner.Layout.{slot_at, table_at, slot_with, store_of, slot_for, changed, verdict_on, reply_on, bytes_after}
use Rattle.std.proofs.Common.{Result, Ok, Err}
use Rattle.model.specs.{Lists.choose, Refusals.number_of}
use Rattle.model.specs.declared.{refusals.Question.Question}
use Rattle.model.specs.declared.refusals.Question.TheVariants as question
use Rattle.store.specs.{Meaning.means, Meaning.means_bytes, Inner.Layout.asked_first}
use Rattle.store.proofs.{Slots.entry_there, Free.held_with, Free.room_left, Calls.after_accepted, Calls.after_refused, Calls.verdict_whole, Calls.verdict_wrong, Calls.means_after}

-- ---- by the verdict
module _ (b : List ℕ) (o key : ℕ) (a : Action) where
  -- what is said of an outcome and the bytes that were left
  abbrev pub Answers : Outcome → List ℕ → Type 0
  Answers r c =
      (r ≡ (reply_on b (call o key a)).outcome) × ((c ≡ bytes_after b (call o key a)) × (length b ≡ size → store_of c ≡ store_after (store_of b) (call o key a)))

  pub refuses : ((i : ℕ) → at b i < 256) → {number item : ℕ} → verdict_on b (call o key a) ≡ refused number item → Answers (refusal number item) b
  unfolding reply_on
  refuses bytes e =
      let f = after_refused b (call o key a) e in
      (sym (ap (λ (v : Verdict). (reply_of v a (store_of b o key)).outcome) e), (sym f, λ h. ap store_of (sym f) ∙ means_after b (call o key a) (h, bytes)))

  pub accepts : ((i : ℕ) → at b i < 256) → (c : List ℕ) → verdict_on b (call o key a) ≡ accepted → c ≡ changed b (call o key a) → Answers (wrote (length (copied_out a (store_of b o key)))) c
  unfolding reply_on
  accepts bytes c e q =
      let f : c ≡ bytes_after b (call o key a) = q ∙ sym (after_accepted b (call o key a) e) in
      (sym (ap (λ (v : Verdict). (reply_of v a (store_of b o key)).outcome) e), (f, λ h. ap store_of f ∙ means_after b (call o key a) (h, bytes)))

  -- of an outcome and the room that was left
  abbrev pub Leaves : Outcome → List ℕ → Type 0
  Leaves r c = (r ≡ (reply_on b (call o key a)).outcome) × (c ≡ (reply_on b (call o key a)).room)

  pub leaves_room : {number item : ℕ} → verdict_on b (call o key a) ≡ refused number item → Leaves (refusal number item) (room_in a)
  unfolding reply_on
  leaves_room e = (sym (ap (λ (v : Verdict). (reply_of v a (store_of b o key)).outcome) e), sym (ap (λ (v : Verdict). (reply_of v a (store_of b o key)).room) e))

  -- ---- the verdict
  asks_31 : length b ≡ size → 4 ≤ o → verdict_on b (call o key a) ≡ refused 31 0
  unfolding call_verdict
  asks_31 e h = verdict_whole b (call o key a) e ∙ ap (λ (t : Bool). ask t 31 0 (action_verdict (store_of b o) key a)) (le-ltb o 4 h)

  pub asks_more : length b ≡ size → o < 4 → verdict_on b (call o key a) ≡ action_verdict (store_of b o) key a
  unfolding call_verdict
  asks_more e h = verdict_whole b (call o key a) e ∙ ap (λ (t : Bool). ask t 31 0 (action_verdict (store_of b o) key a)) (lt-ltb o 4 h)

  -- ---- the questions put first
  first_no : (by : Question) → Err by ≡ asked_first (length b) o → verdict_on b (call o key a) ≡ refused (number_of by) 0
  first_no by h = go (ℕ_discrete (length b) size) (dec_lt o 4)
    where
      asks : (p q : Bool) → eqb (length b) size ≡ p → ltb o 4 ≡ q → Err by ≡ choose p (choose q (Ok (tt {0})) (Err question.Owner)) (Err question.BufferLength)
      asks p q e f = h ∙ ap₂ (λ (t u : Bool). choose t (choose u (Ok (tt {0})) (Err question.Owner)) (Err question.BufferLength)) e f

      go : Dec (length b ≡ size) → Dec (o < 4) → verdict_on b (call o key a) ≡ refused (number_of by) 0
      go (no n) d =
          let s : by ≡ question.BufferLength = (let q = asks false (ltb o 4) (ne_eqb (length b) size n) refl in cc) in
          verdict_wrong b (call o key a) n ∙ ap (λ (q : Question). refused (number_of q) 0) (sym s)
      go (yes z) (no n) =
          let s : by ≡ question.Owner = (let q = asks true false (eq-eqb (length b) size z) (le-ltb o 4 (omega arith)) in cc) in
          asks_31 z (omega arith) ∙ ap (λ (q : Question). refused (number_of q) 0) (sym s)
      go (yes z) (yes l) = absurd (let q = asks true true (eq-eqb (length b) size z) (lt-ltb o 4 l) in cc)

  pub first_yes : Ok tt ≡ asked_first (length b) o → (length b ≡ size) × (o < 4)
  first_yes h = go (ℕ_discrete (length b) size) (dec_lt o 4)
    where
      asks : (p q : Bool) → eqb (length b) size ≡ p → ltb o 4 ≡ q → Ok tt ≡ choose p (choose q (Ok (tt {0})) (Err question.Owner)) (Err question.BufferLength)
      asks p q e f = h ∙ ap₂ (λ (t u : Bool). choose t (choose u (Ok (tt {0})) (Err question.Owner)) (Err question.BufferLength)) e f

      go : Dec (length b ≡ size) → Dec (o < 4) → (length b ≡ size) × (o < 4)
      go (yes z) (yes l) = (z, l)
      go (no n) d = absurd (let q = asks false (ltb o 4) (ne_eqb (length b) size n) refl in cc)
      go (yes z) (no n) = absurd (let q = asks true false (eq-eqb (length b) size z) (le-ltb o 4 (omega arith)) in cc)

  pub refuses_first : ((i : ℕ) → at b i < 256) → (r : Result Unit Question) (e by : Question) → r ≡ Err e → e ≡ by → Err by ≡ asked_first (length b) o → Answers (means r) b
  refuses_first bytes r e by f g h =
      subst (λ (x : Outcome). Answers x b) (sym (ap means f ∙ ap (λ (q : Question). refusal (number_of q) 0) g)) (refuses bytes (first_no by h))

  pub leaves_first : (r : Result ℕ Question) (e by : Question) → r ≡ Err e → e ≡ by → Err by ≡ asked_first (length b) o → Leaves (means_bytes r) (room_in a)
  leaves_first r e by f g h =
      subst (λ (x : Outcome). Leaves x (room_in a)) (sym (ap means_bytes f ∙ ap (λ (q : Question). refusal (number_of q) 0) g)) (leaves_room (first_no by h))

module _ (b : List ℕ) (o key : ℕ) (whole : length b ≡ size) (own : o < 4) where
  module _ (bytes : (i : ℕ) → at b i < 256) (t : List ℕ) where
    slots : action_verdict (store_of b o) key (put t) ≡ ask (leb (length t) 2048) 33 0 (ask (ltb (slot_for b o key) 4) 32 0 accepted)
    unfolding action_verdict
    slots = ap (λ (u : Bool). ask (leb (length t) 2048) 33 0 (ask u 32 0 accepted)) (room_left b o own bytes key)

    pub put_33 : 2048 < length t → verdict_on b (call o key (put t)) ≡ refused 33 0
    put_33 h = asks_more b o key (put t) whole own ∙ slots ∙ ap (λ (u : Bool). ask u 33 0 (ask (ltb (slot_for b o key) 4) 32 0 accepted)) (lt-leb (length t) 2048 h)

    short : length t ≤ 2048 → verdict_on b (call o key (put t)) ≡ ask (ltb (slot_for b o key) 4) 32 0 accepted
    short h = asks_more b o key (put t) whole own ∙ slots ∙ ap (λ (u : Bool). ask u 33 0 (ask (ltb (slot_for b o key) 4) 32 0 accepted)) (le-leb (length t) 2048 h)

    pub put_32 : length t ≤ 2048 → 4 ≤ slot_for b o key → verdict_on b (call o key (put t)) ≡ refused 32 0
    put_32 h k = short h ∙ ap (λ (u : Bool). ask u 32 0 accepted) (le-ltb (slot_for b o key) 4 k)

    pub put_yes : length t ≤ 2048 → slot_for b o key < 4 → verdict_on b (call o key (put t)) ≡ accepted
    put_yes h k = short h ∙ ap (λ (u : Bool). ask u 32 0 accepted) (lt-ltb (slot_for b o key) 4 k)

  pub remove_34 : 4 ≤ slot_with b o key → verdict_on b (call o key remove) ≡ refused 34 0
  unfolding action_verdict
  remove_34 h = asks_more b o key remove whole own ∙ ap (λ (u : Bool). ask u 34 0 accepted) (held_with b o own key ∙ le-ltb (slot_with b o key) 4 h)

  pub remove_yes : slot_with b o key < 4 → verdict_on b (call o key remove) ≡ accepted
  unfolding action_verdict
  remove_yes h = asks_more b o key remove whole own ∙ ap (λ (u : Bool). ask u 34 0 accepted) (held_with b o own key ∙ lt-ltb (slot_with b o key) 4 h)

  module _ (room : List ℕ) where
    pub fetch_34 : 4 ≤ slot_with b o key → verdict_on b (call o key (fetch room)) ≡ refused 34 0
    unfolding action_verdict
    fetch_34 h =
        asks_more b o key (fetch room) whole own
        ∙ ap (λ (u : Bool). ask u 34 0 (ask (leb (length (table_in (store_of b o key))) (length room)) 35 0 accepted)) (held_with b o own key ∙ le-ltb (slot_with b o key) 4 h)

    -- the slot was found, and n is the length of its table
    module _ (p n : ℕ) (held : slot_with b o key < 4) (found : p ≡ slot_at o (slot_with b o key)) (counted : n ≡ min 2048 («word» b (p + 2))) where
      -- the table as the code takes it
      abbrev part : List ℕ
      part = take (p + 4 + n - (p + 4)) (drop (p + 4) b)

      stands : store_of b o key ≡ table part
      unfolding table_at
      stands =
          let z : p + 4 + n - (p + 4) ≡ n = omega arith in
          entry_there b o key own held ∙ ap (λ (q : ℕ). table (table_at b q)) (sym found) ∙ ap (λ (m : ℕ). table (take m (drop (p + 4) b))) (sym counted ∙ sym z)

      pub part_length : length part ≡ n
      part_length =
          let z : p + 4 + n - (p + 4) ≡ n = omega arith in
          let d = length-drop (p + 4) b in
          ap (λ (m : ℕ). length (take m (drop (p + 4) b))) z ∙ length-take-le n (drop (p + 4) b) (omega arith)

      stands_verdict : verdict_on b (call o key (fetch room)) ≡ ask (leb n (length room)) 35 0 accepted
      unfolding action_verdict
      stands_verdict =
          asks_more b o key (fetch room) whole own ∙ ap (λ (e : StoreEntry). ask (is_table e) 34 0 (ask (leb (length (table_in e)) (length room)) 35 0 accepted)) stands
          ∙ ap (λ (m : ℕ). ask (leb m (length room)) 35 0 accepted) part_length

      pub fetch_35 : length room < n → verdict_on b (call o key (fetch room)) ≡ refused 35 0
      fetch_35 h = stands_verdict ∙ ap (λ (u : Bool). ask u 35 0 accepted) (lt-leb n (length room) h)

      pub fetch_yes : (c : List ℕ) → n ≤ length room → c ≡ placed room 0 part → Leaves b o key (fetch room) (wrote n) c
      unfolding reply_on placed
      fetch_yes c h e =
          let v = stands_verdict ∙ ap (λ (u : Bool). ask u 35 0 accepted) (le-leb n (length room) h) in (
            sym (ap₂ (λ (w : Verdict) (d : StoreEntry). (reply_of w (fetch room) d).outcome) v stands ∙ ap wrote part_length),
            e ∙ ap (λ (k : ℕ). part ++ drop k room) (zero-add (length part)) ∙ sym (ap₂ (λ (w : Verdict) (d : StoreEntry). (reply_of w (fetch room) d).room) v stands),
          )
