-- The questions as the code puts them, and what their answers say. Assumes nothing.
use Rattle.model.specs.Kit.{◌≡◌, sym, ap, ap₂, ◌∙◌, subst, Bool, true, false, List, ℕ, ◌+◌, ◌*◌, ◌/◌, ◌%◌, ◌≤◌, ◌<◌, mul-le-mul, mul-le-mul_right, arith, length, get_or, T, leb, ltb, eqb, ltb→lt}
use Rattle.model.specs.Kit.{lt→ltb, below_more, leb-true, eqb-true, lt-leb, le-leb, eq-eqb}
use Rattle.model.specs.{Lists.both, Lists.all, Sheet.«word», Verdict.Verdict, Verdict.accepted, Verdict.refused, Verdict.ask, Verdict.is_accepted}
use Rattle.model.specs.{Refusals.number_of, Room.refusal, Room.outcome_of, Room.room_after}
use Rattle.model.specs.declared.{refusals.Question.Question}
use Rattle.std.proofs.Common.{Result, Err}
use Rattle.list_columns.specs.Meaning.{means}
use native.Mathlib.Nat.{div-add-mod'}
use Rattle.model.proofs.Lists.{all_i, all_e, of_T, T_of, TExt, not_of, mem_get_d, place_of, both_i, both_l, both_r, never}
use Rattle.model.proofs.Accepted.{asked}
use Rattle.list_columns.specs.Columns.{variables, plans, body, whole_rows, small_values, bytes_verdict, is_store, rows_verdict}
use Rattle.list_columns.specs.Inner.Claims.{Store}

-- ---- 20
pub record Whole (n : ℕ) (b : List ℕ) : Type 0 where
  pub some : 1 ≤ n
  pub most : n ≤ 12
  pub whole : length b % n ≡ 0
  pub many : length b / n ≤ 4096

pub whole_e : (n : ℕ) (b : List ℕ) → T (whole_rows n b) → Whole n b
unfolding whole_rows
whole_e n b t =
    let places = both (leb 1 n) (leb n 12) in
    let rows = both (eqb (length b % n) 0) (leb (length b / n) 4096) in
    let p : T places = both_l places rows t in
    let r : T rows = both_r places rows t in
    record {
      some = leb-true 1 n (of_T _ (both_l (leb 1 n) (leb n 12) p));
      most = leb-true n 12 (of_T _ (both_r (leb 1 n) (leb n 12) p));
      whole = eqb-true (length b % n) 0 (of_T _ (both_l (eqb (length b % n) 0) (leb (length b / n) 4096) r));
      many = leb-true (length b / n) 4096 (of_T _ (both_r (eqb (length b % n) 0) (leb (length b / n) 4096) r));
    }

pub whole_i : {n : ℕ} {b : List ℕ} → Whole n b → T (whole_rows n b)
unfolding whole_rows
whole_i {n} {b} w =
    both_i (both (leb 1 n) (leb n 12)) (both (eqb (length b % n) 0) (leb (length b / n) 4096))
    (both_i (leb 1 n) (leb n 12) (T_of _ (le-leb 1 n w.some)) (T_of _ (le-leb n 12 w.most)))
    (both_i (eqb (length b % n) 0) (leb (length b / n) 4096) (T_of _ (eq-eqb (length b % n) 0 w.whole)) (T_of _ (le-leb (length b / n) 4096 w.many)))

-- as many bytes as rows of n bytes have, and few of them
pub cells : {n : ℕ} {b : List ℕ} → Whole n b → length b / n * n ≡ length b
cells {n} {b} w = omega (arith, div-add-mod' (length b) n)

pub few_bytes : {n : ℕ} {b : List ℕ} → Whole n b → length b ≤ 49152
few_bytes {n} {b} w = omega (arith, cells w, mul-le-mul_right n w.many)

-- ---- 21: no value before i is above `most`, which is below 16 where they all are
abbrev pub Most : List ℕ → ℕ → ℕ → Type 0
Most b i most = ((k : ℕ) → k < i → get_or b k 0 ≤ most) × (((k : ℕ) → k < i → get_or b k 0 < 16) → most < 16)

pub most_turn : (b : List ℕ) (i most next : ℕ) → get_or b i 0 ≤ next → most ≤ next → (get_or b i 0 < 16 → most < 16 → next < 16) → Most b i most → Most b (i + 1) next
most_turn b i most next here more is h =
    (below_more (λ k. get_or b k 0 ≤ next) i (λ k l. omega (arith, h.0 k l)) here, λ f. is (f i (omega arith)) (h.1 (λ k l. f k (omega arith))))

pub small_is : (b : List ℕ) (most i : ℕ) → i ≡ length b → Most b i most → ltb most 16 ≡ small_values b
unfolding small_values
small_is b most i h (upper, is) = TExt (ltb most 16) (small_values b) yes no
  where
    yes : T (ltb most 16) → T (all (λ v. ltb v 16) b)
    yes t = all_i (λ v. ltb v 16) b (λ x m. let r = place_of b x 0 m in lt→ltb x 16 (omega (arith, r.2, upper r.0 (omega (arith, r.1)), ltb→lt most 16 t)))

    no : T (all (λ v. ltb v 16) b) → T (ltb most 16)
    no t = lt→ltb most 16 (is (λ k l. ltb→lt (get_or b k 0) 16 (all_e (λ v. ltb v 16) b t (get_or b k 0) (mem_get_d b k 0 (omega arith)))))

-- ---- the verdicts
module _ (n : ℕ) (b : List ℕ) (size room : ℕ) where
  abbrev after_20 : Bool → Verdict
  after_20 small = ask small 21 0 (ask (leb size room) 22 0 accepted)

  pub no_rows : (Whole n b → ⊥) → refused 20 0 ≡ bytes_verdict n b size room
  unfolding bytes_verdict
  no_rows h = sym (ap (λ (t : Bool). ask t 20 0 (after_20 (small_values b))) (not_of (whole_rows n b) (λ t. h (whole_e n b t))))

  asked_20 : Whole n b → (small : Bool) → small_values b ≡ small → bytes_verdict n b size room ≡ after_20 small
  unfolding bytes_verdict
  asked_20 w small e = ap₂ (λ (t u : Bool). ask t 20 0 (after_20 u)) (of_T (whole_rows n b) (whole_i w)) e

  pub large : Whole n b → small_values b ≡ false → refused 21 0 ≡ bytes_verdict n b size room
  large w e = sym (asked_20 w false e)

  pub short : Whole n b → small_values b ≡ true → room < size → refused 22 0 ≡ bytes_verdict n b size room
  short w e h = sym (asked_20 w true e ∙ ap (λ (t : Bool). ask t 22 0 accepted) (lt-leb size room h))

  pub passes : Whole n b → small_values b ≡ true → size ≤ room → accepted ≡ bytes_verdict n b size room
  passes w e h = sym (asked_20 w true e ∙ ap (λ (t : Bool). ask t 22 0 accepted) (le-leb size room h))

-- what a refusal says
pub refusal_is : (n : ℕ) (b : List ℕ) (size room number item : ℕ) → bytes_verdict n b size room ≡ refused number item → (number ≤ 22) × (item ≡ 0)
unfolding bytes_verdict
refusal_is n b size room number item e = go (whole_rows n b) (small_values b) (leb size room) e
  where
    same : {k : ℕ} → refused k 0 ≡ refused number item → k ≤ 22 → (number ≤ 22) × (item ≡ 0)
    same {k} q h = let x : k ≡ number = cc in let y : 0 ≡ item = cc in (omega arith, sym y)

    go : (x y z : Bool) → ask x 20 0 (ask y 21 0 (ask z 22 0 accepted)) ≡ refused number item → (number ≤ 22) × (item ≡ 0)
    go false y z q = same q (omega arith)
    go true false z q = same q (omega arith)
    go true true false q = same q (omega arith)
    go true true true q = never (cc)

-- what an accepted answer says
pub record Passed (n : ℕ) (b : List ℕ) (size room : ℕ) : Type 0 where
  pub rows : Whole n b
  pub small : small_values b ≡ true
  pub fits : size ≤ room

pub passed : (n : ℕ) (b : List ℕ) (size room : ℕ) → bytes_verdict n b size room ≡ accepted → Passed n b size room
unfolding bytes_verdict
passed n b size room e =
    let t : T (is_accepted (bytes_verdict n b size room)) = subst (λ (v : Verdict). T (is_accepted v)) (sym e) tt in
    let q₁ = asked (whole_rows n b) 20 0 (ask (small_values b) 21 0 (ask (leb size room) 22 0 accepted)) t in
    let q₂ = asked (small_values b) 21 0 (ask (leb size room) 22 0 accepted) q₁.1 in
    let q₃ = asked (leb size room) 22 0 accepted q₂.1 in
    record { rows = whole_e n b q₁.0; small = of_T _ q₂.0; fits = leb-true size room (of_T _ q₃.0) }

-- ---- 23
pub store_e : (s : List ℕ) → T (is_store s) → Store s
unfolding is_store
store_e s t =
    let a = leb 8 (length s) in
    let b = eqb («word» s 4) 8 in
    let c = eqb (length s) («word» s 6) in
    let d = eqb (length s) (8 + variables s * plans s) in
    let u = both_r a (both b (both c d)) t in
    let v = both_r b (both c d) u in
    record {
      long = leb-true 8 (length s) (of_T a (both_l a (both b (both c d)) t));
      offset = eqb-true («word» s 4) 8 (of_T b (both_l b (both c d) u));
      total = eqb-true (length s) («word» s 6) (of_T c (both_l c d v));
      size = eqb-true (length s) (8 + variables s * plans s) (of_T d (both_r c d v));
    }

pub store_i : {s : List ℕ} → Store s → T (is_store s)
unfolding is_store
store_i {s} w =
    let a = leb 8 (length s) in
    let b = eqb («word» s 4) 8 in
    let c = eqb (length s) («word» s 6) in
    let d = eqb (length s) (8 + variables s * plans s) in
    both_i a (both b (both c d)) (T_of a (le-leb 8 (length s) w.long))
    (both_i b (both c d) (T_of b (eq-eqb («word» s 4) 8 w.offset))
    (both_i c d (T_of c (eq-eqb (length s) («word» s 6) w.total)) (T_of d (eq-eqb (length s) (8 + variables s * plans s) w.size))))

pub no_store : (s : List ℕ) → (Store s → ⊥) → is_store s ≡ false
no_store s h = not_of (is_store s) (λ t. h (store_e s t))

-- the last of its four parts, where the others hold
pub size_asked : (s : List ℕ) (p q : ℕ) → 8 ≤ length s → «word» s 4 ≡ 8 → length s ≡ «word» s 6 → p ≡ variables s → q ≡ plans s → eqb (length s) (8 + p * q) ≡ is_store s
size_asked s p q long offset total ep eq =
    ap₂ (λ (x y : ℕ). eqb (length s) (8 + x * y)) ep eq
    ∙ TExt (eqb (length s) (8 + variables s * plans s)) (is_store s)
    (λ t. store_i (record { long = long; offset = offset; total = total; size = eqb-true (length s) (8 + variables s * plans s) (of_T _ t) }))
    (λ t. T_of _ (eq-eqb (length s) (8 + variables s * plans s) (store_e s t).size))

-- the product of two 16-bit numbers, taken without wrapping
pub product : (p q : ℕ) → p < 65536 → q < 65536 → p * q ≤ 4294836225
product p q h k = let r : p * q ≤ 65535 * 65535 = mul-le-mul {n₁ = p} {m₁ = q} {n₂ = 65535} {m₂ = 65535} (omega arith) (omega arith) in r

-- the verdict on a store is that on its bytes, and 23 is given to nothing else
pub asked_23 : (s : List ℕ) (room : ℕ) (is : Bool) → is_store s ≡ is → rows_verdict s room ≡ ask is 23 0 (bytes_verdict (variables s) (body s) (length (body s)) room)
unfolding rows_verdict
asked_23 s room is e = ap (λ (t : Bool). ask t 23 0 (bytes_verdict (variables s) (body s) (length (body s)) room)) e

pub accepted_store : (s : List ℕ) (room : ℕ) → rows_verdict s room ≡ accepted → is_store s ≡ true
unfolding rows_verdict
accepted_store s room e =
    of_T _ (asked (is_store s) 23 0 (bytes_verdict (variables s) (body s) (length (body s)) room) (subst (λ (v : Verdict). T (is_accepted v)) (sym e) tt)).0

-- an answer that refuses by a question
pub refused_by : (r : Result ℕ Question) (asked by : Question) (v : Verdict) (t d : List ℕ) → r ≡ Err asked → asked ≡ by → refused (number_of by) 0 ≡ v →
    (means r ≡ outcome_of v t) × (d ≡ room_after v t d)
refused_by r asked by v t d e f h = (
  ap means e ∙ ap (λ (q : Question). refusal (number_of q) 0) f ∙ ap (λ (w : Verdict). outcome_of w t) h,
  ap (λ (w : Verdict). room_after w t d) h,
)
