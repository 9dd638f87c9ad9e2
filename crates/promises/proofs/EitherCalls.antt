-- Two runs and the merge of their lists (specs/EitherCalls). Assumes nothing.
use Rattle.model.specs.{Refusals.number_of, declared.refusals.Question.Question}
use Rattle.std.specs.Prelude.{Result, Ok, Err}
use Rattle.model.specs.Kit.{◌≡◌, refl, sym, ap, ap₂, ◌∙◌, subst, Bool, true, false, ◌⊎◌, inl, inr, ◌↔◌, List, Memᴰ, ℕ, ◌+◌, ◌*◌, ◌%◌, ◌≤◌, arith, T, leb, ltb, eqb, length, take, drop, le-leb}
use Rattle.model.specs.Kit.{eq-eqb}
use Rattle.model.specs.Room.{wrote, refusal, outcome_of, room_after, rows_in}
use Rattle.model.specs.{Lists.both, Lists.all, Lists.flat, Sheet.problem_of, Sheet.verdict_of, Verdict.Verdict, Verdict.accepted, Verdict.ask, Verdict.is_accepted, Run.written, Claims.Leader}
use native.Mathlib.Nat.{mul-mod_left}
use lib.Seq.{take_at, drop_at}
use Rattle.model.proofs.{Lists.of_T, Lists.never, Accepted.asked, Accepted.is_accepted_lem, Demands.read_back, Room.Wide, Room.length_flat, Room.length_listed, Room.rows_back, Room.rows_wide}
use Rattle.order.specs.{Order.settling_order, Order.settles_all, Order.order_verdict, Order.Ordering, Reordered.earlier_by, RunBy.result_by, RunBy.leaders_by}
use Rattle.order.proofs.Demanded.{RanBy, ran_by}
use Rattle.block.specs.Block.{block_lent}
use Rattle.run_input.specs.Lent.{verdict_lent, problem_with, order_lent, lent_input}
use Rattle.list_merge.specs.Merge.{ascends, merged_by, merged, whole_lists, ordered_verdict, merge_verdict}
use Rattle.list_merge.specs.{Meaning.means, Calls.CallMerge}
use Rattle.list_merge.proofs.{Asking.union_length, Claimed.holds_by, Claimed.ascends_by}
use Rattle.run_state.specs.{declared.Tally.Tally, Meaning.ending_of, declared.Ending.Ending, declared.Ending.TheVariants.Finished}
use Rattle.run.specs.{Calls.CallLent}
use Rattle.promises.specs.{DemandsLent.plans_from, EitherCalls.plans_of, EitherCalls.plans_bytes, EitherCalls.InMerged, EitherCalls.EitherCalls}
use Rattle.promises.proofs.Demands.{demands_lent}
use Rattle.order.proofs.Demanded as D
use Rattle.run_input.proofs.Lent as L

⊎_map : {A B C D : Type 0} → (A → C) → (B → D) → A ⊎ B → C ⊎ D
⊎_map f g (inl a) = inl (f a)
⊎_map f g (inr b) = inr (g b)

-- ---- what a merge is handed: whole rows of n that ascend in the order
record Front (n : ℕ) (pairs bytes : List ℕ) (rows : List (List ℕ)) (plans : ℕ) : Type 0 where
  whole : length bytes % n ≡ 0
  rows_are : rows_in n bytes ≡ rows
  count : length rows ≡ plans
  ascend : T (ascends (settling_order n pairs) rows)

-- pairs that passed 28 to 30 pass them again, whatever is asked later
order_other : (n : ℕ) (pairs : List ℕ) (v w : Verdict) → T (is_accepted (order_verdict n pairs v)) → order_verdict n pairs w ≡ w
unfolding order_verdict
order_other n pairs v w t =
    let c28 = both (leb (length pairs) 128) (eqb (length pairs % 2) 0) in
    let c29 = all (λ x. ltb x n) pairs in
    let c30 = settles_all n pairs in
    let q28 = asked c28 28 0 (ask c29 29 0 (ask c30 30 0 v)) t in
    let q29 = asked c29 29 0 (ask c30 30 0 v) q28.1 in
    let q30 = asked c30 30 0 v q29.1 in
    ap (λ (x : Bool). ask x 28 0 (ask c29 29 0 (ask c30 30 0 w))) (of_T c28 q28.0) ∙ ap (λ (x : Bool). ask x 29 0 (ask c30 30 0 w)) (of_T c29 q29.0) ∙ ap (λ (x : Bool). ask x 30 0 w)
    (of_T c30 q30.0)

-- ---- a run that ended
module _ (b pairs block : List ℕ) (limit : ℕ) (out : List ℕ) (tally : Tally) (e : Ending) (after : List ℕ) (tally' : Tally) (x : CallLent b pairs block limit out tally (Ok e) after tally') where
  ran : RanBy (lent_input b pairs block) limit out (ending_of e)
  ran = ran_by (lent_input b pairs block) limit out (ending_of e) (sym x.answers)

  good : T (is_accepted (verdict_lent b pairs block))
  good = is_accepted_lem (verdict_lent b pairs block) ran.good

  some : 1 ≤ (problem_of b).variables
  some = (L.well_sheet b pairs block good).some

  few : (problem_of b).variables ≤ 12
  few = (L.well_sheet b pairs block good).few

  ordering : Ordering (problem_of b).variables (order_lent b pairs)
  ordering = L.ordering_lent b pairs block good

  passes_pairs : (w : Verdict) → order_verdict (problem_of b).variables pairs w ≡ w
  unfolding verdict_lent
  passes_pairs w = order_other (problem_of b).variables pairs (block_lent (problem_of b) block) w
      (L.both_passed (verdict_of b) (order_verdict (problem_of b).variables pairs (block_lent (problem_of b) block)) good).1

  rows : List (List ℕ)
  rows = (result_by (order_lent b pairs) (problem_with b block) limit (length out)).rows

  wide : Wide (problem_of b).variables rows
  unfolding rows
  wide = D.sized (lent_input b pairs block) (L.sound_lent b pairs block) limit out (ending_of e) (sym x.answers)

  counted : plans_of e ≡ length rows
  unfolding rows
  counted = D.counted (lent_input b pairs block) (L.sound_lent b pairs block) limit out (ending_of e) (sym x.answers)

  long : plans_of e * (problem_of b).variables ≡ length (flat rows)
  long = ap (λ (j : ℕ). j * (problem_of b).variables) counted ∙ sym (length_flat (problem_of b).variables rows wide)

  wrote_so : after ≡ written rows out
  unfolding rows
  wrote_so = x.leaves ∙ ran.wrote

  bytes_are : plans_bytes b e after ≡ flat rows
  unfolding written
  bytes_are = ap₂ take long wrote_so ∙ take_at (flat rows) (drop (length (flat rows)) out) (length (flat rows)) refl

  plans_are : plans_from b (plans_of e) after ≡ rows
  plans_are = ap (plans_from b (plans_of e)) wrote_so ∙ read_back (problem_of b).variables rows out (plans_of e) counted wide

  front : Front (problem_of b).variables pairs (plans_bytes b e after) (plans_from b (plans_of e) after) (plans_of e)
  unfolding ascends
  front = record {
    whole = ap (λ (l : List ℕ). length l % (problem_of b).variables) bytes_are ∙ ap (λ (k : ℕ). k % (problem_of b).variables) (sym long) ∙ mul-mod_left (plans_of e) (problem_of b).variables;
    rows_are = ap (rows_in (problem_of b).variables) bytes_are ∙ rows_back (problem_of b).variables rows some wide ∙ sym plans_are;
    count = length_listed (problem_of b).variables (plans_of e) after;
    ascend = ((demands_lent b pairs block limit out tally (Ok e) after tally' x).0.at_end e refl).ascend;
  }

  leaders : (plans nodes : ℕ) → e ≡ Finished plans nodes → (s : List ℕ) → Memᴰ s (plans_from b (plans_of e) after) ↔ Leader (earlier_by (order_lent b pairs)) (problem_with b block) s
  leaders plans nodes q s =
      let f = ((demands_lent b pairs block limit out tally (Ok e) after tally' x).0.at_finish plans nodes (ap Ok q)).all_leaders in
      let k : plans_of e ≡ plans = ap plans_of q in
      let a : plans_from b (plans_of e) after ≡ leaders_by (order_lent b pairs) (problem_with b block) = ap (λ (j : ℕ). plans_from b j after) k ∙ f in
      let l = ((L.demanded_lent b pairs block).leaders_ascend ran.good).1 s in
      (λ m. l.0 (subst (Memᴰ s) a m), λ m. subst (Memᴰ s) (sym a) (l.1 m))

-- ---- the merge of two such lists
is_wrote : (r : Result ℕ Question) (k : ℕ) → means r ≡ wrote k → r ≡ Ok k
is_wrote (Ok j) k h = cc
is_wrote (Err q) k h = never (cc)

module _ (n : ℕ) (pairs a b : List ℕ) (xs ys : List (List ℕ)) (i j : ℕ) (some : 1 ≤ n) (few : n ≤ 12) (o : Ordering n (settling_order n pairs)) (passes : (w : Verdict) → order_verdict n pairs w ≡ w)
    (f : Front n pairs a xs i) (g : Front n pairs b ys j) where
  abbrev text : List ℕ
  text = merged n pairs a b

  abbrev order : List ℕ
  order = settling_order n pairs

  verdict : (room : ℕ) → merge_verdict n pairs a b room ≡ ask (leb (length (merged n pairs a b)) room) 27 0 accepted
  unfolding merge_verdict whole_lists ordered_verdict merged
  verdict room =
      let last = ask (leb (length (merged_by n order a b)) room) 27 0 accepted in
      let whole : whole_lists n a b ≡ true = ap₂ both (ap₂ both (le-leb 1 n some) (le-leb n 12 few)) (ap₂ both (eq-eqb (length a % n) 0 f.whole) (eq-eqb (length b % n) 0 g.whole)) in
      let ea : ascends order (rows_in n a) ≡ true = ap (ascends order) f.rows_are ∙ of_T (ascends order xs) f.ascend in
      let eb : ascends order (rows_in n b) ≡ true = ap (ascends order) g.rows_are ∙ of_T (ascends order ys) g.ascend in
      ap (λ (t : Bool). ask t 24 0 (order_verdict n pairs (ordered_verdict n order a b room))) whole ∙ passes (ordered_verdict n order a b room)
      ∙ ap₂ (λ (t u : Bool). ask t 25 0 (ask u 26 0 last)) ea eb

  short : length (merged n pairs a b) ≤ i * n + j * n
  unfolding merged merged_by
  short =
      omega (
        arith,
        union_length order (rows_in n a) (rows_in n b),
        length_flat n (rows_in n a) (rows_wide n a) ∙ ap (λ (m : ℕ). m * n) (ap length f.rows_are ∙ f.count),
        length_flat n (rows_in n b) (rows_wide n b) ∙ ap (λ (m : ℕ). m * n) (ap length g.rows_are ∙ g.count),
      )

  mem : (s : List ℕ) → Memᴰ s (rows_in n (merged n pairs a b)) ↔ (Memᴰ s xs ⊎ Memᴰ s ys)
  unfolding merged
  mem s =
      let h = holds_by n order a b some s in (
        λ m. ⊎_map (subst (Memᴰ s) f.rows_are) (subst (Memᴰ s) g.rows_are) (h.0 m),
        λ m. h.1 (⊎_map (subst (Memᴰ s) (sym f.rows_are)) (subst (Memᴰ s) (sym g.rows_are)) m),
      )

  sorted : T (ascends (settling_order n pairs) (rows_in n (merged n pairs a b)))
  unfolding merged
  sorted =
      ascends_by n order a b some record { inside = o.inside; each = o.each } (subst (λ (l : List (List ℕ)). T (ascends order l)) (sym f.rows_are) f.ascend)
      (subst (λ (l : List (List ℕ)). T (ascends order l)) (sym g.rows_are) g.ascend)

  -- a call
  module _ (room : List ℕ) (r : Result ℕ Question) (room' : List ℕ) (c : CallMerge n pairs a b room r room') where
    said : (t : Bool) → leb (length (merged n pairs a b)) (length room) ≡ t →
        (means r ≡ outcome_of (ask t 27 0 accepted) (merged n pairs a b)) × (room' ≡ room_after (ask t 27 0 accepted) (merged n pairs a b) room)
    said t q =
        let v = verdict (length room) ∙ ap (λ (u : Bool). ask u 27 0 accepted) q in
        (c.answers ∙ ap (λ (w : Verdict). outcome_of w text) v, c.leaves ∙ ap (λ (w : Verdict). room_after w text room) v)

    only_27 : (q : Question) → r ≡ Err q → (number_of q ≡ 27) × (room' ≡ room)
    only_27 q e = go (leb (length text) (length room)) refl
      where
        go : (t : Bool) → leb (length (merged n pairs a b)) (length room) ≡ t → (number_of q ≡ 27) × (room' ≡ room)
        go true t = let s = (said true t).0 in let m = ap means e in never (cc)
        go false t = let s = said false t in let h : refusal (number_of q) 0 ≡ refusal 27 0 = sym (ap means e) ∙ s.0 in let x : number_of q ≡ 27 = cc in (x, s.1)

    roomy : i * n + j * n ≤ length room → (k : ℕ) × (r ≡ Ok k)
    roomy h = let s = said true (le-leb (length text) (length room) (let l = short in omega arith)) in (length text, is_wrote r (length text) s.0)

    written_so : (k : ℕ) → r ≡ Ok k → (take k room' ≡ merged n pairs a b) × (drop k room' ≡ drop k room)
    written_so k e = go (leb (length text) (length room)) refl
      where
        go : (t : Bool) → leb (length (merged n pairs a b)) (length room) ≡ t → (take k room' ≡ merged n pairs a b) × (drop k room' ≡ drop k room)
        go true q =
            let s = said true q in
            let h : wrote k ≡ wrote (length text) = sym (ap means e) ∙ s.0 in
            let l : length text ≡ k = cc in
            (ap (take k) s.1 ∙ take_at text (drop (length text) room) k l, ap (drop k) s.1 ∙ drop_at text (drop (length text) room) k l ∙ ap (λ (m : ℕ). drop m room) l)
        go false q = let s = (said false q).0 in let m = ap means e in never (cc)

pub either_calls : EitherCalls
either_calls b c pairs block width limit out tally e after tally' x limit₂ out₂ tally₂ e₂ after₂ tally₂' y room r room' m = record {
  only_27 = only_27 n pairs fs gs xs ys (plans_of e) (plans_of e₂) s w o p f g room r room' m;
  roomy = roomy n pairs fs gs xs ys (plans_of e) (plans_of e₂) s w o p f g room r room' m;
  holds = inside;
  ascend = λ k q. subst (λ (l : List ℕ). T (ascends (order_lent b pairs) (rows_in n l))) (sym (wrote_it k q).0) (sorted n pairs fs gs xs ys (plans_of e) (plans_of e₂) s w o p f g);
  rest = λ k q. (wrote_it k q).1;
  either = λ plans nodes plans₂ nodes₂ q q₂ k u t.
      let h = inside k u t in
      let l = leaders b pairs block limit out tally e after tally' x plans nodes q t in
      let l₂ = leaders c pairs block limit₂ out₂ tally₂ e₂ after₂ tally₂' y plans₂ nodes₂ q₂ t in
      (λ z. ⊎_map l.0 l₂.0 (h.0 z), λ z. h.1 (⊎_map l.1 l₂.1 z));
}
  where
    n : ℕ
    n = (problem_of b).variables

    fs : List ℕ
    fs = plans_bytes b e after

    gs : List ℕ
    gs = plans_bytes c e₂ after₂

    xs : List (List ℕ)
    xs = plans_from b (plans_of e) after

    ys : List (List ℕ)
    ys = plans_from c (plans_of e₂) after₂

    s : 1 ≤ (problem_of b).variables
    s = some b pairs block limit out tally e after tally' x

    w : (problem_of b).variables ≤ 12
    w = few b pairs block limit out tally e after tally' x

    o : Ordering (problem_of b).variables (settling_order (problem_of b).variables pairs)
    o = ordering b pairs block limit out tally e after tally' x

    p : (v : Verdict) → order_verdict (problem_of b).variables pairs v ≡ v
    p = passes_pairs b pairs block limit out tally e after tally' x

    f : Front (problem_of b).variables pairs (plans_bytes b e after) (plans_from b (plans_of e) after) (plans_of e)
    f = front b pairs block limit out tally e after tally' x

    g : Front (problem_of b).variables pairs (plans_bytes c e₂ after₂) (plans_from c (plans_of e₂) after₂) (plans_of e₂)
    g = subst (λ (k : ℕ). Front k pairs (plans_bytes c e₂ after₂) (plans_from c (plans_of e₂) after₂) (plans_of e₂)) width (front c pairs block limit₂ out₂ tally₂ e₂ after₂ tally₂' y)

    wrote_it : (k : ℕ) → r ≡ Ok k → (take k room' ≡ merged (problem_of b).variables pairs (plans_bytes b e after) (plans_bytes c e₂ after₂)) × (drop k room' ≡ drop k room)
    wrote_it = written_so n pairs fs gs xs ys (plans_of e) (plans_of e₂) s w o p f g room r room' m

    inside : (k : ℕ) → r ≡ Ok k → (t : List ℕ) → InMerged b k room' t ↔ (Memᴰ t (plans_from b (plans_of e) after) ⊎ Memᴰ t (plans_from c (plans_of e₂) after₂))
    inside k q t =
        let h = mem n pairs fs gs xs ys (plans_of e) (plans_of e₂) s w o p f g t in
        let l = (wrote_it k q).0 in
        (λ z. h.0 (subst (λ (v : List ℕ). Memᴰ t (rows_in n v)) l z), λ z. subst (λ (v : List ℕ). Memᴰ t (rows_in n v)) (sym l) (h.1 z))
