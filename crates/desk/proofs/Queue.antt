-- The queue of eight slots (specs/Queue): each job's run is the run alone, every job is served in time, and no slot touches another. Assumes nothing.
use Rattle.model.specs.Kit.{◌≡◌, refl, sym, ap, ap₂, ◌∙◌, subst, Bool, true, false, not, ◌⊎◌, inl, inr, ⊎_elim, List, [], ◌∷◌, map, Memᴰ, Memᴰ-head, Memᴰ-tail, Memᴰ-not_nil}
use Rattle.model.specs.Kit.{Memᴰ-map, Memᴰ-of_map, ℕ, zero, suc, ◌+◌, ◌-◌, ◌*◌, ◌%◌, ◌≤◌, ◌<◌, ◌^◌, arith, T, leb, ltb, eqb, eqb→eq, length, take, set, get_or, replicate, length-set, ltb-true}
use Rattle.model.specs.Kit.{ltb-false, leb-false, eqb-true, eqb-false}
use Rattle.model.specs.Lists.{both, all, ascending, rows_ascend, either, any, keep, flat, below, up_from, tabulate}
use Rattle.model.specs.Sheet.{word, Header, header_of, scope_at, rows_at, after_at, permutes_pairs, problem_of, sets_verdict, constraint_verdict, constraints_verdict, symmetries_verdict}
use Rattle.model.specs.Sheet.{header_verdict}
use Rattle.model.specs.Sheet.{form_verdict, verdict_of}
use Rattle.model.specs.Run.{Ending, finished, spent, full, plans_in, nodes_in, Result, search, result_of, Answer, ended, answer_of, written, list_of, Tally, settled_by, counts_by, tally_at, tally_for}
use Rattle.model.specs.Run.{tally_of}
use Rattle.model.specs.{Problem.Problem, Problem.respects, Search.nodes, Search.is_plan, Verdict.Verdict, Verdict.accepted, Verdict.refused, Verdict.ask, Verdict.reply, Verdict.kept}
use lib.ListN.{get_or-eq_default}
use lib.Seq.{get_or-set_same, get_or-set_other, set-get_or}
use Rattle.run_cut.specs.{Parts.nodes_after, Parts.last_of, Parts.Progress, Parts.start, Parts.progress_at, Parts.go_on, Parts.added, Parts.counts_after, Between.resumed}
use Rattle.desk.specs.Queue.{Standing, running, over, goes_on, Job, new_job, list_room, turn_limit, standing_after, job_after, job_turned, Slot, free, taken, is_free, waits, slot_turned, Queue}
use Rattle.desk.specs.Queue.{empty_queue, slot_at, Found, none_found, slot, first_of, lowest_free, to_serve, QueueCall, submit, turn, release, refusal, answered, queued, idle, served, released}
use Rattle.desk.specs.Queue.{served_as, submit_reply, submit_queue, turn_reply, turn_queue, fits, release_for, release_reply, release_slot, queue_reply, queue_after, queue_end, queue_replies}
use Rattle.desk.specs.{Rounds.turned, Claims.serves, Claims.turns_in, Claims.WaitsOn, Claims.Fair, Claims.alone, Claims.GoingOn, Claims.SameAsRun}
use Rattle.desk.specs.Inner.Claims.{times_served, Throughout, Remains, HoldsRunAs, HoldsRun, AsAlone, TurnOf64, SixtyFourEach, TurnAnswers, RefusedSame, IdleExactly, PastEighth}
use Rattle.desk.specs.Inner.Claims.{ByOwnTurns, OthersNothing, Releases, LowestSlot, SlotsTaken, KeepsSlot}
use Rattle.model.proofs.Lists.{T_of, of_T, of_not, any_cons, either_l, either_r, below_i, below_e, never}
use Rattle.model.proofs.{Room.length_flat, Runs.Ended, Runs.walk, Runs.rows_counted, Runs.rows_fit, Runs.rows_sized}
use Rattle.run_cut.proofs.{Resume.stands, Resume.from_start, Resume.from_cut, Resume.in_parts, Resume.last_moves, Anywhere.no_fewer, Anywhere.counts_move}

-- ---- the first that passes a test
none_not : (k : ℕ) → none_found ≡ slot k → ⊥
none_not k e = never (cc)

pub first_in : (q : ℕ → Bool) (ks : List ℕ) (k : ℕ) → first_of q ks ≡ slot k → T (q k) × Memᴰ k ks
unfolding first_of
first_in q [] k e = absurd (none_not k e)
first_in q (j ∷ ks) k e = go (q j) refl e (first_in q ks k)
  where
    go : (b : Bool) → q j ≡ b → elim b [ true ↦ slot j | false ↦ first_of q ks ] ≡ slot k → (first_of q ks ≡ slot k → T (q k) × Memᴰ k ks) → T (q k) × Memᴰ k (j ∷ ks)
    go true f e ih = let i : j ≡ k = cc in (rw i at (T_of (q j) f), Memᴰ-head (sym i))
    go false f e ih = let r = ih e in (r.0, Memᴰ-tail r.1)

pub first_none : (q : ℕ → Bool) (ks : List ℕ) → first_of q ks ≡ none_found → (j : ℕ) → Memᴰ j ks → q j ≡ false
unfolding first_of
first_none q [] e j m = absurd (Memᴰ-not_nil m)
first_none q (i ∷ ks) e j m = go (q i) refl e (first_none q ks) m
  where
    go : (b : Bool) → q i ≡ b → elim b [ true ↦ slot i | false ↦ first_of q ks ] ≡ none_found → (first_of q ks ≡ none_found → (j : ℕ) → Memᴰ j ks → q j ≡ false) → Memᴰ j (i ∷ ks) → q j ≡ false
    go true f e ih m = absurd (none_not i (sym e))
    go false f e ih (Memᴰ-head r) = ap q r ∙ f
    go false f e ih (Memᴰ-tail m) = ih e j m

pub none_first : (q : ℕ → Bool) (ks : List ℕ) → ((j : ℕ) → Memᴰ j ks → q j ≡ false) → first_of q ks ≡ none_found
unfolding first_of
none_first q [] h = refl
none_first q (i ∷ ks) h = go (q i) (h i (Memᴰ-head refl)) (none_first q ks (λ j m. h j (Memᴰ-tail m)))
  where
    go : (b : Bool) → b ≡ false → first_of q ks ≡ none_found → elim b [ true ↦ slot i | false ↦ first_of q ks ] ≡ none_found
    go true f ih = absurd (subst T f tt)
    go false f ih = ih

first_lowest : (q : ℕ → Bool) (a n k : ℕ) → first_of q (up_from a n) ≡ slot k → (k < a + n) × ((j : ℕ) → a ≤ j → j < k → q j ≡ false)
unfolding first_of up_from
first_lowest q a zero k e = absurd (none_not k e)
first_lowest q a (suc n) k e = go (q a) refl e (first_lowest q (suc a) n k)
  where
    go : (b : Bool) → q a ≡ b → elim b [ true ↦ slot a | false ↦ first_of q (up_from (suc a) n) ] ≡ slot k →
        (first_of q (up_from (suc a) n) ≡ slot k → (k < suc a + n) × ((j : ℕ) → suc a ≤ j → j < k → q j ≡ false)) → (k < a + suc n) × ((j : ℕ) → a ≤ j → j < k → q j ≡ false)
    go true f e ih = let i : a ≡ k = cc in (omega arith, λ j l m. absurd (omega arith))
    go false f e ih = let r = ih e in (omega (arith, r.0), λ j l m. each j (eqb j a) refl l m (r.1 j))
      where
        each : (j : ℕ) (b : Bool) → eqb j a ≡ b → a ≤ j → j < k → (suc a ≤ j → j < k → q j ≡ false) → q j ≡ false
        each j true g l m h = ap q (eqb-true j a g) ∙ f
        each j false g l m h = let n = eqb-false j a g in h (omega arith) m

pub first_round : (q : ℕ → Bool) (f : ℕ → ℕ) (a n i : ℕ) → a ≤ i → i < a + n → T (q (f i)) → (j : ℕ) × (j ≤ i) × (first_of q (map f (up_from a n)) ≡ slot (f j))
unfolding first_of up_from
first_round q f a zero i l m t = absurd (omega arith)
first_round q f a (suc n) i l m t = go (q (f a)) refl (eqb a i) refl (first_round q f (suc a) n i)
  where
    go : (b : Bool) → q (f a) ≡ b → (c : Bool) → eqb a i ≡ c → (suc a ≤ i → i < suc a + n → T (q (f i)) → (j : ℕ) × (j ≤ i) × (first_of q (map f (up_from (suc a) n)) ≡ slot (f j))) →
        (j : ℕ) × (j ≤ i) × (elim b [ true ↦ slot (f a) | false ↦ first_of q (map f (up_from (suc a) n)) ] ≡ slot (f j))
    go true e c g ih = (a, l, refl)
    go false e true g ih = absurd (of_not (q (f a)) e (subst (λ (z : ℕ). T (q (f z))) (sym (eqb-true a i g)) t))
    go false e false g ih = let d = eqb-false a i g in ih (omega arith) (omega arith) t

-- ---- slots
not_free : (s : Slot) (h : Job) → s ≡ taken h → is_free s ≡ false
not_free s h e = ap is_free e

free_is : (s : Slot) → T (is_free s) → s ≡ free
free_is free t = refl
free_is (taken h) t = absurd t

pub held_lt : (l : List Slot) (k : ℕ) (h : Job) → get_or l k free ≡ taken h → k < length l
held_lt l k h e = go (ltb k (length l)) refl
  where
    go : (b : Bool) → ltb k (length l) ≡ b → k < length l
    go true f = ltb-true k (length l) f
    go false f = absurd (subst (λ (s : Slot). T (is_free s)) (sym (get_or-eq_default l free (ltb-false k (length l) f)) ∙ e) tt)

-- what holds of the slot stored, and of the others, holds of each
set_slot : (P : Slot → Type 0) (l : List Slot) (k : ℕ) (s : Slot) (j : ℕ) → P s → P (get_or l j free) → P (get_or (set l k s) j free)
set_slot P [] k s j a b = b
set_slot P (x ∷ l) zero s zero a b = a
set_slot P (x ∷ l) zero s (suc j) a b = b
set_slot P (x ∷ l) (suc k) s zero a b = b
set_slot P (x ∷ l) (suc k) s (suc j) a b = set_slot P l k s j a b

pub no_slots : (n k : ℕ) → get_or (replicate n free) k free ≡ free
no_slots zero k = refl
no_slots (suc n) zero = refl
no_slots (suc n) (suc k) = no_slots n k

-- ---- 1: every job in time
submit_next : (f : Found) (v : Verdict) (d : Queue) (h : Job) → (submit_queue f v d h).next ≡ d.next
submit_next none_found v d h = refl
submit_next (slot k) (refused number item) d h = refl
submit_next (slot k) accepted d h = refl

-- from behind the slot served, round to the same slot
moved : (n j i : ℕ) → j < i → (((n + j) % 8 + 1) % 8 + (i - suc j)) % 8 ≡ (n + i) % 8
moved n j i h = omega arith

pub round_to : (n k : ℕ) → k < 8 → (n + (k + 8 - n % 8) % 8) % 8 ≡ k
round_to n k h = omega arith

-- the slot stands i further round, i ≤ m: it is served within m + 1 turns
fair_from : (xs : List QueueCall) (d : Queue) (m i k : ℕ) → i ≤ m → i < 8 → (d.next + i) % 8 ≡ k → WaitsOn k d xs → suc m ≤ turns_in xs → T (any (serves k) (queue_replies d xs))
unfolding queue_replies turns_in below
fair_from [] d m i k l o e w t = absurd (omega arith)
fair_from (submit b limit ∷ xs) d m i k l o e w t =
    let d' = queue_after d (submit b limit) in
    let rest = any (serves k) (queue_replies d' xs) in
    let s = submit_next (lowest_free d) (verdict_of b) d (new_job b limit) in
    subst T (sym (any_cons (serves k) (queue_reply d (submit b limit)) (queue_replies d' xs)))
    (either_r (serves k (queue_reply d (submit b limit))) rest (fair_from xs d' m i k l o (ap (λ (n : ℕ). (n + i) % 8) s ∙ e) w.1 t))
fair_from (release j room ∷ xs) d m i k l o e w t =
    let d' = queue_after d (release j room) in
    let rest = any (serves k) (queue_replies d' xs) in
    subst T (sym (any_cons (serves k) (queue_reply d (release j room)) (queue_replies d' xs)))
    (either_r (serves k (queue_reply d (release j room))) rest (fair_from xs d' m i k l o e w.1 t))
fair_from (turn ∷ xs) d m i k l o e w t =
    let f : ℕ → ℕ = λ n. (d.next + n) % 8 in
    let q : ℕ → Bool = λ n. waits (slot_at d n) in
    let r = first_round q f 0 8 i (omega arith) (omega arith) (subst (λ (z : ℕ). T (waits (slot_at d z))) (sym e) w.0) in
    subst T (sym (any_cons (serves k) (queue_reply d turn) (queue_replies d' xs)))
    (go r.0 r.1 r.2 (eqb (f r.0) k) refl (fair_from xs d'))
  where
    d' : Queue
    d' = queue_after d turn

    rest : Bool
    rest = any (serves k) (queue_replies d' xs)

    go : (j : ℕ) → j ≤ i → to_serve d ≡ slot ((d.next + j) % 8) → (b : Bool) → eqb ((d.next + j) % 8) k ≡ b →
        ((m i k : ℕ) → i ≤ m → i < 8 → (d'.next + i) % 8 ≡ k → WaitsOn k d' xs → suc m ≤ turns_in xs → T (any (serves k) (queue_replies d' xs))) → T
        (either (serves k (queue_reply d turn)) rest)
    go j h s true g ih = either_l (serves k (queue_reply d turn)) rest (T_of (serves k (queue_reply d turn)) (ap (λ (x : Found). serves k (turn_reply x d)) s ∙ g))
    go j h s false g ih =
        let a : j ≡ i → ⊥ = λ z. eqb-false ((d.next + j) % 8) k g (ap (λ (n : ℕ). (d.next + n) % 8) z ∙ e) in
        let n : d'.next ≡ ((d.next + j) % 8 + 1) % 8 = ap (λ (x : Found). (turn_queue x d).next) s in
        let c : (d'.next + (i - suc j)) % 8 ≡ k = ap (λ (z : ℕ). (z + (i - suc j)) % 8) n ∙ moved d.next j i (omega arith) ∙ e in
        either_r (serves k (queue_reply d turn)) rest (ih (m - 1) (i - suc j) k (omega arith) (omega arith) c w.1 (omega arith))

pub fair : Fair
fair before xs k h w t =
    let d = queue_end empty_queue before in
    let i = (k + 8 - d.next % 8) % 8 in
    fair_from xs d 7 i k (omega arith) (omega arith) (round_to d.next k h) w t

-- a turn serves a slot that waits
to_serve_waits : (d : Queue) (k : ℕ) → to_serve d ≡ slot k → T (waits (slot_at d k))
to_serve_waits d k e = (first_in (λ n. waits (slot_at d n)) (map (λ i. (d.next + i) % 8) (below 8)) k e).0

-- ---- 2: each run is the run alone
begun : (p : Problem) → start ≡ progress_at p 0
unfolding keep last_of counts_by tabulate
begun p = refl

new_job_holds : (b : List ℕ) (limit : ℕ) → HoldsRun (new_job b limit)
new_job_holds b limit = (begun (problem_of b), inl refl)

-- the progress of a job that goes on is what a run alone makes of it
module _ (h : Job) (H : HoldsRunAs h running) where
  abbrev p : Problem
  p = problem_of h.sheet

  abbrev room : ℕ
  room = list_room (problem_of h.sheet)

  abbrev made : ℕ
  made = h.progress.made

  abbrev upto : ℕ
  upto = turn_limit h

  made_allowed : made ≤ upto
  made_allowed = go H.1
    where
      go : (made ≡ 0) ⊎ ((made < h.limit) × (made < length (nodes p)) × (alone h made ≡ record { ending = spent (length h.progress.rows) made; rows = h.progress.rows })) → made ≤ upto
      go (inl e) = omega arith
      go (inr r) = omega (arith, r.0)

  -- the turn, as the run alone up to the turn's limit
  pub turn_alone : go_on p upto room h.progress ≡ alone h upto
  turn_alone = ap (go_on p upto room) H.0 ∙ go H.1
    where
      go : (made ≡ 0) ⊎ ((made < h.limit) × (made < length (nodes p)) × (alone h made ≡ record { ending = spent (length h.progress.rows) made; rows = h.progress.rows })) →
          go_on p upto room (progress_at p made) ≡ alone h upto
      go (inl e) = ap (λ (k : ℕ). go_on p upto room (progress_at p k)) e ∙ ap (go_on p upto room) (sym (begun p)) ∙ from_start p upto room
      go (inr r) = from_cut p upto room made (length h.progress.rows) made made_allowed (ap (λ (x : Result). x.ending) r.2)

  -- the nodes made by then, counted by variable
  no_less : made ≤ nodes_in (alone h upto).ending
  no_less = subst (λ (r : Result). made ≤ nodes_in r.ending) turn_alone (no_fewer p upto room h.progress)

  counts_alone : (job_after h (alone h upto)).progress.counts ≡ counts_by settled_by (take (nodes_in (alone h upto).ending) (nodes p))
  counts_alone =
      let n = nodes_in (alone h upto).ending in
      let l = no_less in
      ap (λ (x : Progress). added x.counts (counts_by settled_by (take (n - made) (nodes_after p x.last)))) H.0 ∙ counts_move p made (n - made)
      ∙ ap (λ (k : ℕ). counts_by settled_by (take k (nodes p))) (let i : made + (n - made) ≡ n = omega arith in i)

  -- ended, or spent with the limit made
  ended_holds : (x : Ending) → (alone h upto).ending ≡ x → (alone h h.limit ≡ record { ending = x; rows = (alone h upto).rows }) → HoldsRunAs (job_after h (alone h upto)) (over x)
  unfolding tally_at
  ended_holds x e q = (q, ap nodes_in e, sym (rows_counted p upto room) ∙ ap plans_in e, counts_alone ∙ ap (λ (y : Ending). counts_by settled_by (take (nodes_in y) (nodes p))) e)

  spent_holds : (plans total : ℕ) → (alone h upto).ending ≡ spent plans total → total < h.limit → HoldsRunAs (job_after h (alone h upto)) running
  spent_holds plans total e l =
      let r = alone h upto in
      let s = stands p room upto plans total e in
      let n = nodes_in r.ending in
      let z : n ≡ upto = ap nodes_in e ∙ s.there in
      let rows : r.rows ≡ (progress_at p n).rows = s.listed ∙ ap (λ (k : ℕ). keep (is_plan p) (take k (nodes p))) (sym z) in
      let a = made_allowed in
      let last : last_of h.progress.last (take (n - made) (nodes_after p h.progress.last)) ≡ last_of [] (take n (nodes p)) =
      ap (λ (x : Progress). last_of x.last (take (n - made) (nodes_after p x.last))) H.0
      ∙ last_moves p made (n - made) ∙ ap (λ (k : ℕ). last_of [] (take k (nodes p))) (let i : made + (n - made) ≡ n = omega arith in i) in
      let c : r.ending ≡ spent (length r.rows) n = e ∙ ap₂ spent (sym (ap plans_in e) ∙ rows_counted p upto room) (sym (ap nodes_in e)) in
      let d = s.due in
      let t = s.there in (
        ap₂ (λ (x : List (List ℕ)) (y : List ℕ). let w : Progress = record { made = n; counts = counts_after p h.progress r; rows = x; last = y } in w) rows last
            ∙ ap (λ (x : List ℕ). let w : Progress = record { made = n; counts = x; rows = (progress_at p n).rows; last = (progress_at p n).last } in w) counts_alone,
        inr (
          omega arith,
          omega arith,
          ap (alone h) z ∙ ap (λ (x : Ending). let w : Result = record { ending = x; rows = r.rows } in w) c,
        ),
      )

  whole : (x : Ending) → (alone h upto).ending ≡ x → alone h h.limit ≡ resumed p h.limit room x (alone h upto).rows
  whole x e = in_parts p h.limit room upto (omega arith) ∙ ap (λ (y : Ending). resumed p h.limit room y (alone h upto).rows) e

  after_holds : (x : Ending) → (alone h upto).ending ≡ x → HoldsRunAs (job_after h (alone h upto)) (standing_after h.limit x)
  after_holds (finished plans total) e = ended_holds (finished plans total) e (whole (finished plans total) e)
  after_holds (full plans total) e = ended_holds (full plans total) e (whole (full plans total) e)
  after_holds (spent plans total) e = go (ltb total h.limit) refl
    where
      go : (b : Bool) → ltb total h.limit ≡ b → HoldsRunAs (job_after h (alone h upto)) (elim b [ true ↦ running | false ↦ over (spent plans total) ])
      go true f = spent_holds plans total e (ltb-true total h.limit f)
      go false f =
          let t = (stands p room upto plans total e).there in
          let g = ltb-false total h.limit f in
          let z : h.limit ≡ upto = omega arith in
          ended_holds (spent plans total) e (ap (alone h) z ∙ ap (λ (x : Ending). let w : Result = record { ending = x; rows = (alone h upto).rows } in w) e)

  pub turned_holds : HoldsRun (job_turned h)
  unfolding job_turned
  turned_holds = subst (λ (r : Result). HoldsRun (job_after h r)) (sym turn_alone) (after_holds (alone h upto).ending refl)

-- ---- the same of each slot of the queue
abbrev pub SlotHolds : Slot → Type 0
SlotHolds free = Unit {0}
SlotHolds (taken h) = HoldsRun h × (verdict_of h.sheet ≡ accepted)

goes_holds : (h : Job) (x : Standing) → T (goes_on x) → HoldsRunAs h x → HoldsRunAs h running
goes_holds h running t u = u
goes_holds h (over e) t u = absurd t

slot_turned_lem : (s : Slot) → T (waits s) → SlotHolds s → SlotHolds (slot_turned s)
unfolding job_turned
slot_turned_lem free t u = tt
slot_turned_lem (taken h) t u = (turned_holds h (goes_holds h h.standing t u.0), u.1)

release_holds : (s : Slot) (room : List ℕ) → SlotHolds s → SlotHolds (release_slot s room)
release_holds free room u = tt
release_holds (taken h) room u = go (fits h room)
  where
    go : (b : Bool) → SlotHolds (elim b [ true ↦ free | false ↦ taken h ])
    go true = tt
    go false = u

abbrev pub QueueHolds : Queue → Type 0
QueueHolds d = (length d.slots ≡ 8) × ((k : ℕ) → SlotHolds (slot_at d k))

submit_holds : (f : Found) (v : Verdict) (d : Queue) (b : List ℕ) (limit : ℕ) → verdict_of b ≡ v → QueueHolds d → QueueHolds (submit_queue f v d (new_job b limit))
submit_holds none_found v d b limit e g = g
submit_holds (slot k) (refused number item) d b limit e g = g
submit_holds (slot k) accepted d b limit e g =
    (length-set d.slots k (taken (new_job b limit)) ∙ g.0, λ j. set_slot SlotHolds d.slots k (taken (new_job b limit)) j (new_job_holds b limit, e) (g.1 j))

turn_holds : (f : Found) (d : Queue) → to_serve d ≡ f → QueueHolds d → QueueHolds (turn_queue f d)
turn_holds none_found d e g = g
turn_holds (slot k) d e g = (
  length-set d.slots k (slot_turned (slot_at d k)) ∙ g.0,
  λ j. set_slot SlotHolds d.slots k (slot_turned (slot_at d k)) j (slot_turned_lem (slot_at d k) (to_serve_waits d k e) (g.1 k)) (g.1 j),
)

call_holds : (d : Queue) (x : QueueCall) → QueueHolds d → QueueHolds (queue_after d x)
call_holds d (submit b limit) g = submit_holds (lowest_free d) (verdict_of b) d b limit refl g
call_holds d turn g = turn_holds (to_serve d) d refl g
call_holds d (release k room) g = (
  length-set d.slots k (release_slot (slot_at d k) room) ∙ g.0,
  λ j. set_slot SlotHolds d.slots k (release_slot (slot_at d k) room) j (release_holds (slot_at d k) room (g.1 k)) (g.1 j),
)

pub queue_holds : (d : Queue) (xs : List QueueCall) → QueueHolds d → QueueHolds (queue_end d xs)
unfolding queue_end
queue_holds d [] g = g
queue_holds d (x ∷ xs) g = queue_holds (queue_after d x) xs (call_holds d x g)

pub empty_holds : QueueHolds empty_queue
empty_holds = (refl, λ k. subst SlotHolds (sym (no_slots 8 k)) tt)

pub as_alone : AsAlone
as_alone xs k h e = (subst SlotHolds e ((queue_holds empty_queue xs empty_holds).1 k)).0

-- every job in a slot has an accepted sheet
pub queued_accepted : (xs : List QueueCall) (k : ℕ) (h : Job) → slot_at (queue_end empty_queue xs) k ≡ taken h → verdict_of h.sheet ≡ accepted
queued_accepted xs k h e = (subst SlotHolds e ((queue_holds empty_queue xs empty_holds).1 k)).1

-- ---- what a caller gets of an ended run
pub same_as_run : SameAsRun
unfolding answer_of list_of tally_of tally_at
same_as_run xs k h e out tally q s n = (
  same_answer,
  ap (λ (x : Slot). release_reply x out) q ∙ go (fits h out) refl
      ∙ ap₂ (λ (n : ℕ) (room : List ℕ). answered (released n room)) (sized ∙ ap (λ (m : ℕ). m * p.variables) a.2)
      (sym (ap (λ (v : Verdict). kept v out (written (result_of p h.limit (length out)).rows out)) c ∙ ap
      (λ (m : ℕ). written (result_of p h.limit m).rows out) n ∙ ap (λ (r : Result). written r.rows out) a.0)),
  ap (λ (x : Answer). tally_for x (tally_at p) tally) same_answer ∙ ap₂ (λ (m : ℕ) (l : List ℕ). let t : Tally = record { nodes = m; counts = l } in t) (sym a.1) (sym a.3),
)
  where
    p : Problem
    p = problem_of h.sheet

    c : verdict_of h.sheet ≡ accepted
    c = queued_accepted xs k h q

    a : HoldsRunAs h (over e)
    a = subst (HoldsRunAs h) s (as_alone xs k h q)

    same_answer : reply (verdict_of h.sheet) (result_of p h.limit (length out)).ending ≡ ended e
    same_answer = ap (λ (v : Verdict). reply v (result_of p h.limit (length out)).ending) c ∙ ap (λ (m : ℕ). ended (result_of p h.limit m).ending) n ∙ ap
        (λ (r : Result). ended r.ending) a.0

    rows : (alone h h.limit).rows ≡ h.progress.rows
    rows = ap (λ (r : Result). r.rows) a.0

    sized : length (flat h.progress.rows) ≡ length h.progress.rows * p.variables
    sized = length_flat p.variables h.progress.rows (λ r m. rows_sized p h.limit (list_room p) r (subst (Memᴰ r) (sym rows) m))

    enough : length (flat h.progress.rows) ≤ length out
    enough =
        let f : length (alone h h.limit).rows * p.variables ≤ list_room p = rows_fit p h.limit (list_room p) in
        let g : length h.progress.rows * p.variables ≤ list_room p = subst (λ (l : List (List ℕ)). length l * p.variables ≤ list_room p) rows f in
        subst (λ (z : ℕ). z ≤ length out) (sym sized) (subst (λ (z : ℕ). length h.progress.rows * p.variables ≤ z) (sym n) g)

    go : (b : Bool) → fits h out ≡ b → release_for b h out ≡ answered (released (length (flat h.progress.rows)) (written h.progress.rows out))
    go true f = refl
    go false f = absurd (let l = leb-false (length (flat h.progress.rows)) (length out) f in let m = enough in omega arith)

-- ---- 64 nodes a turn
at_least : (p : Problem) (upto room : ℕ) (ts : List (List ℕ)) (made k : ℕ) (e : Ending) → Ended p upto room ts made k e → made ≤ nodes_in e
at_least p upto room ts made k (finished plans total) q = omega (arith, q.1)
at_least p upto room ts made k (spent plans total) q = omega (arith, q.1)
at_least p upto room ts made k (full plans total) q = omega (arith, q.0)

over_not : (e : Ending) → over e ≡ running → ⊥
over_not e q = never (cc)

goes_on_lem : (p : Problem) (limit upto room : ℕ) (ts : List (List ℕ)) (made k : ℕ) (e : Ending) → Ended p upto room ts made k e → standing_after limit e ≡ running → (nodes_in e ≡ upto) ×
    (nodes_in e < limit)
goes_on_lem p limit upto room ts made k (finished plans total) q s = absurd (over_not (finished plans total) s)
goes_on_lem p limit upto room ts made k (full plans total) q s = absurd (over_not (full plans total) s)
goes_on_lem p limit upto room ts made k (spent plans total) q s = (q.2, go (ltb total limit) refl s)
  where
    go : (b : Bool) → ltb total limit ≡ b → elim b [ true ↦ running | false ↦ over (spent plans total) ] ≡ running → total < limit
    go true f s = ltb-true total limit f
    go false f s = absurd (over_not (spent plans total) s)

pub turn_of_64 : TurnOf64
unfolding job_turned go_on
turn_of_64 h u r =
    let H = subst (HoldsRunAs h) r u in
    let p = problem_of h.sheet in
    let room = list_room p in
    let ts = nodes_after p h.progress.last in
    let w = walk p (turn_limit h) room ts h.progress.made h.progress.rows in
    let e = (search p (turn_limit h) room ts h.progress.made h.progress.rows).ending in
    let a = w.allowed (made_allowed h H) in (
      at_least p (turn_limit h) room ts h.progress.made w.passed e w.ended,
      omega arith,
      λ s. let g = goes_on_lem p h.limit (turn_limit h) room ts h.progress.made w.passed e w.ended s in omega (arith, g.0, g.1),
    )

pub going_on : GoingOn
going_on xs k h q r =
    let u = as_alone xs k h q in
    let H = subst (HoldsRunAs h) r u in
    let t = turn_of_64 h u r in
    record { so_far = H.0; no_end = H.1; more = (t.0, t.1); all_64 = t.2 }

-- ---- 3: by its own turns alone
-- a slot that is not named stays as it is
pub other_slot : (d : Queue) (j k : ℕ) (s : Slot) → (k ≡ j → ⊥) → get_or (set d.slots j s) k free ≡ slot_at d k
other_slot d j k s n = get_or-set_other d.slots j k s free n

abbrev one_turn : Bool → Job → Job
one_turn true h = job_turned h
one_turn false h = h

submit_stays : (f : Found) (v : Verdict) (d : Queue) (g : Job) (k : ℕ) (h : Job) → lowest_free d ≡ f → slot_at d k ≡ taken h → slot_at (submit_queue f v d g) k ≡ taken
    (one_turn (serves k (submit_reply f v)) h)
submit_stays none_found v d g k h e q = q
submit_stays (slot j) (refused number item) d g k h e q = q
submit_stays (slot j) accepted d g k h e q =
    other_slot d j k (taken g) (λ z. of_not (is_free (slot_at d k)) (not_free (slot_at d k) h q)
    (subst (λ (n : ℕ). T (is_free (slot_at d n))) (sym z) (first_in (λ n. is_free (slot_at d n)) (below 8) j e).0)) ∙ q

turn_stays : (f : Found) (d : Queue) (k : ℕ) (h : Job) → slot_at d k ≡ taken h → slot_at (turn_queue f d) k ≡ taken (one_turn (serves k (turn_reply f d)) h)
turn_stays none_found d k h q = q
turn_stays (slot j) d k h q = go (eqb j k) refl
  where
    go : (b : Bool) → eqb j k ≡ b → get_or (set d.slots j (slot_turned (slot_at d j))) k free ≡ taken (one_turn b h)
    go true e =
        let z : j ≡ k = eqb-true j k e in
        ap (λ (n : ℕ). get_or (set d.slots n (slot_turned (slot_at d n))) k free) z
        ∙ get_or-set_same d.slots k (slot_turned (slot_at d k)) free (held_lt d.slots k h q) ∙ ap slot_turned q
    go false e = let n = eqb-false j k e in other_slot d j k (slot_turned (slot_at d j)) (λ z. n (sym z)) ∙ q

release_silent : (k : ℕ) (s : Slot) (room : List ℕ) → serves k (release_reply s room) ≡ false
release_silent k free room = refl
release_silent k (taken h) room = go (fits h room)
  where
    go : (b : Bool) → serves k (release_for b h room) ≡ false
    go true = refl
    go false = refl

release_stays : (d : Queue) (j : ℕ) (room : List ℕ) (k : ℕ) (h : Job) → Remains k d (release j room) → slot_at d k ≡ taken h → slot_at (queue_after d (release j room)) k ≡ taken h
release_stays d j room k h r q = go (eqb j k) refl
  where
    go : (b : Bool) → eqb j k ≡ b → get_or (set d.slots j (release_slot (slot_at d j) room)) k free ≡ taken h
    go true e = ap (λ (s : Slot). get_or (set d.slots j s) k free) (r (eqb-true j k e)) ∙ ap (λ (l : List Slot). get_or l k free) (set-get_or d.slots j free) ∙ q
    go false e = let n = eqb-false j k e in other_slot d j k (release_slot (slot_at d j) room) (λ z. n (sym z)) ∙ q

pub one_call : (d : Queue) (x : QueueCall) (k : ℕ) (h : Job) → Remains k d x → slot_at d k ≡ taken h → slot_at (queue_after d x) k ≡ taken (one_turn (serves k (queue_reply d x)) h)
one_call d (submit b limit) k h r q = submit_stays (lowest_free d) (verdict_of b) d (new_job b limit) k h refl q
one_call d turn k h r q = turn_stays (to_serve d) d k h q
one_call d (release j room) k h r q = release_stays d j room k h r q ∙ ap (λ (b : Bool). taken (one_turn b h)) (sym (release_silent k (slot_at d j) room))

pub by_own_turns : ByOwnTurns
unfolding queue_end queue_replies times_served
by_own_turns d [] k h q r = q
by_own_turns d (x ∷ xs) k h q r = go (serves k (queue_reply d x)) refl (one_call d x k h r.0 q) (λ g e. by_own_turns (queue_after d x) xs k g e r.1)
  where
    rest : ℕ
    rest = times_served k (queue_replies (queue_after d x) xs)

    go : (b : Bool) → serves k (queue_reply d x) ≡ b → slot_at (queue_after d x) k ≡ taken (one_turn (serves k (queue_reply d x)) h) →
        ((g : Job) → slot_at (queue_after d x) k ≡ taken g → slot_at (queue_end (queue_after d x) xs) k ≡ taken (turned rest g)) →
        slot_at (queue_end (queue_after d x) xs) k ≡ taken (turned (elim b [ true ↦ suc rest | false ↦ rest ]) h)
    go true e s ih = ih (job_turned h) (s ∙ ap (λ (b : Bool). taken (one_turn b h)) e)
    go false e s ih = ih h (s ∙ ap (λ (b : Bool). taken (one_turn b h)) e)

pub others_nothing : OthersNothing
others_nothing d d' xs ys k k' h q q' r r' e = by_own_turns d xs k h q r ∙ ap (λ (m : ℕ). taken (turned m h)) e ∙ sym (by_own_turns d' ys k' h q' r')

-- ---- 4: the lowest free slot, until it is released
turned_keeps : (m : ℕ) (h : Job) → ((turned m h).sheet ≡ h.sheet) × ((turned m h).limit ≡ h.limit)
unfolding job_turned
turned_keeps zero h = (refl, refl)
turned_keeps (suc m) h = turned_keeps m (job_turned h)

pub keeps_slot : KeepsSlot
keeps_slot d xs k h q r =
    let m = times_served k (queue_replies d xs) in
    let t = turned_keeps m h in
    (turned m h, by_own_turns d xs k h q r, t.0, t.1)

submits : (f : Found) (v : Verdict) (k : ℕ) → submit_reply f v ≡ answered (queued k) → (f ≡ slot k) × (v ≡ accepted)
submits none_found v k e = never (cc)
submits (slot j) (refused number item) k e = never (cc)
submits (slot j) accepted k e = ((cc), refl)

pub lowest_slot : LowestSlot
unfolding below
lowest_slot xs b limit k e =
    let d = queue_end empty_queue xs in
    let s = submits (lowest_free d) (verdict_of b) k e in
    let f = first_in (λ n. is_free (slot_at d n)) (below 8) k s.0 in
    let l = first_lowest (λ n. is_free (slot_at d n)) 0 8 k s.0 in
    let g = (queue_holds empty_queue xs empty_holds).0 in
    let i : k < 8 = omega (arith, l.0) in (
      i,
      free_is (slot_at d k) f.0,
      λ j m. l.1 j (omega arith) m,
      ap₂ (λ (x : Found) (v : Verdict). slot_at (submit_queue x v d (new_job b limit)) k) s.0 s.1
          ∙ get_or-set_same d.slots k (taken (new_job b limit)) free (omega arith),
    )

-- a sheet's refusals are 1 to 16
pub record Range (v : Verdict) : Type 0 where
  pub within : (number item : ℕ) → v ≡ refused number item → (1 ≤ number) × (number ≤ 16)

ask_range : (q : Bool) (number item : ℕ) (later : Verdict) → 1 ≤ number → number ≤ 16 → Range later → Range (ask q number item later)
ask_range true number item later a b r = r
ask_range false number item later a b r = record { within = λ n i e. let z : number ≡ n = cc in (omega arith, omega arith) }

accepted_range : Range accepted
accepted_range = record { within = λ n i e. never (cc) }

sets_range : (b : List ℕ) (h : Header) (xs : List ℕ) (later : Verdict) → Range later → Range (sets_verdict b h xs later)
unfolding sets_verdict
sets_range b h [] later r = r
sets_range b h (x ∷ xs) later r =
    let s = word b (16 + 2 * x) in
    ask_range (both (ltb s (2 ^ h.values)) (not (eqb s 0))) 8 x (sets_verdict b h xs later) (omega arith) (omega arith) (sets_range b h xs later r)

constraints_range : (b : List ℕ) (h : Header) (k i o : ℕ) (later : Verdict) → Range later → Range (constraints_verdict b h k i o later)
unfolding constraint_verdict constraints_verdict
constraints_range b h zero i o later r = ask_range (eqb o h.third) 9 i later (omega arith) (omega arith) r
constraints_range b h (suc k) i o later r =
    ask_range (leb (o + 4) h.third) 9 i _ (omega arith) (omega arith)
    (ask_range (both (both (leb 1 (word b o)) (leb (word b o) 3)) (leb (word b (o + 2)) 256)) 10 i _ (omega arith) (omega arith)
    (ask_range (leb (after_at b o) h.third) 9 i _ (omega arith) (omega arith)
    (ask_range (both (all (λ x. ltb x h.variables) (scope_at b o)) (ascending (scope_at b o))) 11 i _ (omega arith) (omega arith)
    (ask_range (all (all (λ w. ltb w h.values)) (rows_at b o)) 12 i _ (omega arith) (omega arith)
    (ask_range (rows_ascend (rows_at b o)) 13 i _ (omega arith) (omega arith)
    (constraints_range b h k (suc i) (after_at b o) later r))))))

symmetries_range : (p : Problem) (i : ℕ) (gs : List (List ℕ)) → Range (symmetries_verdict p i gs)
unfolding symmetries_verdict
symmetries_range p i [] = accepted_range
symmetries_range p i (g ∷ gs) =
    ask_range (permutes_pairs p g) 15 i _ (omega arith) (omega arith) (ask_range (respects p g) 16 i _ (omega arith) (omega arith) (symmetries_range p (suc i) gs))

pub verdict_range : (b : List ℕ) → Range (verdict_of b)
unfolding header_verdict form_verdict verdict_of
verdict_range b =
    let h = header_of b in
    let n = h.variables in
    let d = h.values in
    ask_range (leb 16 (length b)) 1 0 _ (omega arith) (omega arith)
    (ask_range (both (leb 1 n) (leb n 12)) 2 0 _ (omega arith) (omega arith)
    (ask_range (both (leb 1 d) (leb d 16)) 3 0 _ (omega arith) (omega arith)
    (ask_range (leb h.constraints 32) 4 0 _ (omega arith) (omega arith)
    (ask_range (leb h.symmetries 16) 5 0 _ (omega arith) (omega arith)
    (ask_range (eqb h.size (length b)) 6 0 _ (omega arith) (omega arith)
    (ask_range (both (eqb h.first 16) (both (eqb h.second (16 + 2 * n)) (both (leb h.second h.third) (leb h.third h.size)))) 7 0 _ (omega arith) (omega arith)
    (sets_range b h (below n) _
    (constraints_range b h h.constraints 0 h.second _
    (ask_range (eqb h.size (h.third + 2 * (h.symmetries * (n * d)))) 14 0 _ (omega arith) (omega arith)
    (symmetries_range (problem_of b) 0 (problem_of b).symmetries))))))))))

submit_refused : (f : Found) (v : Verdict) (number item : ℕ) → Range v → submit_reply f v ≡ refusal number item → ((number ≡ 37) × (f ≡ none_found)) ⊎
    ((1 ≤ number) × (number ≤ 16) × (v ≡ refused number item))
submit_refused none_found v number item r e = let n : number ≡ 37 = cc in inl (n, refl)
submit_refused (slot k) accepted number item r e = never (cc)
submit_refused (slot k) (refused a b) number item r e =
    let x : a ≡ number = cc in
    let y : b ≡ item = cc in
    let w = r.within number item (ap₂ refused x y) in
    inr (w.0, w.1, ap₂ refused x y)

pub slots_taken : SlotsTaken
slots_taken d b limit = (
  λ f. ap (λ (x : Found). submit_reply x (verdict_of b)) (none_first (λ n. is_free (slot_at d n)) (below 8) (λ j m. f j (below_e 8 j m))),
  λ number item e. ⊎_elim {C = ((number ≡ 37) × ((k : ℕ) → k < 8 → is_free (slot_at d k) ≡ false)) ⊎ ((1 ≤ number) × (number ≤ 16) × (verdict_of b ≡ refused number item))}
      (λ r. inl (r.0, λ k l. first_none (λ n. is_free (slot_at d n)) (below 8) r.1 k (below_i 8 k l))) inr (submit_refused (lowest_free d) (verdict_of b) number item (verdict_range b) e),
)

pub releases : Releases
releases d k h room q t = (
  ap (λ (s : Slot). release_reply s room) q ∙ ap (λ (b : Bool). release_for b h room) (of_T (fits h room) t),
  get_or-set_same d.slots k (release_slot (slot_at d k) room) free (held_lt d.slots k h q) ∙ ap (λ (s : Slot). release_slot s room) q ∙ go (fits h room) t,
)
  where
    go : (b : Bool) → T b → ◌≡◌ {A = Slot} (elim b [ true ↦ free | false ↦ taken h ]) free
    go true t = refl
    go false t = absurd t

-- ---- 64 nodes for each turn
turn_served : (f : Found) (d : Queue) (k : ℕ) → T (serves k (turn_reply f d)) → f ≡ slot k
turn_served none_found d k t = absurd t
turn_served (slot j) d k t = ap slot (eqb→eq j k t)

submit_silent : (k : ℕ) (f : Found) (v : Verdict) → serves k (submit_reply f v) ≡ false
submit_silent k none_found v = refl
submit_silent k (slot j) (refused number item) = refl
submit_silent k (slot j) accepted = refl

-- only a job that waits is served
served_waits : (d : Queue) (x : QueueCall) (k : ℕ) → T (serves k (queue_reply d x)) → T (waits (slot_at d k))
served_waits d (submit b limit) k t = absurd (of_not (serves k (submit_reply (lowest_free d) (verdict_of b))) (submit_silent k (lowest_free d) (verdict_of b)) t)
served_waits d turn k t = to_serve_waits d k (turn_served (to_serve d) d k t)
served_waits d (release j room) k t = absurd (of_not (serves k (release_reply (slot_at d j) room)) (release_silent k (slot_at d j) room) t)

is_running : (x : Standing) → T (goes_on x) → x ≡ running
is_running running t = refl
is_running (over e) t = absurd t

count_from : (d : Queue) (xs : List QueueCall) (k : ℕ) (h : Job) (c : ℕ) → HoldsRun h → (h.standing ≡ running → h.progress.made ≡ 64 * c) → slot_at d k ≡ taken h → Throughout (Remains k) d xs →
    (g : Job) → slot_at (queue_end d xs) k ≡ taken g → g.standing ≡ running → g.progress.made ≡ 64 * (c + times_served k (queue_replies d xs))
unfolding queue_end queue_replies times_served
count_from d [] k h c u m q r g e s =
    let z : h ≡ g = cc in
    subst (λ (x : Job). x.progress.made ≡ 64 * (c + 0)) z (let y = m (ap (λ (x : Job). x.standing) z ∙ s) in omega arith)
count_from d (x ∷ xs) k h c u m q r g e s =
    go (serves k (queue_reply d x)) refl (one_call d x k h r.0 q) (λ h' c' u' m' q'. count_from (queue_after d x) xs k h' c' u' m' q' r.1 g e s)
  where
    rest : ℕ
    rest = times_served k (queue_replies (queue_after d x) xs)

    go : (b : Bool) → serves k (queue_reply d x) ≡ b → slot_at (queue_after d x) k ≡ taken (one_turn (serves k (queue_reply d x)) h) →
        ((h' : Job) (c' : ℕ) → HoldsRun h' → (h'.standing ≡ running → h'.progress.made ≡ 64 * c') → slot_at (queue_after d x) k ≡ taken h' → g.progress.made ≡ 64 * (c' + rest)) →
        g.progress.made ≡ 64 * (c + elim b [ true ↦ suc rest | false ↦ rest ])
    go true f y ih =
        let w : T (waits (taken h)) = subst (λ (z : Slot). T (waits z)) q (served_waits d x k (T_of (serves k (queue_reply d x)) f)) in
        let o = is_running h.standing w in
        let H = goes_holds h h.standing w u in
        let t = turn_of_64 h u o in
        let n = m o in
        ih (job_turned h) (suc c) (turned_holds h H) (λ v. let i = t.2 v in omega arith) (y ∙ ap (λ (b : Bool). taken (one_turn b h)) f) ∙
        (let i : 64 * (suc c + rest) ≡ 64 * (c + suc rest) = omega arith in i)
    go false f y ih = ih h c u m (y ∙ ap (λ (b : Bool). taken (one_turn b h)) f)

pub sixty_four_each : SixtyFourEach
sixty_four_each d xs k b limit g q r e s =
    count_from d xs k (new_job b limit) 0 (new_job_holds b limit) (λ v. omega arith) q r g e s
    ∙ (let i : 64 * (0 + times_served k (queue_replies d xs)) ≡ 64 * times_served k (queue_replies d xs) = omega arith in i)

-- ---- what a turn answers
served_so : (f : Found) (d : Queue) (k : ℕ) (s : Standing) (plans made : ℕ) → turn_reply f d ≡ answered (served k s plans made) →
    (f ≡ slot k) × (served_as k (slot_turned (slot_at d k)) ≡ answered (served k s plans made))
served_so none_found d k s plans made e = never (cc)
served_so (slot j) d k s plans made e = let z : j ≡ k = cc in (ap slot z, rw z at e)

pub job_of : (s : Slot) → T (waits s) → (h : Job) × (s ≡ taken h)
job_of free t = absurd t
job_of (taken h) t = (h, refl)

pub turn_answers : TurnAnswers
turn_answers d k s plans made e =
    let a = served_so (to_serve d) d k s plans made e in
    let h = job_of (slot_at d k) (to_serve_waits d k a.0) in
    let g = job_turned h.0 in
    let r : answered (served k g.standing (length g.progress.rows) g.progress.made) ≡ answered (served k s plans made) =
    sym (ap (λ (x : Slot). served_as k (slot_turned x)) h.1) ∙ a.1 in (
      h.0,
      h.1,
      ap (λ (f : Found). slot_at (turn_queue f d) k) a.0 ∙ get_or-set_same d.slots k (slot_turned (slot_at d k)) free (held_lt d.slots k h.0 h.1) ∙ ap slot_turned h.1,
      (cc),
      (cc),
      (cc),
    )

-- ---- refusals
submit_denied : (f : Found) (v : Verdict) (d : Queue) (h : Job) (number item : ℕ) → submit_reply f v ≡ refusal number item → submit_queue f v d h ≡ d
submit_denied none_found v d h number item e = refl
submit_denied (slot k) (refused n i) d h number item e = refl
submit_denied (slot k) accepted d h number item e = never (cc)

turn_denied : (f : Found) (d : Queue) (number item : ℕ) → turn_reply f d ≡ refusal number item → ⊥
turn_denied none_found d number item e = never (cc)
turn_denied (slot k) d number item e = never (cc)

release_denied : (s : Slot) (room : List ℕ) (number item : ℕ) → release_reply s room ≡ refusal number item → release_slot s room ≡ s
release_denied free room number item e = refl
release_denied (taken h) room number item e = go (fits h room) e
  where
    go : (b : Bool) → release_for b h room ≡ refusal number item → ◌≡◌ {A = Slot} (elim b [ true ↦ free | false ↦ taken h ]) (taken h)
    go true e = never (cc)
    go false e = refl

pub refused_same : RefusedSame
refused_same d (submit b limit) number item e = submit_denied (lowest_free d) (verdict_of b) d (new_job b limit) number item e
refused_same d turn number item e = absurd (turn_denied (to_serve d) d number item e)
refused_same d (release k room) number item e =
    ap (λ (l : List Slot). let x : Queue = record { slots = l; next = d.next } in x)
    (ap (set d.slots k) (release_denied (slot_at d k) room number item e) ∙ set-get_or d.slots k free)

idle_none : (f : Found) (d : Queue) → turn_reply f d ≡ answered idle → f ≡ none_found
idle_none none_found d e = refl
idle_none (slot k) d e = never (cc)

pub idle_exactly : IdleExactly
idle_exactly d = (all_done, λ f. let z = none_waits f in (ap (λ (x : Found). turn_reply x d) z, ap (λ (x : Found). turn_queue x d) z))
  where
    round : ℕ → ℕ
    round i = (d.next + i) % 8

    all_done : queue_reply d turn ≡ answered idle → (k : ℕ) → k < 8 → waits (slot_at d k) ≡ false
    all_done e k h =
        let i = (k + 8 - d.next % 8) % 8 in
        let l : i < 8 = omega arith in
        ap (λ (n : ℕ). waits (slot_at d n)) (sym (round_to d.next k h)) ∙ first_none (λ n. waits (slot_at d n)) (map round (below 8)) (idle_none (to_serve d) d e) (round i)
        (Memᴰ-map round (below_i 8 i l))

    none_waits : ((k : ℕ) → k < 8 → waits (slot_at d k) ≡ false) → to_serve d ≡ none_found
    none_waits f =
        none_first (λ n. waits (slot_at d n)) (map round (below 8))
        (λ j m. let r = Memᴰ-of_map round (below 8) m in let l : (d.next + r.0) % 8 < 8 = omega arith in ap (λ (n : ℕ). waits (slot_at d n)) (sym r.2) ∙ f (round r.0) l)

pub past_eighth : PastEighth
past_eighth xs k room h =
    let d = queue_end empty_queue xs in
    let n = (queue_holds empty_queue xs empty_holds).0 in
    ap (λ (s : Slot). release_reply s room) (get_or-eq_default d.slots free (omega arith))
