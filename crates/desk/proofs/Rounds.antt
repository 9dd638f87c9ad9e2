-- Rounds (specs/Rounds): each slot whose run hasn't ended gets up to r turns, and the queue is that of the same turns one by one. The turns go round
-- and round: a round goes by the eight slots, and gives a turn to each that waits. Assumes nothing.
use Rattle.model.specs.Kit.{◌≡◌, refl, sym, ap, ap₂, ◌∙◌, subst, Bool, true, false, ◌⊎◌, inl, inr, List, [], ◌∷◌, ◌++◌, map, Memᴰ, Memᴰ-head, Memᴰ-tail, Memᴰ-not_nil, ℕ, zero, suc}
use Rattle.model.specs.Kit.{◌+◌, ◌-◌, ◌%◌, ◌≤◌, ◌<◌, arith, T, leb, ltb, eqb, lt→ltb, leb→le, length, replicate, length-set, length-map, ltb-true, ltb-false, leb-true, leb-false, eqb-true, eqb-false}
use Rattle.model.specs.Lists.{both, choose, below, up_from, total}
use lib.Dec.{le→leb}
use lib.ListN.{get_or-map, replicate-append-replicate}
use lib.Seq.{get_or-set_same, get_or-set_other, ext_get_or}
use Rattle.model.proofs.Lists.{T_of, of_T, not_of, of_not, both_r, map_ext}
use Rattle.desk.specs.Queue.{goes_on, Job, job_turned, Slot, free, taken, waits, slot_turned, Queue, empty_queue, slot_at, Found, slot, round_from, to_serve, QueueCall, turn, queue_after, turn_queue}
use Rattle.desk.specs.Queue.{queue_end}
use Rattle.desk.specs.{Rounds.turned, Rounds.due, Rounds.due_at, Rounds.rounds_queue, Rounds.turns_given, Inner.Rounds.slot_given, Inner.Rounds.behind_last, Inner.Rounds.AtOnce}
use Rattle.desk.specs.Inner.Claims.{HadOrEnded, Step, call, rounds, steps_end, one_by_one, OneByOne}
use Rattle.desk.proofs.Queue.{first_in, first_round, held_lt, job_of, round_to, QueueHolds, queue_holds, empty_holds}

-- ---- going by a slot
-- a turn for it, if it waits
abbrev slot_passed : Slot → Slot
slot_passed s = choose (waits s) (slot_turned s) s

abbrev passed : Queue → ℕ → Queue
passed d k = choose (waits (slot_at d k)) (turn_queue (slot k) d) d

abbrev one : Bool → ℕ
one true = 1
one false = 0

passed_same : (d : Queue) (k : ℕ) → slot_at (passed d k) k ≡ slot_passed (slot_at d k)
passed_same d k = go (waits (slot_at d k)) refl
  where
    go : (b : Bool) → waits (slot_at d k) ≡ b → slot_at (choose b (turn_queue (slot k) d) d) k ≡ choose b (slot_turned (slot_at d k)) (slot_at d k)
    go true e =
        let h = job_of (slot_at d k) (T_of (waits (slot_at d k)) e) in
        get_or-set_same d.slots k (slot_turned (slot_at d k)) free (held_lt d.slots k h.0 h.1)
    go false e = refl

passed_other : (d : Queue) (j k : ℕ) → (k ≡ j → ⊥) → slot_at (passed d j) k ≡ slot_at d k
passed_other d j k n = go (waits (slot_at d j))
  where
    go : (b : Bool) → slot_at (choose b (turn_queue (slot j) d) d) k ≡ slot_at d k
    go true = get_or-set_other d.slots j k (slot_turned (slot_at d j)) free n
    go false = refl

passed_length : (d : Queue) (k : ℕ) → length (passed d k).slots ≡ length d.slots
passed_length d k = go (waits (slot_at d k))
  where
    go : (b : Bool) → length (choose b (turn_queue (slot k) d) d).slots ≡ length d.slots
    go true = length-set d.slots k (slot_turned (slot_at d k))
    go false = refl

passed_next : (d : Queue) (k : ℕ) → (passed d k).next ≡ choose (waits (slot_at d k)) ((k + 1) % 8) d.next
passed_next d k = go (waits (slot_at d k))
  where
    go : (b : Bool) → (choose b (turn_queue (slot k) d) d).next ≡ choose b ((k + 1) % 8) d.next
    go true = refl
    go false = refl

-- ---- going by some slots, one after another: the queue then, and the turns given
unfoldable passing : Queue → List ℕ → Queue
passing d [] = d
passing d (k ∷ ks) = passing (passed d k) ks

unfoldable turns_of : Queue → List ℕ → ℕ
turns_of d [] = 0
turns_of d (k ∷ ks) = one (waits (slot_at d k)) + turns_of (passed d k) ks

-- behind the last of them that waits
unfoldable behind : (ℕ → Bool) → List ℕ → ℕ → ℕ
behind w [] next = next
behind w (k ∷ ks) next = behind w ks (choose (w k) ((k + 1) % 8) next)

-- no slot twice
abbrev pub Once : List ℕ → Type 0
Once [] = Unit {0}
Once (k ∷ ks) = ((j : ℕ) → Memᴰ j ks → (j ≡ k → ⊥)) × Once ks

passing_out : (ks : List ℕ) (d : Queue) (j : ℕ) → ((k : ℕ) → Memᴰ k ks → (j ≡ k → ⊥)) → slot_at (passing d ks) j ≡ slot_at d j
unfolding passing
passing_out [] d j n = refl
passing_out (k ∷ ks) d j n = passing_out ks (passed d k) j (λ i m. n i (Memᴰ-tail m)) ∙ passed_other d k j (n k (Memᴰ-head refl))

passing_in : (ks : List ℕ) (d : Queue) (j : ℕ) → Once ks → Memᴰ j ks → slot_at (passing d ks) j ≡ slot_passed (slot_at d j)
unfolding passing
passing_in [] d j o m = absurd (Memᴰ-not_nil m)
passing_in (k ∷ ks) d j o (Memᴰ-head e) =
    passing_out ks (passed d k) j (λ i m z. o.0 i m (sym z ∙ e)) ∙ ap (slot_at (passed d k)) e ∙ passed_same d k ∙ ap (λ (n : ℕ). slot_passed (slot_at d n)) (sym e)
passing_in (k ∷ ks) d j o (Memᴰ-tail m) = passing_in ks (passed d k) j o.1 m ∙ ap slot_passed (passed_other d k j (o.0 j m))

passing_length : (ks : List ℕ) (d : Queue) → length (passing d ks).slots ≡ length d.slots
unfolding passing
passing_length [] d = refl
passing_length (k ∷ ks) d = passing_length ks (passed d k) ∙ passed_length d k

behind_ext : (v w : ℕ → Bool) (ks : List ℕ) (next : ℕ) → ((k : ℕ) → Memᴰ k ks → v k ≡ w k) → behind v ks next ≡ behind w ks next
unfolding behind
behind_ext v w [] next h = refl
behind_ext v w (k ∷ ks) next h =
    behind_ext v w ks (choose (v k) ((k + 1) % 8) next) (λ j m. h j (Memᴰ-tail m)) ∙ ap (λ (b : Bool). behind w ks (choose b ((k + 1) % 8) next)) (h k (Memᴰ-head refl))

passing_next : (ks : List ℕ) (d : Queue) → Once ks → (passing d ks).next ≡ behind (λ k. waits (slot_at d k)) ks d.next
unfolding passing behind
passing_next [] d o = refl
passing_next (k ∷ ks) d o =
    passing_next ks (passed d k) o.1
    ∙ behind_ext (λ j. waits (slot_at (passed d k) j)) (λ j. waits (slot_at d j)) ks (passed d k).next (λ j m. ap waits (passed_other d k j (o.0 j m)))
    ∙ ap (behind (λ j. waits (slot_at d j)) ks) (passed_next d k)

turns_of_lem : (ks : List ℕ) (d : Queue) → Once ks → turns_of d ks ≡ total (map (λ k. one (waits (slot_at d k))) ks)
unfolding turns_of total
turns_of_lem [] d o = refl
turns_of_lem (k ∷ ks) d o =
    ap (λ (n : ℕ). one (waits (slot_at d k)) + n)
    (turns_of_lem ks (passed d k) o.1 ∙ ap total (map_ext (λ j. one (waits (slot_at (passed d k) j))) (λ j. one (waits (slot_at d j))) ks
    (λ j m. ap (λ (s : Slot). one (waits s)) (passed_other d k j (o.0 j m)))))

-- ---- one by one
-- the slots from where the next turn begins to look, up to slot k, do not wait
pub record Gap (d : Queue) (k : ℕ) : Type 0 where
  pub gap : ℕ
  pub ends : (d.next + gap) % 8 ≡ k % 8
  pub quiet : (j : ℕ) → j < gap → waits (slot_at d ((d.next + j) % 8)) ≡ false

-- so a slot that waits there is the one that a turn serves
gap_serves : (d : Queue) (k : ℕ) → Gap d k → T (waits (slot_at d (k % 8))) → to_serve d ≡ slot (k % 8)
unfolding below
gap_serves d k g t =
    let small : g.gap < 8 = within (ltb g.gap 8) refl in
    let r = first_round q f 0 8 g.gap (omega arith) (omega arith) (subst (λ (z : ℕ). T (q z)) (sym g.ends) t) in
    r.2 ∙ ap slot (same r.0 r.1 (first_in q (map f (below 8)) (f r.0) r.2).0 (eqb r.0 g.gap) refl)
  where
    f : ℕ → ℕ
    f i = (d.next + i) % 8

    q : ℕ → Bool
    q n = waits (slot_at d n)

    within : (b : Bool) → ltb g.gap 8 ≡ b → g.gap < 8
    within true e = ltb-true g.gap 8 e
    within false e =
        let l = ltb-false g.gap 8 e in
        let z : (d.next + g.gap % 8) % 8 ≡ (d.next + g.gap) % 8 = omega arith in
        absurd (of_not (q (f (g.gap % 8))) (g.quiet (g.gap % 8) (omega arith)) (subst (λ (n : ℕ). T (q n)) (sym (z ∙ g.ends)) t))

    same : (j : ℕ) → j ≤ g.gap → T (q (f j)) → (b : Bool) → eqb j g.gap ≡ b → f j ≡ k % 8
    same j l u true e = ap f (eqb-true j g.gap e) ∙ g.ends
    same j l u false e = let n = eqb-false j g.gap e in absurd (of_not (q (f j)) (g.quiet j (omega arith)) u)

-- n slots from k on
unfoldable pub positions : ℕ → ℕ → List ℕ
positions k zero = []
positions k (suc n) = k % 8 ∷ positions (suc k) n

pub record Stepwise (d e : Queue) (m k : ℕ) : Type 0 where
  pub turns : e ≡ queue_end d (replicate m turn)
  pub behind_them : Gap e k

walk : (n k : ℕ) (d : Queue) → Gap d k → Stepwise d (passing d (positions k n)) (turns_of d (positions k n)) (k + n)
unfolding passing turns_of positions queue_end
walk zero k d g = record { turns = refl; behind_them = subst (Gap d) (let e : k ≡ k + 0 = omega arith in e) g }
walk (suc n) k d g = go (waits (slot_at d (k % 8))) refl (walk n (suc k))
  where
    shift : suc k + n ≡ k + suc n
    shift = omega arith

    go : (b : Bool) → waits (slot_at d (k % 8)) ≡ b → ((d : Queue) → Gap d (suc k) → Stepwise d (passing d (positions (suc k) n)) (turns_of d (positions (suc k) n)) (suc k + n)) →
        Stepwise d (passing (choose b (turn_queue (slot (k % 8)) d) d) (positions (suc k) n)) (one b + turns_of (choose b (turn_queue (slot (k % 8)) d) d) (positions (suc k) n)) (k + suc n)
    go true e ih =
        let s = gap_serves d k g (T_of (waits (slot_at d (k % 8))) e) in
        let d' = turn_queue (slot (k % 8)) d in
        let z : ((k % 8 + 1) % 8 + 0) % 8 ≡ suc k % 8 = omega arith in
        let w = ih d' record { gap = 0; ends = z; quiet = λ j l. absurd (omega arith) } in
        let m : 1 + turns_of d' (positions (suc k) n) ≡ suc (turns_of d' (positions (suc k) n)) = omega arith in
        record {
          turns =
              w.turns ∙ ap (λ (f : Found). queue_end (turn_queue f d) (replicate (turns_of d' (positions (suc k) n)) turn)) (sym s)
              ∙ ap (λ (i : ℕ). queue_end d (replicate i turn)) (sym m);
          behind_them = subst (Gap (passing d' (positions (suc k) n))) shift w.behind_them;
        }
    go false e ih =
        let z : (d.next + suc g.gap) % 8 ≡ suc k % 8 = (let y = g.ends in omega arith) in
        let w = ih d record { gap = suc g.gap; ends = z; quiet = λ j l. each j l (eqb j g.gap) refl } in
        let m : 0 + turns_of d (positions (suc k) n) ≡ turns_of d (positions (suc k) n) = omega arith in
        record {
          turns = w.turns ∙ ap (λ (i : ℕ). queue_end d (replicate i turn)) (sym m);
          behind_them = subst (Gap (passing d (positions (suc k) n))) shift w.behind_them;
        }
      where
        each : (j : ℕ) → j < suc g.gap → (b : Bool) → eqb j g.gap ≡ b → waits (slot_at d ((d.next + j) % 8)) ≡ false
        each j l true y = ap (λ (i : ℕ). waits (slot_at d ((d.next + i) % 8))) (eqb-true j g.gap y) ∙ ap (λ (i : ℕ). waits (slot_at d i)) g.ends ∙ e
        each j l false y = let n = eqb-false j g.gap y in g.quiet j (omega arith)

pub pos_e : (n k j : ℕ) → Memᴰ j (positions k n) → (i : ℕ) × (i < n) × (j ≡ (k + i) % 8)
unfolding positions
pos_e zero k j m = absurd (Memᴰ-not_nil m)
pos_e (suc n) k j (Memᴰ-head e) = (0, omega arith, e ∙ (let z : k % 8 ≡ (k + 0) % 8 = omega arith in z))
pos_e (suc n) k j (Memᴰ-tail m) =
    let r = pos_e n (suc k) j m in
    let l = r.1 in
    (suc r.0, omega arith, r.2 ∙ ap (λ (i : ℕ). i % 8) (let z : suc k + r.0 ≡ k + suc r.0 = omega arith in z))

pos_i : (n k i : ℕ) → i < n → Memᴰ ((k + i) % 8) (positions k n)
unfolding positions
pos_i zero k i l = absurd (omega arith)
pos_i (suc n) k zero l = Memᴰ-head (let z : (k + 0) % 8 ≡ k % 8 = omega arith in z)
pos_i (suc n) k (suc i) l =
    Memᴰ-tail (subst (λ (j : ℕ). Memᴰ (j % 8) (positions (suc k) n)) (let z : suc k + i ≡ k + suc i = omega arith in z) (pos_i n (suc k) i (omega arith)))

pub pos_once : (n k : ℕ) → n ≤ 8 → Once (positions k n)
unfolding positions
pos_once zero k l = tt
pos_once (suc n) k l = (λ j m e. let r = pos_e n (suc k) j m in let i = r.1 in let z = r.2 in omega arith, pos_once n (suc k) (omega arith))

pos_map : (n k a : ℕ) → positions (k + a) n ≡ map (λ i. (k + i) % 8) (up_from a n)
unfolding positions up_from
pos_map zero k a = refl
pos_map (suc n) k a =
    ap (λ (l : List ℕ). (k + a) % 8 ∷ l) (ap (λ (i : ℕ). positions i n) (let z : suc (k + a) ≡ k + suc a = omega arith in z) ∙ pos_map n k (suc a))

-- a round is the eight slots, each once
pub round_is : (k : ℕ) → round_from k ≡ positions k 8
unfolding below
round_is k = sym (pos_map 8 k 0) ∙ ap (λ (i : ℕ). positions i 8) (let z : k + 0 ≡ k = omega arith in z)

pub round_all : (k j : ℕ) → j < 8 → Memᴰ j (positions k 8)
round_all k j l =
    let i = (j + 8 - k % 8) % 8 in
    subst (λ (z : ℕ). Memᴰ z (positions k 8)) (round_to k j l) (pos_i 8 k i (let z : (j + 8 - k % 8) % 8 < 8 = omega arith in z))

-- ---- what a round takes of the turns that are due
pick_yes : {A : Type 0} (b : Bool) (x y : A) → b ≡ true → choose b x y ≡ x
pick_yes b x y e = ap (λ (c : Bool). choose c x y) e

pick_no : {A : Type 0} (b : Bool) (x y : A) → b ≡ false → choose b x y ≡ y
pick_no b x y e = ap (λ (c : Bool). choose c x y) e

pub due_over : (r : ℕ) (h : Job) → goes_on h.standing ≡ false → due r h ≡ 0
unfolding due
due_over zero h e = refl
due_over (suc r) h e = pick_no (goes_on h.standing) (suc (due r (job_turned h))) 0 e

pub due_none : (s : Slot) → due_at 0 s ≡ 0
unfolding due
due_none free = refl
due_none (taken h) = refl

due_next : (r : ℕ) (s : Slot) → due_at (suc r) s ≡ one (waits s) + due_at r (slot_passed s)
unfolding due
due_next r free = refl
due_next r (taken h) = go (goes_on h.standing) refl
  where
    go : (b : Bool) → goes_on h.standing ≡ b → choose b (suc (due r (job_turned h))) 0 ≡ one b + due_at r (choose b (taken (job_turned h)) (taken h))
    go true e = omega arith
    go false e = let z = due_over r h e in omega arith

quiet_none : (r : ℕ) (s : Slot) → waits s ≡ false → due_at r (slot_passed s) ≡ 0
quiet_none r free e = refl
quiet_none r (taken h) e = ap (due_at r) (pick_no (goes_on h.standing) (taken (job_turned h)) (taken h) e) ∙ due_over r h e

given_none : (s : Slot) → slot_given 0 s ≡ s
unfolding due
given_none free = refl
given_none (taken h) = refl

given_next : (r : ℕ) (s : Slot) → slot_given (suc r) s ≡ slot_given r (slot_passed s)
unfolding due
given_next r free = refl
given_next r (taken h) = go (goes_on h.standing) refl
  where
    go : (b : Bool) → goes_on h.standing ≡ b → taken (turned (choose b (suc (due r (job_turned h))) 0) h) ≡ slot_given r (choose b (taken (job_turned h)) (taken h))
    go true e = refl
    go false e = ap (λ (m : ℕ). taken (turned m h)) (sym (due_over r h e))

pub had_or_ended : HadOrEnded
unfolding due
had_or_ended zero h = inl refl
had_or_ended (suc r) h = go (goes_on h.standing) refl (had_or_ended r (job_turned h))
  where
    next : ℕ
    next = due r (job_turned h)

    go : (b : Bool) → goes_on h.standing ≡ b → (next ≡ r) ⊎ (goes_on (turned next (job_turned h)).standing ≡ false) →
        (choose b (suc next) 0 ≡ suc r) ⊎ (goes_on (turned (choose b (suc next) 0) h).standing ≡ false)
    go true e (inl z) = inl (ap suc z)
    go true e (inr z) = inr z
    go false e ih = inr e

-- ---- where the turn after them begins to look
behind_last_ext : (f g : ℕ → ℕ) (ks : List ℕ) (best next : ℕ) → ((k : ℕ) → Memᴰ k ks → f k ≡ g k) → behind_last f ks best next ≡ behind_last g ks best next
unfolding behind_last
behind_last_ext f g [] best next h = refl
behind_last_ext f g (k ∷ ks) best next h =
    let rest : (j : ℕ) → Memᴰ j ks → f j ≡ g j = λ j m. h j (Memᴰ-tail m) in
    ap₂ (λ (x y : ℕ). choose (both (ltb 0 (f k)) (leb best (f k))) x y) (behind_last_ext f g ks (f k) ((k + 1) % 8) rest) (behind_last_ext f g ks best next rest)
    ∙ ap (λ (x : ℕ). choose (both (ltb 0 x) (leb best x)) (behind_last g ks x ((k + 1) % 8)) (behind_last g ks best next)) (h k (Memᴰ-head refl))

behind_last_none : (ks : List ℕ) (best next : ℕ) → behind_last (λ k. 0) ks best next ≡ next
unfolding behind_last
behind_last_none [] best next = refl
behind_last_none (k ∷ ks) best next = behind_last_none ks best next

-- f k turns are due, one of them in this round where slot k waits
module _ (w : ℕ → Bool) (f g : ℕ → ℕ) (due_in : (k : ℕ) → f k ≡ one (w k) + g k) (none : (k : ℕ) → w k ≡ false → g k ≡ 0) where
  abbrev test : ℕ → ℕ → Bool
  test best x = both (ltb 0 x) (leb best x)

  test_yes : (best x : ℕ) → 0 < x → best ≤ x → test best x ≡ true
  test_yes best x a b = ap₂ both (of_T (ltb 0 x) (lt→ltb 0 x a)) (of_T (leb best x) (le→leb best x b))

  test_low : (best x : ℕ) → x < best → test best x ≡ false
  test_low best x l = not_of (test best x) (λ t. let z = leb→le best x (both_r (ltb 0 x) (leb best x) t) in omega arith)

  -- once some slot has a further turn
  later : (ks : List ℕ) (best next : ℕ) → 1 ≤ best → behind_last f ks (1 + best) next ≡ behind_last g ks best next
  unfolding behind_last
  later [] best next l = refl
  later (k ∷ ks) best next l = go (w k) refl (later ks)
    where
      m : ℕ
      m = (k + 1) % 8

      go : (b : Bool) → w k ≡ b → ((best next : ℕ) → 1 ≤ best → behind_last f ks (1 + best) next ≡ behind_last g ks best next) →
          choose (test (1 + best) (f k)) (behind_last f ks (f k) m) (behind_last f ks (1 + best) next) ≡ choose (test best (g k)) (behind_last g ks (g k) m) (behind_last g ks best next)
      go true e ih =
          let z : f k ≡ 1 + g k = due_in k ∙ ap (λ (b : Bool). one b + g k) e in
          ap (λ (x : ℕ). choose (test (1 + best) x) (behind_last f ks x m) (behind_last f ks (1 + best) next)) z ∙ inner (leb best (g k)) refl
        where
          inner : (c : Bool) → leb best (g k) ≡ c → choose (test (1 + best) (1 + g k)) (behind_last f ks (1 + g k) m) (behind_last f ks (1 + best) next) ≡ choose (test best (g k))
              (behind_last g ks (g k) m) (behind_last g ks best next)
          inner true c =
              let y = leb-true best (g k) c in
              pick_yes (test (1 + best) (1 + g k)) _ _ (test_yes (1 + best) (1 + g k) (omega arith) (omega arith)) ∙ ih (g k) m (omega arith)
              ∙ sym (pick_yes (test best (g k)) _ _ (test_yes best (g k) (omega arith) y))
          inner false c =
              let y = leb-false best (g k) c in
              pick_no (test (1 + best) (1 + g k)) _ _ (test_low (1 + best) (1 + g k) (omega arith)) ∙ ih best next l
              ∙ sym (pick_no (test best (g k)) _ _ (test_low best (g k) (omega arith)))
      go false e ih =
          let y = none k e in
          let z : f k ≡ 0 = due_in k ∙ ap₂ (λ (b : Bool) (x : ℕ). one b + x) e y in
          ap (λ (x : ℕ). choose (test (1 + best) x) (behind_last f ks x m) (behind_last f ks (1 + best) next)) z ∙ ih best next l
          ∙ ap (λ (x : ℕ). choose (test best x) (behind_last g ks x m) (behind_last g ks best next)) (sym y)

  first_turns : (ks : List ℕ) (best next : ℕ) → best ≤ 1 → behind_last f ks best next ≡ behind_last g ks 0 (behind w ks next)
  unfolding behind_last behind
  first_turns [] best next l = refl
  first_turns (k ∷ ks) best next l = go (w k) refl (first_turns ks) (later ks)
    where
      m : ℕ
      m = (k + 1) % 8

      go : (b : Bool) → w k ≡ b → ((best next : ℕ) → best ≤ 1 → behind_last f ks best next ≡ behind_last g ks 0 (behind w ks next)) →
          ((best next : ℕ) → 1 ≤ best → behind_last f ks (1 + best) next ≡ behind_last g ks best next) →
          choose (test best (f k)) (behind_last f ks (f k) m) (behind_last f ks best next) ≡ choose (test 0 (g k)) (behind_last g ks (g k) m) (behind_last g ks 0 (behind w ks (choose b m next)))
      go true e ih jh =
          let z : f k ≡ 1 + g k = due_in k ∙ ap (λ (b : Bool). one b + g k) e in
          ap (λ (x : ℕ). choose (test best x) (behind_last f ks x m) (behind_last f ks best next)) z
          ∙ pick_yes (test best (1 + g k)) _ _ (test_yes best (1 + g k) (omega arith) (omega arith)) ∙ inner (ltb 0 (g k)) refl
        where
          inner : (c : Bool) → ltb 0 (g k) ≡ c → behind_last f ks (1 + g k) m ≡ choose (test 0 (g k)) (behind_last g ks (g k) m) (behind_last g ks 0 (behind w ks m))
          inner true c =
              let y = ltb-true 0 (g k) c in
              jh (g k) m y ∙ sym (pick_yes (test 0 (g k)) _ _ (test_yes 0 (g k) y (omega arith)))
          inner false c =
              let y : g k ≡ 0 = (let x = ltb-false 0 (g k) c in omega arith) in
              ap (λ (x : ℕ). behind_last f ks (1 + x) m) y ∙ ih 1 m (omega arith)
              ∙ ap (λ (x : ℕ). choose (test 0 x) (behind_last g ks x m) (behind_last g ks 0 (behind w ks m))) (sym y)
      go false e ih jh =
          let y = none k e in
          let z : f k ≡ 0 = due_in k ∙ ap₂ (λ (b : Bool) (x : ℕ). one b + x) e y in
          ap (λ (x : ℕ). choose (test best x) (behind_last f ks x m) (behind_last f ks best next)) z ∙ ih best next l
          ∙ ap (λ (x : ℕ). choose (test 0 x) (behind_last g ks x m) (behind_last g ks 0 (behind w ks next))) (sym y)

-- ---- r rounds
unfoldable many : List ℕ → ℕ → Queue → Queue
many ks zero d = d
many ks (suc r) d = many ks r (passing d ks)

many_length : (ks : List ℕ) (r : ℕ) (d : Queue) → length (many ks r d).slots ≡ length d.slots
unfolding many
many_length ks zero d = refl
many_length ks (suc r) d = many_length ks r (passing d ks) ∙ passing_length ks d

many_slot : (ks : List ℕ) → Once ks → (r : ℕ) (d : Queue) (k : ℕ) → Memᴰ k ks → slot_at (many ks r d) k ≡ slot_given r (slot_at d k)
unfolding many
many_slot ks o zero d k m = sym (given_none (slot_at d k))
many_slot ks o (suc r) d k m = many_slot ks o r (passing d ks) k m ∙ ap (slot_given r) (passing_in ks d k o m) ∙ sym (given_next r (slot_at d k))

many_next : (ks : List ℕ) → Once ks → (r : ℕ) (d : Queue) → (many ks r d).next ≡ behind_last (λ k. due_at r (slot_at d k)) ks 0 d.next
unfolding many
many_next ks o zero d = sym (behind_last_ext (λ k. due_at 0 (slot_at d k)) (λ k. 0) ks 0 d.next (λ k m. due_none (slot_at d k)) ∙ behind_last_none ks 0 d.next)
many_next ks o (suc r) d =
    let d' = passing d ks in
    many_next ks o r d'
    ∙ behind_last_ext (λ k. due_at r (slot_at d' k)) (λ k. due_at r (slot_passed (slot_at d k))) ks 0 d'.next (λ k m. ap (due_at r) (passing_in ks d k o m))
    ∙ ap (behind_last (λ k. due_at r (slot_passed (slot_at d k))) ks 0) (passing_next ks d o)
    ∙ sym (first_turns (λ k. waits (slot_at d k)) (λ k. due_at (suc r) (slot_at d k)) (λ k. due_at r (slot_passed (slot_at d k))) (λ k. due_next r (slot_at d k)) (λ k e. quiet_none r (slot_at d k) e)
    ks 0
    d.next (omega arith))

total_none : (ks : List ℕ) → total (map (λ k. 0) ks) ≡ 0
unfolding total
total_none [] = refl
total_none (k ∷ ks) = let i = total_none ks in omega arith

total_add : (f g : ℕ → ℕ) (ks : List ℕ) → total (map f ks) + total (map g ks) ≡ total (map (λ k. f k + g k) ks)
unfolding total
total_add f g [] = refl
total_add f g (k ∷ ks) = let i = total_add f g ks in omega arith

end_append : (xs ys : List QueueCall) (d : Queue) → queue_end d (xs ++ ys) ≡ queue_end (queue_end d xs) ys
unfolding queue_end
end_append [] ys d = refl
end_append (x ∷ xs) ys d = end_append xs ys (queue_after d x)

gap_round : (d : Queue) (k : ℕ) → Gap d (k + 8) → Gap d k
gap_round d k g = record { gap = g.gap; ends = g.ends ∙ (let z : (k + 8) % 8 ≡ k % 8 = omega arith in z); quiet = g.quiet }

many_turns : (k r : ℕ) (d : Queue) → Gap d k → many (positions k 8) r d ≡ queue_end d (replicate (total (map (λ j. due_at r (slot_at d j)) (positions k 8))) turn)
unfolding many queue_end
many_turns k zero d g =
    ap (λ (m : ℕ). queue_end d (replicate m turn)) (sym (ap total (map_ext (λ j. due_at 0 (slot_at d j)) (λ j. 0) (positions k 8) (λ j m. due_none (slot_at d j))) ∙ total_none (positions k 8)))
many_turns k (suc r) d g =
    let ks = positions k 8 in
    let o = pos_once 8 k (omega arith) in
    let w = walk 8 k d g in
    let d' = passing d ks in
    let a = turns_of d ks in
    let b = total (map (λ j. due_at r (slot_at d' j)) ks) in
    many_turns k r d' (gap_round d' k w.behind_them)
    ∙ ap (λ (x : Queue). queue_end x (replicate b turn)) w.turns
    ∙ sym (end_append (replicate a turn) (replicate b turn) d)
    ∙ ap (queue_end d) (replicate-append-replicate a b turn)
    ∙ ap (λ (m : ℕ). queue_end d (replicate m turn))
    (ap₂ (λ (x y : ℕ). x + y) (turns_of_lem ks d o) (ap total (map_ext (λ j. due_at r (slot_at d' j)) (λ j. due_at r (slot_passed (slot_at d j))) ks (λ j m. ap (due_at r) (passing_in ks d j o m))))
    ∙ total_add (λ j. one (waits (slot_at d j))) (λ j. due_at r (slot_passed (slot_at d j))) ks
    ∙ ap total (map_ext (λ j. one (waits (slot_at d j)) + due_at r (slot_passed (slot_at d j))) (λ j. due_at (suc r) (slot_at d j)) ks (λ j m. sym (due_next r (slot_at d j)))))

pub at_once : AtOnce
at_once d r n =
    ap₂ (λ (l : List Slot) (k : ℕ). let x : Queue = record { slots = l; next = k } in x) slots_same next_same
    ∙ many_turns d.next r d record { gap = 0; ends = (let z : (d.next + 0) % 8 ≡ d.next % 8 = omega arith in z); quiet = λ j l. absurd (omega arith) }
    ∙ ap (λ (l : List ℕ). queue_end d (replicate (total (map (λ j. due_at r (slot_at d j)) l)) turn)) (sym (round_is d.next))
  where
    ks : List ℕ
    ks = positions d.next 8

    o : Once ks
    o = pos_once 8 d.next (omega arith)

    m : Queue
    m = many ks r d

    slots_same : map (slot_given r) d.slots ≡ m.slots
    slots_same =
        let l : length (map (slot_given r) d.slots) ≡ 8 = length-map d.slots (slot_given r) ∙ n in
        ext_get_or free (map (slot_given r) d.slots) m.slots (l ∙ sym n ∙ sym (many_length ks r d))
        (λ i h. get_or-map (slot_given r) d.slots i free ∙ sym (many_slot ks o r d i (round_all d.next i (omega arith))))

    next_same : behind_last (λ k. due_at r (slot_at d k)) (round_from d.next) 0 d.next ≡ m.next
    next_same = ap (λ (l : List ℕ). behind_last (λ k. due_at r (slot_at d k)) l 0 d.next) (round_is d.next) ∙ sym (many_next ks o r d)

steps_from : (xs : List Step) (d : Queue) → QueueHolds d → steps_end d xs ≡ queue_end d (one_by_one d xs)
unfolding steps_end one_by_one queue_end
steps_from [] d g = refl
steps_from (call x ∷ xs) d g = steps_from xs (queue_after d x) (queue_holds d (x ∷ []) g)
steps_from (rounds r ∷ xs) d g =
    steps_from xs (rounds_queue d r) (queue_holds d (replicate (turns_given d r) turn) g)
    ∙ sym (end_append (replicate (turns_given d r) turn) (one_by_one (rounds_queue d r) xs) d)

pub one_by_one_lem : OneByOne
one_by_one_lem xs = steps_from xs empty_queue empty_holds
