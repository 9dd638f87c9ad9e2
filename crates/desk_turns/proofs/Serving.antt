-- A slot that was given turns, and a turn. Assumes nothing.
use Rattle.model.specs.Kit.{◌≡◌, refl, sym, ap, ap₂, ◌∙◌, subst, Bool, true, List, ℕ, zero, suc, ◌+◌, ◌-◌, ◌*◌, ◌/◌, ◌%◌, ◌^◌, ◌≤◌, ◌<◌, min, arith, T, length, set, length-take}
use Rattle.model.specs.{Lists.at, Lists.flat, Lists.choose, Written.placed, Run.Ending, Run.finished, Run.spent, Run.full, Run.nodes_in, Run.Result, Run.Tally, Run.settled_by, Run.counts_by}
use Rattle.model.proofs.{Lists.T_of, Lists.of_T, Written.length_placed, Written.placed_then, Tally.length_counts, Tally.count_most}
use Rattle.run_state.specs.{Inner.Pair.prefix_of, Inner.Walk.stop_in}
use Rattle.run_cut.specs.Parts.{nodes_after, go_on, made_in, added}
use Rattle.desk.specs.Queue.{Standing, running, over, goes_on, Job, list_room, standing_after, job_after, job_turned, Slot, taken, waits, slot_turned, slot_at, Found, none_found, slot, round_from}
use Rattle.desk.specs.Queue.{to_serve}
use Rattle.desk.specs.Queue.{turn, QueueReply, idle, served, served_as, turn_reply, refusal, answered, size, standing_by}
use Rattle.desk.specs.{Rounds.turned, Rounds.due, Rounds.given, Inner.Places.LIMIT, Inner.Places.STANDING, Inner.Places.COUNTS, Inner.Places.LIST, Inner.Places.NEXT, Claims.QueueBytes}
use Rattle.desk.specs.Inner.Layout.{slot_place, long, nodes_at, counts_at, job_at, slot_of, queue_of, standing_byte, state_bytes, count_bytes, run_bytes, with_run, turn_bytes, reply_on, bytes_after}
use Rattle.desk.proofs.Slots.{long_small, slot_in, free_at, taken_at, reply_whole, reply_wrong, bytes_whole, bytes_wrong}
use Rattle.desk.proofs.Stretch.{stretch_limit, stretch, turns_for, Stretched, stretched}
use Rattle.desk.proofs.{Queue.first_in, Bytes.placed_apart, Turning.Fits, Turning.at_fits, Turned.state_length, Turned.run_length, Turned.text_length, Counts.counts_most, RoundCalls.turns_fit}
use Rattle.arrays.specs.Inner.Places.{PLANS, LAST}
use Rattle.desk_turns.specs.{Inner.Served.problem_at, Inner.Served.gone_on, Inner.Served.PartDone, Inner.Served.Shows, Inner.Served.ServedAt, declared.serve.Served.Served}

some_turns : (r : ℕ) (h : Job) → 1 ≤ r → h.progress.made ≤ h.limit → goes_on h.standing ≡ true → Stretched r h
some_turns zero h o l g = absurd (omega arith)
some_turns (suc r) h o l g = stretched r h l g

-- ---- a slot that waits
module _ (b : List ℕ) (k : ℕ) (d : QueueBytes b) (l : k < 8) (w : waits (slot_of b k) ≡ true) where
  abbrev p : ℕ
  p = slot_place k

  abbrev h : Job
  h = job_at b p

  held : at b p ≡ 0 → ⊥
  held e = subst (λ (s : Slot). T (waits s)) (free_at b k e) (T_of (waits (slot_of b k)) w)

  pub slot_is : slot_of b k ≡ taken h
  slot_is = taken_at b k held

  goes : goes_on h.standing ≡ true
  goes = sym (ap waits slot_is) ∙ w

  fits : Fits b p h
  fits = at_fits b p (let z = d.0 in omega arith) d.1

  module _ (r : ℕ) (o : 1 ≤ r) where
    abbrev g : Job
    g = given r h

    pub walk : Stretched r h
    walk = some_turns r h o fits.allowed goes

    fits_after : Fits b p g
    fits_after = turns_fit b p (due r h) h fits

    -- what is known of the slot's limit and nodes
    pub within : (limit made : ℕ) → limit ≡ long b (p + LIMIT) → made ≡ nodes_at b p → (made ≤ limit) × (limit < 2 ^ 32)
    within limit made e f = let z = long_small b d.1 (p + LIMIT) in (omega arith, omega arith)

    module _ (limit made more : ℕ) (el : limit ≡ long b (p + LIMIT)) (em : made ≡ nodes_at b p) (es : more ≡ min (limit - made) (64 * r)) where
      limits : h.progress.made + more ≡ stretch_limit r h
      unfolding job_at
      limits = let z = (within limit made el em).0 in omega arith

      same : gone_on b p more ≡ stretch r h
      unfolding job_at
      same = ap (λ (x : ℕ). go_on (problem_at b p) x (list_room (problem_at b p)) h.progress) limits

      module _ (c work : List ℕ) (stop : ℕ) (tally : Tally) (q : PartDone b p more c work stop tally) where
        abbrev nodes : ℕ
        nodes = tally.nodes

        total_is : made + nodes ≡ nodes_in (stretch r h).ending
        unfolding job_at
        total_is = ap (λ (x : ℕ). x + nodes) em ∙ q.made ∙ ap (λ (x : Result). nodes_in x.ending) same

        total_small : nodes_in (stretch r h).ending < 2 ^ 32
        unfolding job_at
        total_small =
            let e = ap (λ (x : Job). x.progress.made) walk.whole in
            let a = fits_after.allowed in
            let f = fits_after.limited in
            let z = long_small b d.1 (p + LIMIT) in
            omega arith

        pub fits_total : made + nodes < 2 ^ 64
        fits_total = let e = total_is in let z = total_small in omega arith

        -- the counts before and those of this part fit, which are twelve
        pub more_twelve : length tally.counts ≡ 12
        more_twelve = ap length q.counts ∙ length_counts settled_by (made_in (problem_at b p) h.progress (gone_on b p more))

        pub sums_fit : (before : List ℕ) → before ≡ counts_at b p → (x : ℕ) → at before x + at tally.counts x < 2 ^ 32
        unfolding job_at
        sums_fit before e x =
            let ts = made_in (problem_at b p) h.progress (gone_on b p more) in
            let y = ap (λ (l : List ℕ). at l x) e in
            let z = ap (λ (l : List ℕ). at l x) q.counts in
            let u = counts_most b p x in
            let v = count_most settled_by ts x in
            let w = length-take (nodes_in (gone_on b p more).ending - h.progress.made) (nodes_after (problem_at b p) h.progress.last) in
            let n = q.made in
            let o = total_small in
            let t = ap (λ (x : Result). nodes_in x.ending) same in
            omega arith

        module _ (standing : ℕ) (est : (e : Ending) → stop ≡ stop_in e → made + nodes ≡ nodes_in e → standing ≡ standing_byte (standing_after limit e)) where
          pub shows : Shows g standing (made + nodes) work
          unfolding job_at
          shows =
              let few = subst (λ (x : Job). length x.progress.rows ≤ 4096) walk.whole fits_after.few in
              let e = total_is in
              let z = total_small in
              let n = q.plans ∙ ap (λ (x : Result). length x.rows) same in
              subst (λ (x : Job). Shows x standing (made + nodes) work) (sym walk.whole)
              record {
                standing = est (stretch r h).ending (q.stopped ∙ ap (λ (x : Result). stop_in x.ending) same) total_is ∙ ap (λ (x : ℕ). standing_byte (standing_after x (stretch r h).ending)) el;
                made = total_is;
                plans = n;
                last = subst (λ (x : Result). prefix_of work (at work LAST) ≡ (job_after h x).progress.last) same q.last;
                short = q.short;
                bytes = q.bytes;
                few = omega arith;
                narrow = omega arith;
              }

          abbrev listed : List ℕ
          listed = placed b (p + LIST) (flat g.progress.rows)

          pub done : (bytes c₁ before c' : List ℕ) (turns : ℕ) (plans : ℕ) → bytes ≡ state_bytes g → c₁ ≡ placed c (p + STANDING) bytes → before ≡ counts_at b p →
              c' ≡ placed c₁ (p + COUNTS) (count_bytes (added before tally.counts)) → plans ≡ at work PLANS → turns ≡ 1 + (nodes - 1) / 64 →
              ServedAt b k r c' record { standing = standing; plans = plans; nodes = made + nodes; turns = turns }
          unfolding with_run run_bytes job_at
          done bytes c₁ before c' turns plans e f m i n t =
              let s = shows in
              let x = run_length b k d l g fits_after in
              let z = state_length b k d l g fits_after in
              let y = text_length b k d l g fits_after in
              let list : c ≡ placed b (p + LIST) (flat g.progress.rows) = q.listed ∙ ap (λ (z : Result). placed b (p + LIST) (flat z.rows)) same ∙ ap
              (λ (z : Job). placed b (p + LIST) (flat z.progress.rows)) (sym walk.whole) in
              let counts : added before tally.counts ≡ g.progress.counts =
              ap₂ added m (q.counts ∙ ap (λ (z : Result). counts_by settled_by (made_in (problem_at b p) h.progress z)) same) ∙ sym (ap (λ (z : Job). z.progress.counts) walk.whole) in
              record {
                written =
                    i ∙ ap₂ (λ (u v : List ℕ). placed u (p + COUNTS) (count_bytes v)) (f ∙ ap₂ (λ (u v : List ℕ). placed u (p + STANDING) v) list e) counts
                    ∙ ap (λ (o : ℕ). placed (placed listed (p + STANDING) (state_bytes g)) o (count_bytes g.progress.counts))
                    (let w : p + COUNTS ≡ p + STANDING + length (state_bytes g) = omega arith in w)
                    ∙ placed_then listed (p + STANDING) (state_bytes g) (let w = d.0 in let u = length_placed b (p + LIST) (flat g.progress.rows) (omega arith) in omega arith)
                    (count_bytes g.progress.counts)
                    ∙ placed_apart b (p + STANDING) (p + LIST) (run_bytes g) (flat g.progress.rows) (omega arith) (let z = d.0 in omega arith);
                standing = s.standing;
                plans = n ∙ s.plans;
                nodes = s.made;
                turns = t ∙ ap turns_for (let w : nodes ≡ nodes_in (stretch r h).ending - h.progress.made = (let u = total_is in omega arith) in w) ∙ sym walk.turns;
              }

-- ---- a turn
byte_number : (s : Standing) → min 3 (standing_byte s) ≡ standing_byte s
byte_number running = refl
byte_number (over (finished plans made)) = refl
byte_number (over (spent plans made)) = refl
byte_number (over (full plans made)) = refl

module _ (b : List ℕ) where
  abbrev pub Turned : QueueReply → List ℕ → Type 0
  Turned r c = (r ≡ reply_on b turn) × (c ≡ bytes_after b turn)

  pub turn_255 : (length b ≡ size → ⊥) → Turned (refusal 255 0) b
  turn_255 n = (sym (reply_wrong b turn n), sym (bytes_wrong b turn n))

  module _ (whole : length b ≡ size) where
    by : (f : Found) → to_serve (queue_of b) ≡ f → Turned (turn_reply f (queue_of b)) (turn_bytes f b)
    by f e = (sym (reply_whole b turn whole ∙ ap (λ (x : Found). turn_reply x (queue_of b)) e), sym (bytes_whole b turn whole ∙ ap (λ (x : Found). turn_bytes x b) e))

    pub turn_idle : none_found ≡ to_serve (queue_of b) → Turned (answered idle) b
    turn_idle e = by none_found (sym e)

    module _ (small : (i : ℕ) → at b i < 256) (k : ℕ) (e : slot k ≡ to_serve (queue_of b)) (l : k < 8) where
      serves : to_serve (queue_of b) ≡ slot k
      serves = sym e

      pub waiting : waits (slot_of b k) ≡ true
      waiting = ap waits (sym (slot_in b k l)) ∙ of_T (waits (slot_at (queue_of b) k)) (first_in (λ n. waits (slot_at (queue_of b) n)) (round_from (queue_of b).next) k serves).0

      abbrev now : Job
      now = job_at b (slot_place k)

      one : given 1 now ≡ job_turned now
      unfolding due
      one = ap (λ (t : Bool). turned (choose t 1 0) now) (goes b k (whole, small) l waiting)

      pub turn_served : (c : List ℕ) (s : Served) → ServedAt b k 1 c s → Turned (answered (served k (standing_by s.standing s.plans s.nodes) s.plans s.nodes)) (set c NEXT ((k + 1) % 8))
      turn_served c s q =
          let r = by (slot k) serves in
          let f = fits_after b k (whole, small) l waiting 1 (omega arith) in
          let g = given 1 now in
          let stands : standing_by s.standing s.plans s.nodes ≡ g.standing =
          ap (λ (x : ℕ). standing_by x s.plans s.nodes) (q.standing ∙ sym (byte_number g.standing)) ∙ ap₂ (standing_by (min 3 (standing_byte g.standing))) q.plans q.nodes
          ∙ f.figured in (
            ap (λ (x : Standing). answered (served k x s.plans s.nodes)) stands
                ∙ ap₂ (λ (x y : ℕ). answered (served k g.standing x y)) q.plans q.nodes ∙ ap (λ (x : Job). served_as k (taken x)) one
                ∙ sym (ap (λ (x : Slot). served_as k (slot_turned x)) (slot_in b k l ∙ slot_is b k (whole, small) l waiting)) ∙ r.0,
            ap (λ (x : List ℕ). set x NEXT ((k + 1) % 8)) (q.written ∙ ap (with_run b (slot_place k)) one) ∙ r.1,
          )
