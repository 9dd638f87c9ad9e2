-- Counting families by breadth-first search over the numbers of the solutions: each step keeps the walk (specs/Walk), and at its end the count
-- is that of the families. Assumes nothing.
use Rattle.model.specs.Kit.{◌≡◌, refl, sym, ap, ◌∙◌, subst, ◌⊎◌, inl, inr, ⊎_elim, Bool, false, List, [], ◌∷◌, map, Memᴰ, Memᴰ-cases_cons, Memᴰ-map, Memᴰ-of_map, ℕ, suc, ◌+◌, ◌≤◌, ◌<◌}
use Rattle.model.specs.Kit.{ℕ_discrete, arith, T, length, take, set, length-set, length-append, length-take-le}
use Rattle.model.specs.{Lists.keep, Lists.below, Lists.at, Lists.earlier, Problem.Problem, Problem.takes, Problem.symmetry_at, Sheet.distinct, Inner.WellFormed.WellFormed}
use Rattle.std.proofs.lemmas.List.{get_or-set_same, get_or-set_other}
use lib.Seq.{take-suc, take-length}
use Rattle.model.specs.Inner.WellFormed.{Respected}
use Rattle.families.specs.Families.{Joined, alone, further, solutions_of, is_earliest, earliest_of, families_of}
use Rattle.families.specs.Inner.Walk.{solution_at, image_at, met, Walk}
use Rattle.model.proofs.Lists.{of_T, not_of, keep_yes, keep_no, keep_append, place_of, below_i, below_e, length_below, at_set, at_set_other}
use Rattle.model.proofs.Counting.{distinct_i, distinct_below, no_more}
use Rattle.families.proofs.Numbers.{at_solution, number_of, number_earlier, earlier_number, same_number, symmetry_among, only_image, image_good}
use Rattle.families.proofs.{Joined.joined_to, Joined.joined_sym, FamilyCount.keep_length, FamilyCount.earliest_i, FamilyCount.earliest_e}

met_set : (seen : List Bool) (j : ℕ) (v : Bool) → j < length seen → met (set seen j v) j ≡ v
unfolding met
met_set seen j v l = get_or-set_same seen j v false l

met_set_other : (seen : List Bool) (j : ℕ) (v : Bool) (i : ℕ) → (i ≡ j → ⊥) → met (set seen j v) i ≡ met seen i
unfolding met
met_set_other seen j v i n = get_or-set_other seen j i v false n

module _ (p : Problem) (w : WellFormed p) (respected : Respected p) where
  abbrev N : ℕ
  N = length (solutions_of p)

  abbrev M : ℕ
  M = length p.symmetries

  -- ---- counting
  abbrev begin : ℕ → ℕ
  begin i = length (keep (is_earliest p) (take i (solutions_of p)))

  begin_next : (i : ℕ) → i < N → begin (i + 1) ≡ begin i + length (keep (is_earliest p) (solution_at p i ∷ []))
  unfolding solution_at
  begin_next i l =
      let e : i + 1 ≡ suc i = omega arith in
      ap begin e
      ∙ ap (λ (r : List (List ℕ)). length (keep (is_earliest p) r)) (take-suc (solutions_of p) i [] l)
      ∙ ap length (keep_append (is_earliest p) (take i (solutions_of p)) (solution_at p i ∷ []))
      ∙ length-append (keep (is_earliest p) (take i (solutions_of p))) (keep (is_earliest p) (solution_at p i ∷ []))

  begin_yes : (i : ℕ) → i < N → T (is_earliest p (solution_at p i)) → begin (i + 1) ≡ begin i + 1
  unfolding keep
  begin_yes i l t = begin_next i l ∙ ap (λ (r : List (List ℕ)). begin i + length r) (keep_yes (is_earliest p) (solution_at p i) [] (of_T (is_earliest p (solution_at p i)) t))

  begin_no : (i : ℕ) → i < N → (T (is_earliest p (solution_at p i)) → ⊥) → begin (i + 1) ≡ begin i
  unfolding keep
  begin_no i l t =
      let e : begin i + 0 ≡ begin i = omega arith in
      begin_next i l ∙ ap (λ (r : List (List ℕ)). begin i + length r) (keep_no (is_earliest p) (solution_at p i) [] (not_of (is_earliest p (solution_at p i)) t)) ∙ e

  -- ---- the walk
  pub walk_begin : (seen : List Bool) (queue : List ℕ) → length (solutions_of p) ≤ length seen → length (solutions_of p) ≤ length queue → ((j : ℕ) → j < length (solutions_of p) → met seen j ≡ false)
      → Walk p seen queue 0 0 0 0 0
  unfolding keep
  walk_begin seen queue a b z = record {
    wide = a;
    long = b;
    asked = omega arith;
    ahead = omega arith;
    queued = λ t l. absurd (omega arith);
    marked = λ j l n. absurd (n (z j l));
    once = λ s t l. absurd (omega arith);
    begun = λ i l. absurd (omega arith);
    joined = λ t l. absurd (omega arith);
    passed = λ t k l. absurd (omega arith);
    turned = λ k l. absurd (omega arith);
    counted = refl;
  }

  module _ (seen : List Bool) (queue : List ℕ) (starts count head turn tail : ℕ) (k : Walk p seen queue starts count head turn tail) where
    -- numbers of solutions that were met, and one that was not, are no more than the solutions
    crowd : (xs : List ℕ) → T (distinct xs) → ((x : ℕ) → Memᴰ x xs → x < N) → length xs ≤ N
    crowd xs d h =
        let z = length_below (λ (i : ℕ). i) N in
        let c = no_more xs (map (λ (i : ℕ). i) (below N)) d (λ x m. Memᴰ-map (λ (i : ℕ). i) (below_i N x (h x m))) in
        omega arith

    apart : T (distinct (map (at queue) (below tail)))
    apart = distinct_below (at queue) tail k.once

    met_below : (x : ℕ) → Memᴰ x (map (at queue) (below tail)) → (x < N) × (met seen x ≡ false → ⊥)
    met_below x m =
        let r = Memᴰ-of_map (at queue) (below tail) m in
        subst (λ (z : ℕ). (z < N) × (met seen z ≡ false → ⊥)) r.2 (k.queued r.0 (below_e tail r.0 r.1))

    pub walk_tail : tail ≤ length (solutions_of p)
    walk_tail = let c = crowd (map (at queue) (below tail)) apart (λ x m. (met_below x m).0) in let e = length_below (at queue) tail in omega arith

    -- there is room in the queue for a solution that was not met yet
    pub walk_room : (j : ℕ) → j < length (solutions_of p) → met seen j ≡ false → tail < length (solutions_of p)
    walk_room j l e =
        let c : suc (length (map (at queue) (below tail))) ≤ N = crowd (j ∷ map (at queue) (below tail)) (distinct_i j (map (at queue) (below tail)) (λ m. (met_below j m).1 e) apart)
        (λ x m. ⊎_elim {C = x < N} (λ q. subst (λ (z : ℕ). z < N) (sym q) l) (λ i. (met_below x i).0) (Memᴰ-cases_cons m)) in
        let f = length_below (at queue) tail in
        omega arith

    pub walk_count : count ≤ starts
    walk_count =
        let a = keep_length (is_earliest p) (take starts (solutions_of p)) in
        let b = length-take-le starts (solutions_of p) k.asked in
        let c = k.counted in
        omega arith

    -- ---- a solution that was not met is met, and put into the queue
    module _ (j : ℕ) (v : Bool) (lj : j < N) (fresh : met seen j ≡ false) (mark : v ≡ false → ⊥) where
      room : tail < length queue
      room = let a = walk_room j lj fresh in let b = k.long in omega arith

      seen_new : met (set seen j v) j ≡ false → ⊥
      seen_new e = mark (sym (met_set seen j v (let a = k.wide in omega arith)) ∙ e)

      seen_old : (i : ℕ) → (met seen i ≡ false → ⊥) → met (set seen j v) i ≡ false → ⊥
      seen_old i n = go (ℕ_discrete i j)
        where
          go : Dec (i ≡ j) → met (set seen j v) i ≡ false → ⊥
          go (yes q) = subst (λ (z : ℕ). met (set seen j v) z ≡ false → ⊥) (sym q) seen_new
          go (no q) = λ e. n (sym (met_set_other seen j v i q) ∙ e)

      queue_new : at (set queue tail j) tail ≡ j
      queue_new = at_set queue tail j room

      queue_old : (t : ℕ) → t < tail → at (set queue tail j) t ≡ at queue t
      queue_old t l = at_set_other queue tail j t (λ e. omega arith)

      -- what holds of the new number and of the old ones holds of each
      each : (P : ℕ → Type 0) → P j → ((t : ℕ) → t < tail → P (at queue t)) → (t : ℕ) → t < tail + 1 → P (at (set queue tail j) t)
      each P new old t l = go (ℕ_discrete t tail)
        where
          go : Dec (t ≡ tail) → P (at (set queue tail j) t)
          go (yes e) = subst P (sym (ap (at (set queue tail j)) e ∙ queue_new)) new
          go (no e) = let h : t < tail = omega arith in subst P (sym (queue_old t h)) (old t h)

      marked_now : (i : ℕ) → i < N → (met (set seen j v) i ≡ false → ⊥) → (t : ℕ) × (t < tail + 1) × (at (set queue tail j) t ≡ i)
      marked_now i l n = go (ℕ_discrete i j)
        where
          go : Dec (i ≡ j) → (t : ℕ) × (t < tail + 1) × (at (set queue tail j) t ≡ i)
          go (yes q) = (tail, omega arith, queue_new ∙ sym q)
          go (no q) = let r = k.marked i l (λ e. n (met_set_other seen j v i q ∙ e)) in let h = r.1 in (r.0, omega arith, queue_old r.0 h ∙ r.2)

      unmet : (t : ℕ) → t < tail → at (set queue tail j) t ≡ at (set queue tail j) tail → ⊥
      unmet t l e = (k.queued t l).1 (ap (met seen) (sym (queue_old t l) ∙ e ∙ queue_new) ∙ fresh)

      once_now : (s t : ℕ) → s < tail + 1 → t < tail + 1 → at (set queue tail j) s ≡ at (set queue tail j) t → s ≡ t
      once_now s t ls lt e = go (ℕ_discrete s tail) (ℕ_discrete t tail)
        where
          go : Dec (s ≡ tail) → Dec (t ≡ tail) → s ≡ t
          go (yes a) (yes b) = a ∙ sym b
          go (yes a) (no b) = let h : t < tail = omega arith in absurd (unmet t h (sym e ∙ ap (at (set queue tail j)) a))
          go (no a) (yes b) = let h : s < tail = omega arith in absurd (unmet s h (e ∙ ap (at (set queue tail j)) b))
          go (no a) (no b) = let h : s < tail = omega arith in let g : t < tail = omega arith in k.once s t h g (sym (queue_old s h) ∙ e ∙ queue_old t g)

      -- the walk with it, where it is joined to a start and the images looked at go on
      met_now : (starts' count' turn' : ℕ) → starts ≤ starts' → starts' ≤ N → ((i : ℕ) → i < starts' → (i < starts) ⊎ (i ≡ j)) →
          (i : ℕ) → i < starts' → Joined p (solution_at p i) (solution_at p j) →
          ((h : ℕ) → h < turn' → met (set seen j v) (image_at p h (at (set queue tail j) head)) ≡ false → ⊥) →
          count' ≡ length (keep (is_earliest p) (take starts' (solutions_of p))) → Walk p (set seen j v) (set queue tail j) starts' count' head turn' (tail + 1)
      met_now starts' count' turn' more few new i li ij turns counts = record {
        wide = subst (λ (n : ℕ). N ≤ n) (sym (length-set seen j v)) k.wide;
        long = subst (λ (n : ℕ). N ≤ n) (sym (length-set queue tail j)) k.long;
        asked = few;
        ahead = let a = k.ahead in omega arith;
        queued = each (λ (z : ℕ). (z < N) × (met (set seen j v) z ≡ false → ⊥)) (lj, seen_new) (λ t l. let r = k.queued t l in (r.0, seen_old (at queue t) r.1));
        marked = marked_now;
        once = once_now;
        begun = λ h l. ⊎_elim {C = met (set seen j v) h ≡ false → ⊥} (λ q. seen_old h (k.begun h q)) (λ q. subst (λ (z : ℕ). met (set seen j v) z ≡ false → ⊥) (sym q) seen_new) (new h l);
        joined = each (λ (z : ℕ). (h : ℕ) × (h < starts') × Joined p (solution_at p h) (solution_at p z)) (i, li, ij) (λ t l. let r = k.joined t l in let b = r.1 in (r.0, omega arith, r.2));
        passed = λ t h l m. let a = k.ahead in let lt : t < tail = omega arith in subst (λ (z : ℕ). met (set seen j v) (image_at p h z) ≡ false → ⊥) (sym (queue_old t lt))
            (seen_old (image_at p h (at queue t)) (k.passed t h l m));
        turned = turns;
        counted = counts;
      }

  -- ---- the images of the solution at the head of the queue
  module _ (seen : List Bool) (queue : List ℕ) (starts count head turn tail : ℕ) (k : Walk p seen queue starts count head turn tail) (some : head < tail) where
    -- its image by the next symmetry was not met yet: mark it and put it into the queue
    pub walk_push : (j : ℕ) (v : Bool) → turn < length p.symmetries → j ≡ image_at p turn (at queue head) → met seen j ≡ false → (v ≡ false → ⊥)
        → Walk p (set seen j v) (set queue tail j) starts count head
        (turn + 1) (tail + 1)
    walk_push j v l e fresh mark =
        met_now seen queue starts count head turn tail k j v lj fresh mark starts count (turn + 1) (omega arith) k.asked (λ i b. inl b) r.0 r.1 joins turns k.counted
      where
        q : at queue head < N
        q = (k.queued head some).0

        good : (image_at p turn (at queue head) < N) × T (takes p (symmetry_at p turn) (solution_at p (at queue head)) (solution_at p (image_at p turn (at queue head))))
        good = image_good p w respected turn (at queue head) l q

        lj : j < N
        lj = subst (λ (z : ℕ). z < N) (sym e) good.0

        r : (i : ℕ) × (i < starts) × Joined p (solution_at p i) (solution_at p (at queue head))
        r = k.joined head some

        joins : Joined p (solution_at p r.0) (solution_at p j)
        joins = further (solution_at p (at queue head)) (solution_at p j) (symmetry_at p turn) r.2 (symmetry_among p w respected turn l)
            (subst (λ (z : ℕ). T (takes p (symmetry_at p turn) (solution_at p (at queue head)) (solution_at p z))) (sym e) good.1) (at_solution p w respected j lj)

        turns : (h : ℕ) → h < turn + 1 → met (set seen j v) (image_at p h (at (set queue tail j) head)) ≡ false → ⊥
        turns h lh = subst (λ (z : ℕ). met (set seen j v) (image_at p h z) ≡ false → ⊥) (sym (queue_old seen queue starts count head turn tail k j v lj fresh mark head some)) (go (ℕ_discrete h turn))
          where
            go : Dec (h ≡ turn) → met (set seen j v) (image_at p h (at queue head)) ≡ false → ⊥
            go (yes c) = subst (λ (z : ℕ). met (set seen j v) z ≡ false → ⊥) (e ∙ ap (λ (z : ℕ). image_at p z (at queue head)) (sym c))
                (seen_new seen queue starts count head turn tail k j v lj fresh mark)
            go (no c) = seen_old seen queue starts count head turn tail k j v lj fresh mark (image_at p h (at queue head)) (k.turned h (omega arith))

    -- it was met: on to the next symmetry
    pub walk_known : turn < length p.symmetries → (met seen (image_at p turn (at queue head)) ≡ false → ⊥) → Walk p seen queue starts count head (turn + 1) tail
    walk_known l n = record {
      wide = k.wide;
      long = k.long;
      asked = k.asked;
      ahead = k.ahead;
      queued = k.queued;
      marked = k.marked;
      once = k.once;
      begun = k.begun;
      joined = k.joined;
      passed = k.passed;
      turned = λ h b. go h b (ℕ_discrete h turn);
      counted = k.counted;
    }
      where
        go : (h : ℕ) → h < turn + 1 → Dec (h ≡ turn) → met seen (image_at p h (at queue head)) ≡ false → ⊥
        go h b (yes c) = subst (λ (z : ℕ). met seen (image_at p z (at queue head)) ≡ false → ⊥) (sym c) n
        go h b (no c) = k.turned h (omega arith)

    -- all its images were looked at: on to the next in the queue
    pub walk_pop : turn ≡ length p.symmetries → Walk p seen queue starts count (head + 1) 0 tail
    walk_pop e = record {
      wide = k.wide;
      long = k.long;
      asked = k.asked;
      ahead = omega arith;
      queued = k.queued;
      marked = k.marked;
      once = k.once;
      begun = k.begun;
      joined = k.joined;
      passed = λ t h l m. go t h l m (ℕ_discrete t head);
      turned = λ h l. absurd (omega arith);
      counted = k.counted;
    }
      where
        go : (t h : ℕ) → t < head + 1 → h < M → Dec (t ≡ head) → met seen (image_at p h (at queue t)) ≡ false → ⊥
        go t h l m (yes c) = subst (λ (z : ℕ). met seen (image_at p h (at queue z)) ≡ false → ⊥) (sym c) (k.turned h (subst (λ (z : ℕ). h < z) (sym e) m))
        go t h l m (no c) = k.passed t h (omega arith) m

  -- ---- the queue is empty: the next solution is asked whether it begins a family
  module _ (seen : List Bool) (queue : List ℕ) (starts count head tail : ℕ) (k : Walk p seen queue starts count head 0 tail) (empty : head ≡ tail) where
    -- everything joined to a solution that was met was met
    all_met : (i : ℕ) → i < N → (met seen i ≡ false → ⊥) → (s : List ℕ) → Joined p (solution_at p i) s → (j : ℕ) × (j < N) × (met seen j ≡ false → ⊥) × (s ≡ solution_at p j)
    all_met i l n s (alone t) = (i, l, n, refl)
    all_met i l n s (further c e g b m t r) =
        let q = all_met i l n c b in
        let j = q.0 in
        let y = k.marked j q.1 q.2 in
        let x = place_of p.symmetries g [] m in
        let good = image_good p w respected x.0 j x.1 q.1 in
        let h : symmetry_at p x.0 ≡ g = x.2 in
        let lt : y.0 < head = let a = y.1 in omega arith in
        let tk : T (takes p g (solution_at p j) (solution_at p (image_at p x.0 j))) = subst (λ (u : List ℕ). T (takes p u (solution_at p j) (solution_at p (image_at p x.0 j)))) h good.1 in (
          image_at p x.0 j,
          good.0,
          subst (λ (z : ℕ). met seen (image_at p x.0 z) ≡ false → ⊥) y.2 (k.passed y.0 x.0 lt x.1),
          only_image p w respected g (solution_at p j) e (solution_at p (image_at p x.0 j)) m (subst (λ (u : List ℕ). T (takes p g u e)) q.3 t) tk r
              (at_solution p w respected (image_at p x.0 j) good.0),
        )

    module _ (l : starts < N) where
      -- it was not met: it begins a family
      fresh_earliest : met seen starts ≡ false → T (is_earliest p (solution_at p starts))
      fresh_earliest e =
          let s = solution_at p starts in
          let sol = at_solution p w respected starts l in
          earliest_i p w respected s sol (λ t j b.
          let i = number_of p w respected t (joined_to p s t j) in
          let le : i.0 < starts = earlier_number p w respected i.0 starts i.1 (subst (λ (u : List ℕ). T (earlier u s)) (sym i.2) b) in
          let r = all_met i.0 i.1 (k.begun i.0 le) s (subst (λ (u : List ℕ). Joined p u s) (sym i.2) (joined_sym p w respected s t j)) in
          r.2 (ap (met seen) (sym (same_number p w respected starts r.0 l r.1 r.3)) ∙ e))

      -- it was met: an earlier one does
      known_later : (met seen starts ≡ false → ⊥) → T (is_earliest p (solution_at p starts)) → ⊥
      known_later n t =
          let y = k.marked starts l n in
          let r = k.joined y.0 y.1 in
          let j : Joined p (solution_at p r.0) (solution_at p starts) = subst (λ (z : ℕ). Joined p (solution_at p r.0) (solution_at p z)) y.2 r.2 in
          earliest_e p w respected (solution_at p starts) (at_solution p w respected starts l) t (solution_at p r.0) (joined_sym p w respected (solution_at p r.0) (solution_at p starts) j)
          (number_earlier p w respected r.0 starts r.1 l)

      pub walk_start : (v : Bool) → met seen starts ≡ false → (v ≡ false → ⊥) → Walk p (set seen starts v) (set queue tail starts) (starts + 1) (count + 1) head 0 (tail + 1)
      walk_start v fresh mark =
          met_now seen queue starts count head 0 tail k starts v l fresh mark (starts + 1) (count + 1) 0 (omega arith) (omega arith) (λ i b. old i b (ℕ_discrete i starts)) starts (omega arith)
          (alone (at_solution p w respected starts l))
          (λ h b. absurd (omega arith)) (ap (λ (z : ℕ). z + 1) k.counted ∙ sym (begin_yes starts l (fresh_earliest fresh)))
        where
          old : (i : ℕ) → i < starts + 1 → Dec (i ≡ starts) → (i < starts) ⊎ (i ≡ starts)
          old i b (yes e) = inr e
          old i b (no e) = inl (omega arith)

      pub walk_skip : (met seen starts ≡ false → ⊥) → Walk p seen queue (starts + 1) count head 0 tail
      walk_skip n = record {
        wide = k.wide;
        long = k.long;
        asked = omega arith;
        ahead = k.ahead;
        queued = k.queued;
        marked = k.marked;
        once = k.once;
        begun = λ i b. old i b (ℕ_discrete i starts);
        joined = λ t b. (let r = k.joined t b in let c = r.1 in (r.0, omega arith, r.2));
        passed = k.passed;
        turned = k.turned;
        counted = k.counted ∙ sym (begin_no starts l (known_later n));
      }
        where
          old : (i : ℕ) → i < starts + 1 → Dec (i ≡ starts) → met seen i ≡ false → ⊥
          old i b (yes e) = subst (λ (z : ℕ). met seen z ≡ false → ⊥) (sym e) n
          old i b (no e) = k.begun i (omega arith)

  -- ---- every solution was asked
  pub walk_end : (seen : List Bool) (queue : List ℕ) (starts count head turn tail : ℕ) → Walk p seen queue starts count head turn tail → starts ≡ length (solutions_of p) → count ≡ families_of p
  unfolding families_of earliest_of
  walk_end seen queue starts count head turn tail k e =
      k.counted ∙ ap begin e ∙ ap (λ (l : List (List ℕ)). length (keep (is_earliest p) l)) (take-length (solutions_of p))
