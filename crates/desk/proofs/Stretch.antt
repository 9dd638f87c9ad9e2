-- Turns at a stretch: up to r turns of a job are one walk with the limit of the last of them, and how many of them it takes is told by its nodes.
-- Assumes nothing.
use Rattle.model.specs.Kit.{◌≡◌, refl, sym, ap, ap₂, ◌∙◌, subst, Bool, true, false, ℕ, zero, suc, ◌+◌, ◌-◌, ◌*◌, ◌/◌, ◌≤◌, ◌<◌, min, arith, ltb, length, length-drop, ltb-true, ltb-false}
use Rattle.model.specs.{Lists.choose, Problem.Problem, Sheet.problem_of, Run.Ending, Run.finished, Run.spent, Run.full, Run.nodes_in, Run.Result}
use Rattle.model.proofs.Runs.{Ended, Walk, walk}
use Rattle.run_cut.specs.{Parts.nodes_after, Parts.Progress, Parts.go_on, Parts.progress_after, Between.and_next}
use Rattle.run_cut.proofs.Anywhere.{after_from, from_anywhere, stands_anywhere}
use Rattle.desk.proofs.Rounds.{due_over}
use Rattle.desk.specs.{Queue.running, Queue.over, Queue.goes_on, Queue.Job, Queue.list_room, Queue.standing_after, Queue.job_after, Queue.job_turned, Rounds.turned, Rounds.due, Rounds.given}

-- the walk of up to r turns
abbrev pub stretch_limit : ℕ → Job → ℕ
stretch_limit r h = min h.limit (h.progress.made + 64 * r)

abbrev pub stretch : ℕ → Job → Result
stretch r h = go_on (problem_of h.sheet) (stretch_limit r h) (list_room (problem_of h.sheet)) h.progress

-- how many turns so many nodes are: one for each 64, and one where there are none
abbrev pub turns_for : ℕ → ℕ
turns_for n = 1 + (n - 1) / 64

pub record Stretched (r : ℕ) (h : Job) : Type 0 where
  pub whole : given r h ≡ job_after h (stretch r h)
  pub turns : due r h ≡ turns_for (nodes_in (stretch r h).ending - h.progress.made)

due_yes : (r : ℕ) (h : Job) → goes_on h.standing ≡ true → due (suc r) h ≡ suc (due r (job_turned h))
unfolding due
due_yes r h e = ap (λ (b : Bool). choose b (suc (due r (job_turned h))) 0) e

-- what is known of a walk by how it ended
walked : (p : Problem) (limit room : ℕ) (s : Progress) → Walk p limit room (nodes_after p s.last) s.made s.rows (go_on p limit room s)
unfolding go_on
walked p limit room s = walk p limit room (nodes_after p s.last) s.made s.rows

-- a walk with a node left and a limit above makes one at least
some_made : (p : Problem) (limit room : ℕ) (s : Progress) → s.made < limit → 1 ≤ length (nodes_after p s.last) → s.made < nodes_in (go_on p limit room s).ending
some_made p limit room s l n = let w = walked p limit room s in go w.passed (go_on p limit room s).ending w.ended
  where
    go : (k : ℕ) (e : Ending) → Ended p limit room (nodes_after p s.last) s.made k e → s.made < nodes_in e
    go k (finished a b) h = omega arith
    go k (spent a b) h = omega arith
    go k (full a b) h = omega arith

-- the first turn ended the run
module _ (r : ℕ) (h : Job) (l : h.progress.made ≤ h.limit) (g : goes_on h.standing ≡ true) where
  abbrev p : Problem
  p = problem_of h.sheet

  abbrev room : ℕ
  room = list_room p

  abbrev R : Result
  R = stretch 1 h

  first : due (suc r) h ≡ suc (due r (job_turned h))
  first = due_yes r h g

  turned_is : job_turned h ≡ job_after h R
  unfolding job_turned
  turned_is = refl

  given_is : given (suc r) h ≡ given r (job_turned h)
  given_is = ap (λ (m : ℕ). turned m h) first

  few : nodes_in R.ending ≤ h.progress.made + 64
  few = let w = walked p (stretch_limit 1 h) room h.progress in let a = w.allowed (omega arith) in omega arith

  ended_by : goes_on (job_turned h).standing ≡ false → stretch (suc r) h ≡ R → Stretched (suc r) h
  ended_by o e =
      let z = due_over r (job_turned h) o in
      let f = few in
      record {
        whole = given_is ∙ ap (λ (m : ℕ). turned m (job_turned h)) z ∙ turned_is ∙ ap (job_after h) (sym e);
        turns = first ∙ ap suc z ∙ (let y : 1 ≡ turns_for (nodes_in R.ending - h.progress.made) = omega arith in y) ∙ ap
            (λ (x : Result). turns_for (nodes_in x.ending - h.progress.made)) (sym e);
      }

  further : stretch (suc r) h ≡ and_next R.ending R (go_on p (stretch_limit (suc r) h) room (progress_after p h.progress R))
  further = from_anywhere p (stretch_limit (suc r) h) room (stretch_limit 1 h) h.progress (omega arith) (omega arith)

  pub spent_at : (plans made : ℕ) → R.ending ≡ spent plans made → made ≡ stretch_limit 1 h
  spent_at plans made e =
      let w = walked p (stretch_limit 1 h) room h.progress in
      (subst (Ended p (stretch_limit 1 h) room (nodes_after p h.progress.last) h.progress.made w.passed) e w.ended).2

-- ---- a job that goes on after a turn
module _ (r : ℕ) (h : Job) (l : h.progress.made ≤ h.limit) (g : goes_on h.standing ≡ true) (plans made : ℕ) (e : (R r h l g).ending ≡ spent plans made) (more : made < h.limit) where
  abbrev q : Problem
  q = problem_of h.sheet

  abbrev h' : Job
  h' = job_after h (stretch 1 h)

  ended : Ended q (stretch_limit 1 h) (list_room q) (nodes_after q h.progress.last) h.progress.made (walked q (stretch_limit 1 h) (list_room q) h.progress).passed (spent plans made)
  ended = subst (Ended q (stretch_limit 1 h) (list_room q) (nodes_after q h.progress.last) h.progress.made (walked q (stretch_limit 1 h) (list_room q) h.progress).passed) e
      (walked q (stretch_limit 1 h) (list_room q) h.progress).ended

  made_64 : h'.progress.made ≡ h.progress.made + 64
  made_64 = let x = ended.2 in let y = ap nodes_in e in omega arith

  pub still : goes_on h'.standing ≡ true
  still = ap (λ (x : Ending). goes_on (standing_after h.limit x)) e ∙ go (ltb made h.limit) refl
    where
      go : (b : Bool) → ltb made h.limit ≡ b → goes_on (elim b [ true ↦ running | false ↦ over (spent plans made) ]) ≡ true
      go true z = refl
      go false z = absurd (let y = ltb-false made h.limit z in omega arith)

  pub within : h'.progress.made ≤ h.limit
  within = let y = ap nodes_in e in omega arith

  left_over : 1 ≤ length (nodes_after q h'.progress.last)
  left_over =
      let x = ended.0 in
      let y = ended.1 in
      let j = nodes_in (stretch 1 h).ending - h.progress.made in
      let z = ap length (after_from q h.progress.last j) ∙ length-drop j (nodes_after q h.progress.last) in
      let i = ap nodes_in e in
      omega arith

  limits : stretch_limit r h' ≡ stretch_limit (suc r) h
  limits = let z = made_64 in omega arith

  same : stretch (suc r) h ≡ stretch r h'
  same = further r h l g ∙ ap (λ (x : Ending). and_next x (stretch 1 h) (go_on q (stretch_limit (suc r) h) (list_room q) h'.progress)) e ∙ ap (λ (x : ℕ). go_on q x (list_room q) h'.progress)
      (sym limits)

  -- what is carried on is the same in two parts and in one
  carried : (job_after h' (stretch r h')).progress ≡ (job_after h (stretch (suc r) h)).progress
  carried =
      let z = made_64 in
      let y = within in
      stands_anywhere q (stretch_limit r h') (list_room q) (stretch_limit 1 h) plans made h.progress (omega arith) (let i = ap nodes_in e in let x = ended.2 in omega arith) e
      ∙ ap (λ (x : ℕ). progress_after q h.progress (go_on q x (list_room q) h.progress)) limits

  pub goes_on_lem : 1 ≤ r → Stretched r h' → Stretched (suc r) h
  goes_on_lem o ih =
      let x = some_made q (stretch_limit r h') (list_room q) h'.progress (let z = made_64 in let w = within in let y = ap nodes_in e in omega arith) left_over in
      let m = made_64 in
      record {
        whole =
            given_is r h l g ∙ ap (given r) (turned_is r h l g) ∙ ih.whole
            ∙ ap₂ (λ (t : Progress) (x : Result). let w : Job = record { sheet = h.sheet; limit = h.limit; progress = t; standing = standing_after h.limit x.ending } in w) carried (sym same);
        turns =
            first r h l g ∙ ap (λ (k : Job). suc (due r k)) (turned_is r h l g) ∙ ap suc ih.turns
            ∙ (let z : suc (turns_for (nodes_in (stretch r h').ending - h'.progress.made)) ≡ turns_for (nodes_in (stretch r h').ending - h.progress.made) = omega arith in z)
            ∙ ap (λ (k : Result). turns_for (nodes_in k.ending - h.progress.made)) (sym same);
      }

-- ---- r turns
one_turn : (h : Job) → h.progress.made ≤ h.limit → goes_on h.standing ≡ true → Stretched 1 h
unfolding due
one_turn h l g =
    let f = few 0 h l g in
    record { whole = given_is 0 h l g ∙ turned_is 0 h l g; turns = first 0 h l g ∙ (let y : 1 ≡ turns_for (nodes_in (stretch 1 h).ending - h.progress.made) = omega arith in y) }

pub stretched : (r : ℕ) (h : Job) → h.progress.made ≤ h.limit → goes_on h.standing ≡ true → Stretched (suc r) h
stretched zero h l g = one_turn h l g
stretched (suc r) h l g = go (stretch 1 h).ending refl (stretched r (job_after h (stretch 1 h)))
  where
    stands : (x : Ending) → (stretch 1 h).ending ≡ x → (job_turned h).standing ≡ standing_after h.limit x
    stands x e = ap (λ (k : Job). k.standing) (turned_is r h l g) ∙ ap (standing_after h.limit) e

    next : Ending → Result
    next x = and_next x (stretch 1 h) (go_on (problem_of h.sheet) (stretch_limit (suc (suc r)) h) (list_room (problem_of h.sheet)) (progress_after (problem_of h.sheet) h.progress (stretch 1 h)))

    go : (x : Ending) → (stretch 1 h).ending ≡ x → ((job_after h (stretch 1 h)).progress.made ≤ h.limit → goes_on (job_after h (stretch 1 h)).standing ≡ true → Stretched (suc r)
        (job_after h (stretch 1 h))) → Stretched (suc (suc r)) h
    go (finished a b) e ih = ended_by (suc r) h l g (ap goes_on (stands (finished a b) e)) (further (suc r) h l g ∙ ap next e)
    go (full a b) e ih = ended_by (suc r) h l g (ap goes_on (stands (full a b) e)) (further (suc r) h l g ∙ ap next e)
    go (spent a b) e ih = cases (ltb b h.limit) refl
      where
        cases : (t : Bool) → ltb b h.limit ≡ t → Stretched (suc (suc r)) h
        cases true z = let m = ltb-true b h.limit z in goes_on_lem (suc r) h l g a b e m (omega arith) (ih (within (suc r) h l g a b e m) (still (suc r) h l g a b e m))
        cases false z =
            let m = ltb-false b h.limit z in
            let w = spent_at (suc r) h l g a b e in
            ended_by (suc r) h l g (ap goes_on (stands (spent a b) e) ∙ ap (λ (t : Bool). goes_on (elim t [ true ↦ running | false ↦ over (spent a b) ])) z)
            (ap (λ (x : ℕ). go_on (problem_of h.sheet) x (list_room (problem_of h.sheet)) h.progress) (let y : stretch_limit (suc (suc r)) h ≡ stretch_limit 1 h = omega arith in y))
