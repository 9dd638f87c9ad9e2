-- One turn of each loop that counts families, by the steps of the walk. Assumes nothing.
use Rattle.model.specs.Kit.{◌≡◌, refl, sym, ap, ◌∙◌, subst, subst₂, Bool, true, false, List, ℕ, ◌+◌, ◌≤◌, ◌<◌, arith, length, set, replicate, length-replicate}
use Rattle.model.specs.{Lists.at, Problem.Problem, Inner.WellFormed.WellFormed, Inner.WellFormed.Respected}
use Rattle.families.specs.{Families.solutions_of, Families.families_of, Inner.Walk.image_at, Inner.Walk.met, Inner.Walk.Walk, Inner.Numbered.Imaged, Inner.Numbered.Chained}
use Rattle.families.specs.Inner.Numbered.{Weighed, Finder, Counted, Numbering, Spreading, Flooding}
use Rattle.model.proofs.Lists.{at_set_other, never}
use Rattle.std.proofs.lemmas.List.{get_or-replicate}
use Rattle.families.proofs.Numbers.{image_good}
use Rattle.families.proofs.Walk.{walk_begin, walk_tail, walk_room, walk_count, walk_push, walk_known, walk_pop, walk_start, walk_skip, walk_end}

not_unmet : {b : Bool} → b ≡ true → b ≡ false → ⊥
not_unmet e f = never (let z : true ≡ false = sym e ∙ f in cc)

-- ---- the images of the solution at the head of the queue
pub record Turning (p : Problem) (rows images keys heads weights : List ℕ) (variables symmetries i : ℕ) (seen : List Bool) (queue : List ℕ) (starts count head k end : ℕ) : Type 0 where
  pub lent : Imaged p rows images variables
  pub each : symmetries ≡ length p.symmetries
  pub finder : Finder p keys heads weights variables
  pub walk : Walk p seen queue starts count head k end
  pub some : head < end
  pub placed : i ≡ at queue head

module _ {p : Problem} {rows images keys heads weights : List ℕ} {variables symmetries : ℕ} {seen : List Bool} {queue : List ℕ} {starts count head tail : ℕ}
    (s : Spreading p rows images keys heads weights variables symmetries seen queue starts count head tail) where
  pub spread_head : (tail ≤ 4096) × (head < 4096) × (at queue head < 4096)
  spread_head =
      let n = s.flooding.lent.listed in
      let a = walk_tail p n.good n.respected seen queue starts count head 0 tail s.flooding.walk in
      let b = n.few in
      let c = s.some in
      let d = (s.flooding.walk.queued head c).0 in
      (omega arith, omega arith, omega arith)

  pub turning_begin : Turning p rows images keys heads weights variables symmetries (at queue head) seen queue starts count head 0 tail
  turning_begin = record { lent = s.flooding.lent; each = s.flooding.each; finder = s.flooding.finder; walk = s.flooding.walk; some = s.some; placed = refl }

-- the same walk under the code's names
turning_as : {p : Problem} {rows images keys heads weights : List ℕ} {variables symmetries i : ℕ} {seen : List Bool} {queue : List ℕ} {seen' : List Bool} {queue' : List ℕ}
    {starts count head k end end' : ℕ} →
    Turning p rows images keys heads weights variables symmetries i seen queue starts count head k end → seen' ≡ seen → queue' ≡ queue → end' ≡ end →
    Turning p rows images keys heads weights variables symmetries i seen' queue' starts count head k end'
turning_as {p} {rows} {images} {keys} {heads} {weights} {variables} {symmetries} {i} {seen} {queue} {seen'} {queue'} {starts} {count} {head} {k} {end} {end'} t a b c =
    subst₂ (λ (y : List Bool) (z : List ℕ). Turning p rows images keys heads weights variables symmetries i y z starts count head k end') (sym a) (sym b)
    (subst (λ (z : ℕ). Turning p rows images keys heads weights variables symmetries i seen queue starts count head k z) (sym c) t)

module _ {p : Problem} {rows images keys heads weights : List ℕ} {variables symmetries i : ℕ} {seen : List Bool} {queue : List ℕ} {starts count head k end : ℕ}
    (t : Turning p rows images keys heads weights variables symmetries i seen queue starts count head k end) where
  abbrev good : WellFormed p
  good = t.lent.listed.good

  abbrev respected : Respected p
  respected = t.lent.listed.respected

  pub turning_tail : end ≤ 4096
  turning_tail = let a = walk_tail p good respected seen queue starts count head k end t.walk in let b = t.lent.listed.few in omega arith

  pub turning_end : k ≡ symmetries → Walk p seen queue starts count head symmetries end × (head < end)
  turning_end e = (subst (λ (z : ℕ). Walk p seen queue starts count head z end) e t.walk, t.some)

  module _ (l : k < symmetries) where
    number : i < length (solutions_of p)
    number = subst (λ (z : ℕ). z < length (solutions_of p)) (sym t.placed) (t.walk.queued head t.some).0

    turn : k < length p.symmetries
    turn = subst (λ (z : ℕ). k < z) t.each l

    pub turning_numbering : Numbering p rows images keys heads weights variables i k
    turning_numbering = record { imaging = record { lent = t.lent; solution = number; symmetry = turn }; finder = t.finder }

    module _ {j : ℕ} (e : j ≡ image_at p k i) where
      here : j ≡ image_at p k (at queue head)
      here = e ∙ ap (image_at p k) t.placed

      pub turning_small : (j < length (solutions_of p)) × (j < 4096)
      turning_small = let a = (image_good p good respected k i turn number).0 in let b = t.lent.listed.few in (omega arith, omega arith)

      pub turning_room : met seen j ≡ false → end < 4096
      turning_room f = let a = walk_room p good respected seen queue starts count head k end t.walk j turning_small.0 f in let b = t.lent.listed.few in omega arith

      pub turning_pushed : {seen' : List Bool} {queue' : List ℕ} {end' : ℕ} → met seen j ≡ false → seen' ≡ set seen j true → queue' ≡ set queue end j → end' ≡ end + 1 →
          Turning p rows images keys heads weights variables symmetries i seen' queue' starts count head (k + 1) end'
      turning_pushed f =
          let b = t.some in
          turning_as record {
            lent = t.lent;
            each = t.each;
            finder = t.finder;
            walk = walk_push p good respected seen queue starts count head k end t.walk t.some j true turn here f (λ z. never (cc));
            some = omega arith;
            placed = t.placed ∙ sym (at_set_other queue end j head (λ z. omega arith));
          }

      pub turning_stayed : {seen' : List Bool} {queue' : List ℕ} {end' : ℕ} → met seen j ≡ true → seen' ≡ seen → queue' ≡ queue → end' ≡ end →
          Turning p rows images keys heads weights variables symmetries i seen' queue' starts count head (k + 1) end'
      turning_stayed n =
          turning_as record {
            lent = t.lent;
            each = t.each;
            finder = t.finder;
            walk = walk_known p good respected seen queue starts count head k end t.walk t.some turn (not_unmet (subst (λ (z : ℕ). met seen z ≡ true) here n));
            some = t.some;
            placed = t.placed;
          }

-- ---- the queue
module _ {p : Problem} {rows images keys heads weights : List ℕ} {variables symmetries : ℕ} {seen : List Bool} {queue : List ℕ} {starts count head tail : ℕ}
    (f : Flooding p rows images keys heads weights variables symmetries seen queue starts count head tail) where
  pub flooding_spread : head < tail → Spreading p rows images keys heads weights variables symmetries seen queue starts count head tail
  flooding_spread l = record { flooding = f; some = l }

  pub flooding_turn : {seen' : List Bool} {queue' : List ℕ} {tail' : ℕ} → (Walk p seen' queue' starts count head symmetries tail') × (head < tail') →
      Flooding p rows images keys heads weights variables symmetries seen' queue' starts count (head + 1) tail'
  flooding_turn {seen'} {queue'} {tail'} r = record {
    lent = f.lent;
    each = f.each;
    finder = f.finder;
    walk = walk_pop p f.lent.listed.good f.lent.listed.respected seen' queue' starts count head symmetries tail' r.0 r.1 f.each;
  }

  pub flooding_end : tail ≤ head → Walk p seen queue starts count head 0 head
  flooding_end l = let a = f.walk.ahead in let e : tail ≡ head = omega arith in subst (λ (z : ℕ). Walk p seen queue starts count head 0 z) e f.walk

-- ---- the solutions one after another
pub record Counting (p : Problem) (rows images keys heads weights : List ℕ) (variables symmetries solutions : ℕ) (seen : List Bool) (queue : List ℕ) (count tail i : ℕ) : Type 0 where
  pub counted : Counted p rows images variables symmetries solutions
  pub finder : Finder p keys heads weights variables
  pub walk : Walk p seen queue i count tail 0 tail

pub finder_made : {p : Problem} {rows images keys heads weights : List ℕ} {variables symmetries solutions : ℕ} → Counted p rows images variables symmetries solutions →
    Chained p keys heads solutions → Weighed variables weights → Finder p keys heads weights variables
finder_made {p} {keys = keys} {heads = heads} n c w = record { chained = subst (Chained p keys heads) n.every c; weighed = w }

pub counting_begin : {p : Problem} {rows images keys heads weights : List ℕ} {variables symmetries solutions : ℕ} → Counted p rows images variables symmetries solutions →
    Finder p keys heads weights variables → Counting p rows images keys heads weights variables symmetries solutions (replicate 4096 false) (replicate 4096 0) 0 0 0
unfolding met
counting_begin {p} n k = record {
  counted = n;
  finder = k;
  walk = walk_begin p n.lent.listed.good n.lent.listed.respected (replicate 4096 false) (replicate 4096 0) (wide false) (wide {A = ℕ} 0) unmet;
}
  where
    wide : {A : Type 0} (a : A) → length (solutions_of p) ≤ length {A = A} (replicate 4096 a)
    wide {A} a = let b = n.lent.listed.few in let c : length {A = A} (replicate 4096 a) ≡ 4096 = length-replicate {A = A} 4096 a in omega arith

    unmet : (j : ℕ) → j < length (solutions_of p) → met (replicate 4096 false) j ≡ false
    unmet j l = let b = n.lent.listed.few in get_or-replicate 4096 j false false (omega arith)

module _ {p : Problem} {rows images keys heads weights : List ℕ} {variables symmetries solutions : ℕ} {seen : List Bool} {queue : List ℕ} {count tail i : ℕ}
    (c : Counting p rows images keys heads weights variables symmetries solutions seen queue count tail i) where
  pub counting_bounds : (count ≤ i) × (tail ≤ 4096) × (i ≤ solutions) × (solutions ≤ 4096)
  counting_bounds =
      let a = walk_count p c.counted.lent.listed.good c.counted.lent.listed.respected seen queue i count tail 0 tail c.walk in
      let b = walk_tail p c.counted.lent.listed.good c.counted.lent.listed.respected seen queue i count tail 0 tail c.walk in
      let d = c.counted.lent.listed.few in
      let e = c.counted.every in
      let f = c.walk.asked in
      (omega arith, omega arith, omega arith, omega arith)

  pub counting_end : solutions ≤ i → count ≡ families_of p
  counting_end l = let a = counting_bounds in let e = c.counted.every in walk_end p c.counted.lent.listed.good c.counted.lent.listed.respected seen queue i count tail 0 tail
      c.walk (let z : i ≡ length (solutions_of p) = omega arith in z)

  module _ (l : i < solutions) where
    below : i < length (solutions_of p)
    below = subst (λ (z : ℕ). i < z) c.counted.every l

    pub counting_room : met seen i ≡ false → tail < 4096
    counting_room e = let a = walk_room p c.counted.lent.listed.good c.counted.lent.listed.respected seen queue i count tail 0 tail c.walk i below e in
        let b = c.counted.lent.listed.few in let d = c.counted.every in omega arith

    pub counting_start : met seen i ≡ false → Flooding p rows images keys heads weights variables symmetries (set seen i true) (set queue tail i) (i + 1) (count + 1) tail (tail + 1)
    counting_start e = record {
      lent = c.counted.lent;
      each = c.counted.each;
      finder = c.finder;
      walk = walk_start p c.counted.lent.listed.good c.counted.lent.listed.respected seen queue i count tail tail c.walk refl below true e (λ z. never (cc));
    }

    pub counting_flooded : {seen' : List Bool} {queue' : List ℕ} {count' tail' tail'' : ℕ} {seen'' : List Bool} {queue'' : List ℕ} → Walk p seen' queue' (i + 1) (count + 1) tail' 0 tail'
        → seen'' ≡ seen' → queue'' ≡ queue'
        → count' ≡ count + 1 → tail'' ≡ tail' →
        Counting p rows images keys heads weights variables symmetries solutions seen'' queue'' count' tail'' (i + 1)
    counting_flooded {seen'} {queue'} {count'} {tail'} {tail''} {seen''} {queue''} w a b d e = record {
      counted = c.counted;
      finder = c.finder;
      walk = subst₂ (λ (y : List Bool) (z : List ℕ). Walk p y z (i + 1) count' tail'' 0 tail'') (sym a) (sym b) (subst₂ (λ (y z : ℕ). Walk p seen' queue' (i + 1) y z 0 z) (sym d) (sym e) w);
    }

    pub counting_known : {seen' : List Bool} {queue' : List ℕ} {count' tail' : ℕ} → met seen i ≡ true → seen' ≡ seen → queue' ≡ queue → count' ≡ count → tail' ≡ tail →
        Counting p rows images keys heads weights variables symmetries solutions seen' queue' count' tail' (i + 1)
    counting_known {seen'} {queue'} {count'} {tail'} n a b d e = record {
      counted = c.counted;
      finder = c.finder;
      walk = subst₂ (λ (y : List Bool) (z : List ℕ). Walk p y z (i + 1) count' tail' 0 tail') (sym a) (sym b)
          (subst₂ (λ (y z : ℕ). Walk p seen queue (i + 1) y z 0 z) (sym d) (sym e) (walk_skip p c.counted.lent.listed.good c.counted.lent.listed.respected seen queue i count tail tail
          c.walk refl below (not_unmet n)));
    }
