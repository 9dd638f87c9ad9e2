-- Paper 02, #101: the answer from the nodes is what a run with room for m - 1 plans says; what it says of the complete list; its figures. Assumes nothing.
use Rattle.model.specs.Kit.{◌≡◌, refl, sym, ap, ap₂, ◌∙◌, subst, Bool, true, false, List, [], ◌∷◌, ℕ, zero, suc, ◌-◌, ◌*◌, ◌≤◌, ◌<◌, mul-le-mul_right, not-suc-le-zero, le_of_suc-le-suc, arith, leb}
use Rattle.model.specs.Kit.{ltb, length, take, take_all, leb-true, leb-false, ltb-true, ltb-false, le-leb, lt-leb}
use Rattle.model.specs.Run.{Ending, finished, spent, full, plans_in, nodes_in, result_of}
use Rattle.model.specs.{Lists.keep, ValueSets.least, Problem.Problem, Search.nodes, Search.is_plan, Claims.plans_among, Claims.CountsAt}
use native.Mathlib.Nat.{le_of_mul-le-mul_right}
use Rattle.run_enough.specs.AtLeast.{Enough, enough, too_few, unknown, nodes_to, enough_of}
use Rattle.model.proofs.{Masks.least_none, Masks.least_at, Masks.least_below, Masks.least_is, Runs.counts, Runs.nodes_allowed, Runs.rows_fit, Runs.rows_counted}

-- ---- plans among the first nodes
module _ {A : Type 0} (q : A → Bool) where
  count_cons : (x : A) (l m : List A) → length (keep q l) ≤ length (keep q m) → length (keep q (x ∷ l)) ≤ length (keep q (x ∷ m))
  unfolding keep
  count_cons x l m h = go (q x)
    where
      go : (b : Bool) → length {A = A} (elim b [ true ↦ x ∷ keep q l | false ↦ keep q l ]) ≤ length {A = A} (elim b [ true ↦ x ∷ keep q m | false ↦ keep q m ])
      go true = omega arith
      go false = h

  keep_mono : (l : List A) (j k : ℕ) → j ≤ k → length (keep q (take j l)) ≤ length (keep q (take k l))
  unfolding keep
  keep_mono l zero k h = omega arith
  keep_mono l (suc j) zero h = absurd (not-suc-le-zero h)
  keep_mono [] (suc j) (suc k) h = omega arith
  keep_mono (x ∷ l) (suc j) (suc k) h = count_cons x (take j l) (take k l) (keep_mono l j k (le_of_suc-le-suc h))

  count_more : (x : A) (l m : List A) → length (keep q l) ≤ suc (length (keep q m)) → length (keep q (x ∷ l)) ≤ suc (length (keep q (x ∷ m)))
  unfolding keep
  count_more x l m h = go (q x)
    where
      go : (b : Bool) → length {A = A} (elim b [ true ↦ x ∷ keep q l | false ↦ keep q l ]) ≤ suc (length {A = A} (elim b [ true ↦ x ∷ keep q m | false ↦ keep q m ]))
      go true = omega arith
      go false = h

  keep_step : (l : List A) (k : ℕ) → length (keep q (take (suc k) l)) ≤ suc (length (keep q (take k l)))
  unfolding keep
  keep_step [] zero = omega arith
  keep_step [] (suc k) = omega arith
  keep_step (x ∷ l) zero = go (q x)
    where
      go : (b : Bool) → length {A = A} (elim b [ true ↦ x ∷ [] | false ↦ [] ]) ≤ 1
      go true = omega arith
      go false = omega arith
  keep_step (x ∷ l) (suc k) = count_more x (take (suc k) l) (take k l) (keep_step l k)

module _ (p : Problem) where
  abbrev N : ℕ
  N = length (nodes p)

  pub among_mono : (j k : ℕ) → j ≤ k → plans_among p j ≤ plans_among p k
  among_mono j k h = keep_mono (is_plan p) (nodes p) j k h

  among_step : (k : ℕ) → plans_among p (suc k) ≤ suc (plans_among p k)
  among_step k = keep_step (is_plan p) (nodes p) k

  pub among_all : (k : ℕ) → N ≤ k → plans_among p k ≡ length (keep (is_plan p) (nodes p))
  among_all k h = ap (λ (l : List (List ℕ)). length (keep (is_plan p) l)) (take_all k (nodes p) h)

  pub among_most : (k : ℕ) → plans_among p k ≤ length (keep (is_plan p) (nodes p))
  among_most k = go (leb N k) refl
    where
      go : (b : Bool) → leb N k ≡ b → plans_among p k ≤ length (keep (is_plan p) (nodes p))
      go true e = omega (arith, among_all k (leb-true N k e))
      go false e = let l = leb-false N k e in omega (arith, among_all N (omega arith), among_mono k N (omega arith))

  among_none : plans_among p 0 ≡ 0
  unfolding keep
  among_none = refl

  -- ---- the m-th plan
  module _ (m : ℕ) where
    abbrev hit : ℕ → Bool
    hit k = leb m (plans_among p k)

    to_at : (k : ℕ) → k ≤ N → m ≤ plans_among p k → ((j : ℕ) → j < k → plans_among p j < m) → nodes_to p m ≡ k
    unfolding nodes_to
    to_at k h e f = go (ltb k N) refl
      where
        go : (b : Bool) → ltb k N ≡ b → least N hit ≡ k
        go true l = least_at N hit k (ltb-true k N l) (λ j i. lt-leb m (plans_among p j) (f j i)) (le-leb m (plans_among p k) e)
        go false l =
            let r = ltb-false k N l in
            let z : k ≡ N = omega arith in
            least_none N hit (λ j i. lt-leb m (plans_among p j) (f j (omega arith))) ∙ sym z

    pub to_before : (j : ℕ) → j < nodes_to p m → plans_among p j < m
    unfolding nodes_to
    to_before j l = leb-false m (plans_among p j) (least_below N hit j l)

    module _ (limit : ℕ) (h : m ≤ plans_among p limit) where
      pub to_limit : nodes_to p m ≤ limit
      to_limit = go (leb (nodes_to p m) limit) refl
        where
          go : (b : Bool) → leb (nodes_to p m) limit ≡ b → nodes_to p m ≤ limit
          go true e = leb-true (nodes_to p m) limit e
          go false e = absurd (let r = to_before limit (leb-false (nodes_to p m) limit e) in omega arith)

      to_reached : m ≤ plans_among p (nodes_to p m)
      unfolding nodes_to
      to_reached = go (ltb (least N hit) N) refl
        where
          go : (b : Bool) → ltb (least N hit) N ≡ b → m ≤ plans_among p (least N hit)
          go true e = leb-true m (plans_among p (least N hit)) (least_is N hit (ltb-true (least N hit) N e))
          go false e = omega (arith, among_all (least N hit) (ltb-false (least N hit) N e), among_most limit)

      pub to_count : plans_among p (nodes_to p m) ≡ m
      to_count = go (nodes_to p m) refl
        where
          go : (k : ℕ) → nodes_to p m ≡ k → plans_among p (nodes_to p m) ≡ m
          go zero e = let a : plans_among p (nodes_to p m) ≡ 0 = ap (plans_among p) e ∙ among_none in omega (arith, to_reached)
          go (suc k) e =
              let a : plans_among p (nodes_to p m) ≡ plans_among p (suc k) = ap (plans_among p) e in
              omega (arith, to_reached, among_step k, to_before k (omega arith))

  -- ---- the three cases, and what each says
  module _ (limit m : ℕ) where
    pub is_enough : m ≤ plans_among p limit → enough_of p limit m ≡ enough m (nodes_to p m)
    unfolding enough_of
    is_enough h = ap (λ (b : Bool). elim b [ true ↦ enough m (nodes_to p m) | false ↦ elim (leb N limit) [ true ↦ too_few (plans_among p limit) N | false ↦ unknown (plans_among p limit) limit ] ])
        (le-leb m (plans_among p limit) h)

    pub is_few : plans_among p limit < m → N ≤ limit → enough_of p limit m ≡ too_few (plans_among p limit) N
    unfolding enough_of
    is_few h l = ap₂ (λ (b c : Bool). elim b [ true ↦ enough m (nodes_to p m) | false ↦ elim c [ true ↦ too_few (plans_among p limit) N | false ↦ unknown (plans_among p limit) limit ] ])
        (lt-leb m (plans_among p limit) h) (le-leb N limit l)

    pub is_unknown : plans_among p limit < m → limit < N → enough_of p limit m ≡ unknown (plans_among p limit) limit
    unfolding enough_of
    is_unknown h l = ap₂ (λ (b c : Bool). elim b [ true ↦ enough m (nodes_to p m) | false ↦ elim c [ true ↦ too_few (plans_among p limit) N | false ↦ unknown (plans_among p limit) limit ] ])
        (lt-leb m (plans_among p limit) h) (lt-leb N limit l)

    abbrev pub Said : Enough → Type 0
    Said (enough plans made) = (plans ≡ m) × (made ≡ nodes_to p m) × (m ≤ plans_among p limit)
    Said (too_few plans made) = (plans ≡ plans_among p limit) × (made ≡ N) × (plans_among p limit < m) × (N ≤ limit)
    Said (unknown plans made) = (plans ≡ plans_among p limit) × (made ≡ limit) × (plans_among p limit < m) × (limit < N)

    pub said : Said (enough_of p limit m)
    said = go (leb m (plans_among p limit)) refl (leb N limit) refl
      where
        go : (b : Bool) → leb m (plans_among p limit) ≡ b → (c : Bool) → leb N limit ≡ c → Said (enough_of p limit m)
        go true e c f = let h = leb-true m (plans_among p limit) e in subst Said (sym (is_enough h)) (refl, refl, h)
        go false e true f = let h = leb-false m (plans_among p limit) e in let l = leb-true N limit f in subst Said (sym (is_few h l)) (refl, refl, h, l)
        go false e false f = let h = leb-false m (plans_among p limit) e in let l = leb-false N limit f in subst Said (sym (is_unknown h l)) (refl, refl, h, l)

  -- ---- a run with room for all plans
  pub spends : (limit room : ℕ) → limit < N → length (keep (is_plan p) (nodes p)) * p.variables ≤ room → (result_of p limit room).ending ≡ spent (plans_among p limit) limit
  spends limit room l h = go (result_of p limit room).ending refl
    where
      go : (x : Ending) → (result_of p limit room).ending ≡ x → x ≡ spent (plans_among p limit) limit
      go (finished plans made) e = absurd (let c = counts p limit room (finished plans made) e in let a = subst (λ (y : Ending). nodes_in y ≤ limit) e (nodes_allowed p limit room) in omega
          (arith, c.0))
      go (spent plans made) e = let c = counts p limit room (spent plans made) e in ap₂ spent (sym c.2 ∙ ap (plans_among p) c.0) c.0
      go (full plans made) e =
          absurd (let c = counts p limit room (full plans made) e in
          let g : suc plans ≤ length (keep (is_plan p) (nodes p)) = subst (λ (k : ℕ). k ≤ length (keep (is_plan p) (nodes p))) c.1 (among_most made) in
          omega (arith, c.0, mul-le-mul_right p.variables g))

-- m = 0: yes without a node, whatever the limit
pub enough_none_lem : (p : Problem) (limit : ℕ) → enough_of p limit 0 ≡ enough 0 0
enough_none_lem p limit = is_enough p limit 0 (omega arith) ∙ ap (enough 0) (to_at p 0 0 (omega arith) (omega arith) (λ j l. absurd (not-suc-le-zero l)))

times_lt : (a b n : ℕ) → a * n < b * n → a < b
times_lt a b n l = go (ltb a b) refl
  where
    go : (c : Bool) → ltb a b ≡ c → a < b
    go true e = ltb-true a b e
    go false e = absurd (let r : b * n ≤ a * n = mul-le-mul_right n (ltb-false a b e) in omega arith)

-- else it is what a run with room for m - 1 plans says: full is yes, finished is no, spent is spent
abbrev pub says : Ending → Enough
says (full plans made) = enough (suc plans) made
says (finished plans made) = too_few plans made
says (spent plans made) = unknown plans made

pub enough_run : (p : Problem) (limit m : ℕ) → 1 ≤ p.variables → enough_of p limit (suc m) ≡ says (result_of p limit (m * p.variables)).ending
enough_run p limit m h = go (result_of p limit room).ending refl
  where
    room : ℕ
    room = m * p.variables

    go : (x : Ending) → (result_of p limit room).ending ≡ x → enough_of p limit (suc m) ≡ says x
    go x e = pick x (counts p limit room x e) (subst (λ (y : Ending). nodes_in y ≤ limit) e (nodes_allowed p limit room))
        (le_of_mul-le-mul_right {m = plans_in x} {n = m} {k = p.variables} (subst (λ (k : ℕ). k * p.variables ≤ room) (sym (rows_counted p limit room) ∙ ap plans_in e) (rows_fit p limit room)) h)
      where
        pick : (x : Ending) → CountsAt p limit room x → nodes_in x ≤ limit → plans_in x ≤ m → enough_of p limit (suc m) ≡ says x
        pick (finished plans made) c a f =
            let l : length (nodes p) ≤ limit = omega (arith, c.0) in
            let q : plans_among p limit ≡ plans = among_all p limit l ∙ sym (among_all p made (omega (arith, c.0))) ∙ c.1 in
            is_few p limit (suc m) (omega arith) l ∙ ap₂ too_few q (sym c.0)
        pick (spent plans made) c a f =
            let q : plans_among p limit ≡ plans = ap (plans_among p) (sym c.0) ∙ c.2 in
            is_unknown p limit (suc m) (omega arith) (omega (arith, c.0, c.1)) ∙ ap₂ unknown q (sym c.0)
        pick (full plans made) c a f =
            let g : m < suc plans = times_lt m (suc plans) p.variables c.0 in
            let e : plans ≡ m = omega arith in
            is_enough p limit (suc m) (omega (arith, c.1, among_mono p made limit a))
            ∙ ap₂ enough (ap suc (sym e))
            (to_at p (suc m) made (inside made c.1 c.2) (omega (arith, c.1)) (λ j l. omega (arith, c.2, among_mono p j (made - 1) (omega arith))))
          where
            inside : (k : ℕ) → plans_among p k ≡ suc plans → plans_among p (k - 1) ≡ plans → k ≤ length (nodes p)
            inside k s t = within (leb k (length (nodes p))) refl
              where
                within : (b : Bool) → leb k (length (nodes p)) ≡ b → k ≤ length (nodes p)
                within true e = leb-true k (length (nodes p)) e
                within false e = absurd (let l = leb-false k (length (nodes p)) e in omega (arith, s, t, among_all p k (omega arith), among_all p (k - 1) (omega arith)))

-- a larger limit changes no answer but spent
pub enough_more : (p : Problem) (limit limit' m : ℕ) → limit ≤ limit' → ((plans made : ℕ) → enough_of p limit m ≡ unknown plans made → ⊥) → enough_of p limit' m ≡ enough_of p limit m
enough_more p limit limit' m l h = go (enough_of p limit m) refl
  where
    go : (e : Enough) → enough_of p limit m ≡ e → enough_of p limit' m ≡ e
    go (enough k t) e =
        let s = subst (Said p limit m) e (said p limit m) in
        is_enough p limit' m (omega (arith, s.2, among_mono p limit limit' l)) ∙ ap₂ enough (sym s.0) (sym s.1)
    go (too_few k t) e =
        let s = subst (Said p limit m) e (said p limit m) in
        let q : plans_among p limit' ≡ plans_among p limit = among_all p limit' (omega (arith, s.3)) ∙ sym (among_all p limit s.3) in
        is_few p limit' m (omega (arith, s.2)) (omega (arith, s.3)) ∙ ap₂ too_few (q ∙ sym s.0) (sym s.1)
    go (unknown k t) e = absurd (h k t e)
