-- The sums of the heads taken, turn by turn, and the answer. Assumes nothing.
use Rattle.model.specs.Kit.{◌≡◌, refl, sym, ap, ap₂, ◌∙◌, subst, Bool, true, false, List, [], ◌∷◌, map, ℕ, zero, suc, ◌+◌, ◌-◌, ◌*◌, ◌/◌, ◌%◌, ◌^◌, ◌≤◌, ◌<◌, arith, eqb, ltb, leb, length, set}
use Rattle.model.specs.Kit.{replicate, length-set, ltb-true, ltb-false, leb-true}
use Rattle.model.specs.{Lists.all, Lists.at, Lists.below, Lists.total, Verdict.Verdict, Verdict.accepted, Verdict.ask}
use Rattle.model.proofs.Lists.{at_set, at_set_other, at_replicate, both_second, never}
use Rattle.run_join.specs.Join.{four_at, kind_at, head_shaped, alike, heads_in, whole_heads, join_verdict, step_of, taken_from, taken, stand_after, stands, plans_of, nodes_of, count_of}
use Rattle.run_join.specs.Inner.Inner.{Heads, AddedHead, Summed}
use Rattle.run_join.proofs.Orders.{each_below}

-- ---- twelve counts
abbrev pub Half : List ℕ → List ℕ → ℕ → ℕ → List ℕ → Type 0
Half counts l k i sums =
    (length sums ≡ 12) × ((x : ℕ) → x < i → at sums x ≡ at counts x + four_at l (115 * k + 12 + 4 * x)) × ((x : ℕ) → x < i → at sums x < at counts x + 2 ^ 32) ×
    ((x : ℕ) → i ≤ x → at sums x ≡ at counts x)

pub counts_turn : (counts l sums : List ℕ) (k i v f : ℕ) → i < 12 → Half counts l k i sums → f ≡ four_at l (115 * k + 12 + 4 * i) → f < 2 ^ 32 → v ≡ at sums i + f → Half counts l k (i + 1)
    (set sums i v)
counts_turn counts l sums k i v f h (n, e, g, z) q small r = (length-set sums i v ∙ n, each, few, behind)
  where
    here : at (set sums i v) i ≡ at counts i + f
    here = at_set sums i v (omega arith) ∙ r ∙ ap (λ (y : ℕ). y + f) (z i (omega arith))

    each : (x : ℕ) → x < i + 1 → at (set sums i v) x ≡ at counts x + four_at l (115 * k + 12 + 4 * x)
    each x m = go (ltb x i) refl
      where
        go : (b : Bool) → ltb x i ≡ b → at (set sums i v) x ≡ at counts x + four_at l (115 * k + 12 + 4 * x)
        go true t = let u = ltb-true x i t in at_set_other sums i v x (λ w. omega arith) ∙ e x u
        go false t =
            let w : i ≡ x = (let u = ltb-false x i t in omega arith) in
            subst (λ (y : ℕ). at (set sums i v) y ≡ at counts y + four_at l (115 * k + 12 + 4 * y)) w (here ∙ ap (λ (y : ℕ). at counts i + y) q)

    few : (x : ℕ) → x < i + 1 → at (set sums i v) x < at counts x + 2 ^ 32
    few x m = go (ltb x i) refl
      where
        go : (b : Bool) → ltb x i ≡ b → at (set sums i v) x < at counts x + 2 ^ 32
        go true t = let u = ltb-true x i t in let a = at_set_other sums i v x (λ w. omega arith) in let d = g x u in omega arith
        go false t =
            let w : i ≡ x = (let u = ltb-false x i t in omega arith) in
            subst (λ (y : ℕ). at (set sums i v) y < at counts y + 2 ^ 32) w (omega (arith, here))

    behind : (x : ℕ) → i + 1 ≤ x → at (set sums i v) x ≡ at counts x
    behind x m = at_set_other sums i v x (λ w. omega arith) ∙ z x (omega arith)

-- ---- the heads that are left
module _ (l : List ℕ) where
  pub taken_stop : (left stand : ℕ) → step_of l stand ≡ 0 → taken_from l left stand ≡ []
  unfolding taken_from
  taken_stop zero stand e = refl
  taken_stop (suc left) stand e = go (step_of l stand) e
    where
      go : (n : ℕ) → n ≡ 0 → ◌≡◌ {A = List ℕ} (elim n [ zero ↦ [] | suc k ↦ k ∷ taken_from l left (suc k) ]) []
      go zero q = refl
      go (suc n) q = absurd (omega arith)

  pub taken_step : (left stand k : ℕ) → step_of l stand ≡ suc k → taken_from l (suc left) stand ≡ k ∷ taken_from l left (suc k)
  unfolding taken_from
  taken_step left stand k e = ap (λ (n : ℕ). elim n [ zero ↦ [] | suc j ↦ j ∷ taken_from l left (suc j) ]) e

  -- what is summed up and what is left are the whole
  pub record Underway (n j stand p m : ℕ) (cs : List ℕ) : Type 0 where
    pub inside : stand ≤ n
    pub few_plans : p ≤ 4294967296 * j
    pub few_nodes : m ≤ 4294967296 * j
    pub few : (x : ℕ) → x < 12 → at cs x ≤ 4294967296 * j
    pub behind : stand_after stand (taken_from l (n - j) stand) ≡ stands l
    pub plans : p + total (map (λ k. four_at l (115 * k + 4)) (taken_from l (n - j) stand)) ≡ plans_of l
    pub nodes : m + total (map (λ k. four_at l (115 * k + 8)) (taken_from l (n - j) stand)) ≡ nodes_of l
    pub counts : (x : ℕ) → x < 12 → at cs x + total (map (λ k. four_at l (115 * k + 12 + 4 * x)) (taken_from l (n - j) stand)) ≡ count_of l x

  pub underway : (n : ℕ) → n ≡ heads_in l → Underway n 0 0 0 0 (replicate 12 0)
  unfolding taken
  underway n e =
      let z : n - 0 ≡ heads_in l = omega arith in
      let whole : taken_from l (n - 0) 0 ≡ taken l = ap (λ (i : ℕ). taken_from l i 0) z in
      record {
        inside = omega arith;
        few_plans = omega arith;
        few_nodes = omega arith;
        few = λ x h. omega (arith, at_replicate 12 x);
        behind = ap (stand_after 0) whole;
        plans = omega (arith, ap (λ (ks : List ℕ). total (map (λ k. four_at l (115 * k + 4)) ks)) whole);
        nodes = omega (arith, ap (λ (ks : List ℕ). total (map (λ k. four_at l (115 * k + 8)) ks)) whole);
        counts = λ x h. omega (arith, at_replicate 12 x, ap (λ (ks : List ℕ). total (map (λ k. four_at l (115 * k + 12 + 4 * x)) ks)) whole);
      }

  module _ (n j stand p m : ℕ) (cs : List ℕ) (u : Underway n j stand p m cs) where
    pub underway_turn : (k stand' p' m' : ℕ) (cs' : List ℕ) → j < n → suc k ≡ step_of l stand → suc k ≤ n → AddedHead p m cs l k stand' p' m' cs' → Underway n (j + 1) stand' p' m' cs'
    unfolding stand_after total
    underway_turn k stand' p' m' cs' h e i a =
        let y : n - j ≡ suc (n - (j + 1)) = omega arith in
        let t : stand' ≡ suc k = omega (arith, a.at_head) in
        let left = taken_from l (n - (j + 1)) (suc k) in
        let rest : taken_from l (n - j) stand ≡ k ∷ left = ap (λ (f : ℕ). taken_from l f stand) y ∙ taken_step (n - (j + 1)) stand k (sym e) in
        let next : taken_from l (n - (j + 1)) stand' ≡ left = ap (taken_from l (n - (j + 1))) t in
        record {
          inside = omega arith;
          few_plans = omega (arith, a.few_plans, u.few_plans);
          few_nodes = omega (arith, a.few_nodes, u.few_nodes);
          few = λ x q. omega (arith, a.counts.few x q, u.few x q);
          behind = ap₂ stand_after t next ∙ stood stand k left ∙ ap (stand_after stand) (sym rest) ∙ u.behind;
          plans = moved (λ i. four_at l (115 * i + 4)) k left p p' (taken_from l (n - j) stand) (taken_from l (n - (j + 1)) stand') (plans_of l) rest next a.plans u.plans;
          nodes = moved (λ i. four_at l (115 * i + 8)) k left m m' (taken_from l (n - j) stand) (taken_from l (n - (j + 1)) stand') (nodes_of l) rest next a.nodes u.nodes;
          counts = λ x q. moved (λ i. four_at l (115 * i + 12 + 4 * x)) k left (at cs x) (at cs' x) (taken_from l (n - j) stand) (taken_from l (n - (j + 1)) stand')
              (count_of l x) rest next (a.counts.each x q) (u.counts x q);
        }
      where
        stood : (s k : ℕ) (ks : List ℕ) → stand_after (suc k) ks ≡ stand_after s (k ∷ ks)
        stood s k ks = refl

        moved : (f : ℕ → ℕ) (k : ℕ) (left : List ℕ) (a b : ℕ) (ks js : List ℕ) (w : ℕ) → ks ≡ k ∷ left → js ≡ left → b ≡ a + f k → a + total (map f ks) ≡ w → b + total (map f js) ≡ w
        moved f k left a b ks js w r s c v =
            let g : total (map f ks) ≡ f k + total (map f left) = ap (λ (x : List ℕ). total (map f x)) r in
            let q : total (map f js) ≡ total (map f left) = ap (λ (x : List ℕ). total (map f x)) s in
            omega arith

    pub summed : n ≡ heads_in l → taken_from l (n - j) stand ≡ [] → Summed l stand p m cs
    unfolding stand_after total
    summed z e = record {
      behind = sym (ap (stand_after stand) e) ∙ u.behind;
      inside = omega (arith, u.inside);
      plans = gone (λ k. four_at l (115 * k + 4)) p (plans_of l) u.plans;
      nodes = gone (λ k. four_at l (115 * k + 8)) m (nodes_of l) u.nodes;
      counts = λ x h. gone (λ k. four_at l (115 * k + 12 + 4 * x)) (at cs x) (count_of l x) (u.counts x h);
    }
      where
        gone : (f : ℕ → ℕ) (a w : ℕ) → a + total (map f (taken_from l (n - j) stand)) ≡ w → a ≡ w
        gone f a w q = let r : total (map f (taken_from l (n - j) stand)) ≡ 0 = ap (λ (x : List ℕ). total (map f x)) e in omega arith

  pub none_left : (n j stand : ℕ) → n ≤ j → taken_from l (n - j) stand ≡ []
  unfolding taken_from
  none_left n j stand h = let z : n - j ≡ 0 = omega arith in ap (λ (f : ℕ). taken_from l f stand) z

-- ---- no question said "no"
passed : (c : Bool) (n : ℕ) (v : Verdict) → accepted ≡ ask c n 0 v → (c ≡ true) × (accepted ≡ v)
passed true n v e = (refl, e)
passed false n v e = never (cc)

module _ (l : List ℕ) (e : accepted ≡ join_verdict l) where
  first : (whole_heads l ≡ true)
      × (accepted
      ≡ ask (all (head_shaped l) (below (heads_in l))) 42 0 (ask (all (alike l) (below (heads_in l))) 43 0 (ask (all (λ k. leb (kind_at l k) 2) (below (heads_in l))) 44 0 accepted)))
  unfolding join_verdict
  first = passed (whole_heads l) 41 _ e

  not_many : length l / 115 ≤ 65536
  unfolding whole_heads
  not_many = leb-true (heads_in l) 65536 (both_second (eqb (length l % 115) 0) (leb (heads_in l) 65536) first.0)

  pub heads_all : Heads l (length l / 115)
  heads_all = record {
    few = not_many;
    fits = omega arith;
    shaped = each_below (head_shaped l) (heads_in l) (passed (all (head_shaped l) (below (heads_in l))) 42 _ first.1).0;
  }
