-- What the numbers hold: scopes and pairs. Assumes nothing.
use Rattle.model.specs.Kit.{◌≡◌, sym, ap, ap₂, ◌∙◌, subst, Bool, false, List, ℕ, ◌+◌, ◌*◌, ◌/◌, ◌%◌, ◌^◌, ◌≤◌, ◌<◌, mul-le-mul, arith, length, lt-ltb, le-ltb}
use Rattle.model.specs.{Lists.at, Lists.both, ValueSets.has, Problem.Problem, Problem.is_pair, Problem.constraint_at}
use native.Mathlib.Nat.{mod-lt}
use Rattle.sheet_table.specs.Inner.Table.{Framed}
use Rattle.sheet_table.proofs.Codes.{good, div_small, init_small}

module _ (p : Problem) (numbers : List ℕ) (f : Framed p numbers) where
  -- ---- a constraint's scope
  pub few_places : (k i : ℕ) → k < length p.constraints → i < length (constraint_at p k).scope → i < 3
  few_places k i h l = omega (arith, (good p f.stated k h).few)

  -- ---- pairs
  pub sizes : (n d : ℕ) → n ≡ at numbers 64 → d ≡ at numbers 65 → (n ≡ p.variables) × (d ≡ p.values)
  sizes n d e h = (e ∙ f.numbered.variables, h ∙ f.numbered.values)

  pub size_lt : (n d : ℕ) → n ≡ at numbers 64 → d ≡ at numbers 65 → n * d ≤ 192
  size_lt n d e h = let s = sizes n d e h in subst (λ (m : ℕ). m ≤ 192) (sym (ap₂ (λ (a b : ℕ). a * b) s.0 s.1)) (mul-le-mul f.stated.few f.stated.sixteen)

  pub size_is : (n d : ℕ) → n ≡ at numbers 64 → d ≡ at numbers 65 → n * d ≡ p.variables * p.values
  size_is n d e h = let s = sizes n d e h in ap₂ (λ (a b : ℕ). a * b) s.0 s.1

  module _ (n d q : ℕ) (e : n ≡ at numbers 64) (h : d ≡ at numbers 65) where
    within : q < n * d → q < p.variables * p.values
    within l = subst (λ (m : ℕ). q < m) (size_is n d e h) l

    pub pair_variable : q < n * d → q / d < p.variables
    pair_variable l = let s = sizes n d e h in subst (λ (m : ℕ). q / m < p.variables) (sym s.1) (div_small p f.stated q (within l))

    pub pair_value : q % d < 16
    pair_value = let s = sizes n d e h in subst (λ (m : ℕ). q % m < 16) (sym s.1) (omega (arith, mod-lt q f.stated.one, f.stated.sixteen))

    pub is_pair_lem : (r : ℕ) → q < n * d → ((x : ℕ) → x ≡ q / d → x < p.variables → r ≡ at p.initial x) → has r (q % d) ≡ is_pair p q
    unfolding is_pair
    is_pair_lem r l i =
        let s = sizes n d e h in
        let z : r ≡ at p.initial (q / p.values) = i (q / p.values) (ap (λ (m : ℕ). q / m) (sym s.1)) (div_small p f.stated q (within l)) in
        ap₂ (λ (a m : ℕ). has a (q % m)) z s.1
        ∙ sym (ap (λ (b : Bool). both b (has (at p.initial (q / p.values)) (q % p.values))) (lt-ltb q (p.variables * p.values) (within l)))

    pub no_pair : n * d ≤ q → false ≡ is_pair p q
    unfolding is_pair
    no_pair l = sym (ap (λ (b : Bool). both b (has (at p.initial (q / p.values)) (q % p.values))) (le-ltb q (p.variables * p.values) (subst (λ (m : ℕ). m ≤ q) (size_is n d e h) l)))

  -- ---- initial sets
  pub initial_is : (x r : ℕ) → x < p.variables → r ≡ at numbers (16 + x) → (r ≡ at p.initial x) × (r < 2 ^ 16)
  initial_is x r h e =
      let q : r ≡ at p.initial x = e ∙ f.numbered.initial x h in
      (q, subst (λ (s : ℕ). s < 2 ^ 16) (sym q) (init_small p f.stated x h))
