-- The questions to the trades of neighbours, one by one. Assumes nothing.
use Rattle.model.specs.Kit.{◌≡◌, refl, sym, ap, ap₂, ◌∙◌, subst, Bool, true, false, List, ℕ, ◌+◌, ◌*◌, ◌≤◌, ◌<◌, mul-le-mul, ℕ_discrete, arith, T, leb, le-leb, lt-leb, length, get_or, add-one}
use Rattle.model.specs.{Lists.at, Lists.both, Lists.flat, Problem.Problem, Problem.respects, Verdict.accepted, Verdict.refused, Sheet.permutes_pairs}
use Rattle.sheet_table.specs.Inner.Table.{Asked, answer_of, table_answer}
use Rattle.block.specs.{Block.orderings, Block.factorial, Block.ordering_table, Block.is_block_at, Block.block_verdict, Inner.Claims.TradePasses}
use Rattle.arrays_block.specs.Inner.Asked.{Held, BlockRow, TableBytes, row_answer}
use Rattle.std.proofs.Math.Nat.{mul_comm}
use Rattle.block.proofs.Orderings.{Few, factorial_le, factorial_up}
use Rattle.block.proofs.Block as K
use Rattle.std.specs.Prelude.{Result, Ok, Err}
use Rattle.model.specs.{Refusals.number_of, declared.refusals.Question.Question, declared.refusals.Question.TheVariants.PairsPermuted, declared.refusals.Question.TheVariants.Respected}
use Rattle.model.proofs.Lists.{never}

-- ---- one row
module _ (p : Problem) (first m row : ℕ) (bytes : List ℕ) (t : TableBytes p first m row bytes) where
  pub asked : (numbers supports : List ℕ) → Held p numbers supports → Asked p bytes 0 numbers supports
  asked numbers supports h =
      let w = h.well_formed in
      let l : p.variables * p.values ≤ 192 = mul-le-mul w.few w.sixteen in
      let n = t.sized in
      record { ready = h.ready; whole = omega arith }

  pub answer_is : table_answer p bytes 0 ≡ row_answer p first m row
  answer_is = ap (λ (g : List ℕ). answer_of (permutes_pairs p g) (respects p g)) t.table

-- ---- the trades
both_yes : (a b : Bool) → answer_of a b ≡ Ok tt → T a × T b
both_yes true true e = (tt, tt)
both_yes true false e = never (cc)
both_yes false b e = never (cc)

pub next_row : (k row : ℕ) → row ≡ factorial k → row * (k + 1) ≡ factorial (k + 1)
unfolding factorial
next_row k row e = mul_comm row (k + 1) ∙ ap (λ (x : ℕ). (k + 1) * x) e ∙ subst (λ (n : ℕ). n * factorial k ≡ factorial n) (sym (add-one k)) refl

module _ (p : Problem) (numbers supports : List ℕ) (h : Held p numbers supports) (first m : ℕ) (is : T (is_block_at p first m)) where
  pub few : Few m
  few = (K.block_is p first m is).0

  pub symmetries_are : get_or numbers 67 0 ≡ length p.symmetries
  unfolding at
  symmetries_are = h.ready.framed.numbered.symmetries

  pub trades_all : ((j : ℕ) → 1 ≤ j → j < m → TradePasses p first m j) → accepted ≡ block_verdict p first m
  trades_all t = sym (K.block_i p h.well_formed first m is t)

  -- the k-th trade, k + 1 of them at most
  module _ (k row : ℕ) (e : row ≡ factorial k) (l : 1 ≤ k) (u : k < m) where
    pub row_few : row < 120
    row_few = let a = factorial_up k m l u in let b = factorial_le m few in omega arith

    pub next_few : row * (k + 1) ≤ 120
    next_few = let a = few.1 in subst (λ (n : ℕ). n ≤ 120) (sym (next_row k row e)) (factorial_le (k + 1) (omega arith, omega arith))

    pub row_of : (rows : List ℕ) → rows ≡ flat orderings → BlockRow p rows row first m numbers
    row_of rows t = record {
      well_formed = h.well_formed;
      framed = h.ready.framed;
      uses = record { table = t; some = few.0; few = few.1; used = let a = factorial_up k m l u in omega arith };
      inside = (K.block_is p first m is).1;
    }

    module _ (before : (j : ℕ) → 1 ≤ j → j < k → TradePasses p first m j) (r : Result Unit Question) (answer : r ≡ row_answer p first m row) where
      abbrev table : List ℕ
      table = ordering_table p first m (factorial k)

      answer_at : r ≡ answer_of (permutes_pairs p table) (respects p table)
      answer_at = answer ∙ ap (row_answer p first m) e

      pub trade_no : (asked : Question) → r ≡ Err asked → refused (number_of asked) (get_or numbers 67 0 + row) ≡ block_verdict p first m
      trade_no asked z = ap₂ (λ (g n : ℕ). refused (number_of asked) (g + n)) symmetries_are e ∙ go (permutes_pairs p table) refl (respects p table) refl
        where
          item : ℕ
          item = length p.symmetries + factorial k

          go : (a : Bool) → permutes_pairs p table ≡ a → (c : Bool) → respects p table ≡ c → refused (number_of asked) item ≡ block_verdict p first m
          go true ea true ec = let q : Err asked ≡ Ok tt = sym z ∙ answer_at ∙ ap₂ answer_of ea ec in never (cc)
          go true ea false ec =
              let q : Err asked ≡ Err Respected = sym z ∙ answer_at ∙ ap₂ answer_of ea ec in
              let s : asked ≡ Respected = cc in
              ap (λ (n : Question). refused (number_of n) item) s ∙ sym (K.trade_refused_16 p h.well_formed first m is k l u before (subst T (sym ea) tt) ec)
          go false ea c ec =
              let q : Err asked ≡ Err PairsPermuted = sym z ∙ answer_at ∙ ap₂ answer_of ea ec in
              let s : asked ≡ PairsPermuted = cc in
              ap (λ (n : Question). refused (number_of n) item) s ∙ sym (K.trade_refused_15 p h.well_formed first m is k l u before ea)

      pub trade_yes : r ≡ Ok tt → (j : ℕ) → 1 ≤ j → j < k + 1 → TradePasses p first m j
      trade_yes z j i v = pick (ℕ_discrete j k)
        where
          pick : Dec (j ≡ k) → TradePasses p first m j
          pick (yes q) = subst (TradePasses p first m) (sym q) (both_yes (permutes_pairs p table) (respects p table) (sym answer_at ∙ z))
          pick (no q) = before j i (omega arith)

-- ---- question 36
module _ (p : Problem) (first m : ℕ) where
  pub block_low : m < 2 → false ≡ is_block_at p first m
  unfolding is_block_at
  block_low h = sym (ap (λ (b : Bool). both (both b (leb m 5)) (leb (first + m) p.variables)) (lt-leb 2 m h))

  pub block_high : (m < 2 → ⊥) → 5 < m → false ≡ is_block_at p first m
  unfolding is_block_at
  block_high h u = sym (ap₂ (λ (a b : Bool). both (both a b) (leb (first + m) p.variables)) (le-leb 2 m (omega arith)) (lt-leb m 5 u))

  pub block_fits : (m < 2 → ⊥) → (5 < m → ⊥) → (n : ℕ) → n ≡ p.variables → leb (first + m) n ≡ is_block_at p first m
  unfolding is_block_at
  block_fits h u n e = ap (leb (first + m)) e ∙ sym (ap₂ (λ (a b : Bool). both (both a b) (leb (first + m) p.variables)) (le-leb 2 m (omega arith)) (le-leb m 5 (omega arith)))

module _ (p : Problem) (numbers supports : List ℕ) (h : Held p numbers supports) where
  pub variables_are : get_or numbers 64 0 ≡ p.variables
  unfolding at
  variables_are = h.ready.framed.numbered.variables

  pub block_no : (first m : ℕ) → is_block_at p first m ≡ false → refused 36 0 ≡ block_verdict p first m
  block_no first m e = sym (K.block_refused p h.well_formed first m e)
