-- The table of a row as bytes: low bytes are set one by one, and the high ones stay 0. Assumes nothing.
use Rattle.model.specs.Kit.{◌≡◌, refl, sym, ap, ap₂, ◌∙◌, subst, List, ℕ, ◌+◌, ◌*◌, ◌<◌, ℕ_discrete, arith, length, set, replicate, length-set}
use Rattle.model.specs.{Lists.at, Problem.Problem, Sheet.word, Sheet.words, Inner.WellFormed.WellFormed}
use Rattle.block.specs.Block.{ordering_table, image_of, ordering}
use Rattle.arrays_block.specs.Inner.Asked.{TableBytes}
use Rattle.model.proofs.{Lists.at_replicate, Lists.at_set, Lists.at_set_other, Lists.at_ext, Accepted.length_words, Accepted.at_words}
use Rattle.block.proofs.Tables.{length_variable_table}

module _ (p : Problem) (first m row : ℕ) where
  abbrev to : ℕ → ℕ
  to q = at (ordering_table p first m row) q

  pub record FilledTo (bytes : List ℕ) (q : ℕ) : Type 0 where
    pub sized : length bytes ≡ 384
    pub low : (i : ℕ) → i < q → at bytes (2 * i) ≡ to i
    pub high : (i : ℕ) → at bytes (2 * i + 1) ≡ 0

  pub filled_none : FilledTo (replicate 384 0) 0
  filled_none = record { sized = refl; low = λ i h. absurd (omega arith); high = λ i. at_replicate 384 (2 * i + 1) }

  pub filled_more : (bytes : List ℕ) (q v : ℕ) → FilledTo bytes q → q < 192 → v ≡ to q → FilledTo (set bytes (2 * q) v) (q + 1)
  filled_more bytes q v f h e = record {
    sized = length-set bytes (2 * q) v ∙ f.sized;
    low = λ i l. go i l (ℕ_discrete i q);
    high = λ i. at_set_other bytes (2 * q) v (2 * i + 1) (λ z. omega arith) ∙ f.high i;
  }
    where
      go : (i : ℕ) → i < q + 1 → Dec (i ≡ q) → at (set bytes (2 * q) v) (2 * i) ≡ to i
      go i l (yes z) = ap (λ (j : ℕ). at (set bytes (2 * q) v) (2 * j)) z ∙ at_set bytes (2 * q) v (let s = f.sized in omega arith) ∙ e ∙ ap to (sym z)
      go i l (no z) = at_set_other bytes (2 * q) v (2 * i) (λ k. z (omega arith)) ∙ f.low i (omega arith)

  pub filled_all : WellFormed p → (bytes : List ℕ) → FilledTo bytes (p.variables * p.values) → TableBytes p first m row bytes
  unfolding ordering_table word
  filled_all w bytes f =
      let size = p.variables * p.values in
      let n : length (ordering_table p first m row) ≡ size = length_variable_table p w (image_of first m (ordering row)) in
      record {
        sized = f.sized;
        table = at_ext (words bytes 0 size) (ordering_table p first m row) (length_words bytes 0 size ∙ sym n)
            (λ i h. let l : i < size = subst (λ (k : ℕ). i < k) (length_words bytes 0 size) h in
            let z : 0 + 2 * i ≡ 2 * i = omega arith in
            let low : at bytes (2 * i) ≡ to i = f.low i l in
            let high : at bytes (2 * i + 1) ≡ 0 = f.high i in
            at_words bytes 0 size i l ∙ ap (λ (o : ℕ). at bytes o + 256 * at bytes (o + 1)) z ∙ ap₂ (λ (a c : ℕ). a + 256 * c) low high ∙ omega arith);
      }
