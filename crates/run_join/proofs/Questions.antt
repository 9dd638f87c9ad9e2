-- The questions to the heads. Assumes nothing.
use Rattle.model.specs.Kit.{◌≡◌, sym, ap, ◌∙◌, Bool, true, false, List, ℕ, ◌+◌, ◌*◌, ◌%◌, ◌≤◌, ◌<◌, arith, eqb, leb, length, take, drop, eq-eqb, ne_eqb, eqb-true, le-leb, lt-leb}
use Rattle.model.specs.Kit.{length-take-le, length-drop}
use Rattle.model.specs.{Lists.all, Lists.at, Lists.below, Lists.both, Lists.choose, Verdict.Verdict, Verdict.refused, Verdict.ask}
use Rattle.model.proofs.Lists.{T_of, of_T, TExt, all_i, all_e, below_i, below_e, both_no_r, both_yes}
use lib.Pointwise.{pointwise, bytes_decides}
use Rattle.run_join.specs.{Join.kind_at, Join.reach_place, Join.alike, Join.heads_in, Join.whole_heads}
use Rattle.run_join.proofs.Slices.{part_is, at_part}

module _ (l : List ℕ) (k : ℕ) where
  -- sixteen bytes are the same
  pub alike_is : 115 * k + 115 ≤ length l → pointwise eqb (take 16 (drop (115 * k + 60) l)) (take 16 (drop 60 l)) ≡ alike l k
  unfolding alike
  alike_is h = TExt (pointwise eqb here first) (all each (below 16))
      (λ t. all_i each (below 16) (λ i m. let j = below_e 16 i m in T_of (each i) (eq-eqb (at l (115 * k + 60 + i)) (at l (60 + i))
      (sym (at_part l (115 * k + 60) 16 i j) ∙ ap (λ (x : List ℕ). at x i) ((bytes_decides here first).0 (of_T (pointwise eqb here first) t)) ∙ at_part l 60 16 i j))))
      (λ t. T_of (pointwise eqb here first) ((bytes_decides here first).1 (part_is l first (115 * k + 60) 16 (omega arith) (length-take-le 16 (drop 60 l) (omega (arith, length-drop 60 l)))
      (λ i j. eqb-true (at l (115 * k + 60 + i)) (at l (60 + i)) (of_T (each i) (all_e each (below 16) t i (below_i 16 i j))) ∙ sym (at_part l 60 16 i j)))))
    where
      here : List ℕ
      here = take 16 (drop (115 * k + 60) l)

      first : List ℕ
      first = take 16 (drop 60 l)

      each : ℕ → Bool
      each i = eqb (at l (115 * k + 60 + i)) (at l (60 + i))

  pub place_end : (kind : ℕ) → kind ≡ kind_at l k → kind ≡ 1 → 115 * k + 89 ≡ reach_place l k
  place_end kind e h = sym (ap (λ (b : Bool). choose b (115 * k + 89) (115 * k + 102)) (eq-eqb (kind_at l k) 1 (sym e ∙ h)))

  pub place_last : (kind : ℕ) → kind ≡ kind_at l k → (kind ≡ 1 → ⊥) → 115 * k + 102 ≡ reach_place l k
  place_last kind e h = sym (ap (λ (b : Bool). choose b (115 * k + 89) (115 * k + 102)) (ne_eqb (kind_at l k) 1 (λ q. h (e ∙ q))))

-- a question, and those behind it
pub asked_no : (c : Bool) (n : ℕ) (v : Verdict) → c ≡ false → refused n 0 ≡ ask c n 0 v
asked_no c n v e = sym (ap (λ (x : Bool). ask x n 0 v) e)

pub asked_yes : (c : Bool) (n : ℕ) (v r : Verdict) → c ≡ true → r ≡ v → r ≡ ask c n 0 v
asked_yes c n v r e f = f ∙ sym (ap (λ (x : Bool). ask x n 0 v) e)

module _ (l : List ℕ) where
  pub whole_half : (length l % 115 ≡ 0 → ⊥) → whole_heads l ≡ false
  unfolding whole_heads
  whole_half d = ap (λ (x : Bool). both x (leb (heads_in l) 65536)) (ne_eqb (length l % 115) 0 d)

  pub whole_many : 65536 < heads_in l → whole_heads l ≡ false
  unfolding whole_heads
  whole_many h = both_no_r (eqb (length l % 115) 0) (leb (heads_in l) 65536) (lt-leb (heads_in l) 65536 h)

  pub whole_yes : length l % 115 ≡ 0 → heads_in l ≤ 65536 → whole_heads l ≡ true
  unfolding whole_heads
  whole_yes e h = both_yes (eqb (length l % 115) 0) (leb (heads_in l) 65536) (eq-eqb (length l % 115) 0 e) (le-leb (heads_in l) 65536 h)
