-- The sheet's format, the questions put to it in their order, and the problem that it states
-- (paper 01, "The sheet" and "Questions put to a sheet").
use Rattle.std.specs.Prelude.{Bool, true, false, not, List, [], ◌∷◌, map, ℕ, zero, suc, ◌+◌, ◌*◌, ◌^◌, length, leb, ltb, eqb}
use Rattle.model.specs.Lists.{all, any, below, at, both, ascending, rows_ascend}
use Rattle.model.specs.{Problem.Problem, Problem.Constraint, Problem.is_pair, Problem.respects, Verdict.Verdict, Verdict.accepted, Verdict.ask}

-- ---- the format
-- an unsigned 16-bit number, low byte first
unfoldable pub word : List ℕ → ℕ → ℕ
word b o = at b o + 256 * at b (o + 1)

-- k numbers from an offset on
unfoldable pub words : List ℕ → ℕ → ℕ → List ℕ
words b o k = map (λ i. word b (o + 2 * i)) (below k)

-- the eight numbers of the header: n, d, c, g, the three offsets and the length in bytes
pub record Header : Type 0 where
  pub variables : ℕ
  pub values : ℕ
  pub constraints : ℕ
  pub symmetries : ℕ
  pub first : ℕ
  pub second : ℕ
  pub third : ℕ
  pub size : ℕ

unfoldable pub header_of : List ℕ → Header
header_of b =
    record {
      variables = word b 0;
      values = word b 2;
      constraints = word b 4;
      symmetries = word b 6;
      first = word b 8;
      second = word b 10;
      third = word b 12;
      size = word b 14;
    }

-- the constraint at an offset: its scope, its rows, and the offset after it
unfoldable pub scope_at : List ℕ → ℕ → List ℕ
scope_at b o = words b (o + 4) (word b o)

unfoldable pub rows_at : List ℕ → ℕ → List (List ℕ)
rows_at b o = map (λ i. words b (o + 4 + 2 * word b o + 2 * (i * word b o)) (word b o)) (below (word b (o + 2)))

unfoldable pub after_at : List ℕ → ℕ → ℕ
after_at b o = o + 4 + 2 * word b o + 2 * (word b (o + 2) * word b o)

-- k constraints, the first at offset o
unfoldable pub constraints_from : List ℕ → ℕ → ℕ → List Constraint
constraints_from b zero o = []
constraints_from b (suc k) o = record { scope = scope_at b o; rows = rows_at b o } ∷ constraints_from b k (after_at b o)

-- the table of symmetry i
unfoldable pub table_at : List ℕ → Header → ℕ → List ℕ
table_at b h i = words b (h.third + 2 * (i * (h.variables * h.values))) (h.variables * h.values)

unfoldable pub problem_of : List ℕ → Problem
problem_of b =
    let h = header_of b in
    record {
      variables = h.variables;
      values = h.values;
      initial = words b 16 h.variables;
      constraints = constraints_from b h.constraints h.second;
      symmetries = map (table_at b h) (below h.symmetries);
    }

-- ---- the questions
-- the test of question 7
abbrev pub offsets_fit : Header → Bool
offsets_fit h = both (eqb h.first 16) (both (eqb h.second (16 + 2 * h.variables)) (both (leb h.second h.third) (leb h.third h.size)))

-- 1 to 7, for the header of a sheet of so many bytes
unfoldable pub header_verdict : Header → ℕ → Verdict → Verdict
header_verdict h bytes later =
    ask (leb 16 bytes) 1 0
    (ask (both (leb 1 h.variables) (leb h.variables 12)) 2 0
    (ask (both (leb 1 h.values) (leb h.values 16)) 3 0
    (ask (leb h.constraints 32) 4 0
    (ask (leb h.symmetries 16) 5 0
    (ask (eqb h.size bytes) 6 0
    (ask (offsets_fit h) 7 0 later))))))

-- 8, for each of the variables xs
unfoldable pub sets_verdict : List ℕ → Header → List ℕ → Verdict → Verdict
sets_verdict b h [] later = later
sets_verdict b h (x ∷ xs) later =
    let s = word b (16 + 2 * x) in
    ask (both (ltb s (2 ^ h.values)) (not (eqb s 0))) 8 x (sets_verdict b h xs later)

-- 9 to 13, for constraint i at o
unfoldable pub constraint_verdict : List ℕ → Header → ℕ → ℕ → Verdict → Verdict
constraint_verdict b h i o later =
    ask (leb (o + 4) h.third) 9 i
    (ask (both (both (leb 1 (word b o)) (leb (word b o) 3)) (leb (word b (o + 2)) 256)) 10 i
    (ask (leb (after_at b o) h.third) 9 i
    (ask (both (all (λ x. ltb x h.variables) (scope_at b o)) (ascending (scope_at b o))) 11 i
    (ask (all (all (λ w. ltb w h.values)) (rows_at b o)) 12 i
    (ask (rows_ascend (rows_at b o)) 13 i later)))))

-- the same for k constraints, the first of which is number i and stands at o; after the last, where it ends
unfoldable pub constraints_verdict : List ℕ → Header → ℕ → ℕ → ℕ → Verdict → Verdict
constraints_verdict b h zero i o later = ask (eqb o h.third) 9 i later
constraints_verdict b h (suc k) i o later = constraint_verdict b h i o (constraints_verdict b h k (suc i) (after_at b o) later)

-- the test of question 14
abbrev pub tables_fit : Header → Bool
tables_fit h = eqb h.size (h.third + 2 * (h.symmetries * (h.variables * h.values)))

-- 1 to 14
unfoldable pub form_verdict : List ℕ → Verdict → Verdict
form_verdict b later =
    let h = header_of b in
    header_verdict h (length b)
    (sets_verdict b h (below h.variables)
    (constraints_verdict b h h.constraints 0 h.second
    (ask (tables_fit h) 14 0 later)))

unfoldable pub distinct : List ℕ → Bool
distinct [] = true
distinct (x ∷ xs) = elim (any (eqb x) xs) [ true ↦ false | false ↦ distinct xs ]

-- each number that is no pair stands for itself, and the pairs are permuted among themselves
unfoldable pub permutes_pairs : Problem → List ℕ → Bool
permutes_pairs p g =
    both (all (λ q. elim (is_pair p q) [ true ↦ is_pair p (at g q) | false ↦ eqb (at g q) q ]) (below (p.variables * p.values)))
    (distinct g)

-- 15 and 16, for each of the tables gs, the first of which is number i
unfoldable pub symmetries_verdict : Problem → ℕ → List (List ℕ) → Verdict
symmetries_verdict p i [] = accepted
symmetries_verdict p i (g ∷ gs) =
    ask (permutes_pairs p g) 15 i
    (ask (respects p g) 16 i
    (symmetries_verdict p (suc i) gs))

-- all questions: the first whose answer is no
unfoldable pub verdict_of : List ℕ → Verdict
verdict_of b = form_verdict b (symmetries_verdict (problem_of b) 0 (problem_of b).symmetries)
