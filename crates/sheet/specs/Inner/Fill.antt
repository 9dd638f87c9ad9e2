-- What the questions on the constraints store: the scope of each, the constraints that touch a variable, and the support sets.
use Rattle.std.specs.Prelude.{◌≡◌, Bool, true, List, ℕ, zero, suc, ◌+◌, ◌*◌, ◌/◌, ◌%◌, ◌^◌, ◌<◌, Option, Some, None, Result, Ok, Err, set, T, ltb}
use Rattle.model.specs.Kit.{bit_or}
use Rattle.model.specs.{Lists.at, Lists.all, Lists.both, Lists.ascending, Lists.choose, ValueSets.union_mask, Sheet.word, Sheet.words}
use Rattle.model.specs.declared.refusals.{Question.Question, Question.TheVariants.RowValues, Question.TheVariants.RowOrder}
use Rattle.arrays.specs.Inner.Places.{SCOPES}

-- ---- scopes
-- constraint k touches variable x
unfoldable pub touch : ℕ → ℕ → List ℕ → List ℕ
touch k x l = set l x (bit_or (at l x) (2 ^ k))

-- the same for the first i variables of the scope at an offset
unfoldable pub touched : List ℕ → ℕ → ℕ → ℕ → List ℕ → List ℕ
touched b from k zero l = l
touched b from k (suc i) l = touch k (word b (from + 2 * i)) (touched b from k i l)

-- the arity, and the first i variables of the scope, a byte each
unfoldable pub packed : List ℕ → ℕ → ℕ → ℕ → ℕ
packed b from a zero = a
packed b from a (suc i) = packed b from a i + word b (from + 2 * i) * 256 ^ suc i

-- the least variable that may stand at i
unfoldable pub least_at : List ℕ → ℕ → ℕ → ℕ
least_at b from zero = 0
least_at b from (suc i) = word b (from + 2 * i) + 1

-- ---- rows
-- the first i values at an offset as one number, a hexadecimal digit each
unfoldable pub key_to : List ℕ → ℕ → ℕ → ℕ
key_to b o zero = 0
key_to b o (suc i) = 16 * key_to b o i + word b (o + 2 * i)

-- row i of those of a values from an offset on
abbrev pub row_key : List ℕ → ℕ → ℕ → ℕ → ℕ
row_key b from a i = key_to b (from + 2 * (i * a)) a

-- the values of a row are below d
abbrev pub row_fits : List ℕ → ℕ → ℕ → ℕ → ℕ → Bool
row_fits b from a d i = all (λ w. ltb w d) (words b (from + 2 * (i * a)) a)

-- the least key that row i may have
unfoldable pub least_key : List ℕ → ℕ → ℕ → ℕ → ℕ
least_key b from a zero = 0
least_key b from a (suc i) = row_key b from a i + 1

-- question 13 to the first i rows
unfoldable pub order : List ℕ → ℕ → ℕ → ℕ → Result Unit Question
order b from a zero = Ok tt
order b from a (suc i) = choose (ltb (row_key b from a i) (least_key b from a i)) (Err RowOrder) (order b from a i)

-- the support sets from a base on with the row of a key, and with the first i rows
unfoldable pub with_row : ℕ → ℕ → List ℕ → List ℕ
with_row base key l = set l (base + key / 16) (union_mask (at l (base + key / 16)) (2 ^ (key % 16)))

unfoldable pub with_rows : List ℕ → ℕ → ℕ → ℕ → ℕ → List ℕ → List ℕ
with_rows b from a base zero l = l
with_rows b from a base (suc i) l = with_row base (row_key b from a i) (with_rows b from a base i l)

-- ---- one constraint
-- what constraint k at an offset adds to the numbers and to the support sets
abbrev pub numbers_with : List ℕ → ℕ → ℕ → List ℕ → List ℕ
numbers_with b o k l = set (touched b (o + 4) k (word b o) l) (SCOPES + k) (packed b (o + 4) (word b o) (word b o))

abbrev pub supports_with : List ℕ → ℕ → ℕ → List ℕ → List ℕ
supports_with b o k l = with_rows b (o + 4 + 2 * word b o) (word b o) (256 * k) (word b (o + 2)) l

-- ---- what the functions say
-- the key of a row at an offset, if each value is below d
pub record RowRead (b : List ℕ) (o a d : ℕ) (r : Option ℕ) : Type 0 where
  pub good : (key : ℕ) → r ≡ Some key → (key < 4096) × (key ≡ key_to b o a) × T (all (λ w. ltb w d) (words b o a))
  pub bad : r ≡ None → T (all (λ w. ltb w d) (words b o a)) → ⊥

-- questions 12 and 13 to n rows
pub record RowsAsked (b : List ℕ) (from a n d base : ℕ) (old new : List ℕ) (r : Result Unit Question) : Type 0 where
  pub refused : r ≡ Err RowValues → (i : ℕ) × (i < n) × (T (row_fits b from a d i) → ⊥)
  pub passed : (r ≡ Err RowValues → ⊥) → (r ≡ order b from a n) × ((i : ℕ) → i < n → T (row_fits b from a d i)) × (new ≡ with_rows b from a base n old)

-- question 11 to the scope of a variables at an offset
pub record ScopeAsked (b : List ℕ) (from a n k : ℕ) (old new : List ℕ) (r : Bool) : Type 0 where
  pub answers : r ≡ both (all (λ x. ltb x n) (words b from a)) (ascending (words b from a))
  pub stored : r ≡ true → new ≡ set (touched b from k a old) (SCOPES + k) (packed b from a a)
