-- Tests over lists, and the list of the first numbers. Each test stops at the first element that decides it.
use Rattle.std.specs.Prelude.{Bool, true, false, List, [], ◌∷◌, ◌++◌, ℕ, zero, suc, ◌+◌, get_or, eqb, ltb}

abbrev pub both : Bool → Bool → Bool
both true b = b
both false b = false

abbrev pub either : Bool → Bool → Bool
either true b = true
either false b = b

module _ {A : Type 0} where
  -- a where the test holds, else b
  abbrev pub choose : Bool → A → A → A
  choose true a b = a
  choose false a b = b

  unfoldable pub all : (A → Bool) → List A → Bool
  all p [] = true
  all p (x ∷ xs) = elim (p x) [ true ↦ all p xs | false ↦ false ]

  unfoldable pub any : (A → Bool) → List A → Bool
  any p [] = false
  any p (x ∷ xs) = elim (p x) [ true ↦ true | false ↦ any p xs ]

  unfoldable pub keep : (A → Bool) → List A → List A
  keep p [] = []
  keep p (x ∷ xs) = elim (p x) [ true ↦ x ∷ keep p xs | false ↦ keep p xs ]

  unfoldable pub flat : List (List A) → List A
  flat [] = []
  flat (x ∷ xs) = x ++ flat xs

-- f 0, f 1, .. f (n - 1)
unfoldable pub tabulate : ℕ → (ℕ → ℕ) → List ℕ
tabulate zero f = []
tabulate (suc n) f = f 0 ∷ tabulate n (λ i. f (suc i))

-- k numbers from a on
unfoldable pub up_from : ℕ → ℕ → List ℕ
up_from a zero = []
up_from a (suc k) = a ∷ up_from (suc a) k

-- 0, 1, .. n - 1
unfoldable pub below : ℕ → List ℕ
below n = up_from 0 n

-- the element at an index, 0 past the end
unfoldable pub at : List ℕ → ℕ → ℕ
at l i = get_or l i 0

-- the sum
unfoldable pub total : List ℕ → ℕ
total [] = 0
total (x ∷ xs) = x + total xs

-- the same numbers in the same order
unfoldable pub same : List ℕ → List ℕ → Bool
same [] [] = true
same [] (y ∷ ys) = false
same (x ∷ xs) [] = false
same (x ∷ xs) (y ∷ ys) = elim (eqb x y) [ true ↦ same xs ys | false ↦ false ]

-- xs reads earlier than ys: it has the smaller number at the first difference
unfoldable pub earlier : List ℕ → List ℕ → Bool
earlier [] ys = false
earlier (x ∷ xs) [] = false
earlier (x ∷ xs) (y ∷ ys) = elim (eqb x y) [ true ↦ earlier xs ys | false ↦ ltb x y ]

-- strictly ascending, as numbers and as rows
unfoldable pub ascending : List ℕ → Bool
ascending [] = true
ascending (x ∷ []) = true
ascending (x ∷ y ∷ r) = elim (ltb x y) [ true ↦ ascending (y ∷ r) | false ↦ false ]

unfoldable pub rows_ascend : List (List ℕ) → Bool
rows_ascend [] = true
rows_ascend (x ∷ []) = true
rows_ascend (x ∷ y ∷ r) = elim (earlier x y) [ true ↦ rows_ascend (y ∷ r) | false ↦ false ]
