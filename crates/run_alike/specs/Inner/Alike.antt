-- Two prefixes of one length that leave the same to do: the same sets behind them, the same settled values in each constraint that has two
-- variables left, and the same of each symmetry's nogoods.
use Rattle.std.specs.Prelude.{◌≡◌, Bool, true, false, List, [], ◌∷◌, ◌++◌, ℕ, ◌+◌, ◌^◌, ◌≤◌, ◌<◌, length, drop, T, eqb, leb}
use Rattle.model.specs.Kit.{Memᴰ}
use Rattle.model.specs.Nogood.{Entry, equality, disequality, obeys}
use Rattle.model.specs.{Lists.at, Lists.keep, ValueSets.has, Problem.Problem, Problem.Constraint, Problem.assignments, Search.nogoods_of, Search.sets_at, Search.is_live, Claims.Drawn}

-- ---- what is left of a list of nogoods
-- the entries that the sets do not decide, and whether an equality among the entries names a value that is gone
pub record Residue : Type 0 where
  pub kept : List Entry
  pub stopped : Bool

abbrev pub front : Entry → Residue → Residue
front e r = record { kept = e ∷ r.kept; stopped = r.stopped }

-- an equality goes where its value is the only one of the set, and ends the list where it is none of it; a disequality goes where its value is none of the set
unfoldable pub residue : List ℕ → List Entry → Residue
residue ds [] = record { kept = []; stopped = false }
residue ds (equality x v ∷ es) =
    elim (has (at ds x) v) [
      | true ↦ elim (eqb (at ds x) (2 ^ v)) [ true ↦ residue ds es | false ↦ front (equality x v) (residue ds es) ]
      | false ↦ record { kept = []; stopped = true }
    ]
residue ds (disequality x v ∷ es) = elim (has (at ds x) v) [ true ↦ front (disequality x v) (residue ds es) | false ↦ residue ds es ]

-- every assignment from the sets obeys the entries, and whatever comes after them (filter's `ObeyedForGood`)
abbrev pub Obeyed : List ℕ → List Entry → Type 0
Obeyed ds es = (s : List ℕ) → Memᴰ s (assignments ds) → (fs : List Entry) → T (obeys s (es ++ fs))

-- what comes after the entries decides (filter's `Vacuous`)
abbrev pub Vacuous : List ℕ → List Entry → Type 0
Vacuous ds es = (s : List ℕ) → Memᴰ s (assignments ds) → (fs : List Entry) → obeys s (es ++ fs) ≡ obeys s fs

-- whatever goes on behind a is carried over to b: an assignment from the sets there that obeys obeys with b's values in front
abbrev pub Carries : Problem → List ℕ → List ℕ → List ℕ → Type 0
Carries p g a b =
    (s more : List ℕ) → length a + length s ≡ p.variables → length a + length more ≤ p.variables → T (is_live p (a ++ more)) → Drawn (sets_at p (a ++ more)) (a ++ s) →
    T (obeys (a ++ s) (nogoods_of p g (a ++ more))) → T (obeys (b ++ s) (nogoods_of p g (b ++ more)))

-- two prefixes leave the same of a symmetry's nogoods: they are obeyed for good at both, or the same is left of them, or what goes on is carried over both ways
pub data SameList (p : Problem) (g a b : List ℕ) : Type 0 where
  obeyed : Obeyed (sets_at p a) (nogoods_of p g a) → Obeyed (sets_at p b) (nogoods_of p g b) → SameList p g a b
  same_left : residue (sets_at p a) (nogoods_of p g a) ≡ residue (sets_at p b) (nogoods_of p g b) → SameList p g a b
  carried : Carries p g a b → Carries p g b a → SameList p g a b

-- ---- what is left of a constraint
-- the variables of a scope that a prefix of k values leaves
abbrev pub unsettled : ℕ → List ℕ → List ℕ
unsettled k scope = keep (leb k) scope

-- a constraint that leaves two variables has the same values settled
abbrev pub SameSettled : Problem → List ℕ → List ℕ → Type 0
SameSettled p a b =
    (c : Constraint) → Memᴰ c p.constraints → 2 ≤ length (unsettled (length a) c.scope) → (x : ℕ) → Memᴰ x c.scope → x < length a → at a x ≡ at b x

pub record Alike (p : Problem) (a b : List ℕ) : Type 0 where
  pub sized : length a ≡ length b
  pub sets : drop (length a) (sets_at p a) ≡ drop (length a) (sets_at p b)
  pub settled : SameSettled p a b
  pub lists : (g : List ℕ) → Memᴰ g p.symmetries → SameList p g a b

-- the node below a in place of one below b
abbrev pub moved : List ℕ → List ℕ → List ℕ
moved a t = a ++ drop (length a) t
