-- The words in which the functions below question 16 speak.
use Rattle.std.specs.Prelude.{◌≡◌, Bool, true, false, not, List, [], ◌∷◌, ◌++◌, map, ◌⊎◌, ℕ, ◌+◌, ◌*◌, ◌^◌, ◌/◌, ◌%◌, ◌≤◌, ◌<◌, suc, length, take, drop, T, eqb, ltb}
use Rattle.model.specs.{Lists.all, Lists.any, Lists.at, Lists.same, Lists.both, Lists.either, Lists.choose, ValueSets.has, ValueSets.members, Problem.Problem, Problem.Constraint, Problem.pair}
use Rattle.model.specs.{Problem.forbidden, Problem.within, Problem.constraint_at, Sheet.permutes_pairs}
use Rattle.arrays.specs.Inner.Layout.{image_code}
use Rattle.sheet_table.specs.Inner.Table.{Framed, Ready, TableAt, table_of}

-- some forbidden set lies among the pairs
unfoldable pub blocked : Problem → List ℕ → Bool
blocked p image = any (λ h. within h image) (forbidden p)

-- ---- codes of pairs
-- the code of a pair is 16 times its variable plus its value; its pair number
abbrev pub number_of : Problem → ℕ → ℕ
number_of p code = pair p (code / 16) (code % 16)

abbrev pub PairCode : Problem → ℕ → Type 0
PairCode p code = (code / 16 < p.variables) × T (has (at p.initial (code / 16)) (code % 16))

-- 255 is the code of no pair
abbrev pub MaybePair : Problem → ℕ → Type 0
MaybePair p code = (code ≡ 255) ⊎ PairCode p code

-- `codes`: that of the image of a pair (x, v) in a table at 16 x + v
abbrev pub Decoded : Problem → List ℕ → List ℕ → Type 0
Decoded p g codes = (x v : ℕ) → x < p.variables → T (has (at p.initial x) v) → at codes (16 * x + v) ≡ image_code p g x v

-- the images of pairs are pairs
abbrev pub Coded : Problem → List ℕ → Type 0
Coded p codes = (x v : ℕ) → x < p.variables → T (has (at p.initial x) v) → PairCode p (at codes (16 * x + v))

-- values as the digits of a number
unfoldable pub packed_on : ℕ → List ℕ → ℕ
packed_on key [] = key
packed_on key (v ∷ vs) = packed_on (16 * key + v) vs

abbrev pub packed : List ℕ → ℕ
packed vs = packed_on 0 vs

-- ---- three pairs
abbrev pub clashes : ℕ → ℕ → Bool
clashes a b = both (eqb (a / 16) (b / 16)) (not (eqb a b))

-- the value that the first of three pairs with this variable gives to it, 16 where none has it
abbrev pub value_in : ℕ → ℕ → ℕ → ℕ → ℕ
value_in a b e x = choose (eqb (a / 16) x) (a % 16) (choose (eqb (b / 16) x) (b % 16) (choose (eqb (e / 16) x) (e % 16) 16))

-- the scope lies among the variables of three pairs, whose values are no row
unfoldable pub refused_by : Constraint → ℕ → ℕ → ℕ → Bool
refused_by c a b e = both (all (λ x. ltb (value_in a b e x) 16) c.scope) (not (any (same (map (value_in a b e) c.scope)) c.rows))

-- the values for the first i variables of a scope are found among three pairs
pub record LookedUp (c : Constraint) (a b e i key : ℕ) : Type 0 where
  pub within : i ≤ length c.scope
  pub keyed : key ≡ packed (map (value_in a b e) (take i c.scope))
  pub small : (j : ℕ) → j < i → value_in a b e (at c.scope j) < 16

pub record Triple (p : Problem) (numbers supports : List ℕ) (a b e : ℕ) : Type 0 where
  pub ready : Ready p numbers supports
  pub first : MaybePair p a
  pub second : MaybePair p b
  pub third : MaybePair p e

-- whether a constraint of a set refuses three pairs
pub record Refusing (p : Problem) (a b e set : ℕ) (r : Bool) : Type 0 where
  pub yes : r ≡ true → T (blocked p (number_of p a ∷ number_of p b ∷ number_of p e ∷ []))
  pub no : r ≡ false → (k : ℕ) → k < length p.constraints → T (has set k) → T (refused_by (constraint_at p k) a b e) → ⊥

-- every constraint of a set that refuses three pairs is still to be asked
pub record Pending (p : Problem) (a b e set rest : ℕ) : Type 0 where
  pub few : rest < 2 ^ length p.constraints
  pub whole : (k : ℕ) → k < length p.constraints → T (has set k) → T (refused_by (constraint_at p k) a b e) → T (has rest k)

-- ---- the walk of a constraint's forbidden sets
unfoldable pub codes_at : List ℕ → List ℕ → List ℕ → List ℕ
codes_at codes xs [] = []
codes_at codes [] (v ∷ vs) = []
codes_at codes (x ∷ xs) (v ∷ vs) = at codes (16 * x + v) ∷ codes_at codes xs vs

-- the values vs are chosen for the first variables of a constraint, those of xs are to come:
-- whatever they are, the values are a row or their image is blocked
unfoldable pub keeps : Problem → List ℕ → Constraint → List ℕ → List ℕ → Bool
keeps p codes c [] vs = either (any (same vs) c.rows) (blocked p (map (number_of p) (codes_at codes c.scope vs)))
keeps p codes c (x ∷ xs) vs = all (λ v. keeps p codes c xs (vs ++ (v ∷ []))) (members (at p.initial x))

-- the values are of the initial sets of the first variables
abbrev pub Begun : Problem → List ℕ → List ℕ → Type 0
Begun p xs [] = Unit {0}
Begun p [] (v ∷ vs) = ⊥
Begun p (x ∷ xs) (v ∷ vs) = T (has (at p.initial x) v) × Begun p xs vs

-- the last three of the codes, after 255 three times
abbrev pub last_three : List ℕ → List ℕ
last_three [] = 255 ∷ 255 ∷ 255 ∷ []
last_three (a ∷ []) = 255 ∷ 255 ∷ a ∷ []
last_three (a ∷ b ∷ []) = 255 ∷ a ∷ b ∷ []
last_three (a ∷ b ∷ e ∷ r) = a ∷ b ∷ e ∷ []

-- at the code of the image of each pair its value
abbrev pub Back : Problem → List ℕ → List ℕ → Type 0
Back p codes moves = (x v : ℕ) → x < p.variables → T (has (at p.initial x) v) → at moves (at codes (16 * x + v)) ≡ v

-- room for both
pub record Blank (codes moves : List ℕ) : Type 0 where
  pub codes_room : length codes ≡ 256
  pub moves_room : length moves ≡ 256
  pub small : (i : ℕ) → at moves i < 16

-- whether a table permutes the pairs, and what was made of it if it does
pub record Drawn (p : Problem) (g codes moves : List ℕ) (r : Bool) : Type 0 where
  pub answers : r ≡ permutes_pairs p g
  pub decoded : r ≡ true → Decoded p g codes
  pub back : r ≡ true → Back p codes moves

pub record Decoding (sheet : List ℕ) (offset : ℕ) (numbers codes moves : List ℕ) (r : Bool) : Type 0 where
  pub room : Blank codes moves
  pub drawn : (p : Problem) → TableAt p sheet offset numbers → Drawn p (table_of p sheet offset) codes moves r

-- all pairs of variable x go to variable y, unless that is 15
abbrev pub Target : Problem → List ℕ → ℕ → ℕ → Type 0
Target p codes x y = (v : ℕ) → T (has (at p.initial x) v) → (y ≡ 15 → ⊥) → at codes (16 * x + v) / 16 ≡ y

-- `moves`: at the code of the image of each pair its value; from 192 on, for each variable the one that all of its pairs go to, or 15
pub record Moved (p : Problem) (codes moves : List ℕ) : Type 0 where
  pub small : (i : ℕ) → at moves i < 16
  pub back : Back p codes moves
  pub to : (x : ℕ) → x < p.variables → Target p codes x (at moves (192 + x))

abbrev pub Targets : List ℕ → List ℕ → List ℕ → List ℕ → Type 0
Targets numbers codes old new = (p : Problem) → Framed p numbers → Coded p codes → Back p codes old → Moved p codes new

-- what the walks of the forbidden sets are lent
pub record Lent (p : Problem) (numbers supports codes moves : List ℕ) : Type 0 where
  pub ready : Ready p numbers supports
  pub coded : Coded p codes
  pub moved : Moved p codes moves

-- values vs are chosen for the first variables of constraint k, for those `ahead` they are to come
pub record Chosen (p : Problem) (vs : List ℕ) (k ahead key : ℕ) : Type 0 where
  pub inside : k < length p.constraints
  pub split : length vs + ahead ≡ length (constraint_at p k).scope
  pub begun : Begun p (constraint_at p k).scope vs
  pub keyed : key ≡ packed vs

pub record Walking (p : Problem) (vs numbers supports codes moves : List ℕ) (k ahead key a b e : ℕ) : Type 0 where
  pub lent : Lent p numbers supports codes moves
  pub chosen : Chosen p vs k ahead key
  pub shown : a ∷ b ∷ e ∷ [] ≡ last_three (codes_at codes (constraint_at p k).scope vs)
  pub absent : ahead ≡ 0 → any (same vs) (constraint_at p k).rows ≡ false

-- what is asked of the values of a set as the next of constraint k is what is asked of all
pub record Choices (p : Problem) (vs codes : List ℕ) (k ahead set : ℕ) : Type 0 where
  pub small : set < 2 ^ 16
  pub allowed : (v : ℕ) → T (has set v) → T (has (at p.initial (at (constraint_at p k).scope (length vs))) v)
  pub absent : (v : ℕ) → T (has set v) → ahead ≡ 1 → any (same (vs ++ (v ∷ []))) (constraint_at p k).rows ≡ false
  pub whole : all (λ v. keeps p codes (constraint_at p k) (drop (suc (length vs)) (constraint_at p k).scope) (vs ++ (v ∷ []))) (members set)
      ≡ keeps p codes (constraint_at p k) (drop (length vs) (constraint_at p k).scope) vs

-- what is asked of all values for the variables ahead holds
abbrev pub Held : List ℕ → List ℕ → ℕ → ℕ → ℕ → Type 0
Held numbers supports k ahead key = (p : Problem) (vs codes : List ℕ) → Ready p numbers supports → Chosen p vs k ahead key →
    true ≡ keeps p codes (constraint_at p k) (drop (length vs) (constraint_at p k).scope) vs

-- ---- two pairs beside the pairs of a variable
-- the pairs with these values of y are blocked with the pairs a and b
abbrev pub Sure : Problem → ℕ → ℕ → ℕ → ℕ → Type 0
Sure p a b y set = (e : ℕ) → e / 16 ≡ y → PairCode p e → T (has set (e % 16)) → T (blocked p (number_of p a ∷ number_of p b ∷ number_of p e ∷ []))

-- values below n for which the set at base + step * v lacks w
abbrev pub Lacking : List ℕ → ℕ → ℕ → ℕ → ℕ → ℕ → Type 0
Lacking supports base step w n set = (v : ℕ) → has set v ≡ both (ltb v n) (not (has (at supports (base + step * v)) w))

-- constraint k has the variables of two pairs and variable y
pub record On (p : Problem) (numbers supports : List ℕ) (k a b y : ℕ) : Type 0 where
  pub ready : Ready p numbers supports
  pub inside : k < length p.constraints
  pub first : MaybePair p a
  pub second : MaybePair p b
  pub has_first : T (any (eqb (a / 16)) (constraint_at p k).scope)
  pub has_second : T (any (eqb (b / 16)) (constraint_at p k).scope)
  pub has_third : T (any (eqb y) (constraint_at p k).scope)

-- constraint m has the variable of pair a and the variables y and z
pub record Across (p : Problem) (numbers supports : List ℕ) (m a y z : ℕ) : Type 0 where
  pub ready : Ready p numbers supports
  pub inside : m < length p.constraints
  pub first : MaybePair p a
  pub has_first : T (any (eqb (a / 16)) (constraint_at p m).scope)
  pub has_second : T (any (eqb y) (constraint_at p m).scope)
  pub has_third : T (any (eqb z) (constraint_at p m).scope)

-- the pairs e of y and f of z are blocked with pair a, or the values that they come from stand in the sets from `from` on
abbrev pub FromRow : Problem → List ℕ → List ℕ → ℕ → ℕ → ℕ → ℕ → Type 0
FromRow p supports moves from a e f = T (blocked p (number_of p a ∷ number_of p e ∷ number_of p f ∷ [])) ⊎ T (has (at supports (from + at moves e)) (at moves f))

-- the same for each f of z
abbrev pub FromRows : Problem → List ℕ → List ℕ → ℕ → ℕ → ℕ → ℕ → Type 0
FromRows p supports moves from a e z = (u : ℕ) → T (has (at p.initial z) u) → FromRow p supports moves from a e (16 * z + u)

-- the values of z in the set at i, for the pair e, come from values of the set that it comes from
abbrev pub SetFrom : Problem → List ℕ → List ℕ → ℕ → ℕ → ℕ → ℕ → Type 0
SetFrom p supports moves from i e z = (u : ℕ) → T (has (at p.initial z) u) → T (has (at supports i) u) → T (has (at supports (from + at moves e)) (at moves (16 * z + u)))

-- ---- all three variables at once
-- constraint m has the variables x, y and z
pub record Three (p : Problem) (numbers supports : List ℕ) (m x y z : ℕ) : Type 0 where
  pub ready : Ready p numbers supports
  pub inside : m < length p.constraints
  pub has_first : T (any (eqb x) (constraint_at p m).scope)
  pub has_second : T (any (eqb y) (constraint_at p m).scope)
  pub has_third : T (any (eqb z) (constraint_at p m).scope)

abbrev pub Two : Problem → List ℕ → ℕ → ℕ → Type 0
Two p numbers x z = Framed p numbers × (x < p.variables) × (z < p.variables)

-- the values of x in the set at i come from values whose sets, every 16th from `from` on, have w
abbrev pub FirstsFrom : Problem → List ℕ → List ℕ → ℕ → ℕ → ℕ → ℕ → Type 0
FirstsFrom p supports moves from i x w = (t : ℕ) → T (has (at p.initial x) t) → T (has (at supports i) t) → T (has (at supports (from + 16 * at moves (16 * x + t))) w)

-- the same for each value of z, and for each value of y
abbrev pub ThirdsFrom : Problem → List ℕ → List ℕ → ℕ → ℕ → ℕ → ℕ → ℕ → Type 0
ThirdsFrom p supports moves from base step x z = (u : ℕ) → T (has (at p.initial z) u) → FirstsFrom p supports moves from (base + step * u) x (at moves (16 * z + u))

abbrev pub SecondsFrom : Problem → List ℕ → List ℕ → ℕ → ℕ → ℕ → ℕ → ℕ → ℕ → ℕ → Type 0
SecondsFrom p supports moves k base step third x y z = (v : ℕ) → T (has (at p.initial y) v) → ThirdsFrom p supports moves (256 * k + at moves (16 * y + v)) (base + step * v) third x z

-- three pairs are blocked, or the values that they come from are a row of constraint k
abbrev pub WholeFrom : Problem → List ℕ → List ℕ → ℕ → ℕ → ℕ → ℕ → Type 0
WholeFrom p supports moves k x y z = (t v : ℕ) → T (has (at p.initial x) t) → T (has (at p.initial y) v) →
    FromRows p supports moves (256 * k + 16 * at moves (16 * x + t)) (16 * x + t) (16 * y + v) z

abbrev pub Small : List ℕ → Type 0
Small moves = (i : ℕ) → at moves i < 16

-- constraint k is on three variables
pub record Whole (p : Problem) (numbers supports codes moves : List ℕ) (k : ℕ) : Type 0 where
  pub lent : Lent p numbers supports codes moves
  pub inside : k < length p.constraints
  pub three : length (constraint_at p k).scope ≡ 3

-- what the functions on them answer with true
abbrev pub Firsts : List ℕ → List ℕ → ℕ → ℕ → ℕ → ℕ → Type 0
Firsts supports moves from x set w = (t : ℕ) → T (has set t) → T (has (at supports (from + 16 * at moves (16 * x + t))) w)

abbrev pub Thirds : List ℕ → List ℕ → List ℕ → ℕ → ℕ → ℕ → ℕ → ℕ → Type 0
Thirds numbers supports moves from base step x z = (p : Problem) → Two p numbers x z → ThirdsFrom p supports moves from base step x z

abbrev pub Seconds : List ℕ → List ℕ → List ℕ → ℕ → ℕ → ℕ → ℕ → ℕ → ℕ → ℕ → Type 0
Seconds numbers supports moves k base step third x y z = (p : Problem) → Two p numbers x z → y < p.variables → SecondsFrom p supports moves k base step third x y z

abbrev pub Wholes : List ℕ → List ℕ → List ℕ → ℕ → ℕ → ℕ → ℕ → ℕ → Type 0
Wholes numbers supports moves k m x y z = (p : Problem) → Three p numbers supports m x y z → WholeFrom p supports moves k x y z

abbrev pub Kept : List ℕ → List ℕ → List ℕ → ℕ → Type 0
Kept numbers supports moves k = (p : Problem) (codes : List ℕ) → Whole p numbers supports codes moves k → true ≡ keeps p codes (constraint_at p k) (constraint_at p k).scope []

-- the image of each (x, v) is blocked with the pairs a and b
abbrev pub all_blocked : Problem → List ℕ → ℕ → ℕ → ℕ → List ℕ → Bool
all_blocked p codes x a b vs = all (λ v. blocked p (number_of p a ∷ number_of p b ∷ number_of p (at codes (16 * x + v)) ∷ [])) vs

-- values of the initial set of x, and two pairs
pub record Beside (p : Problem) (numbers supports codes : List ℕ) (x set a b : ℕ) : Type 0 where
  pub ready : Ready p numbers supports
  pub coded : Coded p codes
  pub variable : x < p.variables
  pub values : (v : ℕ) → T (has set v) → T (has (at p.initial x) v)
  pub small : set < 2 ^ 16
  pub first : MaybePair p a
  pub second : MaybePair p b

-- ---- the walk of a variable's forbidden sets
-- the images of (x, v) and of each (x, w) are blocked
abbrev pub besides : Problem → List ℕ → ℕ → ℕ → List ℕ → Bool
besides p codes x v ws = all (λ w. blocked p (number_of p (at codes (16 * x + v)) ∷ number_of p (at codes (16 * x + w)) ∷ [])) ws

unfoldable pub doublings : Problem → List ℕ → ℕ → List ℕ → Bool
doublings p codes x [] = true
doublings p codes x (v ∷ vs) = both (besides p codes x v vs) (doublings p codes x vs)

-- what is asked of the pairs of x with the values of a set is what is asked of all
pub record Doubling (p : Problem) (codes : List ℕ) (x set : ℕ) : Type 0 where
  pub small : set < 2 ^ 16
  pub allowed : (w : ℕ) → T (has set w) → T (has (at p.initial x) w)
  pub whole : doublings p codes x (members set) ≡ doublings p codes x (members (at p.initial x))
