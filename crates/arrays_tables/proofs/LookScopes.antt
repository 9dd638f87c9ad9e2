-- The constraints on three variables that are looked up at a depth. Assumes nothing.
use Rattle.model.specs.Kit.{◌≡◌, sym, ap, ap₂, ◌∙◌, subst, Bool, List, ℕ, ◌+◌, ◌*◌, ◌/◌, ◌%◌, ◌≤◌, ◌<◌, arith, T, eqb, ltb, eqb→eq, length}
use Rattle.model.specs.{Lists.at, ValueSets.has, ValueSets.one_if, Problem.Problem, Inner.Filling.Gathered}
use Rattle.model.proofs.{Lists.both_r, Filling.gathered_lt}
use Rattle.arrays.specs.{Inner.Places.SCOPES, Inner.Places.CONSTRAINTS, Inner.Places.LINKED, Inner.Layout.Numbers, Inner.Layout.arity_in, Inner.Layout.variable_in, Inner.Tables.LooksUp}
use Rattle.arrays_tables.specs.Inner.Steps.{LookScopes}

-- the test of constraint c, whose arity and second variable are compared at once
abbrev pub is_look : List ℕ → ℕ → ℕ → Bool
is_look numbers k c = eqb (arity_in (at numbers (SCOPES + c)) + 256 * (variable_in (at numbers (SCOPES + c)) 1 + 1)) (3 + 256 * k)

pub look_is : (w key c a b r : ℕ) → a ≡ arity_in w → b ≡ variable_in w 1 → r ≡ one_if (eqb (a + 256 * (b + 1)) key) c → r ≡ one_if (eqb (arity_in w + 256 * (variable_in w 1 + 1)) key) c
look_is w key c a b r e f g = g ∙ ap₂ (λ (m n : ℕ). one_if (eqb (m + 256 * (n + 1)) key) c) e f

pub look_scopes : (numbers : List ℕ) (k r : ℕ) → Gathered (is_look numbers k) (at numbers CONSTRAINTS) r → LookScopes numbers k r
look_scopes numbers k r g c t =
    let e : at numbers (SCOPES + c) % 256 + 256 * (at numbers (SCOPES + c) / 65536 % 256 + 1) ≡ 3 + 256 * k = eqb→eq _ _
    (both_r (ltb c (at numbers CONSTRAINTS)) (is_look numbers k c) (subst T (g.has_is c) t)) in
    (gathered_lt (is_look numbers k) (at numbers CONSTRAINTS) r c g t, omega arith, omega arith)

-- they are read from numbers before LINKED
pub look_scopes_from : (old new : List ℕ) (k r : ℕ) → ((j : ℕ) → j < LINKED → at new j ≡ at old j) → at old CONSTRAINTS ≤ 32 → LookScopes new k r → LookScopes old k r
look_scopes_from old new k r e h s c t =
    let q = s c t in
    let l : c < at old CONSTRAINTS = omega (arith, q.0, e CONSTRAINTS (omega arith)) in
    let i = e (SCOPES + c) (omega arith) in
    (l, ap (λ (n : ℕ). n % 256) (sym i) ∙ q.1, ap (λ (n : ℕ). n / 65536 % 256 + 1) (sym i) ∙ q.2)

pub looks_up : (p : Problem) (numbers : List ℕ) (k r : ℕ) → Numbers p numbers → LookScopes numbers k r → (c : ℕ) → T (has r c) → LooksUp p k c
looks_up p numbers k r nb s c t =
    let q = s c t in
    let l : c < length p.constraints = omega (arith, q.0, nb.constraints) in
    let n = sym (nb.arity c l) ∙ q.1 in
    record { known = l; three = n; second = ap (λ (y : ℕ). y + 1) (sym (nb.scope c 1 l (omega (arith, n)))) ∙ q.2 }
