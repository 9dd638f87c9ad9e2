-- A constraint on three variables whose first has one value: what the sixteen sets of the table for that value leave of the other two. Assumes nothing.
use Rattle.model.specs.Kit.{◌≡◌, refl, sym, ◌∙◌, subst, not, List, [], ◌∷◌, ℕ, ◌+◌, ◌*◌, ◌^◌, ◌<◌, arith, bit_or, eqb, T, lit<, set}
use Rattle.model.specs.{Lists.at, ValueSets.has, ValueSets.lowest_of, ValueSets.one_if, Problem.Constraint, Inner.Pruning.Sets}
use Rattle.model.proofs.{Sets.has_lt, Sets.member, Members.has_0, Members.rest_begin, Members.lowest_left}
use Rattle.prune_constraints.specs.Inner.Revised.{Emptied, Pruned}
use Rattle.prune_constraints.specs.Inner.Steps.{OneValue, Together, Supported2, Together3, Supported3, Scoped}
use Rattle.prune_constraints.proofs.{Unions.single, Unions.supported3_one, Unions.supported3_none, Stores.three_same, Stores.three_dead, Stores.three_rest}

pub one_below : {a u : ℕ} → a < 256 → OneValue a → u ≡ lowest_of a → u < 8
one_below {a} {u} h o low = has_lt 8 a u h (lowest_left a a u (rest_begin 16 a (omega arith)) o.some low).0

module _ {c : Constraint} {supports : List ℕ} {k x y z : ℕ} (p : Scoped c supports k (x ∷ y ∷ z ∷ [])) (ds : List ℕ) (s : Sets 16 ds) (o : OneValue (at ds x)) {u : ℕ}
    (low : u ≡ lowest_of (at ds x)) {last : ℕ} where
  pub along_dead : ((v w : ℕ) → Together supports (256 * k + 16 * u) (at ds y) (at ds z) v w → T (has last w)) → last ≡ 0 → Emptied c ds ds
  along_dead f e = three_dead p ds s 0 0 0 (lit< tt) (lit< tt) (lit< tt) (supported3_none never) refl
    where
      never : (i v w : ℕ) → Together3 supports (256 * k) (at ds x) (at ds y) (at ds z) i v w → ⊥
      never i v w q =
          has_0 w (subst (λ (n : ℕ). T (has n w)) e (f v w
          (subst (λ (n : ℕ). Together supports (256 * k + 16 * n) (at ds y) (at ds z) v w) (single (at ds x) (s.1 x) o i q.0 ∙ sym low) q.1)))

  module _ {second : ℕ} (j : Supported2 supports (256 * k + 16 * u) (at ds y) (at ds z) second last) (n : last ≡ 0 → ⊥) (b : last < 2 ^ 16) (a : second < 2 ^ 16) where
    some : second ≡ 0 → ⊥
    some e = let w = member last b n in let r = j.last_e w.0 w.2 in has_0 r.0 (subst (λ (i : ℕ). T (has i r.0)) e (j.first_i r.0 w.0 r.1))

    three : Supported3 (Together3 supports (256 * k) (at ds x) (at ds y) (at ds z)) (at ds x) second last
    three = supported3_one supports (256 * k) (at ds x) (at ds y) (at ds z) u (s.1 x) o low a some j

    pub along_same : last ≡ at ds z → second ≡ at ds y → Pruned c ds ds 0
    along_same e q = three_same p ds s (at ds x) second last (s.1 x) a b three refl q e n

    pub along_cut : (i m : ℕ) → i ≡ one_if (not (eqb second (at ds y))) y → m ≡ one_if (not (eqb last (at ds z))) z → Pruned c ds (set (set ds y second) z last) (bit_or i m)
    along_cut i m q r = three_rest p ds s second last a b three i m q r n
