-- What is known of how a part of a run ends. Assumes nothing.
use Rattle.std.specs.Prelude.{Result, Ok, Err, is_err}
use Rattle.model.specs.Kit.{◌≡◌, refl, sym, ap, subst, T, true, false, ◌<◌, arith}
use Rattle.arrays.specs.Inner.Places.{ALL, DEEPER}
use Rattle.run_state.specs.{Inner.Cut.cut_in, Inner.Cut.stop_of, Inner.Cut.node_in, declared.Cut.Cut, declared.Node.Node, declared.Node.TheVariants.Leaf, declared.Node.TheVariants.Inner}
use Rattle.run_state.specs.declared.Cut.TheVariants as cut

pub cut_known : (by : Cut) → (cut_in by ≡ ALL → ⊥) × (cut_in by < DEEPER) × (cut_in by ≡ DEEPER → ⊥)
cut_known cut.Spent = (λ e. omega arith, omega arith, λ e. omega arith)
cut_known cut.Full = (λ e. omega arith, omega arith, λ e. omega arith)

pub is_inner : (node : Node) → (node ≡ Leaf → ⊥) → node_in node ≡ DEEPER
is_inner Leaf n = absurd (n refl)
is_inner Inner n = refl

pub no_inner : (node : Node) → node ≡ Leaf → node_in node ≡ DEEPER → ⊥
no_inner Leaf e = λ z. omega arith
no_inner Inner e = λ z. let k : DEEPER ≡ ALL = ap node_in e in omega arith

pub went_on : (stop : Result Unit Cut) → is_err stop ≡ false → stop_of stop ≡ ALL
went_on (Ok done) e = refl
went_on (Err by) e = absurd (subst T e tt)

pub was_cut : (stop : Result Unit Cut) → is_err stop ≡ true → stop_of stop ≡ ALL → ⊥
was_cut (Ok done) e = λ z. absurd (subst T (sym e) tt)
was_cut (Err by) e = (cut_known by).0

pub stop_known : (stop : Result Unit Cut) → stop_of stop < DEEPER
stop_known (Ok done) = omega arith
stop_known (Err by) = (cut_known by).1
