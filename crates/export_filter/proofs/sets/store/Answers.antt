-- `store`: after i turns the first i words are written. Assumes nothing.
use Rattle.model.specs.Kit.{◌≡◌, refl, sym, ◌∙◌, subst, List, [], ℕ, ◌*◌, ◌≤◌, arith, length, take, take_all}
use Rattle.model.specs.Written.{Written}
use Rattle.model.proofs.Written.{written_none}
use Rattle.export_filter.specs.Filter.{bytes_of}
use Rattle.export_filter.proofs.{SetBytes.bytes_turn, SetBytes.length_bytes}
use Rattle.wire.proofs.Numbers.{whole}
use Rattle.export_filter.proofs.sets.store.Goals as goal

start : (d : List ℕ) → Written d 0 (bytes_of []) d 0
unfolding bytes_of
start d = written_none d 0

all_written : {e : List ℕ} {n : ℕ} (d ws : List ℕ) (i : ℕ) → length d ≡ 2 * length ws → length ws ≤ i → Written d 0 (bytes_of (take i ws)) e n → e ≡ bytes_of ws
all_written {e} {n} d ws i h k w = whole (length_bytes ws ∙ sym h) (subst (λ (l : List ℕ). Written d 0 (bytes_of l) e n) (take_all i ws k) w)

pub loop-i-init : goal.loop-i-init
loop-i-init c =
    (refl, refl, start c.args.sets.now)

pub loop-i-preserved : goal.loop-i-preserved
loop-i-preserved c = (
  c.two-at.auto.out ∙ c.loop-i.invariant.0,
  omega (arith, c.two-at.ensures.ends, c.loop-i.invariant.1),
  bytes_turn c.loop-i.i c.args.words.now (omega arith) (omega (arith, c.loop-i.invariant.1, c.requires)) c.loop-i.invariant.2 c.two-at.ensures,
)

pub returns : goal.returns
returns c =
    all_written c.args.sets.now c.args.words.now c.loop-i.i c.requires (omega arith) c.loop-i.invariant.2

pub two-at-requires : goal.two-at-requires
two-at-requires c = omega arith

pub shape_of-sets : goal.shape_of-sets
shape_of-sets c = c.loop-i.invariant.0
