-- The loops that store one number after another, and the one that compares sets. Assumes nothing.
use Rattle.model.specs.Kit.{◌≡◌, refl, ap, ◌∙◌, not, List, ℕ, ◌+◌, ◌*◌, ◌≤◌, ◌<◌, arith, eqb, length, set, bit_or}
use Rattle.model.specs.{Lists.at, ValueSets.one_if}
use Rattle.arrays.specs.Inner.Places.{MARKS}
use Rattle.prune.specs.Inner.Steps.{Differ, Stored, MarksCopied}
use Rattle.prune.proofs.FilterLoop.{kept_none}
use Rattle.model.specs.Inner.Filling as filling
use Rattle.model.proofs.Filling as loops

-- ---- i numbers stored from a base on
abbrev pub Filled : (ℕ → ℕ) → ℕ → List ℕ → List ℕ → ℕ → Type 0
Filled f base ds es i = filling.Filled (λ x. base + x) (λ x v. v ≡ f x) i ds es

pub filled_begin : (f : ℕ → ℕ) (base : ℕ) (ds : List ℕ) → Filled f base ds ds 0
filled_begin f base ds = loops.filled_begin (λ x. base + x) (λ x v. v ≡ f x) ds

-- one more, at j
pub filled_with : (f : ℕ → ℕ) (base : ℕ) (ds es : List ℕ) (i j v : ℕ) → Filled f base ds es i → j ≡ base + i → j < length ds → v ≡ f i → Filled f base ds (set es j v) (i + 1)
filled_with f base ds es i j v r e h q = loops.filled_turn (λ x. base + x) (λ x v. v ≡ f x) ds es i j v r e h (λ x l z. omega arith) q

pub filled_turn : (f : ℕ → ℕ) (base : ℕ) (ds es : List ℕ) (i j : ℕ) → Filled f base ds es i → j ≡ base + i → j < length ds → Filled f base ds (set es j (f i)) (i + 1)
filled_turn f base ds es i j r e h = filled_with f base ds es i j (f i) r e h refl

-- ---- the ends of the loops
pub from_start : (f : ℕ → ℕ) (ds es : List ℕ) (i : ℕ) → 16 ≤ i → length ds ≡ 16 → Filled f 0 ds es i → (length es ≡ 16) × ((x : ℕ) → x < 16 → at es x ≡ f x)
from_start f ds es i h l r = (r.size ∙ l, λ x k. let e : x ≡ 0 + x = omega arith in ap (at es) e ∙ r.here x (omega arith))

pub stored : (f : ℕ → ℕ) (list es : List ℕ) (k i : ℕ) → i ≡ 16 → Filled f (16 * k) list es i → Stored list k f es
stored f list es k i h r = record { here = λ x l. r.here x (omega arith); before = λ j l. r.other j (λ x k e. omega arith); after = λ j l. r.other j (λ x k e. omega arith); size = r.size }

-- the marks of depth k stored at depth k + 1; there are none where there are no symmetries
pub copied : (work work' : List ℕ) (g k : ℕ) → Stored work (k + 2) (λ e. at work (16 * k + MARKS + e)) work' → MarksCopied work g k work'
copied work work' g k s = record {
  here = λ e l h. let q : 16 * (k + 1) + MARKS + e ≡ 16 * (k + 2) + e = omega arith in ap (at work') q ∙ s.here e h;
  kept = record { before = λ j h. s.before j (omega arith); after = λ j h. s.after j (omega arith); size = s.size };
}

pub copied_none : (work : List ℕ) (g k : ℕ) → g ≡ 0 → MarksCopied work g k work
copied_none work g k z = record { here = λ e l h. absurd (omega arith); kept = kept_none work (k + 1) }

-- ---- the variables below i whose sets differ
abbrev pub Differing : List ℕ → List ℕ → ℕ → ℕ → Type 0
Differing old new all i = filling.Gathered (λ x. not (eqb (at new x) (at old x))) i all

pub differing_begin : (old new : List ℕ) → Differing old new 0 0
differing_begin old new = loops.gathered_begin (λ x. not (eqb (at new x) (at old x)))

pub differing_turn : (old new : List ℕ) (all i s : ℕ) → Differing old new all i → s ≡ one_if (not (eqb (at new i) (at old i))) i → Differing old new (bit_or all s) (i + 1)
differing_turn old new all i s d e = loops.gathered_turn (λ x. not (eqb (at new x) (at old x))) i all s d e

pub differing_end : (old new : List ℕ) (all i : ℕ) → i ≡ 16 → Differing old new all i → Differ old new all
differing_end old new all i h d = record {
  few = λ x t. let l = loops.gathered_lt _ i all x d t in omega arith;
  differ = λ x l. loops.gathered_is _ i all x d (omega arith);
}
