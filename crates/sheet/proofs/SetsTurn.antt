-- The turns of the loops over the initial sets: what is asked and what is stored for one variable. Assumes nothing.
use Rattle.model.specs.Kit.{◌≡◌, refl, sym, ap, ◌∙◌, subst, Bool, true, false, not, List, ◌∷◌, ℕ, suc, ◌+◌, ◌-◌, ◌*◌, ◌^◌, ◌≤◌, ◌<◌, arith, length, set, eqb, leb, ltb, lt-ltb, le-ltb, ltb-true}
use Rattle.model.specs.Kit.{ltb-false, leb-true, leb-false}
use Rattle.model.specs.Sheet.{Header, word, header_of, sets_verdict}
use Rattle.model.specs.{Lists.both, Lists.below, Lists.up_from, ValueSets.full_mask, Verdict.Verdict, Verdict.refused, Verdict.ask, Inner.Filling.Filled}
use Rattle.model.proofs.{Masks.shl_one, Masks.shl_pos, Masks.full_op, Masks.full_all, Filling.filled_turn, Lists.never}
use Rattle.arrays.specs.Inner.Places.{NUMBERS}
use Rattle.std.specs.Prelude.{Ok, Err}
use Rattle.model.specs.declared.refusals.Question.TheVariants.{InitialSet}
use Rattle.sheet.specs.{Inner.Parts.ZeroSets, Inner.Parts.AllSets, Inner.Parts.SetsAsked}

-- ---- the question
-- the variables before x passed
abbrev pub PassedTo : List ℕ → Header → ℕ → ℕ → Type 0
PassedTo b h n x = (later : Verdict) → sets_verdict b h (below n) later ≡ sets_verdict b h (up_from x (n - x)) later

pub passed_none : (b : List ℕ) (h : Header) (n : ℕ) → PassedTo b h n 0
unfolding below
passed_none b h n later = ap (λ (k : ℕ). sets_verdict b h (up_from 0 k) later) (let e : n ≡ n - 0 = omega arith in e)

rest : (n x : ℕ) → x < n → n - x ≡ suc (n - (x + 1))
rest n x l = omega arith

module _ (b : List ℕ) (h : Header) (n x : ℕ) (l : x < n) (p : PassedTo b h n x) where
  open_one : (later : Verdict) → sets_verdict b h (below n) later ≡ sets_verdict b h (x ∷ up_from (suc x) (n - (x + 1))) later
  unfolding up_from
  open_one later = p later ∙ ap (λ (k : ℕ). sets_verdict b h (up_from x k) later) (rest n x l)

  pub passed_more : both (ltb (word b (16 + 2 * x)) (2 ^ h.values)) (not (eqb (word b (16 + 2 * x)) 0)) ≡ true → PassedTo b h n (x + 1)
  unfolding sets_verdict
  passed_more e later =
      open_one later ∙ ap (λ (t : Bool). ask t 8 x (sets_verdict b h (up_from (suc x) (n - (x + 1))) later)) e
      ∙ ap (λ (y : ℕ). sets_verdict b h (up_from y (n - (x + 1))) later) (let q : suc x ≡ x + 1 = omega arith in q)

  pub passed_not : both (ltb (word b (16 + 2 * x)) (2 ^ h.values)) (not (eqb (word b (16 + 2 * x)) 0)) ≡ false → (later : Verdict) → sets_verdict b h (below n) later ≡ refused 8 x
  unfolding sets_verdict
  passed_not e later = open_one later ∙ ap (λ (t : Bool). ask t 8 x (sets_verdict b h (up_from (suc x) (n - (x + 1))) later)) e

-- the full set of a width is the last number below the power
full_is : (d : ℕ) → d ≤ 16 → full_mask d + 1 ≡ 2 ^ d
full_is d h = go (ltb d 16) refl
  where
    go : (t : Bool) → ltb d 16 ≡ t → full_mask d + 1 ≡ 2 ^ d
    go true e = let l : d < 16 = ltb-true d 16 e in omega (arith, full_op d l, shl_one d l, shl_pos d l)
    go false e = let z : d ≡ 16 = (let l = ltb-false d 16 e in omega arith) in subst (λ (k : ℕ). full_mask k + 1 ≡ 2 ^ k) (sym z) (ap (λ (m : ℕ). m + 1) (sym (full_all 16 (omega arith))))

below_full : (s d : ℕ) → d ≤ 16 → leb s (full_mask d) ≡ ltb s (2 ^ d)
below_full s d h = go (leb s (full_mask d)) refl
  where
    go : (t : Bool) → leb s (full_mask d) ≡ t → t ≡ ltb s (2 ^ d)
    go true e = let l = leb-true s (full_mask d) e in sym (lt-ltb s (2 ^ d) (omega (arith, full_is d h)))
    go false e = let l = leb-false s (full_mask d) e in sym (le-ltb s (2 ^ d) (omega (arith, full_is d h)))

-- the code's test is the question's
pub set_test : (b : List ℕ) (v x s full d : ℕ) (r t : Bool) → r ≡ both (leb s full) (not (eqb s 0)) → s ≡ word b (16 + 2 * x) → full ≡ full_mask d → d ≡ v → d ≤ 16 → r ≡ t →
    both (ltb (word b (16 + 2 * x)) (2 ^ v)) (not (eqb (word b (16 + 2 * x)) 0)) ≡ t
set_test b v x s full d r t e es ef ed h q =
    subst (λ (w : ℕ). both (ltb w (2 ^ v)) (not (eqb w 0)) ≡ t) es
    (ap (λ (c : Bool). both c (not (eqb s 0))) (ap (λ (k : ℕ). ltb s (2 ^ k)) (sym ed) ∙ sym (below_full s d h) ∙ ap (leb s) (sym ef)) ∙ sym e ∙ q)

pub passed_all : (b : List ℕ) (h : Header) (n x : ℕ) → n ≤ x → PassedTo b h n x → (later : Verdict) → sets_verdict b h (below n) later ≡ later
unfolding sets_verdict up_from
passed_all b h n x l p later = p later ∙ ap (λ (k : ℕ). sets_verdict b h (up_from x k) later) (let e : n - x ≡ 0 = omega arith in e)

pub sets_refused : (b : List ℕ) (n x : ℕ) (old new : List ℕ) → n ≡ (header_of b).variables → ((later : Verdict) → sets_verdict b (header_of b) (below n) later ≡ refused 8 x) → SetsAsked b n old new
    (Err (record { question = InitialSet; item = x }))
sets_refused b n x old new e p =
    record {
      answers = subst (λ (m : ℕ). (later : Verdict) → sets_verdict b (header_of b) (below m) later ≡ refused 8 x) e p;
      filled = λ q. never (cc);
    }

pub sets_accepted : (b : List ℕ) (n : ℕ) (old new : List ℕ) → n ≡ (header_of b).variables → ((later : Verdict) → sets_verdict b (header_of b) (below n) later ≡ later) → AllSets b n old new
    → SetsAsked b n old new (Ok tt)
sets_accepted b n old new e p f =
    record {
      answers = subst (λ (m : ℕ). (later : Verdict) → sets_verdict b (header_of b) (below m) later ≡ later) e p;
      filled = λ q. f;
    }

-- ---- the stores
-- the sets of the first x variables are {0}, or those of the sheet, and nothing else changed
abbrev pub ZeroTo : ℕ → List ℕ → List ℕ → Type 0
ZeroTo x old new = Filled (λ y. 16 + y) (λ y w. w ≡ 1) x old new

abbrev pub InitialTo : List ℕ → ℕ → List ℕ → List ℕ → Type 0
InitialTo b x old new = Filled (λ y. 16 + y) (λ y w. w ≡ word b (16 + 2 * y)) x old new

pub set_stored : (P : ℕ → ℕ → Type 0) (x s : ℕ) (old new : List ℕ) → x < 16 → length old ≡ NUMBERS → P x s → Filled (λ y. 16 + y) P x old new → Filled (λ y. 16 + y) P (x + 1) old (set new (16 + x) s)
set_stored P x s old new h e p f = filled_turn (λ y. 16 + y) P old new x (16 + x) s f refl (omega arith) (λ y l q. omega arith) p

pub zero_sets : (x : ℕ) (old new : List ℕ) → 16 ≤ x → x ≤ 16 → ZeroTo x old new → ZeroSets old new
zero_sets x old new l m f = record { sized = f.size; sets = λ y h. f.here y (omega arith); others = λ i n. f.other i (λ y h. n y (omega arith)) }

pub sets_whole : (b : List ℕ) (n x : ℕ) (old mid new : List ℕ) → n ≤ 16 → n ≤ x → x ≤ n → ZeroSets old mid → InitialTo b x mid new → AllSets b n old new
sets_whole b n x old mid new l g h z f =
    record {
      sized = f.size ∙ z.sized;
      initial = λ y p. f.here y (omega arith);
      unused = λ y p q. f.other (16 + y) (λ v r e. omega arith) ∙ z.sets y q;
      low = λ i p. f.other i (λ v r e. omega arith) ∙ z.others i (λ v r e. omega arith);
      high = λ i p. f.other i (λ v r e. omega arith) ∙ z.others i (λ v r e. omega arith);
    }
