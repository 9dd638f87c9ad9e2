-- One turn of each of the loops. Assumes nothing.
use Rattle.model.specs.Kit.{◌≡◌, refl, sym, ◌∙◌, subst, ◌⊎◌, inl, inr, List, ℕ, ◌+◌, ◌-◌, ◌*◌, ◌≤◌, ◌<◌, ℕ_discrete, arith, length, set, length-set}
use Rattle.model.specs.{Lists.at, Run.Tally}
use Rattle.model.proofs.Lists.{at_set, at_set_other}
use Rattle.arrays.specs.Inner.Places.{LAST, IDLE, DEPTH, LOW, GOOD, NODES, LENGTH, SETS, ENDS, COUNTS}
use Rattle.run_key.specs.Inner.Key.{Placed}
use Rattle.run_entry.specs.Inner.Entry.{Taken, FigureIn, Put}

-- ---- the last node of an entry
abbrev pub TakenTo : List ℕ → ℕ → ℕ → ℕ → List ℕ → Type 0
TakenTo work k s x work' =
    ((y : ℕ) → k ≤ y → y < x → at work' y ≡ at work (s + ENDS + y)) × ((y : ℕ) → y < k → y < 12 → at work' y ≡ at work y)
    × ((i : ℕ) → 12 ≤ i → at work' i ≡ at work i) × (length work' ≡ length work)

pub taken_turn : (work : List ℕ) (k s x : ℕ) (work' : List ℕ) → Placed s → k ≤ x → x < 12 → 12 ≤ length work → TakenTo work k s x work' → TakenTo work k s (x + 1)
    (set work' x (at work' (s + ENDS + x)))
taken_turn work k s x work' z l u long h = (
  λ y a b. values y a b (ℕ_discrete y x),
  λ y a b. at_set_other work' x v y (λ e. omega arith) ∙ h.1 y a b,
  λ i a. at_set_other work' x v i (λ e. omega arith) ∙ h.2 i a,
  length-set work' x v ∙ h.3,
)
  where
    v : ℕ
    v = at work' (s + ENDS + x)

    values : (y : ℕ) → k ≤ y → y < x + 1 → Dec (y ≡ x) → at (set work' x v) y ≡ at work (s + ENDS + y)
    values y a b (yes e) = subst (λ (j : ℕ). at (set work' x v) j ≡ at work (s + ENDS + j)) (sym e) (at_set work' x v (omega (arith, h.3)) ∙ h.2 (s + ENDS + x) (omega arith))
    values y a b (no n) = at_set_other work' x v y n ∙ h.0 y a (omega arith)

pub taken_all : (work : List ℕ) (k s x v : ℕ) (work' : List ℕ) → Placed s → k < 13 → 256 ≤ length work → 12 ≤ x → TakenTo work k s x work' →
    Taken work k s (set (set work' (IDLE + k) v) LAST (at (set work' (IDLE + k) v) (s + LENGTH)))
taken_all work k s x v work' z few long l h = record {
  values = λ y a b. at_set_other w LAST u y (λ e. omega arith) ∙ at_set_other work' (IDLE + k) v y (λ e. omega arith) ∙ h.0 y a (omega arith);
  last = at_set w LAST u (omega (arith, length-set work' (IDLE + k) v, h.3)) ∙ at_set_other work' (IDLE + k) v (s + LENGTH) (λ e. omega (arith, z.is)) ∙ h.2 (s + LENGTH) (omega (arith, z.is));
  before = λ y a b. at_set_other w LAST u y (λ e. omega arith) ∙ at_set_other work' (IDLE + k) v y (λ e. omega arith) ∙ h.1 y a b;
  others = λ i a b d. at_set_other w LAST u i b ∙ at_set_other work' (IDLE + k) v i d ∙ h.2 i a;
  long = length-set w LAST u ∙ length-set work' (IDLE + k) v ∙ h.3;
}
  where
    w : List ℕ
    w = set work' (IDLE + k) v

    u : ℕ
    u = at (set work' (IDLE + k) v) (s + LENGTH)

-- ---- an entry's figures
module _ (stack old new : List ℕ) (k s : ℕ) (z : Placed s) (work : List ℕ) (long : s + COUNTS + 12 ≤ length work) where
  pub figures_none : FigureIn stack old new k s 0 work work
  figures_none = record {
    sets = λ j l. absurd (omega arith);
    ends = λ j l. absurd (omega arith);
    counts = λ j l. absurd (omega arith);
    before = λ i l. refl;
    after = λ i l. refl;
    long = refl;
  }

  module _ (x : ℕ) (work' : List ℕ) (h : FigureIn stack old new k s x work work') (l : x < 12) where
    w₁ : List ℕ
    w₁ = set work' (s + SETS + x) (at stack (16 * k + x))

    w₂ : List ℕ
    w₂ = set w₁ (s + ENDS + x) (at w₁ x)

    w₃ : List ℕ
    w₃ = set w₂ (s + COUNTS + x) (at new x - at old x)

    other : (i : ℕ) → (i ≡ s + SETS + x → ⊥) → (i ≡ s + ENDS + x → ⊥) → (i ≡ s + COUNTS + x → ⊥) → at w₃ i ≡ at work' i
    unfolding w₃ w₂ w₁
    other i a b c =
        at_set_other w₂ (s + COUNTS + x) (at new x - at old x) i c ∙ at_set_other w₁ (s + ENDS + x) (at w₁ x) i b ∙ at_set_other work' (s + SETS + x) (at stack (16 * k + x)) i a

    sized : length w₃ ≡ length work
    unfolding w₃ w₂ w₁
    sized = length-set w₂ (s + COUNTS + x) (at new x - at old x) ∙ length-set w₁ (s + ENDS + x) (at w₁ x) ∙ length-set work' (s + SETS + x) (at stack (16 * k + x)) ∙ h.long

    sized₁ : length w₁ ≡ length work
    unfolding w₁
    sized₁ = length-set work' (s + SETS + x) (at stack (16 * k + x)) ∙ h.long

    sized₂ : length w₂ ≡ length work
    unfolding w₂
    sized₂ = length-set w₁ (s + ENDS + x) (at w₁ x) ∙ sized₁

    set_there : at w₃ (s + SETS + x) ≡ at stack (16 * k + x)
    unfolding w₃ w₂ w₁
    set_there =
        at_set_other w₂ (s + COUNTS + x) (at new x - at old x) (s + SETS + x) (λ e. omega arith) ∙ at_set_other w₁ (s + ENDS + x) (at w₁ x) (s + SETS + x) (λ e. omega arith)
        ∙ at_set work' (s + SETS + x) (at stack (16 * k + x)) (omega (arith, h.long))

    end_there : at w₃ (s + ENDS + x) ≡ at work x
    unfolding w₃ w₂ w₁
    end_there =
        at_set_other w₂ (s + COUNTS + x) (at new x - at old x) (s + ENDS + x) (λ e. omega arith) ∙ at_set w₁ (s + ENDS + x) (at w₁ x) (omega (arith, sized₁))
        ∙ at_set_other work' (s + SETS + x) (at stack (16 * k + x)) x (λ e. omega (arith, z.is)) ∙ h.before x (omega (arith, z.is))

    count_there : at w₃ (s + COUNTS + x) ≡ at new x - at old x
    unfolding w₃
    count_there = at_set w₂ (s + COUNTS + x) (at new x - at old x) (omega (arith, sized₂))

    pub figures_turn : FigureIn stack old new k s (x + 1) work (set (set (set work' (s + SETS + x) (at stack (16 * k + x))) (s + ENDS + x)
        (at (set work' (s + SETS + x) (at stack (16 * k + x))) x)) (s + COUNTS + x) (at new x - at old x))
    unfolding w₃ w₂ w₁
    figures_turn = record {
      sets = λ j i. sets j i (ℕ_discrete j x);
      ends = λ j i. ends j i (ℕ_discrete j x);
      counts = λ j i. counts j i (ℕ_discrete j x);
      before = λ i b. other i (λ e. omega arith) (λ e. omega arith) (λ e. omega arith) ∙ h.before i b;
      after = λ i b. other i (λ e. omega arith) (λ e. omega arith) (λ e. omega arith) ∙ h.after i b;
      long = sized;
    }
      where
        sets : (j : ℕ) → j < x + 1 → Dec (j ≡ x) → at w₃ (s + SETS + j) ≡ at stack (16 * k + j)
        sets j i (yes e) = subst (λ (y : ℕ). at w₃ (s + SETS + y) ≡ at stack (16 * k + y)) (sym e) set_there
        sets j i (no n) = other (s + SETS + j) (λ e. n (omega arith)) (λ e. omega arith) (λ e. omega arith) ∙ h.sets j (omega arith)

        ends : (j : ℕ) → j < x + 1 → Dec (j ≡ x) → at w₃ (s + ENDS + j) ≡ at work j
        ends j i (yes e) = subst (λ (y : ℕ). at w₃ (s + ENDS + y) ≡ at work y) (sym e) end_there
        ends j i (no n) = other (s + ENDS + j) (λ e. omega arith) (λ e. n (omega arith)) (λ e. omega arith) ∙ h.ends j (omega arith)

        counts : (j : ℕ) → j < x + 1 → Dec (j ≡ x) → at w₃ (s + COUNTS + j) ≡ at new j - at old j
        counts j i (yes e) = subst (λ (y : ℕ). at w₃ (s + COUNTS + y) ≡ at new y - at old y) (sym e) count_there
        counts j i (no n) = other (s + COUNTS + j) (λ e. omega arith) (λ e. omega arith) (λ e. n (omega arith)) ∙ h.counts j (omega arith)

-- ---- a whole entry
module _ (stack work : List ℕ) (t t' : Tally) (k low good s : ℕ) (z : Placed s) (long : s + COUNTS + 12 ≤ length work) (w : List ℕ) (h : FigureIn stack t.counts t'.counts k s 12 work w) where
  v₁ : List ℕ
  v₁ = set w (s + DEPTH) k

  v₂ : List ℕ
  v₂ = set v₁ (s + LOW) low

  v₃ : List ℕ
  v₃ = set v₂ (s + GOOD) good

  v₄ : List ℕ
  v₄ = set v₃ (s + NODES) (t'.nodes - t.nodes)

  v₅ : List ℕ
  v₅ = set v₄ (s + LENGTH) (at v₄ LAST)

  l₁ : length v₁ ≡ length work
  unfolding v₁
  l₁ = length-set w (s + DEPTH) k ∙ h.long

  l₂ : length v₂ ≡ length work
  unfolding v₂
  l₂ = length-set v₁ (s + LOW) low ∙ l₁

  l₃ : length v₃ ≡ length work
  unfolding v₃
  l₃ = length-set v₂ (s + GOOD) good ∙ l₂

  l₄ : length v₄ ≡ length work
  unfolding v₄
  l₄ = length-set v₃ (s + NODES) (t'.nodes - t.nodes) ∙ l₃

  l₅ : length v₅ ≡ length work
  unfolding v₅
  l₅ = length-set v₄ (s + LENGTH) (at v₄ LAST) ∙ l₄

  o₁ : (i : ℕ) → (i ≡ s + DEPTH → ⊥) → at v₁ i ≡ at w i
  unfolding v₁
  o₁ i n = at_set_other w (s + DEPTH) k i n

  o₂ : (i : ℕ) → (i ≡ s + LOW → ⊥) → at v₂ i ≡ at v₁ i
  unfolding v₂
  o₂ i n = at_set_other v₁ (s + LOW) low i n

  o₃ : (i : ℕ) → (i ≡ s + GOOD → ⊥) → at v₃ i ≡ at v₂ i
  unfolding v₃
  o₃ i n = at_set_other v₂ (s + GOOD) good i n

  o₄ : (i : ℕ) → (i ≡ s + NODES → ⊥) → at v₄ i ≡ at v₃ i
  unfolding v₄
  o₄ i n = at_set_other v₃ (s + NODES) (t'.nodes - t.nodes) i n

  o₅ : (i : ℕ) → (i ≡ s + LENGTH → ⊥) → at v₅ i ≡ at v₄ i
  unfolding v₅
  o₅ i n = at_set_other v₄ (s + LENGTH) (at v₄ LAST) i n

  elsewhere : (i : ℕ) → (i < s) ⊎ (s + LENGTH < i) → at v₅ i ≡ at w i
  elsewhere i (inl l) = o₅ i (λ e. omega arith) ∙ o₄ i (λ e. omega arith) ∙ o₃ i (λ e. omega arith) ∙ o₂ i (λ e. omega arith) ∙ o₁ i (λ e. omega arith)
  elsewhere i (inr l) = o₅ i (λ e. omega arith) ∙ o₄ i (λ e. omega arith) ∙ o₃ i (λ e. omega arith) ∙ o₂ i (λ e. omega arith) ∙ o₁ i (λ e. omega arith)

  depth_there : at v₅ (s + DEPTH) ≡ k
  unfolding v₁
  depth_there =
      o₅ (s + DEPTH) (λ e. omega arith) ∙ o₄ (s + DEPTH) (λ e. omega arith) ∙ o₃ (s + DEPTH) (λ e. omega arith) ∙ o₂ (s + DEPTH) (λ e. omega arith)
      ∙ at_set w (s + DEPTH) k (omega (arith, h.long))

  low_there : at v₅ (s + LOW) ≡ low
  unfolding v₂
  low_there = o₅ (s + LOW) (λ e. omega arith) ∙ o₄ (s + LOW) (λ e. omega arith) ∙ o₃ (s + LOW) (λ e. omega arith) ∙ at_set v₁ (s + LOW) low (omega (arith, l₁))

  good_there : at v₅ (s + GOOD) ≡ good
  unfolding v₃
  good_there = o₅ (s + GOOD) (λ e. omega arith) ∙ o₄ (s + GOOD) (λ e. omega arith) ∙ at_set v₂ (s + GOOD) good (omega (arith, l₂))

  nodes_there : at v₅ (s + NODES) ≡ t'.nodes - t.nodes
  unfolding v₄
  nodes_there = o₅ (s + NODES) (λ e. omega arith) ∙ at_set v₃ (s + NODES) (t'.nodes - t.nodes) (omega (arith, l₃))

  length_there : at v₅ (s + LENGTH) ≡ at work LAST
  unfolding v₅
  length_there =
      at_set v₄ (s + LENGTH) (at v₄ LAST) (omega (arith, l₄))
      ∙ o₄ LAST (λ e. omega (arith, z.is)) ∙ o₃ LAST (λ e. omega (arith, z.is)) ∙ o₂ LAST (λ e. omega (arith, z.is)) ∙ o₁ LAST (λ e. omega (arith, z.is)) ∙ h.before LAST (omega (arith, z.is))

  pub put_whole : Put stack work t t' k low good s
      (set (set (set (set (set w (s + DEPTH) k) (s + LOW) low) (s + GOOD) good) (s + NODES) (t'.nodes - t.nodes)) (s + LENGTH)
      (at (set (set (set (set w (s + DEPTH) k) (s + LOW) low) (s + GOOD) good) (s + NODES) (t'.nodes - t.nodes)) LAST))
  unfolding v₁ v₂ v₃ v₄ v₅
  put_whole = record {
    depth = depth_there;
    low_is = low_there;
    good_is = good_there;
    nodes = nodes_there;
    length_is = length_there;
    sets = λ j l. elsewhere (s + SETS + j) (inr (omega arith)) ∙ h.sets j l;
    ends = λ j l. elsewhere (s + ENDS + j) (inr (omega arith)) ∙ h.ends j l;
    counts = λ j l. elsewhere (s + COUNTS + j) (inr (omega arith)) ∙ h.counts j l;
    before = λ i l. elsewhere i (inl l) ∙ h.before i (omega arith);
    after = λ i l. elsewhere i (inr (omega arith)) ∙ h.after i l;
    long = l₅;
  }
