-- The bytes that the code makes are those of the candidate, computed for each shape with any table. Assumes nothing.
use Rattle.model.specs.Kit.{◌≡◌, refl, sym, ap, ap₂, ◌∙◌, Bool, true, false, List, [], ◌∷◌, ◌++◌, map, ℕ, ◌+◌, ◌-◌, ◌*◌, ◌/◌, ◌%◌, ◌≤◌, ◌<◌, arith, lt-ltb, le-ltb, length, take, replicate, length-set}
use Rattle.model.specs.{Lists.all, Lists.keep, Lists.flat, Lists.up_from, Lists.below, Lists.same, Bytes.two_bytes, ValueSets.has, ValueSets.members}
use Rattle.model.proofs.Lists.{same_eq, map_append, flat_append}
use Rattle.sheet_small.specs.Inner.Inner.{shape_no, second_no, third_no, fourth_no}
use Rattle.sheet_small.specs.{Small.rows_of, Small.front_of, Small.sheet_of, declared.Draft.Draft, declared.Images.Images}
use Rattle.sheet_small.specs.Inner.Inner.{table_no, IsTable, candidate, end_at, with_rows, with_head, with_table, draft_bytes, Drafts}
use Rattle.sheet_small.proofs.Lists.{tested, same_below}

-- one function after another
pub made : (i tables j end : ℕ) (t : Images) (rows head table : List ℕ) → IsTable j t → end ≡ end_at i → rows ≡ with_rows (replicate 52 0) i → head ≡ with_head rows i end tables
    → table ≡ with_table head end t.a t.b t.c t.d →
    table ≡ draft_bytes i tables (j / 6) (second_no j) (third_no j) (fourth_no j)
made i tables j end t rows head table k e p q r =
    r ∙ ap₂ (λ (b : List ℕ) (at : ℕ). with_table b at t.a t.b t.c t.d) (q ∙ ap₂ (λ (b : List ℕ) (at : ℕ). with_head b i at tables) p e) e
    ∙ ap₂ (λ (x y : ℕ). draft_bytes i tables x y t.c t.d) k.a k.b
    ∙ ap₂ (λ (x y : ℕ). draft_bytes i tables (j / 6) (second_no j) x y) k.c k.d

-- ---- every shape
plain_bytes : (p q r s : ℕ) → map (λ i. take (end_at i + 8 * 0) (draft_bytes i 0 p q r s)) (below 144) ≡ map (λ i. sheet_of (shape_no i) []) (below 144)
unfolding below up_from members keep has flat rows_of front_of sheet_of shape_no
plain_bytes p q r s = refl

table_bytes : (p q r s : ℕ) → map (λ i. take (end_at i + 8 * 1) (draft_bytes i 1 p q r s)) (below 144) ≡ map
    (λ i. flat (map two_bytes (front_of (shape_no i) 1)) ++ (p ∷ 0 ∷ q ∷ 0 ∷ r ∷ 0 ∷ s ∷ 0 ∷ [])) (below 144)
unfolding below up_from members keep has flat rows_of front_of shape_no
table_bytes p q r s = refl

-- ---- every table
table_bytes_lem : ℕ → List ℕ
table_bytes_lem j = j / 6 ∷ 0 ∷ second_no j ∷ 0 ∷ third_no j ∷ 0 ∷ fourth_no j ∷ 0 ∷ []

table_test : all (λ j. same (table_bytes_lem j) (flat (map two_bytes (table_no j)))) (below 24) ≡ true
unfolding table_bytes_lem all below up_from same flat
table_test = refl

with_table_lem : (i j : ℕ) → j < 24 → flat (map two_bytes (front_of (shape_no i) 1)) ++ table_bytes_lem j ≡ sheet_of (shape_no i) (table_no j ∷ [])
unfolding sheet_of flat
with_table_lem i j h =
    ap (λ (l : List ℕ). flat (map two_bytes (front_of (shape_no i) 1)) ++ l)
    (same_eq (table_bytes_lem j) (flat (map two_bytes (table_no j))) (tested (λ j. same (table_bytes_lem j) (flat (map two_bytes (table_no j)))) 24 table_test j h))
    ∙ sym (ap flat (map_append two_bytes (front_of (shape_no i) 1) (table_no j)) ∙ flat_append (map two_bytes (front_of (shape_no i) 1)) (map two_bytes (table_no j)))

-- ---- the draft of a candidate
module _ (i tables p q r s : ℕ) (d : Draft) (few : tables ≤ 1) (e : d.bytes ≡ draft_bytes i tables p q r s) (z : d.size ≡ end_at i + 8 * tables) where
  drafts : (b : List ℕ) → take (end_at i + 8 * tables) (draft_bytes i tables p q r s) ≡ b → Drafts b d
  drafts b f =
      record {
        is = ap₂ take z e ∙ f;
        length_bytes = ap length e ∙ simp length-set;
        some = omega arith;
        fits = omega arith;
      }

abbrev pick : ℕ → Bool → List ℕ
pick n b = elim b [ true ↦ sheet_of (shape_no n) [] | false ↦ sheet_of (shape_no ((n - 144) / 24)) (table_no ((n - 144) % 24) ∷ []) ]

pub candidate_plain : (n : ℕ) → n < 144 → candidate n ≡ sheet_of (shape_no n) []
unfolding candidate
candidate_plain n h = ap (pick n) (lt-ltb n 144 h)

pub candidate_table : (n : ℕ) → 144 ≤ n → candidate n ≡ sheet_of (shape_no ((n - 144) / 24)) (table_no ((n - 144) % 24) ∷ [])
unfolding candidate
candidate_table n h = ap (pick n) (le-ltb n 144 h)

pub plain_draft : (n p q r s : ℕ) (d : Draft) → n < 144 → d.bytes ≡ draft_bytes n 0 p q r s → d.size ≡ end_at n + 8 * 0 → Drafts (candidate n) d
plain_draft n p q r s d h e z =
    drafts n 0 p q r s d (omega arith) e z (candidate n)
    (same_below (λ i. take (end_at i + 8 * 0) (draft_bytes i 0 p q r s)) (λ i. sheet_of (shape_no i) []) 144 (plain_bytes p q r s) n h ∙ sym (candidate_plain n h))

pub table_draft : (n : ℕ) (d : Draft) → 144 ≤ n → n < 3600 → (let j = (n - 144) % 24 in d.bytes ≡ draft_bytes ((n - 144) / 24) 1 (j / 6) (second_no j) (third_no j) (fourth_no j)) → d.size ≡ end_at
    ((n - 144) / 24) + 8 * 1 → Drafts (candidate n) d
unfolding table_bytes_lem
table_draft n d l h e z =
    let i = (n - 144) / 24 in
    let j = (n - 144) % 24 in
    drafts i 1 (j / 6) (second_no j) (third_no j) (fourth_no j) d (omega arith) e z (candidate n)
    (same_below (λ i. take (end_at i + 8 * 1) (draft_bytes i 1 (j / 6) (second_no j) (third_no j) (fourth_no j))) (λ i. flat (map two_bytes (front_of (shape_no i) 1)) ++ table_bytes_lem j) 144
    (table_bytes (j / 6) (second_no j) (third_no j) (fourth_no j)) i (omega arith)
    ∙ with_table_lem i j (omega arith) ∙ sym (candidate_table n l))
