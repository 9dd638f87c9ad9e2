-- What the memo holds goes by the numbers from MEMO on and the plans listed alone. Assumes nothing.
use Rattle.model.specs.Kit.{◌≡◌, refl, sym, ◌∙◌, subst, List, [], ◌∷◌, map, length-map, ℕ, suc, ◌+◌, ◌*◌, ◌≤◌, ◌<◌, mul-le-mul_right, arith, length}
use Rattle.model.specs.{Lists.at, Lists.tabulate, Problem.Problem}
use Rattle.model.proofs.Lists.{at_ext, at_tabulate, length_tabulate}
use Rattle.order.specs.Reordered.{write}
use Rattle.arrays.specs.Inner.Places.{PLANS, MEMO, ENTRY, DEPTH, LOW, GOOD, NODES, LENGTH, ROWS, FIRST, SETS, ENDS, COUNTS}
use Rattle.run_state.specs.Inner.Memo.{MarksRead, Stand, plans_below, Kept, entry_at, Remembers}

pub tabulate_ext : (n : ℕ) (f g : ℕ → ℕ) → ((i : ℕ) → i < n → f i ≡ g i) → tabulate n f ≡ tabulate n g
tabulate_ext n f g h =
    at_ext (tabulate n f) (tabulate n g) (length_tabulate n f ∙ sym (length_tabulate n g))
    (λ i l. let j : i < n = subst (λ (m : ℕ). i < m) (length_tabulate n f) l in at_tabulate n f i j ∙ h i j ∙ sym (at_tabulate n g i j))

-- rows that stand in a list stand in another with the same bytes there
pub stand_on : (n i : ℕ) (rows : List (List ℕ)) (list list' : List ℕ) → ((j : ℕ) → j < (i + length rows) * n → at list' j ≡ at list j) → Stand n i rows list → Stand n i rows list'
unfolding Stand
stand_on n i [] list list' same h = tt
stand_on n i (row ∷ rows) list list' same h = (
  λ j l. same (i * n + j) (let m : suc i * n ≤ (i + suc (length rows)) * n = mul-le-mul_right n (omega arith) in omega arith) ∙ h.0 j l,
  stand_on n (suc i) rows list list' (λ j l. same j (subst (λ (k : ℕ). j < k * n) (let e : suc i + length rows ≡ i + suc (length rows) = omega arith in e) l)) h.1,
)

-- the plans of n bytes that are listed stay, and the list stays as long
pub record Stay (n : ℕ) (work list work' list' : List ℕ) : Type 0 where
  pub plans : at work PLANS ≤ at work' PLANS
  pub long : length list' ≡ length list
  pub bytes : (i : ℕ) → i < at work PLANS * n → at list' i ≡ at list i

-- an entry whose numbers are as they were
pub kept_on : (p own : Problem) (order work list work' list' : List ℕ) (s : ℕ) → ((i : ℕ) → i < ENTRY → at work' (s + i) ≡ at work (s + i)) → Stay p.variables work list work' list' →
    Kept p own order work list s → Kept p own order work' list' s
kept_on p own order work list work' list' s same stay h = record {
  prefix = h.prefix;
  marks = h.marks;
  live = h.live;
  inner = h.inner;
  narrow = h.narrow;
  right = h.right;
  depth = same DEPTH (omega arith) ∙ h.depth;
  read = subst (λ (l : ℕ). MarksRead h.marks (length own.symmetries) (length h.prefix) l (at work' (s + GOOD))) (sym (same LOW (omega arith)))
      (subst (MarksRead h.marks (length own.symmetries) (length h.prefix) (at work (s + LOW))) (sym (same GOOD (omega arith))) h.read);
  sets = λ x l. at_place SETS x (omega (arith, few x l)) ∙ h.sets x l;
  nodes = same NODES (omega arith) ∙ h.nodes;
  some = subst (λ (n : ℕ). 0 < n) (sym (same NODES (omega arith))) h.some;
  rows = same ROWS (omega arith) ∙ h.rows;
  past = omega (arith, same FIRST (omega arith), same ROWS (omega arith), h.past, stay.plans);
  stand = λ n. subst (λ (i : ℕ). Stand p.variables i (map (write order) (plans_below p h.prefix)) list') (sym (same FIRST (omega arith)))
      (stand_on p.variables (at work (s + FIRST)) (map (write order) (plans_below p h.prefix)) list list'
      (λ j l. stay.bytes j (let m : (at work (s + FIRST) + length (map (write order) (plans_below p h.prefix))) * p.variables ≤ at work PLANS * p.variables = mul-le-mul_right p.variables
      (omega (arith, h.past, h.rows, length-map (plans_below p h.prefix) (write order))) in omega arith)) (h.stand (λ z. n (stay.long ∙ z))));
  counts = λ x l. at_place COUNTS x (omega arith) ∙ h.counts x l;
  last = λ path. h.last path
      ∙ tabulate_ext (at work (s + LENGTH)) (λ x. at work (s + ENDS + x)) (λ x. at work' (s + ENDS + x)) (λ x l. sym (at_place ENDS x (omega (arith, h.short))))
      ∙ subst (λ (n : ℕ). tabulate (at work (s + LENGTH)) (λ x. at work' (s + ENDS + x)) ≡ tabulate n (λ x. at work' (s + ENDS + x))) (sym (same LENGTH (omega arith))) refl;
  deep = subst (λ (n : ℕ). length h.prefix ≤ n) (sym (same LENGTH (omega arith))) h.deep;
  short = subst (λ (n : ℕ). n ≤ 12) (sym (same LENGTH (omega arith))) h.short;
}
  where
    few : (x : ℕ) → x < p.variables → x < 12
    few x l = omega (arith, h.narrow)

    at_place : (j x : ℕ) → j + x < ENTRY → at work' (s + j + x) ≡ at work (s + j + x)
    at_place j x l = let e : s + (j + x) ≡ s + j + x = omega arith in subst (λ (i : ℕ). at work' i ≡ at work i) e (same (j + x) l)

-- all entries
pub memo_stays : (p own : Problem) (order work list work' list' : List ℕ) → ((i : ℕ) → MEMO ≤ i → at work' i ≡ at work i) → Stay p.variables work list work' list' →
    Remembers p own order work list → Remembers p own order work' list'
memo_stays p own order work list work' list' same stay h i l n =
    kept_on p own order work list work' list' (entry_at i) (λ j m. same (entry_at i + j) (omega arith)) stay (h i l (λ e. n (same (entry_at i + DEPTH) (omega arith) ∙ e)))

-- and no plan was listed
pub memo_on : (p own : Problem) (order work work' list : List ℕ) → ((i : ℕ) → MEMO ≤ i → at work' i ≡ at work i) → at work' PLANS ≡ at work PLANS → Remembers p own order work list →
    Remembers p own order work' list
memo_on p own order work work' list same plans h =
    memo_stays p own order work list work' list same (record { plans = omega arith; long = refl; bytes = λ i l. refl }) h
