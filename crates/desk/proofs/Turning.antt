-- A job that a slot's bytes can hold, and that a turn makes such a job of it (specs/Inner/Layout). Assumes nothing.
use Rattle.model.specs.Kit.{◌≡◌, refl, sym, ap, ap₂, ◌∙◌, subst, Bool, true, false, ◌⊎◌, inl, inr, ⊎_elim, List, [], ◌∷◌, ◌++◌, Memᴰ, Memᴰ-head, Memᴰ-tail, append-nil, ℕ, zero, suc}
use Rattle.model.specs.Kit.{◌+◌, ◌-◌, ◌*◌, ◌≤◌, ◌<◌, min, mul-le-mul, arith, T, ltb, eqb, eqb→eq, length, take, drop, length-take, length-drop, get_or-drop, length-take-le, ltb-true, ltb-false}
use Rattle.model.specs.Run.{Ending, finished, spent, full, plans_in, nodes_in, search, settled_by, counts_by, listed_plans}
use Rattle.model.specs.{Lists.at, Lists.choose, Lists.flat, Lists.keep, Problem.Problem, Search.nodes, Search.is_plan, Sheet.«word», Sheet.header_of, Sheet.problem_of}
use native.Mathlib.Nat.{le_of_mul-le-mul_right}
use lib.Seq.{take-nil}
use Rattle.model.proofs.Lists.{T_of, at_take, both_l, keep_e, flat_append, at_out}
use Rattle.model.proofs.{Room.Wide, Room.length_listed, Room.listed_wide, Runs.walk, Tally.count_most, Accepted.no_nodes_lem as empty_nodes}
use Rattle.run_cut.specs.Parts.{after, nodes_after, last_of, go_on, made_in}
use Rattle.run_cut.proofs.{Resume.node_values, Resume.last_in, Resume.taken, Counts.length_added, Anywhere.no_fewer}
use Rattle.sheet.specs.Meaning.{compilable}
use Rattle.sheet.proofs.Compilable.{compilable_fits}
use Rattle.desk.specs.Queue.{Standing, running, over, Job, list_room, turn_limit, standing_after, job_turned, standing_by}
use Rattle.desk.specs.Inner.Layout.{long, standing_at, sheet_length, nodes_at, plans_at, width_at, rows_at, last_at, sheet_at, job_at, standing_byte}
use Rattle.desk.specs.Inner.Places.{LIMIT, DEPTH, LAST, SHEET, LIST, LIST_BYTES, SLOT}
use Rattle.desk.proofs.{Bytes.Small, Bytes.small_nil, Bytes.small_append, Bytes.small_take, Bytes.small_drop, Counts.added_most, Counts.counts_length, Counts.counts_most, Slots.flat_listed}

-- how a run stands, told by its number and its figures
abbrev pub Figured : Standing → ℕ → ℕ → Type 0
Figured s plans made = standing_by (min 3 (standing_byte s)) plans made ≡ s

pub record Fits (b : List ℕ) (p : ℕ) (h : Job) : Type 0 where
  pub sheeted : h.sheet ≡ sheet_at b p
  pub limited : h.limit ≡ long b (p + LIMIT)
  pub allowed : h.progress.made ≤ h.limit
  pub twelve : length h.progress.counts ≡ 12
  pub counted : (x : ℕ) → at h.progress.counts x ≤ h.progress.made
  pub few : length h.progress.rows ≤ 4096
  pub wide : Wide (width_at b p) h.progress.rows
  pub short : length h.progress.last ≤ 12
  pub figured : Figured h.standing (length h.progress.rows) h.progress.made
  pub row_bytes : Small (flat h.progress.rows)
  pub last_bytes : Small h.progress.last

-- ---- the job that a slot's bytes mean
standing_figured : (s plans made : ℕ) → Figured (standing_by s plans made) plans made
standing_figured zero plans made = refl
standing_figured (suc zero) plans made = refl
standing_figured (suc (suc zero)) plans made = refl
standing_figured (suc (suc (suc s))) plans made = refl

pub at_fits : (b : List ℕ) (p : ℕ) → p + SLOT ≤ length b → Small b → Fits b p (job_at b p)
unfolding job_at rows_at last_at
at_fits b p room small = record {
  sheeted = refl;
  limited = refl;
  allowed = omega arith;
  twelve = counts_length b p;
  counted = counts_most b p;
  few = let e = number in omega arith;
  wide = listed_wide (width_at b p) (plans_at b p) list (let e = area in let z = most in omega arith);
  short = let e = length-take (min 12 (at b (p + DEPTH))) (drop (p + LAST) b) in omega arith;
  figured = subst (λ (k : ℕ). Figured (standing_by (standing_at b p) (plans_at b p) (nodes_at b p)) k (nodes_at b p)) (sym number) (standing_figured (standing_at b p) (plans_at b p) (nodes_at b p));
  row_bytes = subst Small (sym (flat_listed (width_at b p) (plans_at b p) list)) (small_take (plans_at b p * width_at b p) list
      (small_take LIST_BYTES (drop (p + LIST) b) (small_drop (p + LIST) b small)));
  last_bytes = small_take (min 12 (at b (p + DEPTH))) (drop (p + LAST) b) (small_drop (p + LAST) b small);
}
  where
    list : List ℕ
    list = take LIST_BYTES (drop (p + LIST) b)

    number : length (listed_plans (width_at b p) (plans_at b p) list) ≡ plans_at b p
    number = length_listed (width_at b p) (plans_at b p) list

    area : length list ≡ LIST_BYTES
    area = length-take-le LIST_BYTES (drop (p + LIST) b) (let e = length-drop (p + LIST) b in omega arith)

    most : plans_at b p * width_at b p ≤ 4096 * 12
    most = let x : plans_at b p ≤ 4096 = omega arith in let y : width_at b p ≤ 12 = omega arith in mul-le-mul x y

-- ---- nodes are short, and their values bytes
node_small : (q : Problem) (t : List ℕ) → Memᴰ t (nodes q) → Small t × (length t ≤ q.variables)
node_small q t m = (λ i. byte i (ltb i (length t)) refl, (node_values q t m).1)
  where
    byte : (i : ℕ) (c : Bool) → ltb i (length t) ≡ c → at t i < 256
    byte i true e = let v = (node_values q t m).0 i (ltb-true i (length t) e) in omega arith
    byte i false e = let z = at_out t i (ltb-false i (length t) e) in omega arith

-- ---- the problem of a slot: its plans have the slot's width, or it has no nodes
abbrev pub Known : List ℕ → ℕ → Problem → Type 0
Known b p q = ((q.variables ≡ width_at b p) × (1 ≤ q.variables) × (q.variables ≤ 12)) ⊎ (nodes q ≡ [])

-- the bytes that stand where the slot's sheet does
abbrev pub raw_at : List ℕ → ℕ → List ℕ
raw_at b p = take (sheet_length b p) (drop (p + SHEET) b)

pub raw_known : (b : List ℕ) (p : ℕ) → T (compilable (raw_at b p)) → ((problem_of (raw_at b p)).variables ≡ width_at b p) × (1 ≤ (problem_of (raw_at b p)).variables)
    × ((problem_of (raw_at b p)).variables ≤ 12)
unfolding problem_of header_of «word» at
raw_known b p t =
    let raw = raw_at b p in
    let h = compilable_fits raw t in
    let l = length-take (sheet_length b p) (drop (p + SHEET) b) in
    let o = h.long in
    let n : 16 ≤ sheet_length b p = omega arith in
    let x : at raw 0 ≡ at b (p + SHEET) = at_take (sheet_length b p) (drop (p + SHEET) b) 0 (omega arith) ∙ get_or-drop (p + SHEET) b 0 0 ∙ ap (at b)
    (let z : p + SHEET + 0 ≡ p + SHEET = omega arith in z) in
    let y : at raw 1 ≡ at b (p + SHEET + 1) = at_take (sheet_length b p) (drop (p + SHEET) b) 1 (omega arith) ∙ get_or-drop (p + SHEET) b 1 0 in
    let w : «word» raw 0 ≡ «word» b (p + SHEET) = ap₂ (λ (i j : ℕ). i + 256 * j) x y in
    let few : «word» raw 0 ≤ 12 = h.few in
    let some : 1 ≤ «word» raw 0 = h.some in
    ((let z : «word» raw 0 ≡ min 12 («word» b (p + SHEET)) = omega arith in z), some, few)

pub slot_known : (b : List ℕ) (p : ℕ) → Known b p (problem_of (sheet_at b p))
unfolding sheet_at
slot_known b p = go (compilable (raw_at b p)) refl
  where
    go : (t : Bool) → compilable (raw_at b p) ≡ t → Known b p (problem_of (choose t (raw_at b p) []))
    go false e = inr empty_nodes
    go true e = inl (raw_known b p (T_of (compilable (raw_at b p)) e))

-- ---- lists of rows
wide_append : {n : ℕ} (xs ys : List (List ℕ)) → Wide n xs → Wide n ys → Wide n (xs ++ ys)
wide_append [] ys f g t m = g t m
wide_append (x ∷ xs) ys f g t (Memᴰ-head e) = f t (Memᴰ-head e)
wide_append (x ∷ xs) ys f g t (Memᴰ-tail m) = wide_append xs ys (λ s i. f s (Memᴰ-tail i)) g t m

small_flat : (rows : List (List ℕ)) → ((t : List ℕ) → Memᴰ t rows → Small t) → Small (flat rows)
unfolding flat
small_flat [] f = small_nil
small_flat (r ∷ rows) f = small_append r (flat rows) (f r (Memᴰ-head refl)) (small_flat rows (λ t m. f t (Memᴰ-tail m)))

-- ---- a turn
after_figured : (limit : ℕ) (e : Ending) (plans made : ℕ) → plans_in e ≡ plans → nodes_in e ≡ made → Figured (standing_after limit e) plans made
after_figured limit (finished a m) plans made f g = ap₂ (λ (x y : ℕ). over (finished x y)) (sym f) (sym g)
after_figured limit (full a m) plans made f g = ap₂ (λ (x y : ℕ). over (full x y)) (sym f) (sym g)
after_figured limit (spent a m) plans made f g = go (ltb m limit)
  where
    go : (t : Bool) → Figured (elim t [ true ↦ running | false ↦ over (spent a m) ]) plans made
    go true = refl
    go false = ap₂ (λ (x y : ℕ). over (spent x y)) (sym f) (sym g)

module _ (b : List ℕ) (p : ℕ) (h : Job) (f : Fits b p h) where
  abbrev q : Problem
  q = problem_of h.sheet

  abbrev ts : List (List ℕ)
  ts = nodes_after q h.progress.last

  known : Known b p q
  known = subst (λ (s : List ℕ). Known b p (problem_of s)) (sym f.sheeted) (slot_known b p)

  of_nodes : (t : List ℕ) → Memᴰ t ts → Memᴰ t (nodes q)
  unfolding nodes_after
  of_nodes t m = (keep_e (after h.progress.last) (nodes q) t m).0

  no_nodes_lem : nodes q ≡ [] → ts ≡ []
  unfolding nodes_after keep
  no_nodes_lem e = ap (keep (after h.progress.last)) e

  new_in : (k : ℕ) (t : List ℕ) → Memᴰ t (keep (is_plan q) (take k ts)) → Memᴰ t (nodes q) × (length t ≡ q.variables)
  unfolding is_plan
  new_in k t m =
      let r = keep_e (is_plan q) (take k ts) t m in
      (of_nodes t (taken q k ts t r.0), eqb→eq (length t) q.variables (both_l (eqb (length t) q.variables) _ r.1))

  pub turned_fits : Fits b p (job_turned h)
  unfolding job_turned go_on keep last_of
  turned_fits =
      let upto = turn_limit h in
      let room = list_room q in
      let w = walk q upto room ts h.progress.made h.progress.rows in
      let r = search q upto room ts h.progress.made h.progress.rows in
      let a = f.allowed in
      let n = w.allowed (omega arith) in
      let k = few_wide w.passed r.rows w.listed (λ g. w.roomy g) known in
      record {
        sheeted = f.sheeted;
        limited = f.limited;
        allowed = omega arith;
        twelve = length_added h.progress.counts (counts_by settled_by (made_in q h.progress r));
        counted = λ x. let z = added_most h.progress.counts (counts_by settled_by (made_in q h.progress r)) h.progress.made (length (made_in q h.progress r)) f.counted
            (count_most settled_by (made_in q h.progress r)) x in let y = length-take (nodes_in r.ending - h.progress.made) ts in let u = no_fewer q upto room h.progress in omega arith;
        few = k.0;
        wide = k.1;
        short = last_short (nodes_in r.ending - h.progress.made) known;
        figured = after_figured h.limit r.ending (length r.rows) (nodes_in r.ending) w.counted refl;
        row_bytes = subst (λ (l : List (List ℕ)). Small (flat l)) (sym w.listed) (rows_small w.passed);
        last_bytes = last_small (nodes_in r.ending - h.progress.made);
      }
    where
      few_wide : (k : ℕ) (rows : List (List ℕ)) → rows ≡ h.progress.rows ++ keep (is_plan q) (take k ts) →
          (length h.progress.rows * q.variables ≤ list_room q → length rows * q.variables ≤ list_room q) →
          Known b p q → (length rows ≤ 4096) × Wide (width_at b p) rows
      few_wide k rows e roomy (inl s) =
          let o = f.few in
          let z : q.variables ≤ q.variables = omega arith in
          let u = roomy (mul-le-mul o z) in (
            le_of_mul-le-mul_right {m = length rows} {n = 4096} {k = q.variables} u s.1,
            subst (Wide (width_at b p)) (sym e) (wide_append h.progress.rows (keep (is_plan q) (take k ts)) f.wide (λ t m. (new_in k t m).1 ∙ s.0)),
          )
      few_wide k rows e roomy (inr s) =
          let same : rows ≡ h.progress.rows = e ∙ ap (λ (l : List (List ℕ)). h.progress.rows ++ keep (is_plan q) (take k l)) (no_nodes_lem s) ∙ ap
          (λ (l : List (List ℕ)). h.progress.rows ++ keep (is_plan q) l) (take-nil k) ∙ append-nil h.progress.rows in
          (subst (λ (l : List (List ℕ)). length l ≤ 4096) (sym same) f.few, subst (Wide (width_at b p)) (sym same) f.wide)

      rows_small : (k : ℕ) → Small (flat (h.progress.rows ++ keep (is_plan q) (take k ts)))
      rows_small k =
          subst Small (sym (flat_append h.progress.rows (keep (is_plan q) (take k ts))))
          (small_append (flat h.progress.rows) (flat (keep (is_plan q) (take k ts))) f.row_bytes (small_flat (keep (is_plan q) (take k ts)) (λ t m. (node_small q t (new_in k t m).0).0)))

      last_small : (k : ℕ) → Small (last_of h.progress.last (take k ts))
      last_small k =
          ⊎_elim {C = Small (last_of h.progress.last (take k ts))} (λ e. subst Small (sym e) f.last_bytes) (λ m. (node_small q _ (of_nodes _ (taken q k ts _ m))).0)
          (last_in q h.progress.last (take k ts))

      last_short : (k : ℕ) → Known b p q → length (last_of h.progress.last (take k ts)) ≤ 12
      last_short k (inl s) =
          ⊎_elim {C = length (last_of h.progress.last (take k ts)) ≤ 12} (λ e. subst (λ (l : List ℕ). length l ≤ 12) (sym e) f.short)
          (λ m. let z = (node_small q _ (of_nodes _ (taken q k ts _ m))).1 in let y = s.2 in omega arith) (last_in q h.progress.last (take k ts))
      last_short k (inr s) = subst (λ (l : List (List ℕ)). length (last_of h.progress.last l) ≤ 12) (sym (ap (take k) (no_nodes_lem s) ∙ take-nil k)) f.short
