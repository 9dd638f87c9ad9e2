-- A job's run put into its slot is read back (specs/Inner/Layout, `with_run`), and the other slots stay. Assumes nothing.
use Rattle.model.specs.Kit.{◌≡◌, refl, sym, ap, ap₂, ◌∙◌, List, [], ◌∷◌, ◌++◌, Memᴰ-head, append_assoc, ℕ, ◌+◌, ◌-◌, ◌*◌, ◌^◌, ◌≤◌, ◌<◌, min, mul-le-mul, arith, length, take, drop, replicate}
use Rattle.model.specs.Kit.{length-append, length-replicate, take-append-drop}
use Rattle.model.specs.{Lists.at, Lists.flat, Bytes.two_bytes, Bytes.four_bytes, Written.placed, Run.finished, Run.spent, Run.full, Run.listed_plans}
use lib.Seq.{take_at, drop_at, take-take, take-length}
use Rattle.model.proofs.{Lists.at_append, Lists.at_skip, Room.Wide, Room.wide_tail, Room.length_flat, Written.length_placed, Written.placed_before, Written.placed_in, Written.placed_after}
use Rattle.desk.specs.Inner.Places.{LIMIT, STANDING, NODES, PLANS, DEPTH, LAST, COUNTS, SHEET, LIST, LIST_BYTES, NEXT}
use Rattle.desk.specs.Inner.Layout.{slot_place, long, nodes_at, plans_at, width_at, rows_at, last_at, job_at, slot_of, standing_byte, figure_bytes, run_bytes, with_run, state_bytes, count_bytes}
use Rattle.desk.specs.Inner.Layout.{counts_at}
use Rattle.desk.specs.{Queue.Standing, Queue.running, Queue.over, Queue.Job, Queue.taken, Queue.standing_by, Claims.QueueBytes}
use Rattle.desk.proofs.Bytes.{Small, part_is, word_of, long_of, small_cons, small_nil, small_append, small_replicate, small_placed, small_four, small_two}
use Rattle.desk.proofs.Meaning.{job_is, sheet_same, width_same, long_same, slot_same, others_placed}
use Rattle.desk.proofs.{Counts.counts_as, Counts.count_length, Counts.count_byte, Counts.count_small, Slots.taken_at, Slots.long_small, Turning.Fits}

-- rows at the front of a list are listed again
listed_rest : (n : ℕ) (rows : List (List ℕ)) (rest : List ℕ) → Wide n rows → listed_plans n (length rows) (flat rows ++ rest) ≡ rows
unfolding listed_plans flat
listed_rest n [] rest w = refl
listed_rest n (r ∷ rows) rest w =
    let e : length r ≡ n = w r (Memᴰ-head refl) in
    let l = append_assoc r (flat rows) rest in
    ap₂ (λ (x : List ℕ) (y : List (List ℕ)). x ∷ y) (ap (take n) l ∙ take_at r (flat rows ++ rest) n e)
    (ap (λ (x : List ℕ). listed_plans n (length rows) (drop n x)) l ∙ ap (listed_plans n (length rows)) (drop_at r (flat rows ++ rest) n e) ∙ listed_rest n rows rest (wide_tail w))

module _ (b : List ℕ) (k : ℕ) (d : QueueBytes b) (h : k < 8) (g : Job) (f : Fits b (slot_place k) g) where
  abbrev p : ℕ
  p = slot_place k

  abbrev L : ℕ
  L = length g.progress.last

  abbrev text : List ℕ
  text = flat g.progress.rows

  abbrev c₁ : List ℕ
  c₁ = placed b (p + STANDING) (run_bytes g)

  abbrev c : List ℕ
  c = with_run b p g

  pub state_length : length (state_bytes g) ≡ 20
  unfolding state_bytes figure_bytes four_bytes
  state_length =
      let e = length-append g.progress.last (replicate (12 - L) 0) in
      let r = length-replicate {A = ℕ} (12 - L) 0 in
      let s = f.short in
      omega arith

  pub run_length : length (run_bytes g) ≡ 68
  unfolding run_bytes
  run_length =
      let e = length-append (state_bytes g) (count_bytes g.progress.counts) in
      let s = state_length in
      let c = count_length g.progress.counts in
      let n = f.twelve in
      omega arith

  pub text_length : length text ≤ LIST_BYTES
  text_length =
      let e = length_flat (width_at b p) g.progress.rows f.wide in
      let y : width_at b p ≤ 12 = omega arith in
      let m : length g.progress.rows * width_at b p ≤ 4096 * 12 = mul-le-mul f.few y in
      omega arith

  fits₁ : p + STANDING + length (run_bytes g) ≤ length b
  fits₁ = let e = run_length in let w = d.0 in omega arith

  length₁ : length c₁ ≡ length b
  length₁ = length_placed b (p + STANDING) (run_bytes g) fits₁

  fits₂ : p + LIST + length text ≤ length c₁
  fits₂ = let e = text_length in let w = d.0 in let l = length₁ in omega arith

  pub run_whole : length c ≡ length b
  unfolding with_run
  run_whole = length_placed c₁ (p + LIST) text fits₂ ∙ length₁

  before : (i : ℕ) → i < p + STANDING → at c i ≡ at b i
  unfolding with_run
  before i l = placed_before c₁ (p + LIST) text fits₂ i (omega arith) ∙ placed_before b (p + STANDING) (run_bytes g) fits₁ i l

  between : (i : ℕ) → p + SHEET ≤ i → i < p + LIST → at c i ≡ at b i
  unfolding with_run
  between i l m = let e = run_length in placed_before c₁ (p + LIST) text fits₂ i m ∙ placed_after b (p + STANDING) (run_bytes g) fits₁ i (omega arith)

  run_byte : (o i : ℕ) → p + STANDING + i ≡ o → i < 68 → at c o ≡ at (run_bytes g) i
  unfolding with_run
  run_byte o i z l = let e = run_length in ap (at c) (sym z) ∙ placed_before c₁ (p + LIST) text fits₂ (p + STANDING + i) (omega arith) ∙ placed_in b (p + STANDING) (run_bytes g) fits₁ i (omega arith)

  state_byte : (o i : ℕ) → p + STANDING + i ≡ o → i < 20 → at c o ≡ at (state_bytes g) i
  unfolding run_bytes
  state_byte o i z l = let s = state_length in run_byte o i z (omega arith) ∙ at_append (state_bytes g) (count_bytes g.progress.counts) i (omega arith)

  figure_byte : (o i : ℕ) → p + STANDING + i ≡ o → i < 8 → at c o ≡ at (figure_bytes g) i
  unfolding state_bytes figure_bytes four_bytes
  figure_byte o i z l = state_byte o i z (omega arith) ∙ at_append (figure_bytes g) (g.progress.last ++ replicate (12 - L) 0) i (omega arith)

  state_tail : (i : ℕ) → i < L → at (state_bytes g) (8 + i) ≡ at g.progress.last (0 + i)
  unfolding state_bytes figure_bytes four_bytes
  state_tail i l =
      at_skip (figure_bytes g) (g.progress.last ++ replicate (12 - L) 0) 8 (8 + i) refl (omega arith) ∙ ap (at (g.progress.last ++ replicate (12 - L) 0))
      (let z : 8 + i - 8 ≡ 0 + i = omega arith in z)
      ∙ at_append g.progress.last (replicate (12 - L) 0) (0 + i) (omega arith)

  four_byte : (x j o : ℕ) → p + COUNTS + 4 * x + j ≡ o → x < 12 → j < 4 → at c o ≡ at (four_bytes (at g.progress.counts x)) j
  unfolding run_bytes
  four_byte x j o z l m =
      let s = state_length in
      let n = f.twelve in
      run_byte o (20 + (4 * x + j)) (omega arith) (omega arith) ∙ at_skip (state_bytes g) (count_bytes g.progress.counts) 20 (20 + (4 * x + j)) s (omega arith)
      ∙ ap (at (count_bytes g.progress.counts)) (let y : 20 + (4 * x + j) - 20 ≡ 4 * x + j = omega arith in y) ∙ count_byte g.progress.counts x j (omega arith) m

  made_read : long c (p + NODES) ≡ g.progress.made
  unfolding figure_bytes four_bytes at
  made_read =
      long_of c (p + NODES) g.progress.made (figure_byte (p + NODES) 1 (omega arith) (omega arith)) (figure_byte (p + NODES + 1) 2 (omega arith) (omega arith))
      (figure_byte (p + NODES + 2) 3 (omega arith) (omega arith))
      (figure_byte (p + NODES + 2 + 1) 4 (omega arith) (omega arith))

  plans_read : plans_at c p ≡ length g.progress.rows
  unfolding figure_bytes four_bytes at
  plans_read =
      let l = f.few in
      ap (min 4096) (word_of c (p + PLANS) (length g.progress.rows) (figure_byte (p + PLANS) 5 (omega arith) (omega arith)) (figure_byte (p + PLANS + 1) 6 (omega arith) (omega arith)))
      ∙ (let z : min 4096 (length g.progress.rows) ≡ length g.progress.rows = omega arith in z)

  limit_read : long c (p + LIMIT) ≡ g.limit
  limit_read = long_same b c p run_whole (let w = d.0 in omega arith) (p + LIMIT) (λ i l m. before i (omega arith)) ∙ sym f.limited

  nodes_read : nodes_at c p ≡ g.progress.made
  nodes_read = let l = f.allowed in ap₂ min limit_read made_read ∙ (let z : min g.limit g.progress.made ≡ g.progress.made = omega arith in z)

  counts_read : counts_at c p ≡ g.progress.counts
  unfolding four_bytes at
  counts_read = counts_as c p g.progress.counts f.twelve (λ x l.
      let o = p + COUNTS + 4 * x in
      let e = long_of c o (at g.progress.counts x) (four_byte x 0 o (omega arith) l (omega arith)) (four_byte x 1 (o + 1) (omega arith) l (omega arith))
      (four_byte x 2 (o + 2) (omega arith) l (omega arith)) (four_byte x 3 (o + 2 + 1) (omega arith) l (omega arith)) in
      let m = f.counted x in
      ap₂ min nodes_read e ∙ (let z : min g.progress.made (at g.progress.counts x) ≡ at g.progress.counts x = omega arith in z))

  width_read : width_at c p ≡ width_at b p
  width_read = width_same b c p run_whole (let w = d.0 in omega arith) between

  rows_read : rows_at c p ≡ g.progress.rows
  unfolding rows_at with_run
  rows_read =
      let area = drop (p + LIST) c in
      let m = length text in
      let e = text_length in
      let l = length₁ in
      let o = run_whole in
      let w = d.0 in
      let part : take m area ≡ text = part_is c text (p + LIST) 0 m (omega arith) (omega arith)
      (λ i n. placed_in c₁ (p + LIST) text fits₂ i n ∙ ap (at text) (let z : i ≡ 0 + i = omega arith in z)) ∙ take-length text in
      let front : take LIST_BYTES area ≡ text ++ drop m (take LIST_BYTES area) = sym (take-append-drop m (take LIST_BYTES area)) ∙ ap (λ (x : List ℕ). x ++ drop m (take LIST_BYTES area))
      (take-take m LIST_BYTES area e ∙ part) in
      ap₂ (λ (x y : ℕ). listed_plans x y (take LIST_BYTES area)) width_read plans_read ∙ ap (listed_plans (width_at b p) (length g.progress.rows)) front
      ∙ listed_rest (width_at b p) g.progress.rows (drop m (take LIST_BYTES area)) f.wide

  last_read : last_at c p ≡ g.progress.last
  unfolding last_at figure_bytes four_bytes at
  last_read =
      let s = f.short in
      let o = run_whole in
      let w = d.0 in
      ap (λ (x : ℕ). take (min 12 x) (drop (p + LAST) c)) (figure_byte (p + DEPTH) 7 (omega arith) (omega arith)) ∙ ap (λ (x : ℕ). take x (drop (p + LAST) c)) (let z : min 12 L ≡ L = omega arith in z)
      ∙ part_is c g.progress.last (p + LAST) 0 L (omega arith) (omega arith) last_byte ∙ take-length g.progress.last
    where
      last_byte : (i : ℕ) → i < L → at c (p + LAST + i) ≡ at g.progress.last (0 + i)
      last_byte i l = let s = f.short in state_byte (p + LAST + i) (8 + i) (omega arith) (omega arith) ∙ state_tail i l

  standing_read : standing_by (min 3 (at c (p + STANDING))) (plans_at c p) (nodes_at c p) ≡ g.standing
  unfolding figure_bytes four_bytes at
  standing_read =
      ap (λ (x : ℕ). standing_by (min 3 x) (plans_at c p) (nodes_at c p)) (figure_byte (p + STANDING) 0 (omega arith) (omega arith)) ∙ ap₂
      (standing_by (min 3 (standing_byte g.standing))) plans_read nodes_read ∙ f.figured

  pub run_job : job_at c p ≡ g
  unfolding job_at
  run_job =
      job_is (sheet_same b c p run_whole (let w = d.0 in omega arith) (λ i l m. before i (omega arith)) between ∙ sym f.sheeted) limit_read nodes_read counts_read rows_read last_read standing_read

  pub run_slot : (at b p ≡ 0 → ⊥) → slot_of c k ≡ taken g
  run_slot n = taken_at c k (λ z. n (sym (before p (omega arith)) ∙ z)) ∙ ap taken run_job

  pub run_others : (j : ℕ) → j < 8 → (j ≡ k → ⊥) → slot_of c j ≡ slot_of b j
  unfolding with_run
  run_others j l n =
      let e = run_length in
      let t = text_length in
      let w = length₁ ∙ d.0 in
      slot_same c₁ c j (run_whole ∙ sym length₁) l w (others_placed c₁ k LIST text w h (omega arith) j l n)
      ∙ slot_same b c₁ j length₁ l d.0 (others_placed b k STANDING (run_bytes g) d.0 h (omega arith) j l n)

  pub run_next : at c NEXT ≡ at b NEXT
  unfolding with_run
  run_next =
      let e = run_length in
      let t = text_length in
      placed_after c₁ (p + LIST) text fits₂ NEXT (omega arith) ∙ placed_after b (p + STANDING) (run_bytes g) fits₁ NEXT (omega arith)

  standing_small : (s : Standing) → standing_byte s < 256
  standing_small running = omega arith
  standing_small (over (finished plans made)) = omega arith
  standing_small (over (spent plans made)) = omega arith
  standing_small (over (full plans made)) = omega arith

  narrow : g.progress.made < 2 ^ 32
  narrow = let a = f.allowed in let e = f.limited in let n = long_small b d.1 (p + LIMIT) in omega arith

  state_small : Small (state_bytes g)
  unfolding state_bytes figure_bytes four_bytes
  state_small =
      let l = f.few in
      let s = f.short in
      small_append ((standing_byte g.standing ∷ four_bytes g.progress.made) ++ two_bytes (length g.progress.rows) ++ (L ∷ [])) (g.progress.last ++ replicate (12 - L) 0)
      (small_append (standing_byte g.standing ∷ four_bytes g.progress.made) (two_bytes (length g.progress.rows) ++ (L ∷ []))
      (small_cons (standing_byte g.standing) (four_bytes g.progress.made) (standing_small g.standing) (small_four g.progress.made narrow))
      (small_append (two_bytes (length g.progress.rows)) (L ∷ []) (small_two (length g.progress.rows) (omega arith)) (small_cons L [] (omega arith) small_nil)))
      (small_append g.progress.last (replicate (12 - L) 0) f.last_bytes (small_replicate (12 - L)))

  run_small : Small (run_bytes g)
  unfolding run_bytes
  run_small =
      small_append (state_bytes g) (count_bytes g.progress.counts) state_small
      (count_small g.progress.counts (λ x. let z = f.counted x in let y = narrow in omega arith))

  pub run_bytes_lem : Small c
  unfolding with_run
  run_bytes_lem = small_placed c₁ (p + LIST) text (small_placed b (p + STANDING) (run_bytes g) d.1 run_small) f.row_bytes
