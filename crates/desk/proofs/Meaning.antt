-- What the queue's bytes mean after a job was submitted or released: its slot, and that the others mean what they did. Assumes nothing.
use Rattle.model.specs.Kit.{◌≡◌, refl, sym, ap, ap₂, ◌∙◌, subst, Bool, true, false, List, [], ℕ, ◌+◌, ◌-◌, ◌*◌, ◌^◌, ◌≤◌, ◌<◌, min, arith, T, eqb, ltb, length, take, drop, set, get_or, length-set}
use Rattle.model.specs.Kit.{ltb-true, ltb-false, eqb-true, eqb-false}
use Rattle.model.specs.{Lists.at, Lists.choose, Lists.below, Verdict.Verdict, Verdict.accepted, Verdict.is_accepted, Sheet.«word», Sheet.verdict_of, Bytes.four_bytes, Written.placed, Run.listed_plans}
use lib.Seq.{take-length, get_or-set_same, get_or-set_other, ext_get_or}
use Rattle.model.proofs.{Lists.of_T, Lists.at_append, Lists.at_skip, Written.length_placed, Written.placed_before, Written.placed_in, Written.placed_after}
use Rattle.desk.specs.Inner.Places.{LENGTH, LIMIT, STANDING, NODES, PLANS, DEPTH, LAST, COUNTS, SHEET, SHEET_BYTES, LIST, LIST_BYTES, SLOT, NEXT}
use Rattle.desk.specs.Inner.Layout.{slot_place, long, standing_at, sheet_length, nodes_at, counts_at, plans_at, width_at, rows_at, last_at, sheet_at, job_at, slot_of, queue_of, head_bytes, slot_bytes}
use Rattle.desk.specs.Queue.{Standing, Job, new_job, Slot, free, taken, slot_at, size, standing_by}
use Rattle.sheet.specs.Meaning.{compilable}
use Rattle.sheet.proofs.Compilable.{accepted_compilable}
use Rattle.desk.proofs.Counts.{counts_length, counts_is, counts_zero, counts_as}
use Rattle.desk.proofs.{Sheets.answered_length, Bytes.part_is, Bytes.word_of, Bytes.long_of, Slots.slot_in, Slots.row_length, Slots.taken_at}

-- ---- a job by its parts
abbrev pub job_of : List ℕ → ℕ → ℕ → List ℕ → List (List ℕ) → List ℕ → Standing → Job
job_of s a m c r l t = record { sheet = s; limit = a; progress = record { made = m; counts = c; rows = r; last = l }; standing = t }

pub job_is : {s s' : List ℕ} {a a' m m' : ℕ} {c c' : List ℕ} {r r' : List (List ℕ)} {l l' : List ℕ} {t t' : Standing} →
    s ≡ s' → a ≡ a' → m ≡ m' → c ≡ c' → r ≡ r' → l ≡ l' → t ≡ t' → job_of s a m c r l t ≡ job_of s' a' m' c' r' l' t'
job_is {s} {s'} {a} {a'} {m} {m'} {c} {c'} {r} {r'} {l} {l'} {t} {t'} e f g d h i j =
    ap₂ (λ (x : List ℕ) (y : ℕ). job_of x y m c r l t) e f ∙ ap₂ (λ (x : ℕ) (y : List ℕ). job_of s' a' x y r l t) g d ∙ ap₂ (λ (x : List (List ℕ)) (y : List ℕ). job_of s' a' m' c' x y t) h i
    ∙ ap (job_of s' a' m' c' r' l') j

-- ---- parts of a slot with the same bytes
abbrev pub Same : List ℕ → List ℕ → ℕ → ℕ → Type 0
Same b c p n = (i : ℕ) → i < n → at c (p + i) ≡ at b (p + i)

pub at_same : (b c : List ℕ) (p n : ℕ) → Same b c p n → (o : ℕ) → p ≤ o → o < p + n → at c o ≡ at b o
at_same b c p n same o g h = let z : p + (o - p) ≡ o = omega arith in ap (at c) (sym z) ∙ same (o - p) (omega arith) ∙ ap (at b) z

module _ (b c : List ℕ) (p : ℕ) (e : length c ≡ length b) (room : p + SLOT ≤ length b) where
  pub word_same : (o : ℕ) → at c o ≡ at b o → at c (o + 1) ≡ at b (o + 1) → «word» c o ≡ «word» b o
  unfolding «word»
  word_same o f g = ap₂ (λ (x y : ℕ). x + 256 * y) f g

  pub long_same : (o : ℕ) → ((i : ℕ) → o ≤ i → i < o + 4 → at c i ≡ at b i) → long c o ≡ long b o
  unfolding long
  long_same o f =
      ap₂ (λ (x y : ℕ). x + 65536 * y) (word_same o (f o (omega arith) (omega arith)) (f (o + 1) (omega arith) (omega arith)))
      (word_same (o + 2) (f (o + 2) (omega arith) (omega arith)) (f (o + 2 + 1) (omega arith) (omega arith)))

  -- the sheet and the limit need the flag, the first seven bytes and the sheet
  pub sheet_same : ((i : ℕ) → p + LENGTH ≤ i → i < p + LIMIT → at c i ≡ at b i) → ((i : ℕ) → p + SHEET ≤ i → i < p + LIST → at c i ≡ at b i) → sheet_at c p ≡ sheet_at b p
  unfolding sheet_at
  sheet_same f g =
      let w = word_same (p + LENGTH) (f (p + LENGTH) (omega arith) (omega arith)) (f (p + LENGTH + 1) (omega arith) (omega arith)) in
      let n = sheet_length b p in
      let l : n ≤ SHEET_BYTES = omega arith in
      ap (λ (s : List ℕ). choose (compilable s) s [])
      (ap (λ (k : ℕ). take (min SHEET_BYTES k) (drop (p + SHEET) c)) w ∙ part_is c b (p + SHEET) (p + SHEET) n (omega arith) (omega arith) (λ i h. g (p + SHEET + i) (omega arith) (omega arith)))

  pub width_same : ((i : ℕ) → p + SHEET ≤ i → i < p + LIST → at c i ≡ at b i) → width_at c p ≡ width_at b p
  width_same g = ap (min 12) (word_same (p + SHEET) (g (p + SHEET) (omega arith) (omega arith)) (g (p + SHEET + 1) (omega arith) (omega arith)))

  pub job_same : Same b c p SLOT → job_at c p ≡ job_at b p
  unfolding job_at rows_at last_at
  job_same same =
      let at-o : (o : ℕ) → p ≤ o → o < p + SLOT → at c o ≡ at b o = at_same b c p SLOT same in
      let a = long_same (p + LIMIT) (λ i g h. at-o i (omega arith) (omega arith)) in
      let m : nodes_at c p ≡ nodes_at b p = ap₂ min a (long_same (p + NODES) (λ i g h. at-o i (omega arith) (omega arith))) in
      let k : plans_at c p ≡ plans_at b p = ap (min 4096) (word_same (p + PLANS) (at-o (p + PLANS) (omega arith) (omega arith)) (at-o (p + PLANS + 1) (omega arith) (omega arith))) in
      let w = width_same (λ i g h. at-o i (omega arith) (omega arith)) in
      let list = part_is c b (p + LIST) (p + LIST) LIST_BYTES (omega arith) (omega arith) (λ i h. at-o (p + LIST + i) (omega arith) (omega arith)) in
      let counts : counts_at c p ≡ counts_at b p = counts_as c p (counts_at b p) (counts_length b p) (λ x z.
      ap₂ min m (long_same (p + COUNTS + 4 * x) (λ i g h. at-o i (omega arith) (omega arith))) ∙ sym (counts_is b p x z)) in
      let n = min 12 (at b (p + DEPTH)) in
      let l : n ≤ 12 = omega arith in
      job_is (sheet_same (λ i g h. at-o i (omega arith) (omega arith)) (λ i g h. at-o i (omega arith) (omega arith))) a m counts
      (ap₂ (λ (x y : ℕ). listed_plans x y (take LIST_BYTES (drop (p + LIST) c))) w k ∙ ap (listed_plans (width_at b p) (plans_at b p)) list)
      (ap (λ (x : ℕ). take (min 12 x) (drop (p + LAST) c)) (at-o (p + DEPTH) (omega arith) (omega arith)) ∙ part_is c b (p + LAST) (p + LAST) n (omega arith) (omega arith)
      (λ i h. at-o (p + LAST + i) (omega arith) (omega arith)))
      (ap (λ (x : ℕ). standing_by (min 3 x) (plans_at c p) (nodes_at c p)) (at-o (p + STANDING) (omega arith) (omega arith)) ∙ ap₂ (standing_by (standing_at b p)) k m)

pub slot_same : (b c : List ℕ) (k : ℕ) → length c ≡ length b → k < 8 → length b ≡ size → Same b c (slot_place k) SLOT → slot_of c k ≡ slot_of b k
unfolding slot_of
slot_same b c k e h w same =
    ap₂ (λ (x : ℕ) (y : Job). choose (eqb x 0) free (taken y)) (at_same b c (slot_place k) SLOT same (slot_place k) (omega arith) (omega arith))
    (job_same b c (slot_place k) e (omega arith) same)

-- ---- one slot changed
pub slots_set : (b c : List ℕ) (k : ℕ) (s : Slot) → slot_of c k ≡ s → ((j : ℕ) → j < 8 → (j ≡ k → ⊥) → slot_of c j ≡ slot_of b j) → (queue_of c).slots ≡ set (queue_of b).slots k s
unfolding below
slots_set b c k s own others = ext_get_or free (queue_of c).slots (set (queue_of b).slots k s) (lc ∙ sym (length-set (queue_of b).slots k s ∙ lb)) each
  where
    lc : length (queue_of c).slots ≡ 8
    lc = row_length (slot_of c) 8 0

    lb : length (queue_of b).slots ≡ 8
    lb = row_length (slot_of b) 8 0

    each : (j : ℕ) → j < length (queue_of c).slots → slot_at (queue_of c) j ≡ get_or (set (queue_of b).slots k s) j free
    each j h = let l = lc in slot_in c j (omega arith) ∙ go (eqb j k) refl (omega arith)
      where
        go : (t : Bool) → eqb j k ≡ t → j < 8 → slot_of c j ≡ get_or (set (queue_of b).slots k s) j free
        go true e l =
            let z = eqb-true j k e in
            let m = lb in
            ap (slot_of c) z ∙ own ∙ sym (ap (λ (i : ℕ). get_or (set (queue_of b).slots k s) i free) z ∙ get_or-set_same (queue_of b).slots k s free (omega arith))
        go false e l =
            let n = eqb-false j k e in
            others j l n ∙ sym (get_or-set_other (queue_of b).slots k j s free n ∙ slot_in b j l)

-- bytes put into a slot leave the others
pub others_placed : (b : List ℕ) (k o : ℕ) (t : List ℕ) → length b ≡ size → k < 8 → o + length t ≤ SLOT → (j : ℕ) → j < 8 → (j ≡ k → ⊥) → Same b (placed b (slot_place k + o) t) (slot_place j) SLOT
others_placed b k o t w h f j l n i m = go (ltb j k) refl
  where
    go : (x : Bool) → ltb j k ≡ x → at (placed b (slot_place k + o) t) (slot_place j + i) ≡ at b (slot_place j + i)
    go true e = let z = ltb-true j k e in placed_before b (slot_place k + o) t (omega arith) (slot_place j + i) (omega arith)
    go false e = let z = ltb-false j k e in placed_after b (slot_place k + o) t (omega arith) (slot_place j + i) (omega arith)

-- ---- a new job's slot
module _ (b sheet : List ℕ) (limit k : ℕ) (whole : length b ≡ size) (h : k < 8) (ok : accepted ≡ verdict_of sheet) (narrow : limit < 2 ^ 32) where
  abbrev p : ℕ
  p = slot_place k

  abbrev t : List ℕ
  t = slot_bytes sheet limit

  abbrev c : List ℕ
  c = placed b p t

  long_t : length t ≡ SHEET + length sheet
  unfolding slot_bytes head_bytes four_bytes
  long_t = omega arith

  short : length sheet ≤ SHEET_BYTES
  short = answered_length sheet ok

  fits_t : p + length t ≤ length b
  fits_t = let e = long_t in let s = short in omega arith

  pub submitted_length : length c ≡ length b
  submitted_length = length_placed b p t fits_t

  head_byte : (i : ℕ) → i < SHEET → at c (p + i) ≡ at (head_bytes (length sheet) limit) i
  unfolding slot_bytes head_bytes four_bytes
  head_byte i l = let e = long_t in placed_in b p t fits_t i (omega arith) ∙ at_append (head_bytes (length sheet) limit) sheet i (omega arith)

  head_0 : at c p ≡ 1
  unfolding head_bytes four_bytes at
  head_0 = ap (at c) (let z : p ≡ p + 0 = omega arith in z) ∙ head_byte 0 (omega arith)

  length_read : «word» c (p + LENGTH) ≡ length sheet
  unfolding head_bytes four_bytes at
  length_read = word_of c (p + LENGTH) (length sheet) (head_byte 1 (omega arith)) (ap (at c) (let z : p + LENGTH + 1 ≡ p + 2 = omega arith in z) ∙ head_byte 2 (omega arith))

  limit_read : long c (p + LIMIT) ≡ limit
  unfolding head_bytes four_bytes at
  limit_read =
      long_of c (p + LIMIT) limit (head_byte 3 (omega arith)) (ap (at c) (let z : p + LIMIT + 1 ≡ p + 4 = omega arith in z) ∙ head_byte 4 (omega arith))
      (ap (at c) (let z : p + LIMIT + 2 ≡ p + 5 = omega arith in z) ∙ head_byte 5 (omega arith)) (ap (at c) (let z : p + LIMIT + 2 + 1 ≡ p + 6 = omega arith in z) ∙ head_byte 6 (omega arith))

  sheet_part : take (sheet_length c p) (drop (p + SHEET) c) ≡ sheet
  unfolding slot_bytes head_bytes four_bytes
  sheet_part =
      let n = length sheet in
      let s = short in
      let e = long_t in
      let l = submitted_length in
      ap (λ (k : ℕ). take (min SHEET_BYTES k) (drop (p + SHEET) c)) length_read ∙ ap (λ (k : ℕ). take k (drop (p + SHEET) c)) (let z : min SHEET_BYTES n ≡ n = omega arith in z)
      ∙ part_is c sheet (p + SHEET) 0 n (omega arith) (omega arith) (λ i g. each i g) ∙ take-length sheet
    where
      each : (i : ℕ) → i < length sheet → at c (p + SHEET + i) ≡ at sheet (0 + i)
      each i g =
          let e = long_t in
          ap (at c) (let z : p + SHEET + i ≡ p + (SHEET + i) = omega arith in z) ∙ placed_in b p t fits_t (SHEET + i) (omega arith) ∙ at_skip (head_bytes (length sheet) limit) sheet SHEET
          (SHEET + i) refl (omega arith)
          ∙ ap (at sheet) (let z : SHEET + i - SHEET ≡ 0 + i = omega arith in z)

  sheet_read : sheet_at c p ≡ sheet
  unfolding sheet_at
  sheet_read =
      ap (λ (s : List ℕ). choose (compilable s) s []) sheet_part
      ∙ ap (λ (x : Bool). choose x sheet []) (of_T (compilable sheet) (accepted_compilable sheet (subst (λ (v : Verdict). T (is_accepted v)) ok tt)))

  pub submitted_job : job_at c p ≡ new_job sheet limit
  unfolding job_at rows_at last_at listed_plans head_bytes four_bytes at
  submitted_job =
      let zero : (o i : ℕ) → p + i ≡ o → at c (p + i) ≡ 0 → at c o ≡ 0 = λ o i z e. ap (at c) (sym z) ∙ e in
      let made = long_of c (p + NODES) 0 (head_byte 8 (omega arith)) (zero (p + NODES + 1) 9 (omega arith) (head_byte 9 (omega arith)))
      (zero (p + NODES + 2) 10 (omega arith) (head_byte 10 (omega arith))) (zero (p + NODES + 2 + 1) 11 (omega arith) (head_byte 11 (omega arith))) in
      let plans = word_of c (p + PLANS) 0 (head_byte 12 (omega arith)) (zero (p + PLANS + 1) 13 (omega arith) (head_byte 13 (omega arith))) in
      let k : plans_at c p ≡ 0 = ap (min 4096) plans in
      let m : nodes_at c p ≡ 0 = ap (min (long c (p + LIMIT))) made ∙ (let z : min (long c (p + LIMIT)) 0 ≡ 0 = omega arith in z) in
      job_is sheet_read limit_read m (counts_zero c p m) (ap (λ (x : ℕ). listed_plans (width_at c p) x (take LIST_BYTES (drop (p + LIST) c))) k)
      (ap (λ (x : ℕ). take (min 12 x) (drop (p + LAST) c)) (head_byte 14 (omega arith))) (ap (λ (x : ℕ). standing_by (min 3 x) (plans_at c p) (nodes_at c p)) (head_byte 7 (omega arith)))

  pub submitted_slot : slot_of c k ≡ taken (new_job sheet limit)
  submitted_slot = taken_at c k (λ z. let e = head_0 in omega arith) ∙ ap taken submitted_job

  pub submitted_others : (j : ℕ) → j < 8 → (j ≡ k → ⊥) → slot_of c j ≡ slot_of b j
  submitted_others j l n =
      let e = long_t in
      let s = short in
      let z : p + 0 ≡ p = omega arith in
      slot_same b c j submitted_length l whole (subst (λ (o : ℕ). Same b (placed b o t) (slot_place j) SLOT) z (others_placed b k 0 t whole h (omega arith) j l n))

  pub submitted_next : at c NEXT ≡ at b NEXT
  submitted_next = let e = long_t in let s = short in placed_after b p t fits_t NEXT (omega arith)
