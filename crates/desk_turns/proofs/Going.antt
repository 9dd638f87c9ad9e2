-- Going on with a slot's run: what is lent to it stands as the slot's bytes say, and what it leaves is put back. Assumes nothing.
use Rattle.model.specs.Kit.{◌≡◌, refl, sym, ap, ap₂, ◌∙◌, subst, List, [], ◌++◌, Memᴰ, append_assoc, ℕ, ◌+◌, ◌-◌, ◌*◌, ◌≤◌, min, mul-le-mul, arith, T, length, take, drop, length-append}
use Rattle.model.specs.Kit.{length-drop, take-append-drop, length-take-le}
use Rattle.model.specs.{Lists.at, Lists.flat, Lists.choose, Problem.Problem, Sheet.problem_of, Written.placed, Run.written, Run.Tally}
use lib.Seq.{take-take, drop-drop, drop-append-le}
use borrow.Rule.Slice.PartMut.{put_mid}
use Rattle.model.proofs.{Lists.of_T, Room.length_listed}
use Rattle.run_cut.specs.Parts.{Progress}
use Rattle.sheet.specs.Meaning.{compilable}
use Rattle.desk.specs.{Queue.list_room, Inner.Places.DEPTH, Inner.Places.LAST, Inner.Places.SHEET, Inner.Places.LIST, Inner.Places.LIST_BYTES, Inner.Places.SLOT, Inner.Layout.sheet_length}
use Rattle.desk.specs.Inner.Layout.{plans_at, width_at, rows_at, last_at, sheet_at, job_at}
use Rattle.desk.proofs.{Bytes.Small, Slots.flat_listed, Turning.Fits, Turning.at_fits, Turning.raw_at, Turning.raw_known}
use Rattle.run_resume.specs.Inner.Resume.{Put, Stands, PreparedAgain, GoesOn, GoneOn}
use Rattle.run_resume.proofs.Going.{goes_on_lem}
use Rattle.desk_turns.specs.Inner.Served.{problem_at, gone_on, PartDone}

module _ (b : List ℕ) (p : ℕ) (room : p + SLOT ≤ length b) (small : Small b) where
  abbrev size : ℕ
  size = 4096 * width_at b p

  -- the list that is lent
  abbrev list : List ℕ
  list = take size (drop (p + LIST) b)

  abbrev s : Progress
  s = (job_at b p).progress

  fits : Fits b p (job_at b p)
  fits = at_fits b p room small

  pub narrow : size ≤ LIST_BYTES
  narrow = omega arith

  list_length : length list ≡ size
  list_length = let n = narrow in length-take-le size (drop (p + LIST) b) (let e = length-drop (p + LIST) b in omega arith)

  many : plans_at b p * width_at b p ≤ size
  many = let x : plans_at b p ≤ 4096 = omega arith in let y : width_at b p ≤ width_at b p = omega arith in mul-le-mul x y

  -- the plans so far stand at its front
  flat_is : flat (rows_at b p) ≡ take (plans_at b p * width_at b p) list
  unfolding rows_at
  flat_is =
      let n = narrow in
      let m = many in
      let area = drop (p + LIST) b in
      flat_listed (width_at b p) (plans_at b p) (take LIST_BYTES area) ∙ take-take (plans_at b p * width_at b p) LIST_BYTES area (omega arith)
      ∙ sym (take-take (plans_at b p * width_at b p) size area m)

  listed : written (rows_at b p) list ≡ list
  unfolding written
  listed =
      let n = plans_at b p * width_at b p in
      let e : length (flat (rows_at b p)) ≡ n = ap length flat_is ∙ length-take-le n list (let l = list_length in let m = many in omega arith) in
      ap₂ (λ (x : List ℕ) (i : ℕ). x ++ drop i list) flat_is e ∙ take-append-drop n list

  pub stands : (work₀ work : List ℕ) → Put (plans_at b p) (last_at b p) work₀ work → Stands s work list
  unfolding job_at rows_at
  stands work₀ work put =
      record {
        plans = put.plans ∙ sym (length_listed (width_at b p) (plans_at b p) (take LIST_BYTES (drop (p + LIST) b)));
        last = put.last;
        short = put.short;
        bytes = put.bytes;
        listed = listed;
      }

  -- where its sheet can be compiled, plans are as wide as the list says
  pub wide : T (compilable (raw_at b p)) → (length list ≡ size) × (list_room (problem_at b p) ≡ size) × (length s.rows * (problem_of (raw_at b p)).variables ≤ size) ×
      ((r : List ℕ) → Memᴰ r s.rows → length r ≡ (problem_of (raw_at b p)).variables)
  unfolding sheet_at job_at
  wide t =
      let k = raw_known b p t in
      let e : problem_at b p ≡ problem_of (raw_at b p) = ap (λ (x : _). problem_of (choose x (raw_at b p) [])) (of_T (compilable (raw_at b p)) t) in
      let x = fits.few in
      let y : (problem_of (raw_at b p)).variables ≤ width_at b p = (let z = k.0 in omega arith) in (
        list_length,
        ap (λ (q : Problem). 4096 * q.variables) e ∙ ap (λ (n : ℕ). 4096 * n) k.0,
        mul-le-mul x y,
        λ r m. fits.wide r m ∙ sym k.0,
      )

  -- ---- what is read of the slot, as the code has it
  abbrev last_part : ℕ → List ℕ
  last_part l = take (p + LAST + l - (p + LAST)) (drop (p + LAST) b)

  abbrev sheet_part : ℕ → List ℕ
  sheet_part n = take (p + SHEET + n - (p + SHEET)) (drop (p + SHEET) b)

  abbrev pub list_part : ℕ → List ℕ
  list_part w = take (p + LIST + 4096 * w - (p + LIST)) (drop (p + LIST) b)

  cut : (o n m : ℕ) → n ≡ m → take (o + n - o) (drop o b) ≡ take m (drop o b)
  cut o n m e = ap (λ (i : ℕ). take i (drop o b)) (let z : o + n - o ≡ m = omega arith in z)

  module _ (k l n w : ℕ) (ek : k ≡ plans_at b p) (el : l ≡ min 12 (at b (p + DEPTH))) (en : n ≡ sheet_length b p) (ew : w ≡ width_at b p) where
    put_as : (work₀ work : List ℕ) → Put k (last_part l) work₀ work → Put (plans_at b p) (last_at b p) work₀ work
    unfolding last_at
    put_as work₀ work put =
        let e = cut (p + LAST) l (min 12 (at b (p + DEPTH))) el in
        record {
          plans = put.plans ∙ ek;
          last = put.last ∙ e;
          short = put.short;
          bytes = put.bytes;
          others = λ i n. put.others i
              (subst (λ (t : List ℕ). length t ≤ i) (sym e) n);
          work_length = put.work_length;
        }

    pub going : (more : ℕ) (work₀ work stack' work' supports' tables' numbers' : List ℕ) (step : ℕ) → Put k (last_part l) work₀ work → PreparedAgain (sheet_part n) more
        (4096 * w) work stack' work' supports' tables' numbers' step →
        GoesOn (problem_at b p) s (s.made + more) (list_room (problem_at b p)) stack' work' supports' tables' numbers' (list_part w) step
    unfolding sheet_at
    going more work₀ work stack' work' supports' tables' numbers' step put q =
        let e = cut (p + SHEET) n (sheet_length b p) en in
        let f : 4096 * w ≡ size = ap (λ (i : ℕ). 4096 * i) ew in
        let g = subst (λ (r : List ℕ). PreparedAgain r more size work stack' work' supports' tables' numbers' step) e
        (subst (λ (i : ℕ). PreparedAgain (sheet_part n) more i work stack' work' supports' tables' numbers' step) f q) in
        subst (λ (r : List ℕ). GoesOn (problem_at b p) s (s.made + more) (list_room (problem_at b p)) stack' work' supports' tables' numbers' r step) (sym (cut (p + LIST) (4096 * w) size f))
        (goes_on_lem (raw_at b p) more size work stack' work' supports' tables' numbers' step g s (s.made + more) (list_room (problem_at b p)) list refl (stands work₀ work (put_as work₀ work put))
        (λ d. wide (g.compiled d)))

  -- a text at the front of the list, put back with the rest
  put_back : (t : List ℕ) → length t ≤ size → take (p + LIST) b ++ ((t ++ drop (length t) list) ++ drop (p + LIST + size) b) ≡ placed b (p + LIST) t
  unfolding placed
  put_back t l =
      let area = drop (p + LIST) b in
      let m = length t in
      let rest : drop m list ++ drop (p + LIST + size) b ≡ drop (p + LIST + m) b =
      ap (λ (x : List ℕ). drop m list ++ x) (sym (drop-drop size (p + LIST) b)) ∙ sym (drop-append-le m list (drop size area) (let e = list_length in omega arith)) ∙ ap (drop m)
      (take-append-drop size area)
      ∙ drop-drop m (p + LIST) b in
      ap (λ (x : List ℕ). take (p + LIST) b ++ x) (append_assoc t (drop m list) (drop (p + LIST + size) b) ∙ ap (λ (x : List ℕ). t ++ x) rest) ∙ sym
      (append_assoc (take (p + LIST) b) t (drop (p + LIST + m) b))

  -- what the run leaves
  pub gone : (w : ℕ) → w ≡ width_at b p → (more : ℕ) (work list' : List ℕ) (stop : ℕ) (tally : Tally) → GoneOn (problem_at b p) s (s.made + more) (list_room (problem_at b p))
      (list_part w) work list' stop tally →
      length list' ≡ length (list_part w) → PartDone b p more (put_mid (p + LIST) (p + LIST + 4096 * w - (p + LIST)) b list') work stop tally
  unfolding written
  gone w ew more work list' stop tally g n =
      let t = flat (gone_on b p more).rows in
      let e : list_part w ≡ list = cut (p + LIST) (4096 * w) size (ap (λ (i : ℕ). 4096 * i) ew) in
      let f : list' ≡ t ++ drop (length t) list = g.wrote ∙ ap (λ (x : List ℕ). t ++ drop (length t) x) e in
      let l : length t + length (drop (length t) list) ≡ size = sym (length-append t (drop (length t) list)) ∙ sym (ap length f) ∙ n ∙ ap length e ∙ list_length in
      record {
        stopped = g.stopped;
        made = g.made;
        counts = g.counts;
        plans = g.plans ∙ g.counted;
        last = g.last;
        short = g.short;
        bytes = g.bytes;
        listed =
            ap₂ (λ (x y : List ℕ). take (p + LIST) b ++ (x ++ y)) f (drop-drop (p + LIST + 4096 * w - (p + LIST)) (p + LIST) b ∙ ap (λ (i : ℕ). drop i b)
            (let z : p + LIST + (p + LIST + 4096 * w - (p + LIST)) ≡ p + LIST + size = omega arith in z))
            ∙ put_back t (omega arith);
      }
