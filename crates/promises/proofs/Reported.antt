-- What the reader of a report holds (specs/Reported), from its definition and order's theorems. Assumes nothing.
use Rattle.model.specs.Kit.{◌≡◌, refl, sym, ap, ap₂, ◌∙◌, subst, subst₂, Bool, true, false, ⊎_elim, List, [], ◌∷◌, ◌++◌, map, Memᴰ, Memᴰ-head, Memᴰ-tail, Memᴰ-not_nil, Memᴰ-of_map}
use Rattle.model.specs.Kit.{append_assoc, ℕ, zero, suc, ◌+◌, ◌*◌, ◌/◌, ◌%◌, ◌<◌, arith, T, ltb, ltb→lt, length, take, replicate, length-append, length-map, length-replicate, ne_eqb}
use Rattle.model.specs.Run.{Ending, finished, spent, full, plans_in, ended, result_of}
use Rattle.model.specs.{Lists.all, Lists.flat, Lists.at, Problem.Problem, Verdict.Verdict, Verdict.accepted, Verdict.refused, Sheet.verdict_of, Sheet.problem_of, Claims.CountsAt}
use mathlib.Core.List.Memᴰ
use Rattle.model.proofs.{Lists.all_e, Room.length_listed}
use Rattle.order.specs.RunBy.{sheet_input, answer_by, list_by}
use Rattle.order.proofs.{RunBy.same_result, Demanded.ran_by, Demanded.held as rows_held, Demanded.sound_sheet, Demanded.demanded_sheet, Demanded.sheet_run}
use Rattle.families_figure.specs.Figure.{Figure, number, dash, report_figure}
use Rattle.report.specs.Report.{digits, decimal, line, plan_word, finished_word, spent_word, full_word, refused_word, figure_line, ending_line, result_text, report_for, report_of, REPORT_LIMIT}
use Rattle.promises.proofs.Demands.{sheet_leaders, sheet_chains}
use Rattle.promises.specs.Reported.{onto, lines_in, sheet_in, leaders_of, ReportEnds, ReportFinished, ReportHeld, Reported}

-- ---- a line: characters above the newline, and then it
abbrev Plain : List ℕ → Type 0
Plain w = (x : ℕ) → Memᴰ x w → 10 < x

record Line (l : List ℕ) : Type 0 where
  body : List ℕ
  is : l ≡ body ++ (10 ∷ [])
  plain : Plain body

plain_append : (u v : List ℕ) → Plain u → Plain v → Plain (u ++ v)
plain_append u v p q x m = ⊎_elim {C = 10 < x} (p x) (q x) (Memᴰ.append_cases u m)

plain_cons : (y : ℕ) (v : List ℕ) → 10 < y → Plain v → Plain (y ∷ v)
plain_cons y v p q x (Memᴰ-head e) = subst (λ (z : ℕ). 10 < z) (sym e) p
plain_cons y v p q x (Memᴰ-tail m) = q x m

plain_none : Plain []
plain_none x m = absurd (Memᴰ-not_nil m)

newline : Line (10 ∷ [])
newline = record { body = []; is = refl; plain = plain_none }

before_line : (u l : List ℕ) → Plain u → Line l → Line (u ++ l)
before_line u l p t = record {
  body = u ++ t.body;
  is = ap (λ (r : List ℕ). u ++ r) t.is ∙ sym (append_assoc u t.body (10 ∷ []));
  plain = plain_append u t.body p t.plain;
}

digit_plain : (n : ℕ) → Plain ((48 + n) ∷ [])
digit_plain n = plain_cons (48 + n) [] (omega arith) plain_none

digits_plain : (k n : ℕ) → Plain (digits k n)
unfolding digits
digits_plain zero n = plain_none
digits_plain (suc k) n = go (digits_plain k (n / 10)) (ltb n 10)
  where
    go : Plain (digits k (n / 10)) → (b : Bool) → Plain (elim b [ true ↦ (48 + n) ∷ [] | false ↦ digits k (n / 10) ++ ((48 + n % 10) ∷ []) ])
    go ih true = digit_plain n
    go ih false = plain_append (digits k (n / 10)) ((48 + n % 10) ∷ []) ih (digit_plain (n % 10))

number_plain : (n : ℕ) → Plain (32 ∷ decimal n)
unfolding decimal
number_plain n = plain_cons 32 (digits 20 n) (omega arith) (digits_plain 20 n)

numbers_plain : (ns : List ℕ) → Plain (flat (map (λ n. 32 ∷ decimal n) ns))
unfolding flat
numbers_plain [] = plain_none
numbers_plain (n ∷ ns) = plain_append (32 ∷ decimal n) (flat (map (λ n. 32 ∷ decimal n) ns)) (number_plain n) (numbers_plain ns)

line_is : (word numbers : List ℕ) → Plain word → Line (line word numbers)
unfolding line
line_is word numbers p = before_line (word ++ flat (map (λ n. 32 ∷ decimal n) numbers)) (10 ∷ []) (plain_append word (flat (map (λ n. 32 ∷ decimal n) numbers)) p (numbers_plain numbers)) newline

word_plain : (w : List ℕ) → T (all (ltb 10) w) → Plain w
word_plain w t x m = ltb→lt 10 x (all_e (ltb 10) w t x m)

figure_is : (word : List ℕ) (plans made : ℕ) (f : Figure) → Plain word → Line (figure_line word plans made f)
figure_is word plans made (number k) p = line_is word (plans ∷ made ∷ k ∷ []) p
figure_is word plans made dash p =
    before_line ((word ++ (32 ∷ decimal plans)) ++ (32 ∷ decimal made)) (32 ∷ 45 ∷ 10 ∷ [])
    (plain_append (word ++ (32 ∷ decimal plans)) (32 ∷ decimal made) (plain_append word (32 ∷ decimal plans) p (number_plain plans)) (number_plain made))
    (before_line (32 ∷ 45 ∷ []) (10 ∷ []) (plain_cons 32 (45 ∷ []) (omega arith) (plain_cons 45 [] (omega arith) plain_none)) newline)

plain_plan : Plain plan_word
unfolding all
plain_plan = word_plain plan_word tt

plain_refused : Plain refused_word
unfolding all
plain_refused = word_plain refused_word tt

ending_is : (e : Ending) (f : Figure) → Line (ending_line e f)
unfolding ending_line all
ending_is (finished plans made) f = figure_is finished_word plans made f (word_plain finished_word tt)
ending_is (spent plans made) f = figure_is spent_word plans made f (word_plain spent_word tt)
ending_is (full plans made) f = figure_is full_word plans made f (word_plain full_word tt)

-- ---- lines one after another
lines_body : (w rest : List ℕ) → Plain w → lines_in (w ++ (10 ∷ rest)) ≡ (w ++ (10 ∷ [])) ∷ lines_in rest
unfolding lines_in
lines_body [] rest p = refl
lines_body (x ∷ w) rest p =
    let l = p x (Memᴰ-head refl) in
    ap (λ (b : Bool). elim b [ true ↦ (x ∷ []) ∷ lines_in (w ++ (10 ∷ rest)) | false ↦ onto x (lines_in (w ++ (10 ∷ rest))) ]) (ne_eqb x 10 (λ z. omega arith))
    ∙ ap (onto x) (lines_body w rest (λ y m. p y (Memᴰ-tail m)))

lines_one : (l rest : List ℕ) → Line l → lines_in (l ++ rest) ≡ l ∷ lines_in rest
lines_one l rest t =
    ap (λ (k : List ℕ). lines_in (k ++ rest)) t.is ∙ ap lines_in (append_assoc t.body (10 ∷ []) rest) ∙ lines_body t.body rest t.plain ∙ ap (λ (k : List ℕ). k ∷ lines_in rest) (sym t.is)

lines_last : (l : List ℕ) → Line l → lines_in l ≡ l ∷ []
unfolding lines_in
lines_last l t = ap lines_in t.is ∙ lines_body t.body [] t.plain ∙ ap (λ (k : List ℕ). k ∷ []) (sym t.is)

lines_text : (ls : List (List ℕ)) (last : List ℕ) → ((l : List ℕ) → Memᴰ l ls → Line l) → Line last → lines_in (flat ls ++ last) ≡ ls ++ (last ∷ [])
unfolding flat
lines_text [] last h t = lines_last last t
lines_text (l ∷ ls) last h t =
    ap lines_in (append_assoc l (flat ls) last) ∙ lines_one l (flat ls ++ last) (h l (Memᴰ-head refl)) ∙ ap (λ (k : List (List ℕ)). l ∷ k) (lines_text ls last (λ k m. h k (Memᴰ-tail m)) t)

-- the last of some lines
last_same : (xs ys : List (List ℕ)) (x y : List ℕ) → xs ++ (x ∷ []) ≡ ys ++ (y ∷ []) → (xs ≡ ys) × (x ≡ y)
last_same [] [] x y e = (refl, let z : x ≡ y = cc in z)
last_same [] (b ∷ ys) x y e = absurd (omega (arith, ap length e, length-append ys (y ∷ [])))
last_same (a ∷ xs) [] x y e = absurd (omega (arith, ap length e, length-append xs (x ∷ [])))
last_same (a ∷ xs) (b ∷ ys) x y e =
    let q = last_same xs ys x y (let z : xs ++ (x ∷ []) ≡ ys ++ (y ∷ []) = cc in z) in
    (ap₂ (λ (k : List ℕ) (ks : List (List ℕ)). k ∷ ks) (let z : a ≡ b = cc in z) q.0, q.1)

-- ---- words
abbrev SaysFinished : List ℕ → Type 0
SaysFinished l = take (length finished_word) l ≡ finished_word

-- a letter of the word
letter : (l : List ℕ) (i : ℕ) → SaysFinished l → at (take 8 l) i ≡ at finished_word i
letter l i e = ap (λ (k : List ℕ). at k i) e

not_refused : (ns : List ℕ) → SaysFinished (line refused_word ns) → ⊥
unfolding line at
not_refused ns e = let z : ◌≡◌ {A = ℕ} 114 102 = letter (line refused_word ns) 0 e in omega arith

not_spent : (plans made : ℕ) (f : Figure) → SaysFinished (ending_line (spent plans made) f) → ⊥
unfolding ending_line line at
not_spent plans made (number k) e = let z : ◌≡◌ {A = ℕ} 115 102 = letter (line spent_word (plans ∷ made ∷ k ∷ [])) 0 e in omega arith
not_spent plans made dash e = let z : ◌≡◌ {A = ℕ} 115 102 = letter (figure_line spent_word plans made dash) 0 e in omega arith

not_full : (plans made : ℕ) (f : Figure) → SaysFinished (ending_line (full plans made) f) → ⊥
unfolding ending_line line at
not_full plans made (number k) e = let z : ◌≡◌ {A = ℕ} 117 105 = letter (line full_word (plans ∷ made ∷ k ∷ [])) 1 e in omega arith
not_full plans made dash e = let z : ◌≡◌ {A = ℕ} 117 105 = letter (figure_line full_word plans made dash) 1 e in omega arith

empty : (l : List (List ℕ)) → length l ≡ 0 → l ≡ []
empty [] e = refl
empty (x ∷ l) e = absurd (omega arith)

-- ---- the report
module _ (input : List ℕ) where
  abbrev b : List ℕ
  b = sheet_in input

  abbrev room : List ℕ
  room = replicate (4096 * (problem_of b).variables) 0

  refuses : (number item : ℕ) → verdict_of (sheet_in input) ≡ refused number item → lines_in (report_of input) ≡ line refused_word (number ∷ item ∷ []) ∷ []
  unfolding report_of report_for
  refuses n i e = ap lines_in (ap (λ (v : Verdict). report_for v b) e) ∙ lines_last (line refused_word (n ∷ i ∷ [])) (line_is refused_word (n ∷ i ∷ []) plain_refused)

  module _ (good : verdict_of (sheet_in input) ≡ accepted) where
    ran : (e : Ending) × (answer_by (sheet_input (sheet_in input)) REPORT_LIMIT (replicate (4096 * (problem_of (sheet_in input)).variables) 0) ≡ ended e)
    ran = (demanded_sheet b).ends good REPORT_LIMIT room

    abbrev e : Ending
    e = ran.0

    long : length {A = ℕ} (replicate (4096 * (problem_of (sheet_in input)).variables) 0) ≡ 4096 * (problem_of (sheet_in input)).variables
    long = length-replicate {A = ℕ} (4096 * (problem_of b).variables) 0

    listed : ((result_of (problem_of (sheet_in input)) REPORT_LIMIT (4096 * (problem_of (sheet_in input)).variables)).rows ≡ take (plans_in ran.0) (leaders_of (sheet_in input)))
        × ((result_of (problem_of (sheet_in input)) REPORT_LIMIT (4096 * (problem_of (sheet_in input)).variables)).ending ≡ ran.0)
    listed =
        let s = same_result (problem_of b) (sound_sheet b good).well REPORT_LIMIT (length room) in (
          ap (λ (k : ℕ). (result_of (problem_of b) REPORT_LIMIT k).rows) (sym long) ∙ sym s.1 ∙ sym (rows_held (sheet_input b) (sound_sheet b) REPORT_LIMIT room e ran.1)
              ∙ (demanded_sheet b).first_part REPORT_LIMIT room e ran.1 ∙ ap (take (plans_in e)) (sheet_leaders b good),
          ap (λ (k : ℕ). (result_of (problem_of b) REPORT_LIMIT k).ending) (sym long) ∙ sym s.0 ∙ (ran_by (sheet_input b) REPORT_LIMIT room e ran.1).so,
        )

    text : report_of input ≡ flat (map (line plan_word) (take (plans_in ran.0) (leaders_of (sheet_in input)))) ++ ending_line ran.0 (report_figure (sheet_in input) REPORT_LIMIT)
    unfolding report_of report_for result_text
    text =
        ap (λ (v : Verdict). report_for v b) good
        ∙ ap₂ (λ (rows : List (List ℕ)) (x : Ending). flat (map (line plan_word) rows) ++ ending_line x (report_figure b REPORT_LIMIT)) listed.0 listed.1

    plan_is : (rows : List (List ℕ)) (l : List ℕ) → Memᴰ l (map (line plan_word) rows) → Line l
    plan_is rows l m = let q = Memᴰ-of_map (line plan_word) rows m in subst Line q.2 (line_is plan_word q.0 plain_plan)

    lines : lines_in (report_of input) ≡ map (line plan_word) (take (plans_in ran.0) (leaders_of (sheet_in input))) ++ (ending_line ran.0 (report_figure (sheet_in input) REPORT_LIMIT) ∷ [])
    lines =
        let rows = take (plans_in e) (leaders_of b) in
        ap lines_in text ∙ lines_text (map (line plan_word) rows) (ending_line e (report_figure b REPORT_LIMIT)) (plan_is rows) (ending_is e (report_figure b REPORT_LIMIT))

    ends : ReportEnds (sheet_in input) (lines_in (report_of input)) ran.0
    ends =
        let c = (demanded_sheet b).counts REPORT_LIMIT room e ran.1 in
        record { lines_are = lines; allowed = c.0; counts = subst₂ (λ (p : Problem) (k : ℕ). CountsAt p REPORT_LIMIT k e) ((sheet_run b).tree good) long c.1 }

    -- an ending that is finished
    whole : (plans made : ℕ) → ran.0 ≡ finished plans made → (ls : List (List ℕ)) →
        ls ≡ map (line plan_word) (take (plans_in ran.0) (leaders_of (sheet_in input))) → ReportFinished (sheet_in input) ls
    whole plans made f ls q =
        let d = demanded_sheet b in
        let a : answer_by (sheet_input b) REPORT_LIMIT room ≡ ended (finished plans made) = ran.1 ∙ ap ended f in
        let lists = d.lists_leaders REPORT_LIMIT room plans made a ∙ sheet_leaders b good in
        let all : take (plans_in e) (leaders_of b) ≡ leaders_of b =
        ap (λ (x : Ending). take (plans_in x) (leaders_of b)) f ∙ ap (take plans) (sym (sheet_leaders b good)) ∙ sym (d.first_part REPORT_LIMIT room (finished plans made) a) ∙ lists in
        let is : ls ≡ map (line plan_word) (leaders_of b) = q ∙ ap (map (line plan_word)) all in
        let some : length (leaders_of b) ≡ plans = ap length (sym lists) ∙ length_listed (problem_of b).variables plans (list_by (sheet_input b) REPORT_LIMIT room) in
        let n = d.nothing_listed REPORT_LIMIT room plans made a in
        record {
          accepts = good;
          all_leaders = is;
          chains = sheet_chains b good;
          nothing = (
            λ z. n.0 (sym some ∙ sym (length-map (leaders_of b) (line plan_word)) ∙ sym (ap length is) ∙ ap length z),
            λ none. is ∙ empty (map (line plan_word) (leaders_of b)) (length-map (leaders_of b) (line plan_word) ∙ some ∙ n.1 none),
          );
        }

    says : (before : List (List ℕ)) (last : List ℕ) → lines_in (report_of input) ≡ before ++ (last ∷ []) → SaysFinished last → ReportFinished (sheet_in input) before
    says before last h w = go ran.0 refl
      where
        split : (before ≡ map (line plan_word) (take (plans_in ran.0) (leaders_of (sheet_in input)))) × (last ≡ ending_line ran.0 (report_figure (sheet_in input) REPORT_LIMIT))
        split = last_same before (map (line plan_word) (take (plans_in e) (leaders_of b))) last (ending_line e (report_figure b REPORT_LIMIT)) (sym h ∙ lines)

        go : (x : Ending) → ran.0 ≡ x → ReportFinished (sheet_in input) before
        go (finished plans made) q = whole plans made q before split.0
        go (spent plans made) q = absurd (not_spent plans made (report_figure b REPORT_LIMIT) (subst SaysFinished (split.1 ∙ ap (λ (x : Ending). ending_line x (report_figure b REPORT_LIMIT)) q) w))
        go (full plans made) q = absurd (not_full plans made (report_figure b REPORT_LIMIT) (subst SaysFinished (split.1 ∙ ap (λ (x : Ending). ending_line x (report_figure b REPORT_LIMIT)) q) w))

  held : ReportHeld input
  held = record {
    refuses = refuses;
    ends = λ good. ((ran good).0, ends good);
    finished = λ before last h w. go before last h w (verdict_of b) refl;
  }
    where
      go : (before : List (List ℕ)) (last : List ℕ) → lines_in (report_of input) ≡ before ++ (last ∷ []) → SaysFinished last →
          (v : Verdict) → verdict_of (sheet_in input) ≡ v → ReportFinished (sheet_in input) before
      go before last h w accepted q = says q before last h w
      go before last h w (refused n i) q =
          absurd (not_refused (n ∷ i ∷ []) (subst SaysFinished (last_same before [] last (line refused_word (n ∷ i ∷ [])) (sym h ∙ refuses n i q)).1 w))

pub reported : Reported
reported = held
