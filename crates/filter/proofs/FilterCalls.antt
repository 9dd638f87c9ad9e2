-- What a caller of `filter` holds (specs/FilterCalls), from its contract and model's theorems. Assumes nothing.
use Rattle.model.specs.Kit.{◌≡◌, refl, sym, ap, ap₂, ◌∙◌, subst, ◌⊎◌, inl, inr, ⊎_elim, ◌↔◌, Bool, true, not, List, [], ◌∷◌, ℕ, zero, suc, ◌^◌, ◌<◌, arith, T, T_not, not_T, eqb, leb, ltb, eqb→eq}
use Rattle.model.specs.Kit.{leb→le, ltb→lt, eqb_refl, length, get_or, replicate, eq-eqb, ne_eqb, lt-ltb, le-leb}
use Rattle.model.specs.Verdict.{Verdict, accepted, refused, ask, reply}
use Rattle.model.specs.Nogood.{Entry, equality, disequality, is, obeys_from, obeys, filtered, FilterEnding, failed, entailed, consistent, filter_ending, mark, Kind, is_equality, is_disequality}
use Rattle.model.specs.Nogood.{both_absent, both_present, kind_by, kind_of, value_ok, entry_in, entry_of, entry_ok, entries, first_wrong, filter_verdict, sets_after, refusal, answered, filter_answer}
use Rattle.model.specs.{Lists.at, Lists.both, ValueSets.has, NogoodClaims.CaseOf, NogoodClaims.Entails, Inner.Endings.Fails, Claims.Drawn}
use mathlib.Core.Logic.{∥∥₁_elim, ∥∥₁_prop}
use Rattle.model.proofs.{Lists.both_i, Lists.both_l, Lists.both_r, Lists.not_of, Lists.get_d_at, Lists.never, Assignments.drawn_i, Assignments.drawn_e, Filter.length_filtered, Filter.filtered_sets}
use Rattle.model.proofs.{EntryKinds.kind_holds, Endings.failed_exactly, Endings.entailed_exactly, Endings.consistent_exactly, Demands.filter_keeps, Demands.filter_empties}
use Rattle.std.proofs.Common.{Result, Ok, Err}
use Rattle.model.specs.{Refusals.number_of, declared.refusals.Question.Question, declared.refusals.Refusal.Refusal}
use Rattle.model.specs.declared.refusals.Question.TheVariants as question
use Rattle.filter.specs.declared.Ending.TheVariants.{Failed, Entailed, Consistent}
use Rattle.filter.specs.FilterCalls.{CallFilter, SetsRight, LengthsRight, EntryRight, ListsRight, Breaks, Obeys, NoneObeys, EveryObeys, FilterCalls}
use Rattle.filter.specs.{declared.Ending.Ending, Meaning.means}
use Rattle.filter.proofs.Named.{named, by_number}
use Rattle.filter.proofs.Questions.{wrong_at, wrong_none, wrong_entry, all_right}

-- ---- an entry that is right
abbrev RightMarks : ℕ → ℕ → Type 0
RightMarks e u = ((e < 16) × (u ≡ mark)) ⊎ ((e ≡ mark) × (u < 16))

equality_is : (x e u : ℕ) → e < 16 → u ≡ mark → entry_of x e u ≡ equality x e
equality_is x e u l q = ap₂ (λ (b c : Bool). entry_in (kind_by b c) x e u) (ne_eqb e mark (λ z. omega arith)) (eq-eqb u mark q)

disequality_is : (x e u : ℕ) → e ≡ mark → u < 16 → entry_of x e u ≡ disequality x u
disequality_is x e u q l = ap₂ (λ (b c : Bool). entry_in (kind_by b c) x e u) (eq-eqb e mark q) (ne_eqb u mark (λ z. omega arith))

ok_i : (n x e u : ℕ) → x < n → RightMarks e u → entry_ok n x e u ≡ true
ok_i n x e u l m =
    ap₂ both (lt-ltb x n l)
    (⊎_elim {C = value_ok (kind_of e u) e u ≡ true}
    (λ q. ap₂ (λ (b c : Bool). value_ok (kind_by b c) e u) (ne_eqb e mark (λ z. let y = q.0 in omega arith)) (eq-eqb u mark q.1) ∙ lt-ltb e 16 q.0)
    (λ q. ap₂ (λ (b c : Bool). value_ok (kind_by b c) e u) (eq-eqb e mark q.0) (ne_eqb u mark (λ z. let y = q.1 in omega arith)) ∙ lt-ltb u 16 q.1) m)

ok_e : (n x e u : ℕ) → T (entry_ok n x e u) → (x < n) × RightMarks e u
ok_e n x e u t = (ltb→lt x n (both_l (ltb x n) (value_ok (kind_of e u) e u) t), go (kind_of e u) (kind_holds e u) (both_r (ltb x n) (value_ok (kind_of e u) e u) t))
  where
    go : (k : Kind) → CaseOf k e u → T (value_ok k e u) → RightMarks e u
    go is_equality c t = inl (ltb→lt e 16 t, c.1)
    go is_disequality c t = inr (c.0, ltb→lt u 16 t)
    go both_absent c t = absurd t
    go both_present c t = absurd t

-- ---- obeying the entries is obeying the nogoods of the lists
module _ (a : List ℕ) where
  hit_e : (x v : ℕ) → x < length a → T (is a x v) → at a x ≡ v
  hit_e x v l t = sym (get_d_at a x 16 l) ∙ eqb→eq (get_or a x 16) v t

  hit_i : (x v : ℕ) → x < length a → at a x ≡ v → T (is a x v)
  hit_i x v l e = subst (λ (n : ℕ). T (eqb n v)) (sym (get_d_at a x 16 l ∙ e)) (eqb_refl v)

  abbrev AllRight : List ℕ → List ℕ → List ℕ → Type 0
  AllRight xs es us = (j : ℕ) → j < length xs → EntryRight (length a) xs es us j

  -- the equalities before the next entry, from those before it and the first
  before_more : (x e : ℕ) (xs es : List ℕ) (j : ℕ) → ((e ≡ mark → ⊥) → at a x ≡ e) → ((i : ℕ) → i < j → (at es i ≡ mark → ⊥) → at a (at xs i) ≡ at es i)
      → (i : ℕ) → i < suc j → (at (e ∷ es) i ≡ mark → ⊥) → at a (at (x ∷ xs) i) ≡ at (e ∷ es) i
  unfolding at
  before_more x e xs es j first rest zero l n = first n
  before_more x e xs es j first rest (suc i) l n = rest i (omega arith) n

  -- one entry, and those behind it
  module _ (x e u : ℕ) (xs es us : List ℕ) (inside : x < length a) where
    behind : (j : ℕ) → Breaks a (x ∷ xs) (e ∷ es) (u ∷ us) (suc j) → Breaks a xs es us j
    unfolding at
    behind j b = record { inside = (let l = b.inside in omega arith); valued = b.valued; held = λ i l n. b.held (suc i) (omega arith) n; taken = b.taken }

    ahead : ((e ≡ mark → ⊥) → at a x ≡ e) → (j : ℕ) → Breaks a xs es us j → Breaks a (x ∷ xs) (e ∷ es) (u ∷ us) (suc j)
    unfolding at
    ahead f j b = record { inside = (let l = b.inside in omega arith); valued = b.valued; held = before_more x e xs es j f b.held; taken = b.taken }

    module _ (held : Bool) (h : T held) (again : (k : Bool) → T (obeys_from k a (entries xs es us)) → T k → Obeys a xs es us) where
      equal_e : (e < 16) × (u ≡ mark) → T (obeys_from (both held (is a x e)) a (entries xs es us)) → (j : ℕ) → Breaks a (x ∷ xs) (e ∷ es) (u ∷ us) j → ⊥
      unfolding at
      equal_e m s zero b = b.valued m.1
      equal_e m s (suc j) b = again (both held (is a x e)) s (both_i held (is a x e) h (hit_i x e inside (b.held 0 (omega arith) (λ z. let y = m.0 in omega arith)))) j (behind j b)

      unequal_e : (e ≡ mark) × (u < 16) → T (both (not (both held (is a x u))) (obeys_from held a (entries xs es us))) → (j : ℕ) → Breaks a (x ∷ xs) (e ∷ es) (u ∷ us) j → ⊥
      unfolding at
      unequal_e m s zero b = T_not (both held (is a x u)) (both_l (not (both held (is a x u))) (obeys_from held a (entries xs es us)) s) (both_i held (is a x u) h (hit_i x u inside b.taken))
      unequal_e m s (suc j) b = again held (both_r (not (both held (is a x u))) (obeys_from held a (entries xs es us)) s) h j (behind j b)

    module _ (held : Bool) (o : T held → Obeys a (x ∷ xs) (e ∷ es) (u ∷ us)) (again : (k : Bool) → (T k → Obeys a xs es us) → T (obeys_from k a (entries xs es us))) where
      equal_i : (e < 16) × (u ≡ mark) → T (obeys_from (both held (is a x e)) a (entries xs es us))
      equal_i m = again (both held (is a x e)) (λ h j b. o (both_l held (is a x e) h) (suc j) (ahead (λ n. hit_e x e inside (both_r held (is a x e) h)) j b))

      unequal_i : (e ≡ mark) × (u < 16) → T (both (not (both held (is a x u))) (obeys_from held a (entries xs es us)))
      unfolding at
      unequal_i m =
          both_i (not (both held (is a x u))) (obeys_from held a (entries xs es us))
          (not_T (both held (is a x u)) (λ t. o (both_l held (is a x u) t) 0 record {
            inside = omega arith;
            valued = λ z. (let y = m.1 in omega arith);
            held = λ i l. absurd
                (omega arith);
            taken = hit_e x u inside (both_r held (is a x u) t);
          }))
          (again held (λ h j b. o h (suc j) (ahead (λ n. absurd (n m.0)) j b)))

  obeys_e : (xs es us : List ℕ) → length es ≡ length xs → length us ≡ length xs → AllRight xs es us → (held : Bool) → T (obeys_from held a (entries xs es us)) → T held → Obeys a xs es us
  unfolding entries obeys_from at
  obeys_e [] es us p q right held t h j b = absurd (let l = b.inside in omega arith)
  obeys_e (x ∷ xs) [] us p q right held t h j b = absurd (omega arith)
  obeys_e (x ∷ xs) (e ∷ es) [] p q right held t h j b = absurd (omega arith)
  obeys_e (x ∷ xs) (e ∷ es) (u ∷ us) p q right held t h j b =
      let first = right 0 (omega arith) in
      let again = obeys_e xs es us (omega arith) (omega arith) (λ i l. right (suc i) (omega arith)) in
      ⊎_elim {C = ⊥}
      (λ m. equal_e x e u xs es us first.0 held h again m (subst (λ (y : Entry). T (obeys_from held a (y ∷ entries xs es us))) (equality_is x e u m.0 m.1) t) j b)
      (λ m. unequal_e x e u xs es us first.0 held h again m (subst (λ (y : Entry). T (obeys_from held a (y ∷ entries xs es us))) (disequality_is x e u m.0 m.1) t) j b)
      first.1

  obeys_i : (xs es us : List ℕ) → length es ≡ length xs → length us ≡ length xs → AllRight xs es us → (held : Bool) → (T held → Obeys a xs es us) → T (obeys_from held a (entries xs es us))
  unfolding entries obeys_from at
  obeys_i [] es us p q right held o = tt
  obeys_i (x ∷ xs) [] us p q right held o = absurd (omega arith)
  obeys_i (x ∷ xs) (e ∷ es) [] p q right held o = absurd (omega arith)
  obeys_i (x ∷ xs) (e ∷ es) (u ∷ us) p q right held o =
      let first = right 0 (omega arith) in
      let again = obeys_i xs es us (omega arith) (omega arith) (λ i l. right (suc i) (omega arith)) in
      ⊎_elim {C = T (obeys_from held a (entry_of x e u ∷ entries xs es us))}
      (λ m. subst (λ (y : Entry). T (obeys_from held a (y ∷ entries xs es us))) (sym (equality_is x e u m.0 m.1)) (equal_i x e u xs es us first.0 held o again m))
      (λ m. subst (λ (y : Entry). T (obeys_from held a (y ∷ entries xs es us))) (sym (disequality_is x e u m.0 m.1)) (unequal_i x e u xs es us first.0 held o again m))
      first.1

-- ---- the call
-- an answer is known by what it means
is_failed : (r : Result Ending Refusal) → means r ≡ answered failed → r ≡ Ok Failed
is_failed (Ok Failed) e = refl
is_failed (Ok Entailed) e = never (cc)
is_failed (Ok Consistent) e = never (cc)
is_failed (Err by) e = never (cc)

is_entailed : (r : Result Ending Refusal) → means r ≡ answered entailed → r ≡ Ok Entailed
is_entailed (Ok Failed) e = never (cc)
is_entailed (Ok Entailed) e = refl
is_entailed (Ok Consistent) e = never (cc)
is_entailed (Err by) e = never (cc)

is_consistent : (r : Result Ending Refusal) → means r ≡ answered consistent → r ≡ Ok Consistent
is_consistent (Ok Failed) e = never (cc)
is_consistent (Ok Entailed) e = never (cc)
is_consistent (Ok Consistent) e = refl
is_consistent (Err by) e = never (cc)

is_refused : (r : Result Ending Refusal) (known : Question) (n i : ℕ) → ((q : Question) → named n q ≡ known) → means r ≡ refusal n i → r ≡ Err (record { question = known; item = i })
is_refused (Ok ending) known n i k e = never (cc)
is_refused (Err by) known n i k e =
    let a : number_of by.question ≡ n = cc in
    let b : by.item ≡ i = cc in
    ap₂ (λ (q : Question) (j : ℕ). Err (record { question = q; item = j })) (by_number n by.question known (k by.question) a) b

-- a question that is answered "no"
asked_no : (c : Bool) (number item : ℕ) (later : Verdict) → (T c → ⊥) → ask c number item later ≡ refused number item
asked_no c number item later n = ap (λ (b : Bool). ask b number item later) (not_of c n)

-- right lists are not refused
pub right_accepted : (ds xs es us : List ℕ) → ListsRight ds xs es us → filter_verdict ds xs es us ≡ accepted
right_accepted ds xs es us right =
    let m = length xs in
    let ok : (j : ℕ) → j < length xs → entry_ok (length ds) (at xs j) (at es j) (at us j) ≡ true = λ j l. (let q = right.entry j l in ok_i (length ds) (at xs j) (at es j) (at us j) q.0 q.1) in
    sym (all_right ds xs es us right.sets.0 right.sets.1 right.lengths.0 right.lengths.1 right.lengths.2 m (wrong_none (length ds) xs es us m (omega arith) (omega arith) ok) refl)

module _ (ds xs es us : List ℕ) (r : Result Ending Refusal) (rs : List ℕ) (small : (x : ℕ) → at ds x < 2 ^ 16) (c : CallFilter ds xs es us r rs) where
  abbrev es' : List Entry
  es' = entries xs es us

  refused_so : (number item : ℕ) (known : Question) → ((q : Question) → named number q ≡ known) → filter_verdict ds xs es us ≡ refused number item
      → (r ≡ Err (record { question = known; item = item })) × (rs ≡ ds)
  unfolding filter_answer sets_after
  refused_so number item known k e = (is_refused r known number item k (c.answers ∙ ap (λ (v : Verdict). reply v (filter_ending ds es')) e), c.leaves ∙ ap (λ (v : Verdict). sets_after v ds es') e)

  sets_test : SetsRight ds → both (leb 1 (length ds)) (leb (length ds) 12) ≡ true
  sets_test s = ap₂ both (le-leb 1 (length ds) s.0) (le-leb (length ds) 12 s.1)

  sets_wrong : (SetsRight ds → ⊥) → (r ≡ Err (record { question = question.Sets; item = 0 })) × (rs ≡ ds)
  unfolding filter_verdict
  sets_wrong n = refused_so 17 0 question.Sets (λ q. refl) (asked_no (both (leb 1 (length ds)) (leb (length ds) 12)) 17 0 _
      (λ t. n (leb→le 1 (length ds) (both_l (leb 1 (length ds)) (leb (length ds) 12) t), leb→le (length ds) 12 (both_r (leb 1 (length ds)) (leb (length ds) 12) t))))

  lengths_wrong : SetsRight ds → (LengthsRight xs es us → ⊥) → (r ≡ Err (record { question = question.ListLengths; item = 0 })) × (rs ≡ ds)
  unfolding filter_verdict
  lengths_wrong s n =
      let e = eqb (length es) (length xs) in
      let u = eqb (length us) (length xs) in
      let m = leb (length xs) 192 in
      let last = ask (eqb (first_wrong (length ds) xs es us) (length xs)) 19 (first_wrong (length ds) xs es us) accepted in
      refused_so 18 0 question.ListLengths (λ q. refl)
      (ap (λ (b : Bool). ask b 17 0 (ask (both (both e u) m) 18 0 last)) (sets_test s)
      ∙ asked_no (both (both e u) m) 18 0 last (λ t. n (
        eqb→eq (length es) (length xs) (both_l e u (both_l (both e u) m t)),
        eqb→eq (length us) (length xs) (both_r e u (both_l (both e u) m t)),
        leb→le (length xs) 192 (both_r (both e u) m t),
      )))

  entry_wrong : SetsRight ds → LengthsRight xs es us →
      (j : ℕ) → j < length xs → ((i : ℕ) → i < j → EntryRight (length ds) xs es us i) → (EntryRight (length ds) xs es us j → ⊥) → (r ≡ Err (record { question = question.Entry; item = j })) × (rs ≡ ds)
  entry_wrong s l j b before n =
      let w = wrong_at (length ds) xs es us j b (λ i k. let q = before i k in ok_i (length ds) (at xs i) (at es i) (at us i) q.0 q.1)
      (not_of (entry_ok (length ds) (at xs j) (at es j) (at us j)) (λ t. n (ok_e (length ds) (at xs j) (at es j) (at us j) t))) in
      refused_so 19 j question.Entry (λ q. refl) (sym (wrong_entry ds xs es us s.0 s.1 l.0 l.1 l.2 j w (λ z. omega arith)))

  after_sized : (v : Verdict) → length (sets_after v ds (entries xs es us)) ≡ length ds
  unfolding sets_after
  after_sized accepted = length_filtered ds es'
  after_sized (refused number item) = refl

  module _ (right : ListsRight ds xs es us) where
    abbrev accepted_so : filter_verdict ds xs es us ≡ accepted
    accepted_so = right_accepted ds xs es us right

    left : rs ≡ filtered ds (entries xs es us)
    unfolding sets_after
    left = c.leaves ∙ ap (λ (v : Verdict). sets_after v ds es') accepted_so

    ended : means r ≡ answered (filter_ending ds (entries xs es us))
    unfolding filter_answer
    ended = c.answers ∙ ap (λ (v : Verdict). reply v (filter_ending ds es')) accepted_so

    -- an assignment of as many values
    right_for : (a : List ℕ) → length a ≡ length ds → AllRight a xs es us
    right_for a e j l = let q = right.entry j l in (subst (λ (n : ℕ). at xs j < n) (sym e) q.0, q.1)

    to : (a : List ℕ) → length a ≡ length ds → T (obeys a (entries xs es us)) → Obeys a xs es us
    to a e t = obeys_e a xs es us right.lengths.0 right.lengths.1 (right_for a e) true t tt

    from : (a : List ℕ) → length a ≡ length ds → Obeys a xs es us → T (obeys a (entries xs es us))
    from a e o = obeys_i a xs es us right.lengths.0 right.lengths.1 (right_for a e) true (λ h. o)

    keeps : (x v : ℕ) → x < length ds → T (has (at rs x) v) ↔ ∥ ((a : List ℕ) × Drawn ds a × Obeys a xs es us × (at a x ≡ v)) ∥₁
    keeps x v l =
        let k = filter_keeps ds es' small x v l in
        let P = ∥ ((a : List ℕ) × Drawn ds a × Obeys a xs es us × (at a x ≡ v)) ∥₁ in
        let Q = ∥ ((a : List ℕ) × Drawn ds a × T (obeys a es') × (at a x ≡ v)) ∥₁ in (
          λ t. ∥∥₁_elim (k.0 (subst (λ (z : List ℕ). T (has (at z x) v)) left t)) ∥∥₁_prop (λ q. ∣ (q.0, q.1, to q.0 q.1.0 q.2, q.3) ∣₁),
          λ p. subst (λ (z : List ℕ). T (has (at z x) v)) (sym left) (k.1 (∥∥₁_elim p ∥∥₁_prop (λ q. ∣ (q.0, q.1, from q.0 q.1.0 q.2, q.3) ∣₁))),
        )

    none_e : Fails ds (entries xs es us) → NoneObeys ds xs es us
    none_e f a d o = f a (drawn_i ds a small d) (from a d.0 o)

    none_i : NoneObeys ds xs es us → Fails ds (entries xs es us)
    none_i n a m t = let d = drawn_e ds a m in n a d (to a d.0 t)

    left_sized : length rs ≡ length ds
    left_sized = ap length left ∙ length_filtered ds es'

    every_e : Entails (filtered ds (entries xs es us)) (entries xs es us) → EveryObeys rs xs es us
    every_e h a d = to a (d.0 ∙ left_sized) (h a (drawn_i (filtered ds es') a (filtered_sets ds es').1 (subst (λ (z : List ℕ). Drawn z a) left d)))

    every_i : EveryObeys rs xs es us → Entails (filtered ds (entries xs es us)) (entries xs es us)
    every_i h a m = let d : Drawn rs a = subst (λ (z : List ℕ). Drawn z a) (sym left) (drawn_e (filtered ds es') a m) in from a (d.0 ∙ left_sized) (h a d)

    so : (e : FilterEnding) → answered (filter_ending ds (entries xs es us)) ≡ answered e → filter_ending ds (entries xs es us) ≡ e
    so e h = cc

    fails : (r ≡ Ok Failed) ↔ NoneObeys ds xs es us
    fails =
        let x = failed_exactly ds es' in (
          λ e. none_e (x.0 (so failed (sym ended ∙ ap means e))),
          λ n. is_failed r (ended ∙ ap answered (x.1 (none_i n))),
        )

    entails : (r ≡ Ok Entailed) ↔ ((NoneObeys ds xs es us → ⊥) × EveryObeys rs xs es us)
    entails =
        let x = entailed_exactly ds es' in (
          λ e. (let q = x.0 (so entailed (sym ended ∙ ap means e)) in (λ n. q.0 (none_i n), every_e q.1)),
          λ q. is_entailed r (ended ∙ ap answered (x.1 (λ f. q.0 (none_e f), every_i q.1))),
        )

    otherwise : (r ≡ Ok Consistent) ↔ ((NoneObeys ds xs es us → ⊥) × (EveryObeys rs xs es us → ⊥))
    otherwise =
        let x = consistent_exactly ds es' in (
          λ e. (let q = x.0 (so consistent (sym ended ∙ ap means e)) in (λ n. q.0 (none_i n), λ h. q.1 (every_i h))),
          λ q. is_consistent r (ended ∙ ap answered (x.1 (λ f. q.0 (none_e f), λ h. q.1 (every_e h)))),
        )

    empties : r ≡ Ok Failed → rs ≡ replicate (length ds) 0
    empties e = left ∙ filter_empties ds es' small (λ a d t. fails.0 e a d (to a d.0 t))

pub filter_calls : FilterCalls
filter_calls ds xs es us r rs small c = record {
  sized = ap length c.leaves ∙ after_sized ds xs es us r rs small c (filter_verdict ds xs es us);
  keeps = keeps ds xs es us r rs small c;
  fails = fails ds xs es us r rs small c;
  empties = empties ds xs es us r rs small c;
  entails = entails ds xs es us r rs small c;
  else = otherwise ds xs es us r rs small c;
  sets_wrong = sets_wrong ds xs es us r rs small c;
  lengths_wrong = lengths_wrong ds xs es us r rs small c;
  entry_wrong = entry_wrong ds xs es us r rs small c;
}
