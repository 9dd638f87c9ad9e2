-- What callers of the filter hold of a second call and of calls by turns (specs/FilterAgain). Assumes nothing.
use Rattle.model.specs.Kit.{◌≡◌, refl, sym, ap, ◌∙◌, subst, List, ℕ, eqb, leb, length}
use Rattle.model.specs.Nogood.{Entry, filtered, FilterEnding, filter_ending, answered, failed, entailed, consistent, entries, first_wrong, filter_verdict, filter_answer, sets_after}
use Rattle.model.specs.{Lists.both, Verdict.Verdict, Verdict.accepted, Verdict.refused, Verdict.ask, Verdict.reply}
use Rattle.model.proofs.Filter.{length_filtered}
use Rattle.std.specs.Prelude.{Result, Ok}
use Rattle.model.specs.declared.refusals.Refusal.{Refusal}
use Rattle.filter.specs.declared.Ending.TheVariants.{Failed, Entailed, Consistent}
use Rattle.filter.specs.{Meaning.ending_of, FilterCalls.CallFilter, FilterCalls.ListsRight, declared.Ending.Ending}
use Rattle.filter.proofs.FilterCalls.{right_accepted}
use Rattle.run_retyped.specs.FilterAgain.{TwiceCalls, WithinCalls, Turned, none, first, second, Still, TurnsHeld, TurnsCalls}
use Rattle.run_retyped.specs.{Retyped.Within, Inner.Turns.by_turns, Inner.Turns.Applied}
use Rattle.run_retyped.proofs.Turns.{filter_twice, filter_within, turns_largest, turns_any, turns_applied}
use Rattle.run_retyped.specs.Inner.Turns as A

-- the questions look at the number of sets alone
verdict_sized : (ds rs xs es us : List ℕ) → length rs ≡ length ds → filter_verdict rs xs es us ≡ filter_verdict ds xs es us
unfolding filter_verdict
verdict_sized ds rs xs es us l =
    ap (λ (n : ℕ). ask (both (leb 1 n) (leb n 12)) 17 0
    (ask (both (both (eqb (length es) (length xs)) (eqb (length us) (length xs))) (leb (length xs) 192)) 18 0
    (ask (eqb (first_wrong n xs es us) (length xs)) 19 (first_wrong n xs es us) accepted))) l

-- what is left, by the verdict
left : (v : Verdict) (ds xs es us : List ℕ) (r : Result Ending Refusal) (rs : List ℕ) → CallFilter ds xs es us r rs → filter_verdict ds xs es us ≡ v → rs ≡ sets_after v ds (entries xs es us)
left v ds xs es us r rs c e = c.leaves ∙ ap (λ (u : Verdict). sets_after u ds (entries xs es us)) e

after_sized : (v : Verdict) (ds : List ℕ) (es : List Entry) → length (sets_after v ds es) ≡ length ds
unfolding sets_after
after_sized accepted ds es = length_filtered ds es
after_sized (refused number item) ds es = refl

after_twice : (v : Verdict) (ds : List ℕ) (es : List Entry) → sets_after v (sets_after v ds es) es ≡ sets_after v ds es
unfolding sets_after
after_twice accepted ds es = filter_twice ds es
after_twice (refused number item) ds es = refl

after_within : (v : Verdict) (ds rs : List ℕ) (es : List Entry) → Within ds rs → Within (sets_after v ds es) (sets_after v rs es)
unfolding sets_after
after_within accepted ds rs es w = filter_within ds rs es w
after_within (refused number item) ds rs es w = w

pub twice_calls : TwiceCalls
twice_calls ds xs es us r rs c r₂ ts d = go (filter_verdict ds xs es us) refl
  where
    again : (v : Verdict) → filter_verdict ds xs es us ≡ v → filter_verdict rs xs es us ≡ v
    again v e = verdict_sized ds rs xs es us (ap length (left v ds xs es us r rs c e) ∙ after_sized v ds (entries xs es us)) ∙ e

    go : (v : Verdict) → filter_verdict ds xs es us ≡ v → ts ≡ rs
    go v e =
        let l = left v ds xs es us r rs c e in
        left v rs xs es us r₂ ts d (again v e) ∙ ap (λ (l : List ℕ). sets_after v l (entries xs es us)) l ∙ after_twice v ds (entries xs es us) ∙ sym l

pub within_calls : WithinCalls
within_calls ds ds₂ xs es us w r rs c r₂ rs₂ d = go (filter_verdict ds₂ xs es us) refl
  where
    go : (v : Verdict) → filter_verdict ds₂ xs es us ≡ v → Within rs rs₂
    go v e =
        let l = left v ds xs es us r rs c (verdict_sized ds₂ ds xs es us w.0 ∙ e) in
        let l₂ = left v ds₂ xs es us r₂ rs₂ d e in
        subst (λ (l : List ℕ). Within l rs₂) (sym l) (subst (Within (sets_after v ds (entries xs es us))) (sym l₂) (after_within v ds ds₂ (entries xs es us) w))

-- ---- by turns
-- the ending that is meant
meant : FilterEnding → Ending
meant failed = Failed
meant entailed = Entailed
meant consistent = Consistent

meant_so : (e : FilterEnding) → ending_of (meant e) ≡ e
unfolding meant
meant_so failed = refl
meant_so entailed = refl
meant_so consistent = refl

-- a list that is right for as many sets
module _ (ds xs es us : List ℕ) (right : ListsRight ds xs es us) (rs : List ℕ) (sized : length rs ≡ length ds) where
  good : filter_verdict rs xs es us ≡ accepted
  good = verdict_sized ds rs xs es us sized ∙ right_accepted ds xs es us right

  call_of : CallFilter rs xs es us (Ok (meant (filter_ending rs (entries xs es us)))) (filtered rs (entries xs es us))
  unfolding sets_after filter_answer
  call_of = record {
    answers = ap answered (meant_so (filter_ending rs (entries xs es us))) ∙ sym (ap (λ (v : Verdict). reply v (filter_ending rs (entries xs es us))) good);
    leaves =
        sym (ap (λ (v : Verdict). sets_after v rs (entries xs es us)) good);
  }

  leaves_of : (r : Result Ending Refusal) (ts : List ℕ) → CallFilter rs xs es us r ts → ts ≡ filtered rs (entries xs es us)
  unfolding sets_after
  leaves_of r ts c = left accepted rs xs es us r ts c good

module _ (xs es us xs₂ es₂ us₂ ds : List ℕ) (right : ListsRight ds xs es us) (right₂ : ListsRight ds xs₂ es₂ us₂) where
  abbrev one : List Entry
  one = entries xs es us

  abbrev two : List Entry
  two = entries xs₂ es₂ us₂

  abbrev Ended : List ℕ → Type 0
  Ended rs = Applied one two ds rs × (length rs ≡ length ds)

  applied : (rs : List ℕ) → Turned xs es us xs₂ es₂ us₂ ds rs → Ended rs
  applied rs none = (A.none, refl)
  applied rs (first qs ts r t c) =
      let a = applied qs t in
      subst Ended (sym (leaves_of ds xs es us right qs a.1 r ts c)) (A.first a.0, length_filtered qs one ∙ a.1)
  applied rs (second qs ts r t c) =
      let a = applied qs t in
      subst Ended (sym (leaves_of ds xs₂ es₂ us₂ right₂ qs a.1 r ts c)) (A.second a.0, length_filtered qs two ∙ a.1)

  -- where nothing moves
  end : (rs : List ℕ) → Turned xs es us xs₂ es₂ us₂ ds rs → Still xs es us xs₂ es₂ us₂ rs → rs ≡ by_turns one two ds
  end rs t s =
      let a = applied rs t in
      turns_any one two ds rs a.0 (sym (leaves_of ds xs es us right rs a.1 s.answer rs s.first)) (sym (leaves_of ds xs₂ es₂ us₂ right₂ rs a.1 s.answer₂ rs s.second))

  abbrev Called : List ℕ → Type 0
  Called rs = Turned xs es us xs₂ es₂ us₂ ds rs × (length rs ≡ length ds)

  called : (rs : List ℕ) → Applied one two ds rs → Called rs
  called rs A.none = (none, refl)
  called rs (A.first {rs = qs} a) =
      let c = called qs a in
      (first qs (filtered qs one) (Ok (meant (filter_ending qs (entries xs es us)))) c.0 (call_of ds xs es us right qs c.1), length_filtered qs one ∙ c.1)
  called rs (A.second {rs = qs} a) =
      let c = called qs a in
      (second qs (filtered qs two) (Ok (meant (filter_ending qs (entries xs₂ es₂ us₂)))) c.0 (call_of ds xs₂ es₂ us₂ right₂ qs c.1), length_filtered qs two ∙ c.1)

  still : Still xs es us xs₂ es₂ us₂ (by_turns one two ds)
  still =
      let rs = by_turns one two ds in
      let l = (called rs (turns_applied one two ds)).1 in
      let f = turns_largest one two ds in
      record {
        answer = Ok (meant (filter_ending rs (entries xs es us)));
        first = subst (CallFilter rs xs es us (Ok (meant (filter_ending rs (entries xs es us))))) f.first (call_of ds xs es us right rs l);
        answer₂ = Ok (meant (filter_ending rs (entries xs₂ es₂ us₂)));
        second = subst (CallFilter rs xs₂ es₂ us₂ (Ok (meant (filter_ending rs (entries xs₂ es₂ us₂))))) f.second (call_of ds xs₂ es₂ us₂ right₂ rs l);
      }

  held : TurnsHeld xs es us xs₂ es₂ us₂ ds
  held = record {
    same = λ rs ts t s t₂ s₂. end rs t s ∙ sym (end ts t₂ s₂);
    ends = (by_turns one two ds, (called (by_turns one two ds) (turns_applied one two ds)).0, still);
  }

pub turns_calls : TurnsCalls
turns_calls = held
