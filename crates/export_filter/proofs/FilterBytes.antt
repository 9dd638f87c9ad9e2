-- What a caller of the filter holds in bytes (specs/FilterBytes). Assumes nothing.
use Rattle.model.specs.Kit.{◌≡◌, refl, sym, ap, ap₂, ◌∙◌, Bool, true, false, inl, inr, List, [], ◌∷◌, ℕ, zero, suc, ◌+◌, ◌*◌, ◌/◌, ◌%◌, ◌^◌, ◌<◌, arith, length, eqb, leb, ltb, ltb-true, ltb-false}
use Rattle.model.specs.Nogood.{FilterEnding, failed, entailed, consistent, FilterAnswer, entries, first_wrong, filter_ending, filter_verdict, filter_answer, sets_after}
use Rattle.model.specs.{Lists.at, Lists.both, Verdict.Verdict, Verdict.accepted, Verdict.ask, Verdict.reply}
use Rattle.model.proofs.{Lists.at_out, Demands.reply_refused}
use Rattle.std.proofs.Common.{Result, Ok, Err}
use Rattle.model.specs.{Refusals.number_of, declared.refusals.Refusal.Refusal, declared.refusals.Question.TheVariants.Sets, declared.refusals.Question.TheVariants.ListLengths}
use Rattle.model.specs.declared.refusals.Question.TheVariants as question
use Rattle.filter.specs.declared.Ending.TheVariants.{Failed, Entailed, Consistent}
use Rattle.filter.specs.{Meaning.means, FilterCalls.CallFilter, FilterCalls.EntryRight, FilterCalls.ListsRight, declared.Ending.Ending}
use Rattle.filter.proofs.FilterCalls.{filter_calls}
use Rattle.export_filter.specs.{Filter.filter_answer_code, Filter.sets_in, Filter.bytes_of, Filter.filtered_bytes, FilterBytes.code_of, FilterBytes.BytesHeldClaim}
use Rattle.export_filter.proofs.{SetBytes.length_sets, SetBytes.at_sets, SetBytes.bytes_back, Filtered.odd_code, Filtered.odd_bytes, Filtered.even_code, Filtered.even_bytes}

-- every answer of the definition is one of the code's
abbrev Told : FilterAnswer → Type 0
Told x = (r : Result Ending Refusal) × (means r ≡ x)

asked : (s l e : Bool) (wrong : ℕ) (end : FilterEnding) → Told (reply (ask s 17 0 (ask l 18 0 (ask e 19 wrong accepted))) end)
asked false l e wrong end = (Err (record { question = Sets; item = 0 }), refl)
asked true false e wrong end = (Err (record { question = ListLengths; item = 0 }), refl)
asked true true false wrong end = (Err (record { question = question.Entry; item = wrong }), refl)
asked true true true wrong failed = (Ok Failed, refl)
asked true true true wrong entailed = (Ok Entailed, refl)
asked true true true wrong consistent = (Ok Consistent, refl)

told : (ds xs es us : List ℕ) → Told (filter_answer ds xs es us)
unfolding filter_answer filter_verdict
told ds xs es us =
    asked (both (leb 1 (length ds)) (leb (length ds) 12)) (both (both (eqb (length es) (length xs)) (eqb (length us) (length xs))) (leb (length xs) 192))
    (eqb (first_wrong (length ds) xs es us) (length xs)) (first_wrong (length ds) xs es us) (filter_ending ds (entries xs es us))

told_code : (r : Result Ending Refusal) → filter_answer_code (means r) ≡ code_of r
told_code (Ok Failed) = refl
told_code (Ok Entailed) = refl
told_code (Ok Consistent) = refl
told_code (Err refused_by) = refl

-- sets written and read again
sets_back : (ss : List ℕ) → sets_in (bytes_of ss) ≡ ss
unfolding sets_in bytes_of
sets_back [] = refl
sets_back (s ∷ ss) = let e : s % 256 + 256 * (s / 256) ≡ s = omega arith in ap₂ (λ (x : ℕ) (r : List ℕ). x ∷ r) e (sets_back ss)

module _ (b : List ℕ) (bytes : (i : ℕ) → at b i < 256) (twice : length b ≡ 2 * (length b / 2)) where
  sets_small : (x : ℕ) → at (sets_in b) x < 2 ^ 16
  unfolding at
  sets_small x = go (ltb x (length b / 2)) refl
    where
      go : (c : Bool) → ltb x (length b / 2) ≡ c → at (sets_in b) x < 2 ^ 16
      go true e =
          let l = bytes (2 * x) in
          let h = bytes (2 * x + 1) in
          omega (arith, at_sets b (length b / 2) twice x (ltb-true x (length b / 2) e))
      go false e =
          let z = at_out (sets_in b) x (let l = length_sets b (length b / 2) twice in let k = ltb-false x (length b / 2) e in omega arith) in
          omega arith

pub bytes_held : BytesHeldClaim
unfolding filtered_bytes sets_after filter_answer at
bytes_held b xs es us code b' bytes c = record {
  odd = λ o. (c.answers ∙ sym (odd_code b xs es us o), c.leaves ∙ sym (odd_bytes b xs es us o));
  even = λ e. (
    (answer e).0,
    c.answers ∙ sym (even_code b xs es us e) ∙ ap filter_answer_code (sym (answer e).1) ∙ told_code (answer e).0,
    filter_calls (sets_in b) xs es us (answer e).0 (sets_in b') (sets_small b bytes (twice e)) (call e),
    λ refused_by q. kept e refused_by q,
  );
}
  where
    twice : length b % 2 ≡ 0 → length b ≡ 2 * (length b / 2)
    twice e = omega arith

    answer : length b % 2 ≡ 0 → (r : Result Ending Refusal) × (means r ≡ filter_answer (sets_in b) xs es us)
    answer e = told (sets_in b) xs es us

    call : (e : length b % 2 ≡ 0) → CallFilter (sets_in b) xs es us (answer e).0 (sets_in b')
    call e = record {
      answers = (answer e).1;
      leaves = ap sets_in (c.leaves ∙ sym (even_bytes b xs es us e)) ∙ sets_back (sets_after (filter_verdict (sets_in b) xs es us) (sets_in b) (entries xs es us));
    }

    kept : (e : length b % 2 ≡ 0) (refused_by : Refusal) → (answer e).0 ≡ Err refused_by → b' ≡ b
    kept e refused_by q =
        let v = reply_refused (filter_verdict (sets_in b) xs es us) (filter_ending (sets_in b) (entries xs es us)) (number_of refused_by.question) refused_by.item
        (sym (answer e).1 ∙ ap means q) in
        c.leaves ∙ sym (even_bytes b xs es us e) ∙ ap (λ (w : Verdict). bytes_of (sets_after w (sets_in b) (entries xs es us))) v ∙ bytes_back b (length b / 2) (twice e) (λ i. bytes i)

-- 001's four nogoods on six sets are right lists, so what is said of right lists is said of something
pub right_met : ListsRight (6 ∷ 6 ∷ 6 ∷ 2 ∷ 2 ∷ 6 ∷ []) (0 ∷ 1 ∷ 2 ∷ 3 ∷ 4 ∷ 2 ∷ 5 ∷ 0 ∷ []) (255 ∷ 1 ∷ 255 ∷ 1 ∷ 1 ∷ 255 ∷ 2 ∷ 255 ∷ []) (2 ∷ 255 ∷ 1 ∷ 255 ∷ 255 ∷ 2 ∷ 255 ∷ 1 ∷ [])
unfolding at
right_met = record { sets = (omega arith, omega arith); lengths = (refl, refl, omega arith); entry = each }
  where
    each : (j : ℕ) → j < 8 → EntryRight 6 (0 ∷ 1 ∷ 2 ∷ 3 ∷ 4 ∷ 2 ∷ 5 ∷ 0 ∷ []) (255 ∷ 1 ∷ 255 ∷ 1 ∷ 1 ∷ 255 ∷ 2 ∷ 255 ∷ []) (2 ∷ 255 ∷ 1 ∷ 255 ∷ 255 ∷ 2 ∷ 255 ∷ 1 ∷ []) j
    each zero l = (omega arith, inr (refl, omega arith))
    each (suc zero) l = (omega arith, inl (omega arith, refl))
    each (suc (suc zero)) l = (omega arith, inr (refl, omega arith))
    each (suc (suc (suc zero))) l = (omega arith, inl (omega arith, refl))
    each (suc (suc (suc (suc zero)))) l = (omega arith, inl (omega arith, refl))
    each (suc (suc (suc (suc (suc zero))))) l = (omega arith, inr (refl, omega arith))
    each (suc (suc (suc (suc (suc (suc zero)))))) l = (omega arith, inl (omega arith, refl))
    each (suc (suc (suc (suc (suc (suc (suc zero))))))) l = (omega arith, inr (refl, omega arith))
    each (suc (suc (suc (suc (suc (suc (suc (suc j)))))))) l = absurd (omega arith)
