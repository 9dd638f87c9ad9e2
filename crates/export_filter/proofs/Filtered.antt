-- The filter's code and bytes: the item of a refusal is below 256; an odd number of bytes, too many sets, and a refusal. Assumes nothing.
use Rattle.model.specs.Kit.{◌≡◌, refl, sym, ap, ◌∙◌, Bool, true, false, not, List, ℕ, zero, suc, ◌*◌, ◌%◌, ◌≤◌, ◌<◌, arith, eqb, leb, length, get_or, eq-eqb, ne_eqb, lt-leb, leb-true}
use Rattle.model.specs.Nogood.{refusal, entry_ok, entries, first_wrong, filter_verdict, filter_answer, filter_ending, sets_after}
use Rattle.model.specs.{Lists.both, Lists.at, ValueSets.least, ValueSets.least_step, Verdict.Verdict, Verdict.accepted, Verdict.refused, Verdict.ask, Verdict.reply}
use Rattle.wire.specs.Wire.{wrong_length}
use Rattle.wire.proofs.Codes.{Small, ask_small}
use Rattle.export_filter.specs.Filter.{filter_answer_code, sets_in, bytes_of, filtered_bytes, filter_code, filter_bytes, SmallAnswer}
use Rattle.export_filter.proofs.SetBytes.{length_sets, bytes_back}
use Rattle.model.proofs.Lists.{both_second}

-- ---- the filter's questions
least_most : (k : ℕ) (f : ℕ → Bool) → least k f ≤ k
unfolding least
least_most zero f = omega arith
least_most (suc k) f = go (f 0) (least_most k (λ v. f (suc v)))
  where
    go : (b : Bool) → least k (λ v. f (suc v)) ≤ k → least_step b (least k (λ v. f (suc v))) ≤ suc k
    go true h = omega arith
    go false h = omega arith

filter_small : (ds xs es us : List ℕ) → Small (filter_verdict ds xs es us)
unfolding filter_verdict first_wrong
filter_small ds xs es us =
    let n = length ds in
    let m = length xs in
    let z : 0 < 256 = omega arith in
    let wrong = first_wrong n xs es us in
    let c17 = both (leb 1 n) (leb n 12) in
    let c18 = both (both (eqb (length es) m) (eqb (length us) m)) (leb m 192) in
    let v18 = ask (eqb wrong m) 19 wrong accepted in
    let most : wrong ≤ m = least_most m (λ j. not (entry_ok n (at xs j) (at es j) (at us j))) in
    ask_small c17 17 0 (ask c18 18 0 v18) z
    (λ e. ask_small c18 18 0 v18 z
    (λ few. ask_small (eqb wrong m) 19 wrong accepted (omega (arith, most, leb-true m 192 (both_second (both (eqb (length es) m) (eqb (length us) m)) (leb m 192) few))) (λ e. tt)))

pub answer_small : (ds xs es us : List ℕ) → SmallAnswer (filter_answer ds xs es us)
unfolding filter_answer
answer_small ds xs es us = go (filter_verdict ds xs es us) (filter_small ds xs es us)
  where
    go : (v : Verdict) → Small v → SmallAnswer (reply v (filter_ending ds (entries xs es us)))
    go accepted s = tt
    go (refused number item) s = s

module _ (sets xs es us : List ℕ) where
  pub odd_code : (length sets % 2 ≡ 0 → ⊥) → wrong_length ≡ filter_code sets xs es us
  unfolding filter_code
  odd_code h = sym (ap {B = ℕ} (λ (b : Bool). elim b [ true ↦ filter_answer_code (filter_answer (sets_in sets) xs es us) | false ↦ wrong_length ]) (ne_eqb (length sets % 2) 0 h))

  pub odd_bytes : (length sets % 2 ≡ 0 → ⊥) → sets ≡ filter_bytes sets xs es us
  unfolding filter_bytes
  odd_bytes h = sym (ap {B = List ℕ} (λ (b : Bool). elim b [ true ↦ filtered_bytes sets xs es us | false ↦ sets ]) (ne_eqb (length sets % 2) 0 h))

  pub even_code : length sets % 2 ≡ 0 → filter_answer_code (filter_answer (sets_in sets) xs es us) ≡ filter_code sets xs es us
  unfolding filter_code
  even_code h = sym (ap {B = ℕ} (λ (b : Bool). elim b [ true ↦ filter_answer_code (filter_answer (sets_in sets) xs es us) | false ↦ wrong_length ]) (eq-eqb (length sets % 2) 0 h))

  pub even_bytes : length sets % 2 ≡ 0 → filtered_bytes sets xs es us ≡ filter_bytes sets xs es us
  unfolding filter_bytes
  even_bytes h = sym (ap {B = List ℕ} (λ (b : Bool). elim b [ true ↦ filtered_bytes sets xs es us | false ↦ sets ]) (eq-eqb (length sets % 2) 0 h))

  -- a refusal leaves the bytes as they came
  pub refused_bytes : (n number item : ℕ) → length sets ≡ 2 * n → ((i : ℕ) → get_or sets i 0 < 256) → filter_verdict (sets_in sets) xs es us ≡ refused number item → sets ≡ filtered_bytes sets xs es us
  unfolding filtered_bytes sets_after
  refused_bytes n number item h bytes e = sym (ap (λ (v : Verdict). bytes_of (sets_after v (sets_in sets) (entries xs es us))) e ∙ bytes_back sets n h bytes)

  -- more than twelve sets
  pub many : (n : ℕ) → length sets ≡ 2 * n → 12 < n → filter_verdict (sets_in sets) xs es us ≡ refused 17 0
  unfolding filter_verdict
  many n h k =
      let e : length (sets_in sets) ≡ n = length_sets sets n h in
      let m = length (sets_in sets) in
      let wrong = first_wrong m xs es us in
      let v = ask (both (both (eqb (length es) (length xs)) (eqb (length us) (length xs))) (leb (length xs) 192)) 18 0 (ask (eqb wrong (length xs)) 19 wrong accepted) in
      ap (λ (b : Bool). ask b 17 0 v) (not_both (leb 1 m) (leb m 12) (lt-leb m 12 (omega arith)))
    where
      not_both : (a b : Bool) → b ≡ false → both a b ≡ false
      not_both true b e = e
      not_both false b e = refl

  -- a refusal by the questions is the answer
  pub answer_refused : (number item : ℕ) → filter_verdict (sets_in sets) xs es us ≡ refused number item → filter_answer (sets_in sets) xs es us ≡ refusal number item
  unfolding filter_answer
  answer_refused number item e = ap (λ (v : Verdict). reply v (filter_ending (sets_in sets) (entries xs es us))) e
