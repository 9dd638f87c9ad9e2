-- What a caller of `closed` holds (specs/Calls). Assumes nothing.
use Rattle.model.specs.Kit.{◌≡◌, refl, sym, ap, ap₂, ◌∙◌, ◌↔◌, ◌⊎◌, inl, inr, List, ℕ, ◌<◌, ℕ_discrete, dec_lt, arith}
use Rattle.std.specs.Prelude.{Option, None, Some, Result, Ok, Err}
use Rattle.model.specs.{Refusals.number_of, declared.refusals.Question.Question, declared.refusals.Refusal.Refusal}
use Rattle.model.specs.{Problem.Problem, Verdict.Verdict, Verdict.accepted, Verdict.refused, Verdict.reply}
use Rattle.model.proofs.Lists.{of_not, never}
use Rattle.run_input.specs.Lent.{verdict_lent, problem_with}
use Rattle.families_closed.specs.Open.{Open, none, two, made, first_open, FirstOpen}
use Rattle.families_closed.specs.{Lent.means, Lent.open_of, Lent.refusal, Lent.told, Lent.closed_lent, declared.Missing.Missing, Calls.CallClosed, Calls.ClosedHeld, Calls.ClosedCalls}
use Rattle.families_closed.proofs.Open.{all_made, open_none, open_first}

-- an answer is known by what it means
is_refused : (r : Result (Option Missing) Refusal) (number item : ℕ) → means r ≡ refusal number item → (q : Question) × (r ≡ Err (record { question = q; item = item })) × (number_of q ≡ number)
is_refused (Ok found) number item e = never (cc)
is_refused (Err refused_by) number item e =
    let i : refused_by.item ≡ item = cc in
    (refused_by.question, ap (λ (n : ℕ). Err (record { question = refused_by.question; item = n })) i, (let n : number_of refused_by.question ≡ number = cc in n))

is_found : (r : Result (Option Missing) Refusal) (f : Option Missing) → means r ≡ told (open_of f) → r ≡ Ok f
is_found (Ok found) f e = ap Ok (go found f (let o : open_of found ≡ open_of f = cc in o))
  where
    go : (x y : Option Missing) → open_of x ≡ open_of y → x ≡ y
    go None None o = refl
    go None (Some m) o = never (cc)
    go (Some m) None o = never (cc)
    go (Some m) (Some n) o = let a : m.first ≡ n.first = cc in let b : m.second ≡ n.second = cc in ap₂ (λ (i j : ℕ). Some (record { first = i; second = j })) a b
is_found (Err refused_by) f e = never (cc)

-- there is only one first
first_one : (p : Problem) (a b c d : ℕ) → FirstOpen p a b → FirstOpen p c d → (a ≡ c) × (b ≡ d)
first_one p a b c d f g = go (ℕ_discrete a c) (ℕ_discrete b d) (dec_lt a c) (dec_lt b d)
  where
    not_before : (a b c d : ℕ) → FirstOpen p a b → FirstOpen p c d → (c < a) ⊎ ((c ≡ a) × (d < b)) → ⊥
    not_before a b c d f g o = of_not (made p c d) g.missing (f.before c d g.first g.second o)

    go : Dec (a ≡ c) → Dec (b ≡ d) → Dec (a < c) → Dec (b < d) → (a ≡ c) × (b ≡ d)
    go (yes e) (yes h) l m = (e, h)
    go (yes e) (no h) l (yes m) = absurd (not_before c d a b g f (inr (e, m)))
    go (yes e) (no h) l (no m) = absurd (not_before a b c d f g (inr (sym e, omega arith)))
    go (no e) h (yes l) m = absurd (not_before c d a b g f (inl l))
    go (no e) h (no l) m = absurd (not_before a b c d f g (inl (omega arith)))

-- the first two that are told are the first, and only they
open_exactly : (p : Problem) (a b : ℕ) → (first_open p ≡ two a b) ↔ FirstOpen p a b
open_exactly p a b = (open_first p a b, λ f. go (first_open p) refl f)
  where
    go : (o : Open) → first_open p ≡ o → FirstOpen p a b → first_open p ≡ two a b
    go none e f = absurd (of_not (made p a b) f.missing (all_made p ((open_none p).0 e) a b f.first f.second))
    go (two c d) e f = let q = first_one p a b c d f (open_first p c d e) in e ∙ sym (ap (λ (x : ℕ). two x b) q.0 ∙ ap (two c) q.1)

module _ (b pairs block : List ℕ) (r : Result (Option Missing) Refusal) (call : CallClosed b pairs block r) where
  so : (v : Verdict) → verdict_lent b pairs block ≡ v → means r ≡ reply v (first_open (problem_with b block))
  unfolding closed_lent
  so v e = call ∙ ap (λ (u : Verdict). reply u (first_open (problem_with b block))) e

  open_is : (o : Open) → means r ≡ told (first_open (problem_with b block)) → means r ≡ told o → first_open (problem_with b block) ≡ o
  open_is o q e = let z : told (first_open (problem_with b block)) ≡ told o = sym q ∙ e in cc

  refuses : (number item : ℕ) → ((q : Question) × (r ≡ Err (record { question = q; item = item })) × (number_of q ≡ number)) ↔ (verdict_lent b pairs block ≡ refused number item)
  refuses number item = (λ e. go (verdict_lent b pairs block) refl (ap means e.1 ∙ ap (λ (n : ℕ). refusal n item) e.2), λ e. is_refused r number item (so (refused number item) e))
    where
      go : (v : Verdict) → verdict_lent b pairs block ≡ v → means r ≡ refusal number item → verdict_lent b pairs block ≡ refused number item
      go accepted q e = absurd (let z : told (first_open (problem_with b block)) ≡ refusal number item = sym (so accepted q) ∙ e in never (cc))
      go (refused n i) q e = let z : refusal n i ≡ refusal number item = sym (so (refused n i) q) ∙ e in let f : n ≡ number = cc in let g : i ≡ item = cc in cc

  held : ClosedHeld b pairs block r
  held = record {
    refuses = refuses;
    closed = λ v. (
      λ e. (open_none (problem_with b block)).0 (open_is none (so accepted v) (ap means e)),
      λ c. is_found r None (so accepted v ∙ ap told ((open_none (problem_with b block)).1 c)),
    );
    missing = λ v x y. (
      λ e. (open_exactly (problem_with b block) x y).0 (open_is (two x y) (so accepted v) (ap means e)),
      λ f. is_found r (Some (record { first = x; second = y })) (so accepted v ∙ ap told ((open_exactly (problem_with b block) x y).1 f)),
    );
  }

pub closed_calls : ClosedCalls
closed_calls = held
