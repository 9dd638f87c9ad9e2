-- A refusal's question and item, from what `map_err` says of the question. Assumes nothing.
use Rattle.std.specs.Prelude.{Result, Ok, Err}
use Rattle.std.specs.Result.{MatchResult, IsErrAnd}
use Rattle.model.specs.Kit.{◌≡◌, refl, subst}
use Rattle.model.specs.declared.refusals.{Question.Question, Refusal.Refusal}
use Rattle.model.proofs.Lists.{never}

module _ {A : Type 0} (m : Result A Refusal) (P : Question → Refusal → Type 0) where
  pub mapped_err : (s : Result A Question) (by : Refusal) → MatchResult s (λ x. m ≡ Ok x) (λ q. IsErrAnd m (P q)) → m ≡ Err by → (q : Question) × (s ≡ Err q) × P q by
  mapped_err (Ok x) by h e = never (cc)
  mapped_err (Err q) by h e = (q, refl, subst (λ (n : Result A Refusal). IsErrAnd n (P q)) e h)

  pub mapped_ok : (s : Result A Question) (x : A) → MatchResult s (λ y. m ≡ Ok y) (λ q. IsErrAnd m (P q)) → m ≡ Ok x → s ≡ Ok x
  mapped_ok (Ok y) x h e = cc
  mapped_ok (Err q) x h e = absurd (subst (λ (n : Result A Refusal). IsErrAnd n (P q)) e h)
