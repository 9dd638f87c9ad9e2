-- How the filter ends (paper 02, #102), for any sets and any list; of callers filter's FilterCalls says it. The proofs are in proofs/Endings.antt.
use Rattle.std.specs.Prelude.{◌≡◌, ◌↔◌, List, ℕ, T}
use Rattle.model.specs.Kit.{Memᴰ}
use Rattle.model.specs.{Problem.assignments, Nogood.Entry, Nogood.obeys, Nogood.filtered, Nogood.failed, Nogood.entailed, Nogood.consistent, Nogood.filter_ending, NogoodClaims.Entails}

-- no assignment from the sets obeys the nogoods
abbrev pub Fails : List ℕ → List Entry → Type 0
Fails ds es = (a : List ℕ) → Memᴰ a (assignments ds) → T (obeys a es) → ⊥

-- failed exactly if no assignment from the lent sets obeys the nogoods
abbrev pub FailedExactly : Type 0
FailedExactly = (ds : List ℕ) (es : List Entry) → (filter_ending ds es ≡ failed) ↔ Fails ds es

-- entailed exactly if it is not failed and every assignment from the sets left obeys them all
abbrev pub EntailedExactly : Type 0
EntailedExactly = (ds : List ℕ) (es : List Entry) → (filter_ending ds es ≡ entailed) ↔ ((Fails ds es → ⊥) × Entails (filtered ds es) es)

-- else consistent
abbrev pub ConsistentExactly : Type 0
ConsistentExactly = (ds : List ℕ) (es : List Entry) → (filter_ending ds es ≡ consistent) ↔ ((Fails ds es → ⊥) × (Entails (filtered ds es) es → ⊥))
