-- A settled variable, whose set has one value, loses nothing: what others keep goes together with that value, and a cut that leaves no set empty leaves it
-- as it is. Assumes nothing.
use Rattle.model.specs.Kit.{◌≡◌, sym, subst, false, List, ℕ, ◌≤◌, ◌<◌, arith, dec_lt, T}
use Rattle.model.specs.{Lists.at, ValueSets.has, Problem.Problem, Inner.Pruning.Sets}
use native.Mathlib.Nat.{le_of_lt}
use Rattle.model.proofs.{Lists.TExt, Lists.not_of, Sets.mask_ext, Sets.member, Firsts.take_e, Firsts.take_i, Firsts.full_take}
use Rattle.arrays.specs.{Inner.Tables.goes, Inner.Pruning.Lessened, Inner.Pruning.Arc, Inner.Pruning.sets_of}
use Rattle.arrays.proofs.Links.{goes_up, goes_down}
use Rattle.prune_pairs.specs.Inner.Links.{Settled}

pub none_settled : (sets : List ℕ) (dirty : ℕ) → Settled sets dirty 0
none_settled sets dirty = record { clean = λ y h. absurd (omega arith); single = λ y h. absurd (omega arith) }

-- of two variables, values go together both ways
goes_back : (p : Problem) (x v y w : ℕ) → (x ≡ y → ⊥) → T (goes p y w x v) → T (goes p x v y w)
goes_back p x v y w n g = go (dec_lt x y)
  where
    go : Dec (x < y) → T (goes p x v y w)
    go (yes h) = subst T (sym (goes_up p x v y w h)) (subst T (goes_down p y w x v (le_of_lt h)) g)
    go (no o) = subst T (sym (goes_down p x v y w (omega arith))) (subst T (goes_up p y w x v (omega arith)) g)

module _ (p : Problem) (ds : List ℕ) (few : p.variables ≤ 16) (s : Sets 16 ds) (y : ℕ) (single : (u v : ℕ) → T (has (at ds y) u) → T (has (at ds y) v) → u ≡ v) where
  -- every value of another set goes together with the one of y
  pub settled_goes : y < p.variables → Arc p (sets_of p ds) y → (x v w : ℕ) → (x ≡ y → ⊥) → x < p.variables → T (has (at ds x) v) → T (has (at ds y) w) → T (goes p x v y w)
  settled_goes h a x v w n l t u =
      let q = a x v (take_i p.variables ds s few x v l t) in
      goes_back p x v y w n (subst (λ (z : ℕ). T (goes p y z x v)) (single q.0 w (take_e p.variables ds s few y q.0 q.1.0).1 u) q.1.1)

  -- the set of y stays, so it is not among those that changed
  pub settled_stays : {es : List ℕ} {changed : ℕ} → Lessened p ds es changed → ((x : ℕ) → T (has changed x) → at es x ≡ at ds x → ⊥) → has changed y ≡ false
  settled_stays {es} {changed} l differs = not_of (has changed y) (λ t. differs y t (same t))
    where
      same : T (has changed y) → at es y ≡ at ds y
      same t =
          let m = member (at es y) (l.sixteen.1 y) (full_take p.variables es l.sixteen few l.full y (l.few y t)) in
          mask_ext 16 (at es y) (at ds y) (l.sixteen.1 y) (s.1 y)
          (λ v b. TExt (has (at es y) v) (has (at ds y) v) (l.less y v) (λ q. subst (λ (u : ℕ). T (has (at es y) u)) (single m.0 v (l.less y m.0 m.2) q) m.2))
