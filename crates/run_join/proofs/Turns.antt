-- The heads taken, turn by turn. Assumes nothing.
use Rattle.model.specs.Kit.{◌≡◌, refl, sym, ap, ap₂, ◌∙◌, subst, Bool, true, false, List, [], ◌∷◌, ℕ, zero, suc, ◌+◌, ◌*◌, ◌≤◌, ◌<◌, add-one, arith, eqb, ltb, leb, ltb-true, ltb-false}
use Rattle.std.specs.Prelude.{Option, None, Some}
use Rattle.std.specs.Option.{MatchOption}
use Rattle.model.specs.Lists.{both, choose, same}
use Rattle.model.proofs.Lists.{both_second}
use Rattle.run_cut.specs.Parts.{after}
use Rattle.run_join.specs.Join.{head_shaped, kind_at, path_shaped, from_at, reach_place, reach_at, reach_or, may_take, best_of, heads_in, stand_path, step_of, nearer, nearest_of, head_number}
use Rattle.run_join.specs.Inner.Inner.{Path, HeadAt, HeadOr, Heads, First, marked, begins}
use Rattle.run_join.proofs.Orders.{both_first}

-- ---- the paths of a head
module _ (l : List ℕ) (k : ℕ) (h : HeadAt l k) where
  paths : both (path_shaped l (115 * k + 76)) (both (path_shaped l (115 * k + 89)) (path_shaped l (115 * k + 102))) ≡ true
  unfolding head_shaped
  paths = both_second (both (leb 1 (kind_at l k)) (leb (kind_at l k) 3)) (both (path_shaped l (115 * k + 76)) (both (path_shaped l (115 * k + 89)) (path_shaped l (115 * k + 102)))) h.shaped

  rest : both (path_shaped l (115 * k + 89)) (path_shaped l (115 * k + 102)) ≡ true
  rest = both_second (path_shaped l (115 * k + 76)) (both (path_shaped l (115 * k + 89)) (path_shaped l (115 * k + 102))) paths

  pub from_path : Path l (115 * k + 76)
  from_path = record {
    fits = omega (arith, h.fits);
    shaped = both_first (path_shaped l (115 * k + 76)) (both (path_shaped l (115 * k + 89)) (path_shaped l (115 * k + 102))) paths;
  }

  pub end_path : Path l (115 * k + 89)
  end_path = record { fits = omega (arith, h.fits); shaped = both_first (path_shaped l (115 * k + 89)) (path_shaped l (115 * k + 102)) rest }

  pub last_path : Path l (115 * k + 102)
  last_path = record { fits = omega (arith, h.fits); shaped = both_second (path_shaped l (115 * k + 89)) (path_shaped l (115 * k + 102)) rest }

  pub reach_path : (place : ℕ) → place ≡ reach_place l k → Path l place
  reach_path place e = go (eqb (kind_at l k) 1) e
    where
      go : (b : Bool) → place ≡ choose b (115 * k + 89) (115 * k + 102) → Path l place
      go true q = subst (Path l) (sym q) end_path
      go false q = subst (Path l) (sym q) last_path

module _ (l : List ℕ) (n : ℕ) (h : Heads l n) where
  pub head_at : (k : ℕ) → k < n → HeadAt l k
  head_at k i = record { fits = omega (arith, h.fits); shaped = h.shaped k i }

  pub head_or : (b : Option ℕ) → head_number b ≤ n → HeadOr l b
  head_or None i = tt
  head_or (Some k) i = head_at k (omega arith)

-- ---- one head more, taken or not
module _ (l s : List ℕ) (k : ℕ) (old new : Option ℕ) (t : Bool) (picked : head_number new ≡ choose t (suc k) (head_number old)) where
  pub chosen_few : head_number old ≤ k → head_number new ≤ k + 1
  chosen_few h = go t picked
    where
      go : (x : Bool) → head_number new ≡ choose x (suc k) (head_number old) → head_number new ≤ k + 1
      go true q = omega arith
      go false q = omega arith

  pub best_turn : (may : Bool) → may ≡ may_take l k → head_number old ≡ best_of l s k → t ≡ both may (both (same (from_at l k) s) (after (reach_or l s (head_number old)) (reach_at l k)))
      → head_number new ≡ best_of l s (k + 1)
  unfolding best_of
  best_turn may m e f =
      picked ∙ ap (λ (x : Bool). choose x (suc k) (head_number old)) f
      ∙ ap₂ (λ (a : Bool) (b : ℕ). choose (both a (both (same (from_at l k) s) (after (reach_or l s b) (reach_at l k)))) (suc k) b) m e ∙ ap (best_of l s) (sym (add-one k))

  pub near_turn : head_number old ≡ nearest_of l s k → t ≡ both (after s (from_at l k)) (nearer l (head_number old) (from_at l k)) → head_number new ≡ nearest_of l s (k + 1)
  unfolding nearest_of
  near_turn e f =
      picked ∙ ap (λ (x : Bool). choose x (suc k) (head_number old)) f
      ∙ ap (λ (b : ℕ). choose (both (after s (from_at l k)) (nearer l b (from_at l k))) (suc k) b) e ∙ ap (nearest_of l s) (sym (add-one k))

-- ---- what `find` tells
pub first_is : (test : ℕ → Bool) (k n : ℕ) (r : Option ℕ) → MatchOption r ((j : ℕ) → k ≤ j → j < n → test j ≡ false)
    (λ i. (k ≤ i) × (i < n) × (test i ≡ true) × ((j : ℕ) → k ≤ j → j < i → test j ≡ false)) → First test k n r
first_is test k n None m = m
first_is test k n (Some i) m = m

-- ---- heads passed, which may not be taken or begin elsewhere
both_in : (a b x : Bool) → both (both a b) x ≡ both a (both b x)
both_in true b x = refl
both_in false b x = refl

pub both_given : (a b x : Bool) → both a b ≡ true → x ≡ both a (both b x)
both_given a b x e = sym (ap (λ (c : Bool). both c x) e) ∙ both_in a b x

module _ (l s marks : List ℕ) (n : ℕ) (may : (k : ℕ) → k < n → marked marks k ≡ may_take l k) (k : ℕ) where
  pub best_passed : (j : ℕ) → k ≤ j → j ≤ n → ((i : ℕ) → k ≤ i → i < j → begins marks l s i ≡ false) → best_of l s j ≡ best_of l s k
  unfolding best_of
  best_passed zero h m f = let e : 0 ≡ k = omega arith in ap (best_of l s) e
  best_passed (suc j) h m f = go (best_passed j) (ltb k (suc j)) refl
    where
      further : Bool
      further = after (reach_or l s (best_of l s j)) (reach_at l j)

      no : begins marks l s j ≡ false → both (may_take l j) (both (same (from_at l j) s) further) ≡ false
      no e =
          ap (λ (c : Bool). both c (both (same (from_at l j) s) further)) (sym (may j (omega arith)))
          ∙ sym (both_in (marked marks j) (same (from_at l j) s) further) ∙ ap (λ (c : Bool). both c further) e

      go : (k ≤ j → j ≤ n → ((i : ℕ) → k ≤ i → i < j → begins marks l s i ≡ false) → best_of l s j ≡ best_of l s k) → (b : Bool) → ltb k (suc j) ≡ b → best_of l s (suc j) ≡ best_of l s k
      go ih true e =
          let q = ltb-true k (suc j) e in
          ap (λ (c : Bool). choose c (suc j) (best_of l s j)) (no (f j (omega arith) (omega arith))) ∙ ih (omega arith) (omega arith) (λ i a b. f i a (omega arith))
      go ih false e = let q : suc j ≡ k = (let f = ltb-false k (suc j) e in omega arith) in ap (best_of l s) q

-- ---- where one stands
module _ (l : List ℕ) where
  pub step_end : (stand : ℕ) → same (stand_path l stand) (255 ∷ []) ≡ true → 0 ≡ step_of l stand
  unfolding step_of
  step_end stand e = sym (ap (λ (b : Bool). choose b 0 (best_of l (stand_path l stand) (heads_in l))) e)

  pub step_best : (stand n r : ℕ) (s : List ℕ) → same (stand_path l stand) (255 ∷ []) ≡ false → n ≡ heads_in l → s ≡ stand_path l stand → r ≡ best_of l s n → r ≡ step_of l stand
  unfolding step_of
  step_best stand n r s e f g h =
      h ∙ ap₂ (λ (t : List ℕ) (i : ℕ). best_of l t i) g f ∙ sym (ap (λ (b : Bool). choose b 0 (best_of l (stand_path l stand) (heads_in l))) e)
