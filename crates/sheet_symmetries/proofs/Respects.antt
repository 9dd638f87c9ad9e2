-- The forbidden sets that the code walks are all of them, so what it finds is whether a table respects the sheet. Assumes nothing.
use Rattle.model.specs.Kit.{◌≡◌, refl, sym, ap, ap₂, ◌∙◌, Bool, true, not, List, [], ◌∷◌, ◌++◌, map, append-nil, Memᴰ, Memᴰ-head, Memᴰ-tail, ℕ, ◌+◌, ◌*◌, ◌<◌, arith, T, ltb, lt-ltb}
use Rattle.model.specs.Kit.{le-ltb}
use Rattle.model.specs.{Lists.all, Lists.any, Lists.keep, Lists.flat, Lists.below, Lists.at, Lists.same, Lists.both, Lists.either, ValueSets.members, Problem.Problem, Problem.Constraint, Problem.pair}
use Rattle.model.specs.{Problem.pairs_at, Problem.assignments, Problem.doubled, Problem.excluded, Problem.forbidden, Problem.respects, Inner.WellFormed.Stated, Sheet.permutes_pairs}
use lib.Seq.{append_snoc}
use Rattle.model.proofs.{Lists.all_cons, Lists.keep_yes, Lists.keep_no, Lists.keep_e, Lists.Sorted, Lists.below_e, Lists.both_true, Sets.members_e, Sets.members_sorted}
use Rattle.sheet_table.specs.Inner.Forbidden.{blocked, number_of, Decoded, Begun}
use Rattle.sheet_table.specs.Inner.Forbidden.{codes_at, keeps, besides, doublings}
use Rattle.sheet_table.proofs.{Codes.decoded_number, Laws.all_ext, Laws.all_append, Laws.all_flat, Laws.all_keep, Laws.all_map}
use Rattle.sheet_carried.proofs.Blocks.{choices_e}

-- ---- the two pairs of a variable
keep_all : (f : ℕ → Bool) (l : List ℕ) → ((x : ℕ) → Memᴰ x l → f x ≡ true) → keep f l ≡ l
unfolding keep
keep_all f [] h = refl
keep_all f (x ∷ l) h = keep_yes f x l (h x (Memᴰ-head refl)) ∙ ap (λ (r : List ℕ). x ∷ r) (keep_all f l (λ y m. h y (Memᴰ-tail m)))

module _ (p : Problem) (codes : List ℕ) (x : ℕ) where
  -- of an ascending list, those after a number are those above it
  doublings_are : (l : List ℕ) → Sorted (λ (u v : ℕ). u < v) l → doublings p codes x l ≡ all (λ v. besides p codes x v (keep (ltb v) l)) l
  unfolding doublings all
  doublings_are [] s = refl
  doublings_are (v ∷ l) s =
      ap₂ both (ap (besides p codes x v) (sym (keep_no (ltb v) v l (le-ltb v v (omega arith)) ∙ keep_all (ltb v) l (λ u m. lt-ltb v u (s.0 u m)))))
      (doublings_are l s.1 ∙ all_ext (λ u. besides p codes x u (keep (ltb u) l)) (λ u. besides p codes x u (keep (ltb u) (v ∷ l))) l
      (λ u m. ap (besides p codes x u) (sym (keep_no (ltb u) v l (le-ltb u v (let h = s.0 u m in omega arith))))))
      ∙ sym (all_cons (λ u. besides p codes x u (keep (ltb u) (v ∷ l))) v l)

-- ---- the choices for a scope
module _ (p : Problem) (codes : List ℕ) (c : Constraint) where
  abbrev leaf : List ℕ → Bool
  leaf vs = either (any (same vs) c.rows) (blocked p (map (number_of p) (codes_at codes c.scope vs)))

  keeps_all : (xs vs : List ℕ) → keeps p codes c xs vs ≡ all (λ us. leaf (vs ++ us)) (assignments (map (at p.initial) xs))
  unfolding keeps assignments all
  keeps_all [] vs = ap leaf (sym (append-nil vs)) ∙ sym (all_cons (λ us. leaf (vs ++ us)) [] [] ∙ both_true (leaf (vs ++ [])))
  keeps_all (x ∷ xs) vs =
      let rest = assignments (map (at p.initial) xs) in
      let L : List ℕ → Bool = λ us. leaf (vs ++ us) in
      let F : ℕ → List (List ℕ) = λ v. map (λ (a : List ℕ). v ∷ a) rest in
      all_ext (λ v. keeps p codes c xs (vs ++ (v ∷ []))) (λ v. all L (F v)) (members (at p.initial x))
      (λ v m. keeps_all xs (vs ++ (v ∷ [])) ∙ all_ext (λ us. leaf ((vs ++ (v ∷ [])) ++ us)) (λ us. L (v ∷ us)) rest (λ us k. ap leaf (append_snoc vs v us)) ∙ sym
      (all_map L (λ (a : List ℕ). v ∷ a) rest))
      ∙ sym (all_flat L (map F (members (at p.initial x))) ∙ all_map (all L) F (members (at p.initial x)))

-- ---- a table whose images are decoded
module _ (p : Problem) (w : Stated p) (g : List ℕ) (t : T (permutes_pairs p g)) (codes : List ℕ) (d : Decoded p g codes) where
  abbrev Kept : List ℕ → Bool
  Kept f = blocked p (map (at g) f)

  images_are : (xs vs : List ℕ) → ((x : ℕ) → Memᴰ x xs → x < p.variables) → Begun p xs vs → map (number_of p) (codes_at codes xs vs) ≡ map (at g) (pairs_at p xs vs)
  unfolding codes_at pairs_at
  images_are [] [] i b = refl
  images_are (x ∷ xs) [] i b = refl
  images_are [] (v ∷ vs) i b = absurd b
  images_are (x ∷ xs) (v ∷ vs) i b =
      ap₂ (λ (q : ℕ) (r : List ℕ). q ∷ r) (decoded_number p w g t codes d x v (i x (Memᴰ-head refl)) b.0) (images_are xs vs (λ y m. i y (Memᴰ-tail m)) b.1)

  constraint_kept : (c : Constraint) → Memᴰ c p.constraints → keeps p codes c c.scope [] ≡ all Kept (excluded p c)
  unfolding excluded
  constraint_kept c m =
      let S = assignments (map (at p.initial) c.scope) in
      let row : List ℕ → Bool = λ vs. any (same vs) c.rows in
      keeps_all p codes c c.scope []
      ∙ all_ext (leaf p codes c) (λ vs. either (row vs) (Kept (pairs_at p c.scope vs))) S
      (λ vs k. ap (λ (l : List ℕ). either (row vs) (blocked p l)) (images_are c.scope vs (w.constrained c m).inside (choices_e p c.scope vs k).1))
      ∙ sym (all_map Kept (pairs_at p c.scope) (keep (λ vs. not (row vs)) S) ∙ all_keep (λ vs. Kept (pairs_at p c.scope vs)) row S)

  variable_kept : (x : ℕ) → x < p.variables → doublings p codes x (members (at p.initial x)) ≡ all Kept (doubled p x)
  unfolding doubled
  variable_kept x h =
      let S = members (at p.initial x) in
      let F : ℕ → List (List ℕ) = λ v. map (λ u. pair p x v ∷ pair p x u ∷ []) (keep (ltb v) S) in
      let image : (v : ℕ) → Memᴰ v S → number_of p (at codes (16 * x + v)) ≡ at g (pair p x v) = λ v m. decoded_number p w g t codes d x v h (members_e (at p.initial x) v m).1 in
      doublings_are p codes x S (members_sorted (at p.initial x))
      ∙ all_ext (λ v. besides p codes x v (keep (ltb v) S)) (λ v. all Kept (F v)) S
      (λ v m. all_ext (λ u. blocked p (number_of p (at codes (16 * x + v)) ∷ number_of p (at codes (16 * x + u)) ∷ [])) (λ u. Kept (pair p x v ∷ pair p x u ∷ [])) (keep (ltb v) S)
      (λ u k. ap₂ (λ (a b : ℕ). blocked p (a ∷ b ∷ [])) (image v m) (image u (keep_e (ltb v) S u k).0))
      ∙ sym (all_map Kept (λ u. pair p x v ∷ pair p x u ∷ []) (keep (ltb v) S)))
      ∙ sym (all_flat Kept (map F S) ∙ all_map (all Kept) F S)

  pub respects_are : both (all (λ x. doublings p codes x (members (at p.initial x))) (below p.variables)) (all (λ c. keeps p codes c c.scope []) p.constraints) ≡ respects p g
  unfolding respects forbidden blocked
  respects_are =
      ap₂ both
      (all_ext _ (λ x. all Kept (doubled p x)) (below p.variables) (λ x m. variable_kept x (below_e p.variables x m))
      ∙ sym (all_flat Kept (map (doubled p) (below p.variables)) ∙ all_map (all Kept) (doubled p) (below p.variables)))
      (all_ext _ (λ c. all Kept (excluded p c)) p.constraints constraint_kept ∙ sym (all_flat Kept (map (excluded p) p.constraints) ∙ all_map (all Kept) (excluded p) p.constraints))
      ∙ sym (all_append Kept (flat (map (doubled p) (below p.variables))) (flat (map (excluded p) p.constraints)))
