-- Solutions by their number: the number of an image, and the row that a symmetry makes. Assumes nothing.
use Rattle.model.specs.Kit.{◌≡◌, refl, sym, ap, ap₂, ◌∙◌, subst, Bool, List, [], ◌∷◌, ◌++◌, Memᴰ, Memᴰ-head, Memᴰ-tail, Memᴰ-cast, append_assoc, ℕ, zero, suc, ◌+◌, ◌-◌, ◌*◌, ◌/◌, ◌%◌}
use Rattle.model.specs.Kit.{◌<◌, not-suc-le-zero, le_of_suc-le-suc, ℕ_discrete, dec_lt, arith, T, length, get_or, length-append}
use Rattle.model.specs.{Lists.flat, Lists.at, Lists.earlier, Problem.Problem, Problem.pair, Problem.takes, Problem.is_solution, Problem.symmetry_at, Inner.WellFormed.WellFormed}
use Rattle.model.specs.Inner.WellFormed.{Respected}
use Rattle.families.specs.{Families.solutions_of, Inner.Walk.solution_at, Inner.Walk.image_at}
use Rattle.model.proofs.Lists.{earlier_asym, at_append, at_skip, of_T, not_of, mem_get_d, place_of, Sorted}
use Rattle.model.proofs.{Masks.least_at, Tree.solution_e, Leaders.takes_in, Leaders.takes_on}
use Rattle.families.proofs.FamilyCount.{ReadsEarlier, solution_in, in_solution, solutions_sorted}
use Rattle.model.proofs.Pairs as P
use Rattle.model.proofs.Image as I

-- ---- lists in a strict order, by place
pub sorted_at : {A : Type 0} (R : A → A → Type 0) (l : List A) (d : A) → Sorted R l → (i j : ℕ) → i < j → j < length l → R (get_or l i d) (get_or l j d)
sorted_at R [] d s i j h k = absurd (not-suc-le-zero k)
sorted_at R (x ∷ l) d s i zero h k = absurd (not-suc-le-zero h)
sorted_at R (x ∷ l) d s zero (suc j) h k = s.0 (get_or l j d) (mem_get_d l j d (le_of_suc-le-suc k))
sorted_at R (x ∷ l) d s (suc i) (suc j) h k = sorted_at R l d s.1 i j (le_of_suc-le-suc h) (le_of_suc-le-suc k)

-- ---- rows of one length, one after another
pub rows_at_lem : (n : ℕ) (rows : List (List ℕ)) (rest : List ℕ) → ((r : List ℕ) → Memᴰ r rows → length r ≡ n) → (i x : ℕ) → i < length rows → x < n → at (flat rows ++ rest) (i * n + x) ≡ at
    (get_or rows i []) x
unfolding flat
rows_at_lem n [] rest h i x l k = absurd (not-suc-le-zero l)
rows_at_lem n (r ∷ rows) rest h zero x l k =
    let z : 0 * n + x ≡ x = omega arith in
    let e = h r (Memᴰ-head refl) in
    ap₂ at (append_assoc r (flat rows) rest) z ∙ at_append r (flat rows ++ rest) x (omega arith)
rows_at_lem n (r ∷ rows) rest h (suc i) x l k =
    let z : suc i * n + x - n ≡ i * n + x = omega arith in
    ap (λ (t : List ℕ). at t (suc i * n + x)) (append_assoc r (flat rows) rest) ∙ at_skip r (flat rows ++ rest) n (suc i * n + x) (h r (Memᴰ-head refl)) (omega arith)
    ∙ ap (at (flat rows ++ rest)) z ∙ rows_at_lem n rows rest (λ s m. h s (Memᴰ-tail m)) i x (le_of_suc-le-suc l) k

pub rows_length : (n : ℕ) (rows : List (List ℕ)) → ((r : List ℕ) → Memᴰ r rows → length r ≡ n) → length (flat rows) ≡ length rows * n
unfolding flat
rows_length n [] h = let z : 0 ≡ 0 * n = omega arith in z
rows_length n (r ∷ rows) h =
    let e = h r (Memᴰ-head refl) in
    let ih = rows_length n rows (λ s m. h s (Memᴰ-tail m)) in
    let z : length r + length (flat rows) ≡ suc (length rows) * n = omega arith in
    length-append r (flat rows) ∙ z

module _ (p : Problem) (w : WellFormed p) (respected : Respected p) where
  abbrev N : ℕ
  N = length (solutions_of p)

  abbrev M : ℕ
  M = length p.symmetries

  -- ---- solutions by their number
  pub at_solution : (i : ℕ) → i < length (solutions_of p) → T (is_solution p (solution_at p i))
  unfolding solution_at
  at_solution i l = in_solution p w respected (solution_at p i) (mem_get_d (solutions_of p) i [] l)

  -- as bytes, row after row
  pub at_solutions : (rest : List ℕ) (i x : ℕ) → i < length (solutions_of p) → x < p.variables → at (flat (solutions_of p) ++ rest) (i * p.variables + x) ≡ at (solution_at p i) x
  unfolding solution_at
  at_solutions rest i x l k = rows_at_lem p.variables (solutions_of p) rest (λ s m. (solution_e p s (in_solution p w respected s m)).sized) i x l k

  pub number_of : (s : List ℕ) → T (is_solution p s) → (i : ℕ) × (i < length (solutions_of p)) × (solution_at p i ≡ s)
  unfolding solution_at
  number_of s t = place_of (solutions_of p) s [] (solution_in p w respected s t)

  pub number_earlier : (i j : ℕ) → i < j → j < length (solutions_of p) → T (earlier (solution_at p i) (solution_at p j))
  unfolding solution_at
  number_earlier i j h l = sorted_at ReadsEarlier (solutions_of p) [] (solutions_sorted p w respected) i j h l

  pub earlier_number : (i j : ℕ) → i < length (solutions_of p) → T (earlier (solution_at p i) (solution_at p j)) → i < j
  earlier_number i j l e = go (dec_lt i j) (ℕ_discrete i j)
    where
      go : Dec (i < j) → Dec (i ≡ j) → i < j
      go (yes h) d = h
      go (no h) (yes q) = absurd (let z : T (earlier (solution_at p i) (solution_at p i)) = subst (λ (k : ℕ). T (earlier (solution_at p i) (solution_at p k))) (sym q) e in earlier_asym
          (solution_at p i) (solution_at p i) z z)
      go (no h) (no q) = absurd (earlier_asym (solution_at p i) (solution_at p j) e (number_earlier j i (omega arith) l))

  pub same_number : (i j : ℕ) → i < length (solutions_of p) → j < length (solutions_of p) → solution_at p i ≡ solution_at p j → i ≡ j
  same_number i j li lj e = go (dec_lt i j) (dec_lt j i)
    where
      none : (a b : ℕ) → a < b → b < N → solution_at p a ≡ solution_at p b → ⊥
      none a b h l q = let z : T (earlier (solution_at p b) (solution_at p b)) = subst (λ (u : List ℕ). T (earlier u (solution_at p b))) q (number_earlier a b h l) in earlier_asym (solution_at p b)
          (solution_at p b) z z

      go : Dec (i < j) → Dec (j < i) → i ≡ j
      go (yes h) d = absurd (none i j h lj e)
      go (no h) (yes d) = absurd (none j i d li (sym e))
      go (no h) (no d) = omega arith

  pub symmetry_among : (k : ℕ) → k < length p.symmetries → Memᴰ (symmetry_at p k) p.symmetries
  symmetry_among k l = mem_get_d p.symmetries k [] l

  -- a symmetry takes a solution to one solution
  pub only_image : (g t s r : List ℕ) → Memᴰ g p.symmetries → T (takes p g t s) → T (takes p g t r) → T (is_solution p s) → T (is_solution p r) → s ≡ r
  only_image g t s r m hs hr ss sr = I.one_image p w respected g m t s r hs hr sr (solution_e p s ss).sized (P.sol_lt p w s ss)

  -- a number whose solution is the image is the image's number
  pub image_is : (k i j : ℕ) → k < length p.symmetries → i < length (solutions_of p) → j < length (solutions_of p) →
      T (takes p (symmetry_at p k) (solution_at p i) (solution_at p j)) → j ≡ image_at p k i
  unfolding image_at
  image_is k i j lk li lj t =
      let f : ℕ → Bool = λ j. takes p (symmetry_at p k) (solution_at p i) (solution_at p j) in
      sym (least_at N f j lj (λ h l. not_of (f h) (λ u.
      let lh : h < N = omega arith in
      let e : h ≡ j = same_number h j lh lj (only_image (symmetry_at p k) (solution_at p i) (solution_at p h) (solution_at p j) (symmetry_among k lk) u t (at_solution h lh) (at_solution j lj)) in
      omega arith)) (of_T (f j) t))

  pub image_good : (k i : ℕ) → k < length p.symmetries → i < length (solutions_of p) →
      (image_at p k i < length (solutions_of p)) × T (takes p (symmetry_at p k) (solution_at p i) (solution_at p (image_at p k i)))
  image_good k i lk li =
      let g = symmetry_at p k in
      let r = I.image p w respected g (symmetry_among k lk) (solution_at p i) (at_solution i li) in
      let q = number_of r.0 r.1 in
      let t : T (takes p g (solution_at p i) (solution_at p q.0)) = subst (λ (u : List ℕ). T (takes p g (solution_at p i) u)) (sym q.2) r.2 in
      let e = image_is k i q.0 lk li q.1 t in
      (subst (λ (z : ℕ). z < N) e q.1, subst (λ (z : ℕ). T (takes p g (solution_at p i) (solution_at p z))) e t)

  -- ---- the image, pair by pair
  module _ (k i : ℕ) (lk : k < length p.symmetries) (li : i < length (solutions_of p)) where
    abbrev image : List ℕ
    image = solution_at p (image_at p k i)

    -- where the pair of variable x goes to
    abbrev pub goes : ℕ → ℕ
    goes x = at (symmetry_at p k) (pair p x (at (solution_at p i) x))

    solves : T (is_solution p image)
    solves = at_solution (image_at p k i) (image_good k i lk li).0

    -- a pair of the image
    pub image_pair : (x : ℕ) → x < p.variables → (goes x < p.variables * p.values) × (goes x / p.values < p.variables) ×
        (at (solution_at p (image_at p k i)) (goes x / p.values) ≡ goes x % p.values)
    image_pair x lx =
        let m = takes_in p (symmetry_at p k) (solution_at p i) image (image_good k i lk li).1 (pair p x (at (solution_at p i) x)) (P.pairs_i p (solution_at p i) x lx) in
        let t = P.sol_pair p w image solves (goes x) m in (
          P.is_pair_lt p (goes x) t,
          P.is_pair_var p w (goes x) t,
          P.sol_at p w image solves (goes x / p.values) (goes x % p.values) (P.mod_small p w (goes x)) (Memᴰ-cast (P.pair_of p (goes x)) m),
        )

    -- every variable of the image gets its value so
    pub image_onto : (y : ℕ) → y < p.variables → (x : ℕ) × (x < p.variables) × (goes x / p.values ≡ y)
    image_onto y ly =
        let r = takes_on p (symmetry_at p k) (solution_at p i) image (image_good k i lk li).1 (pair p y (at image y)) (P.pairs_i p image y ly) in
        let x = P.pairs_e p (solution_at p i) r.0 r.1 in
        (x.0, x.1, ap (λ (z : ℕ). z / p.values) (ap (at (symmetry_at p k)) (sym x.2) ∙ r.2) ∙ P.pair_div p y (at image y) (P.sol_lt p w image solves y ly))
