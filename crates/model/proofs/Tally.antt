-- The tally (paper 02, #107): twelve counts of a list by a number of each element, which add up to its length; how many values the nodes of a tree have.
-- Assumes nothing.
use Rattle.model.specs.Kit.{◌≡◌, refl, sym, ap, ap₂, ◌∙◌, subst, Bool, true, false, ⊎_elim, List, [], ◌∷◌, ◌++◌, map, Memᴰ, Memᴰ-head, Memᴰ-tail, Memᴰ-not_nil}
use Rattle.model.specs.Kit.{Memᴰ-cases_cons, Memᴰ-of_map, Memᴰ-append_left, append-nil, ℕ, zero, suc, ◌+◌, ◌≤◌, ◌<◌, not-suc-le-zero, le_of_suc-le-suc, arith, eqb, leb, ltb, length, take}
use Rattle.model.specs.Kit.{drop, set, length-append, length-set, take-append-drop, take_all, eqb-true, eqb-false, ltb-true, ltb-false, leb-true, leb-false}
use Rattle.model.specs.Run.{Ending, finished, spent, full, nodes_in, result_of, counts_by, settled_by}
use Rattle.model.specs.{Lists.keep, Lists.at, Lists.tabulate, Lists.total, ValueSets.members, Problem.Problem, Search.sets_at, Search.nodes_below, Search.nodes, Search.is_plan}
use lib.Seq.{append_snoc}
use Rattle.model.proofs.Lists.{flat_e, keep_most, keep_yes, keep_no, keep_append, keep_none, keep_ext, of_T, length_tabulate, at_tabulate, at_ext, at_out, at_set, at_set_other}
use Rattle.model.proofs.Runs as R

-- ---- the sum of a list
pub total_set : (l : List ℕ) (i : ℕ) → i < length l → total (set l i (at l i + 1)) ≡ total l + 1
unfolding total at
total_set [] i h = absurd (not-suc-le-zero h)
total_set (x ∷ l) zero h = omega arith
total_set (x ∷ l) (suc i) h = let e = total_set l i (le_of_suc-le-suc h) in omega arith

pub at_total : (l : List ℕ) (i : ℕ) → at l i ≤ total l
unfolding total at
at_total [] i = omega arith
at_total (x ∷ l) zero = omega arith
at_total (x ∷ l) (suc i) = let e = at_total l i in omega arith

-- ---- twelve counts of any list
module _ {A : Type 0} (f : A → ℕ) where
  pub length_counts : (l : List A) → length (counts_by f l) ≡ 12
  unfolding counts_by
  length_counts l = length_tabulate 12 (λ x. length (keep (λ a. eqb (f a) x) l))

  pub at_counts : (l : List A) (x : ℕ) → x < 12 → at (counts_by f l) x ≡ length (keep (λ a. eqb (f a) x) l)
  unfolding counts_by
  at_counts l x h = at_tabulate 12 (λ x. length (keep (λ a. eqb (f a) x) l)) x h

  none_kept : (q : A → Bool) → length (keep q []) ≡ 0
  unfolding keep
  none_kept q = refl

  -- one element more raises the count of its number by one, and no other
  pub counts_snoc : (l : List A) (a : A) → counts_by f (l ++ (a ∷ [])) ≡ set (counts_by f l) (f a) (at (counts_by f l) (f a) + 1)
  counts_snoc l a =
      at_ext (counts_by f (l ++ (a ∷ []))) (set cs (f a) (at cs (f a) + 1)) (length_counts (l ++ (a ∷ [])) ∙ sym (length-set cs (f a) (at cs (f a) + 1) ∙ length_counts l))
      (λ x h. let s : x < 12 = subst (λ (n : ℕ). x < n) (length_counts (l ++ (a ∷ []))) h in at_counts (l ++ (a ∷ [])) x s ∙ ap length (keep_append (λ b. eqb (f b) x) l (a ∷ [])) ∙ length-append
      (keep (λ b. eqb (f b) x) l) (keep (λ b. eqb (f b) x) (a ∷ [])) ∙ go x s (eqb (f a) x) refl)
    where
      cs : List ℕ
      cs = counts_by f l

      go : (x : ℕ) → x < 12 → (b : Bool) → eqb (f a) x ≡ b → length (keep (λ b. eqb (f b) x) l) + length (keep (λ b. eqb (f b) x) (a ∷ [])) ≡ at
          (set (counts_by f l) (f a) (at (counts_by f l) (f a) + 1)) x
      go x s true e =
          let q : f a ≡ x = eqb-true (f a) x e in
          ap₂ ◌+◌ (sym (at_counts l x s)) (ap length (keep_yes (λ b. eqb (f b) x) a [] e) ∙ ap suc (none_kept (λ b. eqb (f b) x)))
          ∙ sym (ap (λ (y : ℕ). at (set (counts_by f l) y (at (counts_by f l) y + 1)) x) q ∙ at_set (counts_by f l) x (at (counts_by f l) x + 1) (let z = length_counts l in omega arith))
      go x s false e =
          let q = eqb-false (f a) x e in
          ap₂ ◌+◌ (sym (at_counts l x s)) (ap length (keep_no (λ b. eqb (f b) x) a [] e) ∙ none_kept (λ b. eqb (f b) x))
          ∙ (omega arith)
          ∙ sym (at_set_other (counts_by f l) (f a) (at (counts_by f l) (f a) + 1) x (λ z. q (sym z)))

  -- where every number is below 12, they add up to the elements
  total_on : (us l : List A) → ((a : A) → Memᴰ a l → f a < 12) → total (counts_by f us) ≡ length us → total (counts_by f (us ++ l)) ≡ length (us ++ l)
  total_on us [] h e = ap (λ (ks : List A). total (counts_by f ks)) (append-nil us) ∙ e ∙ sym (ap length (append-nil us))
  total_on us (a ∷ l) h e =
      subst (λ (ks : List A). total (counts_by f ks) ≡ length ks) (append_snoc us a l)
      (total_on (us ++ (a ∷ [])) l (λ b m. h b (Memᴰ-tail m))
      (ap total (counts_snoc us a) ∙ total_set (counts_by f us) (f a) (let z = length_counts us in let s = h a (Memᴰ-head refl) in omega arith)
      ∙ ap (λ (n : ℕ). n + 1) e ∙ sym (length-append us (a ∷ []))))

  pub counts_total : (l : List A) → ((a : A) → Memᴰ a l → f a < 12) → total (counts_by f l) ≡ length l
  unfolding counts_by tabulate total keep
  counts_total l h = total_on [] l h refl

  pub counts_none : (l : List A) (n x : ℕ) → ((a : A) → Memᴰ a l → f a < n) → n ≤ x → at (counts_by f l) x ≡ 0
  counts_none l n x h z = go (ltb x 12) refl
    where
      go : (b : Bool) → ltb x 12 ≡ b → at (counts_by f l) x ≡ 0
      go true e =
          at_counts l x (ltb-true x 12 e)
          ∙ ap length (keep_none (λ a. eqb (f a) x) l (λ a m t. let s = h a m in let q : f a ≡ x = eqb-true (f a) x (of_T _ t) in omega arith))
      go false e = at_out (counts_by f l) x (let s = length_counts l in let q = ltb-false x 12 e in omega arith)

pub tabulate_ext : (n : ℕ) (f g : ℕ → ℕ) → ((i : ℕ) → f i ≡ g i) → tabulate n f ≡ tabulate n g
unfolding tabulate
tabulate_ext zero f g h = refl
tabulate_ext (suc n) f g h = ap₂ (λ (x : ℕ) (l : List ℕ). x ∷ l) (h 0) (tabulate_ext n (λ i. f (suc i)) (λ i. g (suc i)) (λ i. h (suc i)))

pub counts_ext : {A : Type 0} (f g : A → ℕ) (l : List A) → ((a : A) → Memᴰ a l → f a ≡ g a) → counts_by f l ≡ counts_by g l
unfolding counts_by
counts_ext f g l h =
    tabulate_ext 12 (λ x. length (keep (λ a. eqb (f a) x) l)) (λ x. length (keep (λ a. eqb (g a) x) l))
    (λ x. ap length (keep_ext (λ a. eqb (f a) x) (λ a. eqb (g a) x) l (λ a m. ap (λ (k : ℕ). eqb k x) (h a m))))

-- ---- the tree: each node gives values to at least one variable, and to no more than there are
below_sized : (p : Problem) (k : ℕ) (prefix t : List ℕ) → Memᴰ t (nodes_below p k prefix) → (length prefix < length t) × (length t ≤ length prefix + k)
unfolding nodes_below
below_sized p zero prefix t m = absurd (Memᴰ-not_nil m)
below_sized p (suc k) prefix t m =
    let q = flat_e (map below (members (at (sets_at p prefix) (length prefix)))) t m in
    let r = Memᴰ-of_map below (members (at (sets_at p prefix) (length prefix))) q.1 in
    let s = length-append prefix (r.0 ∷ []) in
    ⊎_elim (λ e. let n = ap length e in (omega arith, omega arith)) (λ n. let h = below_sized p k (prefix ++ (r.0 ∷ [])) t n in (omega (arith, h.0), omega (arith, h.1)))
    (Memᴰ-cases_cons (subst (λ (l : List (List ℕ)). Memᴰ t l) (sym r.2) q.2))
  where
    below : ℕ → List (List ℕ)
    below v = (prefix ++ (v ∷ [])) ∷ nodes_below p k (prefix ++ (v ∷ []))

module _ (p : Problem) (k : ℕ) where
  sized : (t : List ℕ) → Memᴰ t (take k (nodes p)) → (0 < length t) × (length t ≤ 0 + p.variables)
  unfolding nodes
  sized t m =
      below_sized p p.variables [] t
      (subst (λ (l : List (List ℕ)). Memᴰ t l) (take-append-drop k (nodes_below p p.variables [])) (Memᴰ-append_left (drop k (nodes_below p p.variables [])) m))

  pub settled_few : (t : List ℕ) → Memᴰ t (take k (nodes p)) → settled_by t < p.variables
  settled_few t m = omega (arith, (sized t m).0, (sized t m).1)

-- ---- a run makes no more nodes than there are
module _ (p : Problem) (limit room : ℕ) where
  inside : (e : Ending) (k : ℕ) → R.Ended p limit room (nodes p) 0 k e → nodes_in e ≤ length (nodes p)
  inside (finished plans made) k h = omega (arith, h.0, h.1)
  inside (spent plans made) k h = omega (arith, h.0, h.1)
  inside (full plans made) k h = go (leb (length (nodes p)) k) refl
    where
      go : (b : Bool) → leb (length (nodes p)) k ≡ b → made ≤ length (nodes p)
      go true e =
          let l = leb-true (length (nodes p)) k e in
          let s : take (suc k) (nodes p) ≡ take k (nodes p) = take_all (suc k) (nodes p) (omega arith) ∙ sym (take_all k (nodes p) l) in
          absurd (omega (arith, h.2, ap (λ (ts : List (List ℕ)). length (keep (is_plan p) ts)) s))
      go false e = let l = leb-false (length (nodes p)) k e in omega (arith, h.0)

  pub made_inside : nodes_in (result_of p limit room).ending ≤ length (nodes p)
  made_inside = inside (result_of p limit room).ending (R.the_walk p limit room).passed (R.the_walk p limit room).ended

pub count_most : {A : Type 0} (f : A → ℕ) (l : List A) (x : ℕ) → at (counts_by f l) x ≤ length l
count_most f l x = go (ltb x 12) refl
  where
    go : (b : Bool) → ltb x 12 ≡ b → at (counts_by f l) x ≤ length l
    go true e = let z = at_counts f l x (ltb-true x 12 e) in let y = keep_most (λ a. eqb (f a) x) l in omega arith
    go false e = let z = at_out (counts_by f l) x (let s = length_counts f l in let o = ltb-false x 12 e in omega arith) in omega arith
