-- Laws about the model's definitions: tests over lists, loops over them that stop early, distinct numbers. Assumes nothing.
use Rattle.model.specs.Kit.{◌≡◌, refl, sym, ap, ap₂, ◌∙◌, subst, Bool, true, false, not, List, [], ◌∷◌, ◌++◌, map, Memᴰ, Memᴰ-head, Memᴰ-tail, ◌⊎◌, inl, inr, ⊎_elim, ℕ, suc, ◌+◌, ◌-◌}
use Rattle.model.specs.Kit.{◌^◌, ◌≤◌, ◌<◌, add-one, arith, T, eqb, eqb-true, eqb-false, length, get_or, drop}
use Rattle.model.specs.Lists.{both, either, all, keep, flat, up_from, below, at}
use Rattle.model.specs.{ValueSets.has, ValueSets.without_mask, ValueSets.members, ValueSets.lowest_of, Sheet.distinct}
use lib.Seq.{drop-cons, drop-length}
use Rattle.std.specs.Prelude.{None, Some}
use Rattle.model.specs.EachMember.{NextMember}
use Rattle.model.proofs.Lowest.{members_lowest, lowest_in, without_i, without_e, next_comes, next_over}
use Rattle.model.proofs.{Lists.all_cons, Lists.at_mem, Counting.distinct_i, Sets.members_of_none, Sets.has_lt, Sets.mask_lt, Members.has_0}

-- ---- tests
both_assoc : (a b c : Bool) → both a (both b c) ≡ both (both a b) c
both_assoc true b c = refl
both_assoc false b c = refl

module _ {A : Type 0} where
  pub all_ext : (f g : A → Bool) (l : List A) → ((x : A) → Memᴰ x l → f x ≡ g x) → all f l ≡ all g l
  unfolding all
  all_ext f g [] h = refl
  all_ext f g (x ∷ l) h = all_cons f x l ∙ ap₂ both (h x (Memᴰ-head refl)) (all_ext f g l (λ y m. h y (Memᴰ-tail m))) ∙ sym (all_cons g x l)

  pub all_append : (f : A → Bool) (l m : List A) → all f (l ++ m) ≡ both (all f l) (all f m)
  unfolding all
  all_append f [] m = refl
  all_append f (x ∷ l) m =
      all_cons f x (l ++ m) ∙ ap (both (f x)) (all_append f l m) ∙ both_assoc (f x) (all f l) (all f m) ∙ ap (λ (b : Bool). both b (all f m)) (sym (all_cons f x l))

  pub all_flat : (f : A → Bool) (ls : List (List A)) → all f (flat ls) ≡ all (all f) ls
  unfolding all flat
  all_flat f [] = refl
  all_flat f (l ∷ ls) = all_append f l (flat ls) ∙ ap (both (all f l)) (all_flat f ls) ∙ sym (all_cons (all f) l ls)

  pub all_keep : (f p : A → Bool) (l : List A) → all f (keep (λ x. not (p x)) l) ≡ all (λ x. either (p x) (f x)) l
  unfolding keep all
  all_keep f p [] = refl
  all_keep f p (x ∷ l) = go (all_keep f p l) (p x) ∙ sym (all_cons (λ y. either (p y) (f y)) x l)
    where
      go : all f (keep (λ y. not (p y)) l) ≡ all (λ y. either (p y) (f y)) l → (b : Bool) →
          all f (elim (not b) [ true ↦ x ∷ keep (λ y. not (p y)) l | false ↦ keep (λ y. not (p y)) l ]) ≡ both (either b (f x)) (all (λ y. either (p y) (f y)) l)
      go ih true = ih
      go ih false = all_cons f x (keep (λ y. not (p y)) l) ∙ ap (both (f x)) ih

pub all_map : {A B : Type 0} (f : B → Bool) (h : A → B) (l : List A) → all f (map h l) ≡ all (λ x. f (h x)) l
unfolding all
all_map f h [] = refl
all_map f h (x ∷ l) = all_cons f (h x) (map h l) ∙ ap (both (f (h x))) (all_map f h l) ∙ sym (all_cons (λ y. f (h y)) x l)

-- ---- loops that stop at the first that fails
-- one that fails, or the rest
both_stop : (b c total : Bool) → both b c ≡ total → b ≡ false → false ≡ total
both_stop b c total e f = ap (λ (t : Bool). both t c) (sym f) ∙ e

both_rest : (b c total : Bool) → both b c ≡ total → b ≡ true → c ≡ total
both_rest b c total e f = ap (λ (t : Bool). both t c) (sym f) ∙ e

-- over a set's members, lowest first
module _ (f : ℕ → Bool) (s : ℕ) (total : Bool) (e : all f (members s) ≡ total) where
  all_turn : s < 2 ^ 16 → (s ≡ 0 → ⊥) → both (f (lowest_of s)) (all f (members (without_mask s (lowest_of s)))) ≡ total
  all_turn h n = sym (ap (all f) (members_lowest s h n) ∙ all_cons f (lowest_of s) (members (without_mask s (lowest_of s)))) ∙ e

  pub all_stop : s < 2 ^ 16 → (s ≡ 0 → ⊥) → f (lowest_of s) ≡ false → false ≡ total
  all_stop h n q = both_stop (f (lowest_of s)) _ total (all_turn h n) q

  pub all_rest : s < 2 ^ 16 → (s ≡ 0 → ⊥) → f (lowest_of s) ≡ true → all f (members (without_mask s (lowest_of s))) ≡ total
  all_rest h n q = both_rest (f (lowest_of s)) _ total (all_turn h n) q

  pub all_over : s ≡ 0 → true ≡ total
  unfolding all
  all_over z = sym (ap (λ (n : ℕ). all f (members n)) z ∙ ap (all f) members_of_none) ∙ e

-- the same where what holds of each is no test
pub record Swept (P : ℕ → Type 0) (whole rest : ℕ) : Type 0 where
  pub small : rest < 2 ^ 16
  pub among : (u : ℕ) → T (has rest u) → T (has whole u)
  pub done : (u : ℕ) → T (has whole u) → T (has rest u) ⊎ P u

pub swept_none : (P : ℕ → Type 0) (whole rest : ℕ) → rest ≡ whole → whole < 2 ^ 16 → Swept P whole rest
swept_none P whole rest e h = subst (Swept P whole) (sym e) (record { small = h; among = λ u t. t; done = λ u t. inl t })

module _ {P : ℕ → Type 0} {whole rest : ℕ} (s : Swept P whole rest) where
  -- none is left
  pub swept_over : {end : ℕ} → NextMember rest None end → (u : ℕ) → T (has whole u) → P u
  swept_over step u t = ⊎_elim (λ h. absurd (has_0 u (subst (λ (n : ℕ). T (has n u)) (next_over step) h))) (λ h. h) (s.done u t)

  -- v comes, and `new` is left
  module _ {v new : ℕ} (step : NextMember rest (Some v) new) where
    come : (rest ≡ 0 → ⊥) × (v ≡ lowest_of rest) × (new ≡ without_mask rest (lowest_of rest))
    come = next_comes step

    low_left : T (has rest v)
    low_left = subst (λ (u : ℕ). T (has rest u)) (sym come.1) (lowest_in rest s.small come.0)

    pub swept_in : T (has whole v)
    swept_in = s.among v low_left

    pub swept_small : v < 16
    swept_small = has_lt 16 rest v s.small low_left

    pub swept_rest : P v → Swept P whole new
    swept_rest h =
        subst (Swept P whole) (sym (come.2 ∙ ap (without_mask rest) (sym come.1)))
        (record { small = mask_lt 16 _; among = λ u t. s.among u (without_e rest v u t).0; done = λ u t. ⊎_elim (λ l. go u l (eqb u v) refl) inr (s.done u t) })
      where
        go : (u : ℕ) → T (has rest u) → (b : Bool) → eqb u v ≡ b → T (has (without_mask rest v) u) ⊎ P u
        go u l true e = inr (subst P (sym (eqb-true u v e)) h)
        go u l false e = inl (without_i rest v u s.small l (eqb-false u v e))

-- over the first numbers, and over a list
module _ (f : ℕ → Bool) (n : ℕ) where
  pub numbers_start : all f (up_from 0 (n - 0)) ≡ all f (below n)
  unfolding below
  numbers_start = ap (λ (k : ℕ). all f (up_from 0 k)) (let e : n - 0 ≡ n = omega arith in e)

  module _ (i : ℕ) (total : Bool) (e : all f (up_from i (n - i)) ≡ total) where
    numbers_turn : i < n → both (f i) (all f (up_from (i + 1) (n - (i + 1)))) ≡ total
    unfolding up_from
    numbers_turn h =
        ap (λ (k : ℕ). both (f i) (all f (up_from k (n - (i + 1))))) (add-one i) ∙ sym (all_cons f i (up_from (suc i) (n - (i + 1))))
        ∙ ap (λ (k : ℕ). all f (up_from i k)) (let q : suc (n - (i + 1)) ≡ n - i = omega arith in q) ∙ e

    pub numbers_stop : i < n → f i ≡ false → false ≡ total
    numbers_stop h q = both_stop (f i) _ total (numbers_turn h) q

    pub numbers_rest : i < n → f i ≡ true → all f (up_from (i + 1) (n - (i + 1))) ≡ total
    numbers_rest h q = both_rest (f i) _ total (numbers_turn h) q

    pub numbers_over : n ≤ i → true ≡ total
    unfolding up_from all
    numbers_over h = sym (ap (λ (k : ℕ). all f (up_from i k)) (let q : n - i ≡ 0 = omega arith in q)) ∙ e

module _ {A : Type 0} (f : A → Bool) (l : List A) (d : A) (i : ℕ) (total : Bool) (e : all f (drop i l) ≡ total) where
  list_turn : i < length l → both (f (get_or l i d)) (all f (drop (i + 1) l)) ≡ total
  list_turn h = ap (λ (k : ℕ). both (f (get_or l i d)) (all f (drop k l))) (add-one i) ∙ sym (ap (all f) (drop-cons l i d h) ∙ all_cons f (get_or l i d) (drop (suc i) l)) ∙ e

  pub list_stop : i < length l → f (get_or l i d) ≡ false → false ≡ total
  list_stop h q = both_stop (f (get_or l i d)) _ total (list_turn h) q

  pub list_rest : i < length l → f (get_or l i d) ≡ true → all f (drop (i + 1) l) ≡ total
  list_rest h q = both_rest (f (get_or l i d)) _ total (list_turn h) q

  pub list_over : i ≡ length l → true ≡ total
  unfolding all
  list_over h = sym (ap (λ (k : ℕ). all f (drop k l)) h ∙ ap (all f) (drop-length l)) ∙ e

-- ---- distinct numbers
pub distinct_of : (l : List ℕ) → ((i j : ℕ) → i < j → j < length l → at l i ≡ at l j → ⊥) → T (distinct l)
unfolding distinct at
distinct_of [] h = tt
distinct_of (x ∷ l) h =
    distinct_i x l (λ m. let r = at_mem l x m in h 0 (suc r.0) (omega arith) (omega (arith, r.1)) (sym r.2))
    (distinct_of l (λ i j p q e. h (suc i) (suc j) (omega arith) (omega arith) e))
