-- The laws of the scan. First, over any list of sets, what each entry comes to, for every list of entries after it and every test q;
-- then what the filter leaves at the end of a scan. Front has the same of the first n of sixteen sets. Assumes nothing.
use Rattle.model.specs.Kit.{◌≡◌, refl, sym, ap, ap₂, ◌∙◌, subst, Bool, true, false, not, List, [], ◌∷◌, map, ◌⊎◌, inl, inr, ⊎_elim, ℕ, zero, suc, ◌^◌, ◌<◌, not-suc-le-zero, le_of_suc-le-suc}
use Rattle.model.specs.Kit.{ℕ_discrete, arith, T, eqb, eqb→eq, length, get_or, set, length-set, length-map, eq-eqb, eqb-true}
use Rattle.model.specs.{Lists.both, Lists.either, Lists.any, Lists.at, Lists.tabulate, ValueSets.has, ValueSets.mask_of, ValueSets.without_mask, ValueSets.only_mask, ValueSets.Inside}
use Rattle.model.specs.{Problem.assignments, Nogood.Entry, Nogood.equality, Nogood.disequality, Nogood.is, Nogood.obeys_from, Nogood.obeys, Nogood.obeying, Nogood.used, Nogood.filtered}
use mathlib.Core.Path.{fun_ext}
use lib.Seq.{get_or-set_same}
use Rattle.model.proofs.Lists.{T_of, of_T, not_of, of_not, TExt, both_i, both_l, both_r, either_l, either_r, either_e, any_i, any_e, keep_i, keep_e, get_d_at, at_ext, at_tabulate, length_tabulate}
use Rattle.model.proofs.Lists.{at_set, at_set_other, set_at, set_each, both_less}
use Rattle.model.proofs.Sets.{has_mask, has_none, mask_lt, mask_i, mask_e, members_i, members_e, member, at_zeros}
use Rattle.model.proofs.{Masks.is_mask, Members.either_no, Obey.obeys_unheld, Assignments.assign_i, Assignments.assign_e}
use Rattle.filter.specs.Inner.Scan.{models}

-- ---- an assignment drawn from the sets
abbrev pub Draw : List ℕ → List ℕ → Type 0
Draw ss a = (length a ≡ length ss) × ((x : ℕ) → x < length ss → (at a x < 16) × T (has (at ss x) (at a x)))

pub models_i : (ss : List ℕ) (es : List Entry) (q : List ℕ → Bool) (a : List ℕ) → Draw ss a → T (q a) → T (obeys a es) → T (models ss es q)
unfolding obeying
models_i ss es q a d t o =
    any_i q (obeying ss es) a
    (keep_i (λ b. obeys b es) (assignments ss) a (assign_i ss a d.0 (λ x l. members_i (at ss x) (at a x) (d.1 x l).0 (d.1 x l).1)) o) t

pub models_e : (ss : List ℕ) (es : List Entry) (q : List ℕ → Bool) → T (models ss es q) → (a : List ℕ) × Draw ss a × T (q a) × T (obeys a es)
unfolding obeying
models_e ss es q t =
    let r = any_e q (obeying ss es) t in
    let k = keep_e (λ b. obeys b es) (assignments ss) r.0 r.1 in
    let d = assign_e ss r.0 k.0 in
    (r.0, (d.0, λ x l. members_e (at ss x) (at r.0 x) (d.1 x l)), r.2, k.1)

-- variable x has the value v in a drawn assignment
pub is_at : (ss a : List ℕ) (x v : ℕ) → x < length ss → Draw ss a → is a x v ≡ eqb (at a x) v
is_at ss a x v h d = ap (λ (n : ℕ). eqb n v) (get_d_at a x 16 (subst (λ (n : ℕ). x < n) (sym d.0) h))

-- ---- one set made smaller
abbrev pub narrow : (ℕ → Bool) → ℕ → ℕ
narrow f s = mask_of (λ v. both (has s v) (f v))

abbrev pub cut : List ℕ → ℕ → (ℕ → Bool) → List ℕ
cut ss x f = set ss x (narrow f (at ss x))

pub cut_i : (ss : List ℕ) (x : ℕ) (f : ℕ → Bool) (a : List ℕ) → x < length ss → Draw ss a → T (f (at a x)) → Draw (cut ss x f) a
cut_i ss x f a h d t = (
  d.0 ∙ sym (length-set ss x _),
  λ y l. set_each (λ z s. (at a z < 16) × T (has s (at a z))) ss x _ y h
      (let r = d.1 x h in (r.0, mask_i (λ v. both (has (at ss x) v) (f v)) (at a x) r.0 (both_i (has (at ss x) (at a x)) (f (at a x)) r.1 t)))
      (λ e. d.1 y (subst (λ (n : ℕ). y < n) (length-set ss x _) l)),
)

pub cut_e : (ss : List ℕ) (x : ℕ) (f : ℕ → Bool) (a : List ℕ) → x < length ss → Draw (cut ss x f) a → Draw ss a × T (f (at a x))
cut_e ss x f a h d = ((d.0 ∙ length-set ss x _, λ y l. go y (ℕ_discrete y x) l), both_r (has (at ss x) (at a x)) (f (at a x)) here)
  where
    drawn : (y : ℕ) → y < length ss → (at a y < 16) × T (has (at (cut ss x f) y) (at a y))
    drawn y l = d.1 y (subst (λ (n : ℕ). y < n) (sym (length-set ss x _)) l)

    here : T (both (has (at ss x) (at a x)) (f (at a x)))
    here = (mask_e (λ v. both (has (at ss x) v) (f v)) (at a x) (subst (λ (s : ℕ). T (has s (at a x))) (at_set ss x _ h) (drawn x h).1)).1

    go : (y : ℕ) → Dec (y ≡ x) → y < length ss → (at a y < 16) × T (has (at ss y) (at a y))
    go y (yes e) l = subst (λ (z : ℕ). (at a z < 16) × T (has (at ss z) (at a z))) (sym e) ((drawn x h).0, both_l (has (at ss x) (at a x)) (f (at a x)) here)
    go y (no e) l = ((drawn y l).0, subst (λ (s : ℕ). T (has s (at a y))) (at_set_other ss x _ y e) (drawn y l).1)

pub cut_inside : (ss : List ℕ) (x : ℕ) (f : ℕ → Bool) → x < length ss → Inside (cut ss x f) ss
cut_inside ss x f l i v =
    set_each (λ z s. T (has s v) → T (has (at ss z) v)) ss x (narrow f (at ss x)) i l
    (λ t. both_l (has (at ss x) v) (f v) (mask_e (λ w. both (has (at ss x) w) (f w)) v t).1) (λ e t. t)

-- ---- one entry
abbrev pub other : ℕ → ℕ → Bool
other u v = not (eqb v u)

abbrev pub equal : ℕ → ℕ → Bool
equal u v = eqb v u

module _ (ss : List ℕ) (x u : ℕ) (es : List Entry) (q : List ℕ → Bool) (h : x < length ss) where
  -- a disequality takes its value from its variable
  pub at_disequality : models ss (disequality x u ∷ es) q ≡ models (set ss x (without_mask (at ss x) u)) es q
  unfolding obeys_from
  at_disequality =
      TExt (models ss (disequality x u ∷ es) q) (models (cut ss x (other u)) es q)
      (λ t. let r = models_e ss (disequality x u ∷ es) q t in
      models_i (cut ss x (other u)) es q r.0
      (cut_i ss x (other u) r.0 h r.1 (subst (λ (b : Bool). T (not b)) (is_at ss r.0 x u h r.1) (both_l (not (is r.0 x u)) (obeys r.0 es) r.3)))
      r.2 (both_r (not (is r.0 x u)) (obeys r.0 es) r.3))
      (λ t. let r = models_e (cut ss x (other u)) es q t in
      let d = cut_e ss x (other u) r.0 h r.1 in
      models_i ss (disequality x u ∷ es) q r.0 d.0 r.2
      (both_i (not (is r.0 x u)) (obeys r.0 es) (subst (λ (b : Bool). T (not b)) (sym (is_at ss r.0 x u h d.0)) d.1) r.3))

  -- an equality parts the assignments: of those that break it nothing more is asked, and the others have its value at its variable
  broken_or_kept : (a : List ℕ) → Draw ss a → (b : Bool) → eqb (at a x) u ≡ b → T (obeys_from (is a x u) a es) → T (other u (at a x)) ⊎ (T (equal u (at a x)) × T (obeys a es))
  broken_or_kept a d true e t = inr (T_of (eqb (at a x) u) e, subst (λ (b : Bool). T (obeys_from b a es)) (is_at ss a x u h d ∙ e) t)
  broken_or_kept a d false e t = inl (T_of (not (eqb (at a x) u)) (ap not e))

  not_true : (b : Bool) → T (not b) → b ≡ false
  not_true true t = absurd t
  not_true false t = refl

  pub at_equality : models ss (equality x u ∷ es) q ≡ either (models (set ss x (without_mask (at ss x) u)) [] q) (models (set ss x (only_mask (at ss x) u)) es q)
  unfolding obeys_from
  at_equality =
      TExt (models ss (equality x u ∷ es) q) (either l r)
      (λ t. let m = models_e ss (equality x u ∷ es) q t in
      ⊎_elim {C = T (either l r)}
      (λ o. either_l l r (models_i (cut ss x (other u)) [] q m.0 (cut_i ss x (other u) m.0 h m.1 o) m.2 tt))
      (λ o. either_r l r (models_i (cut ss x (equal u)) es q m.0 (cut_i ss x (equal u) m.0 h m.1 o.0) m.2 o.1))
      (broken_or_kept m.0 m.1 (eqb (at m.0 x) u) refl m.3))
      (λ t. ⊎_elim {C = T (models ss (equality x u ∷ es) q)}
      (λ s. let m = models_e (cut ss x (other u)) [] q s in
      let d = cut_e ss x (other u) m.0 h m.1 in
      models_i ss (equality x u ∷ es) q m.0 d.0 m.2
      (T_of (obeys_from (is m.0 x u) m.0 es)
      (ap (λ (b : Bool). obeys_from b m.0 es) (is_at ss m.0 x u h d.0 ∙ not_true (eqb (at m.0 x) u) d.1) ∙ obeys_unheld m.0 es)))
      (λ s. let m = models_e (cut ss x (equal u)) es q s in
      let d = cut_e ss x (equal u) m.0 h m.1 in
      models_i ss (equality x u ∷ es) q m.0 d.0 m.2
      (subst (λ (b : Bool). T (obeys_from b m.0 es)) (sym (is_at ss m.0 x u h d.0 ∙ of_T (eqb (at m.0 x) u) d.1)) m.3))
      (either_e l r t))
    where
      l : Bool
      l = models (cut ss x (other u)) [] q

      r : Bool
      r = models (cut ss x (equal u)) es q

-- an empty set leaves no assignment
pub at_empty : (ss : List ℕ) (x : ℕ) (es : List Entry) (q : List ℕ → Bool) → x < length ss → at ss x ≡ 0 → models ss es q ≡ false
at_empty ss x es q h e =
    not_of (models ss es q)
    (λ t. let m = models_e ss es q t in
    subst T (ap (λ (s : ℕ). has s (at m.0 x)) e ∙ has_none (at m.0 x)) (m.1.1 x h).1)

-- so does one that is stored
pub stored_empty : (ss : List ℕ) (x s : ℕ) (es : List Entry) (q : List ℕ → Bool) → x < length ss → s ≡ 0 → models (set ss x s) es q ≡ false
stored_empty ss x s es q h e = at_empty (set ss x s) x es q (subst (λ (n : ℕ). x < n) (sym (length-set ss x s)) h) (at_set ss x s h ∙ e)

-- a set that has no member but u, and one that has not u
only_u : (b c : Bool) → both b (not c) ≡ false → b ≡ both b c
only_u true true e = refl
only_u true false e = e
only_u false c e = refl

pub no_member : (f : ℕ → Bool) (s v : ℕ) → v < 16 → narrow f s ≡ 0 → both (has s v) (f v) ≡ false
no_member f s v l e = sym (has_mask 16 (λ w. both (has s w) (f w)) v l) ∙ ap (λ (n : ℕ). has n v) e ∙ has_none v

pub kept_only : (s u : ℕ) → s < 2 ^ 16 → without_mask s u ≡ 0 → only_mask s u ≡ s
kept_only s u h e = sym (is_mask s (λ v. both (has s v) (eqb v u)) h (λ v l. only_u (has s v) (eqb v u) (no_member (other u) s v l e)))

pub kept_without : (s u : ℕ) → s < 2 ^ 16 → only_mask s u ≡ 0 → without_mask s u ≡ s
kept_without s u h e = sym (is_mask s (λ v. both (has s v) (not (eqb v u))) h (λ v l. both_less (has s v) (eqb v u) (no_member (equal u) s v l e)))

pub absent_only : (s u : ℕ) → without_mask s u ≡ s → only_mask s u ≡ 0
absent_only s u e =
    sym (is_mask 0 (λ v. both (has s v) (eqb v u)) (omega arith)
    (λ v l. has_none v ∙ sym (never (has s v) (eqb v u) (ap (λ (n : ℕ). has n v) (sym e) ∙ has_mask 16 (λ w. both (has s w) (not (eqb w u))) v l))))
  where
    never : (b c : Bool) → b ≡ both b (not c) → both b c ≡ false
    never true true q = q
    never true false q = refl
    never false c q = refl

module _ (ss : List ℕ) (x u : ℕ) (es : List Entry) (q : List ℕ → Bool) (h : x < length ss) (b : at ss x < 2 ^ 16) where
  -- every assignment keeps the equality: it says nothing
  pub at_always : without_mask (at ss x) u ≡ 0 → models ss (equality x u ∷ es) q ≡ models ss es q
  at_always e =
      at_equality ss x u es q h
      ∙ ap₂ either (stored_empty ss x (without_mask (at ss x) u) [] q h e) (ap (λ (l : List ℕ). models l es q) (ap (set ss x) (kept_only (at ss x) u b e) ∙ set_at ss x))

  -- none keeps it: nothing more is asked
  pub at_never : only_mask (at ss x) u ≡ 0 → models ss (equality x u ∷ es) q ≡ models ss [] q
  at_never e =
      at_equality ss x u es q h
      ∙ ap₂ either (ap (λ (l : List ℕ). models l [] q) (ap (set ss x) (kept_without (at ss x) u b e) ∙ set_at ss x)) (stored_empty ss x (only_mask (at ss x) u) es q h e)
      ∙ either_no (models ss [] q)

-- ---- the end of a scan, over any list of sets
-- each is of sixteen bits; none is empty
abbrev pub Small : List ℕ → Type 0
Small ss = (x : ℕ) → at ss x < 2 ^ 16

abbrev pub Full : List ℕ → Type 0
Full ss = (x : ℕ) → x < length ss → at ss x ≡ 0 → ⊥

pub small_set : (ss : List ℕ) (x s : ℕ) → x < length ss → Small ss → s < 2 ^ 16 → Small (set ss x s)
small_set ss x s h b l y = set_each (λ z t. t < 2 ^ 16) ss x s y h l (λ e. b y)

pub full_set : (ss : List ℕ) (x s : ℕ) → x < length ss → Full ss → (s ≡ 0 → ⊥) → Full (set ss x s)
full_set ss x s h f l y k = set_each (λ z t. t ≡ 0 → ⊥) ss x s y h l (λ e. f y (subst (λ (n : ℕ). y < n) (length-set ss x s) k))

pub without_lt : (s u : ℕ) → without_mask s u < 2 ^ 16
without_lt s u = mask_lt 16 (λ v. both (has s v) (not (eqb v u)))

-- the value that went is no member
pub without_gone : (s u : ℕ) → T (has (without_mask s u) u) → ⊥
without_gone s u t = of_not (not (eqb u u)) (ap not (eq-eqb u u refl)) (both_r (has s u) (not (eqb u u)) (mask_e (λ v. both (has s v) (not (eqb v u))) u t).1)

pub only_lt : (s u : ℕ) → only_mask s u < 2 ^ 16
only_lt s u = mask_lt 16 (λ v. both (has s v) (eqb v u))

-- sets none of which is empty have an assignment, and one that uses any of their values
pub drawable : (ss : List ℕ) → Small ss → Full ss → (a : List ℕ) × Draw ss a
unfolding at
drawable [] b f = ([], (refl, λ x l. absurd (not-suc-le-zero l)))
drawable (s ∷ ss) b f =
    let m = member s (b 0) (f 0 (omega arith)) in
    let r = drawable ss (λ x. b (suc x)) (λ x l. f (suc x) (omega arith)) in
    (m.0 ∷ r.0, (ap suc r.1.0, each m.0 (m.1, m.2) r.0 r.1.1))
  where
    each : (v : ℕ) → (v < 16) × T (has s v) → (a : List ℕ) → ((x : ℕ) → x < length ss → (at a x < 16) × T (has (at ss x) (at a x)))
        → (x : ℕ) → x < suc (length ss) → (at (v ∷ a) x < 16) × T (has (at (s ∷ ss) x) (at (v ∷ a) x))
    each v m a r zero l = m
    each v m a r (suc x) l = r x (le_of_suc-le-suc l)

pub drawable_at : (ss : List ℕ) (i v : ℕ) → Small ss → Full ss → i < length ss → v < 16 → T (has (at ss i) v) → (a : List ℕ) × Draw ss a × T (is a i v)
drawable_at ss i v b f l h t =
    let r = drawable ss b f in
    let k : i < length r.0 = subst (λ (n : ℕ). i < n) (sym r.1.0) l in (
      set r.0 i v,
      (length-set r.0 i v ∙ r.1.0, λ y m. set_each (λ z w. (w < 16) × T (has (at ss z) w)) r.0 i v y k (h, t) (λ e. r.1.1 y m)),
      T_of (is (set r.0 i v) i v) (eq-eqb (get_or (set r.0 i v) i 16) v (get_or-set_same r.0 i v 16 k)),
    )

uses : (ss a : List ℕ) (i v : ℕ) → i < length ss → Draw ss a → T (is a i v) → T (has (at ss i) v)
uses ss a i v l d t = subst (λ (w : ℕ). T (has (at ss i) w)) (eqb→eq (at a i) v (subst T (is_at ss a i v l d) t)) (d.1 i l).1

-- whatever is asked, a value that stays was there
at_most : (ss : List ℕ) (es : List Entry) (i v : ℕ) → i < length ss → T (models ss es (λ a. is a i v)) → T (has (at ss i) v)
at_most ss es i v l t = let m = models_e ss es (λ a. is a i v) t in uses ss m.0 i v l m.1 m.2

at_end : (ss : List ℕ) (i v : ℕ) → Small ss → Full ss → i < length ss → v < 16 → models ss [] (λ a. is a i v) ≡ has (at ss i) v
unfolding obeys_from
at_end ss i v b f l h =
    TExt (models ss [] (λ a. is a i v)) (has (at ss i) v) (at_most ss [] i v l)
    (λ t. let r = drawable_at ss i v b f l h t in models_i ss [] (λ a. is a i v) r.0 r.1 r.2 tt)

-- sets with just the values that some assignment uses are what the filter leaves
pub filtered_is : (ss rs : List ℕ) (es : List Entry) → length rs ≡ length ss → Small rs
    → ((i v : ℕ) → i < length ss → v < 16 → models ss es (λ a. is a i v) ≡ has (at rs i) v) → rs ≡ filtered ss es
unfolding filtered used
filtered_is ss rs es n b m =
    at_ext rs (tabulate (length ss) (λ i. mask_of (λ v. any (λ a. is a i v) (obeying ss es)))) (n ∙ sym (length_tabulate (length ss) _))
    (λ i l. is_mask (at rs i) (λ v. any (λ a. is a i v) (obeying ss es)) (b i) (λ v h. sym (m i v (subst (λ (k : ℕ). i < k) n l) h))
    ∙ sym (at_tabulate (length ss) (λ j. mask_of (λ v. any (λ a. is a j v) (obeying ss es))) i (subst (λ (k : ℕ). i < k) n l)))

-- what the filter leaves depends on nothing but what is asked
pub filtered_same : (ss : List ℕ) (es : List Entry) (rs : List ℕ) (fs : List Entry) → length ss ≡ length rs
    → ((q : List ℕ → Bool) → models ss es q ≡ models rs fs q) → filtered ss es ≡ filtered rs fs
unfolding filtered used
filtered_same ss es rs fs n m = ap₂ tabulate n (fun_ext (λ i. ap mask_of (fun_ext (λ v. m (λ a. is a i v)))))

-- all entries passed: the sets as they are
pub filtered_end : (ss : List ℕ) → Small ss → Full ss → ss ≡ filtered ss []
filtered_end ss b f = filtered_is ss ss [] refl b (λ i v l h. at_end ss i v b f l h)

-- no assignment: every set is empty
pub filtered_none : (ss : List ℕ) (es : List Entry) → ((q : List ℕ → Bool) → models ss es q ≡ false) → map (λ s. 0) ss ≡ filtered ss es
filtered_none ss es m =
    filtered_is ss (map (λ s. 0) ss) es (length-map ss (λ s. 0)) (λ x. subst (λ (s : ℕ). s < 2 ^ 16) (sym (at_zeros ss x)) (omega arith))
    (λ i v l h. m (λ a. is a i v) ∙ sym (ap (λ (s : ℕ). has s v) (at_zeros ss i) ∙ has_none v))

-- ---- the split: an equality that some assignment breaks
module _ (ss : List ℕ) (x u : ℕ) (es : List Entry) (b : Small ss) (f : Full ss) (l : x < length ss) (some : without_mask (at ss x) u ≡ 0 → ⊥) where
  abbrev out : List ℕ
  out = set ss x (without_mask (at ss x) u)

  abbrev on : List ℕ
  on = set ss x (only_mask (at ss x) u)

  -- with the pair forced the rest has no assignment: just this value goes
  pub split_gone : ((q : List ℕ → Bool) → models on es q ≡ false) → out ≡ filtered ss (equality x u ∷ es)
  split_gone z =
      filtered_end out (small_set ss x _ l b (without_lt (at ss x) u)) (full_set ss x _ l f some)
      ∙ filtered_same out [] ss (equality x u ∷ es) (length-set ss x _)
      (λ q. sym (at_equality ss x u es q l ∙ ap (either (models out [] q)) (z q) ∙ either_no (models out [] q)))

  -- it has one: nothing goes
  parts : (i v : ℕ) → i < length ss → v < 16 → models ss (equality x u ∷ es) (λ a. is a i v) ≡ either (has (at out i) v) (models on es (λ a. is a i v))
  parts i v k h =
      at_equality ss x u es (λ a. is a i v) l
      ∙ ap (λ (c : Bool). either c (models on es (λ a. is a i v)))
      (at_end out i v (small_set ss x _ l b (without_lt (at ss x) u)) (full_set ss x _ l f some) (subst (λ (j : ℕ). i < j) (sym (length-set ss x _)) k) h)

  pub split_kept : T (models on es (λ a. true)) → ss ≡ filtered ss (equality x u ∷ es)
  split_kept t =
      filtered_is ss ss (equality x u ∷ es) refl b
      (λ i v k h. parts i v k h
      ∙ TExt (either (lft i v) (rgt i v)) (has (at ss i) v)
      (λ e. ⊎_elim {C = T (has (at ss i) v)} (cut_inside ss x (other u) l i v)
      (λ y. cut_inside ss x (equal u) l i v (at_most on es i v (subst (λ (j : ℕ). i < j) (sym (length-set ss x _)) k) y))
      (either_e (lft i v) (rgt i v) e))
      (λ e. back i v h e (ℕ_discrete i x)))
    where
      lft : ℕ → ℕ → Bool
      lft i v = has (at out i) v

      rgt : ℕ → ℕ → Bool
      rgt i v = models on es (λ a. is a i v)

      at_x : (v : ℕ) → v < 16 → T (has (at ss x) v) → (c : Bool) → eqb v u ≡ c → T (either (lft x v) (rgt x v))
      at_x v h e true q =
          let r = models_e on es (λ a. true) t in
          let d = cut_e ss x (equal u) r.0 l r.1 in
          either_r (lft x v) (rgt x v)
          (models_i on es (λ a. is a x v) r.0 r.1
          (T_of (is r.0 x v) (is_at ss r.0 x v l d.0 ∙ eq-eqb (at r.0 x) v (eqb→eq (at r.0 x) u d.1 ∙ sym (eqb-true v u q))))
          r.3)
      at_x v h e false q =
          either_l (lft x v) (rgt x v)
          (subst (λ (s : ℕ). T (has s v)) (sym (at_set ss x _ l))
          (mask_i (λ w. both (has (at ss x) w) (other u w)) v h (both_i (has (at ss x) v) (other u v) e (T_of (not (eqb v u)) (ap not q)))))

      back : (i v : ℕ) → v < 16 → T (has (at ss i) v) → Dec (i ≡ x) → T (either (lft i v) (rgt i v))
      back i v h e (yes q) = subst (λ (j : ℕ). T (either (lft j v) (rgt j v))) (sym q) (at_x v h (subst (λ (j : ℕ). T (has (at ss j) v)) q e) (eqb v u) refl)
      back i v h e (no q) = either_l (lft i v) (rgt i v) (subst (λ (s : ℕ). T (has s v)) (sym (at_set_other ss x _ i q)) e)
