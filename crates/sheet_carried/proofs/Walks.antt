-- The walk of a constraint's forbidden sets: one variable further, at its end, and at its start. Assumes nothing.
use Rattle.model.specs.Kit.{◌≡◌, refl, sym, ap, ap₂, ◌∙◌, subst, Bool, true, false, not, List, [], ◌∷◌, ◌++◌, map, Memᴰ, Memᴰ-head, Memᴰ-tail, Memᴰ-not_nil, ◌⊎◌, inl, inr, ⊎_elim}
use Rattle.model.specs.Kit.{ℕ, suc, ◌+◌, ◌-◌, ◌*◌, ◌≤◌, ◌<◌, not-suc-le-zero, le_of_suc-le-suc, arith, T, not_T, T_not, length, drop}
use Rattle.model.specs.{Lists.all, Lists.any, Lists.at, Lists.same, Lists.both, Lists.either, ValueSets.has, ValueSets.mask_of, ValueSets.common_mask, ValueSets.without_mask, ValueSets.members}
use Rattle.model.specs.{ValueSets.lowest_of, Problem.Problem, Problem.constraint_at, Inner.WellFormed.Stated, Inner.WellFormed.GoodConstraint}
use Rattle.std.specs.Prelude.{Some}
use Rattle.model.specs.EachMember.{NextMember}
use lib.Seq.{drop-cons, drop-length}
use Rattle.model.proofs.Lists.{TExt, of_T, T_of, not_of, both_i, both_l, both_r, all_e, all_i, mem_at, either_l, TDec, length_snoc}
use Rattle.model.proofs.{Sets.has_mask, Sets.mask_lt, Sets.mask_e, Sets.members_i, Sets.members_e, Lowest.lowest_in, Lowest.without_e, Lowest.next_comes}
use Rattle.arrays.specs.Inner.Places.{SUPPORTS}
use Rattle.sheet_table.specs.{Inner.Table.Ready, Inner.Forbidden.blocked, Inner.Forbidden.number_of, Inner.Forbidden.PairCode}
use Rattle.sheet_table.specs.Inner.Forbidden.{MaybePair, Coded, Begun, codes_at, keeps, last_three, Lent, Chosen, Walking, Choices, Triple, Beside, all_blocked}
use Rattle.sheet_table.proofs.{Codes.good, Codes.init_16, Codes.init_small, Codes.none_out, Laws.all_ext, Laws.all_stop, Laws.all_rest, Laws.all_over}
use Rattle.sheet_carried.proofs.{Keys.begun_digits, Keys.packed_snoc, Keys.packed_none, Keys.packed_lt, Keys.row_test, Blocks.blocked_ext}

-- ---- one value more
begun_snoc : (p : Problem) (xs vs : List ℕ) (v : ℕ) → length vs < length xs → Begun p xs vs → T (has (at p.initial (at xs (length vs))) v) → Begun p xs (vs ++ (v ∷ []))
unfolding at
begun_snoc p [] vs v h b t = absurd (not-suc-le-zero h)
begun_snoc p (x ∷ xs) [] v h b t = (t, tt)
begun_snoc p (x ∷ xs) (u ∷ vs) v h b t = (b.0, begun_snoc p xs vs v (le_of_suc-le-suc h) b.1 t)

codes_snoc : (codes xs vs : List ℕ) (v : ℕ) → length vs < length xs → codes_at codes xs (vs ++ (v ∷ [])) ≡ codes_at codes xs vs ++ (at codes (16 * at xs (length vs) + v) ∷ [])
unfolding at codes_at
codes_snoc codes [] vs v h = absurd (not-suc-le-zero h)
codes_snoc codes (x ∷ xs) [] v h = refl
codes_snoc codes (x ∷ xs) (u ∷ vs) v h = ap (λ (r : List ℕ). at codes (16 * x + u) ∷ r) (codes_snoc codes xs vs v (le_of_suc-le-suc h))

codes_length : (codes xs vs : List ℕ) → length vs ≤ length xs → length (codes_at codes xs vs) ≡ length vs
unfolding codes_at
codes_length codes xs [] h = refl
codes_length codes [] (v ∷ vs) h = absurd (not-suc-le-zero h)
codes_length codes (x ∷ xs) (v ∷ vs) h = ap suc (codes_length codes xs vs (le_of_suc-le-suc h))

three_snoc : (a b e c : ℕ) (l : List ℕ) → length l ≤ 2 → a ∷ b ∷ e ∷ [] ≡ last_three l → b ∷ e ∷ c ∷ [] ≡ last_three (l ++ (c ∷ []))
three_snoc a b e c [] h q = cc
three_snoc a b e c (x ∷ []) h q = cc
three_snoc a b e c (x ∷ y ∷ []) h q = cc
three_snoc a b e c (x ∷ y ∷ z ∷ r) h q = absurd (omega arith)

-- ---- the codes of a walk are codes of pairs
codes_pairs : (p : Problem) (codes xs vs : List ℕ) → Coded p codes → ((x : ℕ) → Memᴰ x xs → x < p.variables) → Begun p xs vs → (y : ℕ) → Memᴰ y (codes_at codes xs vs) → PairCode p y
unfolding codes_at
codes_pairs p codes xs [] c i b y m = absurd (Memᴰ-not_nil m)
codes_pairs p codes [] (v ∷ vs) c i b y m = absurd (Memᴰ-not_nil m)
codes_pairs p codes (x ∷ xs) (v ∷ vs) c i b y (Memᴰ-head e) = subst (PairCode p) (sym e) (c x v (i x (Memᴰ-head refl)) b.0)
codes_pairs p codes (x ∷ xs) (v ∷ vs) c i b y (Memᴰ-tail m) = codes_pairs p codes xs vs c (λ z k. i z (Memᴰ-tail k)) b.1 y m

three_pairs : (p : Problem) (l : List ℕ) → ((y : ℕ) → Memᴰ y l → PairCode p y) → (y : ℕ) → Memᴰ y (last_three l) → MaybePair p y
three_pairs p [] h y (Memᴰ-head e) = inl e
three_pairs p [] h y (Memᴰ-tail (Memᴰ-head e)) = inl e
three_pairs p [] h y (Memᴰ-tail (Memᴰ-tail (Memᴰ-head e))) = inl e
three_pairs p [] h y (Memᴰ-tail (Memᴰ-tail (Memᴰ-tail m))) = absurd (Memᴰ-not_nil m)
three_pairs p (a ∷ []) h y (Memᴰ-head e) = inl e
three_pairs p (a ∷ []) h y (Memᴰ-tail (Memᴰ-head e)) = inl e
three_pairs p (a ∷ []) h y (Memᴰ-tail (Memᴰ-tail m)) = inr (h y m)
three_pairs p (a ∷ b ∷ []) h y (Memᴰ-head e) = inl e
three_pairs p (a ∷ b ∷ []) h y (Memᴰ-tail m) = inr (h y m)
three_pairs p (a ∷ b ∷ e ∷ r) h y (Memᴰ-head q) = inr (h y (Memᴰ-head q))
three_pairs p (a ∷ b ∷ e ∷ r) h y (Memᴰ-tail (Memᴰ-head q)) = inr (h y (Memᴰ-tail (Memᴰ-head q)))
three_pairs p (a ∷ b ∷ e ∷ r) h y (Memᴰ-tail (Memᴰ-tail (Memᴰ-head q))) = inr (h y (Memᴰ-tail (Memᴰ-tail (Memᴰ-head q))))
three_pairs p (a ∷ b ∷ e ∷ r) h y (Memᴰ-tail (Memᴰ-tail (Memᴰ-tail m))) = absurd (Memᴰ-not_nil m)

-- ---- 255 blocks nothing
module _ (p : Problem) (w : Stated p) where
  pub none_before : (l : List ℕ) → blocked p (number_of p 255 ∷ l) ≡ blocked p l
  none_before l = blocked_ext p w (number_of p 255 ∷ l) l down (λ q h m. Memᴰ-tail m)
    where
      down : (q : ℕ) → q < p.variables * p.values → Memᴰ q (number_of p 255 ∷ l) → Memᴰ q l
      down q h (Memᴰ-head e) = absurd (omega (arith, none_out p w))
      down q h (Memᴰ-tail m) = m

  three_blocked : (l : List ℕ) → length l ≤ 3 → blocked p (map (number_of p) (last_three l)) ≡ blocked p (map (number_of p) l)
  three_blocked [] h = none_before _ ∙ none_before _ ∙ none_before _
  three_blocked (a ∷ []) h = none_before _ ∙ none_before _
  three_blocked (a ∷ b ∷ []) h = none_before _
  three_blocked (a ∷ b ∷ e ∷ []) h = refl
  three_blocked (a ∷ b ∷ e ∷ f ∷ r) h = absurd (omega arith)

-- ---- a walk
module _ (p : Problem) (vs numbers supports codes moves : List ℕ) (k ahead key a b e : ℕ) (s : Walking p vs numbers supports codes moves k ahead key a b e) where
  w : Stated p
  w = s.lent.ready.framed.stated

  g : GoodConstraint p (constraint_at p k)
  g = good p s.lent.ready.framed.stated k s.chosen.inside

  -- its last step: the three codes are those of the image
  pub walked_triple : Triple p numbers supports a b e
  walked_triple =
      let m : (y : ℕ) → Memᴰ y (a ∷ b ∷ e ∷ []) → MaybePair p y = λ y i. three_pairs p _ (codes_pairs p codes (constraint_at p k).scope vs s.lent.coded g.inside s.chosen.begun) y
      (subst (Memᴰ y) s.shown i) in
      record {
        ready = s.lent.ready;
        first = m a (Memᴰ-head refl);
        second = m b (Memᴰ-tail (Memᴰ-head refl));
        third = m e (Memᴰ-tail (Memᴰ-tail (Memᴰ-head refl)));
      }

  walked : ahead ≡ 0 → blocked p (number_of p a ∷ number_of p b ∷ number_of p e ∷ []) ≡ keeps p codes (constraint_at p k) (drop (length vs) (constraint_at p k).scope) vs
  unfolding keeps
  walked z =
      let c = constraint_at p k in
      let n : length vs ≡ length c.scope = omega (arith, s.chosen.split) in
      let none : drop (length vs) c.scope ≡ [] = ap (λ (i : ℕ). drop i c.scope) n ∙ drop-length c.scope in
      ap (λ (l : List ℕ). blocked p (map (number_of p) l)) s.shown
      ∙ three_blocked p w (codes_at codes c.scope vs) (subst (λ (i : ℕ). i ≤ 3) (sym (codes_length codes c.scope vs (omega (arith, n)))) (omega (arith, n, g.few)))
      ∙ sym (ap (λ (t : Bool). either t (blocked p (map (number_of p) (codes_at codes c.scope vs)))) (s.absent z))
      ∙ sym (ap (λ (l : List ℕ). keeps p codes c l vs) none)

  -- the variable that is next
  has_next : (ahead ≡ 0 → ⊥) → length vs < length (constraint_at p k).scope
  has_next n = omega (arith, s.chosen.split)

  next_var : (ahead ≡ 0 → ⊥) → at (constraint_at p k).scope (length vs) < p.variables
  next_var n = g.inside _ (mem_at (constraint_at p k).scope (length vs) (has_next n))

  -- one step further
  pub further : (n : ahead ≡ 0 → ⊥) (v : ℕ) → T (has (at p.initial (at (constraint_at p k).scope (length vs))) v) → (ahead ≡ 1 → any (same (vs ++ (v ∷ []))) (constraint_at p k).rows ≡ false) →
      Walking p (vs ++ (v ∷ [])) numbers supports codes moves k (ahead - 1) (16 * key + v) b e (at codes (16 * at (constraint_at p k).scope (length vs) + v))
  further n v t r =
      let c = constraint_at p k in
      let z = codes_length codes c.scope vs (omega (arith, has_next n)) in
      record {
        lent = s.lent;
        chosen = record {
          inside = s.chosen.inside;
          split = omega (arith, length_snoc vs v, s.chosen.split);
          begun = begun_snoc p c.scope vs v (has_next n) s.chosen.begun t;
          keyed = ap (λ (i : ℕ). 16 * i + v) s.chosen.keyed ∙ sym (packed_snoc vs v);
        };
        shown = three_snoc a b e _ (codes_at codes c.scope vs) (omega (arith, z, has_next n, g.few)) s.shown ∙ ap last_three (sym (codes_snoc codes c.scope vs v (has_next n)));
        absent = λ q. r (omega arith);
      }

-- ---- the choices for the next variable
module _ (p : Problem) (vs codes numbers supports : List ℕ) (k ahead key : ℕ) (r : Ready p numbers supports) (c : Chosen p vs k ahead key) (n : ahead ≡ 0 → ⊥) where
  st : Stated p
  st = r.framed.stated

  gc : GoodConstraint p (constraint_at p k)
  gc = good p r.framed.stated k c.inside

  chosen_in : length vs < length (constraint_at p k).scope
  chosen_in = omega (arith, c.split)

  chosen_var : at (constraint_at p k).scope (length vs) < p.variables
  chosen_var = gc.inside _ (mem_at (constraint_at p k).scope (length vs) chosen_in)

  chosen_key : key < 256
  chosen_key = subst (λ (i : ℕ). i < 256) (sym c.keyed) (packed_lt vs (omega (arith, chosen_in, gc.few)) (begun_digits p st (constraint_at p k).scope vs gc.inside c.begun))

  pub keeps_here : keeps p codes (constraint_at p k) (drop (length vs) (constraint_at p k).scope) vs
      ≡ all (λ v. keeps p codes (constraint_at p k) (drop (suc (length vs)) (constraint_at p k).scope) (vs ++ (v ∷ []))) (members (at p.initial (at (constraint_at p k).scope (length vs))))
  unfolding keeps at
  keeps_here = ap (λ (l : List ℕ). keeps p codes (constraint_at p k) l vs) (drop-cons (constraint_at p k).scope (length vs) 0 chosen_in)

  choices_all : (ahead ≡ 1 → ⊥) → Choices p vs codes k ahead (at p.initial (at (constraint_at p k).scope (length vs)))
  choices_all m = record { small = init_small p st _ chosen_var; allowed = λ v t. t; absent = λ v t e. absurd (m e); whole = sym keeps_here }

  -- for the last variable, those that make no row
  module _ (one : ahead ≡ 1) where
    x : ℕ
    x = at (constraint_at p k).scope (length vs)

    few : ℕ
    few = common_mask (at p.initial (at (constraint_at p k).scope (length vs))) (mask_of (λ v. not (has (at supports (256 * k + key)) v)))

    row : ℕ → Bool
    row v = any (same (vs ++ (v ∷ []))) (constraint_at p k).rows

    few_has : (v : ℕ) → v < 16 → has few v ≡ both (has (at p.initial x) v) (not (row v))
    unfolding few x row
    few_has v h =
        has_mask 16 _ v h
        ∙ ap (both (has (at p.initial x) v))
        (has_mask 16 (λ u. not (has (at supports (256 * k + key)) u)) v h
        ∙ ap not
        (ap (λ (i : ℕ). has (at supports (256 * k + i)) v) c.keyed
        ∙ row_test p supports r.supported k c.inside vs v (omega (arith, c.split)) (omega (arith, c.split, gc.few))
        (begun_digits p st (constraint_at p k).scope vs gc.inside c.begun) h))

    few_in : (v : ℕ) → T (has few v) → T (has (at p.initial x) v)
    unfolding few x
    few_in v t = both_l (has (at p.initial x) v) _ (mask_e _ v t).1

    -- a row is kept whatever its image
    row_kept : (v : ℕ) → T (row v) → T (keeps p codes (constraint_at p k) (drop (suc (length vs)) (constraint_at p k).scope) (vs ++ (v ∷ [])))
    unfolding keeps row
    row_kept v t =
        let e : suc (length vs) ≡ length (constraint_at p k).scope = omega (arith, c.split) in
        let none : drop (suc (length vs)) (constraint_at p k).scope ≡ [] = ap (λ (i : ℕ). drop i (constraint_at p k).scope) e ∙ drop-length (constraint_at p k).scope in
        subst (λ (l : List ℕ). T (keeps p codes (constraint_at p k) l (vs ++ (v ∷ [])))) (sym none) (either_l (any (same (vs ++ (v ∷ []))) (constraint_at p k).rows) _ t)

    choices_last : Choices p vs codes k ahead few
    unfolding few x row
    choices_last =
        let F : ℕ → Bool = λ v. keeps p codes (constraint_at p k) (drop (suc (length vs)) (constraint_at p k).scope) (vs ++ (v ∷ [])) in
        let i = chosen_var in
        record {
          small = mask_lt 16 _;
          allowed = few_in;
          absent = λ v t e. not_of (row v) (T_not (row v) (both_r (has (at p.initial x) v) (not (row v)) (subst T (few_has v (init_16 p st x v i (few_in v t))) t)));
          whole = TExt (all F (members few)) (all F (members (at p.initial x)))
              (λ t. all_i F (members (at p.initial x)) (λ v m.
              let q = members_e (at p.initial x) v m in
              ⊎_elim {C = T (F v)} (row_kept v)
              (λ z. all_e F (members few) t v (members_i few v q.0 (subst T (sym (few_has v q.0)) (both_i (has (at p.initial x) v) (not (row v)) q.1 (not_T (row v) z)))))
              (TDec (row v))))
              (λ t. all_i F (members few) (λ v m. let q = members_e few v m in all_e F (members (at p.initial x)) t v (members_i (at p.initial x) v q.0 (few_in v q.1))))
              ∙ sym keeps_here;
        }

-- as the code makes them
module _ (p : Problem) (vs codes numbers supports : List ℕ) (k ahead key x : ℕ) (r : Ready p numbers supports) (c : Chosen p vs k ahead key) (n : ahead ≡ 0 → ⊥)
    (e : x ≡ at (constraint_at p k).scope (length vs)) where
  pub next_in : x < p.variables
  next_in = subst (λ (y : ℕ). y < p.variables) (sym e) (chosen_var p vs codes numbers supports k ahead key r c n)

  pub row_small : 256 * k + key < SUPPORTS
  row_small = omega (arith, chosen_key p vs codes numbers supports k ahead key r c n, c.inside, r.framed.stated.most)

  module _ (set : ℕ) (h : set ≡ at p.initial x) where
    initial_is : set ≡ at p.initial (at (constraint_at p k).scope (length vs))
    initial_is = h ∙ ap (at p.initial) e

    pub made_all : (ahead ≡ 1 → ⊥) → Choices p vs codes k ahead set
    made_all m = subst (Choices p vs codes k ahead) (sym initial_is) (choices_all p vs codes numbers supports k ahead key r c n m)

    pub made_last : (s new : ℕ) → s ≡ mask_of (λ v. not (has (at supports (256 * k + key)) v)) → new ≡ common_mask set s → ahead ≡ 1 → Choices p vs codes k ahead new
    unfolding few
    made_last s new i q m = subst (Choices p vs codes k ahead) (sym (q ∙ ap₂ common_mask initial_is i)) (choices_last p vs codes numbers supports k ahead key r c n m)

-- ---- one turn of the walk's loop
pub choices_over : {p : Problem} {vs codes : List ℕ} {k ahead set : ℕ} → Choices p vs codes k ahead set → set ≡ 0 → true ≡ keeps p codes (constraint_at p k)
    (drop (length vs) (constraint_at p k).scope) vs
choices_over {set = set} c z = all_over _ set _ c.whole z

-- as the code takes it: the variable x is next, v comes, and `new` is left
module _ (p : Problem) (vs numbers supports codes moves : List ℕ) (k ahead key a b e : ℕ) (s : Walking p vs numbers supports codes moves k ahead key a b e) (n : ahead ≡ 0 → ⊥) where
  pub next_place : (i : ℕ) → i ≡ length (constraint_at p k).scope → (ahead ≤ i) × (i - ahead ≡ length vs) × (i - ahead < length (constraint_at p k).scope)
  next_place i h = (omega (arith, s.chosen.split), omega (arith, s.chosen.split), omega (arith, s.chosen.split))

  module _ {x set : ℕ} (ex : x ≡ at (constraint_at p k).scope (length vs)) (c : Choices p vs codes k ahead set) {v new : ℕ} (step : NextMember set (Some v) new) where
    come : (set ≡ 0 → ⊥) × (v ≡ lowest_of set) × (new ≡ without_mask set (lowest_of set))
    come = next_comes step

    low_in : T (has set v)
    low_in = subst (λ (u : ℕ). T (has set u)) (sym come.1) (lowest_in set c.small come.0)

    low_small : v < 16
    low_small = init_16 p s.lent.ready.framed.stated _ v (next_var p vs numbers supports codes moves k ahead key a b e s n) (c.allowed _ low_in)

    pub next_spot : 16 * x + v < 256
    next_spot = omega (arith, ex, next_var p vs numbers supports codes moves k ahead key a b e s n, low_small, s.lent.ready.framed.stated.few)

    pub next_key : 16 * key + v < 4096
    next_key = omega (arith, chosen_key p vs codes numbers supports k ahead key s.lent.ready s.chosen n, low_small)

    pub next_walk : (code : ℕ) → code ≡ at codes (16 * x + v) → Walking p (vs ++ (v ∷ [])) numbers supports codes moves k (ahead - 1) (16 * key + v) b e code
    next_walk code h =
        subst (Walking p (vs ++ (v ∷ [])) numbers supports codes moves k (ahead - 1) (16 * key + v) b e) (sym (h ∙ ap (λ (y : ℕ). at codes (16 * y + v)) ex))
        (further p vs numbers supports codes moves k ahead key a b e s n v (c.allowed _ low_in) (c.absent _ low_in))

    module _ {r : Bool} (h : r ≡ keeps p codes (constraint_at p k) (drop (length (vs ++ (v ∷ []))) (constraint_at p k).scope) (vs ++ (v ∷ []))) where
      answer : keeps p codes (constraint_at p k) (drop (suc (length vs)) (constraint_at p k).scope) (vs ++ (lowest_of set ∷ [])) ≡ r
      answer = sym (h ∙ ap₂ (λ (i u : ℕ). keeps p codes (constraint_at p k) (drop i (constraint_at p k).scope) (vs ++ (u ∷ []))) (length_snoc vs v) come.1)

      pub walk_stop : r ≡ false → false ≡ keeps p codes (constraint_at p k) (drop (length vs) (constraint_at p k).scope) vs
      walk_stop f = all_stop _ set _ c.whole c.small come.0 (answer ∙ f)

      pub walk_rest : r ≡ true → Choices p vs codes k ahead new
      walk_rest f =
          subst (Choices p vs codes k ahead) (sym come.2)
          (record {
            small = mask_lt 16 _;
            allowed = λ u t. c.allowed u (without_e set (lowest_of set) u t).0;
            absent = λ u t. c.absent u (without_e set (lowest_of set) u t).0;
            whole = all_rest _ set _ c.whole c.small come.0 (answer ∙ f);
          })

-- at the last variable: the two codes last chosen beside the images of its pairs
module _ (p : Problem) (vs numbers supports codes moves : List ℕ) (k ahead key a b e x set : ℕ) (s : Walking p vs numbers supports codes moves k ahead key a b e) (one : ahead ≡ 1)
    (ex : x ≡ at (constraint_at p k).scope (length vs)) (c : Choices p vs codes k ahead set) where
  some : ahead ≡ 0 → ⊥
  some z = omega arith

  pub last_beside : Beside p numbers supports codes x set b e
  last_beside =
      let t = walked_triple p vs numbers supports codes moves k ahead key a b e s in
      record {
        ready = s.lent.ready;
        coded = s.lent.coded;
        variable = subst (λ (y : ℕ). y < p.variables) (sym ex) (next_var p vs numbers supports codes moves k ahead key a b e s some);
        values = λ v h. subst (λ (y : ℕ). T (has (at p.initial y) v)) (sym ex) (c.allowed v h);
        small = c.small;
        first = t.second;
        second = t.third;
      }

  last_is : (v : ℕ) → T (has set v) →
      blocked p (number_of p b ∷ number_of p e ∷ number_of p (at codes (16 * x + v)) ∷ []) ≡ keeps p codes (constraint_at p k) (drop (suc (length vs)) (constraint_at p k).scope) (vs ++ (v ∷ []))
  last_is v h =
      let f = further p vs numbers supports codes moves k ahead key a b e s some v (c.allowed v h) (c.absent v h) in
      ap (λ (y : ℕ). blocked p (number_of p b ∷ number_of p e ∷ number_of p (at codes (16 * y + v)) ∷ [])) ex
      ∙ walked p (vs ++ (v ∷ [])) numbers supports codes moves k (ahead - 1) (16 * key + v) b e _ f (omega arith)
      ∙ ap (λ (i : ℕ). keeps p codes (constraint_at p k) (drop i (constraint_at p k).scope) (vs ++ (v ∷ []))) (length_snoc vs v)

  pub last_all : (r : Bool) → r ≡ all_blocked p codes x b e (members set) → r ≡ keeps p codes (constraint_at p k) (drop (length vs) (constraint_at p k).scope) vs
  last_all r q = q ∙ all_ext _ _ (members set) (λ v m. last_is v (members_e set v m).1) ∙ c.whole

-- at the last variable but one: the choices for the last two that make no row are blocked
module _ (p : Problem) (vs numbers supports codes moves : List ℕ) (k ahead key a b e : ℕ) (s : Walking p vs numbers supports codes moves k ahead key a b e) (two : ahead ≡ 2) where
  two_some : ahead ≡ 0 → ⊥
  two_some z = omega arith

  two_more : ahead ≡ 1 → ⊥
  two_more z = omega arith

  pub carried_kept : ((v u : ℕ) → T (has (at p.initial (at (constraint_at p k).scope (length vs))) v) → T (has (at p.initial (at (constraint_at p k).scope (suc (length vs)))) u) →
      T (blocked p (number_of p e ∷ number_of p (at codes (16 * at (constraint_at p k).scope (length vs) + v)) ∷ number_of p (at codes (16 * at (constraint_at p k).scope (suc (length vs)) + u)) ∷ []))
      ⊎ T (has (at supports (256 * k + (16 * key + v))) u)) →
      true ≡ keeps p codes (constraint_at p k) (drop (length vs) (constraint_at p k).scope) vs
  carried_kept h =
      sym (of_T _ (all_i (λ v. keeps p codes (constraint_at p k) (drop (suc (length vs)) (constraint_at p k).scope) (vs ++ (v ∷ [])))
      (members (at p.initial (at (constraint_at p k).scope (length vs))))
      (λ v m. one v (members_e _ v m).1)))
      ∙ sym (keeps_here p vs codes numbers supports k ahead key s.lent.ready s.chosen two_some)
    where
      one : (v : ℕ) → T (has (at p.initial (at (constraint_at p k).scope (length vs))) v) → T (keeps p codes (constraint_at p k) (drop (suc (length vs)) (constraint_at p k).scope) (vs ++ (v ∷ [])))
      one v t =
          let c = constraint_at p k in
          let x = at c.scope (suc (length vs)) in
          let lacks : ℕ → Bool = λ u. not (has (at supports (256 * k + (16 * key + v))) u) in
          let set = common_mask (at p.initial x) (mask_of lacks) in
          let z = further p vs numbers supports codes moves k ahead key a b e s two_some v t (λ o. absurd (two_more o)) in
          let n : ahead - 1 ≡ 0 → ⊥ = λ o. omega arith in
          let o : ahead - 1 ≡ 1 = omega arith in
          let ex : x ≡ at c.scope (length (vs ++ (v ∷ []))) = ap (at c.scope) (sym (length_snoc vs v)) in
          let left = made_last p (vs ++ (v ∷ [])) codes numbers supports k (ahead - 1) (16 * key + v) x s.lent.ready z.chosen n ex (at p.initial x) refl (mask_of lacks) set refl refl o in
          T_of _
          (sym ((last_all p (vs ++ (v ∷ [])) numbers supports codes moves k (ahead - 1) (16 * key + v) b e _ x set z o ex left true
          (sym (of_T _ (all_i _ (members set) (λ u m.
          let q = (mask_e _ u (members_e set u m).1).1 in
          ⊎_elim (λ y. y) (λ y. absurd (T_not (has (at supports (256 * k + (16 * key + v))) u) (mask_e lacks u (both_r (has (at p.initial x) u) _ q)).1 y))
          (h v u t (both_l (has (at p.initial x) u) _ q)))))))
          ∙ ap (λ (i : ℕ). keeps p codes c (drop i c.scope) (vs ++ (v ∷ []))) (length_snoc vs v)))

-- before the first variable
pub walk_start : (p : Problem) (numbers supports codes moves : List ℕ) (k ahead : ℕ) → Lent p numbers supports codes moves → k < length p.constraints → ahead ≡ length (constraint_at p k).scope →
    Walking p [] numbers supports codes moves k ahead 0 255 255 255
unfolding codes_at
walk_start p numbers supports codes moves k ahead l h e =
    record {
      lent = l;
      chosen = record { inside = h; split = omega arith; begun = tt; keyed = sym packed_none };
      shown = refl;
      absent = λ z. absurd (omega (arith, (good p l.ready.framed.stated k h).some));
    }
