-- The loops over sixteen sets that make the cover of a variable's set, and that compare sets with it. Assumes nothing.
use Rattle.model.specs.Kit.{◌≡◌, refl, sym, ap, ◌∙◌, subst, false, not, ◌⊎◌, inl, inr, ⊎_elim, List, ℕ, ◌+◌, ◌-◌, ◌*◌, ◌^◌, ◌≤◌, ◌<◌, arith, ℕ_discrete, dec_lt, T, eqb, length, set, replicate, take}
use Rattle.model.specs.Kit.{drop, length-drop, get_or-take, get_or-drop, length-take-le, bit_and, bit_or, or_lt, eqb-true, not-false}
use Rattle.model.specs.{Lists.at, ValueSets.has, ValueSets.without_mask, ValueSets.lowest_of, Inner.Pruning.Sets}
use Rattle.model.proofs.Members.{has_0, or_i, and_i, Rest, rest_begin, Union, union_begin, union_end, others_left, others_union}
use Rattle.model.proofs.{Lists.T_of, Lists.TDec, Lists.not_of, Lists.at_out, Lists.at_set, Lists.at_set_other, Lists.at_replicate, Sets.has_lt, Sets.set_sets, Masks.has_not}
use Rattle.prune_pairs.specs.Inner.Steps.{Narrow, Goes, Added, Cover, Covered}

-- ---- sixteen sets of the tables are added to the cover, y of them so far
pub record Adding (cover₀ tables : List ℕ) (base : ℕ) (cover : List ℕ) (y : ℕ) : Type 0 where
  pub few : y ≤ 16
  pub sets : Sets 16 cover
  pub done : (i : ℕ) → i < y → at cover i ≡ bit_or (at cover₀ i) (at tables (base + i))
  pub rest : (i : ℕ) → y ≤ i → at cover i ≡ at cover₀ i

pub adding_begin : (cover tables : List ℕ) (base : ℕ) → Sets 16 cover → Adding cover tables base cover 0
adding_begin cover tables base s = record { few = omega arith; sets = s; done = λ i h. absurd (omega arith); rest = λ i h. refl }

pub adding_turn : {cover₀ tables : List ℕ} {base : ℕ} {cover : List ℕ} {y : ℕ} → Adding cover₀ tables base cover y → y < 16 → at tables (base + y) < 2 ^ 16 →
    Adding cover₀ tables base (set cover y (bit_or (at cover y) (at tables (base + y)))) (y + 1)
adding_turn {cover₀} {tables} {base} {cover} {y} a h b = record {
  few = omega arith;
  sets = set_sets 16 cover y new a.sets h (or_lt 16 (at cover y) (at tables (base + y)) (a.sets.1 y) b);
  done = λ i l. done i l (ℕ_discrete i y);
  rest = λ i l. at_set_other cover y new i (λ e. omega arith) ∙ a.rest i (omega arith);
}
  where
    new : ℕ
    new = bit_or (at cover y) (at tables (base + y))

    done : (i : ℕ) → i < y + 1 → Dec (i ≡ y) → at (set cover y new) i ≡ bit_or (at cover₀ i) (at tables (base + i))
    done i l (yes e) =
        subst (λ (j : ℕ). at (set cover y new) j ≡ bit_or (at cover₀ j) (at tables (base + j))) (sym e)
        (at_set cover y new (omega (arith, a.sets.0)) ∙ ap (λ (s : ℕ). bit_or s (at tables (base + y))) (a.rest y (omega arith)))
    done i l (no n) = at_set_other cover y new i n ∙ a.done i (omega arith)

pub adding_end : {cover₀ tables : List ℕ} {base : ℕ} {cover : List ℕ} {y : ℕ} → Adding cover₀ tables base cover y → 16 ≤ y → Added cover₀ tables base cover
adding_end a h = record { sets = a.sets; each = λ i l. a.done i (omega arith) }

-- sixteen of the 256 sets
pub narrow_at : (tables : List ℕ) (x v : ℕ) → v < 16 → Narrow tables (256 * x) 256 → Narrow tables (256 * x + 16 * v) 16
narrow_at tables x v h n i l =
    let e : 256 * x + (16 * v + i) ≡ 256 * x + 16 * v + i = omega arith in
    subst (λ (j : ℕ). at tables j < 2 ^ 16) e (n (16 * v + i) (omega arith))

-- sixteen empty sets
pub zeros : (y : ℕ) → at (replicate 16 0) y < 2 ^ 16
zeros y = subst (λ (s : ℕ). s < 2 ^ 16) (sym (at_replicate 16 y)) (omega arith)

-- ---- the cover of the values of x's set that are passed
pub record Covering (tables : List ℕ) (x set : ℕ) (cover : List ℕ) (m : ℕ) : Type 0 where
  pub sets : Sets 16 cover
  pub rest : Rest 16 set m
  pub unions : (y : ℕ) → y < 16 → Union (λ v w. Goes tables x v y w) set m (at cover y)

pub covering_begin : (tables : List ℕ) (x set : ℕ) (cover : List ℕ) → Sets 16 cover → set < 2 ^ 16 → ((y : ℕ) → y < 16 → at cover y ≡ 0) → Covering tables x set cover set
covering_begin tables x set cover s h z = record {
  sets = s;
  rest = rest_begin 16 set h;
  unions = λ y l. subst (Union (λ v w. Goes tables x v y w) set set) (sym (z y l)) (union_begin (λ v w. Goes tables x v y w) set);
}

pub covering_turn : {tables : List ℕ} {x set : ℕ} {cover : List ℕ} {m v m' : ℕ} → Covering tables x set cover m → (m ≡ 0 → ⊥) → v ≡ lowest_of m → (cover' : List ℕ) →
    Added cover tables (256 * x + 16 * v) cover' → m' ≡ without_mask m (lowest_of m) → Covering tables x set cover' m'
covering_turn {tables} {x} {set} {cover} {m} {v} {m'} c n low cover' a less = record {
  sets = a.sets;
  rest = others_left set m v c.rest n low m' less;
  unions = λ y l. others_union set m v c.rest n low m' less (λ u w. Goes tables x u y w) (at cover y) (at tables (256 * x + 16 * v + y)) (at cover' y) (c.unions y l) (a.each y l) (λ w q. q)
      (λ w q. q);
}

pub covering_end : {tables : List ℕ} {x set : ℕ} {cover : List ℕ} {m : ℕ} → Covering tables x set cover m → m ≡ 0 → Cover tables x set cover
covering_end {tables} {x} {set} {cover} {m} c e = record {
  sets = c.sets;
  cover_i = λ v y w l t g. union_end (λ u z. Goes tables x u y z) set m (at cover y) e (c.unions y l) v w t g;
  cover_e = λ y w l t. (c.unions y l).got w t;
}

-- ---- the row of a value v, sixteen sets of the tables, is the cover of a set with no other value
abbrev pub row : List ℕ → ℕ → List ℕ
row tables base = take (base + 16 - base) (drop base tables)

row_at : (tables : List ℕ) (base y : ℕ) → y < 16 → at (row tables base) y ≡ at tables (base + y)
unfolding at
row_at tables base y l = get_or-take (base + 16 - base) (drop base tables) y 0 (omega arith) ∙ get_or-drop base tables y 0

row_sets : (tables : List ℕ) (base : ℕ) → base + 16 ≤ length tables → Narrow tables base 16 → Sets 16 (row tables base)
row_sets tables base fits n = (sized, λ y. go y (dec_lt y 16))
  where
    sized : length (row tables base) ≡ 16
    sized = let k : base + 16 - base ≡ 16 = omega arith in length-take-le (base + 16 - base) (drop base tables) (omega (arith, length-drop base tables)) ∙ k

    go : (y : ℕ) → Dec (y < 16) → at (row tables base) y < 2 ^ 16
    go y (yes l) = subst (λ (s : ℕ). s < 2 ^ 16) (sym (row_at tables base y l)) (n y l)
    go y (no m) = subst (λ (s : ℕ). s < 2 ^ 16) (sym (at_out (row tables base) y (omega (arith, sized)))) (omega arith)

pub row_cover : (tables : List ℕ) (x set v : ℕ) → 256 * x + 16 * v + 16 ≤ length tables → Narrow tables (256 * x + 16 * v) 16 → T (has set v) → ((u : ℕ) → T (has set u) → u ≡ v) →
    Cover tables x set (row tables (256 * x + 16 * v))
row_cover tables x set v fits n t one = record {
  sets = row_sets tables (256 * x + 16 * v) fits n;
  cover_i = λ u y w l q g. subst (λ (s : ℕ). T (has s w)) (sym (row_at tables (256 * x + 16 * v) y l)) (subst (λ (z : ℕ). Goes tables x z y w) (one u q) g);
  cover_e = λ y w l q. (v, t, subst (λ (s : ℕ). T (has s w)) (row_at tables (256 * x + 16 * v) y l) q);
}

-- ---- the sets that are compared with the cover: a value outside it is in `over`
pub record Compared (sets cover : List ℕ) (over y : ℕ) : Type 0 where
  pub few : y ≤ 16
  pub seen : (i w : ℕ) → i < y → T (has (at sets i) w) → T (has (at cover i) w) ⊎ T (has over w)

pub compared_begin : (sets cover : List ℕ) → Compared sets cover 0 0
compared_begin sets cover = record { few = omega arith; seen = λ i w h. absurd (omega arith) }

pub compared_turn : {sets cover : List ℕ} {over y : ℕ} → Compared sets cover over y → y < 16 → at sets y < 2 ^ 16 → at cover y < 2 ^ 16 →
    Compared sets cover (bit_or over (bit_and (at sets y) ((2 ^ 16 - 1) - at cover y))) (y + 1)
compared_turn {sets} {cover} {over} {y} p h a b = record { few = omega arith; seen = λ i w l t. seen i w l t (ℕ_discrete i y) }
  where
    more : ℕ
    more = bit_and (at sets y) ((2 ^ 16 - 1) - at cover y)

    here : (w : ℕ) → T (has (at sets y) w) → T (has (at cover y) w) ⊎ (T (has (at cover y) w) → ⊥) → T (has (at cover y) w) ⊎ T (has (bit_or over more) w)
    here w t (inl q) = inl q
    here w t (inr n) =
        inr (or_i over more w (inr (and_i (at sets y) ((2 ^ 16 - 1) - at cover y) w t
        (T_of (has ((2 ^ 16 - 1) - at cover y) w) (has_not 16 (at cover y) w b (has_lt 16 (at sets y) w a t) ∙ ap not (not_of (has (at cover y) w) n))))))

    seen : (i w : ℕ) → i < y + 1 → T (has (at sets i) w) → Dec (i ≡ y) → T (has (at cover i) w) ⊎ T (has (bit_or over more) w)
    seen i w l t (yes e) =
        subst (λ (j : ℕ). T (has (at cover j) w) ⊎ T (has (bit_or over more) w)) (sym e) (here w (subst (λ (j : ℕ). T (has (at sets j) w)) e t) (TDec (has (at cover y) w)))
    seen i w l t (no n) = ⊎_elim (λ q. inl q) (λ q. inr (or_i over more w (inl q))) (p.seen i w (omega arith) t)

pub compared_end : {sets cover : List ℕ} {over y : ℕ} → Compared sets cover over y → 16 ≤ y → length sets ≡ 16 → over ≡ 0 → Covered sets cover
compared_end {sets} {cover} {over} {y} p h l e i w t = go (dec_lt i 16)
  where
    go : Dec (i < 16) → T (has (at cover i) w)
    go (yes k) = ⊎_elim (λ q. q) (λ q. absurd (has_0 w (subst (λ (n : ℕ). T (has n w)) e q))) (p.seen i w (omega arith) t)
    go (no n) = absurd (has_0 w (subst (λ (s : ℕ). T (has s w)) (at_out sets i (omega arith)) t))

pub ne_false : (n : ℕ) → not (eqb n 0) ≡ false → n ≡ 0
ne_false n e = eqb-true n 0 (not-false (eqb n 0) e)
