-- Three sets by 256 sets of a table, sixteen at once. Assumes nothing.
use Rattle.model.specs.Kit.{◌≡◌, refl, sym, ap, ◌∙◌, subst, Bool, true, false, not, ◌⊎◌, inl, inr, ⊎_elim, List, ℕ, ◌+◌, ◌*◌, ◌^◌, ◌≤◌, ◌<◌, lt_of_le_of_lt, arith, ℕ_discrete, T, eqb, ltb, length}
use Rattle.model.specs.Kit.{set, replicate, bit_and, bit_or, or_lt, ltb-true, ltb-false}
use Rattle.model.specs.{Lists.at, Lists.choose, ValueSets.has, ValueSets.without_mask, ValueSets.union_mask, ValueSets.lowest_of, ValueSets.one_if, Inner.Filling.Filled}
use lib.Bits.{and_le_r}
use Rattle.model.proofs.Members.{Rest, rest_begin, has_0, Union, union_begin, union_end, lowest_left, others_left, others_union, or_i, or_e, and_i, and_e}
use Rattle.model.proofs.{Lists.T_of, Lists.of_T, Lists.not_of, Lists.at_replicate, Sets.has_lt, Sets.member, Filling.filled_begin, Filling.filled_turn, Masks.union_op}
use Rattle.prune_constraints.specs.Inner.Steps.{Together, Together3, Supported3, Masks, Met, FullSets}
use Rattle.prune_constraints.proofs.Unions.{full_i, full_e, one_i, one_e, one_lt, small}

-- ---- the masks
pub masks_end : {b e : ℕ} {ms : List ℕ} → b < 2 ^ 16 → e < 2 ^ 16 → Filled (λ v. v) (λ v x. x ≡ choose (has b v) e 0) 16 (replicate 16 0) ms → Masks b e ms
masks_end {b} {e} {ms} h l f = record {
  narrow = λ v. subst (λ (x : ℕ). x < 2 ^ 16) (sym (is v (ltb v 16) refl)) (below (has b v));
  mask_i = λ v w p q. subst (λ (x : ℕ). T (has x w)) (sym (is v (ltb v 16) refl ∙ ap (λ (c : Bool). choose c e 0) (of_T (has b v) p))) q;
  mask_e = λ v w t. got v w (has b v) refl (subst (λ (x : ℕ). T (has x w)) (is v (ltb v 16) refl) t);
}
  where
    is : (v : ℕ) (c : Bool) → ltb v 16 ≡ c → at ms v ≡ choose (has b v) e 0
    is v true q = f.here v (ltb-true v 16 q)
    is v false q = let m = ltb-false v 16 q in
        f.other v (λ u o s. omega arith) ∙ at_replicate 16 v ∙ sym (ap (λ (c : Bool). choose c e 0) (not_of (has b v) (λ t. let o = has_lt 16 b v h t in omega arith)))

    below : (c : Bool) → choose c e 0 < 2 ^ 16
    below true = l
    below false = omega arith

    got : (v w : ℕ) (c : Bool) → has b v ≡ c → T (has (choose c e 0) w) → T (has b v) × T (has e w)
    got v w true q t = (T_of (has b v) q, t)
    got v w false q t = absurd (has_0 w t)

-- ---- sixteen sets of the table, i of them met
module _ (t : List ℕ) (base : ℕ) (ms old : List ℕ) where
  abbrev common : ℕ → ℕ
  common v = bit_and (at t (base + v)) (at ms v)

  pub record Meeting (i : ℕ) (new : List ℕ) (r : ℕ) : Type 0 where
    pub filled : Filled (λ v. v) (λ v x. x ≡ bit_or (at old v) (common v)) i old new
    pub some_i : (v w : ℕ) → v < i → T (has (common v) w) → T (has r w)
    pub some_e : (w : ℕ) → T (has r w) → (v : ℕ) × (v < i) × T (has (common v) w)

  pub meeting_begin : Meeting 0 old 0
  meeting_begin = record { filled = filled_begin _ _ old; some_i = λ v w h q. absurd (omega arith); some_e = λ w q. absurd (has_0 w q) }

  pub meeting_turn : (i : ℕ) {new : List ℕ} {r : ℕ} → i < length old → Meeting i new r → Meeting (i + 1) (set new i (bit_or (at new i) (common i))) (bit_or r (common i))
  meeting_turn i {new} {r} h j = record {
    filled = filled_turn _ _ old new i i _ j.filled refl h (λ v l e. omega arith) (ap (λ (x : ℕ). bit_or x (common i)) (j.filled.other i (λ v l e. omega arith)));
    some_i = λ v w l q. or_i r (common i) w (go v w l q (ℕ_discrete v i));
    some_e = λ w q. ⊎_elim (λ p. let o = j.some_e w p in (o.0, omega (arith, o.1), o.2)) (λ p. (i, omega arith, p)) (or_e r (common i) w q);
  }
    where
      go : (v w : ℕ) → v < i + 1 → T (has (common v) w) → Dec (v ≡ i) → T (has r w) ⊎ T (has (common i) w)
      go v w l q (yes e) = inr (subst (λ (z : ℕ). T (has (common z) w)) e q)
      go v w l q (no n) = inl (j.some_i v w (omega arith) q)

  pub meeting_end : (i : ℕ) {new : List ℕ} {r : ℕ} → 16 ≤ i → i ≤ 16 → Meeting i new r → Met t base ms old new r
  meeting_end i h l j = record {
    size = j.filled.size;
    each = λ v k. j.filled.here v (omega arith);
    some_i = λ v w k. j.some_i v w (omega arith);
    some_e = λ w q. let o = j.some_e w q in (o.0, omega (arith, o.1), o.2);
  }

-- ---- the values of b whose sets are not empty
module _ (sets : List ℕ) (b : ℕ) where
  abbrev Itself : ℕ → ℕ → Type 0
  Itself v x = (x ≡ v) × (at sets v ≡ 0 → ⊥)

  pub record Sifting (m full : ℕ) : Type 0 where
    pub rest : Rest 16 b m
    pub narrow : full < 2 ^ 16
    pub fulls : Union Itself b m full

  pub sifting_begin : b < 2 ^ 16 → Sifting b 0
  sifting_begin h = record { rest = rest_begin 16 b h; narrow = omega arith; fulls = union_begin Itself b }

  pub sifting_turn : (m v m' : ℕ) {full s full' : ℕ} → Sifting m full → (m ≡ 0 → ⊥) → v ≡ lowest_of m → m' ≡ without_mask m (lowest_of m) → s ≡ one_if (not (eqb (at sets v) 0)) v →
      full' ≡ union_mask full s → Sifting m' full'
  sifting_turn m v m' {full} {s} {full'} j n low less e f = record {
    rest = others_left b m v j.rest n low m' less;
    narrow = small _ full' f;
    fulls =
        others_union b m v j.rest n low m' less Itself full s full' j.fulls
        (f ∙ sym (union_op full s j.narrow (one_lt s (not (eqb (at sets v) 0)) v e (lowest_left b m v j.rest n low).1)))
        (λ x q. subst (λ (z : ℕ). T (has z x)) (sym e) (subst (λ (z : ℕ). T (has (one_if (not (eqb (at sets v) 0)) v) z)) (sym q.0) (full_i (at sets v) v q.1)))
        (λ x q. full_e (at sets v) v x (subst (λ (z : ℕ). T (has z x)) e q));
  }

  pub sifting_end : (m : ℕ) {full : ℕ} → m ≡ 0 → Sifting m full → FullSets sets b full
  sifting_end m {full} z j = record {
    full_i = λ v p q. union_end Itself b m full z j.fulls v v p (refl, q);
    full_e = λ v q. let r = j.fulls.got v q in subst (λ (x : ℕ). T (has b x) × (at sets x ≡ 0 → ⊥)) (sym r.2.0) (r.1, r.2.1);
  }

-- ---- the values u of a: those that something goes together with, what goes together with each v of b, and what with them all
module _ (t : List ℕ) (base a b e : ℕ) where
  abbrev Firsts : ℕ → ℕ → Type 0
  Firsts u x = (x ≡ u) × ((v : ℕ) × ((w : ℕ) × Together t (base + 16 * u) b e v w))

  abbrev Lasts : ℕ → ℕ → Type 0
  Lasts u w = (v : ℕ) × Together t (base + 16 * u) b e v w

  abbrev With : ℕ → ℕ → ℕ → Type 0
  With v u w = Together t (base + 16 * u) b e v w

  pub record Supporting3 (m first last : ℕ) (all : List ℕ) : Type 0 where
    pub rest : Rest 16 a m
    pub size : length all ≡ 16
    pub narrow : (first < 2 ^ 16) × ((v : ℕ) → v < 16 → at all v < 2 ^ 16)
    pub firsts : Union Firsts a m first
    pub each : (v : ℕ) → v < 16 → Union (With v) a m (at all v)
    pub lasts : Union Lasts a m last

  pub supporting3_begin : a < 2 ^ 16 → Supporting3 a 0 0 (replicate 16 0)
  supporting3_begin h = record {
    rest = rest_begin 16 a h;
    size = refl;
    narrow = (omega arith, λ v l. subst (λ (n : ℕ). n < 2 ^ 16) (sym (at_replicate 16 v)) (omega arith));
    firsts = union_begin Firsts a;
    each = λ v l. subst (Union (With v) a a) (sym (at_replicate 16 v)) (union_begin (With v) a);
    lasts = union_begin Lasts a;
  }

  -- the lowest value u of those left, and what its sixteen sets have of the masks
  pub supporting3_turn : (m u m' : ℕ) {ms all all' : List ℕ} {first s first' last r last' : ℕ} → Supporting3 m first last all → (m ≡ 0 → ⊥) → u ≡ lowest_of m → m' ≡ without_mask m (lowest_of m) →
      b < 2 ^ 16 → r < 2 ^ 16 → Masks b e ms → Met t (base + 16 * u) ms all all' r → s ≡ one_if (not (eqb r 0)) u → first' ≡ union_mask first s → last' ≡ bit_or last r →
      Supporting3 m' first' last' all'
  supporting3_turn m u m' {ms} {all} {all'} {first} {s} {first'} {last} {r} {last'} j n low less h i k g q f l = record {
    rest = others_left a m u j.rest n low m' less;
    size = g.size ∙ j.size;
    narrow = (
      small _ first' f,
      λ v o. subst (λ (x : ℕ). x < 2 ^ 16) (sym (g.each v o)) (or_lt 16 _ _ (j.narrow.1 v o) (met_lt v)),
    );
    firsts =
        others_union a m u j.rest n low m' less Firsts first s first' j.firsts (f ∙ sym (union_op first s j.narrow.0 (one_lt s (not (eqb r 0)) u q (lowest_left a m u j.rest n low).1)))
        (λ z o. subst (λ (c : ℕ). T (has c z)) (sym q) (subst (λ (c : ℕ). T (has (one_if (not (eqb r 0)) u) c)) (sym o.0) (one_i r u o.1.1.0 (into o.1.0 o.1.1.0 o.1.1.1))))
        (λ z o. let p = one_e 16 r u z i (subst (λ (c : ℕ). T (has c z)) q o) in let d = out p.1.0 p.1.1 in (p.0, (d.0, (p.1.0, d.1))));
    each = λ v o. others_union a m u j.rest n low m' less (With v) (at all v) (common t (base + 16 * u) ms all v) (at all' v) (j.each v o) (g.each v o) (to v) (from v);
    lasts = others_union a m u j.rest n low m' less Lasts last r last' j.lasts l (λ w o. into o.0 w o.1) out;
  }
    where
      met_lt : (v : ℕ) → common t (base + 16 * u) ms all v < 2 ^ 16
      met_lt v = lt_of_le_of_lt (and_le_r (at t (base + 16 * u + v)) (at ms v)) (k.narrow v)

      to : (v w : ℕ) → With v u w → T (has (common t (base + 16 * u) ms all v) w)
      to v w o = and_i (at t (base + 16 * u + v)) (at ms v) w o.2 (k.mask_i v w o.0 o.1)

      from : (v w : ℕ) → T (has (common t (base + 16 * u) ms all v) w) → With v u w
      from v w o = let d = and_e (at t (base + 16 * u + v)) (at ms v) w o in let p = k.mask_e v w d.1 in (p.0, p.1, d.0)

      into : (v w : ℕ) → With v u w → T (has r w)
      into v w o = g.some_i v w (has_lt 16 b v h o.0) (to v w o)

      out : (w : ℕ) → T (has r w) → (v : ℕ) × With v u w
      out w o = let d = g.some_e w o in (d.0, from d.0 w d.2)

  pub supporting3_end : (m : ℕ) {first second last : ℕ} {all : List ℕ} → m ≡ 0 → b < 2 ^ 16 → Supporting3 m first last all → FullSets all b second →
      Supported3 (Together3 t base a b e) first second last
  supporting3_end m {first} {second} {last} {all} z h j s = record {
    first_i = λ u v w q. union_end Firsts a m first z j.firsts u u q.0 (refl, (v, (w, q.1)));
    first_e = λ u q. let r = j.firsts.got u q in (
      r.2.1.0,
      (
        r.2.1.1.0,
        (
          subst (λ (y : ℕ). T (has a y)) (sym r.2.0) r.1,
          subst (λ (y : ℕ). With r.2.1.0 y r.2.1.1.0) (sym r.2.0) r.2.1.1.1,
        ),
      ),
    );
    second_i = λ u v w q.
        let o = union_end (With v) a m (at all v) z (j.each v (has_lt 16 b v h q.1.0)) u w q.0 q.1 in
        s.full_i v q.1.0 (λ n. has_0 w (subst (λ (x : ℕ). T (has x w)) n o));
    second_e = λ v q.
        let f = s.full_e v q in
        let o = has_lt 16 b v h f.0 in
        let w = member (at all v) (j.narrow.1 v o) f.1 in
        let r = (j.each v o).got w.0 w.2 in
        (r.0, (w.0, (r.1, r.2)));
    last_i = λ u v w q. union_end Lasts a m last z j.lasts u w q.0 (v, q.1);
    last_e = λ w q. let r = j.lasts.got w q in (r.0, (r.2.0, (r.1, r.2.1)));
  }
