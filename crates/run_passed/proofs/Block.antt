-- The law of specs/Block. Assumes nothing.
use Rattle.model.specs.Kit.{◌≡◌, refl, sym, ap, ◌∙◌, subst, Bool, List, ◌++◌, map, ℕ, ◌+◌, ◌-◌, ◌^◌, ◌≤◌, ◌<◌, dec_lt, arith, T, eqb→eq, eqb_refl, length, drop, length-append, length-map, pow-lt}
use Rattle.model.specs.Search.{nogoods_of, narrowed, sets_at, is_live}
use Rattle.model.specs.{Lists.at, ValueSets.has, ValueSets.Inside, Problem.Problem, Problem.with_symmetries, Nogood.Entry, Nogood.obeys, Claims.Drawn, Inner.WellFormed.WellFormed}
use Rattle.model.proofs.{Lists.at_append, Lists.at_skip, Lists.at_drop, Lists.at_map, Lists.at_out, Sets.has_lt, Sets.has_at_lt, Masks.has_one, Assignments.drawn_i, Prune.Sized, Prune.narrowed_i}
use Rattle.model.proofs.{Prune.sets_at_sets, Consistent.live_consistent, Tree.well_sized, Child.child_sets}
use Rattle.block.specs.{Inner.BlockSets.Reorders, Inner.BlockSets.BlockIn, Inner.Claims.Ascends}
use Rattle.block.proofs.BlockSets.{ascending_obeys, live_ascends}
use Rattle.run_alike.proofs.Sets.{own_value, own_only}
use Rattle.run_passed.specs.Inner.Block.{BlockCarries}
use Rattle.model.proofs.More as M

module _ (p : Problem) (w : WellFormed p) (block : ℕ → Bool) (gs : List (List ℕ)) (i : BlockIn p block gs) (a b : List ℕ) (la : T (is_live (with_symmetries p gs) a))
    (lb : T (is_live (with_symmetries p gs) b)) (sized : length a ≡ length b)
    (sets : drop (length a) (sets_at (with_symmetries p gs) a) ≡ drop (length a) (sets_at (with_symmetries p gs) b))
    (s more : List ℕ) (size : length a + length s ≡ p.variables) (room : length a + length more ≤ p.variables) (live : T (is_live (with_symmetries p gs) (a ++ more)))
    (drawn : Drawn (sets_at (with_symmetries p gs) (a ++ more)) (a ++ s)) where
  abbrev q : Problem
  q = with_symmetries p gs

  abbrev k : ℕ
  k = length a

  z : Sized q
  z = well_sized p w

  t : List ℕ
  t = b ++ s

  t_front : (x : ℕ) → x < k → at t x ≡ at b x
  unfolding t
  t_front x l = at_append b s x (omega arith)

  t_back : (x : ℕ) → k ≤ x → at t x ≡ at (a ++ s) x
  unfolding t
  t_back x l = at_skip b s k x (sym sized) l ∙ sym (at_skip a s k x refl l)

  t_length : length t ≡ p.variables
  unfolding t
  t_length = length-append b s ∙ omega arith

  in_there : (x : ℕ) → x < p.variables → T (has (at (sets_at q (a ++ more)) x) (at (a ++ s) x))
  in_there x l = drawn.1 x (omega (arith, drawn.0, length-append a s))

  -- it is drawn from b's sets
  in_b : (x : ℕ) → x < p.variables → T (has (at (sets_at q b) x) (at t x))
  in_b x l = go (dec_lt x k)
    where
      go : Dec (x < k) → T (has (at (sets_at q b) x) (at t x))
      go (yes l') = subst (λ (v : ℕ). T (has (at (sets_at q b) x) v)) (sym (t_front x l')) (own_value q z b lb x (omega arith) l)
      go (no n) =
          let d : k + (x - k) ≡ x = omega arith in
          let e : at (sets_at q a) x ≡ at (sets_at q b) x = ap (at (sets_at q a)) (sym d) ∙ sym (at_drop k (sets_at q a) (x - k)) ∙ ap (λ (r : List ℕ). at r (x - k)) sets
          ∙ at_drop k (sets_at q b) (x - k) ∙ ap (at (sets_at q b)) d in
          subst (λ (v : ℕ). T (has (at (sets_at q b) x) v)) (sym (t_back x (omega arith))) (subst (λ (r : ℕ). T (has r (at (a ++ s) x))) e (child_sets q a more z x (at (a ++ s) x) (in_there x l)))

  -- what b goes on with are its values
  t_given : (x : ℕ) → x < length (b ++ more) → at t x ≡ at (b ++ more) x
  t_given x l = go (dec_lt x k)
    where
      l' : x < length (a ++ more)
      l' = omega (arith, length-append a more, length-append b more)

      go : Dec (x < k) → at t x ≡ at (b ++ more) x
      go (yes c) = t_front x c ∙ sym (at_append b more x (omega arith))
      go (no n) =
          t_back x (omega arith) ∙ own_only q z (a ++ more) live x (at (a ++ s) x) l' (in_there x (omega (arith, l', length-append a more)))
          ∙ at_skip a more k x refl (omega arith) ∙ sym (at_skip b more k x (sym sized) (omega arith))

  -- a set for each of its values
  abbrev ds : List ℕ
  ds = map (λ (v : ℕ). 2 ^ v) t

  ds_length : length ds ≡ p.variables
  ds_length = length-map t (λ (v : ℕ). 2 ^ v) ∙ t_length

  ds_only : (x v : ℕ) → T (has (at ds x) v) → (x < p.variables) × (v ≡ at t x)
  ds_only x v h =
      let l : x < length t = subst (λ (n : ℕ). x < n) (length-map t (λ (v : ℕ). 2 ^ v)) (has_at_lt ds x v h) in
      (subst (λ (n : ℕ). x < n) t_length l, eqb→eq v (at t x) (subst T (ap (λ (r : ℕ). has r v) (at_map (λ (v : ℕ). 2 ^ v) t x l) ∙ has_one (at t x) v) h))

  small : (x : ℕ) → x < p.variables → at t x < 16
  small x l = has_lt 16 (at (sets_at q b) x) (at t x) ((sets_at_sets q b z).1 x) (in_b x l)

  ds_inside : Inside ds (narrowed (b ++ more) p.initial)
  ds_inside x v h =
      let r = ds_only x v h in
      subst (λ (u : ℕ). T (has (at (narrowed (b ++ more) p.initial) x) u)) (sym r.1)
      (narrowed_i (b ++ more) p.initial x (at t x) (small x r.0) ((live_consistent q b z lb).inside x (at t x) (in_b x r.0)) (t_given x))

  ds_ascends : Ascends block (b ++ more) ds
  ds_ascends x y v bx by l c h = subst (λ (u : ℕ). at (b ++ more) x ≤ u) (sym r.1) (go (dec_lt x k))
    where
      r : (y < p.variables) × (v ≡ at t y)
      r = ds_only y v h

      go : Dec (x < k) → at (b ++ more) x ≤ at t y
      go (yes o) = subst (λ (u : ℕ). u ≤ at t y) (sym (at_append b more x (omega arith))) ((live_ascends p w block gs i b lb).1 x y (at t y) bx by l (omega arith) (in_b y r.0))
      go (no o) =
          let e : at (a ++ more) x ≡ at (b ++ more) x = at_skip a more k x refl (omega arith) ∙ sym (at_skip b more k x (sym sized) (omega arith)) in
          subst (λ (u : ℕ). u ≤ at t y) e
          (subst (λ (u : ℕ). at (a ++ more) x ≤ u) (sym (t_back y (omega arith))) ((live_ascends p w block gs i (a ++ more) live).1 x y (at (a ++ s) y) bx by l
          (omega (arith, length-append a more, length-append b more)) (in_there y r.0)))

  ds_small : (x : ℕ) → at ds x < 2 ^ 16
  ds_small x = go (dec_lt x (length t))
    where
      go : Dec (x < length t) → at ds x < 2 ^ 16
      go (yes l) = subst (λ (r : ℕ). r < 2 ^ 16) (sym (at_map (λ (v : ℕ). 2 ^ v) t x l)) (pow-lt (small x (subst (λ (n : ℕ). x < n) t_length l)))
      go (no n) = subst (λ (r : ℕ). r < 2 ^ 16) (sym (at_out ds x (omega (arith, length-map t (λ (v : ℕ). 2 ^ v))))) (omega arith)

  t_drawn : Drawn ds t
  t_drawn = (
    sym (length-map t (λ (v : ℕ). 2 ^ v)),
    λ x l. let l' : x < length t = subst (λ (n : ℕ). x < n) (length-map t (λ (v : ℕ). 2 ^ v)) l in
        subst T (sym (ap (λ (r : ℕ). has r (at t x)) (at_map (λ (v : ℕ). 2 ^ v) t x l') ∙ has_one (at t x) (at t x))) (eqb_refl (at t x)),
  )

  obeyed_there : (g : List ℕ) → Reorders p block g → T (obeys (b ++ s) (nogoods_of q g (b ++ more)))
  unfolding t
  obeyed_there g o =
      subst (λ (es : List Entry). T (obeys (b ++ s) es)) (sym (M.nogoods_same p gs z i.own g (b ++ more)))
      (ascending_obeys p w (b ++ more) ds ds_length ds_inside block g o ds_ascends t (drawn_i ds t ds_small t_drawn))

pub block_carries : BlockCarries
block_carries p w block gs i a b la lb sized sets g o s more size room live drawn held = obeyed_there p w block gs i a b la lb sized sets s more size room live drawn g o
