-- What is stored are the problem's image tables. Assumes nothing.
use Rattle.model.specs.Kit.{◌≡◌, sym, ap, ◌∙◌, subst, List, ℕ, ◌+◌, ◌*◌, ◌<◌, arith, T, eqb, ltb, length}
use Rattle.model.specs.{Lists.any, Lists.at, Lists.keep, ValueSets.has, ValueSets.members, Problem.Problem, Inner.WellFormed.WellFormed}
use Rattle.model.proofs.{Lists.TExt, Lists.any_i, Lists.any_e, Lists.keep_e, Sets.has_mask, Sets.mask_lt, Sets.mask_ext, Sets.members_e}
use Rattle.arrays.specs.{Inner.Places.OWN, Inner.Places.SMALLER, Inner.Places.SYMMETRIES, Inner.Places.VARIABLES, Inner.Layout.Numbers, Inner.Layout.Images, Inner.Tables.image_of}
use Rattle.arrays.specs.Inner.Tables.{ImageTables}
use Rattle.arrays_tables.specs.Inner.Steps.{initial_of, smaller_of, PairStored, SymmetriesStored}
use Rattle.arrays_tables.proofs.Initial.{initial_is}
use Rattle.model.proofs.Pairs

-- the images of members are all that counts
hit : (f g : ℕ → ℕ) (m v y w : ℕ) → ((u : ℕ) → T (has m u) → f u ≡ g u) →
    T (any (λ u. eqb (f u) (16 * y + w)) (keep (λ u. ltb u v) (members m))) → T (any (λ u. eqb (g u) (16 * y + w)) (keep (λ u. ltb u v) (members m)))
hit f g m v y w e t =
    let r = any_e _ _ t in
    let h = (members_e m r.0 (keep_e (λ u. ltb u v) (members m) r.0 r.1).0).1 in
    any_i _ _ r.0 r.1 (subst (λ (z : ℕ). T (eqb z (16 * y + w))) (e r.0 h) r.2)

smaller_ext : (f g : ℕ → ℕ) (m v y : ℕ) → ((u : ℕ) → T (has m u) → f u ≡ g u) → smaller_of f m v y ≡ smaller_of g m v y
smaller_ext f g m v y e =
    mask_ext 16 (smaller_of f m v y) (smaller_of g m v y) (mask_lt 16 _) (mask_lt 16 _)
    (λ w l. has_mask 16 _ w l ∙ TExt _ _ (hit f g m v y w e) (hit g f m v y w (λ u t. sym (e u t))) ∙ sym (has_mask 16 (λ w. any (λ u. eqb (g u) (16 * y + w)) (keep (λ u. ltb u v) (members m))) w l))

module _ (p : Problem) (numbers images old new : List ℕ) (wf : WellFormed p) (nb : Numbers p numbers) (im : Images p images)
    (s : SymmetriesStored numbers images (at numbers VARIABLES) (at numbers SYMMETRIES) old new) where
  point : (e x v : ℕ) → e < length p.symmetries → x < p.variables → T (has (at p.initial x) v) → PairStored images (initial_of numbers x) (192 * e + 16 * x) v new
  point e x v k l t =
      let d = Pairs.init_lt p wf.narrow x v l t in
      let q : v < 16 = omega (arith, wf.sixteen) in
      s.stored e x (omega (arith, nb.symmetries)) (omega (arith, nb.variables)) v q (subst (λ (z : ℕ). T (has z v)) (sym (initial_is p numbers wf nb x l)) t)

  image_is : (e x u : ℕ) → e < length p.symmetries → x < p.variables → T (has (at p.initial x) u) → at images (192 * e + 16 * x + u) ≡ image_of p e x u
  image_is e x u k l t = im e x u k l (Pairs.init_lt p wf.narrow x u l t)

  pub image_tables : ImageTables p new
  image_tables = record {
    cuts = λ e x v y k l t h.
        (let a : SMALLER + 3072 * e + 256 * x + 16 * v + y ≡ SMALLER + 16 * (192 * e + 16 * x + v) + y = omega arith in
        ap (at new) a ∙ (point e x v k l t).cut y h
        ∙ ap (λ (z : ℕ). smaller_of (λ u. at images (192 * e + 16 * x + u)) z v y) (initial_is p numbers wf nb x l)
        ∙ smaller_ext (λ u. at images (192 * e + 16 * x + u)) (image_of p e x) (at p.initial x) v y (λ u q. image_is e x u k l q));
    own = λ e x v k l t.
        (let a : OWN + 192 * e + 16 * x + v ≡ OWN + (192 * e + 16 * x + v) = omega arith in
        ap (at new) a ∙ (point e x v k l t).own ∙ image_is e x v k l t);
  }
