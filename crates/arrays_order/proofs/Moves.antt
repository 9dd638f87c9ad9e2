-- Sets and images, moved one after another. Assumes nothing.
use Rattle.model.specs.Kit.{◌≡◌, refl, sym, ap, ◌∙◌, subst, List, ℕ, ◌+◌, ◌*◌, ◌≤◌, ◌<◌, ℕ_discrete, arith}
use Rattle.model.specs.{Lists.at, Inner.Filling.Filled}
use Rattle.arrays_order.specs.Inner.Steps.{Small, MovedSets, renamed_to, image_from, MovedImages}

-- ---- sets by variable
pub moved_sets : (n : ℕ) (order old mid new : List ℕ) → n ≤ 12 → Small n order → Filled (λ i. 0 + i) (λ i r. r ≡ at old (0 + at order i)) n old mid →
    Filled (λ i. 16 + i) (λ i r. r ≡ at mid (16 + at order i)) n mid new → MovedSets n order old new
moved_sets n order old mid new h s a b = record {
  touching = λ i l.
      let e : i ≡ 0 + i = omega arith in
      let f : 0 + at order i ≡ at order i = omega arith in
      b.other i (λ v m q. omega arith) ∙ ap (at mid) e ∙ a.here i l ∙ ap (at old) f;
  initial = λ i l. b.here i l ∙ a.other (16 + at order i) (λ v m q. omega arith);
  touching_rest = λ i l m. b.other i (λ v k q. omega arith) ∙ a.other i (λ v k q. omega arith);
  initial_rest = λ i l m. b.other (16 + i) (λ v k q. omega arith) ∙ a.other (16 + i) (λ v k q. omega arith);
  other = λ j l. b.other j (λ v k q. omega arith) ∙ a.other j (λ v k q. omega arith);
  size = b.size ∙ a.size;
}

-- ---- images
module _ (n : ℕ) (order stands old : List ℕ) where
  pub images_begin : MovedImages n order stands 0 old old
  images_begin = record { here = λ e j h l. absurd (omega arith); rest = λ j h. refl; size = refl }

  pub images_turn : (g : ℕ) (mid new : List ℕ) → n ≤ 12 → MovedImages n order stands g old mid →
      Filled (λ j. 192 * g + j) (λ j r. r ≡ renamed_to stands (at mid (192 * g + image_from order j))) (16 * n) mid new → MovedImages n order stands (g + 1) old new
  images_turn g mid new h r f = record {
    here = λ e j l m. here e j l m (ℕ_discrete e g);
    rest = λ j l. f.other j (λ v k q. omega arith) ∙ r.rest j (omega arith);
    size = f.size ∙ r.size;
  }
    where
      here : (e j : ℕ) → e < g + 1 → j < 16 * n → Dec (e ≡ g) → at new (192 * e + j) ≡ renamed_to stands (at old (192 * e + image_from order j))
      here e j l m (yes q) = subst (λ (z : ℕ). at new (192 * z + j) ≡ renamed_to stands (at old (192 * z + image_from order j))) (sym q)
          (f.here j m ∙ ap (renamed_to stands) (r.rest (192 * g + image_from order j) (omega arith)))
      here e j l m (no q) = f.other (192 * e + j) (λ v k z. omega arith) ∙ r.here e j (omega arith) m

  pub images_end : (g i : ℕ) (new : List ℕ) → g ≤ i → i ≤ g → MovedImages n order stands i old new → MovedImages n order stands g old new
  images_end g i new h l r = let e : i ≡ g = omega arith in subst (λ (z : ℕ). MovedImages n order stands z old new) e r
