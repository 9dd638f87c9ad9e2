-- Where a table takes the variables, and which values its images come from: one step further. Assumes nothing.
use Rattle.model.specs.Kit.{◌≡◌, refl, sym, ◌∙◌, subst, Bool, true, false, List, ℕ, ◌+◌, ◌*◌, ◌<◌, not-suc-le-zero, arith, eqb, length, set, replicate, length-set, eqb-true, eqb-false}
use Rattle.model.specs.{Lists.at, Problem.Problem, Inner.WellFormed.Stated}
use Rattle.model.proofs.Lists.{at_replicate, at_set, at_set_other, set_each}
use Rattle.sheet_table.specs.Inner.Forbidden.{Coded, Back, Blank, Target, Moved}

small_more : (l : List ℕ) (i v : ℕ) → i < length l → v < 16 → ((j : ℕ) → at l j < 16) → (j : ℕ) → at (set l i v) j < 16
small_more l i v h k s j = set_each (λ (_ u : ℕ). u < 16) l i v j h k (λ _. s j)

-- ---- room for the codes and what is made of them
pub blank_new : Blank (replicate 256 0) (replicate 256 0)
blank_new = record { codes_room = refl; moves_room = refl; small = λ i. omega (arith, at_replicate 256 i) }

pub blank_same : (codes moves new back : List ℕ) → Blank codes moves → new ≡ codes → back ≡ moves → Blank new back
blank_same codes moves new back b en eb = subst (λ (l : List ℕ). Blank l back) (sym en) (subst (Blank codes) (sym eb) b)

pub blank_moves : (codes moves : List ℕ) (i v : ℕ) → i < 256 → v < 16 → Blank codes moves → Blank codes (set moves i v)
blank_moves codes moves i v h k b = record { codes_room = b.codes_room; moves_room = simp length-set b.moves_room; small = small_more moves i v (omega (arith, b.moves_room)) k b.small }

pub blank_codes : (codes moves : List ℕ) (i v : ℕ) → Blank codes moves → Blank (set codes i v) moves
blank_codes codes moves i v b = record { codes_room = simp length-set b.codes_room; moves_room = b.moves_room; small = b.small }

-- ---- the variables that the pairs go to
pub record Moving (p : Problem) (codes moves : List ℕ) (x : ℕ) : Type 0 where
  pub back : Back p codes moves
  pub to : (y : ℕ) → y < x → Target p codes y (at moves (192 + y))

module _ (p : Problem) (w : Stated p) (codes moves : List ℕ) where
  pub moving_none : Back p codes moves → Moving p codes moves 0
  moving_none b = record { back = b; to = λ y h. absurd (not-suc-le-zero h) }

  pub moving_more : (x y : ℕ) → Coded p codes → x < p.variables → length moves ≡ 256 → Target p codes x y → Moving p codes moves x → Moving p codes (set moves (192 + x) y) (x + 1)
  moving_more x y c h n t m =
      record {
        back = λ z v l i. at_set_other moves (192 + x) y (at codes (16 * z + v)) (λ e. omega (arith, (c z v l i).0, w.few)) ∙ m.back z v l i;
        to = λ z l. go z l (eqb z x) refl;
      }
    where
      spot : 192 + x < length moves
      spot = omega (arith, w.few)

      go : (z : ℕ) → z < x + 1 → (b : Bool) → eqb z x ≡ b → Target p codes z (at (set moves (192 + x) y) (192 + z))
      go z l true e = subst (λ (i : ℕ). Target p codes i (at (set moves (192 + x) y) (192 + i))) (sym (eqb-true z x e)) (subst (Target p codes x) (sym (at_set moves (192 + x) y spot)) t)
      go z l false e =
          let f : z ≡ x → ⊥ = eqb-false z x e in
          subst (Target p codes z) (sym (at_set_other moves (192 + x) y (192 + z) (λ q. f (omega arith)))) (m.to z (omega arith))

  pub moved_all : (x : ℕ) → x ≡ p.variables → ((i : ℕ) → at moves i < 16) → Moving p codes moves x → Moved p codes moves
  moved_all x e s m = record { small = s; back = m.back; to = λ y h. m.to y (omega arith) }
