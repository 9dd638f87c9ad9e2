-- Joined solutions: none is apart from itself, one can go back and on. Assumes nothing.
use Rattle.model.specs.Kit.{List, Memᴰ, ℕ, T}
use Rattle.model.specs.{Problem.Problem, Problem.is_solution, Problem.takes, Inner.WellFormed.WellFormed, Inner.WellFormed.Respected}
use Rattle.families.specs.Families.{Joined, alone, further}
use Rattle.families.specs.Inner.FamilyClaims.{JoinedEquivalence}
use Rattle.model.proofs.Image as I

module _ (p : Problem) where
  pub joined_refl : (a : List ℕ) → T (is_solution p a) → Joined p a a
  joined_refl a s = alone s

  -- both ends are solutions
  pub joined_from : (a b : List ℕ) → Joined p a b → T (is_solution p a)
  joined_from a b (alone s) = s
  joined_from a b (further c e g j m t s) = joined_from a c j

  pub joined_to : (a b : List ℕ) → Joined p a b → T (is_solution p b)
  joined_to a b (alone s) = s
  joined_to a b (further c e g j m t s) = s

  pub joined_trans : (a b c : List ℕ) → Joined p a b → Joined p b c → Joined p a c
  joined_trans a b c j (alone s) = j
  joined_trans a b c j (further d e g k m t s) = further d e g (joined_trans a b d j k) m t s

  -- one symmetry joins
  pub joined_one : (a b g : List ℕ) → T (is_solution p a) → Memᴰ g p.symmetries → T (takes p g a b) → T (is_solution p b) → Joined p a b
  joined_one a b g r m t s = further a b g (alone r) m t s

  module _ (w : WellFormed p) (respected : Respected p) where
    -- back over one symmetry, by the same one again and again
    pub joined_back : (a b g : List ℕ) → T (is_solution p a) → Memᴰ g p.symmetries → T (takes p g a b) → T (is_solution p b) → Joined p b a
    joined_back a b g r m t s = I.round p w respected g m (λ (u : List ℕ). Joined p u a) (λ u v su sv tk j. joined_trans u v a (joined_one u v g su m tk sv) j) a b r s t (alone r)

    pub joined_sym : (a b : List ℕ) → Joined p a b → Joined p b a
    joined_sym a b (alone s) = alone s
    joined_sym a b (further c e g j m t s) = joined_trans e c a (joined_back c e g (joined_to a c j) m t s) (joined_sym a c j)

pub joined_equivalence : JoinedEquivalence
joined_equivalence p w respected = record {
  itself = joined_refl p;
  back = joined_sym p w respected;
  on = joined_trans p;
  solve = λ a b j. (joined_from p a b j, joined_to p a b j);
}
