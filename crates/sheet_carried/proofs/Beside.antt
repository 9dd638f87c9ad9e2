-- Two pairs beside the pairs of a variable: one value further. Assumes nothing.
use Rattle.model.specs.Kit.{◌≡◌, refl, sym, ap, ◌∙◌, subst, Bool, true, false, List, [], ◌∷◌, Memᴰ-head, Memᴰ-tail, inr, ℕ, ◌+◌, ◌*◌, ◌/◌, ◌<◌, arith, T}
use Rattle.model.specs.{Lists.at, ValueSets.has, ValueSets.members, ValueSets.lowest_of, ValueSets.without_mask, Problem.Problem, Inner.WellFormed.Stated}
use Rattle.std.specs.Prelude.{None, Some}
use Rattle.model.specs.EachMember.{NextMember}
use Rattle.model.proofs.{Lists.T_of, Lists.of_T, Lists.all_i, Sets.mask_lt, Lowest.lowest_in, Lowest.without_e, Lowest.next_comes, Lowest.next_over}
use Rattle.sheet_table.specs.Inner.Forbidden.{blocked, clashes, number_of, PairCode}
use Rattle.sheet_table.specs.Inner.Forbidden.{Triple, Beside, all_blocked}
use Rattle.sheet_carried.proofs.Blocks.{clash_blocked}
use Rattle.sheet_table.proofs.{Codes.init_16, Laws.all_stop, Laws.all_rest, Laws.all_over}

module _ {p : Problem} {numbers supports codes : List ℕ} {x set a b : ℕ} (s : Beside p numbers supports codes x set a b) where
  w : Stated p
  w = s.ready.framed.stated

  -- two pairs that clash are blocked with any third
  pub beside_clash : clashes a b ≡ true → true ≡ all_blocked p codes x a b (members set)
  beside_clash c = sym (of_T _ (all_i _ (members set) (λ v m. clash_blocked p w a b _ s.first s.second (T_of (clashes a b) c) (Memᴰ-head refl) (Memᴰ-tail (Memᴰ-head refl)))))

  -- v comes, and `new` is left
  module _ {v new : ℕ} (step : NextMember set (Some v) new) where
    come : (set ≡ 0 → ⊥) × (v ≡ lowest_of set) × (new ≡ without_mask set (lowest_of set))
    come = next_comes step

    value : T (has (at p.initial x) (lowest_of set))
    value = s.values (lowest_of set) (lowest_in set s.small come.0)

    pub beside_next : 16 * x + v < 256
    beside_next = omega (arith, come.1, s.variable, init_16 p w x (lowest_of set) s.variable value, w.few)

    -- e is the code of its image
    module _ {e : ℕ} (ee : e ≡ at codes (16 * x + v)) where
      is_code : e ≡ at codes (16 * x + lowest_of set)
      is_code = ee ∙ ap (λ (u : ℕ). at codes (16 * x + u)) come.1

      pub beside_pair : PairCode p e
      beside_pair = subst (PairCode p) (sym is_code) (s.coded x (lowest_of set) s.variable value)

      pub beside_small : e / 16 < 16
      beside_small = omega (arith, beside_pair.0, w.few)

      pub beside_triple : Triple p numbers supports a b e
      beside_triple = record { ready = s.ready; first = s.first; second = s.second; third = inr beside_pair }

      answer : (r : Bool) → r ≡ blocked p (number_of p a ∷ number_of p b ∷ number_of p e ∷ []) → blocked p (number_of p a ∷ number_of p b ∷ number_of p (at codes (16 * x + lowest_of set)) ∷ []) ≡ r
      answer r q = sym (q ∙ ap (λ (z : ℕ). blocked p (number_of p a ∷ number_of p b ∷ number_of p z ∷ [])) is_code)

      module _ {r total : Bool} (q : r ≡ blocked p (number_of p a ∷ number_of p b ∷ number_of p e ∷ [])) where
        pub beside_stop : r ≡ false → all_blocked p codes x a b (members set) ≡ total → false ≡ total
        beside_stop f t = all_stop _ set total t s.small come.0 (answer r q ∙ f)

        pub beside_rest : r ≡ true → all_blocked p codes x a b (members set) ≡ total → Beside p numbers supports codes x new a b × (all_blocked p codes x a b (members new) ≡ total)
        beside_rest f t =
            subst (λ (m : ℕ). Beside p numbers supports codes x m a b × (all_blocked p codes x a b (members m) ≡ total)) (sym come.2) (
              record {
                ready = s.ready;
                coded = s.coded;
                variable = s.variable;
                values = λ u h. s.values u (without_e set (lowest_of set) u h).0;
                small = mask_lt 16 _;
                first = s.first;
                second = s.second;
              },
              all_rest _ set total t s.small come.0 (answer r q ∙ f),
            )

  -- none is left
  pub beside_over : {total : Bool} {end : ℕ} → NextMember set None end → all_blocked p codes x a b (members set) ≡ total → true ≡ total
  beside_over {total} step t = all_over _ set total t (next_over step)

-- without the first pair
pub beside_one : (p : Problem) (numbers supports codes : List ℕ) (x set a b : ℕ) → a ≡ 255 → Beside p numbers supports codes x set a b → Beside p numbers supports codes x set 255 b
beside_one p numbers supports codes x set a b e s = subst (λ (c : ℕ). Beside p numbers supports codes x set c b) e s

pub beside_one_is : (p : Problem) (codes : List ℕ) (x set a b : ℕ) (r : Bool) → a ≡ 255 → r ≡ all_blocked p codes x 255 b (members set) → r ≡ all_blocked p codes x a b (members set)
beside_one_is p codes x set a b r e q = q ∙ ap (λ (c : ℕ). all_blocked p codes x c b (members set)) (sym e)
