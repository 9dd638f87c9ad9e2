-- The walk of a variable's forbidden sets: one pair further. Assumes nothing.
use Rattle.model.specs.Kit.{◌≡◌, refl, sym, ap, ap₂, ◌∙◌, subst, Bool, true, false, List, [], ◌∷◌, Memᴰ, Memᴰ-head, Memᴰ-tail, inl, inr, ℕ, ◌+◌, ◌*◌, ◌/◌, ◌^◌, ◌<◌, arith, T, eqb}
use Rattle.model.specs.Kit.{eqb→eq, not_T, eq-eqb}
use Rattle.model.specs.{Lists.at, Lists.both, ValueSets.has, ValueSets.members, ValueSets.lowest_of, ValueSets.without_mask, Problem.Problem}
use Rattle.std.specs.Prelude.{None, Some}
use Rattle.model.specs.EachMember.{NextMember}
use Rattle.model.proofs.Lists.{Sorted, T_of, of_T, both_i, all_i}
use Rattle.model.proofs.{Sets.mask_lt, Sets.members_of_none, Sets.members_e, Sets.members_sorted, Lowest.lowest_in, Lowest.without_e, Lowest.members_lowest, Lowest.next_comes, Lowest.next_over}
use Rattle.sheet_table.specs.Inner.Forbidden.{blocked, clashes, number_of, PairCode, Lent, Beside, Doubling, all_blocked, besides, doublings}
use Rattle.sheet_carried.proofs.{Blocks.clash_blocked, Walks.none_before}
use Rattle.sheet_table.proofs.{Codes.init_16, Codes.init_small, Laws.all_ext}

-- where all pairs of a variable go to one variable, the images of any two are two pairs of it
module _ (p : Problem) (numbers supports codes moves : List ℕ) (x : ℕ) (l : Lent p numbers supports codes moves) (h : x < p.variables) (n : at moves (192 + x) ≡ 15 → ⊥) where
  apart : (v u : ℕ) → v < u → T (has (at p.initial x) v) → T (has (at p.initial x) u) → T (clashes (at codes (16 * x + v)) (at codes (16 * x + u)))
  apart v u k i j =
      both_i (eqb (at codes (16 * x + v) / 16) (at codes (16 * x + u) / 16)) _
      (T_of _ (eq-eqb _ _ (l.moved.to x h v i n ∙ sym (l.moved.to x h u j n))))
      (not_T (eqb (at codes (16 * x + v)) (at codes (16 * x + u))) (λ t. let e = sym (l.moved.back x v h i) ∙ ap (at moves) (eqb→eq _ _ t) ∙ l.moved.back x u h j in omega arith))

  all_apart : (vs : List ℕ) → Sorted (λ (u v : ℕ). u < v) vs → ((v : ℕ) → Memᴰ v vs → T (has (at p.initial x) v)) → T (doublings p codes x vs)
  unfolding doublings
  all_apart [] s i = tt
  all_apart (v ∷ vs) s i =
      let iv = i v (Memᴰ-head refl) in
      both_i (besides p codes x v vs) (doublings p codes x vs)
      (all_i _ vs (λ u m.
      let iu = i u (Memᴰ-tail m) in
      clash_blocked p l.ready.framed.stated (at codes (16 * x + v)) (at codes (16 * x + u)) _ (inr (l.coded x v h iv)) (inr (l.coded x u h iu)) (apart v u (s.0 u m) iv iu)
      (Memᴰ-head refl) (Memᴰ-tail (Memᴰ-head refl))))
      (all_apart vs s.1 (λ u m. i u (Memᴰ-tail m)))

  pub doubled_together : true ≡ doublings p codes x (members (at p.initial x))
  doubled_together = sym (of_T _ (all_apart (members (at p.initial x)) (members_sorted (at p.initial x)) (λ v m. (members_e (at p.initial x) v m).1)))

pub doubling_start : (p : Problem) (numbers supports codes moves : List ℕ) (x set : ℕ) → Lent p numbers supports codes moves → x < p.variables → set ≡ at p.initial x → Doubling p codes x set
doubling_start p numbers supports codes moves x set l h e =
    subst (Doubling p codes x) (sym e) (record { small = init_small p l.ready.framed.stated x h; allowed = λ u t. t; whole = refl })

-- v comes, and `new` is left
module _ {p : Problem} {numbers supports codes moves : List ℕ} {x set : ℕ} (l : Lent p numbers supports codes moves) (h : x < p.variables) (s : Doubling p codes x set) {v new : ℕ}
    (step : NextMember set (Some v) new) where
  come : (set ≡ 0 → ⊥) × (v ≡ lowest_of set) × (new ≡ without_mask set (lowest_of set))
  come = next_comes step

  value : T (has (at p.initial x) v)
  value = subst (λ (u : ℕ). T (has (at p.initial x) u)) (sym come.1) (s.allowed (lowest_of set) (lowest_in set s.small come.0))

  pub doubling_spot : 16 * x + v < 256
  doubling_spot = omega (arith, h, init_16 p l.ready.framed.stated x _ h value, l.ready.framed.stated.few)

  small : new < 2 ^ 16
  small = subst (λ (m : ℕ). m < 2 ^ 16) (sym come.2) (mask_lt 16 _)

  allowed : (u : ℕ) → T (has new u) → T (has (at p.initial x) u)
  allowed u t = s.allowed u (without_e set (lowest_of set) u (subst (λ (m : ℕ). T (has m u)) come.2 t)).0

  turn : both (besides p codes x v (members new)) (doublings p codes x (members new)) ≡ doublings p codes x (members (at p.initial x))
  unfolding doublings
  turn =
      ap₂ (λ (u m : ℕ). both (besides p codes x u (members m)) (doublings p codes x (members m))) come.1 come.2
      ∙ ap (doublings p codes x) (sym (members_lowest set s.small come.0)) ∙ s.whole

  -- the pair with v, beside those with the values left
  module _ {a : ℕ} (e : a ≡ at codes (16 * x + v)) where
    pub doubling_beside : Beside p numbers supports codes x new 255 a
    doubling_beside =
        record {
          ready = l.ready;
          coded = l.coded;
          variable = h;
          values = allowed;
          small = small;
          first = inl refl;
          second = inr (subst (PairCode p) (sym e) (l.coded x v h value));
        }

    module _ {r : Bool} (q : r ≡ all_blocked p codes x 255 a (members new)) where
      are : r ≡ besides p codes x v (members new)
      are =
          q
          ∙ all_ext _ _ (members new)
          (λ u m. none_before p l.ready.framed.stated _ ∙ ap (λ (y : ℕ). blocked p (number_of p y ∷ number_of p (at codes (16 * x + u)) ∷ [])) e)

      pub doubling_stop : r ≡ false → false ≡ doublings p codes x (members (at p.initial x))
      doubling_stop f = ap (λ (b : Bool). both b (doublings p codes x (members new))) (sym f ∙ are) ∙ turn

      pub doubling_rest : r ≡ true → Doubling p codes x new
      doubling_rest f =
          record {
            small = small;
            allowed = allowed;
            whole = ap (λ (b : Bool). both b (doublings p codes x (members new))) (sym f ∙ are) ∙ turn;
          }

-- none is left
pub doubling_over : {p : Problem} {codes : List ℕ} {x set end : ℕ} → Doubling p codes x set → NextMember set None end → true ≡ doublings p codes x (members (at p.initial x))
unfolding doublings
doubling_over {p = p} {codes = codes} {x = x} s step = sym (ap (λ (n : ℕ). doublings p codes x (members n)) (next_over step) ∙ ap (doublings p codes x) members_of_none) ∙ s.whole
