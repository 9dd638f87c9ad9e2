-- A problem's constraints by number, the first constraint on two variables, and the values that go together by it. Assumes nothing.
use Rattle.model.specs.Kit.{◌≡◌, sym, ap, subst, Bool, true, false, List, [], ◌∷◌, Memᴰ, ℕ, ◌≤◌, ◌<◌, T, eqb, eqb→eq, eqb_refl, length, lt-ltb, le-ltb, le-leb, lt-leb}
use Rattle.model.specs.{Lists.both, Lists.either, Lists.any, Lists.at, Lists.same, Lists.ascending, Problem.Problem, Problem.Constraint, Problem.constraint_at}
use Rattle.model.specs.Inner.WellFormed.{WellFormed, GoodConstraint}
use Rattle.model.proofs.{Lists.T_of, Lists.both_l, Lists.same_eq, Lists.mem_get_d, Lists.ascending_2, Masks.least_is}
use Rattle.arrays.specs.Inner.Tables.{link_of, is_by_rows, allowed, goes}

-- ---- constraint k
pub is_one : (p : Problem) (k : ℕ) → k < length p.constraints → Memᴰ (constraint_at p k) p.constraints
is_one p k h = mem_get_d p.constraints k _ h

pub good : {p : Problem} → WellFormed p → (k : ℕ) → k < length p.constraints → GoodConstraint p (constraint_at p k)
good {p} w k h = w.constrained (constraint_at p k) (is_one p k h)

pub scope_order : {p : Problem} (c : Constraint) (a b : ℕ) → GoodConstraint p c → c.scope ≡ a ∷ b ∷ [] → a < b
scope_order c a b g e = ascending_2 a b (subst (λ (l : List ℕ). T (ascending l)) e g.ordered)

-- ---- the first constraint on two variables
-- it has them for its scope
pub link_scope : (p : Problem) (x y : ℕ) → link_of p x y < length p.constraints → (constraint_at p (link_of p x y)).scope ≡ x ∷ y ∷ []
unfolding link_of
link_scope p x y h = same_eq _ _ (T_of _ (least_is (length p.constraints) (λ k. same (constraint_at p k).scope (x ∷ y ∷ [])) h))

pub by_rows_link : (p : Problem) (k x y : ℕ) → (constraint_at p k).scope ≡ x ∷ y ∷ [] → is_by_rows p k ≡ eqb (link_of p x y) k
unfolding is_by_rows at
by_rows_link p k x y e = ap (λ (s : List ℕ). both (eqb (length s) 2) (eqb (link_of p (at s 0) (at s 1)) k)) e

pub by_rows_two : (p : Problem) (k : ℕ) → T (is_by_rows p k) → length (constraint_at p k).scope ≡ 2
unfolding is_by_rows
by_rows_two p k t = eqb→eq _ 2 (both_l (eqb (length (constraint_at p k).scope) 2) _ t)

pub link_by_rows : (p : Problem) (x y : ℕ) → link_of p x y < length p.constraints → T (is_by_rows p (link_of p x y))
link_by_rows p x y h = subst T (sym (by_rows_link p (link_of p x y) x y (link_scope p x y h))) (eqb_refl (link_of p x y))

-- ---- values that go together
pub allowed_none : (p : Problem) (k v w : ℕ) → length p.constraints ≤ k → T (allowed p k v w)
allowed_none p k v w h = subst (λ (b : Bool). T (either b (any (same (v ∷ w ∷ [])) (constraint_at p k).rows))) (sym (le-leb (length p.constraints) k h)) tt

pub allowed_is : (p : Problem) (k v w : ℕ) → k < length p.constraints → allowed p k v w ≡ any (same (v ∷ w ∷ [])) (constraint_at p k).rows
allowed_is p k v w h = ap (λ (b : Bool). either b (any (same (v ∷ w ∷ [])) (constraint_at p k).rows)) (lt-leb (length p.constraints) k h)

pub goes_up : (p : Problem) (x v y w : ℕ) → x < y → goes p x v y w ≡ allowed p (link_of p x y) v w
unfolding goes
goes_up p x v y w h = ap (λ (b : Bool). elim b [ true ↦ allowed p (link_of p x y) v w | false ↦ allowed p (link_of p y x) w v ]) (lt-ltb x y h)

pub goes_down : (p : Problem) (x v y w : ℕ) → y ≤ x → goes p x v y w ≡ allowed p (link_of p y x) w v
unfolding goes
goes_down p x v y w h = ap (λ (b : Bool). elim b [ true ↦ allowed p (link_of p x y) v w | false ↦ allowed p (link_of p y x) w v ]) (le-ltb x y h)
