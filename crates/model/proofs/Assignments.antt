-- Laws of the assignments drawn from sets: membership, order, one through each value. Assumes nothing.
use Rattle.model.specs.Kit.{◌≡◌, refl, sym, ap, ◌∙◌, subst, List, [], ◌∷◌, map, Memᴰ, Memᴰ-head, Memᴰ-not_nil, Memᴰ-map, Memᴰ-of_map, ℕ, zero, suc, ◌^◌, ◌<◌, not-suc-le-zero}
use Rattle.model.specs.Kit.{le_of_suc-le-suc, arith, T, length}
use Rattle.model.specs.{Lists.at, Lists.earlier, ValueSets.has, ValueSets.members, ValueSets.Inside, Problem.assignments, Claims.Drawn}
use mathlib.Core.List.Memᴰ
use Rattle.model.proofs.Lists.{of_not, flat_i, flat_e, Sorted, sorted_flat_map, earlier_lt, earlier_eq}
use Rattle.model.proofs.Sets.{has_none, member, has_lt, members_i, members_e, members_sorted}

-- ---- membership: one value of each set
pub assign_i : (ds a : List ℕ) → length a ≡ length ds → ((x : ℕ) → x < length ds → Memᴰ (at a x) (members (at ds x))) → Memᴰ a (assignments ds)
unfolding assignments at
assign_i [] [] e h = Memᴰ-head refl
assign_i [] (v ∷ a) e h = absurd (omega arith)
assign_i (s ∷ ds) [] e h = absurd (omega arith)
assign_i (s ∷ ds) (v ∷ a) e h =
    flat_i (map F (members s)) (F v) (v ∷ a) (Memᴰ-map F (h 0 (omega arith))) (Memᴰ-map (λ (b : List ℕ). v ∷ b) (assign_i ds a (omega arith) (λ x l. h (suc x) (omega arith))))
  where
    F : ℕ → List (List ℕ)
    F w = map (λ (b : List ℕ). w ∷ b) (assignments ds)

pub assign_e : (ds a : List ℕ) → Memᴰ a (assignments ds) → (length a ≡ length ds) × ((x : ℕ) → x < length ds → Memᴰ (at a x) (members (at ds x)))
unfolding assignments at
assign_e [] a m = (ap length (Memᴰ.eq_of_singleton m), λ x l. absurd (not-suc-le-zero l))
assign_e (s ∷ ds) a m =
    let q = flat_e (map F (members s)) a m in
    let r = Memᴰ-of_map F (members s) q.1 in
    let k = Memᴰ-of_map (λ (b : List ℕ). r.0 ∷ b) (assignments ds) (subst (λ z. Memᴰ a z) (sym r.2) q.2) in
    let ih = assign_e ds k.0 k.1 in
    subst P k.2 (ap suc ih.0, front r.0 k.0 r.1 ih.1)
  where
    F : ℕ → List (List ℕ)
    F w = map (λ (b : List ℕ). w ∷ b) (assignments ds)

    P : List ℕ → Type 0
    P b = (length b ≡ suc (length ds)) × ((x : ℕ) → x < suc (length ds) → Memᴰ (at b x) (members (at (s ∷ ds) x)))

    front : (v : ℕ) (b : List ℕ) → Memᴰ v (members s) → ((x : ℕ) → x < length ds → Memᴰ (at b x) (members (at ds x))) → (x : ℕ) → x < suc (length ds) → Memᴰ (at (v ∷ b) x)
        (members (at (s ∷ ds) x))
    front v b i h zero l = i
    front v b i h (suc x) l = h x (le_of_suc-le-suc l)

-- ---- drawn from sets of sixteen bits
pub drawn_i : (ds a : List ℕ) → ((x : ℕ) → at ds x < 2 ^ 16) → Drawn ds a → Memᴰ a (assignments ds)
drawn_i ds a b d = assign_i ds a d.0 (λ x l. members_i (at ds x) (at a x) (has_lt 16 (at ds x) (at a x) (b x) (d.1 x l)) (d.1 x l))

pub drawn_e : (ds a : List ℕ) → Memᴰ a (assignments ds) → Drawn ds a
drawn_e ds a m = let r = assign_e ds a m in (r.0, λ x l. (members_e (at ds x) (at a x) (r.1 x l)).1)

pub assign_mono : (ds es a : List ℕ) → length ds ≡ length es → Inside ds es → Memᴰ a (assignments ds) → Memᴰ a (assignments es)
assign_mono ds es a e h m =
    let r = assign_e ds a m in
    assign_i es a (r.0 ∙ e)
    (λ x l. let q = members_e (at ds x) (at a x) (r.1 x (subst (λ (n : ℕ). x < n) (sym e) l)) in members_i (at es x) (at a x) q.0 (h x (at a x) q.1))

-- through each value of sets of which none is empty goes an assignment
drawn_cons : (s v : ℕ) (ds a : List ℕ) → T (has s v) → Drawn ds a → Drawn (s ∷ ds) (v ∷ a)
unfolding at
drawn_cons s v ds a t d = (ap suc d.0, elim [ zero ↦ λ l. t | suc x ↦ λ l. d.1 x (le_of_suc-le-suc l) ])

abbrev pub Filled : List ℕ → Type 0
Filled ds = (x : ℕ) → (at ds x < 2 ^ 16) × (x < length ds → at ds x ≡ 0 → ⊥)

filled_tail : (s : ℕ) (ds : List ℕ) → Filled (s ∷ ds) → Filled ds
unfolding at
filled_tail s ds f x = ((f (suc x)).0, λ l. (f (suc x)).1 (omega arith))

first : (s : ℕ) (ds : List ℕ) → Filled (s ∷ ds) → (v : ℕ) × (v < 16) × T (has s v)
unfolding at
first s ds f = member s (f 0).0 ((f 0).1 (omega arith))

some_drawn : (ds : List ℕ) → Filled ds → (a : List ℕ) × Drawn ds a
some_drawn [] f = ([], (refl, λ x l. absurd (not-suc-le-zero l)))
some_drawn (s ∷ ds) f =
    let m = first s ds f in
    let r = some_drawn ds (filled_tail s ds f) in
    (m.0 ∷ r.0, drawn_cons s m.0 ds r.0 m.2 r.1)

pub drawn_through : (ds : List ℕ) → Filled ds → (x v : ℕ) → T (has (at ds x) v) → (a : List ℕ) × Drawn ds a × (at a x ≡ v)
unfolding at
drawn_through [] f x v t = absurd (of_not (has 0 v) (has_none v) t)
drawn_through (s ∷ ds) f zero v t = let r = some_drawn ds (filled_tail s ds f) in (v ∷ r.0, drawn_cons s v ds r.0 t r.1, refl)
drawn_through (s ∷ ds) f (suc x) v t =
    let m = first s ds f in
    let r = drawn_through ds (filled_tail s ds f) x v t in
    (m.0 ∷ r.0, drawn_cons s m.0 ds r.0 m.2 r.1, r.2)

-- ---- in reading order, each once
sorted_cons : (v : ℕ) (l : List (List ℕ)) → Sorted (λ (x y : List ℕ). T (earlier x y)) l → Sorted (λ (x y : List ℕ). T (earlier x y)) (map (λ (b : List ℕ). v ∷ b) l)
sorted_cons v [] s = tt
sorted_cons v (a ∷ l) s =
    (λ y m. let r = Memᴰ-of_map (λ (b : List ℕ). v ∷ b) l m in subst (λ (z : List ℕ). T (earlier (v ∷ a) z)) r.2 (earlier_eq v a r.0 (s.0 r.0 r.1)), sorted_cons v l s.1)

pub assignments_sorted : (ds : List ℕ) → Sorted (λ (x y : List ℕ). T (earlier x y)) (assignments ds)
unfolding assignments
assignments_sorted [] = (λ y m. absurd (Memᴰ-not_nil m), tt)
assignments_sorted (s ∷ ds) =
    sorted_flat_map (λ (x y : ℕ). x < y) (λ (x y : List ℕ). T (earlier x y)) F (members s) (members_sorted s) (λ v. sorted_cons v (assignments ds) (assignments_sorted ds))
    (λ x y h a b i j.
    let q = Memᴰ-of_map (λ (c : List ℕ). x ∷ c) (assignments ds) i in
    let r = Memᴰ-of_map (λ (c : List ℕ). y ∷ c) (assignments ds) j in
    subst (λ (z : List ℕ). T (earlier z b)) q.2 (subst (λ (z : List ℕ). T (earlier (x ∷ q.0) z)) r.2 (earlier_lt x y q.0 r.0 h)))
  where
    F : ℕ → List (List ℕ)
    F w = map (λ (b : List ℕ). w ∷ b) (assignments ds)
