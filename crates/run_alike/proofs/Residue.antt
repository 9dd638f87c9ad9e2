-- What is left of a list of nogoods decides whether it is obeyed, whatever follows it. Assumes nothing.
use Rattle.model.specs.Kit.{◌≡◌, refl, sym, ap, ap₂, ◌∙◌, subst, Bool, true, false, not, ◌⊎◌, inl, inr, ⊎_elim, List, [], ◌∷◌, ◌++◌, Memᴰ, Memᴰ-head, Memᴰ-tail, Memᴰ-not_nil}
use Rattle.model.specs.Kit.{Memᴰ-cases_cons, ℕ, ◌^◌, ◌<◌, arith, T, eqb, eqb→eq, eqb_refl, length, get_or, eqb-true, eqb-false}
use Rattle.model.specs.{Lists.both, Lists.at, ValueSets.has, Nogood.Entry, Nogood.equality, Nogood.disequality, Nogood.is, Nogood.obeys_from, Claims.Drawn}
use Rattle.model.proofs.{Lists.of_T, Lists.T_of, Lists.not_of, Lists.of_not, Lists.get_d_at, Lists.both_true, Lists.both_false, Lists.never, Masks.has_one, Obey.obeys_unheld}
use Rattle.run_alike.specs.Inner.Alike.{Residue, front, residue}

-- ---- entries
abbrev pub var_of : Entry → ℕ
var_of (equality x v) = x
var_of (disequality x v) = x

-- what the entry speaks of is so in both or in neither
abbrev pub Same : List ℕ → List ℕ → Entry → Type 0
Same s t (equality x v) = is s x v ≡ is t x v
Same s t (disequality x v) = is s x v ≡ is t x v

pub obeys_same : (h : Bool) (s t : List ℕ) (es : List Entry) → ((e : Entry) → Memᴰ e es → Same s t e) → obeys_from h s es ≡ obeys_from h t es
unfolding obeys_from
obeys_same h s t [] f = refl
obeys_same h s t (equality x v ∷ es) f =
    ap (λ (c : Bool). obeys_from (both h c) s es) (f (equality x v) (Memᴰ-head refl)) ∙ obeys_same (both h (is t x v)) s t es (λ e m. f e (Memᴰ-tail m))
obeys_same h s t (disequality x v ∷ es) f =
    ap₂ (λ (c d : Bool). both (not (both h c)) d) (f (disequality x v) (Memᴰ-head refl)) (obeys_same h s t es (λ e m. f e (Memᴰ-tail m)))

-- ---- what is drawn from sets
pub single : (s u v : ℕ) → s ≡ 2 ^ v → T (has s u) → u ≡ v
single s u v e t = eqb→eq u v (subst T (ap (λ (z : ℕ). has z u) e ∙ has_one v u) t)

pub single_has : (s v : ℕ) → s ≡ 2 ^ v → T (has s v)
single_has s v e = subst T (sym (ap (λ (z : ℕ). has z v) e ∙ has_one v v)) (eqb_refl v)

-- ---- what a list says, by its residue and what follows it
abbrev pub after : Bool → List Entry → List Entry → List Entry
after true es fs = es
after false es fs = es ++ fs

after_front : (b : Bool) (e : Entry) (es fs : List Entry) → after b (e ∷ es) fs ≡ e ∷ after b es fs
after_front true e es fs = refl
after_front false e es fs = refl

module _ (ds s : List ℕ) (d : Drawn ds s) where
  pub drawn_is : (x : ℕ) → x < length ds → get_or s x 16 ≡ at s x
  drawn_is x l = get_d_at s x 16 (omega (arith, d.0))

  pub is_gone : (x v : ℕ) → x < length ds → has (at ds x) v ≡ false → is s x v ≡ false
  is_gone x v l n =
      not_of (is s x v) (λ t. of_not (has (at ds x) v) n (subst (λ (u : ℕ). T (has (at ds x) u)) (sym (drawn_is x l) ∙ eqb→eq (get_or s x 16) v t) (d.1 x l)))

  pub is_only : (x v : ℕ) → x < length ds → at ds x ≡ 2 ^ v → is s x v ≡ true
  is_only x v l e = of_T (is s x v) (subst (λ (u : ℕ). T (eqb u v)) (sym (drawn_is x l ∙ single (at ds x) (at s x) v e (d.1 x l))) (eqb_refl v))

  pub residue_obeys : (h : Bool) (es fs : List Entry) → ((e : Entry) → Memᴰ e es → var_of e < length ds) →
      obeys_from h s (es ++ fs) ≡ obeys_from h s (after (residue ds es).stopped (residue ds es).kept fs)
  unfolding obeys_from residue
  residue_obeys h [] fs f = refl
  residue_obeys h (equality x v ∷ es) fs f = go (λ c. residue_obeys c es fs (λ e m. f e (Memᴰ-tail m))) (has (at ds x) v) refl
    where
      l : x < length ds
      l = f (equality x v) (Memᴰ-head refl)

      Rest : Bool → Type 0
      Rest c = obeys_from c s (es ++ fs) ≡ obeys_from c s (after (residue ds es).stopped (residue ds es).kept fs)

      R : Bool → Residue
      R c = elim c [ true ↦ residue ds es | false ↦ front (equality x v) (residue ds es) ]

      held : ((c : Bool) → Rest c) → (c : Bool) → eqb (at ds x) (2 ^ v) ≡ c → obeys_from (both h (is s x v)) s (es ++ fs) ≡ obeys_from h s (after (R c).stopped (R c).kept fs)
      held rest true e = ap (λ (c : Bool). obeys_from c s (es ++ fs)) (ap (both h) (is_only x v l (eqb-true (at ds x) (2 ^ v) e)) ∙ both_true h) ∙ rest h
      held rest false e = rest (both h (is s x v)) ∙ ap (λ (l : List Entry). obeys_from h s l) (sym (after_front (residue ds es).stopped (equality x v) (residue ds es).kept fs))

      W : Bool → Residue
      W b = elim b [ true ↦ R (eqb (at ds x) (2 ^ v)) | false ↦ record { kept = []; stopped = true } ]

      go : ((c : Bool) → Rest c) → (b : Bool) → has (at ds x) v ≡ b → obeys_from (both h (is s x v)) s (es ++ fs) ≡ obeys_from h s (after (W b).stopped (W b).kept fs)
      go rest true e = held rest (eqb (at ds x) (2 ^ v)) refl
      go rest false e = ap (λ (c : Bool). obeys_from c s (es ++ fs)) (ap (both h) (is_gone x v l e) ∙ both_false h) ∙ obeys_unheld s (es ++ fs)
  residue_obeys h (disequality x v ∷ es) fs f = go (residue_obeys h es fs (λ e m. f e (Memᴰ-tail m))) (has (at ds x) v) refl
    where
      l : x < length ds
      l = f (disequality x v) (Memᴰ-head refl)

      W : Bool → Residue
      W b = elim b [ true ↦ front (disequality x v) (residue ds es) | false ↦ residue ds es ]

      go : obeys_from h s (es ++ fs) ≡ obeys_from h s (after (residue ds es).stopped (residue ds es).kept fs) → (b : Bool) → has (at ds x) v ≡ b → both (not (both h (is s x v)))
          (obeys_from h s (es ++ fs)) ≡ obeys_from h s (after (W b).stopped (W b).kept fs)
      go rest true e = ap (both (not (both h (is s x v)))) rest ∙ ap (λ (l : List Entry). obeys_from h s l) (sym (after_front (residue ds es).stopped (disequality x v) (residue ds es).kept fs))
      go rest false e = ap (λ (c : Bool). both (not c) (obeys_from h s (es ++ fs))) (ap (both h) (is_gone x v l e) ∙ both_false h) ∙ rest

-- ---- what is kept
-- the sets do not decide it
abbrev pub Undecided : List ℕ → Entry → Type 0
Undecided ds (equality x v) = T (has (at ds x) v) × (at ds x ≡ 2 ^ v → ⊥)
Undecided ds (disequality x v) = T (has (at ds x) v)

module _ (ds : List ℕ) where
  abbrev Kept : Entry → List Entry → Type 0
  Kept e es = Memᴰ e es × Undecided ds e

  pub kept_e : (es : List Entry) (e : Entry) → Memᴰ e (residue ds es).kept → Memᴰ e es × Undecided ds e
  unfolding residue
  kept_e [] e m = absurd (Memᴰ-not_nil m)
  kept_e (equality x v ∷ es) e m = go (kept_e es e) (has (at ds x) v) refl m
    where
      R : Bool → Residue
      R c = elim c [ true ↦ residue ds es | false ↦ front (equality x v) (residue ds es) ]

      W : Bool → Residue
      W b = elim b [ true ↦ R (eqb (at ds x) (2 ^ v)) | false ↦ record { kept = []; stopped = true } ]

      Down : Type 0
      Down = Memᴰ e (residue ds es).kept → Kept e es

      down : Down → Memᴰ e (residue ds es).kept → Kept e (equality x v ∷ es)
      down ih i = let r = ih i in (Memᴰ-tail r.0, r.1)

      held : Down → T (has (at ds x) v) → (c : Bool) → eqb (at ds x) (2 ^ v) ≡ c → Memᴰ e (R c).kept → Kept e (equality x v ∷ es)
      held ih t true q i = down ih i
      held ih t false q i =
          ⊎_elim {C = Kept e (equality x v ∷ es)} (λ o. subst (λ (z : Entry). Kept z (equality x v ∷ es)) (sym o) (Memᴰ-head refl, (t, eqb-false (at ds x) (2 ^ v) q))) (down ih)
          (Memᴰ-cases_cons i)

      go : Down → (b : Bool) → has (at ds x) v ≡ b → Memᴰ e (W b).kept → Kept e (equality x v ∷ es)
      go ih true q i = held ih (T_of (has (at ds x) v) q) (eqb (at ds x) (2 ^ v)) refl i
      go ih false q i = absurd (Memᴰ-not_nil i)
  kept_e (disequality x v ∷ es) e m = go (kept_e es e) (has (at ds x) v) refl m
    where
      W : Bool → Residue
      W b = elim b [ true ↦ front (disequality x v) (residue ds es) | false ↦ residue ds es ]

      Down : Type 0
      Down = Memᴰ e (residue ds es).kept → Kept e es

      down : Down → Memᴰ e (residue ds es).kept → Kept e (disequality x v ∷ es)
      down ih i = let r = ih i in (Memᴰ-tail r.0, r.1)

      go : Down → (b : Bool) → has (at ds x) v ≡ b → Memᴰ e (W b).kept → Kept e (disequality x v ∷ es)
      go ih true q i =
          ⊎_elim {C = Kept e (disequality x v ∷ es)} (λ o. subst (λ (z : Entry). Kept z (disequality x v ∷ es)) (sym o) (Memᴰ-head refl, T_of (has (at ds x) v) q)) (down ih)
          (Memᴰ-cases_cons i)
      go ih false q i = down ih i

  -- where the list is not ended, each equality is kept or holds of all
  pub held_e : (es : List Entry) → (residue ds es).stopped ≡ false → (y u : ℕ) → Memᴰ (equality y u) es → (at ds y ≡ 2 ^ u) ⊎ Memᴰ (equality y u) (residue ds es).kept
  unfolding residue
  held_e [] n y u m = absurd (Memᴰ-not_nil m)
  held_e (equality x v ∷ es) n y u m = go (λ n i. held_e es n y u i) (has (at ds x) v) n
    where
      Goal : List Entry → Type 0
      Goal l = (at ds y ≡ 2 ^ u) ⊎ Memᴰ (equality y u) l

      Down : Type 0
      Down = (residue ds es).stopped ≡ false → Memᴰ (equality y u) es → Goal (residue ds es).kept

      R : Bool → Residue
      R c = elim c [ true ↦ residue ds es | false ↦ front (equality x v) (residue ds es) ]

      W : Bool → Residue
      W b = elim b [ true ↦ R (eqb (at ds x) (2 ^ v)) | false ↦ record { kept = []; stopped = true } ]

      held : Down → (c : Bool) → eqb (at ds x) (2 ^ v) ≡ c → (R c).stopped ≡ false → Goal (R c).kept
      held ih true q n =
          ⊎_elim {C = Goal (residue ds es).kept} (λ o. let ex : y ≡ x = cc in let ev : u ≡ v = cc in inl (ap (at ds) ex ∙ eqb-true (at ds x) (2 ^ v) q ∙ ap (λ (z : ℕ). 2 ^ z) (sym ev)))
          (ih n) (Memᴰ-cases_cons m)
      held ih false q n =
          ⊎_elim {C = Goal (equality x v ∷ (residue ds es).kept)} (λ o. inr (Memᴰ-head o))
          (λ i. ⊎_elim {C = Goal (equality x v ∷ (residue ds es).kept)} inl (λ j. inr (Memᴰ-tail j)) (ih n i)) (Memᴰ-cases_cons m)

      go : Down → (b : Bool) → (W b).stopped ≡ false → Goal (W b).kept
      go ih true n = held ih (eqb (at ds x) (2 ^ v)) refl n
      go ih false n = absurd (subst T n tt)
  held_e (disequality x v ∷ es) n y u m = go (λ n i. held_e es n y u i) (has (at ds x) v) n
    where
      Goal : List Entry → Type 0
      Goal l = (at ds y ≡ 2 ^ u) ⊎ Memᴰ (equality y u) l

      Down : Type 0
      Down = (residue ds es).stopped ≡ false → Memᴰ (equality y u) es → Goal (residue ds es).kept

      W : Bool → Residue
      W b = elim b [ true ↦ front (disequality x v) (residue ds es) | false ↦ residue ds es ]

      into : Memᴰ (equality y u) es
      into = ⊎_elim {C = Memᴰ (equality y u) es} (λ o. never (cc)) (λ i. i) (Memᴰ-cases_cons m)

      go : Down → (b : Bool) → (W b).stopped ≡ false → Goal (W b).kept
      go ih true n = ⊎_elim {C = Goal (disequality x v ∷ (residue ds es).kept)} inl (λ j. inr (Memᴰ-tail j)) (ih n into)
      go ih false n = ih n into
