-- The four kinds of an entry of the three lists. Assumes nothing.
use Rattle.model.specs.Kit.{◌≡◌, refl, sym, ap₂, Bool, true, false, ◌⊎◌, inl, inr, ℕ, ◌<◌, arith, T, eqb, ltb, ltb→lt, eqb-true, eqb-false, le-ltb}
use Rattle.model.specs.Nogood.{equality, disequality, mark, Kind, is_equality, is_disequality, both_absent, both_present, kind_by, kind_of, entry_in, value_ok}
use Rattle.model.specs.{Lists.both, Lists.either, NogoodClaims.CaseOf, NogoodClaims.KindHolds, NogoodClaims.KindsApart, NogoodClaims.SameQuestion, NogoodClaims.RightKinds}
use Rattle.model.proofs.{Lists.both_l, Lists.both_r, Members.either_no}

pub kind_holds : KindHolds
kind_holds e u = go (eqb e mark) refl (eqb u mark) refl
  where
    go : (b : Bool) → eqb e mark ≡ b → (c : Bool) → eqb u mark ≡ c → CaseOf (kind_by b c) e u
    go true p true q = (eqb-true e mark p, eqb-true u mark q)
    go true p false q = (eqb-true e mark p, eqb-false u mark q)
    go false p true q = (eqb-false e mark p, eqb-true u mark q)
    go false p false q = (eqb-false e mark p, eqb-false u mark q)

pub kinds_apart : KindsApart
kinds_apart e u is_equality is_equality c d = refl
kinds_apart e u is_equality is_disequality c d = absurd (c.0 d.0)
kinds_apart e u is_equality both_absent c d = absurd (c.0 d.0)
kinds_apart e u is_equality both_present c d = absurd (d.1 c.1)
kinds_apart e u is_disequality is_equality c d = absurd (d.0 c.0)
kinds_apart e u is_disequality is_disequality c d = refl
kinds_apart e u is_disequality both_absent c d = absurd (c.1 d.1)
kinds_apart e u is_disequality both_present c d = absurd (d.0 c.0)
kinds_apart e u both_absent is_equality c d = absurd (d.0 c.0)
kinds_apart e u both_absent is_disequality c d = absurd (d.1 c.1)
kinds_apart e u both_absent both_absent c d = refl
kinds_apart e u both_absent both_present c d = absurd (d.0 c.0)
kinds_apart e u both_present is_equality c d = absurd (c.1 d.1)
kinds_apart e u both_present is_disequality c d = absurd (c.0 d.0)
kinds_apart e u both_present both_absent c d = absurd (c.0 d.0)
kinds_apart e u both_present both_present c d = refl

-- the mark is no value
mark_out : (n : ℕ) → eqb n mark ≡ true → ltb n 16 ≡ false
mark_out n p = let q = eqb-true n mark p in le-ltb n 16 (omega arith)

pub same_question : SameQuestion
same_question n x e u = go (ltb x n) (eqb e mark) refl (eqb u mark) refl
  where
    go : (a b : Bool) → eqb e mark ≡ b → (c : Bool) → eqb u mark ≡ c → both a (value_ok (kind_by b c) e u) ≡ both a (either (both b (ltb u 16)) (both c (ltb e 16)))
    go false b p c q = refl
    go true true p true q = sym (ap₂ either (mark_out u q) (mark_out e p))
    go true true p false q = sym (either_no (ltb u 16))
    go true false p true q = refl
    go true false p false q = refl

pub right_kinds : RightKinds
right_kinds n x e u t = (ltb→lt x n (both_l (ltb x n) (value_ok (kind_of e u) e u) t), go (kind_of e u) (both_r (ltb x n) (value_ok (kind_of e u) e u) t))
  where
    go : (k : Kind) → T (value_ok k e u) → ((entry_in k x e u ≡ equality x e) × (e < 16)) ⊎ ((entry_in k x e u ≡ disequality x u) × (u < 16))
    go is_equality t = inl (refl, ltb→lt e 16 t)
    go is_disequality t = inr (refl, ltb→lt u 16 t)
    go both_absent t = absurd t
    go both_present t = absurd t
