-- An accepted sheet has at most 55,656 bytes. Assumes nothing.
use Rattle.model.specs.Kit.{◌≡◌, subst, List, ℕ, zero, suc, ◌+◌, ◌*◌, ◌≤◌, mul-le-mul, arith, T, leb, eqb, leb→le, eqb→eq, length}
use Rattle.model.specs.{Lists.both, Verdict.Verdict, Verdict.accepted, Verdict.is_accepted, Sheet.Header, Sheet.«word», Sheet.header_of, Sheet.after_at, Sheet.constraints_verdict, Sheet.verdict_of}
use Rattle.model.proofs.{Lists.both_l, Lists.both_r, Accepted.asked, Accepted.constraint_asked, Accepted.passed}
use Rattle.desk.specs.Inner.Places.{SHEET_BYTES}

-- a constraint has at most 1,546 bytes
constraint_bytes : (b : List ℕ) (o : ℕ) → T (both (both (leb 1 («word» b o)) (leb («word» b o) 3)) (leb («word» b (o + 2)) 256)) → after_at b o ≤ o + 1546
unfolding after_at
constraint_bytes b o t =
    let w = «word» b o in
    let r = «word» b (o + 2) in
    let x : w ≤ 3 = leb→le w 3 (both_r (leb 1 w) (leb w 3) (both_l (both (leb 1 w) (leb w 3)) (leb r 256) t)) in
    let y : r ≤ 256 = leb→le r 256 (both_r (both (leb 1 w) (leb w 3)) (leb r 256) t) in
    let z : r * w ≤ 256 * 3 = mul-le-mul y x in
    omega arith

constraints_bytes : (b : List ℕ) (h : Header) (k i o : ℕ) (v : Verdict) → T (is_accepted (constraints_verdict b h k i o v)) → h.third ≤ o + 1546 * k
unfolding constraints_verdict
constraints_bytes b h zero i o v t = let e = eqb→eq o h.third (asked (eqb o h.third) 9 i v t).0 in omega arith
constraints_bytes b h (suc k) i o v t =
    let q = constraint_asked b h i o (constraints_verdict b h k (suc i) (after_at b o) v) t in
    let x = constraint_bytes b o q.0.counts in
    let y = constraints_bytes b h k (suc i) (after_at b o) v q.1 in
    omega arith

pub sheet_length : (b : List ℕ) → T (is_accepted (verdict_of b)) → length b ≤ SHEET_BYTES
sheet_length b t =
    let p = passed b t in
    let h = header_of b in
    let x = constraints_bytes b h h.constraints 0 h.second p.walked.0 p.walked.1 in
    let nd : h.variables * h.values ≤ 12 * 16 = mul-le-mul p.header.few p.header.sixteen in
    let g : h.symmetries * (h.variables * h.values) ≤ 16 * (12 * 16) = mul-le-mul p.header.symmetries nd in
    let f = p.fits in
    let w = p.header.whole in
    let s = p.header.second in
    let n = p.header.few in
    let c = p.header.constraints in
    omega arith

pub answered_length : (b : List ℕ) → accepted ≡ verdict_of b → length b ≤ SHEET_BYTES
answered_length b e = sheet_length b (subst (λ (v : Verdict). T (is_accepted v)) e tt)
