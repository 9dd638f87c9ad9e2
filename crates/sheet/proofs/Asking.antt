-- Questions passed and refused. Assumes nothing.
use Rattle.model.specs.Kit.{◌≡◌, ap, ◌∙◌, subst, List, Bool, true, false, ℕ, ◌≤◌, length, leb, leb-true}
use Rattle.model.specs.{Lists.both, Verdict.Verdict, Verdict.refused, Verdict.ask, Sheet.header_of, Sheet.header_verdict, Sheet.Header as Numbers}
use Rattle.model.proofs.Lists.{both_r, T_of, of_T}
use Rattle.reader.specs.{Inner.Read.stated, declared.Header.Header}
use Rattle.sheet.specs.{Meaning.Answers, Inner.Parts.header_asked}

-- a question passed, and one that is not
pub pass : (c : Bool) (n i : ℕ) (v w : Verdict) → c ≡ true → v ≡ w → ask c n i v ≡ w
pass c n i v w e p = ap (λ (x : Bool). ask x n i v) e ∙ p

pub stop : (c : Bool) (n i : ℕ) (v : Verdict) → c ≡ false → ask c n i v ≡ refused n i
stop c n i v e = ap (λ (x : Bool). ask x n i v) e

pub in_range : (n : ℕ) → both (leb 1 n) (leb n 12) ≡ true → n ≤ 12
in_range n e = leb-true n 12 (of_T (leb n 12) (both_r (leb 1 n) (leb n 12) (T_of (both (leb 1 n) (leb n 12)) e)))

-- what was asked of the header as read was asked of the sheet's
pub heading : (h : Header) (b : List ℕ) (v : Verdict) → stated h ≡ header_of b → Answers (header_verdict (stated h) (length b)) v → Answers (header_asked b) v
heading h b v e a = subst (λ (k : Numbers). Answers (header_verdict k (length b)) v) e a
