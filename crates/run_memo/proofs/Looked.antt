-- What a look for a key comes to. Assumes nothing.
use Rattle.model.specs.Kit.{◌≡◌, refl, sym, ap, ◌∙◌, subst, List, ℕ, ◌+◌, ◌-◌, ◌*◌, ◌≤◌, arith, length}
use Rattle.model.specs.{Lists.at, Problem.Problem, Run.Tally}
use Rattle.arrays.specs.Inner.Places.{MARKS, DEPTH, SYMMETRIES, VARIABLES, VAIN}
use Rattle.run_alike.specs.Inner.Claims.{SameBelow}
use Rattle.run_state.specs.{Inner.Memo.MarksRead, Inner.Memo.Kept, Inner.Pair.prefix_of, Inner.Pair.order_in, Inner.Pair.own_problem_in, Inner.Pair.AtPrefix}
use Rattle.run_key.specs.Inner.Key.{Pending, Placed}
use Rattle.run_entry.specs.Inner.Entry.{Compared, Copies, Copied, Taken}
use Rattle.run_memo.specs.Inner.Steps.{grown_by, AtLook, Looked}
use Rattle.run_memo.proofs.{Found.found_below, Recalled.copies_ask, Recalled.grows, Recalled.recalled}

-- few symmetries
pub symmetries_few : {p : Problem} {stack work supports tables numbers list : List ℕ} {tally : Tally} {k : ℕ} → AtPrefix p stack work supports tables numbers list tally k → at numbers SYMMETRIES ≤ 16
symmetries_few h = omega (arith, h.ready.indexed.numbered.symmetries, h.ready.symmetries)

-- the marks that were read are those of the problem's own symmetries
pub marks_own : {p : Problem} {stack work supports tables numbers list : List ℕ} {tally : Tally} {k : ℕ} → AtPrefix p stack work supports tables numbers list tally k → (marks : ℕ → ℕ) (low good : ℕ) →
    MarksRead marks (at numbers SYMMETRIES) k low good → MarksRead marks (length (own_problem_in p numbers).symmetries) k low good
marks_own {k = k} h marks low good r = subst (λ (g : ℕ). MarksRead marks g k low good) h.ready.indexed.numbered.symmetries r

module _ (p : Problem) (stack work supports tables numbers list : List ℕ) (tally : Tally) (k : ℕ) (g : AtLook p stack work supports tables numbers list tally k) (pending low good s : ℕ)
    (pend : Pending numbers k (at numbers VARIABLES) pending) (r : MarksRead (λ e. at work (16 * k + MARKS + e)) (at numbers SYMMETRIES) k low good) (z : Placed s)
    (c : Compared stack numbers work tally.nodes k pending low good s) where
  abbrev h : AtPrefix p stack work supports tables numbers list tally k
  h = g.prefix

  entry : Kept p (own_problem_in p numbers) (order_in numbers p.variables) work list s
  entry =
      subst (Kept p (own_problem_in p numbers) (order_in numbers p.variables) work list) (sym z.is)
      (h.memo z.index z.inside (λ q. let d : at work (s + DEPTH) ≡ 0 = ap (λ (i : ℕ). at work (i + DEPTH)) z.is ∙ q in omega (arith, c.depth, g.some)))

  size : length entry.prefix ≡ k
  size = sym entry.depth ∙ c.depth

  below : SameBelow p (p.variables - k) (prefix_of work k) entry.prefix
  below =
      found_below p stack work supports tables numbers list tally k h g.asks tally.nodes pending low good s (subst (λ (n : ℕ). Pending numbers k n pending)
      h.ready.indexed.numbered.variables pend)
      (marks_own h (λ e. at work (16 * k + MARKS + e)) low good r) c (order_in numbers p.variables) entry

  pub copies_so : Copies numbers work list k s
  copies_so = copies_ask p stack work supports tables numbers list tally k h s z entry size below c.fits c.room

  pub looked : (work₁ list' : List ℕ) → Copied numbers work list k s work₁ list' → (work' : List ℕ) → Taken work₁ k s work' → Looked p stack work numbers list tally k work' list' s
  looked work₁ list' d work' t = record {
    long = t.long ∙ d.long ∙ h.ready.work_length;
    placed = λ n. z;
    grows = λ n. grows p stack work supports tables numbers list tally k h s z entry size below c.fits c.room work₁ list' d work' t;
    found = λ n. recalled p stack work supports tables numbers list tally k h s z entry size below c.fits c.room work₁ list' d work' t (grown_by tally work' s) refl;
    missed = λ q. absurd (omega (arith, z.is, z.inside));
  }

-- nothing was done
pub looked_none : (p : Problem) (stack work supports tables numbers list : List ℕ) (tally : Tally) (k : ℕ) → AtPrefix p stack work supports tables numbers list tally k → (s : ℕ) → Placed s →
    Looked p stack work numbers list tally k work list (s + VAIN)
looked_none p stack work supports tables numbers list tally k h s z = record {
  long = h.ready.work_length;
  placed = λ n. absurd (omega arith);
  grows = λ n. absurd (omega arith);
  found = λ n. absurd (omega arith);
  missed = λ q. (refl, refl, subst Placed (let e : s ≡ s + VAIN - VAIN = omega arith in e) z);
}
