-- Laws of the prefix in `work`: it has k values, goes by them alone, and grows by the next. Assumes nothing.
use Rattle.model.specs.Kit.{◌≡◌, refl, sym, ap, ◌∙◌, subst, List, [], ◌∷◌, ◌++◌, ℕ, suc, ◌+◌, ◌≤◌, ◌<◌, add-one, dec_lt, arith, length, take, get_or, length-append, length-take-le, get_or-take}
use Rattle.model.specs.Lists.{at, tabulate}
use lib.ListN.{get_or-append}
use lib.Seq.{get_or_at}
use Rattle.model.proofs.Lists.{length_tabulate, at_tabulate, at_ext}
use Rattle.run_state.specs.Inner.Pair.{prefix_of}

pub length_prefix : (work : List ℕ) (k : ℕ) → length (prefix_of work k) ≡ k
unfolding prefix_of
length_prefix work k = length_tabulate k (at work)

pub prefix_at : (work : List ℕ) (k i : ℕ) → i < k → at (prefix_of work k) i ≡ at work i
unfolding prefix_of
prefix_at work k i h = at_tabulate k (at work) i h

pub prefix_is : (l work : List ℕ) (k : ℕ) → length l ≡ k → ((i : ℕ) → i < k → at l i ≡ at work i) → l ≡ prefix_of work k
prefix_is l work k e h =
    at_ext l (prefix_of work k) (e ∙ sym (length_prefix work k))
    (λ i m. let j : i < k = subst (λ (n : ℕ). i < n) e m in h i j ∙ sym (prefix_at work k i j))

pub prefix_ext : (v w : List ℕ) (k : ℕ) → ((i : ℕ) → i < k → at v i ≡ at w i) → prefix_of v k ≡ prefix_of w k
prefix_ext v w k h = prefix_is (prefix_of v k) w k (length_prefix v k) (λ i m. prefix_at v k i m ∙ h i m)

pub prefix_take : (work : List ℕ) (k : ℕ) → k ≤ length work → take k work ≡ prefix_of work k
unfolding at
prefix_take work k h = prefix_is (take k work) work k (length-take-le k work h) (λ i m. get_or-take k work i 0 m)

pub prefix_snoc : (work : List ℕ) (k : ℕ) → prefix_of work k ++ (at work k ∷ []) ≡ prefix_of work (suc k)
unfolding at
prefix_snoc work k =
    prefix_is (prefix_of work k ++ (at work k ∷ [])) work (suc k) (length-append (prefix_of work k) (at work k ∷ []) ∙ ap (λ (n : ℕ). n + 1) (length_prefix work k) ∙ add-one k) each
  where
    last : at (prefix_of work k ++ (at work k ∷ [])) k ≡ at work k
    last = get_or_at (prefix_of work k) (get_or work k 0) [] 0 k (length_prefix work k)

    first : (i : ℕ) → i < k → at (prefix_of work k ++ (at work k ∷ [])) i ≡ at (prefix_of work k) i
    first i h = get_or-append (prefix_of work k) (get_or work k 0 ∷ []) 0 i (subst (λ (n : ℕ). i < n) (sym (length_prefix work k)) h)

    go : (i : ℕ) → i < suc k → Dec (i < k) → at (prefix_of work k ++ (at work k ∷ [])) i ≡ at work i
    go i h (yes l) = first i l ∙ prefix_at work k i l
    go i h (no l) =
        let e : i ≡ k = omega arith in
        subst (λ (j : ℕ). at (prefix_of work k ++ (at work k ∷ [])) j ≡ at work j) (sym e) last

    each : (i : ℕ) → i < suc k → at (prefix_of work k ++ (at work k ∷ [])) i ≡ at work i
    each i h = go i h (dec_lt i k)

pub prefix_zero : (work : List ℕ) → prefix_of work 0 ≡ []
unfolding prefix_of tabulate
prefix_zero work = refl

-- ---- a byte
pub small : (l : List ℕ) (i : ℕ) → at l i < 256 → get_or l i 0 < 256
unfolding at
small l i h = h
