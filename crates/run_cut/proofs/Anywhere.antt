-- A run that goes on from any path, cut and resumed (specs/Claims). Assumes nothing.
use Rattle.model.specs.Kit.{◌≡◌, refl, sym, ap, ap₂, ◌∙◌, subst, Bool, true, false, ◌⊎◌, inl, inr, List, [], ◌∷◌, Memᴰ, ℕ, ◌+◌, ◌-◌, ◌≤◌, arith, T, take, drop}
use Rattle.model.specs.{Lists.keep, Problem.Problem, Search.nodes, Run.Ending, Run.finished, Run.spent, Run.full, Run.nodes_in, Run.Result, Run.search, Run.settled_by, Run.counts_by, Run.tally_at}
use native.Mathlib.Nat.{sub-zero}
use lib.Seq.{take-add}
use Rattle.model.proofs.{Lists.T_of, Lists.of_not, Lists.keep_yes, Lists.keep_no, Lists.keep_e, Lists.sorted_keep, Runs.Ended, Runs.walk}
use Rattle.run_cut.specs.Parts.{after, nodes_after, last_of, Progress, start, go_on, last_after, added, progress_after}
use Rattle.run_cut.specs.{Between.and_next, Claims.FromAnywhere, Claims.StandsAnywhere, Claims.CountsFromStart}
use Rattle.run_cut.proofs.Resume.{last_in, taken, after_lasts, after_last, last_append, then, walk_parts, from_start}
use Rattle.run_cut.proofs.{Parts.after_trans, Parts.Later, Parts.nodes_ascend, Parts.nodes_start, Counts.counts_none, Counts.counts_added, Counts.added_assoc}

-- of elements kept, the same are kept by a narrower test
keep_narrow : {A : Type 0} (q r : A → Bool) (l : List A) → ((x : A) → T (q x) → T (r x)) → keep q (keep r l) ≡ keep q l
unfolding keep
keep_narrow q r [] h = refl
keep_narrow q r (x ∷ l) h = go (r x) refl (q x) refl (keep_narrow q r l h)
  where
    go : (b : Bool) → r x ≡ b → (c : Bool) → q x ≡ c → keep q (keep r l) ≡ keep q l → keep q (keep r (x ∷ l)) ≡ keep q (x ∷ l)
    go true e true f ih = ap (keep q) (keep_yes r x l e) ∙ keep_yes q x (keep r l) f ∙ ap (λ (m : List _). x ∷ m) ih ∙ sym (keep_yes q x l f)
    go true e false f ih = ap (keep q) (keep_yes r x l e) ∙ keep_no q x (keep r l) f ∙ ih ∙ sym (keep_no q x l f)
    go false e true f ih = absurd (of_not (r x) e (h x (T_of (q x) f)))
    go false e false f ih = ap (keep q) (keep_no r x l e) ∙ ih ∙ sym (keep_no q x l f)

module _ (p : Problem) where
  -- of the nodes after a path, those after the first k are the nodes after the last of these
  pub after_from : (path : List ℕ) (k : ℕ) → nodes_after p (last_of path (take k (nodes_after p path))) ≡ drop k (nodes_after p path)
  unfolding nodes_after
  after_from path k =
      sym (keep_narrow (after e) (after path) (nodes p) (later (last_in p path (take k ts))))
      ∙ after_lasts p path ts k (λ t m. (keep_e (after path) (nodes p) t m).1, sorted_keep Later (after path) (nodes p) (nodes_ascend p))
    where
      ts : List (List ℕ)
      ts = keep (after path) (nodes p)

      e : List ℕ
      e = last_of path (take k ts)

      later : (e ≡ path) ⊎ Memᴰ e (take k ts) → (t : List ℕ) → T (after e t) → T (after path t)
      later (inl q) t u = subst (λ (x : List ℕ). T (after x t)) q u
      later (inr m) t u = after_trans path e t (keep_e (after path) (nodes p) e (taken p k ts e m)).1 u

  -- the last node of a part, and of the two together
  pub last_from : (path : List ℕ) (j i : ℕ) → let e = last_of path (take j (nodes_after p path)) in last_of e (take i (nodes_after p e)) ≡ last_of path (take (j + i) (nodes_after p path))
  last_from path j i =
      let ts = nodes_after p path in
      let e = last_of path (take j ts) in
      ap (λ (l : List (List ℕ)). last_of e (take i l)) (after_from path j) ∙ sym (last_append p path (take j ts) (take i (drop j ts))) ∙ ap (last_of path) (sym (take-add j i ts))

-- a run that goes on has made no fewer nodes than before
pub no_fewer : (p : Problem) (limit room : ℕ) (s : Progress) → s.made ≤ nodes_in (go_on p limit room s).ending
unfolding go_on
no_fewer p limit room s = let w = walk p limit room (nodes_after p s.last) s.made s.rows in go w.passed (search p limit room (nodes_after p s.last) s.made s.rows).ending w.ended
  where
    go : (k : ℕ) (e : Ending) → Ended p limit room (nodes_after p s.last) s.made k e → s.made ≤ nodes_in e
    go k (finished a b) h = omega arith
    go k (spent a b) h = omega arith
    go k (full a b) h = omega arith

pub from_anywhere : FromAnywhere
unfolding go_on
from_anywhere p limit room k s m h = walk_parts p room k limit h ts s.made s.rows m ∙ go r.ending refl
  where
    ts : List (List ℕ)
    ts = nodes_after p s.last

    r : Result
    r = search p k room ts s.made s.rows

    next : Result
    next = search p limit room (nodes_after p (last_after p s r)) (nodes_in r.ending) r.rows

    go : (x : Ending) → r.ending ≡ x → then p room k limit h ts s.made r.ending r.rows ≡ and_next r.ending r next
    go (finished a b) e = ap (λ (x : Ending). then p room k limit h ts s.made x r.rows) e ∙ sym (ap (λ (x : Ending). let w : Result = record { ending = x; rows = r.rows } in w) e) ∙ sym
        (ap (λ (x : Ending). and_next x r next) e)
    go (full a b) e = ap (λ (x : Ending). then p room k limit h ts s.made x r.rows) e ∙ sym (ap (λ (x : Ending). let w : Result = record { ending = x; rows = r.rows } in w) e) ∙ sym
        (ap (λ (x : Ending). and_next x r next) e)
    go (spent a b) e =
        let w = walk p k room ts s.made s.rows in
        let q = subst (Ended p k room ts s.made w.passed) e w.ended in
        let z : nodes_in r.ending ≡ k = ap nodes_in e ∙ q.2 in
        ap (λ (x : Ending). then p room k limit h ts s.made x r.rows) e
        ∙ ap₂ (λ (i j : ℕ). search p limit room (drop (i - s.made) ts) j r.rows) (sym z) (sym z)
        ∙ ap (λ (l : List (List ℕ)). search p limit room l (nodes_in r.ending) r.rows) (sym (after_from p s.last (nodes_in r.ending - s.made)))
        ∙ sym (ap (λ (x : Ending). and_next x r next) e)

-- ---- the counts
module _ (p : Problem) where
  -- those of a part, and of the two together
  pub counts_from : (path : List ℕ) (j i : ℕ) → let e = last_of path (take j (nodes_after p path)) in
      added (counts_by settled_by (take j (nodes_after p path))) (counts_by settled_by (take i (nodes_after p e))) ≡ counts_by settled_by (take (j + i) (nodes_after p path))
  counts_from path j i =
      let ts = nodes_after p path in
      ap (λ (l : List (List ℕ)). added (counts_by settled_by (take j ts)) (counts_by settled_by (take i l))) (after_from p path j) ∙ counts_added settled_by (take j ts) (take i (drop j ts))
      ∙ ap (counts_by settled_by) (sym (take-add j i ts))

  pub counts_move : (m j : ℕ) → added (counts_by settled_by (take m (nodes p))) (counts_by settled_by (take j (nodes_after p (last_of [] (take m (nodes p)))))) ≡ counts_by settled_by
      (take (m + j) (nodes p))
  counts_move m j =
      ap (λ (l : List (List ℕ)). added (counts_by settled_by (take m (nodes p))) (counts_by settled_by (take j l))) (after_last p m)
      ∙ counts_added settled_by (take m (nodes p)) (take j (drop m (nodes p)))
      ∙ ap (counts_by settled_by) (sym (take-add m j (nodes p)))

pub counts_from_start : CountsFromStart
unfolding tally_at
counts_from_start p limit room =
    let e = from_start p limit room in
    let n = nodes_in (go_on p limit room start).ending in
    ap₂ (λ (c : List ℕ) (l : List (List ℕ)). added c (counts_by settled_by (take (n - 0) l))) (sym (counts_none settled_by)) (nodes_start p)
    ∙ counts_added settled_by [] (take (n - 0) (nodes p))
    ∙ ap (λ (k : ℕ). counts_by settled_by (take k (nodes p))) (sub-zero n ∙ ap (λ (r : Result). nodes_in r.ending) e)

-- ---- where the two parts stand
pub stands_anywhere : StandsAnywhere
stands_anywhere p limit room k plans made s m h e =
    ap₂ (λ (c t : List ℕ). let w : Progress = record { made = n; counts = c; rows = next.rows; last = t } in w) counts last ∙ ap (progress_after p s) (sym whole)
  where
    first : Result
    first = go_on p k room s

    s' : Progress
    s' = progress_after p s first

    next : Result
    next = go_on p limit room s'

    n : ℕ
    n = nodes_in next.ending

    i : ℕ
    i = nodes_in first.ending - s.made

    j : ℕ
    j = n - s'.made

    whole : go_on p limit room s ≡ next
    whole = from_anywhere p limit room k s m h ∙ ap (λ (x : Ending). and_next x first next) e

    sum : i + j ≡ n - s.made
    sum = let a = no_fewer p k room s in let b = no_fewer p limit room s' in omega arith

    last : last_of s'.last (take j (nodes_after p s'.last)) ≡ last_of s.last (take (n - s.made) (nodes_after p s.last))
    last = last_from p s.last i j ∙ ap (λ (k : ℕ). last_of s.last (take k (nodes_after p s.last))) sum

    counts : added s'.counts (counts_by settled_by (take j (nodes_after p s'.last))) ≡ added s.counts (counts_by settled_by (take (n - s.made) (nodes_after p s.last)))
    counts = added_assoc s.counts (counts_by settled_by (take i (nodes_after p s.last))) (counts_by settled_by (take j (nodes_after p s'.last))) ∙ ap (added s.counts)
        (counts_from p s.last i j ∙ ap (λ (k : ℕ). counts_by settled_by (take k (nodes_after p s.last))) sum)
