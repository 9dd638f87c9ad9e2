-- Heads of calls of one lending, none of them full, pass the questions of `join` (specs/JoinedClaims). Assumes nothing.
use Rattle.model.specs.Kit.{◌≡◌, refl, sym, ap, ◌∙◌, Bool, true, false, List, [], Memᴰ, ℕ, suc, ◌+◌, ◌*◌, ◌%◌, ◌≤◌, ◌<◌, arith, eqb, ltb, ltb-false, leb, length, take, length-take, eq-eqb, le-leb}
use Rattle.model.specs.{Lists.all, Lists.at, Lists.below, Lists.both, Lists.either, Verdict.accepted, Verdict.ask, Run.finished, Run.spent, Run.full, Run.Answer, Run.refusal, Run.answered}
use Rattle.model.proofs.Lists.{at_tabulate, at_out, length_tabulate, mem_get_d, both_yes}
use Rattle.run_ranges.specs.Claims.{Part, Goes}
use Rattle.export_parts.specs.Head.{path_bytes}
use Rattle.run_join.specs.Join.{kind_at, heads_in, path_shaped, head_shaped, alike, whole_heads, join_verdict}
use Rattle.run_join.proofs.Orders.{all_below}
use Rattle.promises.specs.{JoinedHeads.kind_said, JoinedHeads.HeldBytes, JoinedHeads.part_at, JoinedClaims.HeadsAccepted}
use Rattle.promises.proofs.JoinedHeads.{Found, Pieces, twelve_counts, ends, bytes_pieces, length_name, size_held, many_held, call_held, found_held, heads_held}

either_yes : (a b : Bool) → (a ≡ false → b ≡ true) → either a b ≡ true
either_yes true b f = refl
either_yes false b f = f refl

-- a path has at most twelve values, and zeros behind them
shaped_yes : (l : List ℕ) (o m : ℕ) → m ≡ at l o → m ≤ 12 → ((k : ℕ) → k < 12 → m ≤ k → at l (o + 1 + k) ≡ 0) → path_shaped l o ≡ true
unfolding path_shaped
shaped_yes l o m e h z =
    both_yes (leb (at l o) 12) (all behind (below 12)) (le-leb (at l o) 12 (omega arith))
    (all_below behind 12 (λ k i. either_yes (ltb k (at l o)) (eqb (at l (o + 1 + k)) 0) (λ f. eq-eqb (at l (o + 1 + k)) 0 (z k i (let q = ltb-false k (at l o) f in omega arith)))))
  where
    behind : ℕ → Bool
    behind k = either (ltb k (at l o)) (eqb (at l (o + 1 + k)) 0)

module _ (l : List ℕ) (k : ℕ) where
  alike_yes : ((j : ℕ) → j < 16 → at l (115 * k + 60 + j) ≡ at l (60 + j)) → alike l k ≡ true
  unfolding alike
  alike_yes e = all_below (λ j. eqb (at l (115 * k + 60 + j)) (at l (60 + j))) 16 (λ j m. eq-eqb (at l (115 * k + 60 + j)) (at l (60 + j)) (e j m))

  -- a head of a kind that there is has the shape of its paths
  shape_paths : 1 ≤ kind_at l k → kind_at l k ≤ 3 → head_shaped l k ≡ both (path_shaped l (115 * k + 76)) (both (path_shaped l (115 * k + 89)) (path_shaped l (115 * k + 102)))
  unfolding head_shaped
  shape_paths h m =
      ap (λ (b : Bool). both b (both (path_shaped l (115 * k + 76)) (both (path_shaped l (115 * k + 89)) (path_shaped l (115 * k + 102)))))
      (both_yes (leb 1 (kind_at l k)) (leb (kind_at l k) 3) (le-leb 1 (kind_at l k) h) (le-leb (kind_at l k) 3 m))

few_kinds : (l : List ℕ) (n : ℕ) → ((j : ℕ) → j < n → kind_at l j ≤ 2) → all (λ j. leb (kind_at l j) 2) (below n) ≡ true
few_kinds l n e = all_below (λ j. leb (kind_at l j) 2) n (λ j m. le-leb (kind_at l j) 2 (e j m))

path_shaped_lem : (l : List ℕ) (o : ℕ) (path : List ℕ) → Found l o (path_bytes path) → path_shaped l o ≡ true
unfolding path_bytes at
path_shaped_lem l o path f = shaped_yes l o (length (take 12 path)) (sym here) (let n = length-take 12 path in omega arith) behind
  where
    here : at l o ≡ length (take 12 path)
    here = let z : o + 0 ≡ o = omega arith in sym (ap (at l) z) ∙ f 0 (let m = length_tabulate 12 (at path) in omega arith)

    behind : (k : ℕ) → k < 12 → length (take 12 path) ≤ k → at l (o + 1 + k) ≡ 0
    behind k h i =
        let y : o + 1 + k ≡ o + suc k = omega arith in
        let n = length-take 12 path in
        ap (at l) y ∙ f (suc k) (let m = length_tabulate 12 (at path) in omega arith) ∙ at_tabulate 12 (at path) k h ∙ at_out path k (omega arith)

-- a part that can be gone on from is finished or spent
low_kind : (a : Answer) → Goes a → (1 ≤ kind_said a) × (kind_said a ≤ 2)
low_kind (answered (finished plans made)) g = (omega arith, omega arith)
low_kind (answered (spent plans made)) g = (omega arith, omega arith)
low_kind (answered (full plans made)) g = absurd g
low_kind (refusal number item) g = absurd g

module _ (b pairs block : List ℕ) (cs : List Part) (l : List ℕ) (h : HeldBytes b pairs block cs l) (few : length cs ≤ 65536) (goes : (c : Part) → Memᴰ c cs → Goes c.answer) where
  abbrev part : ℕ → Part
  part = part_at b pairs block cs

  inside : (k : ℕ) → k < heads_in l → k < length cs
  inside k m = let n = many_held b pairs block cs l h in omega arith

  pieces : (k : ℕ) (m : k < length cs) → let call = call_held b pairs block cs l h k m in
      Pieces b pairs block (part k) (ends b pairs block (part k) call h.lent).0 (twelve_counts b pairs block (part k) call) l (115 * k)
  pieces k m = bytes_pieces b pairs block (part k) (call_held b pairs block cs l h k m) h.lent l k (found_held b pairs block cs l h k m)

  kind : (k : ℕ) → k < heads_in l → (1 ≤ kind_at l k) × (kind_at l k ≤ 2)
  kind k m =
      let e = ((heads_held b pairs block cs l h).0.heads k m).kind in
      let q = low_kind (part k).answer (goes (part k) (mem_get_d cs k (part_at b pairs block [] 0) (inside k m))) in
      (omega (arith, e, q.0), omega (arith, e, q.1))

  whole : whole_heads l ≡ true
  unfolding whole_heads
  whole =
      let n = size_held b pairs block cs l h in
      let m = many_held b pairs block cs l h in
      both_yes (eqb (length l % 115) 0) (leb (heads_in l) 65536) (eq-eqb (length l % 115) 0 (omega arith)) (le-leb (heads_in l) 65536 (omega arith))

  shaped : (k : ℕ) → k < heads_in l → head_shaped l k ≡ true
  shaped k m =
      let p = pieces k (inside k m) in
      let q = kind k m in
      let o = 115 * k in
      shape_paths l k q.0 (omega (arith, q.1))
      ∙ both_yes (path_shaped l (o + 76)) (both (path_shaped l (o + 89)) (path_shaped l (o + 102))) (path_shaped_lem l (o + 76) (part k).from p.from)
      (both_yes (path_shaped l (o + 89)) (path_shaped l (o + 102)) (path_shaped_lem l (o + 89) (part k).upto p.upto) (path_shaped_lem l (o + 102) (part k).last p.last))

  named : (k : ℕ) → k < heads_in l → alike l k ≡ true
  named k m = alike_yes l k (λ j i.
      let n = length_name b pairs block in
      let z : 115 * 0 + 60 + j ≡ 60 + j = omega arith in
      (pieces k (inside k m)).name j (omega arith) ∙ sym (sym (ap (at l) z) ∙ (pieces 0 (let q = inside k m in omega arith)).name j (omega arith)))

  pub laid : join_verdict l ≡ accepted
  unfolding join_verdict
  laid =
      let n = heads_in l in
      let a4 = ask (all (λ k. leb (kind_at l k) 2) (below n)) 44 0 accepted in
      let a3 = ask (all (alike l) (below n)) 43 0 a4 in
      let a2 = ask (all (head_shaped l) (below n)) 42 0 a3 in
      ap (λ (c : Bool). ask c 41 0 a2) whole
      ∙ ap (λ (c : Bool). ask c 42 0 a3) (all_below (head_shaped l) n shaped)
      ∙ ap (λ (c : Bool). ask c 43 0 a4) (all_below (alike l) n named)
      ∙ ap (λ (c : Bool). ask c 44 0 accepted) (few_kinds l n (λ k m. (kind k m).1))

pub heads_accepted : HeadsAccepted
heads_accepted = laid
