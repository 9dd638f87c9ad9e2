-- The heads that `join` takes are parts one behind the other. Assumes nothing.
use Rattle.model.specs.Kit.{◌≡◌, refl, sym, ap, ◌∙◌, subst, Bool, true, false, ◌⊎◌, inl, inr, List, [], ◌∷◌, map, Memᴰ, Memᴰ-head, Memᴰ-tail, Memᴰ-not_nil, ℕ, zero, suc, ◌≤◌, ◌<◌}
use Rattle.model.specs.Kit.{arith, T, leb, length, take, length-take, take_all, leb-true}
use Rattle.model.specs.Run.{Ending, finished, spent, full, Answer, ended}
use Rattle.model.specs.{Lists.all, Lists.below, Lists.both, Lists.choose, Lists.same, Problem.Problem, Verdict.Verdict, Verdict.accepted, Verdict.ask, Search.nodes}
use Rattle.model.proofs.Lists.{T_of, keep_e, same_eq, both_second, never}
use Rattle.run_cut.specs.{Parts.after, Parts.last_of, Between.nodes_between}
use Rattle.run_cut.proofs.{Parts.after_trans, Parts.after_asym, Parts.after_not, Resume.node_values, Resume.last_in, Resume.taken}
use Rattle.run_input.specs.Lent.{verdict_lent, problem_lent}
use Rattle.run_ranges.specs.{Ranges.nodes_said, Ranges.made_by, Ranges.last_part, Claims.Part, Claims.CallRange, Claims.Goes, Claims.reached_for, Claims.reached_by, Claims.Chain}
use Rattle.run_ranges.proofs.Between.{between, between_not}
use Rattle.run_join.specs.Join.{path_at, kind_at, from_at, reach_at, heads_in, head_shaped, alike, whole_heads, join_verdict, stand_path, may_take, reach_or, best_of, step_of, taken_from, stand_after}
use Rattle.run_join.proofs.{Orders.each_below, Orders.both_first, Questions.place_end, Questions.place_last}
use Rattle.promises.specs.JoinedHeads.{kind_said, HeadOf, cut_twelve, HeldHeads}
use Rattle.promises.proofs.{JoinedTwelve.small_lent, JoinedTwelve.twelve_again, JoinedTwelve.call_twelve, JoinedHeads.ends}

-- ---- the next head
abbrev Onward : List ℕ → List ℕ → ℕ → Type 0
Onward l s k = (from_at l k ≡ s) × T (after s (reach_at l k))

module _ (l s : List ℕ) where
  -- head n begins at the path and reaches after the best of those before it
  abbrev pub betters : ℕ → Bool
  betters n = both (same (from_at l n) s) (after (reach_or l s (best_of l s n)) (reach_at l n))

  best_goes : (n k : ℕ) → best_of l s n ≡ suc k → (k < n) × T (may_take l k) × Onward l s k
  unfolding best_of
  best_goes zero k e = absurd (let z : 0 ≡ suc k = e in omega arith)
  best_goes (suc n) k e = go (best_goes n) (best_of l s n) refl (both (may_take l n) (betters n)) refl e
    where
      go : ((j : ℕ) → best_of l s n ≡ suc j → (j < n) × T (may_take l j) × Onward l s j) → (m : ℕ) → best_of l s n ≡ m →
          (d : Bool) → both (may_take l n) (betters n) ≡ d → choose d (suc n) (best_of l s n) ≡ suc k → (k < suc n) × T (may_take l k) × Onward l s k
      go ih m q false f h = let r = ih k h in (let z = r.0 in omega arith, r.1, r.2)
      go ih m q true f h =
          let z : n ≡ k = omega (arith, h) in
          let may = T_of (may_take l n) (both_first (may_take l n) (betters n) f) in
          let on = both_second (may_take l n) (betters n) f in
          let begins = same_eq (from_at l n) s (T_of (same (from_at l n) s) (both_first (same (from_at l n) s) (after (reach_or l s (best_of l s n)) (reach_at l n)) on)) in
          let further = T_of (after (reach_or l s (best_of l s n)) (reach_at l n)) (both_second (same (from_at l n) s) (after (reach_or l s (best_of l s n)) (reach_at l n)) on) in
          subst (λ (j : ℕ). (j < suc n) × T (may_take l j) × Onward l s j) z
          (omega arith, may, (begins, over m q (subst (λ (j : ℕ). T (after (reach_or l s j) (reach_at l n))) q further)))
        where
          over : (m : ℕ) → best_of l s n ≡ m → T (after (reach_or l s m) (reach_at l n)) → T (after s (reach_at l n))
          over zero q t = t
          over (suc j) q t = after_trans s (reach_at l j) (reach_at l n) (ih j q).2.1 t

pub step_goes : (l : List ℕ) (stand k : ℕ) → step_of l stand ≡ suc k → (k < heads_in l) × T (may_take l k) × Onward l (stand_path l stand) k
unfolding step_of
step_goes l stand k e = go (same (stand_path l stand) (255 ∷ [])) e
  where
    go : (d : Bool) → choose d 0 (best_of l (stand_path l stand) (heads_in l)) ≡ suc k → (k < heads_in l) × T (may_take l k) × Onward l (stand_path l stand) k
    go true h = absurd (omega (arith, h))
    go false h = best_goes l (stand_path l stand) (heads_in l) k h

pub taken_inside : (l : List ℕ) (left stand k : ℕ) → Memᴰ k (taken_from l left stand) → k < heads_in l
unfolding taken_from
taken_inside l zero stand k m = absurd (Memᴰ-not_nil m)
taken_inside l (suc left) stand k m = go (taken_inside l left) (step_of l stand) refl m
  where
    go : ((stand k : ℕ) → Memᴰ k (taken_from l left stand) → k < heads_in l) → (n : ℕ) → step_of l stand ≡ n →
        Memᴰ k (elim n [ zero ↦ [] | suc j ↦ j ∷ taken_from l left (suc j) ]) → k < heads_in l
    go ih zero e m = absurd (Memᴰ-not_nil m)
    go ih (suc j) e (Memᴰ-head q) = subst (λ (x : ℕ). x < heads_in l) (sym q) (step_goes l stand j e).0
    go ih (suc j) e (Memᴰ-tail m) = ih (suc j) k m

-- ---- no head is full
asked : (c : Bool) (n i : ℕ) (v : Verdict) → ask c n i v ≡ accepted → (c ≡ true) × (v ≡ accepted)
asked true n i v e = (refl, e)
asked false n i v e = never (cc)

pub none_full : (l : List ℕ) → join_verdict l ≡ accepted → (k : ℕ) → k < heads_in l → kind_at l k ≤ 2
unfolding join_verdict
none_full l v k h =
    let a4 = ask (all (λ k. leb (kind_at l k) 2) (below (heads_in l))) 44 0 accepted in
    let a3 = ask (all (alike l) (below (heads_in l))) 43 0 a4 in
    let a2 = ask (all (head_shaped l) (below (heads_in l))) 42 0 a3 in
    let p1 = asked (whole_heads l) 41 0 a2 v in
    let p2 = asked (all (head_shaped l) (below (heads_in l))) 42 0 a3 p1.1 in
    let p3 = asked (all (alike l) (below (heads_in l))) 43 0 a4 p2.1 in
    let p4 = asked (all (λ k. leb (kind_at l k) 2) (below (heads_in l))) 44 0 accepted p3.1 in
    leb-true (kind_at l k) 2 (each_below (λ k. leb (kind_at l k) 2) (heads_in l) p4.0 k h)

-- ---- where a part stands
module _ (b pairs block : List ℕ) (c : Part) (so : verdict_lent b pairs block ≡ accepted) (call : CallRange b pairs block c) where
  abbrev p : Problem
  p = problem_lent b pairs block

  abbrev made : List (List ℕ)
  made = take (nodes_said c.answer) (nodes_between p c.from c.upto)

  pub last_is : c.last ≡ last_of (take 12 c.from) made
  unfolding last_part
  last_is = call.stands ∙ ap (λ (a : Answer). last_of (take 12 c.from) (made_by a b pairs block c.from c.upto)) (sym call.answers)

  -- at the beginning, or at a node of the range
  abbrev Stands : Type 0
  Stands = (c.last ≡ take 12 c.from) ⊎ (Memᴰ c.last (nodes p) × T (between c.from c.upto c.last))

  pub last_stands : Stands
  unfolding nodes_between
  last_stands = go (last_in p (take 12 c.from) made)
    where
      go : (last_of (take 12 c.from) made ≡ take 12 c.from) ⊎ Memᴰ (last_of (take 12 c.from) made) made → Stands
      go (inl e) = inl (last_is ∙ e)
      go (inr m) = inr (subst (λ (x : List ℕ). Memᴰ x (nodes p) × T (between c.from c.upto x)) (sym last_is)
          (keep_e (between c.from c.upto) (nodes p) (last_of (take 12 c.from) made) (taken p (nodes_said c.answer) (nodes_between p c.from c.upto) (last_of (take 12 c.from) made) m)))

  pub last_twelve : take 12 c.last ≡ c.last
  last_twelve = take_all 12 c.last (go last_stands)
    where
      go : Stands → length c.last ≤ 12
      go (inl e) = let n = length-take 12 c.from in let m = ap length e in omega arith
      go (inr m) = let n = (node_values p c.last m.0).1 in let s = small_lent b pairs block so in omega arith

pub finished_reaches : (l : List ℕ) (k : ℕ) (c : Part) → HeadOf l k c → (plans made : ℕ) → c.answer ≡ ended (finished plans made) → take 12 c.upto ≡ reach_at l k
finished_reaches l k c h plans made q = let kind : kind_at l k ≡ 1 = h.kind ∙ ap kind_said q in sym h.upto ∙ ap (path_at l) (place_end l k 1 (sym kind) refl)

-- ---- a head that is taken
module _ (b pairs block l : List ℕ) (part : ℕ → Part) (held : HeldHeads b pairs block l part) (v : join_verdict l ≡ accepted) where
  pub record Linked (s : List ℕ) (k : ℕ) : Type 0 where
    pub begins : take 12 (part k).from ≡ s
    pub forth : T (after (take 12 (part k).upto) (take 12 (part k).from)) → ⊥
    pub call : CallRange b pairs block (cut_twelve (part k))
    pub goes : Goes (part k).answer
    pub reaches : reached_by (cut_twelve (part k)) ≡ reach_at l k

  pub linked : (s : List ℕ) (k : ℕ) → k < heads_in l → Onward l s k → Linked s k
  linked s k i (e, t) = go (ends b pairs block (part k) (held.calls k i) held.lent).0 (ends b pairs block (part k) (held.calls k i) held.lent).1
    where
      h : HeadOf l k (part k)
      h = held.heads k i

      c : Part
      c = cut_twelve (part k)

      is_call : CallRange b pairs block (cut_twelve (part k))
      is_call = call_twelve b pairs block (part k) held.lent (held.calls k i)

      begin : take 12 (part k).from ≡ s
      begin = sym h.from ∙ e

      onward : T (after (take 12 (part k).from) (reach_at l k))
      onward = subst (λ (x : List ℕ). T (after x (reach_at l k))) (sym begin) t

      by : (a : Answer) → (part k).answer ≡ a → Goes a → reached_for a (take 12 (part k).upto) (part k).last ≡ reach_at l k →
          (T (after (take 12 (part k).upto) (take 12 (part k).from)) → ⊥) → Linked s k
      by a q g r f = record { begins = begin; forth = f; call = is_call; goes = subst Goes (sym q) g; reaches = ap (λ (x : Answer). reached_for x (take 12 (part k).upto) (part k).last) q ∙ r }

      go : (x : Ending) → (part k).answer ≡ ended x → Linked s k
      go (finished plans made) q =
          let r = finished_reaches l k (part k) h plans made q in
          by (ended (finished plans made)) q tt r (λ u. after_asym (take 12 (part k).from) (take 12 (part k).upto) (subst (λ (x : List ℕ). T (after (take 12 (part k).from) x)) (sym r) onward) u)
      go (spent plans made) q =
          let kind : kind_at l k ≡ 2 = h.kind ∙ ap kind_said q in
          let r : (part k).last ≡ reach_at l k =
          sym (last_twelve b pairs block (part k) held.lent (held.calls k i)) ∙ sym h.last ∙ ap (path_at l) (place_last l k 2 (sym kind) (λ z. omega (arith, z))) in
          by (ended (spent plans made)) q tt r (back (subst (λ (x : List ℕ). T (after (take 12 (part k).from) x)) (sym r) onward) (last_stands b pairs block c held.lent is_call))
        where
          back : T (after (take 12 (part k).from) (part k).last) →
              Stands b pairs block c held.lent is_call →
              T (after (take 12 (part k).upto) (take 12 (part k).from)) → ⊥
          back t (inl z) u = after_not (take 12 (part k).from) (subst (λ (x : List ℕ). T (after (take 12 (part k).from) x)) (z ∙ twelve_again (part k).from) t)
          back t (inr m) u =
              between_not (take 12 (part k).from) (take 12 (part k).upto) (part k).last m.1 (after_trans (take 12 (part k).upto) (take 12 (part k).from) (part k).last u t)
      go (full plans made) q = absurd (let n = none_full l v k i in let kind : kind_at l k ≡ 3 = h.kind ∙ ap kind_said q in omega arith)

  pub taken_chain : (left stand : ℕ) →
      Chain b pairs block (stand_path l stand) (map (λ k. cut_twelve (part k)) (taken_from l left stand)) (stand_path l (stand_after stand (taken_from l left stand)))
  unfolding taken_from stand_after
  taken_chain zero stand = refl
  taken_chain (suc left) stand = go (taken_chain left) (step_of l stand) refl
    where
      rest : ℕ → List ℕ
      rest n = elim n [ zero ↦ [] | suc k ↦ k ∷ taken_from l left (suc k) ]

      go : ((j : ℕ) → Chain b pairs block (stand_path l j) (map (λ k. cut_twelve (part k)) (taken_from l left j)) (stand_path l (stand_after j (taken_from l left j)))) →
          (n : ℕ) → step_of l stand ≡ n → Chain b pairs block (stand_path l stand) (map (λ k. cut_twelve (part k)) (rest n)) (stand_path l (stand_after stand (rest n)))
      go ih zero e = refl
      go ih (suc k) e =
          let q = step_goes l stand k e in
          let m = linked (stand_path l stand) k q.0 q.2 in (
            m.begins,
            m.forth,
            m.call,
            m.goes,
            subst (λ (x : List ℕ). Chain b pairs block x (map (λ k. cut_twelve (part k)) (taken_from l left (suc k))) (stand_path l (stand_after (suc k) (taken_from l left (suc k)))))
                (sym m.reaches) (ih (suc k)),
          )
