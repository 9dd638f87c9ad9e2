-- The heads of finished ranges between cuts in order join (specs/JoinedClaims). Assumes nothing.
use Rattle.model.specs.Kit.{◌≡◌, refl, sym, ap, ◌∙◌, subst, Bool, true, false, ◌⊎◌, inl, inr, List, [], ◌∷◌, map, Memᴰ, Memᴰ-head, Memᴰ-tail, Memᴰ-not_nil, Memᴰ-map, ℕ, zero, suc}
use Rattle.model.specs.Kit.{◌≤◌, ◌<◌, arith, T, length, take}
use Rattle.model.specs.{Lists.choose, Verdict.Verdict, Verdict.accepted, Run.finished, Run.spent, Run.full, Run.Answer, Run.refusal, Run.answered, Run.ended}
use Rattle.model.proofs.Lists.{place_of, mem_get_d}
use Rattle.run_cut.specs.{Parts.after, Parts.last_of, Between.Cuts}
use Rattle.run_cut.proofs.Parts.{after_e, after_i, after_total}
use Rattle.run_ranges.specs.Claims.{Part, Done}
use Rattle.run_join.specs.Join.{from_at, reach_at, heads_in, join_verdict, stand_path, begin_or, stands, joined, nearest}
use Rattle.std.specs.Prelude.{Option, None, Some, Result, Ok, Err}
use Rattle.model.specs.{Refusals.reply_from_question, declared.refusals.Question.Question}
use Rattle.model.proofs.Lists.{never}
use Rattle.run_join.specs.{Join.head_number, Calls.answer_for, Calls.CallJoin, Calls.told_by, declared.Missing.Missing, declared.Joining.Joining}
use Rattle.promises.specs.JoinedClaims.{Joins}
use Rattle.promises.specs.{JoinedHeads.HeadOf, JoinedHeads.part_at, JoinedClaims.MissingHeld, JoinedClaims.ranges_of, JoinedClaims.CutsJoined}
use Rattle.promises.proofs.{JoinedHeads.many_held, JoinedHeads.heads_held, JoinedTaken.finished_reaches, JoinedStuck.missing_held, JoinedLays.laid}
use Rattle.run_ranges.proofs.Joined.{done_goes}

-- paths in order are in order when cut to some values
after_taken : (k : ℕ) (a b : List ℕ) → T (after (take k a) (take k b)) → T (after a b)
unfolding after
after_taken zero a b t = absurd t
after_taken (suc k) [] [] t = t
after_taken (suc k) [] (v ∷ b) t = tt
after_taken (suc k) (u ∷ a) [] t = absurd t
after_taken (suc k) (u ∷ a) (v ∷ b) t = after_i u v a b (go (after_taken k a b) (after_e u v (take k a) (take k b) t))
  where
    go : (T (after (take k a) (take k b)) → T (after a b)) → (u < v) ⊎ ((u ≡ v) × T (after (take k a) (take k b))) → (u < v) ⊎ ((u ≡ v) × T (after a b))
    go ih (inl h) = inl h
    go ih (inr h) = inr (h.0, ih h.1)

-- ---- cuts
abbrev Next : List (List ℕ × List ℕ) → List ℕ → Type 0
Next rs s = (a : List ℕ) × (c : List ℕ) × Memᴰ (a, c) rs × (take 12 a ≡ s) × T (after s (take 12 c))

-- from every cut but the last a range goes on
goes_on_lem : (from : List ℕ) (cuts : List (List ℕ)) (s : List ℕ) → Cuts from cuts → (take 12 from ≡ s) ⊎ Memᴰ s (map (take 12) cuts) → (take 12 (last_of from cuts) ≡ s → ⊥) → Next
    (ranges_of from cuts) s
unfolding last_of
goes_on_lem from [] s o (inl e) d = absurd (d e)
goes_on_lem from [] s o (inr m) d = absurd (Memᴰ-not_nil m)
goes_on_lem from (cut ∷ cuts) s o at d = go (goes_on_lem cut cuts s o.1) at
  where
    later : Next (ranges_of cut cuts) s → Next (ranges_of from (cut ∷ cuts)) s
    later (a, c, m, e, t) = (a, c, Memᴰ-tail m, e, t)

    go : ((take 12 cut ≡ s) ⊎ Memᴰ s (map (take 12) cuts) → (take 12 (last_of cut cuts) ≡ s → ⊥) → Next (ranges_of cut cuts) s) →
        (take 12 from ≡ s) ⊎ Memᴰ s (map (take 12) (cut ∷ cuts)) → Next (ranges_of from (cut ∷ cuts)) s
    go ih (inr (Memᴰ-head e)) = later (ih (inl (sym e)) d)
    go ih (inr (Memᴰ-tail m)) = later (ih (inr m) d)
    go ih (inl e) = which (after_total (take 12 from) (take 12 cut))
      where
        which : (take 12 from ≡ take 12 cut) ⊎ (T (after (take 12 from) (take 12 cut)) ⊎ T (after (take 12 cut) (take 12 from))) → Next (ranges_of from (cut ∷ cuts)) s
        which (inl q) = later (ih (inl (sym q ∙ e)) d)
        which (inr (inl t)) = (from, cut, Memᴰ-head refl, e, subst (λ (x : List ℕ). T (after x (take 12 cut))) e t)
        which (inr (inr t)) = absurd (o.0 (after_taken 12 cut from t))

range_end : (from : List ℕ) (cuts : List (List ℕ)) (a c : List ℕ) → Memᴰ (a, c) (ranges_of from cuts) → Memᴰ c cuts
range_end from [] a c m = absurd (Memᴰ-not_nil m)
range_end from (cut ∷ cuts) a c (Memᴰ-head e) = Memᴰ-head (ap (λ (x : List ℕ × List ℕ). x.1) e)
range_end from (cut ∷ cuts) a c (Memᴰ-tail m) = Memᴰ-tail (range_end cut cuts a c m)

-- ---- a part that is done
done_is : (a : Answer) → Done a → (plans : ℕ) × (made : ℕ) × (a ≡ ended (finished plans made))
done_is (answered (finished plans made)) d = (plans, made, refl)
done_is (answered (spent plans made)) d = absurd d
done_is (answered (full plans made)) d = absurd d
done_is (refusal number item) d = absurd d

pub cuts_joined : CutsJoined
unfolding answer_for
cuts_joined b pairs block cuts cs l h few order end cut r call = answered_by r call (call.answers ∙ ap (λ (v : Verdict). answer_for v l) ok)
  where
    ok : join_verdict l ≡ accepted
    ok = laid b pairs block cs l h few (λ c m. done_goes c.answer (cut.each c m).0)

    reaches : (k : ℕ) → k < heads_in l → (c : Part) → part_at b pairs block cs k ≡ c → Memᴰ c cs → (from_at l k ≡ take 12 c.from) × (take 12 c.upto ≡ reach_at l k)
    reaches k i c e m =
        let q = done_is c.answer (cut.each c m).0 in
        let head = subst (HeadOf l k) e ((heads_held b pairs block cs l h).0.heads k i) in
        (head.from, finished_reaches l k c head q.0 q.1 q.2)

    -- where one stands is a cut
    stood : (stand : ℕ) → stand ≤ heads_in l → (take 12 [] ≡ stand_path l stand) ⊎ Memᴰ (stand_path l stand) (map (take 12) cuts)
    stood zero i = inl refl
    stood (suc k) i =
        let n = many_held b pairs block cs l h in
        let m = mem_get_d cs k (part_at b pairs block [] 0) (omega arith) in
        inr (subst (λ (x : List ℕ). Memᴰ x (map (take 12) cuts)) (reaches k (omega arith) (part_at b pairs block cs k) refl m).1
        (Memᴰ-map (take 12) (range_end [] cuts (part_at b pairs block cs k).from (part_at b pairs block cs k).upto (cut.each (part_at b pairs block cs k) m).1)))

    -- a range that goes on has a head
    follow : (s a u : List ℕ) → Memᴰ (a, u) (ranges_of [] cuts) → take 12 a ≡ s → T (after s (take 12 u)) → (k : ℕ) × (k < heads_in l) × (from_at l k ≡ s) × T (after s (reach_at l k))
    follow s a u m e t = at_head (cut.all a u m)
      where
        at_head : (c : Part) × Memᴰ c cs × (c.from ≡ a) × (c.upto ≡ u) → (k : ℕ) × (k < heads_in l) × (from_at l k ≡ s) × T (after s (reach_at l k))
        at_head (c, i, f, g) = placed (place_of cs c (part_at b pairs block [] 0) i)
          where
            placed : (k : ℕ) × (k < length cs) × (part_at b pairs block cs k ≡ c) → (k : ℕ) × (k < heads_in l) × (from_at l k ≡ s) × T (after s (reach_at l k))
            placed (k, q, is) =
                let z : k < heads_in l = (let n = many_held b pairs block cs l h in omega arith) in
                let p = reaches k z c is i in
                (k, z, p.0 ∙ ap (take 12) f ∙ e, subst (λ (x : List ℕ). T (after s x)) p.1 (subst (λ (x : List ℕ). T (after s (take 12 x))) (sym g) t))

    none_missing : (j : Joining) → CallJoin l (Ok j) → (m : Missing) → j.missing ≡ Some m → ⊥
    none_missing j call m e = stuck (missing_held l j call m e)
      where
        stand : ℕ
        stand = head_number m.from

        stuck : MissingHeld l (stand_path l stand) (begin_or l (head_number m.upto)) → ⊥
        stuck q = by (goes_on_lem [] cuts (stand_path l stand) order (stood stand (call.inside j m refl e).0) (λ z. q.before (sym z ∙ ap (take 12) end)))
          where
            by : Next (ranges_of [] cuts) (stand_path l stand) → ⊥
            by (a, u, m, f, t) = let k = follow (stand_path l stand) a u m f t in q.stuck k.0 k.1 k.2 k.3

    joins : (j : Joining) → CallJoin l (Ok j) → (o : Option Missing) → j.missing ≡ o → Joins (Ok j)
    joins j call None e = (j, refl, e)
    joins j call (Some m) e = absurd (none_missing j call m e)

    answered_by : (r : Result Joining Question) → CallJoin l r → reply_from_question (λ (i : Joining). told_by i.missing) r ≡ answer_for accepted l → Joins r
    answered_by (Ok j) call e = joins j call j.missing refl
    answered_by (Err q) call e = never (cc)
