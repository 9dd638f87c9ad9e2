-- Where `join` answers missing, no head goes on, and where it answers joined the heads taken come to the last path (specs/JoinedClaims): they reach further and further,
-- so there are no more of them than heads. Assumes nothing.
use Rattle.model.specs.Kit.{◌≡◌, refl, sym, ap, ap₂, ◌∙◌, subst, ◌⊎◌, inl, inr, Bool, true, false, List, [], ◌∷◌, ℕ, zero, suc, ◌≤◌, ◌<◌, arith, T, ltb, length, ltb-true, ltb-false}
use Rattle.model.specs.{Lists.both, Lists.choose, Lists.same, Verdict.Verdict, Verdict.accepted, Verdict.refused}
use Rattle.model.proofs.Lists.{T_of, of_T, of_not, both_i, both_r, same_eq, same_refl, never}
use Rattle.run_cut.specs.Parts.{after}
use Rattle.run_cut.proofs.Parts.{after_trans, after_not}
use Rattle.run_join.specs.Join.{from_at, reach_at, heads_in, join_verdict, goes_on, comes, leads, may_take, stand_path, reach_or, best_of, step_of, taken_from, taken, stand_after, stands, joined}
use Rattle.run_join.specs.Join.{nearer}
use Rattle.run_join.specs.Join.{nearest_of, begin_or, nearest}
use Rattle.std.specs.Prelude.{Option, None, Some, Result, Ok, Err}
use Rattle.model.specs.{Verdict.answered, Refusals.reply_from_question, declared.refusals.Question.Question}
use Rattle.run_join.specs.{Join.head_number, Calls.answer_for, Calls.Told, Calls.nothing_missing, Calls.missing, Calls.told_by, declared.Missing.Missing, declared.Joining.Joining}
use Rattle.promises.specs.JoinedClaims.{Joins}
use Rattle.run_join.proofs.{Fewer.further, Fewer.fewer, Fewer.further_few, Leads.Next, Leads.comes_end, Leads.comes_next, Leads.comes_all, Leads.comes_out}
use Rattle.run_ranges.specs.Claims.{Chain}
use Rattle.promises.specs.{JoinedHeads.taken_parts, JoinedClaims.HeadChain, JoinedClaims.JoinedExactly, JoinedClaims.MissingHeld, JoinedClaims.MissingHeldClaim, JoinedClaims.MissingChain}
use Rattle.promises.proofs.JoinedTaken.{betters, step_goes, taken_chain}

-- ---- one stands where no head goes on
module _ (l : List ℕ) where
  stands_still : (left stand : ℕ) → further l (stand_path l stand) ≤ left → step_of l (stand_after stand (taken_from l left stand)) ≡ 0
  unfolding taken_from stand_after
  stands_still zero stand h = go (step_of l stand) refl
    where
      go : (n : ℕ) → step_of l stand ≡ n → step_of l stand ≡ 0
      go zero e = e
      go (suc k) e = absurd (let q = step_goes l stand k e in let m = fewer l (stand_path l stand) k q.0 q.2.1 in omega arith)
  stands_still (suc left) stand h = go (stands_still left) (step_of l stand) refl
    where
      rest : ℕ → List ℕ
      rest n = elim n [ zero ↦ [] | suc k ↦ k ∷ taken_from l left (suc k) ]

      go : ((j : ℕ) → further l (stand_path l j) ≤ left → step_of l (stand_after j (taken_from l left j)) ≡ 0) → (n : ℕ) → step_of l stand ≡ n → step_of l (stand_after stand (rest n)) ≡ 0
      go ih zero e = e
      go ih (suc k) e = ih (suc k) (let q = step_goes l stand k e in let m = fewer l (stand_path l stand) k q.0 q.2.1 in omega arith)

  pub still : step_of l (stands l) ≡ 0
  unfolding taken
  still = stands_still (heads_in l) 0 (further_few l [])

  -- ---- none of the heads that may be taken and begin at a path goes on
  best_none : (s : List ℕ) (n : ℕ) → best_of l s n ≡ 0 → (k : ℕ) → k < n → T (may_take l k) → from_at l k ≡ s → T (after s (reach_at l k)) → ⊥
  unfolding best_of
  best_none s zero e k h m q t = omega arith
  best_none s (suc n) e k h m q t = go (best_none s n) (both (may_take l n) (betters l s n)) refl e
    where
      go : (best_of l s n ≡ 0 → (k : ℕ) → k < n → T (may_take l k) → from_at l k ≡ s → T (after s (reach_at l k)) → ⊥) →
          (d : Bool) → both (may_take l n) (betters l s n) ≡ d → choose d (suc n) (best_of l s n) ≡ 0 → ⊥
      go ih true f z = omega (arith, z)
      go ih false f z = which (ltb k n) refl
        where
          which : (c : Bool) → ltb k n ≡ c → ⊥
          which true w = ih z k (ltb-true k n w) m q t
          which false w =
              let y : k ≡ n = (let v = ltb-false k n w in omega arith) in
              let may : T (may_take l n) = subst (λ (i : ℕ). T (may_take l i)) y m in
              let begins : T (same (from_at l n) s) = subst (λ (x : List ℕ). T (same (from_at l n) x)) (ap (from_at l) (sym y) ∙ q) (same_refl (from_at l n)) in
              let on : T (after (reach_or l s (best_of l s n)) (reach_at l n)) =
              subst (λ (i : ℕ). T (after (reach_or l s i) (reach_at l n))) (sym z) (subst (λ (i : ℕ). T (after s (reach_at l i))) y t) in
              of_not (both (may_take l n) (betters l s n)) f
              (both_i (may_take l n) (betters l s n) may (both_i (same (from_at l n) s) (after (reach_or l s (best_of l s n)) (reach_at l n)) begins on))

  step_none : (stand : ℕ) → step_of l stand ≡ 0 → (stand_path l stand ≡ 255 ∷ []) ⊎ (best_of l (stand_path l stand) (heads_in l) ≡ 0)
  unfolding step_of
  step_none stand e = go (same (stand_path l stand) (255 ∷ [])) refl e
    where
      go : (b : Bool) → same (stand_path l stand) (255 ∷ []) ≡ b → choose b 0 (best_of l (stand_path l stand) (heads_in l)) ≡ 0 →
          (stand_path l stand ≡ 255 ∷ []) ⊎ (best_of l (stand_path l stand) (heads_in l) ≡ 0)
      go true q h = inl (same_eq (stand_path l stand) (255 ∷ []) (T_of (same (stand_path l stand) (255 ∷ [])) q))
      go false q h = inr h

  -- ---- of heads that join one takes those that lead, and so comes to the last path
  may_lead : joined l ≡ true → (k : ℕ) → may_take l k ≡ leads l k
  unfolding may_take
  may_lead j k = ap (λ (b : Bool). choose b (leads l k) true) j

  leads_on : joined l ≡ true → (left stand : ℕ) → T (comes l (heads_in l) (stand_path l stand)) → T (comes l (heads_in l) (stand_path l (stand_after stand (taken_from l left stand))))
  unfolding taken_from stand_after
  leads_on j zero stand t = t
  leads_on j (suc left) stand t = go (leads_on j left) (step_of l stand) refl
    where
      rest : ℕ → List ℕ
      rest n = elim n [ zero ↦ [] | suc k ↦ k ∷ taken_from l left (suc k) ]

      go : ((i : ℕ) → T (comes l (heads_in l) (stand_path l i)) → T (comes l (heads_in l) (stand_path l (stand_after i (taken_from l left i))))) →
          (n : ℕ) → step_of l stand ≡ n → T (comes l (heads_in l) (stand_path l (stand_after stand (rest n))))
      go ih zero e = t
      go ih (suc k) e = ih (suc k) (both_r (goes_on l k) (comes l (heads_in l) (reach_at l k)) (subst T (may_lead j k) (step_goes l stand k e).1))

  pub joined_stands : joined l ≡ true → stand_path l (stands l) ≡ 255 ∷ []
  unfolding taken
  joined_stands j = go (step_none (stands l) still) (comes_out l s (leads_on j (heads_in l) 0 (T_of (joined l) j)))
    where
      s : List ℕ
      s = stand_path l (stands l)

      go : (s ≡ 255 ∷ []) ⊎ (best_of l s (heads_in l) ≡ 0) → (s ≡ 255 ∷ []) ⊎ Next l (heads_in l) s → s ≡ 255 ∷ []
      go (inl e) n = e
      go (inr b) (inl e) = e
      go (inr b) (inr (k, i, f, g, t)) =
          absurd (best_none s (heads_in l) b k i (subst T (sym (may_lead j k)) (both_i (goes_on l k) (comes l (heads_in l) (reach_at l k)) g t)) f
          (subst (λ (x : List ℕ). T (after x (reach_at l k))) f g))

  -- ---- heads one behind the other
  pub taken_heads : (left stand : ℕ) → HeadChain l (stand_path l stand) (taken_from l left stand) (stand_path l (stand_after stand (taken_from l left stand)))
  unfolding taken_from stand_after
  taken_heads zero stand = refl
  taken_heads (suc left) stand = go (taken_heads left) (step_of l stand) refl
    where
      rest : ℕ → List ℕ
      rest n = elim n [ zero ↦ [] | suc k ↦ k ∷ taken_from l left (suc k) ]

      go : ((i : ℕ) → HeadChain l (stand_path l i) (taken_from l left i) (stand_path l (stand_after i (taken_from l left i)))) →
          (n : ℕ) → step_of l stand ≡ n → HeadChain l (stand_path l stand) (rest n) (stand_path l (stand_after stand (rest n)))
      go ih zero e = refl
      go ih (suc k) e = let q = step_goes l stand k e in (q.0, q.2.0, q.2.1, ih (suc k))

  chain_comes : (from : List ℕ) (ks : List ℕ) → HeadChain l from ks (255 ∷ []) → T (comes l (length ks) from)
  chain_comes from [] e = comes_end l 0 from e
  chain_comes from (k ∷ ks) (i, b, t, c) = comes_next l (length ks) from (k, i, b, subst (λ (x : List ℕ). T (after x (reach_at l k))) (sym b) t, chain_comes (reach_at l k) ks c)

  pub chain_joined : (ks : List ℕ) → HeadChain l [] ks (255 ∷ []) → joined l ≡ true
  chain_joined ks c = of_T (joined l) (comes_all l (length ks) [] (chain_comes [] ks c))

  -- ---- none begins nearer
  abbrev Clear : List ℕ → ℕ → ℕ → Type 0
  Clear s n m = (k : ℕ) → k < n → T (after s (from_at l k)) → T (nearer l m (from_at l k)) → ⊥

  abbrev is_nearer : List ℕ → ℕ → Bool
  is_nearer s n = both (after s (from_at l n)) (nearer l (nearest_of l s n) (from_at l n))

  near_clear : (s : List ℕ) (n : ℕ) → Clear s n (nearest_of l s n)
  unfolding nearest_of
  near_clear s zero = λ k h t u. omega arith
  near_clear s (suc n) = go (near_clear s n) (is_nearer s n) refl
    where
      go : Clear s n (nearest_of l s n) → (d : Bool) → is_nearer s n ≡ d → Clear s (suc n) (choose d (suc n) (nearest_of l s n))
      go ih d e k h t u = which (ltb k n) refl
        where
          at_n : (c : Bool) → is_nearer s n ≡ c → T (after s (from_at l n)) → T (nearer l (choose c (suc n) (nearest_of l s n)) (from_at l n)) → ⊥
          at_n true f v w = after_not (from_at l n) w
          at_n false f v w =
              of_not (is_nearer s n) f
              (T_of (is_nearer s n) (ap₂ both (of_T (after s (from_at l n)) v) (of_T (nearer l (nearest_of l s n) (from_at l n)) w)))

          trans : (m : ℕ) → T (nearer l m (from_at l n)) → T (after (from_at l k) (from_at l n)) → T (nearer l m (from_at l k))
          trans zero v w = tt
          trans (suc j) v w = after_trans (from_at l k) (from_at l n) (from_at l j) w v

          before : (c : Bool) → is_nearer s n ≡ c → T (nearer l (choose c (suc n) (nearest_of l s n)) (from_at l k)) → T (nearer l (nearest_of l s n) (from_at l k))
          before true f v = trans (nearest_of l s n) (second (after s (from_at l n)) (nearer l (nearest_of l s n) (from_at l n)) f) v
            where
              second : (a b : Bool) → both a b ≡ true → T b
              second true b q = T_of b q
              second false b q = absurd (of_not false refl (T_of false q))
          before false f v = v

          which : (c : Bool) → ltb k n ≡ c → ⊥
          which true w = ih k (ltb-true k n w) t (before d e u)
          which false w =
              let y : k ≡ n = (let v = ltb-false k n w in omega arith) in
              at_n d e (subst (λ (i : ℕ). T (after s (from_at l i))) y t) (subst (λ (i : ℕ). T (nearer l (choose d (suc n) (nearest_of l s n)) (from_at l i))) y u)

-- ---- what the answer says
pub said_joined : (l : List ℕ) (v : Verdict) → answered nothing_missing ≡ answer_for v l → (v ≡ accepted) × (joined l ≡ true)
unfolding answer_for
said_joined l accepted e = (refl, go (joined l) (let q : nothing_missing ≡ choose (joined l) nothing_missing (missing (stands l) (nearest l)) = cc in q))
  where
    go : (d : Bool) → nothing_missing ≡ choose d nothing_missing (missing (stands l) (nearest l)) → d ≡ true
    go true q = refl
    go false q = never (cc)
said_joined l (refused number item) e = never (cc)

said_missing : (l : List ℕ) (stand near : ℕ) (v : Verdict) → answered (missing stand near) ≡ answer_for v l → (v ≡ accepted) × (joined l ≡ false) × (stand ≡ stands l) × (near ≡ nearest l)
unfolding answer_for
said_missing l stand near accepted e =
    go (joined l) refl (let q : missing stand near ≡ choose (joined l) nothing_missing (missing (stands l) (nearest l)) = cc in q)
  where
    go : (d : Bool) → joined l ≡ d → missing stand near ≡ choose d nothing_missing (missing (stands l) (nearest l)) → (accepted ≡ accepted) × (joined l ≡ false) × (stand ≡ stands l)
        × (near ≡ nearest l)
    go true f q = never (cc)
    go false f q = (refl, f, cc, cc)
said_missing l stand near (refused number item) e = never (cc)

pub missing_held : MissingHeldClaim
unfolding taken may_take
missing_held l j call m is =
    let q = said_missing l (head_number m.from) (head_number m.upto) (join_verdict l) (sym (ap (λ (k : Option Missing). answered (told_by k)) is) ∙ call.answers) in
    subst (λ (i : ℕ). MissingHeld l (stand_path l i) (begin_or l (head_number m.upto))) (sym q.2)
    (subst (λ (i : ℕ). MissingHeld l s (begin_or l i)) (sym q.3)
    (record {
      stuck = λ k h e t. none q.1 (step_none l (stands l) (still l)) k h e t;
      clear = λ k h t u. near_clear l s (heads_in l) k h t (begin (nearest l) k u);
      before = before q.1;
    }))
  where
    s : List ℕ
    s = stand_path l (stands l)

    before : joined l ≡ false → s ≡ 255 ∷ [] → ⊥
    before j e = of_not (joined l) j (T_of (joined l) (chain_joined l (taken l) (subst (HeadChain l [] (taken l)) e (taken_heads l (heads_in l) 0))))

    none : joined l ≡ false → (s ≡ 255 ∷ []) ⊎ (best_of l s (heads_in l) ≡ 0) → (k : ℕ) → k < heads_in l → from_at l k ≡ s → T (after s (reach_at l k)) → ⊥
    none j (inl e) k h f t = before j e
    none j (inr b) k h f t = best_none l s (heads_in l) b k h (T_of (may_take l k) (ap (λ (c : Bool). choose c (leads l k) true) j)) f t

    begin : (m k : ℕ) → T (after (from_at l k) (begin_or l m)) → T (nearer l m (from_at l k))
    begin zero k u = tt
    begin (suc j) k u = u

pub missing_chain : MissingChain
unfolding taken
missing_chain b pairs block l part held j call m is =
    let q = said_missing l (head_number m.from) (head_number m.upto) (join_verdict l) (sym (ap (λ (k : Option Missing). answered (told_by k)) is) ∙ call.answers) in
    subst (λ (i : ℕ). Chain b pairs block [] (taken_parts l part) (stand_path l i)) (sym q.2) (taken_chain b pairs block l part held q.0 (heads_in l) 0)

-- ---- joined exactly
told_none : (m : Option Missing) → told_by m ≡ nothing_missing → m ≡ None
told_none None e = refl
told_none (Some m) e = never (cc)

pub joins_so : (r : Result Joining Question) → reply_from_question (λ (i : Joining). told_by i.missing) r ≡ answered nothing_missing → Joins r
joins_so (Ok j) e = (j, refl, told_none j.missing (let q : told_by j.missing ≡ nothing_missing = cc in q))
joins_so (Err q) e = never (cc)

pub joined_exactly : JoinedExactly
unfolding taken answer_for
joined_exactly l v r call = (
  λ e. there e.0 e.1 e.2,
  λ c. joins_so r (call.answers ∙ ap (λ (x : Verdict). answer_for x l) v ∙ ap (λ (b : Bool). answered (choose b nothing_missing (missing (stands l) (nearest l)))) (chain_joined l c.0 c.1)),
)
  where
    there : (j : Joining) → r ≡ Ok j → j.missing ≡ None → (ks : List ℕ) × HeadChain l [] ks (255 ∷ [])
    there j e n =
        let said = sym (ap (λ (k : Option Missing). answered (told_by k)) n) ∙ ap (reply_from_question (λ (i : Joining). told_by i.missing)) (sym e) ∙ call.answers in
        let q = said_joined l (join_verdict l) said in
        (taken l, subst (HeadChain l [] (taken l)) (joined_stands l q.1) (taken_heads l (heads_in l) 0))
