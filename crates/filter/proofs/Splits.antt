-- The equality at which a pass stops, and what the whole filter leaves. Assumes nothing.
use Rattle.model.specs.Kit.{◌≡◌, refl, sym, ap, ◌∙◌, subst, Bool, true, false, not, List, [], ◌∷◌, ℕ, zero, suc, ◌+◌, ◌^◌, ◌<◌, add-one, arith, T, length, take, drop, replicate, ◌⊎◌, ⊎_elim}
use Rattle.model.specs.{Lists.at, Nogood.Entry, Nogood.equality, Nogood.disequality, Nogood.entries, Nogood.filtered, Nogood.ending_by, Nogood.every_obeys, Nogood.filter_ending}
use Rattle.filter.specs.declared.Reached.TheVariants.{Failed, End, Split}
use Rattle.filter.specs.Inner.Scan.{models, Right, Stepped, None, Some, Live, Passed, Remainder, Resolved, Changed}
use Rattle.filter.specs.{declared.entry.Step.Step, declared.Reached.Reached, declared.Ending.Ending, Inner.Lists.Listed, Inner.Lists.Ready}
use Rattle.filter.specs.Inner.Lists.{AtSplit, SplitReached, PassResult, ScanResult, Loaded, Applied, forced, zeros}
use Rattle.filter.proofs.{Turns.entry_at, Endings.none_failed, Endings.passed_ending, Endings.every_passed, Endings.every_changed, Endings.ended_entailed, Endings.ended_every}
use Rattle.filter.proofs.{Endings.kept_ending, Endings.gone_entailed, Endings.unchanged, Endings.changed_front, Endings.by_changed, Endings.front_consistent, Endings.front_remainder}
use Rattle.filter.specs.declared.Ending.TheVariants as ending
use Rattle.filter.proofs.Scan
use Rattle.filter.proofs.Front

-- what a pass said, where it ended so
said : (n : ℕ) (ss xs es us : List ℕ) (start : ℕ) (rs : List ℕ) (r v : Reached) → r ≡ v → PassResult n ss xs es us start rs r → PassResult n ss xs es us start rs v
said n ss xs es us start rs r v e h = subst (λ (w : Reached). PassResult n ss xs es us start rs w) e h

-- what a resolved split says, by its answer
pub by_answer : (b : Bool) {v : Bool} → b ≡ v → {n : ℕ} {ss : List ℕ} {es : List Entry} {rs : List ℕ} → Resolved b n ss es rs → Resolved v n ss es rs
by_answer b e {n} {ss} {es} {rs} r = subst (λ (y : Bool). Resolved y n ss es rs) e r

-- ---- at the equality of entry k
module _ {n : ℕ} {ss xs es us : List ℕ} {k : ℕ} (f : AtSplit n ss xs es us k) where
  split_right : Right n (equality (at xs k) (at es k))
  split_right = subst (Right n) f.equality_is (f.listed.right k f.bound)

  pub split_asks : at xs k < 16
  split_asks = omega (arith, split_right.0, f.live.few)

  split_front : length (take n ss) ≡ n
  split_front = Front.front_length f.live

  split_passed : Passed n ss (drop k (entries xs es us)) ss (equality (at xs k) (at es k) ∷ drop (suc k) (entries xs es us))
  split_passed =
      Front.pass_as
      (entry_at xs es us k f.listed.equals f.listed.others f.bound
      ∙ ap (λ (e : Entry). e ∷ drop (suc k) (entries xs es us)) f.equality_is)
      (Front.begin (drop k (entries xs es us)) f.live)

  -- with the pair forced
  abbrev fs : List Entry
  fs = drop (suc k) (entries xs es us)

  module _ {ts : List ℕ} (e : ts ≡ forced ss (at xs k) (at es k)) where
    pub split_ready : Ready n ts xs es us (k + 1)
    split_ready =
        record {
          listed = f.listed;
          live = subst (Live n) (sym e) (Front.forced_live (at xs k) (at es k) fs split_passed split_right f.split);
          bound = omega (arith, f.bound);
        }

    -- what was known of the entries after it
    from_next : (P : ℕ → List ℕ → List Entry → Type 0) → P n ts (drop (k + 1) (entries xs es us)) → P n (forced ss (at xs k) (at es k)) fs
    from_next P z = subst (λ (l : List ℕ). P n l fs) e (subst (λ (j : ℕ). P n ts (drop j (entries xs es us))) (add-one k) z)

    -- no assignment obeys them: the value goes, and every one that is left breaks the equality
    pub resolved_gone : (rs : List ℕ) (r : Reached) → PassResult n ts xs es us (k + 1) rs r → r ≡ Failed → {us' : List ℕ} {s : Step} → Stepped ss (disequality (at xs k) (at es k)) us' s
        → Resolved true n ss (drop k (entries xs es us)) us'
    resolved_gone rs r h d s =
        let z : None n (forced ss (at xs k) (at es k)) fs = from_next None (said n ts xs es us (k + 1) rs r Failed d h) in
        record {
          remainder = subst (λ (l : List ℕ). Remainder n ss (drop k (entries xs es us)) l) (sym s.sets) (Front.split_gone (at xs k) (at es k) fs split_passed split_right f.split split_front z);
          ending = gone_entailed f.live (at xs k) (at es k) fs split_passed split_right f.split z;
        }

    -- some do: nothing goes, and it is entailed exactly if every one does
    kept : Some n ts (drop (k + 1) (entries xs es us)) → {every : Bool} → every_obeys (take n ts) (drop (k + 1) (entries xs es us)) ≡ every → Resolved every n ss (drop k (entries xs es us)) ss
    kept t {every} q =
        let t' : Some n (forced ss (at xs k) (at es k)) fs = from_next Some t in
        record {
          remainder = Front.split_kept (at xs k) (at es k) fs split_passed split_right f.split split_front t';
          ending = kept_ending f.live (at xs k) (at es k) fs split_passed split_right f.split t'
              ∙ ap (ending_by true) (from_next (λ m l gs. every_obeys (take m l) gs ≡ every) q);
        }

    pub resolved_end : (rs : List ℕ) (r : Reached) → PassResult n ts xs es us (k + 1) rs r → r ≡ End → (c : Bool) → Changed c ts rs → Resolved (not c) n ss (drop k (entries xs es us)) ss
    resolved_end rs r h d c g =
        let p : Passed n ts (drop (k + 1) (entries xs es us)) rs [] = said n ts xs es us (k + 1) rs r End d h in
        kept (Front.ended_some p) (by_changed split_ready.live p c g (ended_every split_ready.live p))

    module _ (rs : List ℕ) (r : Reached) (j : ℕ) (h : PassResult n ts xs es us (k + 1) rs r) (d : r ≡ Split j) where
      next : SplitReached n ts xs es us (k + 1) rs j
      next = said n ts xs es us (k + 1) rs r (Split j) d h

      some : Some n ts (drop (k + 1) (entries xs es us))
      some =
          let w = next.at_split in
          Front.split_some (at xs j) (at es j) (drop (suc j) (entries xs es us))
          (Front.pass_as
          (entry_at xs es us j w.listed.equals w.listed.others w.bound ∙ ap (λ (e : Entry). e ∷ drop (suc j) (entries xs es us)) w.equality_is)
          next.passed)
          (subst (Right n) w.equality_is (w.listed.right j w.bound))
          w.split

      pub next_split : AtSplit n rs xs es us j
      next_split = next.at_split

      pub next_later : k < j
      next_later = omega (arith, next.begun)

      -- a value was taken on the way
      pub resolved_changed : (c : Bool) → Changed c ts rs → c ≡ true → Resolved false n ss (drop k (entries xs es us)) ss
      resolved_changed c g q = kept some (every_changed split_ready.live next.passed (changed_front split_ready.live next.passed c g q))

      -- none was: as at the next split
      module _ (c : Bool) (g : Changed c ts rs) (q : c ≡ false) (y : Bool) {vs : List ℕ} (z : Resolved y n rs (drop j (entries xs es us)) vs) where
        same_front : take n rs ≡ take n ts
        same_front = ap (take n) (unchanged split_ready.live next.at_split.live c g q)

        at_next : every_obeys (take n ts) (drop (k + 1) (entries xs es us)) ≡ every_obeys (take n rs) (drop j (entries xs es us))
        at_next = every_passed split_ready.live next.passed same_front ∙ ap (λ (l : List ℕ). every_obeys l (drop j (entries xs es us))) (sym same_front)

        pub resolved_consistent : not y ≡ true → Resolved false n ss (drop k (entries xs es us)) ss
        resolved_consistent w = kept some (at_next ∙ front_consistent (drop j (entries xs es us)) next.at_split.live (z.ending ∙ ap (ending_by true) (is_false y w)))
          where
            is_false : (b : Bool) → not b ≡ true → b ≡ false
            is_false true e = absurd (subst T (sym e) tt)
            is_false false e = refl

        pub resolved_again : not y ≡ false → (b : Bool) → Changed b ts vs → Resolved (not b) n ss (drop k (entries xs es us)) ss
        resolved_again w b l = kept some (at_next ∙ front_remainder (drop j (entries xs es us)) next.at_split.live z.remainder (z.ending ∙ ap (ending_by true) (is_true y w)) b
            (subst (λ (m : List ℕ). Changed b m vs) (sym (unchanged split_ready.live next.at_split.live c g q)) l))
          where
            is_true : (b : Bool) → not b ≡ false → b ≡ true
            is_true true e = refl
            is_true false e = absurd (subst T e tt)

-- ---- the whole filter
module _ {n : ℕ} {ss xs es us : List ℕ} (w : Ready n ss xs es us 0) (rs : List ℕ) (r : Reached) (h : PassResult n ss xs es us 0 rs r) where
  pub propagate_failed : r ≡ Failed → None n ss (entries xs es us)
  propagate_failed e = said n ss xs es us 0 rs r Failed e h

  pub propagate_end : r ≡ End → Resolved true n ss (entries xs es us) rs
  propagate_end e =
      let p : Passed n ss (entries xs es us) rs [] = said n ss xs es us 0 rs r End e h in
      record { remainder = Front.ended p (Front.front_length w.live); ending = ended_entailed w.live p }

  module _ (k : ℕ) (e : r ≡ Split k) where
    reached : SplitReached n ss xs es us 0 rs k
    reached = said n ss xs es us 0 rs r (Split k) e h

    pub propagate_at_split : AtSplit n rs xs es us k
    propagate_at_split = reached.at_split

    pub propagate_split : (ts : List ℕ) (y : Bool) → Resolved y n rs (drop k (entries xs es us)) ts → Resolved y n ss (entries xs es us) ts
    propagate_split ts y l =
        record {
          remainder = Front.left_after reached.passed l.remainder (Front.front_length w.live);
          ending = passed_ending w.live reached.passed ∙ l.ending;
        }

-- ---- the lent sets
pub ones_small : (k x : ℕ) → at (replicate k 1) x < 2 ^ 16
unfolding at
ones_small zero x = omega arith
ones_small (suc k) zero = omega arith
ones_small (suc k) (suc x) = ones_small k x

-- the sets are cleared where no assignment obeys
failed_applied : (ss : List ℕ) (es : List Entry) {ts : List ℕ} → ((q : List ℕ → Bool) → models ss es q ≡ false) → ts ≡ zeros ss → Applied ss es ts ending.Failed
failed_applied ss es z c = record { left = c ∙ Scan.filtered_none ss es z; ended = sym (none_failed ss es z) }

module _ (ss : List ℕ) (es : List Entry) (rs : List ℕ) (y : Bool) (z : Loaded y ss rs) where
  pub empty_applied : y ≡ true → {ts : List ℕ} → ts ≡ zeros ss → Applied ss es ts ending.Failed
  empty_applied e c =
      let h : Loaded true ss rs = subst (λ (b : Bool). Loaded b ss rs) e z in
      failed_applied ss es (λ q. Scan.at_empty ss h.0 es q h.1 h.2) c

  module _ (e : y ≡ false) where
    front : Loaded false ss rs
    front = subst (λ (b : Bool). Loaded b ss rs) e z

    pub load_ready : {xs os us : List ℕ} → Listed (length ss) xs os us → Ready (length ss) rs xs os us 0
    load_ready l = record { listed = l; live = front.1; bound = omega arith }

    module _ (ts : List ℕ) (t : Ending) (o : ScanResult t (length ss) rs es ts) where
      result : (v : Ending) → t ≡ v → ScanResult v (length ss) rs es ts
      result v d = subst (λ (b : Ending). ScanResult b (length ss) rs es ts) d o

      pub none_applied : t ≡ ending.Failed → {vs : List ℕ} → vs ≡ zeros ss → Applied ss es vs t
      none_applied d {vs} c =
          let m : None (length ss) rs es = result ending.Failed d in
          subst (λ (b : Ending). Applied ss es vs b) (sym d) (failed_applied ss es (λ q. ap (λ (l : List ℕ). models l es q) (sym front.0) ∙ m q) c)

      -- what is left is stored
      stored : (every : Bool) → Resolved every (length ss) rs es ts → {vs : List ℕ} → vs ≡ take (length ss) ts → (vs ≡ filtered ss es) × (filter_ending ss es ≡ ending_by true every)
      stored every r c = (
        c ∙ r.remainder.left ∙ ap (λ (m : List ℕ). filtered m es) front.0,
        ap (λ (m : List ℕ). filter_ending m es) (sym front.0) ∙ r.ending,
      )

      entailed_applied : t ≡ ending.Entailed → {vs : List ℕ} → vs ≡ take (length ss) ts → Applied ss es vs t
      entailed_applied d {vs} c =
          let s = stored true (result ending.Entailed d) c in subst (λ (b : Ending). Applied ss es vs b) (sym d) (record { left = s.0; ended = sym s.1 })

      consistent_applied : t ≡ ending.Consistent → {vs : List ℕ} → vs ≡ take (length ss) ts → Applied ss es vs t
      consistent_applied d {vs} c =
          let s = stored false (result ending.Consistent d) c in subst (λ (b : Ending). Applied ss es vs b) (sym d) (record { left = s.0; ended = sym s.1 })

      abbrev pub Left : Type 0
      Left = (t ≡ ending.Entailed) ⊎ (t ≡ ending.Consistent)

      pub left_sixteen : Left → length ts ≡ 16
      left_sixteen = ⊎_elim (λ d. let r : Resolved true (length ss) rs es ts = result ending.Entailed d in r.remainder.live.sixteen)
          (λ d. let r : Resolved false (length ss) rs es ts = result ending.Consistent d in r.remainder.live.sixteen)

      pub left_applied : Left → {vs : List ℕ} → vs ≡ take (length ss) ts → Applied ss es vs t
      left_applied e {vs} c = ⊎_elim (λ d. entailed_applied d c) (λ d. consistent_applied d c) e
