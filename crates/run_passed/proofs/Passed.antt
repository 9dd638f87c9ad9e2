-- The laws of specs/Passed. Assumes nothing.
use Rattle.model.specs.Kit.{◌≡◌, refl, sym, ap, ap₂, ◌∙◌, subst, Bool, true, false, List, [], ◌∷◌, map, ℕ, suc, ◌+◌, ◌*◌, ◌≤◌, ◌<◌, arith, eqb, length, set, length-set, eqb-true, eqb-false}
use Rattle.model.specs.{Lists.at, Lists.keep, Lists.tabulate, Search.is_plan, Search.nodes_below, Run.settled_by, Run.counts_by}
use Rattle.model.proofs.{Lists.at_ext, Lists.at_set, Lists.at_set_other, Lists.at_tabulate, Lists.length_tabulate, Lists.keep_yes, Lists.keep_no, Tally.at_counts}
use Rattle.order.specs.Reordered.{write}
use Rattle.arrays.specs.Inner.Places.{ALL}
use Rattle.run_cut.specs.Parts.{last_of}
use Rattle.run_state.specs.Inner.Walk.{with_node, State, noted, counted, listed, visit, walk}
use Rattle.run_state.proofs.Walk.{visit_other, visit_plan, listed_kept}
use Rattle.run_alike.specs.Inner.Alike.{moved}
use Rattle.run_passed.specs.Inner.Passed.{plus, noted_all, passed, WalkOver, WalkBy, LastMoved}

-- ---- counts
plus_is : (cs ds es : List ℕ) → length es ≡ 12 → ((x : ℕ) → x < 12 → at cs x + at ds x ≡ at es x) → plus cs ds ≡ es
unfolding plus
plus_is cs ds es l h =
    at_ext (tabulate 12 (λ x. at cs x + at ds x)) es (length_tabulate 12 _ ∙ sym l)
    (λ x i. let b : x < 12 = subst (λ (n : ℕ). x < n) (length_tabulate 12 (λ x. at cs x + at ds x)) i in at_tabulate 12 (λ x. at cs x + at ds x) x b ∙ h x b)

plus_length : (cs ds : List ℕ) → length (plus cs ds) ≡ 12
unfolding plus
plus_length cs ds = length_tabulate 12 _

pub plus_at : (cs ds : List ℕ) (x : ℕ) → x < 12 → at (plus cs ds) x ≡ at cs x + at ds x
unfolding plus
plus_at cs ds x h = at_tabulate 12 (λ x. at cs x + at ds x) x h

module _ {A : Type 0} (f : A → ℕ) where
  plus_none : (cs : List ℕ) → length cs ≡ 12 → plus cs (counts_by f []) ≡ cs
  unfolding keep
  plus_none cs l = plus_is cs (counts_by f []) cs l (λ x h. omega (arith, at_counts f [] x h))

  -- one counted first, then the others
  plus_next : (cs : List ℕ) (t : A) (ts : List A) → length cs ≡ 12 → plus (set cs (f t) (at cs (f t) + 1)) (counts_by f ts) ≡ plus cs (counts_by f (t ∷ ts))
  plus_next cs t ts l =
      plus_is (set cs (f t) (at cs (f t) + 1)) (counts_by f ts) (plus cs (counts_by f (t ∷ ts))) (plus_length cs (counts_by f (t ∷ ts)))
      (λ x h. ap (λ (n : ℕ). at (set cs (f t) (at cs (f t) + 1)) x + n) (at_counts f ts x h) ∙ go x h (eqb (f t) x) refl ∙ sym (plus_at cs (counts_by f (t ∷ ts)) x h
      ∙ ap (λ (n : ℕ). at cs x + n) (at_counts f (t ∷ ts) x h)))
    where
      go : (x : ℕ) → x < 12 → (b : Bool) → eqb (f t) x ≡ b → at (set cs (f t) (at cs (f t) + 1)) x + length (keep (λ a. eqb (f a) x) ts) ≡ at cs x + length (keep (λ a. eqb (f a) x) (t ∷ ts))
      go x h true e =
          let q : f t ≡ x = eqb-true (f t) x e in
          let k = keep_yes (λ a. eqb (f a) x) t ts e in
          let u : at (set cs (f t) (at cs (f t) + 1)) x ≡ at cs x + 1 = ap (λ (y : ℕ). at (set cs y (at cs y + 1)) x) q ∙ at_set cs x (at cs x + 1) (omega arith) in
          omega (arith, ap (λ (r : List A). length r) k)
      go x h false e =
          let n = eqb-false (f t) x e in
          let k = keep_no (λ a. eqb (f a) x) t ts e in
          let u : at (set cs (f t) (at cs (f t) + 1)) x ≡ at cs x = at_set_other cs (f t) (at cs (f t) + 1) x (λ z. n (sym z)) in
          omega (arith, ap (λ (r : List A). length r) k)

-- ---- the walk
pub walk_over : WalkOver
unfolding walk last_of noted_all keep
walk_over p order limit room [] s g c l r =
    sym (ap₂ (λ (n m : ℕ). record {
      tally = record {
        nodes = n;
        counts = plus s.tally.counts
            (counts_by (λ t. at order (settled_by t)) []);
      };
      plans = m;
      stop = ALL;
      list = s.list;
      last = s.last;
    }) (let e : s.tally.nodes + 0 ≡ s.tally.nodes = omega arith in e)
    (let e : s.plans + 0 ≡ s.plans = omega arith in e)
    ∙ ap₂ (λ (cs : List ℕ) (k : ℕ). record { tally = record { nodes = s.tally.nodes; counts = cs }; plans = s.plans; stop = k; list = s.list; last = s.last })
    (plus_none (λ t. at order (settled_by t)) s.tally.counts c) (sym g))
walk_over p order limit room (t ∷ ts) s g c l r = go (is_plan p t) refl (walk_over p order limit room ts)
  where
    f : List ℕ → ℕ
    f u = at order (settled_by u)

    x : ℕ
    x = at order (settled_by t)

    free : s.tally.nodes ≡ limit → ⊥
    free e = omega arith

    counts : List ℕ
    counts = set s.tally.counts x (at s.tally.counts x + 1)

    twelve : length counts ≡ 12
    twelve = length-set s.tally.counts x (at s.tally.counts x + 1) ∙ c

    made : s.tally.nodes + 1 + length ts ≡ s.tally.nodes + suc (length ts)
    made = omega arith

    Goal : State → Type 0
    Goal u = u ≡ passed p order (length (t ∷ ts)) (counts_by f (t ∷ ts)) (keep (is_plan p) (t ∷ ts)) (last_of s.last (t ∷ ts)) s

    go : (b : Bool) → is_plan p t ≡ b →
        ((u : State) → u.stop ≡ ALL → length u.tally.counts ≡ 12 → u.tally.nodes + length ts ≤ limit → u.plans + length (keep (is_plan p) ts) ≤ room →
        walk p order limit room ts u ≡ passed p order (length ts) (counts_by f ts) (keep (is_plan p) ts) (last_of u.last ts) u) →
        Goal (walk p order limit room ts (visit p order limit room t s))
    go false q ih =
        let k = keep_no (is_plan p) t ts q in
        let n = ap (λ (ks : List (List ℕ)). length ks) k in
        ap (walk p order limit room ts) (visit_other p order limit room t s g free q)
        ∙ ih (counted x t s) refl twelve (omega arith) (omega arith)
        ∙ ap₂ (λ (n : ℕ) (cs : List ℕ). record {
          tally = record { nodes = n; counts = cs };
          plans = s.plans + length (keep (is_plan p) ts);
          stop = ALL;
          list = noted_all p.variables
              s.plans (map (write order) (keep (is_plan p) ts)) s.list;
          last = last_of t ts;
        }) made (plus_next f s.tally.counts t ts c)
        ∙ ap (λ (ks : List (List ℕ)). passed p order (length (t ∷ ts)) (counts_by f (t ∷ ts)) ks (last_of t ts) s) (sym k)
    go true q ih =
        let k = keep_yes (is_plan p) t ts q in
        let n = ap (λ (ks : List (List ℕ)). length ks) k in
        let z : suc s.plans + length (keep (is_plan p) ts) ≡ s.plans + suc (length (keep (is_plan p) ts)) = omega arith in
        ap (walk p order limit room ts) (visit_plan p order limit room t s g free q ∙ listed_kept p.variables room (write order t) (counted x t s) (omega arith))
        ∙ ih (record { tally = with_node x s.tally; plans = suc s.plans; stop = ALL; list = noted (s.plans * p.variables) (write order t) s.list; last = t }) refl twelve
        (omega arith) (omega arith)
        ∙ ap₂ (λ (n : ℕ) (cs : List ℕ). record {
          tally = record { nodes = n; counts = cs };
          plans = suc s.plans + length (keep (is_plan p) ts);
          stop = ALL;
          list = noted_all p.variables
              s.plans (map (write order) (t ∷ keep (is_plan p) ts)) s.list;
          last = last_of t ts;
        }) made (plus_next f s.tally.counts t ts c)
        ∙ ap (λ (n : ℕ). record {
          tally = record { nodes = s.tally.nodes + suc (length ts); counts = plus s.tally.counts (counts_by f (t ∷ ts)) };
          plans = n;
          stop = ALL;
          list = noted_all
              p.variables s.plans (map (write order) (t ∷ keep (is_plan p) ts)) s.list;
          last = last_of t ts;
        }) z
        ∙ ap (λ (ks : List (List ℕ)). passed p order (length (t ∷ ts)) (counts_by f (t ∷ ts)) ks (last_of t ts) s) (sym k)

pub walk_by : WalkBy
walk_by p order limit room m a b s h g c l r =
    walk_over p order limit room (nodes_below p m a) s g c (subst (λ (n : ℕ). s.tally.nodes + n ≤ limit) (sym h.made) l) (subst (λ (n : ℕ). s.plans + n ≤ room) (sym h.listed) r)
    ∙ ap₂ (λ (n : ℕ) (cs : List ℕ). passed p order n cs (keep (is_plan p) (nodes_below p m a)) (last_of s.last (nodes_below p m a)) s) h.made (h.counts (at order))
    ∙ ap₂ (λ (ks ns : List (List ℕ)). passed p order (length (nodes_below p m b)) (counts_by (λ t. at order (settled_by t)) (nodes_below p m b)) ks (last_of s.last ns) s) h.plans h.nodes

pub last_moved : LastMoved
unfolding last_of
last_moved path a t [] = refl
last_moved path a t (u ∷ ts) = last_moved (moved a t) a u ts
