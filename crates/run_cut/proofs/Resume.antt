-- The nodes of a tree as paths, and a run that goes on from its last node (specs/Parts, specs/Between, specs/Inner/Paths). Holds of every problem. Assumes nothing.
use Rattle.model.specs.Kit.{◌≡◌, refl, sym, ap, ap₂, ◌∙◌, subst, Bool, true, false, not, ◌⊎◌, inl, inr, List, [], ◌∷◌, ◌++◌, map, Memᴰ, Memᴰ-head, Memᴰ-tail, Memᴰ-not_nil}
use Rattle.model.specs.Kit.{Memᴰ-of_map, ℕ, zero, suc, ◌+◌, ◌-◌, ◌*◌, ◌≤◌, ◌<◌, arith, T, eqb, leb, length, take, drop, eqb-true, eqb-false, ne_eqb}
use Rattle.model.specs.Search.{rounds, narrowed, sets_at, is_live, nodes_below, nodes, is_plan}
use Rattle.model.specs.Run.{Ending, finished, spent, full, plans_in, Result, search, result_of, settled_by, counts_by}
use Rattle.model.specs.{Lists.any, Lists.keep, Lists.flat, Lists.below, Lists.at, ValueSets.has, ValueSets.members, ValueSets.any_empty, Problem.Problem}
use lib.Seq.{append_snoc, take-add}
use Rattle.run_cut.specs.Parts.{after, nodes_after, last_of, start, progress_at, go_on}
use Rattle.run_cut.specs.{Inner.Paths.candidates_at, Inner.Paths.reached, Between.resumed, Claims.FromCut, Claims.InParts}
use Rattle.model.proofs.Lists.{T_of, not_of, of_not, both_i, among_i, keep_no, keep_all, keep_none, flat_e, Sorted, both_l, both_r, among_e}
use Rattle.model.proofs.{Sets.has_none, Sets.members_e, Runs.turn, Runs.search_turn, Runs.Ended, Runs.the_walk}
use Rattle.run_cut.proofs.Parts.{after_not, after_asym, Later, branch, below_after, nodes_ascend, nodes_start}

module _ (p : Problem) where
  -- ---- below a dead prefix there are no nodes
  zeros : (l : List ℕ) (x : ℕ) → at (map (λ (s : ℕ). 0) l) x ≡ 0
  unfolding at
  zeros [] x = refl
  zeros (s ∷ l) zero = refl
  zeros (s ∷ l) (suc x) = zeros l x

  no_members : members 0 ≡ []
  unfolding members
  no_members = keep_none (has 0) (below 16) (λ v m t. of_not (has 0 v) (has_none v) t)

  pub dead_candidates : (prefix : List ℕ) → is_live p prefix ≡ false → candidates_at p prefix ≡ []
  unfolding is_live sets_at
  dead_candidates prefix e = go (any_empty ds) refl e
    where
      ds : List ℕ
      ds = rounds p prefix (p.variables * 16) (narrowed prefix p.initial)

      cleared : Bool → List ℕ
      cleared b = elim b [ true ↦ map (λ (s : ℕ). 0) ds | false ↦ ds ]

      go : (b : Bool) → any_empty ds ≡ b → not (any_empty (cleared b)) ≡ false → members (at (cleared b) (length prefix)) ≡ []
      go true f h = ap members (zeros ds (length prefix)) ∙ no_members
      go false f h = absurd (of_not (not (any_empty ds)) h (T_of (not (any_empty ds)) (ap not f)))

  pub dead_below : (k : ℕ) (prefix : List ℕ) → is_live p prefix ≡ false → nodes_below p k prefix ≡ []
  unfolding nodes_below flat
  dead_below zero prefix e = refl
  dead_below (suc k) prefix e = ap (λ (l : List ℕ). flat (map (branch p k prefix) l)) (dead_candidates prefix e)

  -- ---- the nodes are the paths reached
  pub node_reached : (k : ℕ) (prefix t : List ℕ) → Memᴰ t (nodes_below p k prefix) → (r : List ℕ) × (t ≡ prefix ++ r) × T (reached p prefix r) × (0 < length r) × (length r ≤ k)
  unfolding nodes_below reached
  node_reached zero prefix t m = absurd (Memᴰ-not_nil m)
  node_reached (suc k) prefix t m =
      let q = flat_e (map (branch p k prefix) (candidates_at p prefix)) t m in
      let r = Memᴰ-of_map (branch p k prefix) (candidates_at p prefix) q.1 in
      go r.0 (among_i r.0 (candidates_at p prefix) r.1) (node_reached k (prefix ++ (r.0 ∷ [])) t) (subst (λ (l : List (List ℕ)). Memᴰ t l) (sym r.2) q.2)
    where
      go : (v : ℕ) → T (any (eqb v) (candidates_at p prefix)) →
          (Memᴰ t (nodes_below p k (prefix ++ (v ∷ []))) → (r : List ℕ) × (t ≡ (prefix ++ (v ∷ [])) ++ r) × T (reached p (prefix ++ (v ∷ [])) r) × (0 < length r) × (length r ≤ k)) →
          Memᴰ t (branch p k prefix v) → (r : List ℕ) × (t ≡ prefix ++ r) × T (reached p prefix r) × (0 < length r) × (length r ≤ suc k)
      go v c ih (Memᴰ-head e) = (v ∷ [], e, both_i (any (eqb v) (candidates_at p prefix)) true c tt, omega arith, omega arith)
      go v c ih (Memᴰ-tail i) =
          let j = ih i in
          (v ∷ j.0, j.1 ∙ append_snoc prefix v j.0, both_i (any (eqb v) (candidates_at p prefix)) (reached p (prefix ++ (v ∷ [])) j.0) c j.2, omega arith, omega (arith, j.4))

  -- they have values below 16, and no more of them than there are variables
  reached_values : (prefix r : List ℕ) → T (reached p prefix r) → (i : ℕ) → i < length r → at r i < 16
  unfolding reached at
  reached_values prefix [] t i l = absurd (omega arith)
  reached_values prefix (v ∷ r) t zero l =
      (members_e (at (sets_at p prefix) (length prefix)) v (among_e v (candidates_at p prefix) (both_l (any (eqb v) (candidates_at p prefix)) (reached p (prefix ++ (v ∷ [])) r) t))).0
  reached_values prefix (v ∷ r) t (suc i) l =
      reached_values (prefix ++ (v ∷ [])) r (both_r (any (eqb v) (candidates_at p prefix)) (reached p (prefix ++ (v ∷ [])) r) t) i (omega arith)

  pub node_values : (t : List ℕ) → Memᴰ t (nodes p) → ((i : ℕ) → i < length t → at t i < 16) × (length t ≤ p.variables)
  unfolding nodes
  node_values t m =
      let r = node_reached p.variables [] t m in
      subst (λ (z : List ℕ). ((i : ℕ) → i < length z → at z i < 16) × (length z ≤ p.variables)) (sym r.1) (reached_values [] r.0 r.2, r.4)

  -- ---- the last node made
  pub last_in : (t : List ℕ) (l : List (List ℕ)) → (last_of t l ≡ t) ⊎ Memᴰ (last_of t l) l
  unfolding last_of
  last_in t [] = inl refl
  last_in t (u ∷ l) = go (last_in u l)
    where
      go : (last_of u l ≡ u) ⊎ Memᴰ (last_of u l) l → (last_of u l ≡ t) ⊎ Memᴰ (last_of u l) (u ∷ l)
      go (inl e) = inr (Memᴰ-head e)
      go (inr m) = inr (Memᴰ-tail m)

  pub taken : {A : Type 0} (k : ℕ) (l : List A) (x : A) → Memᴰ x (take k l) → Memᴰ x l
  taken zero l x m = absurd (Memᴰ-not_nil m)
  taken (suc k) [] x m = m
  taken (suc k) (y ∷ l) x (Memᴰ-head e) = Memᴰ-head e
  taken (suc k) (y ∷ l) x (Memᴰ-tail m) = Memᴰ-tail (taken k l x m)

  pub after_lasts : (d : List ℕ) (l : List (List ℕ)) (k : ℕ) → Sorted Later (d ∷ l) → keep (after (last_of d (take k l))) l ≡ drop k l
  unfolding last_of keep
  after_lasts d l zero s = keep_all (after d) l s.0
  after_lasts d [] (suc k) s = refl
  after_lasts d (t ∷ l) (suc k) s = keep_no (after e) t l (not_of (after e t) (back (last_in t (take k l)))) ∙ after_lasts t l k s.1
    where
      e : List ℕ
      e = last_of t (take k l)

      back : (e ≡ t) ⊎ Memᴰ e (take k l) → T (after e t) → ⊥
      back (inl q) u = after_not t (subst (λ (z : List ℕ). T (after z t)) q u)
      back (inr m) u = after_asym t e (s.1.0 e (taken k l e m)) u

  -- the nodes after the last of the first k are the others
  pub after_last : (k : ℕ) → nodes_after p (last_of [] (take k (nodes p))) ≡ drop k (nodes p)
  unfolding nodes_after nodes
  after_last k = after_lasts [] (nodes p) k (below_after p p.variables [], nodes_ascend p)

  pub last_append : (d : List ℕ) (l m : List (List ℕ)) → last_of d (l ++ m) ≡ last_of (last_of d l) m
  unfolding last_of
  last_append d [] m = refl
  last_append d (t ∷ l) m = last_append t l m

  -- the last node of a part that began after m nodes is the last of the whole
  pub last_moves : (m j : ℕ) → last_of (last_of [] (take m (nodes p))) (take j (nodes_after p (last_of [] (take m (nodes p))))) ≡ last_of [] (take (m + j) (nodes p))
  last_moves m j =
      let d = last_of [] (take m (nodes p)) in
      ap (λ (l : List (List ℕ)). last_of d (take j l)) (after_last m) ∙ sym (last_append [] (take m (nodes p)) (take j (drop m (nodes p)))) ∙ ap (last_of []) (sym (take-add m j (nodes p)))

-- ---- a walk with a smaller limit first, then the rest
module _ (p : Problem) (room k limit : ℕ) (h : k ≤ limit) where
  -- what follows a walk of ts that had the limit k
  abbrev pub then : List (List ℕ) → ℕ → Ending → List (List ℕ) → Result
  then ts made (finished a b) rows = record { ending = finished a b; rows = rows }
  then ts made (full a b) rows = record { ending = full a b; rows = rows }
  then ts made (spent a b) rows = search p limit room (drop (k - made) ts) k rows

  then_next : (t : List ℕ) (ts : List (List ℕ)) (made : ℕ) → made < k → (e : Ending) (rows : List (List ℕ)) → then ts (suc made) e rows ≡ then (t ∷ ts) made e rows
  then_next t ts made l (finished a b) rows = refl
  then_next t ts made l (full a b) rows = refl
  then_next t ts made l (spent a b) rows = ap (λ (j : ℕ). search p limit room (drop j (t ∷ ts)) k rows) (let e : suc (k - suc made) ≡ k - made = omega arith in e)

  -- for any cut k of any walk: the walk is the part up to there, and what follows
  pub walk_parts : (ts : List (List ℕ)) (made : ℕ) (rows : List (List ℕ)) → made ≤ k → search p limit room ts made rows ≡ then ts made (search p k room ts made rows).ending
      (search p k room ts made rows).rows
  unfolding search
  walk_parts [] made rows m = refl
  walk_parts (t ∷ ts) made rows m = go (eqb made k) refl (walk_parts ts (suc made))
    where
      Goal : Result → Type 0
      Goal r = search p limit room (t ∷ ts) made rows ≡ then (t ∷ ts) made r.ending r.rows

      go : (b : Bool) → eqb made k ≡ b → ((rows : List (List ℕ)) → suc made ≤ k → search p limit room ts (suc made) rows ≡ then ts (suc made) (search p k room ts (suc made) rows).ending
          (search p k room ts (suc made) rows).rows) →
          Goal (search p k room (t ∷ ts) made rows)
      go true e ih =
          let q : made ≡ k = eqb-true made k e in
          let z : k - made ≡ 0 = omega arith in
          subst Goal (sym (search_turn p k room t ts made rows ∙ ap (λ (b : Bool). turn b (is_plan p t) (leb (suc (length rows) * p.variables) room) S N F Y) e))
          (ap (λ (j : ℕ). search p limit room (t ∷ ts) j rows) q ∙ ap (λ (j : ℕ). search p limit room (drop j (t ∷ ts)) k rows) (sym z))
        where
          S : Result
          S = record { ending = spent (length rows) made; rows = rows }

          N : Result
          N = search p k room ts (suc made) rows

          F : Result
          F = record { ending = full (length rows) (suc made); rows = rows }

          Y : Result
          Y = search p k room ts (suc made) (rows ++ (t ∷ []))
      go false e ih =
          let n = eqb-false made k e in
          let l : made < k = omega arith in
          let f : eqb made limit ≡ false = ne_eqb made limit (λ q. omega arith) in
          subst Goal (sym (search_turn p k room t ts made rows ∙ ap (λ (b : Bool). turn b (is_plan p t) (leb (suc (length rows) * p.variables) room) (S) (N k) F (Y k)) e))
          (search_turn p limit room t ts made rows ∙ ap (λ (b : Bool). turn b (is_plan p t) (leb (suc (length rows) * p.variables) room) (S) (N limit) F (Y limit)) f
          ∙ cases (is_plan p t) (leb (suc (length rows) * p.variables) room)
          (ih rows l ∙ then_next t ts made l (N k).ending (N k).rows)
          (ih (rows ++ (t ∷ [])) l ∙ then_next t ts made l (Y k).ending (Y k).rows))
        where
          S : Result
          S = record { ending = spent (length rows) made; rows = rows }

          N : ℕ → Result
          N a = search p a room ts (suc made) rows

          F : Result
          F = record { ending = full (length rows) (suc made); rows = rows }

          Y : ℕ → Result
          Y a = search p a room ts (suc made) (rows ++ (t ∷ []))

          cases : (c d : Bool) → N limit ≡ then (t ∷ ts) made (N k).ending (N k).rows → Y limit ≡ then (t ∷ ts) made (Y k).ending (Y k).rows →
              turn false c d S (N limit) F (Y limit) ≡ then (t ∷ ts) made (turn false c d S (N k) F (Y k)).ending (turn false c d S (N k) F (Y k)).rows
          cases false d x y = x
          cases true false x y = refl
          cases true true x y = y

-- ---- the run of a problem
module _ (p : Problem) (room k : ℕ) where
  -- a run that was spent made as many nodes as its limit, and is what it is after those nodes; a further node is due
  pub record Stands (plans made : ℕ) : Type 0 where
    pub there : made ≡ k
    pub due : k < length (nodes p)
    pub listed : (result_of p k room).rows ≡ (progress_at p k).rows
    pub counted : plans ≡ length (progress_at p k).rows

  pub stands : (plans made : ℕ) → (result_of p k room).ending ≡ spent plans made → Stands plans made
  stands plans made e =
      let w = the_walk p k room in
      let q = subst (Ended p k room (nodes p) 0 w.passed) e w.ended in
      let z : w.passed ≡ k = omega (arith, q.1, q.2) in
      let l : (result_of p k room).rows ≡ keep (is_plan p) (take k (nodes p)) = w.listed ∙ ap (λ (j : ℕ). keep (is_plan p) (take j (nodes p))) z in
      record { there = q.2; due = subst (λ (j : ℕ). j < length (nodes p)) z q.0; listed = l; counted = sym (ap plans_in e) ∙ w.counted ∙ ap length l }

-- from the beginning
pub from_start : (p : Problem) (limit room : ℕ) → go_on p limit room start ≡ result_of p limit room
unfolding go_on result_of
from_start p limit room = ap (λ (l : List (List ℕ)). search p limit room l 0 []) (nodes_start p)

pub from_cut : FromCut
unfolding go_on result_of
from_cut p limit room k plans made h e =
    let s = stands p room k plans made e in
    let z : k - 0 ≡ k = omega arith in
    let r : Result = search p k room (nodes p) 0 [] in
    ap (λ (l : List (List ℕ)). search p limit room l k (progress_at p k).rows) (after_last p k)
    ∙ ap (λ (l : List (List ℕ)). search p limit room (drop k (nodes p)) k l) (sym s.listed)
    ∙ ap (λ (j : ℕ). search p limit room (drop j (nodes p)) k r.rows) (sym z)
    ∙ ap (λ (x : Ending). then p room k limit h (nodes p) 0 x r.rows) (sym e)
    ∙ sym (walk_parts p room k limit h (nodes p) 0 [] (omega arith))

pub in_parts : InParts
unfolding result_of
in_parts p limit room k h = go (result_of p k room).ending refl
  where
    whole : (x : Ending) → (result_of p k room).ending ≡ x → result_of p limit room ≡ then p room k limit h (nodes p) 0 x (result_of p k room).rows
    whole x e = walk_parts p room k limit h (nodes p) 0 [] (omega arith) ∙ ap (λ (y : Ending). then p room k limit h (nodes p) 0 y (result_of p k room).rows) e

    go : (x : Ending) → (result_of p k room).ending ≡ x → result_of p limit room ≡ resumed p limit room x (result_of p k room).rows
    go (finished plans made) e = whole (finished plans made) e
    go (full plans made) e = whole (full plans made) e
    go (spent plans made) e =
        let s = stands p room k plans made e in
        sym (from_cut p limit room k plans made h e)
        ∙ ap₂ (λ (l : List (List ℕ)) (j : ℕ). go_on p limit room record { made = j; counts = counts_by settled_by (take j (nodes p)); rows = l; last = last_of [] (take j (nodes p)) })
        (sym s.listed) (sym s.there)
