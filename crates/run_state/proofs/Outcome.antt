-- A walk along nodes, from nothing counted and after rows that stand in the list, is model's `search`: it comes to that ending, the tally has the
-- nodes made, counted in the order, the list the rows, written in the order, at its front and all bytes after them as they came, and the last node
-- made is the last of them. Along the nodes of the tree it is the run. Assumes nothing.
use Rattle.model.specs.Kit.{◌≡◌, refl, sym, ap, ap₂, ◌∙◌, subst, Bool, true, false, List, [], ◌∷◌, ◌++◌, map, append-nil, ℕ, zero, suc, ◌+◌, ◌-◌, ◌*◌, ◌≤◌, ◌<◌, mul-le-mul_right, dec_lt, add-one}
use Rattle.model.specs.Kit.{arith, eqb, leb, length, take, drop, length-append, length-drop, leb-true, leb-false, eqb-true, eqb-false, eq-eqb, ne_eqb}
use Rattle.model.specs.Run.{spent, full, plans_in, nodes_in, Result, search, result_of, written, Tally, settled_by, counts_by}
use Rattle.model.specs.{Written.placed, Lists.flat, Lists.keep, Lists.choose, Lists.tabulate, Lists.at, Problem.Problem, Search.is_plan, Search.nodes}
use native.Mathlib.Nat.{sub-zero}
use lib.Seq.{take_at, drop-append-add, drop-drop}
use Rattle.model.proofs.{Lists.flat_append, Lists.map_append, Runs.turn, Runs.search_turn, Tally.counts_snoc}
use Rattle.order.specs.Reordered.{write}
use Rattle.run_cut.specs.Parts.{last_of}
use Rattle.arrays.specs.Inner.Places.{ALL, SPENT, FULL}
use Rattle.run_state.specs.Inner.Walk.{with_node, no_nodes, State, noted, all_noted, listed, counted, visit, walk, stop_in, tally_by}
use Rattle.run_state.proofs.Walk.{listed_full, listed_kept, noted_none, noted_over, visit_spent, visit_other, visit_plan, walk_stopped, length_write}

-- rows of n bytes
flat_one : (t : List ℕ) → flat (t ∷ []) ≡ t
unfolding flat
flat_one t = append-nil t

flat_snoc : (rows : List (List ℕ)) (t : List ℕ) → flat (rows ++ (t ∷ [])) ≡ flat rows ++ t
flat_snoc rows t = flat_append rows (t ∷ []) ∙ ap (λ (l : List ℕ). flat rows ++ l) (flat_one t)

-- one row more at the front of the list
written_snoc : (rows : List (List ℕ)) (t out : List ℕ) (n : ℕ) → length (flat rows) ≡ n →
    placed (written rows out) n t ≡ written (rows ++ (t ∷ [])) out
unfolding placed written
written_snoc rows t out n e =
    ap₂ (λ (a b : List ℕ). a ++ t ++ b) (take_at (flat rows) (drop (length (flat rows)) out) n e)
    (ap (λ (k : ℕ). drop (k + length t) (flat rows ++ drop (length (flat rows)) out)) (sym e)
    ∙ drop-append-add (flat rows) (drop (length (flat rows)) out) (length t)
    ∙ drop-drop (length t) (length (flat rows)) out)
    ∙ ap₂ (λ (a : List ℕ) (k : ℕ). a ++ drop k out) (sym (flat_snoc rows t)) (sym (length-append (flat rows) t) ∙ ap length (sym (flat_snoc rows t)))

length_written : (rows : List (List ℕ)) (out : List ℕ) → length (flat rows) ≤ length out → length (written rows out) ≡ length out
unfolding written
length_written rows out h = simp (length-append, length-drop) (omega arith)

pub noted_all_none : (rows : List (List ℕ)) (out : List ℕ) → length out ≡ 0 → all_noted rows out ≡ out
unfolding all_noted
noted_all_none rows out e = rw (eq-eqb (length out) 0 e)

pub noted_all_over : (rows : List (List ℕ)) (out : List ℕ) → (length out ≡ 0 → ⊥) → all_noted rows out ≡ written rows out
unfolding all_noted
noted_all_over rows out n = rw (ne_eqb (length out) 0 n)

noted_all_snoc : (rows : List (List ℕ)) (t out : List ℕ) (n : ℕ) → length (flat rows) ≡ n → ((length out ≡ 0 → ⊥) → n ≤ length out) → noted n t (all_noted rows out) ≡ all_noted (rows ++ (t ∷ [])) out
noted_all_snoc rows t out n e h = go (eqb (length out) 0) refl
  where
    go : (b : Bool) → eqb (length out) 0 ≡ b → noted n t (all_noted rows out) ≡ all_noted (rows ++ (t ∷ [])) out
    go true z =
        let o = eqb-true (length out) 0 z in
        ap (noted n t) (noted_all_none rows out o) ∙ noted_none n t out o ∙ sym (noted_all_none (rows ++ (t ∷ [])) out o)
    go false z =
        let o = eqb-false (length out) 0 z in
        let l = length_written rows out (let k = h o in omega arith) in
        ap (noted n t) (noted_all_over rows out o) ∙ noted_over n t (written rows out) (λ g. o (sym l ∙ g)) ∙ written_snoc rows t out n e ∙ sym (noted_all_over (rows ++ (t ∷ [])) out o)

last_snoc : (path : List ℕ) (l : List (List ℕ)) (t : List ℕ) → last_of path (l ++ (t ∷ [])) ≡ t
unfolding last_of
last_snoc path [] t = refl
last_snoc path (u ∷ l) t = last_snoc u l t

-- the next node of a list
take_next : {A : Type 0} (k : ℕ) (l : List A) (a : A) (rest : List A) → drop k l ≡ a ∷ rest → take (suc k) l ≡ take k l ++ (a ∷ [])
take_next zero [] a rest e = absurd (let z = ap length e in omega arith)
take_next {A} zero (x ∷ l) a rest e = ap (λ (r : List A). take 1 r) e
take_next (suc k) [] a rest e = absurd (let z = ap length e in omega arith)
take_next {A} (suc k) (x ∷ l) a rest e = ap (λ (r : List A). x ∷ r) (take_next k l a rest e)

drop_next : {A : Type 0} (k : ℕ) (l : List A) (a : A) (rest : List A) → drop k l ≡ a ∷ rest → drop (suc k) l ≡ rest
drop_next {A} k l a rest e = ap (λ (n : ℕ). drop n l) (sym (add-one k)) ∙ sym (drop-drop 1 k l) ∙ ap (drop 1) e

module _ (p : Problem) (order : List ℕ) (sized : length order ≡ p.variables) (limit room bytes : ℕ) (out : List ℕ) (fits : room * p.variables ≤ bytes) (most : bytes < suc room * p.variables)
    (same : (length out ≡ 0 → ⊥) → bytes ≡ length out)
    (all : List (List ℕ)) (path : List ℕ) (d : ℕ) where
  abbrev by : List (List ℕ) → List (List ℕ)
  by rows = map (write order) rows

  -- the state after so many of the nodes
  abbrev after : ℕ → ℕ → ℕ → List (List ℕ) → State
  after made plans stop rows = record { tally = tally_by order all made; plans = plans; stop = stop; list = all_noted (by rows) out; last = last_of path (take made all) }

  abbrev from : ℕ → List (List ℕ) → State
  from made rows = after made (length rows) ALL rows

  -- and at the end of a run that had made d nodes before them
  abbrev to : Result → State
  to r = after (nodes_in r.ending - d) (plans_in r.ending) (stop_in r.ending) r.rows

  ended_at : (made so : ℕ) → so ≡ made + d → (plans stop : ℕ) (rows : List (List ℕ)) → after made plans stop rows ≡ after (so - d) plans stop rows
  ended_at made so e plans stop rows = ap (λ (k : ℕ). after k plans stop rows) (let q : made ≡ so - d = omega arith in q)

  -- the nodes made, and the next
  tally_next : (made : ℕ) (t : List ℕ) (ts : List (List ℕ)) → drop made all ≡ t ∷ ts → with_node (at order (settled_by t)) (tally_by order all made) ≡ tally_by order all (suc made)
  unfolding tally_by
  tally_next made t ts e =
      ap₂ (λ (n : ℕ) (l : List ℕ). record { nodes = n; counts = l }) (add-one made)
      (sym (counts_snoc (λ u. at order (settled_by u)) (take made all) t) ∙ ap (counts_by (λ u. at order (settled_by u))) (sym (take_next made all t ts e)))

  last_next : (made : ℕ) (t : List ℕ) (ts : List (List ℕ)) → drop made all ≡ t ∷ ts → t ≡ last_of path (take (suc made) all)
  last_next made t ts e = sym (ap (last_of path) (take_next made all t ts e) ∙ last_snoc path (take made all) t)

  nodes_by : (made : ℕ) → (tally_by order all made).nodes ≡ made
  unfolding tally_by
  nodes_by made = refl

  walk_search : (ts : List (List ℕ)) (made so : ℕ) (rows : List (List ℕ)) → so ≡ made + d → drop made all ≡ ts → length (flat (by rows)) ≡ length rows * p.variables
      → length rows * p.variables ≤ bytes →
      walk p order limit room ts (from made rows) ≡ to (search p (limit + d) bytes ts so rows)
  unfolding walk search
  walk_search [] made so rows e g z h = ended_at made so e (length rows) ALL rows
  walk_search (t ∷ ts) made so rows sum g z h =
      go (walk_search ts (suc made) (suc so) rows (omega arith) (drop_next made all t ts g) z h) (walk_search ts (suc made) (suc so) (rows ++ (t ∷ [])) (omega arith) (drop_next made all t ts g))
      (eqb so (limit + d)) refl (is_plan p t) refl (leb (suc (length rows) * p.variables) bytes) refl
      ∙ ap to (sym (search_turn p (limit + d) bytes t ts so rows))
    where
      s : State
      s = from made rows

      x : ℕ
      x = at order (settled_by t)

      S : Result
      S = record { ending = spent (length rows) so; rows = rows }

      N : Result
      N = search p (limit + d) bytes ts (suc so) rows

      F : Result
      F = record { ending = full (length rows) (suc so); rows = rows }

      Y : Result
      Y = search p (limit + d) bytes ts (suc so) (rows ++ (t ∷ []))

      next : counted x t (from made rows) ≡ from (suc made) rows
      next = ap₂ (λ (a : Tally) (u : List ℕ). record { tally = a; plans = length rows; stop = ALL; list = all_noted (by rows) out; last = u }) (tally_next made t ts g) (last_next made t ts g)

      due : eqb so (limit + d) ≡ false → (from made rows).tally.nodes ≡ limit → ⊥
      due e q = let m : made ≡ limit = sym (nodes_by made) ∙ q in eqb-false so (limit + d) e (omega arith)

      more : bytes < suc (length rows) * p.variables → room < suc (length rows)
      more l = go' (dec_lt room (suc (length rows)))
        where
          go' : Dec (room < suc (length rows)) → room < suc (length rows)
          go' (yes d) = d
          go' (no d) = let k : suc (length rows) * p.variables ≤ room * p.variables = mul-le-mul_right p.variables (omega arith) in absurd (omega arith)

      less : suc (length rows) * p.variables ≤ bytes → suc (length rows) ≤ room
      less l = go' (dec_lt (length rows) room)
        where
          go' : Dec (length rows < room) → suc (length rows) ≤ room
          go' (yes d) = d
          go' (no d) = let k : suc room * p.variables ≤ suc (length rows) * p.variables = mul-le-mul_right p.variables (omega arith) in absurd (omega arith)

      go : walk p order limit room ts (from (suc made) rows) ≡ to N →
          (length (flat (by (rows ++ (t ∷ [])))) ≡ length (rows ++ (t ∷ [])) * p.variables → length (rows ++ (t ∷ [])) * p.variables ≤ bytes →
          walk p order limit room ts (from (suc made) (rows ++ (t ∷ []))) ≡ to Y) →
          (b : Bool) → eqb so (limit + d) ≡ b → (c : Bool) → is_plan p t ≡ c → (d : Bool) → leb (suc (length rows) * p.variables) bytes ≡ d →
          walk p order limit room ts (visit p order limit room t s) ≡ to (turn b c d S N F Y)
      go ih jh true e c e' d' e'' =
          ap (walk p order limit room ts) (visit_spent p order limit room t s refl (nodes_by made ∙ (let q = eqb-true so (limit + d) e in omega arith)))
          ∙ walk_stopped p order limit room ts _ (λ q. omega arith)
          ∙ ended_at made so sum (length rows) SPENT rows
      go ih jh false e false e' d' e'' = ap (walk p order limit room ts) (visit_other p order limit room t s refl (due e) e' ∙ next) ∙ ih
      go ih jh false e true e' false e'' =
          let l = leb-false (suc (length rows) * p.variables) bytes e'' in
          ap (walk p order limit room ts)
          (visit_plan p order limit room t s refl (due e) e' ∙ ap (listed p.variables room (write order t)) next ∙ listed_full p.variables room (write order t) _ (more l))
          ∙ walk_stopped p order limit room ts _ (λ q. omega arith)
          ∙ ended_at (suc made) (suc so) (omega arith) (length rows) FULL rows
      go ih jh false e true e' true e'' =
          let l = leb-true (suc (length rows) * p.variables) bytes e'' in
          let g : length (rows ++ (t ∷ [])) ≡ suc (length rows) = length-append rows (t ∷ []) ∙ omega arith in
          let m : by (rows ++ (t ∷ [])) ≡ by rows ++ (write order t ∷ []) = map_append (write order) rows (t ∷ []) in
          let f : length (flat (by (rows ++ (t ∷ [])))) ≡ length (flat (by rows)) + length (write order t) =
          ap (λ (l : List (List ℕ)). length (flat l)) m ∙ ap length (flat_snoc (by rows) (write order t)) ∙ length-append (flat (by rows)) (write order t) in
          let z' : length (write order t) ≡ p.variables = length_write order t ∙ sized in
          let q : suc (length rows) * p.variables ≡ length rows * p.variables + p.variables = omega arith in
          ap (walk p order limit room ts)
          (visit_plan p order limit room t s refl (due e) e' ∙ ap (listed p.variables room (write order t)) next ∙ listed_kept p.variables room (write order t) _ (less l)
          ∙ ap₂ (λ (k : ℕ) (l : List ℕ). record { tally = tally_by order all (suc made); plans = k; stop = ALL; list = l; last = last_of path (take (suc made) all) }) (sym g)
          (noted_all_snoc (by rows) (write order t) out (length rows * p.variables) z (λ o. let s = same o in omega arith) ∙ ap (λ (l : List (List ℕ)). all_noted l out) (sym m)))
          ∙ jh (f ∙ (omega arith) ∙ ap (λ (k : ℕ). k * p.variables) (sym g)) (subst (λ (k : ℕ). k * p.variables ≤ bytes) (sym g) l)

  -- along all the nodes, from nothing counted and rows that stand in the list
  pub outcome_on : (rows : List (List ℕ)) → length (flat (by rows)) ≡ length rows * p.variables → length rows * p.variables ≤ bytes → all_noted (by rows) out ≡ out →
      walk p order limit room all (record { tally = no_nodes; plans = length rows; stop = ALL; list = out; last = path }) ≡ to (search p (limit + d) bytes all d rows)
  unfolding tally_by counts_by tabulate keep last_of
  outcome_on rows z h e =
      ap (λ (l : List ℕ). walk p order limit room all (record { tally = no_nodes; plans = length rows; stop = ALL; list = l; last = path })) (sym e)
      ∙ walk_search all 0 d rows (omega arith) refl z h

pub nothing_noted : (out : List ℕ) → all_noted [] out ≡ out
unfolding all_noted written flat
nothing_noted out = go (eqb (length out) 0)
  where
    go : (b : Bool) → choose b out out ≡ out
    go true = refl
    go false = refl

-- the whole tree, from nothing counted and nothing listed
module _ (p : Problem) (order : List ℕ) (sized : length order ≡ p.variables) (limit room bytes : ℕ) (out last : List ℕ) (fits : room * p.variables ≤ bytes)
    (most : bytes < suc room * p.variables) (same : (length out ≡ 0 → ⊥) → bytes ≡ length out) where
  abbrev r : Result
  r = result_of p limit bytes

  pub outcome : walk p order limit room (nodes p) (record { tally = no_nodes; plans = 0; stop = ALL; list = out; last = last })
      ≡ record {
        tally = tally_by order (nodes p) (nodes_in r.ending);
        plans = plans_in r.ending;
        stop = stop_in r.ending;
        list = all_noted (map (write order) r.rows) out;
        last = last_of last
            (take (nodes_in r.ending) (nodes p));
      }
  unfolding result_of flat
  outcome =
      outcome_on p order sized limit room bytes out fits most same (nodes p) last 0 [] (omega arith) (omega arith) (nothing_noted out)
      ∙ ap (λ (k : ℕ). to p order sized limit room bytes out fits most same (nodes p) last 0 (search p k bytes (nodes p) 0 [])) (let e : limit + 0 ≡ limit = omega arith in e)
      ∙ ap (λ (k : ℕ). after p order sized limit room bytes out fits most same (nodes p) last 0 k (plans_in r.ending) (stop_in r.ending) r.rows) (sub-zero (nodes_in r.ending))
