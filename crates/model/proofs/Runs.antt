-- Runs: how far a run walks along the nodes, what it lists and counts up to there, and when it finishes. Assumes nothing.
use Rattle.model.specs.Kit.{◌≡◌, refl, sym, ap, ap₂, ◌∙◌, subst, Bool, true, false, List, [], ◌∷◌, ◌++◌, Memᴰ, append-nil, ℕ, suc, ◌+◌, ◌-◌, ◌*◌, ◌≤◌, ◌<◌, mul-le-mul_right, arith, eqb}
use Rattle.model.specs.Kit.{leb, eqb→eq, length, take, drop, length-append, take-append-drop, take_all, leb-true, leb-false, eqb-true, eqb-false}
use Rattle.model.specs.Run.{Ending, finished, spent, full, plans_in, nodes_in, Result, search, result_of}
use Rattle.model.specs.{Lists.keep, Problem.Problem, Search.nodes, Search.is_live, Search.is_plan, Claims.plans_among, Claims.CountsAt}
use lib.Seq.{append_snoc, take-append_seam}
use Rattle.model.proofs.Lists.{both_l, keep_yes, keep_no, keep_append, keep_e}

-- ---- one element more in front, on both sides
keep_more : {A : Type 0} (q : A → Bool) (a : A) (l m : List A) → length (keep q l) ≡ suc (length (keep q m)) → length (keep q (a ∷ l)) ≡ suc (length (keep q (a ∷ m)))
keep_more q a l m h = go (q a) refl
  where
    go : (b : Bool) → q a ≡ b → length (keep q (a ∷ l)) ≡ suc (length (keep q (a ∷ m)))
    go true e = ap length (keep_yes q a l e) ∙ ap suc h ∙ ap (λ n. suc n) (sym (ap length (keep_yes q a m e)))
    go false e = ap length (keep_no q a l e) ∙ h ∙ ap suc (sym (ap length (keep_no q a m e)))

-- one node: the limit is reached and a further node is due; no plan; a plan without room; a plan
abbrev pub turn : Bool → Bool → Bool → Result → Result → Result → Result → Result
turn true c d s n f y = s
turn false false d s n f y = n
turn false true false s n f y = f
turn false true true s n f y = y

module _ (p : Problem) (limit room : ℕ) where
  pub search_turn : (t : List ℕ) (ts : List (List ℕ)) (made : ℕ) (rows : List (List ℕ)) →
      search p limit room (t ∷ ts) made rows ≡
      turn (eqb made limit) (is_plan p t) (leb (suc (length rows) * p.variables) room)
      (record { ending = spent (length rows) made; rows = rows }) (search p limit room ts (suc made) rows)
      (record { ending = full (length rows) (suc made); rows = rows }) (search p limit room ts (suc made) (rows ++ (t ∷ [])))
  unfolding search
  search_turn t ts made rows = go (eqb made limit) (is_plan p t) (leb (suc (length rows) * p.variables) room)
    where
      go : (b c d : Bool) →
          ◌≡◌ {A = Result} (elim b [
            | true ↦ record { ending = spent (length rows) made; rows = rows }
            | false ↦
                elim c [
                  | false ↦ search p limit room ts (suc made) rows
                  | true ↦
                      elim d [
                        | false ↦ record { ending = full (length rows) (suc made); rows = rows }
                        | true ↦
                            search p limit room ts (suc made) (rows ++ (t ∷ []))
                      ]
                ]
          ])
          (turn b c d (record { ending = spent (length rows) made; rows = rows }) (search p limit room ts (suc made) rows)
          (record { ending = full (length rows) (suc made); rows = rows }) (search p limit room ts (suc made) (rows ++ (t ∷ []))))
      go true c d = refl
      go false false d = refl
      go false true false = refl
      go false true true = refl

  search_end : (made : ℕ) (rows : List (List ℕ)) → search p limit room [] made rows ≡ record { ending = finished (length rows) made; rows = rows }
  unfolding search
  search_end made rows = refl

  -- ---- how a run ends that passed k of the nodes ts, after `made` nodes before them:
  -- behind the last; with a node left and the limit reached; on a plan that has no room
  abbrev pub Ended : List (List ℕ) → ℕ → ℕ → Ending → Type 0
  Ended ts made k (finished plans total) = (k ≡ length ts) × (total ≡ made + k)
  Ended ts made k (spent plans total) = (k < length ts) × (total ≡ made + k) × (total ≡ limit)
  Ended ts made k (full plans total) =
      (total ≡ made + suc k) × (room < suc plans * p.variables) × (length (keep (is_plan p) (take (suc k) ts)) ≡ suc (length (keep (is_plan p) (take k ts))))

  ended_next : (a : List ℕ) (ts : List (List ℕ)) (made k : ℕ) (e : Ending) → Ended ts (suc made) k e → Ended (a ∷ ts) made (suc k) e
  ended_next a ts made k (finished plans total) h = (omega arith, omega arith)
  ended_next a ts made k (spent plans total) h = (omega arith, omega arith, h.2)
  ended_next a ts made k (full plans total) h = (omega arith, h.1, keep_more (is_plan p) a (take (suc k) ts) (take k ts) h.2)

  pub record Walk (ts : List (List ℕ)) (made : ℕ) (rows : List (List ℕ)) (r : Result) : Type 0 where
    pub passed : ℕ
    pub listed : r.rows ≡ rows ++ keep (is_plan p) (take passed ts)
    pub counted : plans_in r.ending ≡ length r.rows
    pub ended : Ended ts made passed r.ending
    pub allowed : made ≤ limit → nodes_in r.ending ≤ limit
    pub roomy : length rows * p.variables ≤ room → length r.rows * p.variables ≤ room

  pub walk : (ts : List (List ℕ)) (made : ℕ) (rows : List (List ℕ)) → Walk ts made rows (search p limit room ts made rows)
  unfolding keep
  walk [] made rows =
      subst (Walk [] made rows) (sym (search_end made rows))
      record { passed = 0; listed = sym (append-nil rows); counted = refl; ended = (refl, omega arith); allowed = λ h. h; roomy = λ h. h }
  walk (a ∷ ts) made rows =
      subst (Walk (a ∷ ts) made rows) (sym (search_turn a ts made rows))
      (go (walk ts (suc made) rows) (walk ts (suc made) (rows ++ (a ∷ []))) (eqb made limit) refl (is_plan p a) refl (leb (suc (length rows) * p.variables) room) refl)
    where
      S : Result
      S = record { ending = spent (length rows) made; rows = rows }

      N : Result
      N = search p limit room ts (suc made) rows

      F : Result
      F = record { ending = full (length rows) (suc made); rows = rows }

      Y : Result
      Y = search p limit room ts (suc made) (rows ++ (a ∷ []))

      go : Walk ts (suc made) rows N → Walk ts (suc made) (rows ++ (a ∷ [])) Y → (b : Bool) → eqb made limit ≡ b → (c : Bool) → is_plan p a ≡ c → (d : Bool) → leb
          (suc (length rows) * p.variables) room ≡ d →
          Walk (a ∷ ts) made rows (turn b c d S N F Y)
      go ih jh true e c e' d e'' = record {
        passed = 0;
        listed = sym (append-nil rows);
        counted = refl;
        ended = (omega arith, omega arith, eqb-true made limit e);
        allowed = λ h. h;
        roomy = λ h. h;
      }
      go ih jh false e false e' d e'' =
          let n = eqb-false made limit e in
          record {
            passed = suc ih.passed;
            listed = ih.listed ∙ ap (λ (l : List (List ℕ)). rows ++ l) (sym (keep_no (is_plan p) a (take ih.passed ts) e'));
            counted = ih.counted;
            ended = ended_next a ts made ih.passed N.ending ih.ended;
            allowed = λ h. ih.allowed (omega arith);
            roomy = ih.roomy;
          }
      go ih jh false e true e' false e'' =
          let n = eqb-false made limit e in
          record {
            passed = 0;
            listed = sym (append-nil rows);
            counted = refl;
            ended = (omega arith, leb-false (suc (length rows) * p.variables) room e'', ap length (keep_yes (is_plan p) a [] e'));
            allowed = λ h. omega arith;
            roomy = λ h. h;
          }
      go ih jh false e true e' true e'' =
          let n = eqb-false made limit e in
          let l = leb-true (suc (length rows) * p.variables) room e'' in
          let g : length (rows ++ (a ∷ [])) ≡ suc (length rows) = length-append rows (a ∷ []) ∙ omega arith in
          record {
            passed = suc jh.passed;
            listed = jh.listed ∙ append_snoc rows a (keep (is_plan p) (take jh.passed ts)) ∙ ap (λ (l : List (List ℕ)). rows ++ l) (sym (keep_yes (is_plan p) a (take jh.passed ts) e'));
            counted = jh.counted;
            ended = ended_next a ts made jh.passed Y.ending jh.ended;
            allowed = λ h. jh.allowed (omega arith);
            roomy = λ h. jh.roomy (subst (λ (k : ℕ). k * p.variables ≤ room) (sym g) l);
          }

  -- ---- the run of a problem
  pub the_walk : Walk (nodes p) 0 [] (result_of p limit room)
  unfolding result_of
  the_walk = walk (nodes p) 0 []

  pub rows_counted : plans_in (result_of p limit room).ending ≡ length (result_of p limit room).rows
  rows_counted = the_walk.counted

  -- in every case the nodes counted are allowed, and the rows have room
  pub nodes_allowed : nodes_in (result_of p limit room).ending ≤ limit
  nodes_allowed = the_walk.allowed (omega arith)

  pub rows_fit : length (result_of p limit room).rows * p.variables ≤ room
  rows_fit = the_walk.roomy (omega arith)

  -- the plans among the first nodes are the first plans
  keep_first : (k : ℕ) → keep (is_plan p) (nodes p) ≡ keep (is_plan p) (take k (nodes p)) ++ keep (is_plan p) (drop k (nodes p))
  keep_first k = ap (keep (is_plan p)) (sym (take-append-drop k (nodes p))) ∙ keep_append (is_plan p) (take k (nodes p)) (drop k (nodes p))

  pub rows_first : (result_of p limit room).rows ≡ take (length (result_of p limit room).rows) (keep (is_plan p) (nodes p))
  rows_first =
      let w = the_walk in
      let k = w.passed in
      w.listed ∙ sym (take-append_seam (keep (is_plan p) (take k (nodes p))) (keep (is_plan p) (drop k (nodes p))))
      ∙ ap₂ (λ (n : ℕ) (l : List (List ℕ)). take n l) (ap length (sym w.listed)) (sym (keep_first k))

  -- each row has as many values as there are variables
  pub rows_sized : (r : List ℕ) → Memᴰ r (result_of p limit room).rows → length r ≡ p.variables
  unfolding is_plan
  rows_sized r m =
      let w = the_walk in
      let k = keep_e (is_plan p) (take w.passed (nodes p)) r (subst (Memᴰ r) w.listed m) in
      eqb→eq (length r) p.variables (both_l (eqb (length r) p.variables) (is_live p r) k.1)

  pub finished_rows : (plans made : ℕ) → (result_of p limit room).ending ≡ finished plans made →
      ((result_of p limit room).rows ≡ keep (is_plan p) (nodes p)) × (plans ≡ length (result_of p limit room).rows) × (made ≡ length (nodes p))
  finished_rows plans made e =
      let w = the_walk in
      let h = subst (Ended (nodes p) 0 w.passed) e w.ended in
      (w.listed ∙ ap (keep (is_plan p)) (take_all w.passed (nodes p) (omega (arith, h.0))), sym (ap plans_in e) ∙ w.counted, omega (arith, h.0, h.1))

  pub finished_fits : (plans made : ℕ) → (result_of p limit room).ending ≡ finished plans made → (length (nodes p) ≤ limit) × (length (keep (is_plan p) (nodes p)) * p.variables ≤ room)
  finished_fits plans made e =
      let r = finished_rows plans made e in (
        subst (λ (n : ℕ). n ≤ limit) (ap nodes_in e ∙ r.2) nodes_allowed,
        subst (λ (l : List (List ℕ)). length l * p.variables ≤ room) r.0 rows_fit,
      )

  -- a run with limit and room enough finishes
  pub finishes : length (nodes p) ≤ limit → length (keep (is_plan p) (nodes p)) * p.variables ≤ room →
      (result_of p limit room).ending ≡ finished (length (keep (is_plan p) (nodes p))) (length (nodes p))
  finishes h k = go (result_of p limit room).ending refl
    where
      w : Walk (nodes p) 0 [] (result_of p limit room)
      w = the_walk

      go : (x : Ending) → (result_of p limit room).ending ≡ x → x ≡ finished (length (keep (is_plan p) (nodes p))) (length (nodes p))
      go (finished plans made) e = let r = finished_rows plans made e in ap₂ finished (r.1 ∙ ap length r.0) r.2
      go (spent plans made) e = absurd (let q = subst (Ended (nodes p) 0 w.passed) e w.ended in omega (arith, q.0, q.1, q.2))
      go (full plans made) e =
          absurd (let q = subst (Ended (nodes p) 0 w.passed) e w.ended in
          let n = w.passed in
          let c : plans ≡ length (keep (is_plan p) (take n (nodes p))) = sym (ap plans_in e) ∙ w.counted ∙ ap length w.listed in
          let a = ap length (keep_first (suc n)) ∙ length-append (keep (is_plan p) (take (suc n) (nodes p))) (keep (is_plan p) (drop (suc n) (nodes p))) in
          let m : suc plans * p.variables ≤ length (keep (is_plan p) (nodes p)) * p.variables = mul-le-mul_right p.variables (omega (arith, q.2)) in
          omega (arith, q.1))

  -- ---- the counts of each ending
  among : (k : ℕ) → the_walk.passed ≡ k → (x : Ending) → (result_of p limit room).ending ≡ x → plans_among p k ≡ plans_in x
  among k q x e = ap (plans_among p) (sym q) ∙ ap length (sym the_walk.listed) ∙ sym the_walk.counted ∙ ap plans_in e

  pub counts : (x : Ending) → (result_of p limit room).ending ≡ x → CountsAt p limit room x
  counts (finished plans made) e =
      let h = subst (Ended (nodes p) 0 the_walk.passed) e the_walk.ended in
      (omega (arith, h.0, h.1), among made (omega (arith, h.1)) (finished plans made) e)
  counts (spent plans made) e =
      let h = subst (Ended (nodes p) 0 the_walk.passed) e the_walk.ended in
      (h.2, omega (arith, h.0, h.1), among made (omega (arith, h.1)) (spent plans made) e)
  counts (full plans made) e =
      let h = subst (Ended (nodes p) 0 the_walk.passed) e the_walk.ended in
      let q : suc the_walk.passed ≡ made = omega (arith, h.0) in
      (h.1, ap (plans_among p) (sym q) ∙ h.2 ∙ ap suc (among the_walk.passed refl (full plans made) e), among (made - 1) (omega arith) (full plans made) e)
