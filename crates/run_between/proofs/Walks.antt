-- The walk along the nodes of a part below a prefix (specs/Steps): each function's turns. Assumes nothing.
use Rattle.model.specs.Kit.{◌≡◌, refl, sym, ap, ap₂, ◌∙◌, subst, Bool, true, false, not, List, [], ◌∷◌, ◌++◌, ℕ, suc, ◌+◌, ◌-◌, ◌*◌, ◌≤◌, ◌<◌, add-one, arith, T, length, drop, not-true, not-false}
use Rattle.model.specs.{Lists.at, ValueSets.has, Problem.Problem, Run.Tally}
use Rattle.model.proofs.Lists.{T_of, of_T, length_none}
use Rattle.arrays.specs.Inner.Places.{LIMIT, ROOM, PLANS, LAST, ALL, SPENT, DIAGONAL}
use Rattle.run_state.specs.{Inner.Walk.with_node, Inner.Walk.walk, Inner.Pair.prefix_of, Inner.Pair.settling, Inner.Pair.order_in, Inner.Pair.state_of, Inner.Pair.Countable, Inner.Pair.AtPrefix}
use Rattle.run_state.specs.Inner.Pair.{AtValues, Walked, tried}
use Rattle.run_state.proofs.{Prefix.prefix_ext, Prefix.prefix_snoc, Written.settling_inside}
use Rattle.run_ranges.specs.Inner.Within.{within, given, leaves, into_nodes, onto_nodes, mid_nodes, up_to_nodes}
use Rattle.run_ranges.proofs.Within.{within_zero, within_dead, within_ended, within_equal, within_back, within_open, within_less, last_values}
use Rattle.run_between.specs.Inner.Steps.{range_mask, AtStep, Stepped, AtPut, PutNode, AtBelow, AtInto, AtUpTo, AtOnto}
use Rattle.run_between.proofs.Steps as st

given_none : (b : Bool) → given b [] ≡ []
given_none true = refl
given_none false = refl

head_tail : (l : List ℕ) → 0 < length l → l ≡ at l 0 ∷ drop 1 l
unfolding at
head_tail [] h = absurd (let z : 0 < 0 = h in omega arith)
head_tail (x ∷ l) h = refl

at_tail : (l : List ℕ) (i : ℕ) → at (drop 1 l) i ≡ at l (suc i)
unfolding at
at_tail [] i = refl
at_tail (x ∷ l) i = refl

length_tail : (l : List ℕ) → length (drop 1 l) ≡ length l - 1
length_tail [] = refl
length_tail (x ∷ l) = let e : length l ≡ suc (length l) - 1 = omega arith in e

module _ (p : Problem) (stack work supports tables numbers list : List ℕ) (tally : Tally) (k : ℕ) where
  abbrev Out : List (List ℕ) → List ℕ → List ℕ → List ℕ → Tally → ℕ → Type 0
  Out ts stack' work' list' tally' stop = Walked p ts stack work numbers list tally k stack' work' list' tally' stop

  abbrev left : ℕ
  left = p.variables - (k + 1)

  abbrev pre : List ℕ
  pre = prefix_of work k

  -- the same nodes
  pub along : {ts us : List (List ℕ)} {stack' work' list' : List ℕ} {tally' : Tally} {stop : ℕ} → ts ≡ us → Out us stack' work' list' tally' stop → Out ts stack' work' list' tally' stop
  along {ts} {us} {stack'} {work'} {list'} {tally'} {stop} e w = subst (λ (l : List (List ℕ)). Out l stack' work' list' tally' stop) (sym e) w

  -- ---- `into`
  module _ (from : List ℕ) (h : AtInto p from stack work supports tables numbers list tally k) where
    pub into_few : k < 12
    into_few = st.shallow p stack work supports tables numbers list tally k h.prefix

    pub into_last : (upto : List ℕ) → k + 1 ≡ p.variables → Out (into_nodes p left pre (at work k) from upto) stack work list tally ALL
    unfolding into_nodes
    into_last upto e = along
        (ap (given (leaves p pre (at work k))) (ap (λ (n : ℕ). within p n (pre ++ (at work k ∷ [])) from upto) (let z : left ≡ 0 = omega arith in z) ∙ within_zero p
        (pre ++ (at work k ∷ [])) from upto) ∙ given_none (leaves p pre (at work k)))
        (st.walked_none p stack work supports tables numbers list tally k h.prefix)

    pub into_asks : (k + 1 ≡ p.variables → ⊥) → AtStep p stack work supports tables numbers list tally k
    into_asks n = record { prefix = h.prefix; value = h.value; inner = let i = h.prefix.inner in omega arith }

    module _ (stack' work' : List ℕ) where
      module _ (goes : Bool) (s : Stepped p stack work supports tables numbers list tally k stack' work' goes) where
        same_state : state_of tally work' ALL list ≡ state_of tally work ALL list
        same_state =
            ap₂ (λ (n : ℕ) (t : List ℕ). record { tally = tally; plans = n; stop = ALL; list = list; last = t }) (s.values PLANS (omega arith))
            (ap (prefix_of work') (s.values LAST (omega arith)) ∙ prefix_ext work' work (at work LAST) (λ i l. s.values i (let z = h.short in omega arith)))

        node_so : prefix_of work' (k + 1) ≡ pre ++ (at work k ∷ [])
        node_so = let f = into_few in ap (prefix_of work') (add-one k) ∙ prefix_ext work' work (suc k) (λ i l. s.values i (omega arith)) ∙ sym (prefix_snoc work k)

        pub into_ends : goes ≡ false → (upto : List ℕ) → Out (into_nodes p left pre (at work k) from upto) stack' work' list tally ALL
        unfolding walk
        into_ends e upto = along (s.ends e from upto) record {
          state = same_state;
          summed = h.prefix.summed;
          sets = s.sets;
          values = λ i l. s.values i (let f = into_few in omega arith);
          marks = s.marks;
          stack_length = s.stack_length;
          work_length = s.work_length;
          memo = s.memo;
        }

        pub into_next : goes ≡ true → AtBelow p from stack' work' supports tables numbers list tally (k + 1)
        into_next e = record {
          prefix = s.next e;
          stands = λ i l z. s.values (k + 1 + i) (omega arith) ∙ h.stands i l z;
          short = λ z. subst (λ (n : ℕ). n ≤ 12) (sym (s.values LAST (omega arith))) h.short;
        }

        pub into_then : goes ≡ true → (upto stack'' work'' list'' : List ℕ) (tally'' : Tally) (stop : ℕ) → Walked p (within p left (prefix_of work' (k + 1)) from upto) stack' work' numbers list tally
            (k + 1) stack'' work'' list'' tally'' stop →
            Out (into_nodes p left pre (at work k) from upto) stack'' work'' list'' tally'' stop
        unfolding into_nodes
        into_then e upto stack'' work'' list'' tally'' stop w = along (ap (λ (b : Bool). given b (within p left (pre ++ (at work k ∷ [])) from upto))
            (of_T (leaves p pre (at work k)) (s.member e))) record {
              state = w.state ∙ ap₂ (λ (t : List ℕ) (z : _). walk p (order_in numbers p.variables) (at numbers LIMIT) (at numbers ROOM) (within p left t from upto) z) node_so same_state;
              summed = w.summed;
              sets = λ i l. w.sets i (omega arith) ∙ s.sets i l;
              values = λ i l. w.values i (omega arith) ∙ s.values i (let f = into_few in omega arith);
              marks = λ i l u. w.marks i l (omega arith) ∙ s.marks i l u;
              stack_length = w.stack_length ∙ s.stack_length;
              work_length = w.work_length ∙ s.work_length;
              memo = w.memo;
            }

  -- ---- `onto`
  module _ (v : ℕ) (upto : List ℕ) (h : AtOnto p stack work supports tables numbers list tally k) where
    abbrev node : List ℕ
    node = pre ++ (v ∷ [])

    pub onto_few : k < 12
    onto_few = st.shallow p stack work supports tables numbers list tally k h.prefix

    is_in : T (has (at stack (DIAGONAL * k)) v) → onto_nodes p left pre v upto ≡ node ∷ within p left node [] upto
    unfolding onto_nodes
    is_in t = ap (λ (b : Bool). given b (node ∷ within p left node [] upto)) (of_T (leaves p pre v) (st.value_leaves p stack work supports tables numbers list tally k h.prefix v t))

    pub onto_out : has (at stack (DIAGONAL * k)) v ≡ false → Out (onto_nodes p left pre v upto) stack work list tally ALL
    unfolding onto_nodes
    onto_out e = along (ap (λ (b : Bool). given b (node ∷ within p left node [] upto)) (st.value_out p stack work supports tables numbers list tally k h.prefix v e))
        (st.walked_none p stack work supports tables numbers list tally k h.prefix)

    pub onto_absent : (r : ℕ) (c : Bool) → r ≡ v → c ≡ has (at stack (DIAGONAL * k)) r → not c ≡ true → has (at stack (DIAGONAL * k)) v ≡ false
    onto_absent r c e q n = subst (λ (u : ℕ). has (at stack (DIAGONAL * k)) u ≡ false) e (sym q ∙ not-true c n)

    pub onto_there : (r : ℕ) (c : Bool) → r ≡ v → c ≡ has (at stack (DIAGONAL * k)) r → not c ≡ false → T (has (at stack (DIAGONAL * k)) v)
    onto_there r c e q n = subst (λ (u : ℕ). T (has (at stack (DIAGONAL * k)) u)) e (T_of (has (at stack (DIAGONAL * k)) r) (sym q ∙ not-false c n))

    module _ (t : T (has (at stack (DIAGONAL * k)) v)) where
      pub onto_spent : tally.nodes ≡ at numbers LIMIT → Out (onto_nodes p left pre v upto) stack work list tally SPENT
      onto_spent e = along (is_in t) (st.walked_spent p stack work supports tables numbers list tally k h.prefix node (within p left node [] upto) e)

      module _ (due : tally.nodes ≡ at numbers LIMIT → ⊥) where
        pub onto_counts : Countable (settling numbers k) tally
        onto_counts = record {
          few = let f = h.prefix.ready.well_formed.few in let i = settling_inside numbers p.variables k h.prefix.order h.prefix.inner in omega arith;
          summed = h.prefix.summed;
          fits = let a = h.prefix.allowed in let l = h.prefix.limited in omega arith;
        }

        pub onto_asks : AtPut p stack work supports tables numbers list tally k v
        onto_asks = record { prefix = h.prefix; member = st.value_in p stack work supports tables numbers list tally k h.prefix v t; inner = h.inner; due = due }

        module _ (stack' work' : List ℕ) (live : Bool) (s : PutNode p stack work supports tables numbers list tally k v stack' work' live) (next : Tally)
            (is : next ≡ with_node (settling numbers k) tally) where
          pub onto_dead : live ≡ false → Out (onto_nodes p left pre v upto) stack' work' list next ALL
          onto_dead e = along (is_in t ∙ ap (λ (l : List (List ℕ)). node ∷ l) (within_dead p left node [] upto (s.dead e)))
              (subst (λ (y : Tally). Out (node ∷ []) stack' work' list y ALL) (sym is) (s.alone e))

          pub onto_next : live ≡ true → AtBelow p [] stack' work' supports tables numbers list next (k + 1)
          onto_next e = record {
            prefix = subst (λ (y : Tally). AtPrefix p stack' work' supports tables numbers list y (k + 1)) (sym is) (s.next e);
            stands = λ i l z. absurd (let q : i < 0 = l in omega arith);
            short = λ z. absurd (let q : 0 < 0 = z in omega arith);
          }

          pub onto_then : (stack'' work'' list'' : List ℕ) (tally'' : Tally) (stop : ℕ) → Walked p (within p left (prefix_of work' (k + 1)) [] upto) stack' work' numbers list next
              (k + 1) stack'' work'' list'' tally'' stop →
              Out (onto_nodes p left pre v upto) stack'' work'' list'' tally'' stop
          onto_then stack'' work'' list'' tally'' stop w =
              along (is_in t) (s.then (within p left node [] upto) stack'' work'' list'' tally'' stop
              (subst (λ (l : List ℕ). Walked p (within p left l [] upto) stack' work' numbers list (with_node (settling numbers k) tally) (k + 1) stack'' work'' list'' tally'' stop) s.node
              (subst (λ (y : Tally). Walked p (within p left (prefix_of work' (k + 1)) [] upto) stack' work' numbers list y (k + 1) stack'' work'' list'' tally'' stop) is w)))

  -- ---- `up_to`
  module _ (low : ℕ) (upto : List ℕ) (h : AtUpTo p low upto stack work supports tables numbers list tally k) where
    abbrev b : ℕ
    b = at upto 0

    module _ (high m : ℕ) (is : m ≡ range_mask (at stack (DIAGONAL * k)) low high) where
      pub up_values : AtValues p stack work supports tables numbers list tally k m
      up_values = subst (AtValues p stack work supports tables numbers list tally k) (sym is) (st.range_asks p stack work supports tables numbers list tally k h.prefix low high)

      tried_so : tried p work k m ≡ mid_nodes p left pre low high
      tried_so = ap (tried p work k) is ∙ st.range_tried p stack work supports tables numbers list tally k h.prefix low high

      module _ (stack' work' list' : List ℕ) (tally' : Tally) (stop : ℕ) (w : Out (tried p work k m) stack' work' list' tally' stop) where
        mid : Out (mid_nodes p left pre low high) stack' work' list' tally' stop
        mid = along (sym tried_so) w

        pub up_last : (rest : List ℕ) → high ≡ b + 1 → k + 1 ≡ p.variables → Out (up_to_nodes p left pre low b rest) stack' work' list' tally' stop
        up_last rest e l = along
            (ap (λ (n : ℕ). up_to_nodes p n pre low b rest) (let z : left ≡ 0 = omega arith in z) ∙ last_values p pre low b rest h.lower
            ∙ ap₂ (λ (n x : ℕ). mid_nodes p n pre low x) (let z : 0 ≡ left = omega arith in z) (sym e)) mid

        module _ (e : high ≡ b) where
          pub up_stops : (rest : List ℕ) → (stop ≡ ALL → ⊥) → Out (up_to_nodes p left pre low b rest) stack' work' list' tally' stop
          unfolding up_to_nodes
          up_stops rest n =
              st.walked_stops p stack work supports tables numbers list tally k h.prefix (mid_nodes p left pre low b) (onto_nodes p left pre b rest) stack' work' list' tally' stop
              (subst (λ (x : ℕ). Out (mid_nodes p left pre low x) stack' work' list' tally' stop) e mid) n

          pub up_asks : (k + 1 ≡ p.variables → ⊥) → AtOnto p stack' work' supports tables numbers list' tally' k
          up_asks n = record {
            prefix = st.prefix_then p stack work supports tables numbers list tally k h.prefix (tried p work k m) [] stack' work' list' tally' stop w;
            inner = let i = h.prefix.inner in omega arith;
          }

          pub up_then : stop ≡ ALL → (v : ℕ) → v ≡ b → (rest : List ℕ) → rest ≡ drop 1 upto → (stack'' work'' list'' : List ℕ) (tally'' : Tally) (stop'' : ℕ) → Walked p
              (onto_nodes p left (prefix_of work' k) v rest) stack' work' numbers list' tally' k stack'' work'' list'' tally'' stop'' →
              Out (up_to_nodes p left pre low b (drop 1 upto)) stack'' work'' list'' tally'' stop''
          unfolding up_to_nodes
          up_then g v q rest t stack'' work'' list'' tally'' stop'' u =
              subst (λ (l : List ℕ). Out (up_to_nodes p left pre low b l) stack'' work'' list'' tally'' stop'') t
              (st.walked_then p stack work supports tables numbers list tally k h.prefix (mid_nodes p left pre low b) (onto_nodes p left pre b rest) stack' work' list' tally' stop
              (subst (λ (x : ℕ). Out (mid_nodes p left pre low x) stack' work' list' tally' stop) e mid) g stack'' work'' list'' tally'' stop''
              (subst (λ (x : ℕ). Walked p (onto_nodes p left pre x rest) stack' work' numbers list' tally' k stack'' work'' list'' tally'' stop'') q
              (subst (λ (l : List ℕ). Walked p (onto_nodes p left l v rest) stack' work' numbers list' tally' k stack'' work'' list'' tally'' stop'')
              (st.same_prefix p stack work supports tables numbers list tally k h.prefix (tried p work k m) [] stack' work' list' tally' stop w) u)))

  -- ---- `below`
  module _ (from upto : List ℕ) (h : AtBelow p from stack work supports tables numbers list tally k) where
    abbrev whole : List (List ℕ)
    whole = within p (p.variables - k) pre from upto

    pub below_few : k < 12
    below_few = st.shallow p stack work supports tables numbers list tally k h.prefix

    deeper : p.variables - k ≡ suc left
    deeper = let i = h.prefix.inner in omega arith

    nothing : whole ≡ [] → Out whole stack work list tally ALL
    nothing e = along e (st.walked_none p stack work supports tables numbers list tally k h.prefix)

    pub below_none : length upto ≡ 0 → Out whole stack work list tally ALL
    below_none e = nothing (ap (within p (p.variables - k) pre from) (length_none upto e) ∙ within_ended p (p.variables - k) pre from)

    module _ (some : 0 < length upto) where
      upto_so : upto ≡ at upto 0 ∷ drop 1 upto
      upto_so = head_tail upto some

      pub below_open_asks : AtUpTo p 0 upto stack work supports tables numbers list tally k
      below_open_asks = record { prefix = h.prefix; some = some; lower = omega arith }

      pub below_open : length from ≡ 0 → whole ≡ up_to_nodes p left pre 0 (at upto 0) (drop 1 upto)
      below_open e =
          ap (λ (n : ℕ). within p n pre from upto) deeper ∙ ap₂ (λ (f u : List ℕ). within p (suc left) pre f u) (length_none from e) upto_so
          ∙ within_open p left pre (at upto 0) (drop 1 upto)

      module _ (more : 0 < length from) where
        by_heads : whole ≡ within p (suc left) pre (at from 0 ∷ drop 1 from) (at upto 0 ∷ drop 1 upto)
        by_heads = ap (λ (n : ℕ). within p n pre from upto) deeper ∙ ap₂ (λ (f u : List ℕ). within p (suc left) pre f u) (head_tail from more) upto_so

        value_so : at work k ≡ at from 0
        value_so = let f = below_few in let e : k + 0 ≡ k = omega arith in ap (at work) (sym e) ∙ h.stands 0 more (omega arith)

        pub below_back : at upto 0 < at from 0 → Out whole stack work list tally ALL
        below_back l = nothing (by_heads ∙ within_back p left pre (at from 0) (at upto 0) (drop 1 from) (drop 1 upto) l)

        pub below_into : (rest : List ℕ) → rest ≡ drop 1 from → (low : ℕ) → low ≡ at from 0 → low < 256 → AtInto p rest stack work supports tables numbers list tally k
        below_into rest e low q l = record {
          prefix = h.prefix;
          value = subst (λ (v : ℕ). v < 256) (q ∙ sym value_so) l;
          stands = λ i j z.
              let n : i < length from - 1 = subst (λ (x : ℕ). i < x) (ap length e ∙ length_tail from) j in
              let w : k + 1 + i ≡ k + suc i = omega arith in
              ap (at work) w ∙ h.stands (suc i) (omega arith) (omega arith) ∙ sym (at_tail from i) ∙ ap (λ (t : List ℕ). at t i) (sym e);
          short = h.short more;
        }

        pub below_equal : at from 0 ≡ at upto 0 → (rest rest' : List ℕ) → rest ≡ drop 1 from → rest' ≡ drop 1 upto → whole ≡ into_nodes p left pre (at work k) rest rest'
        below_equal e rest rest' q q' =
            by_heads ∙ ap (λ (x : ℕ). within p (suc left) pre (at from 0 ∷ drop 1 from) (x ∷ drop 1 upto)) (sym e) ∙ within_equal p left pre (at from 0) (drop 1 from) (drop 1 upto)
            ∙ ap₂ (λ (f u : List ℕ). into_nodes p left pre (at from 0) f u) (sym q) (sym q') ∙ ap (λ (x : ℕ). into_nodes p left pre x rest rest') (sym value_so)

        pub below_less : at from 0 < at upto 0 → (rest : List ℕ) → rest ≡ drop 1 from → whole ≡ into_nodes p left pre (at work k) rest (255 ∷ []) ++ up_to_nodes p left pre (at from 0 + 1) (at upto 0)
            (drop 1 upto)
        below_less l rest q =
            by_heads ∙ within_less p left pre (at from 0) (at upto 0) (drop 1 from) (drop 1 upto) l
            ∙ ap₂ (λ (x : ℕ) (f : List ℕ). into_nodes p left pre x f (255 ∷ []) ++ up_to_nodes p left pre (at from 0 + 1) (at upto 0) (drop 1 upto)) (sym value_so) (sym q)

        module _ (less : at from 0 < at upto 0) (rest : List ℕ) (q : rest ≡ drop 1 from) (stack' work' list' : List ℕ) (tally' : Tally) (stop : ℕ)
            (w : Out (into_nodes p left pre (at work k) rest (255 ∷ [])) stack' work' list' tally' stop) where
          abbrev first : List (List ℕ)
          first = into_nodes p left pre (at work k) rest (255 ∷ [])

          abbrev second : List (List ℕ)
          second = up_to_nodes p left pre (at from 0 + 1) (at upto 0) (drop 1 upto)

          pub below_stops : (stop ≡ ALL → ⊥) → Out whole stack' work' list' tally' stop
          below_stops n = along (below_less less rest q) (st.walked_stops p stack work supports tables numbers list tally k h.prefix first second stack' work' list' tally' stop w n)

          pub below_up_asks : (low : ℕ) → low ≡ at from 0 + 1 → AtUpTo p low upto stack' work' supports tables numbers list' tally' k
          below_up_asks low e = record {
            prefix = st.prefix_then p stack work supports tables numbers list tally k h.prefix first second stack' work' list' tally' stop w;
            some = some;
            lower = omega arith;
          }

          pub below_then : stop ≡ ALL → (low : ℕ) → low ≡ at from 0 + 1 → (stack'' work'' list'' : List ℕ) (tally'' : Tally) (stop'' : ℕ) →
              Walked p (up_to_nodes p left (prefix_of work' k) low (at upto 0) (drop 1 upto)) stack' work' numbers list' tally' k stack'' work'' list'' tally'' stop''
              → Out whole stack'' work'' list'' tally'' stop''
          below_then g low e stack'' work'' list'' tally'' stop'' u =
              along (below_less less rest q) (st.walked_then p stack work supports tables numbers list tally k
              h.prefix first second stack' work' list' tally' stop w g stack'' work'' list'' tally'' stop''
              (subst (λ (x : ℕ). Walked p (up_to_nodes p left pre x (at upto 0) (drop 1 upto)) stack' work' numbers list' tally' k stack'' work'' list'' tally'' stop'') e
              (subst (λ (l : List ℕ). Walked p (up_to_nodes p left l low (at upto 0) (drop 1 upto)) stack' work' numbers list' tally' k stack'' work'' list'' tally'' stop'')
              (st.same_prefix p stack work supports tables numbers list tally k h.prefix first second stack' work' list' tally' stop w) u)))

-- ---- the measures
pub falls_next : (k t : ℕ) → 4 * (12 - k) + 1 ≡ t → k < 12 → 4 * (12 - (k + 1)) + 3 < t
falls_next k t e l = omega arith

pub falls_in : (k t : ℕ) → 4 * (12 - k) + 3 ≡ t → 4 * (12 - k) + 1 < t
falls_in k t e = omega arith

pub falls_up : (k t : ℕ) → 4 * (12 - k) + 3 ≡ t → 4 * (12 - k) + 2 < t
falls_up k t e = omega arith

pub falls_on : (k t : ℕ) → 4 * (12 - k) + 2 ≡ t → 4 * (12 - k) + 1 < t
falls_on k t e = omega arith
