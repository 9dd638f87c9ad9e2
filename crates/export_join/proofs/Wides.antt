-- The pieces of the answer as they are made, and the whole. Assumes nothing.
use Rattle.model.specs.Kit.{◌≡◌, refl, sym, ap, ap₂, ◌∙◌, subst, Bool, true, false, List, [], ◌∷◌, ◌++◌, ℕ, ◌+◌, ◌*◌, ◌/◌, ◌%◌, ◌≤◌, ◌<◌, add-one, arith, eqb, length, set, replicate, take, drop}
use Rattle.model.specs.Kit.{length-set, eq-eqb, ne_eqb}
use Rattle.model.specs.{Bytes.four_bytes, Lists.at, Lists.choose, Lists.tabulate, Written.Written, Verdict.Verdict, Verdict.accepted, Verdict.Reply, Verdict.answered}
use Rattle.model.proofs.{Written.written_byte, Written.written_then, Written.written_none, Lists.tabulate_snoc, Lists.at_tabulate, Lists.at_ext, Lists.length_tabulate, Demands.reply_so}
use Rattle.wire.specs.Wire.{wrong_length}
use Rattle.wire.proofs.Numbers.{whole}
use Rattle.run_join.proofs.Slices.{part_is}
use Rattle.run_join.specs.{Join.join_verdict, Join.kind_at, Join.reach_place, Join.plans_of, Join.nodes_of, Join.count_of}
use Rattle.run_join.specs.{Calls.Told, Calls.told_by, Calls.answer_for, Calls.figure_for, Calls.figure_in, Calls.CallJoin, declared.Joining.Joining, declared.Missing.Missing}
use Rattle.std.specs.Prelude.{Option, None, Some, Result, Ok}
use Rattle.model.specs.{Refusals.reply_from_question, declared.refusals.Question.Question}
use Rattle.export_join.specs.Joined.{eight_bytes, wides_of, path_bytes_at, join_bytes, join_code_for, kind_for, range_for, join_answer_for, join_code, join_answer, CallJoinBytes}
use Rattle.export_join.specs.Inner.Inside.{InsideHeads}

-- ---- a number in eight bytes
pub eight_put : {d e : List ℕ} {r : ℕ} {f : List ℕ} {s : ℕ} (o x low high : ℕ) → o + 8 ≤ length d → low ≡ x % 4294967296 → high ≡ x / 4294967296 → Written d o (four_bytes low) e r → Written e r
    (four_bytes high) f s → Written d o (eight_bytes x) f s
unfolding eight_bytes four_bytes
eight_put {d} {e} {r} {f} {s} o x low high h p q u v =
    subst (λ (t : List ℕ). Written d o t f s) (ap₂ (λ (a b : ℕ). four_bytes a ++ four_bytes b) p q) (written_then (omega (arith, u.ends)) u v)

length_eight : (x : ℕ) → length (eight_bytes x) ≡ 8
unfolding eight_bytes four_bytes
length_eight x = refl

tabulate_same : (n : ℕ) (f g : ℕ → ℕ) → ((i : ℕ) → i < n → f i ≡ g i) → tabulate n f ≡ tabulate n g
tabulate_same n f g h =
    let long = length_tabulate n f in
    at_ext (tabulate n f) (tabulate n g) (long ∙ sym (length_tabulate n g))
    (λ i j. let l : i < n = omega arith in at_tabulate n f i l ∙ h i l ∙ sym (at_tabulate n g i l))

-- ---- values one behind the other
wides_snoc : (ks : List ℕ) (x : ℕ) → wides_of (ks ++ (x ∷ [])) ≡ wides_of ks ++ eight_bytes x
unfolding wides_of eight_bytes four_bytes
wides_snoc [] x = refl
wides_snoc (k ∷ ks) x = ap (λ (l : List ℕ). eight_bytes k ++ l) (wides_snoc ks x)

pub wides_start : (d : List ℕ) (f : ℕ → ℕ) → Written d 24 (wides_of (tabulate 0 f)) d 24
unfolding wides_of tabulate
wides_start d f = written_none d 24

pub wides_turn : {d e : List ℕ} {at : ℕ} {g : List ℕ} {m : ℕ} (i : ℕ) (f : ℕ → ℕ) → at ≤ length d → Written d 24 (wides_of (tabulate i f)) e at → Written e at (eight_bytes (f i)) g m → Written d 24
    (wides_of (tabulate (i + 1) f)) g m
wides_turn {d} {e} {at} {g} {m} i f fits v w =
    subst (λ (l : List ℕ). Written d 24 l g m) (sym (ap (λ (k : ℕ). wides_of (tabulate k f)) (add-one i) ∙ ap wides_of (tabulate_snoc i f) ∙ wides_snoc (tabulate i f) (f i))) (written_then fits v w)

pub eight_ends : {d e : List ℕ} {at m : ℕ} (x : ℕ) → Written d at (eight_bytes x) e m → m ≡ at + 8
eight_ends {d} {e} {at} x w = w.ends ∙ ap (λ (k : ℕ). at + k) (length_eight x)

pub wides_all : {d e : List ℕ} {at : ℕ} (i : ℕ) (f : ℕ → ℕ) → i ≡ 12 → at ≡ 24 + 8 * i → Written d 24 (wides_of (tabulate i f)) e at → Written d 24 (wides_of (tabulate 12 f)) e 120
wides_all {d} {e} {at} i f z h w =
    let ends : at ≡ 120 = omega arith in
    subst (λ (k : ℕ). Written d 24 (wides_of (tabulate 12 f)) e k) ends (subst (λ (k : ℕ). Written d 24 (wides_of (tabulate k f)) e at) z w)

-- ---- thirteen bytes
pub path_put : {d e : List ℕ} {r : ℕ} (start : ℕ) (l : List ℕ) (o n : ℕ) → o + 13 ≤ length l → n ≡ 13 → Written d start (take n (drop o l)) e r → Written d start (path_bytes_at l o) e (start + 13)
unfolding path_bytes_at
path_put {d} {e} {r} start l o n h q v =
    let f : ℕ → ℕ = λ i. at l (o + i) in
    let long = length_tabulate 13 f in
    let part = part_is l (tabulate 13 f) o 13 h long (λ i j. sym (at_tabulate 13 f i j)) in
    let w = subst (λ (x : List ℕ). Written d start x e r) (ap (λ (k : ℕ). take k (drop o l)) q ∙ part) v in
    subst (λ (k : ℕ). Written d start (tabulate 13 f) e k) (w.ends ∙ ap (λ (k : ℕ). start + k) long) w

-- ---- the first and the last path
pub none_at : path_bytes_at (replicate 13 0) 0 ≡ replicate 13 0
unfolding path_bytes_at tabulate at
none_at = refl

pub end_at : path_bytes_at (1 ∷ 255 ∷ 0 ∷ 0 ∷ 0 ∷ 0 ∷ 0 ∷ 0 ∷ 0 ∷ 0 ∷ 0 ∷ 0 ∷ 0 ∷ []) 0 ≡ 1 ∷ 255 ∷ replicate 11 0
unfolding path_bytes_at tabulate at
end_at = refl

pub reach_fits : (l : List ℕ) (k : ℕ) → 115 * k + 115 ≤ length l → reach_place l k + 13 ≤ length l
reach_fits l k h = go (eqb (kind_at l k) 1)
  where
    go : (b : Bool) → choose b (115 * k + 89) (115 * k + 102) + 13 ≤ length l
    go true = omega arith
    go false = omega arith

-- ---- the kind and the sums
pub sums_put : {d e : List ℕ} {a : ℕ} {f : List ℕ} {b : ℕ} {g : List ℕ} {c : ℕ} {h : List ℕ} {i : ℕ} {j : List ℕ} (kind plans nodes : ℕ) (cs : List ℕ) → length d ≡ 152 →
    Written d 0 (four_bytes kind) e a → Written e a (four_bytes 0) f b → Written f b (eight_bytes plans) g c → Written g c (eight_bytes nodes) h i → Written h 24 cs j 120 →
    Written d 0 (four_bytes kind ++ four_bytes 0 ++ eight_bytes plans ++ eight_bytes nodes ++ cs) j 120
unfolding four_bytes
sums_put {d} {e} {a} {f} {b} {g} {c} {h} {i} {j} kind plans nodes cs n u v w x y =
    let p = eight_ends plans w in
    let q = eight_ends nodes x in
    let z : i ≡ 24 = omega (arith, u.ends, v.ends) in
    let y' = subst (λ (k : ℕ). Written h k cs j 120) (sym z) y in
    written_then (omega arith) (written_then (omega (arith, u.ends, v.ends)) (written_then (omega (arith, u.ends, v.ends)) (written_then (omega (arith, u.ends)) u v) w) x) y'

pub zeros_put : (d e : List ℕ) (r : ℕ) → length d ≡ 152 → length e ≡ length d → Written d 146 (four_bytes 0) e r → Written d 146 (four_bytes 0 ++ 0 ∷ 0 ∷ []) (set (set e 150 0) 151 0) 152
unfolding four_bytes
zeros_put d e r n m u =
    let z : r ≡ 150 = u.ends in
    let v = subst (λ (k : ℕ). Written d 146 (four_bytes 0) e k) z u in
    let w = written_then (omega arith) v (written_byte e 150 0 (omega arith)) in
    written_then (omega arith) w (written_byte (set e 150 0) 151 0 (omega (arith, length-set e 150 0)))

-- two paths
pub two_put : {d e f : List ℕ} (x y : List ℕ) → length d ≡ 152 → Written d 120 x e (120 + 13) → Written e 133 y f (133 + 13) → Written d 120 (x ++ y) f 146
two_put x y n u v = written_then (omega arith) u v

-- ---- the whole
module _ (l answer : List ℕ) where
  pub wrong_size : (length answer ≡ 152 → ⊥) → CallJoinBytes l answer wrong_length answer
  unfolding join_code join_answer
  wrong_size h =
      let e = ne_eqb (length answer) 152 h in
      let a = answer_for (join_verdict l) l in
      record {
        returns = sym (ap {B = ℕ} (λ (t : Bool). choose t (join_code_for a) wrong_length) e);
        tells = sym (ap {B = List ℕ} (λ (t : Bool). choose t (join_answer_for l a answer) answer) e);
      }

  pub right_size : (x : Reply Told) (code : ℕ) (bytes : List ℕ) → length answer ≡ 152 → answer_for (join_verdict l) l ≡ x → code ≡ join_code_for x → bytes ≡ join_answer_for l x answer
      → CallJoinBytes l answer code bytes
  unfolding join_code join_answer
  right_size x code bytes h so c w =
      let e = eq-eqb (length answer) 152 h in
      let a = answer_for (join_verdict l) l in
      record {
        returns = c ∙ ap join_code_for (sym so) ∙ sym (ap {B = ℕ} (λ (t : Bool). choose t (join_code_for a) wrong_length) e);
        tells = w ∙ ap (λ (y : Reply Told). join_answer_for l y answer) (sym so) ∙ sym (ap {B = List ℕ} (λ (t : Bool). choose t (join_answer_for l a answer) answer) e);
      }

module _ (l : List ℕ) (r : Result Joining Question) (call : CallJoin l r) where
  pub said : (x : Result Joining Question) → r ≡ x → answer_for (join_verdict l) l ≡ reply_from_question (λ j. told_by j.missing) x
  said x so = sym call.answers ∙ ap (reply_from_question (λ j. told_by j.missing)) so

  -- heads that were joined
  module _ (j : Joining) (so : r ≡ Ok j) where
    pub among : InsideHeads l j.missing
    among = go j.missing refl
      where
        go : (m : Option Missing) → j.missing ≡ m → InsideHeads l m
        go None e = tt
        go (Some m) e = call.inside j m so e

    verdict : join_verdict l ≡ accepted
    unfolding answer_for
    verdict = (reply_so (join_verdict l) _ (told_by j.missing) (said (Ok j) so)).0

    figure : (f : Joining → ℕ) (x : ℕ) → figure_in f r ≡ figure_for (join_verdict l) x → f j ≡ x
    figure f x e = sym (ap (figure_in f) so) ∙ e ∙ ap (λ (t : Verdict). figure_for t x) verdict

    pub pieces : {d e f g : List ℕ} (kind : ℕ) → length d ≡ 152 → kind ≡ kind_for (told_by j.missing) →
        Written d 0 (four_bytes kind ++ four_bytes 0 ++ eight_bytes j.plans ++ eight_bytes j.nodes ++ wides_of (tabulate 12 (at j.counts))) e 120 →
        Written e 120 (range_for l (told_by j.missing)) f 146 → Written f 146 (four_bytes 0 ++ 0 ∷ 0 ∷ []) g 152 → g ≡ join_answer_for l (answered (told_by j.missing)) d
    unfolding join_bytes
    pieces {d} {e} {f} {g} kind n k u v w =
        let range = range_for l (told_by j.missing) in
        let all = written_then (omega arith) (written_then (omega arith) u v) w in
        let counts : tabulate 12 (at j.counts) ≡ tabulate 12 (count_of l) = tabulate_same 12 (at j.counts) (count_of l) (λ x h. figure (λ i. at i.counts x) (count_of l x) (call.counts x h)) in
        whole (omega (arith, all.ends)) all
        ∙ ap₂ (λ (a b : ℕ). (four_bytes kind ++ four_bytes 0 ++ eight_bytes a ++ eight_bytes b ++ wides_of (tabulate 12 (at j.counts))) ++ range ++ (four_bytes 0 ++ 0 ∷ 0 ∷ []))
        (figure (λ i. i.plans) (plans_of l) call.plans) (figure (λ i. i.nodes) (nodes_of l) call.nodes)
        ∙ ap₂ (λ (i : ℕ) (c : List ℕ). (four_bytes i ++ four_bytes 0 ++ eight_bytes (plans_of l) ++ eight_bytes (nodes_of l) ++ wides_of c) ++ range ++ (four_bytes 0 ++ 0 ∷ 0 ∷ [])) k counts
