-- The bytes of a head read back are what its call said. Assumes nothing.
use Rattle.model.specs.Kit.{◌≡◌, refl, sym, ap, ◌∙◌, subst, List, [], ◌∷◌, ◌++◌, map, Memᴰ, Memᴰ-head, Memᴰ-tail, ℕ, zero, suc, ◌+◌, ◌*◌, ◌%◌, ◌<◌, arith, length, take, get_or}
use Rattle.model.specs.Kit.{length-append, length-take}
use Rattle.model.specs.Run.{Ending, finished, spent, full, plans_in, nodes_in, search, Answer, ended, Tally, settled_by}
use Rattle.model.specs.{Lists.at, Lists.flat, Lists.tabulate, Bytes.four_bytes, Verdict.Verdict, Verdict.accepted, Verdict.reply}
use lib.Seq.{get_or-append-add}
use Rattle.model.proofs.{Lists.at_append, Lists.at_tabulate, Lists.at_take, Lists.at_ext, Lists.length_tabulate, Lists.mem_get_d, Tally.length_counts}
use Rattle.wire.specs.Wire.{three_numbers}
use Rattle.run_input.specs.Lent.{verdict_lent, order_lent, problem_lent}
use Rattle.run_ranges.specs.{Ranges.part_nodes, Ranges.result_part, Ranges.answer_part, Ranges.plans_said, Ranges.nodes_said, Ranges.made_by, Ranges.tally_part, Claims.Part, Claims.CallRange}
use Rattle.run_join.specs.Join.{four_at, path_at, heads_in}
use Rattle.export_run.specs.Run.{ending_bytes}
use Rattle.export_counts.specs.Tallied.{numbers_of}
use Rattle.export_counts.proofs.Tallied.{length_numbers}
use Rattle.export_parts.specs.Head.{name_bytes, path_bytes, head_of, head_for}
use Rattle.export_parts.proofs.Pieces.{length_path}
use Rattle.promises.specs.JoinedHeads.{kind_said, HeadOf, HeldHeads, head_bytes, HeldBytes, part_at}

-- ---- bytes that stand at an offset of other bytes
abbrev pub Found : List ℕ → ℕ → List ℕ → Type 0
Found l o ys = (i : ℕ) → i < length ys → at l (o + i) ≡ at ys i

module _ (l : List ℕ) (o : ℕ) where
  found_front : (xs ys : List ℕ) → Found l o (xs ++ ys) → Found l o xs
  found_front xs ys f i h = f i (let n = length-append xs ys in omega arith) ∙ at_append xs ys i h

  found_behind : (xs ys : List ℕ) (m : ℕ) → m ≡ o + length xs → Found l o (xs ++ ys) → Found l m ys
  unfolding at
  found_behind xs ys m e f i h =
      let z : m + i ≡ o + (length xs + i) = omega arith in
      ap (at l) z ∙ f (length xs + i) (let n = length-append xs ys in omega arith) ∙ get_or-append-add xs ys i 0

  found_four : (k : ℕ) → Found l o (four_bytes k) → four_at l o ≡ k
  unfolding four_bytes at
  found_four k f =
      let z : o + 0 ≡ o = omega arith in
      let a : at l o ≡ k % 256 = sym (ap (at l) z) ∙ f 0 (omega arith) in
      let b = f 1 (omega arith) in
      let c = f 2 (omega arith) in
      let d = f 3 (omega arith) in
      omega arith

  found_path : (path : List ℕ) → Found l o (path_bytes path) → path_at l o ≡ take 12 path
  unfolding path_at path_bytes at
  found_path path f =
      let z : o + 0 ≡ o = omega arith in
      let n : at l o ≡ length (take 12 path) = sym (ap (at l) z) ∙ f 0 (let m = length_tabulate 12 (at path) in omega arith) in
      at_ext (tabulate (at l o) (λ i. at l (o + 1 + i))) (take 12 path) (length_tabulate (at l o) (λ i. at l (o + 1 + i)) ∙ n) (λ i h.
      let m = length_tabulate (at l o) (λ i. at l (o + 1 + i)) in
      let k = length-take 12 path in
      let y : o + 1 + i ≡ o + suc i = omega arith in
      at_tabulate (at l o) (λ i. at l (o + 1 + i)) i (omega arith) ∙ ap (at l) y ∙ f (suc i) (let q = length_tabulate 12 (at path) in omega arith)
      ∙ at_tabulate 12 (at path) i (omega arith) ∙ sym (at_take 12 path i (omega arith)))

found_numbers : (l : List ℕ) (o : ℕ) (ks : List ℕ) → Found l o (numbers_of ks) → (x : ℕ) → x < length ks → four_at l (o + 4 * x) ≡ at ks x
unfolding numbers_of four_bytes at
found_numbers l o [] f x h = absurd (let z : x < 0 = h in omega arith)
found_numbers l o (k ∷ ks) f zero h = let z : o + 4 * 0 ≡ o = omega arith in ap (four_at l) z ∙ found_four l o k (found_front l o (four_bytes k) (numbers_of ks) f)
found_numbers l o (k ∷ ks) f (suc x) h =
    let z : o + 4 * suc x ≡ o + 4 + 4 * x = omega arith in
    ap (four_at l) z ∙ found_numbers l (o + 4) ks (found_behind l o (four_bytes k) (numbers_of ks) (o + 4) refl f) x (let y : suc x < suc (length ks) = h in omega arith)

-- three numbers
found_three : (l : List ℕ) (o x y z : ℕ) → Found l o (three_numbers x y z) → (four_at l o ≡ x) × (four_at l (o + 4) ≡ y) × (four_at l (o + 8) ≡ z)
unfolding three_numbers four_bytes
found_three l o x y z f =
    let g = found_behind l o (four_bytes x) (four_bytes y ++ four_bytes z) (o + 4) refl f in (
      found_four l o x (found_front l o (four_bytes x) (four_bytes y ++ four_bytes z) f),
      found_four l (o + 4) y (found_front l (o + 4) (four_bytes y) (four_bytes z) g),
      found_four l (o + 8) z (found_behind l (o + 4) (four_bytes y) (four_bytes z) (o + 8) (omega arith) g),
    )

found_ending : (l : List ℕ) (o : ℕ) (e : Ending) → Found l o (ending_bytes e) → (four_at l o ≡ kind_said (ended e)) × (four_at l (o + 4) ≡ plans_in e) × (four_at l (o + 8) ≡ nodes_in e)
found_ending l o (finished plans made) f = found_three l o 1 plans made f
found_ending l o (spent plans made) f = found_three l o 2 plans made f
found_ending l o (full plans made) f = found_three l o 3 plans made f

length_ending : (e : Ending) → length (ending_bytes e) ≡ 12
unfolding three_numbers four_bytes
length_ending (finished plans made) = refl
length_ending (spent plans made) = refl
length_ending (full plans made) = refl

pub length_name : (b pairs block : List ℕ) → length (name_bytes b pairs block) ≡ 16
unfolding name_bytes numbers_of four_bytes
length_name b pairs block = refl

-- ---- a head
module _ (b pairs block : List ℕ) (c : Part) (e : Ending) (twelve : length c.tally.counts ≡ 12) where
  abbrev figures : List ℕ
  figures = ending_bytes e ++ numbers_of c.tally.counts

  abbrev named : List ℕ
  named = figures ++ name_bytes b pairs block

  abbrev range : List ℕ
  range = path_bytes c.from ++ path_bytes c.upto

  abbrev paths : List ℕ
  paths = range ++ path_bytes c.last

  length_figures : length figures ≡ 60
  length_figures = let x = length-append (ending_bytes e) (numbers_of c.tally.counts) in let y = length_ending e in let z = length_numbers c.tally.counts in omega arith

  length_named : length named ≡ 76
  length_named = let x = length-append figures (name_bytes b pairs block) in let y = length_figures in let z = length_name b pairs block in omega arith

  length_range : length range ≡ 26
  length_range = let x = length-append (path_bytes c.from) (path_bytes c.upto) in let y = length_path c.from in let z = length_path c.upto in omega arith

  pub length_head : length (head_of b pairs block c e) ≡ 115
  unfolding head_of
  length_head =
      length-append named paths ∙ (let y = length_named in let x = length-append range (path_bytes c.last) in let z = length_range in let w = length_path c.last in omega arith)

  -- where its pieces stand
  pub record Pieces (l : List ℕ) (o : ℕ) : Type 0 where
    pub ending : Found l o (ending_bytes e)
    pub numbers : Found l (o + 12) (numbers_of c.tally.counts)
    pub name : Found l (o + 60) (name_bytes b pairs block)
    pub from : Found l (o + 76) (path_bytes c.from)
    pub upto : Found l (o + 89) (path_bytes c.upto)
    pub last : Found l (o + 102) (path_bytes c.last)

  pub head_pieces : (l : List ℕ) (o : ℕ) → Found l o (head_of b pairs block c e) → Pieces l o
  unfolding head_of
  head_pieces l o f =
      let front = found_front l o named paths f in
      let fig = found_front l o figures (name_bytes b pairs block) front in
      let three = found_behind l o named paths (o + 76) (let n = length_named in omega arith) f in
      let two = found_front l (o + 76) range (path_bytes c.last) three in
      record {
        ending = found_front l o (ending_bytes e) (numbers_of c.tally.counts) fig;
        numbers = found_behind l o (ending_bytes e) (numbers_of c.tally.counts) (o + 12) (let n = length_ending e in omega arith) fig;
        name = found_behind l o figures (name_bytes b pairs block) (o + 60) (let n = length_figures in omega arith) front;
        from = found_front l (o + 76) (path_bytes c.from) (path_bytes c.upto) two;
        upto = found_behind l (o + 76) (path_bytes c.from) (path_bytes c.upto) (o + 89) (let n = length_path c.from in omega arith) two;
        last = found_behind l (o + 76) range (path_bytes c.last) (o + 102) (let n = length_range in omega arith) three;
      }

  head_read : (l : List ℕ) (k : ℕ) → c.answer ≡ ended e → Pieces l (115 * k) → HeadOf l k c
  head_read l k so f =
      let o = 115 * k in
      let ending = found_ending l o e f.ending in
      record {
        kind = ending.0 ∙ ap kind_said (sym so);
        plans = ending.1 ∙ ap plans_said (sym so);
        nodes = ending.2 ∙ ap nodes_said (sym so);
        counts = λ x h. found_numbers l (o + 12) c.tally.counts f.numbers x (omega arith);
        from = found_path l (o + 76) c.from f.from;
        upto = found_path l (o + 89) c.upto f.upto;
        last = found_path l (o + 102) c.last f.last;
      }

-- ---- a call
module _ (b pairs block : List ℕ) (c : Part) (call : CallRange b pairs block c) where
  pub twelve_counts : length c.tally.counts ≡ 12
  unfolding tally_part
  twelve_counts =
      let a = answer_part b pairs block c.from c.upto c.limit c.out in
      ap (λ (t : Tally). length t.counts) call.counts ∙ length_counts (λ (t : List ℕ). at (order_lent b pairs) (settled_by t)) (made_by a b pairs block c.from c.upto)

  module _ (so : verdict_lent b pairs block ≡ accepted) where
    pub answered : c.answer ≡ ended (search (problem_lent b pairs block) c.limit (length c.out) (part_nodes b pairs block c.from c.upto) 0 []).ending
    unfolding answer_part result_part
    answered = call.answers ∙ ap (λ (v : Verdict). reply v (result_part b pairs block c.from c.upto c.limit (length c.out)).ending) so

    pub ends : (e : Ending) × (c.answer ≡ ended e)
    ends = ((search (problem_lent b pairs block) c.limit (length c.out) (part_nodes b pairs block c.from c.upto) 0 []).ending, answered)

    head_is : head_bytes b pairs block c ≡ head_of b pairs block c ends.0
    head_is = ap (λ (a : Answer). head_for b pairs block c a []) ends.1

    pub length_bytes : length (head_bytes b pairs block c) ≡ 115
    length_bytes = ap length head_is ∙ length_head b pairs block c ends.0 twelve_counts

    pub bytes_pieces : (l : List ℕ) (k : ℕ) → Found l (115 * k) (head_bytes b pairs block c) → Pieces b pairs block c ends.0 twelve_counts l (115 * k)
    bytes_pieces l k f = head_pieces b pairs block c ends.0 twelve_counts l (115 * k) (subst (Found l (115 * k)) head_is f)

    bytes_read : (l : List ℕ) (k : ℕ) → Found l (115 * k) (head_bytes b pairs block c) → HeadOf l k c
    bytes_read l k f = head_read b pairs block c ends.0 twelve_counts l k ends.1 (bytes_pieces l k f)

    -- the bytes of a call's head, by themselves
    pub own_head : HeadOf (head_bytes b pairs block c) 0 c
    own_head = bytes_read (head_bytes b pairs block c) 0 (λ i h. let z : 115 * 0 + i ≡ i = omega arith in ap (at (head_bytes b pairs block c)) z)

-- ---- heads one behind the other
module _ (b pairs block : List ℕ) (so : verdict_lent b pairs block ≡ accepted) where
  abbrev lay : List Part → List ℕ
  lay cs = flat (map (head_bytes b pairs block) cs)

  length_heads : (cs : List Part) → ((c : Part) → Memᴰ c cs → CallRange b pairs block c) → length (lay cs) ≡ 115 * length cs
  unfolding flat
  length_heads [] h = refl
  length_heads (c ∷ cs) h =
      let x = length-append (head_bytes b pairs block c) (lay cs) in
      let y = length_bytes b pairs block c (h c (Memᴰ-head refl)) so in
      let z = length_heads cs (λ d m. h d (Memᴰ-tail m)) in
      omega arith

  each_found : (cs : List Part) → ((c : Part) → Memᴰ c cs → CallRange b pairs block c) → (k : ℕ) (d : Part) → k < length cs → Found (lay cs) (115 * k) (head_bytes b pairs block (get_or cs k d))
  unfolding flat at
  each_found [] h k d l = absurd (let z : k < 0 = l in omega arith)
  each_found (c ∷ cs) h zero d l = λ i m. let z : 115 * 0 + i ≡ i = omega arith in ap (at (head_bytes b pairs block c ++ lay cs)) z ∙ at_append (head_bytes b pairs block c) (lay cs) i m
  each_found (c ∷ cs) h (suc k) d l = λ i m.
      let y = length_bytes b pairs block c (h c (Memᴰ-head refl)) so in
      let z : 115 * suc k + i ≡ length (head_bytes b pairs block c) + (115 * k + i) = omega arith in
      ap (at (head_bytes b pairs block c ++ lay cs)) z ∙ get_or-append-add (head_bytes b pairs block c) (lay cs) (115 * k + i) 0
      ∙ each_found cs (λ d m. h d (Memᴰ-tail m)) k d (let q : suc k < suc (length cs) = l in omega arith) i m

-- ---- what a holder lends
module _ (b pairs block : List ℕ) (cs : List Part) (l : List ℕ) (h : HeldBytes b pairs block cs l) where
  abbrev part : ℕ → Part
  part = part_at b pairs block cs

  pub size_held : length l ≡ 115 * length cs
  size_held = ap length h.bytes ∙ length_heads b pairs block h.lent cs h.calls

  pub many_held : heads_in l ≡ length cs
  many_held = let n = size_held in omega arith

  pub call_held : (k : ℕ) → k < length cs → CallRange b pairs block (part_at b pairs block cs k)
  call_held k m = h.calls (part k) (mem_get_d cs k (part_at b pairs block [] 0) m)

  pub found_held : (k : ℕ) → k < length cs → Found l (115 * k) (head_bytes b pairs block (part_at b pairs block cs k))
  found_held k m =
      subst (λ (x : List ℕ). Found x (115 * k) (head_bytes b pairs block (part k))) (sym h.bytes) (each_found b pairs block h.lent cs h.calls k (part_at b pairs block [] 0) m)

  pub heads_held : HeldHeads b pairs block l (part_at b pairs block cs) × (heads_in l ≡ length cs)
  heads_held = (
    record {
      lent = h.lent;
      calls = λ k m. call_held k (let n = many_held in omega arith);
      heads = λ k m. let i : k < length cs = (let n = many_held in omega arith) in bytes_read b pairs block (part k) (call_held k i) h.lent l k (found_held k i);
    },
    many_held,
  )
