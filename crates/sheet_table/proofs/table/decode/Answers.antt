use Rattle.model.specs.Kit.{◌≡◌, refl, sym, ap, ◌∙◌, subst, ℕ, ◌+◌, ◌*◌, ◌%◌, ◌≤◌, ◌<◌, arith, length, length-set}
use Rattle.model.specs.{Lists.at, Problem.Problem}
use native.Mathlib.Nat.{mod-lt}
use Rattle.model.proofs.{Lists.T_of, Lists.at_replicate, Pairs.is_pair_lt}
use Rattle.sheet_table.specs.{Inner.Table.TableAt, Inner.Table.table_of, Inner.Scan.Seen, Inner.Scan.DrawnTo}
use Rattle.sheet_table.proofs.Scans.{seen_none, seen_all, read_out, read_twice, read_moved, read_same, read_more, number_lt, table_length, table_small, drawn_none, drawn_same, read_drawn}
use Rattle.sheet_table.proofs.Scans.{drawn_no, drawn_yes}
use Rattle.sheet_table.proofs.{Frames.size_lt, Frames.size_is, Targets.blank_same, Targets.blank_moves, Targets.blank_codes}
use Rattle.sheet_table.proofs.table.decode.Goals as goal
use Rattle.sheet_table.proofs.table.decode.Goals.{then-is_pair+else-not-is_pair+else-seen-y-eq1, else-is_pair+else-y-q}

pub loop-q-init : goal.loop-q-init
loop-q-init c = (c.requires.1, refl, λ p l. (omega arith, seen_none p _ _ (at_replicate 192), drawn_none p _ _ _))

pub returns-then-not-is_pair : goal.returns-then-not-is_pair
returns-then-not-is_pair c =
    let At : Problem → Type 0 = λ p. TableAt p c.args.sheet.now c.args.offset c.args.numbers.now in
    let inside : (p : Problem) → At p → c.loop-q.q < p.variables * p.values =
    λ p l. subst (λ (n : ℕ). c.loop-q.q < n) (size_is p _ l.framed _ _ c.number.ensures c.number-d.ensures) (omega arith) in
    let room : c.args.offset + 2 * c.loop-q.q + 2 ≤ length c.args.sheet.now = omega (arith, inside c.requires.0.0 c.requires.0.1, c.requires.0.1.whole) in
    record {
      room = c.loop-q.invariant.0;
      drawn = λ p l. drawn_no p _ _ _
          (read_out p _ _ _ _ _ (c.loop-q.invariant.2 p l).1 (inside p l) c.read_word-y.ensures
          (sym (c.is_pair.ensures p l.framed) ∙ c.if-is_pair.true) (sym (c.is_pair-then-is_pair.ensures p l.framed) ∙ c.if-not-is_pair.true));
    }

pub returns-then-seen-y-eq1 : goal.returns-then-seen-y-eq1
unfolding at
returns-then-seen-y-eq1 c =
    let At : Problem → Type 0 = λ p. TableAt p c.args.sheet.now c.args.offset c.args.numbers.now in
    let inside : (p : Problem) → At p → c.loop-q.q < p.variables * p.values =
    λ p l. subst (λ (n : ℕ). c.loop-q.q < n) (size_is p _ l.framed _ _ c.number.ensures c.number-d.ensures) (omega arith) in
    let room : c.args.offset + 2 * c.loop-q.q + 2 ≤ length c.args.sheet.now = omega (arith, inside c.requires.0.0 c.requires.0.1, c.requires.0.1.whole) in
    record { room = c.loop-q.invariant.0; drawn = λ p l. drawn_no p _ _ _ (read_twice p _ _ _ _ _ (c.loop-q.invariant.2 p l).1 (inside p l) c.read_word-y.ensures c.if-seen-y-eq1.true) }

pub returns-then-y-q : goal.returns-then-y-q
returns-then-y-q c =
    let At : Problem → Type 0 = λ p. TableAt p c.args.sheet.now c.args.offset c.args.numbers.now in
    let inside : (p : Problem) → At p → c.loop-q.q < p.variables * p.values =
    λ p l. subst (λ (n : ℕ). c.loop-q.q < n) (size_is p _ l.framed _ _ c.number.ensures c.number-d.ensures) (omega arith) in
    let room : c.args.offset + 2 * c.loop-q.q + 2 ≤ length c.args.sheet.now = omega (arith, inside c.requires.0.0 c.requires.0.1, c.requires.0.1.whole) in
    record {
      room = c.loop-q.invariant.0;
      drawn = λ p l. drawn_no p _ _ _
          (read_moved p _ _ _ _ _ (c.loop-q.invariant.2 p l).1 (inside p l) c.read_word-y.ensures
          (sym (c.is_pair.ensures p l.framed) ∙ c.if-is_pair.false) c.if-y-q.true);
    }

pub loop-q-preserved : goal.loop-q-preserved
unfolding at
loop-q-preserved c =
    let At : Problem → Type 0 = λ p. TableAt p c.args.sheet.now c.args.offset c.args.numbers.now in
    let inside : (p : Problem) → At p → c.loop-q.q < p.variables * p.values =
    λ p l. subst (λ (n : ℕ). c.loop-q.q < n) (size_is p _ l.framed _ _ c.number.ensures c.number-d.ensures) (omega arith) in
    let values : (p : Problem) → At p → c.number-d.result ≡ p.values = λ p l. c.number-d.ensures ∙ l.framed.numbered.values in
    let value : (1 ≤ c.number-d.result) × (c.loop-q.q % c.number-d.result < 16) = let v = values c.requires.0.0 c.requires.0.1 in
    let one : 1 ≤ c.number-d.result = omega (arith, c.requires.0.1.framed.stated.one) in
    (one, omega (arith, mod-lt c.loop-q.q one, c.requires.0.1.framed.stated.sixteen)) in
    elim c.if-is_pair.branch [
      | then-is_pair+else-not-is_pair+else-seen-y-eq1 w ↦
          let image_in : c.read_word-y.result < c.requires.0.0.variables * c.requires.0.0.values =
          is_pair_lt c.requires.0.0 _ (T_of _ (sym (w.is_pair-then-is_pair.ensures c.requires.0.0 c.requires.0.1.framed) ∙ w.if-not-is_pair.false)) in
          let image_small : c.read_word-y.result < 192 = omega (arith, image_in, table_small c.requires.0.0 c.requires.0.1.framed.stated) in (
            blank_same _ _ _ _ (blank_moves _ _ _ _ (omega (arith, w.pair_code-e.ensures.1)) value.1 (blank_codes _ _ _ _ c.loop-q.invariant.0)) w.codes-is w.moves-is,
            ap length w.seen-is ∙ simp length-set c.loop-q.invariant.1,
            λ p l. (
              omega (arith, inside p l),
              read_more p _ _ _ _ _ (c.loop-q.invariant.2 p l).1 (inside p l) c.read_word-y.ensures _ w.seen-is (sym (c.is_pair.ensures p l.framed) ∙ w.if-is_pair.true)
                  (sym (w.is_pair-then-is_pair.ensures p l.framed) ∙ w.if-not-is_pair.false) (omega (arith, image_small, c.loop-q.invariant.1)) w.if-seen-y-eq1.false,
              read_drawn p l.framed.stated _ _ _ _ _ (c.loop-q.invariant.2 p l).1 (inside p l) c.read_word-y.ensures w.if-seen-y-eq1.false _ _ c.loop-q.invariant.0 _ _ _
                  (values p l) w.pair_code.ensures w.pair_code-e.ensures _ _ w.codes-is w.moves-is (c.loop-q.invariant.2 p l).2,
            ),
          )
      | else-is_pair+else-y-q w ↦ (
        blank_same _ _ _ _ c.loop-q.invariant.0 w.codes-is w.moves-is,
        ap length w.seen-is ∙ c.loop-q.invariant.1,
        λ p l. let e = sym (c.is_pair.ensures p l.framed) ∙ w.if-is_pair.false in (
          omega (arith, inside p l),
          read_same p _ _ _ _ _ (c.loop-q.invariant.2 p l).1 (inside p l) c.read_word-y.ensures _ w.seen-is e w.if-y-q.false,
          drawn_same p l.framed.stated (table_of p c.args.sheet.now c.args.offset) _ _ _ (c.loop-q.invariant.2 p l).2 e _ _ w.codes-is w.moves-is,
        ),
      )
    ]

pub returns : goal.returns
returns c =
    let At : Problem → Type 0 = λ p. TableAt p c.args.sheet.now c.args.offset c.args.numbers.now in
    let over : (p : Problem) → At p → c.loop-q.q ≡ p.variables * p.values =
    λ p l. omega (arith, size_is p _ l.framed _ _ c.number.ensures c.number-d.ensures, (c.loop-q.invariant.2 p l).0) in
    record {
      room = c.loop-q.invariant.0;
      drawn = λ p l. drawn_yes p l.framed.stated _ _ _
          (seen_all p _ _ (subst (Seen p _ _) (over p l) (c.loop-q.invariant.2 p l).1) (table_length p _ _)) (subst (DrawnTo p _ _ _) (over p l) (c.loop-q.invariant.2 p l).2);
    }

pub overflow_mul-count : goal.overflow_mul-count
overflow_mul-count c = omega (arith, size_lt c.requires.0.0 _ c.requires.0.1.framed _ _ c.number.ensures c.number-d.ensures)

pub overflow_mul-q : goal.overflow_mul-q
overflow_mul-q c =
    let At : Problem → Type 0 = λ p. TableAt p c.args.sheet.now c.args.offset c.args.numbers.now in
    let inside : (p : Problem) → At p → c.loop-q.q < p.variables * p.values =
    λ p l. subst (λ (n : ℕ). c.loop-q.q < n) (size_is p _ l.framed _ _ c.number.ensures c.number-d.ensures) (omega arith) in
    let small : c.loop-q.q < 192 = omega (arith, inside c.requires.0.0 c.requires.0.1, table_small c.requires.0.0 c.requires.0.1.framed.stated) in
    omega (arith, small)

pub overflow_add-offset : goal.overflow_add-offset
overflow_add-offset c =
    let At : Problem → Type 0 = λ p. TableAt p c.args.sheet.now c.args.offset c.args.numbers.now in
    let inside : (p : Problem) → At p → c.loop-q.q < p.variables * p.values =
    λ p l. subst (λ (n : ℕ). c.loop-q.q < n) (size_is p _ l.framed _ _ c.number.ensures c.number-d.ensures) (omega arith) in
    let room : c.args.offset + 2 * c.loop-q.q + 2 ≤ length c.args.sheet.now = omega (arith, inside c.requires.0.0 c.requires.0.1, c.requires.0.1.whole) in
    omega (arith, room)

pub read_word-y-requires : goal.read_word-y-requires
read_word-y-requires c =
    let At : Problem → Type 0 = λ p. TableAt p c.args.sheet.now c.args.offset c.args.numbers.now in
    let inside : (p : Problem) → At p → c.loop-q.q < p.variables * p.values =
    λ p l. subst (λ (n : ℕ). c.loop-q.q < n) (size_is p _ l.framed _ _ c.number.ensures c.number-d.ensures) (omega arith) in
    let room : c.args.offset + 2 * c.loop-q.q + 2 ≤ length c.args.sheet.now = omega (arith, inside c.requires.0.0 c.requires.0.1, c.requires.0.1.whole) in
    omega (arith, room)

pub is_pair-requires : goal.is_pair-requires
is_pair-requires c = (c.requires.0.0, c.requires.0.1.framed)

pub is_pair-requires-then-is_pair : goal.is_pair-requires-then-is_pair
is_pair-requires-then-is_pair c = (c.requires.0.0, c.requires.0.1.framed)

pub bounds-seen-y : goal.bounds-seen-y
bounds-seen-y c =
    let At : Problem → Type 0 = λ p. TableAt p c.args.sheet.now c.args.offset c.args.numbers.now in
    let image_in : (p : Problem) → At p → c.read_word-y.result < p.variables * p.values = λ p l. is_pair_lt p _ (T_of _ (sym (c.is_pair-then-is_pair.ensures p l.framed) ∙ c.if-not-is_pair.false)) in
    let image_small : c.read_word-y.result < 192 = omega (arith, image_in c.requires.0.0 c.requires.0.1, table_small c.requires.0.0 c.requires.0.1.framed.stated) in
    image_small

pub bounds-seen-y-then-is_pair : goal.bounds-seen-y-then-is_pair
bounds-seen-y-then-is_pair c =
    let At : Problem → Type 0 = λ p. TableAt p c.args.sheet.now c.args.offset c.args.numbers.now in
    let image_in : (p : Problem) → At p → c.read_word-y.result < p.variables * p.values = λ p l. is_pair_lt p _ (T_of _ (sym (c.is_pair-then-is_pair.ensures p l.framed) ∙ c.if-not-is_pair.false)) in
    let image_small : c.read_word-y.result < 192 = omega (arith, image_in c.requires.0.0 c.requires.0.1, table_small c.requires.0.0 c.requires.0.1.framed.stated) in
    image_small

pub pair_code-e-requires : goal.pair_code-e-requires
pair_code-e-requires c =
    let At : Problem → Type 0 = λ p. TableAt p c.args.sheet.now c.args.offset c.args.numbers.now in
    let values : (p : Problem) → At p → c.number-d.result ≡ p.values = λ p l. c.number-d.ensures ∙ l.framed.numbered.values in
    let value : (1 ≤ c.number-d.result) × (c.loop-q.q % c.number-d.result < 16) = let v = values c.requires.0.0 c.requires.0.1 in
    let one : 1 ≤ c.number-d.result = omega (arith, c.requires.0.1.framed.stated.one) in
    (one, omega (arith, mod-lt c.loop-q.q one, c.requires.0.1.framed.stated.sixteen)) in
    let coded : (z : ℕ) → ((p : Problem) → At p → z < p.variables * p.values) → (1 ≤ c.number-d.result) × (c.number-d.result ≤ 16) × (z < 12 * c.number-d.result) = λ z h. let v =
    values c.requires.0.0 c.requires.0.1 in
    (value.0, omega (arith, v, c.requires.0.1.framed.stated.sixteen), number_lt c.requires.0.0 c.requires.0.1.framed.stated _ v z (h c.requires.0.0 c.requires.0.1)) in
    let image_in : (p : Problem) → At p → c.read_word-y.result < p.variables * p.values = λ p l. is_pair_lt p _ (T_of _ (sym (c.is_pair-then-is_pair.ensures p l.framed) ∙ c.if-not-is_pair.false)) in
    coded _ image_in

pub overflow_cast-codes : goal.overflow_cast-codes
overflow_cast-codes c = omega (arith, c.pair_code-e.ensures.1)

pub pair_code-requires : goal.pair_code-requires
pair_code-requires c =
    let At : Problem → Type 0 = λ p. TableAt p c.args.sheet.now c.args.offset c.args.numbers.now in
    let inside : (p : Problem) → At p → c.loop-q.q < p.variables * p.values =
    λ p l. subst (λ (n : ℕ). c.loop-q.q < n) (size_is p _ l.framed _ _ c.number.ensures c.number-d.ensures) (omega arith) in
    let values : (p : Problem) → At p → c.number-d.result ≡ p.values = λ p l. c.number-d.ensures ∙ l.framed.numbered.values in
    let value : (1 ≤ c.number-d.result) × (c.loop-q.q % c.number-d.result < 16) = let v = values c.requires.0.0 c.requires.0.1 in
    let one : 1 ≤ c.number-d.result = omega (arith, c.requires.0.1.framed.stated.one) in
    (one, omega (arith, mod-lt c.loop-q.q one, c.requires.0.1.framed.stated.sixteen)) in
    let coded : (z : ℕ) → ((p : Problem) → At p → z < p.variables * p.values) → (1 ≤ c.number-d.result) × (c.number-d.result ≤ 16) × (z < 12 * c.number-d.result) = λ z h. let v =
    values c.requires.0.0 c.requires.0.1 in
    (value.0, omega (arith, v, c.requires.0.1.framed.stated.sixteen), number_lt c.requires.0.0 c.requires.0.1.framed.stated _ v z (h c.requires.0.0 c.requires.0.1)) in
    coded _ inside

pub bounds-codes-pair_code : goal.bounds-codes-pair_code
bounds-codes-pair_code c = omega (arith, c.pair_code.ensures.1)

pub nonzero_rem-moves : goal.nonzero_rem-moves
nonzero_rem-moves c =
    let At : Problem → Type 0 = λ p. TableAt p c.args.sheet.now c.args.offset c.args.numbers.now in
    let values : (p : Problem) → At p → c.number-d.result ≡ p.values = λ p l. c.number-d.ensures ∙ l.framed.numbered.values in
    let value : (1 ≤ c.number-d.result) × (c.loop-q.q % c.number-d.result < 16) = let v = values c.requires.0.0 c.requires.0.1 in
    let one : 1 ≤ c.number-d.result = omega (arith, c.requires.0.1.framed.stated.one) in
    (one, omega (arith, mod-lt c.loop-q.q one, c.requires.0.1.framed.stated.sixteen)) in
    omega (arith, value.0)

pub overflow_cast-moves : goal.overflow_cast-moves
overflow_cast-moves c =
    let At : Problem → Type 0 = λ p. TableAt p c.args.sheet.now c.args.offset c.args.numbers.now in
    let values : (p : Problem) → At p → c.number-d.result ≡ p.values = λ p l. c.number-d.ensures ∙ l.framed.numbered.values in
    let value : (1 ≤ c.number-d.result) × (c.loop-q.q % c.number-d.result < 16) = let v = values c.requires.0.0 c.requires.0.1 in
    let one : 1 ≤ c.number-d.result = omega (arith, c.requires.0.1.framed.stated.one) in
    (one, omega (arith, mod-lt c.loop-q.q one, c.requires.0.1.framed.stated.sixteen)) in
    omega (arith, value.1)

pub bounds-moves-e : goal.bounds-moves-e
bounds-moves-e c = omega (arith, c.pair_code-e.ensures.1)
