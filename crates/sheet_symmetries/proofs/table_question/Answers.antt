use Rattle.model.specs.Kit.{◌≡◌, sym, ◌∙◌, true, false, List, ℕ}
use Rattle.model.specs.{Problem.Problem, Sheet.permutes_pairs}
use Rattle.sheet_table.specs.{Inner.Table.Asked, Inner.Table.table_of, Inner.Forbidden.Decoded, Inner.Forbidden.Lent}
use Rattle.sheet_symmetries.proofs.{Answers.asked_table, Answers.asked_coded, Answers.asked_lent, Answers.answer_15, Answers.answer_16, Answers.answer_last}
use Rattle.sheet_table.proofs.Targets.{blank_new}
use Rattle.sheet_symmetries.proofs.table_question.Goals as goal

pub returns-then-not-decode : goal.returns-then-not-decode
returns-then-not-decode c = λ p a. answer_15 p _ _ _ _ a (sym (c.decode.ensures.drawn p (asked_table p _ _ _ _ a)).answers ∙ c.if-not-decode.true)

pub returns-then-not-variables : goal.returns-then-not-variables
returns-then-not-variables c =
    let At : Problem → Type 0 = λ p. Asked p c.args.sheet.now c.args.offset c.args.numbers.now c.args.supports.now in
    let table : Problem → List ℕ = λ p. table_of p c.args.sheet.now c.args.offset in
    let permuted : (p : Problem) → At p → permutes_pairs p (table p) ≡ true = λ p a. sym (c.decode.ensures.drawn p (asked_table p _ _ _ _ a)).answers ∙ c.if-not-decode.false in
    let decoded : (p : Problem) → At p → Decoded p (table p) c.decode.new.codes = λ p a. (c.decode.ensures.drawn p (asked_table p _ _ _ _ a)).decoded c.if-not-decode.false in
    let Lends : Problem → List ℕ → List ℕ → Type 0 = λ p codes moves. Lent p c.args.numbers.now c.args.supports.now codes moves in
    let lent : (p : Problem) → At p → Lends p c.decode.new.codes c.targets.new.moves = λ p a. let t = permuted p a in
    let k = (c.decode.ensures.drawn p (asked_table p _ _ _ _ a)).back c.if-not-decode.false in
    asked_lent p _ _ _ _ a t _ (decoded p a) _ (c.targets.ensures p a.ready.framed (asked_coded p _ _ _ _ a t _ (decoded p a)) k) in
    λ p a. answer_16 p _ _ _ _ a (permuted p a) _ (decoded p a) _ (c.variables.ensures p (lent p a)) c.if-not-variables.true

pub constraints-requires : goal.constraints-requires
constraints-requires c =
    let At : Problem → Type 0 = λ p. Asked p c.args.sheet.now c.args.offset c.args.numbers.now c.args.supports.now in
    let table : Problem → List ℕ = λ p. table_of p c.args.sheet.now c.args.offset in
    let permuted : (p : Problem) → At p → permutes_pairs p (table p) ≡ true = λ p a. sym (c.decode.ensures.drawn p (asked_table p _ _ _ _ a)).answers ∙ c.if-not-decode.false in
    let decoded : (p : Problem) → At p → Decoded p (table p) c.decode.new.codes = λ p a. (c.decode.ensures.drawn p (asked_table p _ _ _ _ a)).decoded c.if-not-decode.false in
    let Lends : Problem → List ℕ → List ℕ → Type 0 = λ p codes moves. Lent p c.args.numbers.now c.args.supports.now codes moves in
    let lent : (p : Problem) → At p → Lends p c.decode.new.codes c.targets.new.moves = λ p a. let t = permuted p a in
    let k = (c.decode.ensures.drawn p (asked_table p _ _ _ _ a)).back c.if-not-decode.false in
    asked_lent p _ _ _ _ a t _ (decoded p a) _ (c.targets.ensures p a.ready.framed (asked_coded p _ _ _ _ a t _ (decoded p a)) k) in
    (c.requires.0, lent c.requires.0 c.requires.1)

pub returns-then-not-constraints : goal.returns-then-not-constraints
returns-then-not-constraints c =
    let At : Problem → Type 0 = λ p. Asked p c.args.sheet.now c.args.offset c.args.numbers.now c.args.supports.now in
    let table : Problem → List ℕ = λ p. table_of p c.args.sheet.now c.args.offset in
    let permuted : (p : Problem) → At p → permutes_pairs p (table p) ≡ true = λ p a. sym (c.decode.ensures.drawn p (asked_table p _ _ _ _ a)).answers ∙ c.if-not-decode.false in
    let decoded : (p : Problem) → At p → Decoded p (table p) c.decode.new.codes = λ p a. (c.decode.ensures.drawn p (asked_table p _ _ _ _ a)).decoded c.if-not-decode.false in
    let Lends : Problem → List ℕ → List ℕ → Type 0 = λ p codes moves. Lent p c.args.numbers.now c.args.supports.now codes moves in
    let lent : (p : Problem) → At p → Lends p c.decode.new.codes c.targets.new.moves = λ p a. let t = permuted p a in
    let k = (c.decode.ensures.drawn p (asked_table p _ _ _ _ a)).back c.if-not-decode.false in
    asked_lent p _ _ _ _ a t _ (decoded p a) _ (c.targets.ensures p a.ready.framed (asked_coded p _ _ _ _ a t _ (decoded p a)) k) in
    λ p a.
    answer_last p _ _ _ _ a (permuted p a) _ (decoded p a) _ (c.variables.ensures p (lent p a))
    _ false c.if-not-variables.false (c.constraints.ensures p (lent p a)) c.if-not-constraints.true

pub returns : goal.returns
returns c =
    let At : Problem → Type 0 = λ p. Asked p c.args.sheet.now c.args.offset c.args.numbers.now c.args.supports.now in
    let table : Problem → List ℕ = λ p. table_of p c.args.sheet.now c.args.offset in
    let permuted : (p : Problem) → At p → permutes_pairs p (table p) ≡ true = λ p a. sym (c.decode.ensures.drawn p (asked_table p _ _ _ _ a)).answers ∙ c.if-not-decode.false in
    let decoded : (p : Problem) → At p → Decoded p (table p) c.decode.new.codes = λ p a. (c.decode.ensures.drawn p (asked_table p _ _ _ _ a)).decoded c.if-not-decode.false in
    let Lends : Problem → List ℕ → List ℕ → Type 0 = λ p codes moves. Lent p c.args.numbers.now c.args.supports.now codes moves in
    let lent : (p : Problem) → At p → Lends p c.decode.new.codes c.targets.new.moves = λ p a. let t = permuted p a in
    let k = (c.decode.ensures.drawn p (asked_table p _ _ _ _ a)).back c.if-not-decode.false in
    asked_lent p _ _ _ _ a t _ (decoded p a) _ (c.targets.ensures p a.ready.framed (asked_coded p _ _ _ _ a t _ (decoded p a)) k) in
    λ p a.
    answer_last p _ _ _ _ a (permuted p a) _ (decoded p a) _ (c.variables.ensures p (lent p a))
    _ true c.if-not-variables.false (c.constraints.ensures p (lent p a)) c.if-not-constraints.false

pub decode-requires : goal.decode-requires
decode-requires c = ((c.requires.0, asked_table c.requires.0 _ _ _ _ c.requires.1), blank_new)

pub variables-requires : goal.variables-requires
variables-requires c =
    let At : Problem → Type 0 = λ p. Asked p c.args.sheet.now c.args.offset c.args.numbers.now c.args.supports.now in
    let table : Problem → List ℕ = λ p. table_of p c.args.sheet.now c.args.offset in
    let permuted : (p : Problem) → At p → permutes_pairs p (table p) ≡ true = λ p a. sym (c.decode.ensures.drawn p (asked_table p _ _ _ _ a)).answers ∙ c.if-not-decode.false in
    let decoded : (p : Problem) → At p → Decoded p (table p) c.decode.new.codes = λ p a. (c.decode.ensures.drawn p (asked_table p _ _ _ _ a)).decoded c.if-not-decode.false in
    let Lends : Problem → List ℕ → List ℕ → Type 0 = λ p codes moves. Lent p c.args.numbers.now c.args.supports.now codes moves in
    let lent : (p : Problem) → At p → Lends p c.decode.new.codes c.targets.new.moves = λ p a. let t = permuted p a in
    let k = (c.decode.ensures.drawn p (asked_table p _ _ _ _ a)).back c.if-not-decode.false in
    asked_lent p _ _ _ _ a t _ (decoded p a) _ (c.targets.ensures p a.ready.framed (asked_coded p _ _ _ _ a t _ (decoded p a)) k) in
    (c.requires.0, lent c.requires.0 c.requires.1)
