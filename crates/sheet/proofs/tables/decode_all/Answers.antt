use Rattle.model.specs.Kit.{◌≡◌, sym, ap, ◌∙◌, subst, true, ℕ, ◌*◌, ◌≤◌, ◌<◌, arith}
use Rattle.model.specs.Sheet.{Header as Numbers, header_of, problem_of, permutes_pairs}
use Rattle.sheet.specs.Inner.Decoding.{Decodable}
use Rattle.sheet.proofs.DecodeTurn.{permuted_at, permuted_each, images_none, images_more, decodable, tables_decoded, tables_not}
use Rattle.sheet.proofs.{Stating.FormPassed, Stating.form_passed, FormTurn.pair_room, FormTurn.same_size, TablesTurn.table_framed, TablesTurn.table_is}
use Rattle.sheet.proofs.tables.decode_all.Goals as goal

pub loop-e-init : goal.loop-e-init
loop-e-init c = (omega arith, images_none _ _ _ (ap (λ (x : Numbers). x.third) c.requires.1) c.told-images)

pub permuted-requires : goal.permuted-requires
permuted-requires c =
    let inside : c.loop-e.e < (header_of c.args.sheet.now).symmetries = subst (λ (x : ℕ). c.loop-e.e < x) (ap (λ (x : Numbers). x.symmetries) c.requires.1) (omega arith) in (
      table_framed _ _ _ _ c.requires.0.passed c.requires.0.numbered c.loop-e.invariant.1.here inside,
      λ a. ap (permutes_pairs (problem_of c.args.sheet.now)) (table_is _ _ _ c.loop-e.invariant.1.here) ∙ permuted_each _
          (c.requires.0.known a) _ inside,
    )

pub returns-then-not-permuted : goal.returns-then-not-permuted
returns-then-not-permuted c =
    let inside : c.loop-e.e < (header_of c.args.sheet.now).symmetries = subst (λ (x : ℕ). c.loop-e.e < x) (ap (λ (x : Numbers). x.symmetries) c.requires.1) (omega arith) in
    let answered : c.permuted.result ≡ permuted_at c.args.sheet.now c.loop-e.e = c.permuted.ensures ∙ ap (permutes_pairs (problem_of c.args.sheet.now)) (table_is _ _ _ c.loop-e.invariant.1.here) in
    tables_not _ _ _ _ inside c.loop-e.invariant.1 (sym answered ∙ c.if-not-permuted.true)

pub loop-e-preserved : goal.loop-e-preserved
loop-e-preserved c =
    let known : FormPassed c.args.sheet.now = form_passed _ c.requires.0.passed in
    let values_are : c.args.h.values ≡ (header_of c.args.sheet.now).values = ap (λ (x : Numbers). x.values) c.requires.1 in
    let size_is : c.args.h.variables * c.args.h.values ≡ (header_of c.args.sheet.now).variables * (header_of c.args.sheet.now).values =
    same_size c.args.h.variables c.args.h.values _ _ (ap (λ (x : Numbers). x.variables) c.requires.1) values_are in
    let inside : c.loop-e.e < (header_of c.args.sheet.now).symmetries = subst (λ (x : ℕ). c.loop-e.e < x) (ap (λ (x : Numbers). x.symmetries) c.requires.1) (omega arith) in
    let answered : c.permuted.result ≡ permuted_at c.args.sheet.now c.loop-e.e = c.permuted.ensures ∙ ap (permutes_pairs (problem_of c.args.sheet.now)) (table_is _ _ _ c.loop-e.invariant.1.here) in
    let passes : permuted_at c.args.sheet.now c.loop-e.e ≡ true = sym answered ∙ c.if-not-permuted.false in (
      omega (arith),
      images_more _ known _ _ _ c.loop-e.invariant.1 inside _ _ values_are size_is passes _ c.decode.ensures,
    )

pub returns : goal.returns
returns c = tables_decoded _ _ _ _ (omega (arith, ap (λ (x : Numbers). x.symmetries) c.requires.1)) c.loop-e.invariant.1

pub overflow_mul-count : goal.overflow_mul-count
overflow_mul-count c =
    let known : FormPassed c.args.sheet.now = form_passed _ c.requires.0.passed in
    let values_are : c.args.h.values ≡ (header_of c.args.sheet.now).values = ap (λ (x : Numbers). x.values) c.requires.1 in
    let small : c.args.h.variables * c.args.h.values ≤ 192 =
    pair_room c.args.h.variables c.args.h.values (omega (arith, known.fits.few, ap (λ (x : Numbers). x.variables) c.requires.1)) (omega (arith, known.fits.sixteen, values_are)) in
    omega (arith, small)

pub overflow_mul-e : goal.overflow_mul-e
overflow_mul-e c =
    let known : FormPassed c.args.sheet.now = form_passed _ c.requires.0.passed in
    let inside : c.loop-e.e < (header_of c.args.sheet.now).symmetries = subst (λ (x : ℕ). c.loop-e.e < x) (ap (λ (x : Numbers). x.symmetries) c.requires.1) (omega arith) in
    omega (arith, inside, known.fits.symmetries)

pub decode-requires : goal.decode-requires
decode-requires c =
    let known : FormPassed c.args.sheet.now = form_passed _ c.requires.0.passed in
    let values_are : c.args.h.values ≡ (header_of c.args.sheet.now).values = ap (λ (x : Numbers). x.values) c.requires.1 in
    let size_is : c.args.h.variables * c.args.h.values ≡ (header_of c.args.sheet.now).variables * (header_of c.args.sheet.now).values =
    same_size c.args.h.variables c.args.h.values _ _ (ap (λ (x : Numbers). x.variables) c.requires.1) values_are in
    let inside : c.loop-e.e < (header_of c.args.sheet.now).symmetries = subst (λ (x : ℕ). c.loop-e.e < x) (ap (λ (x : Numbers). x.symmetries) c.requires.1) (omega arith) in
    let answered : c.permuted.result ≡ permuted_at c.args.sheet.now c.loop-e.e = c.permuted.ensures ∙ ap (permutes_pairs (problem_of c.args.sheet.now)) (table_is _ _ _ c.loop-e.invariant.1.here) in
    let passes : permuted_at c.args.sheet.now c.loop-e.e ≡ true = sym answered ∙ c.if-not-permuted.false in
    let ready : Decodable c.args.sheet.now c.loop-e.from (c.args.h.variables * c.args.h.values) c.args.h.values (192 * c.loop-e.e) c.loop-e.images =
    decodable _ known _ _ _ c.loop-e.invariant.1 inside _ _ values_are size_is passes in
    ready

pub overflow_mul-from : goal.overflow_mul-from
overflow_mul-from c =
    let known : FormPassed c.args.sheet.now = form_passed _ c.requires.0.passed in
    let values_are : c.args.h.values ≡ (header_of c.args.sheet.now).values = ap (λ (x : Numbers). x.values) c.requires.1 in
    let small : c.args.h.variables * c.args.h.values ≤ 192 =
    pair_room c.args.h.variables c.args.h.values (omega (arith, known.fits.few, ap (λ (x : Numbers). x.variables) c.requires.1)) (omega (arith, known.fits.sixteen, values_are)) in
    omega (arith, small)

pub overflow_add-from : goal.overflow_add-from
overflow_add-from c =
    let known : FormPassed c.args.sheet.now = form_passed _ c.requires.0.passed in
    let values_are : c.args.h.values ≡ (header_of c.args.sheet.now).values = ap (λ (x : Numbers). x.values) c.requires.1 in
    let size_is : c.args.h.variables * c.args.h.values ≡ (header_of c.args.sheet.now).variables * (header_of c.args.sheet.now).values =
    same_size c.args.h.variables c.args.h.values _ _ (ap (λ (x : Numbers). x.variables) c.requires.1) values_are in
    let inside : c.loop-e.e < (header_of c.args.sheet.now).symmetries = subst (λ (x : ℕ). c.loop-e.e < x) (ap (λ (x : Numbers). x.symmetries) c.requires.1) (omega arith) in
    let answered : c.permuted.result ≡ permuted_at c.args.sheet.now c.loop-e.e = c.permuted.ensures ∙ ap (permutes_pairs (problem_of c.args.sheet.now)) (table_is _ _ _ c.loop-e.invariant.1.here) in
    let passes : permuted_at c.args.sheet.now c.loop-e.e ≡ true = sym answered ∙ c.if-not-permuted.false in
    let ready : Decodable c.args.sheet.now c.loop-e.from (c.args.h.variables * c.args.h.values) c.args.h.values (192 * c.loop-e.e) c.loop-e.images =
    decodable _ known _ _ _ c.loop-e.invariant.1 inside _ _ values_are size_is passes in
    omega (arith, ready.whole, c.well_formed)
