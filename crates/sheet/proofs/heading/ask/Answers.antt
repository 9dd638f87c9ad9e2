use Rattle.model.specs.Kit.{refl, sym, ◌∙◌, le-leb, lt-leb, eq-eqb, ne_eqb, not-false}
use Rattle.model.specs.Sheet.{header_verdict}
use Rattle.sheet.proofs.{Asking.in_range, Asking.pass, Asking.stop}
use Rattle.sheet.proofs.heading.ask.Goals as goal

pub returns-then-not-within : goal.returns-then-not-within
unfolding header_verdict
returns-then-not-within c later = pass _ _ _ _ _ (le-leb _ _ c.requires) (stop _ _ _ _ (sym c.within.ensures ∙ c.if-not-within.true))

pub returns-then-not-within-2 : goal.returns-then-not-within-2
unfolding header_verdict
returns-then-not-within-2 c later = pass _ _ _ _ _ (le-leb _ _ c.requires) (pass _ _ _ _ _
    (sym c.within.ensures ∙ c.if-not-within.false) (stop _ _ _ _ (sym c.within-2.ensures ∙ c.if-not-within-2.true)))

pub returns-then-h-gt32 : goal.returns-then-h-gt32
unfolding header_verdict
returns-then-h-gt32 c later = pass _ _ _ _ _ (le-leb _ _ c.requires)
    (pass _ _ _ _ _ (sym c.within.ensures ∙ c.if-not-within.false)
    (pass _ _ _ _ _ (sym c.within-2.ensures ∙ c.if-not-within-2.false) (stop _ _ _ _ (lt-leb _ _ c.if-h-gt32.true))))

pub returns-then-h-gt16 : goal.returns-then-h-gt16
unfolding header_verdict
returns-then-h-gt16 c later = pass _ _ _ _ _ (le-leb _ _ c.requires)
    (pass _ _ _ _ _ (sym c.within.ensures ∙ c.if-not-within.false)
    (pass _ _ _ _ _ (sym c.within-2.ensures ∙ c.if-not-within-2.false)
    (pass _ _ _ _ _ (le-leb _ _ c.if-h-gt32.false) (stop _ _ _ _ (lt-leb _ _ c.if-h-gt16.true)))))

pub returns-then-h-bytes : goal.returns-then-h-bytes
unfolding header_verdict
returns-then-h-bytes c later = pass _ _ _ _ _ (le-leb _ _ c.requires)
    (pass _ _ _ _ _ (sym c.within.ensures ∙ not-false _
    c.if-not-within.false-raw) (pass _ _ _ _ _
    (sym c.within-2.ensures ∙ c.if-not-within-2.false)
    (pass _ _ _ _ _ (le-leb _ _ c.if-h-gt32.false) (pass _ _ _ _ _ (le-leb _ _ c.if-h-gt16.false) (stop _ _ _ _ (ne_eqb _ _ c.if-h-bytes.true))))))

pub offsets_fit-requires : goal.offsets_fit-requires
offsets_fit-requires c = in_range _ (sym c.within.ensures ∙ not-false _
    c.if-not-within.false-raw)

pub returns-then-not-offsets_fit : goal.returns-then-not-offsets_fit
unfolding header_verdict
returns-then-not-offsets_fit c later = pass _ _ _ _ _ (le-leb _ _ c.requires)
    (pass _ _ _ _ _ (sym c.within.ensures ∙ not-false _
    c.if-not-within.false-raw)
    (pass _ _ _ _ _ (sym c.within-2.ensures ∙ not-false _
    c.if-not-within-2.false-raw) (pass _ _ _ _ _ (le-leb _ _ c.if-h-gt32.false)
    (pass _ _ _ _ _ (le-leb _ _ c.if-h-gt16.false) (pass _ _ _ _ _ (eq-eqb _ _ c.if-h-bytes.false)
    (stop _ _ _ _ (sym c.offsets_fit.ensures ∙ c.if-not-offsets_fit.true)))))))

pub returns : goal.returns
unfolding header_verdict
returns c later = pass _ _ _ _ _ (le-leb _ _ c.requires)
    (pass _ _ _ _ _ (sym c.within.ensures ∙ not-false _
    c.if-not-within.false-raw)
    (pass _ _ _ _ _ (sym c.within-2.ensures ∙ not-false _
    c.if-not-within-2.false-raw) (pass _ _ _ _ _ (le-leb _ _ c.if-h-gt32.false)
    (pass _ _ _ _ _ (le-leb _ _ c.if-h-gt16.false) (pass _ _ _ _ _ (eq-eqb _ _ c.if-h-bytes.false)
    (pass _ _ _ _ _ (sym c.offsets_fit.ensures ∙ c.if-not-offsets_fit.false) refl))))))
