-- `standing_after`: by the ending, and where the run was spent by the limit. Assumes nothing.
use Rattle.model.specs.Kit.{◌≡◌, refl, sym, ap, ◌∙◌, Bool, true, false, ℕ, ◌≤◌, ◌<◌, arith, lt-ltb, le-ltb}
use Rattle.model.specs.Run.{finished, spent, full}
use Rattle.run_state.specs.Inner.Cut.{stop_of, cut_in}
use Rattle.desk.specs.{Queue.running, Queue.over, Queue.standing_after, Inner.Layout.standing_byte}
use Rattle.desk_turns.proofs.serve.standing_after.Goals as goal

goes : (plans made limit : ℕ) → made < limit → 0 ≡ standing_byte (standing_after limit (spent plans made))
goes plans made limit l = sym (ap (λ (t : Bool). standing_byte (elim t [ true ↦ running | false ↦ over (spent plans made) ])) (lt-ltb made limit l))

stops : (plans made limit : ℕ) → limit ≤ made → 2 ≡ standing_byte (standing_after limit (spent plans made))
stops plans made limit l = sym (ap (λ (t : Bool). standing_byte (elim t [ true ↦ running | false ↦ over (spent plans made) ])) (le-ltb made limit l))

pub returns-in-Ok : goal.returns-in-Ok
returns-in-Ok c (finished plans made) e f = refl
returns-in-Ok c (spent plans made) e f = absurd (let z = ap stop_of c.in-Ok.is in omega arith)
returns-in-Ok c (full plans made) e f = absurd (let z = ap stop_of c.in-Ok.is in omega arith)

pub returns-in-Err-Full : goal.returns-in-Err-Full
returns-in-Err-Full c (finished plans made) e f = absurd (let z = rw c.in-Err-Full.is at c.in-Err-Full.field-0-is in let y = ap stop_of c.in-Err-Full.is ∙ ap cut_in z in omega arith)
returns-in-Err-Full c (spent plans made) e f = absurd (let z = rw c.in-Err-Full.is at c.in-Err-Full.field-0-is in let y = ap stop_of c.in-Err-Full.is ∙ ap cut_in z in omega arith)
returns-in-Err-Full c (full plans made) e f = refl

pub returns-in-Err-Spent : goal.returns-in-Err-Spent
returns-in-Err-Spent c (finished plans made) e f = absurd (let z = rw c.in-Err-Spent.is at c.in-Err-Spent.field-0-is in let y = ap stop_of c.in-Err-Spent.is ∙ ap cut_in z in omega arith)
returns-in-Err-Spent c (spent plans made) e f = goes plans made _ (omega arith)
returns-in-Err-Spent c (full plans made) e f = absurd (let z = rw c.in-Err-Spent.is at c.in-Err-Spent.field-0-is in let y = ap stop_of c.in-Err-Spent.is ∙ ap cut_in z in omega arith)

pub returns-in-Err-Spent-2 : goal.returns-in-Err-Spent-2
returns-in-Err-Spent-2 c (finished plans made) e f = absurd (let z = rw c.in-Err-Spent-2.is at c.in-Err-Spent-2.field-0-is in let y = ap stop_of c.in-Err-Spent-2.is ∙ ap cut_in z in omega arith)
returns-in-Err-Spent-2 c (spent plans made) e f = stops plans made _ (omega arith)
returns-in-Err-Spent-2 c (full plans made) e f = absurd (let z = rw c.in-Err-Spent-2.is at c.in-Err-Spent-2.field-0-is in let y = ap stop_of c.in-Err-Spent-2.is ∙ ap cut_in z in omega arith)
