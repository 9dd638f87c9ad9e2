-- `lowest_free` meets its contract. Assumes nothing.
use Rattle.model.specs.Kit.{◌≡◌, ℕ, rules}
use Rattle.std.proofs.Common.{tests}
use Rattle.std.proofs.lemmas.Iterator.{first_from_Range}
use Rattle.model.specs.Lists.{at}
use Rattle.desk.specs.Inner.Layout.{slot_place}
use Rattle.desk.proofs.Slots.{lowest_found}
use Rattle.desk_submit.proofs.lowest_free.Goals as goal

pub returns : goal.returns
unfolding at
returns c =
    let free : ℕ → Type 0 = λ k. at c.args.queue.now (slot_place k) ≡ 0 in
    let h = lowest_found c.args.queue.now c.find.result
    (first_from_Range _ _ _ c.find.result free (λ k. free k → ⊥) c.find.ensures.ran (λ x q k. search (rules, tests)) (λ x q k. (search rules, search (rules, tests)))) in
    record { slot = h.0; inside = h.1 }
