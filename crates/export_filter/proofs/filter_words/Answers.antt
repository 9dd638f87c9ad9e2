-- `filter_words`: the sets are read, filtered and written. Assumes nothing.
use Rattle.model.specs.Kit.{◌≡◌, sym, ap, ◌∙◌, subst, List, ℕ}
use Rattle.model.specs.Nogood.{entries, filter_verdict, filter_answer, sets_after}
use Rattle.filter.specs.Meaning.{means}
use Rattle.export_filter.specs.Filter.{filter_answer_code, sets_in, bytes_of, filtered_bytes, SmallAnswer}
use Rattle.export_filter.proofs.{Filtered.answer_small}
use Rattle.export_filter.proofs.filter_words.Goals as goal

pub filter_code-requires : goal.filter_code-requires
filter_code-requires c =
    let answer : means c.filter-answer.result ≡ filter_answer (sets_in c.args.sets.now) c.args.index.now c.args.equal.now c.args.not_equal.now = c.filter-answer.ensures.answers
    ∙ ap (λ (w : List ℕ). filter_answer w c.args.index.now c.args.equal.now c.args.not_equal.now) c.load.ensures in
    subst SmallAnswer (sym answer) (answer_small (sets_in c.args.sets.now) c.args.index.now c.args.equal.now c.args.not_equal.now)

pub returns : goal.returns
unfolding filtered_bytes
returns c =
    let answer : means c.filter-answer.result ≡ filter_answer (sets_in c.args.sets.now) c.args.index.now c.args.equal.now c.args.not_equal.now = c.filter-answer.ensures.answers
    ∙ ap (λ (w : List ℕ). filter_answer w c.args.index.now c.args.equal.now c.args.not_equal.now) c.load.ensures in
    let left = c.filter-answer.ensures.leaves ∙ ap (λ (w : List ℕ). sets_after (filter_verdict w c.args.index.now c.args.equal.now c.args.not_equal.now) w
    (entries c.args.index.now c.args.equal.now c.args.not_equal.now)) c.load.ensures in
    record { value = c.filter_code.ensures ∙ ap filter_answer_code answer; sets_after = c.store.ensures ∙ ap bytes_of left }
