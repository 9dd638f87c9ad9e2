-- `stand`: a list at its end, or the two rows compared. Assumes nothing.
use Rattle.model.specs.Kit.{sym, ap₂, ◌∙◌, subst, ℕ, ◌<◌, take}
use Rattle.list_merge.specs.Inner.Inner.{way_of}
use Rattle.list_merge.proofs.{Reading.plain_way, Stepping.front_length, Turning.stand_after, Turning.stand_before, Turning.stand_rows}
use Rattle.list_merge.proofs.stand.Goals as goal

pub returns-then-second-eq0 : goal.returns-then-second-eq0
returns-then-second-eq0 c = stand_after _ _ _ _ c.if-second-eq0.true

pub returns-then-first-eq0 : goal.returns-then-first-eq0
returns-then-first-eq0 c = stand_before _ _ _ _ c.if-second-eq0.false c.if-first-eq0.true

pub by_words-requires : goal.by_words-requires
by_words-requires c =
    record {
      some = (c.requires.1.words c.if-plain.true).some;
      most = c.requires.1.most;
      first = sym (front_length _ _ c.requires.0.second c.if-second-eq0.false);
      second = sym (front_length _ _ c.requires.0.first c.if-first-eq0.false);
    }

pub returns-then-plain : goal.returns-then-plain
returns-then-plain c =
    let p = c.requires.1.words c.if-plain.true in
    let ea = front_length c.args.n c.args.first.now c.requires.0.first c.if-first-eq0.false in
    let eb = front_length c.args.n c.args.second.now c.requires.0.second c.if-second-eq0.false in
    c.by_words.ensures ∙ ap₂ way_of (plain_way c.args.n _ p (take c.args.n c.args.second.now) (take c.args.n c.args.first.now) eb ea)
    (plain_way c.args.n _ p (take c.args.n c.args.first.now) (take c.args.n c.args.second.now) ea eb) ∙ stand_rows c.args.n _ c.args.first.now c.args.second.now
    c.if-second-eq0.false c.if-first-eq0.false

pub by_places-requires : goal.by_places-requires
by_places-requires c =
    λ x m. (
      subst (λ (k : ℕ). x < k) (front_length c.args.n c.args.second.now c.requires.0.second c.if-second-eq0.false) (c.requires.0.places.inside x m),
      subst (λ (k : ℕ). x < k) (front_length c.args.n c.args.first.now c.requires.0.first c.if-first-eq0.false) (c.requires.0.places.inside x m),
    )

pub returns : goal.returns
returns c = c.by_places.ensures ∙ stand_rows _ _ _ _ c.if-second-eq0.false c.if-first-eq0.false

pub slice_bounds-by_words-end : goal.slice_bounds-by_words-end
slice_bounds-by_words-end c = front_length _ _ c.requires.0.second c.if-second-eq0.false

pub slice_bounds-by_words-end-then-plain : goal.slice_bounds-by_words-end-then-plain
slice_bounds-by_words-end-then-plain c = front_length _ _ c.requires.0.first c.if-first-eq0.false

pub slice_bounds-by_places-end : goal.slice_bounds-by_places-end
slice_bounds-by_places-end c = front_length _ _ c.requires.0.second c.if-second-eq0.false

pub slice_bounds-by_places-end-2 : goal.slice_bounds-by_places-end-2
slice_bounds-by_places-end-2 c = front_length _ _ c.requires.0.first c.if-first-eq0.false
