-- The memo is asked, or what was walked along is kept. Assumes nothing.
use Rattle.model.specs.Kit.{refl}
use Rattle.run_memo.proofs.visit.Goals as goal

pub returns-then-place-eq0 : goal.returns-then-place-eq0
returns-then-place-eq0 c = record {
  visited = record { looked = λ d. c.recall.ensures.looked; noted = λ n. absurd (n c.if-place-eq0.true); kept = λ n. absurd (n c.if-place-eq0.true) };
  same_slice =
      c.recall.ensures.same_slice;
}

pub note-requires : goal.note-requires
note-requires c =
    let q = c.requires.1 c.if-place-eq0.false in
    (q.0, q.1, q.2, q.3, q.4, q.5, c.args.list.now.now, q.6)

pub returns : goal.returns
returns c = record { visited = record { looked = λ e. absurd (c.if-place-eq0.false e); noted = λ d p s w u t l g. c.note.ensures p s w u t l _ g; kept = λ d. refl }; same_slice = (refl, refl) }

pub recall-requires : goal.recall-requires
recall-requires c = c.requires.0 c.if-place-eq0.true
