-- What a caller of `small_sheet` holds (specs/Held). Assumes nothing.
use Rattle.model.specs.Kit.{◌≡◌, refl, sym, ap, ap₂, ◌∙◌, subst, Bool, true, false, List, [], ℕ, ◌≤◌, ◌<◌, arith, ltb, leb, length, take, drop, get_or, lt-ltb, le-ltb, le-leb, lt-leb, ltb-true}
use Rattle.model.specs.{Verdict.Verdict, Verdict.accepted, Verdict.refused, Verdict.ask, Room.wrote, Room.refusal, Room.outcome_of, Room.room_after}
use lib.Seq.{take-append_seam, drop-append_seam}
use Rattle.model.proofs.Lists.{never}
use Rattle.sheet_small.specs.Answers.{means, sheet_at, position_verdict, small_outcome, small_room}
use Rattle.std.specs.Prelude.{Result, Ok, Err}
use Rattle.model.specs.{Refusals.number_of, declared.refusals.Question.Question, declared.refusals.Question.TheVariants.Position, declared.refusals.Question.TheVariants.SheetRoom}
use Rattle.model.proofs.Numbering.{number_of-injective}
use Rattle.sheet_small.specs.{Small.small_sheets, Calls.CallSmall}
use Rattle.sheet_once.specs.Held.{SmallHeld, IsSmall}
use Rattle.sheet_once.specs.Inner.Claims.{Stands}
use Rattle.sheet_once.proofs.{Figures.figures, Claims.each_once, Claims.nothing_else}

is_written : (r : Result ℕ Question) (k : ℕ) → means r ≡ wrote k → r ≡ Ok k
is_written (Ok j) k e = cc
is_written (Err asked) k e = never (cc)

is_refused : (r : Result ℕ Question) (q : Question) → means r ≡ refusal (number_of q) 0 → r ≡ Err q
is_refused (Ok j) q e = never (cc)
is_refused (Err asked) q e = ap Err (number_of-injective asked q (cc))

all_there : length small_sheets ≡ 544
all_there = figures.whole

module _ (k : ℕ) (room : List ℕ) (r : Result ℕ Question) (after : List ℕ) (c : CallSmall k room r after) where
  -- by the verdict
  so : (v : Verdict) → position_verdict k room ≡ v → (means r ≡ outcome_of v (sheet_at k)) × (after ≡ room_after v (sheet_at k) room)
  unfolding small_outcome small_room
  so v e = (c.0 ∙ ap (λ (u : Verdict). outcome_of u (sheet_at k)) e, c.1 ∙ ap (λ (u : Verdict). room_after u (sheet_at k) room) e)

  past : 544 ≤ k → (r ≡ Err Position) × (after ≡ room)
  unfolding position_verdict
  past h =
      let s = so (refused 39 0) (ap (λ (t : Bool). ask t 39 0 (ask (leb 52 (length room)) 40 0 accepted)) (le-ltb k (length small_sheets) (omega (arith, all_there)))) in
      (is_refused r Position s.0, s.1)

  here : k < 544 → ltb k (length small_sheets) ≡ true
  here h = lt-ltb k (length small_sheets) (omega (arith, all_there))

  short : k < 544 → length room < 52 → (r ≡ Err SheetRoom) × (after ≡ room)
  unfolding position_verdict
  short h l =
      let s = so (refused 40 0) (ap₂ (λ (t u : Bool). ask t 39 0 (ask u 40 0 accepted)) (here h) (lt-leb 52 (length room) l)) in
      (is_refused r SheetRoom s.0, s.1)

  placed : k < 544 → Stands (sheet_at k) k
  unfolding sheet_at
  placed h = (ltb-true k (length small_sheets) (here h), refl)

  writes : k < 544 → 52 ≤ length room → (n : ℕ) × (r ≡ Ok n) × IsSmall (take n after) × (drop n after ≡ drop n room)
  unfolding position_verdict
  writes h l =
      let t = sheet_at k in
      let s = so accepted (ap₂ (λ (t u : Bool). ask t 39 0 (ask u 40 0 accepted)) (here h) (le-leb 52 (length room) l)) in (
        length t,
        is_written r (length t) s.0,
        subst IsSmall (sym (ap (take (length t)) s.1 ∙ take-append_seam t (drop (length t) room))) (nothing_else t k (placed h)),
        ap (drop (length t)) s.1 ∙ drop-append_seam t (drop (length t) room),
      )

sheet_is : (k : ℕ) → sheet_at k ≡ get_or small_sheets k []
unfolding sheet_at
sheet_is k = refl

-- a number of bytes: nothing was refused, and they are the sheet at the position
module _ (k : ℕ) (room : List ℕ) (n : ℕ) (after : List ℕ) (c : CallSmall k room (Ok n) after) where
  there : (k < 544) × (take n after ≡ sheet_at k)
  unfolding small_outcome small_room position_verdict
  there = go (ltb k (length small_sheets)) (leb 52 (length room)) refl c.0 c.1
    where
      go : (t u : Bool) → ltb k (length small_sheets) ≡ t → wrote n ≡ outcome_of (ask t 39 0 (ask u 40 0 accepted)) (sheet_at k) → after ≡ room_after (ask t 39 0 (ask u 40 0 accepted))
          (sheet_at k) room → (k < 544) × (take n after ≡ sheet_at k)
      go true true q e w = (
        omega (arith, ltb-true k (length small_sheets) q, all_there),
        ap₂ take (let z : n ≡ length (sheet_at k) = cc in z) w ∙ take-append_seam (sheet_at k) (drop (length (sheet_at k)) room),
      )
      go true false q e w = never (cc)
      go false u q e w = never (cc)

pub small_held : SmallHeld
small_held = record {
  past = past;
  short = short;
  writes = writes;
  each = λ b s. let p = each_once b s in (
    p.0,
    omega (arith, p.1.0, all_there),
    λ room n after c. (there p.0 room n after c).1 ∙ sheet_is p.0 ∙ p.1.1,
    λ j room n after c e. let t = there j room n after c in p.2 j (omega (arith, t.0, all_there), sym (sheet_is j) ∙ sym t.1 ∙ e),
  );
}
