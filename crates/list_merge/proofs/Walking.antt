-- The walk through the merged list: what is known at its turns. Assumes nothing.
use Rattle.model.specs.Kit.{◌≡◌, refl, sym, ap, ◌∙◌, subst, Bool, true, false, ◌⊎◌, ⊎_elim, List, [], ◌++◌, ℕ, ◌+◌, ◌-◌, ◌≤◌, ◌<◌, arith, T, length, drop, length-append}
use Rattle.model.specs.{Room.wrote, Room.refusal, Written.Written}
use Rattle.model.proofs.Written.{written_none, written_then, written_length}
use Rattle.list_merge.specs.{Merge.merged_by, Merge.next_row, Inner.Inner.Sorts, Inner.Inner.taken, Inner.Inner.Walked}
use Rattle.list_merge.proofs.Turning.{row_width, row_fits, sorts, text_is, room_for, at_end}

-- what is left of the lists, and what stands in the buffer d, which is `out` now
pub record Walking (n : ℕ) (order : List ℕ) (writes : Bool) (d all a b out : List ℕ) (at : ℕ) : Type 0 where
  pub rests : Sorts n order a b
  pub size : length out ≡ length d
  pub room : at ≤ length d
  pub text : List ℕ
  pub count : at ≡ length text
  pub whole : text ++ merged_by n order a b ≡ all
  pub written : writes ≡ true → Written d 0 text out at
  pub kept : writes ≡ false → out ≡ d

pub walking : (n : ℕ) (order : List ℕ) (writes : Bool) (d a b : List ℕ) → Sorts n order a b → Walking n order writes d (merged_by n order a b) a b d 0
walking n order writes d a b s =
    record { rests = s; size = refl; room = omega arith; text = []; count = refl; whole = refl; written = λ z. written_none d 0; kept = λ z. refl }

-- a row is put down, or it fits and the buffer stays
abbrev pub Put : ℕ → Bool → List ℕ → List ℕ → ℕ → List ℕ → Type 0
Put n writes row out at out' = ((writes ≡ true) × ((r : ℕ) × Written out at row out' r)) ⊎ ((writes ≡ false) × (out' ≡ out) × (n ≤ length out - at))

module _ (n : ℕ) (order : List ℕ) (writes : Bool) (d all a b out : List ℕ) (at : ℕ) (s : Walking n order writes d all a b out at) (row : List ℕ) (e : row ≡ next_row n order a b) where
  pub walked : length row ≡ 0 → Walked writes d all out (wrote at)
  walked z =
      let q : s.text ≡ all = at_end n order a b s.rests row e z s.text all s.whole in
      let k : at ≡ length all = s.count ∙ ap length q in
      record {
        fits = λ h. ap wrote k;
        short = λ h. absurd (omega (arith, s.room));
        written = λ y. subst (λ (t : List ℕ). Written d 0 t out (length all)) q (subst (λ (m : ℕ). Written d 0 s.text out m) k (s.written y));
        kept = s.kept;
      }

  module _ (full : length row ≡ 0 → ⊥) where
    pub has_room : length all ≤ length d → at + length row ≤ length out
    has_room h = omega (arith, room_for n order a b s.rests row e full s.text all at (length d) s.count s.whole h, s.size)

    pub width : length row ≡ n
    width = row_width n order a b s.rests row e full

    pub lacks : writes ≡ false → length out - at < n → Walked writes d all out (refusal 27 0)
    lacks f l =
        let h : length d < length all = omega (arith, ap length s.whole, length-append s.text (merged_by n order a b), row_fits n order a b s.rests row e full, s.count, s.size, s.room) in
        record { fits = λ g. absurd (omega arith); short = λ g. refl; written = λ y. absurd (subst T (sym y ∙ f) tt); kept = s.kept }

    module _ (i j : ℕ) (ei : i ≡ taken n a row) (ej : j ≡ taken n b row) (a' b' : List ℕ) (ea : a' ≡ drop i a) (eb : b' ≡ drop j b) (fits : writes ≡ true → length all ≤ length d) (out' : List ℕ) where
      pub on : Put n writes row out at out' → (at + n ≤ length out) × Walking n order writes d all a' b' out' (at + n)
      on =
          ⊎_elim {C = (at + n ≤ length out) × Walking n order writes d all a' b' out' (at + n)}
          (λ p.
          let h : at + length row ≤ length out = has_room (fits p.0) in
          let l : length out' ≡ length out = written_length h p.1.1 in (
            omega (arith, width),
            record {
              rests = left;
              size = l ∙ s.size;
              room = omega (arith, width, s.size);
              text = s.text ++ row;
              count = more;
              whole = rest;
              written = λ y.
                  subst (λ (m : ℕ). Written d 0 (s.text ++ row) out' m) (p.1.1.ends ∙ ap (λ (m : ℕ). at + m) width) (written_then s.room (s.written y) p.1.1);
              kept = λ y. absurd (subst T (sym p.0 ∙ y) tt);
            },
          ))
          (λ p.
          let h : at + n ≤ length out = omega (arith, p.2, s.size, s.room) in (
            h,
            record {
              rests = left;
              size = ap length p.1 ∙ s.size;
              room = omega (arith, s.size);
              text = s.text ++ row;
              count = more;
              whole = rest;
              written = λ y. absurd (subst T (sym y ∙ p.0) tt);
              kept = λ y. p.1 ∙ s.kept y;
            },
          ))
        where
          left : Sorts n order a' b'
          left = sorts n order a b s.rests row e full i j ei ej a' b' ea eb

          more : at + n ≡ length (s.text ++ row)
          more = omega (arith, s.count, width, length-append s.text row)

          rest : (s.text ++ row) ++ merged_by n order a' b' ≡ all
          rest = text_is n order a b s.rests row e full i j ei ej a' b' ea eb s.text ∙ s.whole
