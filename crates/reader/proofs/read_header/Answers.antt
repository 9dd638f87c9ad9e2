-- One reader goes on from number to number: it stays one of the sheet, and its offset is known after each step.
use denote.Ref.{Bor}
use Rattle.std.proofs.Common.{◌≡◌, ℕ, ◌+◌, List, ap, ◌∙◌}
use Rattle.model.specs.Sheet.{«word» as word_of, header_of}
use Rattle.reader.specs.declared.Reader.{Reader}
use Rattle.reader.proofs.read_header.Goals as goal

-- a reader of the sheet at an offset
record At (s : Bor (List ℕ)) (k : ℕ) (r : Reader) : Type 0 where
  sheet : r.sheet ≡ s
  at : r.at ≡ k

moved : (s : Bor (List ℕ)) (k : ℕ) (r n : Reader) → At s k r → (n.sheet ≡ r.sheet) × (n.at ≡ r.at + 2) → At s (k + 2) n
moved s k r n a e = record { sheet = e.0 ∙ a.sheet; at = e.1 ∙ ap (λ j. j + 2) a.at }

read : (s : Bor (List ℕ)) (k : ℕ) (r : Reader) (w : ℕ) → At s k r → w ≡ word_of r.sheet.now r.at → w ≡ word_of s.now k
read s k r w a e = e ∙ (ap (λ (x : Bor (List ℕ)). word_of x.now r.at) a.sheet ∙ ap (word_of s.now) a.at)

pub returns : goal.returns
unfolding header_of
returns c =
    let s : Bor (List ℕ) = c.args.sheet in
    let a0 : At s 0 c.new-r.result = record { sheet = c.new-r.ensures.0; at = c.new-r.ensures.1 } in
    let a1 : At s 2 c.next-r.result = moved s 0 _ _ a0 c.next-r.ensures in
    let a2 : At s 4 c.next-r-2.result = moved s 2 _ _ a1 c.next-r-2.ensures in
    let a3 : At s 6 c.next-r-3.result = moved s 4 _ _ a2 c.next-r-3.ensures in
    let a4 : At s 8 c.next-r-4.result = moved s 6 _ _ a3 c.next-r-4.ensures in
    let a5 : At s 10 c.next-r-5.result = moved s 8 _ _ a4 c.next-r-5.ensures in
    let a6 : At s 12 c.next-r-6.result = moved s 10 _ _ a5 c.next-r-6.ensures in
    let a7 : At s 14 c.next-r-7.result = moved s 12 _ _ a6 c.next-r-7.ensures in
    cc (
      read s 0 _ _ a0 c.word-variables.ensures,
      read s 2 _ _ a1 c.word-values.ensures,
      read s 4 _ _ a2 c.word-constraints.ensures,
      read s 6 _ _ a3 c.word-symmetries.ensures,
      read s 8 _ _ a4 c.word-first.ensures,
      read s 10 _ _ a5 c.word-second.ensures,
      read s 12 _ _ a6 c.word-third.ensures,
      read s 14 _ _ a7 c.word-size.ensures,
    )
