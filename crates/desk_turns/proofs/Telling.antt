-- The bytes of a slot that say where its run stands. Assumes nothing.
use Rattle.model.specs.Kit.{◌≡◌, refl, sym, ap, ap₂, ◌∙◌, Bool, true, false, List, ◌∷◌, ◌++◌, append_assoc, ℕ, ◌+◌, ◌-◌, ◌/◌, ◌%◌, ◌≤◌, ◌<◌, arith, ltb, length, set, replicate, length-append}
use Rattle.model.specs.Kit.{length-replicate, ltb-true, ltb-false}
use Rattle.model.specs.{Lists.at, Bytes.four_bytes, Written.placed, Inner.Filling.Filled}
use Rattle.model.proofs.Lists.{at_ext, at_append, at_skip, at_replicate}
use Rattle.arrays.specs.Inner.Places.{PLANS, LAST}
use Rattle.run_state.proofs.Prefix.{length_prefix, prefix_at}
use Rattle.desk.specs.{Queue.Job, Inner.Places.STANDING, Inner.Places.NODES, Inner.Places.DEPTH, Inner.Layout.standing_byte, Inner.Layout.figure_bytes, Inner.Layout.state_bytes}
use Rattle.desk_turns.specs.Inner.Served.{Shows}
use Rattle.desk.specs.Inner.Places as places

-- the figures, and twelve zeros
abbrev pub begun : ℕ → ℕ → ℕ → ℕ → List ℕ
begun number total plans last =
    number ∷ total % 256 ∷ total / 256 % 256 ∷ total / 65536 % 256 ∷ total / 16777216 ∷ plans % 256 ∷ plans / 256 ∷ last ∷ replicate 12 0

-- as the code puts them into zeros
pub begun_is : (head : List ℕ) (number total plans last : ℕ) → head ≡ placed (set (replicate 20 0) 0 number) (NODES - STANDING) (four_bytes total) →
    set (set (set head (places.PLANS - STANDING) (plans % 256)) (places.PLANS + 1 - STANDING) (plans / 256)) (DEPTH - STANDING) last ≡ begun number total plans last
unfolding placed four_bytes
begun_is head number total plans last e = rw e

abbrev pub ToldTo : List ℕ → ℕ → List ℕ → List ℕ → Type 0
ToldTo work i old new = Filled (λ j. 8 + j) (λ j w. w ≡ at work j) i old new

module _ (h : Job) (number total : ℕ) (work old bytes : List ℕ) (s : Shows h number total work) (eo : old ≡ begun number total (at work PLANS) (at work LAST))
    (f : ToldTo work (at work LAST) old bytes) where
  abbrev last : List ℕ
  last = h.progress.last

  abbrev n : ℕ
  n = length last

  length_last : n ≡ at work LAST
  length_last = ap length (sym s.last) ∙ length_prefix work (at work LAST)

  figures : old ≡ figure_bytes h ++ replicate 12 0
  unfolding figure_bytes four_bytes
  figures =
      eo ∙ ap₂ (λ (x y : ℕ). begun x y (at work PLANS) (at work LAST)) s.standing s.made
      ∙ ap₂ (λ (x y : ℕ). begun (standing_byte h.standing) h.progress.made x y) s.plans (sym length_last)

  figures_length : length (figure_bytes h) ≡ 8
  unfolding figure_bytes four_bytes
  figures_length = refl

  state_is : state_bytes h ≡ figure_bytes h ++ (last ++ replicate (12 - n) 0)
  unfolding state_bytes
  state_is = append_assoc (figure_bytes h) last (replicate (12 - n) 0)

  pub told : bytes ≡ state_bytes h
  told = at_ext bytes (state_bytes h) (size_is ∙ sym state_size) (λ x l. each x (ltb x 8) refl (ltb x (8 + n)) refl (let e = size_is in omega arith))
    where
      size_is : length bytes ≡ 20
      size_is = f.size ∙ ap length eo

      state_size : length (state_bytes h) ≡ 20
      state_size =
          ap length state_is ∙ length-append (figure_bytes h) (last ++ replicate (12 - n) 0)
          ∙ (let a = figures_length in let b = length-append last (replicate (12 - n) 0) in let c = length-replicate {A = ℕ} (12 - n) 0 in let d = s.short in let e = length_last in omega arith)

      behind : (x : ℕ) → 8 ≤ x → at (state_bytes h) x ≡ at (last ++ replicate (12 - n) 0) (x - 8)
      behind x l = ap (λ (r : List ℕ). at r x) state_is ∙ at_skip (figure_bytes h) (last ++ replicate (12 - n) 0) 8 x figures_length l

      kept : (x : ℕ) → ((v : ℕ) → v < at work LAST → 8 + v ≡ x → ⊥) → at bytes x ≡ at (figure_bytes h ++ replicate 12 0) x
      kept x o = f.other x o ∙ ap (λ (r : List ℕ). at r x) figures

      each : (x : ℕ) (p : Bool) → ltb x 8 ≡ p → (q : Bool) → ltb x (8 + n) ≡ q → x < 20 → at bytes x ≡ at (state_bytes h) x
      each x true e q g m =
          let l = ltb-true x 8 e in
          let z = figures_length in
          kept x (λ v o w. omega arith) ∙ at_append (figure_bytes h) (replicate 12 0) x (omega arith) ∙ sym
          (ap (λ (r : List ℕ). at r x) state_is ∙ at_append (figure_bytes h) (last ++ replicate (12 - n) 0) x (omega arith))
      each x false e true g m =
          let l = ltb-false x 8 e in
          let o = ltb-true x (8 + n) g in
          let z = length_last in
          let y : 8 + (x - 8) ≡ x = omega arith in
          ap (at bytes) (sym y) ∙ f.here (x - 8) (omega arith) ∙ sym (prefix_at work (at work LAST) (x - 8) (omega arith)) ∙ ap (λ (r : List ℕ). at r (x - 8)) s.last
          ∙ sym (behind x l ∙ at_append last (replicate (12 - n) 0) (x - 8) (omega arith))
      each x false e false g m =
          let l = ltb-false x 8 e in
          let o = ltb-false x (8 + n) g in
          let z = length_last in
          kept x (λ v i w. omega arith) ∙ at_skip (figure_bytes h) (replicate 12 0) 8 x figures_length l ∙ at_replicate 12 (x - 8)
          ∙ sym (behind x l ∙ at_skip last (replicate (12 - n) 0) n (x - 8) refl (omega arith) ∙ at_replicate (12 - n) (x - 8 - n))
