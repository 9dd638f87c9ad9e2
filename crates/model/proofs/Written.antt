-- Texts put into a buffer one after the other: the buffer keeps its length, and two texts are one. Assumes nothing.
use Rattle.model.specs.Kit.{◌≡◌, refl, sym, ap, ◌∙◌, subst, List, [], ◌∷◌, ◌++◌, append_assoc, append-nil, ℕ, ◌+◌, ◌-◌, ◌≤◌, ◌<◌, add-one, arith, length, take, drop, set, length-append}
use Rattle.model.specs.Kit.{length-drop, take-append-drop, get_or-drop, length-take-le}
use Rattle.model.specs.{Lists.at, Lists.tabulate, Written.placed, Written.Written, Written.Fronted}
use native.Mathlib.Nat.{add-zero, zero-add}
use lib.Seq.{take_at, drop_at, drop-drop, set_split, paste, take-length}
use Rattle.model.proofs.Lists.{at_append, at_skip, at_take, tabulate_snoc}

module _ (d : List ℕ) (at : ℕ) (t : List ℕ) (fits : at + length t ≤ length d) where
  -- the bytes up to the end of the text
  length_head : length (take at d ++ t) ≡ at + length t
  length_head = length-append (take at d) t ∙ ap (λ (k : ℕ). k + length t) (length-take-le at d (omega arith))

  pub length_placed : length (placed d at t) ≡ length d
  unfolding placed
  length_placed =
      let e : length (drop (at + length t) d) + (at + length t) ≡ length d = omega (arith, length-drop (at + length t) d) in
      omega (arith, length-append (take at d ++ t) (drop (at + length t) d), length_head)

  -- a text put after the text
  pub placed_then : (u : List ℕ) → placed (placed d at t) (at + length t) u ≡ placed d at (t ++ u)
  unfolding placed
  placed_then u =
      let p : List ℕ = take at d ++ t in
      let q : List ℕ = drop (at + length t) d in
      let n : ℕ = at + length t in
      let e : at + length (t ++ u) ≡ n + length u = omega (arith, length-append t u) in
      ap (λ (l : List ℕ). l ++ u ++ drop (n + length u) (p ++ q)) (take_at p q n length_head)
      ∙ ap (λ (l : List ℕ). p ++ u ++ l)
      (sym (drop-drop (length u) n (p ++ q)) ∙ ap (drop (length u)) (drop_at p q n length_head) ∙ drop-drop (length u) n d)
      ∙ ap (λ (l : List ℕ). l ++ drop (n + length u) d) (append_assoc (take at d) t u)
      ∙ ap (λ (k : ℕ). take at d ++ (t ++ u) ++ drop k d) (sym e)

-- ---- byte by byte
module _ (b : List ℕ) (p : ℕ) (t : List ℕ) (fits : p + length t ≤ length b) where
  front : length (take p b) ≡ p
  front = length-take-le p b (omega arith)

  head : length (take p b ++ t) ≡ p + length t
  head = let e = length-append (take p b) t in let f = front in omega arith

  pub placed_before : (i : ℕ) → i < p → at (placed b p t) i ≡ at b i
  unfolding placed
  placed_before i h =
      let e = head in
      let f = front in
      at_append (take p b ++ t) (drop (p + length t) b) i (omega arith) ∙ at_append (take p b) t i (omega arith) ∙ at_take p b i h

  pub placed_in : (i : ℕ) → i < length t → at (placed b p t) (p + i) ≡ at t i
  unfolding placed
  placed_in i h =
      let e = head in
      let z : p + i - p ≡ i = omega arith in
      at_append (take p b ++ t) (drop (p + length t) b) (p + i) (omega arith) ∙ at_skip (take p b) t p (p + i) front (omega arith) ∙ ap (at t) z

  pub placed_after : (i : ℕ) → p + length t ≤ i → at (placed b p t) i ≡ at b i
  unfolding placed at
  placed_after i h =
      let z : p + length t + (i - (p + length t)) ≡ i = omega arith in
      at_skip (take p b ++ t) (drop (p + length t) b) (p + length t) i head h ∙ get_or-drop (p + length t) b (i - (p + length t)) 0 ∙ ap (at b) z

-- the empty text changes nothing
pub placed_none : (d : List ℕ) (at : ℕ) → placed d at [] ≡ d
unfolding placed
placed_none d at =
    ap (λ (l : List ℕ). l ++ drop (at + 0) d) (append-nil (take at d))
    ∙ ap (λ (k : ℕ). take at d ++ drop k d) (add-zero at)
    ∙ take-append-drop at d

-- ---- in the words of the contracts
pub written_none : (d : List ℕ) (at : ℕ) → Written d at [] d at
written_none d at = record { bytes = sym (placed_none d at); ends = sym (add-zero at) }

pub written_length : {d : List ℕ} {at : ℕ} {t e : List ℕ} {n : ℕ} → at + length t ≤ length d → Written d at t e n → length e ≡ length d
written_length {d} {at} {t} fits w = ap length w.bytes ∙ length_placed d at t fits

-- one text and then another are one text
pub written_then : {d : List ℕ} {at : ℕ} {t e : List ℕ} {n : ℕ} {u f : List ℕ} {m : ℕ} → n ≤ length d → Written d at t e n → Written e n u f m → Written d at (t ++ u) f m
written_then {d} {at} {t} {e} {n} {u} {f} {m} fits v w =
    record {
      bytes =
          w.bytes
          ∙ ap (λ (l : List ℕ). placed l n u) v.bytes
          ∙ ap (λ (k : ℕ). placed (placed d at t) k u) v.ends
          ∙ placed_then d at t (omega (arith, v.ends)) u;
      ends = omega (arith, length-append t u, w.ends, v.ends);
    }

-- one byte stored
pub written_byte : (d : List ℕ) (at b : ℕ) → at < length d → Written d at (b ∷ []) (set d at b) (at + 1)
unfolding placed
written_byte d at b h = record { bytes = bytes; ends = refl }
  where
    bytes : set d at b ≡ placed d at (b ∷ [])
    bytes = set_split d at b h ∙ ap (λ (k : ℕ). take at d ++ b ∷ drop k d) (sym (add-one at)) ∙ sym (append_assoc (take at d) (b ∷ []) (drop (at + 1) d))

-- all bytes of a text copied
pub written_paste : (d : List ℕ) (at : ℕ) (t : List ℕ) (i : ℕ) → i ≡ length t → Written d at t (paste d at t i) (at + i)
unfolding placed
written_paste d at t i e = record { bytes = bytes; ends = ap (λ (k : ℕ). at + k) e }
  where
    bytes : paste d at t i ≡ placed d at t
    bytes = ap (λ (k : ℕ). paste d at t k) e ∙ ap (λ (l : List ℕ). take at d ++ l ++ drop (at + length t) d) (take-length t)

-- a text at the place 0 stands at the front
pub fronted : {d t e : List ℕ} {n : ℕ} → Written d 0 t e n → Fronted d t e n
unfolding placed
fronted {d} {t} w = record { bytes = w.bytes ∙ front; count = w.ends ∙ zero-add (length t) }
  where
    front : placed d 0 t ≡ t ++ drop (length t) d
    front = ap (λ (k : ℕ). t ++ drop k d) (zero-add (length t))

-- values are written one behind the other
pub written_start : (d : List ℕ) (start : ℕ) (f : ℕ → ℕ) → Written d start (tabulate 0 f) d (start + 0)
unfolding tabulate
written_start d start f = let z : start ≡ start + 0 = omega arith in subst (λ (k : ℕ). Written d start [] d k) z (written_none d start)

pub written_turn : (d e : List ℕ) (start i v : ℕ) (f : ℕ → ℕ) → start + i < length d → length e ≡ length d → v ≡ f i → Written d start (tabulate i f) e (start + i) →
    Written d start (tabulate (i + 1) f) (set e (start + i) v) (start + (i + 1))
written_turn d e start i v f h n q w =
    let same : tabulate i f ++ (v ∷ []) ≡ tabulate (i + 1) f = ap (λ (x : ℕ). tabulate i f ++ (x ∷ [])) q ∙ sym (tabulate_snoc i f) ∙ ap (λ (k : ℕ). tabulate k f) (sym (add-one i)) in
    let ends : start + i + 1 ≡ start + (i + 1) = omega arith in
    subst (λ (k : ℕ). Written d start (tabulate (i + 1) f) (set e (start + i) v) k) ends
    (subst (λ (l : List ℕ). Written d start l (set e (start + i) v) (start + i + 1)) same (written_then (omega arith) w (written_byte e (start + i) v (omega arith))))
