-- Twelve counts as bytes. Assumes nothing.
use Rattle.model.specs.Kit.{◌≡◌, refl, sym, ap, ◌∙◌, subst, List, [], ◌∷◌, ◌++◌, ℕ, ◌+◌, ◌*◌, ◌≤◌, ◌<◌, add-one, arith, length, take, get_or, length-append, take_all}
use Rattle.model.specs.{Lists.at, Bytes.four_bytes, Written.Written}
use lib.Seq.{take-suc}
use Rattle.model.proofs.Written.{written_then, written_none}
use Rattle.wire.specs.Wire.{three_numbers}
use Rattle.export_counts.specs.Tallied.{numbers_of}
use Rattle.wire.proofs.Numbers.{whole}

-- ---- numbers of four bytes
pub length_numbers : (ks : List ℕ) → length (numbers_of ks) ≡ 4 * length ks
unfolding numbers_of four_bytes
length_numbers [] = refl
length_numbers (k ∷ ks) = omega (arith, length_numbers ks)

numbers_append : (a b : List ℕ) → numbers_of (a ++ b) ≡ numbers_of a ++ numbers_of b
unfolding numbers_of four_bytes
numbers_append [] b = refl
numbers_append (k ∷ a) b = ap (λ (l : List ℕ). four_bytes k ++ l) (numbers_append a b)

pub numbers_start : (d : List ℕ) (start : ℕ) → Written d start (numbers_of []) d start
unfolding numbers_of
numbers_start d start = written_none d start

one_number : (k : ℕ) → numbers_of (k ∷ []) ≡ four_bytes k
unfolding numbers_of four_bytes
one_number k = refl

-- one number more
pub numbers_turn : {d e : List ℕ} {at : ℕ} {f : List ℕ} {m : ℕ} (start i : ℕ) (ks : List ℕ) → i < length ks → at ≤ length d → Written d start (numbers_of (take i ks)) e at → Written e at
    (four_bytes (get_or ks i 0)) f m → Written d start (numbers_of (take (i + 1) ks)) f m
numbers_turn {d} {e} {at} {f} {m} start i ks h fits v w =
    let same : numbers_of (take (i + 1) ks) ≡ numbers_of (take i ks) ++ four_bytes (get_or ks i 0) =
    ap (λ (k : ℕ). numbers_of (take k ks)) (add-one i) ∙ ap numbers_of (take-suc ks i 0 h) ∙ numbers_append (take i ks) (get_or ks i 0 ∷ []) ∙ ap (λ (l : List ℕ). numbers_of (take i ks) ++ l)
    (one_number (get_or ks i 0)) in
    subst (λ (l : List ℕ). Written d start l f m) (sym same) (written_then fits v w)

-- after twelve turns all counts are written
pub numbers_all : {d e : List ℕ} {at : ℕ} (start i : ℕ) (ks : List ℕ) → length ks ≡ 12 → 12 ≤ i → i ≤ 12 → at ≡ start + 4 * i → Written d start (numbers_of (take i ks)) e at → Written d start
    (numbers_of ks) e (start + 48)
numbers_all {d} {e} {at} start i ks n l m h w =
    let ends : at ≡ start + 48 = omega arith in
    subst (λ (k : ℕ). Written d start (numbers_of ks) e k) ends (subst (λ (q : List ℕ). Written d start (numbers_of q) e at) (take_all i ks (omega arith)) w)

-- three numbers and twelve counts fill sixty bytes
pub put_counts : {d e : List ℕ} {r : ℕ} {f : List ℕ} {s : ℕ} {g : List ℕ} {t : ℕ} {h : List ℕ} {u : ℕ} (kind a b : ℕ) (ks : List ℕ) → length d ≡ 60 → length ks ≡ 12 →
    Written d 0 (four_bytes kind) e r → Written e r (four_bytes a) f s → Written f s (four_bytes b) g t → Written g t (numbers_of ks) h u → h ≡ three_numbers kind a b ++ numbers_of ks
unfolding four_bytes three_numbers
put_counts kind a b ks l n u v w x =
    whole (omega (arith, length-append (three_numbers kind a b) (numbers_of ks), length_numbers ks))
    (written_then (omega (arith, u.ends, v.ends, w.ends)) (written_then (omega (arith, u.ends, v.ends)) (written_then (omega (arith, u.ends)) u v) w) x)
