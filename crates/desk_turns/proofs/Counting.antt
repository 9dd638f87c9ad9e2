-- The counts put into a slot's bytes, one after the other. Assumes nothing.
use Rattle.model.specs.Kit.{◌≡◌, sym, ap, ap₂, ◌∙◌, List, [], ◌∷◌, ◌++◌, map, append-nil, ℕ, ◌+◌, ◌*◌, ◌≤◌, ◌<◌, add-one, arith, length, take, take_all, length-take-le}
use Rattle.model.specs.{Lists.at, Lists.flat, Bytes.four_bytes, Written.placed}
use lib.Seq.{take-suc}
use Rattle.model.proofs.{Lists.flat_append, Lists.map_append, Written.placed_then, Written.placed_none}
use Rattle.desk.specs.Inner.Layout.{count_bytes}
use Rattle.desk.proofs.Counts.{count_length}

-- one count more
next_bytes : (ks : List ℕ) (x : ℕ) → x < length ks → count_bytes (take (x + 1) ks) ≡ count_bytes (take x ks) ++ four_bytes (at ks x)
unfolding count_bytes flat at
next_bytes ks x l =
    ap (λ (k : ℕ). flat (map four_bytes (take k ks))) (add-one x) ∙ ap (λ (m : List ℕ). flat (map four_bytes m)) (take-suc ks x 0 l)
    ∙ ap flat (map_append four_bytes (take x ks) (at ks x ∷ [])) ∙ flat_append (map four_bytes (take x ks)) (four_bytes (at ks x) ∷ []) ∙ ap (λ (m : List ℕ). flat (map four_bytes (take x ks)) ++ m)
    (append-nil (four_bytes (at ks x)))

pub counts_begin : (d ks : List ℕ) (o : ℕ) → d ≡ placed d o (count_bytes (take 0 ks))
unfolding count_bytes flat
counts_begin d ks o = sym (placed_none d o)

pub counts_turn : (d ks : List ℕ) (o x : ℕ) (cur new t : List ℕ) → x < length ks → o + 4 * length ks ≤ length d → cur ≡ placed d o (count_bytes (take x ks)) → t ≡ four_bytes (at ks x)
    → new ≡ placed cur (o + 4 * x) t →
    new ≡ placed d o (count_bytes (take (x + 1) ks))
counts_turn d ks o x cur new t l fits e f g =
    let n : length (count_bytes (take x ks)) ≡ 4 * x = count_length (take x ks) ∙ ap (λ (k : ℕ). 4 * k) (length-take-le x ks (omega arith)) in
    g ∙ ap₂ (λ (u v : List ℕ). placed u (o + 4 * x) v) e f ∙ ap (λ (k : ℕ). placed (placed d o (count_bytes (take x ks))) (o + k) (four_bytes (at ks x))) (sym n)
    ∙ placed_then d o (count_bytes (take x ks)) (omega arith) (four_bytes (at ks x)) ∙ ap (placed d o) (sym (next_bytes ks x l))

pub counts_end : (d ks : List ℕ) (o x : ℕ) (cur : List ℕ) → length ks ≤ x → cur ≡ placed d o (count_bytes (take x ks)) → cur ≡ placed d o (count_bytes ks)
counts_end d ks o x cur l e = e ∙ ap (λ (m : List ℕ). placed d o (count_bytes m)) (take_all x ks l)
