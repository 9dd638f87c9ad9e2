-- The pieces of a head as they are made: a digest byte by byte, a path value by value, texts one behind the other. Assumes nothing.
use Rattle.model.specs.Kit.{◌≡◌, refl, sym, ap, ap₂, ◌∙◌, subst, List, [], ◌∷◌, ◌++◌, ℕ, suc, ◌+◌, ◌*◌, ◌%◌, ◌≤◌, ◌<◌, min, add-one, arith, length, take, get_or, set, length-take, take_all}
use Rattle.model.specs.Kit.{get_or-take}
use Rattle.model.specs.{Lists.at, Lists.tabulate, Bytes.four_bytes, Written.Written}
use lib.Seq.{take-suc}
use Rattle.model.proofs.{Lists.length_tabulate, Lists.at_out, Written.written_byte, Written.written_then}
use Rattle.wire.specs.Wire.{three_numbers}
use Rattle.export_counts.specs.Tallied.{numbers_of}
use Rattle.export_counts.proofs.Tallied.{length_numbers}
use Rattle.export_parts.specs.Head.{digest_from, digest, name_bytes, path_bytes}

-- ---- digests
digest_snoc : (base h : ℕ) (xs : List ℕ) (x : ℕ) → digest_from base h (xs ++ (x ∷ [])) ≡ (digest_from base h xs * base + x + 1) % 2147483647
unfolding digest_from
digest_snoc base h [] x = refl
digest_snoc base h (y ∷ xs) x = digest_snoc base ((h * base + y + 1) % 2147483647) xs x

pub digest_none : (base : ℕ) → 1 ≡ digest base []
unfolding digest digest_from
digest_none base = refl

pub digest_turn : (base i h x r : ℕ) (bytes : List ℕ) → i < length bytes → h ≡ digest base (take i bytes) → x ≡ get_or bytes i 0 → r ≡ (h * base + x + 1) % 2147483647 → r ≡ digest base
    (take (i + 1) bytes)
unfolding digest
digest_turn base i h x r bytes l e f g =
    g ∙ ap₂ (λ (a y : ℕ). (a * base + y + 1) % 2147483647) e f ∙ sym (digest_snoc base 1 (take i bytes) (get_or bytes i 0)) ∙ ap (digest_from base 1)
    (sym (take-suc bytes i 0 l) ∙ ap (λ (k : ℕ). take k bytes) (sym (add-one i)))

pub digest_all : (base i h : ℕ) (bytes : List ℕ) → length bytes ≤ i → h ≡ digest base (take i bytes) → h ≡ digest base bytes
digest_all base i h bytes l e = e ∙ ap (digest base) (take_all i bytes l)

-- ---- values one behind the other
pub values_all : (d e : List ℕ) (start i : ℕ) (f : ℕ → ℕ) → i ≡ 12 → Written d start (tabulate i f) e (start + i) → Written d start (tabulate 12 f) e (start + 12)
values_all d e start i f h w = subst (λ (k : ℕ). Written d start (tabulate k f) e (start + k)) h w

-- ---- a path
pub value_in : (path : List ℕ) (n i k : ℕ) → k ≡ min n (length path) → i < k → get_or path i 0 ≡ at (take n path) i
unfolding at
value_in path n i k e h = sym (get_or-take n path i 0 (omega arith))

pub value_behind : (path : List ℕ) (n i k : ℕ) → k ≡ min n (length path) → k ≤ i → 0 ≡ at (take n path) i
value_behind path n i k e h = sym (at_out (take n path) i (omega (arith, length-take n path)))

pub kept_is : (path : List ℕ) (n k m : ℕ) → m ≡ min n (length path) → k ≡ min 12 m → k ≡ length (take 12 (take n path))
kept_is path n k m e f = f ∙ ap (min 12) (e ∙ sym (length-take n path)) ∙ sym (length-take 12 (take n path))

pub length_path : (path : List ℕ) → length (path_bytes path) ≡ 13
unfolding path_bytes
length_path path = ap suc (length_tabulate 12 (at path))

pub path_put : (d e f : List ℕ) (start : ℕ) (path : List ℕ) (kept m : ℕ) → start + 13 ≤ length d → kept ≡ length (take 12 path) → e ≡ set d start kept → Written e (start + 1)
    (tabulate 12 (at path)) f m → m ≡ start + 13 →
    Written d start (path_bytes path) f (start + 13)
unfolding path_bytes
path_put d e f start path kept m h k q w n =
    let one = subst (λ (l : List ℕ). Written d start (kept ∷ []) l (start + 1)) (sym q) (written_byte d start kept (omega arith)) in
    let two = written_then (omega arith) one w in
    subst (λ (j : ℕ). Written d start (length (take 12 path) ∷ tabulate 12 (at path)) f j) n
    (subst (λ (x : ℕ). Written d start (x ∷ tabulate 12 (at path)) f m) k two)

-- ---- texts one behind the other
-- three numbers and twelve counts
pub figures_put : {d e : List ℕ} {r : ℕ} {f : List ℕ} {s : ℕ} {g : List ℕ} {t : ℕ} {h : List ℕ} {o : ℕ} (kind a b : ℕ) (ks : List ℕ) → length d ≡ 115 → length ks ≡ 12 →
    Written d 0 (four_bytes kind) e r → Written e r (four_bytes a) f s → Written f s (four_bytes b) g t → Written g t (numbers_of ks) h o → Written d 0 (three_numbers kind a b ++ numbers_of ks) h 60
unfolding four_bytes three_numbers
figures_put {d} {e} {r} {f} {s} {g} {t} {h} {o} kind a b ks l n u v w x =
    let all = written_then (omega (arith, u.ends, v.ends, w.ends)) (written_then (omega (arith, u.ends, v.ends)) (written_then (omega (arith, u.ends)) u v) w) x in
    let ends : o ≡ 60 = omega (arith, u.ends, v.ends, w.ends, x.ends, length_numbers ks) in
    subst (λ (k : ℕ). Written d 0 (three_numbers kind a b ++ numbers_of ks) h k) ends all

-- four digests
pub name_put : {d e : List ℕ} {r : ℕ} {f : List ℕ} {s : ℕ} {g : List ℕ} {t : ℕ} {h : List ℕ} {u : ℕ} (b pairs block : List ℕ) (x y z v : ℕ) → length d ≡ 115 →
    x ≡ digest 1000003 b → y ≡ digest 65599 b → z ≡ digest 1000003 pairs → v ≡ digest 1000003 block →
    Written d 60 (four_bytes x) e r → Written e r (four_bytes y) f s → Written f s (four_bytes z) g t → Written g t (four_bytes v) h u → Written d 60 (name_bytes b pairs block) h 76
unfolding four_bytes name_bytes numbers_of
name_put {d} {e} {r} {f} {s} {g} {t} {h} {u} b pairs block x y z v l i j k m o p q w =
    let all = written_then (omega (arith, o.ends, p.ends, q.ends)) (written_then (omega (arith, o.ends, p.ends)) (written_then (omega (arith, o.ends)) o p) q) w in
    let ends : u ≡ 76 = omega (arith, o.ends, p.ends, q.ends, w.ends) in
    let same : numbers_of (x ∷ y ∷ z ∷ v ∷ []) ≡ name_bytes b pairs block =
    ap₂ (λ (a c : ℕ). numbers_of (a ∷ c ∷ z ∷ v ∷ [])) i j ∙ ap₂ (λ (a c : ℕ). numbers_of (digest 1000003 b ∷ digest 65599 b ∷ a ∷ c ∷ [])) k m in
    subst (λ (n : ℕ). Written d 60 (name_bytes b pairs block) h n) ends (subst (λ (a : List ℕ). Written d 60 a h u) same all)

-- three paths
pub paths_put : {d e f g : List ℕ} (from upto last : List ℕ) (n a c : ℕ) → length d ≡ 115 → a ≡ length from → c ≡ length upto →
    Written d 76 (path_bytes (take a from)) e (76 + 13) → Written e 89 (path_bytes (take c upto)) f (89 + 13) → Written f 102 (path_bytes (take n last)) g (102 + 13) →
    Written d 76 (path_bytes from ++ path_bytes upto ++ path_bytes (take n last)) g 115
paths_put {d} {e} {f} {g} from upto last n a c l i j u v w =
    let all = written_then (omega arith) (written_then (omega arith) u v) w in
    let same = ap₂ (λ (x y : List ℕ). path_bytes x ++ path_bytes y ++ path_bytes (take n last)) (take_all a from (omega arith)) (take_all c upto (omega arith)) in
    subst (λ (x : List ℕ). Written d 76 x g 115) same all
