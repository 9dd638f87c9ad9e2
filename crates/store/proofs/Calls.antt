-- A call on bytes is the call on the store that they mean (specs/Calls, specs/Inner/Claims). Assumes nothing.
use Rattle.model.specs.Kit.{◌≡◌, refl, sym, ap, ap₂, ◌∙◌, subst, Bool, true, false, List, [], ◌∷◌, Memᴰ-head, Memᴰ-tail, ℕ, zero, suc, ◌+◌, ◌-◌, ◌≤◌, ◌<◌, arith, leb, ltb, eqb, leb→le}
use Rattle.model.specs.Kit.{length, set, replicate, length-replicate, ltb-true, ltb-false, eqb-true, eqb-false, eq-eqb, ne_eqb}
use Rattle.model.specs.{Lists.both, Lists.either, Lists.choose, Lists.at, Verdict.Verdict, Verdict.accepted, Verdict.refused, Verdict.ask, Verdict.is_accepted, Written.placed}
use mathlib.Core.Path.{fun_ext}
use lib.Seq.{set_out}
use Rattle.model.proofs.{Lists.of_T, Lists.at_replicate, Lists.set_each, Written.length_placed, Written.placed_before, Written.placed_in, Written.placed_after}
use Rattle.store.specs.Store.{is_table, Store, keys_of, Action, put, fetch, remove, StoreCall, call, action_verdict, call_verdict, entry_after, store_after, StoreReply, reply_of, owner_of, size}
use Rattle.store.specs.Store.{reply_to}
use Rattle.store.specs.Inner.Claims.{store_end, replies_to, bytes_end, replies_on, AllCalls, IsolatedBytes}
use Rattle.store.specs.Calls.{EachCall, StoreBytes, ByteCall, ByteCalls, ZerosEmpty, OtherSize}
use Rattle.store.specs.Inner.Layout.{slot_at, holds, slot_with, store_of, slot_for, slot_bytes, freed, changed, verdict_on, reply_on, bytes_after}
use Rattle.store.proofs.Slots.{holds_free, with_is, entry_none, put_here, put_there, put_elsewhere, remove_here, remove_there, remove_elsewhere, freed_length}
use Rattle.store.proofs.{Store.here_after, Store.there_after, Store.refused_same, Store.ask_e, Store.isolated, Free.room_left}

-- ---- what the bytes mean after a call
-- other bytes that mean the same but under one owner and key
changed_to : (b c : List ℕ) (o key : ℕ) (a : Action) → call_verdict (store_of b) (call o key a) ≡ accepted → store_of c o key ≡ entry_after a (store_of b o key) →
    ((k : ℕ) → (key ≡ k → ⊥) → store_of c o k ≡ store_of b o k) → ((o' k : ℕ) → (o ≡ o' → ⊥) → store_of c o' k ≡ store_of b o' k) → store_of c ≡ store_after (store_of b) (call o key a)
changed_to b c o key a v here there elsewhere = fun_ext (λ o'. fun_ext (λ k. go o' k (eqb o o') refl (eqb key k) refl))
  where
    go : (o' k : ℕ) (x : Bool) → eqb o o' ≡ x → (y : Bool) → eqb key k ≡ y → store_of c o' k ≡ store_after (store_of b) (call o key a) o' k
    go o' k false e y f = elsewhere o' k (eqb-false o o' e) ∙ sym (there_after (store_of b) o key a o' k (ap (λ (x : Bool). both x (eqb key k)) e))
    go o' k true e false f =
        subst (λ (z : ℕ). store_of c z k ≡ store_of b z k) (eqb-true o o' e) (there k (eqb-false key k f)) ∙ sym (there_after (store_of b) o key a o' k (ap₂ both e f))
    go o' k true e true f =
        subst (λ (z : ℕ). store_of c z k ≡ store_after (store_of b) (call o key a) z k) (eqb-true o o' e)
        (subst (λ (z : ℕ). store_of c o z ≡ store_after (store_of b) (call o key a) o z) (eqb-true key k f) (here ∙ sym (here_after o key (store_of b) a v)))

-- where a put is accepted there is a slot for it
pub record PutFits (b : List ℕ) (o key : ℕ) (t : List ℕ) : Type 0 where
  pub owner : o < 4
  pub short : length t ≤ 2048
  pub slot : slot_for b o key < 4

put_fits : (b : List ℕ) (o key : ℕ) (t : List ℕ) → ((i : ℕ) → at b i < 256) → call_verdict (store_of b) (call o key (put t)) ≡ accepted → PutFits b o key t
unfolding call_verdict action_verdict
put_fits b o key t bytes e =
    let x = ask_e (ltb o 4) 31 0 _ e in
    let y = ask_e (leb (length t) 2048) 33 0 _ x.1 in
    let z = ask_e (either (is_table (store_of b o key)) (ltb (length (keys_of (store_of b o))) 4)) 32 0 accepted y.1 in
    let l = ltb-true o 4 (of_T _ x.0) in
    record { owner = l; short = leb→le (length t) 2048 y.0; slot = ltb-true (slot_for b o key) 4 (sym (room_left b o l bytes key) ∙ of_T _ z.0) }

remove_owner : (b : List ℕ) (o key : ℕ) → call_verdict (store_of b) (call o key remove) ≡ accepted → o < 4
unfolding call_verdict
remove_owner b o key e = ltb-true o 4 (of_T _ (ask_e (ltb o 4) 31 0 _ e).0)

changed_means : (b : List ℕ) (x : StoreCall) → StoreBytes b → call_verdict (store_of b) x ≡ accepted → store_of (changed b x) ≡ store_after (store_of b) x
changed_means b (call o key (put t)) g e =
    let f = put_fits b o key t g.1 e in
    changed_to b _ o key (put t) e (put_here b g.0 o key t f.owner f.short f.slot) (put_there b g.0 o key t f.owner f.short f.slot)
    (put_elsewhere b g.0 o key t f.owner f.short f.slot)
changed_means b (call o key (fetch room)) g e = changed_to b b o key (fetch room) e refl (λ k n. refl) (λ o' k n. refl)
changed_means b (call o key remove) g e =
    let l = remove_owner b o key e in
    changed_to b (freed b o key 4) o key remove e (remove_here b o key g.0 l) (remove_there b o key g.0 l) (remove_elsewhere b o key g.0 l)

-- ---- bytes of any length
module _ (b : List ℕ) (x : StoreCall) where
  pub after_accepted : verdict_on b x ≡ accepted → bytes_after b x ≡ changed b x
  unfolding bytes_after
  after_accepted e = ap (λ (v : Verdict). choose (is_accepted v) (changed b x) b) e

  pub after_refused : {number item : ℕ} → verdict_on b x ≡ refused number item → bytes_after b x ≡ b
  unfolding bytes_after
  after_refused e = ap (λ (v : Verdict). choose (is_accepted v) (changed b x) b) e

  pub verdict_whole : length b ≡ size → verdict_on b x ≡ call_verdict (store_of b) x
  unfolding verdict_on
  verdict_whole e = ap (λ (t : Bool). ask t 255 0 (call_verdict (store_of b) x)) (eq-eqb (length b) size e)

  pub verdict_wrong : (length b ≡ size → ⊥) → verdict_on b x ≡ refused 255 0
  unfolding verdict_on
  verdict_wrong n = ap (λ (t : Bool). ask t 255 0 (call_verdict (store_of b) x)) (ne_eqb (length b) size n)

  pub means_after : StoreBytes b → store_of (bytes_after b x) ≡ store_after (store_of b) x
  means_after g = go (verdict_on b x) refl
    where
      go : (v : Verdict) → verdict_on b x ≡ v → store_of (bytes_after b x) ≡ store_after (store_of b) x
      go accepted e = ap store_of (after_accepted e) ∙ changed_means b x g (sym (verdict_whole g.0) ∙ e)
      go (refused number item) e = ap store_of (after_refused e) ∙ sym (refused_same (store_of b) x number item (sym (verdict_whole g.0) ∙ e))

-- ---- bytes stay bytes
module _ (b : List ℕ) (p : ℕ) (t : List ℕ) (fits : p + length t ≤ length b) where
  placed_bytes : ((i : ℕ) → at b i < 256) → ((i : ℕ) → at t i < 256) → (i : ℕ) → at (placed b p t) i < 256
  placed_bytes h k i = go (ltb i p) refl (ltb i (p + length t)) refl
    where
      go : (x : Bool) → ltb i p ≡ x → (y : Bool) → ltb i (p + length t) ≡ y → at (placed b p t) i < 256
      go true e y f = subst (λ (z : ℕ). z < 256) (sym (placed_before b p t fits i (ltb-true i p e))) (h i)
      go false e true f =
          let l = ltb-false i p e in
          let m = ltb-true i (p + length t) f in
          let z : p + (i - p) ≡ i = omega arith in
          subst (λ (z : ℕ). z < 256) (sym (ap (at (placed b p t)) (sym z) ∙ placed_in b p t fits (i - p) (omega arith))) (k (i - p))
      go false e false f = subst (λ (z : ℕ). z < 256) (sym (placed_after b p t fits i (ltb-false i (p + length t) f))) (h i)

slot_bytes_lem : (key : ℕ) (t : List ℕ) → key < 256 → length t ≤ 2048 → ((i : ℕ) → at t i < 256) → (i : ℕ) → at (slot_bytes key t) i < 256
unfolding slot_bytes at
slot_bytes_lem key t h l k zero = omega arith
slot_bytes_lem key t h l k (suc zero) = h
slot_bytes_lem key t h l k (suc (suc zero)) = omega arith
slot_bytes_lem key t h l k (suc (suc (suc zero))) = omega arith
slot_bytes_lem key t h l k (suc (suc (suc (suc i)))) = k i

freed_bytes : (b : List ℕ) (o key n : ℕ) → ((i : ℕ) → at b i < 256) → (i : ℕ) → at (freed b o key n) i < 256
unfolding freed
freed_bytes b o key zero h i = h i
freed_bytes b o key (suc n) h i = go (holds (freed b o key n) key (slot_at o n)) (freed_bytes b o key n h)
  where
    go : (t : Bool) → ((i : ℕ) → at (freed b o key n) i < 256) → at (choose t (set (freed b o key n) (slot_at o n) 0) (freed b o key n)) i < 256
    go true ih = zeroed (ltb (slot_at o n) (length (freed b o key n))) refl
      where
        zeroed : (t : Bool) → ltb (slot_at o n) (length (freed b o key n)) ≡ t → at (set (freed b o key n) (slot_at o n) 0) i < 256
        zeroed true e = set_each (λ j v. v < 256) (freed b o key n) (slot_at o n) 0 i (ltb-true (slot_at o n) (length (freed b o key n)) e) (omega arith) (λ m. ih i)
        zeroed false e = subst (λ (l : List ℕ). at l i < 256) (sym (set_out (freed b o key n) (slot_at o n) 0 (ltb-false (slot_at o n) (length (freed b o key n)) e))) (ih i)
    go false ih = ih i

changed_bytes : (b : List ℕ) (x : StoreCall) → StoreBytes b → ByteCall x → call_verdict (store_of b) x ≡ accepted → StoreBytes (changed b x)
unfolding slot_bytes
changed_bytes b (call o key (put t)) g k e =
    let f = put_fits b o key t g.1 e in
    let p : ℕ = slot_at o (slot_for b o key) in
    let l = f.owner in
    let m = f.short in
    let n = f.slot in
    let q : p + length (slot_bytes key t) ≤ length b = omega (arith, g.0) in
    (length_placed b p (slot_bytes key t) q ∙ g.0, placed_bytes b p (slot_bytes key t) q g.1 (slot_bytes_lem key t k.0 m k.1))
changed_bytes b (call o key (fetch room)) g k e = g
changed_bytes b (call o key remove) g k e = (freed_length b o key 4 ∙ g.0, freed_bytes b o key 4 g.1)

-- ---- the claims
pub each_call : EachCall
unfolding reply_on reply_to
each_call b (call o key a) g k = (
  ap (λ (v : Verdict). reply_of v a (store_of b o key)) (verdict_whole b (call o key a) g.0),
  means_after b (call o key a) g,
  go (verdict_on b (call o key a)) refl,
)
  where
    go : (v : Verdict) → verdict_on b (call o key a) ≡ v → StoreBytes (bytes_after b (call o key a))
    go accepted e = subst StoreBytes (sym (after_accepted b (call o key a) e)) (changed_bytes b (call o key a) g k (sym (verdict_whole b (call o key a) g.0) ∙ e))
    go (refused number item) e = subst StoreBytes (sym (after_refused b (call o key a) e)) g

pub other_size : OtherSize
unfolding reply_on
other_size b o key a n =
    let e = verdict_wrong b (call o key a) n in
    (ap (λ (v : Verdict). reply_of v a (store_of b o key)) e, after_refused b (call o key a) e)

same_replies : (o : ℕ) (b : List ℕ) (xs : List StoreCall) → StoreBytes b → ByteCalls xs → replies_on o b xs ≡ replies_to o (store_of b) xs
unfolding replies_on replies_to
same_replies o b [] g k = refl
same_replies o b (x ∷ xs) g k =
    let r = each_call b x g (k x (Memᴰ-head refl)) in
    go (eqb (owner_of x) o) r.0 (same_replies o (bytes_after b x) xs r.2 (λ y m. k y (Memᴰ-tail m)) ∙ ap (λ (s : Store). replies_to o s xs) r.1)
  where
    go : (t : Bool) → reply_on b x ≡ reply_to (store_of b) x → replies_on o (bytes_after b x) xs ≡ replies_to o (store_after (store_of b) x) xs →
        ◌≡◌ {A = List StoreReply} (choose t (reply_on b x ∷ replies_on o (bytes_after b x) xs) (replies_on o (bytes_after b x) xs))
        (choose t (reply_to (store_of b) x ∷ replies_to o (store_after (store_of b) x) xs) (replies_to o (store_after (store_of b) x) xs))
    go true e f = ap₂ (λ (r : StoreReply) (l : List StoreReply). r ∷ l) e f
    go false e f = f

same_end : (b : List ℕ) (xs : List StoreCall) → StoreBytes b → ByteCalls xs → (store_of (bytes_end b xs) ≡ store_end (store_of b) xs) × StoreBytes (bytes_end b xs)
unfolding bytes_end store_end
same_end b [] g k = (refl, g)
same_end b (x ∷ xs) g k =
    let r = each_call b x g (k x (Memᴰ-head refl)) in
    let i = same_end (bytes_after b x) xs r.2 (λ y m. k y (Memᴰ-tail m)) in
    (i.0 ∙ ap (λ (s : Store). store_end s xs) r.1, i.1)

pub all_calls : AllCalls
all_calls b xs g k = let e = same_end b xs g k in (e.0, λ o. same_replies o b xs g k, e.1)

pub isolated_bytes : IsolatedBytes
isolated_bytes o b b' xs ys g g' k k' e q = same_replies o b xs g k ∙ isolated o (store_of b) (store_of b') xs ys e q ∙ sym (same_replies o b' ys g' k')

pub zeros_empty : ZerosEmpty
zeros_empty = (
  (length-replicate {A = ℕ} size 0, λ i. subst (λ (z : ℕ). z < 256) (sym (at_replicate size i)) (omega arith)),
  fun_ext (λ o. fun_ext (λ k. entry_none (replicate size 0) o k (omega (arith, none_has o k)))),
)
  where
    none_has : (o k : ℕ) → slot_with (replicate size 0) o k ≡ 4
    none_has o k = with_is (replicate size 0) o k 4 (omega arith) (λ i h. holds_free (replicate size 0) k (slot_at o i) (at_replicate size (slot_at o i))) (λ h. absurd (omega arith))
