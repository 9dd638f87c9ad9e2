-- The store over sequences of calls (specs/Inner/Claims): isolation, what a fetch gives, four keys. Assumes nothing.
use Rattle.model.specs.Kit.{◌≡◌, refl, sym, ap, ap₂, ◌∙◌, subst, Bool, true, false, not, ◌⊎◌, inl, inr, ⊎_elim, List, [], ◌∷◌, ◌++◌, Memᴰ, Memᴰ-head, Memᴰ-tail, ℕ, ◌≤◌, ◌<◌, arith, T}
use Rattle.model.specs.Kit.{leb, ltb, eqb, eqb→eq, eqb_refl, length, ltb-true, lt-ltb, le-leb, eqb-true}
use Rattle.model.specs.{Lists.both, Lists.either, Lists.choose, Lists.keep, Lists.below, Verdict.Verdict, Verdict.accepted, Verdict.refused, Verdict.ask, Verdict.is_accepted, Sheet.distinct}
use mathlib.Core.Path.{fun_ext}
use Rattle.model.proofs.Lists.{T_of, of_T, not_of, of_not, both_i, both_l, both_r, either_l, either_r, either_e, keep_i, keep_e, keep_none, Sorted, sorted_keep, sorted_below, never}
use Rattle.model.proofs.Counting.{distinct_i, no_more}
use Rattle.store.specs.Store.{StoreEntry, none, table, is_table, table_in, Entries, Store, empty_store, keys_of, Action, put, fetch, remove, StoreCall, call, action_verdict, call_verdict, entry_after}
use Rattle.store.specs.Store.{store_after, StoreReply, reply_of, owner_of, calls_of, reply_to}
use Rattle.store.specs.Inner.Claims.{store_end, replies_to, Isolated, writes, spares, all_spare, FetchesLast, FetchesNone, FourKeys, RefusedSame}

-- ---- one call
-- an owner's entries after its own call depend on its own entries alone
abbrev entries_after : ℕ → ℕ → Action → Entries → Entries
entries_after owner key a es = λ k. choose (both (both (eqb owner owner) (eqb key k)) (is_accepted (ask (ltb owner 4) 31 0 (action_verdict es key a)))) (entry_after a (es k)) (es k)

own_after : (s s' : Store) (x : StoreCall) (o : ℕ) → owner_of x ≡ o → s o ≡ s' o → store_after s x o ≡ store_after s' x o
unfolding store_after call_verdict
own_after s s' (call owner key a) o q e = subst (λ (z : ℕ). s z ≡ s' z → store_after s (call owner key a) z ≡ store_after s' (call owner key a) z) q (λ d. ap (entries_after owner key a) d) e

own_reply : (s s' : Store) (x : StoreCall) (o : ℕ) → owner_of x ≡ o → s o ≡ s' o → reply_to s x ≡ reply_to s' x
unfolding reply_to call_verdict
own_reply s s' (call owner key a) o q e =
    let d : s owner ≡ s' owner = subst (λ (z : ℕ). s z ≡ s' z) (sym q) e in
    ap (λ (es : Entries). reply_of (ask (ltb owner 4) 31 0 (action_verdict es key a)) a (es key)) d

-- another owner's call leaves them
other_after : (s : Store) (x : StoreCall) (o : ℕ) → eqb (owner_of x) o ≡ false → store_after s x o ≡ s o
unfolding store_after
other_after s (call owner key a) o e = ap (λ (b : Bool). λ (k : ℕ). choose (both (both b (eqb key k)) (is_accepted (call_verdict s (call owner key a)))) (entry_after a (s o k)) (s o k)) e

-- ---- isolation
-- the replies to one owner's calls alone
replies_alone : (o : ℕ) (s s' : Store) (xs : List StoreCall) → s o ≡ s' o → replies_to o s xs ≡ replies_to o s' (calls_of o xs)
unfolding replies_to calls_of keep
replies_alone o s s' [] e = refl
replies_alone o s s' (x ∷ xs) e = go (eqb (owner_of x) o) refl (λ r r' f. replies_alone o r r' xs f)
  where
    go : (b : Bool) → eqb (owner_of x) o ≡ b → ((r r' : Store) → r o ≡ r' o → replies_to o r xs ≡ replies_to o r' (calls_of o xs)) →
        ◌≡◌ {A = List StoreReply} (choose b (reply_to s x ∷ replies_to o (store_after s x) xs) (replies_to o (store_after s x) xs))
        (replies_to o s' (elim b [ true ↦ x ∷ calls_of o xs | false ↦ calls_of o xs ]))
    go true q ih =
        let w = eqb-true (owner_of x) o q in
        ap₂ (λ (r : StoreReply) (l : List StoreReply). r ∷ l) (own_reply s s' x o w e) (ih (store_after s x) (store_after s' x) (own_after s s' x o w e))
        ∙ sym (ap {B = List StoreReply} (λ (b : Bool). choose b (reply_to s' x ∷ replies_to o (store_after s' x) (calls_of o xs)) (replies_to o (store_after s' x) (calls_of o xs))) q)
    go false q ih = ih (store_after s x) s' (other_after s x o q ∙ e)

pub isolated : Isolated
isolated o s s' xs ys e q = replies_alone o s s xs refl ∙ ap (replies_to o s) q ∙ sym (replies_alone o s' s ys (sym e))

-- ---- what a fetch gives
ends_append : (s : Store) (xs ys : List StoreCall) → store_end s (xs ++ ys) ≡ store_end (store_end s xs) ys
unfolding store_end
ends_append s [] ys = refl
ends_append s (x ∷ xs) ys = ends_append (store_after s x) xs ys

-- a call that spares the entry leaves it
spared_once : (o k : ℕ) (s : Store) (x : StoreCall) → T (spares o k s x) → store_after s x o k ≡ s o k
unfolding store_after
spared_once o k s (call owner key a) t = go a (both (eqb owner o) (eqb key k)) (is_accepted (call_verdict s (call owner key a))) t
  where
    go : (a : Action) (b c : Bool) → T (not (both b (both c (writes a)))) → choose (both b c) (entry_after a (s o k)) (s o k) ≡ s o k
    go (put t) true true h = absurd h
    go (fetch room) true true h = refl
    go remove true true h = absurd h
    go a true false h = refl
    go a false c h = refl

spared : (o k : ℕ) (s : Store) (xs : List StoreCall) → T (all_spare o k s xs) → store_end s xs o k ≡ s o k
unfolding store_end all_spare
spared o k s [] t = refl
spared o k s (x ∷ xs) t =
    let a = spares o k s x in
    let b = all_spare o k (store_after s x) xs in
    spared o k (store_after s x) xs (both_r a b t) ∙ spared_once o k s x (both_l a b t)

-- an accepted call leaves its entry
pub here_after : (o k : ℕ) (s : Store) (a : Action) → call_verdict s (call o k a) ≡ accepted → store_after s (call o k a) o k ≡ entry_after a (s o k)
unfolding store_after
here_after o k s a e =
    ap₂ (λ (b : Bool) (v : Verdict). choose (both b (is_accepted v)) (entry_after a (s o k)) (s o k)) (of_T (both (eqb o o) (eqb k k)) (both_i (eqb o o) (eqb k k) (eqb_refl o) (eqb_refl k))) e

-- and elsewhere all is as it was
pub there_after : (s : Store) (owner key : ℕ) (a : Action) (o k : ℕ) → both (eqb owner o) (eqb key k) ≡ false → store_after s (call owner key a) o k ≡ s o k
unfolding store_after
there_after s owner key a o k e = ap (λ (b : Bool). choose (both b (is_accepted (call_verdict s (call owner key a)))) (entry_after a (s o k)) (s o k)) e

pub refused_same : RefusedSame
unfolding store_after
refused_same s (call owner key a) number item e = fun_ext (λ o. fun_ext (λ k. ap (λ (v : Verdict). choose (both (both (eqb owner o) (eqb key k)) (is_accepted v)) (entry_after a (s o k)) (s o k)) e
    ∙ go o k (both (eqb owner o) (eqb key k))))
  where
    go : (o k : ℕ) (b : Bool) → choose (both b false) (entry_after a (s o k)) (s o k) ≡ s o k
    go o k true = refl
    go o k false = refl

-- what stands there after an accepted call and calls that spare it
kept : (o k : ℕ) (xs ys : List StoreCall) (a : Action) → call_verdict (store_end empty_store xs) (call o k a) ≡ accepted → T (all_spare o k (store_after (store_end empty_store xs) (call o k a)) ys) →
    store_end empty_store (xs ++ (call o k a ∷ ys)) o k ≡ entry_after a (store_end empty_store xs o k)
unfolding store_end
kept o k xs ys a e t =
    ap (λ (s : Store). s o k) (ends_append empty_store xs (call o k a ∷ ys))
    ∙ spared o k (store_after (store_end empty_store xs) (call o k a)) ys t ∙ here_after o k (store_end empty_store xs) a e

pub ask_e : (b : Bool) (number item : ℕ) (later : Verdict) → ask b number item later ≡ accepted → T b × (later ≡ accepted)
ask_e true number item later e = (tt, e)
ask_e false number item later e = never (cc)

-- the reply to a fetch, by what stands there
fetched : (s : Store) (o k : ℕ) (room : List ℕ) (e : StoreEntry) → T (ltb o 4) → s o k ≡ e →
    reply_to s (call o k (fetch room)) ≡ reply_of (ask (is_table e) 34 0 (ask (leb (length (table_in e)) (length room)) 35 0 accepted)) (fetch room) e
unfolding reply_to call_verdict action_verdict
fetched s o k room e l q =
    ap₂ (λ (b : Bool) (d : StoreEntry). reply_of (ask b 31 0 (ask (is_table d) 34 0 (ask (leb (length (table_in d)) (length room)) 35 0 accepted))) (fetch room) d) (of_T (ltb o 4) l) q

pub fetches_last : FetchesLast
unfolding call_verdict
fetches_last o k xs ys t room e u =
    fetched (store_end empty_store (xs ++ (call o k (put t) ∷ ys))) o k room (table t) (ask_e (ltb o 4) 31 0 _ e).0 (kept o k xs ys (put t) e u)

pub fetches_none : FetchesNone
fetches_none o k room l =
    let t = T_of (ltb o 4) (lt-ltb o 4 l) in (
      λ ys u. fetched (store_end empty_store ys) o k room none t (spared o k empty_store ys u),
      λ xs ys e u. fetched (store_end empty_store (xs ++ (call o k remove ∷ ys))) o k room none t (kept o k xs ys remove e u),
    )

-- ---- four keys
sorted_distinct : (l : List ℕ) → Sorted (λ (x y : ℕ). x < y) l → T (distinct l)
unfolding distinct
sorted_distinct [] s = tt
sorted_distinct (x ∷ l) s = distinct_i x l (λ m. let h = s.0 x m in omega arith) (sorted_distinct l s.1)

pub keys_distinct : (es : Entries) → T (distinct (keys_of es))
unfolding keys_of
keys_distinct es = sorted_distinct (keep (λ k. is_table (es k)) (below 256)) (sorted_keep (λ (x y : ℕ). x < y) (λ k. is_table (es k)) (below 256) (sorted_below 256))

-- entries that have a table only where others have one, or under one key more
fewer : (es fs : Entries) → ((k : ℕ) → T (is_table (fs k)) → T (is_table (es k))) → length (keys_of fs) ≤ length (keys_of es)
unfolding keys_of
fewer es fs h = no_more (keys_of fs) (keys_of es) (keys_distinct fs)
    (λ k m. let r = keep_e (λ k. is_table (fs k)) (below 256) k m in keep_i (λ k. is_table (es k)) (below 256) k r.0 (h k r.1))

one_more : (es fs : Entries) (key : ℕ) → ((k : ℕ) → (key ≡ k → ⊥) → T (is_table (fs k)) → T (is_table (es k))) → length (keys_of fs) ≤ length (key ∷ keys_of es)
unfolding keys_of
one_more es fs key h = no_more (keys_of fs) (key ∷ keys_of es) (keys_distinct fs)
    (λ k m. let r = keep_e (λ k. is_table (fs k)) (below 256) k m in go k r.0 r.1 (eqb key k) refl)
  where
    go : (k : ℕ) → Memᴰ k (below 256) → T (is_table (fs k)) → (b : Bool) → eqb key k ≡ b → Memᴰ k (key ∷ keep (λ k. is_table (es k)) (below 256))
    go k m t true e = Memᴰ-head (sym (eqb-true key k e))
    go k m t false e = Memᴰ-tail (keep_i (λ k. is_table (es k)) (below 256) k m (h k (λ q. of_not (eqb key k) e (subst (λ (z : ℕ). T (eqb key z)) q (eqb_refl key))) t))

-- an accepted call is made where a table stands, or where a fourth key is free
taken : (es : Entries) (k : ℕ) (a : Action) → action_verdict es k a ≡ accepted → T (is_table (es k)) ⊎ (length (keys_of es) < 4)
unfolding action_verdict
taken es k (put t) e =
    let held = is_table (es k) in
    let free = ltb (length (keys_of es)) 4 in
    let r = (ask_e (either held free) 32 0 accepted (ask_e (leb (length t) 2048) 33 0 _ e).1).0 in
    ⊎_elim {C = T held ⊎ (length (keys_of es) < 4)} inl (λ u. inr (ltb-true (length (keys_of es)) 4 (of_T free u))) (either_e held free r)
taken es k (fetch room) e = inl (ask_e (is_table (es k)) 34 0 _ e).0
taken es k remove e = inl (ask_e (is_table (es k)) 34 0 _ e).0

four_own : (s : Store) (o k : ℕ) (a : Action) (v : Verdict) → call_verdict s (call o k a) ≡ v → length (keys_of (s o)) ≤ 4 → length (keys_of (store_after s (call o k a) o)) ≤ 4
unfolding call_verdict
four_own s o k a (refused number item) e l = subst (λ (r : Store). length (keys_of (r o)) ≤ 4) (sym (refused_same s (call o k a) number item e)) l
four_own s o k a accepted e l =
    ⊎_elim {C = length (keys_of after) ≤ 4} (λ t. let r = fewer (s o) after (held t) in omega arith) (λ f. let r = one_more (s o) after k other in omega arith)
    (taken (s o) k a (ask_e (ltb o 4) 31 0 (action_verdict (s o) k a) e).1)
  where
    after : Entries
    after = store_after s (call o k a) o

    other : (j : ℕ) → (k ≡ j → ⊥) → T (is_table (after j)) → T (is_table (s o j))
    other j n t = subst (λ (f : StoreEntry). T (is_table f)) (there_after s o k a o j (not_of (both (eqb o o) (eqb k j)) (λ u. n (eqb→eq k j (both_r (eqb o o) (eqb k j) u))))) t

    held : T (is_table (s o k)) → (j : ℕ) → T (is_table (after j)) → T (is_table (s o j))
    held h j t = go (eqb k j) refl
      where
        go : (b : Bool) → eqb k j ≡ b → T (is_table (s o j))
        go true q = subst (λ (z : ℕ). T (is_table (s o z))) (eqb-true k j q) h
        go false q = other j (λ r. of_not (eqb k j) q (subst (λ (z : ℕ). T (eqb k z)) r (eqb_refl k))) t

four_after : (s : Store) (x : StoreCall) (o : ℕ) → length (keys_of (s o)) ≤ 4 → length (keys_of (store_after s x o)) ≤ 4
four_after s (call owner key a) o l = go (eqb owner o) refl
  where
    go : (b : Bool) → eqb owner o ≡ b → length (keys_of (store_after s (call owner key a) o)) ≤ 4
    go true e =
        subst (λ (z : ℕ). length (keys_of (s z)) ≤ 4 → length (keys_of (store_after s (call owner key a) z)) ≤ 4) (eqb-true owner o e)
        (four_own s owner key a (call_verdict s (call owner key a)) refl) l
    go false e = subst (λ (es : Entries). length (keys_of es) ≤ 4) (sym (other_after s (call owner key a) o e)) l

four_end : (s : Store) (xs : List StoreCall) (o : ℕ) → length (keys_of (s o)) ≤ 4 → length (keys_of (store_end s xs o)) ≤ 4
unfolding store_end
four_end s [] o l = l
four_end s (x ∷ xs) o l = four_end (store_after s x) xs o (four_after s x o l)

pub four_keys : FourKeys
unfolding keys_of call_verdict action_verdict
four_keys xs o = (four_end empty_store xs o (let e = ap length (keep_none (λ k. is_table (empty_store o k)) (below 256) (λ k m t. t)) in omega arith), accepts)
  where
    es : Entries
    es = store_end empty_store xs o

    accepts : (k : ℕ) (t : List ℕ) → o < 4 → length t ≤ 2048 → (length (keys_of es) < 4) ⊎ T (is_table (es k)) → call_verdict (store_end empty_store xs) (call o k (put t)) ≡ accepted
    accepts k t l m h =
        let u : either (is_table (es k)) (ltb (length (keys_of es)) 4) ≡ true =
        ⊎_elim {C = either (is_table (es k)) (ltb (length (keys_of es)) 4) ≡ true}
        (λ f. of_T _ (either_r (is_table (es k)) (ltb (length (keys_of es)) 4) (T_of _ (lt-ltb (length (keys_of es)) 4 f)))) (λ f. of_T _ (either_l (is_table (es k)) (ltb (length (keys_of es)) 4) f))
        h in
        ap₂ (λ (a b : Bool). ask a 31 0 (ask b 33 0 (ask (either (is_table (es k)) (ltb (length (keys_of es)) 4)) 32 0 accepted))) (lt-ltb o 4 l) (le-leb (length t) 2048 m)
        ∙ ap (λ (b : Bool). ask b 32 0 accepted) u
