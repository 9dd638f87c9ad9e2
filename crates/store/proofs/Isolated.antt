-- Calls of several owners on one store (specs/Calls), from the contracts and the theorems about the bytes. Assumes nothing.
use Rattle.model.specs.Kit.{◌≡◌, refl, sym, ap, ap₂, ◌∙◌, Bool, true, false, List, [], ◌∷◌, map, ℕ, eqb}
use Rattle.model.specs.{Lists.choose, Verdict.Verdict, Verdict.accepted, Verdict.refused, Verdict.is_accepted}
use Rattle.model.proofs.Lists.{never}
use Rattle.store.specs.Store.{StoreEntry, StoreCall, call, put, fetch, remove, StoreReply, reply_of}
use Rattle.store.specs.Inner.Layout.{store_of, verdict_on, reply_on, changed, bytes_after}
use Rattle.store.specs.Calls.{Got, own, Called, none, puts, fetches, removes, IsolatedCalls}
use Rattle.std.proofs.Common.{Result, Ok, Err}
use Rattle.model.specs.{Refusals.number_of}
use Rattle.model.specs.declared.{refusals.Question.Question}
use Rattle.store.specs.{Meaning.means, Meaning.means_bytes, Meaning.with_none, Inner.Claims.replies_on}
use Rattle.store.proofs.{Calls.isolated_bytes, Named.same_question}

-- what was handed back, in the words of the definitions
abbrev meant : Got → StoreReply
meant g = record { outcome = means_bytes g.answer; room = g.room }

known : (r s : Result ℕ Question) → means_bytes r ≡ means_bytes s → r ≡ s
known (Ok k) (Ok j) e = let f : k ≡ j = cc in ap Ok f
known (Ok k) (Err q) e = never (cc)
known (Err p) (Ok k) e = never (cc)
known (Err p) (Err q) e = let f : number_of p ≡ number_of q = cc in ap Err (same_question p q f)

none_means : (r : Result Unit Question) → means_bytes (with_none r) ≡ means r
none_means (Ok done) = refl
none_means (Err asked) = refl

got_known : (g h : Got) → meant g ≡ meant h → g ≡ h
got_known g h e = λ i. record { answer = known g.answer h.answer (ap (λ (r : StoreReply). r.outcome) e) i; room = ap (λ (r : StoreReply). r.room) e i }

all_known : (gs hs : List Got) → map meant gs ≡ map meant hs → gs ≡ hs
all_known [] [] e = refl
all_known [] (h ∷ hs) e = never (cc)
all_known (g ∷ gs) [] e = never (cc)
all_known (g ∷ gs) (h ∷ hs) e = ap₂ (λ (x : Got) (l : List Got). x ∷ l) (got_known g h (let q : meant g ≡ meant h = cc in q)) (all_known gs hs (let q : map meant gs ≡ map meant hs = cc in q))

-- no room is lent to put and remove, and none comes back
no_room : (v : Verdict) (t : List ℕ) (e : StoreEntry) → ((reply_of v (put t) e).room ≡ []) × ((reply_of v remove e).room ≡ [])
no_room accepted t e = (refl, refl)
no_room (refused n i) t e = (refl, refl)

put_room : (b : List ℕ) (owner key : ℕ) (t : List ℕ) → (reply_on b (call owner key (put t))).room ≡ []
unfolding reply_on
put_room b owner key t = (no_room (verdict_on b (call owner key (put t))) t (store_of b owner key)).0

remove_room : (b : List ℕ) (owner key : ℕ) → (reply_on b (call owner key remove)).room ≡ []
unfolding reply_on
remove_room b owner key = (no_room (verdict_on b (call owner key remove)) [] (store_of b owner key)).1

-- a fetch leaves the store
same_either : (t : Bool) (b : List ℕ) → choose t b b ≡ b
same_either true b = refl
same_either false b = refl

fetch_leaves : (b : List ℕ) (owner key : ℕ) (room : List ℕ) → bytes_after b (call owner key (fetch room)) ≡ b
unfolding bytes_after changed
fetch_leaves b owner key room = same_either (is_accepted (verdict_on b (call owner key (fetch room)))) b

-- one call more
own_meant : (o owner : ℕ) (g : Got) (gs : List Got) (r : StoreReply) (rs : List StoreReply) → meant g ≡ r → map meant gs ≡ rs → map meant (own o owner g gs) ≡ choose (eqb owner o) (r ∷ rs) rs
own_meant o owner g gs r rs e q = go (eqb owner o)
  where
    go : (t : Bool) → map meant (choose t (g ∷ gs) gs) ≡ choose t (r ∷ rs) rs
    go true = ap₂ (λ (x : StoreReply) (l : List StoreReply). x ∷ l) e q
    go false = q

reply_is : (g : Got) (r : StoreReply) → means_bytes g.answer ≡ r.outcome → g.room ≡ r.room → meant g ≡ r
reply_is g r e q = λ i. record { outcome = e i; room = q i }

replies : (o : ℕ) (b : List ℕ) (xs : List StoreCall) (gs : List Got) → Called o b xs gs → map meant gs ≡ replies_on o b xs
unfolding replies_on
replies o b xs gs (none c) = refl
replies o b xs gs (puts c c' owner key t r ys hs p q) =
    own_meant o owner (record { answer = with_none r; room = [] }) hs (reply_on c (call owner key (put t))) (replies_on o (bytes_after c (call owner key (put t))) ys)
    (reply_is (record { answer = with_none r; room = [] }) (reply_on c (call owner key (put t))) (none_means r ∙ p.0) (sym (put_room c owner key t)))
    (replies o c' ys hs q ∙ ap (λ (d : List ℕ). replies_on o d ys) p.1.0)
replies o b xs gs (fetches c owner key room r room' ys hs p q) =
    own_meant o owner (record { answer = r; room = room' }) hs (reply_on c (call owner key (fetch room))) (replies_on o (bytes_after c (call owner key (fetch room))) ys)
    (reply_is (record { answer = r; room = room' }) (reply_on c (call owner key (fetch room))) p.0 p.1)
    (replies o c ys hs q ∙ ap (λ (d : List ℕ). replies_on o d ys) (sym (fetch_leaves c owner key room)))
replies o b xs gs (removes c c' owner key r ys hs p q) =
    own_meant o owner (record { answer = with_none r; room = [] }) hs (reply_on c (call owner key remove)) (replies_on o (bytes_after c (call owner key remove)) ys)
    (reply_is (record { answer = with_none r; room = [] }) (reply_on c (call owner key remove)) (none_means r ∙ p.0) (sym (remove_room c owner key)))
    (replies o c' ys hs q ∙ ap (λ (d : List ℕ). replies_on o d ys) p.1.0)

pub isolated_calls : IsolatedCalls
isolated_calls o b b' xs ys gs hs sb sb' bx by c d e q =
    all_known gs hs (replies o b xs gs c ∙ isolated_bytes o b b' xs ys sb sb' bx by e q ∙ sym (replies o b' ys hs d))
