-- Fetched tables in a sheet (specs/Inner/Claims): they stand at its third offset, and questions 14 to 16 are put to them. Assumes nothing.
use Rattle.model.specs.Kit.{◌≡◌, refl, sym, ap, ap₂, ◌∙◌, subst, Bool, true, false, not, ◌⊎◌, inl, inr, List, [], ◌∷◌, ◌++◌, ℕ, zero, suc, ◌+◌, ◌-◌, ◌*◌, ◌^◌, ◌≤◌, ◌<◌, arith, leb, ltb, eqb, length}
use Rattle.model.specs.Kit.{drop, le-leb}
use Rattle.model.specs.Sheet.{Header, «word», words, header_of, scope_at, rows_at, after_at, table_at, problem_of, header_verdict, sets_verdict, constraint_verdict, constraints_verdict, form_verdict}
use Rattle.model.specs.Sheet.{symmetries_verdict, verdict_of}
use Rattle.model.specs.{Lists.all, Lists.both, Lists.below, Lists.at, Lists.ascending, Lists.rows_ascend, Verdict.Verdict, Verdict.accepted, Verdict.ask}
use Rattle.model.proofs.Lists.{at_append, at_skip, map_ext}
use Rattle.store.specs.Store.{StoreEntry, table, is_table, table_in, call, fetch, action_verdict, reply_of, size}
use Rattle.store.specs.{Inner.Layout.store_of, Inner.Layout.verdict_on, Inner.Layout.reply_on, Inner.Claims.Early, Inner.Claims.tables_in, Inner.Claims.AskedAsAny}
use Rattle.store.proofs.Answers.{asks_more}

-- ---- an answer to an earlier question, or what is asked last
abbrev EarlyOr : Verdict → Verdict → Type 0
EarlyOr last v = Early v ⊎ (v ≡ last)

early_ask : (last : Verdict) (t : Bool) (number item : ℕ) (later : Verdict) → number ≤ 13 → EarlyOr last later → EarlyOr last (ask t number item later)
early_ask last true number item later h r = r
early_ask last false number item later h r = inl h

early_sets : (last : Verdict) (b : List ℕ) (h : Header) (xs : List ℕ) (later : Verdict) → EarlyOr last later → EarlyOr last (sets_verdict b h xs later)
unfolding sets_verdict
early_sets last b h [] later r = r
early_sets last b h (x ∷ xs) later r = early_ask last (both (ltb («word» b (16 + 2 * x)) (2 ^ h.values)) (not (eqb («word» b (16 + 2 * x)) 0))) 8 x (sets_verdict b h xs later) (omega arith)
    (early_sets last b h xs later r)

early_constraints : (last : Verdict) (b : List ℕ) (h : Header) (k i o : ℕ) (later : Verdict) → EarlyOr last later → EarlyOr last (constraints_verdict b h k i o later)
unfolding constraints_verdict constraint_verdict
early_constraints last b h zero i o later r = early_ask last (eqb o h.third) 9 i later (omega arith) r
early_constraints last b h (suc k) i o later r =
    early_ask last (leb (o + 4) h.third) 9 i _ (omega arith)
    (early_ask last (both (both (leb 1 («word» b o)) (leb («word» b o) 3)) (leb («word» b (o + 2)) 256)) 10 i _ (omega arith)
    (early_ask last (leb (after_at b o) h.third) 9 i _ (omega arith)
    (early_ask last (both (all (λ x. ltb x h.variables) (scope_at b o)) (ascending (scope_at b o))) 11 i _ (omega arith)
    (early_ask last (all (all (λ w. ltb w h.values)) (rows_at b o)) 12 i _ (omega arith)
    (early_ask last (rows_ascend (rows_at b o)) 13 i _ (omega arith)
    (early_constraints last b h k (suc i) (after_at b o) later r))))))

-- the questions 14 to 16
abbrev tables_asked : List ℕ → List (List ℕ) → Verdict
tables_asked b gs =
    let h = header_of b in
    ask (eqb h.size (h.third + 2 * (h.symmetries * (h.variables * h.values)))) 14 0 (symmetries_verdict (problem_of b) 0 gs)

early_sheet : (b : List ℕ) → EarlyOr (tables_asked b (problem_of b).symmetries) (verdict_of b)
unfolding verdict_of form_verdict header_verdict
early_sheet b =
    let h = header_of b in
    let n = h.variables in
    let d = h.values in
    let w = tables_asked b (problem_of b).symmetries in
    early_ask w (leb 16 (length b)) 1 0 _ (omega arith)
    (early_ask w (both (leb 1 n) (leb n 12)) 2 0 _ (omega arith)
    (early_ask w (both (leb 1 d) (leb d 16)) 3 0 _ (omega arith)
    (early_ask w (leb h.constraints 32) 4 0 _ (omega arith)
    (early_ask w (leb h.symmetries 16) 5 0 _ (omega arith)
    (early_ask w (eqb h.size (length b)) 6 0 _ (omega arith)
    (early_ask w (both (eqb h.first 16) (both (eqb h.second (16 + 2 * n)) (both (leb h.second h.third) (leb h.third h.size)))) 7 0 _ (omega arith)
    (early_sets w b h (below n) _
    (early_constraints w b h h.constraints 0 h.second _ (inr refl)))))))))

-- ---- the tables read from the bytes behind the third offset
at_behind : (front t : List ℕ) (i : ℕ) → at (front ++ t) (length front + i) ≡ at t i
at_behind front t i = let z : length front + i - length front ≡ i = omega arith in at_skip front t (length front) (length front + i) refl (omega arith) ∙ ap (at t) z

words_behind : (front t : List ℕ) (o k : ℕ) → words (front ++ t) (length front + o) k ≡ words t o k
unfolding words «word»
words_behind front t o k = map_ext (λ i. «word» (front ++ t) (length front + o + 2 * i)) (λ i. «word» t (o + 2 * i)) (below k) (λ i m. both_bytes (o + 2 * i) (length front + o + 2 * i) (omega arith))
  where
    both_bytes : (i j : ℕ) → j ≡ length front + i → «word» (front ++ t) j ≡ «word» t i
    both_bytes i j e =
        let z : j + 1 ≡ length front + (i + 1) = omega arith in
        ap₂ (λ (x y : ℕ). x + 256 * y) (ap (at (front ++ t)) e ∙ at_behind front t i) (ap (at (front ++ t)) z ∙ at_behind front t (i + 1))

tables_behind : (front t : List ℕ) → (header_of (front ++ t)).third ≡ length front →
    (problem_of (front ++ t)).symmetries ≡ tables_in t ((header_of (front ++ t)).variables * (header_of (front ++ t)).values) (header_of (front ++ t)).symmetries
unfolding problem_of table_at
tables_behind front t e =
    let h = header_of (front ++ t) in
    let m = h.variables * h.values in
    map_ext (λ i. words (front ++ t) (h.third + 2 * (i * m)) m) (λ i. words t (2 * (i * m)) m) (below h.symmetries)
    (λ i k. ap (λ (o : ℕ). words (front ++ t) (o + 2 * (i * m)) m) e ∙ words_behind front t (2 * (i * m)) m)

-- the third offset stands in the front
third_same : (front r t : List ℕ) → 16 ≤ length front → (header_of (front ++ r)).third ≡ (header_of (front ++ t)).third
unfolding header_of «word»
third_same front r t h =
    ap₂ (λ (x y : ℕ). x + 256 * y) (at_append front r 12 (omega arith) ∙ sym (at_append front t 12 (omega arith))) (at_append front r 13 (omega arith) ∙ sym (at_append front t 13 (omega arith)))

-- ---- the room after the fetch
room_after : (b : List ℕ) (owner key : ℕ) (room t : List ℕ) → length b ≡ size → owner < 4 → store_of b owner key ≡ table t → length t ≤ length room →
    (reply_on b (call owner key (fetch room))).room ≡ t ++ drop (length t) room
unfolding reply_on action_verdict
room_after b owner key room t whole own e l =
    let v : verdict_on b (call owner key (fetch room)) ≡ accepted =
    asks_more b owner key (fetch room) whole own ∙ ap (λ (d : StoreEntry). ask (is_table d) 34 0 (ask (leb (length (table_in d)) (length room)) 35 0 accepted)) e
    ∙ ap (λ (u : Bool). ask u 35 0 accepted) (le-leb (length t) (length room) l) in
    ap₂ (λ (w : Verdict) (d : StoreEntry). (reply_of w (fetch room) d).room) v e

pub asked_as_any : AskedAsAny
asked_as_any b owner key front room t whole own e l long third =
    let r : List ℕ = t ++ drop (length t) room in
    let f = ap (λ (x : List ℕ). front ++ x) (room_after b owner key room t whole own e l) in (
      f,
      subst (λ (s : List ℕ). EarlyOr (tables_asked s (tables_in r ((header_of s).variables * (header_of s).values) (header_of s).symmetries)) (verdict_of s)) (sym f)
          (subst (λ (gs : List (List ℕ)). EarlyOr (tables_asked (front ++ r) gs) (verdict_of (front ++ r))) (tables_behind front r (third_same front r room long ∙ third)) (early_sheet (front ++ r))),
    )
