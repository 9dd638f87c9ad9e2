-- A scan on the first n of sixteen sets, step by step: how `Passed` goes on with each entry, and how it ends. Assumes nothing.
use Rattle.model.specs.Kit.{◌≡◌, refl, sym, ap, ◌∙◌, subst, Bool, true, false, List, [], ◌∷◌, map, ℕ, ◌^◌, ◌≤◌, ◌<◌, arith, dec_lt, T, eqb, length, set, take, length-set, get_or-take, length-take-le}
use Rattle.model.specs.Kit.{eqb-true, eqb-false}
use Rattle.model.specs.{Lists.at, ValueSets.without_mask, ValueSets.only_mask, ValueSets.any_empty, ValueSets.Inside, Nogood.Entry, Nogood.equality, Nogood.disequality, Nogood.obeys_from}
use Rattle.model.specs.{Nogood.filtered}
use lib.Seq.{take-set-lt}
use Rattle.model.proofs.{Lists.either_l, Lists.at_out, Lists.at_set_other, Lists.set_each, Lists.never, Sets.at_zeros, Sets.empty_i, Sets.inside_refl, Sets.inside_trans}
use Rattle.filter.specs.declared.entry.Step.TheVariants.{Next, Failed, Obeyed, Split}
use Rattle.filter.specs.Inner.Scan.{step_of, after, cut_step, keep_step, models, None, Some, Live, Passed, Remainder, Right}
use Rattle.filter.proofs.Scan

-- ---- what each step says
next_cut : (b : Bool) → cut_step b ≡ Next → b ≡ false
next_cut true e = never (cc)
next_cut false e = refl

failed_cut : (b : Bool) → cut_step b ≡ Failed → b ≡ true
failed_cut true e = refl
failed_cut false e = never (cc)

pub never_obeyed : (b : Bool) → cut_step b ≡ Obeyed → ⊥
never_obeyed true e = never (cc)
never_obeyed false e = never (cc)

never_failed : (b c : Bool) → keep_step b c ≡ Failed → ⊥
never_failed true c e = never (cc)
never_failed false true e = never (cc)
never_failed false false e = never (cc)

pub next_keep : (b c : Bool) → keep_step b c ≡ Next → b ≡ true
next_keep true c e = refl
next_keep false true e = never (cc)
next_keep false false e = never (cc)

pub obeyed_keep : (b c : Bool) → keep_step b c ≡ Obeyed → c ≡ true
obeyed_keep true c e = never (cc)
obeyed_keep false true e = refl
obeyed_keep false false e = never (cc)

split_keep : (b c : Bool) → keep_step b c ≡ Split → (b ≡ false) × (c ≡ false)
split_keep true c e = never (cc)
split_keep false true e = never (cc)
split_keep false false e = (refl, refl)

-- ---- the first n sets
module _ {n : ℕ} {ss : List ℕ} (l : Live n ss) where
  pub front_length : length (take n ss) ≡ n
  front_length = length-take-le n ss (omega (arith, l.few, l.sixteen))

  pub front_at : (x : ℕ) → x < n → at (take n ss) x ≡ at ss x
  unfolding at
  front_at x h = get_or-take n ss x 0 h

  front_lt : (x : ℕ) → x < n → x < length (take n ss)
  front_lt x h = subst (λ (k : ℕ). x < k) (sym front_length) h

  whole_lt : (x : ℕ) → x < n → x < length ss
  whole_lt x h = omega (arith, l.few, l.sixteen)

  pub front_small : Scan.Small (take n ss)
  front_small x = go (dec_lt x n)
    where
      go : Dec (x < n) → at (take n ss) x < 2 ^ 16
      go (yes h) = subst (λ (s : ℕ). s < 2 ^ 16) (sym (front_at x h)) (l.small x)
      go (no h) = subst (λ (s : ℕ). s < 2 ^ 16) (sym (at_out (take n ss) x (subst (λ (k : ℕ). k ≤ x) (sym front_length) (omega arith)))) (omega arith)

  pub front_full : Scan.Full (take n ss)
  front_full x h e = let k : x < n = subst (λ (m : ℕ). x < m) front_length h in l.full x k (sym (front_at x k) ∙ e)

  -- a set stored among them
  module _ (x s : ℕ) (h : x < n) where
    pub live_set : s < 2 ^ 16 → (s ≡ 0 → ⊥) → Live n (set ss x s)
    live_set b f =
        record {
          few = l.few;
          sixteen = length-set ss x s ∙ l.sixteen;
          small = Scan.small_set ss x s (whole_lt x h) l.small b;
          full = λ y k. set_each (λ z t. t ≡ 0 → ⊥) ss x s y (whole_lt x h) f (λ e. l.full y k);
        }

    pub unused_set : (y : ℕ) → n ≤ y → at (set ss x s) y ≡ at ss y
    unused_set y k = at_set_other ss x s y (λ e. omega arith)

    -- the same of the front alone
    front_set : take n (set ss x s) ≡ set (take n ss) x s
    front_set = take-set-lt n ss x s h

  -- a value taken from one of them
  pub without_front : (x v : ℕ) → x < n → take n (set ss x (without_mask (at ss x) v)) ≡ set (take n ss) x (without_mask (at (take n ss) x) v)
  without_front x v h = front_set x (without_mask (at ss x) v) h ∙ ap (λ (t : ℕ). set (take n ss) x (without_mask t v)) (sym (front_at x h))

  pub without_less : (x v : ℕ) → x < n → Inside (take n (set ss x (without_mask (at ss x) v))) (take n ss)
  without_less x v h = subst (λ (l : List ℕ). Inside l (take n ss)) (sym (without_front x v h)) (Scan.cut_inside (take n ss) x (Scan.other v) (front_lt x h))

-- ---- a scan goes on
pub begin : {n : ℕ} {ss : List ℕ} (es : List Entry) → Live n ss → Passed n ss es ss es
begin {n} {ss} es l = record { live = l; less = inside_refl (take n ss); unused = λ x h. refl; same = λ q. refl }

module _ {n : ℕ} {ss : List ℕ} {es : List Entry} {rs : List ℕ} where
  -- the entries left, in other words
  pub pass_as : {fs gs : List Entry} → fs ≡ gs → Passed n ss es rs fs → Passed n ss es rs gs
  pass_as e p = subst (λ (l : List Entry). Passed n ss es rs l) e p

  pub pass_next : (e : Entry) (fs : List Entry) → Passed n ss es rs (e ∷ fs) → Right n e → step_of rs e ≡ Next → Passed n ss es (after rs e) fs
  pass_next (disequality x v) fs p r e =
      let s : ℕ = without_mask (at rs x) v in
      record {
        live = live_set p.live x s r.0 (Scan.without_lt (at rs x) v) (eqb-false s 0 (next_cut (eqb s 0) e));
        less = inside_trans (take n (set rs x s)) (take n rs) (take n ss) (without_less p.live x v r.0) p.less;
        unused = λ y k. unused_set p.live x s r.0 y k ∙ p.unused y k;
        same = λ q. p.same q ∙ Scan.at_disequality (take n rs) x v fs q (front_lt p.live x r.0)
            ∙ ap (λ (l : List ℕ). models l fs q) (sym (without_front p.live x v r.0));
      }
  pass_next (equality x v) fs p r e =
      record {
        live = p.live;
        less = p.less;
        unused = p.unused;
        same = λ q. p.same q ∙ Scan.at_always (take n rs) x v fs q (front_lt p.live x r.0) (front_small p.live x)
            (ap (λ (t : ℕ). without_mask t v) (front_at p.live x r.0) ∙ eqb-true _ 0 (next_keep _ (eqb (only_mask (at rs x) v) 0) e));
      }

  pub pass_failed_lem : (e : Entry) (fs : List Entry) → Passed n ss es rs (e ∷ fs) → Right n e → step_of rs e ≡ Failed → None n ss es
  pass_failed_lem (disequality x v) fs p r e q =
      p.same q ∙ Scan.at_disequality (take n rs) x v fs q (front_lt p.live x r.0)
      ∙ Scan.stored_empty (take n rs) x _ fs q (front_lt p.live x r.0) (ap (λ (t : ℕ). without_mask t v) (front_at p.live x r.0) ∙ eqb-true _ 0 (failed_cut _ e))
  pass_failed_lem (equality x v) fs p r e q = absurd (never_failed (eqb (without_mask (at rs x) v) 0) (eqb (only_mask (at rs x) v) 0) e)

  pub pass_obeyed : (e : Entry) (fs : List Entry) → Passed n ss es rs (e ∷ fs) → Right n e → step_of rs e ≡ Obeyed → Passed n ss es rs []
  pass_obeyed (disequality x v) fs p r e = absurd (never_obeyed (eqb (without_mask (at rs x) v) 0) e)
  pass_obeyed (equality x v) fs p r e =
      record {
        live = p.live;
        less = p.less;
        unused = p.unused;
        same = λ q. p.same q ∙ Scan.at_never (take n rs) x v fs q (front_lt p.live x r.0) (front_small p.live x)
            (ap (λ (t : ℕ). only_mask t v) (front_at p.live x r.0) ∙ eqb-true _ 0 (obeyed_keep (eqb (without_mask (at rs x) v) 0) _ e));
      }

  -- ---- it ends at the last entry
  pub ended : Passed n ss es rs [] → length (take n ss) ≡ n → Remainder n ss es rs
  ended p k =
      record {
        live = p.live;
        unused = p.unused;
        left = Scan.filtered_end (take n rs) (front_small p.live) (front_full p.live)
            ∙ sym (Scan.filtered_same (take n ss) es (take n rs) [] (k ∙ sym (front_length p.live)) p.same);
      }

  pub ended_some : Passed n ss es rs [] → Some n ss es
  unfolding obeys_from
  ended_some p =
      let d = Scan.drawable (take n rs) (front_small p.live) (front_full p.live) in
      subst T (sym (p.same (λ a. true))) (Scan.models_i (take n rs) [] (λ a. true) d.0 d.1 tt tt)

  -- ---- it ends at an equality that some assignments break
  module _ (x v : ℕ) (fs : List Entry) (p : Passed n ss es rs (equality x v ∷ fs)) (r : Right n (equality x v)) (e : step_of rs (equality x v) ≡ Split) where
    some_out : without_mask (at rs x) v ≡ 0 → ⊥
    some_out = eqb-false _ 0 (split_keep (eqb (without_mask (at rs x) v) 0) (eqb (only_mask (at rs x) v) 0) e).0

    some_on : only_mask (at rs x) v ≡ 0 → ⊥
    some_on = eqb-false _ 0 (split_keep (eqb (without_mask (at rs x) v) 0) (eqb (only_mask (at rs x) v) 0) e).1

    front_out : without_mask (at (take n rs) x) v ≡ 0 → ⊥
    front_out z = some_out (sym (ap (λ (t : ℕ). without_mask t v) (front_at p.live x r.0)) ∙ z)

    pub split_some : Some n ss es
    unfolding obeys_from
    split_some =
        let h = front_lt p.live x r.0 in
        let c = set (take n rs) x (without_mask (at (take n rs) x) v) in
        let d = Scan.drawable c (Scan.small_set (take n rs) x _ h (front_small p.live) (Scan.without_lt (at (take n rs) x) v)) (Scan.full_set (take n rs) x _ h (front_full p.live) front_out) in
        subst T (sym (p.same (λ a. true) ∙ Scan.at_equality (take n rs) x v fs (λ a. true) h))
        (either_l (models c [] (λ a. true)) _ (Scan.models_i c [] (λ a. true) d.0 d.1 tt tt))

    -- the sets with the pair forced
    abbrev forced : List ℕ
    forced = set rs x (only_mask (at rs x) v)

    pub forced_live : Live n forced
    forced_live = live_set p.live x _ r.0 (Scan.only_lt (at rs x) v) some_on

    front_forced : take n forced ≡ set (take n rs) x (only_mask (at (take n rs) x) v)
    front_forced = front_set p.live x _ r.0 ∙ ap (λ (t : ℕ). set (take n rs) x (only_mask t v)) (sym (front_at p.live x r.0))

    same_end : length (take n ss) ≡ n → filtered (take n ss) es ≡ filtered (take n rs) (equality x v ∷ fs)
    same_end k = Scan.filtered_same (take n ss) es (take n rs) (equality x v ∷ fs) (k ∙ sym (front_length p.live)) p.same

    -- no assignment has it: the value goes
    pub split_gone : length (take n ss) ≡ n → None n forced fs → Remainder n ss es (after rs (disequality x v))
    split_gone k z =
        record {
          live = live_set p.live x _ r.0 (Scan.without_lt (at rs x) v) some_out;
          unused = λ y h. unused_set p.live x _ r.0 y h ∙ p.unused y h;
          left = front_set p.live x _ r.0 ∙ ap (λ (t : ℕ). set (take n rs) x (without_mask t v)) (sym (front_at p.live x r.0))
              ∙ Scan.split_gone (take n rs) x v fs (front_small p.live) (front_full p.live) (front_lt p.live x r.0) front_out
              (λ q. ap (λ (l : List ℕ). models l fs q) (sym front_forced) ∙ z q)
              ∙ sym (same_end k);
        }

    -- one has it: nothing goes
    pub split_kept : length (take n ss) ≡ n → Some n forced fs → Remainder n ss es rs
    split_kept k z =
        record {
          live = p.live;
          unused = p.unused;
          left = Scan.split_kept (take n rs) x v fs (front_small p.live) (front_full p.live) (front_lt p.live x r.0) front_out
              (subst (λ (l : List ℕ). T (models l fs (λ a. true))) front_forced z)
              ∙ sym (same_end k);
        }

-- what the filter leaves after the entries that were passed, it leaves of all
pub left_after : {n : ℕ} {ss : List ℕ} {es : List Entry} {rs : List ℕ} {fs : List Entry} {ts : List ℕ} → Passed n ss es rs fs → Remainder n rs fs ts → length (take n ss) ≡ n → Remainder n ss es ts
left_after {n} {ss} {es} {rs} {fs} p l k =
    record {
      live = l.live;
      unused = λ x h. l.unused x h ∙ p.unused x h;
      left = l.left ∙ sym (Scan.filtered_same (take n ss) es (take n rs) fs (k ∙ sym (front_length p.live)) p.same);
    }

-- ---- what an outcome says of the sets that the filter leaves
pub none_empty : (n : ℕ) (ss : List ℕ) (es : List Entry) → 0 < n → n ≤ length ss → None n ss es → T (any_empty (filtered (take n ss) es))
none_empty n ss es h l z =
    subst (λ (rs : List ℕ). T (any_empty rs)) (Scan.filtered_none (take n ss) es z)
    (empty_i (map (λ s. 0) (take n ss)) 0 (subst (λ (k : ℕ). 0 < k) (sym (lib.ListN.length-map (take n ss) (λ s. 0) ∙ length-take-le n ss l)) h) (at_zeros (take n ss) 0))
