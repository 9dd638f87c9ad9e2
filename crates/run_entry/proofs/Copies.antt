-- Plans that are listed once more, with other values in front. Assumes nothing.
use Rattle.model.specs.Kit.{◌≡◌, refl, sym, ap, ap₂, ◌∙◌, subst, List, [], ◌∷◌, ◌++◌, Memᴰ, Memᴰ-head, Memᴰ-tail, map, ℕ, suc, ◌+◌, ◌-◌, ◌*◌, ◌≤◌, ◌<◌, ◌⊎◌, inl, inr, ℕ_discrete, dec_lt}
use Rattle.model.specs.Kit.{mul-le-mul_right, arith, length, length-append, length-drop, drop, set, length-set}
use Rattle.model.specs.{Lists.at, Problem.Problem}
use Rattle.model.proofs.{Lists.at_append, Lists.at_skip, Lists.at_set, Lists.at_set_other, Lists.at_drop, Written.placed_before, Written.placed_in}
use Rattle.order.specs.Reordered.{position, write}
use Rattle.order.proofs.Reordered.{write_at, stand_place}
use Rattle.arrays.specs.Inner.Places.{VARIABLES, ROOM, PLANS, ALL, FULL, ROWS, FIRST, WORK}
use Rattle.run_alike.specs.Inner.Alike.{moved}
use Rattle.run_passed.specs.Inner.Passed.{noted_all}
use Rattle.run_state.specs.{Inner.Walk.State, Inner.Walk.no_nodes, Inner.Walk.noted, Inner.Memo.Stand, Inner.Pair.prefix_of, Inner.Pair.settling, Inner.Pair.order_in}
use Rattle.run_state.specs.Inner.Pair.{ListRoom, Listed}
use Rattle.run_state.proofs.Walk.{noted_none, noted_over, length_noted, length_write, listed_kept, listed_full}
use Rattle.run_state.proofs.{Memo.Stay, Prefix.length_prefix, Prefix.prefix_at, Prefix.prefix_is, Written.order_at, Written.length_order, Written.settling_inside}
use Rattle.run_entry.specs.Inner.Entry.{Loaded, Copies, CopyLeft, CopiedTo, Copied, PlansPut}

-- ---- rows that are noted
noted_before : (i : ℕ) (row list : List ℕ) → ((length list ≡ 0 → ⊥) → i + length row ≤ length list) → (j : ℕ) → j < i → at (noted i row list) j ≡ at list j
noted_before i row list h j l = go (ℕ_discrete (length list) 0)
  where
    go : Dec (length list ≡ 0) → at (noted i row list) j ≡ at list j
    go (yes e) = ap (λ (m : List ℕ). at m j) (noted_none i row list e)
    go (no e) = ap (λ (m : List ℕ). at m j) (noted_over i row list e) ∙ placed_before list i row (h e) j l

-- the plans listed stay where one more is found
module _ (n room : ℕ) (order work list work' list' : List ℕ) (stop : ℕ) (r : ListRoom n room list (at work PLANS)) (o : length order ≡ n) (w : Listed n room order work list work' list' stop) where
  abbrev row_found : List ℕ
  row_found = write order (prefix_of work n)

  abbrev from_here : State
  from_here = record { tally = no_nodes; plans = at work PLANS; stop = ALL; list = list; last = [] }

  abbrev to_there : State
  to_there = record { tally = no_nodes; plans = at work' PLANS; stop = stop; list = list'; last = [] }

  stay_kept : at work PLANS < room → Stay n work list work' list'
  stay_kept l = record {
    plans = omega (arith, ap (λ (u : State). u.plans) e);
    long = ap length (ap (λ (u : State). u.list) e) ∙ length_noted (at work PLANS * n) row_found list fits;
    bytes = λ i u. ap (λ (q : List ℕ). at q i) (ap (λ (u : State). u.list) e) ∙ noted_before (at work PLANS * n) row_found list fits i u;
  }
    where
      e : to_there ≡ record { tally = no_nodes; plans = suc (at work PLANS); stop = ALL; list = noted (at work PLANS * n) row_found list; last = [] }
      e = w.state no_nodes [] ∙ listed_kept n room row_found from_here l

      fits : (length list ≡ 0 → ⊥) → at work PLANS * n + length row_found ≤ length list
      fits z = let m : suc (at work PLANS) * n ≤ room * n = mul-le-mul_right n l in omega (arith, length_write order (prefix_of work n), o, r.fits z)

  stay_full : room ≤ at work PLANS → Stay n work list work' list'
  stay_full l = record {
    plans = omega (arith, ap (λ (u : State). u.plans) e);
    long = ap length (ap (λ (u : State). u.list) e);
    bytes = λ i u. ap (λ (q : List ℕ). at q i) (ap (λ (u : State). u.list) e);
  }
    where
      e : to_there ≡ record { tally = no_nodes; plans = at work PLANS; stop = FULL; list = list; last = [] }
      e = w.state no_nodes [] ∙ listed_full n room row_found from_here (omega arith)

  pub listed_stay : Stay n work list work' list'
  listed_stay = go (dec_lt (at work PLANS) room)
    where
      go : Dec (at work PLANS < room) → Stay n work list work' list'
      go (yes l) = stay_kept l
      go (no l) = stay_full (omega arith)

module _ (n : ℕ) where
  -- rows of n bytes that have room
  fits_one : (i : ℕ) (row : List ℕ) (rows : List (List ℕ)) (list : List ℕ) → length row ≡ n → ((length list ≡ 0 → ⊥) → (i + suc (length rows)) * n ≤ length list) →
      (length list ≡ 0 → ⊥) → i * n + length row ≤ length list
  fits_one i row rows list e h o =
      let m : suc i * n ≤ (i + suc (length rows)) * n = mul-le-mul_right n (omega arith) in
      let a = h o in omega arith

  fits_rest : (i : ℕ) (row : List ℕ) (rows : List (List ℕ)) (list : List ℕ) → length row ≡ n → ((length list ≡ 0 → ⊥) → (i + suc (length rows)) * n ≤ length list) →
      (length (noted (i * n) row list) ≡ 0 → ⊥) → (suc i + length rows) * n ≤ length (noted (i * n) row list)
  fits_rest i row rows list e h o =
      let s = length_noted (i * n) row list (fits_one i row rows list e h) in
      let q : suc i + length rows ≡ i + suc (length rows) = omega arith in
      subst (λ (k : ℕ). (suc i + length rows) * n ≤ k) (sym s) (subst (λ (k : ℕ). k * n ≤ length list) (sym q) (h (λ z. o (s ∙ z))))

  pub all_before : (i : ℕ) (rows : List (List ℕ)) (list : List ℕ) → ((r : List ℕ) → Memᴰ r rows → length r ≡ n) → ((length list ≡ 0 → ⊥) → (i + length rows) * n ≤ length list) →
      (length (noted_all n i rows list) ≡ length list) × ((j : ℕ) → j < i * n → at (noted_all n i rows list) j ≡ at list j)
  unfolding noted_all
  all_before i [] list sized h = (refl, λ j l. refl)
  all_before i (row ∷ rows) list sized h =
      let e = sized row (Memᴰ-head refl) in
      let ih = all_before (suc i) rows (noted (i * n) row list) (λ r m. sized r (Memᴰ-tail m)) (fits_rest i row rows list e h) in (
        ih.0 ∙ length_noted (i * n) row list (fits_one i row rows list e h),
        λ j l. ih.1 j (omega arith) ∙ noted_before (i * n) row list (fits_one i row rows list e h) j l,
      )

  pub all_stand : (i : ℕ) (rows : List (List ℕ)) (list : List ℕ) → ((r : List ℕ) → Memᴰ r rows → length r ≡ n) → ((length list ≡ 0 → ⊥) → (i + length rows) * n ≤ length list) →
      (length list ≡ 0 → ⊥) → Stand n i rows (noted_all n i rows list)
  unfolding noted_all Stand
  all_stand i [] list sized h o = tt
  all_stand i (row ∷ rows) list sized h o =
      let e = sized row (Memᴰ-head refl) in
      let f = fits_one i row rows list e h in
      let s = length_noted (i * n) row list f in
      let b = all_before (suc i) rows (noted (i * n) row list) (λ r m. sized r (Memᴰ-tail m)) (fits_rest i row rows list e h) in (
        λ j l. b.1 (i * n + j) (omega arith) ∙ ap (λ (m : List ℕ). at m (i * n + j)) (noted_over (i * n) row list o) ∙ placed_in list (i * n) row (f o) j (omega arith),
        all_stand (suc i) rows (noted (i * n) row list) (λ r m. sized r (Memᴰ-tail m)) (fits_rest i row rows list e h) (λ z. o (sym s ∙ z)),
      )

  pub all_none : (i : ℕ) (rows : List (List ℕ)) (list : List ℕ) → length list ≡ 0 → noted_all n i rows list ≡ list
  unfolding noted_all
  all_none i [] list e = refl
  all_none i (row ∷ rows) list e = ap (noted_all n (suc i) rows) (noted_none (i * n) row list e) ∙ all_none (suc i) rows list e

-- ---- a row is read
pub loaded_none : (numbers list : List ℕ) (k from : ℕ) (work : List ℕ) → Loaded numbers list k k from work work
loaded_none numbers list k from work = record { values = λ i l u. absurd (omega arith); small = λ i l u. absurd (omega arith); others = λ i l. refl; long = refl }

pub loaded_turn : (numbers list : List ℕ) (k i from : ℕ) (work work₁ : List ℕ) → k ≤ i → i < 12 → length work ≡ WORK → at list (from + settling numbers i) < 256 → Loaded numbers list k i
    from work work₁ →
    Loaded numbers list k (i + 1) from work (set work₁ i (at list (from + settling numbers i)))
loaded_turn numbers list k i from work work₁ l u long byte h = record {
  values = λ j a b. value j a b (ℕ_discrete j i);
  small = λ j a b. less j a b (ℕ_discrete j i);
  others = λ j o. at_set_other work₁ i v j (apart j o) ∙ h.others j (wider j o);
  long = length-set work₁ i v ∙ h.long;
}
  where
    v : ℕ
    v = at list (from + settling numbers i)

    value : (j : ℕ) → k ≤ j → j < i + 1 → Dec (j ≡ i) → at (set work₁ i v) j ≡ at list (from + settling numbers j)
    value j a b (yes e) = subst (λ (x : ℕ). at (set work₁ i v) x ≡ at list (from + settling numbers x)) (sym e) (at_set work₁ i v (omega (arith, h.long)))
    value j a b (no n) = at_set_other work₁ i v j n ∙ h.values j a (omega arith)

    less : (j : ℕ) → k ≤ j → j < i + 1 → Dec (j ≡ i) → at (set work₁ i v) j < 256
    less j a b (yes e) = subst (λ (x : ℕ). at (set work₁ i v) x < 256) (sym e) (subst (λ (x : ℕ). x < 256) (sym (at_set work₁ i v (omega (arith, h.long)))) byte)
    less j a b (no n) = subst (λ (x : ℕ). x < 256) (sym (at_set_other work₁ i v j n)) (h.small j a (omega arith))

    apart : (j : ℕ) → (j < k) ⊎ (i + 1 ≤ j) → j ≡ i → ⊥
    apart j (inl a) e = omega arith
    apart j (inr a) e = omega arith

    wider : (j : ℕ) → (j < k) ⊎ (i + 1 ≤ j) → (j < k) ⊎ (i ≤ j)
    wider j (inl a) = inl a
    wider j (inr a) = inr (omega arith)

-- ---- which plans an entry has
pub plans_put : (work : List ℕ) (plans s : ℕ) → s + FIRST < length work → PlansPut work plans s (set (set work (s + FIRST) plans) (s + ROWS) (at work PLANS - plans))
plans_put work plans s l = record {
  first = at_set_other (set work (s + FIRST) plans) (s + ROWS) v (s + FIRST) (λ e. omega arith) ∙ at_set work (s + FIRST) plans l;
  rows = at_set (set work (s + FIRST) plans) (s + ROWS) v (omega (arith, length-set work (s + FIRST) plans));
  others = λ i a b. at_set_other (set work (s + FIRST) plans) (s + ROWS) v i b ∙ at_set_other work (s + FIRST) plans i a;
  long = length-set (set work (s + FIRST) plans) (s + ROWS) v ∙ length-set work (s + FIRST) plans;
}
  where
    v : ℕ
    v = at work PLANS - plans

-- ---- the loop
module _ (numbers work list : List ℕ) (k s : ℕ) (h : Copies numbers work list k s) where
  abbrev n : ℕ
  n = at numbers VARIABLES

  abbrev order : List ℕ
  order = order_in numbers n

  abbrev a : List ℕ
  a = prefix_of work k

  -- a problem of so many variables
  abbrev any : Problem
  any = record { variables = n; values = 0; initial = []; constraints = []; symmetries = [] }

  module _ (some : length list ≡ 0 → ⊥) where
    pub copy_none : CopiedTo numbers work list k s 0 work list
    copy_none = record {
      plans = let e : at work PLANS ≡ at work PLANS + 0 = omega arith in e;
      before = λ i l. refl;
      others = λ i l o. refl;
      long = refl;
      sized = refl;
      bytes = λ i l. refl;
      left = λ ts z. record {
        left = ts;
        many = (let e : length ts + 0 ≡ length ts = omega arith in e) ∙ z.0;
        sized = z.1;
        stand = subst (λ (i : ℕ). Stand n i (map (write order) ts) list) (let e : at work (s + FIRST) ≡ at work (s + FIRST) + 0 = omega arith in e) (z.2 some);
        same = ap (λ (i : ℕ). noted_all n i (map (write order) (map (moved a) ts)) list) (let e : at work PLANS ≡ at work PLANS + 0 = omega arith in e);
      };
    }

    module _ (r : ℕ) (work₁ list₁ : List ℕ) (c : CopiedTo numbers work list k s r work₁ list₁) (more : r < at work (s + ROWS)) where
      -- the row that is read lies before the plans listed
      read_in : (at work (s + FIRST) + r) * n + n ≤ at work PLANS * n
      read_in = let m : suc (at work (s + FIRST) + r) * n ≤ at work PLANS * n = mul-le-mul_right n (omega (arith, h.past)) in omega arith

      listed_in : at work PLANS * n ≤ length list
      listed_in = let m : at work PLANS * n ≤ at numbers ROOM * n = mul-le-mul_right n h.room.listed in omega (arith, h.room.fits some)

      pub read_fits : (at work (s + FIRST) + r) * n + n ≤ length list₁
      read_fits = omega (arith, read_in, listed_in, c.sized)

      pub room_now : ListRoom n (at numbers ROOM) list₁ (at work₁ PLANS)
      room_now = record {
        some = h.room.some;
        fits = λ o. subst (λ (m : ℕ). at numbers ROOM * n ≤ m) (sym c.sized) (h.room.fits some);
        listed = omega (arith, c.plans, h.fits);
        small = h.room.small;
      }

      module _ (work₂ : List ℕ) (l : Loaded numbers list₁ k n ((at work (s + FIRST) + r) * n) work₁ work₂) where
        plans₂ : at work₂ PLANS ≡ at work PLANS + r
        plans₂ = l.others PLANS (inr (omega (arith, h.few))) ∙ c.plans

        room_same : ListRoom n (at numbers ROOM) list₁ (at work₂ PLANS)
        room_same = subst (ListRoom n (at numbers ROOM) list₁) (sym (l.others PLANS (inr (omega (arith, h.few))))) room_now

        pub room_loaded : (list₂ : List ℕ) → list₂ ≡ list₁ → ListRoom n (at numbers ROOM) list₂ (at work₂ PLANS)
        room_loaded list₂ e = subst (λ (q : List ℕ). ListRoom n (at numbers ROOM) q (at work₂ PLANS)) (sym e) room_same

        pub bytes_loaded : (i : ℕ) → i < n → at work₂ i < 256
        bytes_loaded i q = go (dec_lt i k)
          where
            go : Dec (i < k) → at work₂ i < 256
            go (yes u) = subst (λ (x : ℕ). x < 256) (sym (l.others i (inl u) ∙ c.before i u)) (h.bytes i u)
            go (no u) = l.small i (omega arith) q

        byte_at : (i : ℕ) → k ≤ i → i < n → at work₂ i ≡ at list ((at work (s + FIRST) + r) * n + settling numbers i)
        byte_at i p q = l.values i p q ∙ c.bytes ((at work (s + FIRST) + r) * n + settling numbers i) (omega (arith, read_in, settling_inside numbers n i h.order q))

        module _ (t : List ℕ) (left : List (List ℕ)) (sized : length t ≡ n) (stand : Stand n (at work (s + FIRST) + r) (map (write order) (t ∷ left)) list) where
          -- the plan that is listed
          plan_is : moved a t ≡ prefix_of work₂ n
          unfolding Stand
          plan_is = prefix_is (a ++ drop (length a) t) work₂ n
              (omega (arith, length-append a (drop (length a) t), length-drop (length a) t, length_prefix work k, h.inner)) (λ i q. each i q (dec_lt i k))
            where
              each : (i : ℕ) → i < n → Dec (i < k) → at (a ++ drop (length a) t) i ≡ at work₂ i
              each i q (yes u) =
                  at_append a (drop (length a) t) i (omega (arith, length_prefix work k)) ∙ prefix_at work k i u ∙ sym (l.others i (inl u) ∙ c.before i u)
              each i q (no u) =
                  let d : length a + (i - length a) ≡ i = omega (arith, length_prefix work k) in
                  let o = settling_inside numbers n i h.order q in
                  at_skip a (drop (length a) t) (length a) i refl (omega (arith, length_prefix work k)) ∙ at_drop (length a) t (i - length a) ∙ ap (at t) d
                  ∙ sym (byte_at i (omega arith) q ∙ stand.0 (settling numbers i) o ∙ write_at any order h.order t (settling numbers i) o
                  ∙ ap (λ (x : ℕ). at t (position order x)) (sym (order_at numbers n i q)) ∙ ap (at t) (stand_place any order h.order i q))

        module _ (list₂ : List ℕ) (again : list₂ ≡ list₁) (work₃ list₃ : List ℕ) (stop : ℕ) (w₂ : Listed n (at numbers ROOM) order work₂ list₂ work₃ list₃ stop) where
          w : Listed n (at numbers ROOM) order work₂ list₁ work₃ list₃ stop
          w = subst (λ (q : List ℕ). Listed n (at numbers ROOM) order work₂ q work₃ list₃ stop) again w₂

          abbrev s₀ : State
          s₀ = record { tally = no_nodes; plans = at work₂ PLANS; stop = ALL; list = list₁; last = [] }

          abbrev s₁ : State
          s₁ = record { tally = no_nodes; plans = suc (at work₂ PLANS); stop = ALL; list = noted (at work₂ PLANS * n) (write order (prefix_of work₂ n)) list₁; last = [] }

          abbrev s₃ : State
          s₃ = record { tally = no_nodes; plans = at work₃ PLANS; stop = stop; list = list₃; last = [] }

          state_is : s₃ ≡ s₁
          state_is = w.state no_nodes [] ∙ listed_kept n (at numbers ROOM) (write order (prefix_of work₂ n)) s₀ (omega (arith, plans₂, h.fits))

          plans₃ : at work₃ PLANS ≡ suc (at work₂ PLANS)
          plans₃ = ap (λ (u : State). u.plans) state_is

          list₃_is : list₃ ≡ noted (at work₂ PLANS * n) (write order (prefix_of work₂ n)) list₁
          list₃_is = ap (λ (u : State). u.list) state_is

          row_sized : length (write order (prefix_of work₂ n)) ≡ n
          row_sized = length_write order (prefix_of work₂ n) ∙ length_order numbers n

          row_fits : (length list₁ ≡ 0 → ⊥) → at work₂ PLANS * n + length (write order (prefix_of work₂ n)) ≤ length list₁
          row_fits o = let m : suc (at work₂ PLANS) * n ≤ at numbers ROOM * n = mul-le-mul_right n (omega (arith, plans₂, h.fits)) in omega (arith, row_sized, room_same.fits o)

          pub copy_turn : CopiedTo numbers work list k s (r + 1) work₃ list₃
          unfolding noted_all Stand
          copy_turn = record {
            plans = omega (arith, plans₃, plans₂);
            before = λ i u. w.others i (λ e. omega (arith, h.inner, h.few)) ∙ l.others i (inl u) ∙ c.before i u;
            others = λ i u o. w.others i o ∙ l.others i (inr (omega (arith, h.few))) ∙ c.others i u o;
            long = w.work_length ∙ l.long ∙ c.long;
            sized = ap length list₃_is ∙ length_noted (at work₂ PLANS * n) (write order (prefix_of work₂ n)) list₁ row_fits ∙ c.sized;
            bytes = λ i u. ap (λ (m : List ℕ). at m i) list₃_is
                ∙ noted_before (at work₂ PLANS * n) (write order (prefix_of work₂ n)) list₁ row_fits i
                (let m : at work PLANS * n ≤ at work₂ PLANS * n = mul-le-mul_right n (omega (arith, plans₂)) in omega arith) ∙ c.bytes i u;
            left = λ ts z. go ts (c.left ts z);
          }
            where
              go : (ts : List (List ℕ)) → CopyLeft n order a (at work (s + FIRST)) (at work PLANS) (at work (s + ROWS)) r list ts list₁ →
                  CopyLeft n order a (at work (s + FIRST)) (at work PLANS) (at work (s + ROWS)) (r + 1) list ts list₃
              go ts d = split d.left d.many d.sized d.stand d.same
                where
                  split : (left : List (List ℕ)) → length left + r ≡ at work (s + ROWS) → ((t : List ℕ) → Memᴰ t left → length t ≡ n) →
                      Stand n (at work (s + FIRST) + r) (map (write order) left) list →
                      noted_all n (at work PLANS) (map (write order) (map (moved a) ts)) list ≡ noted_all n (at work PLANS + r) (map (write order) (map (moved a) left)) list₁ →
                      CopyLeft n order a (at work (s + FIRST)) (at work PLANS) (at work (s + ROWS)) (r + 1) list ts list₃
                  split [] many sized stand same = absurd (omega arith)
                  split (t ∷ left) many sized stand same = record {
                    left = left;
                    many = omega arith;
                    sized = λ u m. sized u (Memᴰ-tail m);
                    stand = subst (λ (i : ℕ). Stand n i (map (write order) left) list) (let e : suc (at work (s + FIRST) + r) ≡ at work (s + FIRST) + (r + 1) = omega arith in e) stand.1;
                    same = same
                        ∙ ap (λ (m : List ℕ). noted_all n (suc (at work PLANS + r)) (map (write order) (map (moved a) left)) m)
                        (ap₂ (λ (i : ℕ) (q : List ℕ). noted (i * n) (write order q) list₁) (sym plans₂) (plan_is t left (sized t (Memᴰ-head refl)) stand) ∙ sym list₃_is)
                        ∙ ap (λ (i : ℕ). noted_all n i (map (write order) (map (moved a) left)) list₃)
                        (let e : suc (at work PLANS + r) ≡ at work PLANS + (r + 1) = omega arith in e);
                  }

    pub copy_all : (r : ℕ) (work₁ list₁ : List ℕ) → CopiedTo numbers work list k s r work₁ list₁ → r ≡ at work (s + ROWS) → Copied numbers work list k s work₁ list₁
    unfolding noted_all
    copy_all r work₁ list₁ c e = record {
      plans = omega (arith, c.plans);
      before = c.before;
      others = c.others;
      long = c.long;
      list_is = λ ts z. go ts (c.left ts z);
    }
      where
        go : (ts : List (List ℕ)) → CopyLeft n order a (at work (s + FIRST)) (at work PLANS) (at work (s + ROWS)) r list ts list₁ →
            list₁ ≡ noted_all n (at work PLANS) (map (write order) (map (moved a) ts)) list
        go ts d = sym (d.same ∙ none d.left d.many)
          where
            none : (left : List (List ℕ)) → length left + r ≡ at work (s + ROWS) → noted_all n (at work PLANS + r) (map (write order) (map (moved a) left)) list₁ ≡ list₁
            none [] many = refl
            none (t ∷ left) many = absurd (omega arith)

  -- in a list of no byte the plans are counted alone
  pub copy_counted : length list ≡ 0 → Copied numbers work list k s (set work PLANS (at work PLANS + at work (s + ROWS))) list
  copy_counted e = record {
    plans = at_set work PLANS (at work PLANS + at work (s + ROWS)) (omega (arith, h.long));
    before = λ i l. at_set_other work PLANS (at work PLANS + at work (s + ROWS)) i (λ q. omega (arith, h.inner, h.few));
    others = λ i l o. at_set_other work PLANS (at work PLANS + at work (s + ROWS)) i o;
    long = length-set work PLANS (at work PLANS + at work (s + ROWS));
    list_is = λ ts z. sym (all_none n (at work PLANS) (map (write order) (map (moved a) ts)) list e);
  }
