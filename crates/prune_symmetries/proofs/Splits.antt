-- The level at which a pass stops, its own pair being one that some assignments have and some have not. Assumes nothing.
use Rattle.model.specs.Kit.{◌≡◌, refl, sym, ap, ◌∙◌, subst, Bool, true, false, not, List, [], append-nil, Memᴰ-head, ◌⊎◌, inl, inr, ℕ, ◌+◌, ◌*◌, ◌/◌, ◌%◌, ◌≤◌, ◌<◌, dec_lt, arith, T, take}
use Rattle.model.specs.Kit.{le-leb, lt-leb}
use Rattle.model.specs.Nogood.{Entry, disequality, entailed, consistent, ending_by, every_obeys, filter_ending}
use Rattle.model.specs.{Lists.at, Lists.choose, ValueSets.has, ValueSets.without_mask, Problem.Problem}
use Rattle.model.proofs.{Lists.at_set, Lists.at_take, Sets.inside_refl}
use Rattle.arrays.specs.Inner.Places.{ENTAILED, OBEYED}
use Rattle.filter.specs.Inner.Scan.{after, Right, Stepped, None, Some, Live, Passed, Remainder, Changed}
use Rattle.filter.specs.{declared.entry.Step.Step, Marks.NamesGone}
use Rattle.filter.proofs.Endings.{every_passed, every_changed, ended_every, unchanged, changed_front, front_consistent, front_remainder, kept_ending, gone_entailed}
use Rattle.prune_symmetries.specs.Inner.Levels.{image_at, ending_at, cut_of, keep_of, levels, own_at, Held, Ready, AtSplit, NoneObeys, SplitReached, split_entries, PassCame, pass_obeyed}
use Rattle.prune_symmetries.specs.Inner.Levels.{pass_ended}
use Rattle.prune_symmetries.specs.Inner.Levels.{pass_split, forced_by, SplitResult}
use Rattle.prune_symmetries.proofs.{Levels.levels_split, CutsMade.from_as, ImageTables.image_inside, ImageTables.image_asks, ImageTables.image_is}
use Rattle.filter.proofs.Scan
use Rattle.filter.proofs.Front

own_right : {p : Problem} {ss work tables : List ℕ} {e k j : ℕ} → AtSplit p ss work tables e k j → Right p.variables (keep_of (own_at p work e j))
own_right {p} {ss} {work} {tables} {e} {k} {j} w = (image_inside w.tabled j (at work j) (omega (arith, w.inside, w.prefix.bound)) (w.prefix.drawn j w.inside), omega arith)

-- ---- how a pass came out
module _ {p : Problem} {ss work tables : List ℕ} {e k start : ℕ} (w : Ready p ss work tables e k start) where
  pub short : k ≤ 12
  short = omega (arith, w.prefix.bound, w.tabled.well_formed.few)

  pass_none : NoneObeys p.variables ss (levels p work e start k) → None p.variables ss (levels p work e start k)
  pass_none z = subst (λ (es : List Entry). None p.variables ss es) (append-nil (levels p work e start k)) (z [])

  module _ {rs : List ℕ} {r : ℕ} where
    -- all levels passed, or what is left of them
    pass_end : PassCame p ss work tables e k start rs r → k ≤ r → Passed p.variables ss (levels p work e start k) rs []
    pass_end (pass_obeyed q f) l = from_as (append-nil (levels p work e start k)) (f.passed [])
    pass_end (pass_ended q t) l = from_as (append-nil (levels p work e start k)) (t.passed [])
    pass_end (pass_split m f) l = absurd (omega arith)

    pub pass_split_lem : PassCame p ss work tables e k start rs r → r < k → SplitReached p ss work tables e k start rs r
    pass_split_lem (pass_obeyed q f) l = absurd (omega (arith, short))
    pass_split_lem (pass_ended q t) l = absurd (omega arith)
    pass_split_lem (pass_split m f) l = f

    pass_left : PassCame p ss work tables e k start rs r → r < k → Passed p.variables ss (levels p work e start k) rs (split_entries p work e k r)
    pass_left c l = let f = pass_split_lem c l in from_as (levels_split p work e start r k f.begun l) (f.made.passed (split_entries p work e k r))

    -- some assignment obeys, and something is known of what is left
    pass_some : PassCame p ss work tables e k start rs r → Some p.variables ss (levels p work e start k) ×
        ((gs : List Entry) × Passed p.variables ss (levels p work e start k) rs gs)
    pass_some c = go (dec_lt r k)
      where
        go : Dec (r < k) → Some p.variables ss (levels p work e start k) × ((gs : List Entry) × Passed p.variables ss (levels p work e start k) rs gs)
        go (yes l) =
            let f = pass_split_lem c l in (
              Front.split_some (own_at p work e r / 16) (own_at p work e r % 16) (levels p work e (r + 1) k) (pass_left c l) (own_right f.at_split) f.at_split.split,
              (split_entries p work e k r, pass_left c l),
            )
        go (no l) = let q = pass_end c (omega arith) in (Front.ended_some q, ([], q))

-- ---- how the filter ended, by the answer
pub at_obeyed : (k : ℕ) → k ≤ 12 → ending_at k OBEYED ≡ entailed
at_obeyed k h = ap (λ (b : Bool). choose b entailed consistent) (le-leb (ENTAILED * k) OBEYED (omega arith))

pub at_entailed : (k j : ℕ) → k ≤ 12 → j ≤ k → ending_at k (ENTAILED * k + j) ≡ entailed
at_entailed k j h l =
    ap (λ (b : Bool). choose b entailed consistent) (le-leb (ENTAILED * k) (ENTAILED * k + j) (omega arith))

pub at_consistent : (k j : ℕ) → k ≤ 12 → j < k → ending_at k j ≡ consistent
at_consistent k j h l =
    ap (λ (b : Bool). choose b entailed consistent) (lt-leb (ENTAILED * k) j (omega arith))

-- ---- at the split
module _ {p : Problem} {ss work tables : List ℕ} {e k j : ℕ} (w : AtSplit p ss work tables e k j) where
  abbrev n : ℕ
  n = p.variables

  abbrev x : ℕ
  x = own_at p work e j / 16

  abbrev v : ℕ
  v = own_at p work e j % 16

  abbrev out : List ℕ
  out = after ss (disequality x v)

  abbrev later : List Entry
  later = levels p work e (j + 1) k

  begun : Passed n ss (split_entries p work e k j) ss (split_entries p work e k j)
  begun = Front.begin (split_entries p work e k j) w.held.live

  right : Right n (keep_of (own_at p work e j))
  right = own_right w

  pub split_image : (e < 16) × (j < 12) × (at work j < 16)
  split_image = image_asks w.tabled j (at work j) (omega (arith, w.inside, w.prefix.bound)) (w.prefix.drawn j w.inside)

  module _ (y : ℕ) (i : y ≡ at tables (image_at e j (at work j))) where
    is : y ≡ own_at p work e j
    is = image_is w.tabled j (at work j) (omega (arith, w.inside, w.prefix.bound)) (w.prefix.drawn j w.inside) y i

    pub split_asks : y / 16 < 16
    split_asks = let l : y / 16 < n = subst (λ (u : ℕ). u / 16 < n) (sym is) right.0 in omega (arith, w.held.live.few)

    module _ (ts : List ℕ) (q : ts ≡ forced_by ss y) where
      forced_as : ts ≡ forced_by ss (own_at p work e j)
      forced_as = q ∙ ap (forced_by ss) is

      pub forced_ready : Ready p ts work tables e k (j + 1)
      forced_ready =
          record {
            tabled = w.tabled;
            held = subst (λ (l : List ℕ). Held p l) (sym forced_as) (record {
              live = Front.forced_live x v later begun right w.split;
              unused = λ z l h. Front.unused_set w.held.live x _ right.0 z l ∙ w.held.unused z l h;
            });
            prefix = w.prefix;
            begun = omega (arith, w.inside);
          }

      ahead : Live n ts
      ahead = forced_ready.held.live

      few : k ≤ 12
      few = short forced_ready

      none_as : None n ts later → None n (forced_by ss (own_at p work e j)) later
      none_as z = subst (λ (l : List ℕ). None n l later) forced_as z

      -- no assignment has it: the value goes, and every one that is left breaks the equality
      pub resolve_gone : NoneObeys p.variables ts (levels p work e (j + 1) k) → {us : List ℕ} {s : Step} → Stepped ss (cut_of y) us s
          → SplitResult p ss work e k j us OBEYED
      resolve_gone c {us} {s} st =
          subst (λ (l : List ℕ). SplitResult p ss work e k j l OBEYED) (sym (st.sets ∙ ap (λ (u : ℕ). after ss (cut_of u)) is))
          (record {
            left = left;
            less = Front.without_less w.held.live x v right.0;
            ending = at_obeyed k few ∙ sym (gone_entailed w.held.live x v later begun right w.split (none_as (pass_none forced_ready c)));
            answer = inl (refl, (x, v, Memᴰ-head refl, subst (λ (m : ℕ). x < m) (sym (Front.front_length left.live)) right.0, gone));
          })
        where
          left : Remainder n ss (split_entries p work e k j) out
          left = Front.split_gone x v later begun right w.split (Front.front_length w.held.live) (none_as (pass_none forced_ready c))

          gone : T (has (at (take n out) x) v) → ⊥
          gone t =
              Scan.without_gone (at ss x) v
              (subst (λ (m : ℕ). T (has m v)) (at_take n out x right.0 ∙ at_set ss x (without_mask (at ss x) v) (omega (arith, right.0, w.held.live.few, w.held.live.sixteen))) t)

      -- one has it: nothing goes, and it is entailed exactly if every one that has it obeys
      kept : (r : ℕ) → Some n ts later → (every : Bool) → every_obeys (take n ts) later ≡ every → ending_at k r ≡ ending_by true every → (r ≡ j) ⊎ (r ≡ ENTAILED * k + j)
          → SplitResult p ss work e k j ss r
      kept r t every q z a =
          let t' : Some n (forced_by ss (own_at p work e j)) later = subst (λ (l : List ℕ). Some n l later) forced_as t in
          record {
            left = Front.split_kept x v later begun right w.split (Front.front_length w.held.live) t';
            less = inside_refl (take n ss);
            ending = z ∙ sym (kept_ending w.held.live x v later begun right w.split t'
                ∙ ap (ending_by true) (ap (λ (l : List ℕ). every_obeys (take n l) later) (sym forced_as) ∙ q));
            answer = inr a;
          }

      kept_consistent : Some n ts later → every_obeys (take n ts) later ≡ false → SplitResult p ss work e k j ss j
      kept_consistent t q = kept j t false q (at_consistent k j few w.inside) (inl refl)

      kept_entailed : Some n ts later → every_obeys (take n ts) later ≡ true → SplitResult p ss work e k j ss (ENTAILED * k + j)
      kept_entailed t q = kept (ENTAILED * k + j) t true q (at_entailed k j few (omega (arith, w.inside))) (inr refl)

      module _ {rs : List ℕ} {r : ℕ} (c : PassCame p ts work tables e k (j + 1) rs r) where
        -- a value was taken on the way
        pub resolve_changed : (d : Bool) → Changed d ts rs → d ≡ true → SplitResult p ss work e k j ss j
        resolve_changed d g q =
            let m = pass_some forced_ready c in
            kept_consistent m.0 (every_changed ahead m.1.1 (changed_front ahead m.1.1 d g q))

        module _ (d : Bool) (g : Changed d ts rs) (u : d ≡ false) where
          -- none was, to the end
          pub resolve_end : k ≤ r → SplitResult p ss work e k j ss (ENTAILED * k + j)
          resolve_end l =
              let m = pass_end forced_ready c l in
              kept_entailed (Front.ended_some m) (ended_every ahead m (ap (take n) (unchanged ahead m.live d g u)))

          -- none was, to the next split: as there
          module _ (l : r < k) where
            pub next_split : AtSplit p rs work tables e k r
            next_split = (pass_split_lem forced_ready c l).at_split

            pub next_later : j < r
            next_later = omega (arith, (pass_split_lem forced_ready c l).begun)

            same : rs ≡ ts
            same = unchanged ahead next_split.held.live d g u

            at_next : every_obeys (take n ts) later ≡ every_obeys (take n rs) (split_entries p work e k r)
            at_next =
                every_passed ahead (pass_left forced_ready c l) (ap (take n) same)
                ∙ ap (λ (m : List ℕ). every_obeys (take n m) (split_entries p work e k r)) (sym same)

            some : Some n ts later
            some = (pass_some forced_ready c).0

            module _ {vs : List ℕ} {s : ℕ} (f : SplitResult p rs work e k r vs s) where
              pub resolve_consistent : s < ENTAILED → SplitResult p ss work e k j ss j
              resolve_consistent m = kept_consistent some (at_next ∙ front_consistent (split_entries p work e k r) next_split.held.live (sym f.ending ∙ low))
                where
                  low : ending_at k s ≡ consistent
                  low =
                      ap (λ (b : Bool). choose b entailed consistent) (lt-leb (ENTAILED * k) s (let h = w.inside in omega arith))

              module _ (m : ENTAILED ≤ s) where
                high : filter_ending (take n rs) (split_entries p work e k r) ≡ entailed
                high = sym f.ending ∙ go f.answer
                  where
                    go : ((s ≡ OBEYED) × NamesGone (take n vs) (split_entries p work e k r)) ⊎ ((s ≡ r) ⊎ (s ≡ ENTAILED * k + r)) → ending_at k s ≡ entailed
                    go (inl o) = ap (ending_at k) o.0 ∙ at_obeyed k few
                    go (inr (inl o)) = absurd (omega (arith, few))
                    go (inr (inr o)) = ap (ending_at k) o ∙ at_entailed k r few (omega arith)

                again : (b : Bool) → Changed b ts vs → every_obeys (take n ts) later ≡ not b
                again b h = at_next ∙ front_remainder (split_entries p work e k r) next_split.held.live f.left high b (subst (λ (m : List ℕ). Changed b m vs) (sym same) h)

                pub resolve_taken : (b : Bool) → Changed b ts vs → b ≡ true → SplitResult p ss work e k j ss j
                resolve_taken b h o = kept_consistent some (again b h ∙ ap not o)

                pub resolve_again : (b : Bool) → Changed b ts vs → b ≡ false → SplitResult p ss work e k j ss (ENTAILED * k + j)
                resolve_again b h o = kept_entailed some (again b h ∙ ap not o)
