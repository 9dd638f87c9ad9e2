-- The scan of a level and of the levels of a prefix: what each turn does, and what its end says. Assumes nothing.
use Rattle.model.specs.Kit.{◌≡◌, refl, sym, ap, ◌∙◌, subst, Bool, true, false, List, [], ◌∷◌, ◌++◌, ℕ, ◌+◌, ◌*◌, ◌/◌, ◌%◌, ◌≤◌, ◌<◌, arith, T, take}
use Rattle.model.specs.{Lists.at, Problem.Problem, Nogood.Entry}
use Rattle.filter.specs.declared.entry.Step.TheVariants.{Next, Failed, Obeyed, Split}
use Rattle.filter.specs.{declared.entry.Step.Step, Inner.Scan.Right, Inner.Scan.Stepped}
use Rattle.filter.proofs.Marks.{vacuous_nil, vacuous_mono}
use Rattle.arrays.specs.{Inner.Places.ENTAILED, Inner.Places.OBEYED, Inner.Tables.image_of}
use Rattle.prune_symmetries.specs.Inner.Levels.{image_at, keep_of, cuts, level_of, levels, CutsMade, CutsObeyed, NoneObeys, Held, Level, CutResult, LevelResult, Ready, PassCame}
use Rattle.prune_symmetries.specs.Inner.Levels.{pass_obeyed, pass_ended, pass_split}
use Rattle.prune_symmetries.proofs.CutsMade.{same_length, vacuous_made, equality_next, equality_obeyed, made_live, made_on, obeyed_on, none_on, obeyed_more, none_more}
use Rattle.prune_symmetries.proofs.{Levels.levels_none, Levels.levels_append, Levels.levels_one, ImageTables.image_inside, ImageTables.image_is}
use Rattle.filter.proofs.Front

-- ---- a level: its cuts, then its own pair
module _ {p : Problem} {ss tables : List ℕ} {e x v : ℕ} (w : Level p ss tables e x v) where
  abbrev own : Entry
  own = keep_of (image_of p e x v)

  pub level_failed : (rs : List ℕ) (b : Bool) → b ≡ true → CutResult b p.variables ss (cuts p e x v) rs → NoneObeys p.variables ss (level_of p e x v)
  level_failed rs true q z = none_more p.variables ss (cuts p e x v) (own ∷ []) z
  level_failed rs false q z = absurd (subst T (sym q) tt)

  right : Right p.variables own
  right = (image_inside w.tabled x v w.variable w.value, omega arith)

  pub own_asks : (y : ℕ) → y ≡ at tables (image_at e x v) → y / 16 < 16
  own_asks y i =
      let l : y / 16 < p.variables = subst (λ (u : ℕ). u / 16 < p.variables) (sym (image_is w.tabled x v w.variable w.value y i)) right.0 in
      omega (arith, w.held.live.few)

  module _ (rs : List ℕ) (b : Bool) (q : b ≡ false) (z : CutResult b p.variables ss (cuts p e x v) rs) where
    cut_made : CutsMade p.variables ss (cuts p e x v) rs
    cut_made = go b q z
      where
        go : (b : Bool) → b ≡ false → CutResult b p.variables ss (cuts p e x v) rs → CutsMade p.variables ss (cuts p e x v) rs
        go true q z = absurd (subst T q tt)
        go false q z = z

    pub level_result : (y : ℕ) → y ≡ at tables (image_at e x v) → (r : Step) → Stepped rs (keep_of y) rs r → LevelResult r p ss e x v rs
    level_result y i r st = go r (subst (λ (u : ℕ). Stepped rs (keep_of u) rs r) (image_is w.tabled x v w.variable w.value y i) st)
      where
        a : ℕ
        a = image_of p e x v / 16

        c : ℕ
        c = image_of p e x v % 16

        go : (r : Step) → Stepped rs own rs r → LevelResult r p ss e x v rs
        go Next st = made_on cut_made (own ∷ []) rs (equality_next a c (made_live cut_made) right (sym st.step))
        go Failed st = none_on cut_made (own ∷ []) (λ fs. Front.pass_failed_lem own fs (Front.begin (own ∷ fs) (made_live cut_made)) right (sym st.step))
        go Obeyed st = obeyed_on cut_made (own ∷ []) rs (equality_obeyed a c (made_live cut_made) right (sym st.step))
        go Split st = record { made = cut_made; split = sym st.step }

-- ---- the levels of a prefix
pub record Passing (p : Problem) (ss work : List ℕ) (e k start : ℕ) (rs : List ℕ) (j : ℕ) : Type 0 where
  pub begun : start ≤ j
  pub bound : j ≤ k
  pub made : CutsMade p.variables ss (levels p work e start j) rs

pub held_on : {p : Problem} {ss : List ℕ} {es : List Entry} {rs : List ℕ} → Held p ss → CutsMade p.variables ss es rs → Held p rs
held_on h t = record { live = made_live t; unused = λ x l k. (t.passed []).unused x l ∙ h.unused x l k }

module _ {p : Problem} {ss work tables : List ℕ} {e k start : ℕ} (w : Ready p ss work tables e k start) where
  pub passing_none : Passing p ss work e k start ss start
  passing_none =
      record {
        begun = omega arith;
        bound = w.begun;
        made = subst (λ (es : List Entry). CutsMade p.variables ss es ss) (sym (levels_none p work e start)) (vacuous_made [] w.held.live (vacuous_nil (take p.variables ss)));
      }

  module _ {rs : List ℕ} {j : ℕ} (i : Passing p ss work e k start rs j) where
    pub ends : k ≤ j → PassCame p ss work tables e k start rs (ENTAILED * k + k)
    ends h =
        let q : j ≡ k = omega (arith, i.bound) in
        pass_ended refl (subst (λ (m : ℕ). CutsMade p.variables ss (levels p work e start m) rs) q i.made)

    module _ (h : j < k) where
      pub turn_asks : Level p rs tables e j (at work j)
      turn_asks = record { tabled = w.tabled; held = held_on w.held i.made; variable = omega (arith, w.prefix.bound); value = w.prefix.drawn j h }

      abbrev here : List Entry
      here = level_of p e j (at work j)

      one_more : levels p work e start (j + 1) ≡ levels p work e start j ++ here
      one_more = levels_append p work e start j (j + 1) i.begun (omega arith) ∙ ap (λ (l : List Entry). levels p work e start j ++ l) (levels_one p work e j)

      all : (levels p work e start j ++ here) ++ levels p work e (j + 1) k ≡ levels p work e start k
      all =
          ap (λ (l : List Entry). l ++ levels p work e (j + 1) k) (sym one_more)
          ∙ sym (levels_append p work e start (j + 1) k (let b = i.begun in omega arith) (omega arith))

      module _ (ts : List ℕ) (r : Step) (m : LevelResult r p rs e j (at work j) ts) where
        level_as : (r' : Step) → r ≡ r' → LevelResult r' p rs e j (at work j) ts
        level_as r' q = subst (λ (s : Step). LevelResult s p rs e j (at work j) ts) q m

        pub turn_next : r ≡ Next → Passing p ss work e k start ts (j + 1)
        turn_next q =
            record {
              begun = let b = i.begun in omega arith;
              bound = omega arith;
              made = subst (λ (es : List Entry). CutsMade p.variables ss es ts) (sym one_more) (made_on i.made here ts (level_as Next q));
            }

        pub turn_failed : r ≡ Failed → NoneObeys p.variables ss (levels p work e start k)
        turn_failed q =
            subst (λ (es : List Entry). NoneObeys p.variables ss es) all
            (none_more p.variables ss (levels p work e start j ++ here) (levels p work e (j + 1) k) (none_on i.made here (level_as Failed q)))

        pub turn_obeyed : r ≡ Obeyed → PassCame p ss work tables e k start ts OBEYED
        turn_obeyed q =
            pass_obeyed refl (subst (λ (es : List Entry). CutsObeyed p.variables ss es ts) all
            (obeyed_more (levels p work e (j + 1) k) (obeyed_on i.made here ts (level_as Obeyed q))))

        pub turn_split : r ≡ Split → PassCame p ss work tables e k start ts j
        turn_split q =
            let s = level_as Split q in
            pass_split h (record {
              at_split = record { tabled = w.tabled; held = held_on (held_on w.held i.made) s.made; prefix = w.prefix; inside = h; split = s.split };
              begun = i.begun;
              before = vacuous_mono (take p.variables rs) (take p.variables ts) (levels p work e start j) (same_length (made_live i.made) (made_live s.made)) (s.made.passed []).less
                  i.made.vacuous;
              made = made_on i.made (cuts p e j (at work j)) ts s.made;
            })
