-- Bytes that pass questions 1 to 15 (specs/Meaning, `compilable`): their problem is well formed, and an accepted sheet is one of them. Assumes nothing.
use Rattle.model.specs.Kit.{◌≡◌, refl, sym, ap, ◌∙◌, subst, Bool, true, false, not, List, [], ◌∷◌, Memᴰ-of_map, ℕ, zero, suc, ◌+◌, ◌*◌, ◌^◌, T, leb, ltb, eqb, length}
use Rattle.model.specs.Sheet.{Header, word, header_of, header_verdict, offsets_fit, sets_verdict, scope_at, rows_at, after_at, constraint_verdict, constraints_verdict, table_at, problem_of}
use Rattle.model.specs.Sheet.{permutes_pairs}
use Rattle.model.specs.Sheet.{tables_fit, form_verdict, symmetries_verdict, verdict_of}
use Rattle.model.specs.{Lists.all, Lists.both, Lists.below, Lists.ascending, Lists.rows_ascend, Verdict.Verdict, Verdict.accepted, Verdict.ask, Verdict.is_accepted, Inner.WellFormed.WellFormed}
use Rattle.model.proofs.{Lists.all_e, Lists.all_i, Accepted.length_words, Accepted.symmetries_e}
use Rattle.sheet.specs.{Inner.Parts.Fit, Inner.Decoding.permuting, Meaning.compilable}
use Rattle.sheet.proofs.Stating.{FormPassed, form_e}

-- ---- what is asked after questions 1 to 14 does not matter to them
record Goes (v w : Verdict) : Type 0 where
  pub goes : T (is_accepted v) → T (is_accepted w)

ask_goes : (c : Bool) (n i : ℕ) (v w : Verdict) → Goes v w → Goes (ask c n i v) (ask c n i w)
ask_goes true n i v w r = r
ask_goes false n i v w r = record { goes = λ t. t }

module _ (v w : Verdict) (r : Goes v w) where
  header_goes : (h : Header) (bytes : ℕ) → Goes (header_verdict h bytes v) (header_verdict h bytes w)
  unfolding header_verdict
  header_goes h bytes =
      ask_goes (leb 16 bytes) 1 0 _ _
      (ask_goes (both (leb 1 h.variables) (leb h.variables 12)) 2 0 _ _
      (ask_goes (both (leb 1 h.values) (leb h.values 16)) 3 0 _ _
      (ask_goes (leb h.constraints 32) 4 0 _ _
      (ask_goes (leb h.symmetries 16) 5 0 _ _
      (ask_goes (eqb h.size bytes) 6 0 _ _
      (ask_goes (offsets_fit h) 7 0 v w r))))))

  sets_goes : (b : List ℕ) (h : Header) (xs : List ℕ) → Goes (sets_verdict b h xs v) (sets_verdict b h xs w)
  unfolding sets_verdict
  sets_goes b h [] = r
  sets_goes b h (x ∷ xs) = ask_goes (both (ltb (word b (16 + 2 * x)) (2 ^ h.values)) (not (eqb (word b (16 + 2 * x)) 0))) 8 x _ _ (sets_goes b h xs)

  constraint_goes : (b : List ℕ) (h : Header) (i o : ℕ) → Goes (constraint_verdict b h i o v) (constraint_verdict b h i o w)
  unfolding constraint_verdict
  constraint_goes b h i o =
      ask_goes (leb (o + 4) h.third) 9 i _ _
      (ask_goes (both (both (leb 1 (word b o)) (leb (word b o) 3)) (leb (word b (o + 2)) 256)) 10 i _ _
      (ask_goes (leb (after_at b o) h.third) 9 i _ _
      (ask_goes (both (all (λ x. ltb x h.variables) (scope_at b o)) (ascending (scope_at b o))) 11 i _ _
      (ask_goes (all (all (λ w. ltb w h.values)) (rows_at b o)) 12 i _ _
      (ask_goes (rows_ascend (rows_at b o)) 13 i v w r)))))

constraints_goes : (v w : Verdict) → Goes v w → (b : List ℕ) (h : Header) (k i o : ℕ) → Goes (constraints_verdict b h k i o v) (constraints_verdict b h k i o w)
unfolding constraints_verdict
constraints_goes v w r b h zero i o = ask_goes (eqb o h.third) 9 i v w r
constraints_goes v w r b h (suc k) i o = constraint_goes _ _ (constraints_goes v w r b h k (suc i) (after_at b o)) b h i o

form_goes : (v w : Verdict) → Goes v w → (b : List ℕ) → Goes (form_verdict b v) (form_verdict b w)
unfolding form_verdict
form_goes v w r b =
    let h = header_of b in
    header_goes _ _ (sets_goes _ _ (constraints_goes _ _ (ask_goes (tables_fit h) 14 0 v w r) b h h.constraints 0 h.second) b h (below h.variables)) h (length b)

-- ---- question 15 after them
pub asked_last : (c : Bool) → is_accepted (ask c 15 0 accepted) ≡ c
asked_last true = refl
asked_last false = refl

pub accepted_compilable : (b : List ℕ) → T (is_accepted (verdict_of b)) → T (compilable b)
unfolding verdict_of compilable
accepted_compilable b t =
    let p = problem_of b in
    (form_goes (symmetries_verdict p 0 p.symmetries) (ask (permuting b) 15 0 accepted)
    record { goes = λ u. subst T (sym (asked_last (permuting b))) (all_i (permutes_pairs p) p.symmetries (λ g m. (symmetries_e p 0 p.symmetries u g m).0)) } b).goes t

module _ (b : List ℕ) (t : T (compilable b)) where
  passed : FormPassed b × T (permuting b)
  unfolding compilable
  passed = let q = form_e b (ask (permuting b) 15 0 accepted) t in (q.0, subst T (asked_last (permuting b)) q.1)

  pub compilable_fits : Fit b
  compilable_fits = passed.0.fits

  pub compilable_well : WellFormed (problem_of b)
  unfolding problem_of table_at
  compilable_well =
      let h = header_of b in
      let f = passed.0 in
      record {
        some = f.fits.some;
        few = f.fits.few;
        one = f.fits.one;
        sixteen = f.fits.sixteen;
        sized = length_words b 16 h.variables;
        nonempty = f.nonempty;
        narrow = f.states.narrow;
        most = f.states.most;
        constrained = f.states.constrained;
        symmetric = λ g m. record {
          sized = (let r = Memᴰ-of_map (table_at b h) (below h.symmetries) m in ap length (sym r.2) ∙ length_words b (h.third + 2 * (r.0 * (h.variables * h.values)))
              (h.variables * h.values));
          permutes = all_e (permutes_pairs (problem_of b)) (problem_of b).symmetries passed.1 g m;
        };
      }
