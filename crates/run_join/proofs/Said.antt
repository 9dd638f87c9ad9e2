-- What `join` answers, by what it called. Assumes nothing.
use Rattle.model.specs.Kit.{◌≡◌, refl, sym, ap, ap₂, ◌∙◌, subst, Bool, true, false, List, ℕ, ◌≤◌, arith}
use Rattle.std.specs.Prelude.{Option, None, Some, Result, Ok, Err}
use Rattle.model.specs.{Lists.choose, Verdict.Verdict, Verdict.accepted, Verdict.refused, Verdict.reply, Verdict.answered}
use Rattle.model.specs.Refusals.{number_of}
use Rattle.model.specs.declared.refusals.Question.{Question}
use Rattle.run_join.specs.Join.{join_verdict, heads_in, head_number, joined, stand_path, stands, nearest, nearest_of, plans_of, nodes_of, count_of}
use Rattle.run_join.specs.{Inner.Inner.Said, Inner.Inner.Summed, Calls.nothing_missing, Calls.missing, Calls.told_by, Calls.answer_for, Calls.figure_for, Calls.CallJoin}
use Rattle.run_join.specs.declared.{Joining.Joining, Missing.Missing}
use Rattle.model.proofs.Lists.{never}

pub said_missing : (l : List ℕ) (joins : Bool) (stand : ℕ) (from upto : Option ℕ) → joins ≡ false → head_number from ≡ stand → head_number upto ≡ nearest_of l (stand_path l stand) (heads_in l) →
    head_number upto ≤ heads_in l → Said l joins stand (Some (record { from = from; upto = upto }))
said_missing l joins stand from upto f a b c = record {
  joined = λ t. never (let z : true ≡ false = sym t ∙ f in cc);
  missing = λ g m e. subst (λ (m : Missing). (head_number m.from ≡ stand) × (head_number m.upto ≡ nearest_of l (stand_path l stand) (heads_in l)) × (head_number m.upto ≤ heads_in l))
      (same m e) (a, b, c);
  some = λ g e. never (cc);
}
  where
    same : (m : Missing) → ◌≡◌ {A = Option Missing} (Some (record { from = from; upto = upto })) (Some m) → record { from = from; upto = upto } ≡ m
    same m e = cc

pub said_refused : (l : List ℕ) (q : Question) → refused (number_of q) 0 ≡ join_verdict l → CallJoin l (Err q)
unfolding answer_for
said_refused l q e = record {
  answers = ap (λ (v : Verdict). reply v (choose (joined l) nothing_missing (missing (stands l) (nearest l)))) e;
  inside = λ j m r. never (cc);
  plans = ap (λ (v : Verdict). figure_for v (plans_of l)) e;
  nodes = ap (λ (v : Verdict). figure_for v (nodes_of l)) e;
  counts = λ x h. ap (λ (v : Verdict). figure_for v (count_of l x)) e;
}

pub said_all : (l : List ℕ) (joins : Bool) (stand : ℕ) (j : Joining) → accepted ≡ join_verdict l → joins ≡ joined l → Summed l stand j.plans j.nodes j.counts → Said l joins stand j.missing →
    CallJoin l (Ok j)
unfolding answer_for
said_all l joins stand j e z s a =
    record {
      answers =
          ap answered (go joins j.missing refl refl ∙ ap₂ (λ (b : Bool) (i : ℕ). choose b nothing_missing (missing i (nearest_of l (stand_path l i) (heads_in l)))) z s.behind)
          ∙ ap (λ (v : Verdict). reply v (choose (joined l) nothing_missing (missing (stands l) (nearest l)))) e;
      inside = λ i m q r. within joins i m q refl (ap (λ (o : Joining). o.missing) (same_ok i j q) ∙ r);
      plans = s.plans ∙ ap (λ (v : Verdict). figure_for v (plans_of l)) e;
      nodes = s.nodes ∙ ap (λ (v : Verdict). figure_for v (nodes_of l)) e;
      counts = λ x h. s.counts x h ∙ ap (λ (v : Verdict). figure_for v (count_of l x)) e;
    }
  where
    same_ok : (i j : Joining) → ◌≡◌ {A = Result Joining Question} (Ok j) (Ok i) → j ≡ i
    same_ok i j q = cc

    go : (b : Bool) (r : Option Missing) → joins ≡ b → j.missing ≡ r → told_by r ≡ choose b nothing_missing (missing stand (nearest_of l (stand_path l stand) (heads_in l)))
    go true None t r = refl
    go true (Some m) t r = never (let n : j.missing ≡ None = a.joined t in cc)
    go false None t r = absurd (a.some t r)
    go false (Some m) t r = let f = a.missing t m r in ap₂ missing f.0 f.1

    within : (b : Bool) (i : Joining) (m : Missing) → ◌≡◌ {A = Result Joining Question} (Ok j) (Ok i) → joins ≡ b → j.missing ≡ Some m →
        (head_number m.from ≤ heads_in l) × (head_number m.upto ≤ heads_in l)
    within true i m q t r = never (let n : j.missing ≡ None = a.joined t in cc)
    within false i m q t r = let f = a.missing t m r in (omega (arith, f.0, s.inside), f.2)
