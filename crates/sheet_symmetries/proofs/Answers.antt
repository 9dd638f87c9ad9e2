-- From what the code finds to the answer to questions 15 and 16. Assumes nothing.
use Rattle.model.specs.Kit.{◌≡◌, refl, sym, ap, ap₂, ◌∙◌, Bool, true, false, List, [], ℕ, T}
use Rattle.model.specs.{Lists.all, Lists.at, Lists.below, Lists.both, ValueSets.members, Problem.Problem, Problem.respects, Sheet.permutes_pairs}
use Rattle.std.specs.Prelude.{Err}
use Rattle.model.specs.declared.refusals.Question.TheVariants.{PairsPermuted, Respected}
use Rattle.model.proofs.Lists.{T_of}
use Rattle.sheet_table.specs.{Inner.Table.TableAt, Inner.Table.Asked, Inner.Table.table_of, Inner.Table.answer_of, Inner.Table.table_answer, Inner.Forbidden.Decoded}
use Rattle.sheet_table.specs.Inner.Forbidden.{Coded, Moved, Lent, keeps, doublings}
use Rattle.sheet_table.proofs.Codes.{decoded_coded}
use Rattle.sheet_symmetries.proofs.Respects.{respects_are}

module _ (p : Problem) (sheet : List ℕ) (offset : ℕ) (numbers supports : List ℕ) (a : Asked p sheet offset numbers supports) where
  pub asked_table : TableAt p sheet offset numbers
  asked_table = record { framed = a.ready.framed; whole = a.whole }

  -- 15 where the table does not permute the pairs
  pub answer_15 : permutes_pairs p (table_of p sheet offset) ≡ false → Err PairsPermuted ≡ table_answer p sheet offset
  answer_15 e = ap (λ (b : Bool). answer_of b (respects p (table_of p sheet offset))) (sym e)

  module _ (t : permutes_pairs p (table_of p sheet offset) ≡ true) (codes : List ℕ) (d : Decoded p (table_of p sheet offset) codes) where
    permutes : T (permutes_pairs p (table_of p sheet offset))
    permutes = T_of (permutes_pairs p (table_of p sheet offset)) t

    pub asked_coded : Coded p codes
    asked_coded = decoded_coded p a.ready.framed.stated (table_of p sheet offset) permutes codes d

    pub asked_lent : (moves : List ℕ) → Moved p codes moves → Lent p numbers supports codes moves
    asked_lent moves m = record { ready = a.ready; coded = asked_coded; moved = m }

    module _ (v : Bool) (ev : v ≡ all (λ x. doublings p codes x (members (at p.initial x))) (below p.variables)) where
      after : (c : Bool) → c ≡ all (λ c. keeps p codes c c.scope []) p.constraints → answer_of true (both v c) ≡ table_answer p sheet offset
      after c ec = ap₂ answer_of (sym t) (ap₂ both ev ec ∙ respects_are p a.ready.framed.stated (table_of p sheet offset) permutes codes d)

      -- 16 where the image of two pairs of a variable holds no forbidden set
      pub answer_16 : v ≡ false → Err Respected ≡ table_answer p sheet offset
      answer_16 f = ap (λ (b : Bool). answer_of true (both b (all (λ c. keeps p codes c c.scope []) p.constraints))) (sym f) ∙ after _ refl

      -- else by the constraints' forbidden sets
      pub answer_last : (c r : Bool) → v ≡ true → c ≡ all (λ c. keeps p codes c c.scope []) p.constraints → c ≡ r → answer_of true r ≡ table_answer p sheet offset
      answer_last c r f ec e = ap₂ (λ (x y : Bool). answer_of true (both x y)) (sym f) (sym e) ∙ after c ec
