-- Parts of one tree that are run apart (specs/Claims): together they list its plans and make its nodes. Assumes nothing.
use Rattle.model.specs.Kit.{◌≡◌, refl, sym, ap, ap₂, ◌∙◌, subst, List, [], ◌∷◌, ◌++◌, map, ℕ, ◌+◌, arith, length, length-append, take_all}
use Rattle.model.specs.{Lists.keep, Lists.flat, Lists.total, Problem.Problem, Search.is_plan, Run.nodes_in, Run.Result}
use Rattle.model.proofs.{Lists.keep_append, Runs.Ended, Runs.walk}
use Rattle.run_cut.specs.Claims.{Finished, AllFinished, Together}
use Rattle.run_cut.proofs.Parts.{ranges_whole}

-- a part that finished lists its plans and makes its nodes
part_done : (p : Problem) (part : List (List ℕ)) (r : Result) → Finished p part r → (r.rows ≡ keep (is_plan p) part) × (nodes_in r.ending ≡ length part)
part_done p part r (limit, room, plans, made, e, f) =
    let w = walk p limit room part 0 [] in
    let q = subst (Ended p limit room part 0 w.passed) (ap (λ (x : Result). x.ending) (sym e) ∙ f) w.ended in
    let n = q.0 in
    let m = q.1 in
    (ap (λ (x : Result). x.rows) e ∙ w.listed ∙ ap (keep (is_plan p)) (take_all w.passed part (omega arith)), ap nodes_in f ∙ omega arith)

parts_done : (p : Problem) (parts : List (List (List ℕ))) (rs : List Result) → AllFinished p parts rs →
    (flat (map (λ r. r.rows) rs) ≡ keep (is_plan p) (flat parts)) × (total (map (λ r. nodes_in r.ending) rs) ≡ length (flat parts))
unfolding flat keep total
parts_done p [] [] h = (refl, refl)
parts_done p [] (r ∷ rs) h = absurd h
parts_done p (part ∷ parts) [] h = absurd h
parts_done p (part ∷ parts) (r ∷ rs) h =
    let a = part_done p part r h.0 in
    let b = parts_done p parts rs h.1 in (
      ap₂ (λ (x y : List (List ℕ)). x ++ y) a.0 b.0 ∙ sym (keep_append (is_plan p) part (flat parts)),
      ap₂ (λ (x y : ℕ). x + y) a.1 b.1 ∙ sym (length-append part (flat parts)),
    )

pub together : Together
together p cuts rs c h =
    let e = ranges_whole p cuts c in
    let d = parts_done p _ rs h in
    (d.0 ∙ ap (keep (is_plan p)) e, d.1 ∙ ap (λ (l : List (List ℕ)). length l) e)
