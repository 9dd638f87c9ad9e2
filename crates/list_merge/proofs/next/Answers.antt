-- `next`: the front of one of the lists, at that list's own address. Assumes nothing.
use Rattle.model.specs.Kit.{sym, ap, ◌∙◌, subst, arith, take, length-take-le, take_all}
use Rattle.list_merge.specs.Inner.Inner.{Fronts}
use Rattle.list_merge.proofs.{Stepping.chosen_second, Stepping.chosen_first, Stepping.chosen_rest, Turning.fronts, Turning.next_is, Turning.which_is}
use Rattle.list_merge.proofs.next.Goals as goal

pub slice_bounds-result-end : goal.slice_bounds-result-end
slice_bounds-result-end c = sym (length-take-le c.args.n c.args.second.now
    (subst (λ w. Fronts c.args.n w c.args.first.now c.args.second.now) c.in-Less.is
    (fronts c.args.n c.args.order.now c.args.first.now c.args.second.now c.requires.0 c.args.way c.requires.1)))

pub slice_bounds-result-end-in-Equal : goal.slice_bounds-result-end-in-Equal
slice_bounds-result-end-in-Equal c =
    let f = subst (λ w. Fronts c.args.n w c.args.first.now c.args.second.now) c.in-Equal.is
    (fronts c.args.n c.args.order.now c.args.first.now c.args.second.now c.requires.0 c.args.way c.requires.1) in
    sym (length-take-le c.args.n _ (omega (arith, f.0, f.1)))

pub returns-then-first-eq0 : goal.returns-then-first-eq0
returns-then-first-eq0 c = record {
  result_value = sym (take_all c.args.n c.args.first.now (omega (arith, c.if-first-eq0.true))) ∙ ap (take c.args.n) (chosen_rest _ c.in-Greater.is _ _)
      ∙ next_is c.args.n c.args.order.now c.args.first.now c.args.second.now c.requires.0
      c.args.way c.requires.1;
  ref_ptr_value = chosen_rest _ c.in-Greater.is _ _ ∙ which_is c.args.n c.args.order.now c.args.first.now c.args.second.now c.requires.0 c.args.way c.requires.1 _ _;
}

pub slice_bounds-result-end-in-Greater : goal.slice_bounds-result-end-in-Greater
slice_bounds-result-end-in-Greater c = sym
    (length-take-le c.args.n c.args.first.now (subst (λ w. Fronts c.args.n w c.args.first.now c.args.second.now) c.in-Greater.is
    (fronts c.args.n c.args.order.now c.args.first.now c.args.second.now c.requires.0 c.args.way c.requires.1) c.if-first-eq0.false))

pub returns-in-Less : goal.returns-in-Less
returns-in-Less c =
    record {
      result_value = ap (take c.args.n) (chosen_second _ c.in-Less.is _ _)
          ∙ next_is c.args.n c.args.order.now c.args.first.now c.args.second.now c.requires.0 c.args.way c.requires.1;
      ref_ptr_value = chosen_second _ c.in-Less.is _ _ ∙ which_is c.args.n
          c.args.order.now c.args.first.now c.args.second.now c.requires.0 c.args.way c.requires.1 _ _;
    }

pub returns-in-Equal : goal.returns-in-Equal
returns-in-Equal c = record {
  result_value = ap (take c.args.n) (chosen_first _ c.in-Equal.is _ _)
      ∙ next_is c.args.n c.args.order.now c.args.first.now c.args.second.now c.requires.0 c.args.way c.requires.1;
  ref_ptr_value = chosen_first _ c.in-Equal.is _ _ ∙ which_is c.args.n
      c.args.order.now c.args.first.now c.args.second.now c.requires.0 c.args.way c.requires.1 _ _;
}

pub returns-else-first-eq0 : goal.returns-else-first-eq0
returns-else-first-eq0 c =
    record {
      result_value = ap (take c.args.n) (chosen_rest _ c.in-Greater.is _ _)
          ∙ next_is c.args.n c.args.order.now c.args.first.now c.args.second.now c.requires.0 c.args.way c.requires.1;
      ref_ptr_value = chosen_rest _ c.in-Greater.is _ _ ∙ which_is c.args.n
          c.args.order.now c.args.first.now c.args.second.now c.requires.0 c.args.way c.requires.1 _ _;
    }
