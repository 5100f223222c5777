use Rattle.std.proofs.{Common.{sym, ◌∙◌, subst}, lemmas.Result.IfOk-weaker}
use Rattle.wax_program.specs.Onward.{HoldsOther}
use Rattle.wax_program.proofs.Others.{negated_other, plain_other}
use Rattle.wax_program.proofs.instruction.class_other.Goals as goal

pub returns-then-negated : goal.returns-then-negated
returns-then-negated c =
    let xs = c.args.archetypes.now in
    let forward = sym c.are_forward.ensures ∙ c.if-not-are_forward.false in
    let same = negated_other xs forward in
    IfOk-weaker c.leaves_other.result _ _ (λ b h. (
      (λ t. subst (λ n. HoldsOther n xs) (sym c.if-negated.true) (same.0 (h.0 t))),
      (λ g. h.1 (same.1 (subst (λ n. HoldsOther n xs) c.if-negated.true g))),
    )) c.leaves_other.ensures

pub returns : goal.returns
returns c =
    let xs = c.args.archetypes.now in
    let forward = sym c.are_forward.ensures ∙ c.if-not-are_forward.false in
    let same = plain_other xs forward in (
      (λ t. subst (λ n. HoldsOther n xs) (sym c.if-negated.false) (same.0 (c.list_other.ensures.0 t))),
      (λ g. c.list_other.ensures.1 (same.1 (subst (λ n. HoldsOther n xs) c.if-negated.false g))),
    )
