use Rattle.std.proofs.{Common.{rules, subst}, lemmas.List.nil_from_length}
use Rattle.wax_match.proofs.Lefts.{after_wild}
use Rattle.wax_match.specs.{declared.encode.left.Lead.TheVariants.Wild, inner.Left.IsAfter}
use Rattle.wax_match.proofs.encode.left.Left.after_gap.Goals as goal

pub returns : goal.returns
returns c =
    subst (λ g. IsAfter (Wild g) c.args.self.now c.new.result) (c.is_same.ensures c.if-not-is_same.false)
    (after_wild c.args.self.now c.new.result (nil_from_length _ (search rules))
    c.new.ensures.number c.new.ensures.means c.new.ensures.cost)
