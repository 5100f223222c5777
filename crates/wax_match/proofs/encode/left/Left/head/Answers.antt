use Rattle.std.proofs.{Common.{rules, refl}, lemmas.List.nil_from_length}
use Rattle.wax_match.proofs.Lefts.{after_token, after_wild, head_rest, left_ending}
use Rattle.wax_match.proofs.encode.left.Left.head.Goals as goal

pub returns-in_default : goal.returns-in_default
returns-in_default c =
    left_ending c.args.self.now (nil_from_length _ (search rules)) (nil_from_length _ (search rules))

pub returns-in-Nothing : goal.returns-in-Nothing
returns-in-Nothing c =
    after_token c.args.self.now c.new-after.result _ _ _ (nil_from_length _ (search rules)) c.in-Nothing.is
    (head_rest c.args.self.now.tokens.now c.first-item.result c.in-len1-up.len_at_least c.first-item.is) refl
    (search rules) c.new-after.ensures.number c.new-after.ensures.means c.new-after.ensures.cost

pub returns : goal.returns
returns c = after_wild c.args.self.now c.new-after-2.result (nil_from_length _ (search rules))
    c.new-after-2.ensures.number c.new-after-2.ensures.means c.new-after-2.ensures.cost
