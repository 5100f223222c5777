use Rattle.std.proofs.{Common.rules, lemmas.List.nil_from_length}
use Rattle.wax_match.proofs.Lefts.{without_text}
use Rattle.wax_match.proofs.encode.left.Left.with_text.Goals as goal

pub returns-then-is_same-clause-means : goal.returns-then-is_same-clause-means
returns-then-is_same-clause-means c =
    without_text c.args.self.now c.new.result c.args.text (nil_from_length _ (search rules))
    (c.is_same.ensures c.if-is_same.true) c.new.ensures.means
