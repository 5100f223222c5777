use Rattle.std.proofs.Common.{rules}
use Rattle.wax_token.proofs.Sizes.{alternation_weighs, concatenation_weighs}
use Rattle.wax_token.proofs.token.Token.+token.Goals as goal

pub drop-self-inside-requires : goal.drop-self-inside-requires
drop-self-inside-requires g t c κs p = (
  ((alternation_weighs _ c.self.inside.annotation c.args.self t (search rules) (search rules), tt), tt),
  (search rules, search rules),
)

pub drop-requires : goal.drop-requires
drop-requires g t c κs p = (
  ((concatenation_weighs _ c.self.inside.annotation c.args.self t (search rules) (search rules), tt), tt),
  (search rules, search rules),
)
