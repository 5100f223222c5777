use Rattle.std.specs.{Bool.one_answer, Coded.{coded_ℕ, coded×}}
use Rattle.wax_token.specs.{Same.{is_same, same_decides}, TreeCode.tree_code}
use Rattle.wax_token.proofs.token.same.TokenExpressionMetadataPartialEq.eq.Goals as goal

pub returns : goal.returns
returns c =
    let code = tree_code (coded× coded_ℕ coded_ℕ) in
    let t = c.args.self.now in
    let u = c.args.other.now in
    one_answer c.same.result (is_same code t u) c.same.ensures (same_decides code t u)
