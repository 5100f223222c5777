use Rattle.std.proofs.Common.{◌≡◌, chars, rules}
use Rattle.wax_token.specs.{Syntax.literal, View.leaf_of}
use Rattle.wax_token.proofs.Same.{literal_same}
use Rattle.wax_token.proofs.token.same.same_leaf.Goals as goal

pub returns-then-a-b-2 : goal.returns-then-a-b-2
returns-then-a-b-2 c =
    let a = c.a-in-Literal.inside in
    let b = c.b-in-Literal-other.inside in
    let s = c.as_str.result.now in
    let t = c.as_str-then-a-b-2.result.now in
    let is : leaf_of c.args.leaf.now ≡ literal a.is_case_insensitive (chars s) = search rules in
    let its : leaf_of c.args.other.now ≡ literal b.is_case_insensitive (chars t) = search rules in
    let flag : a.is_case_insensitive ≡ b.is_case_insensitive = search rules in
    literal_same c.eq.result _ _ _ _ s t is its flag c.as_str.utf8 c.as_str-then-a-b-2.utf8 c.eq.ensures
