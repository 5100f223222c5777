use Rattle.std.proofs.{Common.{◌≡◌, length, ap, arith, rules, chars}, lemmas.Str.chars_from_encodes}
use Rattle.wax_token.specs.Meaning.{SameText}
use Rattle.wax_prefilter.proofs.Lengths.{same_length}
use Rattle.wax_prefilter.proofs.least.least_of_leaf.Goals as goal

pub returns-in-Literal : goal.returns-in-Literal
returns-in-Literal c = λ before after text h.
    let literal = c.in-Literal.literal in
    let m : SameText literal.0 literal.1 text = rw c.in-Literal.is at h in
    let count : c.count.result ≡ length (chars c.text.result.now) = search (rules, chars_from_encodes) in
    omega (arith, count, ap length c.text.ensures, same_length literal.0 literal.1 text m)
