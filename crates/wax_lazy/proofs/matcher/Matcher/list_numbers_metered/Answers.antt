use Rattle.std.proofs.Common.{◌∙◌, chars, subst}
use Rattle.wax_lazy.specs.{inner.Cached.numbers_known, Numbers.AreNumbers}
use Rattle.wax_lazy.proofs.matcher.Matcher.list_numbers_metered.Goals as goal

pub returns-clause-numbers : goal.returns-clause-numbers
returns-clause-numbers g c =
    let found = numbers_known c.find_numbers.new.self.cache c.in_ok-found.found in
    let are = subst (λ z. AreNumbers z (chars c.args.text.now) found)
    (c.program-program.ensures ∙ c.self.view_is) c.in_ok-found.ensures.numbers in
    rw (c.in_ok-extend_from_slice.ensures.items, c.clear.ensures.items)
    (subst (AreNumbers c.args.self.now (chars c.args.text.now)) c.numbers.ensures are)
