use Rattle.std.proofs.Common.{◌≡◌, ◌∙◌, ◌-◌, chars, length, slice_get, subst, sym}
use Rattle.wax_lazy.proofs.Numbering.{last_where}
use Rattle.wax_lazy.specs.{inner.Cached.numbers_known, Numbers.AreNumbers}
use Rattle.wax_lazy.proofs.matcher.Matcher.last_number_metered.Goals as goal

pub returns-clause-last : goal.returns-clause-last
returns-clause-last g c =
    let found = numbers_known c.find_numbers.new.self.cache c.in_ok-found.found in
    let are = subst (λ z. AreNumbers z (chars c.args.text.now) found)
    (c.program-program.ensures ∙ c.self.view_is) c.in_ok-found.ensures.numbers in
    let listed = subst (AreNumbers c.args.self.now (chars c.args.text.now)) c.numbers.ensures are in
    let last = subst (λ z. z ≡ slice_get c.numbers.result.now (length c.numbers.result.now - 1))
    (sym c.copied.ensures) c.last.ensures.value in
    last_where _ c.numbers.result.now c.copied.result listed.0 listed.1 last
