use Rattle.std.proofs.Common.{◌≡◌, Bool, true, false, IsTrue, not, refl}
use Rattle.wax_compare.specs.{inner.Automata.state_places, inner.Reaching.Readings, inner.Searching.readings}
use Rattle.wax_compare.proofs.Steps.{goes_here}
use Rattle.wax_compare.proofs.search.Search.is_wanted.Goals as goal

not_false : (b : Bool) → not b ≡ false → b ≡ true
not_false true e = refl
not_false false e = cc

pub returns : goal.returns
returns c =
    let r : Readings = readings c.args.first.now.0 c.args.second.now.0 c.args.self.now in
    let pair = c.args.pair in
    let here = goes_here r.task (state_places r.firsts pair.first) (state_places r.seconds pair.second)
    pair.may_end (IsTrue c.selects-by_first.result) (IsTrue c.selects-by_second.result)
    (not_false pair.may_end c.if-not-pair.false)
    c.selects-by_first.ensures c.selects-by_second.ensures in
    ((λ h. here.0 (c.is_as_wanted.ensures.0 h)), (λ g. c.is_as_wanted.ensures.1 (here.1 g)))
