use Rattle.std.proofs.Common.{◌≡◌, ◌≤◌, ◌+◌, ap, chars, length, false, subst, sym, true≢false, ◌∙◌, rules}
use Rattle.std.proofs.lemmas.Result.{IfOk-weaker}
use Rattle.wax_exclude.proofs.ListLengths.{list_within}
use Rattle.wax_lazy.specs.{Cost.path_visits, Numbers.AreNumbers}
use Rattle.wax_token.specs.Cost.{program_length}
use Rattle.wax_set.specs.Sets.{IsNumbered, MeansText}
use Rattle.wax_set.proofs.Numbers.{are_matches, no_matches}
use Rattle.wax_set.proofs.set.borrowed.BorrowedSetCachedSet.list_matches.Goals as goal

pub returns-then-not-may_match_quickly-clause-matches : goal.returns-then-not-may_match_quickly-clause-matches
returns-then-not-may_match_quickly-clause-matches c =
    let rejected : c.may_match_quickly.result ≡ false = search rules in
    no_matches c.args.self.now c.args.path.now c.clear.new.self.items c.clear.ensures.items
    (λ m. true≢false (sym (c.may_match_quickly.ensures
    (subst (λ t. MeansText t c.args.path.now) (sym c.self.view_is) m)) ∙ rejected))

pub invariant_of-self : goal.invariant_of-self
invariant_of-self c = (
  c.self.invariant.0,
  subst (IsNumbered c.self.inside.any.now) (sym c.list_numbers_metered.ensures.same) c.self.invariant.1,
  c.self.invariant.2,
  c.self.invariant.3,
)

pub returns-clause-matches : goal.returns-clause-matches
returns-clause-matches c =
    let numbers = subst (λ t. IsNumbered t c.self.inside.numbered) c.self.view_is c.self.invariant.1 in
    IfOk-weaker c.list_numbers_metered.result _ _
    (λ w are. are_matches c.args.self.now c.self.inside.numbered c.args.path.now
    c.list_numbers_metered.new.numbers.items numbers
    (subst (λ s. AreNumbers c.self.inside.numbered s c.list_numbers_metered.new.numbers.items)
    c.as_str.ensures are))
    c.list_numbers_metered.ensures.numbers

pub returns-clause-above : goal.returns-clause-above
returns-clause-above c =
    let m = c.list_numbers_metered in
    let size = program_length c.args.self.now in
    let numbers = subst (λ t. IsNumbered t c.self.inside.numbered) c.self.view_is c.self.invariant.1 in
    let within = list_within c.self.inside.numbered size numbers.shorter (length (chars c.as_str.result.now))
    c.args.meter.now m.new.meter m.ensures.above in
    subst (λ n. m.new.meter ≤ c.args.meter.now + path_visits size n + size) (ap length c.as_str.ensures)
    within
