use Rattle.std.proofs.Common.{◌+◌, ◌<◌, ◌≤◌, List, ap, chars, length, sym, subst}
use Rattle.wax_lazy.proofs.Costs.{verdict_within}
use Rattle.wax_lazy.specs.Cost.{first_visits, path_visits}
use Rattle.wax_program.specs.declared.instruction.Instruction.{Instruction}
use Rattle.wax_token.specs.Cost.{program_length}
use Rattle.wax.specs.Matching.{AcceptsMeant}
use Rattle.wax_set.proofs.Matchers.{verdict_decides, verdict_onward}
use Rattle.wax.proofs.glob.borrowed.BorrowedGlobCachedGlob.verdict_cached.Goals as goal

abbrev accepts : (c : goal.After-verdict_metered) → AcceptsMeant c.self.inside.matcher c.args.self.now
accepts c = subst (AcceptsMeant c.self.inside.matcher) c.self.view_is c.self.invariant.0

pub invariant_of-self : goal.invariant_of-self
invariant_of-self c = (
  subst (λ code. AcceptsMeant code c.self.inside.glob.now) (sym c.verdict_metered.ensures.same)
      c.self.invariant.0,
  c.self.invariant.1,
  subst (λ (code : List Instruction). length code < program_length c.self.inside.glob.now.tree)
      (sym c.verdict_metered.ensures.same) c.self.invariant.2,
)

pub returns-clause-decides : goal.returns-clause-decides
returns-clause-decides c =
    verdict_decides c.args.self.now.tree c.self.inside.matcher (accepts c) c.verdict_metered.result
    c.args.most _
    c.args.path.now c.as_str.ensures c.verdict_metered.ensures.decides

pub returns-clause-onward : goal.returns-clause-onward
returns-clause-onward c =
    verdict_onward c.args.self.now.tree c.self.inside.matcher (accepts c) c.verdict_metered.result
    c.args.most _
    c.args.path.now c.as_str.ensures c.verdict_metered.ensures.decides

pub returns-clause-above : goal.returns-clause-above
returns-clause-above c =
    let m = c.verdict_metered in
    let size = program_length c.self.inside.glob.now.tree in
    let most = c.args.most in
    let within = verdict_within c.self.inside.matcher size c.self.invariant.2 most
    (length (chars c.as_str.result.now)) c.args.meter.now m.new.meter m.ensures.above in
    let there = subst (λ n. m.new.meter ≤ c.args.meter.now + first_visits size most + path_visits size n)
    (ap length c.as_str.ensures) within in
    subst (λ g. m.new.meter ≤ c.args.meter.now + first_visits (program_length g.tree) most
    + path_visits (program_length g.tree) (length c.args.path.now)) c.self.view_is there
