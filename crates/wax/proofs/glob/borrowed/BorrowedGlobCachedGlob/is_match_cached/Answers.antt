use Rattle.std.proofs.Common.{◌↔◌, ◌+◌, ◌<◌, ◌≤◌, List, IfOk, IsTrue, ap, chars, length, sym, subst}
use Rattle.wax_lazy.proofs.Costs.{path_within}
use Rattle.wax_lazy.specs.Cost.{path_visits}
use Rattle.wax_program.specs.declared.instruction.Instruction.{Instruction}
use Rattle.wax_token.specs.Cost.{program_length}
use Rattle.wax.specs.{GlobView.IsMeant, Matching.AcceptsMeant}
use Rattle.wax_program.proofs.LastNames.{same_answer}
use Rattle.wax.proofs.glob.borrowed.BorrowedGlobCachedGlob.is_match_cached.Goals as goal

pub invariant_of-self : goal.invariant_of-self
invariant_of-self c = (
  subst (λ code. AcceptsMeant code c.self.inside.glob.now) (sym c.is_match_metered.ensures.same)
      c.self.invariant.0,
  c.self.invariant.1,
  subst (λ (code : List Instruction). length code < program_length c.self.inside.glob.now.tree)
      (sym c.is_match_metered.ensures.same) c.self.invariant.2,
)

pub returns-clause-means : goal.returns-clause-means
returns-clause-means c =
    let text = chars c.as_str.result.now in
    let here = same_answer c.is_match_metered.result _ _ (c.self.invariant.0 text)
    c.is_match_metered.ensures.decides in
    let there =
    subst (λ g. IfOk c.is_match_metered.result (λ b. IsTrue b ↔ IsMeant g text)) c.self.view_is here in
    subst (λ z. IfOk c.is_match_metered.result (λ b. IsTrue b ↔ IsMeant c.args.self.now z))
    c.as_str.ensures there

pub returns-clause-above : goal.returns-clause-above
returns-clause-above c =
    let m = c.is_match_metered in
    let size = program_length c.self.inside.glob.now.tree in
    let within = path_within c.self.inside.matcher size c.self.invariant.2
    (length (chars c.as_str.result.now)) c.args.meter.now m.new.meter m.ensures.above in
    let there = subst (λ n. m.new.meter ≤ c.args.meter.now + path_visits size n)
    (ap length c.as_str.ensures) within in
    subst (λ g. m.new.meter ≤ c.args.meter.now + path_visits (program_length g.tree) (length c.args.path.now))
    c.self.view_is there
