use Rattle.std.proofs.Common.{◌<◌, ℕ, subst, sym, arith}
use Rattle.wax_program.specs.{Places.HoldsPlace, Threads.Advances}
use Rattle.wax_program.proofs.rounds.step.Goals as goal

pub returns-clause-advances : goal.returns-clause-advances
returns-clause-advances g c = λ _.
    subst (λ z. Advances c.args.program.now.0 c.args.c (g.R.Sets.position c.args.sets.now).pending z)
    (sym c.turn.ensures.pending) c.advance-found.ensures.advances

pub returns-clause-below : goal.returns-clause-below
returns-clause-below g c = λ _.
    let here : (k : ℕ) × HoldsPlace (g.R.Sets.position c.args.sets.now).pending k
    × (k < (g.R.Sets.position c.args.sets.now).size) = c.if-is_done.ensures in
    omega (
      arith,
      c.advance-found.ensures.below here.0 here.1 (omega (arith, here.2, c.requires.size)),
      c.stays.ensures.steady,
    )
