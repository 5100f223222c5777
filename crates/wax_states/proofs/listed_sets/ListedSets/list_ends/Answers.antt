use Rattle.std.proofs.{Common.{◌≡◌, ◌+◌, length, sym, subst, arith}, lemmas.Result.IfOk-weaker}
use Rattle.wax_program.proofs.Members.{members_within}
use Rattle.wax_program.specs.Threads.{IsDone}
use Rattle.wax_states.proofs.Listings.{list_read}
use Rattle.wax_states.proofs.listed_sets.ListedSets.list_ends.Goals as goal

pub returns-clause-ends : goal.returns-clause-ends
returns-clause-ends c =
    let s = c.self.inside in
    let sized = subst (λ p. p.size ≡ length c.args.program.now.0) (sym c.self.view_is) c.requires.size in
    rw (← c.self.view_is) (IfOk-weaker c.list_ends_among.result _ _
    (λ w l. list_read c.args.program.now.0 s.size s.taken s.here s.next s.read c.self.invariant sized
    (subst IsDone (sym c.self.view_is) c.requires.done) c.places.result.now c.places.ensures.all _ l)
    c.list_ends_among.ensures.ends)

pub returns-clause-above : goal.returns-clause-above
returns-clause-above c =
    let s = c.self.inside in
    let sized : c.self.inside.size ≡ length c.args.program.now.0 =
    subst (λ p. p.size ≡ length c.args.program.now.0) (sym c.self.view_is) c.requires.size in
    omega (
      arith,
      sized,
      c.places.ensures.counted,
      members_within (s.size + 1) s.here.flags c.self.invariant.here_within,
      c.list_ends_among.ensures.above,
    )
