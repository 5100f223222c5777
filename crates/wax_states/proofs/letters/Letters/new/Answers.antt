use Rattle.std.proofs.Common.{refl}
use Rattle.wax_states.proofs.Unmarked.{shared_alike}
use Rattle.wax_states.proofs.letters.Letters.new.Goals as goal

pub returns-clause-letters : goal.returns-clause-letters
returns-clause-letters c = record {
  room = c.mark_foldings.ensures.room;
  alike = shared_alike c.mark_tests.new.marks c.mark_foldings.new.marks c.mark_foldings.ensures.kept
      c.mark_foldings.ensures.foldings c.args.program.now.0 (c.if-not-mark_tests.ensures.tests refl)
      c.unmarked-shared.result c.unmarked-shared.ensures;
}
