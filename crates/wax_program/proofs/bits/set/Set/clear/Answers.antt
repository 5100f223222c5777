use Rattle.std.proofs.Common.{arith, ap, length}
use Rattle.wax_program.proofs.BitFlags.{length-bits_of, empty_of_replicate}
use Rattle.wax_program.proofs.bits.set.Set.clear.Goals as goal

pub returns-clause-room : goal.returns-clause-room
returns-clause-room c =
    omega (
      arith,
      length-bits_of c.fill.new.self.items,
      length-bits_of c.self.inside.words.items,
      ap length c.self.view_is,
      c.fill.ensures.len,
      c.fill.new.self.ok.0,
      c.self.inside.words.ok.0,
    )

pub returns-clause-empty : goal.returns-clause-empty
returns-clause-empty c = rw (c.fill.ensures.items (λ y e. e)) (empty_of_replicate _)
