use Rattle.std.proofs.Common.{◌<◌, ◌^◌, arith}
use Rattle.wax_program.proofs.Words.{word_lowest, word_held}
use Rattle.wax_program.proofs.bits.word.Word.first.Goals as goal

pub returns-clause-lowest : goal.returns-clause-lowest
returns-clause-lowest c =
    let small : c.self.inside.bits < 2 ^ 64 = omega arith in
    rw (← c.self.view_is) (word_lowest c.self.inside.bits small)

pub returns-clause-held : goal.returns-clause-held
returns-clause-held c =
    let small : c.self.inside.bits < 2 ^ 64 = omega arith in
    rw (← c.self.view_is) (word_held c.self.inside.bits small)
