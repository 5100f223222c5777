use Rattle.std.proofs.Common.{◌<◌, length, ap, arith}
use Rattle.wax_program.proofs.Words.{length_word, word_insert}
use Rattle.wax_program.proofs.bits.word.Word.insert.Goals as goal

pub returns : goal.returns
returns c =
    let w = c.self.inside.bits in
    let low : c.args.at < 64 = omega (arith, length_word w, ap length c.self.view_is) in
    rw (← c.self.view_is) (word_insert w c.args.at low)
