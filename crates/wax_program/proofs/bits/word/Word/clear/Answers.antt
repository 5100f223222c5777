use Rattle.std.proofs.Common.{◌∙◌, ap, length, sym}
use Rattle.wax_program.proofs.Words.{length_word, empty_word}
use Rattle.wax_program.proofs.bits.word.Word.clear.Goals as goal

pub returns-clause-room : goal.returns-clause-room
returns-clause-room c = length_word 0 ∙ sym (length_word c.self.inside.bits) ∙ ap length c.self.view_is

pub returns-clause-empty : goal.returns-clause-empty
returns-clause-empty c = empty_word
