use Rattle.std.proofs.{Common.{◌<◌, ◌%◌, ◌∙◌, length, eqb, ap, arith}, lemmas.Nat.Bits.shr_and_one}
use Rattle.wax_program.proofs.Words.{length_word, word_contains}
use Rattle.wax_program.proofs.bits.word.Word.contains.Goals as goal

pub returns : goal.returns
returns c =
    let w = c.self.inside.bits in
    let low : c.args.at < 64 = omega (arith, length_word w, ap length c.self.view_is) in
    rw (← c.self.view_is) (ap (λ x. eqb x 1) (shr_and_one w (c.args.at % 64)) ∙ word_contains w c.args.at low)
