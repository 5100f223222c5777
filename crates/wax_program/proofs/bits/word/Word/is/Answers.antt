use Rattle.std.proofs.Common.{◌<◌, ◌^◌, [], ◌∷◌, ◌∙◌, eqb-true, eq-eqb, ap, sym, arith}
use Rattle.wax_program.proofs.Words.{words_equal}
use Rattle.wax_program.specs.Bits.{bits_of}
use Rattle.wax_program.proofs.bits.word.Word.is.Goals as goal

pub returns : goal.returns
returns c =
    let w = c.self.inside.bits in
    let is_word : w < 2 ^ 64 = omega arith in
    let other_word : c.args.bits < 2 ^ 64 = omega arith in (
      (λ true_. sym c.self.view_is ∙ ap (λ x. bits_of (x ∷ [])) (eqb-true w c.args.bits true_)),
      (λ same. eq-eqb w c.args.bits (words_equal w c.args.bits is_word other_word (c.self.view_is ∙ same))),
    )
