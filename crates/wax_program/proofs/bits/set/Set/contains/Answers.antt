use Rattle.std.proofs.Common.{◌≡◌, ◌*◌, ◌/◌, ◌%◌, ◌<◌, ◌∙◌, length, get_or, eqb, sym, ap, arith}
use Rattle.std.proofs.{lemmas.List.get_or_read, lemmas.Nat.Bits.shr_and_one}
use Rattle.std.specs.Int.{bit_at}
use Rattle.wax_program.proofs.BitFlags.{length-bits_of, get_or-bits_of}
use Rattle.wax_program.proofs.bits.set.Set.contains.Goals as goal

pub index-requires : goal.index-requires
index-requires c =
    omega
    (arith, length-bits_of c.self.inside.words.items, ap length c.self.view_is, c.self.inside.words.ok.0)

pub returns : goal.returns
returns c =
    let words = c.self.inside.words.items in
    let within : c.args.at < 64 * length words =
    omega (arith, length-bits_of words, ap length c.self.view_is) in
    let read : c.index.result.now ≡ get_or words (c.args.at / 64) 0 =
    get_or_read words (c.args.at / 64) _ (omega arith) c.index.ensures 0 in
    rw (← c.self.view_is) (ap (λ x. eqb x 1) (shr_and_one c.index.result.now (c.args.at % 64))
    ∙ ap (λ x. eqb (bit_at x (c.args.at % 64)) 1) read ∙ sym (get_or-bits_of words c.args.at within))
