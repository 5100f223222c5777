use Rattle.std.proofs.{Common.{◌≡◌, ◌*◌, ◌/◌, ◌<◌, length, get_or, ap, arith}, lemmas.List.get_or_read}
use Rattle.wax_program.proofs.BitFlags.{length-bits_of, bits_of-remove}
use Rattle.wax_program.proofs.bits.set.Set.remove.Goals as goal

pub index-word-requires : goal.index-word-requires
index-word-requires c =
    omega
    (arith, length-bits_of c.self.inside.words.items, ap length c.self.view_is, c.self.inside.words.ok.0)

pub index_mut-requires : goal.index_mut-requires
index_mut-requires c =
    omega
    (arith, length-bits_of c.self.inside.words.items, ap length c.self.view_is, c.self.inside.words.ok.0)

pub returns : goal.returns
returns c =
    let words = c.self.inside.words.items in
    let within : c.args.at < 64 * length words =
    omega (arith, length-bits_of words, ap length c.self.view_is) in
    let read : c.index-word.result.now ≡ get_or words (c.args.at / 64) 0 =
    get_or_read words (c.args.at / 64) _ (omega arith) c.index-word.ensures 0 in
    rw (← c.self.view_is) (bits_of-remove words c.args.at c.index-word.result.now within read)
