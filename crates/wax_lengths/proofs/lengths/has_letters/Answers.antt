use Rattle.std.proofs.Common.{◌-◌, ℕ, List, drop, length, length-drop, arith}
use Rattle.wax_lengths.proofs.FormLengths.{spelled_at}
use Rattle.wax_lengths.proofs.lengths.has_letters.Goals as goal

pub returns-then-letters-len : goal.returns-then-letters-len
returns-then-letters-len c = λ no n h.
    let text : List ℕ = c.args.text.now in
    let letters : List ℕ = c.args.letters.now in
    let (within, same) = spelled_at c.args.is_folded letters (drop c.args.at text) n (length letters - 1) h
    (omega (arith, c.if-letters-len.true)) in
    absurd (omega (arith, within, length-drop c.args.at text, c.len.ensures.is, c.if-letters-len.true))
