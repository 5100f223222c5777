use Rattle.std.proofs.Common.{◌≡◌, ◌+◌, ◌/◌, length, replicate, arith, rules, ap, ◌∙◌}
use Rattle.std.proofs.lemmas.List.{length-replicate}
use Rattle.wax_program.proofs.BitFlags.{length-bits_of, empty_of_replicate}
use Rattle.wax_program.proofs.bits.set.Set.new.Goals as goal

pub returns-clause-room : goal.returns-clause-room
returns-clause-room c =
    let e : c.in_ok-words.words.items ≡ replicate (c.args.last / 64 + 1) 0 = search rules in
    let l : length c.in_ok-words.words.items ≡ c.args.last / 64 + 1 =
    ap length e ∙ length-replicate (c.args.last / 64 + 1) 0 in
    omega (arith, length-bits_of c.in_ok-words.words.items, l)

pub returns-clause-empty : goal.returns-clause-empty
returns-clause-empty c =
    let e : c.in_ok-words.words.items ≡ replicate (c.args.last / 64 + 1) 0 = search rules in
    rw e (empty_of_replicate (c.args.last / 64 + 1))
