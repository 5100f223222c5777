use Rattle.std.proofs.{Common.{◌≡◌, ◌<◌, length, ap, arith}, lemmas.List.length-reverse}
use Rattle.wax_match.proofs.Tails.{reverse-set}
use Rattle.wax_match.proofs.encode.tail.Tail.replace.Goals as goal

pub returns : goal.returns
returns c =
    let xs = c.self.inside.reversed.items in
    let n : c.len.result ≡ length xs = omega (arith, c.len.ensures, c.self.inside.reversed.ok.0) in
    let lt : c.args.by < length xs = omega (arith, ap length c.self.view_is, length-reverse xs) in
    rw (← c.self.view_is, n) (reverse-set c.args.instruction xs c.args.by c.args.instruction lt)
