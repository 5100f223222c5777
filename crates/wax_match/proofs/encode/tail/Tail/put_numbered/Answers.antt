use Rattle.std.proofs.{Common.{◌<◌, ap, arith, length, rules}, lemmas.List.nil_from_length}
use Rattle.std.proofs.{lemmas.List.Sorted.length_permutation, lemmas.Result.on_ok_weaker}
use Rattle.wax_match.proofs.Joining.{none_written, numbered_written}
use Rattle.wax_match.proofs.encode.tail.Tail.put_numbered.Goals as goal

pub returns-then-is_empty-clause-written : goal.returns-then-is_empty-clause-written
returns-then-is_empty-clause-written c =
    on_ok_weaker c.put.result (λ w. none_written c.args.patterns.now c.args.self.now c.put.new.self
    (nil_from_length _ (search rules)) w) c.put.ensures

pub put_lefts-requires-clause-some : goal.put_lefts-requires-clause-some
put_lefts-requires-clause-some c =
    let some : 0 < length c.args.patterns.now = search rules in
    let same =
    length_permutation c.in_ok-all_of.field-0.items c.sorted-lefts.result.items c.sorted-lefts.ensures in
    omega (arith, some, c.in_ok-all_of.ensures.len, same, ap length c.deref.ensures.value)

pub returns-clause-written : goal.returns-clause-written
returns-clause-written c =
    on_ok_weaker c.put_lefts.result
    (λ w. numbered_written c.args.patterns.now c.in_ok-all_of.field-0.items c.sorted-lefts.result.items
    c.args.self.now c.put_lefts.new.self
    c.in_ok-all_of.ensures.means c.sorted-lefts.ensures (rw c.deref.ensures.value at w))
    c.put_lefts.ensures.written
