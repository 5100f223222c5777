use Rattle.std.proofs.{Common.{◌∷◌, ◌-◌, ◌<◌, [], get_or, length, ap, arith}, lemmas.Result.on_ok_weaker}
use Rattle.wax_match.proofs.SharedEnds.{end_kept, ends_stay, known_end, written_jump, written_stay}
use Rattle.wax_match.specs.declared.encode.left.Gap.TheVariants.{Nothing}
use Rattle.wax_match.specs.declared.encode.shared.WrittenEnd.{WrittenEnd}
use Rattle.wax_match.proofs.encode.tail.Tail.put_end.Goals as goal

pub returns-then-at-ends-clause-kept : goal.returns-then-at-ends-clause-kept
returns-then-at-ends-clause-kept c =
    on_ok_weaker c.put_new_end.result (λ w. written_stay c.args.self.now c.put_new_end.new.self
    c.args.ends.now w c.requires) c.put_new_end.ensures.written

pub returns-then-is_end_of-clause-written : goal.returns-then-is_end_of-clause-written
returns-then-is_end_of-clause-written c =
    let found = c.is_end_of.ensures c.if-is_end_of.true in
    let lt : c.room_of-at.result < length c.args.ends.now = omega (arith, c.if-at-ends.false) in
    let none : WrittenEnd = record { number = 0; gap = Nothing; len = 0 } in
    on_ok_weaker c.put.result
    (λ w. written_jump _ _ c.args.self.now c.put.new.self found.0
    (ap (λ n. n - (get_or c.args.ends.now c.room_of-at.result none).len) c.len.ensures) w
    (known_end c.args.self.now c.args.ends.now c.room_of-at.result none c.args.number c.args.gap c.requires lt
    found)) c.put.ensures

pub returns-then-is_end_of-clause-kept : goal.returns-then-is_end_of-clause-kept
returns-then-is_end_of-clause-kept c =
    on_ok_weaker c.put.result
    (λ w. ends_stay c.args.self.now c.put.new.self (_ ∷ []) w c.args.ends.now c.requires) c.put.ensures

pub returns-clause-kept : goal.returns-clause-kept
returns-clause-kept c =
    end_kept c.args.self.now c.put_new_end-2.new.self c.args.ends.now c.room_of-at.result _ c.len-2.ensures
    c.in_ok-put_new_end.ensures.written c.requires
