use Rattle.std.proofs.{Common.{◌+◌, refl, arith}, lemmas.List.{take_all, length-drop}}
use Rattle.wax_lines.proofs.Cuts.{cut_at_feed, no_feed}
use Rattle.wax_lines.proofs.lines.feed.split_line.Goals as goal

pub returns-then-at-bytes : goal.returns-then-at-bytes
returns-then-at-bytes c =
    let s = c.args.bytes.now in
    let at = c.first_feed-at.result in
    cut_at_feed s _ _ at c.first_feed-at.ensures c.if-at-bytes.true refl
    (take_all _ _ (omega (arith, length-drop (at + 1) s)))

pub returns-else-at-bytes : goal.returns-else-at-bytes
returns-else-at-bytes c =
    no_feed c.args.bytes.now c.first_feed-at.result c.first_feed-at.ensures c.if-at-bytes.false
