use Rattle.std.proofs.{Common.{sym, ap, ◌∙◌, ◌+◌, arith}, lemmas.List.Sums.position_or_len_is}
use Rattle.wax_lines.specs.inner.Sifted.{is_feed}
use Rattle.wax_lines.proofs.Feeds.{found_at, none_further}
use lib.Count.{count_trailing_zeros}
use Rattle.wax_lines.proofs.lines.feed.first_feed.Goals as goal

pub returns-then-found-ne0 : goal.returns-then-found-ne0
returns-then-found-ne0 c =
    let found = c.feeds-found.ensures in
    ap (λ mask. c.loop-at.at + count_trailing_zeros 64 mask) found
    ∙ found_at c.args.bytes.now c.loop-at.at 32 (omega arith) c.loop-at.invariant.1 (omega arith)
    (omega (arith, found))

pub loop-at-preserved : goal.loop-at-preserved
loop-at-preserved c = (
  omega arith,
  none_further c.args.bytes.now c.loop-at.at 32 (omega arith) c.loop-at.invariant.1
      (omega (arith, c.feeds-found.ensures)),
)

pub returns-else-bytes-at-ne10 : goal.returns-else-bytes-at-ne10
returns-else-bytes-at-ne10 c =
    sym (position_or_len_is is_feed c.args.bytes.now c.loop-at-2.at 0 c.loop-at-2.invariant.0
    c.loop-at-2.invariant.1
    (λ _. ap is_feed c.if-bytes-at-ne10.false))

pub returns-after-loop-at-2 : goal.returns-after-loop-at-2
returns-after-loop-at-2 c =
    sym (position_or_len_is is_feed c.args.bytes.now c.loop-at-2.at 0 c.loop-at-2.invariant.0
    c.loop-at-2.invariant.1 (λ l. absurd (omega arith)))
