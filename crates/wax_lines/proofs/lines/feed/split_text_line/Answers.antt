use Rattle.std.proofs.Common.{◌≡◌, ◌<◌, ℕ, ◌-◌, List, length, take, get_or, ap, ◌∙◌, subst, sym, arith}
use Rattle.std.proofs.lemmas.Str.{IsCharBoundary-before_ascii, IsCharBoundary-after_ascii}
use Rattle.std.specs.List.{position_or_len}
use Rattle.wax_lines.proofs.{Cuts.{cut_at_feed, no_feed}, Feeds.byte_at_feed}
use Rattle.wax_lines.specs.inner.Sifted.{is_feed}
use Rattle.wax_lines.proofs.lines.feed.split_text_line.Goals as goal

-- the byte at the first line feed is ASCII
is_ascii_at : (s : List ℕ) (at : ℕ) → at ≡ position_or_len is_feed s → at < length s → get_or s at 0 < 128
is_ascii_at s at found inside =
    subst (λ n. get_or s n 0 < 128) (sym found) (omega (arith, byte_at_feed s (omega (arith, found, inside))))

pub range-requires-clause-end_boundary : goal.range-requires-clause-end_boundary
range-requires-clause-end_boundary c =
    let found = c.first_feed-at.ensures ∙ ap (position_or_len is_feed) c.as_bytes.ensures.value in
    IsCharBoundary-before_ascii _ _ c.if-at-text.true (is_ascii_at c.args.text.now _ found c.if-at-text.true)

pub range_from-requires : goal.range_from-requires
range_from-requires c =
    let found = c.first_feed-at.ensures ∙ ap (position_or_len is_feed) c.as_bytes.ensures.value in
    λ _. IsCharBoundary-after_ascii c.args.text.now _ c.utf8.text c.if-at-text.true
    (is_ascii_at c.args.text.now _ found c.if-at-text.true)

pub returns-then-at-text : goal.returns-then-at-text
returns-then-at-text c =
    let found = c.first_feed-at.ensures ∙ ap (position_or_len is_feed) c.as_bytes.ensures.value in
    let from_start : c.first_feed-at.result - 0 ≡ c.first_feed-at.result = omega arith in
    cut_at_feed c.args.text.now _ _ _ found c.if-at-text.true
    (c.range.ensures.value ∙ ap (λ n. take n c.args.text.now) from_start) c.range_from.ensures.value

pub returns-else-at-text : goal.returns-else-at-text
returns-else-at-text c =
    no_feed c.args.text.now _ (c.first_feed-at.ensures
    ∙ ap (position_or_len is_feed) c.as_bytes.ensures.value) c.if-at-text.false
