use Rattle.std.proofs.Common.{◌++◌, take, sym, ap, ◌∙◌, subst, arith}
use Rattle.std.proofs.lemmas.List.{length-take, take-append-drop}
use Rattle.wax_lines.specs.inner.Sifted.{IsAfterFeed}
use Rattle.wax_lines.proofs.Skips.{after_within, boundary_after, ends_lines, utf8_before}
use Rattle.wax_lines.proofs.lines.feed.after_lines.Goals as goal

pub range_from-requires : goal.range_from-requires
range_from-requires c =
    let text = c.args.text.now in
    let after : IsAfterFeed c.after_last_feed-at.result text =
    after_within text c.min.result _ (subst (λ b. IsAfterFeed c.after_last_feed-at.result
    (take c.min.result b)) c.as_bytes.ensures.value c.after_last_feed-at.ensures) in
    boundary_after text _ c.utf8.text after

pub returns : goal.returns
returns c =
    let text = c.args.text.now in
    let at = c.after_last_feed-at.result in
    let after : IsAfterFeed at text =
    after_within text c.min.result at (subst (λ b. IsAfterFeed at (take c.min.result b))
    c.as_bytes.ensures.value c.after_last_feed-at.ensures) in (
      take at text,
      sym (take-append-drop at text) ∙ ap (λ r. take at text ++ r) (sym c.range_from.ensures.value),
      omega (
        arith,
        length-take at text,
        length-take c.min.result c.as_bytes.result.now,
        c.after_last_feed-at.ensures.0,
        c.min.ensures,
      ),
      ends_lines text at after,
      utf8_before text at c.utf8.text after,
    )
