use Rattle.std.proofs.Common.{◌∙◌}
use Rattle.wax.specs.Queries.{bounds, text_of}
use Rattle.wax_commands.specs.QueryText.{fact_lines}
use Rattle.wax_commands.proofs.query.fact_lines.Goals as goal

pub returns : goal.returns
returns c =
    let depth = bounds c.depth-depth.result in (
      depth,
      text_of c.in_ok-text.text,
      c.depth-depth.ensures.depth,
      c.in_ok-text.ensures.exact,
      c.in_ok-lines.ensures
          ∙ (λ i. fact_lines depth (c.as_path.ensures i) (c.has_root.ensures.root i)
          (c.is_exhaustive.ensures.exhaustive i)),
    )
