use Rattle.std.proofs.Common.{◌≡◌, ◌∙◌, ◌++◌, ap, length, refl, string_bytes}
use Rattle.wax.specs.Queries.{captures, exhaustive, root, warnings}
use Rattle.wax_commands.specs.QueryText.{QueryFacts, part_lines, token_lines}
use Rattle.wax_commands.proofs.QueryLines.{assembled}
use Rattle.wax_commands.proofs.query.query_lines.Goals as goal

pub returns : goal.returns
returns c =
    let glob = c.args.glob in
    let known = c.in_ok-lines.ensures in
    let facts : QueryFacts = record {
      depth = known.0;
      text = known.1;
      root = root glob.tree;
      exhaustive = exhaustive glob.tree;
      prefix = string_bytes c.in_ok-prefix.prefix;
      rest = c.in_ok-prefix.rest;
      captures = length (captures glob.tree);
      warnings = warnings glob.expression glob.tree;
    } in
    let parts : c.as_str-2.result.now ≡ part_lines facts.prefix facts.rest =
    c.as_str-2.ensures.value
    ∙ (c.in_ok-part_lines.ensures ∙ ap (λ prefix. part_lines prefix facts.rest) c.as_str.ensures.value) in
    let tokens : c.as_str-3.result.now ≡ token_lines facts.captures facts.warnings =
    c.as_str-3.ensures.value ∙ c.in_ok-token_lines.ensures in
    let all : string_bytes c.push_str-2.new.self
    ≡ (string_bytes c.in_ok-lines.lines ++ c.as_str-2.result.now) ++ c.as_str-3.result.now =
    c.in_ok-push_str-2.ensures.bytes
    ∙ ap (λ v. v ++ c.as_str-3.result.now) c.in_ok-push_str.ensures.bytes in (
      facts,
      record {
        depth = known.2;
        text = known.3;
        root = refl;
        exhaustive = refl;
        parts = c.in_ok-prefix.ensures;
        captures = refl;
        warnings = refl;
      },
      assembled facts _ _ _ _ all known.4 parts tokens,
    )
