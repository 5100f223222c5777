use Rattle.std.proofs.Common.{rules, ◌≡◌, ◌<◌, ◌∙◌, ◌-◌, ◌==◌, [], ap, arith, chars, false}
use Rattle.std.proofs.{lemmas.List.nil_from_length, lemmas.Str.{IsUtf8-past_char, chars-nil, chars_past_char}}
use Rattle.std.specs.{Char.len_utf8, Str.Iter.chars_rest}
use Rattle.wax_rule.specs.Drawn.{columns_before}
use Rattle.wax_rule.proofs.Columns.{columns_at_none, columns_past}
use Rattle.wax_rule.proofs.error.drawing.columns_before.Goals as goal

pub returns-then-left-eq0 : goal.returns-then-left-eq0
returns-then-left-eq0 c =
    columns_at_none c.loop-character.columns c.loop-character.left _ _
    (search rules) c.loop-character.invariant.1

pub loop-character-preserved : goal.loop-character-preserved
loop-character-preserved c =
    let held = c.loop-character.invariant in
    let parts = c.in-Some.ensures.steps.0 in
    let step = chars_past_char _ _ c.in-Some.character held.0 parts in
    let some : (c.loop-character.left == 0) ≡ false = search rules in
    let less : c.saturating_sub-left.result ≡ c.loop-character.left - len_utf8 c.in-Some.character =
    search rules in
    let byte : 0 < len_utf8 c.in-Some.character = search rules in (
      IsUtf8-past_char _ _ c.in-Some.character held.0 parts,
      columns_past c.loop-character.columns c.loop-character.left _ c.in-Some.character _ _ _
          step some less held.1,
      omega (arith, some, less, byte, held.2),
    )

pub returns : goal.returns
returns c =
    let end : chars (chars_rest c.loop-character.character-iterator) ≡ [] =
    ap chars (nil_from_length _ c.in-None.ensures.steps.0.0) ∙ chars-nil in
    let none : columns_before c.loop-character.left (chars (chars_rest c.loop-character.character-iterator))
    ≡ 0 =
    ap (λ z. columns_before c.loop-character.left z) end in
    let held = c.loop-character.invariant.1 in omega (arith, none, held)
