use Rattle.std.proofs.Common.{◌≤◌, ◌*◌, IsUtf8, ap, chars, length, sym, ◌∙◌, subst}
use Rattle.std.specs.Cow.{cow_str_bytes}
use Rattle.wax_c.specs.Texts.{IsEscaped}
use Rattle.wax_c.proofs.{Filled.filled_of_text, Room.{all_fit, escaped_bytes}}
use Rattle.wax_c.proofs.texts.write_escaped.Goals as goal

pub returns-in-Ok-escape-clause-fills : goal.returns-in-Ok-escape-clause-fills
returns-in-Ok-escape-clause-fills c =
    let escape = c.in-Ok-escape.ensures in
    let text = c.in-Ok.text.now in
    let escaped : IsEscaped (chars text) (cow_str_bytes c.in-Ok-escape.escaped) =
    record { exactly = escape.exact; only = escape.means; spells = escape.spells } in
    let bytes = c.as_bytes.ensures.value ∙ c.as_str.ensures.value in
    filled_of_text IsEscaped _ text c.as_bytes.result.now _ _ _ c.in-Ok.ensures.cases
    (subst (IsEscaped (chars text)) (sym bytes) escaped) c.put.ensures.fills

pub returns-in-Ok-escape-clause-room : goal.returns-in-Ok-escape-clause-room
returns-in-Ok-escape-clause-room c =
    let text = c.in-Ok.text.now in
    let is_text = c.in-Ok.ensures.cases in
    let out = c.as_bytes.result.now in
    let exact = ap chars (c.as_bytes.ensures.value ∙ c.as_str.ensures.value) ∙ c.in-Ok-escape.ensures.exact in
    let few = escaped_bytes text out (subst IsUtf8 (sym is_text.0) is_text.1) c.as_bytes.ensures.utf8 exact in
    all_fit out _ _ _ _ (subst (λ t. length out ≤ 2 * length t) is_text.0 few)
    c.put.ensures.fills c.put.ensures.unchanged
