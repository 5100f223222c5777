use Rattle.std.proofs.Common.{chars, sym, ◌∙◌, subst}
use Rattle.wax_c.specs.Texts.{IsPicture}
use Rattle.wax_c.proofs.Filled.{filled_of_text}
use Rattle.wax_c.proofs.texts.write_picture.Goals as goal

pub returns-in-Ok-drawn-clause-fills : goal.returns-in-Ok-drawn-clause-fills
returns-in-Ok-drawn-clause-fills c =
    let text = c.in-Ok.expression.now in
    let bytes = c.as_bytes.ensures.value ∙ c.as_str.ensures.value in
    filled_of_text IsPicture _ text c.as_bytes.result.now _ _ _ c.in-Ok.ensures.cases
    (subst (IsPicture (chars text)) (sym bytes) c.in-Ok-drawn.ensures.ok) c.put.ensures.fills
