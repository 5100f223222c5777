use Rattle.std.proofs.{Common.{◌≡◌, [], chars, false, ap, ◌∙◌}, lemmas.Str.chars-nil}
use Rattle.wax_token.specs.Syntax.{leaf, literal}
use Rattle.wax_token.proofs.token.Token.empty.Goals as goal

pub returns : goal.returns
returns g c = c.new_leaf.ensures ∙ ap (λ l. leaf c.args.annotation (literal l.0 l.1))
    (let made : c.new.result ≡ (false, chars []) = c.new.ensures in made)
    ∙ ap (λ t. leaf c.args.annotation (literal false t)) chars-nil
