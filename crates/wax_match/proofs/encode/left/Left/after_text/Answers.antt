use Rattle.std.proofs.{Common.{◌≡◌, ◌++◌, ◌∙◌, ap, sym, drop, length, rules}, lemmas.List.take-append-drop}
use Rattle.wax_match.proofs.Lefts.{after_letters}
use Rattle.wax_match.proofs.encode.left.Left.after_text.Goals as goal

pub returns : goal.returns
returns c =
    let text = c.args.self.now.text.now in
    let n = length c.args.text.now in
    let same : c.in_ok-front.front.now ≡ c.args.text.now = search rules in
    let parts : text ≡ c.args.text.now ++ c.in_ok-front.rest.now =
    sym (take-append-drop n text) ∙ ap (λ z. z ++ drop n text) (sym c.in_ok-front.ensures.front ∙ same)
    ∙ ap (λ z. c.args.text.now ++ z) (sym c.in_ok-front.ensures.back) in
    after_letters c.args.self.now c.with_text.result c.args.text c.in_ok-front.rest c.utf8.text parts
    c.with_text.ensures.number c.with_text.ensures.means c.with_text.ensures.cost
