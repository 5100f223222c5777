use Rattle.std.proofs.{Common.{◌≡◌, ◌++◌, ◌∙◌, ap, sym, drop, append-nil}, lemmas.List.take-append-drop}
use Rattle.wax_match.proofs.Lefts.{after_letters}
use Rattle.wax_match.proofs.encode.left.Left.split_text.Goals as goal

pub returns-in-Some : goal.returns-in-Some
returns-in-Some c =
    let text = c.args.self.now.text.now in
    let parts : text ≡ c.in-Some.text.now ++ c.in-Some.rest.now =
    sym (take-append-drop c.args.len text) ∙ ap (λ z. z ++ drop c.args.len text) (sym c.in-Some.ensures.front)
    ∙ ap (λ z. c.in-Some.text.now ++ z) (sym c.in-Some.ensures.back) in
    after_letters c.args.self.now c.with_text.result c.in-Some.text c.in-Some.rest
    (search) parts c.with_text.ensures.number c.with_text.ensures.means
    c.with_text.ensures.cost

pub returns-in-None : goal.returns-in-None
returns-in-None c =
    after_letters c.args.self.now c.with_text-in-None.result c.args.self.now.text _ (search)
    (sym (append-nil c.args.self.now.text.now))
    c.with_text-in-None.ensures.number c.with_text-in-None.ensures.means c.with_text-in-None.ensures.cost
