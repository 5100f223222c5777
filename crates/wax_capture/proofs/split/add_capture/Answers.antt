use Rattle.std.proofs.Common.{◌≡◌, ◌+◌, ◌++◌, ◌∷◌, [], ℕ, List, min, ◌∙◌, ap, rules}
use Rattle.wax_capture.specs.inner.Parts.{parts}
use Rattle.wax_capture.proofs.Parts.{between_first, parts_push}
use Rattle.wax_capture.proofs.split.add_capture.Goals as goal

pub returns-in_ok-push-in-AfterFirst-clause-added : goal.returns-in_ok-push-in-AfterFirst-clause-added
returns-in_ok-push-in-AfterFirst-clause-added c =
    let text : List ℕ = c.args.text.now in
    let a : ℕ = c.args.at + min c.args.n 1 in
    let e : c.push-in-AfterFirst.new.self.items ≡ c.args.captures.now.items ++ (a, c.args.at + c.args.n)
    ∷ [] = search rules in
    rw (e, c.in-AfterFirst.is) (parts_push text c.args.captures.now.items a (c.args.at + c.args.n)
    ∙ ap (λ z. parts text c.args.captures.now.items ++ z ∷ []) (between_first text c.args.at c.args.n))
