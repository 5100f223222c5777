use Rattle.std.proofs.Common.{◌≡◌, ◌∷◌, [], rules}
use Rattle.wax_capture.proofs.TokenWays.{tree_two_ways}
use Rattle.wax_lengths.specs.declared.form.Form.TheVariants as form
use Rattle.wax_capture.proofs.ways.tree_ways.Goals as goal

pub returns-clause-ways : goal.returns-clause-ways
returns-clause-ways c = λ k x.
    let same : c.add_form-2.new.forms.items
    ≡ c.nothing_captured.result ∷ form.Tree c.args.sides c.args.has_root ∷ [] = search rules in
    rw same (tree_two_ways c.args.has_root c.args.sides.before c.args.sides.after c.nothing_captured.result
    (form.Tree c.args.sides c.args.has_root) c.nothing_captured.ensures.means
    (λ y. ((λ h. h), (λ h. h))) k x)
