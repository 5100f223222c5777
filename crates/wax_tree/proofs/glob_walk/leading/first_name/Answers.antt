use Rattle.std.proofs.Common.{◌≡◌, [], ◌∷◌, true, cond, rules, sym, ap, ◌∙◌}
use Rattle.std.specs.Prelude.{Some, None}
use Rattle.wax_directory.specs.Names.{is_some_name, names_in_path}
use Rattle.wax_directory.proofs.PathNames.{some_name}
use Rattle.wax_tree.proofs.FirstNames.{split_names}
use Rattle.wax_tree.proofs.glob_walk.leading.first_name.Goals as goal

pub returns-then-not-is_empty : goal.returns-then-not-is_empty
returns-then-not-is_empty c =
    let name = c.in-Some.name.now in
    let rest = names_in_path c.in-Some.after.now in
    let some : is_some_name name ≡ true = search (rules, some_name) in
    sym c.loop-name.invariant.same
    ∙ (split_names c.loop-name.text.now (Some (c.in-Some.name, c.in-Some.after)) c.in-Some.ensures.cases
    ∙ ap (λ b. cond b (name ∷ rest) rest) some)

pub returns-else-is_empty : goal.returns-else-is_empty
returns-else-is_empty c =
    let text = c.loop-name.text.now in
    let some : is_some_name text ≡ true = search (rules, some_name) in
    sym c.loop-name.invariant.same
    ∙ (split_names text None c.in_default.ensures.cases ∙ ap (λ b. cond b (text ∷ []) []) some)
