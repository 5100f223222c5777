use Rattle.std.proofs.Common.{◌≡◌, Some, true, false, sym, ◌∙◌}
use Rattle.wax_directory.specs.{Nodes.names_of, PathTails.{first_name, holds_name}}
use Rattle.wax_directory.proofs.Planting.{first_of, has_among, name_taken, name_free}
use Rattle.wax_directory.proofs.paths.PathTail.new_name.Goals as goal

pub returns-then-has_entry : goal.returns-then-has_entry
returns-then-has_entry c =
    let x = c.in_ok-name.name.now.now in
    let first : first_name c.args.self.now ≡ Some x =
    first_of c.args.self.now c.self.inside.names.now c.in_ok-name.field-0-1.now c.in_ok-name.name.now
    c.self.inside.is_folder c.self.view_is c.in_ok-name.ensures.cases.0 in
    let has : holds_name x (names_of c.args.items.now) ≡ true =
    sym (has_among x c.args.items.now) ∙ sym c.has_entry.ensures ∙ c.if-has_entry.true in
    name_taken (names_of c.args.items.now) (first_name c.args.self.now) x first has

pub returns : goal.returns
returns c =
    let x = c.in_ok-name.name.now.now in
    let first : first_name c.args.self.now ≡ Some x =
    first_of c.args.self.now c.self.inside.names.now c.in_ok-name.field-0-1.now c.in_ok-name.name.now
    c.self.inside.is_folder c.self.view_is c.in_ok-name.ensures.cases.0 in
    let has : holds_name x (names_of c.args.items.now) ≡ false =
    sym (has_among x c.args.items.now) ∙ sym c.has_entry.ensures ∙ c.if-has_entry.false in
    name_free (names_of c.args.items.now) (first_name c.args.self.now) x first has
