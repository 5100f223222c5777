use Rattle.std.proofs.Common.{◌≡◌, length}
use Rattle.std.specs.Prelude.{IsUtf8}
use Rattle.wax_directory.specs.Names.{names_in_path}
use Rattle.wax_tree.proofs.glob_walk.leading.first_name.Given as goal

abbrev pub invariant-loop-name : goal.invariant-loop-name
invariant-loop-name l = record {
  utf8 : IsUtf8 l.text;
  same : names_in_path l.text ≡ names_in_path l.path;
}

abbrev pub decreases-loop-name : goal.decreases-loop-name
decreases-loop-name l = length l.text
