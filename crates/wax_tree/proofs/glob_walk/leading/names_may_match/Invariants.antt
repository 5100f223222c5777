use Rattle.std.proofs.Common.{◌≡◌, map, chars, drop}
use Rattle.std.specs.Prelude.{IsUtf8}
use Rattle.wax_directory.specs.Names.{names_in_path}
use Rattle.wax_walk.specs.Candidates.{in_characters}
use Rattle.wax_tree.specs.Programs.{leads}
use Rattle.wax_tree.proofs.glob_walk.leading.names_may_match.Given as goal

-- the components that are left lead the names that are left where all lead all
abbrev pub invariant-loop-component : goal.invariant-loop-component
invariant-loop-component g l = record {
  utf8 : IsUtf8 l.rest;
  same : leads g.C.NameTest.decides (drop l.component-index l.leading) (map chars (names_in_path l.rest))
      ≡ leads g.C.NameTest.decides l.leading (in_characters l.candidate).names;
}
