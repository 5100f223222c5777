-- The path of an entry, and the texts that belong to it.
use Rattle.std.specs.Prelude.{List, ℕ}
use Rattle.wax_directory.specs.Shown.{join}

-- a path, the path where its walk starts, and its candidate (the names from there, joined by `/`)
pub record PathTexts : Type 0 where
  pub path : List ℕ
  pub root : List ℕ
  pub candidate : List ℕ

-- those of a name in a folder
abbrev pub item_texts : PathTexts → List ℕ → PathTexts
item_texts at name = record {
  path = join at.path name;
  root = at.root;
  candidate = join at.candidate name;
}
