-- What a note adds to the answers.
use Rattle.std.specs.Prelude.{List, [], ◌∷◌}
use Rattle.wax_directory.specs.{declared.history.Note.Note, Answers.listed_of}
use Rattle.wax_directory.specs.History.{Answer, found, absent, unseen, opened, refused, listed, at_end}
use Rattle.wax_directory.specs.declared.history.Note.TheVariants as note

abbrev pub noted : Note → List Answer
noted (note.Found path kind) = found path.now kind ∷ []
noted (note.Absent path) = absent path.now ∷ []
noted (note.Unseen path) = unseen path.now ∷ []
noted (note.Opened path) = opened path.now ∷ []
noted (note.Refused path) = refused path.now ∷ []
noted (note.Listed x) = listed (listed_of x.now) ∷ []
noted note.AtEnd = at_end ∷ []
noted note.Nothing = []
