-- Answers as numbers and lists.
use Rattle.std.specs.Prelude.{◌≡◌, ℕ, List, [], cond, ◌==◌, refl}
use Rattle.std.specs.Coded.{Coded, code_by, coded×, coded_ℕ, coded_list}
use Rattle.wax_directory.specs.declared.directory.FileType.{FileType}
use Rattle.wax_directory.specs.declared.directory.FileType.TheVariants.{File, Link, Folder}
use Rattle.wax_directory.specs.History.{Answer, found, absent, unseen, opened, refused, listed, at_end}
use Rattle.wax_directory.specs.Shown.{named, no_item, no_name}

-- which answer, which file type, and which path or name
abbrev pub Parts : Type 0
Parts = ℕ × (ℕ × List ℕ)

abbrev pub kind_number : FileType → ℕ
kind_number File = 0
kind_number Link = 1
kind_number Folder = 2

abbrev pub numbered_kind : ℕ → FileType
numbered_kind n = cond (n == 0) File (cond (n == 1) Link Folder)

abbrev pub to_parts : Answer → Parts
to_parts (found path kind) = (0, (kind_number kind, path))
to_parts (absent path) = (1, (0, path))
to_parts (unseen path) = (2, (0, path))
to_parts (opened path) = (3, (0, path))
to_parts (refused path) = (4, (0, path))
to_parts (listed (named x kind)) = (5, (kind_number kind, x))
to_parts (listed no_item) = (6, (0, []))
to_parts (listed no_name) = (7, (0, []))
to_parts at_end = (8, (0, []))

abbrev pub from_parts : Parts → Answer
from_parts p =
    let kind = numbered_kind p.1.0 in let text = p.1.1 in
    cond (p.0 == 0) (found text kind) (cond (p.0 == 1) (absent text) (cond (p.0 == 2) (unseen text)
    (cond (p.0 == 3) (opened text) (cond (p.0 == 4) (refused text) (cond (p.0 == 5) (listed (named text kind))
    (cond (p.0 == 6) (listed no_item) (cond (p.0 == 7) (listed no_name) at_end)))))))

pub from_to : (a : Answer) → from_parts (to_parts a) ≡ a
from_to (found path File) = refl
from_to (found path Link) = refl
from_to (found path Folder) = refl
from_to (absent path) = refl
from_to (unseen path) = refl
from_to (opened path) = refl
from_to (refused path) = refl
from_to (listed (named x File)) = refl
from_to (listed (named x Link)) = refl
from_to (listed (named x Folder)) = refl
from_to (listed no_item) = refl
from_to (listed no_name) = refl
from_to at_end = refl

abbrev pub answers_code : Coded (List Answer)
answers_code = coded_list (code_by Parts (coded× coded_ℕ (coded× coded_ℕ (coded_list coded_ℕ))) to_parts
    from_parts from_to)
