-- The letters with which forms begin, in groups.
use Rattle.std.specs.Prelude.{ℕ, ◌%◌, Bool, true, false, Option, None, slice_get}
use Rattle.unicode.specs.CaseFolding.{simple_fold}
use Rattle.wax_lengths.specs.declared.form.Form.{Form}
use Rattle.wax_lengths.specs.declared.form.Form.TheVariants as form

-- the letter with which the form begins, where it takes letters, in one case or in any
abbrev pub first_letter : Form → Option ℕ
first_letter (form.One test) = None
first_letter (form.Text letters folded) = slice_get letters.items 0
first_letter form.Name = None
first_letter form.SlashOrNothing = None
first_letter (form.Tree sides rooted) = None
first_letter (form.Run test low high) = None
first_letter (form.Coded program) = None

-- whether the form takes letters in any case
abbrev pub is_folded : Form → Bool
is_folded (form.One test) = false
is_folded (form.Text letters folded) = folded
is_folded form.Name = false
is_folded form.SlashOrNothing = false
is_folded (form.Tree sides rooted) = false
is_folded (form.Run test low high) = false
is_folded (form.Coded program) = false

-- the letter that a form may have for the character: the character itself, or its folding
abbrev pub letter_of : Bool → ℕ → ℕ
letter_of false c = c
letter_of true c = simple_fold c

-- the group of a letter, one of 128
abbrev pub group_of : ℕ → ℕ
group_of letter = letter % 128
