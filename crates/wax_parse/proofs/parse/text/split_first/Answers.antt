use Rattle.std.proofs.{Common.rules, lemmas.Str.chars_past_char}
use Rattle.wax_parse.proofs.parse.text.split_first.Goals as goal

pub returns : goal.returns
returns c = search (rules, chars_past_char)
