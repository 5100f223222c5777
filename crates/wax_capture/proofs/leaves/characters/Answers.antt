use Rattle.std.proofs.{Common.{rules, sym}, lemmas.Str.chars_from_encodes}
use Rattle.wax_capture.proofs.leaves.characters.Goals as goal

pub returns : goal.returns
returns c = search (rules, chars_from_encodes, sym)
