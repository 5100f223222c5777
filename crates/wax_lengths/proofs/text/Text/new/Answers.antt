use Rattle.std.proofs.{Common.{◌∙◌, rules, sym}, lemmas.Str.{chars-IsAscii, chars_from_encodes}}
use Rattle.wax_lengths.proofs.text.Text.new.Goals as goal

pub returns-then-is_ascii : goal.returns-then-is_ascii
returns-then-is_ascii c = c.as_bytes.ensures.value
    ∙ sym (chars-IsAscii c.args.text.now c.if-is_ascii.ensures.cases)

pub returns : goal.returns
returns c = search (rules, chars_from_encodes, sym)
