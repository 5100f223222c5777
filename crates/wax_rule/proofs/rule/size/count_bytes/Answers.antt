use Rattle.wax_token.proofs.Bytes.{bytes_len}
use Rattle.wax_rule.proofs.rule.size.count_bytes.Goals as goal

pub returns : goal.returns
returns c = bytes_len c.args.text.now c.utf8.text
