use Rattle.std.proofs.Common.{rules}
use Rattle.wax_lengths.proofs.FormLengths.{one_no}
use Rattle.wax_lengths.proofs.lengths.lengths_of_char.Goals as goal

pub returns-else-passes : goal.returns-else-passes
returns-else-passes c = record {
  lengths = rw c.new-else-passes.ensures
      (one_no c.args.test.now c.args.text.now c.args.at c.char_at.result (search rules) c.char_at.ensures
      (search rules));
  end = search rules;
  looked = search rules;
  steady = search rules;
}
