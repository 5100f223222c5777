use Rattle.std.proofs.Common.{drop, arith, length-drop}
use Rattle.wax_lengths.proofs.FormLengths.{name_lengths}
use Rattle.wax_lengths.proofs.lengths.lengths_of_name.Goals as goal

pub returns : goal.returns
returns c = rw c.new.ensures (record {
  lengths = name_lengths (drop c.args.at c.args.text.now) c.name_len-end.result c.name_len-end.ensures.is;
  end = omega (arith, c.name_len-end.ensures.within, length-drop c.args.at c.args.text.now);
  looked = omega (arith, c.add.ensures.above, c.name_len-end.ensures.within);
  steady = c.add.ensures.steady;
})
