use Rattle.std.proofs.Common.{drop, length, rules, arith, length-drop}
use Rattle.wax_lengths.proofs.FormLengths.{text_no, text_yes}
use Rattle.wax_lengths.proofs.lengths.lengths_of_text.Goals as goal

pub returns-then-len-at : goal.returns-then-len-at
returns-then-len-at c = record {
  lengths = rw c.new.ensures
      (text_no c.args.is_folded c.args.letters.now (drop c.args.at c.args.text.now)
      (λ le h. omega (
        arith,
        le,
        c.if-len-at.true,
        c.len.ensures.is,
        c.requires,
        length-drop c.args.at c.args.text.now,
      )));
  end = search rules;
  looked = search rules;
  steady = search rules;
}

pub returns-then-spelled-len : goal.returns-then-spelled-len
returns-then-spelled-len c = record {
  lengths = rw c.new-then-spelled-len.ensures
      (text_no c.args.is_folded c.args.letters.now (drop c.args.at c.args.text.now)
      (λ le h. c.spelled_len-spelled.ensures.fewer c.if-spelled-len.true (length c.args.letters.now) h));
  end = search rules;
  looked = search rules;
  steady = search rules;
}

pub returns : goal.returns
returns c = record {
  lengths = rw c.new-2.ensures
      (text_yes c.args.is_folded c.args.letters.now (drop c.args.at c.args.text.now)
      (c.spelled_len-spelled.ensures.all
      (omega (arith, c.spelled_len-spelled.ensures.within, c.if-spelled-len.false))));
  end = rw c.new-2.ensures
      (omega (arith, c.if-len-at.false, c.len.ensures.is, c.requires, length-drop c.args.at c.args.text.now));
  looked = search rules;
  steady = search rules;
}
