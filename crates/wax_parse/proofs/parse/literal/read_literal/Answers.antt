use Rattle.std.proofs.Common.{chars, ◌∙◌, ap}
use Rattle.std.specs.Cow.{cow_str_bytes}
use Rattle.wax_parse.specs.inner.Parser.{literal_leaf}
use Rattle.wax_parse.proofs.Runs.{leaf_empty, leaf_escape, leaf_some}
use Rattle.wax_parse.proofs.Texts.{chars_if_empty, chars_unless_empty}
use Rattle.wax_parse.proofs.parse.literal.read_literal.Goals as goal

pub returns-then-is_empty : goal.returns-then-is_empty
returns-then-is_empty c = ap (literal_leaf c.args.is_case_insensitive) c.in_ok-literal.ensures
    ∙ leaf_empty c.args.is_case_insensitive (chars (cow_str_bytes c.in_ok-literal.literal))
    (chars c.in_ok-literal.rest.now)
    (chars_if_empty (cow_str_bytes c.in_ok-literal.literal) c.as_str.result.now c.is_empty.result
    c.as_str.ensures.value c.is_empty.ensures c.if-is_empty.true)

pub returns-in-Some : goal.returns-in-Some
returns-in-Some c = ap (literal_leaf c.args.is_case_insensitive) c.in_ok-literal.ensures
    ∙ leaf_escape c.args.is_case_insensitive (chars (cow_str_bytes c.in_ok-literal.literal))
    (chars c.in_ok-literal.rest.now) (chars c.in-Some.field-0.now) c.in-Some.ensures

pub returns : goal.returns
returns c = ap (literal_leaf c.args.is_case_insensitive) c.in_ok-literal.ensures
    ∙ leaf_some c.new.result c.args.is_case_insensitive (chars (cow_str_bytes c.in_ok-literal.literal))
    (chars c.in_ok-literal.rest.now) c.new.ensures
    (chars_unless_empty (cow_str_bytes c.in_ok-literal.literal) c.as_str.result.now c.is_empty.result
    c.as_str.utf8 c.as_str.ensures.value c.is_empty.ensures c.if-is_empty.false) c.in-None.ensures
