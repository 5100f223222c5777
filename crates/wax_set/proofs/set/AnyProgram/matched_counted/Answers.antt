use Rattle.std.proofs.{Common.{[], arith, length, sym, subst}, lemmas.List.Elements.{All-cons, All-nil}}
use Rattle.std.proofs.lemmas.Str.{IsCharBoundary-end, IsCharBoundary-start}
use Rattle.std.specs.List.{All}
use Rattle.wax_query.specs.Parts.{IsPart}
use Rattle.wax_set.proofs.set.AnyProgram.matched_counted.Goals as goal

pub new-requires : goal.new-requires
new-requires c =
    let text = c.as_str-text.result.now in
    let whole : IsPart text (0, length text) = record {
      ordered = omega arith;
      starts = IsCharBoundary-start text c.as_str-text.utf8;
      ends = IsCharBoundary-end text;
    } in
    subst (All (IsPart text)) (sym c.in_ok-captures.ensures.items)
    (All-cons (IsPart text) (0, length text) [] whole (All-nil (IsPart text)))
