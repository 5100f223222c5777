use Rattle.std.proofs.Common.{◌≡◌, ◌∙◌, ◌-◌, ap, arith, drop, length, take}
use Rattle.std.proofs.lemmas.List.{length-drop, take_all}
use Rattle.std.specs.List.{list_any}
use Rattle.wax_exclude.proofs.NumberedLines.{Everything, any_from}
use Rattle.wax_exclude.proofs.numbers.covers_everything.Goals as goal

pub returns : goal.returns
returns c =
    let lines = c.args.lines.now in
    let n = c.args.settled in
    let whole : take (length lines - n) (drop n lines) ≡ drop n lines =
    take_all (length lines - n) (drop n lines) (omega (arith, length-drop n lines)) in
    c.some_covers.ensures ∙ ap (list_any Everything) whole ∙ any_from lines n c.requires.marks
