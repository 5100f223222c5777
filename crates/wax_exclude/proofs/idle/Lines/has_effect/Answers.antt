use Rattle.std.proofs.Common.{◌<◌, ◌∷◌, ◌∙◌, [], arith, get_or, length, subst, sym}
use Rattle.std.proofs.lemmas.Option.{slice_get-get_or}
use Rattle.wax_compare.specs.{Comparison.{IsAnswer, IsWanted}, declared.wanted.Texts.TheVariants.Paths}
use Rattle.wax_compare.specs.declared.wanted.Wanted.TheVariants.{Both}
use Rattle.wax_exclude.proofs.IdleLines.{takes_none_of_other, takes_nothing, takes_some}
use Rattle.wax_exclude.specs.{Idle.LineMeans, Undecided.SomeLineMeans}
use Rattle.wax_exclude.proofs.idle.Lines.has_effect.Goals as goal

pub loop-earlier-preserved-then-not-ignores : goal.loop-earlier-preserved-then-not-ignores
loop-earlier-preserved-then-not-ignores c =
    let lines = c.args.self.now.lines.now in
    let k = c.loop-earlier.earlier in
    let line = c.index-self-earlier.result in
    let low : k < length lines = omega (arith, c.loop-earlier-test.true, c.requires) in
    takes_none_of_other lines c.args.index k (get_or lines k line) (slice_get-get_or lines k line low)
    (sym c.ignores-in-loop-earlier.ensures ∙ c.if-not-ignores.true) c.loop-earlier.invariant

pub returns-in-Text : goal.returns-in-Text
returns-in-Text c =
    let lines = c.args.self.now.lines.now in
    let k = c.loop-earlier.earlier in
    let line = c.index-self-earlier.result in
    let low : k < length lines = omega (arith, c.loop-earlier-test.true, c.requires) in
    let wanted =
    (subst (IsAnswer (IsWanted Both Paths (LineMeans lines c.args.index) (SomeLineMeans lines (k ∷ []))))
    c.in-Text.is c.in_ok-compare.ensures.answer).0 in
    takes_some lines c.args.index k (get_or lines k line) _ (slice_get-get_or lines k line low)
    (sym c.ignores-in-loop-earlier.ensures ∙ c.if-not-ignores.false) c.loop-earlier-test.true wanted

pub returns : goal.returns
returns c =
    let lines = c.args.self.now.lines.now in
    let line = c.index-self-index.result in
    takes_nothing lines c.args.index (get_or lines c.args.index line)
    (slice_get-get_or lines c.args.index line c.requires)
    (sym c.ignores.ensures ∙ c.if-ignores.false)
    (λ k s lt. c.loop-earlier.invariant k s (omega (arith, lt, c.loop-earlier-test.false)))
