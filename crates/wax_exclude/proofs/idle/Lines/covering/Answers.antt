use Rattle.std.proofs.Common.{◌∙◌, ◌≤◌, ◌<◌, ◌∷◌, [], ℕ, Option, ap, arith, chars, length, length-append}
use Rattle.std.proofs.Common.{refl, subst, sym}
use Rattle.std.specs.Prelude.{unwrap_or}
use Rattle.wax_compare.specs.{Comparison.IsWanted, declared.wanted.Texts.TheVariants.Paths}
use Rattle.wax_compare.specs.declared.wanted.Wanted.TheVariants.{FirstOnly}
use Rattle.wax_exclude.specs.{Idle.LineMeans, Undecided.SomeLineMeans}
use Rattle.wax_exclude.proofs.IdleLines.{covered, last_of_some}
use Rattle.wax_exclude.proofs.Undecided.{last_means, no_others, one_other, others_few}
use Rattle.wax_exclude.proofs.idle.Lines.covering.Goals as goal

pub loop-round-init : goal.loop-round-init
loop-round-init c =
    let none = c.new-covers.ensures.items in
    record {
      lines = refl;
      numbered = refl;
      most = refl;
      others = no_others c.args.self.now.lines.now c.args.index c.new-covers.result.items none;
      count = ap length none;
    }

pub compare-requires-clause-within : goal.compare-requires-clause-within
compare-requires-clause-within c =
    let held = c.loop-round.invariant in
    rw (c.deref.ensures.value, held.lines) held.others.within

pub compare-requires-clause-differ : goal.compare-requires-clause-differ
compare-requires-clause-differ c = rw c.deref.ensures.value c.loop-round.invariant.others.differ

pub returns-in-Nothing-clause-covering : goal.returns-in-Nothing-clause-covering
returns-in-Nothing-clause-covering c =
    let held = c.loop-round.invariant in
    covered c.args.self.now.lines.now c.args.index c.loop-round.covers.items c.sort_unstable.new.self.items
    c.sort_unstable.ensures.permutation held.others.later
    (rw (held.lines, c.deref.ensures.value, c.in-Nothing.is) at c.in_ok-compare.ensures).answer

pub returns-in-Unknown-clause-covering : goal.returns-in-Unknown-clause-covering
returns-in-Unknown-clause-covering c =
    let held = c.loop-round.invariant in
    (rw (held.lines, held.most) at c.in_ok-compare.ensures).undecided c.in-Unknown.is

pub loop-round-preserved : goal.loop-round-preserved
loop-round-preserved c =
    let held = c.loop-round.invariant in
    let lines = c.args.self.now.lines.now in
    let index = c.args.index in
    let old = c.loop-round.covers.items in
    let text = chars c.deref-in-loop-round.result.now in
    let wanted : IsWanted FirstOnly Paths (LineMeans lines index) (SomeLineMeans lines old) text =
    rw c.deref-in-loop-round.ensures
    (rw (held.lines, c.deref.ensures.value, c.in-Text.is) at c.in_ok-compare.ensures).answer.0 in
    let found : Option ℕ = c.in_ok-last_number.field-0 in
    let past : index < unwrap_or found index =
    omega (arith, c.if-last-index.false, c.unwrap_or-last.ensures) in
    let last = c.unwrap_or-last.result in
    let means : LineMeans lines last text = subst (λ k. LineMeans lines k text) (sym c.unwrap_or-last.ensures)
    (last_means lines c.args.self.now.numbered index text found c.requires.numbered
    (rw held.numbered at c.in_ok-last_number.ensures.last) past) in
    record {
      lines = held.lines;
      numbered = c.in_ok-last_number.ensures.same ∙ held.numbered;
      most = held.most;
      others = one_other lines index last text old c.push.new.self.items c.in_ok-push.ensures.items
          c.if-last-index.false means wanted.decided.1 held.others;
      count = omega (arith, ap length c.in_ok-push.ensures.items, length-append old (last ∷ []), held.count);
    }

pub returns-then-last-index-clause-covering : goal.returns-then-last-index-clause-covering
returns-then-last-index-clause-covering c =
    let held = c.loop-round.invariant in
    let lines = c.args.self.now.lines.now in
    let index = c.args.index in
    let wanted : IsWanted FirstOnly Paths (LineMeans lines index)
    (SomeLineMeans lines c.loop-round.covers.items) (chars c.deref-in-loop-round.result.now) =
    rw c.deref-in-loop-round.ensures
    (rw (held.lines, c.deref.ensures.value, c.in-Text.is) at c.in_ok-compare.ensures).answer.0 in
    let last : Option ℕ = c.in_ok-last_number.field-0 in
    let or : unwrap_or last index ≤ index = omega (arith, c.if-last-index.true, c.unwrap_or-last.ensures) in
    last_of_some lines c.args.self.now.numbered index (chars c.deref-in-loop-round.result.now)
    last c.requires.numbered
    (rw held.numbered at c.in_ok-last_number.ensures.last)
    (λ k e. subst (λ o. unwrap_or o index ≤ index) e or) (wanted.scalars, wanted.among) wanted.decided.0

pub unreachable-requires : goal.unreachable-requires
unreachable-requires c =
    let held = c.loop-round.invariant in
    let few = others_few c.args.self.now.lines.now c.args.index c.loop-round.covers.items
    c.requires.index held.others in
    omega (arith, few, held.count, c.loop-round-test.false)
