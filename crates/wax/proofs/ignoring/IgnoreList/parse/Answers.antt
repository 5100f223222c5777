use Rattle.std.proofs.Common.{◌≡◌, ◌∙◌, ap, map, subst, sym}
use Rattle.wax_exclude.specs.Lines.{written_lines, written_of}
use Rattle.wax.specs.Ignoring.{IsNoList}
use Rattle.wax.proofs.IgnoreLines.{all_read, first_unread, next_read, none_read}
use Rattle.wax.proofs.ignoring.IgnoreList.parse.Goals as goal

pub loop-line-init : goal.loop-line-init
loop-line-init c = none_read c.new-lines.result.items c.new-lines.ensures.items

pub loop-line-preserved : goal.loop-line-preserved
loop-line-preserved c =
    next_read c.deref-line-items.result.now c.loop-line.line-index _ c.loop-line-test.true
    c.loop-line.lines.items c.push.new.self.items c.in-Ok.line
    c.in_ok-push-in-Ok.ensures.items c.loop-line.invariant c.in-Ok.ensures

pub returns-in-Err : goal.returns-in-Err
returns-in-Err c =
    let whole : map written_of c.deref-line-items.result.now ≡ written_lines c.args.text.now =
    ap (map written_of) c.deref-line-items.ensures.value ∙ c.in_ok-written.ensures in
    subst (IsNoList c.args.text.now) (sym c.refused.ensures)
    (first_unread c.deref-line-items.result.now c.loop-line.line-index _ c.loop-line-test.true c.args.text.now
    c.loop-line.lines.items whole c.loop-line.invariant c.in-Err.error c.in-Err.ensures)

pub returns : goal.returns
returns c =
    let whole : map written_of c.deref-line-items.result.now ≡ written_lines c.args.text.now =
    ap (map written_of) c.deref-line-items.ensures.value ∙ c.in_ok-written.ensures in
    all_read c.args.text.now c.deref-line-items.result.now c.loop-line.line-index c.loop-line.lines.items
    c.in_ok-rule.rule whole c.loop-line-test.false
    c.in_ok-rule.ensures c.loop-line.invariant
