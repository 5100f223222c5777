use Rattle.std.proofs.Common.{chars, [], ◌∷◌, ◌++◌, take, ap, sym, ◌∙◌, append-nil, arith}
use Rattle.std.proofs.lemmas.Option.{slice_get_within}
use Rattle.wax_query.specs.Matched.{texts}
use Rattle.wax_lines.specs.Lines.{tabbed}
use Rattle.wax_lines.proofs.{Sifting.on_err, Tabs.{encoded, tabbed_next, added_next, longer_next}}
use Rattle.wax_lines.proofs.lines.line_writer.add_texts.Goals as goal

pub loop-capture-init : goal.loop-capture-init
loop-capture-init c = record {
  written = c.in_ok-extend_from_slice.ensures.items
      ∙ ap (λ z. c.args.out.now.items ++ z)
      (encoded c.args.matched.now.text c.as_bytes.result.now
      (ap chars c.as_bytes.ensures.value ∙ c.complete.ensures) c.as_bytes.ensures.utf8);
  some = omega arith;
  short = omega arith;
}

pub loop-capture-preserved : goal.loop-capture-preserved
loop-capture-preserved c =
    let m = c.args.matched.now in
    let k = c.loop-capture.index in
    let part = c.as_bytes-in-Some.result.now in
    let next =
    tabbed_next m k (chars c.in-Some.capture.now) c.loop-capture.invariant.some c.in-Some.ensures in
    let bytes = encoded (chars c.in-Some.capture.now) part (ap chars c.as_bytes-in-Some.ensures.value)
    c.as_bytes-in-Some.ensures.utf8 in
    record {
      written = added_next c.args.out.now.items c.loop-capture.out.items c.push.new.self.items
          c.extend_from_slice-in-Some.new.self.items
          (tabbed (take k (texts m))) part c.loop-capture.invariant.written c.in_ok-push.ensures.items
          c.in_ok-extend_from_slice-2.ensures.items
          ∙ ap (λ z. c.args.out.now.items ++ (tabbed (take k (texts m)) ++ 9 ∷ z)) bytes
          ∙ ap (λ z. c.args.out.now.items ++ z) (sym next);
      some = omega arith;
      short =
          longer_next c.loop-capture.out.items c.push.new.self.items _ part k c.loop-capture.invariant.short
          c.in_ok-push.ensures.items c.in_ok-extend_from_slice-2.ensures.items;
    }

pub loop-capture-smaller : goal.loop-capture-smaller
loop-capture-smaller c = omega (
  arith,
  slice_get_within (texts c.args.matched.now) c.loop-capture.index
      (chars c.in-Some.capture.now) c.in-Some.ensures,
)

pub returns-in_err-extend_from_slice-clause-err : goal.returns-in_err-extend_from_slice-clause-err
returns-in_err-extend_from_slice-clause-err c =
    on_err c.from_residual.result
    ([], c.in_err-extend_from_slice.ensures.items ∙ sym (append-nil c.args.out.now.items))

pub returns-in_err-push-clause-err : goal.returns-in_err-push-clause-err
returns-in_err-push-clause-err c =
    on_err c.from_residual-in_err-push.result (
      tabbed (take c.loop-capture.index (texts c.args.matched.now)),
      c.in_err-push.ensures.items ∙ c.loop-capture.invariant.written,
    )
