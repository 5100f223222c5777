use Rattle.std.proofs.Common.{arith, ap, chars, get_or, map, string_bytes, take, ◌+◌, ◌∙◌, []}
use Rattle.std.proofs.lemmas.List.{map-append, take_more}
use Rattle.wax_query.specs.Labels.{seen}
use Rattle.wax_rule.proofs.Pushed.{label_more}
use Rattle.wax_rule.proofs.error.drawing.push_labels.Goals as goal

pub loop-label-preserved : goal.loop-label-preserved
loop-label-preserved c =
    let all = c.args.labels.now in
    let i = c.loop-label.label-index in
    let x = get_or all i (record { ref_ptr = (0, 0); now = [] }, (0, 0)) in
    label_more (chars c.args.expression.now) (map seen (take i all)) (map seen (take (i + 1) all)) (seen x)
    (string_bytes c.args.picture.now) (string_bytes c.loop-label.picture)
    (string_bytes c.push_label.new.picture)
    (ap (λ v. map seen v) (take_more all i (record { ref_ptr = (0, 0); now = [] }, (0, 0)) (omega arith))
    ∙ map-append seen (take i all) _)
    c.in_ok-push_label.ensures c.loop-label.invariant
