use Rattle.std.proofs.Common.{◌≡◌, ◌≤◌, ℕ, List, drop, length, length-drop, arith}
use Rattle.wax_lengths.specs.{declared.form.Form.Form, declared.span.LengthSpan.LengthSpan}
use Rattle.wax_capture.proofs.Choosing.{left_all, left_last, span_sound}
use Rattle.wax_capture.proofs.trial.lengths_left.Goals.{then-is_last, else-is_last}
use Rattle.wax_capture.proofs.trial.lengths_left.Goals as goal

pub returns-clause-left : goal.returns-clause-left
returns-clause-left c =
    let text : List ℕ = c.args.text.now in
    let at : ℕ = c.args.at in
    let s : List ℕ = drop at text in
    let form : Form = c.args.form.now in
    let old : LengthSpan = c.in_ok-span.span in
    let has = c.in_ok-span.ensures.lengths in
    let sound = span_sound form text at old c.requires c.in_ok-span.ensures.end has in
    elim c.if-is_last.branch [
      | then-is_last w ↦
          let low : ℕ = w.max.result in
          let above : old.low ≤ low = omega (arith, w.max.ensures) in
          let least : (m : ℕ) → old.low ≤ m → m ≡ length s → low ≤ m =
          λ m le whole. omega (arith, w.max.ensures, length-drop at text, le, whole) in
          rw w.span-is (left_last form c.args.is_last s old low w.if-is_last.true has sound above least)
      | else-is_last w ↦ rw w.span-is (left_all form c.args.is_last s old has sound)
    ]
