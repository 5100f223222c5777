use Rattle.std.proofs.Common.{◌≡◌, ◌++◌, ◌+◌, ◌∷◌, ◌∙◌, [], ap, append-nil, drop, map, sym}
use Rattle.std.proofs.lemmas.List.{map-append}
use Rattle.wax_exclude.specs.Lines.{lines_from, written_of}
use Rattle.wax_exclude.proofs.{Written.next_line, lines.written_lines.Goals.{in-Some+in_ok-push, in_default}}
use Rattle.wax_exclude.proofs.lines.written_lines.Goals as goal

pub loop-index-preserved : goal.loop-index-preserved
loop-index-preserved c =
    let parts = c.deref-part-items.result.now in
    let i = c.loop-index.index in
    let read = map written_of c.loop-index.lines.items in
    let rest = lines_from (i + 1 + 1) (map (λ part. part.now) (drop (i + 1) parts)) in
    elim c.match-line_in.branch [
      | in-Some+in_ok-push w ↦ (
          let grown : map written_of c.match-line_in.lines.items ≡ read ++ written_of w.in-Some.line ∷ [] =
          ap (λ v. map written_of v.items) w.lines-is ∙ ap (map written_of) w.in_ok-push.ensures.items
          ∙ map-append written_of c.loop-index.lines.items (w.in-Some.line ∷ []) in
          ap (λ v. v ++ rest) grown ∙ next_line (λ part. part.now) _ read (written_of w.in-Some.line ∷ [])
          parts i _ c.loop-index-test.true w.in-Some.ensures c.loop-index.invariant)
      | in_default w ↦ (
          let same : map written_of c.match-line_in.lines.items ≡ read ++ [] =
          ap (λ v. map written_of v.items) w.lines-is ∙ sym (append-nil read) in
          ap (λ v. v ++ rest) same ∙ next_line (λ part. part.now) _ read [] parts i _ c.loop-index-test.true
          w.in_default.ensures c.loop-index.invariant)
    ]
