use Rattle.std.proofs.Common.{◌≡◌, ◌∙◌, ◌+◌, ◌++◌, ◌∷◌, [], ℕ, List, Some, ap, filter_map, get_or, length}
use Rattle.std.proofs.{Common.{slice_get, subst, sym, take, take_all}, lemmas.Bool.ltb-false}
use Rattle.std.proofs.lemmas.Option.{slice_get-get_or, slice_get_past}
use Rattle.wax_exclude.proofs.Dropped.{found_more, none_more}
use Rattle.wax_exclude.proofs.tidy.lines_at.Goals.{in-Some+in_ok-to_owned+in_ok-push, in_default}
use Rattle.wax_exclude.proofs.tidy.lines_at.Goals as goal

pub loop-index-preserved : goal.loop-index-preserved
loop-index-preserved c =
    let lines = c.args.lines.now in
    let indexes : List ℕ = c.args.indexes.now in
    let i = c.loop-index.index-index in
    let at : ℕ = get_or indexes i 0 in
    elim c.match-get.branch [
      | in-Some+in_ok-to_owned+in_ok-push w ↦ (
          let line = w.in-Some.line.now in
          let (_, same, _, low, _) = w.in-Some.ensures.lookup in
          let is : slice_get lines at ≡ Some line =
          slice_get-get_or lines at line low.0 ∙ ap Some (sym same) in
          let more : w.push.new.self.items ≡ c.loop-index.found.items ++ line ∷ [] =
          w.in_ok-push.ensures.items
          ∙ ap (λ l. c.loop-index.found.items ++ l ∷ []) w.in_ok-to_owned.ensures in
          subst (λ v. v.items ≡ filter_map (slice_get lines) (take (i + 1) indexes)) (sym w.found-is)
          (found_more lines indexes i line c.loop-index.found.items w.push.new.self.items
          c.loop-index-test.true is c.loop-index.invariant more)
          )
      | in_default w ↦ subst (λ v. v.items ≡ filter_map (slice_get lines) (take (i + 1) indexes))
          (sym w.found-is)
          (none_more lines indexes i c.loop-index.found.items c.loop-index-test.true
          (slice_get_past lines at (ltb-false at (length lines) (sym w.in_default.ensures.lookup.0)))
          c.loop-index.invariant)
    ]

pub returns : goal.returns
returns c =
    let indexes : List ℕ = c.args.indexes.now in
    let i = c.loop-index.index-index in
    c.loop-index.invariant
    ∙ ap (filter_map (slice_get c.args.lines.now)) (take_all i indexes c.loop-index-test.false)
