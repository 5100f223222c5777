use Rattle.std.proofs.Common.{◌≡◌, ◌∙◌, ◌+◌, ℕ, List, subst, sym, take}
use Rattle.wax_exclude.proofs.TidyUp.{one_goes, one_stays}
use Rattle.wax_exclude.proofs.tidy.staying.Goals.{else-not-has_index, then-not-has_index+in_ok-push}
use Rattle.wax_exclude.specs.{Idle.without, Tidy.indexes_of}
use Rattle.wax_exclude.proofs.tidy.staying.Goals as goal

pub loop-place-preserved : goal.loop-place-preserved
loop-place-preserved c =
    let known = c.args.known.now in
    let indexes : List ℕ = c.args.indexes.now in
    let place = c.loop-place.place in
    let old = c.loop-place.stay.items in
    elim c.if-not-has_index.branch [
      | then-not-has_index+in_ok-push w ↦
          subst (λ v. v.items ≡ without (indexes_of known) (take (place + 1) indexes)) (sym w.stay-is)
          (one_stays known indexes place old c.loop-place-test.true c.loop-place.invariant
          w.push.new.self.items (sym c.has_index.ensures ∙ w.if-not-has_index.true)
          w.in_ok-push.ensures.items)
      | else-not-has_index w ↦
          subst (λ v. v.items ≡ without (indexes_of known) (take (place + 1) indexes)) (sym w.stay-is)
          (one_goes known indexes place old c.loop-place-test.true c.loop-place.invariant
          (sym c.has_index.ensures ∙ w.if-not-has_index.false))
    ]
