use Rattle.std.proofs.Common.{◌≡◌, not, List, length, replicate, slice_index, sym, ◌∙◌, ap, subst, inl, inr}
use Rattle.std.proofs.{Common.{arith, Bool}, lemmas.List.length-replicate}
use Rattle.wax_compare.specs.inner.Distinctions.{AreMarkedAt, KeepsMarks}
use Rattle.wax_compare.proofs.Distinguished.{all_marked, keeps_marks_on, keeps_marks_same, marks_all}
use Rattle.wax_compare.proofs.Distinguished.{marks_others, places_more, true_or_false}
use Rattle.wax_compare.proofs.distinctions.Distinctions.mark.Goals as goal

pub loop-place-init : goal.loop-place-init
loop-place-init c =
    let first : List Bool = replicate (length c.args.letters.now) (not c.in_ok-all.all) in
    let items : c.in_ok-marked.marked.items ≡ first =
    c.in_ok-marked.ensures.items_if_clones_equal (λ y e. e) in (
      subst (KeepsMarks first) (sym items) (keeps_marks_same first),
      ap length items ∙ length-replicate {A = Bool} (length c.args.letters.now) (not c.in_ok-all.all),
      λ j lt. (let no : ⊥ = omega (arith, lt) in absurd no),
    )

pub loop-place-preserved : goal.loop-place-preserved
loop-place-preserved c =
    let inv = c.loop-place.invariant in
    let rows = c.args.self.now.exceptions.items in
    let told = c.mark_exceptions.ensures in
    let old = c.loop-place.marked.items in
    let new = c.mark_exceptions.new.marked.items in
    let listed = c.deref-place-items.result.now in
    let index = c.loop-place.place-index in
    let at = slice_index listed index in
    let first : List Bool = replicate (length c.args.letters.now) (not c.in_ok-all.all) in
    let now : AreMarkedAt rows new at =
    subst (λ z. AreMarkedAt z new at) c.deref.ensures.value told.marked in (
      keeps_marks_on first old new inv.0 told.kept,
      told.len ∙ inv.1,
      places_more rows listed old new index at (λ i. at) told.kept inv.2 now,
    )

pub returns-clause-marked : goal.returns-clause-marked
returns-clause-marked c =
    let code = c.args.program.now.0 in
    let letters = c.args.letters.now in
    let places = c.args.places.now in
    let listed = c.list.new.self.places.items in
    let rows = c.args.self.now.exceptions.items in
    let marked = c.loop-place.marked.items in
    let all = c.in_ok-all.all in
    let inv = c.loop-place.invariant in
    let items : c.deref-place-items.result.now ≡ listed = c.deref-place-items.ensures.value in
    let end : length listed ≡ length c.deref-place-items.result.now = ap length (sym items) in
    elim (true_or_false all) [
      | inl found ↦ marks_others code letters places listed rows marked c.requires.long c.requires.rows
          (c.in_ok-all.ensures.all found)
          (λ j lt. subst (λ l. AreMarkedAt rows marked (slice_index l j)) items
          (inv.2 j (omega (arith, lt, end, c.loop-place-test.false))))
      | inr missed ↦
          marks_all code letters places marked (λ n h. all_marked (length letters) (replicate (length letters)
          (not all)) (not all) (ap not missed) (λ i. replicate (length letters) (not all)) n (inv.0 n h))
    ]
