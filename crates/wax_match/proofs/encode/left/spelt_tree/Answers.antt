use Rattle.std.proofs.Common.{[], ◌∷◌, ap, inl, inr, refl}
use Rattle.wax_match.specs.declared.encode.left.Gap.TheVariants.{Anything, Below, Folders}
use Rattle.wax_match.proofs.{LeftCosts.spelt_few, Lefts.{spelt_alone, spelt_first, spelt_inner, spelt_last}}
use Rattle.wax_match.proofs.encode.left.spelt_tree.Goals.{then-has_root, else-has_root, then-has_root-2}
use Rattle.wax_match.proofs.encode.left.spelt_tree.Goals.{else-has_root-2}
use Rattle.wax_match.proofs.encode.left.spelt_tree.Goals as goal

pub returns-in-true-true-clause-means : goal.returns-in-true-true-clause-means
returns-in-true-true-clause-means c =
    spelt_inner c.args.sides.before c.args.sides.after c.args.has_root c.in-true-true.is-0 c.in-true-true.is-1

pub returns-in-true-true-clause-cost : goal.returns-in-true-true-clause-cost
returns-in-true-true-clause-cost c = spelt_few (47 ∷ []) Folders (inl refl)

pub returns-in-true-false-clause-means : goal.returns-in-true-false-clause-means
returns-in-true-false-clause-means c = spelt_last c.args.sides.before c.args.sides.after c.args.has_root
    c.in-true-false.is-0 c.in-true-false.is-1

pub returns-in-true-false-clause-cost : goal.returns-in-true-false-clause-cost
returns-in-true-false-clause-cost c = spelt_few [] Below (inr refl)

pub returns-after-has_root-clause-means : goal.returns-after-has_root-clause-means
returns-after-has_root-clause-means c =
    spelt_first c.args.sides.before c.args.sides.after c.args.has_root c.if-has_root.result.now
    c.in-false-true.is-0 c.in-false-true.is-1
    (elim c.if-has_root.branch [
      | then-has_root w ↦ inl (w.if-has_root.true, ap (λ r. r.now) w.result-is)
      | else-has_root w ↦ inr (w.if-has_root.false, ap (λ r. r.now) w.result-is)
    ])

pub returns-after-has_root-clause-cost : goal.returns-after-has_root-clause-cost
returns-after-has_root-clause-cost c =
    spelt_few c.if-has_root.result.now Folders (elim c.if-has_root.branch [
      | then-has_root w ↦ inl (ap (λ r. r.now) w.result-is)
      | else-has_root w ↦ inr (ap (λ r. r.now) w.result-is)
    ])

pub returns-after-has_root-2-clause-means : goal.returns-after-has_root-2-clause-means
returns-after-has_root-2-clause-means c =
    spelt_alone c.args.sides.before c.args.sides.after c.args.has_root c.if-has_root-2.result.now
    c.in-false-false.is-0 c.in-false-false.is-1
    (elim c.if-has_root-2.branch [
      | then-has_root-2 w ↦ inl (w.if-has_root-2.true, ap (λ r. r.now) w.result-is)
      | else-has_root-2 w ↦ inr (w.if-has_root-2.false, ap (λ r. r.now) w.result-is)
    ])

pub returns-after-has_root-2-clause-cost : goal.returns-after-has_root-2-clause-cost
returns-after-has_root-2-clause-cost c =
    spelt_few c.if-has_root-2.result.now Anything (elim c.if-has_root-2.branch [
      | then-has_root-2 w ↦ inl (ap (λ r. r.now) w.result-is)
      | else-has_root-2 w ↦ inr (ap (λ r. r.now) w.result-is)
    ])
