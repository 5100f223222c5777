use Rattle.std.proofs.Common.{◌≡◌, ◌⊎◌, ◌∙◌, inl, inr, sym, true≢false}
use Rattle.wax_compare.specs.inner.Merging.{PassesAt, stirred}
use Rattle.wax_compare.proofs.{Merging.digest_more, merged.digest_of.Goals.{else-passes_at, then-passes_at}}
use Rattle.wax_compare.proofs.merged.digest_of.Goals as goal

pub loop-at-preserved : goal.loop-at-preserved
loop-at-preserved c =
    let code = c.args.program.now.0 in
    let at = c.loop-at.at in
    let before = c.loop-at.digest in
    let digest = c.if-passes_at.digest in
    let how : (PassesAt code at c.args.c × (digest ≡ stirred before at))
    ⊎ ((PassesAt code at c.args.c → ⊥) × (digest ≡ before)) = elim c.if-passes_at.branch [
      | then-passes_at w ↦
          inl (c.passes_at.ensures.0 w.if-passes_at.true, w.digest-is ∙ w.stirred-digest.ensures)
      | else-passes_at w ↦
          inr ((λ h. true≢false (sym (c.passes_at.ensures.1 h) ∙ w.if-passes_at.false)), w.digest-is)
    ] in
    digest_more code c.args.c c.args.seed at before digest c.loop-at.invariant how
