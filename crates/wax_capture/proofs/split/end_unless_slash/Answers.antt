use Rattle.std.proofs.Common.{◌≡◌, ◌-◌, ◌∷◌, [], ℕ, List, take, drop, sym, ◌∙◌, ap, arith}
use Rattle.wax_capture.proofs.Parts.{unless_slash, one_slash}
use Rattle.wax_capture.proofs.split.end_unless_slash.Goals.{else-n-eq1-via-then-n-eq1+else-char_at-eq47}
use Rattle.wax_capture.proofs.split.end_unless_slash.Goals.{else-n-eq1-via-else-n-eq1}
use Rattle.wax_capture.proofs.split.end_unless_slash.Goals as goal

pub returns-clause-part : goal.returns-clause-part
returns-clause-part c =
    let x : List ℕ = take c.args.n (drop c.args.at c.args.text.now) in
    let e : c.place_after.result - c.args.at ≡ c.args.n = omega (arith, c.place_after.ensures) in
    let other : x ≡ 47 ∷ [] → ⊥ = λ h. elim c.else-n-eq1.branch [
      | else-n-eq1-via-then-n-eq1+else-char_at-eq47 w ↦ w.if-char_at-eq47.false
          (w.char_at.ensures ∙ (one_slash c.args.text.now c.args.at c.args.n w.char_at.result c.requires h).1)
      | else-n-eq1-via-else-n-eq1 w ↦
          w.if-n-eq1.false (one_slash c.args.text.now c.args.at c.args.n 0 c.requires h).0
    ] in
    ap (λ k. take k (drop c.args.at c.args.text.now)) e ∙ sym (unless_slash x other)
