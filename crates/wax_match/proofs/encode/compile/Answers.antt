use Rattle.std.proofs.Common.{◌≡◌, ◌++◌, [], length, arith, rules, sym, ap, subst, append-nil, ◌∙◌}
use Rattle.wax_match.specs.inner.Code.{sequence_code}
use Rattle.wax_program.specs.Machine.{Accepts}
use Rattle.wax_token.specs.Words.{trees}
use Rattle.wax_match.proofs.{Compiled.compiled_sequence, Lengths.length-sequence}
use Rattle.wax_match.proofs.Whole.{program_sound, program_complete}
use Rattle.wax_match.proofs.encode.compile.Goals as goal

pub new-requires : goal.new-requires
new-requires g c =
    let ts = trees c.args.tokens.now in
    let e : c.into_instructions.result.items ≡ sequence_code ts c.args.sides.before c.args.sides.after ++ [] =
    search rules in
    let n : length c.into_instructions.result.items
    ≡ length (sequence_code ts c.args.sides.before c.args.sides.after) =
    ap length (e ∙ append-nil (sequence_code ts c.args.sides.before c.args.sides.after)) in
    omega (
      arith,
      n,
      length-sequence ts c.args.sides.before c.args.sides.after,
      c.weigh_all-cost.ensures.cost,
      c.in_ok-tail.ensures.1,
    )

pub returns-clause-means : goal.returns-clause-means
returns-clause-means g c =
    let ts = trees c.args.tokens.now in
    let code = sequence_code ts c.args.sides.before c.args.sides.after in
    let b : c.new.result.0 ≡ code ++ [] = search rules in
    let e : c.new.result.0 ≡ code = b ∙ append-nil code in
    λ s. (
      (λ h. program_sound (compiled_sequence ts c.args.sides.before c.args.sides.after) s
          (subst (λ z. Accepts z 0 s) e h)),
      (λ h. subst (λ z. Accepts z 0 s) (sym e)
          (program_complete (compiled_sequence ts c.args.sides.before c.args.sides.after) s h)),
    )
