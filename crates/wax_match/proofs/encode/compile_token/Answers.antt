use Rattle.std.proofs.Common.{◌≡◌, ◌++◌, [], length, arith, rules, sym, ap, subst, append-nil, ◌∙◌}
use Rattle.wax_match.specs.inner.Code.{instructions_of}
use Rattle.wax_program.specs.Machine.{Accepts}
use Rattle.wax_match.proofs.{Compiled.compiled, Lengths.length-tree, Whole.{program_sound, program_complete}}
use Rattle.wax_match.proofs.encode.compile_token.Goals as goal

pub new-requires : goal.new-requires
new-requires g c =
    let t = c.args.token.now in
    let e : c.into_instructions.result.items ≡ instructions_of t c.args.sides.before c.args.sides.after
    ++ [] = search rules in
    let n : length c.into_instructions.result.items
    ≡ length (instructions_of t c.args.sides.before c.args.sides.after) =
    ap length (e ∙ append-nil (instructions_of t c.args.sides.before c.args.sides.after)) in
    omega (
      arith,
      n,
      length-tree t c.args.sides.before c.args.sides.after,
      c.weigh-cost.ensures.cost,
      c.in_ok-tail.ensures.1,
    )

pub returns-clause-means : goal.returns-clause-means
returns-clause-means g c =
    let t = c.args.token.now in
    let code = instructions_of t c.args.sides.before c.args.sides.after in
    let b : c.new.result.0 ≡ code ++ [] = search rules in
    let e : c.new.result.0 ≡ code = b ∙ append-nil code in
    λ s. (
      (λ h. program_sound (compiled t c.args.sides.before c.args.sides.after) s
          (subst (λ z. Accepts z 0 s) e h)),
      (λ h. subst (λ z. Accepts z 0 s) (sym e)
          (program_complete (compiled t c.args.sides.before c.args.sides.after) s h)),
    )
