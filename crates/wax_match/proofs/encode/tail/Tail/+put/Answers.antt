use Rattle.std.proofs.Common.{◌≡◌, ◌+◌, ◌-◌, ◌++◌, ◌∷◌, [], List, ℕ, length, length-append, append_assoc, set}
use Rattle.std.proofs.{Common.{arith, rules, sym, ◌∙◌, ap}, lemmas.Result.on_ok_weaker}
use Rattle.wax_program.specs.declared.instruction.Instruction.{Instruction}
use Rattle.wax_program.specs.declared.instruction.Instruction.TheVariants.{Back, Fork}
use Rattle.wax_match.specs.inner.Code.{instructions_of}
use Rattle.wax_match.proofs.{Sequences.sequence_put, Tails.set_seam}
use Rattle.wax_match.proofs.encode.tail.Tail.+put.Goals as goal

pub put_loop_of-returns : goal.put_loop_of-returns
put_loop_of-returns g t c =
    let a : List Instruction = instructions_of c.args.body.now c.args.sides.before c.args.sides.after in
    let old : List Instruction = c.args.self.now in
    let by : ℕ = c.len.result - c.len-start.result in
    let e : c.put_token.new.self ≡ a ++ (Back 0 ∷ old) = search rules in
    let n : by ≡ length a + 1 =
    omega (arith, c.len.ensures, c.len-start.ensures, ap length e, length-append a (Back 0 ∷ old)) in
    let at : by - 1 ≡ length a = omega (arith, n) in
    let r : c.replace.new.self ≡ a ++ (Back by ∷ old) =
    c.replace.ensures ∙ ap (λ z. set c.put_token.new.self z (Back by)) at
    ∙ ap (λ z. set z (length a) (Back by)) e ∙ set_seam a old (Back 0) (Back by) in
    on_ok_weaker c.put-2.result
    (λ w. w ∙ ap (λ z. Fork by ∷ z) (r ∙ sym (append_assoc a (Back by ∷ []) old))
    ∙ ap (λ z. Fork z ∷ ((a ++ Back z ∷ []) ++ old)) n)
    c.put-2.ensures

pub put_sequence-loop-index-preserved : goal.put_sequence-loop-index-preserved
put_sequence-loop-index-preserved g t c = record {
  within = omega (arith, c.loop-index.invariant.within);
  written = sequence_put c.args.tokens.now c.loop-index.index c.index-tokens-index.result
      c.args.sides.before c.args.sides.after c.or.result.before c.or.result.after c.put_token.new.self
      c.loop-index.self c.args.self.now
      (omega (arith, c.loop-index-test.true)) c.loop-index.invariant.within c.index-tokens-index.is
      c.or.ensures.before c.or.ensures.after c.in_ok-put_token.ensures c.loop-index.invariant.written;
}
