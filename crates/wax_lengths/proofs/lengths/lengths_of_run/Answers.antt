use Rattle.std.proofs.Common.{◌≡◌, ◌-◌, ◌≤◌, ◌↔◌, ℕ, List, drop, length, subst, ap, sym, ◌∙◌, arith}
use Rattle.std.proofs.Common.{length-drop}
use Rattle.wax_query.specs.Ranges.{AtMost}
use Rattle.wax_lengths.proofs.Runs.{run_lengths}
use Rattle.wax_lengths.proofs.lengths.lengths_of_run.Goals as goal

pub returns : goal.returns
returns c =
    let text : List ℕ = c.args.text.now in
    let at : ℕ = c.args.at in
    let s : List ℕ = drop at text in
    let most : ℕ = c.run_most-most.result in
    let rest : c.len.result - at ≡ length s = ap (λ n. n - at) c.len.ensures.is ∙ sym (length-drop at text) in
    let within : (n : ℕ) → n ≤ length s → AtMost n c.args.high ↔ (n ≤ most) =
    subst (λ r. (n : ℕ) → n ≤ r → AtMost n c.args.high ↔ (n ≤ most)) rest c.run_most-most.ensures.most in
    let le : most ≤ length s = omega (arith, rest, c.run_most-most.ensures.within) in
    rw c.new.ensures (record {
      lengths = run_lengths c.args.test.now c.args.low c.args.high s most c.run_len-end.result le within
          c.run_len-end.ensures.within c.run_len-end.ensures.passes c.run_len-end.ensures.longest;
      end = omega (arith, le, c.run_len-end.ensures.within);
      looked = omega (arith, le, length-drop at text, c.run_len-end.ensures.within, c.add.ensures.above);
      steady = c.add.ensures.steady;
    })
