use Rattle.std.proofs.Common.{◌<◌, ℕ, List, drop, length, sym, ◌∙◌, arith, length-drop, true≢false}
use Rattle.std.proofs.lemmas.List.{get_or-drop}
use Rattle.wax_lengths.proofs.Runs.{each_ends, each_more}
use Rattle.wax_lengths.proofs.lengths.run_len.Goals as goal

pub loop-n-preserved : goal.loop-n-preserved
loop-n-preserved c =
    let text : List ℕ = c.args.text.now in
    let at : ℕ = c.args.at in
    let n : ℕ = c.loop-n.n in
    let ch : ℕ = c.char_after.result in
    let lt : n < length (drop at text) = omega (arith, length-drop at text, c.requires, c.loop-n-test.true) in
    record {
      within = omega (arith, c.loop-n-test.true);
      passes = each_more c.args.test.now (drop at text) n ch lt (c.char_after.ensures
          ∙ sym (get_or-drop at text n ch)) (c.passes.ensures.0 c.if-passes.true) c.loop-n.invariant.passes;
    }

pub returns-else-passes-clause-longest : goal.returns-else-passes-clause-longest
returns-else-passes-clause-longest c = λ m le h.
    let text : List ℕ = c.args.text.now in
    let at : ℕ = c.args.at in
    let n : ℕ = c.loop-n.n in
    let ch : ℕ = c.char_after.result in
    let lt : n < length (drop at text) = omega (arith, length-drop at text, c.requires, c.loop-n-test.true) in
    each_ends c.args.test.now (drop at text) n m ch lt (c.char_after.ensures ∙ sym (get_or-drop at text n ch))
    (λ p. true≢false (sym (c.passes.ensures.1 p) ∙ c.if-passes.false)) h
