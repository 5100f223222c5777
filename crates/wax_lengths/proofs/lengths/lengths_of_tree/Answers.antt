use Rattle.std.proofs.Common.{◌≡◌, ◌+◌, ◌-◌, ◌||◌, ◌≤◌, ℕ, Bool, true, false, List, length, drop, sym, ◌∙◌}
use Rattle.std.proofs.Common.{ap, arith, length-drop}
use Rattle.wax_lengths.specs.{Spans.looks_of, inner.Names.{tree_end, tree_low, tree_marks}}
use Rattle.wax_lengths.proofs.FormLengths.{tree_lengths}
use Rattle.wax_lengths.proofs.lengths.lengths_of_tree.Goals as goal

end_within : (bound begins : Bool) (n : ℕ) → tree_end bound begins n ≤ n + 1
end_within true true n = omega arith
end_within true false n = omega arith
end_within false begins n = omega arith

few_looks : (after : Bool) (n : ℕ) → looks_of (tree_marks after) n ≤ n
few_looks true n = omega arith
few_looks false n = omega arith

pub returns : goal.returns
returns c =
    let s : List ℕ = drop c.args.at c.args.text.now in
    let bound : Bool = c.args.sides.before || c.args.has_root in
    let begins : Bool = c.begins_with_slash-begins.result in
    let rest : c.len.result - c.args.at ≡ length s =
    ap (λ n. n - c.args.at) c.len.ensures.is ∙ sym (length-drop c.args.at c.args.text.now) in
    let end : c.tree_end.result ≡ tree_end bound begins (length s) =
    c.tree_end.ensures ∙ ap (λ b. tree_end b begins (c.len.result - c.args.at)) c.is_bound.ensures
    ∙ ap (tree_end bound begins) rest in
    let low : ℕ = tree_low c.args.sides.before c.args.sides.after c.args.has_root in
    rw (c.tree_low.ensures, end, c.tree_marks.ensures) (record {
      lengths = tree_lengths s begins c.begins_with_slash-begins.ensures c.args.sides.before
          c.args.sides.after c.args.has_root;
      end = end_within bound begins (length s);
      looked = omega (
        arith,
        c.add.ensures.above,
        end_within bound begins (length s),
        few_looks c.args.sides.after (tree_end bound begins (length s) - low),
        length-drop c.args.at c.args.text.now,
      );
      steady = c.add.ensures.steady;
    })
