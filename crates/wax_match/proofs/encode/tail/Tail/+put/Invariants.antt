use Rattle.std.proofs.Common.{◌≡◌, ◌+◌, ◌*◌, ◌≤◌, ◌++◌, ◌||◌, ltb, drop, length}
use Rattle.wax_match.specs.inner.Code.{branches_code, copies_code, sequence_code, instructions_of, up_to_code}
use Rattle.wax_token.specs.{Syntax.{tree_size, trees_size}, Words.trees}
use Rattle.wax_match.proofs.encode.tail.Tail.+put.Given as goal

abbrev pub decreases-put_token : goal.decreases-put_token
decreases-put_token g l = 8 * tree_size l.token.now

abbrev pub decreases-put_sequence : goal.decreases-put_sequence
decreases-put_sequence g l = 8 * trees_size (trees l.tokens.now)

abbrev pub decreases-put_branches : goal.decreases-put_branches
decreases-put_branches g l = 8 * trees_size (trees l.tokens.now)

abbrev pub decreases-put_choice : goal.decreases-put_choice
decreases-put_choice g l = 8 * tree_size l.token.now + 1

abbrev pub decreases-put_repetition : goal.decreases-put_repetition
decreases-put_repetition g l = 8 * tree_size l.body.now + 6

abbrev pub decreases-put_copied : goal.decreases-put_copied
decreases-put_copied g l = 8 * tree_size l.body.now + 5

abbrev pub decreases-put_many : goal.decreases-put_many
decreases-put_many g l = 8 * tree_size l.body.now + 4

abbrev pub decreases-put_counted : goal.decreases-put_counted
decreases-put_counted g l = 8 * tree_size l.body.now + 3

abbrev pub decreases-put_copies : goal.decreases-put_copies
decreases-put_copies g l = 8 * tree_size l.body.now + 2

abbrev pub decreases-put_up_to : goal.decreases-put_up_to
decreases-put_up_to g l = 8 * tree_size l.body.now + 2

abbrev pub decreases-put_loop_of : goal.decreases-put_loop_of
decreases-put_loop_of g l = 8 * tree_size l.body.now + 2

abbrev pub invariant-put_sequence-loop-index : goal.invariant-put_sequence-loop-index
invariant-put_sequence-loop-index g l = record {
  within : l.index ≤ length l.tokens;
  written : l.self ≡ sequence_code (trees (drop l.index l.tokens)) (l.sides.before || ltb 0 l.index)
      l.sides.after ++ l.fn.self;
}

abbrev pub decreases-put_sequence-loop-index : goal.decreases-put_sequence-loop-index
decreases-put_sequence-loop-index g l = l.index

abbrev pub invariant-put_branches-loop-index : goal.invariant-put_branches-loop-index
invariant-put_branches-loop-index g l = record {
  within : l.index ≤ length l.tokens;
  written : l.self
      ≡ branches_code (trees (drop l.index l.tokens)) l.fn.sides.before l.fn.sides.after ++ l.fn.self;
}

abbrev pub decreases-put_branches-loop-index : goal.decreases-put_branches-loop-index
decreases-put_branches-loop-index g l = l.index

abbrev pub invariant-put_copies-loop-copy : goal.invariant-put_copies-loop-copy
invariant-put_copies-loop-copy g l =
    l.self ≡ copies_code l._copy (instructions_of l.body l.sides.before l.sides.after) ++ l.fn.self

abbrev pub invariant-put_up_to-loop-copy : goal.invariant-put_up_to-loop-copy
invariant-put_up_to-loop-copy g l =
    l.self ≡ up_to_code l._copy (instructions_of l.body l.sides.before l.sides.after) ++ l.fn.self
