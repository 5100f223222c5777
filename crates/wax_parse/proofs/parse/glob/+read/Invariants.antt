use Rattle.std.proofs.Common.{◌+◌, ◌*◌, chars, length, true}
use denote.{Text.Utf8, Shadow.shadow}
use Rattle.wax_token.specs.Reads.{utf8_len}
use Rattle.wax_parse.specs.inner.Reading.{is_nil, HasSuffix, Begun, BranchesFrom, TokensFrom}
use Rattle.wax_parse.specs.inner.Parser.{around_of, place}
use Rattle.wax_parse.proofs.parse.glob.+read.Given as goal

-- a call goes down to the globs of a branch, or from a glob to its tokens
abbrev pub decreases-read_alternation : goal.decreases-read_alternation
decreases-read_alternation l = 6 * l.scope.depth + 2

abbrev pub decreases-read_branches : goal.decreases-read_branches
decreases-read_branches l = 6 * l.scope.depth + 5

abbrev pub decreases-read_glob : goal.decreases-read_glob
decreases-read_glob l = 6 * l.scope.depth + 4

abbrev pub decreases-read_repetition : goal.decreases-read_repetition
decreases-read_repetition l = 6 * l.scope.depth + 2

abbrev pub decreases-read_token : goal.decreases-read_token
decreases-read_token l = 6 * l.scope.depth + 3

abbrev pub invariant-read_branches-loop-branches : goal.invariant-read_branches-loop-branches
invariant-read_branches-loop-branches l = shadow (Utf8 l.cursor.rest.now) × record {
  beyond : HasSuffix (chars l.from.rest.now) (chars l.cursor.rest.now);
  begun : Begun (BranchesFrom (utf8_len (chars l.scope.expression.now)) l.scope.depth (place l.from))
      (BranchesFrom (utf8_len (chars l.scope.expression.now)) l.scope.depth (place l.cursor))
      l.branches.items;
}

abbrev pub decreases-read_branches-loop-branches : goal.decreases-read_branches-loop-branches
decreases-read_branches-loop-branches l = length (chars l.cursor.rest.now)

abbrev pub invariant-read_glob-loop-alloc : goal.invariant-read_glob-loop-alloc
invariant-read_glob-loop-alloc l = shadow (Utf8 l.cursor.rest.now) × record {
  beyond : HasSuffix (chars l.from.rest.now) (chars l.cursor.rest.now);
  begun : Begun (TokensFrom (utf8_len (chars l.scope.expression.now))
      (around_of l.scope.around) l.scope.depth true (place l.from))
      (TokensFrom (utf8_len (chars l.scope.expression.now)) (around_of l.scope.around) l.scope.depth
      (is_nil l.tokens.items) (place l.cursor)) l.tokens.items;
}

abbrev pub decreases-read_glob-loop-alloc : goal.decreases-read_glob-loop-alloc
decreases-read_glob-loop-alloc l = length (chars l.cursor.rest.now)
