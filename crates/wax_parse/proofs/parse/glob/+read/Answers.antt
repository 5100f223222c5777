use Rattle.std.specs.Str.{IsUtf8}
use Rattle.std.proofs.Common.{rules, true, Some, None, ◌==◌, vec_len, ◌≡◌, ◌∷◌, ◌∙◌, chars, length, refl, sym}
use Rattle.std.proofs.Common.{ap, subst, arith}
use Rattle.wax_token.specs.Reads.{Place, Around, in_repetition, utf8_len}
use Rattle.wax_token.specs.{Syntax.{alternation, repetition, concatenation, leaf}, View.leaf_of, Words.trees}
use Rattle.wax_parse.specs.{Accepted.IsPlace, inner.Parser.{around_of, place, at, strip, read_leaf}}
use Rattle.wax_parse.specs.inner.Reading.{HasSuffix, HasProperSuffix, BranchesFrom, GlobFrom, TokenFrom}
use Rattle.wax_parse.specs.inner.Reading.{TokensFrom, Sole, Unreadable, Begun, is_nil}
use Rattle.wax_parse.proofs.Outcomes.{passed_up, refused_as, as_made, leaf_taken, opening_taken, flags_beyond}
use Rattle.wax_parse.proofs.Outcomes.{taken_more, one_beyond, inner_fails, inner_sole}
use Rattle.wax_parse.proofs.Readings.{alternation_sole, alternation_unreadable, alternation_too_deep}
use Rattle.wax_parse.proofs.Readings.{repetition_sole, repetition_unreadable, repetition_unbounded}
use Rattle.wax_parse.proofs.{Readings.{repetition_too_deep, leaf_sole, leaf_unreadable}, Bounds.bounds_beyond}
use Rattle.wax_parse.proofs.Rows.{nil_asked, begun_start, begun_token, begun_branch, glob_sole, glob_empty}
use Rattle.wax_parse.proofs.Rows.{glob_unreadable, branches_sole, branches_unreadable, branches_unclosed}
use Rattle.wax_parse.proofs.Texts.{same_end, end_shorter, beyond_more, beyond_same, taken_beyond}
use Rattle.wax_parse.proofs.Trees.{strip_is}
use Rattle.wax_token.proofs.Bytes.{bytes_len}
use Rattle.wax_parse.proofs.parse.glob.+read.Goals as goal

-- ---- read_alternation
pub read_alternation-refusal-requires : goal.read_alternation-refusal-requires
read_alternation-refusal-requires t c =
    beyond_more (chars c.args.scope.expression.now) (chars c.args.flags.rest.now)
    (chars c.args.from.rest.now) c.requires.within
    (taken_beyond (chars c.args.flags.rest.now) (chars c.args.from.rest.now)
    (opening_taken 123 (place c.args.flags) (place c.args.from) c.requires.opened))

pub read_alternation-returns-in_default : goal.read_alternation-returns-in_default
read_alternation-returns-in_default t c = λ first.
    refused_as c.refusal.result (IsPlace (chars c.args.scope.expression.now)) _ _
    (λ e h. (
      alternation_too_deep (utf8_len (chars c.args.scope.expression.now))
          (around_of c.args.scope.around) c.args.scope.depth first (place c.args.flags)
          (place c.args.from) c.in_default.ensures c.requires.opened,
      h,
    ))
    c.refusal.ensures

pub read_alternation-read_branches-requires : goal.read_alternation-read_branches-requires
read_alternation-read_branches-requires t c = (
  omega (arith, c.in-Some.ensures.2),
  (
    subst (λ z. HasSuffix (chars z) (chars c.args.from.rest.now))
        (sym c.in-Some.ensures.0) (beyond_more (chars c.args.scope.expression.now)
        (chars c.args.flags.rest.now) (chars c.args.from.rest.now) c.requires.within
        (taken_beyond (chars c.args.flags.rest.now) (chars c.args.from.rest.now)
        (opening_taken 123 (place c.args.flags) (place c.args.from) c.requires.opened))),
    ap around_of c.in-Some.ensures.1,
  ),
)

pub read_alternation-returns-in_err-tokens : goal.read_alternation-returns-in_err-tokens
read_alternation-returns-in_err-tokens t c =
    λ first. passed_up c.from_residual.result c.in_err-tokens.field-0.0 _ _ _ _ c.from_residual.ensures.1
    (λ e h. (let k : Unreadable (BranchesFrom (utf8_len (chars c.args.scope.expression.now))
    c.in-Some.inner.depth (place c.args.from)) × IsPlace (chars c.args.scope.expression.now) e =
    subst (λ z. Unreadable (BranchesFrom (utf8_len (chars z)) c.in-Some.inner.depth (place c.args.from))
    × IsPlace (chars z) e) c.in-Some.ensures.0 h in (
      alternation_unreadable (utf8_len (chars c.args.scope.expression.now))
          (around_of c.args.scope.around) c.args.scope.depth c.in-Some.inner.depth first (place c.args.flags)
          (place c.args.from) c.in-Some.ensures.2 c.requires.opened k.0,
      k.1,
    )))
    c.in_err-tokens.ensures

pub read_alternation-metadata-annotation-requires-clause-from :
    goal.read_alternation-metadata-annotation-requires-clause-from
read_alternation-metadata-annotation-requires-clause-from t c =
    end_shorter (chars c.args.scope.expression.now) (chars c.args.flags.rest.now) c.requires.within

pub read_alternation-metadata-annotation-requires-clause-to :
    goal.read_alternation-metadata-annotation-requires-clause-to
read_alternation-metadata-annotation-requires-clause-to t c =
    end_shorter (chars c.args.flags.rest.now) (chars c.in_ok-tokens.next.rest.now) (beyond_more
    (chars c.args.flags.rest.now) (chars c.args.from.rest.now) (chars c.in_ok-tokens.next.rest.now)
    (taken_beyond (chars c.args.flags.rest.now) (chars c.args.from.rest.now) (opening_taken 123
    (place c.args.flags) (place c.args.from) c.requires.opened)) c.in_ok-tokens.ensures.1)

pub read_alternation-returns : goal.read_alternation-returns
read_alternation-returns t c = λ first.
    let size = utf8_len (chars c.args.scope.expression.now) in
    let p : Place = place c.args.flags in let n : Place = place c.args.from in
    let q : Place = place c.in_ok-tokens.next in
    let opening : HasProperSuffix p.rest n.rest = opening_taken 123 p n c.requires.opened in
    let far : HasProperSuffix p.rest q.rest =
    taken_more p.rest n.rest q.rest opening c.in_ok-tokens.ensures.1 in
    let k : Sole (BranchesFrom size c.in-Some.inner.depth n) (trees c.in_ok-tokens.tokens.items) q =
    subst (λ z. Sole (BranchesFrom (utf8_len (chars z)) c.in-Some.inner.depth n)
    (trees c.in_ok-tokens.tokens.items) q) c.in-Some.ensures.0 c.in_ok-tokens.ensures.0 in (
      as_made (TokenFrom size (around_of c.args.scope.around) c.args.scope.depth first p)
          c.new_branch-alternation.result _ q
          (c.new_branch-alternation.ensures
          ∙ ap (λ s. alternation s (trees c.in_ok-tokens.tokens.items)) c.metadata-annotation.ensures)
          (alternation_sole size (around_of c.args.scope.around) c.args.scope.depth c.in-Some.inner.depth
          first p n q (trees c.in_ok-tokens.tokens.items) c.in-Some.ensures.2 c.requires.opened
          (end_shorter (chars c.args.scope.expression.now) p.rest c.requires.within)
          (end_shorter p.rest q.rest (taken_beyond p.rest q.rest far)) k),
      far,
    )

-- ---- read_repetition
pub read_repetition-refusal-requires : goal.read_repetition-refusal-requires
read_repetition-refusal-requires t c =
    beyond_more (chars c.args.scope.expression.now) (chars c.args.flags.rest.now)
    (chars c.args.from.rest.now) c.requires.within
    (taken_beyond (chars c.args.flags.rest.now) (chars c.args.from.rest.now)
    (opening_taken 60 (place c.args.flags) (place c.args.from) c.requires.opened))

pub read_repetition-returns-in_default : goal.read_repetition-returns-in_default
read_repetition-returns-in_default t c = λ first.
    refused_as c.refusal.result (IsPlace (chars c.args.scope.expression.now)) _ _
    (λ e h. (
      repetition_too_deep (utf8_len (chars c.args.scope.expression.now))
          (around_of c.args.scope.around) c.args.scope.depth first (place c.args.flags)
          (place c.args.from) c.in_default.ensures c.requires.opened,
      h,
    ))
    c.refusal.ensures

pub read_repetition-read_glob-requires : goal.read_repetition-read_glob-requires
read_repetition-read_glob-requires t c = (
  omega (arith, c.in-Some.ensures.2),
  subst (λ z. HasSuffix (chars z) (chars c.args.from.rest.now))
      (sym c.in-Some.ensures.0) (beyond_more (chars c.args.scope.expression.now) (chars c.args.flags.rest.now)
      (chars c.args.from.rest.now) c.requires.within
      (taken_beyond (chars c.args.flags.rest.now) (chars c.args.from.rest.now)
      (opening_taken 60 (place c.args.flags) (place c.args.from) c.requires.opened))),
)

pub read_repetition-returns-in_err-body : goal.read_repetition-returns-in_err-body
read_repetition-returns-in_err-body t c =
    λ first. passed_up c.from_residual.result c.in_err-body.field-0.0 _ _ _ _ c.from_residual.ensures.1
    (λ e h. (let k : Unreadable (GlobFrom (utf8_len (chars c.args.scope.expression.now)) in_repetition
    c.in-Some.inner.depth (place c.args.from)) × IsPlace (chars c.args.scope.expression.now) e =
    inner_fails c.in-Some.inner.expression.now c.args.scope.expression.now c.in-Some.inner.around
    c.in-Some.inner.depth (place c.args.from) e c.in-Some.ensures.0 c.in-Some.ensures.1 h in (
      repetition_unreadable (utf8_len (chars c.args.scope.expression.now))
          (around_of c.args.scope.around) c.args.scope.depth c.in-Some.inner.depth first (place c.args.flags)
          (place c.args.from) c.in-Some.ensures.2 c.requires.opened k.0,
      k.1,
    )))
    c.in_err-body.ensures

pub read_repetition-refusal-requires-in_default-read_bounds :
    goal.read_repetition-refusal-requires-in_default-read_bounds
read_repetition-refusal-requires-in_default-read_bounds t c =
    beyond_more (chars c.args.scope.expression.now) (chars c.args.from.rest.now)
    (chars c.in_ok-body.next.rest.now)
    (beyond_more (chars c.args.scope.expression.now) (chars c.args.flags.rest.now)
    (chars c.args.from.rest.now) c.requires.within
    (taken_beyond (chars c.args.flags.rest.now) (chars c.args.from.rest.now)
    (opening_taken 60 (place c.args.flags) (place c.args.from) c.requires.opened)))
    c.in_ok-body.ensures.1

pub read_repetition-returns-in_default-read_bounds : goal.read_repetition-returns-in_default-read_bounds
read_repetition-returns-in_default-read_bounds t c = λ first.
    refused_as c.refusal-in_default-read_bounds.result (IsPlace (chars c.args.scope.expression.now)) _ _
    (λ e h. (
      repetition_unbounded (utf8_len (chars c.args.scope.expression.now))
          (around_of c.args.scope.around) c.args.scope.depth c.in-Some.inner.depth first (place c.args.flags)
          (place c.args.from) (place c.in_ok-body.next) c.in_ok-body.body
          c.in-Some.ensures.2 c.requires.opened
          (inner_sole c.in-Some.inner.expression.now c.args.scope.expression.now
          c.in-Some.inner.around c.in-Some.inner.depth (place c.args.from) c.in_ok-body.body
          (place c.in_ok-body.next) c.in-Some.ensures.0 c.in-Some.ensures.1 c.in_ok-body.ensures.0)
          c.in_default-read_bounds.ensures,
      h,
    ))
    c.refusal-in_default-read_bounds.ensures

pub read_repetition-metadata-annotation-requires-clause-from :
    goal.read_repetition-metadata-annotation-requires-clause-from
read_repetition-metadata-annotation-requires-clause-from t c =
    end_shorter (chars c.args.scope.expression.now) (chars c.args.flags.rest.now) c.requires.within

pub read_repetition-metadata-annotation-requires-clause-to :
    goal.read_repetition-metadata-annotation-requires-clause-to
read_repetition-metadata-annotation-requires-clause-to t c =
    end_shorter (chars c.args.flags.rest.now) (chars c.in-Some-read_bounds.rest.now) (taken_beyond
    (chars c.args.flags.rest.now) (chars c.in-Some-read_bounds.rest.now)
    (taken_more (chars c.args.flags.rest.now) (chars c.args.from.rest.now)
    (chars c.in-Some-read_bounds.rest.now)
    (opening_taken 60 (place c.args.flags) (place c.args.from) c.requires.opened)
    (beyond_more (chars c.args.from.rest.now) (chars c.in_ok-body.next.rest.now)
    (chars c.in-Some-read_bounds.rest.now) c.in_ok-body.ensures.1
    (bounds_beyond (chars c.in_ok-body.next.rest.now) c.in-Some-read_bounds.lower c.in-Some-read_bounds.upper
    (chars c.in-Some-read_bounds.rest.now) c.in-Some-read_bounds.ensures))))

pub read_repetition-returns : goal.read_repetition-returns
read_repetition-returns t c = λ first.
    let size = utf8_len (chars c.args.scope.expression.now) in
    let p : Place = place c.args.flags in let n : Place = place c.args.from in
    let k : Place = place c.in_ok-body.next in
    let q : Place = at c.in_ok-body.next.is_case_insensitive (chars c.in-Some-read_bounds.rest.now) in
    let far : HasProperSuffix p.rest q.rest =
    taken_more p.rest n.rest q.rest (opening_taken 60 p n c.requires.opened)
    (beyond_more n.rest k.rest q.rest c.in_ok-body.ensures.1 (bounds_beyond k.rest c.in-Some-read_bounds.lower
    c.in-Some-read_bounds.upper q.rest c.in-Some-read_bounds.ensures)) in (
      as_made (TokenFrom size (around_of c.args.scope.around) c.args.scope.depth first p)
          c.new_branch.result _ q
          (c.new_branch.ensures ∙ (λ i. repetition (c.metadata-annotation.ensures i)
          (c.in_ok-boxed.ensures i) c.in-Some-read_bounds.lower c.in-Some-read_bounds.upper))
          (repetition_sole size (around_of c.args.scope.around) c.args.scope.depth c.in-Some.inner.depth
          first p n k c.in_ok-body.body c.in-Some-read_bounds.lower c.in-Some-read_bounds.upper q.rest
          c.in-Some.ensures.2 c.requires.opened
          (end_shorter (chars c.args.scope.expression.now) p.rest c.requires.within)
          (end_shorter p.rest q.rest (taken_beyond p.rest q.rest far))
          (inner_sole c.in-Some.inner.expression.now c.args.scope.expression.now c.in-Some.inner.around
          c.in-Some.inner.depth n c.in_ok-body.body k c.in-Some.ensures.0 c.in-Some.ensures.1
          c.in_ok-body.ensures.0)
          c.in-Some-read_bounds.ensures),
      far,
    )

-- ---- read_branches
pub read_branches-read_glob-requires : goal.read_branches-read_glob-requires
read_branches-read_glob-requires t c = (
  omega arith,
  beyond_more (chars c.args.scope.expression.now) (chars c.args.from.rest.now)
      (chars c.loop-branches.cursor.rest.now) c.requires.within c.loop-branches.invariant.1.beyond,
)

pub read_branches-returns-in_err-branch : goal.read_branches-returns-in_err-branch
read_branches-returns-in_err-branch t c = passed_up c.from_residual-in_err-branch.result
    c.in_err-branch.field-0.0 _ _ _ _ c.from_residual-in_err-branch.ensures.1
    (λ e h. (
      branches_unreadable (utf8_len (chars c.args.scope.expression.now)) c.args.scope.depth
          (place c.args.from) (place c.loop-branches.cursor) c.loop-branches.branches.items
          (subst (λ a. Unreadable (GlobFrom (utf8_len (chars c.args.scope.expression.now))
          a c.args.scope.depth (place c.loop-branches.cursor))) c.requires.around h.0)
          c.loop-branches.invariant.1.begun,
      h.1,
    ))
    c.in_err-branch.ensures

pub read_branches-refusal-requires : goal.read_branches-refusal-requires
read_branches-refusal-requires t c =
    beyond_more (chars c.args.scope.expression.now) (chars c.loop-branches.cursor.rest.now)
    (chars c.in_ok-branch.next.rest.now)
    (beyond_more (chars c.args.scope.expression.now) (chars c.args.from.rest.now)
    (chars c.loop-branches.cursor.rest.now) c.requires.within c.loop-branches.invariant.1.beyond)
    c.in_ok-branch.ensures.1

pub read_branches-returns-in_default-strip : goal.read_branches-returns-in_default-strip
read_branches-returns-in_default-strip t c =
    refused_as c.refusal.result (IsPlace (chars c.args.scope.expression.now)) _ _
    (λ e h. (
      branches_unclosed (utf8_len (chars c.args.scope.expression.now)) c.args.scope.depth (place c.args.from)
          (place c.loop-branches.cursor) (place c.in_ok-branch.next) c.loop-branches.branches.items
          c.in_ok-branch.branch
          c.in_default.ensures c.in_default-strip.ensures
          (subst (λ a. Sole (GlobFrom (utf8_len (chars c.args.scope.expression.now)) a c.args.scope.depth
          (place c.loop-branches.cursor)) c.in_ok-branch.branch (place c.in_ok-branch.next))
          c.requires.around c.in_ok-branch.ensures.0)
          c.loop-branches.invariant.1.begun,
      h,
    ))
    c.refusal.ensures

pub read_branches-returns-in-Some : goal.read_branches-returns-in-Some
read_branches-returns-in-Some t c =
    let q : Place = at c.in_ok-branch.next.is_case_insensitive (chars c.in-Some.rest.now) in
    let m : Place = place c.in_ok-branch.next in
    let e : m.rest ≡ 125 ∷ q.rest = strip_is 125 m.rest q.rest c.in-Some.ensures in (
      as_made (BranchesFrom (utf8_len (chars c.args.scope.expression.now)) c.args.scope.depth
          (place c.args.from)) (trees c.shrink_to_fit.new.self.items) _ q
          (ap trees (c.shrink_to_fit.ensures.items ∙ c.in_ok-push.ensures))
          (branches_sole (utf8_len (chars c.args.scope.expression.now)) c.args.scope.depth (place c.args.from)
          (place c.loop-branches.cursor) m q c.loop-branches.branches.items c.in_ok-branch.branch e refl
          (subst (λ a. Sole (GlobFrom (utf8_len (chars c.args.scope.expression.now)) a c.args.scope.depth
          (place c.loop-branches.cursor)) c.in_ok-branch.branch m) c.requires.around
          c.in_ok-branch.ensures.0)
          c.loop-branches.invariant.1.begun),
      beyond_more (chars c.args.from.rest.now) (chars c.loop-branches.cursor.rest.now) q.rest
          c.loop-branches.invariant.1.beyond (beyond_more (chars c.loop-branches.cursor.rest.now) m.rest
          q.rest c.in_ok-branch.ensures.1 (one_beyond 125 m.rest q.rest e)),
    )

pub read_branches-loop-branches-init : goal.read_branches-loop-branches-init
read_branches-loop-branches-init t c = (
  search rules,
  record {
    beyond = beyond_same (chars c.args.from.rest.now);
    begun = subst (λ ts. Begun (BranchesFrom (utf8_len (chars c.args.scope.expression.now)) c.args.scope.depth
        (place c.args.from)) (BranchesFrom (utf8_len (chars c.args.scope.expression.now)) c.args.scope.depth
        (place c.args.from)) ts)
        (sym c.in_ok-branches.ensures.items) (begun_start (BranchesFrom
        (utf8_len (chars c.args.scope.expression.now)) c.args.scope.depth (place c.args.from)));
  },
)

pub read_branches-loop-branches-preserved : goal.read_branches-loop-branches-preserved
read_branches-loop-branches-preserved t c =
    let n : Place = at c.in_ok-branch.next.is_case_insensitive (chars c.in-Some-strip.rest.now) in
    let m : Place = place c.in_ok-branch.next in
    let e : m.rest ≡ 44 ∷ n.rest = strip_is 44 m.rest n.rest c.in-Some-strip.ensures in (
      search rules,
      record {
        beyond = beyond_more (chars c.args.from.rest.now) (chars c.loop-branches.cursor.rest.now) n.rest
            c.loop-branches.invariant.1.beyond (beyond_more (chars c.loop-branches.cursor.rest.now) m.rest
            n.rest c.in_ok-branch.ensures.1 (one_beyond 44 m.rest n.rest e));
        begun = subst (λ ts. Begun (BranchesFrom
            (utf8_len (chars c.args.scope.expression.now)) c.args.scope.depth (place c.args.from))
            (BranchesFrom (utf8_len (chars c.args.scope.expression.now)) c.args.scope.depth n) ts)
            (sym c.in_ok-push.ensures)
            (begun_branch (utf8_len (chars c.args.scope.expression.now)) c.args.scope.depth
            (place c.args.from) (place c.loop-branches.cursor) m n c.loop-branches.branches.items
            c.in_ok-branch.branch e refl
            (subst (λ a. Sole (GlobFrom (utf8_len (chars c.args.scope.expression.now)) a c.args.scope.depth
            (place c.loop-branches.cursor)) c.in_ok-branch.branch m) c.requires.around
            c.in_ok-branch.ensures.0)
            c.loop-branches.invariant.1.begun);
      },
    )

-- ---- read_glob
pub read_glob-loop-alloc-init : goal.read_glob-loop-alloc-init
read_glob-loop-alloc-init t c = (
  search rules,
  record {
    beyond = beyond_same (chars c.args.from.rest.now);
    begun = subst (λ ts. Begun (TokensFrom (utf8_len (chars c.args.scope.expression.now))
        (around_of c.args.scope.around) c.args.scope.depth true (place c.args.from))
        (TokensFrom (utf8_len (chars c.args.scope.expression.now)) (around_of c.args.scope.around)
        c.args.scope.depth (is_nil ts) (place c.args.from)) ts)
        (sym c.in_ok-tokens.ensures.items)
        (begun_start (TokensFrom (utf8_len (chars c.args.scope.expression.now))
        (around_of c.args.scope.around) c.args.scope.depth true (place c.args.from)));
  },
)

pub read_glob-read_token-requires : goal.read_glob-read_token-requires
read_glob-read_token-requires t c = (
  omega arith,
  beyond_more (chars c.args.scope.expression.now) (chars c.args.from.rest.now)
      (chars c.loop-alloc.cursor.rest.now) c.requires c.loop-alloc.invariant.1.beyond,
)

pub read_glob-returns-in_err-token : goal.read_glob-returns-in_err-token
read_glob-returns-in_err-token t c =
    let size = utf8_len (chars c.args.scope.expression.now) in
    let first : c.is_empty.result ≡ is_nil c.loop-alloc.tokens.items =
    nil_asked c.loop-alloc.tokens.items c.is_empty.result (c.is_empty.ensures ∙ ap (λ n. n == 0)
    (let e : vec_len c.loop-alloc.tokens ≡ length c.loop-alloc.tokens.items = search rules in e)) in
    passed_up c.from_residual-in_err-token.result c.in_err-token.field-0.0 _ _ _ _
    c.from_residual-in_err-token.ensures.1
    (λ e h. (
      glob_unreadable size (around_of c.args.scope.around) c.args.scope.depth (place c.args.from) (place
          c.loop-alloc.cursor) c.loop-alloc.tokens.items (sym c.is_end.ensures ∙ c.loop-alloc-test.true)
          (subst (λ b. Unreadable (TokenFrom size (around_of c.args.scope.around) c.args.scope.depth b
          (place c.loop-alloc.cursor))) first h.0) c.loop-alloc.invariant.1.begun,
      h.1,
    ))
    c.in_err-token.ensures

pub read_glob-loop-alloc-preserved : goal.read_glob-loop-alloc-preserved
read_glob-loop-alloc-preserved t c =
    let size = utf8_len (chars c.args.scope.expression.now) in
    let first : c.is_empty.result ≡ is_nil c.loop-alloc.tokens.items =
    nil_asked c.loop-alloc.tokens.items c.is_empty.result (c.is_empty.ensures ∙ ap (λ n. n == 0)
    (let e : vec_len c.loop-alloc.tokens ≡ length c.loop-alloc.tokens.items = search rules in e)) in (
      search rules,
      record {
        beyond = beyond_more (chars c.args.from.rest.now) (chars c.loop-alloc.cursor.rest.now)
            (chars c.in_ok-token.next.rest.now) c.loop-alloc.invariant.1.beyond (taken_beyond
            (chars c.loop-alloc.cursor.rest.now) (chars c.in_ok-token.next.rest.now) c.in_ok-token.ensures.1);
        begun = subst (λ ts. Begun (TokensFrom size (around_of c.args.scope.around) c.args.scope.depth true
            (place c.args.from)) (TokensFrom size (around_of c.args.scope.around) c.args.scope.depth
            (is_nil ts) (place c.in_ok-token.next)) ts)
            (sym c.in_ok-push.ensures)
            (begun_token size (around_of c.args.scope.around) c.args.scope.depth (place c.args.from)
            (place c.loop-alloc.cursor) (place c.in_ok-token.next) c.loop-alloc.tokens.items
            c.in_ok-token.token (sym c.is_end.ensures ∙ c.loop-alloc-test.true)
            (subst (λ b. Sole (TokenFrom size (around_of c.args.scope.around) c.args.scope.depth b
            (place c.loop-alloc.cursor)) c.in_ok-token.token (place c.in_ok-token.next)) first
            c.in_ok-token.ensures.0)
            c.loop-alloc.invariant.1.begun);
      },
    )

pub read_glob-returns-then-cursor-from : goal.read_glob-returns-then-cursor-from
read_glob-returns-then-cursor-from t c =
    let from_text : IsUtf8 c.args.from.rest.now = search rules in
    refused_as c.refusal.result (IsPlace (chars c.args.scope.expression.now)) _ _
    (λ e h. (
      glob_empty (utf8_len (chars c.args.scope.expression.now)) (around_of c.args.scope.around)
          c.args.scope.depth (place c.args.from) (place c.loop-alloc.cursor) c.loop-alloc.tokens.items
          (sym c.is_end.ensures ∙ c.loop-alloc-test.false)
          (same_end c.args.from.rest.now c.loop-alloc.cursor.rest.now from_text c.loop-alloc.invariant.0
          c.loop-alloc.invariant.1.beyond c.if-cursor-from.true) c.loop-alloc.invariant.1.begun,
      h,
    ))
    c.refusal.ensures

pub read_glob-metadata-annotation-requires-clause-from :
    goal.read_glob-metadata-annotation-requires-clause-from
read_glob-metadata-annotation-requires-clause-from t c =
    end_shorter (chars c.args.scope.expression.now) (chars c.args.from.rest.now) c.requires

pub read_glob-metadata-annotation-requires-clause-to : goal.read_glob-metadata-annotation-requires-clause-to
read_glob-metadata-annotation-requires-clause-to t c = end_shorter (chars c.args.from.rest.now)
    (chars c.loop-alloc.cursor.rest.now) c.loop-alloc.invariant.1.beyond

pub read_glob-returns : goal.read_glob-returns
read_glob-returns t c =
    let from_text : IsUtf8 c.args.from.rest.now = search rules in
    let size = utf8_len (chars c.args.scope.expression.now) in
    let p : Place = place c.args.from in let q : Place = place c.loop-alloc.cursor in (
      as_made (GlobFrom size (around_of c.args.scope.around) c.args.scope.depth p)
          c.new_branch-glob.result _ q
          (c.new_branch-glob.ensures ∙ ap (λ ts. concatenation c.metadata-annotation.result (trees ts))
          c.without_spare_room-fitted.ensures
          ∙ ap (λ s. concatenation s (trees c.loop-alloc.tokens.items)) c.metadata-annotation.ensures)
          (glob_sole size (around_of c.args.scope.around) c.args.scope.depth p q c.loop-alloc.tokens.items
          (sym c.is_end.ensures ∙ c.loop-alloc-test.false)
          (λ e. c.if-cursor-from.false (bytes_len c.loop-alloc.cursor.rest.now c.loop-alloc.invariant.0
          ∙ ap utf8_len e ∙ sym (bytes_len c.args.from.rest.now from_text)))
          (end_shorter (chars c.args.scope.expression.now) p.rest c.requires)
          (end_shorter p.rest q.rest c.loop-alloc.invariant.1.beyond) c.loop-alloc.invariant.1.begun),
      c.loop-alloc.invariant.1.beyond,
    )

-- ---- read_token
pub read_token-refusal-requires : goal.read_token-refusal-requires
read_token-refusal-requires t c =
    beyond_more (chars c.args.scope.expression.now) (chars c.args.from.rest.now)
    (chars c.read_flags-start.result.rest.now) c.requires
    (flags_beyond (place c.args.from) (place c.read_flags-start.result) c.read_flags-start.ensures)

pub read_token-returns-in_default-2 : goal.read_token-returns-in_default-2
read_token-returns-in_default-2 t c =
    let p : Place = place c.args.from in let m : Place = place c.read_flags-start.result in
    let read : read_leaf (around_of c.args.scope.around) c.args.is_first m ≡ None =
    rw c.in_default-2.is at c.in_ok-kind.ensures in
    refused_as c.refusal.result (IsPlace (chars c.args.scope.expression.now)) _ _
    (λ e h. (
      leaf_unreadable (utf8_len (chars c.args.scope.expression.now))
          (around_of c.args.scope.around) c.args.scope.depth c.args.is_first p
          (ap (λ z. strip 123 z.rest) c.read_flags-start.ensures ∙ c.in_default.ensures)
          (ap (λ z. strip 60 z.rest) c.read_flags-start.ensures ∙ c.in_default-strip.ensures)
          (ap (read_leaf (around_of c.args.scope.around) c.args.is_first) c.read_flags-start.ensures ∙ read),
      h,
    ))
    c.refusal.ensures

pub read_token-metadata-annotation-requires-clause-from :
    goal.read_token-metadata-annotation-requires-clause-from
read_token-metadata-annotation-requires-clause-from t c =
    end_shorter (chars c.args.scope.expression.now) (chars c.args.from.rest.now) c.requires

pub read_token-metadata-annotation-requires-clause-to : goal.read_token-metadata-annotation-requires-clause-to
read_token-metadata-annotation-requires-clause-to t c =
    let read : read_leaf (around_of c.args.scope.around) c.args.is_first (place c.read_flags-start.result)
    ≡ Some (leaf_of c.in-Some-2.kind, place c.in-Some-2.next) =
    rw c.in-Some-2.is at c.in_ok-kind.ensures in
    end_shorter (chars c.args.from.rest.now) (chars c.in-Some-2.next.rest.now) (taken_beyond
    (chars c.args.from.rest.now) (chars c.in-Some-2.next.rest.now)
    (leaf_taken (around_of c.args.scope.around) c.args.is_first (leaf_of c.in-Some-2.kind) (place c.args.from)
    (place c.read_flags-start.result) (place c.in-Some-2.next) c.read_flags-start.ensures read))

pub read_token-returns : goal.read_token-returns
read_token-returns t c =
    let p : Place = place c.args.from in let m : Place = place c.read_flags-start.result in
    let q : Place = place c.in-Some-2.next in
    let around : Around = around_of c.args.scope.around in
    let size = utf8_len (chars c.args.scope.expression.now) in
    let read : read_leaf around c.args.is_first m ≡ Some (leaf_of c.in-Some-2.kind, q) =
    rw c.in-Some-2.is at c.in_ok-kind.ensures in
    let far : HasProperSuffix p.rest q.rest = leaf_taken around c.args.is_first
    (leaf_of c.in-Some-2.kind) p m q c.read_flags-start.ensures read in (
      as_made (TokenFrom size around c.args.scope.depth c.args.is_first p) c.new_leaf.result _ q
          (c.new_leaf.ensures ∙ ap (λ s. leaf s (leaf_of c.in-Some-2.kind)) c.metadata-annotation.ensures)
          (leaf_sole size around c.args.scope.depth c.args.is_first p q (leaf_of c.in-Some-2.kind)
          (ap (λ z. strip 123 z.rest) c.read_flags-start.ensures ∙ c.in_default.ensures)
          (ap (λ z. strip 60 z.rest) c.read_flags-start.ensures ∙ c.in_default-strip.ensures)
          (ap (read_leaf around c.args.is_first) c.read_flags-start.ensures ∙ read)
          (end_shorter (chars c.args.scope.expression.now) p.rest c.requires)
          (end_shorter p.rest q.rest (taken_beyond p.rest q.rest far))),
      far,
    )
