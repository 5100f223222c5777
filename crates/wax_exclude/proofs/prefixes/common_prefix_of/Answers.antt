use Rattle.std.proofs.Common.{◌+◌, take, MatchOption, subst, sym}
use Rattle.wax_token.specs.{Syntax.alternation, Words.trees}
use Rattle.wax_tree.specs.Prefix.{from_last}
use Rattle.wax_exclude.specs.inner.Shared.{NarrowsTo}
use Rattle.wax_exclude.proofs.SharedPrefixes.{HasOwnNames, IsPassedOver, SharesUntil, ended_common}
use Rattle.wax_exclude.proofs.SharedPrefixes.{ended_meant, narrowed_on, none_begin, own_names, passed_on}
use Rattle.wax_exclude.proofs.SharedPrefixes.{refused_on}
use Rattle.wax_exclude.proofs.prefixes.common_prefix_of.Goals.{in-Some+in_ok-narrower+in-Some-2, in_default}
use Rattle.wax_exclude.proofs.prefixes.common_prefix_of.Goals as goal

pub returns-in-None-clause-common : goal.returns-in-None-clause-common
returns-in-None-clause-common c =
    let t = c.token-item.result in
    let o = c.in_ok-own.field-0 in
    let e = c.in_ok-own.ensures in
    refused_on c.args.tokens.now c.loop-token.token-index t c.loop-token-test.true c.token-item.is o
    (own_names t o e.prefix e.names e.meant)
    c.loop-token.shared c.loop-token.invariant c.in-Some.own c.in-Some.is
    c.no_names.result.is_rooted (from_last c.no_names.result.names.items)
    (subst (NarrowsTo c.loop-token.shared c.in-Some.own) c.in-None.is c.in_ok-narrower.ensures)
    c.no_names.ensures.0 c.no_names.ensures.1

pub returns-in-None-clause-meant : goal.returns-in-None-clause-meant
returns-in-None-clause-meant c = λ a.
    none_begin (alternation a (trees c.args.tokens.now)) c.no_names.result.is_rooted
    (from_last c.no_names.result.names.items) c.no_names.ensures.1

pub loop-token-preserved : goal.loop-token-preserved
loop-token-preserved c =
    let ts = c.args.tokens.now in
    let i = c.loop-token.token-index in
    let t = c.token-item.result in
    let o = c.in_ok-own.field-0 in
    let e = c.in_ok-own.ensures in
    let known : MatchOption o (IsPassedOver t) (λ w. HasOwnNames t w.is_rooted (from_last w.names.items)) =
    own_names t o e.prefix e.names e.meant in
    elim c.match-branch-2.branch [
      | in-Some+in_ok-narrower+in-Some-2 w ↦ subst (SharesUntil (take (i + 1) ts)) (sym w.shared-is)
          (narrowed_on ts i t c.loop-token-test.true c.token-item.is o known c.loop-token.shared
          c.loop-token.invariant w.in-Some.own w.in-Some.is w.in-Some-2.narrower
          (subst (NarrowsTo c.loop-token.shared w.in-Some.own) w.in-Some-2.is w.in_ok-narrower.ensures))
      | in_default w ↦ subst (SharesUntil (take (i + 1) ts)) (sym w.shared-is)
          (passed_on ts i t c.loop-token-test.true c.token-item.is o known c.loop-token.shared
          c.loop-token.invariant w.in_default.is)
    ]

pub returns-clause-common : goal.returns-clause-common
returns-clause-common c =
    ended_common c.args.tokens.now c.loop-token.token-index c.loop-token-test.false c.no_names-2.result
    c.no_names-2.ensures.0 c.no_names-2.ensures.1 c.loop-token.shared c.unwrap_or.result
    c.loop-token.invariant c.unwrap_or.ensures

pub returns-clause-meant : goal.returns-clause-meant
returns-clause-meant c =
    ended_meant c.args.tokens.now c.loop-token.token-index c.loop-token-test.false c.no_names-2.result
    c.no_names-2.ensures.0 c.no_names-2.ensures.1 c.loop-token.shared c.unwrap_or.result
    c.loop-token.invariant c.unwrap_or.ensures
