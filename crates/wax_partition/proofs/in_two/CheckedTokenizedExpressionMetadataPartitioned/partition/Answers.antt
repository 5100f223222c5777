use Rattle.std.proofs.Common.{◌≡◌, IfSome, None, Some, chars, rules, string_bytes, subst, true}
use Rattle.std.specs.Cow.{cow_str_bytes}
use Rattle.wax_facts.specs.Orderly.{Flat}
use Rattle.wax_partition.specs.{Partition.{IsPartition, spelled_rest}, inner.Flatness.is_flat}
use Rattle.wax_rule.specs.Keeping.{KeepsRules}
use Rattle.wax_token.specs.{Reads.Span, declared.token.Tokenized.Tokenized}
use Rattle.wax_partition.proofs.RestKeeps.{flat_from}
use Rattle.wax_partition.proofs.in_two.CheckedTokenizedExpressionMetadataPartitioned.partition.Goals as goal

pub returns-in_ok-checked_rest-in-Some : goal.returns-in_ok-checked_rest-in-Some
returns-in_ok-checked_rest-in-Some c =
    let p = chars (string_bytes c.in_ok-prefix.prefix) in
    let k : IsPartition (chars (cow_str_bytes c.release-tokenized.result.expression))
    c.release-tokenized.result.token p (spelled_rest c.in_ok-prefix.rest) =
    c.in_ok-prefix.ensures.parts in
    let same : c.in_ok-prefix.rest ≡ Some c.in_ok-checked_rest-in-Some.field-0 = search rules in
    subst (λ o. IsPartition (chars (cow_str_bytes c.args.self.expression)) c.args.self.token p
    (spelled_rest o)) same
    (subst (λ (w : Tokenized Span). IsPartition (chars (cow_str_bytes w.expression)) w.token p
    (spelled_rest c.in_ok-prefix.rest)) c.release-tokenized.ensures.same k)

pub returns-in-None : goal.returns-in-None
returns-in-None c =
    let p = chars (string_bytes c.in_ok-prefix.prefix) in
    let k : IsPartition (chars (cow_str_bytes c.release-tokenized.result.expression))
    c.release-tokenized.result.token p (spelled_rest c.in_ok-prefix.rest) =
    c.in_ok-prefix.ensures.parts in
    let same : c.in_ok-prefix.rest ≡ None = search rules in
    subst (λ o. IsPartition (chars (cow_str_bytes c.args.self.expression)) c.args.self.token p
    (spelled_rest o)) same
    (subst (λ (w : Tokenized Span). IsPartition (chars (cow_str_bytes w.expression)) w.token p
    (spelled_rest c.in_ok-prefix.rest)) c.release-tokenized.ensures.same k)

-- the rest of a flat glob keeps the rules
pub checked_rest-requires : goal.checked_rest-requires
checked_rest-requires c = λ was_flat.
    let whole = c.release-tokenized.result.token in
    let flat : is_flat whole ≡ true = search rules in
    let kept : IfSome (Some c.in-Some.rest) (λ u. Flat whole → KeepsRules whole → KeepsRules u.token) =
    subst (λ o. IfSome o (λ u. Flat whole → KeepsRules whole → KeepsRules u.token)) c.in-Some.is
    c.in_ok-prefix.ensures.rules in
    kept (flat_from whole flat) c.release-tokenized.ensures.rules
