use Rattle.std.proofs.Common.{◌≡◌, ◌∙◌, ap, chars, subst, sym}
use Rattle.wax_facts.specs.Prefix.{Prefix}
use Rattle.wax_exclude.specs.Prefix.{HasEmptyName}
use Rattle.wax_exclude.proofs.Beginnings.{begins_with, if_ok_map, none_meant, option_map, told_names}
use Rattle.wax_exclude.proofs.Texts.{empty_chars}
use Rattle.wax_exclude.proofs.prefixes.prefix_names_of.Goals as goal

pub returns-clause-prefix : goal.returns-clause-prefix
returns-clause-prefix c =
    let t = c.args.token.now in
    let n = c.in_ok-prefix.field-0-0 in
    let text = c.as_str.result.now in
    let prefix : Prefix t n (chars text) =
    subst (λ v. Prefix t n (chars v)) (sym c.as_str.ensures.value) c.in_ok-prefix.ensures.prefix in
    if_ok_map c.split_prefix.result (λ prefix_names k. (n, chars text, prefix)) c.split_prefix.ensures

pub returns-clause-names : goal.returns-clause-names
returns-clause-names c =
    let text = c.as_str.result.now in
    if_ok_map c.split_prefix.result (λ prefix_names k n p h.
    let same : p ≡ chars text = (c.in_ok-prefix.ensures.only n p h).1
    ∙ ap chars (sym c.as_str.ensures.value) in
    option_map prefix_names (λ e. subst HasEmptyName (sym same) (empty_chars text c.as_str.utf8 e))
    (λ w i. told_names text p _ _ c.as_str.utf8 same i) k)
    c.split_prefix.ensures

pub returns-clause-meant : goal.returns-clause-meant
returns-clause-meant c =
    let t = c.args.token.now in
    let n = c.in_ok-prefix.field-0-0 in
    let text = c.as_str.result.now in
    let prefix : Prefix t n (chars text) =
    subst (λ v. Prefix t n (chars v)) (sym c.as_str.ensures.value) c.in_ok-prefix.ensures.prefix in
    if_ok_map c.split_prefix.result
    (λ prefix_names k. option_map prefix_names (λ e rooted. none_meant t n text c.as_str.utf8 prefix e rooted)
    (λ w i. begins_with t n text _ _ c.as_str.utf8 prefix i.1) k)
    c.split_prefix.ensures
