use Rattle.std.proofs.Common.{◌≡◌, ◌↔◌, ◌∙◌, IsTrue, rules, sym}
use Rattle.wax_token.specs.{Syntax.{alternation, concatenation}, View.branch_tree, Words.trees}
use Rattle.wax_token.proofs.Same.{alternation_same, concatenation_same}
use Rattle.wax_token.proofs.token.same.+same.Goals as goal

pub same_branch-returns-in-Alternation-other : goal.same_branch-returns-in-Alternation-other
same_branch-returns-in-Alternation-other t c span =
    let ts = c.in-Alternation.a.tokens.items in
    let us = c.in-Alternation-other.b.tokens.items in
    let told = c.same_each.ensures in
    let first = c.as_slice.ensures.value in
    let second = c.as_slice-in-Alternation-other.ensures.value in
    let is : branch_tree c.args.branch.now span ≡ alternation span (trees ts) = search rules in
    let its : branch_tree c.args.other.now span ≡ alternation span (trees us) = search rules in
    let same : IsTrue c.same_each.result ↔ (ts ≡ us) =
    (λ h. sym first ∙ told.0 h ∙ second, λ e. told.1 (first ∙ e ∙ sym second)) in
    alternation_same c.same_each.result span ts us same _ _ is its

pub same_branch-returns-in-Concatenation-other : goal.same_branch-returns-in-Concatenation-other
same_branch-returns-in-Concatenation-other t c span =
    let ts = c.in-Concatenation.a.tokens.items in
    let us = c.in-Concatenation-other.b.tokens.items in
    let told = c.same_each-in-Concatenation-other.ensures in
    let first = c.as_slice-in-Concatenation-other.ensures.value in
    let second = c.as_slice-in-Concatenation-other-2.ensures.value in
    let is : branch_tree c.args.branch.now span ≡ concatenation span (trees ts) = search rules in
    let its : branch_tree c.args.other.now span ≡ concatenation span (trees us) = search rules in
    let same : IsTrue c.same_each-in-Concatenation-other.result ↔ (ts ≡ us) =
    (λ h. sym first ∙ told.0 h ∙ second, λ e. told.1 (first ∙ e ∙ sym second)) in
    concatenation_same c.same_each-in-Concatenation-other.result span ts us same _ _ is its
