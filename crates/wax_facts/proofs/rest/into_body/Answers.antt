use Rattle.std.proofs.Common.{◌≡◌, ◌∙◌, ap, sym}
use Rattle.wax_token.specs.{Syntax.{alternation, repetition}, View.topology_tree, Words.trees}
use Rattle.wax_token.specs.declared.token.Topology.TheVariants.{Branch}
use Rattle.wax_facts.specs.inner.Bodies.{open_body}
use Rattle.wax_facts.proofs.rest.into_body.Goals as goal

pub returns-in-Alternation : goal.returns-in-Alternation
returns-in-Alternation c =
    let parts = c.into_parts-topology.result in
    let e : topology_tree (Branch c.in-Branch.branch) parts.1 ≡ c.args.token =
    ap (λ z. topology_tree z parts.1) (sym c.in-Branch.is) ∙ c.into_parts-topology.ensures in
    let f : alternation parts.1 (trees c.in-Alternation.a.tokens.items) ≡ c.args.token =
    rw c.in-Alternation.is at e in
    c.only_branch.ensures parts.1 ∙ ap open_body f

pub returns-in-Repetition : goal.returns-in-Repetition
returns-in-Repetition c =
    let parts = c.into_parts-topology.result in
    let r = c.in-Repetition.r in
    let e : topology_tree (Branch c.in-Branch.branch) parts.1 ≡ c.args.token =
    ap (λ z. topology_tree z parts.1) (sym c.in-Branch.is) ∙ c.into_parts-topology.ensures in
    let f : repetition parts.1 r.token.value r.lower r.upper ≡ c.args.token = rw c.in-Repetition.is at e in
    c.only_copy.ensures parts.1 ∙ ap open_body f
