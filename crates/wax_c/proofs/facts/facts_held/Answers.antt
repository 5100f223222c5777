-- What is known of the glob is known of its tree.
use Rattle.std.proofs.Common.{refl, ap, subst, ◌∙◌}
use Rattle.wax.specs.Queries.{bounds}
use Rattle.wax_c.specs.Facts.{AreFacts, when_number}
use Rattle.wax_c.proofs.facts.facts_held.Goals as goal

pub returns : goal.returns
returns c =
    let root = c.has_root.ensures.root in
    let exhaustive = c.is_exhaustive.ensures.exhaustive in
    let facts : AreFacts c.glob-glob.result.now.tree c.facts_of.result = record {
      depth = bounds c.depth.result;
      depth_is = c.depth.ensures.depth;
      least = c.facts_of.ensures.least;
      greatest = c.facts_of.ensures.greatest;
      root_is = c.facts_of.ensures.root ∙ ap when_number root;
      exhaustive_is = c.facts_of.ensures.exhaustive ∙ ap when_number exhaustive;
      no_more = c.depth.ensures.greatest;
      no_fewer = c.depth.ensures.least;
      rooted = λ always. c.has_root.ensures.always (root ∙ always);
      below = λ always. c.is_exhaustive.ensures.always (exhaustive ∙ always);
    } in
    (subst (λ t. AreFacts t c.facts_of.result) (ap (λ g. g.tree) c.glob-glob.ensures) facts, refl)
