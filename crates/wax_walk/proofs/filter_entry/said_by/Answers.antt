use Rattle.std.proofs.Common.{◌∙◌, sym, ap}
use Rattle.wax_filter.specs.Leaving.{residue_item}
use Rattle.wax_walk.proofs.Saying.{says_now, said_residue}
use Rattle.wax_walk.proofs.filter_entry.said_by.Goals as goal

pub returns-in-Ok-clause-says : goal.returns-in-Ok-clause-says
returns-in-Ok-clause-says g c rule s =
    let n = says_now _ rule c.args.f.now c.f.new.self c.as_tree_entry.result c.f.result s c.f.ensures in
    rw (c.in-Filtrate.is, sym c.get.ensures ∙ c.in-Ok.is) (n.0 ∙ ap rule c.as_tree_entry.ensures, n.1)

pub returns-in-Residue-clause-says : goal.returns-in-Residue-clause-says
returns-in-Residue-clause-says g c rule s =
    let n = says_now _ rule c.args.f.now c.f-in-Residue.new.self c.as_tree_entry-in-Residue.result
    c.f-in-Residue.result s c.f-in-Residue.ensures in
    rw c.in-Residue.is (
      n.0 ∙ (ap rule c.as_tree_entry-in-Residue.ensures
          ∙ (ap (λ v. rule (g.R.Entry.facts v)) c.get-in-Residue-2.ensures
          ∙ (ap (λ v. rule (g.R.Entry.facts (residue_item v))) c.get-in-Residue.ensures
          ∙ sym (said_residue g.T.Entry.facts g.R.Entry.facts rule c.in-Residue.residue.inner)))),
      n.1,
    )
