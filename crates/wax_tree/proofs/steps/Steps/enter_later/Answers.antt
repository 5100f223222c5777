use Rattle.std.proofs.Common.{rules, arith, ◌≡◌, ◌∙◌, ◌+◌, refl, subst}
use Rattle.wax_directory.specs.declared.directory.FileType.TheVariants.{Folder}
use Rattle.wax_walk.specs.Entries.{facts_of}
use Rattle.wax_tree.specs.{Walking.{entry_location, scope_of}, Plain.HasKind, Stepping.remembered}
use Rattle.wax_tree.proofs.{Resting.enters_later, Locations.folder_is}
use Rattle.wax_tree.proofs.steps.Steps.enter_later.Goals as goal

pub returns-in_ok-path-clause-entered : goal.returns-in_ok-path-clause-entered
returns-in_ok-path-clause-entered g c s alone h k =
    let w = c.args.self.now in
    let f = facts_of c.args.entry.now in
    let is : f.kind ≡ Folder = search rules in
    enters_later (g.D.Directory.law.shows w.directory) (scope_of w)
    (record { path = c.in_ok-path.path; depth = c.depth-depth.result + 1 }) (entry_location f) s h
    (subst (λ v. HasKind s v) is k) (omega (arith, c.depth-depth.ensures, c.if-depth-self.true))
    (folder_is (facts_of c.args.entry.now) c.in_ok-path.path c.depth-depth.result
    (c.in_ok-path.ensures.cases ∙ c.walked_path.ensures) c.depth-depth.ensures)

pub returns-in_ok-path-clause-enters : goal.returns-in_ok-path-clause-enters
returns-in_ok-path-clause-enters g c =
    let is : (facts_of c.args.entry.now).kind ≡ Folder = search rules in
    remembered _ refl
    (folder_is (facts_of c.args.entry.now) c.in_ok-path.path c.depth-depth.result
    (c.in_ok-path.ensures.cases ∙ c.walked_path.ensures) c.depth-depth.ensures) is
    (omega (arith, c.depth-depth.ensures, c.if-depth-self.true))
