use Rattle.std.proofs.Common.{◌≡◌, ◌∙◌, ◌↔◌, ◌∷◌, [], IsTrue, ap, chars}
use Rattle.wax_walk.specs.{Candidates.in_characters, Said.mark_of}
use Rattle.wax_exclude.proofs.Covered.{answers_covers, answers_excluded, covers_some_means}
use Rattle.wax_exclude.proofs.{Excluding.only_line, ListLengths.alternatives_within}
use Rattle.wax_exclude.specs.{Candidates.folder_at, Covers.CoversSome, Excluded.excluded_mark}
use Rattle.wax_exclude.specs.inner.Split.{split_of}
use Rattle.wax_exclude.proofs.exclusions.Exclusion.excludes_below_metered.Goals as goal

pub residue_once-requires : goal.residue_once-requires
residue_once-requires c = c.self.invariant.lines.closed

marked : (c : goal.After-is_tree) → mark_of c.in_ok-residue.residue
    ≡ excluded_mark c.args.self.now (in_characters c.folder_candidate.result)
marked c =
    let line = c.self.inside.line in
    let folder = in_characters c.folder_candidate.result in
    c.in_ok-residue.ensures.says (split_of line ∷ []) c.self.invariant.lines
    ∙ only_line line c.self.invariant.ignores folder ∙ ap (λ ts. excluded_mark ts folder) c.self.view_is

answers : (c : goal.After-is_tree) → IsTrue c.is_tree.result
    ↔ CoversSome c.args.self.now (folder_at c.args.path.now)
answers c =
    let folder = c.folder_candidate in
    answers_covers c.is_tree.result (mark_of c.in_ok-residue.residue) c.is_tree.ensures
    (in_characters folder.result)
    (folder_at c.args.path.now) folder.ensures.text folder.ensures.named c.args.self.now (marked c)

pub returns-clause-says : goal.returns-clause-says
returns-clause-says c =
    let folder = c.folder_candidate in
    answers_excluded c.is_tree.result (mark_of c.in_ok-residue.residue) c.is_tree.ensures
    (in_characters folder.result)
    (folder_at c.args.path.now) folder.ensures.text folder.ensures.named c.args.self.now (marked c)

pub returns-clause-covers : goal.returns-clause-covers
returns-clause-covers c = answers c

pub returns-clause-below : goal.returns-clause-below
returns-clause-below c = λ ends yes s below.
    covers_some_means c.args.path.now s ends below c.args.self.now ((answers c).0 yes)

pub returns-in_err-residue-clause-above : goal.returns-in_err-residue-clause-above
returns-in_err-residue-clause-above c =
    alternatives_within c.args.self.now c.self.inside.line c.self.inside.numbered c.self.view_is
    (chars c.folder_candidate.result.path.now) c.args.path.now c.args.meter.now c.residue_once.new.meter
    c.self.invariant.lines c.folder_candidate.ensures.text c.residue_once.ensures.above

pub returns-clause-above : goal.returns-clause-above
returns-clause-above c =
    alternatives_within c.args.self.now c.self.inside.line c.self.inside.numbered c.self.view_is
    (chars c.folder_candidate.result.path.now) c.args.path.now c.args.meter.now c.residue_once.new.meter
    c.self.invariant.lines c.folder_candidate.ensures.text c.residue_once.ensures.above
