use Rattle.std.proofs.Common.{◌≡◌, ◌∙◌, ◌↔◌, IsTrue, chars, map, subst}
use Rattle.wax_walk.specs.{Candidates.in_characters, Said.mark_of}
use Rattle.wax_exclude.proofs.{Covered.{answers_lines, answers_mark, ignores_text}, ListLengths.lines_within}
use Rattle.wax_exclude.proofs.ListingLines.{split_mark}
use Rattle.wax_exclude.specs.{Candidates.folder_at, Ignored.{IgnoresBelow, ignore_mark}}
use Rattle.wax_exclude.specs.{inner.Numbers.KnowsLines, inner.Split.split_of}
use Rattle.wax_exclude.proofs.rules.IgnoreRule.ignores_below_metered.Goals as goal

marked : (c : goal.After-is_tree)
    → mark_of c.in_ok-residue.residue ≡ ignore_mark c.args.self.now (in_characters c.folder_candidate.result)
marked c =
    let lines = c.args.self.now in
    let knows = subst (λ ls. KnowsLines (map split_of ls) c.self.inside.numbered) c.self.view_is
    c.self.invariant in
    c.in_ok-residue.ensures.says (map split_of lines) knows
    ∙ split_mark lines (in_characters c.folder_candidate.result)

covered : (c : goal.After-is_tree)
    → IsTrue c.is_tree.result ↔ IgnoresBelow c.args.self.now (folder_at c.args.path.now)
covered c =
    let folder = c.folder_candidate in
    answers_lines c.is_tree.result (mark_of c.in_ok-residue.residue) c.is_tree.ensures
    (in_characters folder.result) (folder_at c.args.path.now) folder.ensures.text folder.ensures.named
    c.args.self.now (marked c)

pub returns-clause-says : goal.returns-clause-says
returns-clause-says c =
    let folder = c.folder_candidate in
    answers_mark c.is_tree.result (mark_of c.in_ok-residue.residue) c.is_tree.ensures
    (in_characters folder.result) (folder_at c.args.path.now) folder.ensures.text folder.ensures.named
    c.args.self.now (marked c)

pub returns-clause-covers : goal.returns-clause-covers
returns-clause-covers c = covered c

pub returns-clause-below : goal.returns-clause-below
returns-clause-below c = λ ends yes s below.
    ignores_text c.args.path.now s ends below c.args.self.now ((covered c).0 yes)

pub residue_once-requires : goal.residue_once-requires
residue_once-requires c = c.self.invariant.closed

pub returns-in_err-residue-clause-above : goal.returns-in_err-residue-clause-above
returns-in_err-residue-clause-above c =
    let knows = subst (λ ls. KnowsLines (map split_of ls) c.self.inside.numbered) c.self.view_is
    c.self.invariant in
    lines_within c.args.self.now c.self.inside.numbered (chars c.folder_candidate.result.path.now)
    c.args.path.now c.args.meter.now c.residue_once.new.meter knows c.folder_candidate.ensures.text
    c.residue_once.ensures.above

pub returns-clause-above : goal.returns-clause-above
returns-clause-above c =
    let knows = subst (λ ls. KnowsLines (map split_of ls) c.self.inside.numbered) c.self.view_is
    c.self.invariant in
    lines_within c.args.self.now c.self.inside.numbered (chars c.folder_candidate.result.path.now)
    c.args.path.now c.args.meter.now c.residue_once.new.meter knows c.folder_candidate.ensures.text
    c.residue_once.ensures.above
