use Rattle.std.proofs.Common.{◌<◌, arith, length, subst}
use Rattle.wax_compare.specs.{Comparison.{IsAnswer, IsWanted}, Limit.KeepsLimit}
use Rattle.wax_compare.specs.declared.wanted.Comparison.TheVariants.{Nothing, Text}
use Rattle.wax_compare.specs.declared.wanted.Texts.TheVariants.{Paths}
use Rattle.wax_compare.specs.declared.wanted.Wanted.TheVariants.{Both}
use Rattle.wax_program.specs.Machine.{Accepts}
use Rattle.wax_set.proofs.Conflicts.{decided_by_limit, decided_by_text, excluded, pattern_at, shared_answer}
use Rattle.wax_set.proofs.set.conflicts.ComparedPatterns.conflict.Goals as goal

pub returns-then-exclude : goal.returns-then-exclude
returns-then-exclude c =
    let ts = c.args.self.now.branches.now in
    let most = c.args.self.now.most_states in
    let compiled = c.args.self.now.compiled.items in
    let i = c.args.first in
    let j = c.args.second in
    let one = c.index-one.result.now in
    let other = c.index-other.result.now in
    let before : i < length ts = omega (arith, c.requires.ordered, c.requires.within) in
    let first = pattern_at ts compiled i one c.requires.compiled before c.index-one.ensures in
    let second = pattern_at ts compiled j other c.requires.compiled c.requires.within c.index-other.ensures in
    excluded ts most i j one other first second (c.exclude.ensures c.if-exclude.true)

pub returns-in-Nothing : goal.returns-in-Nothing
returns-in-Nothing c =
    let ts = c.args.self.now.branches.now in
    let most = c.args.self.now.most_states in
    let compiled = c.args.self.now.compiled.items in
    let i = c.args.first in
    let j = c.args.second in
    let one = c.index-one.result.now in
    let other = c.index-other.result.now in
    let before : i < length ts = omega (arith, c.requires.ordered, c.requires.within) in
    let first = pattern_at ts compiled i one c.requires.compiled before c.index-one.ensures in
    let second = pattern_at ts compiled j other c.requires.compiled c.requires.within c.index-other.ensures in
    let Answers = IsAnswer (IsWanted Both Paths (Accepts one.program.0 0) (Accepts other.program.0 0)) in
    let answer : Answers Nothing = subst Answers c.in-Nothing.is c.in_ok-found.ensures.answer in
    shared_answer ts most i j one other first second Nothing answer

pub returns-in-Text : goal.returns-in-Text
returns-in-Text c =
    let ts = c.args.self.now.branches.now in
    let most = c.args.self.now.most_states in
    let compiled = c.args.self.now.compiled.items in
    let i = c.args.first in
    let j = c.args.second in
    let one = c.index-one.result.now in
    let other = c.index-other.result.now in
    let before : i < length ts = omega (arith, c.requires.ordered, c.requires.within) in
    let first = pattern_at ts compiled i one c.requires.compiled before c.index-one.ensures in
    let second = pattern_at ts compiled j other c.requires.compiled c.requires.within c.index-other.ensures in
    let Answers = IsAnswer (IsWanted Both Paths (Accepts one.program.0 0) (Accepts other.program.0 0)) in
    let answer : Answers (Text c.in-Text.path) =
    subst Answers c.in-Text.is c.in_ok-found.ensures.answer in
    decided_by_text ts most i j one other first second c.requires.ordered c.requires.within c.in-Text.path
    (shared_answer ts most i j one other first second (Text c.in-Text.path) answer)

pub returns-in-Unknown : goal.returns-in-Unknown
returns-in-Unknown c =
    let ts = c.args.self.now.branches.now in
    let most = c.args.self.now.most_states in
    let compiled = c.args.self.now.compiled.items in
    let i = c.args.first in
    let j = c.args.second in
    let one = c.index-one.result.now in
    let other = c.index-other.result.now in
    let before : i < length ts = omega (arith, c.requires.ordered, c.requires.within) in
    let first = pattern_at ts compiled i one c.requires.compiled before c.index-one.ensures in
    let second = pattern_at ts compiled j other c.requires.compiled c.requires.within c.index-other.ensures in
    decided_by_limit ts most i j one other first second c.requires.ordered c.requires.within
    (subst (KeepsLimit one.program.0 other.program.0 Both Paths most) c.in-Unknown.is
    c.in_ok-found.ensures.limit)
