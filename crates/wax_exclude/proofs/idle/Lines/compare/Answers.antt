use Rattle.std.proofs.Common.{◌↔◌, ◌∷◌, [], ℕ, List, subst}
use Rattle.std.specs.Prelude.{MatchOption}
use Rattle.wax_compare.proofs.Answering.{answer_as}
use Rattle.wax_compare.specs.{Limit.KeepsLimit, declared.wanted.Texts.TheVariants.Paths}
use Rattle.wax_exclude.proofs.{IdleLines.only_one, Undecided.{line_too_large, others_too_large, past_limit}}
use Rattle.wax_exclude.proofs.idle.Lines.compare.Goals.{In-Some, In-Some-2}
use Rattle.wax_exclude.specs.{Idle.LineMeans, Undecided.{AreTooLarge, SomeLineMeans}}
use Rattle.wax_program.specs.Machine.{Accepts}
use Rattle.wax_exclude.proofs.idle.Lines.compare.Goals as goal

-- the first program accepts what the line means
one_line : (c : In-Some) → (s : List ℕ)
    → Accepts c.in-Some.first.0 0 s ↔ SomeLineMeans c.args.self.now.lines.now (c.args.index ∷ []) s
one_line c =
    let lines = c.args.self.now.lines.now in
    let indexes = c.args.index ∷ [] in
    subst (λ k. MatchOption k (AreTooLarge lines indexes)
    (λ p. (s : List ℕ) → Accepts p.0 0 s ↔ SomeLineMeans lines indexes s))
    c.in-Some.is c.in_ok-first.ensures

-- the second one accepts what the others mean
some_lines : (c : In-Some-2) → (s : List ℕ)
    → Accepts c.in-Some-2.second.0 0 s ↔ SomeLineMeans c.args.self.now.lines.now c.args.others.now s
some_lines c =
    let lines = c.args.self.now.lines.now in
    let indexes = c.args.others.now in
    subst (λ k. MatchOption k (AreTooLarge lines indexes)
    (λ p. (s : List ℕ) → Accepts p.0 0 s ↔ SomeLineMeans lines indexes s))
    c.in-Some-2.is c.in_ok-second.ensures

pub returns-clause-answer : goal.returns-clause-answer
returns-clause-answer c =
    let places = goal.at.returns-clause-answer c in
    let lines = c.args.self.now.lines.now in
    let index = c.args.index in
    let one = one_line places.In-Some in
    answer_as Paths (Accepts c.in-Some.first.0 0) (Accepts c.in-Some-2.second.0 0)
    (LineMeans lines index) (SomeLineMeans lines c.args.others.now)
    (λ s. ((λ h. (only_one lines index s).0 ((one s).0 h)), (λ m. (one s).1 ((only_one lines index s).1 m))))
    (some_lines places.In-Some-2)
    c.args.wanted c.in_ok-found.found c.in_ok-found.ensures.answer

pub returns-clause-undecided : goal.returns-clause-undecided
returns-clause-undecided c =
    let places = goal.at.returns-clause-undecided c in
    let first = c.in-Some.first.0 in
    let second = c.in-Some-2.second.0 in
    let most = c.args.self.now.most_states in
    λ unknown. past_limit c.args.self.now.lines.now most c.args.index c.args.others.now
    c.requires.within c.requires.differ c.args.wanted first second
    (one_line places.In-Some) (some_lines places.In-Some-2)
    (subst (KeepsLimit first second c.args.wanted Paths most) unknown c.in_ok-found.ensures.limit)

pub returns-in_default-clause-undecided : goal.returns-in_default-clause-undecided
returns-in_default-clause-undecided c =
    let lines = c.args.self.now.lines.now in
    let indexes = c.args.index ∷ [] in
    λ e. line_too_large lines c.args.self.now.most_states c.args.index c.args.others.now
    c.requires.within c.requires.differ
    (subst (λ k. MatchOption k (AreTooLarge lines indexes)
    (λ p. (s : List ℕ) → Accepts p.0 0 s ↔ SomeLineMeans lines indexes s))
    c.in_default.is c.in_ok-first.ensures)

pub returns-in_default-2-clause-undecided : goal.returns-in_default-2-clause-undecided
returns-in_default-2-clause-undecided c =
    let lines = c.args.self.now.lines.now in
    let indexes = c.args.others.now in
    λ e. others_too_large lines c.args.self.now.most_states c.args.index indexes
    c.requires.within c.requires.differ
    (subst (λ k. MatchOption k (AreTooLarge lines indexes)
    (λ p. (s : List ℕ) → Accepts p.0 0 s ↔ SomeLineMeans lines indexes s))
    c.in_default-2.is c.in_ok-second.ensures)
