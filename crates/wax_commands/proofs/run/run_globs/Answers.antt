use Rattle.std.proofs.Common.{◌≡◌, ◌∙◌, List, [], ◌∷◌, ℕ, Option, Some, None, subst, sym}
use Rattle.std.specs.Prelude.{String}
use Rattle.wax_command_line.specs.{Commands.{Asks, SaysWalk, WalkRequest}, WalkArguments.IsRead}
use Rattle.wax_commands.specs.{LineCommands.{LinesEnd, match_command, captures_of}, Queried.QueryEnds}
use Rattle.wax_commands.specs.Streams.{stream_of, writers}
use Rattle.wax_command_line.proofs.OptionWords.{same_walk}
use Rattle.wax_commands.proofs.run.run_globs.Goals as goal

-- the words ask for one expression at most
one_expression : {A : Type 0} (name : List ℕ) (words : List (Option (String A))) (d e : List ℕ)
    → Asks name words d → Asks name words e → d ≡ e
one_expression name [] d e h k = absurd h
one_expression name (None ∷ words) d e h k = absurd h
one_expression name (Some command ∷ []) d e h k = absurd h
one_expression name (Some command ∷ None ∷ words) d e h k = absurd h
one_expression name (Some command ∷ Some word ∷ []) d e h k = h.1 ∙ sym k.1
one_expression name (Some command ∷ Some word ∷ more ∷ words) d e h k = absurd h

-- words that ask for one expression ask for no walk
no_walk : {A : Type 0} (name : List ℕ) (words : List (Option (String A))) (e : List ℕ) (asked : WalkRequest)
    → Asks name words e → SaysWalk words asked → ⊥
no_walk name [] e asked h k = h
no_walk name (None ∷ words) e asked h k = h
no_walk name (Some command ∷ []) e asked h k = h
no_walk name (Some command ∷ None ∷ words) e asked h k = h
no_walk name (Some command ∷ Some word ∷ []) e asked h k = k
no_walk name (Some command ∷ Some word ∷ more ∷ words) e asked h k = h

pub returns-in-Some-clause-matches : goal.returns-in-Some-clause-matches
returns-in-Some-clause-matches g c e asks =
    let left = g.R.Read.remaining in
    let held = g.W.Write.contents in
    let told = g.F.Write.contents in
    let old = writers (stream_of held c.args.output.now) (stream_of told c.args.faults.now) in
    let new = writers (stream_of held c.run_lines.new.output) (stream_of told c.run_lines.new.faults) in
    subst (λ z. LinesEnd (match_command z) (stream_of left c.args.input.now)
    (stream_of left c.run_lines.new.input) old new c.run_lines.result) (one_expression _
    c.args.words.now c.in-Some.expression.now e c.in-Some.ensures.some asks) c.run_lines.ensures.ends

pub returns-in-Some-expression_after-clause-captures : goal.returns-in-Some-expression_after-clause-captures
returns-in-Some-expression_after-clause-captures g c e asks =
    let left = g.R.Read.remaining in
    let held = g.W.Write.contents in
    let told = g.F.Write.contents in
    let run = c.run_lines-in-Some-expression_after in
    let old = writers (stream_of held c.args.output.now) (stream_of told c.args.faults.now) in
    let new = writers (stream_of held run.new.output) (stream_of told run.new.faults) in
    subst (λ z. LinesEnd (captures_of z) (stream_of left c.args.input.now)
    (stream_of left run.new.input) old new run.result) (one_expression _
    c.args.words.now c.in-Some-expression_after.expression.now e
    c.in-Some-expression_after.ensures.some asks) run.ensures.ends

pub returns-in-Some-expression_after-2-clause-query : goal.returns-in-Some-expression_after-2-clause-query
returns-in-Some-expression_after-2-clause-query g c e asks =
    let held = g.W.Write.contents in
    let told = g.F.Write.contents in
    let old = writers (stream_of held c.args.output.now) (stream_of told c.args.faults.now) in
    let new = writers (stream_of held c.run_query.new.output) (stream_of told c.run_query.new.faults) in
    subst (λ z. QueryEnds z old new c.run_query.result)
    (one_expression _ c.args.words.now c.in-Some-expression_after-2.expression.now e
    c.in-Some-expression_after-2.ensures.some asks) c.run_query.ensures.ends

pub returns-in-Some-expression_after-2-clause-walk : goal.returns-in-Some-expression_after-2-clause-walk
returns-in-Some-expression_after-2-clause-walk g c asked asks =
    absurd (no_walk _ c.args.words.now c.in-Some-expression_after-2.expression.now asked
    c.in-Some-expression_after-2.ensures.some asks.says)

pub returns-in-Some-read_walk-clause-walk : goal.returns-in-Some-read_walk-clause-walk
returns-in-Some-read_walk-clause-walk g c asked asks =
    let read = c.in-Some-read_walk.ensures.some in
    c.run_walk.ensures.ends asked
    (subst (IsRead c.in-Some-read_walk.walk) (same_walk c.args.words.now read.0 asked read.1 asks) read.2)
