use Rattle.std.proofs.{Common.{sym, subst, ◌++◌, rules, ◌≡◌, [], ◌∷◌}, lemmas.List.append-nil}
use Rattle.wax_command_line.specs.{Commands.SayEach, WalkArguments.asked_by}
use Rattle.wax_command_line.proofs.OptionWords.{begins_more, doubled_by, none_holds, said_more, says_none}
use Rattle.wax_command_line.proofs.walk_words.read_options.Goals as goal

pub returns-in_err-bounds-clause-none : goal.returns-in_err-bounds-clause-none
returns-in_err-bounds-clause-none c =
    let so_far = c.loop-option.invariant in
    none_holds _ (doubled_by c.args.words.now c.loop-option.rest.now c.in-Some.after.now c.loop-option.bounds
    so_far.0 (asked_by c.in-Some.option) so_far.1 so_far.2 c.in-Some.ensures.some
    c.in_err-bounds.ensures.none)

pub loop-option-preserved : goal.loop-option-preserved
loop-option-preserved c =
    let so_far = c.loop-option.invariant in
    let o = asked_by c.in-Some.option in (
      so_far.0 ++ o ∷ [],
      begins_more c.args.words.now c.loop-option.rest.now c.in-Some.after.now so_far.0 o so_far.1
          c.in-Some.ensures.some,
      said_more _ _ so_far.0 o so_far.2 c.in_ok-bounds.ensures.some,
    )

pub returns-then-is_empty-clause-some : goal.returns-then-is_empty-clause-some
returns-then-is_empty-clause-some c =
    let so_far = c.loop-option.invariant in
    let empty : c.loop-option.rest.now ≡ [] = search rules in (
      so_far.0,
      subst (SayEach c.args.words.now) (append-nil so_far.0)
          (so_far.1.whole [] (subst (λ ws. SayEach ws []) (sym empty) tt)),
      so_far.2,
    )

pub returns-else-is_empty-clause-none : goal.returns-else-is_empty-clause-none
returns-else-is_empty-clause-none c = λ options h.
    let parts = c.loop-option.invariant.1.parts options h in
    let none : c.loop-option.rest.now ≡ [] =
    says_none c.loop-option.rest.now parts.0 c.in_default.ensures.none parts.1 in
    absurd (search (rules, none))
