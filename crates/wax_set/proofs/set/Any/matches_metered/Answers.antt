use Rattle.std.proofs.Common.{◌≡◌, ◌<◌, ◌≤◌, ◌+◌, ◌∙◌, ℕ, List, ap, arith, chars, length, subst, sym}
use Rattle.std.proofs.Common.{true≢false}
use Rattle.wax_exclude.proofs.ListLengths.{list_within}
use Rattle.wax_lazy.specs.{Cost.{list_visits, path_visits}, Numbers.AreNumbers}
use Rattle.wax_program.specs.declared.instruction.Instruction.{Instruction}
use Rattle.wax_token.specs.{Cost.program_length, Reads.Span, Syntax.Tree}
use Rattle.wax_set.specs.Sets.{IsNumbered}
use Rattle.wax_set.proofs.Numbers.{are_matches, no_matches}
use Rattle.wax_set.proofs.set.Any.matches_metered.Goals.{else-may_match}
use Rattle.wax_set.proofs.set.Any.matches_metered.Goals.{then-may_match+in_ok-list_numbers_metered}
use Rattle.wax_set.proofs.set.Any.matches_metered.Goals as goal

-- the visits of the program, which is shorter than that of the set
once_within : (t : Tree Span) (code held : List Instruction) → length code < program_length t → held ≡ code
    → (path text : List ℕ) → text ≡ path → (old new : ℕ) → new ≤ old + list_visits held (length text)
    → new ≤ old + path_visits (program_length t) (length path) + program_length t
once_within t code held shorter is path text same old new h =
    subst (λ n. new ≤ old + path_visits (program_length t) n + program_length t) (ap length same)
    (list_within code (program_length t) shorter (length text) old new
    (subst (λ z. new ≤ old + list_visits z (length text)) is h))

pub returns-clause-matches : goal.returns-clause-matches
returns-clause-matches c =
    let numbers = subst (λ t. IsNumbered t c.self.inside.numbered) c.self.view_is c.self.invariant.numbers in
    elim c.if-may_match.branch [
      | then-may_match+in_ok-list_numbers_metered w ↦
          let code = w.holder.result.now.0 in
          rw w.indexes-is
          (are_matches c.args.self.now code c.args.path.now w.list_numbers_metered.new.numbers.items
          (subst (IsNumbered c.args.self.now) (sym w.holder.ensures) numbers)
          (subst (λ s. AreNumbers code s w.list_numbers_metered.new.numbers.items) w.as_str.ensures
          w.in_ok-list_numbers_metered.ensures.numbers))
      | else-may_match w ↦
          rw w.indexes-is
          (no_matches c.args.self.now c.args.path.now c.new-indexes.result.items c.new-indexes.ensures.items
          (λ m. true≢false (sym (c.may_match.ensures m) ∙ w.if-may_match.false)))
    ]

pub returns-clause-above : goal.returns-clause-above
returns-clause-above c =
    let numbers = subst (λ t. IsNumbered t c.self.inside.numbered) c.self.view_is c.self.invariant.numbers in
    elim c.if-may_match.branch [
      | then-may_match+in_ok-list_numbers_metered w ↦
          rw w.meter-is
          (once_within c.args.self.now c.self.inside.numbered w.holder.result.now.0 numbers.shorter
          w.holder.ensures c.args.path.now (chars w.as_str.result.now) w.as_str.ensures c.args.meter.now
          w.list_numbers_metered.new.meter w.list_numbers_metered.ensures.above)
      | else-may_match w ↦ rw w.meter-is (omega arith)
    ]

pub returns-in_err-list_numbers_metered-clause-above : goal.returns-in_err-list_numbers_metered-clause-above
returns-in_err-list_numbers_metered-clause-above c =
    let numbers = subst (λ t. IsNumbered t c.self.inside.numbered) c.self.view_is c.self.invariant.numbers in
    once_within c.args.self.now c.self.inside.numbered c.holder.result.now.0 numbers.shorter
    c.holder.ensures c.args.path.now (chars c.as_str.result.now) c.as_str.ensures c.args.meter.now
    c.list_numbers_metered.new.meter c.list_numbers_metered.ensures.above
