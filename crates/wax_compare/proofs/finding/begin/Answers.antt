use Rattle.std.proofs.Common.{[], ◌∷◌, ◌++◌, ◌≡◌, ◌∙◌, chars, length, string_bytes, true≢false, refl, sym, ap}
use Rattle.std.proofs.{Common.{arith, subst}, lemmas.Str.chars-nil}
use Rattle.wax_compare.specs.{declared.pairs.StatePair.StatePair, declared.pairs.Reached.Reached}
use Rattle.wax_compare.specs.inner.Visiting.{IsHeld}
use Rattle.wax_compare.proofs.Beginning.{held_begin, wanted_empty}
use Rattle.wax_compare.proofs.finding.begin.Goals as goal

pub returns-then-is_wanted-clause-answer : goal.returns-then-is_wanted-clause-answer
returns-then-is_wanted-clause-answer c =
    let p : StatePair = record { first = 0; second = 0; may_end = c.begins_all.result } in
    wanted_empty c.args.first.now.0 c.args.second.now.0 c.args.search.now p
    (chars (string_bytes c.new.result)) (ap chars c.new.ensures.bytes ∙ chars-nil) c.requires.begin refl
    refl c.begins_all.ensures (c.is_wanted.ensures.0 c.if-is_wanted.true)

pub returns-then-is_wanted-clause-limit : goal.returns-then-is_wanted-clause-limit
returns-then-is_wanted-clause-limit c =
    omega (arith, ap length (ap chars c.new.ensures.bytes ∙ chars-nil))

pub run-requires-clause-held : goal.run-requires-clause-held
run-requires-clause-held c =
    let p : StatePair = record { first = 0; second = 0; may_end = c.begins_all.result } in
    let x : Reached = record { pair = p; before = 0; letter = 47; depth = 0 } in
    let pushed : c.push.new.self.reached.items ≡ x ∷ [] =
    c.in_ok-push.ensures.items ∙ ap (λ z. z ++ x ∷ []) c.new-pairs.ensures.empty in
    subst (λ z. IsHeld c.args.first.now.0 c.args.second.now.0 c.args.search.now z 0) (sym pushed)
    (held_begin c.args.first.now.0 c.args.second.now.0 c.args.search.now x c.requires.automata
    c.requires.letters c.requires.unlike c.requires.begin refl refl c.begins_all.ensures refl
    (λ h. true≢false (sym (c.is_wanted.ensures.1 h) ∙ c.if-is_wanted.false)))
