use Rattle.std.proofs.Common.{◌≡◌, ◌∙◌, ◌||◌, ◌∷◌, Bool, List, ℕ, [], ap, sym, chars, true, false}
use Rattle.std.proofs.{lemmas.List.nil_from_length, lemmas.Str.{IsUtf8-past_char, chars-nil, chars_past_char}}
use Rattle.std.specs.{List.list_any, Str.Iter.chars_rest}
use Rattle.wax_token.specs.Reads.{escapable, is_one_of}
use Rattle.wax_parse.proofs.meta.has_meta_character.Goals as goal

abbrev has_meta : List ℕ → Bool
has_meta s = list_any (is_one_of escapable) s

-- after the first character c, of which b is known
past : (c : ℕ) (r s t : List ℕ) (b : Bool) → r ≡ c ∷ s → is_one_of escapable c ≡ b → has_meta r ≡ has_meta t →
    (b || has_meta s) ≡ has_meta t
past c r s t b e f h = sym (ap (λ z. z || has_meta s) f) ∙ sym (ap has_meta e) ∙ h

pub returns-then-is_meta_character : goal.returns-then-is_meta_character
returns-then-is_meta_character c =
    let left = chars (chars_rest c.loop-character.character-iterator) in
    let held = c.loop-character.invariant in
    let step = chars_past_char _ _ c.in-Some.character held.0 c.in-Some.ensures.steps.0 in
    let found = sym c.is_meta_character.ensures ∙ c.if-is_meta_character.true in
    past _ left (chars (chars_rest c.next.new.self)) (chars c.args.text.now) true step found held.1

pub loop-character-preserved : goal.loop-character-preserved
loop-character-preserved c =
    let left = chars (chars_rest c.loop-character.character-iterator) in
    let held = c.loop-character.invariant in
    let parts = c.in-Some.ensures.steps.0 in
    let step = chars_past_char _ _ c.in-Some.character held.0 parts in
    let other = sym c.is_meta_character.ensures ∙ c.if-is_meta_character.false in (
      IsUtf8-past_char _ _ c.in-Some.character held.0 parts,
      past _ left (chars (chars_rest c.next.new.self)) (chars c.args.text.now) false step other held.1,
    )

pub returns : goal.returns
returns c =
    let end : chars (chars_rest c.loop-character.character-iterator) ≡ [] =
    ap chars (nil_from_length _ c.in-None.ensures.steps.0.0) ∙ chars-nil in
    sym (ap has_meta end) ∙ c.loop-character.invariant.1
