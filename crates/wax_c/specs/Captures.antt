-- How calls that capture end.
use Rattle.std.specs.Prelude.{◌≡◌, ◌<◌, ◌≤◌, ◌⊎◌, ℕ, ℤ, pos, neg_ℤ, Bool, true, false, Result, Ok, Err, List}
use Rattle.std.specs.{Prelude.{length, map, IsUtf8, chars, encode_utf8_all}, List.flat_map}
use Rattle.wax.specs.{GlobView.{GlobView, HasCaptures, IsMeant}, Language.Memory, Queries.captures}
use Rattle.wax_c.specs.{Numbers.answer_number, Outcomes.HoldsFirst, declared.error.CallError.CallError}
use Rattle.wax_c.specs.declared.error.CallError.TheVariants.{Build, NotText, NoRoom}

-- Texts one after another, and how many bytes each has.
pub record Texts : Type 0 where
  pub bytes : List ℕ
  pub lengths : List ℕ

-- the texts of these captures, each as its characters
abbrev pub texts_of : List (List ℕ) → Texts
texts_of captures = record {
  bytes = flat_map encode_utf8_all captures;
  lengths = map (λ capture. length (encode_utf8_all capture)) captures;
}

abbrev pub HoldsTexts : Texts → Texts → Texts → Type 0
HoldsTexts texts before after =
    HoldsFirst texts.bytes before.bytes after.bytes × HoldsFirst texts.lengths before.lengths after.lengths

-- there are more bytes or more lengths than fit
abbrev pub LacksRoom : Texts → Texts → Type 0
LacksRoom texts room =
    (length room.bytes < length texts.bytes) ⊎ (length room.lengths < length texts.lengths)

-- the glob matches the path of these bytes, with these captures
abbrev pub MatchesWith : GlobView → List ℕ → List (List ℕ) → Type 0
MatchesWith g path captures = IsUtf8 path × IsMeant g (chars path) × HasCaptures g (chars path) captures

-- The outputs have the captures of a path that the glob matches, and the count is their number; or they are
-- as before.
abbrev pub Captures : GlobView → List ℕ → Texts → Texts → ℕ → Result Bool CallError → Type 0
Captures g path before after count (Ok true) =
    (captures : List (List ℕ)) × MatchesWith g path captures
    × HoldsTexts (texts_of captures) before after × (count ≡ length captures)
Captures g path before after count (Ok false) =
    IsUtf8 path × (IsMeant g (chars path) → ⊥) × (after ≡ before) × (count ≡ 0)
Captures g path before after count (Err NoRoom) =
    (captures : List (List ℕ)) × MatchesWith g path captures
    × LacksRoom (texts_of captures) before × (after ≡ before) × (count ≡ length captures)
Captures g path before after count (Err NotText) = (IsUtf8 path → ⊥) × (after ≡ before) × (count ≡ 0)
Captures g path before after count (Err (Build error)) = (error ≡ Memory) × (after ≡ before) × (count ≡ 0)

-- The number is that of such an outcome. As many bytes as the path has are enough for the texts: if there are
-- no more captures than lengths, the outputs aren't too small. As many lengths as the glob has tokens that
-- capture are enough.
abbrev pub CapturesAs : GlobView → List ℕ → Texts → Texts → ℕ → ℤ → Type 0
CapturesAs g path before after count number =
    (outcome : Result Bool CallError) × Captures g path before after count outcome
    × (number ≡ answer_number outcome)
    × (length path ≤ length before.bytes → count ≤ length before.lengths → number ≡ neg_ℤ (pos 21) → ⊥)
    × (length path ≤ length before.bytes → length (captures g.tree) ≤ length before.lengths
    → number ≡ neg_ℤ (pos 21) → ⊥)
