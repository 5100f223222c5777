-- What calls write of a text.
use Rattle.std.specs.Prelude.{◌≡◌, ◌↔◌, ℕ, List, [], false, Err, chars}
use Rattle.wax.specs.{GlobView.GlobView, Headline.{IsGlob, MatchGlob}}
use Rattle.wax.specs.Language.{BuildError, HasNoBackslash, Means, Memory, Reads, Span, Tree, all_spelled}
use Rattle.wax.specs.Language.{error_labels, escapable, picture}

-- The bytes of an expression that matches only this text.
pub record IsEscaped (text out : List ℕ) : Type 0 where
  -- a backslash is before each character that needs one
  pub exactly : chars out ≡ all_spelled escapable text
  pub only : (t : Tree Span) → Reads (chars out) t → (path : List ℕ)
      → Means t false false path ↔ (path ≡ text)
  -- it is an expression exactly if the text has no backslash
  pub spells : ((t : Tree Span) × Reads (chars out) t) ↔ HasNoBackslash text

-- The bytes of the picture of why the expression isn't built; none if it is.
pub data IsPicture (expression out : List ℕ) : Type 0 where
  built : (g : GlobView) → IsGlob expression g → out ≡ [] → IsPicture expression out
  not_built : (error : BuildError) → MatchGlob expression (Err error) → ¬ (error ≡ Memory)
      → out ≡ picture expression (error_labels error) → IsPicture expression out
