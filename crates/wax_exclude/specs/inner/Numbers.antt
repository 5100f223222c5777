-- Numbers of lines: the greatest number of an alternative that matches decides what a list does.
use Rattle.std.specs.Prelude.{◌≡◌, ◌↔◌, ◌⊎◌, ℕ, suc, ◌%◌, ◌==◌, ◌<◌, ◌≤◌, Bool, true, false, ◌&&◌, ◌||◌, All}
use Rattle.std.specs.Prelude.{if◌then◌else◌, List, [], ◌∷◌, ◌++◌, Option, Some, None, drop, length, ◌+◌}
use Rattle.std.specs.Prelude.{nat_le, sum_by}
use Rattle.wax_prefilter.specs.{Facts.PrefilterView, Known.MatchesPass, Literals.{LiteralsView, MayPass}}
use Rattle.wax_program.specs.{Closed.IsClosed, Machine.{Accepts, mark}}
use Rattle.wax_token.specs.{Cost.cost, Meaning.Means, Reads.Span, Syntax.Tree, Words.members}
use Rattle.wax_walk.specs.Given.{Mark, kept, alone, with_tree}
use Rattle.wax_exclude.specs.Covers.{ends_wild, some_everything}
use Rattle.wax_exclude.specs.declared.numbers.NumberedLines.{NumberedLines}
use Rattle.wax_exclude.specs.{declared.split.SplitLine.SplitLine, Ignored.Line, inner.Listed.none_reincludes}
use Rattle.wax_exclude.specs.inner.Split.{split_of}

-- ---- numbers

-- whether lines with this number ignore
abbrev pub is_odd : ℕ → Bool
is_odd n = n % 2 == 1

-- the number of a line after one with the number n: the same if both do the same, or else the next one
abbrev pub number_after : ℕ → Bool → ℕ
number_after n true = if is_odd n then n else suc n
number_after n false = if is_odd n then suc n else n

-- an alternative with the number k matches the text: those that end with `**` have the number `above`, and
-- others the number `own`
abbrev pub MatchesBy : ℕ → ℕ → List (Tree Span) → ℕ → List ℕ → Type 0
MatchesBy own above [] k s = ⊥
MatchesBy own above (t ∷ ts) k s =
    ((k ≡ (if ends_wild (members t) then above else own)) × Means t false false s)
    ⊎ MatchesBy own above ts k s

-- the number of what a line's alternatives cover: `top` if no line after it re-includes
abbrev pub covering_number : ℕ → ℕ → List SplitLine → ℕ
covering_number top own lines = if none_reincludes lines then top else own

-- an alternative with the number k matches the text, if the line before these has the number n
abbrev pub HasMatch : ℕ → ℕ → List SplitLine → ℕ → List ℕ → Type 0
HasMatch top n [] k s = ⊥
HasMatch top n (line ∷ lines) k s =
    MatchesBy (number_after n line.ignores) (covering_number top (number_after n line.ignores) (line ∷ lines))
    line.alternatives k s ⊎ HasMatch top (number_after n line.ignores) lines k s

-- a line that ignores, and after which none re-includes, has an alternative that is only an unrooted `**`
abbrev pub covers_everything : List SplitLine → Bool
covers_everything [] = false
covers_everything (line ∷ lines) =
    (none_reincludes (line ∷ lines) && some_everything line.alternatives) || covers_everything lines

-- none of the lines from this index on re-includes, and the line before it does
pub record IsSettledFrom (lines : List SplitLine) (settled : ℕ) : Type 0 where
  pub within : settled ≤ length lines
  pub marks : (i : ℕ) → none_reincludes (drop i lines) ≡ nat_le settled i

-- ---- how long their program is
-- what the alternatives of a line cost, and 2 more for each
abbrev pub alternatives_cost : List (Tree Span) → ℕ
alternatives_cost ts = sum_by (λ t. cost t + 2) ts

abbrev pub split_length : List SplitLine → ℕ
split_length lines = sum_by (λ line. alternatives_cost line.alternatives) lines + 1

-- ---- what they decide

-- each text that one of the alternatives matches passes
abbrev pub AlternativesPass : List (Tree Span) → LiteralsView → Type 0
AlternativesPass alternatives literals =
    All (λ t. (s : List ℕ) → Means t false false s → MayPass literals s) alternatives

-- each text that a line matches passes
abbrev pub LinesPass : List SplitLine → LiteralsView → Type 0
LinesPass lines literals = All (λ line. AlternativesPass line.alternatives literals) lines

-- the program accepts each text with the numbers of the alternatives that match it; `top` is odd and above
-- all others
pub record KnowsLines (lines : List SplitLine) (numbered : NumberedLines) : Type 0 where
  pub above : length lines < numbered.top
  pub odd : is_odd numbered.top ≡ true
  pub all : numbered.covers_all ≡ covers_everything lines
  pub closed : IsClosed numbered.matcher
  pub literals : LinesPass lines numbered.literals
  pub fits : length numbered.matcher ≤ split_length lines
  pub means : (k : ℕ) (s : List ℕ)
      → Accepts numbered.matcher 0 (s ++ mark k ∷ []) ↔ HasMatch numbered.top 0 lines k s

-- the only line ignores; its program is known, and each text that its glob matches passes
pub record KnowsPattern (line : Line Span) (numbered : NumberedLines) (prefilter : PrefilterView) : Type 0
  where
    pub ignores : line.ignores ≡ true
    pub lines : KnowsLines (split_of line ∷ []) numbered
    pub passes : MatchesPass (members line.glob) prefilter

-- the mark of an entry, with a name or not, by the greatest number that matches it
abbrev pub numbered_mark : Bool → ℕ → Bool → Option ℕ → Mark
numbered_mark true top named last = with_tree
numbered_mark false top named None = kept
numbered_mark false top named (Some k) =
    if k == top then (if named then with_tree else alone) else (if is_odd k then alone else kept)
