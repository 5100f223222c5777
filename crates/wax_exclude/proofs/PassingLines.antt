-- The literals of lines.
use Rattle.std.proofs.Common.{◌≡◌, ℕ, ◌<◌, ◌+◌, false, List, [], ◌∷◌, inl, inr, get_or, length, subst, take}
use Rattle.std.proofs.lemmas.List.Elements.{All-head, All-more, All-tail, All-weaker}
use Rattle.wax_prefilter.specs.Literals.{LiteralsView, MayPass}
use Rattle.wax_token.specs.{Meaning.Means, Reads.Span, Syntax.Tree}
use Rattle.wax_exclude.specs.declared.split.SplitLine.{SplitLine}
use Rattle.wax_exclude.specs.inner.Numbers.{AlternativesPass, HasMatch, LinesPass, MatchesBy, covering_number}
use Rattle.wax_exclude.specs.inner.Numbers.{number_after}

-- what passes by these literals passes by those
abbrev pub KeepPassing : LiteralsView → LiteralsView → Type 0
KeepPassing old new = (s : List ℕ) → MayPass old s → MayPass new s

abbrev TokenPasses : LiteralsView → Tree Span → Type 0
TokenPasses literals t = (s : List ℕ) → Means t false false s → MayPass literals s

abbrev LinePasses : LiteralsView → SplitLine → Type 0
LinePasses literals line = AlternativesPass line.alternatives literals

alternatives_keep : (old new : LiteralsView) (ts : List (Tree Span)) → KeepPassing old new
    → AlternativesPass ts old → AlternativesPass ts new
alternatives_keep old new ts keeps =
    All-weaker (TokenPasses old) (TokenPasses new) (λ t h s m. keeps s (h s m)) ts

-- one more alternative
pub alternative_passes : (ts : List (Tree Span)) (i : ℕ) (t : Tree Span) (old new : LiteralsView)
    → i < length ts → t ≡ get_or ts i t
    → KeepPassing old new → ((s : List ℕ) → Means t false false s → MayPass new s)
    → AlternativesPass (take i ts) old
    → AlternativesPass (take (i + 1) ts) new
alternative_passes ts i t old new lt is keeps adds before =
    All-more (TokenPasses new) ts i t lt (alternatives_keep old new (take i ts) keeps before)
    (subst (TokenPasses new) is adds)

-- one more line
pub line_passes : (lines : List SplitLine) (i : ℕ) (line : SplitLine) (old new : LiteralsView)
    → i < length lines → line ≡ get_or lines i line
    → KeepPassing old new → AlternativesPass line.alternatives new → LinesPass (take i lines) old
    → LinesPass (take (i + 1) lines) new
line_passes lines i line old new lt is keeps adds before =
    All-more (LinePasses new) lines i line lt
    (All-weaker (LinePasses old) (LinePasses new) (λ l. alternatives_keep old new l.alternatives keeps)
    (take i lines) before)
    (subst (LinePasses new) is adds)

-- ---- what a line matches passes
alternative_matched : (literals : LiteralsView) (own above : ℕ) (ts : List (Tree Span)) (k : ℕ) (s : List ℕ)
    → AlternativesPass ts literals
    → MatchesBy own above ts k s → MayPass literals s
alternative_matched literals own above [] k s all m = absurd m
alternative_matched literals own above (t ∷ ts) k s all (inl m) =
    All-head (TokenPasses literals) t ts all s m.1
alternative_matched literals own above (t ∷ ts) k s all (inr m) =
    alternative_matched literals own above ts k s (All-tail (TokenPasses literals) t ts all) m

pub matched_passes : (literals : LiteralsView) (top n : ℕ) (lines : List SplitLine) (k : ℕ) (s : List ℕ)
    → LinesPass lines literals
    → HasMatch top n lines k s → MayPass literals s
matched_passes literals top n [] k s all m = absurd m
matched_passes literals top n (line ∷ lines) k s all (inl m) =
    let own = number_after n line.ignores in
    alternative_matched literals own (covering_number top own (line ∷ lines)) line.alternatives k s
    (All-head (LinePasses literals) line lines all) m
matched_passes literals top n (line ∷ lines) k s all (inr m) =
    matched_passes literals top (number_after n line.ignores) lines k s
    (All-tail (LinePasses literals) line lines all) m
