-- What is known of all texts that match.
use Rattle.std.specs.Prelude.{◌≡◌, ◌≤◌, ℕ, Bool, false, List, length, ⊤}
use Rattle.wax_token.specs.{Meaning.MeansEach, Syntax.Trees}
use Rattle.wax_prefilter.specs.Facts.{NeedleView, FactView, PrefilterView, ContainsAt, ContainsOne, FactsHold}
use Rattle.wax_prefilter.specs.{Facts.PassesFacts, declared.needle.Anchor.Anchor}
use Rattle.wax_prefilter.specs.declared.needle.Anchor.TheVariants.{Beginning, End, Anywhere}

-- of beginnings something is known only where nothing is written before
abbrev pub CanBeAfter : Anchor → Bool → Type 0
CanBeAfter Beginning before = before ≡ false
CanBeAfter End before = ⊤
CanBeAfter Anywhere before = ⊤

-- each text that matches has these characters there
abbrev pub EachContains : Anchor → NeedleView → (Bool → Bool → List ℕ → Type 0) → Type 0
EachContains anchor held Meant =
    (before after : Bool) (text : List ℕ) → CanBeAfter anchor before → Meant before after text
    → ContainsAt anchor held text

-- each text that matches holds one of these
abbrev pub EachContainsOne : Anchor → List NeedleView → (Bool → Bool → List ℕ → Type 0) → Type 0
EachContainsOne anchor needles Meant =
    (before after : Bool) (text : List ℕ) → CanBeAfter anchor before → Meant before after text
    → ContainsOne anchor needles text

-- and has at least so many characters
abbrev pub IsLeastLength : ℕ → (Bool → Bool → List ℕ → Type 0) → Type 0
IsLeastLength n Meant = (before after : Bool) (text : List ℕ) → Meant before after text → n ≤ length text

-- each text that the tokens mean, with nothing around it, holds one of each
abbrev pub FactsOfMatches : {A : Type 0} → Trees A → List FactView → Type 0
FactsOfMatches tokens facts = (text : List ℕ) → MeansEach tokens false false text → FactsHold facts text

-- each such text passes
abbrev pub MatchesPass : {A : Type 0} → Trees A → PrefilterView → Type 0
MatchesPass tokens prefilter =
    (text : List ℕ) → MeansEach tokens false false text → PassesFacts prefilter text
