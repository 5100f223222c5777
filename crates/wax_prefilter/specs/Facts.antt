-- What texts hold, and where.
use Rattle.std.specs.{Prelude.{◌≡◌, ◌≤◌, ℕ, Bool, List, ◌++◌, length, All}, List.Any}
use Rattle.wax_prefilter.specs.declared.needle.Anchor.{Anchor}
use Rattle.wax_prefilter.specs.declared.needle.Anchor.TheVariants.{Beginning, End, Anywhere}
use Rattle.wax_token.specs.Meaning.{SameText}

-- whether in any case, and the characters
abbrev pub NeedleView : Type 0
NeedleView = Bool × List ℕ

abbrev pub FactView : Type 0
FactView = Anchor × List NeedleView

-- the least length, and the facts
abbrev pub PrefilterView : Type 0
PrefilterView = ℕ × List FactView

-- the text holds the characters there, in their own case or, with the flag, in any
abbrev pub ContainsAt : Anchor → NeedleView → List ℕ → Type 0
ContainsAt Beginning held text = (x : List ℕ) × (y : List ℕ) × (text ≡ x ++ y) × SameText held.0 held.1 x
ContainsAt End held text = (x : List ℕ) × (y : List ℕ) × (text ≡ x ++ y) × SameText held.0 held.1 y
ContainsAt Anywhere held text =
    (x : List ℕ) × (y : List ℕ) × (z : List ℕ) × (text ≡ x ++ (y ++ z)) × SameText held.0 held.1 y

-- it holds one of these there
abbrev pub ContainsOne : Anchor → List NeedleView → List ℕ → Type 0
ContainsOne anchor needles text = Any (λ held. ContainsAt anchor held text) needles

-- it holds one of each of these
abbrev pub FactsHold : List FactView → List ℕ → Type 0
FactsHold facts text = All (λ fact. ContainsOne fact.0 fact.1 text) facts

-- it is long enough, and holds one of each
abbrev pub PassesFacts : PrefilterView → List ℕ → Type 0
PassesFacts prefilter text = (prefilter.0 ≤ length text) × FactsHold prefilter.1 text
