-- What is known of the literals of many patterns.
use Rattle.std.specs.Prelude.{ℕ, Bool, IsTrue, List}
use Rattle.wax_prefilter.specs.{Facts.{NeedleView, ContainsOne}, declared.needle.Anchor.TheVariants.Anywhere}

-- whether something is known, and the literals
abbrev pub LiteralsView : Type 0
LiteralsView = Bool × List NeedleView

-- one of the literals is in the text, or nothing is known
abbrev pub MayPass : LiteralsView → List ℕ → Type 0
MayPass literals text = IsTrue literals.0 → ContainsOne Anywhere literals.1 text
