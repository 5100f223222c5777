-- What an expression of one component means.
use Rattle.std.proofs.Common.{◌↔◌, ℕ, false, List}
use Rattle.std.specs.Prelude.{Result, Ok, Err, IfOk}
use Rattle.wax.specs.{Headline.MatchGlob, GlobView.{GlobView, IsMeant}, Language.{BuildError, HasNoSlash}}
use Rattle.wax.proofs.Lemmas.{unslashed}
use Rattle.wax_test_uses.specs.Names.{IsOneComponent}
use Rattle.wax_test_uses.proofs.OneComponents.{one_component}

pub through : {A B C : Type 0} → A ↔ B → B ↔ C → A ↔ C
through f g = (λ a. g.0 (f.0 a), λ c. f.1 (g.1 c))

pub respects : (e : List ℕ) (r : Result GlobView BuildError) → MatchGlob e r
    → IfOk r (λ g. IsOneComponent e → (s : List ℕ) → IsMeant g s → HasNoSlash s)
respects e (Ok g) h = λ one s m.
    let k = one_component e g.tree h.spells one in unslashed g.tree false false s k.0 k.1 m
respects e (Err x) h = tt
