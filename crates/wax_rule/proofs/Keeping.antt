-- Tokens that keep the rules.
use Rattle.std.proofs.Common.{None, List, [], refl, subst, sym, ◌++◌, ◌∷◌, ◌≡◌, inl, inr}
use Rattle.std.proofs.lemmas.List.Elements.{Contains-push_cases}
use Rattle.std.specs.List.{Contains}
use Rattle.wax_facts.specs.declared.rules.Break.{Break}
use Rattle.wax_rule.specs.{FirstBreak.head_of, Keeping.KeepsRules}
use Rattle.wax_token.specs.{Reads.Span, Syntax.Tree}

-- there is no break if there is no first one
pub no_break : (breaks : List Break) → None ≡ head_of breaks → breaks ≡ []
no_break [] e = refl
no_break (b ∷ bs) e = absurd (let f : ⊥ = cc in f)

-- each of the tokens keeps the rules
abbrev pub AllKeep : List (Tree Span) → Type 0
AllKeep ts = (t : Tree Span) → Contains ts t → KeepsRules t

pub push_keeps : (ts us : List (Tree Span)) (t : Tree Span) → us ≡ ts ++ t ∷ [] → AllKeep ts
    → KeepsRules t → AllKeep us
push_keeps ts us t e all kept = subst AllKeep (sym e) (λ u among. elim (Contains-push_cases ts t u among) [
  | inl before ↦ all u before
  | inr same ↦ subst KeepsRules same kept
])
