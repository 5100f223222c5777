-- Where the cut falls.
use Rattle.std.proofs.Common.{Bool, List, None, Option, Some, [], false, inl, inr, refl, subst, sym, true, ℕ}
use Rattle.std.proofs.Common.{◌∙◌, ◌≡◌}
use Rattle.wax_query.specs.Components.{EndsWithSlash}
use Rattle.wax_token.specs.Syntax.{Tree, Trees, alternation, class, concatenation, leaf, literal, more, none}
use Rattle.wax_token.specs.{Syntax.{one, repetition, separator, tree, zero_or_more}, Kinds.is_separator}
use Rattle.wax_facts.specs.{InvariantText.Text, Orderly.IsSome, Prefix.{Cut, taken}}
use Rattle.wax_facts.specs.Rest.{after, begins_with_tree}
use Rattle.wax_facts.proofs.{Endings.ends_append, Truths.true_false}

abbrev pub EndsAt : {A : Type 0} → Trees A → Option (ℕ × List ℕ) → Type 0
EndsAt ts None = Unit {0}
EndsAt ts (Some cut) = IsSome (after cut.0 ts) → begins_with_tree (after cut.0 ts) ≡ false
    → EndsWithSlash cut.1

separator_text : {A : Type 0} (t : Tree A) (x : List ℕ) → is_separator t ≡ true → Text t x → EndsWithSlash x
separator_text (leaf a (literal i t)) x e h = true_false (sym e)
separator_text (leaf a (class n xs)) x e h = true_false (sym e)
separator_text (leaf a separator) x e h = ([], h)
separator_text (leaf a one) x e h = absurd h
separator_text (leaf a (zero_or_more v)) x e h = absurd h
separator_text (leaf a (tree rooted)) x e h = absurd h
separator_text (alternation a us) x e h = true_false (sym e)
separator_text (concatenation a us) x e h = true_false (sym e)
separator_text (repetition a t low high) x e h = true_false (sym e)

pub ends_at : {A : Type 0} (ts : Trees A) (cut : Option (ℕ × List ℕ)) → Cut ts cut → EndsAt ts cut
ends_at none cut c = subst (EndsAt none) (sym c) (λ some e. absurd some)
ends_at (more t ts) cut (inl c) = subst (EndsAt (more t ts)) (sym c.1) (λ some e. true_false (sym c.0 ∙ e))
ends_at (more t ts) cut (inr (inl c)) = subst (EndsAt (more t ts)) (sym c.2) tt
ends_at (more t ts) cut (inr (inr c)) =
    subst (EndsAt (more t ts)) (sym c.4) (both (is_separator t) refl c.1 (ends_at ts c.1 c.3))
  where
    both : (b : Bool) → is_separator t ≡ b → (later : Option (ℕ × List ℕ)) → EndsAt ts later
        → EndsAt (more t ts) (taken b c.0 later)
    both b g (Some cut) k = λ some e. ends_append c.0 cut.1 (k some e)
    both true g None k = λ some e. separator_text t c.0 g c.2
    both false g None k = tt
