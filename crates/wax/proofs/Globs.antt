-- The globs of the empty expression and of `**`.
use Rattle.std.proofs.Common.{◌≡◌, ◌==◌, ◌↔◌, ◌∙◌, ℕ, Bool, false, List, [], ◌∷◌, length, codes, IsTrue}
use Rattle.std.proofs.Common.{IsUtf8, ap, arith, inl, inr, refl, rules, sym, subst}
use Rattle.std.proofs.lemmas.Str.{chars-nil, encodes-chars}
use Rattle.std.specs.Str.{chars}
use lib.Utf8.{encodes}
use Rattle.wax_token.specs.{Meaning.Means, Reads.{Place, Reads, Span, no_flags, start}}
use Rattle.wax_token.specs.Syntax.{Tree, leaf, literal}
use Rattle.wax_facts.specs.Orderly.{Worded}
use Rattle.wax.specs.{Build.{IsEmptyGlob, IsTreeGlob, tree_alone}, GlobView.{GlobView, IsKept, empty_tree}}

-- an empty literal means the empty text
empty_means : (s : List ℕ) → Means empty_tree false false s ↔ (s ≡ [])
empty_means [] = (λ h. refl, λ e. tt)
empty_means (c ∷ s) = (λ h. absurd h, λ e. cc)

pub means_nothing : (t : Tree Span) → t ≡ empty_tree → (s : List ℕ) → Means t false false s ↔ (s ≡ [])
means_nothing t e s = subst (λ z. Means z false false s ↔ (s ≡ [])) (sym e) (empty_means s)

pub is_empty_glob : (g : GlobView) → g.expression ≡ [] → Reads [] g.tree → IsEmptyGlob g
is_empty_glob g e h = record { expression = e; tree = h; means = means_nothing g.tree h }

-- `**` spells one tree wildcard
abbrev at_end : Place
at_end = record { insensitive = false; rest = [] }

unlike : [] ≡ codes "**" → ⊥
unlike e = cc

tree_spelled : Reads (codes "**") tree_alone
tree_spelled = (
  omega arith,
  at_end,
  (
    unlike,
    (
      at_end,
      (start (codes "**"), no_flags, (refl, at_end, (refl, refl), inr (refl, refl)), (refl, refl)),
      refl,
    ),
    (refl, refl),
    refl,
  ),
)

pub is_tree_glob : (g : GlobView) → g.expression ≡ codes "**"
    → ((t : Tree Span) → Reads (codes "**") t → t ≡ g.tree) → IsTreeGlob g
is_tree_glob g e only = record {
  expression = e;
  tree = sym (only tree_alone tree_spelled);
  means = λ s. subst (λ t. Means t false false s) (only tree_alone tree_spelled) tt;
}

-- a literal without characters is the tree of the empty expression
pub leaf_empty : (t : Tree Span) → IsKept t → (a : Span) (b : Bool) (x : List ℕ) → t ≡ leaf a (literal b x)
    → x ≡ [] → t ≡ empty_tree
leaf_empty t (inl o) a b x e n = absurd ((subst Worded e o.2).0 n)
leaf_empty t (inr q) a b x e n = q

pub empty_leaf : (t : Tree Span) (a : Span) (b : Bool) (x : List ℕ) → t ≡ leaf a (literal b x)
    → t ≡ empty_tree → x ≡ []
empty_leaf t a b x e q = cc

-- ---- texts
pub chars_stars : chars (codes "**") ≡ codes "**"
unfolding chars
chars_stars = refl

nil_length : (bs : List ℕ) → length bs ≡ 0 → bs ≡ []
nil_length [] e = refl
nil_length (b ∷ bs) e = absurd (omega (arith, e))

pub no_bytes : (bs x : List ℕ) → chars bs ≡ x → IsTrue (length bs == 0) → x ≡ []
no_bytes bs x e h = let l : length bs ≡ 0 = search rules in sym e ∙ ap chars (nil_length bs l) ∙ chars-nil

pub no_text : (bs x : List ℕ) → IsUtf8 bs → chars bs ≡ x → x ≡ [] → IsTrue (length bs == 0)
no_text bs x u e n =
    let k : bs ≡ [] = sym (encodes-chars bs u) ∙ ap encodes (e ∙ n) in
    let l : length bs ≡ 0 = ap length k in search rules
