-- Lists that begin with `**`, and how it loses its `/`.
use Rattle.std.proofs.Common.{Bool, List, ap, false, inr, refl, subst, sym, true, ℕ, ◌++◌, ◌∙◌, ◌∷◌, ◌≡◌}
use Rattle.wax_query.specs.Components.{BeginsWithSlash, EndsWithSlash}
use Rattle.wax_token.specs.Meaning.{MeansEach, TreeMeans}
use Rattle.wax_token.specs.Syntax.{Trees, alternation, class, concatenation, leaf, literal, more, none, one}
use Rattle.wax_token.specs.Syntax.{repetition, separator, tree, zero_or_more}
use Rattle.wax_facts.specs.{Prefix.IsRooted, Rest.{begins_with_tree, unrooted}}
use Rattle.wax_facts.proofs.{Endings.{cons_ends, ends_cons}, Truths.true_false}

-- where something is before it, or it is rooted
abbrev Roots : Bool → Bool → Type 0
Roots true rooted = Unit {0}
Roots false true = Unit {0}
Roots false false = ⊥

last_tree_from : (b rooted : Bool) (r : List ℕ) → Roots b rooted → TreeMeans b false rooted (47 ∷ r)
last_tree_from true rooted r h = inr (r, refl)
last_tree_from false true r h = (r, refl)
last_tree_from false false r h = absurd h

tree_to : (b rooted : Bool) (x : List ℕ) → Roots b rooted → TreeMeans b true rooted x
    → BeginsWithSlash x × EndsWithSlash x
tree_to true rooted x h m = m
tree_to false true x h m = m
tree_to false false x h m = absurd h

tree_from : (b rooted : Bool) (x : List ℕ) → Roots b rooted → BeginsWithSlash x × EndsWithSlash x
    → TreeMeans b true rooted x
tree_from true rooted x h m = m
tree_from false true x h m = m
tree_from false false x h m = absurd h

pub unrooted_to : {A : Type 0} (a : A) (rooted : Bool) (vs : Trees A) (b f : Bool) (r : List ℕ)
    → f ≡ false → Roots b rooted →
    MeansEach (more (leaf a (tree rooted)) vs) b f (47 ∷ r)
    → MeansEach (unrooted (more (leaf a (tree rooted)) vs)) false f r
unrooted_to a rooted none b false r e h m = tt
unrooted_to a rooted none b true r e h m = absurd (let g : ⊥ = cc in g)
unrooted_to a rooted (more u us) b f r e h m =
    let k : BeginsWithSlash m.0 × EndsWithSlash m.0 = tree_to b rooted m.0 h m.3 in
    let x : List ℕ = k.0.0 in
    let g : r ≡ x ++ m.1 = tail (m.2 ∙ ap (λ z. z ++ m.1) k.0.1) in
    (x, m.1, g, ends_cons x (subst EndsWithSlash k.0.1 k.1), m.4)
  where
    tail : {s t : List ℕ} → 47 ∷ s ≡ 47 ∷ t → s ≡ t
    tail e = cc

pub unrooted_from : {A : Type 0} (a : A) (rooted : Bool) (vs : Trees A) (b f : Bool) (r : List ℕ)
    → f ≡ false → Roots b rooted →
    MeansEach (unrooted (more (leaf a (tree rooted)) vs)) false f r
    → MeansEach (more (leaf a (tree rooted)) vs) b f (47 ∷ r)
unrooted_from a rooted none b false r e h m = last_tree_from b rooted r h
unrooted_from a rooted none b true r e h m = absurd (let g : ⊥ = cc in g)
unrooted_from a rooted (more u us) b f r e h m = (
  47 ∷ m.0,
  m.1,
  ap (λ z. 47 ∷ z) m.2,
  tree_from b rooted (47 ∷ m.0) h ((m.0, refl), cons_ends m.0 m.3),
  m.4,
)

pub unrooted_plain : {A : Type 0} (ts : Trees A) → begins_with_tree ts ≡ false → unrooted ts ≡ ts
unrooted_plain none e = refl
unrooted_plain (more (leaf a (literal i t)) ts) e = refl
unrooted_plain (more (leaf a (class n xs)) ts) e = refl
unrooted_plain (more (leaf a separator) ts) e = refl
unrooted_plain (more (leaf a one) ts) e = refl
unrooted_plain (more (leaf a (zero_or_more v)) ts) e = refl
unrooted_plain (more (leaf a (tree rooted)) ts) e = absurd (let f : ⊥ = cc in f)
unrooted_plain (more (alternation a us) ts) e = refl
unrooted_plain (more (concatenation a us) ts) e = refl
unrooted_plain (more (repetition a t low high) ts) e = refl

-- a list that begins with `**` begins so
abbrev pub BeginsWithTree : {A : Type 0} → Trees A → Type 0
BeginsWithTree {A = A} ts = (a : A) × (rooted : Bool) × (vs : Trees A) × (ts ≡ more (leaf a (tree rooted)) vs)

pub begins_so : {A : Type 0} (ts : Trees A) → begins_with_tree ts ≡ true → BeginsWithTree ts
begins_so none e = true_false (sym e)
begins_so (more (leaf a (literal i t)) ts) e = true_false (sym e)
begins_so (more (leaf a (class n xs)) ts) e = true_false (sym e)
begins_so (more (leaf a separator) ts) e = true_false (sym e)
begins_so (more (leaf a one) ts) e = true_false (sym e)
begins_so (more (leaf a (zero_or_more v)) ts) e = true_false (sym e)
begins_so (more (leaf a (tree rooted)) ts) e = (a, rooted, ts, refl)
begins_so (more (alternation a us) ts) e = true_false (sym e)
begins_so (more (concatenation a us) ts) e = true_false (sym e)
begins_so (more (repetition a t low high) ts) e = true_false (sym e)

-- where the glob isn't rooted, its first `**` isn't
pub unrooted_first : {A : Type 0} (ts : Trees A) → (IsRooted ts → ⊥) → unrooted ts ≡ ts
unrooted_first none h = refl
unrooted_first (more (leaf a (literal i t)) ts) h = refl
unrooted_first (more (leaf a (class n xs)) ts) h = refl
unrooted_first (more (leaf a separator) ts) h = refl
unrooted_first (more (leaf a one) ts) h = refl
unrooted_first (more (leaf a (zero_or_more v)) ts) h = refl
unrooted_first (more (leaf a (tree true)) ts) h = absurd (h (refl, λ s k. k))
unrooted_first (more (leaf a (tree false)) ts) h = refl
unrooted_first (more (alternation a us) ts) h = refl
unrooted_first (more (concatenation a us) ts) h = refl
unrooted_first (more (repetition a t low high) ts) h = refl
