-- What `*.png` spells and means.
use Rattle.std.proofs.Common.{◌≡◌, ◌↔◌, ◌∙◌, ℕ, false, List, [], ◌∷◌, ◌++◌, codes, ap, arith, refl, sym}
use Rattle.std.proofs.Common.{subst}
use Rattle.std.specs.Str.{chars}
use Rattle.wax_test_uses.specs.Names.{IsPictureName}
use Rattle.wax.specs.Language.{concatenation, Eager, Flags, group, leaf, literal, Means, more, no_flags, none}
use Rattle.wax.specs.Language.{NoWildcardFollows, Place, Reads, SameText, Span, start, starts_with_one_of}
use Rattle.wax.specs.Language.{Tree, zero_or_more}

-- ---- the tree

abbrev pub star : Tree Span
star = leaf (0, 1) (zero_or_more Eager)

abbrev pub dot_png : Tree Span
dot_png = leaf (1, 4) (literal false (codes ".png"))

abbrev pub picture_tree : Tree Span
picture_tree = concatenation (0, 5) (more star (more dot_png none))

abbrev at_end : Place
at_end = record { insensitive = false; rest = [] }

abbrev after_star : Place
after_star = record { insensitive = false; rest = codes ".png" }

unlike : {b : ℕ} {cs : List ℕ} → [] ≡ b ∷ cs → ⊥
unlike e = cc

-- a place where no `(` follows
no_group : (x y : List ℕ) → 46 ∷ x ≡ 40 ∷ y → ⊥
no_group x y e = cc

no_flag : (p m : Place) (x : List ℕ) → p.rest ≡ 46 ∷ x → Flags p m → m ≡ p
no_flag p m x e no_flags = refl
no_flag p m x e (group b bs n past flags) = absurd (no_group x _ (sym e ∙ past.0))

no_wildcard : NoWildcardFollows after_star
no_wildcard m flags =
    subst (λ n. starts_with_one_of (codes "*$") n.rest ≡ false) (sym (no_flag after_star m _ refl flags)) refl

picture_spelled : Reads (codes "*.png") picture_tree
picture_spelled = (
  omega arith,
  at_end,
  (
    unlike,
    (
      after_star,
      (start (codes "*.png"), no_flags, ((refl, refl), no_wildcard), (refl, refl)),
      (
        at_end,
        (after_star, no_flags, (refl, (λ e. unlike (sym e), refl), (refl, refl), tt), (refl, refl)),
        refl,
      ),
    ),
    (refl, refl),
    refl,
  ),
)

pub chars_png : chars (codes "*.png") ≡ codes "*.png"
unfolding chars
chars_png = refl

-- ---- what it means

pub same_to : (t s : List ℕ) → SameText false t s → s ≡ t
same_to [] [] h = refl
same_to [] (d ∷ s) h = absurd h
same_to (c ∷ t) [] h = absurd h
same_to (c ∷ t) (d ∷ s) h = let e : s ≡ t = same_to t s h.1 in let f : c ≡ d = h.0 in cc

pub same_self : (t : List ℕ) → SameText false t t
same_self [] = tt
same_self (c ∷ t) = (refl, same_self t)

picture_means : (s : List ℕ) → Means picture_tree false false s ↔ IsPictureName s
picture_means s = (
  λ h. (h.0, (h.3, h.2 ∙ ap (λ y. h.0 ++ y) (same_to (codes ".png") h.1 h.4))),
  λ h. (h.0, codes ".png", h.1.1, h.1.0, same_self (codes ".png")),
)

-- the only tree of the expression is this one
pub picture_only : (t : Tree Span)
    → ((u : Tree Span) → Reads (chars (codes "*.png")) u → u ≡ t) → picture_tree ≡ t
picture_only t only = only picture_tree (subst (λ e. Reads e picture_tree) (sym chars_png) picture_spelled)

-- and means the names that end so
pub is_picture : (t : Tree Span) → ((u : Tree Span) → Reads (chars (codes "*.png")) u → u ≡ t)
    → (s : List ℕ) → Means t false false s ↔ IsPictureName s
is_picture t only s =
    subst (λ u. Means u false false s ↔ IsPictureName s) (picture_only t only) (picture_means s)
