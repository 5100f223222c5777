-- The definitions, read against worked examples.
use Rattle.std.proofs.Common.{◌≡◌, ℕ, suc, ◌≤◌, Bool, true, false, List, [], ◌∷◌, ◌++◌, Some, refl, inl, inr}
use Rattle.std.proofs.Common.{arith, codes, ap, sym, ◌∙◌, zero}
use Rattle.wax_token.specs.declared.token.Archetype.{Archetype}
use Rattle.wax_token.specs.declared.token.Archetype.TheVariants.{Character, Range}
use Rattle.wax_token.specs.Syntax.{literal, tree, Tree, leaf, concatenation, repetition, none, more}
use Rattle.wax_token.specs.{Meaning.{Means, SameText, Copies, in_class}, Reads.{Reads, Place, no_flags, Span}}

abbrev u : Unit {0}
u = tt

-- `<a/**:2>`
abbrev two_copies : Tree (Unit {0})
two_copies = concatenation u (more (repetition u (concatenation u
    (more (leaf u (literal false (codes "a"))) (more (leaf u (tree true)) none))) 2 (Some 2)) none)

-- `a/**/b`
abbrev between : Tree Span
between = concatenation (0, 6) (more (leaf (0, 1) (literal false (codes "a")))
    (more (leaf (1, 4) (tree true)) (more (leaf (5, 1) (literal false (codes "b"))) none)))

abbrev plain : List ℕ → Place
plain s = record { insensitive = false; rest = s }

pub between_reads : Reads (codes "a/**/b") between
between_reads = (
  omega arith,
  plain [],
  (
    (λ e. cc),
    (
      plain (codes "/**/b"),
      (plain (codes "a/**/b"), no_flags, (refl, ((λ e. cc), refl), (refl, refl), refl), (refl, refl)),
      (
        plain (codes "b"),
        (
          plain (codes "/**/b"),
          no_flags,
          (
            plain (codes "**/b"),
            (refl, refl),
            (
              plain (codes "**/b"),
              plain (codes "/b"),
              no_flags,
              (refl, refl),
              inl (plain (codes "/b"), no_flags, (refl, refl)),
            ),
          ),
          (refl, refl),
        ),
        (
          plain [],
          (plain (codes "b"), no_flags, (refl, ((λ e. cc), refl), (refl, refl), tt), (refl, refl)),
          refl,
        ),
      ),
    ),
    (refl, refl),
    refl,
  ),
)

-- `a/**/b` means `a/x/b`
pub between_means : Means between false false (codes "a/x/b")
between_means = (
  codes "a",
  codes "/x/b",
  refl,
  (refl, tt),
  (codes "/x/", codes "b", refl, ((codes "x/", refl), (codes "/x", refl)), (refl, tt)),
)

-- `<a/**:2>` means `a/a`, and not `aa`
pub two_copies_means : Means two_copies false false (codes "a/a")
two_copies_means = (
  2,
  omega arith,
  omega arith,
  (
    codes "a/",
    codes "a",
    refl,
    (codes "a", codes "/", refl, (refl, tt), ((codes "", refl), (codes "", refl))),
    (codes "a", [], refl, (refl, tt), inl refl),
  ),
)

SameText-alone : (c : ℕ) (s : List ℕ) → SameText false (c ∷ []) s → s ≡ c ∷ []
SameText-alone c [] h = absurd h
SameText-alone c (d ∷ []) h = ap (λ x. x ∷ []) (sym h.0)
SameText-alone c (d ∷ e ∷ s) h = absurd h.1

no_slash : (y t : List ℕ) → codes "aa" ≡ (codes "a" ++ (47 ∷ t)) ++ y → ⊥
no_slash y t e = cc

at_two : Copies 2
    (Means (concatenation u (more (leaf u (literal false (codes "a"))) (more (leaf u (tree true)) none))))
    false false (codes "aa") → ⊥
at_two h =
    let a : h.3.0 ≡ codes "a" = SameText-alone 97 h.3.0 h.3.3 in
    no_slash h.1 h.3.4.0.0
    (h.2 ∙ ap (λ z. z ++ h.1) (h.3.2 ∙ ap (λ z. z ++ h.3.1) a ∙ ap (λ z. codes "a" ++ z) h.3.4.0.1))

pub two_copies_not : Means two_copies false false (codes "aa") → ⊥
two_copies_not h = at_count h.0 h.1 h.2 h.3
  where
    at_count : (k : ℕ) → 2 ≤ k → k ≤ 2 → Copies k (Means (concatenation u (more
        (leaf u (literal false (codes "a"))) (more (leaf u (tree true)) none)))) false false (codes "aa") → ⊥
    at_count zero p q c = omega (arith, p)
    at_count (suc zero) p q c = omega (arith, p)
    at_count (suc (suc zero)) p q c = at_two c
    at_count (suc (suc (suc k))) p q c = omega (arith, q)

-- ---- rooted wildcards: `/**/a` and `/**`
abbrev rooted_before : Tree (Unit {0})
rooted_before = concatenation u (more (leaf u (tree true)) (more (leaf u (literal false (codes "a"))) none))

pub rooted_before_at_once : Means rooted_before false false (codes "/a")
rooted_before_at_once = (codes "/", codes "a", refl, (([], refl), ([], refl)), (refl, tt))

pub rooted_before_deeper : Means rooted_before false false (codes "/x/a")
rooted_before_deeper = (codes "/x/", codes "a", refl, ((codes "x/", refl), (codes "/x", refl)), (refl, tt))

pub rooted_before_relative : Means rooted_before false false (codes "a") → ⊥
rooted_before_relative h = let e : codes "a" ≡ 47 ∷ (h.3.0.0 ++ h.1) = h.2 ∙ ap (λ z. z ++ h.1) h.3.0.1 in cc

abbrev rooted : Tree (Unit {0})
rooted = concatenation u (more (leaf u (tree true)) none)

pub rooted_alone : Means rooted false false (codes "/")
rooted_alone = ([], refl)

pub rooted_deeper : Means rooted false false (codes "/x")
rooted_deeper = (codes "x", refl)

pub rooted_nothing : Means rooted false false [] → ⊥
rooted_nothing h = let e : [] ≡ 47 ∷ h.0 = h.1 in cc

pub rooted_relative : Means rooted false false (codes "x") → ⊥
rooted_relative h = let e : codes "x" ≡ 47 ∷ h.0 = h.1 in cc

-- ---- a wildcard at the end: `a/**`
abbrev below : Tree (Unit {0})
below = concatenation u (more (leaf u (literal false (codes "a"))) (more (leaf u (tree true)) none))

pub below_itself : Means below false false (codes "a")
below_itself = (codes "a", [], refl, (refl, tt), inl refl)

pub below_slash : Means below false false (codes "a/")
below_slash = (codes "a", codes "/", refl, (refl, tt), inr ([], refl))

pub below_child : Means below false false (codes "a/x")
below_child = (codes "a", codes "/x", refl, (refl, tt), inr (codes "x", refl))

-- a line feed too
pub below_line_feed : Means below false false (97 ∷ 47 ∷ 120 ∷ 10 ∷ 121 ∷ [])
below_line_feed = (codes "a", 47 ∷ 120 ∷ 10 ∷ 121 ∷ [], refl, (refl, tt), inr (120 ∷ 10 ∷ 121 ∷ [], refl))

-- ---- classes: `[!b0-4]`, `[/]`, `[z-a]` and `[!z-a]`
abbrev others : List Archetype
others = Character 98 ∷ Range 48 52 ∷ []

pub negated_takes_others : in_class true others 120 ≡ true
negated_takes_others = refl

pub negated_refuses_its_own : (in_class true others 98 ≡ false) × (in_class true others 51 ≡ false)
negated_refuses_its_own = (refl, refl)

pub class_refuses_separator : (in_class true others 47 ≡ false)
    × (in_class false (Character 47 ∷ []) 47 ≡ false)
class_refuses_separator = (refl, refl)

pub reversed_takes_nothing : (b : Bool) → (in_class b (Range 122 97 ∷ []) 97 ≡ false)
    × (in_class b (Range 122 97 ∷ []) 109 ≡ false) × (in_class b (Range 122 97 ∷ []) 122 ≡ false)
reversed_takes_nothing true = (refl, refl, refl)
reversed_takes_nothing false = (refl, refl, refl)
