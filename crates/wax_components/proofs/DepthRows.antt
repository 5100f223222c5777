-- The depth of worked globs.
use Rattle.std.proofs.Common.{◌≡◌, ◌∷◌, Bool, List, None, Option, Some, ℕ, [], codes, false, refl, subst}
use Rattle.std.proofs.Common.{true}
use Rattle.wax_token.specs.Syntax.{Tree, alternation, concatenation, leaf, literal, repetition, separator}
use Rattle.wax_token.specs.{Syntax.{tree, zero_or_more}, Words.trees}
use Rattle.wax_token.specs.declared.token.Evaluation.TheVariants.{Eager}
use Rattle.wax_components.specs.{Depth.Depth, inner.Intervals.or_zero}
use Rattle.wax_components.specs.inner.TreeProfiles.{component_hull, tree_profile}
use Rattle.wax_components.proofs.DepthComponents.{depth_exact}

abbrev u : Unit {0}
u = tt

abbrev T : Type 0
T = Tree (Unit {0})

record HasDepth (t : T) (low : ℕ) (high : Option ℕ) : Type 0 where
  holds : Depth t (low, high)

computed : {t : T} {low : ℕ} {high : Option ℕ} → or_zero (component_hull (tree_profile t false false))
    ≡ (low, high) → HasDepth t low high
computed {t} e = record { holds = subst (Depth t) e (depth_exact t) }

abbrev word : List ℕ → T
word t = leaf u (literal false t)

abbrev a : T
a = word (codes "a")

abbrev b : T
b = word (codes "b")

abbrev c : T
c = word (codes "c")

abbrev x : T
x = word (codes "x")

abbrev ext : T
ext = word (codes ".ext")

abbrev slash : T
slash = leaf u separator

abbrev star : T
star = leaf u (zero_or_more Eager)

abbrev tree_wildcard : Bool → T
tree_wildcard rooted = leaf u (tree rooted)

abbrev glob : List T → T
glob ts = concatenation u (trees ts)

abbrev branches : List T → T
branches ts = alternation u (trees ts)

abbrev copies : List T → ℕ → Option ℕ → T
copies ts low high = repetition u (glob ts) low high

-- `a`
row_word : HasDepth (glob (a ∷ [])) 1 (Some 1)
row_word = computed refl

-- `a/`
row_slash_last : HasDepth (glob (a ∷ slash ∷ [])) 1 (Some 1)
row_slash_last = computed refl

-- `(?i)a(?-i)b`
row_two_literals : HasDepth (glob (leaf u (literal true (codes "a")) ∷ b ∷ [])) 1 (Some 1)
row_two_literals = computed refl

-- `*`
row_wildcard : HasDepth (glob (star ∷ [])) 1 (Some 1)
row_wildcard = computed refl

-- `{a,*}`
row_branches : HasDepth (glob (branches (glob (a ∷ []) ∷ glob (star ∷ []) ∷ []) ∷ [])) 1 (Some 1)
row_branches = computed refl

-- `a/b`
row_two : HasDepth (glob (a ∷ slash ∷ b ∷ [])) 2 (Some 2)
row_two = computed refl

-- `{a/b}`
row_one_branch : HasDepth (glob (branches (glob (a ∷ slash ∷ b ∷ []) ∷ []) ∷ [])) 2 (Some 2)
row_one_branch = computed refl

-- `a/*`
row_star_last : HasDepth (glob (a ∷ slash ∷ star ∷ [])) 2 (Some 2)
row_star_last = computed refl

-- `*/a`
row_star_first : HasDepth (glob (star ∷ slash ∷ a ∷ [])) 2 (Some 2)
row_star_first = computed refl

-- `a/*/b`
row_star_between : HasDepth (glob (a ∷ slash ∷ star ∷ slash ∷ b ∷ [])) 3 (Some 3)
row_star_between = computed refl

-- `<a/:3>`
row_copies : HasDepth (glob (copies (a ∷ slash ∷ []) 3 (Some 3) ∷ [])) 3 (Some 3)
row_copies = computed refl

-- `x<a/:3>`
row_copies_after : HasDepth (glob (x ∷ copies (a ∷ slash ∷ []) 3 (Some 3) ∷ [])) 3 (Some 3)
row_copies_after = computed refl

-- `{a,a/b}`
row_one_or_two : HasDepth (glob (branches (glob (a ∷ []) ∷ glob (a ∷ slash ∷ b ∷ []) ∷ []) ∷ [])) 1 (Some 2)
row_one_or_two = computed refl

-- `x{a,a/b}`
row_one_or_two_after :
    HasDepth (glob (x ∷ branches (glob (a ∷ []) ∷ glob (a ∷ slash ∷ b ∷ []) ∷ []) ∷ [])) 1 (Some 2)
row_one_or_two_after = computed refl

-- `{a,a/b}x`
row_one_or_two_before :
    HasDepth (glob (branches (glob (a ∷ []) ∷ glob (a ∷ slash ∷ b ∷ []) ∷ []) ∷ x ∷ [])) 1 (Some 2)
row_one_or_two_before = computed refl

-- `x/{a,a/b}`
row_below :
    HasDepth (glob (x ∷ slash ∷ branches (glob (a ∷ []) ∷ glob (a ∷ slash ∷ b ∷ []) ∷ []) ∷ [])) 2 (Some 3)
row_below = computed refl

-- `{a,a/b}/x`
row_above :
    HasDepth (glob (branches (glob (a ∷ []) ∷ glob (a ∷ slash ∷ b ∷ []) ∷ []) ∷ slash ∷ x ∷ [])) 2 (Some 3)
row_above = computed refl

-- `{a/,{a/b/,a/b/c/}}x`
row_nested : HasDepth (glob (branches (glob (a ∷ slash ∷ []) ∷ glob (branches (glob (a ∷ slash ∷ b ∷ slash
    ∷ []) ∷ glob (a ∷ slash ∷ b ∷ slash ∷ c ∷ slash ∷ []) ∷ []) ∷ []) ∷ []) ∷ x ∷ [])) 2 (Some 4)
row_nested = computed refl

-- `<*/>`
row_open : HasDepth (glob (copies (star ∷ slash ∷ []) 0 None ∷ [])) 0 None
row_open = computed refl

-- `**`
row_tree_wildcard : HasDepth (glob (tree_wildcard false ∷ [])) 0 None
row_tree_wildcard = computed refl

-- `a/**`
row_tree_last : HasDepth (glob (a ∷ tree_wildcard true ∷ [])) 1 None
row_tree_last = computed refl

-- `<*/>*`
row_open_before : HasDepth (glob (copies (star ∷ slash ∷ []) 0 None ∷ star ∷ [])) 1 None
row_open_before = computed refl

-- `**/*`
row_tree_first : HasDepth (glob (tree_wildcard false ∷ star ∷ [])) 1 None
row_tree_first = computed refl

-- `**/*/**`
row_tree_twice : HasDepth (glob (tree_wildcard false ∷ star ∷ tree_wildcard true ∷ [])) 1 None
row_tree_twice = computed refl

-- `a/<*/>`
row_open_after : HasDepth (glob (a ∷ slash ∷ copies (star ∷ slash ∷ []) 0 None ∷ [])) 1 None
row_open_after = computed refl

-- `<*/>a</*>`
row_open_around :
    HasDepth (glob (copies (star ∷ slash ∷ []) 0 None ∷ a ∷ copies (slash ∷ star ∷ []) 0 None ∷ [])) 1 None
row_open_around = computed refl

-- `a/**/b`
row_tree_between : HasDepth (glob (a ∷ tree_wildcard true ∷ b ∷ [])) 2 None
row_tree_between = computed refl

-- `<a*/:1,>*`
row_once_at_least : HasDepth (glob (copies (a ∷ star ∷ slash ∷ []) 1 None ∷ star ∷ [])) 2 None
row_once_at_least = computed refl

-- `{a/b/,c/**/}*.ext`
row_tree_in_branch : HasDepth (glob (branches
    (glob (a ∷ slash ∷ b ∷ slash ∷ []) ∷ glob (c ∷ tree_wildcard true ∷ []) ∷ []) ∷ star ∷ ext ∷ [])) 2 None
row_tree_in_branch = computed refl

-- `a/<*/>b`
row_open_between : HasDepth (glob (a ∷ slash ∷ copies (star ∷ slash ∷ []) 0 None ∷ b ∷ [])) 2 None
row_open_between = computed refl

-- `a/**/b/**/c`
row_two_trees : HasDepth (glob (a ∷ tree_wildcard true ∷ b ∷ tree_wildcard true ∷ c ∷ [])) 3 None
row_two_trees = computed refl

-- the empty expression
row_empty : HasDepth (glob (word [] ∷ [])) 0 (Some 0)
row_empty = computed refl

-- `/`
row_root : HasDepth (glob (slash ∷ [])) 0 (Some 0)
row_root = computed refl

-- `<a/:0,3>`
row_up_to : HasDepth (glob (copies (a ∷ slash ∷ []) 0 (Some 3) ∷ [])) 0 (Some 3)
row_up_to = computed refl

-- `<a:1,><b:0,1>`
row_no_slash : HasDepth (glob (copies (a ∷ []) 1 None ∷ copies (b ∷ []) 0 (Some 1) ∷ [])) 1 (Some 1)
row_no_slash = computed refl

-- `<a:3,1>`, which means no text
row_no_text : HasDepth (glob (copies (a ∷ []) 3 (Some 1) ∷ [])) 0 (Some 0)
row_no_text = computed refl
