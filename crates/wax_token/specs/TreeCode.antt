-- The code of plain trees, by which proofs show that two differ.
use Rattle.std.specs.Prelude.{◌≡◌, ℕ, ◌+◌, ◌≤◌, Bool, List, [], ◌∷◌, Option, ◌⊎◌, refl, zero, suc}
use Rattle.std.specs.Coded.{Coded, code_by, coded_ℕ, coded_bool, coded_list, coded_option, coded×, coded⊎}
use Rattle.std.proofs.Common.{inl, inr, ap, arith}
use base.Stored.{Gv, gnil, gnum, gcons, num}
use denote.Param.Weighed.{most}
use Rattle.wax_token.specs.declared.token.Archetype.{Archetype}
use Rattle.wax_token.specs.declared.token.Archetype.TheVariants.{Character, Range}
use Rattle.wax_token.specs.declared.token.Evaluation.TheVariants.{Eager, Lazy}
use Rattle.wax_token.specs.Syntax.{Leaf, literal, class, separator, one, zero_or_more, tree, Tree, leaf}
use Rattle.wax_token.specs.Syntax.{alternation, concatenation, repetition, Trees, none, more, tree_size}
use Rattle.wax_token.specs.{Syntax.trees_size, Words.trees}

abbrev archetype_sum : Archetype → ℕ ⊎ ℕ × ℕ
archetype_sum (Character c) = inl c
archetype_sum (Range c d) = inr (c, d)

abbrev archetype_from : ℕ ⊎ ℕ × ℕ → Archetype
archetype_from (inl c) = Character c
archetype_from (inr p) = Range p.0 p.1

pub archetype_back : (a : Archetype) → archetype_from (archetype_sum a) ≡ a
archetype_back (Character c) = refl
archetype_back (Range c d) = refl

abbrev pub archetype_code : Coded Archetype
archetype_code =
    code_by (ℕ ⊎ ℕ × ℕ) (coded⊎ coded_ℕ (coded× coded_ℕ coded_ℕ)) archetype_sum archetype_from archetype_back

abbrev Leaves : Type 0
Leaves = (Bool × List ℕ) ⊎ ((Bool × List Archetype) ⊎ (ℕ ⊎ Bool))

abbrev leaf_sum : Leaf → Leaves
leaf_sum (literal b t) = inl (b, t)
leaf_sum (class b xs) = inr (inl (b, xs))
leaf_sum separator = inr (inr (inl 0))
leaf_sum one = inr (inr (inl 1))
leaf_sum (zero_or_more Eager) = inr (inr (inl 2))
leaf_sum (zero_or_more Lazy) = inr (inr (inl 3))
leaf_sum (tree b) = inr (inr (inr b))

abbrev small_leaf : ℕ → Leaf
small_leaf zero = separator
small_leaf (suc zero) = one
small_leaf (suc (suc zero)) = zero_or_more Eager
small_leaf (suc (suc (suc n))) = zero_or_more Lazy

abbrev leaf_from : Leaves → Leaf
leaf_from (inl p) = literal p.0 p.1
leaf_from (inr (inl p)) = class p.0 p.1
leaf_from (inr (inr (inl n))) = small_leaf n
leaf_from (inr (inr (inr b))) = tree b

pub leaf_back : (l : Leaf) → leaf_from (leaf_sum l) ≡ l
leaf_back (literal b t) = refl
leaf_back (class b xs) = refl
leaf_back separator = refl
leaf_back one = refl
leaf_back (zero_or_more Eager) = refl
leaf_back (zero_or_more Lazy) = refl
leaf_back (tree b) = refl

abbrev pub leaf_code : Coded Leaf
leaf_code = code_by Leaves
    (coded⊎ (coded× coded_bool (coded_list coded_ℕ))
    (coded⊎ (coded× coded_bool (coded_list archetype_code)) (coded⊎ coded_ℕ coded_bool)))
    leaf_sum leaf_from leaf_back

abbrev bounds_code : Coded (ℕ × Option ℕ)
bounds_code = coded× coded_ℕ (coded_option coded_ℕ)

abbrev pub head : Gv → Gv
head gnil = gnil
head (gnum n) = gnil
head (gcons a b) = a

abbrev pub tail : Gv → Gv
tail gnil = gnil
tail (gnum n) = gnil
tail (gcons a b) = b

module _ {A : Type 0} (a : Coded A) where
  abbrev mutual
    tree_gv : Tree A → Gv
    tree_gv (leaf x l) = gcons (gnum 0) (gcons (a.code x) (leaf_code.code l))
    tree_gv (alternation x ts) = gcons (gnum 1) (gcons (a.code x) (trees_gv ts))
    tree_gv (concatenation x ts) = gcons (gnum 2) (gcons (a.code x) (trees_gv ts))
    tree_gv (repetition x t low high) =
        gcons (gnum 3) (gcons (a.code x) (gcons (tree_gv t) (bounds_code.code (low, high))))

    trees_gv : Trees A → Gv
    trees_gv none = gnil
    trees_gv (more t ts) = gcons (tree_gv t) (trees_gv ts)

  mutual
    pub tree_inj : (t u : Tree A) → tree_gv t ≡ tree_gv u → t ≡ u
    tree_inj (leaf x l) (leaf y m) p = λ i.
        leaf (a.inj x y (ap (λ g. head (tail g)) p) i)
        (leaf_code.inj l m (ap (λ g. tail (tail g)) p) i)
    tree_inj (alternation x ts) (alternation y us) p = λ i.
        alternation (a.inj x y (ap (λ g. head (tail g)) p) i)
        (trees_inj ts us (ap (λ g. tail (tail g)) p) i)
    tree_inj (concatenation x ts) (concatenation y us) p = λ i.
        concatenation (a.inj x y (ap (λ g. head (tail g)) p) i)
        (trees_inj ts us (ap (λ g. tail (tail g)) p) i)
    tree_inj (repetition x t low high) (repetition y u low' high') p = λ i.
        repetition (a.inj x y (ap (λ g. head (tail g)) p) i)
        (tree_inj t u (ap (λ g. head (tail (tail g))) p) i)
        (bounds_code.inj (low, high) (low', high') (ap (λ g. tail (tail (tail g))) p) i).0
        (bounds_code.inj (low, high) (low', high') (ap (λ g. tail (tail (tail g))) p) i).1
    tree_inj (leaf x l) (alternation y us) p =
        absurd (let e : ◌≡◌ {A = ℕ} 0 1 = ap (λ g. num (head g)) p in omega (arith, e))
    tree_inj (leaf x l) (concatenation y us) p =
        absurd (let e : ◌≡◌ {A = ℕ} 0 2 = ap (λ g. num (head g)) p in omega (arith, e))
    tree_inj (leaf x l) (repetition y u low' high') p =
        absurd (let e : ◌≡◌ {A = ℕ} 0 3 = ap (λ g. num (head g)) p in omega (arith, e))
    tree_inj (alternation x ts) (leaf y m) p =
        absurd (let e : ◌≡◌ {A = ℕ} 1 0 = ap (λ g. num (head g)) p in omega (arith, e))
    tree_inj (alternation x ts) (concatenation y us) p =
        absurd (let e : ◌≡◌ {A = ℕ} 1 2 = ap (λ g. num (head g)) p in omega (arith, e))
    tree_inj (alternation x ts) (repetition y u low' high') p =
        absurd (let e : ◌≡◌ {A = ℕ} 1 3 = ap (λ g. num (head g)) p in omega (arith, e))
    tree_inj (concatenation x ts) (leaf y m) p =
        absurd (let e : ◌≡◌ {A = ℕ} 2 0 = ap (λ g. num (head g)) p in omega (arith, e))
    tree_inj (concatenation x ts) (alternation y us) p =
        absurd (let e : ◌≡◌ {A = ℕ} 2 1 = ap (λ g. num (head g)) p in omega (arith, e))
    tree_inj (concatenation x ts) (repetition y u low' high') p =
        absurd (let e : ◌≡◌ {A = ℕ} 2 3 = ap (λ g. num (head g)) p in omega (arith, e))
    tree_inj (repetition x t low high) (leaf y m) p =
        absurd (let e : ◌≡◌ {A = ℕ} 3 0 = ap (λ g. num (head g)) p in omega (arith, e))
    tree_inj (repetition x t low high) (alternation y us) p =
        absurd (let e : ◌≡◌ {A = ℕ} 3 1 = ap (λ g. num (head g)) p in omega (arith, e))
    tree_inj (repetition x t low high) (concatenation y us) p =
        absurd (let e : ◌≡◌ {A = ℕ} 3 2 = ap (λ g. num (head g)) p in omega (arith, e))

    pub trees_inj : (ts us : Trees A) → trees_gv ts ≡ trees_gv us → ts ≡ us
    trees_inj none none p = refl
    trees_inj (more t ts) (more u us) p = λ i.
        more (tree_inj t u (ap head p) i) (trees_inj ts us (ap tail p) i)
    trees_inj none (more u us) p = absurd (cc)
    trees_inj (more t ts) none p = absurd (cc)

  abbrev pub tree_code : Coded (Tree A)
  tree_code = record { code = tree_gv; inj = tree_inj }

-- no tree of a row is as large as the row
pub most_le-trees_size : {A : Type 0} (ts : List (Tree A)) →
    most (λ t. tree_size t + 1) ts ≤ trees_size (trees ts)
most_le-trees_size [] = omega arith
most_le-trees_size (t ∷ ts) = omega (arith, most_le-trees_size ts)
