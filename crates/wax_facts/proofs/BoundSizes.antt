-- Texts have at most the fixed size of a token that matches them.
use Rattle.std.proofs.Common.{◌≡◌, ◌≤◌, ◌+◌, ◌*◌, ℕ, zero, suc, Bool, true, false, List, [], ◌∷◌, ◌++◌}
use Rattle.std.proofs.Common.{Option, Some, None, refl, sym, ap, ◌∙◌, subst, inl, inr, arith}
use Rattle.std.proofs.{lemmas.Bool.{and_parts, cases_Bool, false≢true}, lemmas.Bool.Decides.Decides-eqb}
use Rattle.std.specs.{Prelude.if◌then◌else◌, Char.len_utf8}
use Rattle.wax_facts.proofs.Copies.{sizes_of_copies}
use Rattle.wax_facts.specs.SizeBounds.{SizesBound, all_mind_case, leaf_minds_case, minds_case}
use Rattle.wax_facts.specs.Sizes.{are_of_size, common_size, fixed_size, is_size, leaf_size, option_sum}
use Rattle.wax_facts.specs.Sizes.{size_if, total_size}
use Rattle.wax_query.specs.Ranges.{AtMost}
use Rattle.wax_token.specs.Meaning.{Copies, LeafMeans, Means, MeansEach, MeansSome, SameText}
use Rattle.wax_token.specs.Reads.{utf8_len}
use Rattle.wax_token.specs.Syntax.{Leaf, literal, class, separator, one, zero_or_more, tree, Tree, leaf}
use Rattle.wax_token.specs.Syntax.{alternation, concatenation, repetition, Trees, none, more}

the_same : (m n : ℕ) → Some m ≡ Some n → m ≡ n
the_same m n e = cc

nothing : {P : Type 0} (n : ℕ) → None ≡ Some n → P
nothing n e = absurd (let f : ⊥ = cc in f)

four_at_most : (c : ℕ) → len_utf8 c ≤ 4
four_at_most c = grind arith

one_at_most : (c : ℕ) → utf8_len (c ∷ []) ≤ 4
one_at_most c = omega (arith, four_at_most c)

joined_length : (x y : List ℕ) → utf8_len (x ++ y) ≡ utf8_len x + utf8_len y
joined_length [] y = omega arith
joined_length (c ∷ x) y = omega (arith, joined_length x y)

same_text : (t s : List ℕ) → SameText false t s → s ≡ t
same_text [] [] h = refl
same_text [] (d ∷ s) h = absurd h
same_text (c ∷ t) [] h = absurd h
same_text (c ∷ t) (d ∷ s) h = ap (λ v. v ∷ s) (sym h.0) ∙ ap (λ v. c ∷ v) (same_text t s h.1)

leaf_bound : (l : Leaf) (before after : Bool) (s : List ℕ) (size : ℕ) → leaf_minds_case l ≡ true
    → leaf_size l ≡ Some size → LeafMeans l before after s → utf8_len s ≤ size
leaf_bound (literal true t) before after s size minds e h = absurd (false≢true minds)
leaf_bound (literal false t) before after s size minds e h =
    omega (arith, the_same (utf8_len t) size e, ap utf8_len (same_text t s h))
leaf_bound (class negated xs) before after s size minds e h =
    omega (arith, the_same 4 size e, ap utf8_len h.1, one_at_most h.0)
leaf_bound separator before after s size minds e h = omega (arith, the_same 1 size e, ap utf8_len h)
leaf_bound one before after s size minds e h =
    omega (arith, the_same 4 size e, ap utf8_len h.1, one_at_most h.0)
leaf_bound (zero_or_more evaluation) before after s size minds e h = nothing size e
leaf_bound (tree rooted) before after s size minds e h = nothing size e

one_copy_more : (k m : ℕ) → suc k * m ≡ m + k * m
one_copy_more k m = grind arith

-- copies of texts of at most m bytes
copies_bound : (Body : Bool → Bool → List ℕ → Type 0) (m : ℕ)
    → ((before after : Bool) (s : List ℕ) → Body before after s → utf8_len s ≤ m)
    → (k : ℕ) (before after : Bool) (s : List ℕ) → Copies k Body before after s → utf8_len s ≤ k * m
copies_bound Body m bound zero before after s h = omega (arith, ap utf8_len h)
copies_bound Body m bound (suc zero) before after s h = omega (arith, bound before after s h)
copies_bound Body m bound (suc (suc k)) before after s h =
    let rest : utf8_len h.1 ≤ suc k * m = copies_bound Body m bound (suc k) true after h.1 h.4 in
    let first : utf8_len h.0 ≤ m = bound before true h.0 h.3 in
    let all : suc (suc k) * m ≡ m + suc k * m = one_copy_more (suc k) m in
    omega (arith, ap utf8_len h.2, joined_length h.0 h.1, rest, first, all)

-- the two sizes of a sum
summed : (o p : Option ℕ) (n : ℕ) → option_sum o p ≡ Some n
    → (i j : ℕ) × (o ≡ Some i) × (p ≡ Some j) × (n ≡ i + j)
summed None p n e = nothing n e
summed (Some i) None n e = nothing n e
summed (Some i) (Some j) n e = (i, j, refl, refl, sym (the_same (i + j) n e))

-- the size of the first branch, and that the others have it
shared : (common : ℕ → Bool) (o : Option ℕ) (n : ℕ) → size_if common o ≡ Some n
    → (o ≡ Some n) × (common n ≡ true)
shared common None n e = nothing n e
shared common (Some i) n e = elim (cases_Bool (common i)) [
  | inl b ↦ (let same : i ≡ n = the_same i n (sym (ap (λ v. if v then Some i else None) b) ∙ e) in
      (ap Some same, subst (λ v. common v ≡ true) same b))
  | inr b ↦ nothing n (sym (ap (λ v. if v then Some i else None) b) ∙ e)
]

sized : (n : ℕ) (o : Option ℕ) → is_size n o ≡ true → o ≡ Some n
sized n None e = absurd (false≢true e)
sized n (Some m) e = ap Some ((Decides-eqb m n).0 e)

mutual
  bound : {A : Type 0} (t : Tree A) (before after : Bool) (s : List ℕ) (size : ℕ) → minds_case t ≡ true
      → fixed_size t ≡ Some size → Means t before after s → utf8_len s ≤ size
  bound (leaf a l) before after s size minds e h = leaf_bound l before after s size minds e h
  bound (alternation a ts) before after s size minds e h = some_bound ts before after s size minds e h
  bound (concatenation a ts) before after s size minds e h = each_bound ts before after s size minds e h
  bound (repetition a t low high) before after s size minds e h =
      let is = (sizes_of_copies low size high (fixed_size t)).0 e in
      let few : h.0 ≤ low = subst (AtMost h.0) is.2 h.2 in
      let all : h.0 ≡ low = omega (arith, few, h.1) in
      let copies : utf8_len s ≤ h.0 * is.0 = copies_bound (Means t) is.0
      (λ b c x i. bound t b c x is.0 minds is.1 i) h.0 before after s h.3 in
      subst (λ v. utf8_len s ≤ v) (ap (λ v. v * is.0) all ∙ sym is.3) copies

  some_bound : {A : Type 0} (ts : Trees A) (before after : Bool) (s : List ℕ) (size : ℕ)
      → all_mind_case ts ≡ true → common_size ts ≡ Some size → MeansSome ts before after s → utf8_len s ≤ size
  some_bound none before after s size minds e h = absurd h
  some_bound (more t ts) before after s size minds e h =
      let is = shared (λ n. are_of_size n ts) (fixed_size t) size e in
      let both = and_parts (minds_case t) (all_mind_case ts) minds in
      elim h [
        | inl i ↦ bound t before after s size both.0 is.0 i
        | inr i ↦ others_bound ts before after s size both.1 is.1 i
      ]

  others_bound : {A : Type 0} (ts : Trees A) (before after : Bool) (s : List ℕ) (size : ℕ)
      → all_mind_case ts ≡ true → are_of_size size ts ≡ true → MeansSome ts before after s → utf8_len s ≤ size
  others_bound none before after s size minds e h = absurd h
  others_bound (more t ts) before after s size minds e h =
      let is = and_parts (is_size size (fixed_size t)) (are_of_size size ts) e in
      let both = and_parts (minds_case t) (all_mind_case ts) minds in
      elim h [
        | inl i ↦ bound t before after s size both.0 (sized size (fixed_size t) is.0) i
        | inr i ↦ others_bound ts before after s size both.1 is.1 i
      ]

  each_bound : {A : Type 0} (ts : Trees A) (before after : Bool) (s : List ℕ) (size : ℕ)
      → all_mind_case ts ≡ true → total_size ts ≡ Some size → MeansEach ts before after s → utf8_len s ≤ size
  each_bound none before after s size minds e h = omega (arith, ap utf8_len h)
  each_bound (more t none) before after s size minds e h =
      let is = summed (fixed_size t) (Some 0) size e in
      let both = and_parts (minds_case t) true minds in
      omega (arith, is.4, bound t before after s is.0 both.0 is.2 h)
  each_bound (more t (more u us)) before after s size minds e h =
      let is = summed (fixed_size t) (total_size (more u us)) size e in
      let both = and_parts (minds_case t) (all_mind_case (more u us)) minds in
      let first : utf8_len h.0 ≤ is.0 = bound t before true h.0 is.0 both.0 is.2 h.3 in
      let rest : utf8_len h.1 ≤ is.1 = each_bound (more u us) true after h.1 is.1 both.1 is.3 h.4 in
      omega (arith, ap utf8_len h.2, joined_length h.0 h.1, first, rest, is.4)

pub sizes_bound : SizesBound
sizes_bound t before after s size minds e h = bound t before after s size minds e h
