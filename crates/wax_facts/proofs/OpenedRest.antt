-- What the opened list means after the prefix.
use Rattle.std.proofs.Common.{Bool, List, None, Option, Some, [], ap, arith, false, inl, inr, refl, subst}
use Rattle.std.proofs.Common.{suc, sym, true, zero, ℕ, ◌↔◌, ◌∙◌, ◌∷◌, ◌≡◌, ◌≢◌, ◌≤◌}
use Rattle.wax_query.specs.Components.{EndsWithSlash}
use Rattle.wax_token.specs.Meaning.{Means, MeansEach}
use Rattle.wax_token.specs.Syntax.{Tree, Trees, alternation, class, concatenation, leaf, literal, more, none}
use Rattle.wax_token.specs.Syntax.{one, repetition, separator, tree, zero_or_more}
use Rattle.wax_facts.specs.{Joined.{begins_with_leaf, path}, Orderly.{Full, FullEach, IsSome}}
use Rattle.wax_facts.specs.Prefix.{Cut, IsRooted, Prefix, PrefixOf, opened, or_nothing}
use Rattle.wax_facts.specs.Rest.{after, begins_with_tree, unrooted}
use Rattle.wax_facts.specs.inner.Cuts.{IsFree, first_starts_with_tree}
use Rattle.wax_facts.proofs.{CutEnds.ends_at, Fronts.{FrontText, cut_text, later, take_from, take_to}}
use Rattle.wax_facts.proofs.{Moved.each_moved, OpenedMeans.{opened_from, opened_full, opened_to}}
use Rattle.wax_facts.proofs.Paths.{path_bare, path_ends}
use Rattle.wax_facts.proofs.Trees.{BeginsWithTree, begins_so, unrooted_first, unrooted_from, unrooted_plain}
use Rattle.wax_facts.proofs.{Trees.unrooted_to, Truths.true_false, Whens.never_always}

-- a token that begins with no `**` is no `**`
no_tree : {A : Type 0} (ts : Trees A) → first_starts_with_tree ts ≡ false → begins_with_tree ts ≡ false
no_tree none e = refl
no_tree (more (leaf a l) ts) e = e
no_tree (more (alternation a us) ts) e = refl
no_tree (more (concatenation a us) ts) e = refl
no_tree (more (repetition a t low high) ts) e = refl

module _ {A : Type 0} (ts : Trees A) (full : FullEach ts) where
  abbrev Rest : ℕ → List ℕ → List ℕ → Type 0
  Rest n p r = MeansEach (unrooted (after n ts)) false false r ↔ MeansEach ts false false (path p r)

  -- no token is taken
  rest_whole : (p r : List ℕ) → p ≡ [] → unrooted ts ≡ ts → Rest 0 p r
  rest_whole p r e g = (
    (λ m. subst (λ z. MeansEach ts false false (path z r)) (sym e)
        (subst (λ z. MeansEach z false false r) g m)),
    λ m.
        subst (λ z. MeansEach z false false r) (sym g) (subst (λ z. MeansEach ts false false (path z r)) e m),
  )

  -- the cut falls after a `/`
  rest_after_slash : (n : ℕ) (p r : List ℕ) → 1 ≤ n → FrontText n ts p → IsSome (after n ts)
      → first_starts_with_tree (after n ts) ≡ false → EndsWithSlash p → Rest n p r
  rest_after_slash n p r le h some e ends = (
    (λ m. subst (MeansEach ts false false) (sym (path_ends p r ends))
        (take_from n ts p full h some false false r (each_moved (after n ts) e false (later false n) false r
        (subst (λ z. MeansEach z false false r) g m)))),
    λ m. subst (λ z. MeansEach z false false r) (sym g)
        (each_moved (after n ts) e (later false n) false false r
        (take_to n ts p h some false false r (subst (MeansEach ts false false) (path_ends p r ends) m))),
  )
    where
      g : unrooted (after n ts) ≡ after n ts
      g = unrooted_plain (after n ts) (no_tree (after n ts) e)

  -- the cut falls at a `**`
  rest_at_tree : (n : ℕ) (p r : List ℕ) (a : A) (rooted : Bool) (vs : Trees A) → 1 ≤ n → FrontText n ts p
      → after n ts ≡ more (leaf a (tree rooted)) vs → p ≢ [] → (EndsWithSlash p → ⊥) → Rest n p r
  rest_at_tree zero p r a rooted vs le h e some bare = absurd (omega (arith, le))
  rest_at_tree (suc n) p r a rooted vs le h e some bare = (
    (λ m. subst (MeansEach ts false false) (sym (path_bare p r some bare))
        (take_from (suc n) ts p full h is false false (47 ∷ r)
        (subst (λ z. MeansEach z true false (47 ∷ r)) (sym e) (unrooted_from a rooted vs true false r refl tt
        (subst (λ z. MeansEach (unrooted z) false false r) e m))))),
    λ m. subst (λ z. MeansEach (unrooted z) false false r) (sym e)
        (unrooted_to a rooted vs true false r refl tt
        (subst (λ z. MeansEach z true false (47 ∷ r)) e (take_to (suc n) ts p h is false false (47 ∷ r)
        (subst (MeansEach ts false false) (path_bare p r some bare) m)))),
  )
    where
      is : IsSome (after (suc n) ts)
      is = subst IsSome (sym e) tt

-- the glob begins with a rooted `**`
rest_rooted : {A : Type 0} (a : A) (vs : Trees A) (r : List ℕ) →
    MeansEach (unrooted (more (leaf a (tree true)) vs)) false false r
    ↔ MeansEach (more (leaf a (tree true)) vs) false false (path (47 ∷ []) r)
rest_rooted a vs r = (
  (λ m. unrooted_from a true vs false false r refl tt m),
  λ m. unrooted_to a true vs false false r refl tt m,
)

module _ {A : Type 0} (ts : Trees A) (full : FullEach ts)
    (first : IsRooted ts → begins_with_leaf ts ≡ true) where
  rooted_list : (n : ℕ) (p r : List ℕ) → IsRooted ts → n ≡ 0 → p ≡ 47 ∷ [] → Rest ts full n p r
  rooted_list n p r h e g = subst (λ z. Rest ts full z p r) (sym e)
      (subst (λ z. Rest ts full 0 z r) (sym g) (at_first ts (first h) h))
    where
      at_first : (ts : Trees A) → begins_with_leaf ts ≡ true → IsRooted ts
          → MeansEach (unrooted ts) false false r ↔ MeansEach ts false false (path (47 ∷ []) r)
      at_first none f h = true_false (sym f)
      at_first (more (leaf a (literal i t)) us) f h = never_always h.0
      at_first (more (leaf a (class i xs)) us) f h = never_always h.0
      at_first (more (leaf a separator) us) f h = absurd (h.1 (47 ∷ []) refl)
      at_first (more (leaf a one) us) f h = never_always h.0
      at_first (more (leaf a (zero_or_more v)) us) f h = never_always h.0
      at_first (more (leaf a (tree true)) us) f h = rest_rooted a us r
      at_first (more (leaf a (tree false)) us) f h = never_always h.0
      at_first (more (alternation a vs) us) f h = true_false (sym f)
      at_first (more (concatenation a vs) us) f h = true_false (sym f)
      at_first (more (repetition a t low high) us) f h = true_false (sym f)

  some_list : (n : ℕ) (p r : List ℕ) → (IsRooted ts → ⊥) → FrontText n ts p
      → (begins_with_tree (after n ts) ≡ false → EndsWithSlash p) → IsSome (after n ts)
      → IsFree ts n p → Rest ts full n p r
  some_list zero p r h text ends some free = rest_whole ts full p r text (unrooted_first ts h)
  some_list (suc n) p r h text ends some free = elim (begins_with_tree (after (suc n) ts))
      as (λ b. begins_with_tree (after (suc n) ts) ≡ b → Rest ts full (suc n) p r) [
        | true ↦ λ e. (let k : (p ≢ []) × (EndsWithSlash p → ⊥) = free.at_tree (omega arith) e in
            let v : BeginsWithTree (after (suc n) ts) = begins_so (after (suc n) ts) e in
            rest_at_tree ts full (suc n) p r v.0 v.1 v.2 (omega arith) text v.3 k.0 k.1)
        | false ↦ λ e. rest_after_slash ts full (suc n) p r (omega arith) text some
            (free.after_slash (omega arith) e) (ends e)
      ] refl

  cut_list : (cut : Option (ℕ × List ℕ)) (n : ℕ) (p r : List ℕ) → (IsRooted ts → ⊥) → Cut ts cut → n
      ≡ (or_nothing cut).0 → p ≡ (or_nothing cut).1 → IsSome (after n ts) → IsFree ts n p → Rest ts full n p r
  cut_list None n p r h c e g some free =
      subst (λ z. Rest ts full z p r) (sym e) (rest_whole ts full p r g (unrooted_first ts h))
  cut_list (Some cut) n p r h c e g some free =
      let t : FrontText n ts p = subst (λ z. FrontText z ts p) (sym e)
      (subst (FrontText cut.0 ts) (sym g) (cut_text ts (Some cut) c)) in
      let s : IsSome (after cut.0 ts) = subst (λ z. IsSome (after z ts)) e some in
      some_list n p r h t (λ k. subst EndsWithSlash (sym g)
      (ends_at ts (Some cut) c s (ap (λ z. begins_with_tree (after z ts)) (sym e) ∙ k))) some free

  pub rest_list : (n : ℕ) (p r : List ℕ) → PrefixOf ts n p → IsSome (after n ts)
      → IsFree ts n p → Rest ts full n p r
  rest_list n p r (inl h) some free = rooted_list n p r h.0 h.1 h.2
  rest_list n p r (inr h) some free = cut_list h.1.0 n p r h.0 h.1.1 h.1.2 h.1.3 some free

pub rest_exact : {A : Type 0} (t : Tree A) (n : ℕ) (p r : List ℕ) → Full t
    → (IsRooted (opened t) → begins_with_leaf (opened t) ≡ true) → Prefix t n p → IsSome (after n (opened t))
    → IsFree (opened t) n p →
    MeansEach (unrooted (after n (opened t))) false false r ↔ Means t false false (path p r)
rest_exact t n p r full first h some free =
    let k : Rest (opened t) (opened_full t full) n p r =
    rest_list (opened t) (opened_full t full) first n p r h some free in (
      (λ m. opened_from t full false false (path p r) (k.0 m)),
      λ m. k.1 (opened_to t full false false (path p r) m),
    )
