-- The rest as it is written means what the glob means after the prefix.
use Rattle.std.proofs.Common.{Bool, List, false, refl, subst, sym, true, ℕ, ◌↔◌, ◌∙◌, ◌≡◌}
use Rattle.wax_token.specs.{Meaning.{Means, MeansEach}, Syntax.{Tree, Trees, leaf, more, none, tree}}
use Rattle.wax_token.specs.Words.{members}
use Rattle.wax_facts.specs.{Joined.{begins_with_leaf, path}, Orderly.{Flat, Full, FullEach, IsSome}}
use Rattle.wax_facts.specs.Prefix.{IsRooted, Prefix, opened, opened_last}
use Rattle.wax_facts.specs.Rest.{after, begins_with_tree, inner_cut, owner, rest, unrooted}
use Rattle.wax_facts.specs.inner.Cuts.{IsFree}
use Rattle.wax_facts.proofs.{OpenedMeans.{last_from, last_to}, OpenedRest.rest_exact}
use Rattle.wax_facts.proofs.OwnerBegins.{Tells, inner_settles, settled}
use Rattle.wax_facts.proofs.{OwnerFull.{after_full, full_here, inner_full, members_full}, Owners.owner_opened}
use Rattle.wax_facts.proofs.{Trees.{BeginsWithTree, begins_so, unrooted_plain}, Truths.false_true}

pub not_none : {A : Type 0} (xs : Trees A) → IsSome (opened_last xs) → IsSome xs
not_none none h = h
not_none (more t ts) h = tt

abbrev Same : {A : Type 0} → Trees A → List ℕ → Type 0
Same xs r = MeansEach (unrooted xs) false false r ↔ MeansEach (unrooted (opened_last xs)) false false r

tree_same : {A : Type 0} (a : A) (rooted : Bool) (vs : Trees A) (r : List ℕ) → FullEach vs
    → Same (more (leaf a (tree rooted)) vs) r
tree_same a rooted none r w = ((λ m. m), λ m. m)
tree_same a rooted (more u us) r w = (
  (λ m. last_to (more (leaf a (tree false)) (more u us)) tt (tt, w) false false r m),
  λ m. last_from (more (leaf a (tree false)) (more u us)) tt (tt, w) false false r m,
)

plain_same : {A : Type 0} (xs : Trees A) (r : List ℕ) → IsSome xs → FullEach xs → begins_with_tree xs ≡ false
    → begins_with_tree (opened_last xs) ≡ false → Same xs r
plain_same xs r some w e g = (
  (λ m. subst (λ z. MeansEach z false false r) (sym (unrooted_plain (opened_last xs) g))
      (last_to xs some w false false r (subst (λ z. MeansEach z false false r) (unrooted_plain xs e) m))),
  λ m. subst (λ z. MeansEach z false false r) (sym (unrooted_plain xs e)) (last_from xs some w false false r
      (subst (λ z. MeansEach z false false r) (unrooted_plain (opened_last xs) g) m)),
)

full_tail : {A : Type 0} (t : Tree A) (vs xs : Trees A) → xs ≡ more t vs → FullEach xs → FullEach vs
full_tail t vs xs e w = let k : FullEach (more t vs) = subst FullEach e w in k.1

same_rest : {A : Type 0} (xs : Trees A) (r : List ℕ) → IsSome xs → FullEach xs → Tells xs → Same xs r
same_rest xs r some w tells = elim (begins_with_tree xs) as (λ b. begins_with_tree xs ≡ b → Same xs r) [
  | true ↦ λ e. (let v : BeginsWithTree xs = begins_so xs e in subst (λ z. Same z r) (sym v.3)
      (tree_same v.0 v.1 v.2 r (full_tail (leaf v.0 (tree v.1)) v.2 xs v.3 w)))
  | false ↦ λ e. plain_same xs r some w e
      (not_true (begins_with_tree (opened_last xs)) (λ g. false_true (sym e ∙ tells g)))
] refl
  where
    not_true : (b : Bool) → (b ≡ true → ⊥) → b ≡ false
    not_true true h = absurd (h refl)
    not_true false h = refl

-- the rest as it is written means what the opened list means from there on
pub rest_same : {A : Type 0} (t : Tree A) (n : ℕ) (r : List ℕ) → Full t → Flat t → IsSome (after n (opened t))
    → MeansEach (rest t n) false false r ↔ MeansEach (unrooted (after n (opened t))) false false r
rest_same {A = A} t n r full flat some =
    let xs : Trees A = after (owner t n).1 (members (owner t n).0) in
    let e : after n (opened t) ≡ opened_last xs = owner_opened t flat n in
    let w : FullEach xs = after_full (owner t n).1 (members (owner t n).0)
    (members_full (owner t n).0 (full_here (inner_cut t n) t n full (inner_full t full n))) in
    let k : Same xs r = same_rest xs r (not_none xs (subst IsSome e some)) w
    (settled (inner_cut t n) t n (inner_settles t flat n)) in (
      (λ m. subst (λ z. MeansEach (unrooted z) false false r) (sym e) (k.0 m)),
      λ m. k.1 (subst (λ z. MeansEach (unrooted z) false false r) e m),
    )

-- the rest means r exactly if the glob means the prefix and r
pub rest_means : {A : Type 0} (t : Tree A) (n : ℕ) (p r : List ℕ) → Full t → Flat t
    → (IsRooted (opened t) → begins_with_leaf (opened t) ≡ true) → Prefix t n p → IsSome (after n (opened t))
    → IsFree (opened t) n p →
    MeansEach (rest t n) false false r ↔ Means t false false (path p r)
rest_means t n p r full flat first h some free =
    let k : MeansEach (rest t n) false false r ↔ MeansEach (unrooted (after n (opened t))) false false r =
    rest_same t n r full flat some in
    let j : MeansEach (unrooted (after n (opened t))) false false r ↔ Means t false false (path p r) =
    rest_exact t n p r full first h some free in
    ((λ m. j.0 (k.0 m)), λ m. k.1 (j.1 m))
