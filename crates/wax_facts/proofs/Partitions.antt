-- What is known of the two parts of a glob.
use Rattle.std.proofs.Common.{◌≡◌, ◌↔◌, ◌⊎◌, ℕ, false, List, Option, Some, None, IfSome, MatchOption, refl}
use Rattle.std.proofs.Common.{sym, subst}
use Rattle.wax_token.specs.{Meaning.Means, Reads.Span, Syntax.{Tree, concatenation, Trees, none, more}}
use Rattle.wax_token.specs.Words.{members}
use Rattle.wax_facts.specs.{Joined.{begins_with_leaf, path}, Orderly.{Flat, Full, FullEach, IsSome, Orderly}}
use Rattle.wax_facts.specs.Partition.{BeginsPlainly, IsPartition, IsSplit, MeansAfter, SplitsAll, glob_up_to}
use Rattle.wax_facts.specs.{Prefix.{IsRooted, opened}, Rest.{after, inner_cut, owner, rest, unrooted}}
use Rattle.wax_facts.proofs.{BranchRest.branch_rest, OpenedMeans.last_some}
use Rattle.wax_facts.proofs.{OwnerFull.{after_full, full_here, inner_full, members_full}, Owners.owner_opened}
use Rattle.wax_facts.proofs.{PrefixWhole.prefix_whole, RestOrderly.{rest_orderly, unrooted_some}}
use Rattle.wax_facts.proofs.{Splits.{orderly_rest, orderly_split}, WrittenRest.not_none}

-- ---- tokens are left of the opened list exactly where the rest has some
some_unrooted : {A : Type 0} (ts : Trees A) → IsSome (unrooted ts) → IsSome ts
some_unrooted none s = s
some_unrooted (more t ts) s = tt

left_some : (t : Tree Span) (n : ℕ) → Full t → Flat t → IsSome (rest t n) → IsSome (after n (opened t))
left_some t n full flat some =
    let xs : Trees Span = after (owner t n).1 (members (owner t n).0) in
    let w : FullEach xs = after_full (owner t n).1 (members (owner t n).0)
    (members_full (owner t n).0 (full_here (inner_cut t n) t n full (inner_full t full n))) in
    subst IsSome (sym (owner_opened t flat n)) (last_some xs (some_unrooted xs some) w)

none_left : (t : Tree Span) (n : ℕ) → Flat t → rest t n ≡ none → IsSome (after n (opened t)) → ⊥
none_left t n flat e some =
    let xs : Trees Span = after (owner t n).1 (members (owner t n).0) in
    subst IsSome e (unrooted_some xs (not_none xs (subst IsSome (owner_opened t flat n) some)))

-- ---- the rest as a glob
glob_some : (end : ℕ) (ts : Trees Span) (u : Tree Span) → glob_up_to end ts ≡ Some u
    → (s : Span) × (u ≡ concatenation s ts) × IsSome ts
glob_some end none u e = absurd (let f : ⊥ = cc in f)
glob_some end (more t ts) u e = (_, sym (same e), tt)
  where
    same : {x y : Tree Span} → Some x ≡ Some y → x ≡ y
    same f = cc

glob_none : (end : ℕ) (ts : Trees Span) → glob_up_to end ts ≡ None → ts ≡ none
glob_none end none e = refl
glob_none end (more t ts) e = absurd (let f : ⊥ = cc in f)

module _ (t : Tree Span) (p : List ℕ) where
  pub split_partition : (ts : Trees Span) (end : ℕ) → IsSplit t p ts end
      → IsPartition t p (glob_up_to end (unrooted ts))
  split_partition ts end k = (k.0, k.1, λ w. (λ i. glob_up_to ((k.2 w).1 i) (unrooted ((k.2 w).0 i))))

  pub partition_rest : (o : Option (Tree Span)) → IsPartition t p o
      → IfSome o (λ u. Orderly t → BeginsPlainly t → MeansAfter t p u)
  partition_rest None k = tt
  partition_rest (Some u) k = λ w b s.
      let r : (a : Span) × (u ≡ concatenation a (rest t k.0)) × IsSome (rest t k.0) =
      glob_some _ (rest t k.0) u (sym (k.2 w.1)) in
      subst (λ z. Means z false false s ↔ Means t false false (path p s)) (sym r.1)
      (orderly_rest t k.0 p s w k.1 (left_some t k.0 w.0 w.1 r.2) b)

  pub partition_split : (o : Option (Tree Span)) → IsPartition t p o
      → IfSome o (λ u. Orderly t → BeginsPlainly t → SplitsAll t p u)
  partition_split None k = tt
  partition_split (Some u) k = λ w b s m.
      let r : (a : Span) × (u ≡ concatenation a (rest t k.0)) × IsSome (rest t k.0) =
      glob_some _ (rest t k.0) u (sym (k.2 w.1)) in
      subst (λ z. (s ≡ p) ⊎ ((x : List ℕ) × (s ≡ path p x) × Means z false false x)) (sym r.1)
      (orderly_split t k.0 p s w k.1 (left_some t k.0 w.0 w.1 r.2) b m)

  pub partition_branch : (o : Option (Tree Span)) → IsPartition t p o →
      IfSome o (λ u. Full t → Flat t → IsRooted (opened t) → begins_with_leaf (opened t) ≡ false
      → (s : List ℕ) → Means u false false s ↔ Means t false false s)
  partition_branch None k = tt
  partition_branch (Some u) k = λ w v b e s.
      let r : (a : Span) × (u ≡ concatenation a (rest t k.0)) × IsSome (rest t k.0) =
      glob_some _ (rest t k.0) u (sym (k.2 v)) in
      subst (λ z. Means z false false s ↔ Means t false false s) (sym r.1) (branch_rest t k.0 p s w v k.1 b e)

  pub partition_whole : (o : Option (Tree Span)) → IsPartition t p o
      → MatchOption o (Full t → Flat t → (s : List ℕ) → Means t false false s ↔ (s ≡ p)) (λ u. Unit {0})
  partition_whole None k =
      λ w v s. prefix_whole t k.0 p s w k.1 (none_left t k.0 v (glob_none _ (rest t k.0) (sym (k.2 v))))
  partition_whole (Some u) k = tt

  pub partition_orderly : (o : Option (Tree Span)) → IsPartition t p o → IfSome o (λ u. Orderly t → Orderly u)
  partition_orderly None k = tt
  partition_orderly (Some u) k = λ w.
      let r : (a : Span) × (u ≡ concatenation a (rest t k.0)) × IsSome (rest t k.0) =
      glob_some _ (rest t k.0) u (sym (k.2 w.1)) in
      subst Orderly (sym r.1) (rest_orderly r.0 t k.0 w (left_some t k.0 w.0 w.1 r.2))
