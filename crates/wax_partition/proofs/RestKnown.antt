-- What is known of the two parts of an expression.
use Rattle.std.proofs.Common.{◌≡◌, ◌↔◌, ◌⊎◌, ◌≤◌, ◌+◌, ℕ, false, List, Option, Some, None, IfSome}
use Rattle.std.proofs.Common.{MatchOption, ap, chars, refl, sym, subst, arith}
use Rattle.std.specs.Cow.{cow_str_bytes}
use Rattle.wax_token.specs.{Cost.{costs, program_length}, Meaning.Means, Reads.{Span, utf8_len}}
use Rattle.wax_token.specs.Syntax.{Tree, concatenation, Trees, none, more}
use Rattle.wax_token.specs.declared.token.Tokenized.{Tokenized}
use Rattle.wax_facts.specs.{Joined.{begins_with_leaf, path}, Orderly.{Flat, Full, IsSome, Orderly}}
use Rattle.wax_facts.specs.Partition.{BeginsPlainly, IsPartition as IsInPlace, MeansAfter, SplitsAll}
use Rattle.wax_facts.specs.Partition.{glob_up_to, rest_end, rest_glob as rest_in_place}
use Rattle.wax_facts.specs.{Prefix.{IsRooted, opened}, Rest.{left, rest, unrooted}}
use Rattle.wax_facts.proofs.Partitions.{partition_branch, partition_orderly, partition_rest, partition_split}
use Rattle.wax_facts.proofs.{Partitions.partition_whole, RestOrderly.unrooted_some}
use Rattle.wax_partition.specs.Partition.{IsPartition, rest_glob, rest_text, spelled_rest}
use Rattle.wax_rule.specs.Shifted.{shifted_rest}
use Rattle.wax_partition.proofs.{RestCosts.{left_costs, rest_costs}, RestMeans.{rest_means, rest_orderly}}

glob_at : (P : Tree Span → Type 0) (end : ℕ) (ts : Trees Span) → IsSome ts → IfSome (glob_up_to end ts) P
    → (s : Span) × P (concatenation s ts)
glob_at P end none s h = absurd s
glob_at P end (more t ts) s h = (_, h)

token_is : (a b : List ℕ × Tree Span) → Some a ≡ Some b → a.1 ≡ b.1
token_is a b e = let k : a ≡ b = cc in ap (λ z. z.1) k

-- a fact of the rest in place, that no span changes
abbrev Carries : (Tree Span → Type 0) → Type 0
Carries P = (r s : Span) (ts : Trees Span) → P (concatenation s (unrooted ts))
    → P (concatenation r (shifted_rest ts))

glob_carried : (P : Tree Span → Type 0) → Carries P
    → (e : List ℕ) (end m : ℕ) (ts : Trees Span) (a : List ℕ × Tree Span) →
    Some a ≡ rest_glob e end ts → IfSome (glob_up_to m (unrooted ts)) P → P a.1
glob_carried P f e end m none a q h = absurd (let g : ⊥ = cc in g)
glob_carried P f e end m (more t ts) a q h =
    let k : (s : Span) × P (concatenation s (unrooted (more t ts))) =
    glob_at P m (unrooted (more t ts)) (unrooted_some (more t ts) tt) h in
    let b : List ℕ × Tree Span =
    (rest_text e end t, concatenation (0, utf8_len (rest_text e end t)) (shifted_rest (more t ts))) in
    subst P (sym (token_is a b q)) (f (0, utf8_len (rest_text e end t)) k.0 (more t ts) k.1)

none_carried : (e : List ℕ) (end m : ℕ) (ts : Trees Span) → None ≡ rest_glob e end ts
    → None ≡ glob_up_to m (unrooted ts)
none_carried e end m none q = refl
none_carried e end m (more t ts) q = absurd (let g : ⊥ = cc in g)

-- a fact of what the rest means
means_carried : (G : (List ℕ → Type 0) → Type 0) → Carries (λ u. G (Means u false false))
means_carried G r s ts h =
    let k : Means (concatenation r (shifted_rest ts)) false false
    ≡ Means (concatenation s (unrooted ts)) false false = λ i x. rest_means false false x ts i in
    subst G (sym k) h

orderly_carried : Carries Orderly
orderly_carried r s ts h = subst (λ Z. Z) (sym (rest_orderly r ts)) h

glob_costs : (end most : ℕ) (ts : Trees Span) → costs ts + 1 ≤ most
    → IfSome (glob_up_to end ts) (λ v. program_length v ≤ most)
glob_costs end most none h = tt
glob_costs end most (more t ts) h = h

module _ (e : List ℕ) (t : Tree Span) (p : List ℕ) where
  in_place : (o : Option (Tokenized Span)) → (k : IsPartition e t p (spelled_rest o))
      → IsInPlace t p (rest_in_place t k.0)
  in_place o k = (k.0, k.1, λ w. refl)

  carried : (P : Tree Span → Type 0) → Carries P → (u : Tokenized Span)
      → (k : IsPartition e t p (spelled_rest (Some u))) → Flat t →
      IfSome (rest_in_place t k.0) P → P u.token
  carried P f u k w h =
      let a : List ℕ × Tree Span = (chars (cow_str_bytes u.expression), u.token) in
      glob_carried P f e (rest_end t k.0) (rest_end t k.0) (left t k.0) a (k.2 w) h

  pub parts_rest : (o : Option (Tokenized Span)) → IsPartition e t p (spelled_rest o) →
      IfSome o (λ u. Orderly t → BeginsPlainly t → MeansAfter t p u.token)
  parts_rest None k = tt
  parts_rest (Some u) k = λ w.
      carried _ (means_carried (λ M. Orderly t → BeginsPlainly t → (s : List ℕ)
      → M s ↔ Means t false false (path p s))) u k w.1
      (partition_rest t p (rest_in_place t k.0) (in_place (Some u) k)) w

  pub parts_split : (o : Option (Tokenized Span)) → IsPartition e t p (spelled_rest o) →
      IfSome o (λ u. Orderly t → BeginsPlainly t → SplitsAll t p u.token)
  parts_split None k = tt
  parts_split (Some u) k = λ w.
      carried _ (means_carried (λ M. Orderly t → BeginsPlainly t → (s : List ℕ) → Means t false false s →
      (s ≡ p) ⊎ ((r : List ℕ) × (s ≡ path p r) × M r))) u k w.1
      (partition_split t p (rest_in_place t k.0) (in_place (Some u) k)) w

  pub parts_branch : (o : Option (Tokenized Span)) → IsPartition e t p (spelled_rest o) →
      IfSome o (λ u. Full t → Flat t → IsRooted (opened t) → begins_with_leaf (opened t) ≡ false
      → (s : List ℕ) → Means u.token false false s ↔ Means t false false s)
  parts_branch None k = tt
  parts_branch (Some u) k = λ w v.
      carried _ (means_carried (λ M. Full t → Flat t → IsRooted (opened t)
      → begins_with_leaf (opened t) ≡ false → (s : List ℕ) → M s ↔ Means t false false s)) u k v
      (partition_branch t p (rest_in_place t k.0) (in_place (Some u) k)) w v

  pub parts_whole : (o : Option (Tokenized Span)) → IsPartition e t p (spelled_rest o) →
      MatchOption o (Full t → Flat t → (s : List ℕ) → Means t false false s ↔ (s ≡ p)) (λ _. Unit {0})
  parts_whole None k =
      partition_whole t p None
      (k.0, k.1, λ w. none_carried e (rest_end t k.0) (rest_end t k.0) (left t k.0) (k.2 w))
  parts_whole (Some u) k = tt

  pub parts_orderly : (o : Option (Tokenized Span)) → IsPartition e t p (spelled_rest o)
      → IfSome o (λ u. Orderly t → Orderly u.token)
  parts_orderly None k = tt
  parts_orderly (Some u) k = λ w.
      carried (λ v. Orderly t → Orderly v) (λ r s ts h x. orderly_carried r s ts (h x)) u k w.1
      (partition_orderly t p (rest_in_place t k.0) (in_place (Some u) k)) w

  pub parts_fits : (o : Option (Tokenized Span)) → IsPartition e t p (spelled_rest o) →
      IfSome o (λ u. Flat t → program_length u.token ≤ program_length t)
  parts_fits None k = tt
  parts_fits (Some u) k = λ w.
      carried (λ v. program_length v ≤ program_length t)
      (λ r s ts h. rest_costs s r (program_length t) ts h) u k w
      (glob_costs (rest_end t k.0) (program_length t) (rest t k.0) (omega (arith, left_costs t k.0)))
