-- The rest of a flat glob that keeps the rules keeps them.
use Rattle.std.proofs.Common.{◌≡◌, ◌&&◌, ℕ, List, Option, Some, None, IfSome, true, ap, chars, subst, sym}
use Rattle.std.proofs.lemmas.Bool.{and_parts}
use Rattle.std.specs.Cow.{cow_str_bytes}
use Rattle.wax_facts.specs.{Orderly.{Flat, FlatEach, FlatSome, is_token}, Partition.rest_end, Rest.left}
use Rattle.wax_partition.specs.Partition.{IsPartition, rest_glob, rest_text, spelled_rest}
use Rattle.wax_partition.specs.inner.Flatness.{branches_are_flat, is_flat, members_are_flat}
use Rattle.wax_rule.specs.{Keeping.{KeepsRules, rest}, Shifted.shifted_rest}
use Rattle.wax_token.specs.Reads.{Span, utf8_len}
use Rattle.wax_token.specs.Syntax.{Tree, leaf, alternation, concatenation, repetition, Trees, none, more}
use Rattle.wax_token.specs.declared.token.Tokenized.{Tokenized}

mutual
  pub flat_from : {A : Type 0} (t : Tree A) → is_flat t ≡ true → Flat t
  flat_from (leaf a l) e = tt
  flat_from (alternation a ts) e = branches_from ts e
  flat_from (concatenation a ts) e = members_from ts e
  flat_from (repetition a t low high) e = flat_from t e

  branches_from : {A : Type 0} (ts : Trees A) → branches_are_flat ts ≡ true → FlatSome ts
  branches_from none e = tt
  branches_from (more t ts) e =
      let p : (is_flat t ≡ true) × (branches_are_flat ts ≡ true) =
      and_parts (is_flat t) (branches_are_flat ts) e in
      (flat_from t p.0, branches_from ts p.1)

  members_from : {A : Type 0} (ts : Trees A) → members_are_flat ts ≡ true → FlatEach ts
  members_from none e = tt
  members_from (more t ts) e =
      let p : (is_token t ≡ true) × ((is_flat t && members_are_flat ts) ≡ true) =
      and_parts (is_token t) (is_flat t && members_are_flat ts) e in
      let q : (is_flat t ≡ true) × (members_are_flat ts ≡ true) =
      and_parts (is_flat t) (members_are_flat ts) p.1 in
      (p.0, flat_from t q.0, members_from ts q.1)

token_is : (a b : List ℕ × Tree Span) → Some a ≡ Some b → a.1 ≡ b.1
token_is a b e = let k : a ≡ b = cc in ap (λ z. z.1) k

-- the token of the rest
spanned : (e : List ℕ) (end : ℕ) (ts : Trees Span) (a : List ℕ × Tree Span) → Some a ≡ rest_glob e end ts →
    (s : Span) × (a.1 ≡ concatenation s (shifted_rest ts))
spanned e end none a q = absurd (let f : ⊥ = cc in f)
spanned e end (more t ts) a q =
    let s : Span = (0, utf8_len (rest_text e end t)) in
    (s, token_is a (rest_text e end t, concatenation s (shifted_rest (more t ts))) q)

pub parts_keep : (e : List ℕ) (t : Tree Span) (p : List ℕ) (o : Option (Tokenized Span))
    → IsPartition e t p (spelled_rest o) →
    IfSome o (λ u. Flat t → KeepsRules t → KeepsRules u.token)
parts_keep e t p None k = tt
parts_keep e t p (Some u) k = λ flat kept.
    let a : List ℕ × Tree Span = (chars (cow_str_bytes u.expression), u.token) in
    let is : (s : Span) × (u.token ≡ concatenation s (shifted_rest (left t k.0))) =
    spanned e (rest_end t k.0) (left t k.0) a (k.2 flat) in
    subst KeepsRules (sym is.1) (rest t k.0 p is.0 kept flat k.1)
