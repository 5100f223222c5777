-- Worked examples: both parts, with the spans that the rest's expression gives.
use Rattle.std.proofs.Common.{◌≡◌, ◌∙◌, ◌++◌, ℕ, true, false, List, [], ◌∷◌, Some, None, arith, ap, codes}
use Rattle.std.proofs.Common.{get_or, inl, inr, refl, sym}
use Rattle.wax_query.specs.declared.query.when.When.TheVariants.{Never, Always}
use Rattle.wax_token.specs.{declared.token.Evaluation.TheVariants.Eager, Reads.Span}
use Rattle.wax_token.specs.Syntax.{Tree, leaf, alternation, concatenation, repetition, literal, separator}
use Rattle.wax_token.specs.{Syntax.{zero_or_more, tree}, Words.trees}
use Rattle.wax_facts.specs.InvariantText.{Text}
use Rattle.wax_partition.specs.Partition.{IsPartition}

never : Never ≡ Always → ⊥
never e = cc

-- no text is both `lib` and `main`
abbrev lib_main : Tree Span
lib_main = alternation (5, 10) (trees (concatenation (6, 3) (trees (leaf (6, 3) (literal false (codes "lib"))
    ∷ [])) ∷ concatenation (10, 4) (trees (leaf (10, 4) (literal false (codes "main")) ∷ [])) ∷ []))

lib_or_main : (x : List ℕ) → Text lib_main x → ⊥
lib_or_main x h =
    let k : codes "lib" ++ [] ≡ codes "main" ++ [] =
    sym (h.0.2 ∙ (λ i. h.0.3 i ++ h.0.4 i)) ∙ h.1.2 ∙ (λ i. h.1.3 i ++ h.1.4 i) in
    omega (arith, ap (λ z. get_or z 0 0) k)

-- `/**/x`: `/`, and `**/x`
abbrev after_root : Tree Span
after_root =
    concatenation (0, 5) (trees (leaf (0, 4) (tree true) ∷ leaf (4, 1) (literal false (codes "x")) ∷ []))

abbrev after_root_rest : Tree Span
after_root_rest =
    concatenation (0, 4) (trees (leaf (0, 3) (tree false) ∷ leaf (3, 1) (literal false (codes "x")) ∷ []))

after_root_parts : IsPartition (codes "/**/x") after_root (codes "/") (Some (codes "**/x", after_root_rest))
after_root_parts = (0, inl ((refl, λ s h. h), refl, refl), λ w. refl)

-- `{src/*.rs}`: `src/`, and `*.rs`
abbrev in_braces : Tree Span
in_braces = concatenation (0, 10) (trees (alternation (0, 10)
    (trees (concatenation (1, 8) (trees (leaf (1, 3) (literal false (codes "src")) ∷ leaf (4, 1) separator
    ∷ leaf (5, 1) (zero_or_more Eager) ∷ leaf (6, 3) (literal false (codes ".rs")) ∷ [])) ∷ [])) ∷ []))

abbrev in_braces_rest : Tree Span
in_braces_rest = concatenation (0, 4)
    (trees (leaf (0, 1) (zero_or_more Eager) ∷ leaf (1, 3) (literal false (codes ".rs")) ∷ []))

in_braces_parts : IsPartition (codes "{src/*.rs}") in_braces (codes "src/")
    (Some (codes "*.rs", in_braces_rest))
in_braces_parts = (
  2,
  inr (
    (λ r. never r.0),
    (
      Some (2, codes "src/"),
      inr (inr (
        codes "src",
        Some (1, codes "/"),
        refl,
        inr (inr (codes "/", None, refl, inr (inl (refl, (λ s h. h), refl)), refl)),
        refl,
      )),
      refl,
      refl,
    ),
  ),
  λ w. refl,
)

-- `src/{a/*.rs}`: `src/a/`, and `*.rs`
abbrev in_last_braces : Tree Span
in_last_braces = concatenation (0, 12) (trees
    (leaf (0, 3) (literal false (codes "src")) ∷ leaf (3, 1) separator ∷ alternation (4, 8)
    (trees (concatenation (5, 6) (trees (leaf (5, 1) (literal false (codes "a")) ∷ leaf (6, 1) separator
    ∷ leaf (7, 1) (zero_or_more Eager) ∷ leaf (8, 3) (literal false (codes ".rs")) ∷ [])) ∷ [])) ∷ []))

abbrev in_last_braces_rest : Tree Span
in_last_braces_rest = concatenation (0, 4)
    (trees (leaf (0, 1) (zero_or_more Eager) ∷ leaf (1, 3) (literal false (codes ".rs")) ∷ []))

in_last_braces_parts : IsPartition (codes "src/{a/*.rs}") in_last_braces (codes "src/a/")
    (Some (codes "*.rs", in_last_braces_rest))
in_last_braces_parts = (
  4,
  inr (
    (λ r. never r.0),
    (
      Some (4, codes "src/a/"),
      inr (inr (
        codes "src",
        Some (3, codes "/a/"),
        refl,
        inr (inr (
          codes "/",
          Some (2, codes "a/"),
          refl,
          inr (inr (
            codes "a",
            Some (1, codes "/"),
            refl,
            inr (inr (codes "/", None, refl, inr (inl (refl, (λ s h. h), refl)), refl)),
            refl,
          )),
          refl,
        )),
        refl,
      )),
      refl,
      refl,
    ),
  ),
  λ w. refl,
)

-- `src{/**/x}`: `src`, and `**/x`
abbrev tree_in_braces : Tree Span
tree_in_braces = concatenation (0, 10)
    (trees (leaf (0, 3) (literal false (codes "src")) ∷ alternation (3, 7) (trees (concatenation (4, 5)
    (trees (leaf (4, 4) (tree true) ∷ leaf (8, 1) (literal false (codes "x")) ∷ [])) ∷ [])) ∷ []))

abbrev tree_in_braces_rest : Tree Span
tree_in_braces_rest =
    concatenation (0, 4) (trees (leaf (0, 3) (tree false) ∷ leaf (3, 1) (literal false (codes "x")) ∷ []))

tree_in_braces_parts : IsPartition (codes "src{/**/x}") tree_in_braces (codes "src")
    (Some (codes "**/x", tree_in_braces_rest))
tree_in_braces_parts = (
  1,
  inr (
    (λ r. never r.0),
    (
      Some (1, codes "src"),
      inr (inr (codes "src", Some (0, codes ""), refl, inl (refl, refl), refl)),
      refl,
      refl,
    ),
  ),
  λ w. refl,
)

-- `{tests/**}`: `tests`, and `**`
abbrev tree_at_the_end : Tree Span
tree_at_the_end = concatenation (0, 10) (trees (alternation (0, 10) (trees (concatenation (1, 8)
    (trees (leaf (1, 5) (literal false (codes "tests")) ∷ leaf (6, 3) (tree true) ∷ [])) ∷ [])) ∷ []))

abbrev tree_at_the_end_rest : Tree Span
tree_at_the_end_rest = concatenation (0, 2) (trees (leaf (0, 2) (tree false) ∷ []))

tree_at_the_end_parts : IsPartition (codes "{tests/**}") tree_at_the_end (codes "tests")
    (Some (codes "**", tree_at_the_end_rest))
tree_at_the_end_parts = (
  1,
  inr (
    (λ r. never r.0),
    (
      Some (1, codes "tests"),
      inr (inr (codes "tests", Some (0, codes ""), refl, inl (refl, refl), refl)),
      refl,
      refl,
    ),
  ),
  λ w. refl,
)

-- `</a/*:1>`: `/a/`, and `*`
abbrev slash_in_a_copy : Tree Span
slash_in_a_copy = concatenation (0, 8)
    (trees (repetition (0, 8) (concatenation (1, 4) (trees (leaf (1, 1) separator ∷ leaf (2, 1) (literal false
    (codes "a")) ∷ leaf (3, 1) separator ∷ leaf (4, 1) (zero_or_more Eager) ∷ []))) 1 (Some 1) ∷ []))

abbrev slash_in_a_copy_rest : Tree Span
slash_in_a_copy_rest = concatenation (0, 1) (trees (leaf (0, 1) (zero_or_more Eager) ∷ []))

slash_in_a_copy_parts : IsPartition (codes "</a/*:1>") slash_in_a_copy (codes "/a/")
    (Some (codes "*", slash_in_a_copy_rest))
slash_in_a_copy_parts = (
  3,
  inr (
    (λ r. r.1 (codes "/") refl),
    (
      Some (3, codes "/a/"),
      inr (inr (
        codes "/",
        Some (2, codes "a/"),
        refl,
        inr (inr (
          codes "a",
          Some (1, codes "/"),
          refl,
          inr (inr (codes "/", None, refl, inr (inl (refl, (λ s h. h), refl)), refl)),
          refl,
        )),
        refl,
      )),
      refl,
      refl,
    ),
  ),
  λ w. refl,
)

-- `{a(?i)/**}`: `a`, and `(?i)**`
abbrev tree_with_flags : Tree Span
tree_with_flags = concatenation (0, 10) (trees (alternation (0, 10) (trees (concatenation (1, 8)
    (trees (leaf (1, 1) (literal false (codes "a")) ∷ leaf (2, 7) (tree true) ∷ [])) ∷ [])) ∷ []))

abbrev tree_with_flags_rest : Tree Span
tree_with_flags_rest = concatenation (0, 6) (trees (leaf (0, 6) (tree false) ∷ []))

tree_with_flags_parts : IsPartition (codes "{a(?i)/**}") tree_with_flags (codes "a")
    (Some (codes "(?i)**", tree_with_flags_rest))
tree_with_flags_parts = (
  1,
  inr (
    (λ r. never r.0),
    (
      Some (1, codes "a"),
      inr (inr (codes "a", Some (0, codes ""), refl, inl (refl, refl), refl)),
      refl,
      refl,
    ),
  ),
  λ w. refl,
)

-- `</**/a:1>`: `/`, and `**/a`
abbrev tree_in_a_copy : Tree Span
tree_in_a_copy = concatenation (0, 9) (trees (repetition (0, 9) (concatenation (1, 5)
    (trees (leaf (1, 4) (tree true) ∷ leaf (5, 1) (literal false (codes "a")) ∷ []))) 1 (Some 1) ∷ []))

abbrev tree_in_a_copy_rest : Tree Span
tree_in_a_copy_rest =
    concatenation (0, 4) (trees (leaf (0, 3) (tree false) ∷ leaf (3, 1) (literal false (codes "a")) ∷ []))

tree_in_a_copy_parts : IsPartition (codes "</**/a:1>") tree_in_a_copy (codes "/")
    (Some (codes "**/a", tree_in_a_copy_rest))
tree_in_a_copy_parts = (0, inl ((refl, λ s h. h), refl, refl), λ w. refl)

-- `<src/{lib,main}.rs:1>`: `src/`, and `{lib,main}.rs`
abbrev in_a_copy : Tree Span
in_a_copy = concatenation (0, 21) (trees (repetition (0, 21) (concatenation (1, 17) (trees
    (leaf (1, 3) (literal false (codes "src")) ∷ leaf (4, 1) separator ∷ alternation (5, 10)
    (trees (concatenation (6, 3) (trees (leaf (6, 3) (literal false (codes "lib")) ∷ []))
    ∷ concatenation (10, 4) (trees (leaf (10, 4) (literal false (codes "main")) ∷ [])) ∷ []))
    ∷ leaf (15, 3) (literal false (codes ".rs")) ∷ []))) 1 (Some 1) ∷ []))

abbrev in_a_copy_rest : Tree Span
in_a_copy_rest = concatenation (0, 13) (trees
    (alternation (0, 10) (trees (concatenation (1, 3) (trees (leaf (1, 3) (literal false (codes "lib")) ∷ []))
    ∷ concatenation (5, 4) (trees (leaf (5, 4) (literal false (codes "main")) ∷ [])) ∷ []))
    ∷ leaf (10, 3) (literal false (codes ".rs")) ∷ []))

in_a_copy_parts : IsPartition (codes "<src/{lib,main}.rs:1>") in_a_copy (codes "src/")
    (Some (codes "{lib,main}.rs", in_a_copy_rest))
in_a_copy_parts = (
  2,
  inr (
    (λ r. never r.0),
    (
      Some (2, codes "src/"),
      inr (inr (
        codes "src",
        Some (1, codes "/"),
        refl,
        inr (inr (codes "/", None, refl, inr (inl (refl, lib_or_main, refl)), refl)),
        refl,
      )),
      refl,
      refl,
    ),
  ),
  λ w. refl,
)

-- `src/{a/<x*:1>}`: `src/a/`, and `<x*:1>`
abbrev two_deep : Tree Span
two_deep = concatenation (0, 14) (trees (leaf (0, 3) (literal false (codes "src")) ∷ leaf (3, 1) separator
    ∷ alternation (4, 10) (trees (concatenation (5, 8) (trees (leaf (5, 1) (literal false (codes "a")) ∷ leaf
    (6, 1) separator ∷ repetition (7, 6) (concatenation (8, 2) (trees (leaf (8, 1) (literal false (codes "x"))
    ∷ leaf (9, 1) (zero_or_more Eager) ∷ []))) 1 (Some 1) ∷ [])) ∷ [])) ∷ []))

abbrev two_deep_rest : Tree Span
two_deep_rest = concatenation (0, 6) (trees (repetition (0, 6) (concatenation (1, 2) (trees
    (leaf (1, 1) (literal false (codes "x")) ∷ leaf (2, 1) (zero_or_more Eager) ∷ []))) 1 (Some 1) ∷ []))

two_deep_parts : IsPartition (codes "src/{a/<x*:1>}") two_deep (codes "src/a/")
    (Some (codes "<x*:1>", two_deep_rest))
two_deep_parts = (
  4,
  inr (
    (λ r. never r.0),
    (
      Some (4, codes "src/a/"),
      inr (inr (
        codes "src",
        Some (3, codes "/a/"),
        refl,
        inr (inr (
          codes "/",
          Some (2, codes "a/"),
          refl,
          inr (inr (
            codes "a",
            Some (1, codes "/"),
            refl,
            inr (inr (
              codes "/",
              None,
              refl,
              inr (inr (codes "x", None, refl, inr (inl (refl, (λ s h. h), refl)), refl)),
              refl,
            )),
            refl,
          )),
          refl,
        )),
        refl,
      )),
      refl,
      refl,
    ),
  ),
  λ w. refl,
)

-- `src/{*.rs}`: `src/`, and `{*.rs}`
abbrev braces_kept : Tree Span
braces_kept = concatenation (0, 10) (trees (leaf (0, 3) (literal false (codes "src"))
    ∷ leaf (3, 1) separator ∷ alternation (4, 6) (trees (concatenation (5, 4)
    (trees (leaf (5, 1) (zero_or_more Eager) ∷ leaf (6, 3) (literal false (codes ".rs")) ∷ [])) ∷ [])) ∷ []))

abbrev braces_kept_rest : Tree Span
braces_kept_rest = concatenation (0, 6) (trees (alternation (0, 6) (trees (concatenation (1, 4)
    (trees (leaf (1, 1) (zero_or_more Eager) ∷ leaf (2, 3) (literal false (codes ".rs")) ∷ [])) ∷ [])) ∷ []))

braces_kept_parts : IsPartition (codes "src/{*.rs}") braces_kept (codes "src/")
    (Some (codes "{*.rs}", braces_kept_rest))
braces_kept_parts = (
  2,
  inr (
    (λ r. never r.0),
    (
      Some (2, codes "src/"),
      inr (inr (
        codes "src",
        Some (1, codes "/"),
        refl,
        inr (inr (codes "/", None, refl, inr (inl (refl, (λ s h. h), refl)), refl)),
        refl,
      )),
      refl,
      refl,
    ),
  ),
  λ w. refl,
)

-- `{a/}x{b/*}`: `a/xb/`, and `*`
abbrev braces_before : Tree Span
braces_before = concatenation (0, 10) (trees (alternation (0, 4) (trees (concatenation (1, 2)
    (trees (leaf (1, 1) (literal false (codes "a")) ∷ leaf (2, 1) separator ∷ [])) ∷ [])) ∷ leaf (4, 1)
    (literal false (codes "x")) ∷ alternation (5, 5) (trees (concatenation (6, 3) (trees (leaf (6, 1) (literal
    false (codes "b")) ∷ leaf (7, 1) separator ∷ leaf (8, 1) (zero_or_more Eager) ∷ [])) ∷ [])) ∷ []))

abbrev braces_before_rest : Tree Span
braces_before_rest = concatenation (0, 1) (trees (leaf (0, 1) (zero_or_more Eager) ∷ []))

braces_before_parts : IsPartition (codes "{a/}x{b/*}") braces_before (codes "a/xb/")
    (Some (codes "*", braces_before_rest))
braces_before_parts = (
  4,
  inr (
    (λ r. never r.0),
    (
      Some (4, codes "a/xb/"),
      inr (inr (
        codes "a/",
        Some (3, codes "xb/"),
        (_, _, refl, refl, (_, _, refl, refl, refl)),
        inr (inr (
          codes "x",
          Some (2, codes "b/"),
          refl,
          inr (inr (
            codes "b",
            Some (1, codes "/"),
            refl,
            inr (inr (codes "/", None, refl, inr (inl (refl, (λ s h. h), refl)), refl)),
            refl,
          )),
          refl,
        )),
        refl,
      )),
      refl,
      refl,
    ),
  ),
  λ w. refl,
)

-- `{src/*}.rs`: nothing, and `{src/*}.rs`
abbrev nothing_taken : Tree Span
nothing_taken = concatenation (0, 10) (trees (alternation (0, 7)
    (trees (concatenation (1, 5) (trees (leaf (1, 3) (literal false (codes "src")) ∷ leaf (4, 1) separator
    ∷ leaf (5, 1) (zero_or_more Eager) ∷ [])) ∷ [])) ∷ leaf (7, 3) (literal false (codes ".rs")) ∷ []))

abbrev nothing_taken_rest : Tree Span
nothing_taken_rest = concatenation (0, 10) (trees (alternation (0, 7)
    (trees (concatenation (1, 5) (trees (leaf (1, 3) (literal false (codes "src")) ∷ leaf (4, 1) separator
    ∷ leaf (5, 1) (zero_or_more Eager) ∷ [])) ∷ [])) ∷ leaf (7, 3) (literal false (codes ".rs")) ∷ []))

nothing_taken_parts : IsPartition (codes "{src/*}.rs") nothing_taken (codes "")
    (Some (codes "{src/*}.rs", nothing_taken_rest))
nothing_taken_parts =
    (0, inr ((λ r. never r.0), (None, inr (inl (refl, (λ s h. h.4.4.3), refl)), refl, refl)), λ w. refl)
