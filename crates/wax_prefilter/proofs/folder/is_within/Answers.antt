use Rattle.std.proofs.Common.{◌≡◌, ◌≢◌, ◌++◌, MatchOption, List, ℕ, chars, sym, subst}
use Rattle.std.proofs.{lemmas.Bool.Decides.Decides-eqb, lemmas.Slice.Eq.strip_prefix_is}
use Rattle.wax_prefilter.proofs.Within.{bytes_within, empty_rest, rest_within, slash_first, slash_rest}
use Rattle.wax_prefilter.proofs.Within.{within_below, within_whole}
use Rattle.wax_prefilter.specs.Within.{IsInFolder}
use Rattle.wax_prefilter.proofs.folder.is_within.Goals as goal

pub returns-then-is_empty : goal.returns-then-is_empty
returns-then-is_empty c =
    let text = c.as_bytes.result.now in
    let folder = c.as_bytes-2.result.now in
    let rest = c.in-Some.rest.now in
    let cut : text ≡ folder ++ rest = subst
    (λ r. MatchOption r ((x : List ℕ) → text ≢ folder ++ x) (λ x. text ≡ folder ++ x.now)) c.in-Some.is
    (strip_prefix_is Decides-eqb text folder c.strip_prefix.result c.strip_prefix.ensures.cases) in
    let within : IsInFolder (chars folder) (chars text) =
    within_whole text folder rest c.as_bytes-2.ensures.utf8 cut (empty_rest rest c.if-is_empty.ensures) in
    (λ _. rw (sym c.as_bytes.ensures.value, sym c.as_bytes-2.ensures.value) within, λ _. c.if-is_empty.true)

pub returns-else-is_empty : goal.returns-else-is_empty
returns-else-is_empty c =
    let text = c.as_bytes.result.now in
    let folder = c.as_bytes-2.result.now in
    let rest = c.in-Some.rest.now in
    let cut : text ≡ folder ++ rest = subst
    (λ r. MatchOption r ((x : List ℕ) → text ≢ folder ++ x) (λ x. text ≡ folder ++ x.now)) c.in-Some.is
    (strip_prefix_is Decides-eqb text folder c.strip_prefix.result c.strip_prefix.ensures.cases) in (
      λ slash.
          let (below, is) = slash_rest rest c.if-is_empty.ensures slash in
          rw (sym c.as_bytes.ensures.value, sym c.as_bytes-2.ensures.value)
          (within_below text folder rest below c.as_bytes-2.ensures.utf8 cut is),
      λ within. slash_first rest c.if-is_empty.ensures
          (rest_within text folder rest c.as_bytes.ensures.utf8 c.as_bytes-2.ensures.utf8
          c.in-Some.ensures.cases.1
          (rw (c.as_bytes.ensures.value, c.as_bytes-2.ensures.value) within)),
    )

pub returns-in-None : goal.returns-in-None
returns-in-None c =
    let text = c.as_bytes.result.now in
    let folder = c.as_bytes-2.result.now in
    let not : (x : List ℕ) → text ≢ folder ++ x = subst
    (λ r. MatchOption r ((x : List ℕ) → text ≢ folder ++ x) (λ x. text ≡ folder ++ x.now)) c.in-None.is
    (strip_prefix_is Decides-eqb text folder c.strip_prefix.result c.strip_prefix.ensures.cases) in (
      λ no. absurd (cc),
      λ within.
          let (rest, e, _) = bytes_within text folder c.as_bytes.ensures.utf8 c.as_bytes-2.ensures.utf8
          (rw (c.as_bytes.ensures.value, c.as_bytes-2.ensures.value) within) in
          absurd (not rest e),
    )
