-- As many captures as tokens that capture.
use Rattle.std.proofs.Common.{◌≡◌, ◌≤◌, ◌∷◌, ◌∙◌, ℕ, ℤ, Bool, true, false, Result, Ok, Err, List, [], length}
use Rattle.std.proofs.Common.{filter, map, take, drop, refl, sym, ap, subst, arith, neg_ℤ, nat_abs, pos}
use Rattle.std.proofs.{Common.{length-append, chars}, lemmas.List.length-map}
use Rattle.std.proofs.{lemmas.List.Elements.filter-append, lemmas.List.FromFn.length-enumerate_from}
use Rattle.wax.specs.GlobView.{GlobView}
use Rattle.wax.specs.Language.{Span, Tree, Trees, alternation, class, concatenation, leaf, literal}
use Rattle.wax.specs.Language.{annotation_of, is_capturing, listed, members, more, none, one, repetition}
use Rattle.wax.specs.{Language.{separator, tree, zero_or_more}, Matching.{cut, ends_of}, Queries.captures}
use Rattle.wax_capture.specs.Captures.{Captured, token_captures}
use Rattle.wax_c.proofs.Captured.{captures_fit}
use Rattle.wax_c.specs.{Captures.{Captures, CapturesAs, Texts}, Numbers.answer_number}
use Rattle.wax_c.specs.{Spans.{Spans, SpansAs, wax_span}, declared.error.CallError.CallError}
use Rattle.wax_c.specs.declared.error.CallError.TheVariants.{Build, NotText, NoRoom}
use Rattle.wax_c.specs.declared.globs.WaxSpan.{WaxSpan}

of_token : (t : Tree Span) (before : Bool) (x : List ℕ)
    → length (token_captures t before x) ≡ length (filter is_capturing (t ∷ []))
of_token (leaf a (literal b s)) before x = refl
of_token (leaf a separator) before x = refl
of_token (leaf a (class b xs)) before x = refl
of_token (leaf a one) before x = refl
of_token (leaf a (zero_or_more e)) before x = refl
of_token (leaf a (tree rooted)) before x = refl
of_token (alternation a ts) before x = refl
of_token (concatenation a ts) before x = refl
of_token (repetition a t low high) before x = refl

of_tokens : (ts : Trees Span) (before after : Bool) (s : List ℕ) (texts : List (List ℕ))
    → Captured ts before after s texts → length texts ≡ length (filter is_capturing (listed ts))
of_tokens none before after s texts (end, empty) = ap length empty
of_tokens (more t ts) before after s texts (n, chosen, others, rest, same) =
    let piece = token_captures t before (take n s) in
    omega (
      arith,
      ap length same,
      length-append piece others,
      of_token t before (take n s),
      of_tokens ts true after (drop n s) others rest,
      ap length (filter-append is_capturing (t ∷ []) (listed ts)),
      length-append (filter is_capturing (t ∷ [])) (filter is_capturing (listed ts)),
    )

pub counted : (g : GlobView) (s : List ℕ) (texts : List (List ℕ))
    → Captured (members g.tree) false false s texts → length texts ≡ length (captures g.tree)
counted g s texts captured =
    let tokens = filter is_capturing (listed (members g.tree)) in
    of_tokens (members g.tree) false false s texts captured
    ∙ sym (length-enumerate_from 1 (map annotation_of tokens) ∙ length-map tokens annotation_of)

-- so these outputs aren't too small
pub texts_fit : (g : GlobView) (path : List ℕ) (before after : Texts) (count : ℕ)
    (outcome : Result Bool CallError) → Captures g path before after count outcome
    → length path ≤ length before.bytes → length (captures g.tree) ≤ length before.lengths
    → answer_number outcome ≡ neg_ℤ (pos 21) → ⊥
texts_fit g path before after count (Ok true) ends few enough is = omega (arith, ap nat_abs is)
texts_fit g path before after count (Ok false) ends few enough is = omega (arith, ap nat_abs is)
texts_fit g path before after count (Err NoRoom) (texts, (utf8, meant, captured), over, same, many) few
    enough is =
    let within : count ≤ length before.lengths = omega (arith, many, counted g _ texts captured, enough) in
    captures_fit g path before after count (Err NoRoom) (texts, (utf8, meant, captured), over, same, many) few
    within is
texts_fit g path before after count (Err NotText) ends few enough is = omega (arith, ap nat_abs is)
texts_fit g path before after count (Err (Build error)) (memory, same, zero) few enough is =
    let ten = subst (λ error. answer_number (Err (Build error)) ≡ neg_ℤ (pos 21)) memory is in
    omega (arith, ap nat_abs ten)

spans_fit : (g : GlobView) (path : List ℕ) (before after : List WaxSpan) (count : ℕ)
    (outcome : Result Bool CallError) → Spans g path before after count outcome
    → length (captures g.tree) ≤ length before → answer_number outcome ≡ neg_ℤ (pos 21) → ⊥
spans_fit g path before after count (Ok true) ends enough is = omega (arith, ap nat_abs is)
spans_fit g path before after count (Ok false) ends enough is = omega (arith, ap nat_abs is)
spans_fit g path before after count (Err NoRoom) (spans, (utf8, meant, at), over, same, many) enough is =
    let text : Span → List ℕ = λ span. cut path (ends_of span) in
    omega (
      arith,
      counted g (chars path) (map text spans) at.texts,
      length-map spans text,
      length-map spans wax_span,
      over,
      enough,
    )
spans_fit g path before after count (Err NotText) ends enough is = omega (arith, ap nat_abs is)
spans_fit g path before after count (Err (Build error)) (memory, same, zero) enough is =
    let ten = subst (λ error. answer_number (Err (Build error)) ≡ neg_ℤ (pos 21)) memory is in
    omega (arith, ap nat_abs ten)

pub spans_as : (g g' : GlobView) (path : List ℕ) (before after : List WaxSpan) (count : ℕ)
    (outcome : Result Bool CallError) (number : ℤ) → g' ≡ g → Spans g' path before after count outcome
    → number ≡ answer_number outcome → SpansAs g path before after count number
spans_as g g' path before after count outcome number same ends is =
    let ends' = subst (λ g. Spans g path before after count outcome) same ends in
    let fit = spans_fit g path before after count outcome ends' in
    (outcome, ends', is, λ enough wrong. fit enough (sym is ∙ wrong))

pub captures_as : (g g' : GlobView) (path : List ℕ) (before after : Texts) (count : ℕ)
    (outcome : Result Bool CallError) (number : ℤ) → g' ≡ g → Captures g' path before after count outcome
    → number ≡ answer_number outcome → CapturesAs g path before after count number
captures_as g g' path before after count outcome number same ends is =
    let ends' = subst (λ g. Captures g path before after count outcome) same ends in (
      outcome,
      ends',
      is,
      λ few enough wrong.
          captures_fit g path before after count outcome ends' few enough (sym is ∙ wrong),
      λ few enough wrong.
          texts_fit g path before after count outcome ends' few enough (sym is ∙ wrong),
    )
