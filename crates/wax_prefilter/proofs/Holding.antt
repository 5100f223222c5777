-- What pieces of a text hold, the text holds.
use Rattle.std.proofs.Common.{◌≡◌, ℕ, ◌+◌, ◌-◌, ◌<◌, ◌≤◌, inl, inr, Bool, true, false, List, [], ◌∷◌, ◌++◌}
use Rattle.std.proofs.Common.{length, get_or, Some, slice_get, chars, IsUtf8, refl, sym, ◌∙◌, ap, subst}
use Rattle.std.proofs.{Common.{arith, append_assoc, append-nil, length-append}, lemmas.Bool.cases_lt}
use Rattle.std.proofs.{lemmas.List.Elements.All-push, lemmas.Str.{chars-nil, chars_past_char}}
use Rattle.std.proofs.lemmas.List.{get_or_default, get_or_append_left, get_or-append-add}
use Rattle.std.specs.List.{Any}
use Rattle.wax_prefilter.proofs.{MeantEdges.last_meant, MeantPieces.{each_meant, regroup}}
use Rattle.wax_prefilter.specs.Facts.{ContainsAt, ContainsOne}
use Rattle.wax_prefilter.specs.Known.{CanBeAfter, EachContainsOne, FactsOfMatches}
use Rattle.wax_prefilter.specs.declared.needle.Anchor.{Anchor}
use Rattle.wax_prefilter.specs.declared.needle.Anchor.TheVariants.{Beginning, End, Anywhere}
use Rattle.wax_query.specs.Components.{BeginsWithSlash}
use Rattle.wax_token.specs.{Meaning.{Means, MeansEach, SameText, TreeMeans}, Reads.Span}
use Rattle.wax_token.specs.Syntax.{Tree, Trees, leaf, alternation, concatenation, repetition}
use Rattle.wax_token.specs.Words.{members, trees}

-- ---- one of some

module _ {X : Type 0} (P : X → Type 0) where
  any_weaker : (Q : X → Type 0) (xs : List X) → ((x : X) → P x → Q x) → Any P xs → Any Q xs
  any_weaker Q xs f h = (h.0, h.1, h.2, h.3, f h.1 h.4)

  pub any_alone : (x : X) → P x → Any P (x ∷ [])
  any_alone x p = (0, x, omega arith, refl, p)

  pub any_left : (xs ys : List X) → Any P xs → Any P (xs ++ ys)
  any_left xs ys h =
      (h.0, h.1, (omega (arith, h.2, length-append xs ys)), get_or_append_left xs ys h.1 h.0 h.2 ∙ h.3, h.4)

  pub any_right : (xs ys : List X) → Any P ys → Any P (xs ++ ys)
  any_right xs ys h = (
    length xs + h.0,
    h.1,
    (omega (arith, h.2, length-append xs ys)),
    get_or-append-add xs ys h.0 h.1 ∙ h.3,
    h.4,
  )

  -- none of the first i
  abbrev pub NoneBefore : ℕ → List X → Type 0
  NoneBefore i xs = (k : ℕ) (x : X) → k < i → get_or xs k x ≡ x → P x → ⊥

  pub none_more : (xs : List X) (i : ℕ) (y : X) → i < length xs → y ≡ get_or xs i y → (P y → ⊥)
      → NoneBefore i xs → NoneBefore (i + 1) xs
  none_more xs i y lt is not before k x below e p = elim (cases_lt k i) [
    | inl less ↦ before k x less e p
    | inr more ↦
        let here : k ≡ i = omega (arith, below, more) in
        let same : x ≡ y = sym e ∙ ap (λ j. get_or xs j x) here ∙ get_or_default xs i x y lt ∙ sym is in
        not (subst P same p)
  ]

  pub none_at_all : (xs : List X) (i : ℕ) → length xs ≤ i → NoneBefore i xs → Any P xs → ⊥
  none_at_all xs i le before h = before h.0 h.1 (omega (arith, le, h.2)) h.3 h.4

-- ---- texts

pub stands_whole : (anchor : Anchor) (held : Bool × List ℕ) (text : List ℕ) → SameText held.0 held.1 text
    → ContainsAt anchor held text
stands_whole Beginning held text m = (text, [], sym (append-nil text), m)
stands_whole End held text m = ([], text, refl, m)
stands_whole Anywhere held text m = ([], text, [], sym (append-nil text), m)

pub slash_text : IsUtf8 (47 ∷ [])
unfolding lib.Utf8.encode
slash_text = (47 ∷ [], (refl, refl))

pub chars_slash : chars (47 ∷ []) ≡ 47 ∷ []
unfolding lib.Utf8.encode
chars_slash = chars_past_char (47 ∷ []) [] 47 slash_text refl ∙ ap (λ z. 47 ∷ z) chars-nil

pub same_slash : (text : List ℕ) → text ≡ 47 ∷ [] → SameText false (chars (47 ∷ [])) text
same_slash text e =
    subst (λ t. SameText false t text) (sym chars_slash) (subst (SameText false (47 ∷ [])) (sym e) (refl, tt))

-- a rooted tree wildcard with nothing before it
pub slash_begins : (after : Bool) (text : List ℕ) → TreeMeans false after true text
    → ContainsAt Beginning (false, chars (47 ∷ [])) text
slash_begins after text h =
    let b : BeginsWithSlash text = rooted after h in
    (47 ∷ [], b.0, b.1, same_slash (47 ∷ []) refl)
  where
    rooted : (after : Bool) → TreeMeans false after true text → BeginsWithSlash text
    rooted true h = h.0
    rooted false h = h

holds_at_end : (needles : List (Bool × List ℕ)) (text x y : List ℕ) → text ≡ x ++ y
    → ContainsOne End needles y → ContainsOne End needles text
holds_at_end needles text x y e = any_weaker (λ t. ContainsAt End t y) (λ t. ContainsAt End t text) needles
    (λ t h. (x ++ h.0, h.1, e ∙ ap (λ z. x ++ z) h.2 ∙ sym (append_assoc x h.0 h.1), h.3))

holds_anywhere : (needles : List (Bool × List ℕ)) (text x y z : List ℕ) → text ≡ x ++ (y ++ z)
    → ContainsOne Anywhere needles y → ContainsOne Anywhere needles text
holds_anywhere needles text x y z e =
    any_weaker (λ t. ContainsAt Anywhere t y) (λ t. ContainsAt Anywhere t text) needles
    (λ t h. (x ++ h.0, h.1, h.2 ++ z, e ∙ ap (λ w. x ++ (w ++ z)) h.3 ∙ regroup x h.0 h.1 h.2 z, h.4))

-- ---- tokens one after another

pub last_holds : (ts : List (Tree Span)) (t : Tree Span) (needles : List (Bool × List ℕ))
    → slice_get ts (length ts - 1) ≡ Some t
    → EachContainsOne End needles (Means t) → EachContainsOne End needles (MeansEach (trees ts))
last_holds ts t needles e known before after text alone h =
    let r : (b : Bool) × (a : Bool) × (x : List ℕ) × (y : List ℕ) × (text ≡ x ++ y) × Means t b a y =
    last_meant ts t e before after text h in
    holds_at_end needles text r.2 r.3 r.4 (known r.0 r.1 r.3 tt r.5)

pub one_holds : (ts : List (Tree Span)) (i : ℕ) (t : Tree Span) (needles : List (Bool × List ℕ))
    → i < length ts → t ≡ get_or ts i t
    → EachContainsOne Anywhere needles (Means t) → EachContainsOne Anywhere needles (MeansEach (trees ts))
one_holds ts i t needles lt e known before after text alone h =
    let r : (b : Bool) × (a : Bool) × (x : List ℕ) × (y : List ℕ) × (z : List ℕ)
    × (text ≡ x ++ (y ++ z)) × Means t b a y =
    each_meant ts i t lt e before after text h in
    holds_anywhere needles text r.2 r.3 r.4 r.5 (known r.0 r.1 r.3 tt r.6)

-- the members of a tree, one after another
members_meant : (t : Tree Span) (text : List ℕ) → Means t false false text
    → MeansEach (members t) false false text
members_meant (leaf a l) text h = h
members_meant (alternation a ts) text h = h
members_meant (concatenation a ts) text h = h
members_meant (repetition a t low high) text h = h

pub members_hold : (t : Tree Span) (ts : Trees Span) (needles : List (Bool × List ℕ)) → ts ≡ members t
    → EachContainsOne Anywhere needles (MeansEach ts) → (text : List ℕ) → Means t false false text
    → ContainsOne Anywhere needles text
members_hold t ts needles e known text h =
    known false false text tt (subst (λ us. MeansEach us false false text) (sym e) (members_meant t text h))

-- ---- facts

at_front : (anchor : Anchor) → CanBeAfter anchor false
at_front Beginning = refl
at_front End = tt
at_front Anywhere = tt

pub more_facts : (ts : Trees Span) (facts : List (Anchor × List (Bool × List ℕ))) (anchor : Anchor)
    (needles : List (Bool × List ℕ))
    → FactsOfMatches ts facts → EachContainsOne anchor needles (MeansEach ts)
    → FactsOfMatches ts (facts ++ (anchor, needles) ∷ [])
more_facts ts facts anchor needles pass known text h =
    All-push (λ fact. ContainsOne fact.0 fact.1 text) facts (anchor, needles) (pass text h)
    (known false false text (at_front anchor) h)
