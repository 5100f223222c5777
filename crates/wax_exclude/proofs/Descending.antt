-- What is below an entry that is excluded with everything below it is excluded too; and what the marks keep.
use Rattle.std.proofs.Common.{◌≡◌, ℕ, Bool, IsTrue, true, false, not, ◌⊎◌, cond, List, [], ◌∷◌, ◌++◌, refl}
use Rattle.std.proofs.Common.{sym, ap, subst, ◌∙◌, inl, inr, arith, append_assoc, append-nil}
use Rattle.wax_facts.proofs.Means.{as_members, means_one_of, of_members}
use Rattle.wax_facts.specs.Alternatives.{alternatives}
use Rattle.wax_components.specs.TopLevel.{tokens_of}
use Rattle.wax_token.specs.Decided.{means_test, means_tested}
use Rattle.wax_token.specs.Meaning.{TreeMeans, Means, MeansSome, MeansEach}
use Rattle.wax_token.specs.Spelled.{LiteralsHaveNoSlash, AllHaveNoSlash}
use Rattle.wax_token.specs.Syntax.{literal, class, separator, one, zero_or_more, tree, Tree, leaf}
use Rattle.wax_token.specs.Syntax.{alternation, concatenation, repetition, Trees, none, more}
use Rattle.wax_token.specs.Words.{members, trees, listed}
use Rattle.wax_query.specs.{Components.BeginsWithSlash, Below.{slashed, joined_names, AreNames}}
use Rattle.wax_walk.specs.{Candidates.Candidate, Given.with_tree}
use Rattle.wax_exclude.proofs.LeadingComponents.{lead, sep_leads}
use Rattle.wax_exclude.proofs.Components.{RowsLead, leading_rows, rows_lead}
use Rattle.wax_exclude.proofs.Tests.{lead_tested, covers_tested}
use Rattle.wax_exclude.specs.Candidates.{base, text_at, candidate_at}
use Rattle.wax_exclude.specs.Covers.{is_everything, ends_wild, Covers, CoversSome, covers_test}
use Rattle.wax_exclude.specs.Leading.{leading, leading_of, begins_with_separator, Lead, lead_test}
use Rattle.wax_exclude.specs.Marks.{led_mark, covered_mark, glob_mark, not_mark}
use Rattle.wax_exclude.specs.{inner.Descents.{said_of, Descends}, inner.Stacks.keeps}

-- ---- a glob's walk

lead_less : {A : Type 0} (cs : List (List (Tree A))) (names others : List (List ℕ))
    → Lead cs (names ++ others)
    → Lead cs names
lead_less [] names others h = tt
lead_less (c ∷ cs) [] others h = tt
lead_less (c ∷ cs) (n ∷ names) others h = (h.0, lead_less cs names others h.1)

falls : (a b : Bool) → (b ≡ true → a ≡ true) → a ≡ false → b ≡ false
falls a true f e = sym (f refl) ∙ e
falls a false f e = refl

unled : (b c : Bool) → led_mark b c ≡ with_tree → b ≡ false
unled true true e = cc
unled true false e = cc
unled false c e = refl

pub glob_descends : {A : Type 0} (rooted : Bool) (t : Tree A) → Descends rooted (glob_mark rooted t)
glob_descends rooted t names others h e =
    let cs = leading_of rooted t in
    let before = lead_test cs names in
    let after = lead_test cs (names ++ others) in
    let less : after ≡ true → before ≡ true = λ k. (lead_tested cs names).1
    (lead_less cs names others ((lead_tested cs (names ++ others)).0 k)) in
    ap (λ b. led_mark b (means_test t false false (text_at rooted (names ++ others))))
    (falls before after less (unled before (means_test t false false (text_at rooted names)) e))

-- ---- if a candidate matches, the leading components lead to it

spelled_members : {A : Type 0} (t : Tree A) → LiteralsHaveNoSlash t → AllHaveNoSlash (members t)
spelled_members (leaf x l) h = (h, tt)
spelled_members (alternation x ts) h = (h, tt)
spelled_members (concatenation x ts) h = h
spelled_members (repetition x t low high) h = (h, tt)

no_names : {A : Type 0} (cs : List (List (Tree A))) → Lead cs []
no_names [] = tt
no_names (c ∷ cs) = tt

rest_meant : {A : Type 0} (x : A) (us : Trees A) (b a : Bool) (s : List ℕ)
    → MeansEach (more (leaf x separator) us) b a (47 ∷ s) → MeansEach us true a s
rest_meant x none b a s h = cc
rest_meant x (more u us) b a s h =
    let e : h.1 ≡ s = (let f = h.2 in let g = h.3 in cc) in
    subst (λ v. MeansEach (more u us) true a v) e h.4

from_root : {A : Type 0} (ts : Trees A) (n : List ℕ) (names : List (List ℕ)) → AllHaveNoSlash ts
    → AreNames (n ∷ names) → MeansEach ts false false (47 ∷ (n ++ slashed names))
    → begins_with_separator (listed ts) ≡ true → RowsLead (leading_rows ts) (n ∷ names)
from_root none n names p q h e = tt
from_root (more (leaf x separator) us) n names p q h e =
    subst (λ v. RowsLead v (n ∷ names)) (sym (sep_leads x us))
    (lead us true false n names p.1 q.1 q.2 (λ i. q.0) (rest_meant x us false false (n ++ slashed names) h))
from_root (more (leaf x (literal i s)) us) n names p q h e = cc
from_root (more (leaf x (class i s)) us) n names p q h e = cc
from_root (more (leaf x one) us) n names p q h e = cc
from_root (more (leaf x (zero_or_more z)) us) n names p q h e = cc
from_root (more (leaf x (tree r)) us) n names p q h e = cc
from_root (more (alternation x ts) us) n names p q h e = cc
from_root (more (concatenation x ts) us) n names p q h e = cc
from_root (more (repetition x t low high) us) n names p q h e = cc

led_from_root : {A : Type 0} (t : Tree A) (n : List ℕ) (names : List (List ℕ)) → LiteralsHaveNoSlash t
    → AreNames (n ∷ names) → Means t false false (47 ∷ (n ++ slashed names))
    → (b : Bool) → begins_with_separator (tokens_of t) ≡ b
    → Lead (cond (not b) [] (leading t)) (n ∷ names)
led_from_root t n names p q h true e = rows_lead (members t) (n ∷ names)
    (from_root (members t) n names (spelled_members t p) q
    (as_members t false false (47 ∷ (n ++ slashed names)) h) e)
led_from_root t n names p q h false e = tt

-- each name of a candidate that the glob means is meant by the leading component at its place
pub meant_led : {A : Type 0} (rooted : Bool) (t : Tree A) (names : List (List ℕ)) → LiteralsHaveNoSlash t
    → AreNames names → Means t false false (text_at rooted names) → Lead (leading_of rooted t) names
meant_led rooted t [] p q h = no_names (leading_of rooted t)
meant_led false t (n ∷ names) p q h = rows_lead (members t) (n ∷ names)
    (lead (members t) false false n names (spelled_members t p) q.1 q.2 (λ e. q.0)
    (as_members t false false (n ++ slashed names) h))
meant_led true t (n ∷ names) p q h =
    led_from_root t n names p q h (begins_with_separator (tokens_of t)) refl

keeps_led : (b m : Bool) → (m ≡ true → b ≡ true) → keeps (led_mark b m) ≡ m
keeps_led true true f = refl
keeps_led true false f = refl
keeps_led false true f = f refl
keeps_led false false f = refl

-- the walk keeps exactly what the glob means
pub glob_keeps : {A : Type 0} (rooted : Bool) (t : Tree A) (names : List (List ℕ)) → LiteralsHaveNoSlash t
    → AreNames names
    → keeps (said_of rooted (glob_mark rooted t) names) ≡ means_test t false false (text_at rooted names)
glob_keeps rooted t names p q =
    keeps_led (lead_test (leading_of rooted t) names) (means_test t false false (text_at rooted names))
    (λ m. (lead_tested (leading_of rooted t) names).1
    (meant_led rooted t names p q ((means_tested t false false (text_at rooted names)).0 m)))

-- ---- a pattern that is left out

begins_more : (s r : List ℕ) → BeginsWithSlash s → BeginsWithSlash (s ++ r)
begins_more s r h = (h.0 ++ r, ap (λ v. v ++ r) h.1)

empty_or_begins : (s r : List ℕ) → (s ≡ []) ⊎ BeginsWithSlash s
    → (s ++ 47 ∷ r ≡ []) ⊎ BeginsWithSlash (s ++ 47 ∷ r)
empty_or_begins s r h =
    elim h [ inl e ↦ inr (r, ap (λ v. v ++ 47 ∷ r) e) | inr b ↦ inr (begins_more s (47 ∷ r) b) ]

wild_more : (b rooted : Bool) (s r : List ℕ) → TreeMeans b false rooted s
    → TreeMeans b false rooted (s ++ 47 ∷ r)
wild_more false false s r h = tt
wild_more false true s r h = begins_more s (47 ∷ r) h
wild_more true false s r h = empty_or_begins s r h
wild_more true true s r h = empty_or_begins s r h

-- a text that ends with what a last `**` means goes on below
pub wild_goes_on : {A : Type 0} (ts : Trees A) (b : Bool) (s r : List ℕ) → ends_wild ts ≡ true
    → MeansEach ts b false s → MeansEach ts b false (s ++ 47 ∷ r)
wild_goes_on none b s r e h = cc
wild_goes_on (more (leaf x (tree rooted)) none) b s r e h = wild_more b rooted s r h
wild_goes_on (more (leaf x (literal i l)) none) b s r e h = cc
wild_goes_on (more (leaf x (class i l)) none) b s r e h = cc
wild_goes_on (more (leaf x separator) none) b s r e h = cc
wild_goes_on (more (leaf x one) none) b s r e h = cc
wild_goes_on (more (leaf x (zero_or_more z)) none) b s r e h = cc
wild_goes_on (more (alternation x ts) none) b s r e h = cc
wild_goes_on (more (concatenation x ts) none) b s r e h = cc
wild_goes_on (more (repetition x t low high) none) b s r e h = cc
wild_goes_on (more t (more u us)) b s r e h = (
  h.0,
  h.1 ++ 47 ∷ r,
  ap (λ v. v ++ 47 ∷ r) h.2 ∙ append_assoc h.0 h.1 (47 ∷ r),
  h.3,
  wild_goes_on (more u us) true h.1 r e h.4,
)

slashed_append : (names others : List (List ℕ)) → slashed (names ++ others) ≡ slashed names ++ slashed others
slashed_append [] others = refl
slashed_append (n ∷ names) others = ap (λ v. 47 ∷ v)
    (ap (λ v. n ++ v) (slashed_append names others) ∙ sym (append_assoc n (slashed names) (slashed others)))

joined_append : (n : List ℕ) (names others : List (List ℕ))
    → joined_names ((n ∷ names) ++ others) ≡ joined_names (n ∷ names) ++ slashed others
joined_append n names others =
    ap (λ v. n ++ v) (slashed_append names others) ∙ sym (append_assoc n (slashed names) (slashed others))

covers_below : {A : Type 0} (t : Tree A) (rooted : Bool) (names others : List (List ℕ))
    → Covers t (candidate_at rooted names) → Covers t (candidate_at rooted (names ++ others))
covers_below t rooted names others (inl e) = inl e
covers_below t rooted [] others (inr h) = absurd (omega (arith, h.2))
covers_below t rooted (n ∷ names) [] (inr h) =
    subst (λ v. Covers t (candidate_at rooted v)) (sym (append-nil (n ∷ names))) (inr h)
covers_below t rooted (n ∷ names) (m ∷ others) (inr h) =
    let s = text_at rooted (n ∷ names) in
    let e : text_at rooted ((n ∷ names) ++ m ∷ others) ≡ s ++ 47 ∷ (m ++ slashed others) =
    ap (λ v. base rooted ++ v) (joined_append n names (m ∷ others))
    ∙ sym (append_assoc (base rooted) (joined_names (n ∷ names)) (slashed (m ∷ others))) in
    inr (
      h.0,
      subst (λ v. Means t false false v) (sym e) (of_members t false false _
          (wild_goes_on (members t) false s (m ++ slashed others) h.0 (as_members t false false s h.1))),
      omega arith,
    )

pub covers_some_below : {A : Type 0} (ts : List (Tree A)) (rooted : Bool) (names others : List (List ℕ))
    → CoversSome ts (candidate_at rooted names) → CoversSome ts (candidate_at rooted (names ++ others))
covers_some_below [] rooted names others h = h
covers_some_below (t ∷ ts) rooted names others (inl h) = inl (covers_below t rooted names others h)
covers_some_below (t ∷ ts) rooted names others (inr h) = inr (covers_some_below ts rooted names others h)

pub covered : (b m : Bool) → covered_mark b m ≡ with_tree → b ≡ true
covered true m e = refl
covered false true e = cc
covered false false e = cc

pub not_descends : {A : Type 0} (rooted : Bool) (t : Tree A) → Descends rooted (not_mark t)
not_descends rooted t names others h e =
    let ts = alternatives t in
    let s = candidate_at rooted names in
    let u = candidate_at rooted (names ++ others) in
    ap (λ b. covered_mark b (means_test t false false u.text))
    ((covers_tested ts u).1 (covers_some_below ts rooted names others
    ((covers_tested ts s).0 (covered (covers_test ts s) (means_test t false false s.text) e))))

everything : {A : Type 0} (ts : Trees A) (s : List ℕ) → is_everything ts ≡ true → MeansEach ts false false s
everything none s e = cc
everything (more (leaf x (tree false)) none) s e = tt
everything (more (leaf x (tree true)) none) s e = cc
everything (more (leaf x (literal i l)) none) s e = cc
everything (more (leaf x (class i l)) none) s e = cc
everything (more (leaf x separator) none) s e = cc
everything (more (leaf x one) none) s e = cc
everything (more (leaf x (zero_or_more z)) none) s e = cc
everything (more (alternation x us) none) s e = cc
everything (more (concatenation x us) none) s e = cc
everything (more (repetition x u low high) none) s e = cc
everything (more u (more v vs)) s e = cc

-- a token that is everything matches every text
pub everything_meant : {A : Type 0} (t : Tree A) (answer : Bool)
    → answer ≡ is_everything (members t) → IsTrue answer
    → (text : List ℕ) → Means t false false text
everything_meant t answer e true_is text =
    of_members t false false text (everything (members t) text (sym e ∙ true_is))

-- what is covered is meant
covers_meant : {A : Type 0} (t : Tree A) (c : Candidate) → Covers t c → Means t false false c.text
covers_meant t c (inl e) = of_members t false false c.text (everything (members t) c.text e)
covers_meant t c (inr h) = h.1

pub covers_some_meant : {A : Type 0} (ts : List (Tree A)) (c : Candidate) → CoversSome ts c
    → MeansSome (trees ts) false false c.text
covers_some_meant [] c h = h
covers_some_meant (t ∷ ts) c (inl h) = inl (covers_meant t c h)
covers_some_meant (t ∷ ts) c (inr h) = inr (covers_some_meant ts c h)

pub keeps_uncovered : (b m : Bool) → (b ≡ true → m ≡ true) → keeps (covered_mark b m) ≡ not m
keeps_uncovered true m f = sym (ap not (f refl))
keeps_uncovered false true f = refl
keeps_uncovered false false f = refl

-- an excluded pattern keeps exactly what it doesn't match
pub not_keeps : {A : Type 0} (t : Tree A) (c : Candidate)
    → keeps (not_mark t c) ≡ not (means_test t false false c.text)
not_keeps t c =
    let ts = alternatives t in
    keeps_uncovered (covers_test ts c) (means_test t false false c.text)
    (λ e. (means_tested t false false c.text).1 ((means_one_of t ts refl false false c.text).1
    (covers_some_meant ts c ((covers_tested ts c).0 e))))
