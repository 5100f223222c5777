-- Folders below which everything is excluded.
use Rattle.std.proofs.Common.{◌≡◌, ◌↔◌, ◌==◌, ◌||◌, ◌&&◌, ℕ, Bool, IsTrue, true, false, not, cond, List, []}
use Rattle.std.proofs.Common.{◌∷◌, ◌++◌, length, refl, sym, ap, subst, ◌∙◌, inl, inr, arith, append_assoc}
use Rattle.std.proofs.{Common.nat_lt, lemmas.Bool.lt-ltb}
use Rattle.std.specs.{Prelude.filter, List.{list_any, onto_first, slice_split}}
use mir.Val.{bool_byte}
use Rattle.wax_facts.proofs.Means.{as_members, means_one_of, of_members}
use Rattle.wax_facts.specs.Alternatives.{alternatives}
use Rattle.wax_directory.specs.Names.{is_some_name, names_in_path}
use Rattle.wax_query.specs.Below.{IsBelow, ends_open}
use Rattle.wax_token.specs.{Decided.{means_test, means_tested}, Meaning.{Means, MeansSome}, Reads.Span}
use Rattle.wax_token.specs.{Syntax.Tree, Words.{members, trees}}
use Rattle.wax_walk.specs.{Candidates.Candidate, Given.{Mark, with_tree}}
use Rattle.wax_exclude.proofs.Descending.{covered, everything_meant, wild_goes_on}
use Rattle.wax_exclude.proofs.{Ignored.{below_ignored, below_tested}, Tests.covers_tested}
use Rattle.wax_exclude.specs.Candidates.{NoSlashAfterNames, folder_at}
use Rattle.wax_exclude.specs.Covers.{Covers, CoversSome, covers_test, is_everything, some_everything}
use Rattle.wax_exclude.specs.{Covers.wild_test, Excluded.{excluded_mark, some_test}, GlobRequests.IsRuleOf}
use Rattle.wax_exclude.specs.Ignored.{IgnoresBelow, Line, all_ignore, below_test, ignore_mark, is_ignored}
use Rattle.wax_exclude.specs.{Marks.covered_mark, Walked.ExcludesBelow}
use Rattle.wax_exclude.specs.Wanted.{Filter, excludes, filter_mark, not_ignored, not_meant}

-- ---- folders as rules see them

first_named : (c : ℕ) (parts : List (List ℕ))
    → nat_lt 0 (length (filter is_some_name (onto_first c parts))) ≡ true
first_named c [] = refl
first_named c (part ∷ parts) =
    lt-ltb 0 (length (filter is_some_name (onto_first c (part ∷ parts)))) (omega arith)

-- a text has a name if one of its characters isn't `/`
named : (s : List ℕ) → nat_lt 0 (folder_at s).depth ≡ list_any (λ c. not (c == 47)) s
named [] = refl
named (c ∷ s) =
    let parts = slice_split (λ d. d == 47) s in
    elim (c == 47) as (λ b. nat_lt 0 (length (filter is_some_name (cond b ([] ∷ parts) (onto_first c parts))))
    ≡ (not b || list_any (λ d. not (d == 47)) s)) [
      | true ↦ named s
      | false ↦ first_named c parts
    ]

count_named : (b : Bool) → nat_lt 0 (bool_byte b) ≡ b
count_named true = refl
count_named false = refl

pub depth_named : (depth : ℕ) (b : Bool) (s t : List ℕ) → depth ≡ bool_byte b
    → b ≡ list_any (λ c. not (c == 47)) s
    → s ≡ t → nat_lt 0 depth ≡ nat_lt 0 (folder_at t).depth
depth_named depth b s t d e f =
    ap (nat_lt 0) d ∙ count_named b ∙ e ∙ ap (list_any (λ c. not (c == 47))) f ∙ sym (named t)

-- rules ask for the text, and whether there is a name
module _ (c d : Candidate) (text : c.text ≡ d.text) (depth : nat_lt 0 c.depth ≡ nat_lt 0 d.depth) where
  covers_alike : {A : Type 0} (ts : List (Tree A)) → covers_test ts c ≡ covers_test ts d
  covers_alike ts = λ i. some_everything ts || (depth i && wild_test ts (text i))

  excluded_alike : {A : Type 0} (ts : List (Tree A)) → excluded_mark ts c ≡ excluded_mark ts d
  excluded_alike ts = λ i. covered_mark (covers_alike ts i) (some_test ts (text i))

  below_alike : (lines : List (Line Span)) → below_test lines c ≡ below_test lines d
  below_alike [] = refl
  below_alike (line ∷ lines) = λ i.
      (line.ignores && (all_ignore lines && covers_alike (alternatives line.glob) i)) || below_alike lines i

  ignored_alike : (lines : List (Line Span)) → ignore_mark lines c ≡ ignore_mark lines d
  ignored_alike lines = λ i. covered_mark (below_alike lines i) (is_ignored lines (text i))

-- ---- marks

covered_so : (b m : Bool) → (covered_mark b m ≡ with_tree) ↔ IsTrue b
covered_so b m = (covered b m, (λ e. ap (λ v. covered_mark v m) e))

-- an answer that says whether a mark excludes everything below
abbrev Asks : Bool → Mark → Type 0
Asks answer mark = IsTrue answer ↔ (mark ≡ with_tree)

answers_same : (answer : Bool) (mark other : Mark) → mark ≡ other → Asks answer mark → Asks answer other
answers_same answer mark other e asks = ((λ t. sym e ∙ asks.0 t), (λ t. asks.1 (e ∙ t)))

module _ (answer : Bool) (mark : Mark) (asks : Asks answer mark) (c d : Candidate) (text : c.text ≡ d.text)
    (depth : nat_lt 0 c.depth ≡ nat_lt 0 d.depth) where
  module _ (ts : List (Tree Span)) (e : mark ≡ excluded_mark ts c) where
    pub answers_excluded : Asks answer (excluded_mark ts d)
    answers_excluded =
        answers_same answer mark (excluded_mark ts d) (e ∙ excluded_alike c d text depth ts) asks

    pub answers_covers : IsTrue answer ↔ CoversSome ts d
    answers_covers =
        let so = covered_so (covers_test ts d) (some_test ts d.text) in
        let tested = covers_tested ts d in
        ((λ t. tested.0 (so.0 (answers_excluded.0 t))), (λ h. answers_excluded.1 (so.1 (tested.1 h))))

  module _ (lines : List (Line Span)) (e : mark ≡ ignore_mark lines c) where
    pub answers_mark : Asks answer (ignore_mark lines d)
    answers_mark =
        answers_same answer mark (ignore_mark lines d) (e ∙ ignored_alike c d text depth lines) asks

    pub answers_lines : IsTrue answer ↔ IgnoresBelow lines d
    answers_lines =
        let so = covered_so (below_test lines d) (is_ignored lines d.text) in
        let tested = below_tested lines d in
        ((λ t. tested.0 (so.0 (answers_mark.0 t))), (λ h. answers_mark.1 (so.1 (tested.1 h))))

excludes_so : {A : Type 0} (x : Filter A) (c : Candidate) → (filter_mark x c ≡ with_tree) ↔ ExcludesBelow x c
excludes_so (not_meant t) c =
    let so = covered_so (covers_test (alternatives t) c) (means_test t false false c.text) in
    let tested = covers_tested (alternatives t) c in
    ((λ e. tested.0 (so.0 e)), (λ h. so.1 (tested.1 h)))
excludes_so (not_ignored lines) c =
    let so = covered_so (below_test lines c) (is_ignored lines c.text) in
    let tested = below_tested lines c in
    ((λ e. tested.0 (so.0 e)), (λ h. so.1 (tested.1 h)))

pub answers_filter : {A : Type 0} (answer : Bool) (rule : Candidate → Mark) (c : Candidate)
    → Asks answer (rule c)
    → (x : Filter A) → IsRuleOf x rule → IsTrue answer ↔ ExcludesBelow x c
answers_filter answer rule c asks x is =
    let so = excludes_so x c in
    ((λ t. so.0 (sym (is c) ∙ asks.0 t)), (λ h. asks.1 (is c ∙ so.1 h)))

-- ---- what is below, by texts

text_below : (folder s : List ℕ) → ends_open folder ≡ false → IsBelow folder s
    → (r : List ℕ) × (s ≡ folder ++ 47 ∷ r)
text_below folder s closed h = (
  h.0,
  h.2 ∙ ap (λ b. cond b folder (folder ++ 47 ∷ []) ++ h.0) closed ∙ append_assoc folder (47 ∷ []) h.0,
)

module _ (folder s : List ℕ) (ends : NoSlashAfterNames folder) (below : IsBelow folder s) where
  covers_means : {A : Type 0} (t : Tree A) → Covers t (folder_at folder) → Means t false false s
  covers_means t (inl e) = everything_meant t (is_everything (members t)) refl e s
  covers_means t (inr h) = elim ends [
    | inl none ↦
        (let n : length (names_in_path folder) ≡ 0 = ap length none in absurd (omega (arith, n, h.2)))
    | inr closed ↦ (let more = text_below folder s closed below in
        subst (λ v. Means t false false v) (sym more.1) (of_members t false false _
        (wild_goes_on (members t) false folder more.0 h.0 (as_members t false false folder h.1))))
  ]

  -- an alternative that covers the folder means what is below it
  pub covers_some_means : {A : Type 0} (ts : List (Tree A)) → CoversSome ts (folder_at folder)
      → MeansSome (trees ts) false false s
  covers_some_means [] h = h
  covers_some_means (t ∷ ts) (inl h) = inl (covers_means t h)
  covers_some_means (t ∷ ts) (inr h) = inr (covers_some_means ts h)

  pub ignores_text : {A : Type 0} (lines : List (Line A)) → IgnoresBelow lines (folder_at folder)
      → is_ignored lines s ≡ true
  ignores_text lines h = below_ignored lines false (folder_at folder) s (λ ts k. covers_some_means ts k) h

  pub excludes_text : {A : Type 0} (x : Filter A) → ExcludesBelow x (folder_at folder) → excludes x s ≡ true
  excludes_text (not_meant t) h = (means_tested t false false s).1
      ((means_one_of t (alternatives t) refl false false s).1 (covers_some_means (alternatives t) h))
  excludes_text (not_ignored lines) h = ignores_text lines h
