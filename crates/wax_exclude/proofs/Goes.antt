-- Whether something below a folder is meant, by its text and by its names.
use Rattle.std.proofs.Common.{◌≡◌, ◌↔◌, ℕ, Bool, true, false, if◌then◌else◌, List, [], ◌∷◌, ◌++◌, refl, sym}
use Rattle.std.proofs.Common.{Option, ap, subst, ◌∙◌, append_assoc}
use Rattle.std.specs.Str.{all_scalars}
use Rattle.wax_prefilter.specs.Below.{MeansWithin, goes_test, goes_tested}
use Rattle.wax_query.specs.Below.{AreNames, folder_text, joined_names, slashed}
use Rattle.wax_token.specs.{Meaning.Means, Syntax.Tree}
use Rattle.wax_exclude.proofs.Names.{closed_after}
use Rattle.wax_exclude.specs.{Candidates.{base, text_at}, Pruned.{MeansLonger, TestsBelow}}

slashed_append : (names more : List (List ℕ)) → slashed (names ++ more) ≡ slashed names ++ slashed more
slashed_append [] more = refl
slashed_append (n ∷ names) more = ap (λ v. 47 ∷ v)
    (ap (λ v. n ++ v) (slashed_append names more) ∙ sym (append_assoc n (slashed names) (slashed more)))

-- the text of some names, as it begins those of what is below
closed_text : (rooted : Bool) (n : List ℕ) (names : List (List ℕ)) → AreNames (n ∷ names)
    → folder_text (text_at rooted (n ∷ names)) ≡ text_at rooted (n ∷ names) ++ 47 ∷ []
closed_text rooted n names h =
    let p = text_at rooted (n ∷ names) in
    ap (λ b. if b then p else p ++ 47 ∷ []) (closed_after rooted n names h)

-- the texts below the text of some names are those of longer names
pub text_below : (rooted : Bool) (names more : List (List ℕ)) → AreNames names → ¬ (more ≡ [])
    → folder_text (text_at rooted names) ++ joined_names more ≡ text_at rooted (names ++ more)
text_below rooted names [] h some = absurd (some refl)
text_below false [] (m ∷ more) h some = refl
text_below true [] (m ∷ more) h some = refl
text_below rooted (n ∷ names) (m ∷ more) h some =
    let p = text_at rooted (n ∷ names) in
    let q = slashed (m ∷ more) in
    ap (λ v. v ++ joined_names (m ∷ more)) (closed_text rooted n names h)
    ∙ append_assoc p (47 ∷ []) (joined_names (m ∷ more))
    ∙ append_assoc (base rooted) (n ++ slashed names) q
    ∙ ap (λ v. base rooted ++ v) (append_assoc n (slashed names) q
    ∙ ap (λ v. n ++ v) (sym (slashed_append names (m ∷ more))))

-- the tree means the text of something at most so many names below that of some names exactly if it means
-- that of longer names, with at most so many more
pub means_by_names : {A : Type 0} (rooted : Bool) (t : Tree A) (most : Option ℕ) (names : List (List ℕ))
    → AreNames names → MeansWithin t most (text_at rooted names) ↔ MeansLonger rooted t most names
means_by_names rooted t most names h = (
  λ (s, (path, (more, are_more, some, few, path_is), s_is), all, m).
      let same : s ≡ text_at rooted (names ++ more) =
      s_is ∙ ap (λ v. folder_text (text_at rooted names) ++ v) path_is
      ∙ text_below rooted names more h some in (
        more,
        some,
        are_more,
        few,
        subst (λ v. all_scalars v ≡ true) same all,
        subst (λ v. Means t false false v) same m,
      ),
  λ (more, some, are_more, few, all, m). (
    text_at rooted (names ++ more),
    (joined_names more, (more, are_more, some, few, refl), sym (text_below rooted names more h some)),
    all,
    m,
  ),
)

-- the test of a tree by texts tells what it means by names
pub goes_tests : {A : Type 0} (rooted : Bool) (t : Tree A) → TestsBelow (goes_test t) rooted t
goes_tests rooted t most names h =
    let tested = goes_tested t most (text_at rooted names) in
    let longer = means_by_names rooted t most names h in
    ((λ g. longer.0 (tested.0 g)), (λ m. tested.1 (longer.1 m)))
