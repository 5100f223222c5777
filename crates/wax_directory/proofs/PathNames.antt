-- The names that are distinct, and those of a path.
use Rattle.std.proofs.Common.{◌≡◌, ℕ, true, false, not, ◌||◌, ◌==◌, List, [], ◌∷◌, ◌++◌, length, refl, sym}
use Rattle.std.proofs.Common.{◌∙◌, ap, inl, inr, ◌-◌}
use Rattle.std.proofs.lemmas.Bool.{and_parts, and_from, and_left, and_right, or_parts, or_from, or_right}
use Rattle.std.proofs.lemmas.Bool.{or_cases, not-true, false≢true, not_from_true, not_from_false}
use Rattle.std.proofs.{Math.Dec.eqb-suc-zero, lemmas.Slice.Eq.bytes_eq-Decides}
use Rattle.std.proofs.lemmas.List.Folds.{list_any-append}
use Rattle.std.specs.{List.list_any, Str.bytes_eq}
use Rattle.wax_directory.specs.Names.{is_some_name, are_distinct}

pub some_name : (x : List ℕ) → not (length x == 0) ≡ is_some_name x
some_name [] = refl
some_name (c ∷ x) = ap not (eqb-suc-zero (length x))

pub bytes_eq-swap : (x y : List ℕ) → bytes_eq x y ≡ false → bytes_eq y x ≡ false
bytes_eq-swap x y h = elim (bytes_eq y x) as (λ b. bytes_eq y x ≡ b → b ≡ false) [
  | true ↦ λ e. absurd (false≢true (sym h ∙ (bytes_eq-Decides x y).1 (sym ((bytes_eq-Decides y x).0 e))))
  | false ↦ λ e. refl
] refl

pub distinct_push : (names : List (List ℕ)) (x : List ℕ) → list_any (bytes_eq x) names ≡ false
    → are_distinct names ≡ true → are_distinct (names ++ x ∷ []) ≡ true
distinct_push [] x h d = refl
distinct_push (y ∷ names) x h d =
    let p : (bytes_eq x y ≡ false) × (list_any (bytes_eq x) names ≡ false) =
    or_parts (bytes_eq x y) (list_any (bytes_eq x) names) h in
    let q : (not (list_any (bytes_eq y) names) ≡ true) × (are_distinct names ≡ true) =
    and_parts (not (list_any (bytes_eq y) names)) (are_distinct names) d in
    let none : list_any (bytes_eq y) (names ++ x ∷ []) ≡ false = list_any-append (bytes_eq y) names
    (x ∷ []) ∙ or_from (list_any (bytes_eq y) names) (list_any (bytes_eq y) (x ∷ []))
    (not-true (list_any (bytes_eq y) names) q.0)
    (or_from (bytes_eq y x) false (bytes_eq-swap x y p.0) refl) in
    and_from (not (list_any (bytes_eq y) (names ++ x ∷ []))) (are_distinct (names ++ x ∷ []))
    (not_from_false (list_any (bytes_eq y) (names ++ x ∷ [])) none) (distinct_push names x p.1 q.1)

again_in : (y x : List ℕ) (names more : List (List ℕ)) → bytes_eq x y ≡ true
    → list_any (bytes_eq y) (names ++ x ∷ more) ≡ true
again_in y x names more e =
    let same : bytes_eq y x ≡ true = (bytes_eq-Decides y x).1 (sym ((bytes_eq-Decides x y).0 e)) in
    list_any-append (bytes_eq y) names (x ∷ more) ∙ or_right (list_any (bytes_eq y) names)
    (list_any (bytes_eq y) (x ∷ more)) (ap (λ b. b || list_any (bytes_eq y) more) same)

pub distinct_twice : (names : List (List ℕ)) (x : List ℕ) (more : List (List ℕ))
    → list_any (bytes_eq x) names ≡ true → are_distinct (names ++ x ∷ more) ≡ false
distinct_twice [] x more h = absurd (false≢true h)
distinct_twice (y ∷ names) x more h = elim (or_cases (bytes_eq x y) (list_any (bytes_eq x) names) h) [
  | inl e ↦ and_left (not (list_any (bytes_eq y) (names ++ x ∷ more))) (are_distinct (names ++ x ∷ more))
      (not_from_true (list_any (bytes_eq y) (names ++ x ∷ more)) (again_in y x names more e))
  | inr e ↦ and_right (not (list_any (bytes_eq y) (names ++ x ∷ more))) (are_distinct (names ++ x ∷ more))
      (distinct_twice names x more e)
]
