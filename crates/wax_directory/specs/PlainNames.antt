-- The names in a path that is continued by a plain name.
use Rattle.std.proofs.Common.{◌≡◌, ◌+◌, ℕ, true, false, not, cond, ◌&&◌, ◌==◌, ◌⊎◌, List, [], ◌∷◌, ◌++◌}
use Rattle.std.proofs.Common.{filter, slice_index_or, refl, sym, ◌∙◌, ap, subst, inl, inr, append_assoc}
use Rattle.std.proofs.Common.{append-nil}
use Rattle.std.proofs.lemmas.Bool.{and_parts, and_cases, or_parts, not-true, not-false, cond-true, cond-false}
use Rattle.std.proofs.{lemmas.Bool.false≢true, lemmas.Slice.Eq.bytes_eq-Decides}
use Rattle.std.proofs.{lemmas.Bool.Decides.Decides-eqb, lemmas.List.Folds.{Any-from_list_any, list_any_at}}
use Rattle.std.proofs.lemmas.List.Elements.{filter-append}
use Rattle.std.specs.{List.{slice_split, onto_first, list_any, Contains, Any}, Str.{bytes_eq, IsUtf8}}
use Rattle.wax_directory.specs.Shown.{end, IsPlain, join}
use Rattle.wax_directory.specs.Names.{is_entry_name, is_plain, is_some_name, names_in_path, is_rooted}
use Rattle.wax_query.specs.Below.{ends_open}

split_cons : (xs : List ℕ) → (part : List ℕ) × (parts : List (List ℕ)) ×
    (slice_split (λ c. c == 47) xs ≡ part ∷ parts)
split_cons [] = ([], [], refl)
split_cons (x ∷ xs) =
    let h : (part : List ℕ) × (parts : List (List ℕ)) × (slice_split (λ c. c == 47) xs ≡ part ∷ parts) =
    split_cons xs in
    elim (x == 47) as (λ b. (part : List ℕ) × (parts : List (List ℕ)) ×
    (cond b ([] ∷ slice_split (λ c. c == 47) xs) (onto_first x (slice_split (λ c. c == 47) xs)) ≡ part ∷
    parts)) [
      | true ↦ ([], slice_split (λ c. c == 47) xs, refl)
      | false ↦ (x ∷ h.0, h.1, ap (onto_first x) h.2)
    ]

onto_first-append : (x : ℕ) (one two : List (List ℕ)) (part : List ℕ) (parts : List (List ℕ))
    → one ≡ part ∷ parts → onto_first x (one ++ two) ≡ onto_first x one ++ two
onto_first-append x one two part parts e = let P : List (List ℕ) → Type 0 =
    λ a. onto_first x (a ++ two) ≡ onto_first x a ++ two in subst P (sym e) refl

-- the parts of a path with a `/` in it: those before the `/`, and those after it
split_seam : (xs ys : List ℕ) → slice_split (λ c. c == 47) (xs ++ 47 ∷ ys) ≡ slice_split (λ c. c == 47) xs ++
    slice_split (λ c. c == 47) ys
split_seam [] ys = refl
split_seam (x ∷ xs) ys =
    let s : (part : List ℕ) × (parts : List (List ℕ)) × (slice_split (λ c. c == 47) xs ≡ part ∷ parts) =
    split_cons xs in
    elim (x == 47) as (λ b. cond b ([] ∷ slice_split (λ c. c == 47) (xs ++ 47 ∷ ys))
    (onto_first x (slice_split (λ c. c == 47) (xs ++ 47 ∷ ys))) ≡ cond b
    ([] ∷ slice_split (λ c. c == 47) xs) (onto_first x (slice_split (λ c. c == 47) xs)) ++ slice_split
    (λ c. c == 47) ys) [
      | true ↦ ap (λ r. [] ∷ r) (split_seam xs ys)
      | false ↦ ap (onto_first x) (split_seam xs ys) ∙ onto_first-append x (slice_split (λ c. c == 47) xs)
          (slice_split (λ c. c == 47) ys) s.0 s.1 s.2
    ]

-- facts about a plain name
pub record Plainly (x : List ℕ) : Type 0 where
  pub some : is_some_name x ≡ true
  pub whole : slice_split (λ c. c == 47) x ≡ x ∷ []
  pub rooted : is_rooted x ≡ false

split_one : (x : List ℕ) → list_any (λ c. c == 47) x ≡ false → slice_split (λ c. c == 47) x ≡ x ∷ []
split_one [] h = refl
split_one (c ∷ x) h =
    let p : ((c == 47) ≡ false) × (list_any (λ c. c == 47) x ≡ false) =
    or_parts (c == 47) (list_any (λ c. c == 47) x) h in
    cond-false (c == 47) _ _ p.0 ∙ ap (onto_first c) (split_one x p.1)

not_rooted : (x : List ℕ) → list_any (λ c. c == 47) x ≡ false → is_rooted x ≡ false
not_rooted [] h = refl
not_rooted (c ∷ x) h = (or_parts (c == 47) (list_any (λ c. c == 47) x) h).0

has_some : (x : List ℕ) → ¬ (x ≡ []) → is_some_name x ≡ true
has_some [] h = absurd (h refl)
has_some (c ∷ x) h = refl

slash_within : (x : List ℕ) → list_any (λ c. c == 47) x ≡ true → Contains x 47
slash_within x h =
    let a : Any (λ c. (c == 47) ≡ true) x = Any-from_list_any (λ c. c == 47) x h in
    let same : a.1 ≡ 47 = (Decides-eqb a.1 47).0 a.4 in
    let P : ℕ → Type 0 = λ c. slice_index_or x a.0 c ≡ c in
    (a.0, a.2, subst P same a.3)

no_slash : (x : List ℕ) → ¬ (Contains x 47) → list_any (λ c. c == 47) x ≡ false
no_slash x h = elim (list_any (λ c. c == 47) x) as (λ b. list_any (λ c. c == 47) x ≡ b → b ≡ false) [
  | true ↦ λ e. absurd (h (slash_within x e))
  | false ↦ λ e. refl
] refl

pub plainly : (x : List ℕ) → IsPlain x → Plainly x
plainly x p = record {
  some = has_some x p.not_empty;
  whole = split_one x (no_slash x p.one_name);
  rooted =
      not_rooted x (no_slash x p.one_name);
}

is_not : (x y : List ℕ) → not (bytes_eq x y) ≡ true → ¬ (x ≡ y)
is_not x y h e = false≢true (sym (not-true (bytes_eq x y) h) ∙ (bytes_eq-Decides x y).1 e)

is_it : (x y : List ℕ) → not (bytes_eq x y) ≡ false → x ≡ y
is_it x y h = (bytes_eq-Decides x y).0 (not-false (bytes_eq x y) h)

not_within : (x : List ℕ) → list_any (λ c. c == 47) x ≡ false → ¬ (Contains x 47)
not_within x h k = false≢true (sym h ∙ list_any_at (λ c. c == 47) x k.0 47 k.1 (ap (λ c. c == 47) k.2))

pub plain_of : (x : List ℕ) → IsUtf8 x → is_plain x ≡ true → IsPlain x
plain_of x text h =
    let p : (is_entry_name x ≡ true) × (not (list_any (λ c. c == 47) x) ≡ true) = and_parts (is_entry_name x)
    (not (list_any (λ c. c == 47) x)) h in
    let q : (not (bytes_eq x []) ≡ true) ×
    ((not (bytes_eq x (46 ∷ [])) && not (bytes_eq x (46 ∷ 46 ∷ []))) ≡ true) =
    and_parts (not (bytes_eq x [])) (not (bytes_eq x (46 ∷ [])) && not (bytes_eq x (46 ∷ 46 ∷ []))) p.0 in
    let r : (not (bytes_eq x (46 ∷ [])) ≡ true) × (not (bytes_eq x (46 ∷ 46 ∷ [])) ≡ true) =
    and_parts (not (bytes_eq x (46 ∷ []))) (not (bytes_eq x (46 ∷ 46 ∷ []))) q.1 in
    record {
      text = text;
      not_empty = is_not x [] q.0;
      not_here = is_not x (46 ∷ []) r.0;
      not_above =
          is_not x (46 ∷ 46 ∷ []) r.1;
      one_name = not_within x (not-true (list_any (λ c. c == 47) x) p.1);
    }

pub not_plain : (x : List ℕ) → is_plain x ≡ false → ¬ (IsPlain x)
not_plain x h p = elim (and_cases (is_entry_name x) (not (list_any (λ c. c == 47) x)) h) [
  | inl a ↦ elim (and_cases (not (bytes_eq x []))
      (not (bytes_eq x (46 ∷ [])) && not (bytes_eq x (46 ∷ 46 ∷ []))) a) [
        | inl b ↦ p.not_empty (is_it x [] b)
        | inr b ↦ elim (and_cases (not (bytes_eq x (46 ∷ []))) (not (bytes_eq x (46 ∷ 46 ∷ []))) b) [
          | inl c ↦ p.not_here (is_it x (46 ∷ []) c)
          | inr c ↦ p.not_above (is_it x (46 ∷ 46 ∷ []) c)
        ]
      ]
  | inr a ↦ p.one_name (slash_within x (not-false (list_any (λ c. c == 47) x) a))
]

-- an open path is empty or has a `/` at its end
open_cases : (path : List ℕ) → ends_open path ≡ true → (path ≡ []) ⊎ ((p : List ℕ) × (path ≡ p ++ 47 ∷ []))
open_cases [] h = inl refl
open_cases (c ∷ []) h = inr ([], ap (λ b. b ∷ []) ((Decides-eqb c 47).0 h))
open_cases (c ∷ d ∷ path) h = elim (open_cases (d ∷ path) h) [
  | inl q ↦ absurd (cc)
  | inr q ↦ inr (c ∷ q.0, ap (λ r. c ∷ r) q.1)
]

names_seam : (p x : List ℕ) → Plainly x → names_in_path (p ++ 47 ∷ x) ≡ names_in_path p ++ x ∷ []
names_seam p x h =
    ap (filter is_some_name) (split_seam p x ∙ ap (λ r. slice_split (λ c. c == 47) p ++ r) h.whole)
    ∙ filter-append is_some_name (slice_split (λ c. c == 47) p) (x ∷ [])
    ∙ ap (λ r. names_in_path p ++ r) (cond-true (is_some_name x) (x ∷ []) [] h.some)

names_alone : (x : List ℕ) → Plainly x → names_in_path x ≡ x ∷ []
names_alone x h = ap (filter is_some_name) h.whole ∙ cond-true (is_some_name x) (x ∷ []) [] h.some

names_closed : (p : List ℕ) → names_in_path (p ++ 47 ∷ []) ≡ names_in_path p
names_closed p = ap (filter is_some_name) (split_seam p []) ∙ filter-append is_some_name
    (slice_split (λ c. c == 47) p) ([] ∷ []) ∙ append-nil (names_in_path p)

names_open : (path x : List ℕ) → Plainly x → (path ≡ []) ⊎ ((p : List ℕ) × (path ≡ p ++ 47 ∷ []))
    → names_in_path (path ++ x) ≡ names_in_path path ++ x ∷ []
names_open path x h (inl e) = let P : List ℕ → Type 0 = λ q. names_in_path (q ++ x) ≡ names_in_path q ++ x ∷
    [] in subst P (sym e) (names_alone x h)
names_open path x h (inr q) =
    let P : List ℕ → Type 0 = λ r. names_in_path (r ++ x) ≡ names_in_path r ++ x ∷ [] in
    subst P (sym q.1) (ap names_in_path (append_assoc q.0 (47 ∷ []) x) ∙ names_seam q.0 x h ∙ ap
    (λ r. r ++ x ∷ []) (sym (names_closed q.0)))

pub names_join : (path x : List ℕ) → Plainly x → names_in_path (join path x) ≡ names_in_path path ++ x ∷ []
names_join path x h =
    elim (ends_open path) as
    (λ b. ends_open path ≡ b → names_in_path (cond b (path ++ x) (path ++ 47 ∷ x)) ≡ names_in_path path ++ x ∷
    []) [
      | true ↦ λ e. names_open path x h (open_cases path e)
      | false ↦ λ e. names_seam path x h
    ] refl

pub rooted_join : (path x : List ℕ) → Plainly x → is_rooted (join path x) ≡ is_rooted path
rooted_join [] x h = h.rooted
rooted_join (c ∷ path) x h = elim (ends_open (c ∷ path)) as
    (λ b. is_rooted (cond b ((c ∷ path) ++ x) ((c ∷ path) ++ 47 ∷ x)) ≡ (c == 47))
    [ true ↦ refl | false ↦ refl ]
