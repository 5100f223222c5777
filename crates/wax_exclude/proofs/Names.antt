-- Candidates as bytes and as characters.
use Rattle.std.proofs.Common.{◌≡◌, ℕ, zero, suc, Bool, true, false, cond, List, [], ◌∷◌, ◌++◌, map, length}
use Rattle.std.proofs.Common.{refl, sym, ap, subst, ◌∙◌, arith, append_assoc, append-nil, length-append}
use Rattle.std.proofs.{Common.{chars, encode_utf8_all}, lemmas.List.Elements.Contains-append_right}
use Rattle.std.proofs.lemmas.Str.{chars-append, encodes-chars, encodes-append, chars-nil, chars-encodes}
use Rattle.std.proofs.lemmas.Str.{scalars-chars}
use Rattle.std.specs.{List.{Contains, slice_split, onto_first}, Prelude.{filter, ◌==◌}}
use Rattle.std.specs.Str.{IsUtf8, all_scalars}
use Rattle.wax_directory.specs.{Names.{is_some_name, names_in_path}, Shown.{join, IsPlain}}
use Rattle.wax_token.specs.Meaning.{HasNoSlash}
use Rattle.wax_tree.specs.{Plain.Location, Prefix.ArePlain}
use Rattle.wax_walk.specs.Candidates.{Candidate}
use Rattle.wax_program.proofs.Scalars.{scalars_append}
use Rattle.wax_query.proofs.Ends.{closed_name, not_same, open_append}
use Rattle.wax_query.specs.Below.{slashed, joined_names, AreNames, ends_open}
use Rattle.wax_exclude.specs.{Candidates.{base, text_at, candidate_at}, inner.Descents.{At, child_location}}

abbrev candidate_from : List (List ℕ) → List ℕ → ℕ → Candidate
candidate_from names text depth = record { names = names; text = text; depth = depth }

-- what is seen of an entry at a location
abbrev pub seen_at : Location → Candidate
seen_at at = candidate_from (map chars (names_in_path at.candidate)) (chars at.candidate) at.depth

pub no_slash_in : (x : List ℕ) → ¬ (Contains x 47) → HasNoSlash x
no_slash_in [] h = tt
no_slash_in (c ∷ x) h = (
  λ e. h (0, omega arith, e),
  no_slash_in x
      (λ i. h (suc i.0, omega (arith, i.1), i.2)),
)

-- ---- paths that no name may follow at once

closed_names : (n : List ℕ) (names : List (List ℕ)) → AreNames (n ∷ names)
    → ends_open (n ++ slashed names) ≡ false
closed_names n [] h = ap ends_open (append-nil n) ∙ closed_name n h.0 h.1
closed_names n (m ∷ names) h = open_append n 47 (m ++ slashed names)
    ∙ after m names h.2 (closed_names m names h.2) where
      after : (m : List ℕ) (names : List (List ℕ)) → AreNames (m ∷ names)
          → ends_open (m ++ slashed names) ≡ false
          → ends_open (47 ∷ (m ++ slashed names)) ≡ false
      after [] names h e = absurd (h.0 refl)
      after (c ∷ m) names h e = e

pub closed_after : (rooted : Bool) (n : List ℕ) (names : List (List ℕ)) → AreNames (n ∷ names)
    → ends_open (base rooted ++ (n ++ slashed names)) ≡ false
closed_after false n names h = closed_names n names h
closed_after true [] names h = absurd (h.0 refl)
closed_after true (c ∷ n) names h = closed_names (c ∷ n) names h

slashed_last : (names : List (List ℕ)) (x : List ℕ) → slashed (names ++ x ∷ []) ≡ slashed names ++ 47 ∷ x
slashed_last [] x = ap (λ v. 47 ∷ v) (append-nil x)
slashed_last (n ∷ names) x = ap (λ v. 47 ∷ v)
    (ap (λ v. n ++ v) (slashed_last names x) ∙ sym (append_assoc n (slashed names) (47 ∷ x)))

-- the candidate of one name more
pub join_names : (rooted : Bool) (names : List (List ℕ)) (x : List ℕ) → AreNames names
    → join (base rooted ++ joined_names names) x ≡ base rooted ++ joined_names (names ++ x ∷ [])
join_names false [] x h = sym (append-nil x)
join_names true [] x h = ap (λ v. 47 ∷ v) (sym (append-nil x))
join_names rooted (n ∷ names) x h =
    let p = base rooted ++ (n ++ slashed names) in
    ap (λ b. cond b (p ++ x) (p ++ 47 ∷ x)) (closed_after rooted n names h)
    ∙ append_assoc (base rooted) (n ++ slashed names) (47 ∷ x)
    ∙ ap (λ v. base rooted ++ v) (append_assoc n (slashed names) (47 ∷ x)
    ∙ ap (λ v. n ++ v) (sym (slashed_last names x)))

-- ---- characters

slash_text : IsUtf8 (47 ∷ [])
unfolding lib.Utf8.encode
slash_text = (47 ∷ [], (refl, refl))

slash_bytes : encode_utf8_all (47 ∷ []) ≡ 47 ∷ []
unfolding lib.Utf8.encode
slash_bytes = refl

slash_chars : chars (47 ∷ []) ≡ 47 ∷ []
slash_chars = ap chars (sym slash_bytes) ∙ chars-encodes (47 ∷ []) refl

pub chars_slash : (s : List ℕ) → chars (47 ∷ s) ≡ 47 ∷ chars s
chars_slash s = chars-append (47 ∷ []) s slash_text ∙ ap (λ v. v ++ chars s) slash_chars

-- names that are valid UTF-8
abbrev pub AreTexts : List (List ℕ) → Type 0
AreTexts [] = Unit {0}
AreTexts (n ∷ names) = IsUtf8 n × AreTexts names

plain_texts : (names : List (List ℕ)) → ArePlain names → AreTexts names
plain_texts [] h = tt
plain_texts (n ∷ names) h = (h.0.text, plain_texts names h.1)

texts_slashed : (names : List (List ℕ)) → AreTexts names
    → chars (slashed names) ≡ slashed (map chars names)
texts_slashed [] h = chars-nil
texts_slashed (n ∷ names) h = chars_slash (n ++ slashed names)
    ∙ ap (λ v. 47 ∷ v) (chars-append n (slashed names) h.0
    ∙ ap (λ v. chars n ++ v) (texts_slashed names h.1))

pub texts_joined : (rooted : Bool) (names : List (List ℕ)) → AreTexts names
    → chars (base rooted ++ joined_names names) ≡ base rooted ++ joined_names (map chars names)
texts_joined false [] h = chars-nil
texts_joined true [] h = slash_chars
texts_joined false (n ∷ names) h = chars-append n (slashed names) h.0
    ∙ ap (λ v. chars n ++ v) (texts_slashed names h.1)
texts_joined true (n ∷ names) h = texts_slashed (n ∷ names) h

pub chars_joined : (rooted : Bool) (names : List (List ℕ)) → ArePlain names
    → chars (base rooted ++ joined_names names) ≡ base rooted ++ joined_names (map chars names)
chars_joined rooted names h = texts_joined rooted names (plain_texts names h)

slashed_scalars : (names : List (List ℕ)) → AreTexts names → all_scalars (slashed (map chars names)) ≡ true
slashed_scalars [] h = refl
slashed_scalars (n ∷ names) h =
    scalars_append (chars n) (slashed (map chars names)) (scalars-chars n h.0) (slashed_scalars names h.1)

-- their candidate consists of characters
pub names_scalars : (rooted : Bool) (names : List (List ℕ)) → ArePlain names
    → all_scalars (text_at rooted (map chars names)) ≡ true
names_scalars false [] h = refl
names_scalars true [] h = refl
names_scalars false (n ∷ names) h =
    scalars_append (chars n) (slashed (map chars names)) (scalars-chars n h.0.text)
    (slashed_scalars names (plain_texts names h.1))
names_scalars true (n ∷ names) h = slashed_scalars (n ∷ names) (plain_texts (n ∷ names) h)

no_slash_spelled : (cs : List ℕ) → ¬ (Contains (encode_utf8_all cs) 47) → HasNoSlash cs
no_slash_spelled [] h = tt
no_slash_spelled (c ∷ cs) h = (
  λ e. h (subst (λ v. Contains v 47) (sym (ap (λ v. encode_utf8_all (v ∷ cs)) e ∙ encodes-append (47 ∷ []) cs
      ∙ ap (λ v. v ++ encode_utf8_all cs) slash_bytes)) (0, omega arith, refl)),
  no_slash_spelled cs (λ i. h (subst (λ v. Contains v 47) (sym (encodes-append (c ∷ []) cs))
      (Contains-append_right (encode_utf8_all (c ∷ [])) (encode_utf8_all cs) 47 i))),
)

some_chars : (n : List ℕ) → IsUtf8 n → ¬ (n ≡ []) → ¬ (chars n ≡ [])
some_chars n u h e = h (sym (encodes-chars n u) ∙ ap encode_utf8_all e)

slashless : (x : List ℕ) → HasNoSlash x → ¬ (Contains x 47)
slashless [] h i = omega (arith, i.1)
slashless (c ∷ x) h (zero, l, e) = h.0 e
slashless (c ∷ x) h (suc k, l, e) = slashless x h.1 (k, omega (arith, l), e)

pub names_of_texts : (names : List (List ℕ)) → AreTexts names → AreNames names → AreNames (map chars names)
names_of_texts [] u h = tt
names_of_texts (n ∷ names) u h = (
  some_chars n u.0 h.0,
  no_slash_spelled (chars n) (λ i. slashless n h.1 (subst (λ v. Contains v 47) (encodes-chars n u.0) i)),
  names_of_texts names u.1 h.2,
)

-- the names of entries, as characters and as bytes
pub names_bytes : (names : List (List ℕ)) → ArePlain names → AreNames names
names_bytes [] h = tt
names_bytes (n ∷ names) h = (h.0.not_empty, no_slash_in n h.0.one_name, names_bytes names h.1)

pub names_chars : (names : List (List ℕ)) → ArePlain names → AreNames (map chars names)
names_chars names h = names_of_texts names (plain_texts names h) (names_bytes names h)

plain_last : (names : List (List ℕ)) (x : List ℕ) → ArePlain names → IsPlain x → ArePlain (names ++ x ∷ [])
plain_last [] x h k = (k, tt)
plain_last (n ∷ names) x h k = (h.0, plain_last names x h.1 k)

-- an entry in a folder
pub at_join : (rooted : Bool) (at : Location) (names : List (List ℕ)) (x : List ℕ) → At rooted at names
    → IsPlain x
    → At rooted (child_location at x) (names ++ x ∷ [])
at_join rooted at names x h k = record {
  candidate_is = ap (λ v. join v x) h.candidate_is
      ∙ join_names rooted names x (names_bytes names h.are_plain);
  depth_is = let n = length-append names (x ∷ []) in omega (arith, h.depth_is, n);
  are_plain = plain_last names x h.are_plain k;
}

pub length_names : (names : List (List ℕ)) → length (map chars names) ≡ length names
length_names [] = refl
length_names (n ∷ names) = ap (λ v. suc v) (length_names names)

-- ---- names of a path

parts_after : (names : List (List ℕ)) → slice_split (λ c. c == 47) (slashed names) ≡ [] ∷ names → (n : List ℕ)
    → HasNoSlash n → slice_split (λ c. c == 47) (n ++ slashed names) ≡ n ∷ names
parts_after names e [] h = e
parts_after names e (c ∷ n) h = ap (λ b. cond b ([] ∷ slice_split (λ c. c == 47) (n ++ slashed names))
    (onto_first c (slice_split (λ c. c == 47) (n ++ slashed names)))) (not_same c 47 h.0)
    ∙ ap (onto_first c) (parts_after names e n h.1)

parts_slashed : (names : List (List ℕ)) → AreNames names
    → slice_split (λ c. c == 47) (slashed names) ≡ [] ∷ names
parts_slashed [] h = refl
parts_slashed (n ∷ names) h = ap (λ v. [] ∷ v) (parts_after names (parts_slashed names h.2) n h.1)

some_name : (n : List ℕ) → ¬ (n ≡ []) → is_some_name n ≡ true
some_name [] h = absurd (h refl)
some_name (c ∷ n) h = refl

all_some : (names : List (List ℕ)) → AreNames names → filter is_some_name names ≡ names
all_some [] h = refl
all_some (n ∷ names) h = ap (λ b. cond b (n ∷ filter is_some_name names) (filter is_some_name names))
    (some_name n h.0) ∙ ap (λ v. n ∷ v) (all_some names h.2)

pub names_in_joined : (rooted : Bool) (names : List (List ℕ)) → AreNames names
    → names_in_path (base rooted ++ joined_names names) ≡ names
names_in_joined false [] h = refl
names_in_joined false (n ∷ names) h = ap (filter is_some_name)
    (parts_after names (parts_slashed names h.2) n h.1) ∙ all_some (n ∷ names) h
names_in_joined true [] h = refl
names_in_joined true (n ∷ names) h = ap (filter is_some_name) (parts_slashed (n ∷ names) h)
    ∙ all_some (n ∷ names) h

-- what a rule sees of it
pub at_sees : (rooted : Bool) (at : Location) (names : List (List ℕ)) → At rooted at names
    → seen_at at ≡ candidate_at rooted (map chars names)
at_sees rooted at names h =
    let ns : names_in_path at.candidate ≡ names = ap names_in_path h.candidate_is
    ∙ names_in_joined rooted names (names_bytes names h.are_plain) in
    let cs : chars at.candidate ≡ text_at rooted (map chars names) = ap chars h.candidate_is
    ∙ chars_joined rooted names h.are_plain in
    ap (λ v. candidate_from (map chars v) (chars at.candidate) at.depth) ns
    ∙ ap (λ v. candidate_from (map chars names) v at.depth) cs
    ∙ ap (λ v. candidate_from (map chars names) (text_at rooted (map chars names)) v)
    (h.depth_is ∙ sym (length_names names))
