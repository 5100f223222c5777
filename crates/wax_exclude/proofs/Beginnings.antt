-- Which names the paths begin with that a glob means.
use Rattle.std.proofs.Common.{◌≡◌, ◌≢◌, ◌∙◌, ◌⊎◌, ◌≤◌, ◌==◌, ℕ, Bool, true, false, List, [], ◌∷◌, ◌++◌}
use Rattle.std.proofs.Common.{if◌then◌else◌, map, length, inl, inr, refl, sym, subst, ap, arith, append_assoc}
use Rattle.std.proofs.{Common.{append-nil, chars}, lemmas.Bool.{cases_Bool, eqb-true}}
use Rattle.std.specs.{Prelude.{IfOk, MatchOption, None, Option, Some, Result, Ok, Err}, Str.IsUtf8}
use Rattle.wax_facts.specs.{Joined.IsSeam, Prefix.Prefix}
use Rattle.wax_facts.proofs.Seams.{Seam, prefix_seam}
use Rattle.wax_query.specs.Components.{component_total, last_slash, slash, slashes, BeginsWithSlash}
use Rattle.wax_query.specs.{Components.EndsWithSlash, Below.{AreNames, joined_names, slashed}}
use Rattle.wax_token.specs.{Meaning.{HasNoSlash, Means}, Syntax.Tree}
use Rattle.wax_exclude.specs.{Candidates.{base, text_at}, Premises.{BeginsWith, BoundsNames, IsUnmeant}}
use Rattle.wax_exclude.specs.Prefix.{HasEmptyName, PrefixSplitsInto, SplitsInto}
use Rattle.wax_exclude.proofs.{Adjacent.none_adjacent, SplitPrefixes.are_names_in}
use Rattle.wax_exclude.proofs.Names.{names_of_texts, texts_joined}
use Rattle.wax_exclude.proofs.Texts.{chars_ended, empty_bytes, empty_chars, split_texts}

-- ---- names that begin with others

abbrev IsEnd : List ℕ → Type 0
IsEnd r = (r ≡ []) ⊎ BeginsWithSlash r

end_slashed : (names : List (List ℕ)) (r : List ℕ) → IsEnd r → IsEnd (slashed names ++ r)
end_slashed [] r h = h
end_slashed (n ∷ names) r h = inr ((n ++ slashed names) ++ r, refl)

same_cut : (x y u v : List ℕ) → HasNoSlash x → HasNoSlash y → IsEnd u → IsEnd v
    → x ++ u ≡ y ++ v → (x ≡ y) × (u ≡ v)
same_cut [] [] u v h k i j e = (refl, e)
same_cut [] (d ∷ y) u v h k i j e = elim i [
  | inl z ↦ absurd (let w : [] ≡ d ∷ (y ++ v) = sym z ∙ e in cc)
  | inr z ↦ absurd (k.0 (let w : 47 ∷ z.0 ≡ d ∷ (y ++ v) = sym z.1 ∙ e in cc))
]
same_cut (c ∷ x) [] u v h k i j e = elim j [
  | inl z ↦ absurd (let w : c ∷ (x ++ u) ≡ [] = e ∙ z in cc)
  | inr z ↦ absurd (h.0 (let w : c ∷ (x ++ u) ≡ 47 ∷ z.0 = e ∙ z.1 in cc))
]
same_cut (c ∷ x) (d ∷ y) u v h k i j e =
    let c_d : c ≡ d = cc in
    let r = same_cut x y u v h.1 k.1 i j (cc) in
    ((λ w. c_d w ∷ r.0 w), r.1)

end_of : (names : List (List ℕ)) → IsEnd (slashed names)
end_of [] = inl refl
end_of (n ∷ names) = inr (n ++ slashed names, refl)

slashed_begin : (names front : List (List ℕ)) (r : List ℕ) → AreNames names → AreNames front → IsEnd r
    → slashed names ≡ slashed front ++ r → (rest : List (List ℕ)) × (names ≡ front ++ rest)
slashed_begin names [] r h k i e = (names, refl)
slashed_begin [] (f ∷ front) r h k i e = cc
slashed_begin (n ∷ names) (f ∷ front) r h k i e =
    let g : n ++ slashed names ≡ f ++ (slashed front ++ r) =
    (let w : 47 ∷ (n ++ slashed names) ≡ 47 ∷ ((f ++ slashed front) ++ r) = e in let z :
    n ++ slashed names ≡ (f ++ slashed front) ++ r = cc in z ∙ append_assoc f (slashed front) r) in
    let c =
    same_cut n f (slashed names) (slashed front ++ r) h.1 k.1 (end_of names) (end_slashed front r i) g in
    let s = slashed_begin names front r h.2 k.2 i c.1 in
    (s.0, (λ w. c.0 w ∷ s.1 w))

joined_begin : (names front : List (List ℕ)) (r : List ℕ) → AreNames names → AreNames front → IsEnd r
    → joined_names names ≡ joined_names front ++ r → (rest : List (List ℕ)) × (names ≡ front ++ rest)
joined_begin names [] r h k i e = (names, refl)
joined_begin [] (f ∷ front) r h k i e =
    absurd (k.0 (empty f (slashed front ++ r) (e ∙ append_assoc f (slashed front) r))) where
      empty : (f z : List ℕ) → [] ≡ f ++ z → f ≡ []
      empty [] z e = refl
      empty (c ∷ f) z e = cc
joined_begin (n ∷ names) (f ∷ front) r h k i e =
    slashed_begin (n ∷ names) (f ∷ front) r h k i (ap (λ v. 47 ∷ v) e)

-- ---- how many components names have, and how they end

plain_char : (c : ℕ) → c ≢ 47 → slash c ≡ 0
plain_char c n = elim (cases_Bool
    (c == 47)) [ inl e ↦ absurd (n (eqb-true c 47 e)) | inr e ↦ ap (λ b. if b then 1 else 0) e ]

slashes_after : (x y : List ℕ) → HasNoSlash x → slashes (x ++ y) ≡ slashes y
slashes_after [] y h = refl
slashes_after (c ∷ x) y h = omega (arith, plain_char c h.0, slashes_after x y h.1)

slashes_in : (names : List (List ℕ)) → AreNames names → slashes (slashed names) ≡ length names
slashes_in [] h = refl
slashes_in (n ∷ names) h = omega (arith, slashes_after n (slashed names) h.1, slashes_in names h.2)

last_plain : (x : List ℕ) → HasNoSlash x → last_slash x ≡ 0
last_plain [] h = refl
last_plain (c ∷ []) h = plain_char c h.0
last_plain (c ∷ d ∷ x) h = last_plain (d ∷ x) h.1

last_after : (x : List ℕ) (c : ℕ) (y : List ℕ) → last_slash (x ++ c ∷ y) ≡ last_slash (c ∷ y)
last_after [] c y = refl
last_after (b ∷ []) c y = refl
last_after (b ∷ d ∷ x) c y = last_after (d ∷ x) c y

last_name : (c : ℕ) (n : List ℕ) (names : List (List ℕ)) → AreNames ((c ∷ n) ∷ names)
    → last_slash ((c ∷ n) ++ slashed names) ≡ 0
last_name c n [] h = ap last_slash (append-nil (c ∷ n)) ∙ last_plain (c ∷ n) h.1
last_name c n ([] ∷ names) h = absurd (h.2.0 refl)
last_name c n ((d ∷ m) ∷ names) h = last_after (c ∷ n) 47 ((d ∷ m) ++ slashed names) ∙ last_name d m names h.2

-- what ends with a `/`
last_ends : (x : List ℕ) → last_slash (x ++ 47 ∷ []) ≡ 1
last_ends x = last_after x 47 []

last_of : (rooted : Bool) (n : List ℕ) (names : List (List ℕ)) → AreNames (n ∷ names)
    → last_slash (text_at rooted (n ∷ names)) ≡ 0
last_of rooted [] names h = absurd (h.0 refl)
last_of false (c ∷ n) names h = last_name c n names h
last_of true (c ∷ n) names h = last_name c n names h

components_of : (rooted : Bool) (names : List (List ℕ)) → AreNames names
    → component_total (text_at rooted names) ≡ length names
components_of false [] h = refl
components_of true [] h = omega arith
components_of rooted ([] ∷ names) h = absurd (h.0 refl)
components_of false ((c ∷ n) ∷ names) h =
    omega (
      arith,
      slashes_after (c ∷ n) (slashed names) h.1,
      slashes_in names h.2,
      plain_char c h.1.0,
      last_name c n names h,
    )
components_of true ((c ∷ n) ∷ names) h =
    omega (arith, slashes_in ((c ∷ n) ∷ names) h, last_name c n names h)

-- the greatest number of components bounds the names
pub bounds_names : {A : Type 0} (t : Tree A) (upper : ℕ)
    → ((s : List ℕ) → Means t false false s → component_total s ≤ upper) → (rooted : Bool)
    → BoundsNames rooted t upper
bounds_names t upper h rooted names k m =
    subst (λ n. n ≤ upper) (components_of rooted names k) (h (text_at rooted names) m)

-- ---- from the prefix to its names

unbased : (rooted : Bool) (x y : List ℕ) → base rooted ++ x ≡ base rooted ++ y → x ≡ y
unbased false x y e = e
unbased true x y e = cc

not_open : (rooted : Bool) (n : List ℕ) (names : List (List ℕ)) → AreNames (n ∷ names)
    → ¬ ((text_at rooted (n ∷ names) ≡ []) ⊎ EndsWithSlash (text_at rooted (n ∷ names)))
not_open rooted n names h (inr e) =
    let l : last_slash (text_at rooted (n ∷ names)) ≡ 1 = ap last_slash e.1 ∙ last_ends e.0 in
    omega (arith, l, last_of rooted n names h)
not_open rooted [] names h (inl e) = h.0 refl
not_open false (c ∷ n) names h (inl e) = cc
not_open true (c ∷ n) names h (inl e) = cc

module _ (rooted : Bool) (front names : List (List ℕ)) (are_front : AreNames front)
    (are_names : AreNames names) where
  whole_begin : (q : List ℕ) → text_at rooted names ≡ text_at rooted front ++ q
      → IsSeam (text_at rooted front) q → (rest : List (List ℕ)) × (names ≡ front ++ rest)
  whole_begin q e seam = from front are_front (unbased rooted (joined_names names) (joined_names front ++ q)
      (e ∙ append_assoc (base rooted) (joined_names front) q)) seam where
        from : (front : List (List ℕ)) → AreNames front → joined_names names ≡ joined_names front ++ q
            → IsSeam (text_at rooted front) q → (rest : List (List ℕ)) × (names ≡ front ++ rest)
        from [] h e seam = (names, refl)
        from (f ∷ front) h e (inl o) = absurd (not_open rooted f front h o)
        from (f ∷ front) h e (inr i) = joined_begin names (f ∷ front) q are_names h i e

  ended_begin : (q : List ℕ) → text_at rooted names ≡ (text_at rooted front ++ 47 ∷ []) ++ q
      → (rest : List (List ℕ)) × (names ≡ front ++ rest)
  ended_begin q e =
      let f : text_at rooted names ≡ base rooted ++ (joined_names front ++ 47 ∷ q) =
      e ∙ append_assoc (text_at rooted front) (47 ∷ []) q
      ∙ append_assoc (base rooted) (joined_names front) (47 ∷ q) in
      joined_begin names front (47 ∷ q) are_names are_front (inr (q, refl))
      (unbased rooted (joined_names names) (joined_names front ++ 47 ∷ q) f)

pub begins_with : {A : Type 0} (t : Tree A) (n : ℕ) (text : List ℕ) (rooted : Bool) (names : List (List ℕ))
    → IsUtf8 text → Prefix t n (chars text) → SplitsInto text rooted names
    → BeginsWith rooted t (map chars names)
begins_with t n text rooted names utf8 prefix parted others are_others meant =
    let s : Seam (chars text) (text_at rooted others) =
    prefix_seam t n (chars text) (text_at rooted others) prefix meant in
    let texts = split_texts text rooted names utf8 parted in
    let are_names = names_of_texts names texts (subst AreNames (sym parted.parts) (are_names_in text)) in
    elim parted.whole [
      | inl e ↦ (
          let w : chars text ≡ text_at rooted (map chars names) =
          ap chars e ∙ texts_joined rooted names texts in
          whole_begin rooted (map chars names) others are_names are_others s.0 (s.1 ∙ ap (λ v. v ++ s.0) w)
          (subst (λ v. IsSeam v s.0) w s.2))
      | inr e ↦ (
          let w : chars text ≡ text_at rooted (map chars names) ++ 47 ∷ [] =
          ap chars e.1 ∙ chars_ended rooted names texts in
          ended_begin rooted (map chars names) others are_names are_others s.0 (s.1 ∙ ap (λ v. v ++ s.0) w))
    ]

-- ---- no names hold two `/` side by side

pub none_match : {A : Type 0} (t : Tree A) (n : ℕ) (p : List ℕ) → Prefix t n p → HasEmptyName p
    → (rooted : Bool) → IsUnmeant rooted t
none_match t n p prefix empty rooted names are_names meant =
    let s : Seam p (text_at rooted names) = prefix_seam t n p (text_at rooted names) prefix meant in
    none_adjacent rooted names are_names empty.0 (empty.1 ++ s.0)
    (s.1 ∙ ap (λ v. v ++ s.0) empty.2 ∙ append_assoc empty.0 (47 ∷ 47 ∷ empty.1) s.0)

pub none_meant : {A : Type 0} (t : Tree A) (n : ℕ) (text : List ℕ) → IsUtf8 text → Prefix t n (chars text)
    → HasEmptyName text → (rooted : Bool) → IsUnmeant rooted t
none_meant t n text u prefix empty = none_match t n (chars text) prefix (empty_chars text u empty)

-- ---- what is told of a prefix

pub told_names : (text p : List ℕ) (rooted : Bool) (names : List (List ℕ)) → IsUtf8 text → p ≡ chars text
    → ¬ (HasEmptyName text) × SplitsInto text rooted names → PrefixSplitsInto p rooted names
told_names text p rooted names u e k = record {
  text = text;
  encoded = u;
  characters = sym e;
  unbroken = λ h. k.0 (empty_bytes text u (subst HasEmptyName e h));
  split = k.1;
}

pub if_ok_map : {T E : Type 0} (r : Result T E) {P Q : T → Type 0} → ((t : T) → P t → Q t)
    → IfOk r P → IfOk r Q
if_ok_map (Ok t) f h = f t h
if_ok_map (Err e) f h = tt

pub option_map : {T A B : Type 0} (o : Option T) {P Q : T → Type 0} → (A → B) → ((t : T) → P t → Q t)
    → MatchOption o A P → MatchOption o B Q
option_map None f g h = f h
option_map (Some t) f g h = g t h
