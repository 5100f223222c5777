-- Prefixes and their names.
use Rattle.std.proofs.Common.{◌≡◌, ◌≢◌, ◌==◌, ◌∙◌, ℕ, Bool, true, false, cond, List, [], ◌∷◌, ◌++◌, ◌⊎◌, map}
use Rattle.std.proofs.Common.{reverse, inl, inr, refl, sym, subst, ap, append_assoc, append-nil, chars}
use Rattle.std.proofs.Common.{encode_utf8_all, string_bytes, String}
use Rattle.std.proofs.{lemmas.Bool.{cases_eq, cases_Bool, eqb-true, false≢true}, lemmas.Str.encodes-chars}
use Rattle.std.proofs.{lemmas.List.reverse-append, lemmas.List.Elements.{All-cons, All-nil}}
use Rattle.std.proofs.lemmas.List.Splits.{slice_split_at, slice_split_none}
use Rattle.std.specs.{Prelude.filter, Str.IsUtf8, List.{All, onto_first, slice_split}}
use Rattle.std.specs.declared.alloc.Global.{Global}
use Rattle.wax_directory.specs.Names.{is_rooted, is_some_name, names_in_path}
use Rattle.wax_token.specs.Meaning.{HasNoSlash}
use Rattle.wax_tree.specs.Prefix.{from_last}
use Rattle.wax_tree.proofs.Showing.{from_last_end}
use Rattle.wax_query.specs.Below.{AreNames, joined_names}
use Rattle.wax_exclude.specs.{Candidates.text_at, Prefix.{HasEmptyName, PrefixSplitsInto, SplitsInto}}

-- ---- names of a text

abbrev splits : List ℕ → List (List ℕ)
splits s = slice_split (λ c. c == 47) s

differ : (c : ℕ) → c ≢ 47 → (c == 47) ≡ false
differ c n = elim (cases_Bool (c == 47)) [ inl e ↦ absurd (n (eqb-true c 47 e)) | inr e ↦ e ]

plainly : (x : List ℕ) → HasNoSlash x → All (λ c. (c == 47) ≡ false) x
plainly [] h = All-nil (λ c. (c == 47) ≡ false)
plainly (c ∷ x) h = All-cons (λ c. (c == 47) ≡ false) c x (differ c h.0) (plainly x h.1)

some_name : (x : List ℕ) → ¬ (x ≡ []) → is_some_name x ≡ true
some_name [] h = absurd (h refl)
some_name (c ∷ x) h = refl

first_name : (x : List ℕ) (rest : List (List ℕ)) → ¬ (x ≡ [])
    → filter is_some_name (x ∷ rest) ≡ x ∷ filter is_some_name rest
first_name x rest h =
    ap (λ b. cond b (x ∷ filter is_some_name rest) (filter is_some_name rest)) (some_name x h)

one_name : (x : List ℕ) → ¬ (x ≡ []) → HasNoSlash x → names_in_path x ≡ x ∷ []
one_name x some clean = ap (filter is_some_name) (slice_split_none (λ c. c == 47) x (plainly x clean))
    ∙ first_name x [] some

more_names : (x y : List ℕ) → ¬ (x ≡ []) → HasNoSlash x → names_in_path (x ++ 47 ∷ y) ≡ x ∷ names_in_path y
more_names x y some clean = ap (filter is_some_name)
    (slice_split_at (λ c. c == 47) x 47 y (plainly x clean) refl) ∙ first_name x (splits y) some

clean_push : (x : List ℕ) (c : ℕ) → HasNoSlash x → c ≢ 47 → HasNoSlash (x ++ c ∷ [])
clean_push [] c h n = (n, tt)
clean_push (d ∷ x) c h n = (h.0, clean_push x c h.1 n)

some_push : (x : List ℕ) (c : ℕ) → ¬ (x ++ c ∷ [] ≡ [])
some_push [] c e = cc
some_push (d ∷ x) c e = cc

-- ---- what is between two `/` holds none

abbrev AreClean : List (List ℕ) → Type 0
AreClean [] = Unit {0}
AreClean (x ∷ parts) = HasNoSlash x × AreClean parts

clean_onto : (c : ℕ) (parts : List (List ℕ)) → c ≢ 47 → AreClean parts → AreClean (onto_first c parts)
clean_onto c [] n h = ((n, tt), tt)
clean_onto c (x ∷ parts) n h = ((n, h.0), h.1)

clean_splits : (s : List ℕ) → AreClean (splits s)
clean_splits [] = (tt, tt)
clean_splits (c ∷ s) =
    let by : Bool → List (List ℕ) = λ b. cond b ([] ∷ splits s) (onto_first c (splits s)) in
    elim (cases_eq c 47) [
      | inl e ↦ subst (λ b. AreClean (by b)) (sym (ap (λ v. v == 47) e)) (tt, clean_splits s)
      | inr n ↦ subst (λ b. AreClean (by b)) (sym (differ c n)) (clean_onto c (splits s) n (clean_splits s))
    ]

some_names : (parts : List (List ℕ)) → AreClean parts → AreNames (filter is_some_name parts)
some_names [] h = tt
some_names ([] ∷ parts) h = some_names parts h.1
some_names ((c ∷ x) ∷ parts) h = ((λ e. (cc)), h.0, some_names parts h.1)

pub are_names_in : (p : List ℕ) → AreNames (names_in_path p)
are_names_in p = some_names (splits p) (clean_splits p)

-- the names of a text, none of which is empty; the text is these names, joined, perhaps with a `/` at its end
record Told (p : List ℕ) : Type 0 where
  first : List ℕ
  others : List (List ℕ)
  are_names : AreNames (first ∷ others)
  parts : names_in_path p ≡ first ∷ others
  whole : (p ≡ joined_names (first ∷ others)) ⊎ (p ≡ joined_names (first ∷ others) ++ 47 ∷ [])

after_slash : (x y : List ℕ) → ¬ (HasEmptyName (x ++ 47 ∷ y)) → ¬ (HasEmptyName y)
after_slash x y h k =
    h (x ++ 47 ∷ k.0, k.1, ap (λ v. x ++ 47 ∷ v) k.2 ∙ sym (append_assoc x (47 ∷ k.0) (47 ∷ 47 ∷ k.1)))

not_again : (x : List ℕ) (d : ℕ) (r : List ℕ) → ¬ (HasEmptyName (x ++ 47 ∷ d ∷ r)) → d ≢ 47
not_again x d r h e = h (x, r, ap (λ v. x ++ 47 ∷ v ∷ r) e)

one_more : (x y : List ℕ) → ¬ (x ≡ []) → HasNoSlash x → Told y → Told (x ++ 47 ∷ y)
one_more x y some clean t = record {
  first = x;
  others = t.first ∷ t.others;
  are_names = (some, clean, t.are_names);
  parts = more_names x y some clean ∙ ap (λ v. x ∷ v) t.parts;
  whole = elim t.whole [
    | inl e ↦ inl (ap (λ v. x ++ 47 ∷ v) e)
    | inr e ↦ inr (ap (λ v. x ++ 47 ∷ v) e
        ∙ sym (append_assoc x (47 ∷ joined_names (t.first ∷ t.others)) (47 ∷ [])))
  ];
}

told : (x : List ℕ) → ¬ (x ≡ []) → HasNoSlash x → (r : List ℕ) → ¬ (HasEmptyName (x ++ r)) → Told (x ++ r)
told x some clean [] h = record {
  first = x;
  others = [];
  are_names = (some, clean, tt);
  parts = ap names_in_path (append-nil x) ∙ one_name x some clean;
  whole = inl refl;
}
told x some clean (c ∷ []) h = elim (cases_eq c 47) [
  | inl e ↦ subst (λ v. Told (x ++ v ∷ [])) (sym e) (record {
    first = x;
    others = [];
    are_names = (some, clean, tt);
    parts = more_names x [] some clean;
    whole = inr (ap (λ v. v ++ 47 ∷ []) (sym (append-nil x)));
  })
  | inr n ↦ record {
    first = x ++ c ∷ [];
    others = [];
    are_names = (some_push x c, clean_push x c clean n, tt);
    parts = one_name (x ++ c ∷ []) (some_push x c) (clean_push x c clean n);
    whole = inl (sym (append-nil (x ++ c ∷ [])));
  }
]
told x some clean (c ∷ d ∷ r) h = elim (cases_eq c 47) [
  | inl e ↦ (
      let k : ¬ (HasEmptyName (x ++ 47 ∷ d ∷ r)) = subst (λ v. ¬ (HasEmptyName (x ++ v ∷ d ∷ r))) e h in
      subst (λ v. Told (x ++ v ∷ d ∷ r)) (sym e)
      (one_more x (d ∷ r) some clean
      (told (d ∷ []) (λ q. (cc)) (not_again x d r k, tt) r (after_slash x (d ∷ r) k))))
  | inr n ↦ (
      let a : (x ++ c ∷ []) ++ d ∷ r ≡ x ++ c ∷ d ∷ r = append_assoc x (c ∷ []) (d ∷ r) in
      subst Told a (told (x ++ c ∷ []) (some_push x c) (clean_push x c clean n) (d ∷ r)
      (subst (λ v. ¬ (HasEmptyName v)) (sym a) h)))
]

some_first : (t : List ℕ) (ts : List (List ℕ)) → ¬ (t ∷ ts ≡ [])
some_first t ts e = cc

relative : (p : List ℕ) → is_rooted p ≡ false → Told p → SplitsInto p (is_rooted p) (names_in_path p)
relative p e t = record {
  root = refl;
  parts = refl;
  whole = subst (λ b. (p ≡ text_at b (names_in_path p))
      ⊎ (¬ (names_in_path p ≡ []) × (p ≡ text_at b (names_in_path p) ++ 47 ∷ []))) (sym e)
      (subst (λ ns. (p ≡ joined_names ns) ⊎ (¬ (ns ≡ []) × (p ≡ joined_names ns ++ 47 ∷ []))) (sym t.parts)
      (elim t.whole [ inl w ↦ inl w | inr w ↦ inr (some_first t.first t.others, w) ]));
}

rooted : (p : List ℕ) → Told p → SplitsInto (47 ∷ p) true (names_in_path p)
rooted p t = record {
  root = refl;
  parts = refl;
  whole = subst (λ ns. (47 ∷ p ≡ 47 ∷ joined_names ns)
      ⊎ (¬ (ns ≡ []) × (47 ∷ p ≡ 47 ∷ (joined_names ns ++ 47 ∷ [])))) (sym t.parts)
      (elim t.whole [
        | inl w ↦ inl (ap (λ v. 47 ∷ v) w)
        | inr w ↦ inr (some_first t.first t.others, ap (λ v. 47 ∷ v) w)
      ]);
}

pub splits_into : (p : List ℕ) → ¬ (HasEmptyName p) → SplitsInto p (is_rooted p) (names_in_path p)
splits_into [] h = record { root = refl; parts = refl; whole = inl refl }
splits_into (c ∷ []) h = elim (cases_eq c 47) [
  | inl e ↦ subst (λ v. SplitsInto (v ∷ []) (is_rooted (v ∷ [])) (names_in_path (v ∷ []))) (sym e)
      (record { root = refl; parts = refl; whole = inl refl })
  | inr n ↦ relative (c ∷ []) (differ c n) (told (c ∷ []) (λ q. (cc)) (n, tt) [] h)
]
splits_into (c ∷ d ∷ p) h = elim (cases_eq c 47) [
  | inl e ↦ (
      let k : ¬ (HasEmptyName (47 ∷ d ∷ p)) = subst (λ v. ¬ (HasEmptyName (v ∷ d ∷ p))) e h in
      subst (λ v. SplitsInto (v ∷ d ∷ p) (is_rooted (v ∷ d ∷ p)) (names_in_path (v ∷ d ∷ p))) (sym e)
      (rooted (d ∷ p) (told (d ∷ []) (λ q. (cc)) (not_again [] d p k, tt) p (after_slash [] (d ∷ p) k))))
  | inr n ↦ relative (c ∷ d ∷ p) (differ c n) (told (c ∷ []) (λ q. (cc)) (n, tt) (d ∷ p) h)
]

-- ---- the names of a prefix are known

same_text : (x y p : List ℕ) → IsUtf8 x → IsUtf8 y → chars x ≡ p → chars y ≡ p → x ≡ y
same_text x y p u v e f = sym (encodes-chars x u) ∙ ap encode_utf8_all (e ∙ sym f) ∙ encodes-chars y v

pub same_split : (p : List ℕ) (b c : Bool) (names others : List (List ℕ)) → PrefixSplitsInto p b names
    → PrefixSplitsInto p c others → (b ≡ c) × (names ≡ others)
same_split p b c names others h k =
    let e : h.text ≡ k.text = same_text h.text k.text p h.encoded k.encoded h.characters k.characters in
    (h.split.root ∙ ap is_rooted e ∙ sym k.split.root, h.split.parts ∙ ap names_in_path e ∙ sym k.split.parts)

-- ---- names that are stored in reverse

pub reversed_last : (xs : List (String Global)) → from_last (reverse xs) ≡ map string_bytes xs
reversed_last [] = refl
reversed_last (x ∷ xs) = ap from_last (reverse-append (x ∷ []) xs) ∙ from_last_end (reverse xs) x
    ∙ ap (λ v. string_bytes x ∷ v) (reversed_last xs)

-- ---- two `/` side by side

pub empty_later : (c : ℕ) (p : List ℕ) → HasEmptyName p → HasEmptyName (c ∷ p)
empty_later c p h = (c ∷ h.0, h.1, ap (λ v. c ∷ v) h.2)

pub empty_past : (c : ℕ) (p : List ℕ) → HasEmptyName (c ∷ p)
    → HasEmptyName p ⊎ ((d : List ℕ) × (c ∷ p ≡ 47 ∷ 47 ∷ d))
empty_past c p h = past h.0 h.2 where
  past : (x : List ℕ) → c ∷ p ≡ x ++ 47 ∷ 47 ∷ h.1 → HasEmptyName p ⊎ ((d : List ℕ) × (c ∷ p ≡ 47 ∷ 47 ∷ d))
  past [] e = inr (h.1, e)
  past (b ∷ x) e = inl (x, h.1, (cc))

pub pair_here : (c : ℕ) (p : List ℕ) → c ≡ 47 → is_rooted p ≡ true → HasEmptyName (c ∷ p)
pair_here c [] e f = absurd (false≢true f)
pair_here c (d ∷ p) e f = ([], p, (let g : d ≡ 47 = eqb-true d 47 f in λ i. e i ∷ g i ∷ p))

pub pair_past : (c : ℕ) (p : List ℕ) → (c ≡ 47 → is_rooted p ≡ true → ⊥)
    → HasEmptyName (c ∷ p) → HasEmptyName p
pair_past c p n h = elim (empty_past c p h) [
  | inl k ↦ k
  | inr k ↦ absurd (apart p k.0 k.1 n)
] where
  apart : (p d : List ℕ) → c ∷ p ≡ 47 ∷ 47 ∷ d → (c ≡ 47 → is_rooted p ≡ true → ⊥) → ⊥
  apart [] d e n = cc
  apart (b ∷ p) d e n = n (let f : c ≡ 47 = cc in f) (let f : b ≡ 47 = cc in ap (λ v. v == 47) f)
