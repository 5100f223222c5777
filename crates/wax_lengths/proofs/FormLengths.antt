-- The lengths of the parts that forms take.
use Rattle.std.proofs.Common.{◌≡◌, ℕ, zero, suc, ◌+◌, ◌<◌, ◌≤◌, ◌↔◌, ◌⊎◌, Bool, true, false, ◌||◌, IsTrue}
use Rattle.std.proofs.Common.{List, [], ◌∷◌, ◌++◌, length, get_or, take, drop, drop-cons, refl, sym, ◌∙◌, ap}
use Rattle.std.proofs.Common.{subst, inl, inr, arith, length-drop, length-take, true≢false}
use Rattle.std.proofs.{lemmas.Bool.{cases_eq, cases_lt}, lemmas.List.get_or_past, Math.Seq.take-suc}
use Rattle.wax_program.specs.{declared.instruction.Test.Test, Machine.PassesTest, Places.HoldsPlace}
use Rattle.wax_query.specs.Components.{BeginsWithSlash, EndsWithSlash}
use Rattle.wax_token.specs.Meaning.{HasNoSlash, TreeMeans}
use Rattle.wax_lengths.specs.Forms.{IsLetter, SpelledBy}
use Rattle.wax_lengths.specs.inner.Names.{tree_end, tree_low, tree_marks, name_len}
use Rattle.wax_lengths.specs.{Spans.{AreLengths, IsMarked}, declared.span.Marks.TheVariants.{All, AfterSlash}}
use Rattle.wax_lengths.specs.declared.span.LengthSpan.{LengthSpan}

abbrev pub between : ℕ → ℕ → LengthSpan
between low end = record { low = low; end = end; marks = All }

pub has_within : (flags : List Bool) (n : ℕ) → HoldsPlace flags n → n < length flags
has_within flags n h = elim (cases_lt n (length flags)) [
  | inl lt ↦ lt
  | inr past ↦ absurd (true≢false (sym h ∙ get_or_past flags n false past))
]

-- ---- no length, or one
pub no_length : (Takes : List ℕ → Type 0) (s : List ℕ) → ((n : ℕ) → n ≤ length s → Takes (take n s) → ⊥)
    → AreLengths Takes s (between 0 0)
no_length Takes s none n le = ((λ h. absurd (none n le h)), (λ h. absurd (empty h.1)))
  where
    empty : n < 0 → ⊥
    empty lt = omega (arith, lt)

pub one_length : (Takes : List ℕ → Type 0) (s : List ℕ) (m : ℕ) → Takes (take m s)
    → ((n : ℕ) → n ≤ length s → Takes (take n s) → n ≡ m) → AreLengths Takes s (between m (m + 1))
one_length Takes s m here only n le = (
  (λ h. let e : n ≡ m = only n le h in (omega (arith, e), omega (arith, e), tt)),
  (λ h. let e : n ≡ m = omega (arith, h.0, h.1) in subst (λ k. Takes (take k s)) (sym e) here),
)

-- ---- one character
abbrev pub OneOf : Test → List ℕ → Type 0
OneOf t x = (c : ℕ) × (x ≡ c ∷ []) × PassesTest t c

one_only : (t : Test) (s : List ℕ) (n : ℕ) → n ≤ length s → OneOf t (take n s) → n ≡ 1
one_only t s n le h = let e : length (take n s) ≡ 1 = ap length h.1 in omega (arith, e, length-take n s, le)

pub from_place : (text : List ℕ) (at c : ℕ) → at < length text → c ≡ get_or text at c
    → drop at text ≡ c ∷ drop (at + 1) text
from_place text at c lt e =
    let m : suc at ≡ at + 1 = omega arith in
    drop-cons text at c lt ∙ ap (λ z. z ∷ drop (suc at) text) (sym e) ∙ ap (λ k. c ∷ drop k text) m

one_char : {c d : ℕ} → c ∷ [] ≡ d ∷ [] → c ≡ d
one_char e = cc

pub one_end : (t : Test) (text : List ℕ) (at : ℕ) → length text ≤ at
    → AreLengths (OneOf t) (drop at text) (between 0 0)
one_end t text at le = no_length (OneOf t) (drop at text) none
  where
    none : (n : ℕ) → n ≤ length (drop at text) → OneOf t (take n (drop at text)) → ⊥
    none n within h = let one : n ≡ 1 = one_only t (drop at text) n within h in
        omega (arith, one, within, le, length-drop at text)

module _ (t : Test) (text : List ℕ) (at c : ℕ) (lt : at < length text) (is : c ≡ get_or text at c) where
  first : take 1 (drop at text) ≡ c ∷ []
  first = ap (take 1) (from_place text at c lt is)

  pub one_yes : PassesTest t c → AreLengths (OneOf t) (drop at text) (between 1 2)
  one_yes h = one_length (OneOf t) (drop at text) 1 (c, first, h) (λ n le g. one_only t (drop at text) n le g)

  pub one_no : (PassesTest t c → ⊥) → AreLengths (OneOf t) (drop at text) (between 0 0)
  one_no h = no_length (OneOf t) (drop at text) (λ n le g.
      let one : n ≡ 1 = one_only t (drop at text) n le g in
      let same : g.0 ≡ c = one_char (sym g.1 ∙ ap (λ k. take k (drop at text)) one ∙ first) in
      h (subst (PassesTest t) same g.2))

-- ---- letters
pub spelled_length : (f : Bool) (ls x : List ℕ) → SpelledBy f ls x → length x ≡ length ls
spelled_length f [] [] h = refl
spelled_length f [] (c ∷ x) h = absurd h
spelled_length f (l ∷ ls) [] h = absurd h
spelled_length f (l ∷ ls) (c ∷ x) h = ap (λ n. suc n) (spelled_length f ls x h.1)

spelled_only : (f : Bool) (ls s : List ℕ) (n : ℕ) → n ≤ length s → SpelledBy f ls (take n s) → n ≡ length ls
spelled_only f ls s n le h = omega (arith, spelled_length f ls (take n s) h, length-take n s, le)

pub text_yes : (f : Bool) (ls s : List ℕ) → SpelledBy f ls (take (length ls) s)
    → AreLengths (SpelledBy f ls) s (between (length ls) (length ls + 1))
text_yes f ls s h = one_length (SpelledBy f ls) s (length ls) h (λ n le g. spelled_only f ls s n le g)

pub text_no : (f : Bool) (ls s : List ℕ) → (length ls ≤ length s → SpelledBy f ls (take (length ls) s) → ⊥)
    → AreLengths (SpelledBy f ls) s (between 0 0)
text_no f ls s h = no_length (SpelledBy f ls) s (λ n le g.
    let e : n ≡ length ls = spelled_only f ls s n le g in
    h (omega (arith, e, le)) (subst (λ k. SpelledBy f ls (take k s)) e g))

-- letter by letter
-- the first character is the first letter
pub spelled_first : (f : Bool) (ls s : List ℕ) (n l c : ℕ) → 0 < length ls → l ≡ get_or ls 0 l
    → c ≡ get_or s 0 c → SpelledBy f ls (take n s) → IsLetter f l c
spelled_first f [] s n l c lt is at h = absurd (omega (arith, lt))
spelled_first f (x ∷ ls) s zero l c lt is at h = absurd h
spelled_first f (x ∷ ls) [] (suc n) l c lt is at h = absurd h
spelled_first f (x ∷ ls) (d ∷ s) (suc n) l c lt is at h =
    subst (λ z. IsLetter f z c) (sym is) (subst (IsLetter f x) (sym at) h.0)

-- each letter is where it is spelled
pub spelled_at : (f : Bool) (ls s : List ℕ) (n j : ℕ) → SpelledBy f ls (take n s) → j < length ls
    → (j < length s) × IsLetter f (get_or ls j 0) (get_or s j 0)
spelled_at f [] s n j h lt = absurd (omega (arith, lt))
spelled_at f (l ∷ ls) s zero j h lt = absurd h
spelled_at f (l ∷ ls) [] (suc n) j h lt = absurd h
spelled_at f (l ∷ ls) (d ∷ s) (suc n) zero h lt = (omega arith, h.0)
spelled_at f (l ∷ ls) (d ∷ s) (suc n) (suc j) h lt = let (within, same) =
    spelled_at f ls s n j h.1 (omega (arith, lt)) in (omega (arith, within), same)

-- the letters before a place stand there
abbrev pub SpelledTo : Bool → List ℕ → List ℕ → ℕ → Type 0
SpelledTo f ls s n = SpelledBy f (take n ls) (take n s)

pub spelled_more : (f : Bool) (ls s : List ℕ) (n l c : ℕ) → n < length ls → n < length s → l ≡ get_or ls n l
    → c ≡ get_or s n c → IsLetter f l c → SpelledTo f ls s n → SpelledTo f ls s (n + 1)
spelled_more f [] s n l c lt ls' le ce h g = absurd (omega (arith, lt))
spelled_more f (k ∷ ls) [] n l c lt sl le ce h g = absurd (omega (arith, sl))
spelled_more f (k ∷ ls) (d ∷ s) zero l c lt sl le ce h g =
    (subst (λ z. IsLetter f z d) le (subst (IsLetter f l) ce h), tt)
spelled_more f (k ∷ ls) (d ∷ s) (suc n) l c lt sl le ce h g =
    let m : suc n + 1 ≡ suc (n + 1) = omega arith in
    rw m (g.0, spelled_more f ls s n l c (omega (arith, lt)) (omega (arith, sl)) le ce h g.1)

-- ---- names

name_to : (s : List ℕ) (n : ℕ) → n ≤ length s → HasNoSlash (take n s) → n ≤ name_len s
name_to s zero le h = omega arith
name_to [] (suc n) le h = absurd (omega (arith, le))
name_to (c ∷ s) (suc n) le h =
    let r : n ≤ name_len s = name_to s n (omega (arith, le)) h.1 in
    let e : name_len (c ∷ s) ≡ suc (name_len s) = grind (arith, h.0) in
    omega (arith, r, e)

name_from : (s : List ℕ) (n : ℕ) → n ≤ name_len s → HasNoSlash (take n s)
name_from s zero le = tt
name_from [] (suc n) le = absurd (omega (arith, le))
name_from (c ∷ s) (suc n) le = elim (cases_eq c 47) [
  | inl same ↦ (let e : name_len (c ∷ s) ≡ 0 = grind (arith, same) in absurd (none e le))
  | inr other ↦ (let e : name_len (c ∷ s) ≡ suc (name_len s) = grind (arith, other) in
      (other, name_from s n (omega (arith, e, le))))
]
  where
    none : {k : ℕ} → k ≡ 0 → suc n ≤ k → ⊥
    none e le = omega (arith, e, le)

pub name_lengths : (s : List ℕ) (m : ℕ) → m ≡ name_len s → AreLengths HasNoSlash s (between 0 (m + 1))
name_lengths s m e n le = (
  (λ h. (omega arith, omega (arith, name_to s n le h, e), tt)),
  (λ h. name_from s n (omega (arith, h.1, e))),
)

-- ---- `/`
taken_none : (s : List ℕ) (n : ℕ) → n ≤ length s → take n s ≡ [] → n ≡ 0
taken_none s n le e = let f : length (take n s) ≡ 0 = ap length e in omega (arith, f, length-take n s, le)

taken_slash : (s : List ℕ) (n : ℕ) → n ≤ length s → take n s ≡ 47 ∷ [] → (n ≡ 1) × BeginsWithSlash s
taken_slash [] n le e = absurd (omega (arith, ap length e, length-take {A = ℕ} n [], le))
taken_slash (c ∷ s) zero le e = absurd (nothing refl e)
  where
    nothing : {x : List ℕ} → x ≡ [] → x ≡ 47 ∷ [] → ⊥
    nothing e h = cc
taken_slash (c ∷ s) (suc n) le e =
    let f : suc (length (take n s)) ≡ 1 = ap length e in
    (omega (arith, f, length-take n s, le), (s, ap (λ d. d ∷ s) (head_same e)))
  where
    head_same : {x : List ℕ} → c ∷ x ≡ 47 ∷ [] → c ≡ 47
    head_same e = cc

-- ---- tree wildcards
begins_taken : (s : List ℕ) (n : ℕ) → n ≤ length s → BeginsWithSlash (take n s) → (1 ≤ n) × BeginsWithSlash s
begins_taken s zero le h = absurd (nothing h.1)
  where
    nothing : {t : List ℕ} → [] ≡ 47 ∷ t → ⊥
    nothing e = cc
begins_taken [] (suc n) le h = absurd (omega (arith, le))
begins_taken (c ∷ s) (suc n) le h = (omega arith, (s, ap (λ d. d ∷ s) (head_same h.1)))
  where
    head_same : {x t : List ℕ} → c ∷ x ≡ 47 ∷ t → c ≡ 47
    head_same e = cc

taken_begins : (s : List ℕ) (n : ℕ) → 1 ≤ n → BeginsWithSlash s → BeginsWithSlash (take n s)
taken_begins s zero le b = absurd (omega (arith, le))
taken_begins s (suc n) le b = (take n b.0, ap (take (suc n)) b.1)

-- the last character of a part
last_is : (s : List ℕ) (n : ℕ) → suc n ≤ length s → take (suc n) s ≡ take n s ++ get_or s n 0 ∷ []
last_is s n le = take-suc s n 0 (omega (arith, le))

ends_taken : (s : List ℕ) (n : ℕ) → n ≤ length s → EndsWithSlash (take n s)
    → (1 ≤ n) × IsMarked AfterSlash s n
ends_taken s zero le h = absurd (nothing h.0 h.1)
  where
    nothing : (t : List ℕ) → [] ≡ t ++ 47 ∷ [] → ⊥
    nothing [] e = cc
    nothing (c ∷ t) e = cc
ends_taken s (suc n) le h =
    (omega arith, last_same (take n s) h.0 (get_or s n 0) (sym (last_is s n le) ∙ h.1))
  where
    last_same : (x t : List ℕ) (c : ℕ) → x ++ c ∷ [] ≡ t ++ 47 ∷ [] → c ≡ 47
    last_same [] [] c e = cc
    last_same [] (d ∷ []) c e = absurd (cc)
    last_same [] (d ∷ f ∷ t) c e = absurd (cc)
    last_same (d ∷ []) [] c e = absurd (cc)
    last_same (d ∷ f ∷ x) [] c e = absurd (cc)
    last_same (d ∷ x) (f ∷ t) c e = last_same x t c (ap (drop 1) e)

taken_ends : (s : List ℕ) (n : ℕ) → n ≤ length s → 1 ≤ n → IsMarked AfterSlash s n → EndsWithSlash (take n s)
taken_ends s zero le some h = absurd (omega (arith, some))
taken_ends s (suc n) le some h = (take n s, last_is s n le ∙ ap (λ c. take n s ++ c ∷ []) h)

marked_none : (s : List ℕ) (n : ℕ) → n ≡ 0 → IsMarked AfterSlash s n
marked_none s zero e = tt
marked_none s (suc n) e = absurd (omega (arith, e))

-- at most so many, if a `/` has to come first and doesn't
abbrev tree_span : Bool → Bool → Bool → Bool → ℕ → LengthSpan
tree_span before after rooted begins rest = record {
  low = tree_low before after rooted;
  end = tree_end (before || rooted) begins rest;
  marks = tree_marks after;
}

module _ (s : List ℕ) (b : Bool) (is : IsTrue b ↔ BeginsWithSlash s) where
  -- a `/` comes first
  bound_to : (n : ℕ) → n ≤ length s → BeginsWithSlash (take n s) → (1 ≤ n) × (n < tree_end true b (length s))
  bound_to n le h =
      let r = begins_taken s n le h in
      let e : tree_end true b (length s) ≡ length s + 1 = ap (λ z. tree_end true z (length s)) (is.1 r.1) in
      (r.0, omega (arith, e, le))

  bound_from : (n : ℕ) → 1 ≤ n → n < tree_end true b (length s) → BeginsWithSlash (take n s)
  bound_from n some lt = elim (either b) [
    | inl so ↦ taken_begins s n some (is.0 so)
    | inr fails ↦ (let e : tree_end true b (length s) ≡ 1 =
        ap (λ z. tree_end true z (length s)) fails in absurd (past e))
  ]
    where
      either : (b : Bool) → (b ≡ true) ⊎ (b ≡ false)
      either true = inl refl
      either false = inr refl

      past : tree_end true b (length s) ≡ 1 → ⊥
      past e = omega (arith, some, lt, e)

  none_bound : (n : ℕ) → n ≡ 0 → n < tree_end true b (length s)
  none_bound n e = bounded b e
    where
      bounded : (b : Bool) → n ≡ 0 → n < tree_end true b (length s)
      bounded true e = omega (arith, e)
      bounded false e = omega (arith, e)

  either_none : (n : ℕ) → (n ≡ 0) ⊎ (1 ≤ n)
  either_none zero = inl refl
  either_none (suc n) = inr (omega arith)

  pub tree_lengths : (before after rooted : Bool)
      → AreLengths (TreeMeans before after rooted) s (tree_span before after rooted b (length s))
  tree_lengths false false false n le = ((λ h. (omega arith, omega (arith, le), tt)), (λ h. tt))
  tree_lengths false false true n le = (
    (λ h. let r = bound_to n le h in (r.0, r.1, tt)),
    (λ h. bound_from n h.0 h.1),
  )
  tree_lengths false true false n le = (
    (λ h. elim h [
      | inl e ↦ (let m : n ≡ 0 = taken_none s n le e in (omega arith, omega (arith, le), marked_none s n m))
      | inr e ↦ (let r = ends_taken s n le e in (omega arith, omega (arith, le), r.1))
    ]),
    (λ h. elim (either_none n) [
      | inl m ↦ inl (ap (λ k. take k s) m)
      | inr some ↦ inr (taken_ends s n le some h.2)
    ]),
  )
  tree_lengths false true true n le = (
    (λ h. let r = bound_to n le h.0 in (r.0, r.1, (ends_taken s n le h.1).1)),
    (λ h. (bound_from n h.0 h.1, taken_ends s n le h.0 h.2)),
  )
  tree_lengths true true rooted n le = (
    (λ h. let r = bound_to n le h.0 in (r.0, r.1, (ends_taken s n le h.1).1)),
    (λ h. (bound_from n h.0 h.1, taken_ends s n le h.0 h.2)),
  )
  tree_lengths true false rooted n le = (
    (λ h. elim h [
      | inl e ↦ (omega arith, none_bound n (taken_none s n le e), tt)
      | inr e ↦ (let r = bound_to n le e in (omega arith, r.1, tt))
    ]),
    (λ h. elim (either_none n) [
      | inl m ↦ inl (ap (λ k. take k s) m)
      | inr some ↦ inr (bound_from n some h.1)
    ]),
  )
