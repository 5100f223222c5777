-- Letters that instructions distinguish.
use Rattle.std.proofs.Common.{◌≡◌, ◌+◌, ◌<◌, ◌≤◌, ◌↔◌, ◌⊎◌, ℕ, zero, suc, Bool, true, false, IsTrue, List, []}
use Rattle.std.proofs.Common.{◌∷◌, ◌++◌, Some, Contains, length, set, length-append, slice_get, slice_index}
use Rattle.std.proofs.{Common.{replicate, refl, sym, ◌∙◌, ap, subst, inl, inr, arith}, Math.Bool.beq}
use Rattle.std.proofs.{lemmas.Bool.cases_lt, lemmas.List.get_or_default}
use Rattle.std.proofs.lemmas.Option.{slice_get_cases, slice_get_within}
use Rattle.wax_program.specs.declared.instruction.Instruction.{Instruction}
use Rattle.wax_program.specs.declared.instruction.Instruction.TheVariants.{Check, Repeat, Components, Fork}
use Rattle.wax_program.specs.{declared.instruction.Instruction.TheVariants.{Jump, Back, End}, Steady.Alike}
use Rattle.wax_compare.specs.declared.distinctions.Exceptions.{Exceptions}
use Rattle.wax_compare.specs.inner.Distinctions.{AreExceptions, AreExceptionsOf, AreExceptionsUpTo}
use Rattle.wax_compare.specs.inner.Distinctions.{AreMarkedAt, IsClosure, IsUnmarked, KeepsMarks, MarksOthers}
use Rattle.wax_compare.specs.inner.Distinctions.{TakesCharacter}
use Rattle.wax_compare.proofs.{Blocks.no_mark, Closures.{closed_at, replaced_among}}

swapped : {P Q R : Type 0} → P ↔ R → Q ↔ R → P ↔ Q
swapped f g = ((λ p. g.1 (f.0 p)), (λ q. f.1 (g.0 q)))

-- an instruction that takes both characters or neither does the same by both
takes_alike : (i : Instruction) (c d : ℕ) → c < 1114112 → d < 1114112
    → TakesCharacter i c ↔ TakesCharacter i d → Alike i c d
takes_alike (Check t) c d small other h = h
takes_alike (Repeat t) c d small other h = h
takes_alike Components c d small other h = h
takes_alike (Fork n) c d small other h = tt
takes_alike (Jump n) c d small other h = tt
takes_alike (Back n) c d small other h = tt
takes_alike (End low high) c d small other h = λ number. (no_mark c d number small, no_mark d c number other)

-- what of two letters that aren't marked is known, where all that is read was marked
module _ (code : List Instruction) (letters places listed : List ℕ)
    (rows : List Exceptions) (marked : List Bool)
    (long : length rows ≡ length code) (of : AreExceptionsOf code letters rows)
    (closure : IsClosure code places listed)
    (told : (j : ℕ) → j < length listed → AreMarkedAt rows marked (slice_index listed j)) where
  told_at : (k : ℕ) → Contains listed k → AreMarkedAt rows marked k
  told_at k has =
      subst (AreMarkedAt rows marked) (get_or_default listed has.0 0 k has.1 ∙ has.2) (told has.0 has.1)

  like : (n m : ℕ) → n < length letters → m < length letters → IsUnmarked marked n → IsUnmarked marked m
      → (k : ℕ) (i : Instruction) → Contains listed k → slice_get code k ≡ Some i
      → Alike i (slice_index letters n) (slice_index letters m)
  like n m ltn ltm un um k i has is = elim (slice_get_cases rows k).1 [
    | inl found ↦ of k i found.0 is found.2 n m ltn ltm (λ h. told_at k has found.0 n found.2 h un)
        (λ h. told_at k has found.0 m found.2 h um)
    | inr none ↦ (let within : k < length code = slice_get_within code k i is in
        let no : ⊥ = omega (arith, within, long, none.0) in absurd no)
  ]

  pub marks_others : MarksOthers code letters places marked
  marks_others n m ltn ltm un um s = (
    replaced_among code listed (slice_index letters n) (slice_index letters m)
        (closed_at code places listed closure) (like n m ltn ltm un um) places s closure.begins,
    replaced_among code listed (slice_index letters m) (slice_index letters n)
        (closed_at code places listed closure) (like m n ltm ltn um un) places s closure.begins,
  )

-- where every letter is marked, nothing is said
pub marks_all : (code : List Instruction) (letters places : List ℕ) (marked : List Bool)
    → ((n : ℕ) → IsUnmarked marked n → ⊥) → MarksOthers code letters places marked
marks_all code letters places marked none n m ltn ltm un um s = absurd (none n un)

-- ---- marks
some_bools : {a b : Bool} → Some a ≡ Some b → a ≡ b
some_bools e = cc

get_replicate : (n : ℕ) (b : Bool) (k : ℕ) (a : Bool) → slice_get (replicate n b) k ≡ Some a → b ≡ a
get_replicate zero b k a e = cc
get_replicate (suc n) b zero a e = some_bools e
get_replicate (suc n) b (suc k) a e = get_replicate n b k a e

pub all_marked : (n : ℕ) (marked : List Bool) (b : Bool) → b ≡ true → marked ≡ replicate n b → (k : ℕ)
    → IsUnmarked marked k → ⊥
all_marked n marked b set is k h = let e : b ≡ false =
    get_replicate n b k false (subst (λ l. slice_get l k ≡ Some false) is h) in cc

pub keeps_marks_same : (xs : List Bool) → KeepsMarks xs xs
keeps_marks_same xs n h = h

pub keeps_marks_on : (xs ys zs : List Bool) → KeepsMarks xs ys → KeepsMarks ys zs → KeepsMarks xs zs
keeps_marks_on xs ys zs f g n h = f n (g n h)

pub marked_kept : (rows : List Exceptions) (old new : List Bool) (k : ℕ) → KeepsMarks old new
    → AreMarkedAt rows old k → AreMarkedAt rows new k
marked_kept rows old new k keeps h e n is has un = h e n is has (keeps n un)

-- ---- the first letters of a row are marked
abbrev pub MarkedUpTo : List ℕ → List Bool → ℕ → Type 0
MarkedUpTo letters marked end = (j : ℕ) → j < end → IsUnmarked marked (slice_index letters j) → ⊥

-- ---- what one instruction takes
pub upto_more : (letters : List ℕ) (i : Instruction) (takes_others : Bool) (old new : List ℕ) (end : ℕ)
    → ((n : ℕ) → Contains old n → Contains new n) → AreExceptionsUpTo letters i takes_others old end
    → Contains new end ⊎ ((slice_index letters end < 1114112) × (TakesCharacter i (slice_index letters end)
    ↔ IsTrue takes_others)) → AreExceptionsUpTo letters i takes_others new (end + 1)
upto_more letters i takes_others old new end kept before now n lt = elim (cases_lt n end) [
  | inl less ↦ elim (before n less) [
    | inl has ↦ inl (kept n has)
    | inr takes ↦ inr takes
  ]
  | inr past ↦ (let e : end ≡ n = omega (arith, lt, past) in subst (λ k. Contains new k ⊎ ((slice_index
      letters k < 1114112) × (TakesCharacter i (slice_index letters k) ↔ IsTrue takes_others))) e now)
]

unlisted : {P : Type 0} (listed : List ℕ) (n : ℕ) → Contains listed n ⊎ P → (Contains listed n → ⊥) → P
unlisted listed n (inl h) out = absurd (out h)
unlisted listed n (inr h) out = h

pub upto_all : (letters : List ℕ) (i : Instruction) (takes_others : Bool) (listed : List ℕ) (end : ℕ)
    → length letters ≤ end → AreExceptionsUpTo letters i takes_others listed end
    → AreExceptions letters i listed
upto_all letters i takes_others listed end all h n m ltn ltm outn outm =
    let one = unlisted listed n (h n (omega (arith, ltn, all))) outn in
    let two = unlisted listed m (h m (omega (arith, ltm, all))) outm in
    takes_alike i (slice_index letters n) (slice_index letters m) one.0 two.0 (swapped one.1 two.1)

pub same_taken : (a b : Bool) → beq a b ≡ true → a ≡ b
same_taken true true e = refl
same_taken true false e = cc
same_taken false true e = cc
same_taken false false e = refl

some_exceptions : {a b : Exceptions} → Some a ≡ Some b → a ≡ b
some_exceptions e = cc

some_instructions : {a b : Instruction} → Some a ≡ Some b → a ≡ b
some_instructions e = cc

-- an entry is an old one or the last
old_or_last : (xs : List Exceptions) (e x : Exceptions) (k : ℕ) → slice_get (xs ++ e ∷ []) k ≡ Some x
    → (slice_get xs k ≡ Some x) ⊎ ((k ≡ length xs) × (e ≡ x))
old_or_last [] e x zero is = inr (refl, some_exceptions is)
old_or_last [] e x (suc k) is = cc
old_or_last (y ∷ xs) e x zero is = inl is
old_or_last (y ∷ xs) e x (suc k) is = elim (old_or_last xs e x k is) [
  | inl old ↦ inl old
  | inr last ↦ inr (ap suc last.0, last.1)
]

-- one more row
pub rows_more : (code : List Instruction) (letters : List ℕ) (old new : List Exceptions) (at : ℕ)
    (e : Exceptions) (i : Instruction) → length old ≡ at → slice_get code at ≡ Some i → new ≡ old ++ e ∷ []
    → AreExceptions letters i e.letters.items → AreExceptionsOf code letters old
    → (length new ≡ at + 1) × AreExceptionsOf code letters new
rows_more code letters old new at e i long is pushed good before = (
  omega (arith, ap length pushed, length-append old (e ∷ []), long),
  λ k j x isj isx. elim (old_or_last old e x k (subst (λ l. slice_get l k ≡ Some x) pushed isx)) [
    | inl was ↦ before k j x isj was
    | inr last ↦ (let same : i ≡ j =
        some_instructions (sym is ∙ ap (slice_get code) (sym (last.0 ∙ long)) ∙ isj) in
        subst (λ z. AreExceptions letters j z.letters.items) last.1
        (subst (λ z. AreExceptions letters z e.letters.items) same good))
  ],
)

pub true_or_false : (b : Bool) → (b ≡ true) ⊎ (b ≡ false)
true_or_false true = inl refl
true_or_false false = inr refl

-- ---- places whose exceptions are marked
pub places_more : (rows : List Exceptions) (places : List ℕ) (old new : List Bool) (end at : ℕ)
    → at ≡ slice_index places end → KeepsMarks old new
    → ((j : ℕ) → j < end → AreMarkedAt rows old (slice_index places j)) → AreMarkedAt rows new at
    → (j : ℕ) → j < end + 1 → AreMarkedAt rows new (slice_index places j)
places_more rows places old new end at is keeps before now j lt = elim (cases_lt j end) [
  | inl less ↦ marked_kept rows old new (slice_index places j) keeps (before j less)
  | inr past ↦ (let same : end ≡ j = omega (arith, lt, past) in
      subst (λ k. AreMarkedAt rows new (slice_index places k)) same (subst (AreMarkedAt rows new) is now))
]
