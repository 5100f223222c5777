-- Characters between which no cut is pass the same tests.
use Rattle.std.proofs.Common.{◌≡◌, ◌+◌, ◌<◌, ◌≤◌, ◌==◌, ◌&&◌, ◌||◌, ℕ, zero, suc, Bool, true, false, not}
use Rattle.std.proofs.Common.{if◌then◌else◌, nat_le, nat_lt, List, [], ◌∷◌, ◌++◌, IfSome, Contains, All}
use Rattle.std.proofs.Common.{length, get_or, refl, sym, ◌∙◌, ap, subst, inl, inr, arith, rules}
use Rattle.std.proofs.lemmas.Bool.{cases_eq, cases_lt, eq-eqb, eqb-true, le-leb, leb-true, ltb-true}
use Rattle.std.proofs.{lemmas.List.Elements.{All-head, All-tail}, lemmas.Option.slice_get_within}
use Rattle.std.specs.{Str.all_scalars, Char.IsScalar, List.{list_any, list_all}}
use Rattle.unicode.specs.CaseFolding.{simple_fold, fold_pairs}
use Rattle.ucd_case.proofs.{BoundLemmas.simple_fold_idem, FoldPairsLemmas.IsFoldPairs-fold_pairs}
use Rattle.ucd_case.specs.FoldOtherRows.{fold_other_rows}
use Rattle.wax_token.specs.declared.token.Archetype.{Archetype}
use Rattle.wax_token.specs.declared.token.Archetype.TheVariants.{Character, Range}
use Rattle.wax_token.specs.Meaning.{in_archetype, in_class, is_forward}
use Rattle.wax_program.specs.declared.instruction.Instruction.{Instruction}
use Rattle.wax_program.specs.declared.instruction.Instruction.TheVariants.{Check, Repeat, Components, Fork}
use Rattle.wax_program.specs.declared.instruction.Instruction.TheVariants.{Jump, Back, End}
use Rattle.wax_program.specs.declared.instruction.Test.{Test}
use Rattle.wax_program.specs.declared.instruction.Test.TheVariants.{Char, Folded, Class, NotSlash, Any, Never}
use Rattle.wax_program.specs.{Machine.{PassesTest, mark}, Steady.Alike, Tests.test_of}
use Rattle.wax_compare.specs.Cuts.{CutApart, SameBlock}
use Rattle.wax_compare.specs.inner.Cutting.{CutsArchetype, CutsBefore, CutsFoldings, CutsTest, IsCutOut}

pub scalar_first : (c : ℕ) (s : List ℕ) → all_scalars (c ∷ s) ≡ true → IsScalar c
scalar_first c s h = search rules

pub scalar_rest : (c : ℕ) (s : List ℕ) → all_scalars (c ∷ s) ≡ true → all_scalars s ≡ true
scalar_rest c s h = search rules

pub scalars_push : (s : List ℕ) (c : ℕ) → all_scalars s ≡ true → IsScalar c
    → all_scalars (s ++ c ∷ []) ≡ true
scalars_push [] c h scalar = search rules
scalars_push (d ∷ s) c h scalar =
    let rest : all_scalars (s ++ c ∷ []) ≡ true = scalars_push s c (scalar_rest d s h) scalar in search rules

pub scalar_small : (c : ℕ) → IsScalar c → c < 1114112
scalar_small c h = search rules

and_parts : (x y : Bool) → (x && y) ≡ true → (x ≡ true) × (y ≡ true)
and_parts true true e = (refl, refl)
and_parts true false e = cc
and_parts false y e = cc

and_both : (x y : Bool) → x ≡ true → y ≡ true → (x && y) ≡ true
and_both true true e f = refl
and_both true false e f = cc
and_both false y e f = cc

-- two tests, each of which passes if the other does
pub same_bits : (a b : Bool) → (a ≡ true → b ≡ true) → (b ≡ true → a ≡ true) → a ≡ b
same_bits true true h g = refl
same_bits true false h g = sym (h refl)
same_bits false true h g = g refl
same_bits false false h g = refl

module _ (cuts : List ℕ) (c d : ℕ) (same : SameBlock cuts c d) where
  -- a character that is cut out stands for itself
  pub cut_out : (e : ℕ) → IsCutOut cuts e → c ≡ e → d ≡ e
  cut_out e h is =
      let low : e ≤ d = (same e h.0).0 (omega (arith, is)) in
      elim (cases_lt e d) [
        | inl lt ↦ (let past : e + 1 ≤ c = (same (e + 1) h.1).1 (omega (arith, lt)) in
            let no : ⊥ = omega (arith, past, is) in absurd no)
        | inr le ↦ omega (arith, low, le)
      ]

  at_most : (e : ℕ) → Contains cuts (e + 1) → c ≤ e → d ≤ e
  at_most e h le = elim (cases_lt e d) [
    | inl past ↦ (let far : e + 1 ≤ c = (same (e + 1) h).1 (omega (arith, past)) in
        let no : ⊥ = omega (arith, far, le) in absurd no)
    | inr lt ↦ lt
  ]

  in_archetype_then : (a : Archetype) → CutsArchetype cuts a → in_archetype c a ≡ true
      → in_archetype d a ≡ true
  in_archetype_then (Character e) h is = eq-eqb d e (cut_out e h (eqb-true c e is))
  in_archetype_then (Range low high) h is =
      let parts = and_parts (nat_le low c) (nat_le c high) is in
      and_both (nat_le low d) (nat_le d high) (le-leb low d ((same low h.0).0 (leb-true low c parts.0)))
      (le-leb d high (at_most high h.1 (leb-true c high parts.1)))

-- whether a class has a character, where it is known whether that is `/` and whether it is listed
abbrev decided : Bool → List Archetype → Bool → Bool → Bool
decided negated xs a x = not a && list_all is_forward xs && (if negated then not x else x)

pub turned : (cuts : List ℕ) (c d : ℕ) → SameBlock cuts c d → SameBlock cuts d c
turned cuts c d same p h = let s = same p h in (s.1, s.0)

module _ (cuts : List ℕ) (c d : ℕ) (same : SameBlock cuts c d) where
  same_archetype : (a : Archetype) → CutsArchetype cuts a → in_archetype c a ≡ in_archetype d a
  same_archetype a h = same_bits (in_archetype c a) (in_archetype d a) (in_archetype_then cuts c d same a h)
      (in_archetype_then cuts d c (turned cuts c d same) a h)

  same_archetypes : (xs : List Archetype) → All (CutsArchetype cuts) xs
      → list_any (in_archetype c) xs ≡ list_any (in_archetype d) xs
  same_archetypes [] h = refl
  same_archetypes (a ∷ xs) h =
      let first = same_archetype a (All-head (CutsArchetype cuts) a xs h) in
      let rest = same_archetypes xs (All-tail (CutsArchetype cuts) a xs h) in
      ap (λ b. b || list_any (in_archetype c) xs) first ∙ ap (λ b. in_archetype d a || b) rest

  same_char : (e : ℕ) → IsCutOut cuts e → (c == e) ≡ (d == e)
  same_char e h = same_archetype (Character e) h

  same_class : (negated : Bool) (xs : List Archetype) → IsCutOut cuts 47 → All (CutsArchetype cuts) xs
      → in_class negated xs c ≡ in_class negated xs d
  same_class negated xs slash h = ap (λ a. decided negated xs a (list_any (in_archetype c) xs))
      (same_char 47 slash) ∙ ap (λ x. decided negated xs (d == 47) x) (same_archetypes xs h)

-- no character is a mark
pub no_mark : (c d number : ℕ) → c < 1114112 → c ≡ mark number → d ≡ mark number
no_mark c d number small is = let no : ⊥ = omega (arith, small, is) in absurd no

-- ---- the characters with one folding
module _ (cuts folded : List ℕ) (foldings : CutsFoldings cuts folded) where
  -- a character with a folding that is listed is cut out
  with_folding : (c e : ℕ) → IsCutOut cuts e → Contains folded e → e ≡ simple_fold c → IsCutOut cuts c
  with_folding c e h listed is = elim (cases_eq c e) [
    | inl same ↦ subst (IsCutOut cuts) (sym same) h
    | inr not_same ↦ foldings c e
        ((IsFoldPairs-fold_pairs c e).1 (not_same, sym (simple_fold_idem c) ∙ ap simple_fold (sym is))) listed
  ]

  folded_then : (c d e : ℕ) → SameBlock cuts c d → IsCutOut cuts e → Contains folded e
      → e ≡ simple_fold c → e ≡ simple_fold d
  folded_then c d e same h listed is =
      let one : d ≡ c = cut_out cuts c d same c (with_folding c e h listed is) refl in
      is ∙ ap simple_fold (sym one)

  module _ (slash : IsCutOut cuts 47) where
    passes_then : (c d : ℕ) → SameBlock cuts c d → (t : Test) → CutsTest cuts folded t
        → PassesTest t c → PassesTest t d
    passes_then c d same (Char e) h p = cut_out cuts c d same e h p
    passes_then c d same (Folded e) h p = folded_then c d e same h.0 h.1 p
    passes_then c d same (Class k) h p = sym (same_class cuts c d same k.0 k.1 slash h) ∙ p
    passes_then c d same NotSlash h p = λ e. p (cut_out cuts d c (turned cuts c d same) 47 slash e)
    passes_then c d same Any h p = tt
    passes_then c d same Never h p = absurd p

    alike : (c d : ℕ) → c < 1114112 → d < 1114112 → SameBlock cuts c d → (i : Instruction)
        → IfSome (test_of i) (CutsTest cuts folded) → Alike i c d
    alike c d small other same (Check t) h =
        (passes_then c d same t h, passes_then d c (turned cuts c d same) t h)
    alike c d small other same (Repeat t) h =
        (passes_then c d same t h, passes_then d c (turned cuts c d same) t h)
    alike c d small other same Components h =
        (cut_out cuts c d same 47 slash, cut_out cuts d c (turned cuts c d same) 47 slash)
    alike c d small other same (Fork n) h = tt
    alike c d small other same (Jump n) h = tt
    alike c d small other same (Back n) h = tt
    alike c d small other same (End low high) h =
        λ number. (no_mark c d number small, no_mark d c number other)

    pub cut_apart : (code : List Instruction) → CutsBefore code (length code) cuts folded → CutApart code cuts
    cut_apart code h c d small other same k i is =
        alike c d small other same i (h k i (slice_get_within code k i is) is)

-- ---- the characters of the table
bounded : List (ℕ × ℕ) → Bool
bounded [] = true
bounded (p ∷ ps) = nat_lt p.0 1114112 && bounded ps

bounded-fold_pairs : bounded fold_pairs ≡ true
unfolding bounded fold_pairs fold_other_rows
bounded-fold_pairs = refl

bounded_at : (ps : List (ℕ × ℕ)) (i : ℕ) → bounded ps ≡ true → i < length ps
    → (get_or ps i (0, 0)).0 < 1114112
unfolding bounded
bounded_at [] i h lt = absurd (omega (arith, lt))
bounded_at (p ∷ ps) zero h lt = ltb-true p.0 1114112 (and_parts (nat_lt p.0 1114112) (bounded ps) h).0
bounded_at (p ∷ ps) (suc i) h lt =
    bounded_at ps i (and_parts (nat_lt p.0 1114112) (bounded ps) h).1 (omega (arith, lt))

pub table_bounded : (ps : List (ℕ × ℕ)) (i : ℕ) → ps ≡ fold_pairs → i < length ps
    → (get_or ps i (0, 0)).0 < 1114112
table_bounded ps i e lt = bounded_at ps i (subst (λ z. bounded z ≡ true) (sym e) bounded-fold_pairs) lt
