-- Characters that aren't marked pass the same tests.
use Rattle.std.proofs.Common.{◌≡◌, ◌<◌, ◌≤◌, ◌&&◌, ℕ, Bool, true, false, not, if◌then◌else◌, nat_le, List, []}
use Rattle.std.proofs.Common.{◌∷◌, Option, Some, None, IfSome, Contains, length, refl, sym, ◌∙◌, ap, subst}
use Rattle.std.proofs.Common.{inl, inr, arith}
use Rattle.std.proofs.lemmas.Bool.{and_parts, and_right, cases_eq, lt-leb, ltb-true, ne_eqb, or_from}
use Rattle.std.proofs.lemmas.Option.{slice_get_within}
use Rattle.std.specs.List.{list_any, list_all}
use Rattle.unicode.specs.CaseFolding.{simple_fold, fold_pairs}
use Rattle.ucd_case.proofs.{BoundLemmas.simple_fold_idem, FoldPairsLemmas.IsFoldPairs-fold_pairs}
use Rattle.wax_token.specs.declared.token.Archetype.{Archetype}
use Rattle.wax_token.specs.declared.token.Archetype.TheVariants.{Character, Range}
use Rattle.wax_token.specs.Meaning.{in_archetype, in_class, is_forward}
use Rattle.wax_program.specs.declared.instruction.Instruction.{Instruction}
use Rattle.wax_program.specs.declared.instruction.Instruction.TheVariants.{Check, Repeat, Components, Fork}
use Rattle.wax_program.specs.declared.instruction.Instruction.TheVariants.{Jump, Back, End}
use Rattle.wax_program.specs.declared.instruction.Test.{Test}
use Rattle.wax_program.specs.declared.instruction.Test.TheVariants.{Char, Folded, Class, NotSlash, Any, Never}
use Rattle.wax_program.specs.{Machine.{PassesTest, mark}, Places.HoldsPlace, Steady.Alike, Tests.test_of}
use Rattle.wax_states.specs.Alike.{AreAlike, SharesLetter}
use Rattle.wax_states.specs.inner.Marks.{IsMarkedBelow, KeepsMarked, MarksBefore, MarksFoldings, MarksTest}
use Rattle.wax_states.specs.inner.Marks.{lists_ascii}

-- ---- classes that list only ASCII characters
past_archetype : (c : ℕ) → 128 ≤ c → (a : Archetype) → lists_ascii a ≡ true → in_archetype c a ≡ false
past_archetype c past (Character d) h =
    let low = ltb-true d 128 h in ne_eqb c d (λ same. omega (arith, same, low, past))
past_archetype c past (Range low high) h =
    let under = ltb-true high 128 h in
    and_right (nat_le low c) (nat_le c high) (lt-leb c high (omega (arith, under, past)))

past_archetypes : (c : ℕ) → 128 ≤ c → (xs : List Archetype) → list_all lists_ascii xs ≡ true
    → list_any (in_archetype c) xs ≡ false
past_archetypes c past [] h = refl
past_archetypes c past (a ∷ xs) h =
    let parts = and_parts (lists_ascii a) (list_all lists_ascii xs) h in
    or_from (in_archetype c a) (list_any (in_archetype c) xs) (past_archetype c past a parts.0)
    (past_archetypes c past xs parts.1)

-- whether a class has a character, where it is known whether that is `/` and whether it is listed
abbrev decided : Bool → List Archetype → Bool → Bool → Bool
decided negated xs a x = not a && list_all is_forward xs && (if negated then not x else x)

-- a class has each character past ASCII, or none
past_class : (negated : Bool) (xs : List Archetype) (c : ℕ) → 128 ≤ c → list_all lists_ascii xs ≡ true
    → in_class negated xs c ≡ decided negated xs false false
past_class negated xs c past h =
    ap (λ a. decided negated xs a (list_any (in_archetype c) xs)) (ne_eqb c 47 (λ e. omega (arith, e, past)))
    ∙ ap (decided negated xs false) (past_archetypes c past xs h)

-- ---- tests, where some characters were marked, and then those with foldings that were
module _ (begun marks : List Bool) (kept : KeepsMarked begun marks) (foldings : MarksFoldings begun marks)
  where
    not_marked : (c d : ℕ) → SharesLetter marks c → IsMarkedBelow begun d → c ≡ d → ⊥
    not_marked c d un marked is =
        let low : d < 131072 = omega (arith, is, un.1) in
        un.2 (kept c (subst (HoldsPlace begun) (sym is) (marked low)))

    not_folded : (c d : ℕ) → SharesLetter marks c → d < 131072 → IsMarkedBelow begun d → d ≡ simple_fold c → ⊥
    not_folded c d un low marked is = elim (cases_eq c d) [
      | inl same ↦ not_marked c d un marked same
      | inr other ↦ (let pair : Contains fold_pairs (c, d) =
          (IsFoldPairs-fold_pairs c d).1 (other, sym (simple_fold_idem c) ∙ ap simple_fold (sym is)) in
          un.2 (foldings c d pair low (marked low) un.1))
    ]

    passes_then : (c d : ℕ) → SharesLetter marks c → SharesLetter marks d → (t : Test) → MarksTest begun t
        → PassesTest t c → PassesTest t d
    passes_then c d un other (Char e) h p = absurd (not_marked c e un h p)
    passes_then c d un other (Folded e) h p = absurd (not_folded c e un h.0 h.1 p)
    passes_then c d un other (Class k) h p =
        past_class k.0 k.1 d other.0 h ∙ sym (past_class k.0 k.1 c un.0 h) ∙ p
    passes_then c d un other NotSlash h p = λ e. omega (arith, e, other.0)
    passes_then c d un other Any h p = tt
    passes_then c d un other Never h p = absurd p

    no_slash : (c : ℕ) → SharesLetter marks c → c ≡ 47 → ⊥
    no_slash c un e = omega (arith, e, un.0)

    -- no character is a mark of a pattern
    no_end : (c number : ℕ) → SharesLetter marks c → c ≡ mark number → ⊥
    no_end c number un e = omega (arith, e, un.1)

    alike : (c d : ℕ) → SharesLetter marks c → SharesLetter marks d → (i : Instruction)
        → IfSome (test_of i) (MarksTest begun) → Alike i c d
    alike c d un other (Check t) h = (passes_then c d un other t h, passes_then d c other un t h)
    alike c d un other (Repeat t) h = (passes_then c d un other t h, passes_then d c other un t h)
    alike c d un other Components h =
        ((λ e. absurd (no_slash c un e)), (λ e. absurd (no_slash d other e)))
    alike c d un other (Fork n) h = tt
    alike c d un other (Jump n) h = tt
    alike c d un other (Back n) h = tt
    alike c d un other (End low high) h =
        λ number. ((λ e. absurd (no_end c number un e)), (λ e. absurd (no_end d number other e)))

    unmarked_alike : (code : List Instruction) → MarksBefore code (length code) begun → (d : ℕ)
        → SharesLetter marks d → (c : ℕ) → SharesLetter marks c → AreAlike code c d
    unmarked_alike code h d other c un k i is =
        alike c d un other i (h k i (slice_get_within code k i is) is)

    pub shared_alike : (code : List Instruction) → MarksBefore code (length code) begun → (found : Option ℕ)
        → IfSome found (SharesLetter marks)
        → IfSome found (λ letter. (c : ℕ) → SharesLetter marks c → AreAlike code c letter)
    shared_alike code h (Some d) un = unmarked_alike code h d un
    shared_alike code h None un = tt
