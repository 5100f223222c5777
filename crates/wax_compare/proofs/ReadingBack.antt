-- One step back to the first pair.
use Rattle.std.proofs.Common.{◌≡◌, ◌+◌, ◌<◌, ℕ, List, [], ◌∷◌, ◌≤◌, true, Some, length, get_or, slice_get}
use Rattle.std.proofs.{Common.{inl, inr, sym, ◌∙◌, ap, subst, arith}, lemmas.List.length-map}
use Rattle.std.proofs.lemmas.Option.{slice_get-get_or, slice_get_cases}
use Rattle.std.specs.Str.{all_scalars}
use Rattle.wax_program.specs.{declared.instruction.Instruction.Instruction, Machine.Accepts}
use Rattle.wax_compare.specs.{declared.pairs.Reached.Reached, declared.search.Search.Search}
use Rattle.wax_compare.specs.{Comparison.{IsShortest, IsWanted}, Limit.KeepsLimit}
use Rattle.wax_compare.specs.declared.wanted.Comparison.{Comparison}
use Rattle.wax_compare.specs.{declared.wanted.Comparison.TheVariants.Nothing, Selected.IsSelected}
use Rattle.wax_compare.specs.inner.Searching.{IsSameSearch, WantedText, readings}
use Rattle.wax_compare.specs.inner.Reaching.{AreReachedPairs, CameFrom, GoesAt, Readings}
use Rattle.wax_compare.specs.inner.Visiting.{EndsAt, IsHeld}
use Rattle.wax_compare.specs.inner.ReadBack.{AreEarlier, IsReadBack, IsReadFrom}
use Rattle.wax_compare.proofs.{Covering.{all_pairs, all_seen}, Leading.seen}
use Rattle.wax_compare.proofs.{Reaching.{none_shorter, none_wanted, read_back}, Steps.goes_back_along}
use Rattle.wax_compare.proofs.Visiting.{some_same}

pub read_last : (reached : List Reached) (from last : ℕ) (s : List ℕ) → s ≡ last ∷ []
    → IsReadFrom reached from last from s
read_last reached from last s e r x y pairs ends isx isy = (
  subst (GoesAt r x) (sym e) (ends x isx),
  omega (arith, ap length e, ap (λ z. z.depth) (some_same (sym isx ∙ isy))),
)

pub read_more : (reached : List Reached) (from last at : ℕ) (step : Reached) (s t : List ℕ)
    → slice_get reached at ≡ Some step → 0 < at → t ≡ step.letter ∷ s
    → IsReadFrom reached from last at s → IsReadFrom reached from last step.before t
read_more reached from last at step s t is positive e read r x y pairs ends isx isy =
    let came : CameFrom r reached step at = pairs.came at step positive is in
    let told = read r step y pairs ends is isy in
    let same : came.from ≡ x = some_same (sym came.is ∙ isx) in (
      subst (GoesAt r x) (sym e) (subst (λ z. GoesAt r z (step.letter ∷ s)) same
          (goes_back_along r came.from.pair step.pair step.letter came.step s told.0)),
      omega (arith, ap length e, told.1, came.deeper, ap (λ z. z.depth) same),
    )

pub are_earlier : (r : Readings) (reached : List Reached) → AreReachedPairs r reached → AreEarlier reached
are_earlier r reached pairs i x lt is = let came : CameFrom r reached x i =
    pairs.came i x lt is in came.earlier

module _ (code other : List Instruction) (s : Search) (reached : List Reached) (at : ℕ)
    (held : IsHeld code other s reached at) where
  first_of : (x : Reached) × (slice_get reached 0 ≡ Some x)
  first_of = elim (slice_get_cases reached 0).1 [
    | inl h ↦ (h.0, h.2)
    | inr h ↦ (let no : ⊥ = omega (arith, h.0, held.pairs.some) in absurd no)
  ]

  -- where every pair was followed
  pub answer_none : length reached ≤ at → (t : List ℕ) → WantedText code other s t → ⊥
  answer_none all t h =
      none_wanted (readings code other s) reached first_of.0 first_of.1 held.pairs held.begin
      (λ i c x lt is scalar. held.followed i c x (omega (arith, lt, all)) is scalar) t h

  -- few pairs show it
  pub few_pairs : (most : ℕ) → length reached ≤ at → length reached ≤ most
      → KeepsLimit code other s.wanted s.texts most Nothing
  few_pairs most all few = (
    all_seen (readings code other s) reached,
    omega (arith, few, length-map reached (λ x. seen (readings code other s) x.pair)),
    all_pairs (readings code other s) reached first_of.0 first_of.1 held.pairs held.begin
        (λ i c x lt is scalar. held.followed i c x (omega (arith, lt, all)) is scalar),
  )

  -- where a text that led to the pair ends after a letter
  pub answer_text : at < length reached → (last : ℕ) → EndsAt (readings code other s) reached at last
      → (t : List ℕ) → all_scalars t ≡ true → IsReadBack reached at last t
      → IsShortest (WantedText code other s) t
  answer_text within last ends t scalars read =
      let first = first_of.0 in
      let y : Reached = get_or reached at first in
      let here : slice_get reached at ≡ Some y = slice_get-get_or reached at first within in
      let told = read (readings code other s) first y held.pairs ends first_of.1 here in
      let zeroth : first.depth ≡ 0 = (held.pairs.beginning first first_of.1).3 in (
        read_back (readings code other s) reached first first_of.1 held.pairs held.begin t scalars told.0,
        (λ u h. (let least : y.depth + 1 ≤ length u = none_shorter (readings code other s) reached first
            first_of.1 held.pairs held.begin at (omega (arith, within)) held.followed u h in
            omega (arith, least, told.1, zeroth))),
      )

  -- it isn't long
  pub short_text : at < length reached → (last : ℕ) → EndsAt (readings code other s) reached at last
      → (t : List ℕ) → IsReadBack reached at last t → length t ≤ at + 1
  short_text within last ends t read =
      let first = first_of.0 in
      let y : Reached = get_or reached at first in
      let here : slice_get reached at ≡ Some y = slice_get-get_or reached at first within in
      let told = read (readings code other s) first y held.pairs ends first_of.1 here in
      omega (arith, told.1, held.pairs.low at y here)

pub same_wanted : (old new : Search) (code other : List Instruction) (t : List ℕ)
    → IsSameSearch old new → WantedText code other old t → WantedText code other new t
same_wanted old new code other t same h =
    subst (λ w. IsWanted w new.texts (IsSelected new.first.criterion (Accepts code 0))
    (IsSelected new.second.criterion (Accepts other 0)) t) (sym same.wanted)
    (subst (λ k. IsWanted old.wanted k (IsSelected new.first.criterion (Accepts code 0))
    (IsSelected new.second.criterion (Accepts other 0)) t) (sym same.texts)
    (subst (λ v. IsWanted old.wanted old.texts (IsSelected v (Accepts code 0))
    (IsSelected new.second.criterion (Accepts other 0)) t) (sym same.first_criterion)
    (subst (λ v. IsWanted old.wanted old.texts (IsSelected old.first.criterion (Accepts code 0))
    (IsSelected v (Accepts other 0)) t) (sym same.second_criterion) h)))

pub same_limit : (old new : Search) (code other : List Instruction) (most : ℕ) (found : Comparison)
    → IsSameSearch old new → KeepsLimit code other new.wanted new.texts most found
    → KeepsLimit code other old.wanted old.texts most found
same_limit old new code other most found same h =
    subst (λ w. KeepsLimit code other w old.texts most found) same.wanted
    (subst (λ k. KeepsLimit code other new.wanted k most found) same.texts h)
