-- Lines of which it isn't found whether they decide anything.
use Rattle.std.proofs.Common.{◌≡◌, ◌↔◌, ◌∙◌, ◌<◌, ◌++◌, ◌∷◌, [], ℕ, zero, suc, All, List, Option, Some, None}
use Rattle.std.proofs.Common.{Contains, ap, arith, eqb, get_or, inl, inr, length, length-append, ne_eqb, refl}
use Rattle.std.proofs.{Common.{slice_get, subst, sym, true}, lemmas.Bool.{cases_eq, cases_lt, false≢true}}
use Rattle.std.proofs.{lemmas.Bool.Decides.Decides-eqb, lemmas.List.Elements.{All-map, All-push}}
use Rattle.std.proofs.lemmas.Map.Keys.{IsDistinct-from_apart}
use Rattle.std.proofs.lemmas.Map.Made.{Contains-tail, is_member-Decides}
use Rattle.std.proofs.lemmas.Map.Steps.{length-le_from_distinct_below}
use Rattle.std.proofs.lemmas.Option.{same_Some, slice_get-get_or, slice_get_within}
use Rattle.std.specs.{List.{IsDistinct, list_any}, Prelude.{filter, not, unwrap_or}}
use Rattle.wax_compare.specs.{Limit.{AllDiffer, KeepsLimit}, declared.wanted.Criterion.TheVariants.Accepted}
use Rattle.wax_compare.specs.{declared.wanted.Texts.TheVariants.Paths, declared.wanted.Wanted.Wanted}
use Rattle.wax_compare.specs.declared.wanted.Wanted.TheVariants.{FirstOnly}
use Rattle.wax_exclude.proofs.{Dropped.{contains_at, passed}, IdleLines.{AreLater, one_later, only_one}}
use Rattle.wax_exclude.specs.{Idle.{LineMeans, is_known}, Ignored.Line}
use Rattle.wax_exclude.specs.Undecided.{AreTooLarge, AreUndecided, IsUndecided, SomeLineMeans}
use Rattle.wax_exclude.specs.{declared.idle.IdleLine.IdleLine, declared.idle.IdleReason.IdleReason}
use Rattle.wax_exclude.specs.declared.idle.IdleReason.TheVariants.{Covered, TakesNothingBack, Unknown}
use Rattle.wax_exclude.specs.{inner.Idle.AreMatchedBy, inner.Tidy.unknown_indexes}
use Rattle.wax_lazy.specs.Numbers.{IsLastNumber}
use Rattle.wax_program.specs.{Machine.Accepts, declared.instruction.Instruction.Instruction}
use Rattle.wax_token.specs.Reads.{Span}
use Rattle.wax_compare.specs.declared.wanted.Comparison.TheVariants as comparison

-- ---- lists of which no two elements are equal
module _ {X : Type 0} where
  front : (xs : List X) (y : X) (k : ℕ) → k < length xs → slice_get (xs ++ y ∷ []) k ≡ slice_get xs k
  front [] y k low = absurd (omega (arith, low))
  front (x ∷ xs) y zero low = refl
  front (x ∷ xs) y (suc k) low = front xs y k (omega (arith, low))

  last : (xs : List X) (y : X) (k : ℕ) → k ≡ length xs → slice_get (xs ++ y ∷ []) k ≡ Some y
  last [] y zero e = refl
  last [] y (suc k) e = absurd (omega (arith, e))
  last (x ∷ xs) y zero e = absurd (omega (arith, e))
  last (x ∷ xs) y (suc k) e = last xs y k (omega (arith, e))

  differ_push : (xs : List X) (y : X) → (Contains xs y → ⊥) → AllDiffer xs → AllDiffer (xs ++ y ∷ [])
  differ_push xs y new differ i j lt within same =
      let long = length-append xs (y ∷ []) in
      let low : i < length xs = omega (arith, lt, within, long) in
      elim (cases_lt j (length xs)) [
        | inl before ↦ differ i j lt before (sym (front xs y i low) ∙ same ∙ front xs y j before)
        | inr past ↦ new (contains_at xs i y (sym (front xs y i low) ∙ same
            ∙ last xs y j (omega (arith, past, within, long))))
      ]

  differ_first : (x : X) (xs : List X) → (Contains xs x → ⊥) → AllDiffer xs → AllDiffer (x ∷ xs)
  differ_first x xs new differ i zero lt within same = omega (arith, lt)
  differ_first x xs new differ zero (suc j) lt within same = new (contains_at xs j x (sym same))
  differ_first x xs new differ (suc i) (suc j) lt within same =
      differ i j (omega (arith, lt)) (omega (arith, within)) same

distinct : (ks : List ℕ) → AllDiffer ks → IsDistinct eqb ks
distinct ks differ = IsDistinct-from_apart eqb ks (λ i j d lt within. ne_eqb _ _ (λ same.
    let low : i < length ks = omega (arith, lt, within) in
    differ i j lt within
    (slice_get-get_or ks i d low ∙ ap Some same ∙ sym (slice_get-get_or ks j d within))))

-- ---- later lines that are added to others
module _ (lines : List (Line Span)) where
  -- these are indexes of lines after the one with this index, each once
  pub record AreOthers (index : ℕ) (covers : List ℕ) : Type 0 where
    pub later : AreLater lines index covers
    pub within : All (λ k. k < length lines) covers
    pub differ : AllDiffer covers

  pub no_others : (index : ℕ) (covers : List ℕ) → covers ≡ [] → AreOthers index covers
  no_others index covers e = subst (AreOthers index) (sym e) (record {
    later = λ k h. (let no : h.0 < 0 = h.1 in absurd (omega (arith, no)));
    within = λ k d low. absurd (omega (arith, low));
    differ = λ i j lt low same. (let no : j < 0 = low in omega (arith, no));
  })

  -- so they are fewer than the lines
  pub others_few : (index : ℕ) (covers : List ℕ) → index < length lines → AreOthers index covers
      → length covers < length lines
  others_few index covers low are =
      let all = index ∷ covers in
      let apart : AllDiffer all =
      differ_first index covers (λ h. omega (arith, are.later index h)) are.differ in
      let below : (k : ℕ) → list_any (eqb k) all ≡ true → k < length lines =
      λ k h. one_of k ((is_member-Decides Decides-eqb all k).0 h) in
      omega (arith, length-le_from_distinct_below all (length lines) (distinct all apart) below)
    where
      one_of : (k : ℕ) → Contains (index ∷ covers) k → k < length lines
      one_of k h = elim (cases_eq index k) [
        | inl same ↦ subst (λ n. n < length lines) same low
        | inr other ↦ (let at = Contains-tail index covers k other h in
            subst (λ n. n < length lines) at.2 (are.within at.0 k at.1))
      ]

  -- the line that is added is after this one, and isn't among the others
  pub one_other : (index last : ℕ) (s : List ℕ) (old new : List ℕ) → new ≡ old ++ last ∷ [] → index < last
      → LineMeans lines last s → (SomeLineMeans lines old s → ⊥) → AreOthers index old → AreOthers index new
  one_other index last s old new grown lt means none are = subst (AreOthers index) (sym grown) (record {
    later = one_later lines index last old (old ++ last ∷ []) refl lt are.later;
    within = All-push (λ k. k < length lines) old last are.within
        (slice_get_within lines last means.line means.is);
    differ = differ_push old last (λ h. none (last, h, means)) are.differ;
  })

  -- the greatest number of a line that means the text, if it is a later one
  pub last_means : (code : List Instruction) (index : ℕ) (s : List ℕ) (found : Option ℕ)
      → AreMatchedBy lines code → IsLastNumber code s found → index < unwrap_or found index
      → LineMeans lines (unwrap_or found index) s
  last_means code index s None by none lt = absurd (omega (arith, lt))
  last_means code index s (Some k) by is lt = (by.means k s).0 is.0

-- ---- comparisons that took too much
module _ (lines : List (Line Span)) (most index : ℕ) (others : List ℕ)
    (within : All (λ k. k < length lines) others) (differ : AllDiffer others) where
  pub others_too_large : AreTooLarge lines others → IsUndecided lines most index
  others_too_large large = record {
    others = others;
    within = within;
    differ = differ;
    wanted = FirstOnly;
    took_too_much = inr (inl large);
  }

  pub line_too_large : AreTooLarge lines (index ∷ []) → IsUndecided lines most index
  line_too_large large = record {
    others = others;
    within = within;
    differ = differ;
    wanted = FirstOnly;
    took_too_much = inl large;
  }

  pub past_limit : (wanted : Wanted) (code other : List Instruction)
      → ((s : List ℕ) → Accepts code 0 s ↔ SomeLineMeans lines (index ∷ []) s)
      → ((s : List ℕ) → Accepts other 0 s ↔ SomeLineMeans lines others s)
      → KeepsLimit code other wanted Paths most comparison.Unknown → IsUndecided lines most index
  past_limit wanted code other one some keeps = record {
    others = others;
    within = within;
    differ = differ;
    wanted = wanted;
    took_too_much = inr (inr (
      code,
      other,
      record {
        criterion = Accepted;
        can_select = tt;
        selects = λ s. (
          (λ h. (only_one lines index s).0 ((one s).0 h)),
          (λ m. (one s).1 ((only_one lines index s).1 m)),
        );
      },
      record { criterion = Accepted; can_select = tt; selects = some },
      keeps,
    ));
  }

-- ---- lines that are left
unknown_reason : (reason : IdleReason) → not (is_known reason) ≡ true → reason ≡ Unknown
unknown_reason (Covered covers) e = absurd (false≢true e)
unknown_reason TakesNothingBack e = absurd (false≢true e)
unknown_reason Unknown e = refl

-- one more line, which is undecided if its reason isn't known
pub one_undecided : (lines : List (Line Span)) (most : ℕ) (old new : List IdleLine) (x : IdleLine)
    → new ≡ old ++ x ∷ [] → (x.reason ≡ Unknown → IsUndecided lines most x.index)
    → AreUndecided lines most old → AreUndecided lines most new
one_undecided lines most old new x grown one are k y is unknown =
    let at = sym (ap (λ xs. slice_get xs k) grown) ∙ is in
    let low = slice_get_within (old ++ x ∷ []) k y at in
    elim (cases_lt k (length old)) [
      | inl before ↦ are k y (sym (front old x k before) ∙ at) unknown
      | inr past ↦ (
          let same : x ≡ y = same_Some x y (sym (last old x k
          (omega (arith, past, low, length-append old (x ∷ [])))) ∙ at) in
          subst (λ z. z.reason ≡ Unknown → IsUndecided lines most z.index) same one unknown
          )
    ]

pub each_undecided : (lines : List (Line Span)) (most : ℕ) (idle : List IdleLine)
    → AreUndecided lines most idle → All (IsUndecided lines most) (unknown_indexes idle)
each_undecided lines most idle are =
    let unknown = λ (x : IdleLine). not (is_known x.reason) in
    All-map (IsUndecided lines most) (λ (x : IdleLine). x.index) (filter unknown idle) (λ k d low.
    let x = get_or (filter unknown idle) k d in
    let was = passed unknown idle k x (slice_get-get_or (filter unknown idle) k d low) in
    are was.0 x was.2 (unknown_reason x.reason was.1))
