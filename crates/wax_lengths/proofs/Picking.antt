-- How the best length of a span is picked.
use Rattle.std.proofs.Common.{◌≡◌, ◌≢◌, ℕ, zero, suc, ◌+◌, ◌-◌, ◌<◌, ◌≤◌, ◌↔◌, ◌⊎◌, true, false, List, length}
use Rattle.std.proofs.Common.{get_or, drop, refl, sym, ◌∙◌, ap, subst, inl, inr, arith}
use Rattle.std.proofs.{lemmas.Bool.cases_lt, lemmas.List.get_or-drop, lemmas.Option.get_or_from_slice_get}
use Rattle.wax_lengths.proofs.Lists.{slice_read}
use Rattle.wax_lengths.specs.Spans.{InSpan, IsMarked, IsNarrowed, IsPicked, looks, looks_of}
use Rattle.wax_lengths.specs.declared.span.Marks.{Marks}
use Rattle.wax_lengths.specs.declared.span.Marks.TheVariants.{All, AfterSlash, Flags}
use Rattle.wax_lengths.specs.declared.span.LengthSpan.{LengthSpan}

-- the character before the part's end
pub slash_before : (text : List ℕ) (at n c : ℕ) → n ≢ 0 → at + n ≤ length text
    → c ≡ get_or text (at + (n - 1)) c → (c ≡ 47) ↔ IsMarked AfterSlash (drop at text) n
slash_before text at zero c some within is = absurd (some refl)
slash_before text at (suc n) c some within is =
    let k : at + (suc n - 1) ≡ at + n = omega arith in
    let e : get_or (drop at text) n 0 ≡ c = get_or-drop at text n 0
    ∙ other text (at + n) c (omega (arith, within)) (is ∙ ap (λ i. get_or text i c) k) in
    ((λ h. e ∙ h), (λ h. sym e ∙ h))
  where
    other : (xs : List ℕ) (i d : ℕ) → i < length xs → d ≡ get_or xs i d → get_or xs i 0 ≡ d
    other xs i d lt e = get_or_from_slice_get xs i d 0 (slice_read xs i d lt e)

-- ---- what is left of a span
pub record IsLeftOf (old now : LengthSpan) (s : List ℕ) : Type 0 where
  pub to : (m : ℕ) → InSpan old s m → InSpan now s m
  pub from : (m : ℕ) → InSpan now s m → InSpan old s m

pub left_whole : (span : LengthSpan) (s : List ℕ) → IsLeftOf span span s
left_whole span s = record { to = λ m h. h; from = λ m h. h }

pub looks_less : (marks : Marks) (less more : ℕ) → less + 1 ≤ more
    → looks_of marks less + looks_of marks 1 ≤ looks_of marks more
looks_less All less more le = omega arith
looks_less AfterSlash less more le = omega (arith, le)
looks_less (Flags flags) less more le = omega arith

-- by the greatest length
module _ (old now new : LengthSpan) (s : List ℕ) (some : now.low < now.end) (low : new.low ≡ now.low)
    (end : new.end ≡ now.end - 1) (marks : new.marks ≡ now.marks) (left : IsLeftOf old now s) where
  pub longest_within : (m : ℕ) → InSpan new s m → InSpan now s m
  longest_within m h =
      (omega (arith, h.0, low), omega (arith, h.1, end), subst (λ z. IsMarked z s m) marks h.2)

  longest_others : (m : ℕ) → InSpan now s m → (m ≡ new.end) ⊎ (InSpan new s m × (m ≤ new.end))
  longest_others m h = elim (cases_lt m new.end) [
    | inl lt ↦
        inr ((omega (arith, h.0, low), lt, subst (λ z. IsMarked z s m) (sym marks) h.2), omega (arith, lt))
    | inr ge ↦ inl (omega (arith, ge, h.1, end, some))
  ]

  pub longest_picked : IsMarked now.marks s new.end → IsPicked old new s false new.end
  longest_picked h = (
    left.from new.end (omega (arith, some, end), omega (arith, some, end), h),
    λ m g. longest_others m (left.to m g),
  )

  pub longest_narrowed : IsNarrowed old new s
  longest_narrowed m h = left.from m (longest_within m h)

  pub longest_left : (IsMarked now.marks s new.end → ⊥) → IsLeftOf old new s
  longest_left fails = record {
    to = λ m h. elim (longest_others m (left.to m h)) [
      | inl e ↦ absurd (fails (subst (IsMarked now.marks s) e (left.to m h).2))
      | inr r ↦ r.0
    ];
    from = longest_narrowed;
  }

  pub longest_looks : looks new + looks_of now.marks 1 ≤ looks now
  longest_looks = subst (λ z. looks_of z (new.end - new.low) + looks_of now.marks 1 ≤ looks now) (sym marks)
      (looks_less now.marks (new.end - new.low) (now.end - now.low) (omega (arith, some, low, end)))

-- by the least one
module _ (old now new : LengthSpan) (s : List ℕ) (some : now.low < now.end) (low : new.low ≡ now.low + 1)
    (end : new.end ≡ now.end) (marks : new.marks ≡ now.marks) (left : IsLeftOf old now s) where
  shortest_within : (m : ℕ) → InSpan new s m → InSpan now s m
  shortest_within m h =
      (omega (arith, h.0, low), omega (arith, h.1, end), subst (λ z. IsMarked z s m) marks h.2)

  shortest_others : (m : ℕ) → InSpan now s m → (m ≡ now.low) ⊎ (InSpan new s m × (now.low ≤ m))
  shortest_others m h = elim (cases_lt now.low m) [
    | inl lt ↦ inr (
      (omega (arith, lt, low), omega (arith, h.1, end), subst (λ z. IsMarked z s m) (sym marks) h.2),
      omega (arith, lt),
    )
    | inr ge ↦ inl (omega (arith, ge, h.0))
  ]

  pub shortest_picked : IsMarked now.marks s now.low → IsPicked old new s true now.low
  shortest_picked h = (left.from now.low (omega arith, some, h), λ m g. shortest_others m (left.to m g))

  pub shortest_narrowed : IsNarrowed old new s
  shortest_narrowed m h = left.from m (shortest_within m h)

  pub shortest_left : (IsMarked now.marks s now.low → ⊥) → IsLeftOf old new s
  shortest_left fails = record {
    to = λ m h. elim (shortest_others m (left.to m h)) [
      | inl e ↦ absurd (fails (subst (IsMarked now.marks s) e (left.to m h).2))
      | inr r ↦ r.0
    ];
    from = shortest_narrowed;
  }

  pub shortest_looks : looks new + looks_of now.marks 1 ≤ looks now
  shortest_looks = subst (λ z. looks_of z (new.end - new.low) + looks_of now.marks 1 ≤ looks now) (sym marks)
      (looks_less now.marks (new.end - new.low) (now.end - now.low) (omega (arith, some, low, end)))

-- nothing is left
pub left_none : (old now : LengthSpan) (s : List ℕ) → now.end ≤ now.low → IsLeftOf old now s
    → (m : ℕ) → InSpan old s m → ⊥
left_none old now s over left m h = let g = left.to m h in omega (arith, g.0, g.1, over)
