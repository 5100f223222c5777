-- What a session knows of the handle that it got, by the number of the call.
use Rattle.std.proofs.Common.{◌≡◌, ◌≤◌, ◌∷◌, ◌++◌, [], ℕ, ℤ, suc, zero, List, Some, None, Ok, Err, Bor, map}
use Rattle.std.proofs.Common.{take, length, get_or, sym, ap, ◌∙◌, subst, arith, take_all, pos, neg_ℤ, nat_abs}
use Rattle.std.proofs.{Common.{◌<◌, ◌+◌}, lemmas.List.{length-map, take_more, get_or-map}}
use Rattle.std.proofs.lemmas.Option.{none-some}
use Rattle.std.specs.List.{AllZip}
use Rattle.wax.specs.{GlobView.GlobView, Language.{BuildError, Memory, build_number}}
use Rattle.wax.specs.declared.BuildError.TheVariants.{Parse, Rule, Compile}
use Rattle.wax_c.proofs.CutEach.{AllZip-more}
use Rattle.wax_c.specs.{GlobHandles.IsGlobHandle, Numbers.error_number, Outcomes.{IsGlobOf, IsNoGlob}}
use Rattle.wax_c.specs.declared.error.CallError.{CallError}
use Rattle.wax_c.specs.declared.error.CallError.TheVariants.{Build, NotText, NoRoom}
use Rattle.wax_c.specs.{declared.globs.WaxSpan.WaxSpan, declared.handle.GlobHandle.GlobHandle}
use denote.RawPtr.{null_ptr}
use Rattle.wax.specs.declared.rule.RuleErrorKind.TheVariants as kinds

-- an error has a number other than 0
some_number : (n : ℕ) → 1 ≤ n → neg_ℤ (pos n) ≡ pos 0 → ⊥
some_number zero some is = omega (arith, some)
some_number (suc n) some is = omega (arith, ap nat_abs is)

positive : (error : BuildError) → 1 ≤ build_number error
positive (Parse place) = omega arith
positive (Rule error) = elim error.kind as (λ kind. 1 ≤ build_number (Rule (record error { kind = kind }))) [
  | kinds.AdjacentBoundary ↦ omega arith
  | kinds.IncompatibleBounds ↦ omega arith
  | kinds.SingularTree ↦ omega arith
  | kinds.AdjacentZeroOrMore ↦ omega arith
  | kinds.RootedSubGlob ↦ omega arith
  | kinds.SingularZeroOrMore ↦ omega arith
  | kinds.OversizedInvariant ↦ omega arith
]
positive (Compile error) = omega arith
positive Memory = omega arith

no_error : (error : CallError) → neg_ℤ (error_number error) ≡ pos 0 → ⊥
no_error (Build error) is = some_number (build_number error) (positive error) is
no_error NotText is = some_number 20 (omega arith) is
no_error NoRoom is = some_number 21 (omega arith) is

module _ (e : List ℕ) (handle : GlobHandle) (span : WaxSpan) (number : ℤ) where
  pub opened : IsGlobHandle e handle span number → number ≡ pos 0
      → (g : GlobView) × (handle.held ≡ Some g) × IsGlobOf e g
  opened (Ok done, has, place, is) done_well = has
  opened (Err error, has, place, is) done_well = absurd (no_error error (sym is ∙ done_well))

  pub unopened : IsGlobHandle e handle span number → (number ≡ pos 0 → ⊥)
      → (error : CallError) × IsNoGlob e error × (number ≡ neg_ℤ (error_number error))
  unopened (Ok done, has, place, is) wrong = absurd (wrong is)
  unopened (Err error, has, place, is) wrong = (error, has.2, is)

  -- a handle that holds nothing is null
  pub may_close : IsGlobHandle e handle span number → handle.held ≡ None → handle.at ≡ null_ptr
  may_close (Ok done, has, place, is) empty = absurd (none-some has.0 (sym empty ∙ has.1))
  may_close (Err error, has, place, is) empty = has.1

-- one path more was asked about
pub asked_next : (R : List ℕ → ℤ → Type 0) (paths : List (Bor (List ℕ))) (i : ℕ) (d : Bor (List ℕ))
    (old : List ℤ) (number : ℤ) → let of : Bor (List ℕ) → List ℕ = λ path. path.now in i < length paths
    → AllZip R (take i (map of paths)) old → R (get_or paths i d).now number
    → AllZip R (take (i + 1) (map of paths)) (old ++ number ∷ [])
asked_next R paths i d old number within each says =
    let of : Bor (List ℕ) → List ℕ = λ path. path.now in
    let long : i < length (map of paths) = omega (arith, length-map paths of, within) in
    subst (λ xs. AllZip R xs (old ++ number ∷ []))
    (sym (take_more (map of paths) i [] long
    ∙ ap (λ path. take i (map of paths) ++ path ∷ []) (get_or-map of paths i d [] within)))
    (AllZip-more R (take i (map of paths)) old (get_or paths i d).now number each says)

pub asked_all : (R : List ℕ → ℤ → Type 0) (paths : List (Bor (List ℕ))) (i : ℕ) (numbers : List ℤ)
    → let of : Bor (List ℕ) → List ℕ = λ path. path.now in length paths ≤ i
    → AllZip R (take i (map of paths)) numbers → AllZip R (map of paths) numbers
asked_all R paths i numbers past each =
    let of : Bor (List ℕ) → List ℕ = λ path. path.now in
    let whole = take_all i (map of paths) (omega (arith, length-map paths of, past)) in
    subst (λ xs. AllZip R xs numbers) whole each
