-- What is known of entries, through a filter and in a list.
use Rattle.std.proofs.Common.{◌≡◌, List, [], ◌∷◌, ◌++◌, sym, subst}
use Rattle.std.proofs.lemmas.List.Elements.{All-append, All-push, All-nil, All-weaker}
use Rattle.std.specs.Prelude.{Some, All, Result, Ok, Err}
use Rattle.wax_filter.specs.declared.filter.separation.Separation.{Separation}
use Rattle.wax_filter.specs.declared.filter.separation.Separation.TheVariants.{Filtrate, Residue}
use Rattle.wax_walk.specs.declared.error.WalkError.{WalkError}
use Rattle.wax_walk.specs.Known.{KnownOutcome, KnownItem, StaysKnown, KeepsKnown, KeepsOnly, kept_of}

module _ {S T R : Type 0} where
  known_kept : (known : T → Type 0) (x y : Separation S (Result T WalkError) R) → KeepsOnly x y
      → KnownItem known x → KnownItem known y
  known_kept known x (Residue z) h k = tt
  known_kept known (Filtrate y) (Filtrate z) h k = subst (KnownOutcome known) (sym h) k
  known_kept known (Residue y) (Filtrate z) h k = absurd h

  -- the item that a walk yielded is excluded, or kept unchanged
  pub keeps_passed : (before mid : T → Type 0) (x y : Separation S (Result T WalkError) R)
      → KeepsKnown before (Some x) mid → KeepsOnly x y → KeepsKnown before (Some y) mid
  keeps_passed before mid x y k h = record { answer = known_kept before x y h k.answer; stays = k.stays }

  -- and then what is below it is cancelled
  pub keeps_cut : (before mid after : T → Type 0) (x y : Separation S (Result T WalkError) R)
      → KeepsKnown before (Some x) mid → KeepsOnly x y → StaysKnown mid after
      → KeepsKnown before (Some y) after
  keeps_cut before mid after x y k h s = record {
    answer = known_kept before x y h k.answer;
    stays = λ e i. k.stays e (s e i);
  }

-- ---- in a list

outcome_before : {T : Type 0} (start now : T → Type 0) (x : Result T WalkError) → StaysKnown start now
    → KnownOutcome now x → KnownOutcome start x
outcome_before start now (Ok e) s k = s e k
outcome_before start now (Err e) s k = tt

-- what is known of a list's entries was known before
pub all_before : {T : Type 0} (start now : T → Type 0) (xs : List (Result T WalkError))
    → StaysKnown start now → All (KnownOutcome now) xs → All (KnownOutcome start) xs
all_before start now xs s h =
    All-weaker (KnownOutcome now) (KnownOutcome start) (λ x k. outcome_before start now x s k) xs h

module _ {S T R : Type 0} where
  item_before : (start now : T → Type 0) (x : Separation S (Result T WalkError) R) → StaysKnown start now
      → KnownItem now x → KnownItem start x
  item_before start now (Filtrate x) s k = outcome_before start now x.inner s k
  item_before start now (Residue x) s k = tt

  known_one : (known : T → Type 0) (x : Separation S (Result T WalkError) R) → KnownItem known x
      → All (KnownOutcome known) (kept_of x)
  known_one known (Filtrate x) k = All-push (KnownOutcome known) [] x.inner (All-nil (KnownOutcome known)) k
  known_one known (Residue x) k = All-nil (KnownOutcome known)

  module _ (start now next : T → Type 0) (x : Separation S (Result T WalkError) R)
      (s : StaysKnown start now) (k : KeepsKnown now (Some x) next) where
    stays_on : StaysKnown start next
    stays_on = λ e h. s e (k.stays e h)

    -- one more item of a feed
    pub all_fed : (xs ys : List (Separation S (Result T WalkError) R)) → ys ≡ xs ++ x ∷ []
        → All (KnownItem start) xs → All (KnownItem start) ys × StaysKnown start next
    all_fed xs ys e h = (
      subst (All (KnownItem start)) (sym e)
          (All-push (KnownItem start) xs x h (item_before start now x s k.answer)),
      stays_on,
    )

    -- one more item, if it is kept
    pub all_kept : (xs ys : List (Result T WalkError)) → ys ≡ xs ++ kept_of x
        → All (KnownOutcome start) xs → All (KnownOutcome start) ys × StaysKnown start next
    all_kept xs ys e h = (
      subst (All (KnownOutcome start)) (sym e) (All-append (KnownOutcome start) xs (kept_of x) h
          (known_one start x (item_before start now x s k.answer))),
      stays_on,
    )
