-- Each token that a walk gives is the first of those that were to come.
use Rattle.std.proofs.Common.{◌≡◌, ℕ, ◌<◌, List, ◌∷◌, ◌++◌, Option, Some, None, IsSome, length, sym, ◌∙◌, ap}
use Rattle.std.proofs.Common.{arith}
use Rattle.wax_fold.specs.{Branches.Branch, Folded.listed_term, Order.{Entry, breadth_first}}
use Rattle.wax_fold.specs.Walking.{Walking, below_current, roots, to_come, items_left}
use Rattle.wax_fold.specs.inner.WalkSteps.{StepsToEnd}
use Rattle.wax_fold.proofs.Levels.{next_first}

module _ {A : Type 0} (chosen : Branch A → List ℕ) where
  pub given : (old new : Walking A) (e : Entry A) → roots chosen old ≡ e ∷ new.rest → new.current ≡ Some e →
      to_come chosen old ≡ e ∷ to_come chosen new
  given old new e r c =
      ap (breadth_first chosen) r ∙ next_first chosen e new.rest
      ∙ ap (λ z. e ∷ breadth_first chosen (new.rest ++ below_current chosen z)) (sym c)

  pub fewer : (old new : Walking A) (e : Entry A) → roots chosen old ≡ e ∷ new.rest → new.current ≡ Some e →
      items_left chosen new < items_left chosen old
  fewer old new e r c =
      let one : length (listed_term new.current) ≡ 1 = ap (λ z. length (listed_term z)) c in
      omega (arith, ap length (given old new e r c), one)

  some_length : (x : Option (Entry A)) → IsSome x → length (listed_term x) ≡ 1
  some_length None h = absurd (cc)
  some_length (Some e) h = omega arith

  pub none_left : (old new : Walking A) → StepsToEnd old new → items_left chosen new < items_left chosen old
  none_left old new h =
      let nothing : length (to_come chosen new) ≡ 0 =
      ap (λ z. length (breadth_first chosen (z ++ below_current chosen new.current))) h.1
      ∙ ap (λ z. length (breadth_first chosen (below_current chosen z))) h.2 in
      let none : length (listed_term new.current) ≡ 0 = ap (λ z. length (listed_term z)) h.2 in
      omega (arith, nothing, none, some_length old.current h.0)
