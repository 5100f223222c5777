-- What comes of some tokens together is what comes of each part.
use Rattle.std.proofs.Common.{◌≡◌, ℕ, zero, suc, List, ◌++◌, sym, ◌∙◌, ap, subst, arith, append_assoc}
use Rattle.std.proofs.Common.{append-nil}
use Rattle.std.proofs.lemmas.List.Sorted.{IsPermutation-refl, IsPermutation-append, IsPermutation-append_comm}
use Rattle.std.proofs.lemmas.List.Sorted.{IsPermutation-append_left, IsPermutation-append_right}
use Rattle.std.proofs.lemmas.List.Sorted.{IsPermutation-trans}
use Rattle.std.specs.List.Sorted.{IsPermutation}
use Rattle.wax_fold.specs.{Branches.Branch, Order.{Entry, level, levels_to, height, breadth_first}}
use Rattle.wax_fold.specs.Walking.{Walking, below_current, to_come, cancelled}
use Rattle.wax_fold.proofs.Levels.{height-append, level-append, settled}

swapped : {X : Type 0} (ks ls ms ns : List X)
    → IsPermutation ((ks ++ ls) ++ (ms ++ ns)) ((ks ++ ms) ++ (ls ++ ns))
swapped ks ls ms ns =
    let first : (ks ++ ls) ++ (ms ++ ns) ≡ ks ++ ((ls ++ ms) ++ ns) =
    append_assoc ks ls (ms ++ ns) ∙ ap (λ z. ks ++ z) (sym (append_assoc ls ms ns)) in
    let last : (ks ++ ms) ++ (ls ++ ns) ≡ ks ++ ((ms ++ ls) ++ ns) =
    append_assoc ks ms (ls ++ ns) ∙ ap (λ z. ks ++ z) (sym (append_assoc ms ls ns)) in
    let turned : IsPermutation (ks ++ ((ls ++ ms) ++ ns)) (ks ++ ((ms ++ ls) ++ ns)) =
    IsPermutation-append_right ks ((ls ++ ms) ++ ns) ((ms ++ ls) ++ ns)
    (IsPermutation-append_left ns (ls ++ ms) (ms ++ ls) (IsPermutation-append_comm ls ms)) in
    subst (λ z. IsPermutation z ((ks ++ ms) ++ (ls ++ ns))) (sym first)
    (subst (λ z. IsPermutation (ks ++ ((ls ++ ms) ++ ns)) z) (sym last) turned)

module _ {A : Type 0} (chosen : Branch A → List ℕ) where
  split_levels : (n : ℕ) (es fs : List (Entry A)) →
      IsPermutation (levels_to chosen n (es ++ fs)) (levels_to chosen n es ++ levels_to chosen n fs)
  split_levels zero es fs = IsPermutation-refl (es ++ fs)
  split_levels (suc n) es fs =
      let here : IsPermutation (level chosen (suc n) (es ++ fs))
      (level chosen (suc n) es ++ level chosen (suc n) fs) =
      subst (λ z. IsPermutation (level chosen (suc n) (es ++ fs)) z) (level-append chosen (suc n) es fs)
      (IsPermutation-refl (level chosen (suc n) (es ++ fs))) in
      IsPermutation-trans
      (levels_to chosen n (es ++ fs) ++ level chosen (suc n) (es ++ fs))
      ((levels_to chosen n es ++ levels_to chosen n fs)
      ++ (level chosen (suc n) es ++ level chosen (suc n) fs))
      ((levels_to chosen n es ++ level chosen (suc n) es)
      ++ (levels_to chosen n fs ++ level chosen (suc n) fs))
      (IsPermutation-append (levels_to chosen n (es ++ fs)) (levels_to chosen n es ++ levels_to chosen n fs)
      (level chosen (suc n) (es ++ fs)) (level chosen (suc n) es ++ level chosen (suc n) fs)
      (split_levels n es fs) here)
      (swapped (levels_to chosen n es) (levels_to chosen n fs) (level chosen (suc n) es)
      (level chosen (suc n) fs))

  split : (es fs : List (Entry A)) →
      IsPermutation (breadth_first chosen (es ++ fs)) (breadth_first chosen es ++ breadth_first chosen fs)
  split es fs =
      let n = height (es ++ fs) in
      let first : levels_to chosen n es ≡ breadth_first chosen es =
      settled chosen n es (omega (arith, height-append es fs)) in
      let last : levels_to chosen n fs ≡ breadth_first chosen fs =
      settled chosen n fs (omega (arith, height-append es fs)) in
      subst (λ z. IsPermutation (levels_to chosen n (es ++ fs)) (z ++ breadth_first chosen fs)) first
      (subst (λ z. IsPermutation (levels_to chosen n (es ++ fs)) (levels_to chosen n es ++ z)) last
      (split_levels n es fs))

  -- what is below the current token, and that alone, is left out
  pub left_out : (old new : Walking A) → new ≡ cancelled old →
      IsPermutation (to_come chosen old)
      (to_come chosen new ++ breadth_first chosen (below_current chosen old.current))
  left_out old new e =
      let rest : breadth_first chosen old.rest ≡ to_come chosen new =
      ap (breadth_first chosen) (sym (append-nil old.rest)) ∙ ap (to_come chosen) (sym e) in
      subst (λ z. IsPermutation (to_come chosen old)
      (z ++ breadth_first chosen (below_current chosen old.current))) rest
      (split old.rest (below_current chosen old.current))
