-- Sizes of copies.
use Rattle.std.proofs.Common.{◌≡◌, ◌==◌, ℕ, ◌*◌, Bool, Option, Some, None, refl, ap, inl, inr, sym, ◌∙◌}
use Rattle.std.proofs.{lemmas.Bool.{cases_Bool, false≢true}, lemmas.Bool.Decides.Decides-eqb}
use Rattle.std.specs.Prelude.{if◌then◌else◌}
use Rattle.wax_facts.specs.CopySizes.{SizesOfCopies}

the_same : (m n : ℕ) → Some m ≡ Some n → m ≡ n
the_same m n e = cc

nothing : (n : ℕ) → None ≡ Some n → ⊥
nothing n e = cc

pub sizes_of_copies : SizesOfCopies
sizes_of_copies low size high None = ((λ e. (cc)), (λ h. (cc)))
sizes_of_copies low size None (Some n) = ((λ e. (cc)), (λ h. (cc)))
sizes_of_copies low size (Some high) (Some n) =
    let chosen : Bool → Option ℕ = λ b. if b then Some (low * n) else None in
    elim (cases_Bool (low == high)) [
      | inl e ↦ (
        (λ h. (let is : Some (low * n) ≡ Some size = sym (ap chosen e) ∙ h in
            let product : size ≡ low * n = cc in
            (n, refl, ap Some (sym ((Decides-eqb low high).0 e)), product))),
        (λ h. (let same : n ≡ h.0 = the_same n h.0 h.1 in
            ap chosen e ∙ ap Some (ap (λ v. low * v) same ∙ sym h.3))),
      )
      | inr e ↦ (
        (λ h. absurd (nothing size (sym (ap chosen e) ∙ h))),
        (λ h. absurd (false≢true (sym e ∙ (Decides-eqb low high).1 (sym (the_same high low h.2))))),
      )
    ]
