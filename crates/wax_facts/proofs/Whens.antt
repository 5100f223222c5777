-- Answers that are sure.
use Rattle.std.proofs.Common.{refl, ◌≡◌}
use Rattle.wax_query.specs.{Whens.certainty, declared.query.when.When.When}
use Rattle.wax_query.specs.declared.query.when.When.TheVariants.{Always, Never, Sometimes}
use Rattle.wax_facts.specs.Optional.{optional}

pub never_always : {C : Type 0} → Never ≡ Always → C
never_always e = absurd (let f : ⊥ = cc in f)

pub sometimes_always : {C : Type 0} → Sometimes ≡ Always → C
sometimes_always e = absurd (let f : ⊥ = cc in f)

pub optional_never : {C : Type 0} (w : When) → optional 0 w ≡ Always → C
optional_never Never e = never_always e
optional_never Sometimes e = sometimes_always e
optional_never Always e = sometimes_always e

pub certain : (a b : When) → certainty a b ≡ Always → (a ≡ Always) × (b ≡ Always)
certain Never Never e = never_always e
certain Never Sometimes e = sometimes_always e
certain Never Always e = sometimes_always e
certain Sometimes b e = sometimes_always e
certain Always Never e = sometimes_always e
certain Always Sometimes e = sometimes_always e
certain Always Always e = (refl, refl)
