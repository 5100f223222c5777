-- What the box owned is owned by the handle.
use Rattle.wax_c.proofs.Handles.{holds, block_ptr, Some, ◌≡◌, refl}
use Rattle.wax_c.proofs.set_handle.SetHandle.of.Statement.{statement}
use Rattle.wax_c.specs.contracts.set_handle.HeldSet.{the_row as R}
use Rattle.wax_c.specs.contracts.set_handle.SetHandle.{the_row as Handle}
use Rattle.wax_c.proofs.set_handle.SetHandle.of.Code as code

pub of_spec : {M : Type 1} → statement M
of_spec 𝓤 𝓛 𝓜 𝓡 wired =
    holds Handle R (λ x b o. record { at = block_ptr b o; alloc = x.alloc; held = Some x.value.matcher })
    (λ x r. r.held ≡ Some x.value.matcher) (λ x b o. refl) (λ x b o z. refl)
    𝓤 𝓛 𝓜 𝓡 _ _ (code.unfolded 𝓤 𝓛.H 𝓜 𝓡 wired)
