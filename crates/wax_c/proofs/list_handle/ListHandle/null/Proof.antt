-- Nothing is owned at null.
use Rattle.wax_c.proofs.Handles.{nulls, null_ptr, None, ◌≡◌, refl}
use Rattle.wax_c.proofs.list_handle.ListHandle.null.Statement.{statement}
use Rattle.wax_c.specs.contracts.list_handle.ListHandle.{the_row as Handle}
use Rattle.wax_c.proofs.list_handle.ListHandle.null.Code as code

pub null_spec : {M : Type 1} → statement M
null_spec 𝓤 𝓛 𝓜 𝓡 wired =
    nulls Handle (λ x. record { at = null_ptr; alloc = x; held = None })
    (λ r. (r.held ≡ None) × (r.at ≡ null_ptr)) (λ x. (refl, refl)) (λ x. refl)
    𝓤 𝓛 𝓜 𝓡 _ (code.unfolded 𝓤 𝓛.H 𝓜 𝓡 wired)
