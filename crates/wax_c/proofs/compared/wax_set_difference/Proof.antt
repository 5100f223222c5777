-- What lies at the handles is lent to `difference_held`, which gets the other arguments too.
use Rattle.std.proofs.Common.{refl}
use Rattle.wax_c.proofs.Generic.{follows_generic, passed_generic, type_argument, type_argument_laws}
use Rattle.wax_c.proofs.{Handles.{shr_at, set}, compared.difference_held.Met.met}
use Rattle.wax_c.proofs.compared.wax_set_difference.Statement.{statement}
use Rattle.wax.specs.Matching.{MeansText}
use Rattle.wax_c.specs.{Comparing.DifferenceAs, contracts.set_handle.HeldSetCompared.TheImpl.{ghosts, dict}}
use Rattle.wax_c.proofs.compared.wax_set_difference.Code as code
use Rattle.wax_c.proofs.set_handle.HeldSetCompared.TheImpl.Met as selected

pub wax_set_difference_spec : {M : Type 1} → statement M
wax_set_difference_spec {M} 𝓤 𝓛 𝓜 𝓡 wired =
    follows_generic set (λ κs g g' n t e r.
    DifferenceAs (MeansText g) (MeansText g') n t.0.now (record { bytes = e.0.now; written = e.1.0.now }) r)
    𝓤 𝓛 𝓜 𝓡 _ _ (code.unfolded 𝓤 𝓛.H 𝓜 𝓡 wired) (λ κs qs x n t g b o α γ b' o' α' γ'.
    met 𝓤 𝓛 𝓜 𝓡 (code.calls-wax_c::compared::difference_held 𝓡.env wired) (type_argument set)
    (type_argument_laws set refl) ghosts dict
    (selected.passed 𝓡.env (code.calls-wax_c::set_handle::HeldSetCompared::selector 𝓡.env wired) M 𝓤 𝓛 𝓜 𝓡)
    (passed_generic κs qs x n t (shr_at set b o g.0) b o α (shr_at set b' o' g.1) b' o' α'))
