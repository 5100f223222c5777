-- What lies at the handles is lent to `overlap_held`, which gets the other arguments too.
use Rattle.std.proofs.Common.{refl}
use Rattle.wax_c.proofs.Generic.{follows_generic, passed_generic, type_argument, type_argument_laws}
use Rattle.wax_c.proofs.{Handles.{shr_at, glob}, compared.overlap_held.Met.met}
use Rattle.wax_c.proofs.compared.wax_glob_overlap.Statement.{statement}
use Rattle.wax.specs.GlobView.{IsMeant}
use Rattle.wax_c.specs.{Comparing.OverlapAs, contracts.handle.HeldGlobCompared.TheImpl.{ghosts, dict}}
use Rattle.wax_c.proofs.compared.wax_glob_overlap.Code as code
use Rattle.wax_c.proofs.handle.HeldGlobCompared.TheImpl.Met as selected

pub wax_glob_overlap_spec : {M : Type 1} → statement M
wax_glob_overlap_spec {M} 𝓤 𝓛 𝓜 𝓡 wired =
    follows_generic glob (λ κs g g' n t e r.
    OverlapAs (IsMeant g) (IsMeant g') n t.0.now (record { bytes = e.0.now; written = e.1.0.now }) r)
    𝓤 𝓛 𝓜 𝓡 _ _ (code.unfolded 𝓤 𝓛.H 𝓜 𝓡 wired) (λ κs qs x n t g b o α γ b' o' α' γ'.
    met 𝓤 𝓛 𝓜 𝓡 (code.calls-wax_c::compared::overlap_held 𝓡.env wired) (type_argument glob)
    (type_argument_laws glob refl) ghosts dict
    (selected.passed 𝓡.env (code.calls-wax_c::handle::HeldGlobCompared::selector 𝓡.env wired) M 𝓤 𝓛 𝓜 𝓡)
    (passed_generic κs qs x n t (shr_at glob b o g.0) b o α (shr_at glob b' o' g.1) b' o' α'))
