-- What lies at the handle is lent to `warn_held`, which gets the other arguments too.
use Rattle.wax_c.proofs.{Handles.{follows, passed, by_shr, shr_at, items, glob}, warnings.warn_held.Met.met}
use Rattle.wax_c.proofs.warnings.wax_glob_warnings.Statement.{statement}
use Rattle.wax_c.specs.{Outcomes.ListsAllAs, Warnings.wax_warnings}
use Rattle.wax_c.specs.contracts.warnings.WaxWarning.{the_row as Warning}
use Rattle.wax_c.proofs.warnings.wax_glob_warnings.Code as code

pub wax_glob_warnings_spec : {M : Type 1} → statement M
wax_glob_warnings_spec 𝓤 𝓛 𝓜 𝓡 wired =
    follows (items Warning) glob (λ κs g t e r. ListsAllAs (wax_warnings g) t.0.now e.0.now e.1.0.now r)
    𝓤 𝓛 𝓜 𝓡 (by_shr 𝓛 glob) _ (code.unfolded 𝓤 𝓛.H 𝓜 𝓡 wired) (λ κs qs x t g b o α γ.
    met 𝓤 𝓛 𝓜 𝓡 (code.calls-wax_c::warnings::warn_held 𝓡.env wired)
    (passed (items Warning) κs qs x t (shr_at glob b o g) b o α))
