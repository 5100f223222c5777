-- What lies at the handle is lent to `excludes_below_held`, which gets the other arguments too.
use Rattle.wax_c.proofs.Handles.{follows, passed, by_shr, shr_at, path, list}
use Rattle.wax_c.proofs.lists.excludes_below_held.Met.{met}
use Rattle.wax_c.proofs.lists.wax_ignore_excludes_below.Statement.{statement}
use Rattle.wax_c.specs.{ListHandles.SaysIgnoredBelow, Outcomes.DecidesAs}
use Rattle.wax_c.proofs.lists.wax_ignore_excludes_below.Code as code

pub wax_ignore_excludes_below_spec : {M : Type 1} → statement M
wax_ignore_excludes_below_spec 𝓤 𝓛 𝓜 𝓡 wired =
    follows path list (λ κs g t e r. DecidesAs (SaysIgnoredBelow g) t.0.now r)
    𝓤 𝓛 𝓜 𝓡 (by_shr 𝓛 list) _ (code.unfolded 𝓤 𝓛.H 𝓜 𝓡 wired) (λ κs qs x t g b o α γ.
    met 𝓤 𝓛 𝓜 𝓡 (code.calls-wax_c::lists::excludes_below_held 𝓡.env wired)
    (passed path κs qs x t (shr_at list b o g) b o α))
