-- What lies at the handle is lent to `is_ignored_held`, which gets the other arguments too.
use Rattle.wax_c.proofs.{Handles.{follows, passed, by_mut, mut_at, path, list}, lists.is_ignored_held.Met.met}
use Rattle.wax_c.proofs.lists.wax_ignore_is_ignored.Statement.{statement}
use Rattle.wax_c.specs.{ListHandles.SaysIgnored, Outcomes.DecidesAs}
use Rattle.wax_c.proofs.lists.wax_ignore_is_ignored.Code as code

pub wax_ignore_is_ignored_spec : {M : Type 1} → statement M
wax_ignore_is_ignored_spec 𝓤 𝓛 𝓜 𝓡 wired =
    follows path list (λ κs g t e r. DecidesAs (SaysIgnored g) t.0.now r)
    𝓤 𝓛 𝓜 𝓡 (by_mut 𝓛 list) _ (code.unfolded 𝓤 𝓛.H 𝓜 𝓡 wired) (λ κs qs x t g b o α γ.
    met 𝓤 𝓛 𝓜 𝓡 (code.calls-wax_c::lists::is_ignored_held 𝓡.env wired)
    (passed path κs qs x t (mut_at list b o γ g) b o α))
