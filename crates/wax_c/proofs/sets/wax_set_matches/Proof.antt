-- What lies at the handle is lent to `list_held`, which gets the other arguments too.
use Rattle.wax_c.proofs.Handles.{follows, passed, by_mut, mut_at, listing, set, usize}
use Rattle.wax_c.proofs.{sets.list_held.Met.met, sets.wax_set_matches.Statement.statement}
use Rattle.wax_c.specs.Sets.{ListsMatchesAs}
use Rattle.wax_c.proofs.sets.wax_set_matches.Code as code

pub wax_set_matches_spec : {M : Type 1} → statement M
wax_set_matches_spec 𝓤 𝓛 𝓜 𝓡 wired =
    follows (listing usize) set (λ κs g t e r. ListsMatchesAs g t.0.now t.1.0.now e.1.0.now e.1.1.0.now r)
    𝓤 𝓛 𝓜 𝓡 (by_mut 𝓛 set) _ (code.unfolded 𝓤 𝓛.H 𝓜 𝓡 wired) (λ κs qs x t g b o α γ.
    met 𝓤 𝓛 𝓜 𝓡 (code.calls-wax_c::sets::list_held 𝓡.env wired)
    (passed (listing usize) κs qs x t (mut_at set b o γ g) b o α))
