-- What lies at the handle is lent to `is_match_held`, which gets the other arguments too.
use Rattle.wax_c.proofs.{Handles.{follows, passed, by_mut, mut_at, path, glob}, globs.is_match_held.Met.met}
use Rattle.wax_c.proofs.globs.wax_glob_is_match.Statement.{statement}
use Rattle.wax_c.specs.Outcomes.{DecidesAs, SaysMatch}
use Rattle.wax_c.proofs.globs.wax_glob_is_match.Code as code

pub wax_glob_is_match_spec : {M : Type 1} → statement M
wax_glob_is_match_spec 𝓤 𝓛 𝓜 𝓡 wired =
    follows path glob (λ κs g t e r. DecidesAs (SaysMatch g) t.0.now r)
    𝓤 𝓛 𝓜 𝓡 (by_mut 𝓛 glob) _ (code.unfolded 𝓤 𝓛.H 𝓜 𝓡 wired) (λ κs qs x t g b o α γ.
    met 𝓤 𝓛 𝓜 𝓡 (code.calls-wax_c::globs::is_match_held 𝓡.env wired)
    (passed path κs qs x t (mut_at glob b o γ g) b o α))
