-- What lies at the handle is lent to `fill_held`, which gets the other arguments too.
use Rattle.std.proofs.Common.{◌+◌, length}
use Rattle.wax_c.proofs.Handles.{follows, passed, by_shr, shr_at, listing, glob, u8}
use Rattle.wax_c.proofs.{globs.fill_held.Met.met, globs.wax_glob_filter.Statement.statement}
use Rattle.wax_c.specs.Outcomes.{AreLines, FillsWithin}
use Rattle.wax_c.proofs.globs.wax_glob_filter.Code as code

pub wax_glob_filter_spec : {M : Type 1} → statement M
wax_glob_filter_spec 𝓤 𝓛 𝓜 𝓡 wired =
    follows (listing u8) glob (λ κs g t e r. FillsWithin (length t.0.now + 1) (AreLines g t.0.now) t.1.0.now
    (record { bytes = e.1.0.now; written = e.1.1.0.now }) r)
    𝓤 𝓛 𝓜 𝓡 (by_shr 𝓛 glob) _ (code.unfolded 𝓤 𝓛.H 𝓜 𝓡 wired) (λ κs qs x t g b o α γ.
    met 𝓤 𝓛 𝓜 𝓡 (code.calls-wax_c::globs::fill_held 𝓡.env wired)
    (passed (listing u8) κs qs x t (shr_at glob b o g) b o α))
