-- What lies at the handle is lent to `capture_held`, which gets the other arguments too.
use Rattle.wax_c.proofs.Handles.{follows, passed, by_shr, shr_at, captures, glob}
use Rattle.wax_c.proofs.{captures.capture_held.Met.met, captures.wax_glob_captures.Statement.statement}
use Rattle.wax_c.specs.Captures.{CapturesAs}
use Rattle.wax_c.proofs.captures.wax_glob_captures.Code as code

pub wax_glob_captures_spec : {M : Type 1} → statement M
wax_glob_captures_spec 𝓤 𝓛 𝓜 𝓡 wired =
    follows captures glob (λ κs g t e r.
    CapturesAs g t.0.now (record { bytes = t.1.0.now; lengths = t.1.1.0.now })
    (record { bytes = e.1.0.now; lengths = e.1.1.0.now }) e.1.1.1.0.now r)
    𝓤 𝓛 𝓜 𝓡 (by_shr 𝓛 glob) _ (code.unfolded 𝓤 𝓛.H 𝓜 𝓡 wired) (λ κs qs x t g b o α γ.
    met 𝓤 𝓛 𝓜 𝓡 (code.calls-wax_c::captures::capture_held 𝓡.env wired)
    (passed captures κs qs x t (shr_at glob b o g) b o α))
