-- What lies at the handle is lent to `capturing_held`, which gets the other arguments too.
use Rattle.wax_c.proofs.{Handles.{follows, passed, by_shr, shr_at, items, glob}, spans.capturing_held.Met.met}
use Rattle.wax_c.proofs.spans.wax_glob_capturing.Statement.{statement}
use Rattle.wax_c.specs.{Outcomes.ListsAllAs, Spans.capturing_spans, contracts.globs.WaxSpan.the_row as Span}
use Rattle.wax_c.proofs.spans.wax_glob_capturing.Code as code

pub wax_glob_capturing_spec : {M : Type 1} → statement M
wax_glob_capturing_spec 𝓤 𝓛 𝓜 𝓡 wired =
    follows (items Span) glob (λ κs g t e r. ListsAllAs (capturing_spans g) t.0.now e.0.now e.1.0.now r)
    𝓤 𝓛 𝓜 𝓡 (by_shr 𝓛 glob) _ (code.unfolded 𝓤 𝓛.H 𝓜 𝓡 wired) (λ κs qs x t g b o α γ.
    met 𝓤 𝓛 𝓜 𝓡 (code.calls-wax_c::spans::capturing_held 𝓡.env wired)
    (passed (items Span) κs qs x t (shr_at glob b o g) b o α))
