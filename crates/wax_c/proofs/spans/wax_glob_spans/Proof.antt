-- What lies at the handle is lent to `spans_held`, which gets the other arguments too.
use Rattle.wax_c.proofs.{Handles.{follows, passed, by_shr, shr_at, listing, glob}, spans.spans_held.Met.met}
use Rattle.wax_c.proofs.spans.wax_glob_spans.Statement.{statement}
use Rattle.wax_c.specs.{Spans.SpansAs, contracts.globs.WaxSpan.the_row as Span}
use Rattle.wax_c.proofs.spans.wax_glob_spans.Code as code

pub wax_glob_spans_spec : {M : Type 1} → statement M
wax_glob_spans_spec 𝓤 𝓛 𝓜 𝓡 wired =
    follows (listing Span) glob (λ κs g t e r. SpansAs g t.0.now t.1.0.now e.1.0.now e.1.1.0.now r)
    𝓤 𝓛 𝓜 𝓡 (by_shr 𝓛 glob) _ (code.unfolded 𝓤 𝓛.H 𝓜 𝓡 wired) (λ κs qs x t g b o α γ.
    met 𝓤 𝓛 𝓜 𝓡 (code.calls-wax_c::spans::spans_held 𝓡.env wired)
    (passed (listing Span) κs qs x t (shr_at glob b o g) b o α))
