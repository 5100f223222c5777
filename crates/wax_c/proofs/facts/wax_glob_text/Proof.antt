-- What lies at the handle is lent to `text_held`, which gets the other arguments too.
use Rattle.wax_c.proofs.{Handles.{follows, passed, by_shr, shr_at, writing, glob}, facts.text_held.Met.met}
use Rattle.wax_c.proofs.facts.wax_glob_text.Statement.{statement}
use Rattle.wax_c.specs.Facts.{HasTextAs}
use Rattle.wax_c.proofs.facts.wax_glob_text.Code as code

pub wax_glob_text_spec : {M : Type 1} → statement M
wax_glob_text_spec 𝓤 𝓛 𝓜 𝓡 wired =
    follows writing glob (λ κs g t e r. HasTextAs g.tree t.0.now
    (record { bytes = e.0.now; written = e.1.0.now }) r)
    𝓤 𝓛 𝓜 𝓡 (by_shr 𝓛 glob) _ (code.unfolded 𝓤 𝓛.H 𝓜 𝓡 wired) (λ κs qs x t g b o α γ.
    met 𝓤 𝓛 𝓜 𝓡 (code.calls-wax_c::facts::text_held 𝓡.env wired)
    (passed writing κs qs x t (shr_at glob b o g) b o α))
