-- What lies at the handle is lent to `text_held`, which gets the other arguments too.
use Rattle.wax_c.proofs.{Handles.{follows, passed, by_shr, shr_at, writing, set}, set_facts.text_held.Met.met}
use Rattle.wax_c.proofs.set_facts.wax_set_text.Statement.{statement}
use Rattle.wax_c.specs.Facts.{HasTextAs}
use Rattle.wax_c.proofs.set_facts.wax_set_text.Code as code

pub wax_set_text_spec : {M : Type 1} → statement M
wax_set_text_spec 𝓤 𝓛 𝓜 𝓡 wired =
    follows writing set (λ κs g t e r. HasTextAs g t.0.now
    (record { bytes = e.0.now; written = e.1.0.now }) r)
    𝓤 𝓛 𝓜 𝓡 (by_shr 𝓛 set) _ (code.unfolded 𝓤 𝓛.H 𝓜 𝓡 wired) (λ κs qs x t g b o α γ.
    met 𝓤 𝓛 𝓜 𝓡 (code.calls-wax_c::set_facts::text_held 𝓡.env wired)
    (passed writing κs qs x t (shr_at set b o g) b o α))
