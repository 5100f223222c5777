-- What lies at the handle is lent to `deciding_line_held`, which gets the other arguments too.
use Rattle.wax_c.proofs.Handles.{follows, passed, by_shr, shr_at, placing, list, usize}
use Rattle.wax_c.proofs.{lines.deciding_line_held.Met.met, lines.wax_ignore_deciding_line.Statement.statement}
use Rattle.wax_c.specs.Lines.{FindsLineAs}
use Rattle.wax_c.proofs.lines.wax_ignore_deciding_line.Code as code

pub wax_ignore_deciding_line_spec : {M : Type 1} → statement M
wax_ignore_deciding_line_spec 𝓤 𝓛 𝓜 𝓡 wired =
    follows (placing usize) list (λ κs g t e r. FindsLineAs g t.0.now e.1.0.now r)
    𝓤 𝓛 𝓜 𝓡 (by_shr 𝓛 list) _ (code.unfolded 𝓤 𝓛.H 𝓜 𝓡 wired) (λ κs qs x t g b o α γ.
    met 𝓤 𝓛 𝓜 𝓡 (code.calls-wax_c::lines::deciding_line_held 𝓡.env wired)
    (passed (placing usize) κs qs x t (shr_at list b o g) b o α))
