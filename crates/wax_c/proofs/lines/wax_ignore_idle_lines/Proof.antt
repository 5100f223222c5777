-- What lies at the handle is lent to `list_idle`, which gets the other arguments too.
use Rattle.std.proofs.Common.{length}
use Rattle.wax_c.proofs.{Handles.{by_shr, shr_at, list, usize}, Numbered.{follows, passed, collecting}}
use Rattle.wax_c.proofs.{lines.list_idle.Met.met, lines.wax_ignore_idle_lines.Statement.statement}
use Rattle.wax_c.specs.Lines.{AreSure, ListsWithin}
use Rattle.wax_c.proofs.lines.wax_ignore_idle_lines.Code as code

pub wax_ignore_idle_lines_spec : {M : Type 1} → statement M
wax_ignore_idle_lines_spec 𝓤 𝓛 𝓜 𝓡 wired =
    follows (collecting usize) list
    (λ κs g n t e r. ListsWithin (length g) (AreSure g n) t.0.now e.0.now e.1.0.now r)
    𝓤 𝓛 𝓜 𝓡 (by_shr 𝓛 list) _ (code.unfolded 𝓤 𝓛.H 𝓜 𝓡 wired) (λ κs qs x n t g b o α γ.
    met 𝓤 𝓛 𝓜 𝓡 (code.calls-wax_c::lines::list_idle 𝓡.env wired)
    (passed (collecting usize) κs qs x n t (shr_at list b o g) b o α))
