-- What lies at the handle is lent to `fill_unignored`, which gets the other arguments too.
use Rattle.std.proofs.Common.{◌+◌, length}
use Rattle.wax_c.proofs.Handles.{follows, passed, by_mut, mut_at, listing, list, u8}
use Rattle.wax_c.proofs.{lists.fill_unignored.Met.met, lists.wax_ignore_filter.Statement.statement}
use Rattle.wax_c.specs.{ListHandles.AreUnignored, Outcomes.FillsWithin}
use Rattle.wax_c.proofs.lists.wax_ignore_filter.Code as code

pub wax_ignore_filter_spec : {M : Type 1} → statement M
wax_ignore_filter_spec 𝓤 𝓛 𝓜 𝓡 wired =
    follows (listing u8) list
    (λ κs g t e r. FillsWithin (length t.0.now + 1) (AreUnignored g t.0.now) t.1.0.now
    (record { bytes = e.1.0.now; written = e.1.1.0.now }) r)
    𝓤 𝓛 𝓜 𝓡 (by_mut 𝓛 list) _ (code.unfolded 𝓤 𝓛.H 𝓜 𝓡 wired) (λ κs qs x t g b o α γ.
    met 𝓤 𝓛 𝓜 𝓡 (code.calls-wax_c::lists::fill_unignored 𝓡.env wired)
    (passed (listing u8) κs qs x t (mut_at list b o γ g) b o α))
