-- What lies at the handle is lent to `partition_held`, which gets the other arguments too.
use Rattle.wax_c.proofs.{Handles.{follows, passed, by_shr, shr_at, parts, glob}, parts.partition_held.Met.met}
use Rattle.wax_c.proofs.parts.wax_glob_partition.Statement.{statement}
use Rattle.wax_c.specs.{contracts.handle.GlobHandle.the_row as Handle, GlobHandles.IsPartitioned}
use Rattle.wax_c.proofs.parts.wax_glob_partition.Code as code

pub wax_glob_partition_spec : {M : Type 1} → statement M
wax_glob_partition_spec 𝓤 𝓛 𝓜 𝓡 wired =
    follows (parts Handle) glob (λ κs g t e r. IsPartitioned g t.0.now
    (record { bytes = e.0.now; written = e.1.0.now }) e.1.1.0.now r)
    𝓤 𝓛 𝓜 𝓡 (by_shr 𝓛 glob) _ (code.unfolded 𝓤 𝓛.H 𝓜 𝓡 wired) (λ κs qs x t g b o α γ.
    met 𝓤 𝓛 𝓜 𝓡 (code.calls-wax_c::parts::partition_held 𝓡.env wired)
    (passed (parts Handle) κs qs x t (shr_at glob b o g) b o α))
