-- What lies at the handle is lent to `semantic_held`, which gets the other arguments too.
use Rattle.wax_c.proofs.Handles.{follows, passed, by_shr, shr_at, alone, glob}
use Rattle.wax_c.proofs.warnings.semantic_held.Met.{met}
use Rattle.wax_c.proofs.warnings.wax_glob_has_semantic_literals.Statement.{statement}
use Rattle.wax_c.specs.Warnings.{SaysSemanticAs}
use Rattle.wax_c.proofs.warnings.wax_glob_has_semantic_literals.Code as code

pub wax_glob_has_semantic_literals_spec : {M : Type 1} → statement M
wax_glob_has_semantic_literals_spec 𝓤 𝓛 𝓜 𝓡 wired =
    follows alone glob (λ κs g t e r. SaysSemanticAs g.tree r)
    𝓤 𝓛 𝓜 𝓡 (by_shr 𝓛 glob) _ (code.unfolded 𝓤 𝓛.H 𝓜 𝓡 wired) (λ κs qs x t g b o α γ.
    met 𝓤 𝓛 𝓜 𝓡 (code.calls-wax_c::warnings::semantic_held 𝓡.env wired)
    (passed alone κs qs x t (shr_at glob b o g) b o α))
