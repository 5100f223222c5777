-- What lies at the handle is lent to `facts_held`, which gets the other arguments too.
use Rattle.wax_c.proofs.Handles.{follows, passed, by_shr, shr_at, facts, glob, ◌≡◌, pos}
use Rattle.wax_c.proofs.{facts.facts_held.Met.met, facts.wax_glob_facts.Statement.statement}
use Rattle.wax_c.specs.{Facts.AreFacts, contracts.facts.WaxFacts.the_row as Facts}
use Rattle.wax_c.proofs.facts.wax_glob_facts.Code as code

pub wax_glob_facts_spec : {M : Type 1} → statement M
wax_glob_facts_spec 𝓤 𝓛 𝓜 𝓡 wired =
    follows (facts Facts) glob (λ κs g t e r. AreFacts g.tree e.0.now × (r ≡ pos 0))
    𝓤 𝓛 𝓜 𝓡 (by_shr 𝓛 glob) _ (code.unfolded 𝓤 𝓛.H 𝓜 𝓡 wired) (λ κs qs x t g b o α γ.
    met 𝓤 𝓛 𝓜 𝓡 (code.calls-wax_c::facts::facts_held 𝓡.env wired)
    (passed (facts Facts) κs qs x t (shr_at glob b o g) b o α))
