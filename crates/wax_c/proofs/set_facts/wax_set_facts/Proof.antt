-- What lies at the handle is lent to `facts_held`, which gets the other arguments too.
use Rattle.wax_c.proofs.Handles.{follows, passed, by_shr, shr_at, facts, set, ◌≡◌, pos}
use Rattle.wax_c.proofs.{set_facts.facts_held.Met.met, set_facts.wax_set_facts.Statement.statement}
use Rattle.wax_c.specs.{Facts.AreFacts, contracts.facts.WaxFacts.the_row as Facts}
use Rattle.wax_c.proofs.set_facts.wax_set_facts.Code as code

pub wax_set_facts_spec : {M : Type 1} → statement M
wax_set_facts_spec 𝓤 𝓛 𝓜 𝓡 wired =
    follows (facts Facts) set (λ κs g t e r. AreFacts g e.0.now × (r ≡ pos 0))
    𝓤 𝓛 𝓜 𝓡 (by_shr 𝓛 set) _ (code.unfolded 𝓤 𝓛.H 𝓜 𝓡 wired) (λ κs qs x t g b o α γ.
    met 𝓤 𝓛 𝓜 𝓡 (code.calls-wax_c::set_facts::facts_held 𝓡.env wired)
    (passed (facts Facts) κs qs x t (shr_at set b o g) b o α))
