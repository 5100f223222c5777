-- Null is left alone. What lies at any other handle is dropped as a box.
use Rattle.wax_c.proofs.{Handles.{frees, boxes, set, refl}, sets.drop_set.Met.met}
use Rattle.wax_c.proofs.sets.wax_set_free.Statement.{statement}
use Rattle.wax_c.specs.SetOwned.{maybe_set_at}
use Rattle.wax_c.proofs.sets.wax_set_free.Code as code

pub wax_set_free_spec : {M : Type 1} → statement M
wax_set_free_spec 𝓤 𝓛 𝓜 𝓡 wired =
    frees set refl maybe_set_at (λ x p. refl) (λ x p g. refl) 𝓤 𝓛 𝓜 𝓡 (code.unfolded 𝓤 𝓛.H 𝓜 𝓡 wired)
    (boxes set refl 𝓤 𝓛 𝓜 𝓡 (code.calls-std_alloc::boxed::Box::from_raw 𝓡.env wired)
    (code.calls-std_heap::GlobalAllocator::allocate 𝓡.env wired)
    (code.calls-std_heap::GlobalAllocator::deallocate 𝓡.env wired)
    (code.calls-std_heap::GlobalAllocator::grow 𝓡.env wired)
    (code.calls-std_heap::GlobalAllocator::shrink 𝓡.env wired)
    (code.calls-wax_c::Destruct++none::drop 𝓡.env wired))
    (met 𝓤 𝓛 𝓜 𝓡 (code.calls-wax_c::sets::drop_set 𝓡.env wired))
