-- Null is left alone. What lies at any other handle is dropped as a box.
use Rattle.wax_c.proofs.{Handles.{frees, boxes, list, refl}, lists.drop_list.Met.met}
use Rattle.wax_c.proofs.lists.wax_ignore_free.Statement.{statement}
use Rattle.wax_c.specs.ListOwned.{maybe_list_at}
use Rattle.wax_c.proofs.lists.wax_ignore_free.Code as code

pub wax_ignore_free_spec : {M : Type 1} → statement M
wax_ignore_free_spec 𝓤 𝓛 𝓜 𝓡 wired =
    frees list refl maybe_list_at (λ x p. refl) (λ x p g. refl) 𝓤 𝓛 𝓜 𝓡 (code.unfolded 𝓤 𝓛.H 𝓜 𝓡 wired)
    (boxes list refl 𝓤 𝓛 𝓜 𝓡 (code.calls-std_alloc::boxed::Box::from_raw 𝓡.env wired)
    (code.calls-std_heap::GlobalAllocator::allocate 𝓡.env wired)
    (code.calls-std_heap::GlobalAllocator::deallocate 𝓡.env wired)
    (code.calls-std_heap::GlobalAllocator::grow 𝓡.env wired)
    (code.calls-std_heap::GlobalAllocator::shrink 𝓡.env wired)
    (code.calls-wax_c::Destruct++none::drop 𝓡.env wired))
    (met 𝓤 𝓛 𝓜 𝓡 (code.calls-wax_c::lists::drop_list 𝓡.env wired))
