-- Null is left alone. What lies at any other handle is dropped as a box.
use Rattle.wax_c.proofs.{Handles.{frees, boxes, glob, refl}, globs.drop_glob.Met.met}
use Rattle.wax_c.proofs.globs.wax_glob_free.Statement.{statement}
use Rattle.wax_c.specs.GlobOwned.{maybe_glob_at}
use Rattle.wax_c.proofs.globs.wax_glob_free.Code as code

pub wax_glob_free_spec : {M : Type 1} → statement M
wax_glob_free_spec 𝓤 𝓛 𝓜 𝓡 wired =
    frees glob refl maybe_glob_at (λ x p. refl) (λ x p g. refl) 𝓤 𝓛 𝓜 𝓡 (code.unfolded 𝓤 𝓛.H 𝓜 𝓡 wired)
    (boxes glob refl 𝓤 𝓛 𝓜 𝓡 (code.calls-std_alloc::boxed::Box::from_raw 𝓡.env wired)
    (code.calls-std_heap::GlobalAllocator::allocate 𝓡.env wired)
    (code.calls-std_heap::GlobalAllocator::deallocate 𝓡.env wired)
    (code.calls-std_heap::GlobalAllocator::grow 𝓡.env wired)
    (code.calls-std_heap::GlobalAllocator::shrink 𝓡.env wired)
    (code.calls-wax_c::Destruct++none::drop 𝓡.env wired))
    (met 𝓤 𝓛 𝓜 𝓡 (code.calls-wax_c::globs::drop_glob 𝓡.env wired))
