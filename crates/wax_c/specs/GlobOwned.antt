-- What handles of globs own.
use Rattle.std.specs.{Prelude.{Option, Some, None}, Box.Ownership.box_owns, Global.Global}
use Rattle.std.specs.contracts.impls.GlobalAllocator.TheImpl.{ghosts}
use Rattle.wax.specs.GlobView.{GlobView}
use Rattle.wax_c.specs.contracts.handle.HeldGlob.{the_row}
use base.Fml.{Fml, ftrue, feq}
use denote.RawPtr.{Ptr, null_ptr}

-- the memory of a glob, with the right to free it
abbrev pub glob_at : Global → Ptr → GlobView → Fml
glob_at alloc p g = box_owns (ghosts.dealloc_token alloc) the_row p (record { matcher = g })

-- a glob, or nothing
abbrev pub owned_glob_at : Global → Ptr → Option GlobView → Fml
owned_glob_at alloc p None = ftrue
owned_glob_at alloc p (Some g) = glob_at alloc p g

-- a glob, or null
abbrev pub maybe_glob_at : Global → Ptr → Option GlobView → Fml
maybe_glob_at alloc p None = feq Ptr p null_ptr
maybe_glob_at alloc p (Some g) = glob_at alloc p g
