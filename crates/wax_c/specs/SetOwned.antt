-- What handles of sets own.
use Rattle.std.specs.{Prelude.{Option, Some, None}, Box.Ownership.box_owns, Global.Global}
use Rattle.std.specs.contracts.impls.GlobalAllocator.TheImpl.{ghosts}
use Rattle.wax.specs.Language.{Span, Tree}
use Rattle.wax_c.specs.contracts.set_handle.HeldSet.{the_row}
use base.Fml.{Fml, ftrue, feq}
use denote.RawPtr.{Ptr, null_ptr}

-- the memory of a set, with the right to free it
abbrev pub set_at : Global → Ptr → Tree Span → Fml
set_at alloc p t = box_owns (ghosts.dealloc_token alloc) the_row p (record { matcher = t })

-- a set, or nothing
abbrev pub owned_set_at : Global → Ptr → Option (Tree Span) → Fml
owned_set_at alloc p None = ftrue
owned_set_at alloc p (Some t) = set_at alloc p t

-- a set, or null
abbrev pub maybe_set_at : Global → Ptr → Option (Tree Span) → Fml
maybe_set_at alloc p None = feq Ptr p null_ptr
maybe_set_at alloc p (Some t) = set_at alloc p t
