-- What handles of ignore lists own.
use Rattle.std.specs.{Prelude.{Option, Some, None}, Box.Ownership.box_owns, Global.Global}
use Rattle.std.specs.contracts.impls.GlobalAllocator.TheImpl.{ghosts}
use Rattle.wax.specs.{declared.ignoring.IgnoreList.IgnoreList, contracts.ignoring.IgnoreList.the_row}
use base.Fml.{Fml, ftrue, feq}
use denote.RawPtr.{Ptr, null_ptr}

-- the memory of an ignore list, with the right to free it
abbrev pub list_at : Global → Ptr → IgnoreList → Fml
list_at alloc p list = box_owns (ghosts.dealloc_token alloc) the_row p list

-- an ignore list, or nothing
abbrev pub owned_list_at : Global → Ptr → Option IgnoreList → Fml
owned_list_at alloc p None = ftrue
owned_list_at alloc p (Some list) = list_at alloc p list

-- an ignore list, or null
abbrev pub maybe_list_at : Global → Ptr → Option IgnoreList → Fml
maybe_list_at alloc p None = feq Ptr p null_ptr
maybe_list_at alloc p (Some list) = list_at alloc p list
