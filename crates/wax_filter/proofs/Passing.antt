-- What a filter yields, call by call.
use Rattle.std.specs.Prelude.{Option, Some, ◌∷◌}
use Rattle.wax_filter.specs.declared.filter.product.Product.{Product}
use Rattle.wax_filter.specs.declared.filter.product.kind.ResidueKind.{ResidueKind}
use Rattle.wax_filter.specs.declared.filter.separation.Separation.{Separation}
use Rattle.wax_filter.specs.{declared.filter.separation.Separation.TheVariants.Residue, Feeding.NextFiltrate}

-- one more excluded item comes first
pub passed : {S G F R : Type 0} (feeds : S → Option (Separation G F R) → S → Type 0) (s u : S)
    (x : Product ResidueKind R) (r : Option F) (t : S)
    → feeds s (Some (Residue x)) u → NextFiltrate feeds u r t → NextFiltrate feeds s r t
passed feeds s u x r t f h = (x ∷ h.0, h.1, h.2, (u, f, h.3), h.4, h.5)
