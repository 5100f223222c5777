-- An option or a result inside an item.
use Rattle.std.specs.Prelude.{◌≡◌, Option, Some, None, Result, Ok, Err}
use Rattle.wax_filter.specs.declared.filter.product.Product.{Product}
use Rattle.wax_filter.specs.declared.filter.product.kind.FiltrateKind.{FiltrateKind}
use Rattle.wax_filter.specs.declared.filter.separation.Separation.{Separation}
use Rattle.wax_filter.specs.declared.filter.separation.Separation.TheVariants.{Filtrate, Residue}

-- an item that is kept becomes the one inside its option, or `None`; any other stays
abbrev pub Transposes : {S T A R : Type 0} → Separation S (Option A) R → Option (Separation T A R) → Type 0
Transposes (Filtrate x) None = x.inner ≡ None
Transposes (Filtrate x) (Some (Filtrate y)) = x.inner ≡ Some y.inner
Transposes (Filtrate x) (Some (Residue y)) = ⊥
Transposes (Residue x) r = r ≡ Some (Residue x)

-- an item that is kept becomes the one inside its result, or the error; any other stays
abbrev pub TransposesOk : {S T A E R : Type 0} → Separation S (Result A E) R
    → Result (Separation T A R) (Product FiltrateKind E) → Type 0
TransposesOk (Filtrate x) (Err y) = x.inner ≡ Err y.inner
TransposesOk (Filtrate x) (Ok (Filtrate y)) = x.inner ≡ Ok y.inner
TransposesOk (Filtrate x) (Ok (Residue y)) = ⊥
TransposesOk (Residue x) r = r ≡ Ok (Residue x)
