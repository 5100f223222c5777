-- What is the same for each text, and what varies within bounds.
use Rattle.std.specs.{Prelude.{ℕ, List, Option, Some, None, IsNone, IsSomeAnd, option_map}, Borrow.Bor}
use Rattle.std.specs.{Cow.cow_str_bytes, declared.borrow.CowStr.CowStr}
use Rattle.wax_query.specs.declared.query.variance.Boundedness.{Boundedness}
use Rattle.wax_query.specs.declared.query.variance.Boundedness.TheVariants.{Bounded, Unbounded}
use Rattle.wax_query.specs.declared.query.variance.Variance.{Variance}
use Rattle.wax_query.specs.declared.query.variance.Variance.TheVariants.{Invariant, Variant}

-- the bound, if there is one
abbrev pub bound : {B : Type 0} → Boundedness B → Option B
bound (Bounded b) = Some b
bound Unbounded = None

abbrev pub invariant : {T B : Type 0} → Variance T B → Option T
invariant (Invariant t) = Some t
invariant (Variant b) = None

abbrev pub variant : {T B : Type 0} → Variance T B → Option B
variant (Invariant t) = None
variant (Variant b) = Some b

-- the value for which P holds of the one before, if there is one
abbrev pub IsMapped : {T U : Type 0} → (T → U → Type 0) → Option T → Option U → Type 0
IsMapped P None o = IsNone o
IsMapped P (Some x) o = IsSomeAnd o (P x)

-- the value of either side
abbrev pub variance_value : {T : Type 0} → Variance T T → T
variance_value (Invariant t) = t
variance_value (Variant t) = t

-- what is behind the references
abbrev pub variance_copied : {T B : Type 0} → Variance (Bor T) (Bor B) → Variance T B
variance_copied (Invariant t) = Invariant t.now
variance_copied (Variant b) = Variant b.now

-- the bytes of an invariant text
abbrev pub text_of : {Z V : Type 0} → Variance (CowStr Z) V → Option (List ℕ)
text_of v = option_map cow_str_bytes (invariant v)
