-- What was said of an entry.
use Rattle.std.proofs.Common.{sym, ◌∙◌, ap, subst}
use Rattle.std.specs.Prelude.{◌≡◌, Option, Some, None}
use Rattle.wax_filter.specs.Separating.{Answers, SaysOf}

-- the option inside another one, or `None`
abbrev pub inside : {B : Type 0} → Option (Option B) → Option B
inside (Some x) = x
inside None = None

pub answered : {A B : Type 0} (says : A → Option B → Type 0) (o : Option A)
    (r : Option (Option B)) (x : Option B)
    → Answers says o r → r ≡ Some x → SaysOf says o x
answered says (Some a) r x h e = let P : Option _ → Type 0 = λ v. says a v in
    subst P (ap inside (sym h.2 ∙ e)) h.1
answered says None r x h e = ap inside (sym e ∙ h)
