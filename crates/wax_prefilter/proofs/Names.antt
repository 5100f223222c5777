-- Programs for which only the last component of a text matters.
use Rattle.std.proofs.Common.{ℕ, List, inl, inr, subst}
use Rattle.wax_program.specs.{Last.{IsLastName, ReadsLast}, Machine.Accepts}
use Rattle.wax_program.specs.declared.instruction.Instruction.{Instruction}

-- they accept the last component of each text that they accept
pub accepts_name : (code : List Instruction) → ReadsLast code → (text name : List ℕ) → IsLastName text name
    → Accepts code 0 text → Accepts code 0 name
accepts_name code last text name (none, inl e) accepted = subst (Accepts code 0) e accepted
accepts_name code last text name (none, inr (before, e)) accepted =
    let known = last before name none in
    known.0.1 (known.1.0 (subst (Accepts code 0) e accepted))
