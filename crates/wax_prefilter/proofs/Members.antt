-- A list of tokens means and costs what the tree of which they are the members does.
use Rattle.std.proofs.Common.{◌≡◌, ◌↔◌, ◌+◌, ◌≤◌, ℕ, Bool, false, List, IfOk, Result, Ok, Err, ◌<◌, refl}
use Rattle.std.proofs.Common.{add-zero, ap, ◌∙◌, arith, length, subst}
use Rattle.wax_prefilter.specs.Compiled.{Instructions, IsCompiled}
use Rattle.wax_match.specs.declared.encode.CompileError.{CompileError}
use Rattle.wax_program.specs.Machine.{Accepts}
use Rattle.wax_query.specs.{Outcome.MatchBuild, declared.diagnostics.Refusal.Refusal}
use Rattle.wax_token.specs.{Cost.{cost, costs, program_length}, Meaning.{Means, MeansEach}}
use Rattle.wax_token.specs.{Syntax.{Tree, Trees, leaf, alternation, concatenation, repetition}, Words.members}

pub means_members : {A : Type 0} (t : Tree A) (before after : Bool) (s : List ℕ)
    → MeansEach (members t) before after s ↔ Means t before after s
means_members (leaf a l) before after s = (λ h. h, λ h. h)
means_members (alternation a ts) before after s = (λ h. h, λ h. h)
means_members (concatenation a ts) before after s = (λ h. h, λ h. h)
means_members (repetition a t low high) before after s = (λ h. h, λ h. h)

pub costs_members : {A : Type 0} (t : Tree A) → costs (members t) ≡ cost t
costs_members (leaf a l) = add-zero _
costs_members (alternation a ts) = add-zero _
costs_members (concatenation a ts) = refl
costs_members (repetition a t low high) = add-zero _

-- what the members are compiled to is what the tree is compiled to
pub is_compiled : {A : Type 0} (t : Tree A) (ts : Trees A) (program : Instructions) → ts ≡ members t
    → ((s : List ℕ) → Accepts program.0 0 s ↔ MeansEach ts false false s) → program.1 ≡ costs ts + 1
    → program.1 ≤ 1048576 → length program.0 < program.1
    → IsCompiled t program
is_compiled t ts program same accepts len fits longer = record {
  accepts = λ s.
      let whole = subst (λ z. Accepts program.0 0 s ↔ MeansEach z false false s) same (accepts s) in
      let parts = means_members t false false s in
      (λ h. parts.0 (whole.0 h), λ h. whole.1 (parts.1 h));
  len = total;
  fits = omega (arith, total, fits);
  longer = longer;
} where
  total : program.1 ≡ program_length t
  total = len ∙ ap (λ z. costs z + 1) same ∙ ap (λ n. n + 1) (costs_members t)

-- and so it is of what compiling the members returns
pub compiled_members : {A : Type 0} (t : Tree A) (ts : Trees A)
    (r : Result Instructions (Refusal CompileError)) → ts ≡ members t
    → IfOk r (λ c. (s : List ℕ) → Accepts c.0 0 s ↔ MeansEach ts false false s)
    → MatchBuild r (λ c. (c.1 ≡ costs ts + 1) × (c.1 ≤ 1048576)) (λ _. 1048576 < costs ts + 1)
    → IfOk r (λ c. length c.0 < c.1)
    → IfOk r (IsCompiled t)
compiled_members t ts (Ok program) same accepts fits longer =
    is_compiled t ts program same accepts fits.0 fits.1 longer
compiled_members t ts (Err e) same accepts fits longer = tt
