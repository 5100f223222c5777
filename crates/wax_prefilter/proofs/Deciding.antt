-- What a program of a tree decides and visits.
use Rattle.std.proofs.Common.{◌↔◌, ◌≤◌, ◌*◌, ◌+◌, ℕ, Bool, false, List, length, IfOk, IsTrue, Result, subst}
use Rattle.std.proofs.lemmas.Result.{IfOk-weaker}
use Rattle.wax_prefilter.specs.Compiled.{Instructions, IsCompiled}
use Rattle.wax_program.specs.Machine.{Accepts}
use Rattle.wax_token.specs.{Cost.program_length, Meaning.Means, Syntax.Tree}

module _ {A E : Type 0} (t : Tree A) (program : Instructions) (is : IsCompiled t program)
    (r : Result (Bool × ℕ) E) (s : List ℕ) where
  -- what it accepts matches
  pub decides_tree : IfOk r (λ a. IsTrue a.0 ↔ Accepts program.0 0 s)
      → IfOk r (λ a. IsTrue a.0 ↔ Means t false false s)
  decides_tree h =
      IfOk-weaker r (λ a. IsTrue a.0 ↔ Accepts program.0 0 s) (λ a. IsTrue a.0 ↔ Means t false false s)
      (λ a k. (λ b. (is.accepts s).0 (k.0 b), λ m. k.1 ((is.accepts s).1 m))) h

  -- it visits no more than its length allows
  pub visits_tree : IfOk r (λ a. a.1 ≤ program.1 * (length s + 1))
      → IfOk r (λ a. a.1 ≤ program_length t * (length s + 1))
  visits_tree h = subst (λ n. IfOk r (λ a. a.1 ≤ n * (length s + 1))) is.len h

-- what it accepts without a count matches
pub answers_tree : {A E : Type 0} (t : Tree A) (program : Instructions) → IsCompiled t program
    → (r : Result Bool E) (s : List ℕ)
    → IfOk r (λ a. IsTrue a ↔ Accepts program.0 0 s) → IfOk r (λ a. IsTrue a ↔ Means t false false s)
answers_tree t program is r s h =
    IfOk-weaker r (λ a. IsTrue a ↔ Accepts program.0 0 s) (λ a. IsTrue a ↔ Means t false false s)
    (λ a k. (λ b. (is.accepts s).0 (k.0 b), λ m. k.1 ((is.accepts s).1 m))) h
