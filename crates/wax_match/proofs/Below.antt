-- Whether a tree means the text of something at most so many names below a folder, as a decided fact.
use Rattle.std.proofs.Common.{◌≡◌, ◌∙◌, ℕ, Bool, true, false, List, Option, inr, refl, sym, true≢false}
use Rattle.std.specs.Str.{all_scalars}
use Rattle.wax_match.specs.inner.Code.{instructions_of}
use Rattle.wax_match.proofs.{Compiled.compiled, Whole.{program_complete, program_sound}}
use Rattle.wax_program.specs.{Machine.Accepts, Onward.ahead_of}
use Rattle.wax_program.proofs.{Deciding.ahead_decided, Opens.{ahead_below, below_scalars}, Tested.decided_by}
use Rattle.wax_query.specs.Below.{IsBelowWithin}
use Rattle.wax_token.specs.{Decided.Decided, Meaning.Means, Syntax.Tree}

module _ {A : Type 0} (t : Tree A) (most : Option ℕ) (folder : List ℕ) where
  abbrev Meant : Type 0
  Meant = (s : List ℕ) × IsBelowWithin most folder s × (all_scalars s ≡ true) × Means t false false s

  of : (b : Bool) → all_scalars folder ≡ b → Decided Meant
  of false e = inr (λ (s, within, all, m). true≢false (sym (below_scalars most folder s within all) ∙ e))
  of true e =
      let code = instructions_of t false false in
      let is = compiled t false false in
      let below = ahead_below most (Accepts code 0) folder e in
      decided_by (
        (λ h. (let (s, within, all, a) = below.0 h in (s, within, all, program_sound is s a))),
        (λ (s, within, all, m). below.1 (s, within, all, program_complete is s m)),
      ) (ahead_decided code most (ahead_of folder) 0 folder)

  pub below_decided : Decided
      ((s : List ℕ) × IsBelowWithin most folder s × (all_scalars s ≡ true) × Means t false false s)
  below_decided = of (all_scalars folder) refl
