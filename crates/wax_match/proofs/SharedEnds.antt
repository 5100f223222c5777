-- Ends that were written, and jumps there.
use Rattle.std.proofs.Common.{◌≤◌, ◌<◌, ◌≡◌, ◌+◌, ◌-◌, ℕ, zero, suc, true, false, All, get_or, List, [], ◌∷◌}
use Rattle.std.proofs.Common.{◌++◌, length, set, refl, sym, ◌∙◌, ap, subst, arith, append_assoc}
use Rattle.std.proofs.{Common.length-append, lemmas.List.Elements.{All-set, All-weaker}}
use Rattle.wax_match.proofs.{ClosedPieces.{IsInside, inside_leaf}, Compiled.{spells_star, spells_wildcard}}
use Rattle.wax_match.proofs.EndPieces.{written_coded}
use Rattle.wax_match.proofs.Fragments.{Spells, Stands-append, at_instruction, spells_empty}
use Rattle.wax_match.specs.declared.encode.left.Gap.{Gap}
use Rattle.wax_match.specs.declared.encode.left.Gap.TheVariants.{Nothing, Star, Folders, Below, Anything}
use Rattle.wax_match.specs.declared.encode.shared.WrittenEnd.{WrittenEnd}
use Rattle.wax_match.specs.inner.Ends.{AreWritten, IsEnded, IsIn, IsTail, Marked, Stands}
use Rattle.wax_match.specs.{inner.LeadCode.gap_code, inner.Left.{EndMeans, GapMeans}}
use Rattle.wax_program.proofs.Steps.{after_jump}
use Rattle.wax_program.specs.{Closed.IsClosed, declared.instruction.Instruction.Instruction}
use Rattle.wax_program.specs.declared.instruction.Instruction.TheVariants.{End, Jump}
use Rattle.wax_program.specs.Machine.{AcceptsIn, mark}
use Rattle.wax_token.specs.{declared.token.Evaluation.TheVariants.Eager, Syntax.{tree, zero_or_more}}

-- ---- wildcards
pub spells_gap : (gap : Gap) → Spells (gap_code gap) (GapMeans gap)
spells_gap Nothing = spells_empty
spells_gap Star = spells_star
spells_gap Folders = spells_wildcard false true false
spells_gap Below = spells_wildcard true false false
spells_gap Anything = spells_wildcard false false false

pub inside_gap : (gap : Gap) → IsInside (gap_code gap)
inside_gap Nothing = tt
inside_gap Star = inside_leaf (zero_or_more Eager) false false
inside_gap Folders = inside_leaf (tree false) false true
inside_gap Below = inside_leaf (tree false) true false
inside_gap Anything = inside_leaf (tree false) false false

-- ---- an end
pub written_end : (number : ℕ) (gap : Gap) (old new : List Instruction)
    → new ≡ gap_code gap ++ End number number ∷ old → AreWritten old new (EndMeans number gap)
written_end number gap old new e =
    written_coded number (gap_code gap) old new (spells_gap gap) (inside_gap gap) e

-- a jump over a piece, to an end
ends_jump : (a t : List Instruction) {Q : ℕ → List ℕ → Type 0} → IsEnded t Q
    → IsEnded (Jump (length a) ∷ (a ++ t)) Q
ends_jump a t {Q} g = record {
  sound = λ code at n s st h. found code at n s st h;
  complete = λ code at k x st q. after_jump (length a) code at (x ++ mark k ∷ []) st.0
      (g.complete code (at + 1 + length a) k x (Stands-append code (at + 1) a t st.1).1 q);
}
  where
    found : (code : List Instruction) (at n : ℕ) (s : List ℕ) → Stands code at (Jump (length a) ∷ (a ++ t))
        → AcceptsIn code n at s → Marked Q s
    found code at zero s st h = absurd h
    found code at (suc n) s st h = g.sound code (at + 1 + length a) n s
        (Stands-append code (at + 1) a t st.1).1 (at_instruction code at n (Jump (length a)) s st.0 h)

pub written_jump : {Q : ℕ → List ℕ → Type 0} (len by : ℕ) (old new : List Instruction) → 1 ≤ len
    → by ≡ length old - len → new ≡ Jump by ∷ old → IsTail old len Q
    → AreWritten old new Q
written_jump {Q} len by old new some size e at =
    let n : by ≡ length at.front =
    omega (arith, size, ap length at.splits, length-append at.front at.back, at.size) in
    let is : new ≡ Jump (length at.front) ∷ (at.front ++ at.back) =
    e ∙ ap (λ z. Jump z ∷ old) n ∙ ap (λ z. Jump (length at.front) ∷ z) at.splits in
    record {
      piece = Jump by ∷ [];
      splits = e;
      some = omega arith;
      ends = subst (λ z. IsEnded z Q) (sym is) (ends_jump at.front at.back at.ends);
      closed = λ c. subst IsClosed (sym e)
          (omega (arith, n, ap length at.splits, length-append at.front at.back, at.size, some), c);
    }

-- ---- what was written stays
module _ (old new piece : List Instruction) (splits : new ≡ piece ++ old) where
  tail_stays : {Q : ℕ → List ℕ → Type 0} (len : ℕ) → IsTail old len Q → IsTail new len Q
  tail_stays len at = record {
    front = piece ++ at.front;
    back = at.back;
    splits = splits ∙ ap (λ z. piece ++ z) at.splits ∙ sym (append_assoc piece at.front at.back);
    size = at.size;
    ends = at.ends;
  }

  pub ends_stay : (ends : List WrittenEnd) → All (IsIn old) ends → All (IsIn new) ends
  ends_stay ends all = All-weaker (IsIn old) (IsIn new) (λ e h some. tail_stays e.len (h some)) ends all

pub written_stay : {Q : ℕ → List ℕ → Type 0} (old new : List Instruction) (ends : List WrittenEnd)
    → AreWritten old new Q → All (IsIn old) ends → All (IsIn new) ends
written_stay old new ends w all = ends_stay old new w.piece w.splits ends all

-- one more
pub end_kept : (old new : List Instruction) (ends : List WrittenEnd) (at : ℕ) (e : WrittenEnd)
    → e.len ≡ length new → AreWritten old new (EndMeans e.number e.gap)
    → All (IsIn old) ends → All (IsIn new) (set ends at e)
end_kept old new ends at e size w all =
    All-set (IsIn new) ends at e
    (λ some. record { front = []; back = new; splits = refl; size = sym size; ends = w.ends })
    (written_stay old new ends w all)

-- the end that was found
pub known_end : (old : List Instruction) (ends : List WrittenEnd) (at : ℕ) (d : WrittenEnd) (number : ℕ)
    (gap : Gap) → All (IsIn old) ends → at < length ends
    → (1 ≤ (get_or ends at d).len) × ((get_or ends at d).number ≡ number) × ((get_or ends at d).gap ≡ gap)
    → IsTail old (get_or ends at d).len (EndMeans number gap)
known_end old ends at d number gap all lt (some, n, g) =
    let e : WrittenEnd = get_or ends at d in
    subst (λ z. IsTail old e.len (EndMeans number z)) g
    (subst (λ z. IsTail old e.len (EndMeans z e.gap)) n (all at d lt some))
