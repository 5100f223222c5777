-- The line that decides, by its index.
use Rattle.std.proofs.Common.{◌∙◌, ◌↔◌, ℕ, false, List, Option, Some, None, ap, arith, refl, sym}
use Rattle.wax_exclude.proofs.IdleLaw.{all_stay, last_decides, none, unmatched}
use Rattle.wax_exclude.specs.Deciding.{DecidingLineDecides, IsDecidingLine, SaysLines, ignores_if}
use Rattle.wax_exclude.specs.{Idle.LineMeans, Ignored.Line}
use Rattle.wax_lazy.specs.Numbers.{IsLastNumber, IsLastWhere}
use Rattle.wax_program.specs.declared.instruction.Instruction.{Instruction}
use Rattle.wax_token.specs.Reads.{Span}

-- the last number with a fact is the last one with another fact that the same numbers have
last_as : (Q R : ℕ → Type 0) → ((k : ℕ) → Q k ↔ R k) → (found : Option ℕ) → IsLastWhere Q found
    → IsLastWhere R found
last_as Q R f None h = λ k r. h k ((f k).1 r)
last_as Q R f (Some last) h = ((f last).0 h.0, (λ k r. h.1 k ((f k).1 r)))

-- the last number with which a program that says the lines accepts a text is that of the deciding line
pub deciding_by : (lines : List (Line Span)) (code : List Instruction) (s : List ℕ) (found : Option ℕ)
    → SaysLines lines code → IsLastNumber code s found → IsDecidingLine lines s found
deciding_by lines code s found says last =
    last_as _ (λ index. LineMeans lines index s) (λ index. says index s) found last

pub deciding_line_decides : DecidingLineDecides
deciding_line_decides lines s None h = sym (all_stay s lines) ∙ unmatched s lines (none s) false h
deciding_line_decides lines s (Some last) h =
    sym (all_stay s lines)
    ∙ last_decides s lines (none s) last false h.0 refl (λ later lt m. omega (arith, lt, h.1 later m))
    ∙ sym (ap ignores_if h.0.is)
