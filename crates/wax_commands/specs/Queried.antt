-- How a run of `query` can end.
use Rattle.std.specs.{Prelude.{◌≡◌, ℕ, List, chars}, Io.KnownBytes.Appends}
use Rattle.wax.specs.{Headline.IsGlob, GlobView.GlobView}
use Rattle.wax_lines.specs.Written.{WritesPart}
use Rattle.wax_commands.specs.{QueryText.{AreFactsOf, QueryFacts, query_text}, Refused.IsRefused}
use Rattle.wax_commands.specs.Streams.{HasFailedWrite, SaysNoMemory, Writers}

-- The query of the expression e was run, with the writers `old` before and `new` after.
pub data QueryEnds (e : List ℕ) (old new : Writers) (status : ℕ) : Type 0 where
  -- the facts of the glob were written
  done : (g : GlobView) (facts : QueryFacts) → IsGlob (chars e) g → AreFactsOf g facts
      → Appends old.output.bytes new.output.bytes (query_text facts) → status ≡ 0 → QueryEnds e old new status
  -- a prefix of that was written, and then a write failed
  stopped : (g : GlobView) (facts : QueryFacts) → IsGlob (chars e) g → AreFactsOf g facts
      → WritesPart old.output.bytes new.output.bytes (query_text facts)
      → HasFailedWrite old.output new.output → status ≡ 1 → QueryEnds e old new status
  -- the expression has an error, and nothing was written
  refused : IsRefused e → new.output ≡ old.output → status ≡ 1 → QueryEnds e old new status
  -- memory ran out before anything was written
  lacks_memory : SaysNoMemory old.faults new.faults → new.output ≡ old.output → status ≡ 1
      → QueryEnds e old new status
