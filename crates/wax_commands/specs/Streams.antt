-- The streams of a run, and what shows that it failed.
use Rattle.std.specs.{Prelude.{◌≡◌, ◌<◌, ◌⊎◌, ℕ, List, Option, codes}, Io.KnownBytes.Appends}
use Rattle.wax_lines.specs.{Counts.greatest_count, declared.counted.Counted.Counted}
use Rattle.wax_lines.specs.declared.lines.LinesError.{LinesError}
use Rattle.wax_lines.specs.declared.lines.LinesError.TheVariants.{Read, Write, Memory}

-- a reader or a writer: the bytes that are left or held, if it reports them, and its counts
pub record Stream : Type 0 where
  pub bytes : Option (List ℕ)
  pub calls : ℕ
  pub failures : ℕ

-- a reader or a writer by what it reports
abbrev pub stream_of : {T : Type 0} → (T → Option (List ℕ)) → Counted T → Stream
stream_of report s = record { bytes = report s.inner; calls = s.calls; failures = s.failures }

-- the output, and where errors are written
pub record Writers : Type 0 where
  pub output : Stream
  pub faults : Stream

abbrev pub writers : Stream → Stream → Writers
writers output faults = record { output = output; faults = faults }

-- a read failed, or no more reads can be counted
abbrev pub HasFailedRead : Stream → Stream → Type 0
HasFailedRead old new = (old.failures < new.failures) ⊎ (new.calls ≡ greatest_count)

-- a write failed, or no more failures can be counted
abbrev pub HasFailedWrite : Stream → Stream → Type 0
HasFailedWrite old new = (old.failures < new.failures) ⊎ (new.failures ≡ greatest_count)

-- what is written when memory runs out
abbrev pub no_memory_line : List ℕ
no_memory_line = codes "globs: no memory\n"

-- that memory ran out was written, or that write failed
abbrev pub SaysNoMemory : Stream → Stream → Type 0
SaysNoMemory old new = Appends old.bytes new.bytes no_memory_line ⊎ HasFailedWrite old new

-- what shows this error of a filter of lines
abbrev pub IsShown : LinesError → (input input' : Stream) → (old new : Writers) → Type 0
IsShown Read input input' old new = HasFailedRead input input'
IsShown Write input input' old new = HasFailedWrite old.output new.output
IsShown Memory input input' old new = SaysNoMemory old.faults new.faults
