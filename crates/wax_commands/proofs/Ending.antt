-- How runs of `match` and `captures` end at an error.
use Rattle.std.proofs.Common.{◌≡◌, ◌≢◌, refl}
use Rattle.wax_lines.specs.declared.lines.LinesError.{LinesError}
use Rattle.wax_lines.specs.declared.lines.LinesError.TheVariants.{Read, Write, Memory}
use Rattle.wax_commands.specs.Streams.{HasFailedRead, HasFailedWrite, IsShown, Stream, Writers}

-- an error other than that memory ran out is shown by the counts
pub shown_by_counts : (error : LinesError) (input input' : Stream) (old new : Writers) → error ≢ Memory
    → (error ≡ Read → HasFailedRead input input') → (error ≡ Write → HasFailedWrite old.output new.output)
    → IsShown error input input' old new
shown_by_counts Read input input' old new n r w = r refl
shown_by_counts Write input input' old new n r w = w refl
shown_by_counts Memory input input' old new n r w = absurd (n refl)
