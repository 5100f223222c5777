use Rattle.std.proofs.{Common.{eqb, w8, arith}, lemmas.Simd.bitmask_splat}
use Rattle.wax_lines.proofs.lines.feed.feeds.Goals as goal

pub returns : goal.returns
returns c = bitmask_splat w8 eqb c.args.bytes 32 10 c.fits-bytes.0 (omega arith)
