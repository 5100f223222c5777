use Rattle.std.proofs.{Common.{eqb, w8, arith}, lemmas.Simd.bitmask_splat}
use Rattle.wax_prefilter.proofs.pair.zeros.Goals as goal

pub returns : goal.returns
returns c = bitmask_splat w8 eqb c.args.lanes 32 0 c.fits-lanes.0 (omega arith)
