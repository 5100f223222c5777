use Rattle.std.proofs.Common.{◌≡◌, ◌+◌, ◌-◌, ◌<◌, ◌++◌, ◌∷◌, [], ℕ, length, ltb, rules, arith}
use Rattle.wax_token.specs.Cost.{cost}
use Rattle.wax_capture.proofs.{Built.{pieces_more, there}, TokenWays.refused_more}
use Rattle.wax_capture.proofs.build.pieces_of.Goals as goal

pub loop-index-preserved : goal.loop-index-preserved
loop-index-preserved g c =
    let ts = c.args.tokens.now in
    let i : ℕ = c.loop-index.index - 1 in
    let lt : i < length ts = omega (arith, c.loop-index.invariant.within, c.loop-index-test.true) in
    let t = c.index-tokens-index.result in
    let s = there ts i t lt c.index-tokens-index.is in
    let same : c.add_piece.new.pieces.items ≡ c.loop-index.pieces.items ++ c.in-Ok.piece ∷ [] =
    search rules in
    record {
      within = omega (arith, lt);
      pieces =
          rw same (pieces_more ts i c.loop-index.index t (ltb 0 i) c.in-Ok.piece c.loop-index.pieces.items
          (omega (arith, c.loop-index-test.true)) s c.in-Ok.ensures c.loop-index.invariant.pieces);
    }

pub returns-in-Err : goal.returns-in-Err
returns-in-Err g c =
    let ts = c.args.tokens.now in
    let i : ℕ = c.loop-index.index - 1 in
    let t = c.index-tokens-index.result in
    let s = there ts i t (omega (arith, c.loop-index.invariant.within, c.loop-index-test.true))
    c.index-tokens-index.is in
    refused_more c.in-Err.refusal _ _ _ _
    (λ h. let e : 1048576 < cost t + 1 = h in omega (arith, e, s.cheap)) c.in-Err.ensures
