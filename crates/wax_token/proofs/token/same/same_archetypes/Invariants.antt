use Rattle.std.proofs.Common.{◌≡◌, drop, length}
use Rattle.wax_token.proofs.token.same.same_archetypes.Given as goal

-- the archetypes are the same where those that are left are
abbrev pub invariant-loop-index : goal.invariant-loop-index
invariant-loop-index l = record {
  count : length l.archetypes ≡ length l.others;
  left : drop l.index l.archetypes ≡ drop l.index l.others → l.archetypes ≡ l.others;
}
