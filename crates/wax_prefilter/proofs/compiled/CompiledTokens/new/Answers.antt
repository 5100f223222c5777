use Rattle.wax_prefilter.proofs.compiled.CompiledTokens.new.Goals as goal

pub invariant_of-result : goal.invariant_of-result
invariant_of-result c = (
  λ text accepted. c.in_ok-prefilter.ensures text ((c.in_ok-program.ensures.means text).0 accepted),
  c.of-dfa.ensures,
)
