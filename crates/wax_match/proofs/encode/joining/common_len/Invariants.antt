use Rattle.wax_match.proofs.encode.joining.common_len.Given as goal

abbrev pub decreases-loop-len : goal.decreases-loop-len
decreases-loop-len l = l.len
