use Rattle.std.proofs.Common.{◌≡◌, map, take}
use Rattle.unicode.specs.CaseFolding.{simple_fold}
use Rattle.wax_capture.proofs.leaves.folded.Given as goal

abbrev pub invariant-loop-c : goal.invariant-loop-c
invariant-loop-c l = l.letters.items ≡ map simple_fold (take l.c-index l.characters)
