use Rattle.std.proofs.Common.{drop, length, chars}
use Rattle.wax_facts.specs.InvariantText.{AllFoldAlone}
use Rattle.wax_facts.proofs.invariant.fold.all_fold_alone.Given as goal

-- where what is left folds alone, all does
abbrev pub invariant-loop-c : goal.invariant-loop-c
invariant-loop-c l = AllFoldAlone (drop (length l.yielded) (chars l.text)) → AllFoldAlone (chars l.text)
