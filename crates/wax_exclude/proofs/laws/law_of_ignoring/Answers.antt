use Rattle.wax_exclude.proofs.{Keeping.gives_unignored, Losing.loses_ignored}
use Rattle.wax_exclude.proofs.laws.law_of_ignoring.Goals as goal

pub returns : goal.returns
returns c = record {
  gives = λ lines range start s plain. gives_unignored lines range start s plain;
  lists = λ lines range start s plain. loses_ignored lines range start s plain;
}
