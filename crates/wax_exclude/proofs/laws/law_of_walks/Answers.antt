use Rattle.std.proofs.Common.{inl, inr}
use Rattle.wax_exclude.proofs.{Empty.{none_in_range, none_meant}, Exactly.lists_exactly, Goes.goes_tests}
use Rattle.wax_exclude.proofs.{Headline.{gives_wanted, lists_few}, Opening.{gives_least, wants_none}}
use Rattle.wax_prefilter.specs.Below.{goes_test}
use Rattle.wax_exclude.proofs.laws.law_of_walks.Goals as goal

pub returns : goal.returns
returns c = record {
  gives = λ w asked walked origin s can plain distinct fits.
      gives_wanted w asked walked origin can s plain distinct fits;
  lists = λ w asked walked origin s can plain. lists_few w asked walked origin can s plain;
  nothing = λ w asked origin s plain start h. elim h [
    | inl f ↦
        let can = f.1 in none_in_range w asked origin s plain start f.0 can.greatest can.begins can.plain f.2
    | inr n ↦ none_meant w asked origin s plain start n
  ];
  gives_least = λ w asked walked origin s can plain distinct fits.
      gives_least w (goes_test w.glob) (goes_tests w.rooted w.glob) asked walked origin can
      s plain distinct fits;
  lists_exactly = λ w asked walked origin s can plain.
      lists_exactly w (goes_test w.glob) (goes_tests w.rooted w.glob) asked walked origin can s plain;
  least_nothing = λ w asked walked origin s can plain beyond.
      wants_none w (goes_test w.glob) (goes_tests w.rooted w.glob) asked walked origin can s plain beyond;
}
