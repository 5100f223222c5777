use Rattle.wax_exclude.proofs.{Feeding.{feeds_by_rules, feeds_by_walk}, Telling.opens_listed}
use Rattle.wax_exclude.specs.GlobRequests.{walk_for}
use Rattle.wax_exclude.proofs.laws.law_of_feeds.Goals as goal

pub returns : goal.returns
returns c = record {
  rules = feeds_by_rules;
  walks = feeds_by_walk;
  requests = λ request s. feeds_by_walk (walk_for request) s;
  opens = opens_listed;
}
