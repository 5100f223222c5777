use Rattle.wax_states.proofs.Listings.{all_lost}
use Rattle.wax_states.proofs.listed_sets.clear_position.Goals as goal

pub remove_all-requires : goal.remove_all-requires
remove_all-requires c = λ k h. c.requires.room k ((c.places.ensures.all k).0 h)

pub returns-clause-read : goal.returns-clause-read
returns-clause-read c =
    all_lost c.args.read.now c.places.result.now c.remove_all.new.set
    (λ k h. (c.places.ensures.all k).1 (c.requires.among k h)) c.remove_all.ensures

pub returns-clause-room : goal.returns-clause-room
returns-clause-room c = c.remove_all.ensures.room
