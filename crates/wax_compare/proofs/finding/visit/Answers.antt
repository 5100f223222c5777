use Rattle.std.proofs.Common.{◌≡◌, ◌+◌, ◌∙◌, [], Some, length, slice_get, slice_index, true≢false, refl, sym}
use Rattle.std.proofs.{Common.{subst, arith}, lemmas.Option.slice_get_read}
use Rattle.std.specs.Char.{IsScalar}
use Rattle.wax_compare.specs.{declared.pairs.Reached.Reached, inner.Reaching.{GoesFrom, Readings}}
use Rattle.wax_compare.specs.inner.Searching.{IsNextOrNone, IsNextPair, readings}
use Rattle.wax_compare.specs.inner.Visiting.{Grow, HasPair, IsHeld, IsVisited}
use Rattle.wax_compare.proofs.Pushing.{ends_at, grow_push, held_later, held_push, visited_dead, visited_known}
use Rattle.wax_compare.proofs.{Pushing.{visited_more, visited_new}, Visiting.{search_later, visited_later}}
use Rattle.wax_compare.proofs.finding.visit.Goals as goal

pub returns-in_default-clause-held : goal.returns-in_default-clause-held
returns-in_default-clause-held c =
    let code = c.args.first.now.0 in
    let other = c.args.second.now.0 in
    let old = c.args.search.now in
    let new = c.step.new.self in
    let reached = c.args.pairs.now.reached.items in
    let at = c.args.at in
    let told = c.in_ok-pair.ensures in
    held_later code other old new reached at c.requires.held told.automata told.same told.keeps

pub returns-in_default-clause-keeps : goal.returns-in_default-clause-keeps
returns-in_default-clause-keeps c =
    let code = c.args.first.now.0 in
    let other = c.args.second.now.0 in
    let old = c.args.search.now in
    let new = c.step.new.self in
    let reached = c.args.pairs.now.reached.items in
    let at = c.args.at in
    let told = c.in_ok-pair.ensures in
    λ l v. visited_later (readings code other old) (readings code other new)
    (search_later code other old new told.same told.keeps) reached c.requires.held.pairs at l v

pub returns-then-is_wanted-clause-held : goal.returns-then-is_wanted-clause-held
returns-then-is_wanted-clause-held c =
    let code = c.args.first.now.0 in
    let other = c.args.second.now.0 in
    let old = c.args.search.now in
    let new = c.step.new.self in
    let reached = c.args.pairs.now.reached.items in
    let at = c.args.at in
    let told = c.in_ok-pair.ensures in
    held_later code other old new reached at c.requires.held told.automata told.same told.keeps

pub returns-then-is_wanted-clause-keeps : goal.returns-then-is_wanted-clause-keeps
returns-then-is_wanted-clause-keeps c =
    let code = c.args.first.now.0 in
    let other = c.args.second.now.0 in
    let old = c.args.search.now in
    let new = c.step.new.self in
    let reached = c.args.pairs.now.reached.items in
    let at = c.args.at in
    let told = c.in_ok-pair.ensures in
    λ l v. visited_later (readings code other old) (readings code other new)
    (search_later code other old new told.same told.keeps) reached c.requires.held.pairs at l v

pub returns-then-contains-clause-held : goal.returns-then-contains-clause-held
returns-then-contains-clause-held c =
    let code = c.args.first.now.0 in
    let other = c.args.second.now.0 in
    let old = c.args.search.now in
    let new = c.step.new.self in
    let reached = c.args.pairs.now.reached.items in
    let at = c.args.at in
    let told = c.in_ok-pair.ensures in
    held_later code other old new reached at c.requires.held told.automata told.same told.keeps

pub returns-then-contains-clause-keeps : goal.returns-then-contains-clause-keeps
returns-then-contains-clause-keeps c =
    let code = c.args.first.now.0 in
    let other = c.args.second.now.0 in
    let old = c.args.search.now in
    let new = c.step.new.self in
    let reached = c.args.pairs.now.reached.items in
    let at = c.args.at in
    let told = c.in_ok-pair.ensures in
    λ l v. visited_later (readings code other old) (readings code other new)
    (search_later code other old new told.same told.keeps) reached c.requires.held.pairs at l v

pub returns-in_default-clause-visited : goal.returns-in_default-clause-visited
returns-in_default-clause-visited c =
    let code = c.args.first.now.0 in
    let other = c.args.second.now.0 in
    let old = c.args.search.now in
    let new = c.step.new.self in
    let reached = c.args.pairs.now.reached.items in
    let at = c.args.at in
    let told = c.in_ok-pair.ensures in
    let from = c.index-from.result.now in
    let letter = slice_index old.letters.items c.args.number in
    let at_is : slice_get reached at ≡ Some from =
    slice_get_read reached (length reached) at from refl c.requires.at c.index-from.ensures in
    let r : Readings = readings code other new in
    λ _. visited_dead r reached from at letter at_is
    (subst (IsNextOrNone r letter from.pair) c.in_default.is told.next)

pub returns-then-is_wanted-clause-ends : goal.returns-then-is_wanted-clause-ends
returns-then-is_wanted-clause-ends c =
    let code = c.args.first.now.0 in
    let other = c.args.second.now.0 in
    let old = c.args.search.now in
    let new = c.step.new.self in
    let reached = c.args.pairs.now.reached.items in
    let at = c.args.at in
    let told = c.in_ok-pair.ensures in
    let from = c.index-from.result.now in
    let letter = slice_index old.letters.items c.args.number in
    let at_is : slice_get reached at ≡ Some from =
    slice_get_read reached (length reached) at from refl c.requires.at c.index-from.ensures in
    let r : Readings = readings code other new in
    let pair : IsNextPair r letter from.pair c.in-Some.pair =
    subst (IsNextOrNone r letter from.pair) c.in-Some.is told.next in
    λ _.
    ends_at r reached from at letter at_is c.in-Some.pair pair (c.is_wanted.ensures.0 c.if-is_wanted.true)

pub returns-then-contains-clause-visited : goal.returns-then-contains-clause-visited
returns-then-contains-clause-visited c =
    let code = c.args.first.now.0 in
    let other = c.args.second.now.0 in
    let old = c.args.search.now in
    let new = c.step.new.self in
    let reached = c.args.pairs.now.reached.items in
    let at = c.args.at in
    let told = c.in_ok-pair.ensures in
    let held : IsHeld code other new reached at =
    held_later code other old new reached at c.requires.held told.automata told.same told.keeps in
    let from = c.index-from.result.now in
    let letter = slice_index old.letters.items c.args.number in
    let at_is : slice_get reached at ≡ Some from =
    slice_get_read reached (length reached) at from refl c.requires.at c.index-from.ensures in
    let r : Readings = readings code other new in
    let pair : IsNextPair r letter from.pair c.in-Some.pair =
    subst (IsNextOrNone r letter from.pair) c.in-Some.is told.next in
    λ _. visited_known r reached from at letter at_is c.in-Some.pair pair
    (c.contains.ensures.0 c.if-contains.true) held.shallow

pub returns-clause-held : goal.returns-clause-held
returns-clause-held c =
    let code = c.args.first.now.0 in
    let other = c.args.second.now.0 in
    let old = c.args.search.now in
    let new = c.step.new.self in
    let reached = c.args.pairs.now.reached.items in
    let at = c.args.at in
    let told = c.in_ok-pair.ensures in
    let held : IsHeld code other new reached at =
    held_later code other old new reached at c.requires.held told.automata told.same told.keeps in
    let from = c.index-from.result.now in
    let letter = slice_index old.letters.items c.args.number in
    let at_is : slice_get reached at ≡ Some from =
    slice_get_read reached (length reached) at from refl c.requires.at c.index-from.ensures in
    let r : Readings = readings code other new in
    let pair : IsNextPair r letter from.pair c.in-Some.pair =
    subst (IsNextOrNone r letter from.pair) c.in-Some.is told.next in
    let entry : Reached = record {
      pair = c.in-Some.pair;
      before = at;
      letter = c.args.letter;
      depth = c.saturating_add.result;
    } in
    let deeper : c.saturating_add.result ≡ from.depth + 1 = omega (
      arith,
      c.saturating_add.ensures,
      held.pairs.low at from at_is,
      c.requires.at,
      c.args.pairs.now.reached.small,
      c.args.pairs.now.reached.ok.0,
      c.args.pairs.now.reached.ok.1,
    ) in
    let unwanted : GoesFrom r c.in-Some.pair [] → ⊥ =
    λ h. true≢false (sym (c.is_wanted.ensures.1 h) ∙ c.if-is_wanted.false) in
    let unknown : HasPair reached c.in-Some.pair → ⊥ =
    λ h. true≢false (sym (c.contains.ensures.1 h) ∙ c.if-contains.false) in
    subst (λ z. IsHeld code other new z at) (sym c.in_ok-push.ensures.items)
    (held_push code other new reached at held from at_is letter (subst IsScalar c.requires.letter
    c.ranges.letter.0) entry pair refl c.requires.letter deeper unwanted unknown)

pub returns-clause-grows : goal.returns-clause-grows
returns-clause-grows c =
    let reached = c.args.pairs.now.reached.items in
    let at = c.args.at in
    let entry : Reached = record {
      pair = c.in-Some.pair;
      before = at;
      letter = c.args.letter;
      depth = c.saturating_add.result;
    } in
    subst (Grow reached) (sym c.in_ok-push.ensures.items) (grow_push reached entry)

pub returns-clause-visited : goal.returns-clause-visited
returns-clause-visited c =
    let code = c.args.first.now.0 in
    let other = c.args.second.now.0 in
    let old = c.args.search.now in
    let new = c.step.new.self in
    let reached = c.args.pairs.now.reached.items in
    let at = c.args.at in
    let told = c.in_ok-pair.ensures in
    let held : IsHeld code other new reached at =
    held_later code other old new reached at c.requires.held told.automata told.same told.keeps in
    let from = c.index-from.result.now in
    let letter = slice_index old.letters.items c.args.number in
    let at_is : slice_get reached at ≡ Some from =
    slice_get_read reached (length reached) at from refl c.requires.at c.index-from.ensures in
    let r : Readings = readings code other new in
    let pair : IsNextPair r letter from.pair c.in-Some.pair =
    subst (IsNextOrNone r letter from.pair) c.in-Some.is told.next in
    let entry : Reached = record {
      pair = c.in-Some.pair;
      before = at;
      letter = c.args.letter;
      depth = c.saturating_add.result;
    } in
    let deeper : c.saturating_add.result ≡ from.depth + 1 = omega (
      arith,
      c.saturating_add.ensures,
      held.pairs.low at from at_is,
      c.requires.at,
      c.args.pairs.now.reached.small,
      c.args.pairs.now.reached.ok.0,
      c.args.pairs.now.reached.ok.1,
    ) in
    let unwanted : GoesFrom r c.in-Some.pair [] → ⊥ =
    λ h. true≢false (sym (c.is_wanted.ensures.1 h) ∙ c.if-is_wanted.false) in
    let unknown : HasPair reached c.in-Some.pair → ⊥ =
    λ h. true≢false (sym (c.contains.ensures.1 h) ∙ c.if-contains.false) in
    λ _. subst (λ z. IsVisited r z at letter) (sym c.in_ok-push.ensures.items)
    (visited_new reached entry r from at at_is letter (subst IsScalar c.requires.letter c.ranges.letter.0)
    held.pairs held.shallow pair refl c.requires.letter deeper unwanted unknown)

pub returns-clause-keeps : goal.returns-clause-keeps
returns-clause-keeps c =
    let code = c.args.first.now.0 in
    let other = c.args.second.now.0 in
    let old = c.args.search.now in
    let new = c.step.new.self in
    let reached = c.args.pairs.now.reached.items in
    let at = c.args.at in
    let told = c.in_ok-pair.ensures in
    let entry : Reached = record {
      pair = c.in-Some.pair;
      before = at;
      letter = c.args.letter;
      depth = c.saturating_add.result;
    } in
    let r : Readings = readings code other new in
    λ l v. subst (λ z. IsVisited r z at l) (sym c.in_ok-push.ensures.items)
    (visited_more reached entry r at l c.requires.at (visited_later (readings code other old) r
    (search_later code other old new told.same told.keeps) reached c.requires.held.pairs at l v))
