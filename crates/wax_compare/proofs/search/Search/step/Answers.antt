use Rattle.std.proofs.Common.{◌≡◌, slice_index, refl, subst, sym, ap, true≢false, ◌∙◌}
use Rattle.std.proofs.lemmas.List.{get_or_default}
use Rattle.wax_compare.specs.{declared.pairs.StatePair.StatePair, declared.search.Search.Search}
use Rattle.wax_compare.specs.inner.Going.{IsAllowed, begun_after}
use Rattle.wax_compare.specs.{inner.Automata.{LeadsToState, state_places}, inner.Reaching.Readings}
use Rattle.wax_compare.specs.inner.Searching.{readings}
use Rattle.wax_compare.proofs.Searching.{next_first, next_not_allowed, next_pair, next_second, step_here}
use Rattle.wax_compare.proofs.search.Search.step.Goals as goal

pub returns-then-not-is_allowed-clause-next : goal.returns-then-not-is_allowed-clause-next
returns-then-not-is_allowed-clause-next c =
    let old = c.args.self.now in
    let letters = old.letters.items in
    let number = c.args.number in
    let letter = slice_index letters number in
    let r : Readings = readings c.args.first.now.0 c.args.second.now.0 old in
    let is : c.index-letter.result.now ≡ letter = c.index-letter.ensures
    ∙ get_or_default letters number c.index-letter.result.now 0 c.requires.number in
    next_not_allowed r letter c.args.from (λ may. true≢false (sym (c.is_allowed.ensures.1
    (subst (IsAllowed old.texts c.args.from.may_end) (sym is) may)) ∙ c.if-not-is_allowed.true))

pub returns-then-ends_first-clause-next : goal.returns-then-ends_first-clause-next
returns-then-ends_first-clause-next c =
    let code = c.args.first.now.0 in
    let old = c.args.self.now in
    let letters = old.letters.items in
    let number = c.args.number in
    let letter = slice_index letters number in
    let from = c.args.from in
    let new : Search = record {
      wanted = old.wanted;
      texts = old.texts;
      letters = old.letters;
      first = c.follow.new.self;
      second = old.second;
    } in
    let r : Readings = readings code c.args.second.now.0 new in
    let one : LeadsToState code r.firsts (state_places r.firsts from.first) letter c.in_ok-to.to =
    step_here code old.first.states.items r.firsts letters c.deref.result.now number from.first c.in_ok-to.to
    c.in_ok-to.ensures.kept c.requires.first c.deref.ensures.value c.in_ok-to.ensures.step in
    let told = c.ends_first.ensures c.if-ends_first.true in
    next_first r letter from c.in_ok-to.to one told.0 told.1

pub returns-then-ends_second-clause-next : goal.returns-then-ends_second-clause-next
returns-then-ends_second-clause-next c =
    let code = c.args.first.now.0 in
    let other = c.args.second.now.0 in
    let old = c.args.self.now in
    let letters = old.letters.items in
    let number = c.args.number in
    let letter = slice_index letters number in
    let from = c.args.from in
    let new : Search = record {
      wanted = old.wanted;
      texts = old.texts;
      letters = old.letters;
      first = c.follow.new.self;
      second = c.follow-2.new.self;
    } in
    let r : Readings = readings code other new in
    let two : LeadsToState other r.seconds (state_places r.seconds from.second) letter c.in_ok-other.other =
    step_here other old.second.states.items r.seconds letters c.deref-2.result.now number from.second
    c.in_ok-other.other c.in_ok-other.ensures.kept c.requires.second c.deref-2.ensures.value
    c.in_ok-other.ensures.step in
    let told = c.ends_second.ensures c.if-ends_second.true in
    next_second r letter from c.in_ok-other.other two told.0 told.1

pub returns-clause-next : goal.returns-clause-next
returns-clause-next c =
    let code = c.args.first.now.0 in
    let other = c.args.second.now.0 in
    let old = c.args.self.now in
    let letters = old.letters.items in
    let number = c.args.number in
    let letter = slice_index letters number in
    let from = c.args.from in
    let new : Search = record {
      wanted = old.wanted;
      texts = old.texts;
      letters = old.letters;
      first = c.follow.new.self;
      second = c.follow-2.new.self;
    } in
    let r : Readings = readings code other new in
    let one : LeadsToState code r.firsts (state_places r.firsts from.first) letter c.in_ok-to.to =
    step_here code old.first.states.items r.firsts letters c.deref.result.now number from.first c.in_ok-to.to
    c.in_ok-to.ensures.kept c.requires.first c.deref.ensures.value c.in_ok-to.ensures.step in
    let two : LeadsToState other r.seconds (state_places r.seconds from.second) letter c.in_ok-other.other =
    step_here other old.second.states.items r.seconds letters c.deref-2.result.now number from.second
    c.in_ok-other.other c.in_ok-other.ensures.kept c.requires.second c.deref-2.ensures.value
    c.in_ok-other.ensures.step in
    let next : StatePair =
    record { first = c.in_ok-to.to; second = c.in_ok-other.other; may_end = c.begun_after.result } in
    let is : c.index-letter.result.now ≡ letter = c.index-letter.ensures
    ∙ get_or_default letters number c.index-letter.result.now 0 c.requires.number in
    let begun : c.begun_after.result ≡ begun_after old.texts from.may_end letter =
    c.begun_after.ensures ∙ ap (begun_after old.texts from.may_end) is in
    let may : IsAllowed old.texts from.may_end letter =
    subst (IsAllowed old.texts from.may_end) is (c.is_allowed.ensures.0 c.if-not-is_allowed.false) in
    next_pair r letter from c.in_ok-to.to c.in_ok-other.other one two next refl refl begun may
