use Rattle.std.proofs.Common.{ℕ, ◌≡◌, ◌<◌, IsTrue, Some, length, slice_get, slice_index, refl, sym, ap, subst}
use Rattle.std.proofs.{Common.arith, lemmas.Option.slice_get_read}
use Rattle.wax_compare.specs.{inner.Reaching.Readings, Limit.ReachesMore}
use Rattle.wax_compare.specs.inner.Searching.{IsUndistinguished, readings}
use Rattle.wax_compare.specs.inner.Visiting.{EndsAt, IsVisited}
use Rattle.wax_compare.proofs.{Exceeding.reaches_more, Following.{grown_within, held_next, same_on}}
use Rattle.wax_compare.proofs.Undistinguished.{letters_alike, stays_undistinguished, visited_alike}
use Rattle.wax_compare.proofs.Undistinguished.{visited_more_letters}
use Rattle.wax_compare.proofs.finding.follow.Goals.{else-has_alike-2, then-has_alike-2}
use Rattle.wax_compare.proofs.finding.follow.Goals as goal

pub is_undistinguished-is_alike-requires-clause-first : goal.is_undistinguished-is_alike-requires-clause-first
is_undistinguished-is_alike-requires-clause-first c =
    let x = c.index.result.now in
    let reached = c.args.pairs.now.reached.items in
    let is : slice_get c.loop-number.pairs.reached.items c.args.at ≡ Some x =
    c.loop-number.invariant.grows c.args.at x
    (slice_get_read reached (length reached) c.args.at x refl c.requires.at c.index.ensures) in
    (c.loop-number.invariant.held.pairs.placed c.args.at x is).0

pub is_undistinguished-is_alike-requires-clause-second :
    goal.is_undistinguished-is_alike-requires-clause-second
is_undistinguished-is_alike-requires-clause-second c =
    let x = c.index.result.now in
    let reached = c.args.pairs.now.reached.items in
    let is : slice_get c.loop-number.pairs.reached.items c.args.at ≡ Some x =
    c.loop-number.invariant.grows c.args.at x
    (slice_get_read reached (length reached) c.args.at x refl c.requires.at c.index.ensures) in
    (c.loop-number.invariant.held.pairs.placed c.args.at x is).1

pub loop-number-preserved-then-has_alike : goal.loop-number-preserved-then-has_alike
loop-number-preserved-then-has_alike c =
    let code = c.args.first.now.0 in
    let other = c.args.second.now.0 in
    let s = c.loop-number.search in
    let inv = c.loop-number.invariant in
    let x = c.index.result.now in
    let number = c.loop-number.number in
    let reached = c.args.pairs.now.reached.items in
    let is : slice_get c.loop-number.pairs.reached.items c.args.at ≡ Some x = inv.grows c.args.at x
    (slice_get_read reached (length reached) c.args.at x refl c.requires.at c.index.ensures) in
    let placed = inv.held.pairs.placed c.args.at x is in
    let known = inv.alike c.if-has_alike.true in
    let alike : IsUndistinguished s x.pair number =
    c.is_undistinguished-is_alike.ensures c.if-is_alike.true in
    let within : number < length s.letters.items = subst (λ v. number < length v.items) (sym inv.same.letters)
    (omega (arith, c.loop-number-test.true, c.len-number-end.ensures, c.args.search.now.letters.ok.0)) in
    let r : Readings = readings code other s in
    let letters = s.letters.items in
    let now : IsVisited r c.loop-number.pairs.reached.items c.args.at (slice_index letters number) =
    visited_alike r c.loop-number.pairs.reached.items c.args.at x is (slice_index letters known.0)
    (slice_index letters number)
    (letters_alike code other s x.pair inv.held.automata placed.0 placed.1 number known.0 within
    (omega (arith, known.1, within)) alike known.2) (inv.visited known.0 known.1) in
    record {
      held = inv.held;
      known = inv.known;
      grows = inv.grows;
      same = inv.same;
      visited =
          visited_more_letters r c.loop-number.pairs.reached.items c.args.at number letters inv.visited now;
      alike = λ _. (known.0, omega (arith, known.1), known.2);
    }

pub returns-then-branch-clause-followed : goal.returns-then-branch-clause-followed
returns-then-branch-clause-followed c =
    let told = c.in_ok-visit.ensures in
    let new = c.visit.new.search in
    let r : Readings = readings c.args.first.now.0 c.args.second.now.0 new in
    let number = c.loop-number.number in
    let inv = c.loop-number.invariant in
    let at_within : c.args.at < length c.loop-number.pairs.reached.items = grown_within
    c.args.pairs.now.reached.items c.loop-number.pairs.reached.items c.args.at inv.grows c.requires.at in
    let within : number < length new.letters.items =
    subst (λ v. number < length v.items) (sym told.same.letters)
    (subst (λ v. number < length v.items) (sym inv.same.letters)
    (omega (arith, c.loop-number-test.true, c.len-number-end.ensures, c.args.search.now.letters.ok.0))) in
    let ends : EndsAt r c.visit.new.pairs.reached.items c.args.at (slice_index new.letters.items number) =
    subst (λ v. EndsAt r c.visit.new.pairs.reached.items c.args.at (slice_index v.items number))
    (sym told.same.letters) (told.ends c.if-branch.true) in (
      told.held,
      grown_within c.loop-number.pairs.reached.items c.visit.new.pairs.reached.items c.args.at
          told.grows at_within,
      within,
      ends,
    )

pub loop-number-preserved : goal.loop-number-preserved
loop-number-preserved c =
    let told = c.in_ok-visit.ensures in
    let old = c.loop-number.search in
    let new = c.visit.new.search in
    let r : Readings = readings c.args.first.now.0 c.args.second.now.0 new in
    let pairs = c.visit.new.pairs.reached.items in
    let number = c.loop-number.number in
    let inv = c.loop-number.invariant in
    let x = c.index.result.now in
    let reached = c.args.pairs.now.reached.items in
    let is : slice_get c.loop-number.pairs.reached.items c.args.at ≡ Some x = inv.grows c.args.at x
    (slice_get_read reached (length reached) c.args.at x refl c.requires.at c.index.ensures) in
    let placed = inv.held.pairs.placed c.args.at x is in
    let later : (k : ℕ) → IsUndistinguished old x.pair k → IsUndistinguished new x.pair k =
    λ k h. stays_undistinguished old new x.pair k told.same told.states placed.0 placed.1 h in
    record {
      held = told.held;
      known = told.known;
      grows = λ i y h. told.grows i y (inv.grows i y h);
      same = same_on c.args.search.now old new inv.same told.same;
      visited = visited_more_letters r pairs c.args.at number new.letters.items
          (λ k lt. subst (λ v. IsVisited r pairs c.args.at (slice_index v.items k)) (sym told.same.letters)
          (told.keeps (slice_index old.letters.items k) (inv.visited k lt)))
          (subst (λ v. IsVisited r pairs c.args.at (slice_index v.items number)) (sym told.same.letters)
          (told.visited c.if-branch.false));
      alike = elim c.if-has_alike-2.branch [
        | then-has_alike-2 w ↦ (λ _. let known = inv.alike w.if-has_alike-2.true in
            (known.0, omega (arith, known.1), later known.0 known.2))
        | else-has_alike-2 w ↦ (λ h. (
          number,
          omega arith,
          later number (c.is_undistinguished-is_alike.ensures (subst IsTrue w.has_alike-is h)),
        ))
      ];
    }

pub returns-clause-followed : goal.returns-clause-followed
returns-clause-followed c = held_next c.args.first.now.0 c.args.second.now.0 c.loop-number.search
    c.loop-number.pairs.reached.items c.args.at c.loop-number.invariant.held
    (λ k lt. c.loop-number.invariant.visited k (omega (
      arith,
      lt,
      ap (λ v. length v.items) c.loop-number.invariant.same.letters,
      c.loop-number-test.false,
      c.len-number-end.ensures,
      c.args.search.now.letters.ok.0,
    )))

pub returns-then-is_over-clause-over : goal.returns-then-is_over-clause-over
returns-then-is_over-clause-over c = λ _.
    let code = c.args.first.now.0 in
    let other = c.args.second.now.0 in
    let s = c.loop-number.search in
    let inv = c.loop-number.invariant in
    subst (λ k. ReachesMore code other k c.args.most_states) inv.same.texts
    (reaches_more code other s c.loop-number.pairs.reached.items c.args.at inv.held c.args.most_states
    (c.is_over.ensures c.if-is_over.true))
