use Rattle.std.proofs.Common.{◌≡◌, ◌+◌, ◌≤◌, ◌∙◌, ℕ, arith, ap, sym}
use Rattle.wax_program.specs.{Steady.ActsAlike, Places.{HoldsPlace, member_count}}
use Rattle.wax_program.specs.Threads.{Followed, IsDone, Round, Taken}
use Rattle.wax_program.proofs.{Advancing.{read_one, round_start, round_step, round_end}, Members.members_none}
use Rattle.wax_program.proofs.Staying.{round_known, watched_step}
use Rattle.wax_program.proofs.rounds.advance.Goals as goal

pub loop-at-init : goal.loop-at-init
loop-at-init g c = record {
  size = c.requires.size;
  round = round_start c.args.program.now.0 c.args.c (g.R.Sets.position c.args.sets.now)
      c.requires.read c.requires.next;
  visits = omega
      (arith, c.new-visits.ensures, members_none (g.R.Sets.position c.args.sets.now).read c.requires.read);
  watched = λ x h. absurd (c.requires.read x h);
  few = omega arith;
}

pub loop-at-preserved : goal.loop-at-preserved
loop-at-preserved g c =
    let p = g.R.Sets.position c.loop-at.sets in
    let q = g.R.Sets.position c.take.new.self in
    let r = g.R.Sets.position c.follow.new.sets in
    let t : Taken p q c.in-Some.at = c.in-Some.ensures.taken in
    let f : Followed c.args.program.now.0 c.args.c c.in-Some.at q r = c.follow.ensures.followed in
    let n : member_count r.read ≡ member_count p.read + 1 = ap member_count f.read ∙ t.counted in
    let same : member_count q.read ≡ member_count r.read = sym (ap member_count f.read) in
    record {
      size = f.size ∙ t.size ∙ c.loop-at.invariant.size;
      round = round_step c.args.program.now.0 c.args.c (g.R.Sets.position c.args.sets.now).pending p q r
          c.in-Some.at t f c.loop-at.invariant.round;
      visits = omega (arith, n, c.loop-at.invariant.visits, c.follow.ensures.ticked);
      watched = watched_step c.args.program.now.0 c.args.c c.in-Some.at p q r c.loop-at.watch
          c.follow.new.watch t f c.follow.ensures.noted c.loop-at.invariant.watched;
      few = omega (
        arith,
        n,
        same,
        c.loop-at.invariant.visits,
        c.follow.ensures.ticked,
        c.take.ensures.few,
        t.size,
        c.loop-at.invariant.size,
      );
    }

pub returns-clause-advances : goal.returns-clause-advances
returns-clause-advances g c =
    let p = g.R.Sets.position c.loop-at.sets in
    let q = g.R.Sets.position c.take.new.self in
    let same : q ≡ p = c.in_default.ensures.taken.0 in
    let done : IsDone q = c.in_default.ensures.taken.1 in
    let round : Round c.args.program.now.0 c.args.c (g.R.Sets.position c.args.sets.now).pending q =
    rw same c.loop-at.invariant.round in
    round_end c.args.program.now.0 c.args.c (g.R.Sets.position c.args.sets.now).pending q
    (ap (λ p. p.size) same ∙ c.loop-at.invariant.size) done round

pub returns-clause-below : goal.returns-clause-below
returns-clause-below g c = λ k h lt.
    let p = g.R.Sets.position c.loop-at.sets in
    let q = g.R.Sets.position c.take.new.self in
    let same : q ≡ p = c.in_default.ensures.taken.0 in
    let done : IsDone q = c.in_default.ensures.taken.1 in
    let round : Round c.args.program.now.0 c.args.c (g.R.Sets.position c.args.sets.now).pending q =
    rw same c.loop-at.invariant.round in
    let some : 1 ≤ member_count q.read =
    read_one c.args.program.now.0 c.args.c (g.R.Sets.position c.args.sets.now).pending q
    (ap (λ p. p.size) same ∙ c.loop-at.invariant.size) done round k h lt in
    omega (arith, some, ap (λ p. member_count p.read) same, c.loop-at.invariant.visits, c.add.ensures.counted)

pub returns-clause-known : goal.returns-clause-known
returns-clause-known g c =
    let p = g.R.Sets.position c.loop-at.sets in
    let q = g.R.Sets.position c.take.new.self in
    let same : q ≡ p = c.in_default.ensures.taken.0 in
    let done : IsDone q = c.in_default.ensures.taken.1 in
    let round : Round c.args.program.now.0 c.args.c (g.R.Sets.position c.args.sets.now).pending q =
    rw same c.loop-at.invariant.round in
    let watched : (x : ℕ) → HoldsPlace q.read x → ActsAlike c.args.program.now.0 c.args.c c.loop-at.watch x =
    rw same c.loop-at.invariant.watched in
    round_known c.args.program.now.0 c.args.c (g.R.Sets.position c.args.sets.now).pending q
    (ap (λ p. p.size) same ∙ c.loop-at.invariant.size) done round
    c.loop-at.watch watched c.word-here.result c.word-here.ensures c.steady_set.result c.steady_set.ensures
