use Rattle.std.proofs.{Common.{◌∙◌, true≢false, refl, sym, arith}, lemmas.Option.slice_get-get_or}
use Rattle.wax_states.proofs.Listings.{read_more}
use Rattle.wax_states.proofs.listed_sets.first_unread.Goals.{else-at-size-via-then-at-size+else-not-contains}
use Rattle.wax_states.proofs.listed_sets.first_unread.Goals.{else-at-size-via-else-at-size}
use Rattle.wax_states.proofs.listed_sets.first_unread.Goals as goal

pub loop-index-init : goal.loop-index-init
loop-index-init c = λ j k low lt. absurd (omega (arith, low, lt))

pub returns-then-not-contains : goal.returns-then-not-contains
returns-then-not-contains c = record {
  index = c.loop-index.index;
  next_is = refl;
  before = c.loop-index.invariant;
  is = slice_get-get_or c.args.places.now c.loop-index.index 0 c.loop-index-test.true;
  below = c.if-at-size.true;
  fresh = λ h. true≢false (sym h ∙ sym c.if-not-contains.ensures);
}

pub loop-index-preserved : goal.loop-index-preserved
loop-index-preserved c = elim c.else-at-size.branch [
  | else-at-size-via-then-at-size+else-not-contains w ↦
      read_more c.args.places.now c.args.from c.loop-index.index c.args.size c.args.read.now
      c.loop-index-test.true (λ small. sym w.if-not-contains.ensures) c.loop-index.invariant
  | else-at-size-via-else-at-size w ↦
      read_more c.args.places.now c.args.from c.loop-index.index c.args.size c.args.read.now
      c.loop-index-test.true (λ small. absurd (omega (arith, small, w.if-at-size.false)))
      c.loop-index.invariant
]

pub returns : goal.returns
returns c = λ j k low lt is small.
    c.loop-index.invariant j k low (omega (arith, lt, c.loop-index-test.false)) is small
