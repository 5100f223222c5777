use Rattle.std.proofs.{Common.{◌↔◌, ◌⊎◌, ℕ, arith, drop, inl, inr, subst, sym, ◌+◌}, lemmas.List.drop_all}
use Rattle.std.specs.{List.Sorted.IsStrictlyIncreasing, List.Contains}
use Rattle.wax_lazy.proofs.Merging.{AreMerged, merged_all, merged_ascends, merged_none, step_both, step_left}
use Rattle.wax_lazy.proofs.Merging.{rest_added, step_right}
use Rattle.wax_lazy.proofs.numbers.merge.Goals.{then-loop-i-test+else-j-other, else-loop-i-test}
use Rattle.wax_lazy.proofs.numbers.merge.Goals as goal

pub loop-i-init : goal.loop-i-init
loop-i-init c = record {
  i = omega arith;
  j = omega arith;
  are = subst (λ z. AreMerged c.args.one.now c.args.other.now z c.args.one.now c.args.other.now)
      (sym c.clear.ensures.items)
      (merged_none c.args.one.now c.args.other.now c.requires.one c.requires.other);
}

pub loop-i-preserved-then-left-right : goal.loop-i-preserved-then-left-right
loop-i-preserved-then-left-right c =
    let l = c.loop-i in
    let one = c.args.one.now in
    let other = c.args.other.now in
    record {
      i = omega (arith, c.loop-i-test.true);
      j = l.invariant.j;
      are = subst (λ z. AreMerged one other z (drop (l.i + 1) one) (drop l.j other))
          (sym c.in_ok-push.ensures.items)
          (step_left one other l.merged.items l.i l.j c.loop-i-test.true c.if-j-other.true l.invariant.are
          c.if-left-right.true);
    }

pub loop-i-preserved-then-right-left : goal.loop-i-preserved-then-right-left
loop-i-preserved-then-right-left c =
    let l = c.loop-i in
    let one = c.args.one.now in
    let other = c.args.other.now in
    record {
      i = l.invariant.i;
      j = omega (arith, c.if-j-other.true);
      are = subst (λ z. AreMerged one other z (drop l.i one) (drop (l.j + 1) other))
          (sym c.in_ok-push-2.ensures.items)
          (step_right one other l.merged.items l.i l.j c.loop-i-test.true c.if-j-other.true l.invariant.are
          c.if-right-left.true);
    }

pub loop-i-preserved : goal.loop-i-preserved
loop-i-preserved c =
    let l = c.loop-i in
    let one = c.args.one.now in
    let other = c.args.other.now in
    record {
      i = omega (arith, c.loop-i-test.true);
      j = omega (arith, c.if-j-other.true);
      are = subst (λ z. AreMerged one other z (drop (l.i + 1) one) (drop (l.j + 1) other))
          (sym c.in_ok-push-3.ensures.items)
          (step_both one other l.merged.items l.i l.j c.loop-i-test.true c.if-j-other.true l.invariant.are
          (omega (arith, c.if-left-right.false, c.if-right-left.false)));
    }

pub returns-clause-all : goal.returns-clause-all
returns-clause-all c =
    let l = c.loop-i in
    let one = c.args.one.now in
    let other = c.args.other.now in
    let is = rest_added one other l.merged.items c.extend_from_slice.new.self.items
    c.extend_from_slice-2.new.self.items l.i l.j c.in_ok-extend_from_slice.ensures.items
    c.in_ok-extend_from_slice-2.ensures.items in
    subst (λ z. (n : ℕ) → Contains z n ↔ (Contains one n ⊎ Contains other n)) (sym is)
    (merged_all one other l.merged.items (drop l.i one) (drop l.j other) l.invariant.are)

pub returns-clause-ascending : goal.returns-clause-ascending
returns-clause-ascending c =
    let l = c.loop-i in
    let one = c.args.one.now in
    let other = c.args.other.now in
    let is = rest_added one other l.merged.items c.extend_from_slice.new.self.items
    c.extend_from_slice-2.new.self.items l.i l.j c.in_ok-extend_from_slice.ensures.items
    c.in_ok-extend_from_slice-2.ensures.items in
    subst IsStrictlyIncreasing (sym is)
    (merged_ascends one other l.merged.items (drop l.i one) (drop l.j other) l.invariant.are
    (elim c.loop-i-test.branch [
      | then-loop-i-test+else-j-other w ↦ inr (drop_all l.j other (omega (arith, w.if-j-other)))
      | else-loop-i-test w ↦ inl (drop_all l.i one (omega (arith, w.loop-i-test)))
    ]))
