use Rattle.std.proofs.Common.{◌≡◌, ◌+◌, ◌≤◌, ℕ, List, Some, length, take, drop, slice_get, refl, sym, ◌∙◌}
use Rattle.std.proofs.{Common.{subst, arith, rules}, Math.Nat.mul-le-mul_right}
use Rattle.wax_capture.specs.{Pieces.{forms_of, size_of}, inner.Letters.ArePassed}
use Rattle.wax_capture.specs.{inner.Trials.{HasTaken, IsOpen}, declared.trial.Frame.Frame}
use Rattle.wax_lengths.specs.{Forms.form_size, Spans.looks}
use Rattle.wax_capture.proofs.Choosing.{none_at_all}
use Rattle.wax_capture.proofs.Counting.{reads_fewer, reads_way, size_of_further, size_of_one, size_of_some}
use Rattle.wax_capture.proofs.Trying.{NoneTo, none_passed, open_none, open_takes, opens_next}
use Rattle.wax_lengths.proofs.Lists.{slice_read}
use Rattle.wax_capture.proofs.trial.take_next.Goals as goal

pub returns-then-take_left-clause-taken : goal.returns-then-take_left-clause-taken
returns-then-take_left-clause-taken c = λ ps end o.
    open_takes c.args.piece.now ps (drop c.args.frame.now.at c.args.text.now) c.args.frame.now
    c.take_left.new.frame c.take_left.ensures.opened o (search rules) c.take_left.ensures.narrowed

pub loop-index-init : goal.loop-index-init
loop-index-init c =
    let p = c.args.piece.now in
    let s : List ℕ = drop c.args.frame.now.at c.args.text.now in
    let at : c.take_left.new.frame.at ≡ c.args.frame.now.at = c.take_left.ensures.at in
    record {
      at = at;
      none = λ ps end o. none_passed p ps s c.take_left.new.frame.opened c.next_form-index.result
          (λ j m lt. open_none p ps s c.args.frame.now o c.if-take_left.ensures.taken j m
          (omega (arith, lt, c.take_left.ensures.opened)))
          (subst (λ a. ArePassed (forms_of p.ways) c.take_left.new.frame.opened c.next_form-index.result
          (drop a c.args.text.now)) at c.next_form-index.ensures.passed);
      end = omega (arith, c.take_left.ensures.end, c.take_left.ensures.at, c.requires.end);
      few = λ most old all. omega (arith, old, c.take_left.ensures.looked, c.take_left.ensures.steady);
      above = omega (arith, c.take_left.ensures.looked);
      steady = c.take_left.ensures.steady;
    }

pub returns-in_err-frame-clause-above : goal.returns-in_err-frame-clause-above
returns-in_err-frame-clause-above c =
    let forms = forms_of c.args.piece.now.ways in
    let k : ℕ = c.loop-index.index in
    let old : ℕ = c.args.visits.now + looks c.args.frame.now.span in
    reads_fewer old c.lengths_left.new.visits (size_of (take (k + 1) forms)) (size_of forms)
    (length c.args.text.now + 1) (size_of_some forms (k + 1))
    (reads_way forms k c.index-forms-index.result (search rules)
    (search rules) old c.loop-index.visits c.lengths_left.new.visits
    (length c.args.text.now + 1) c.loop-index.invariant.above c.lengths_left.ensures.above)

pub returns-then-take_left-2-clause-taken : goal.returns-then-take_left-2-clause-taken
returns-then-take_left-2-clause-taken c = λ ps end o.
    let p = c.args.piece.now in
    let text : List ℕ = c.args.text.now in
    let at : ℕ = c.loop-index.frame.at in
    let k : ℕ = c.loop-index.index in
    let form = c.index-forms-index.result in
    let span = c.in_ok-frame.field-0 in
    let f : Frame = record { at = at; n = c.loop-index.frame.n; opened = k + 1; span = span } in
    let new : Frame = c.take_left-in-loop-index.new.frame in
    let same : at ≡ c.args.frame.now.at = c.loop-index.invariant.at in
    let is : slice_get (forms_of p.ways) k ≡ Some form =
    slice_read (forms_of p.ways) k form (search rules) (search rules) in
    let none : NoneTo p ps (drop at text) k =
    subst (λ a. NoneTo p ps (drop a text) k) (sym same) (c.loop-index.invariant.none ps end o) in
    let starts : IsOpen p ps (drop at text) f =
    opens_next p ps (drop at text) c.args.is_last end f k form refl none is c.in_ok-frame.ensures.left in
    let takes : HasTaken p ps (drop at text) new =
    open_takes p ps (drop at text) f new c.take_left-in-loop-index.ensures.opened starts
    c.if-take_left-2.ensures.taken c.take_left-in-loop-index.ensures.narrowed in
    subst (λ a. HasTaken p ps (drop a text) new) same takes

pub returns-then-take_left-2-clause-few : goal.returns-then-take_left-2-clause-few
returns-then-take_left-2-clause-few c = λ most old all.
    let forms = forms_of c.args.piece.now.ways in
    let form = c.index-forms-index.result in
    let one : form_size form ≤ size_of forms =
    size_of_one forms c.loop-index.index form (search rules) (search rules) in
    omega (
      arith,
      all,
      c.take_left-in-loop-index.ensures.looked,
      c.take_left-in-loop-index.ensures.steady,
      c.in_ok-frame.ensures.looked,
      c.lengths_left.ensures.steady,
      mul-le-mul_right (length c.args.text.now + 1) one,
    )

pub returns-then-take_left-2-clause-above : goal.returns-then-take_left-2-clause-above
returns-then-take_left-2-clause-above c =
    let forms = forms_of c.args.piece.now.ways in
    let k : ℕ = c.loop-index.index in
    let old : ℕ = c.args.visits.now + looks c.args.frame.now.span in
    let new : ℕ = c.take_left-in-loop-index.new.visits in
    reads_fewer old new (size_of (take (k + 1) forms)) (size_of forms) (length c.args.text.now + 1)
    (size_of_some forms (k + 1))
    (reads_way forms k c.index-forms-index.result (search rules) (search rules) old c.loop-index.visits new
    (length c.args.text.now + 1) c.loop-index.invariant.above
    (omega (arith, c.take_left-in-loop-index.ensures.looked, c.in_ok-frame.ensures.looked)))

pub loop-index-preserved : goal.loop-index-preserved
loop-index-preserved c =
    let p = c.args.piece.now in
    let forms = forms_of p.ways in
    let text : List ℕ = c.args.text.now in
    let at : ℕ = c.loop-index.frame.at in
    let k : ℕ = c.loop-index.index in
    let form = c.index-forms-index.result in
    let span = c.in_ok-frame.field-0 in
    let f : Frame = record { at = at; n = c.loop-index.frame.n; opened = k + 1; span = span } in
    let same : at ≡ c.args.frame.now.at = c.loop-index.invariant.at in
    let is : slice_get forms k ≡ Some form = slice_read forms k form (search rules) (search rules) in
    let one : form_size form ≤ size_of forms = size_of_one forms k form (search rules) (search rules) in
    let before = c.args.visits.now + looks c.args.frame.now.span in
    let new : ℕ = c.take_left-in-loop-index.new.visits in
    let forms_from : size_of (take (k + 1) forms)
    ≤ size_of (take c.next_form-index-in-loop-index.result forms) =
    size_of_further forms (k + 1) c.next_form-index-in-loop-index.result (omega
    (arith, c.next_form-index-in-loop-index.ensures.further, c.take_left-in-loop-index.ensures.opened)) in
    let then_at : c.take_left-in-loop-index.new.frame.at ≡ c.args.frame.now.at =
    c.take_left-in-loop-index.ensures.at ∙ same in
    let opened : c.take_left-in-loop-index.new.frame.opened ≡ k + 1 =
    c.take_left-in-loop-index.ensures.opened in
    record {
      at = then_at;
      none = λ ps end o.
          let none : NoneTo p ps (drop at text) k =
          subst (λ a. NoneTo p ps (drop a text) k) (sym same) (c.loop-index.invariant.none ps end o) in
          let starts : IsOpen p ps (drop at text) f = opens_next p ps (drop at text) c.args.is_last end f k
          form refl none is c.in_ok-frame.ensures.left in
          none_passed p ps (drop c.args.frame.now.at text) (k + 1) c.next_form-index-in-loop-index.result
          (subst (λ a. NoneTo p ps (drop a text) (k + 1)) same
          (open_none p ps (drop at text) f starts c.if-take_left-2.ensures.taken))
          (subst (λ n. ArePassed forms n c.next_form-index-in-loop-index.result
          (drop c.args.frame.now.at text)) opened
          (subst (λ a. ArePassed forms c.take_left-in-loop-index.new.frame.opened
          c.next_form-index-in-loop-index.result (drop a text)) then_at
          c.next_form-index-in-loop-index.ensures.passed));
      end = omega (
        arith,
        c.take_left-in-loop-index.ensures.end,
        c.take_left-in-loop-index.ensures.at,
        c.in_ok-frame.ensures.end,
      );
      few = λ most old all. omega (
        arith,
        all,
        c.take_left-in-loop-index.ensures.looked,
        c.take_left-in-loop-index.ensures.steady,
        c.in_ok-frame.ensures.looked,
        c.lengths_left.ensures.steady,
        mul-le-mul_right (length text + 1) one,
      );
      above = reads_fewer before new (size_of (take (k + 1) forms))
          (size_of (take c.next_form-index-in-loop-index.result forms)) (length text + 1) forms_from
          (reads_way forms k form (search rules) (search rules) before c.loop-index.visits new
          (length text + 1) c.loop-index.invariant.above
          (omega (arith, c.take_left-in-loop-index.ensures.looked, c.in_ok-frame.ensures.looked)));
      steady = omega (
        arith,
        c.loop-index.invariant.steady,
        c.lengths_left.ensures.steady,
        c.take_left-in-loop-index.ensures.steady,
      );
    }

pub returns-clause-taken : goal.returns-clause-taken
returns-clause-taken c = λ ps end o. none_at_all c.args.piece.now ps (drop c.args.frame.now.at
    c.args.text.now) c.loop-index.index (search rules) (c.loop-index.invariant.none ps end o)

pub returns-clause-end : goal.returns-clause-end
returns-clause-end c = c.loop-index.invariant.end

pub returns-clause-few : goal.returns-clause-few
returns-clause-few c = c.loop-index.invariant.few
