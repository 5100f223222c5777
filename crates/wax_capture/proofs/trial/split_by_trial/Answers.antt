use Rattle.std.proofs.Common.{◌≡◌, ◌+◌, ◌*◌, ◌≤◌, ℕ, List, [], ◌∷◌, ◌++◌, length, drop, drop-drop, ap, sym}
use Rattle.std.proofs.{Common.{◌∙◌, subst, arith, rules}, lemmas.Bool.{MatchBool-at_false, MatchBool-at_true}}
use Rattle.wax_lengths.specs.Spans.{looks}
use Rattle.wax_capture.specs.inner.Splits.{AreChosen, Splits, all_sizes}
use Rattle.wax_capture.specs.{inner.Trials.{HasRoom, HasTaken, lengths_of}, declared.piece.Piece.Piece}
use Rattle.wax_capture.specs.declared.trial.Frame.{Frame}
use Rattle.wax_capture.proofs.Counting.{reads_next, reads_piece}
use Rattle.wax_capture.proofs.Trying.{Stands, Took, after_last, at_next, lengths_push, at_piece, none_first}
use Rattle.wax_capture.proofs.Trying.{stands_here, stands_last, stands_pop, stands_push, took_all}
use Rattle.wax_capture.proofs.{Trying.took_within, trial.split_by_trial.Goals.then-not-branch+in-Some}
use Rattle.wax_capture.proofs.trial.split_by_trial.Goals as goal
use Rattle.wax_capture.proofs.trial.split_by_trial.Goals.{
  else-not-branch+then-index-pieces-2+then-may_begin+in_ok-push,
}
use Rattle.wax_capture.proofs.trial.split_by_trial.Goals.{else-not-branch+then-index-pieces-2+else-may_begin}
use Rattle.wax_capture.proofs.trial.split_by_trial.Goals.{
  else-not-branch+else-index-pieces-2+else-place_after-len,
}

pub returns-in_err-take_next-clause-above : goal.returns-in_err-take_next-clause-above
returns-in_err-take_next-clause-above c =
    let ps : List Piece = c.args.pieces.now in
    let text : List ℕ = c.args.text.now in
    let n : ℕ = length text + 1 in
    let i : ℕ = c.len-index.result in
    let p : Piece = c.index-pieces-index.result in
    let mid : c.loop.visits ≤ c.args.visits.now + c.args.limit =
    omega (
      arith,
      c.if-count-last.false,
      c.count-else-index-pieces.ensures,
      c.saturating_add-last.ensures,
      c.count.ensures,
    ) in
    let read : c.take_next.new.visits ≤ c.args.visits.now + c.args.limit + 2 * (all_sizes ps * n) =
    reads_next ps i p c.if-index-pieces.false c.index-pieces-index.is c.args.visits.now c.loop.visits
    c.take_next.new.visits (looks c.loop.top.span) c.args.limit n mid c.loop.invariant.room.few
    c.take_next.ensures.above in
    read

pub returns-in_default-clause-above : goal.returns-in_default-clause-above
returns-in_default-clause-above c =
    let ps : List Piece = c.args.pieces.now in
    let text : List ℕ = c.args.text.now in
    let n : ℕ = length text + 1 in
    let i : ℕ = c.len-index.result in
    let p : Piece = c.index-pieces-index.result in
    let mid : c.loop.visits ≤ c.args.visits.now + c.args.limit =
    omega (
      arith,
      c.if-count-last.false,
      c.count-else-index-pieces.ensures,
      c.saturating_add-last.ensures,
      c.count.ensures,
    ) in
    let read : c.take_next.new.visits ≤ c.args.visits.now + c.args.limit + 2 * (all_sizes ps * n) =
    reads_next ps i p c.if-index-pieces.false c.index-pieces-index.is c.args.visits.now c.loop.visits
    c.take_next.new.visits (looks c.loop.top.span) c.args.limit n mid c.loop.invariant.room.few
    c.take_next.ensures.above in
    read

pub returns-in_err-push-clause-above : goal.returns-in_err-push-clause-above
returns-in_err-push-clause-above c =
    let ps : List Piece = c.args.pieces.now in
    let text : List ℕ = c.args.text.now in
    let n : ℕ = length text + 1 in
    let i : ℕ = c.len-index.result in
    let p : Piece = c.index-pieces-index.result in
    let mid : c.loop.visits ≤ c.args.visits.now + c.args.limit =
    omega (
      arith,
      c.if-count-last.false,
      c.count-else-index-pieces.ensures,
      c.saturating_add-last.ensures,
      c.count.ensures,
    ) in
    let read : c.take_next.new.visits ≤ c.args.visits.now + c.args.limit + 2 * (all_sizes ps * n) =
    reads_next ps i p c.if-index-pieces.false c.index-pieces-index.is c.args.visits.now c.loop.visits
    c.take_next.new.visits (looks c.loop.top.span) c.args.limit n mid c.loop.invariant.room.few
    c.take_next.ensures.above in
    read

pub returns-in_err-push-2-clause-above : goal.returns-in_err-push-2-clause-above
returns-in_err-push-2-clause-above c =
    let ps : List Piece = c.args.pieces.now in
    let text : List ℕ = c.args.text.now in
    let n : ℕ = length text + 1 in
    let i : ℕ = c.len-index.result in
    let p : Piece = c.index-pieces-index.result in
    let mid : c.loop.visits ≤ c.args.visits.now + c.args.limit =
    omega (
      arith,
      c.if-count-last.false,
      c.count-else-index-pieces.ensures,
      c.saturating_add-last.ensures,
      c.count.ensures,
    ) in
    let read : c.take_next.new.visits ≤ c.args.visits.now + c.args.limit + 2 * (all_sizes ps * n) =
    reads_next ps i p c.if-index-pieces.false c.index-pieces-index.is c.args.visits.now c.loop.visits
    c.take_next.new.visits (looks c.loop.top.span) c.args.limit n mid c.loop.invariant.room.few
    c.take_next.ensures.above in
    read

pub returns-then-place_after-len-clause-above : goal.returns-then-place_after-len-clause-above
returns-then-place_after-len-clause-above c =
    let ps : List Piece = c.args.pieces.now in
    let text : List ℕ = c.args.text.now in
    let n : ℕ = length text + 1 in
    let i : ℕ = c.len-index.result in
    let p : Piece = c.index-pieces-index.result in
    let mid : c.loop.visits ≤ c.args.visits.now + c.args.limit =
    omega (
      arith,
      c.if-count-last.false,
      c.count-else-index-pieces.ensures,
      c.saturating_add-last.ensures,
      c.count.ensures,
    ) in
    let read : c.take_next.new.visits ≤ c.args.visits.now + c.args.limit + 2 * (all_sizes ps * n) =
    reads_next ps i p c.if-index-pieces.false c.index-pieces-index.is c.args.visits.now c.loop.visits
    c.take_next.new.visits (looks c.loop.top.span) c.args.limit n mid c.loop.invariant.room.few
    c.take_next.ensures.above in
    read

pub returns-in_default-clause-tried : goal.returns-in_default-clause-tried
returns-in_default-clause-tried c =
    let ps : List Piece = c.args.pieces.now in
    let text : List ℕ = c.args.text.now in
    let n : ℕ = length text + 1 in
    let i : ℕ = c.len-index.result in
    let p : Piece = c.index-pieces-index.result in
    let most : ℕ = all_sizes ps * n in
    let fs : List Frame = c.loop.below.items in
    let rest : List Piece = drop (length fs + 1) ps in
    let is : drop (length fs) ps ≡ p ∷ rest = at_piece ps fs i p (omega (arith, c.len-index.ensures))
    c.if-index-pieces.false c.index-pieces-index.is in
    let none : c.loop.below.items ≡ [] = search rules in
    let fails : Splits (p ∷ rest) (drop c.loop.top.at text) → ⊥ =
    MatchBool-at_false _ _ c.if-not-branch.true (c.in_ok-take_next.ensures.taken rest (λ l. after_last ps
    fs i (omega (arith, c.len-index.ensures)) (search (rules, l))) (c.loop.invariant.tried p rest is)) in
    none_first text ps fs c.loop.top.at p rest none c.loop.invariant.place is fails

pub place_after-requires : goal.place_after-requires
place_after-requires c =
    let ps : List Piece = c.args.pieces.now in
    let text : List ℕ = c.args.text.now in
    let n : ℕ = length text + 1 in
    let i : ℕ = c.len-index.result in
    let p : Piece = c.index-pieces-index.result in
    let most : ℕ = all_sizes ps * n in
    let fs : List Frame = c.loop.below.items in
    let rest : List Piece = drop (length fs + 1) ps in
    let is : drop (length fs) ps ≡ p ∷ rest = at_piece ps fs i p (omega (arith, c.len-index.ensures))
    c.if-index-pieces.false c.index-pieces-index.is in
    let new : Frame = c.take_next.new.frame in
    let at : new.at ≡ c.loop.top.at = c.in_ok-take_next.ensures.at in
    let got : HasTaken p rest (drop c.loop.top.at text) new =
    MatchBool-at_true _ _ c.if-not-branch.false (c.in_ok-take_next.ensures.taken rest (λ l. after_last ps
    fs i (omega (arith, c.len-index.ensures)) (search (rules, l))) (c.loop.invariant.tried p rest is)) in
    let room : HasRoom text most new = record {
      within = omega (arith, at, c.loop.invariant.room.within);
      end = c.in_ok-take_next.ensures.end;
      few = c.in_ok-take_next.ensures.few most c.loop.invariant.room.few
          (reads_piece ps i p c.if-index-pieces.false c.index-pieces-index.is n);
    } in
    let took : Took text most ps fs new = record {
      trail = c.loop.invariant.trail;
      place = at ∙ c.loop.invariant.place;
      is = (p, is, subst (λ a. HasTaken p rest (drop a text) new) (sym at) got);
      room = room;
    } in
    took_within text most ps fs new took

pub may_begin-requires : goal.may_begin-requires
may_begin-requires c =
    let ps : List Piece = c.args.pieces.now in
    let text : List ℕ = c.args.text.now in
    let n : ℕ = length text + 1 in
    let i : ℕ = c.len-index.result in
    let p : Piece = c.index-pieces-index.result in
    let most : ℕ = all_sizes ps * n in
    let fs : List Frame = c.loop.below.items in
    let rest : List Piece = drop (length fs + 1) ps in
    let is : drop (length fs) ps ≡ p ∷ rest = at_piece ps fs i p (omega (arith, c.len-index.ensures))
    c.if-index-pieces.false c.index-pieces-index.is in
    let new : Frame = c.take_next.new.frame in
    let at : new.at ≡ c.loop.top.at = c.in_ok-take_next.ensures.at in
    let got : HasTaken p rest (drop c.loop.top.at text) new =
    MatchBool-at_true _ _ c.if-not-branch.false (c.in_ok-take_next.ensures.taken rest (λ l. after_last ps
    fs i (omega (arith, c.len-index.ensures)) (search (rules, l))) (c.loop.invariant.tried p rest is)) in
    let room : HasRoom text most new = record {
      within = omega (arith, at, c.loop.invariant.room.within);
      end = c.in_ok-take_next.ensures.end;
      few = c.in_ok-take_next.ensures.few most c.loop.invariant.room.few
          (reads_piece ps i p c.if-index-pieces.false c.index-pieces-index.is n);
    } in
    let took : Took text most ps fs new = record {
      trail = c.loop.invariant.trail;
      place = at ∙ c.loop.invariant.place;
      is = (p, is, subst (λ a. HasTaken p rest (drop a text) new) (sym at) got);
      room = room;
    } in
    rw c.place_after-end.ensures (took_within text most ps fs new took)

pub place_after-end-requires : goal.place_after-end-requires
place_after-end-requires c =
    let ps : List Piece = c.args.pieces.now in
    let text : List ℕ = c.args.text.now in
    let n : ℕ = length text + 1 in
    let i : ℕ = c.len-index.result in
    let p : Piece = c.index-pieces-index.result in
    let most : ℕ = all_sizes ps * n in
    let fs : List Frame = c.loop.below.items in
    let rest : List Piece = drop (length fs + 1) ps in
    let is : drop (length fs) ps ≡ p ∷ rest = at_piece ps fs i p (omega (arith, c.len-index.ensures))
    c.if-index-pieces.false c.index-pieces-index.is in
    let new : Frame = c.take_next.new.frame in
    let at : new.at ≡ c.loop.top.at = c.in_ok-take_next.ensures.at in
    let got : HasTaken p rest (drop c.loop.top.at text) new =
    MatchBool-at_true _ _ c.if-not-branch.false (c.in_ok-take_next.ensures.taken rest (λ l. after_last ps
    fs i (omega (arith, c.len-index.ensures)) (search (rules, l))) (c.loop.invariant.tried p rest is)) in
    let room : HasRoom text most new = record {
      within = omega (arith, at, c.loop.invariant.room.within);
      end = c.in_ok-take_next.ensures.end;
      few = c.in_ok-take_next.ensures.few most c.loop.invariant.room.few
          (reads_piece ps i p c.if-index-pieces.false c.index-pieces-index.is n);
    } in
    let took : Took text most ps fs new = record {
      trail = c.loop.invariant.trail;
      place = at ∙ c.loop.invariant.place;
      is = (p, is, subst (λ a. HasTaken p rest (drop a text) new) (sym at) got);
      room = room;
    } in
    took_within text most ps fs new took

pub returns-then-place_after-len-clause-tried : goal.returns-then-place_after-len-clause-tried
returns-then-place_after-len-clause-tried c =
    let ps : List Piece = c.args.pieces.now in
    let text : List ℕ = c.args.text.now in
    let n : ℕ = length text + 1 in
    let i : ℕ = c.len-index.result in
    let p : Piece = c.index-pieces-index.result in
    let most : ℕ = all_sizes ps * n in
    let fs : List Frame = c.loop.below.items in
    let rest : List Piece = drop (length fs + 1) ps in
    let is : drop (length fs) ps ≡ p ∷ rest = at_piece ps fs i p (omega (arith, c.len-index.ensures))
    c.if-index-pieces.false c.index-pieces-index.is in
    let new : Frame = c.take_next.new.frame in
    let at : new.at ≡ c.loop.top.at = c.in_ok-take_next.ensures.at in
    let got : HasTaken p rest (drop c.loop.top.at text) new =
    MatchBool-at_true _ _ c.if-not-branch.false (c.in_ok-take_next.ensures.taken rest (λ l. after_last ps
    fs i (omega (arith, c.len-index.ensures)) (search (rules, l))) (c.loop.invariant.tried p rest is)) in
    let room : HasRoom text most new = record {
      within = omega (arith, at, c.loop.invariant.room.within);
      end = c.in_ok-take_next.ensures.end;
      few = c.in_ok-take_next.ensures.few most c.loop.invariant.room.few
          (reads_piece ps i p c.if-index-pieces.false c.index-pieces-index.is n);
    } in
    let took : Took text most ps fs new = record {
      trail = c.loop.invariant.trail;
      place = at ∙ c.loop.invariant.place;
      is = (p, is, subst (λ a. HasTaken p rest (drop a text) new) (sym at) got);
      room = room;
    } in
    let pushed : c.push-then-place_after-len.new.self.items ≡ fs ++ new ∷ [] = search rules in
    let same : lengths_of c.push-then-place_after-len.new.self.items ≡ lengths_of fs ++ new.n ∷ [] =
    ap lengths_of pushed ∙ lengths_push fs new in
    subst (AreChosen ps text) (sym same) (took_all text most ps fs new took
    (omega (arith, c.if-index-pieces.false, c.if-index-pieces-2.false, c.len-index.ensures))
    (sym c.place_after.ensures ∙ c.if-place_after-len.true ∙ c.len.ensures.is))

pub loop-preserved : goal.loop-preserved
loop-preserved c =
    let ps : List Piece = c.args.pieces.now in
    let text : List ℕ = c.args.text.now in
    let n : ℕ = length text + 1 in
    let i : ℕ = c.len-index.result in
    let p : Piece = c.index-pieces-index.result in
    let mid : c.loop.visits ≤ c.args.visits.now + c.args.limit =
    omega (
      arith,
      c.if-count-last.false,
      c.count-else-index-pieces.ensures,
      c.saturating_add-last.ensures,
      c.count.ensures,
    ) in
    let read : c.take_next.new.visits ≤ c.args.visits.now + c.args.limit + 2 * (all_sizes ps * n) =
    reads_next ps i p c.if-index-pieces.false c.index-pieces-index.is c.args.visits.now c.loop.visits
    c.take_next.new.visits (looks c.loop.top.span) c.args.limit n mid c.loop.invariant.room.few
    c.take_next.ensures.above in
    let most : ℕ = all_sizes ps * n in
    let fs : List Frame = c.loop.below.items in
    let rest : List Piece = drop (length fs + 1) ps in
    let is : drop (length fs) ps ≡ p ∷ rest = at_piece ps fs i p (omega (arith, c.len-index.ensures))
    c.if-index-pieces.false c.index-pieces-index.is in
    let stands : Stands text most ps c.if-not-branch.below.items c.if-not-branch.top =
    elim c.if-not-branch.branch [
      | then-not-branch+in-Some w ↦ (
          let same : c.loop.below.items ≡ w.pop.new.self.items ++ w.in-Some.frame ∷ [] = search rules in
          let fails : Splits (p ∷ rest) (drop c.loop.top.at text) → ⊥ =
          MatchBool-at_false _ _ w.if-not-branch.true (c.in_ok-take_next.ensures.taken rest
          (λ l. after_last ps fs i (omega (arith, c.len-index.ensures)) (search (rules, l)))
          (c.loop.invariant.tried p rest is)) in
          rw w.below-is (rw w.top-is (stands_pop text most ps fs w.pop.new.self.items w.in-Some.frame
          c.loop.top.at p rest same c.loop.invariant.trail c.loop.invariant.place is fails)))
      | else-not-branch+then-index-pieces-2+then-may_begin+in_ok-push w ↦ (
          let new : Frame = c.take_next.new.frame in
          let at : new.at ≡ c.loop.top.at = c.in_ok-take_next.ensures.at in
          let got : HasTaken p rest (drop c.loop.top.at text) new = MatchBool-at_true _ _
          w.if-not-branch.false (c.in_ok-take_next.ensures.taken rest (λ l. after_last ps fs i
          (omega (arith, c.len-index.ensures)) (search (rules, l))) (c.loop.invariant.tried p rest is)) in
          let room : HasRoom text most new = record {
            within = omega (arith, at, c.loop.invariant.room.within);
            end = c.in_ok-take_next.ensures.end;
            few = c.in_ok-take_next.ensures.few most c.loop.invariant.room.few
                (reads_piece ps i p c.if-index-pieces.false c.index-pieces-index.is n);
          } in
          let took : Took text most ps fs new = record {
            trail = c.loop.invariant.trail;
            place = at ∙ c.loop.invariant.place;
            is = (p, is, subst (λ a. HasTaken p rest (drop a text) new) (sym at) got);
            room = room;
          } in
          let pushed : w.push.new.self.items ≡ fs ++ new ∷ [] = search rules in
          let next : w.replace.new.dest ≡ w.new-next.result = search rules in
          rw w.below-is (rw w.top-is (rw pushed (rw next (stands_push text most ps fs new w.new-next.result
          took (w.new-next.ensures.at ∙ w.place_after-end.ensures) w.new-next.ensures.opened
          w.new-next.ensures.end w.new-next.ensures.looks)))))
      | else-not-branch+then-index-pieces-2+else-may_begin w ↦ (
          let new : Frame = c.take_next.new.frame in
          let at : new.at ≡ c.loop.top.at = c.in_ok-take_next.ensures.at in
          let got : HasTaken p rest (drop c.loop.top.at text) new = MatchBool-at_true _ _
          w.if-not-branch.false (c.in_ok-take_next.ensures.taken rest (λ l. after_last ps fs i
          (omega (arith, c.len-index.ensures)) (search (rules, l))) (c.loop.invariant.tried p rest is)) in
          let room : HasRoom text most new = record {
            within = omega (arith, at, c.loop.invariant.room.within);
            end = c.in_ok-take_next.ensures.end;
            few = c.in_ok-take_next.ensures.few most c.loop.invariant.room.few
                (reads_piece ps i p c.if-index-pieces.false c.index-pieces-index.is n);
          } in
          let took : Took text most ps fs new = record {
            trail = c.loop.invariant.trail;
            place = at ∙ c.loop.invariant.place;
            is = (p, is, subst (λ a. HasTaken p rest (drop a text) new) (sym at) got);
            room = room;
          } in
          let (others, next) = at_next ps fs i w.index-pieces-index-then-index-pieces-2.result
          (omega (arith, c.len-index.ensures)) w.if-index-pieces-2.true
          w.index-pieces-index-then-index-pieces-2.is in
          let place : drop new.n (drop new.at text) ≡ drop w.place_after-end.result text =
          drop-drop new.n new.at text ∙ ap (λ k. drop k text) (sym w.place_after-end.ensures) in
          let fails : Splits rest (drop new.n (drop new.at text)) → ⊥ = λ h. w.may_begin.ensures
          (search rules) others (subst (Splits (w.index-pieces-index-then-index-pieces-2.result ∷ others))
          place (subst (λ z. Splits z (drop new.n (drop new.at text))) next h)) in
          rw w.below-is (rw w.top-is (stands_here text most ps fs new took fails)))
      | else-not-branch+else-index-pieces-2+else-place_after-len w ↦ (
          let new : Frame = c.take_next.new.frame in
          let at : new.at ≡ c.loop.top.at = c.in_ok-take_next.ensures.at in
          let got : HasTaken p rest (drop c.loop.top.at text) new = MatchBool-at_true _ _
          w.if-not-branch.false (c.in_ok-take_next.ensures.taken rest (λ l. after_last ps fs i
          (omega (arith, c.len-index.ensures)) (search (rules, l))) (c.loop.invariant.tried p rest is)) in
          let room : HasRoom text most new = record {
            within = omega (arith, at, c.loop.invariant.room.within);
            end = c.in_ok-take_next.ensures.end;
            few = c.in_ok-take_next.ensures.few most c.loop.invariant.room.few
                (reads_piece ps i p c.if-index-pieces.false c.index-pieces-index.is n);
          } in
          let took : Took text most ps fs new = record {
            trail = c.loop.invariant.trail;
            place = at ∙ c.loop.invariant.place;
            is = (p, is, subst (λ a. HasTaken p rest (drop a text) new) (sym at) got);
            room = room;
          } in
          rw w.below-is (rw w.top-is (stands_last text most ps fs new took
          (omega (arith, w.if-index-pieces-2.false, c.len-index.ensures))
          (λ e. w.if-place_after-len.false (w.place_after.ensures ∙ e ∙ sym w.len.ensures.is)))))
    ] in
    record {
      trail = stands.trail;
      place = stands.place;
      tried = stands.tried;
      room = stands.room;
      above = read;
      steady = omega (arith, c.take_next.ensures.steady, c.loop.invariant.steady);
    }
