use Rattle.std.proofs.{Common.{arith, rules, refl, subst, ap, ◌≡◌, ◌∙◌}, lemmas.Bool.or_parts}
use Rattle.std.specs.{Prelude.{Some, None, ◌||◌}, Io.KnownBytes.Appends}
use Rattle.wax_lines.specs.Written.{WritesPart}
use Rattle.wax_walk.specs.Entries.{given_of}
use Rattle.wax_command_line.proofs.Lines.{err_holds, stops_writing, writing_end, writing_last, writing_more}
use Rattle.wax_command_line.proofs.Lines.{writing_moved, writing_none, writing_part}
use Rattle.wax_command_line.proofs.candidates.write_candidates.Goals as goal

pub loop-item-init : goal.loop-item-init
loop-item-init g c = record {
  can = search rules;
  ends = search rules;
  writing = rw c.new-lines.ensures.items (writing_none g.I.Directory.Directory.law _ _ _);
  quiet = λ _. refl;
  steady = search rules;
}

pub returns-in_err-write_if_long-clause-stopped : goal.returns-in_err-write_if_long-clause-stopped
returns-in_err-write_if_long-clause-stopped g c =
    let s = c.loop-item.walk in
    let t = c.feed.new.self in
    let x = given_of g.I.Entry.Entry.facts g.I.Residue.Entry.facts c.in-Some.item in
    let fed = g.met.I.FileIterator.feeding s t (Some c.in-Some.item) c.in-Some.ensures.steps in
    let came = c.from_residual in
    err_holds _ came.result _ came.ensures.1 (writing_part g.I.Directory.Directory.law _ _ _ _ _ _ _ _ _ _
    c.loop-item.invariant.writing _ c.in_err-write_if_long.ensures.err x fed)

pub returns-in_err-has_errors-clause-stopped : goal.returns-in_err-has_errors-clause-stopped
returns-in_err-has_errors-clause-stopped g c =
    let law = g.I.Directory.Directory.law in
    let s = c.loop-item.walk in
    let t = c.feed.new.self in
    let x = given_of g.I.Entry.Entry.facts g.I.Residue.Entry.facts c.in-Some.item in
    let fed = g.met.I.FileIterator.feeding s t (Some c.in-Some.item) c.in-Some.ensures.steps in
    let writing = writing_moved law _ _ _ _ _ _ (g.W.Write.contents c.write_if_long.new.output.inner) _
    c.write_if_long.new.lines.items _ c.loop-item.invariant.writing c.in_ok-write_if_long.ensures.ok in
    let came = c.from_residual-in_err-has_errors in
    err_holds _ came.result _ came.ensures.1
    (writing_part law _ _ _ _ _ _ _ _ _ _ writing _ c.in_err-has_errors.ensures.err x fed)

pub loop-item-preserved : goal.loop-item-preserved
loop-item-preserved g c =
    let law = g.I.Directory.Directory.law in
    let s = c.loop-item.walk in
    let t = c.feed.new.self in
    let x = given_of g.I.Entry.Entry.facts g.I.Residue.Entry.facts c.in-Some.item in
    let fed = g.met.I.FileIterator.feeding s t (Some c.in-Some.item) c.in-Some.ensures.steps in
    let goes = c.in-Some.ensures.goes.on c.loop-item.invariant.ends in
    let writing = writing_moved law _ _ _ _ _ _ (g.W.Write.contents c.write_if_long.new.output.inner) _
    c.write_if_long.new.lines.items _ c.loop-item.invariant.writing c.in_ok-write_if_long.ensures.ok in
    record {
      can = search rules;
      ends = search rules;
      writing = writing_more law _ _ _ _ _ _ _ _ _ _ _ _ _
          x writing fed goes.2 c.in_ok-has_errors.ensures.ok
          (ap (λ v. c.loop-item.has_errors || v) c.in_ok-has_errors.ensures.error);
      quiet = λ e. let none = or_parts c.loop-item.has_errors c.in_ok-has_errors.field-0 e in
          c.in_ok-has_errors.ensures.quiet none.1 ∙ c.loop-item.invariant.quiet none.0;
      steady = omega (
        arith,
        c.in_ok-has_errors.ensures.steady,
        c.in_ok-write_if_long.ensures.steady,
        c.loop-item.invariant.steady,
      );
    }

pub returns-in_err-write_whole-clause-stopped : goal.returns-in_err-write_whole-clause-stopped
returns-in_err-write_whole-clause-stopped g c =
    let contents = g.W.Write.contents in
    let s = c.loop-item.walk in
    let t = c.feed.new.self in
    let same : c.deref.result.now ≡ c.loop-item.lines.items = search rules in
    let fed = g.met.I.FileIterator.feeding s t None c.in_default.ensures.steps in
    let (is_write, written) = c.in_err-write_whole.ensures.err in
    let part = subst (WritesPart (contents c.loop-item.output.inner)
    (contents c.write_whole.new.output.inner)) same written in
    let came = c.from_residual-in_err-write_whole in
    err_holds _ came.result _ came.ensures.1 (writing_last g.I.Directory.Directory.law _ _ _ _ _ _ _ _ _ _
    c.loop-item.invariant.writing _ (stops_writing _ _ _ _ is_write part) fed
    (λ q i. g.met.I.FileIterator.telling t q i))

pub returns-clause-done : goal.returns-clause-done
returns-clause-done g c =
    let contents = g.W.Write.contents in
    let s = c.loop-item.walk in
    let t = c.feed.new.self in
    let same : c.deref.result.now ≡ c.loop-item.lines.items = search rules in
    let fed = g.met.I.FileIterator.feeding s t None c.in_default.ensures.steps in
    let written = subst (Appends (contents c.loop-item.output.inner)
    (contents c.write_whole.new.output.inner)) same c.in_ok-write_whole.ensures.ok in
    writing_end g.I.Directory.Directory.law _ _ _ _ _ _ _ _ _ _ c.loop-item.invariant.writing fed
    (λ q i. g.met.I.FileIterator.telling t q i) written
