use Rattle.std.proofs.Common.{map, refl, subst, ◌∙◌}
use Rattle.std.specs.{Prelude.filter, Io.KnownBytes.Appends}
use Rattle.wax_exclude.specs.GlobRequests.{request_excluding, request_pending, walk_for}
use Rattle.wax_exclude.proofs.Telling.{answered_before, keeps_answered, keeps_told}
use Rattle.wax_exclude.proofs.{Wanting.{all_gave, keeps_wanted, filters_come, took_less}, Shown.well_named}
use Rattle.wax_walk.proofs.Collecting.{map_ok}
use Rattle.wax_walk.specs.Given.{is_kept}
use Rattle.wax_command_line.proofs.Lines.{errors_kept, lines_kept, map_err}
use Rattle.wax_command_line.proofs.candidates.write_wanted.Goals as goal

pub returns-clause-done : goal.returns-clause-done
returns-clause-done g c =
    let law = g.I.Directory.Directory.law in
    let laws = g.met.I.Directory.Directory in
    let contents = g.W.Write.contents in
    let rules = map g.R.Exclude.rule c.args.rules.items in
    map_ok (λ has_errors wrote. record {
      directory = wrote.directory;
      given = wrote.given;
      took = took_less law rules _ _ _ wrote.directory wrote.given c.new.ensures
          c.excluding-kept.ensures.view wrote.took;
      items = filter is_kept wrote.given;
      kept = refl;
      wanted = λ d request filters s listed comes are can shows told.
          let tells = law.tells wrote.directory in
          let excluding = request_excluding request filters in
          let come = filters_come law d request filters rules _ _ _ are c.new.ensures comes
          c.excluding-kept.ensures.view in
          let named = well_named law d request.origin.path s (λ p l. laws.inner d p l)
          (λ p t. laws.distinct d p t) shows in
          keeps_wanted c.law_of_walks.ensures tells excluding s listed wrote.given can named
          (all_gave law d (walk_for excluding) _ tells s listed wrote.given come shows told wrote.took.all);
      answered = λ d request filters comes are can.
          let come = filters_come law d request filters rules _ _ _ are c.new.ensures comes
          c.excluding-kept.ensures.view in
          answered_before law _ _ wrote.directory _ c.excluding-kept.ensures.view.directory
          (keeps_answered c.law_of_walks.ensures (request_excluding request filters) law _ wrote.directory
          wrote.given can come.takes wrote.took);
      writes = subst (Appends (contents c.args.output.now.inner)
          (contents c.write_candidates.new.output.inner)) (lines_kept wrote.given) wrote.writes;
      errors = wrote.errors ∙ errors_kept wrote.given;
    })
    c.write_candidates.result c.write_candidates.ensures.done

pub returns-clause-stopped : goal.returns-clause-stopped
returns-clause-stopped g c =
    let law = g.I.Directory.Directory.law in
    let rules = map g.R.Exclude.rule c.args.rules.items in
    map_err (λ error wrote. record {
      bytes = wrote.bytes;
      writes = wrote.writes;
      starts = λ d request filters s listed comes are can shows told.
          let excluding = request_excluding request filters in
          let come = filters_come law d request filters rules _ _ _ are c.new.ensures comes
          c.excluding-kept.ensures.view in
          wrote.starts (request_pending excluding s listed) (come.comes s listed shows told);
      directory = wrote.directory;
      items = filter is_kept wrote.given;
      answered = λ d request filters comes are can.
          let come = filters_come law d request filters rules _ _ _ are c.new.ensures comes
          c.excluding-kept.ensures.view in
          answered_before law _ _ wrote.directory _ c.excluding-kept.ensures.view.directory
          (keeps_told c.law_of_walks.ensures (request_excluding request filters) law _ wrote.directory
          wrote.told wrote.given can come.takes wrote.answered wrote.ends_there wrote.course);
      unwritten = wrote.unwritten;
      lines = wrote.lines ∙ lines_kept wrote.given;
      whole = wrote.whole;
    })
    c.write_candidates.result c.write_candidates.ensures.stopped
