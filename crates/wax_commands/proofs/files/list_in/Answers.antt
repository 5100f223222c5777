use Rattle.std.proofs.Common.{rules, subst, ◌≡◌}
use Rattle.std.specs.List.{AllZip}
use Rattle.wax.specs.Ignoring.{IsFirstUnread, IsNoList, IsReadAs}
use Rattle.wax_exclude.specs.Lines.{written_lines}
use Rattle.wax_commands.specs.Files.{no_list, no_text}
use Rattle.wax_commands.proofs.files.list_in.Goals as goal

pub returns-in_default-clause-err : goal.returns-in_default-clause-err
returns-in_default-clause-err g c = λ differs. no_text c.in-Ok.bytes (search rules) (search rules)

pub returns-in-Ok-parse-clause-ok : goal.returns-in-Ok-parse-clause-ok
returns-in-Ok-parse-clause-ok g c =
    let same : c.in-Ok-from_utf8.text.now ≡ c.in-Ok.bytes.items = search rules in (
      c.in-Ok.bytes,
      search rules,
      search rules,
      subst (λ text. AllZip IsReadAs (written_lines text) c.in-Ok-parse.list) same c.in-Ok-parse.ensures,
    )

pub returns-in-Err-BadLine-clause-err : goal.returns-in-Err-BadLine-clause-err
returns-in-Err-BadLine-clause-err g c =
    let line = c.in-Err-BadLine.line in
    let error = c.in-Err-BadLine.error in
    let same : c.in-Ok-from_utf8.text.now ≡ c.in-Ok.bytes.items = search rules in
    λ differs. no_list c.in-Ok.bytes line error (search rules)
    (subst (λ text. IsFirstUnread text line error) same
    (subst (IsNoList c.in-Ok-from_utf8.text.now) c.in-Err-BadLine.field-0-is c.in-Err-BadLine.ensures))
