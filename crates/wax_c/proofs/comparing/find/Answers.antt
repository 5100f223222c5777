-- What `overlap`, `difference` or `compare` finds is what is asked for, and the other way round.
use Rattle.std.proofs.{Common.{chars, string_bytes, subst, sym}, lemmas.Str.IsUtf8-string_bytes}
use Rattle.wax.specs.Comparing.{IsAnswer, IsShortest, IsWanted, KeepsLimitBy}
use Rattle.wax_c.specs.inner.Searching.{IsAskedFor}
use Rattle.wax_c.proofs.FoundPath.{both_at}
use Rattle.wax_c.proofs.comparing.find.Goals as goal

pub returns-in-Ok-Text-clause-found : goal.returns-in-Ok-Text-clause-found
returns-in-Ok-Text-clause-found g c =
    let one = g.A.Compared.selects c.args.one.now in
    let other = g.B.Compared.selects c.args.other.now in
    let text = c.in-Ok-Text in
    let path = chars (string_bytes text.path) in
    let facts = both_at (λ wanted texts. IsAnswer (IsWanted wanted texts one other))
    (λ wanted texts. KeepsLimitBy one other wanted texts c.args.most_states)
    text.field-0-is text.ensures.answer text.ensures.limit in
    let found : IsShortest (IsWanted _ _ one other) path = facts.0 in (
      (
        IsUtf8-string_bytes text.path,
        subst (λ asked. IsShortest (IsAskedFor asked one other) path) (sym c.in-Both.is) (
          ((found.0.scalars, found.0.among), found.0.decided.0, found.0.decided.1),
          λ s p. found.1 s (record { scalars = p.0.0; among = p.0.1; decided = (p.1, p.2) }),
        ),
      ),
      facts.1.4,
    )

pub returns-in-Ok-Text-difference-clause-found : goal.returns-in-Ok-Text-difference-clause-found
returns-in-Ok-Text-difference-clause-found g c =
    let one = g.A.Compared.selects c.args.one.now in
    let other = g.B.Compared.selects c.args.other.now in
    let text = c.in-Ok-Text-difference in
    let path = chars (string_bytes text.path) in
    let facts = both_at (λ wanted texts. IsAnswer (IsWanted wanted texts one other))
    (λ wanted texts. KeepsLimitBy one other wanted texts c.args.most_states)
    text.field-0-is text.ensures.answer text.ensures.limit in
    let found : IsShortest (IsWanted _ _ one other) path = facts.0 in (
      (
        IsUtf8-string_bytes text.path,
        subst (λ asked. IsShortest (IsAskedFor asked one other) path) (sym c.in-FirstOnly.is) (
          ((found.0.scalars, found.0.among), found.0.decided.0, found.0.decided.1),
          λ s p. found.1 s (record { scalars = p.0.0; among = p.0.1; decided = (p.1, p.2) }),
        ),
      ),
      facts.1.4,
    )

pub returns-in-Ok-Text-compare-clause-found : goal.returns-in-Ok-Text-compare-clause-found
returns-in-Ok-Text-compare-clause-found g c =
    let one = g.A.Compared.selects c.args.one.now in
    let other = g.B.Compared.selects c.args.other.now in
    let text = c.in-Ok-Text-compare in
    let path = chars (string_bytes text.path) in
    let facts = both_at (λ wanted texts. IsAnswer (IsWanted wanted texts one other))
    (λ wanted texts. KeepsLimitBy one other wanted texts c.args.most_states)
    text.field-0-is text.ensures.answer text.ensures.limit in
    let found : IsShortest (IsWanted _ _ one other) path = facts.0 in (
      (
        IsUtf8-string_bytes text.path,
        subst (λ asked. IsShortest (IsAskedFor asked one other) path) (sym c.in-OneOnly.is) (
          ((found.0.scalars, found.0.among), found.0.decided),
          λ s p. found.1 s (record { scalars = p.0.0; among = p.0.1; decided = p.1 }),
        ),
      ),
      facts.1.4,
    )
