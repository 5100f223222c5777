use Rattle.std.proofs.Common.{◌≡◌, ◌<◌, ◌∙◌, ap, length, get_or, chars, sym, subst, arith}
use Rattle.std.specs.Option.{IfSome}
use Rattle.wax_prefilter.specs.{Facts.{FactsHold, ContainsOne}, declared.needle.Anchor.TheVariants.End}
use Rattle.wax_prefilter.specs.inner.Ends.{IsOfFirst, NoneEndsBefore}
use Rattle.wax_prefilter.specs.inner.Pairs.{ArePairsOf, NoPairsBefore, lowered}
use Rattle.wax_prefilter.proofs.{Ends.line_ends_after, Pairs.ends_after}
use Rattle.wax_prefilter.proofs.prefilter.Prefilter.earliest_end.Goals as goal

pub returns-in-Some : goal.returns-in-Some
returns-in-Some c = λ x y z e utf8 passes.
    let facts = c.self.inside.facts.items in
    let pairs = c.in-Some.pairs in
    let known : ArePairsOf facts pairs =
    subst (λ p. IfSome p (ArePairsOf facts)) c.in-Some.is c.self.invariant.0 in
    let holds : FactsHold facts (chars y) =
    subst (λ p. FactsHold p.1 (chars y)) (sym c.self.view_is) passes.1 in
    let low = lowered pairs.in_any_case in
    let none : NoPairsBefore pairs.list.items (low c.args.text.now) c.find_first.result =
    subst (λ b. NoPairsBefore pairs.list.items (low b) c.find_first.result)
    c.as_bytes-bytes.ensures.value c.find_first.ensures.before in
    ends_after pairs.in_any_case pairs.list.items c.args.text.now x y z c.find_first.result e
    (omega (arith, c.find_first.ensures.inside, ap length c.as_bytes-bytes.ensures.value))
    none (known y utf8 holds)

pub returns-in-Some-Some : goal.returns-in-Some-Some
returns-in-Some-Some c = λ x y z e utf8 passes.
    let facts = c.self.inside.facts.items in
    let end = c.in-Some-Some.end in
    let fact = c.in-Some-Some.fact.now in
    let holds : FactsHold facts (chars y) =
    subst (λ p. FactsHold p.1 (chars y)) (sym c.self.view_is) passes.1 in
    let some : 0 < length facts =
    subst (λ z. 0 < length z) c.deref.ensures.value c.in-Some-Some.ensures.item.3.0 in
    let first : fact ≡ get_or facts 0 fact = c.in-Some-Some.ensures.item.3.1 fact
    ∙ ap (λ z. get_or z 0 fact) c.deref.ensures.value in
    let one : ContainsOne fact.0 fact.1 (chars y) =
    subst (λ f. ContainsOne f.0 f.1 (chars y)) (sym first) (holds 0 fact some) in
    let of_first : IsOfFirst facts end =
    subst (λ p. IfSome p (IsOfFirst facts)) c.in-Some-Some.is-0 c.self.invariant.1 in
    let ends : ContainsOne End fact.1 (chars y) =
    subst (λ p. ContainsOne p fact.1 (chars y)) (of_first fact first).0 one in
    let none : NoneEndsBefore fact.1 c.args.text.now c.find_line_end.result =
    subst (λ b. NoneEndsBefore fact.1 b c.find_line_end.result) c.as_bytes-bytes.ensures.value
    c.find_line_end.ensures.before in
    line_ends_after fact.1 c.args.text.now x y z c.find_line_end.result e
    (omega (arith, c.find_line_end.ensures.inside, ap length c.as_bytes-bytes.ensures.value)) none utf8 ends
