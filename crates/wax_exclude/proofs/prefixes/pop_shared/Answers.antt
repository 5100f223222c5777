use Rattle.std.proofs.Common.{◌≡◌, ◌∙◌, ◌∷◌, ap, length, rules, string_bytes, subst, sym}
use Rattle.std.proofs.{lemmas.Bool.false≢true, lemmas.Slice.Eq.bytes_eq-Decides}
use Rattle.wax_tree.specs.Prefix.{from_last}
use Rattle.wax_tree.proofs.Showing.{from_last_end}
use Rattle.wax_exclude.specs.inner.Shared.{ShareNothing}
use Rattle.wax_exclude.proofs.SharedPrefixes.{apart_first, no_text, none_left, none_right}
use Rattle.wax_exclude.proofs.prefixes.pop_shared.Goals as goal

pub returns-in_err-name : goal.returns-in_err-name
returns-in_err-name c =
    let others = from_last c.args.others.now.items in
    let n : length c.args.names.now.items ≡ 0 = search rules in
    rw c.from_residual.ensures
    (subst (λ v. ShareNothing v others) (sym (no_text c.args.names.now.items n)) (none_left others))

pub returns-in_err-other : goal.returns-in_err-other
returns-in_err-other c =
    let names = from_last c.args.names.now.items in
    let n : length c.args.others.now.items ≡ 0 = search rules in
    rw c.from_residual-in_err-other.ensures
    (subst (ShareNothing names) (sym (no_text c.args.others.now.items n)) (none_right names))

pub returns-then-eq : goal.returns-then-eq
returns-then-eq c =
    let name = c.in_ok-name.name in
    let other = c.in_ok-other.other in
    let same : string_bytes name ≡ string_bytes other =
    (bytes_eq-Decides (string_bytes name) (string_bytes other)).0 (sym c.if-eq.ensures) in (
      ap from_last c.in_ok-name.ensures.items ∙ from_last_end c.pop.new.self.items name,
      ap from_last c.in_ok-other.ensures.items ∙ from_last_end c.pop-2.new.self.items other
          ∙ ap (λ v. v ∷ from_last c.pop-2.new.self.items) (sym same),
    )

pub returns-else-eq : goal.returns-else-eq
returns-else-eq c =
    let name = c.in_ok-name.name in
    let other = c.in_ok-other.other in
    let names = from_last c.pop.new.self.items in
    let others = from_last c.pop-2.new.self.items in
    let apart : ¬ (string_bytes name ≡ string_bytes other) =
    λ e. false≢true (c.if-eq.ensures ∙ (bytes_eq-Decides (string_bytes name) (string_bytes other)).1 e) in
    let own : from_last c.args.names.now.items ≡ string_bytes name ∷ names =
    ap from_last c.in_ok-name.ensures.items ∙ from_last_end c.pop.new.self.items name in
    let left : from_last c.args.others.now.items ≡ string_bytes other ∷ others =
    ap from_last c.in_ok-other.ensures.items ∙ from_last_end c.pop-2.new.self.items other in
    subst (λ v. ShareNothing v (from_last c.args.others.now.items)) (sym own)
    (subst (ShareNothing (string_bytes name ∷ names)) (sym left)
    (apart_first (string_bytes name) (string_bytes other) names others apart))
