use Rattle.std.proofs.Common.{◌++◌, IsTrue, List, subst, sym, ℕ}
use Rattle.wax_prefilter.proofs.Holding.{any_left, any_right}
use Rattle.wax_prefilter.proofs.literals.Literals.append.Goals.{then-len-gt-MOST_NEEDLES}
use Rattle.wax_prefilter.proofs.literals.Literals.append.Goals.{else-len-gt-MOST_NEEDLES}
use Rattle.wax_prefilter.specs.{Facts.{ContainsOne, ContainsAt}, Literals.MayPass}
use Rattle.wax_prefilter.specs.declared.needle.Anchor.TheVariants.{Anywhere}
use Rattle.wax_prefilter.proofs.literals.Literals.append.Goals as goal

passes : (c : goal.After-drop-needles-2) (text : List ℕ)
    → (IsTrue c.self.inside.is_known
    → ContainsOne Anywhere (c.self.inside.needles.items ++ c.args.needles.items) text)
    → MayPass c.if-len-gt-MOST_NEEDLES.self text
passes c text held = elim c.if-len-gt-MOST_NEEDLES.branch [
  | then-len-gt-MOST_NEEDLES w ↦ subst (λ l. MayPass l text) (sym w.self-is) (w.forget.ensures text)
  | else-len-gt-MOST_NEEDLES w ↦ subst (λ l. MayPass l text) (sym w.self-is)
      (λ known.
      subst (λ items. ContainsOne Anywhere items text) (sym c.in_ok-append.ensures.items) (held known))
]

pub returns-clause-keeps : goal.returns-clause-keeps
returns-clause-keeps c = λ text pass. passes c text (λ known.
    any_left (λ held. ContainsAt Anywhere held text) c.self.inside.needles.items c.args.needles.items
    (subst (λ l. MayPass l text) (sym c.self.view_is) pass known))

pub returns-clause-adds : goal.returns-clause-adds
returns-clause-adds c = λ text holds. passes c text (λ known.
    any_right (λ held. ContainsAt Anywhere held text) c.self.inside.needles.items c.args.needles.items holds)
