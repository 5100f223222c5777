use Rattle.std.proofs.Common.{◌≤◌, sym, subst}
use Rattle.wax_program.specs.{Onward.PlaceFlags, inner.Leads.{Holds, Marks}}
use Rattle.wax_program.proofs.Marking.{few_rest, few_below, few_path, marks_rest, marks_below, marks_path}
use Rattle.wax_program.proofs.onward.Onward.insert.Goals as goal

pub returns-in-Rest-clause-marks : goal.returns-in-Rest-clause-marks
returns-in-Rest-clause-marks c =
    let i = c.self.inside in
    let x = c.insert.new.self in
    let old : PlaceFlags = record { size = i.size; rest = i.rest; path = i.path; below = i.below } in
    let new : PlaceFlags = record { size = i.size; rest = x; path = i.path; below = i.below } in
    let none : Holds old c.args.m c.args.at → ⊥ =
    subst (λ f. Holds f c.args.m c.args.at → ⊥) (sym c.self.view_is) c.requires.missing in
    let within : c.args.at ≤ i.size =
    subst (λ f. c.args.at ≤ f.size) (sym c.self.view_is) c.requires.within in
    let marks = marks_rest old x c.args.at within c.self.invariant
    (subst (λ m. Holds old m c.args.at → ⊥) c.in-Rest.is none) c.insert.ensures in
    subst (λ f. Marks f new c.args.m c.args.at) c.self.view_is
    (subst (λ m. Marks old new m c.args.at) (sym c.in-Rest.is) marks)

pub returns-in-Rest-clause-few : goal.returns-in-Rest-clause-few
returns-in-Rest-clause-few c =
    let i = c.self.inside in
    let old : PlaceFlags = record { size = i.size; rest = i.rest; path = i.path; below = i.below } in
    let within : c.args.at ≤ i.size =
    subst (λ f. c.args.at ≤ f.size) (sym c.self.view_is) c.requires.within in
    few_rest old c.insert.new.self c.args.at within c.self.invariant c.insert.ensures

pub returns-in-Path-clause-marks : goal.returns-in-Path-clause-marks
returns-in-Path-clause-marks c =
    let i = c.self.inside in
    let x = c.insert-in-Path.new.self in
    let old : PlaceFlags = record { size = i.size; rest = i.rest; path = i.path; below = i.below } in
    let new : PlaceFlags = record { size = i.size; rest = i.rest; path = x; below = i.below } in
    let none : Holds old c.args.m c.args.at → ⊥ =
    subst (λ f. Holds f c.args.m c.args.at → ⊥) (sym c.self.view_is) c.requires.missing in
    let within : c.args.at ≤ i.size =
    subst (λ f. c.args.at ≤ f.size) (sym c.self.view_is) c.requires.within in
    let marks = marks_path old x c.args.at within c.self.invariant
    (subst (λ m. Holds old m c.args.at → ⊥) c.in-Path.is none) c.insert-in-Path.ensures in
    subst (λ f. Marks f new c.args.m c.args.at) c.self.view_is
    (subst (λ m. Marks old new m c.args.at) (sym c.in-Path.is) marks)

pub returns-in-Path-clause-few : goal.returns-in-Path-clause-few
returns-in-Path-clause-few c =
    let i = c.self.inside in
    let old : PlaceFlags = record { size = i.size; rest = i.rest; path = i.path; below = i.below } in
    let within : c.args.at ≤ i.size =
    subst (λ f. c.args.at ≤ f.size) (sym c.self.view_is) c.requires.within in
    few_path old c.insert-in-Path.new.self c.args.at within c.self.invariant c.insert-in-Path.ensures

pub returns-in-Below-clause-marks : goal.returns-in-Below-clause-marks
returns-in-Below-clause-marks c =
    let i = c.self.inside in
    let x = c.insert-in-Below.new.self in
    let old : PlaceFlags = record { size = i.size; rest = i.rest; path = i.path; below = i.below } in
    let new : PlaceFlags = record { size = i.size; rest = i.rest; path = i.path; below = x } in
    let none : Holds old c.args.m c.args.at → ⊥ =
    subst (λ f. Holds f c.args.m c.args.at → ⊥) (sym c.self.view_is) c.requires.missing in
    let within : c.args.at ≤ i.size =
    subst (λ f. c.args.at ≤ f.size) (sym c.self.view_is) c.requires.within in
    let marks = marks_below old x c.args.at within c.self.invariant
    (subst (λ m. Holds old m c.args.at → ⊥) c.in-Below.is none) c.insert-in-Below.ensures in
    subst (λ f. Marks f new c.args.m c.args.at) c.self.view_is
    (subst (λ m. Marks old new m c.args.at) (sym c.in-Below.is) marks)

pub returns-in-Below-clause-few : goal.returns-in-Below-clause-few
returns-in-Below-clause-few c =
    let i = c.self.inside in
    let old : PlaceFlags = record { size = i.size; rest = i.rest; path = i.path; below = i.below } in
    let within : c.args.at ≤ i.size =
    subst (λ f. c.args.at ≤ f.size) (sym c.self.view_is) c.requires.within in
    few_below old c.insert-in-Below.new.self c.args.at within c.self.invariant c.insert-in-Below.ensures
