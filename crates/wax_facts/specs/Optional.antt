-- What is certain of a repetition that may have no copies.
use Rattle.std.specs.Prelude.{ℕ, zero, suc}
use Rattle.wax_query.specs.{declared.query.when.When.When, declared.query.when.When.TheVariants.Sometimes}
use Rattle.wax_query.specs.Whens.{lesser}

-- if the least number of copies is zero, at most `Sometimes`
abbrev pub optional : ℕ → When → When
optional zero w = lesser w Sometimes
optional (suc low) w = w
