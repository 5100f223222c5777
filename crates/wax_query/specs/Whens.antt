-- How sure an answer is, and what two answers give together.
use Rattle.std.specs.Prelude.{ℕ, Bool, true, false, Option, Some, None, nat_le, if◌then◌else◌}
use Rattle.wax_query.specs.declared.query.when.When.{When}
use Rattle.wax_query.specs.declared.query.when.When.TheVariants.{Never, Sometimes, Always}

-- the order of the answers, as numbers
abbrev pub rank : When → ℕ
rank Never = 0
rank Sometimes = 1
rank Always = 2

abbrev pub lesser : When → When → When
lesser a b = if nat_le (rank a) (rank b) then a else b

abbrev pub greater : When → When → When
greater a b = if nat_le (rank a) (rank b) then b else a

-- the common answer
abbrev pub certainty : When → When → When
certainty Never Never = Never
certainty Always Always = Always
certainty a b = Sometimes

abbrev pub when : Bool → When
when false = Never
when true = Always

-- yes, no, or neither
abbrev pub certain_bool : When → Option Bool
certain_bool Never = Some false
certain_bool Sometimes = None
certain_bool Always = Some true
