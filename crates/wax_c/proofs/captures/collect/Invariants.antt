use Rattle.std.proofs.Common.{◌≡◌, ◌-◌, length, take}
use Rattle.wax_c.specs.Captures.{texts_of}
use Rattle.wax_c.proofs.captures.collect.Given as goal

-- the captures before this one were collected
abbrev pub invariant-loop-part : goal.invariant-loop-part
invariant-loop-part l =
    texts_of (take (length l.lengths.items) l.matched.captures)
    ≡ record { bytes = l.texts.items; lengths = l.lengths.items }

abbrev pub decreases-loop-part : goal.decreases-loop-part
decreases-loop-part l = length l.matched.captures - length l.lengths.items
