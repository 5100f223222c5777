-- Where tokens are in a tree.
use Rattle.std.specs.Prelude.{ℕ, ◌+◌, ◌-◌, ◌^◌, min}
use Rattle.wax_fold.specs.declared.walk.entry.Position.{Position}

-- one more, up to the greatest usize
abbrev pub deeper : ℕ → ℕ
deeper n = min (n + 1) (2 ^ 64 - 1)

-- the root of a tree
abbrev pub origin : Position
origin = record { depth = record { conjunctive = 0; disjunctive = 0 }; branch = 0 }

-- a token of a concatenation or a repetition that stands there
abbrev pub conjunction : Position → Position
conjunction p = record {
  depth = record { conjunctive = deeper p.depth.conjunctive; disjunctive = p.depth.disjunctive };
  branch = p.branch;
}

-- a branch of an alternation that stands there
abbrev pub disjunction : Position → ℕ → Position
disjunction p n = record {
  depth = record { conjunctive = p.depth.conjunctive; disjunctive = deeper p.depth.disjunctive };
  branch = n;
}
