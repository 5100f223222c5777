-- The characters of a part of an expression.
use Rattle.std.specs.Prelude.{ℕ, ◌+◌, ◌==◌, ◌&&◌, nat_le, nat_lt, List, [], ◌∷◌, ◌++◌, if◌then◌else◌}
use Rattle.std.specs.Char.{len_utf8}

-- those whose first byte lies from one place up to another, where the first of all begins at `at`
abbrev pub between : ℕ → ℕ → ℕ → List ℕ → List ℕ
between at from to [] = []
between at from to (c ∷ cs) =
    (if nat_le from at && nat_lt at to then c ∷ [] else []) ++ between (at + len_utf8 c) from to cs

-- without the first `/`
abbrev pub without_slash : List ℕ → List ℕ
without_slash [] = []
without_slash (c ∷ cs) = if c == 47 then cs else c ∷ without_slash cs
