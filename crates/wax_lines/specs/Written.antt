-- Bytes of which a prefix was written.
use Rattle.std.specs.{Prelude.{◌≡◌, ℕ, List, ◌++◌, Option}, Io.KnownBytes.Appends}

-- `held` is what the writer holds, before and after
pub record WritesPart (held held' : Option (List ℕ)) (bytes : List ℕ) : Type 0 where
  pub front : List ℕ
  pub rest : List ℕ
  pub splits : bytes ≡ front ++ rest
  pub writes : Appends held held' front
