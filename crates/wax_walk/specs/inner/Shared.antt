-- Paths that hold their starts and candidates.
use Rattle.std.specs.{Prelude.{◌≡◌, ℕ, List, length, take, drop}, Str.IsCharBoundary}

-- the path begins with that of the start, and ends with the candidate, which begins at this byte
pub record IsShared (path root candidate : List ℕ) (start : ℕ) : Type 0 where
  pub begins : take (length root) path ≡ root
  pub root_ends : IsCharBoundary path (length root)
  pub ends : drop start path ≡ candidate
  pub candidate_begins : IsCharBoundary path start
