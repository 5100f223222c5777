-- Fixed sizes of tokens: how many bytes each text has that a token matches, if that is one number.
use Rattle.std.specs.Prelude.{ℕ, ◌+◌, ◌-◌, ◌*◌, ◌^◌, min, Bool, true, false, ◌==◌, ◌&&◌, nat_le}
use Rattle.std.specs.Prelude.{if◌then◌else◌, Option, Some, None}
use Rattle.wax_token.specs.Syntax.{Leaf, literal, class, separator, one, zero_or_more, tree, Tree, leaf}
use Rattle.wax_token.specs.Syntax.{alternation, concatenation, repetition, Trees, none, more}
use Rattle.wax_token.specs.Reads.{utf8_len}

-- a character counts as 4 bytes where it can be any
abbrev pub leaf_size : Leaf → Option ℕ
leaf_size (literal insensitive t) = Some (utf8_len t)
leaf_size (class negated xs) = Some 4
leaf_size separator = Some 1
leaf_size one = Some 4
leaf_size (zero_or_more evaluation) = None
leaf_size (tree has_root) = None

abbrev pub option_sum : Option ℕ → Option ℕ → Option ℕ
option_sum None o = None
option_sum (Some m) None = None
option_sum (Some m) (Some n) = Some (m + n)

-- n copies, where there is one number of them
abbrev pub size_of_copies : ℕ → Option ℕ → Option ℕ → Option ℕ
size_of_copies low high None = None
size_of_copies low None (Some n) = None
size_of_copies low (Some high) (Some n) = if low == high then Some (low * n) else None

abbrev pub is_size : ℕ → Option ℕ → Bool
is_size n None = false
is_size n (Some m) = m == n

-- the size, if the rest has it too
abbrev pub size_if : (ℕ → Bool) → Option ℕ → Option ℕ
size_if common None = None
size_if common (Some n) = if common n then Some n else None

abbrev mutual
  pub fixed_size : {A : Type 0} → Tree A → Option ℕ
  fixed_size (leaf a l) = leaf_size l
  fixed_size (alternation a ts) = common_size ts
  fixed_size (concatenation a ts) = total_size ts
  fixed_size (repetition a t low high) = size_of_copies low high (fixed_size t)

  -- of tokens one after another
  pub total_size : {A : Type 0} → Trees A → Option ℕ
  total_size none = Some 0
  total_size (more t ts) = option_sum (fixed_size t) (total_size ts)

  -- of branches, if there is one and all have the same
  pub common_size : {A : Type 0} → Trees A → Option ℕ
  common_size none = None
  common_size (more t ts) = size_if (λ n. are_of_size n ts) (fixed_size t)

  pub are_of_size : {A : Type 0} → ℕ → Trees A → Bool
  are_of_size n none = true
  are_of_size n (more t ts) = is_size n (fixed_size t) && are_of_size n ts

-- the size, or the greatest number of 64 bits where it is above that
abbrev pub cut_size : Option ℕ → Option ℕ
cut_size None = None
cut_size (Some n) = Some (min n (2 ^ 64 - 1))

abbrev pub saturated_size : {A : Type 0} → Tree A → Option ℕ
saturated_size t = cut_size (fixed_size t)

-- a size of 65,536 or more
abbrev pub is_large : Option ℕ → Bool
is_large None = false
is_large (Some n) = nat_le 65536 n

abbrev pub is_oversized : {A : Type 0} → Tree A → Bool
is_oversized t = is_large (fixed_size t)
