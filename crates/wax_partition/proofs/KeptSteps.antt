-- The characters of a part of an expression, one after another.
use Rattle.std.proofs.Common.{◌≡◌, ℕ, ◌+◌, ◌<◌, ◌≤◌, ◌&&◌, nat_le, nat_lt, min, List, [], ◌∷◌, ◌++◌, length}
use Rattle.std.proofs.Common.{drop, get_or, if◌then◌else◌, sym, ◌∙◌, ap, arith, append_assoc, append-nil}
use Rattle.std.proofs.{lemmas.Bool.Decides.nat_tests, lemmas.List.drop_all}
use Rattle.std.specs.Char.{len_utf8}
use Rattle.wax_partition.specs.Kept.{between}
use Rattle.wax_facts.proofs.TextSteps.{drop_here}

le_same : (from place most : ℕ) → from ≤ most → nat_le from (min place most) ≡ nat_le from place
le_same from place most h = grind (arith, nat_tests, h)

lt_same : (place to most : ℕ) → to ≤ most → nat_lt (min place most) to ≡ nat_lt place to
lt_same place to most h = grind (arith, nat_tests, h)

pub within_same : (place from to most : ℕ) → from ≤ most → to ≤ most
    → (nat_le from (min place most) && nat_lt (min place most) to) ≡ (nat_le from place && nat_lt place to)
within_same place from to most f g = ap (λ z. z && nat_lt (min place most) to) (le_same from place most f)
    ∙ ap (λ z. nat_le from place && z) (lt_same place to most g)

pub kept_step : (cs : List ℕ) (i c place from to : ℕ) (kept all : List ℕ) → i < length cs → c ≡ get_or cs i c
    → kept ++ between place from to (drop i cs) ≡ all →
    (kept ++ (if nat_le from place && nat_lt place to then c ∷ [] else []))
    ++ between (place + len_utf8 c) from to (drop (i + 1) cs) ≡ all
kept_step cs i c place from to kept all lt e h =
    append_assoc kept (if nat_le from place && nat_lt place to then c ∷ [] else [])
    (between (place + len_utf8 c) from to (drop (i + 1) cs))
    ∙ ap (λ z. kept ++ between place from to z) (sym (drop_here cs i c lt e)) ∙ h

pub kept_end : (cs : List ℕ) (i place from to : ℕ) (kept all : List ℕ) → length cs ≤ i
    → kept ++ between place from to (drop i cs) ≡ all → kept ≡ all
kept_end cs i place from to kept all le h =
    sym (append-nil kept) ∙ ap (λ z. kept ++ between place from to z) (sym (drop_all i cs le)) ∙ h
