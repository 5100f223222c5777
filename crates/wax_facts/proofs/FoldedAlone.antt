-- Characters that share their folding with no other.
use Rattle.std.proofs.Common.{◌≡◌, ℕ, zero, suc, ◌+◌, ◌<◌, ◌≤◌, List, [], ◌∷◌, length, drop, get_or, sym}
use Rattle.std.proofs.{Common.{subst, arith}, lemmas.List.drop_all}
use Rattle.wax_facts.specs.InvariantText.{FoldsAlone, AllFoldAlone}
use Rattle.wax_facts.proofs.TextSteps.{drop_here}

pub alone_step : (cs : List ℕ) (i c : ℕ) → i < length cs → c ≡ get_or cs i c → FoldsAlone c
    → AllFoldAlone (drop (i + 1) cs) → AllFoldAlone (drop i cs)
alone_step cs i c lt e k h = subst AllFoldAlone (sym (drop_here cs i c lt e)) (k, h)

pub alone_at : (cs : List ℕ) (i c : ℕ) → i < length cs → c ≡ get_or cs i c → AllFoldAlone cs → FoldsAlone c
alone_at [] i c lt e h = absurd (omega (arith, lt))
alone_at (d ∷ cs) zero c lt e h = subst FoldsAlone (sym e) h.0
alone_at (d ∷ cs) (suc i) c lt e h = alone_at cs i c (omega (arith, lt)) e h.1

pub alone_end : (cs : List ℕ) (i : ℕ) → length cs ≤ i → AllFoldAlone (drop i cs)
alone_end cs i le = subst AllFoldAlone (sym (drop_all i cs le)) tt
