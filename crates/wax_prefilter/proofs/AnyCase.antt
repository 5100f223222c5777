-- Texts that begin with others in any case.
use Rattle.std.proofs.Common.{◌≡◌, ℕ, true, List, [], ◌∷◌, ◌++◌, sym, subst}
use Rattle.unicode.specs.CaseFolding.{simple_fold}
use Rattle.wax_token.specs.Meaning.{SameFold, SameText}

-- the text is one that is the wanted one in any case, and then y
abbrev pub BeginsAlike : List ℕ → List ℕ → List ℕ → Type 0
BeginsAlike text wanted y = (u : List ℕ) × (text ≡ u ++ y) × SameText true wanted u

-- the text holds such a one before z
abbrev pub HoldsAlike : List ℕ → List ℕ → List ℕ → Type 0
HoldsAlike text y z = (x : List ℕ) × (text ≡ x ++ (y ++ z))

same_head : (c d : ℕ) (s t : List ℕ) → c ∷ s ≡ d ∷ t → c ≡ d
same_head c d s t e = cc

same_tail : (c d : ℕ) (s t : List ℕ) → c ∷ s ≡ d ∷ t → s ≡ t
same_tail c d s t e = cc

no_text : (c : ℕ) (s : List ℕ) → [] ≡ c ∷ s → ⊥
no_text c s e = cc

-- the first characters are alike, and so is what comes after them
pub alike_step : (d : ℕ) (wanted : List ℕ) (c : ℕ) (text y : List ℕ) → BeginsAlike (c ∷ text) (d ∷ wanted) y
    → SameFold d c × BeginsAlike text wanted y
alike_step d wanted c text y ([], e, h) = absurd h
alike_step d wanted c text y (b ∷ u, e, h) = (
  subst (λ z. SameFold d z) (sym (same_head c b text (u ++ y) e)) h.0,
  (u, same_tail c b text (u ++ y) e, h.1),
)

pub not_at_end : (d : ℕ) (wanted y : List ℕ) → BeginsAlike [] (d ∷ wanted) y → ⊥
not_at_end d wanted y ([], e, h) = h
not_at_end d wanted y (b ∷ u, e, h) = no_text b (u ++ y) e

-- the same of equal texts
pub seen_past : (text other wanted seen y : List ℕ) → text ≡ other → wanted ≡ seen → BeginsAlike text wanted y
    → BeginsAlike other seen y
seen_past text other wanted seen y e f h =
    subst (λ v. BeginsAlike v seen y) e (subst (λ v. BeginsAlike text v y) f h)

-- it stands further on, if it doesn't stand here
pub stands_later : (first : ℕ) (wanted held : List ℕ) (c : ℕ) (text y z : List ℕ) → held ≡ first ∷ wanted
    → SameText true held y
    → (SameFold first c → BeginsAlike text wanted z → ⊥) → HoldsAlike (c ∷ text) y z → HoldsAlike text y z
stands_later first wanted held c text y z is h not_here ([], e) =
    let here : SameFold first c × BeginsAlike text wanted z =
    alike_step first wanted c text z (y, e, subst (λ v. SameText true v y) is h) in
    absurd (not_here here.0 here.1)
stands_later first wanted held c text y z is h not_here (b ∷ x, e) = (x, same_tail c b text (x ++ (y ++ z)) e)

pub stands_nowhere : (first : ℕ) (wanted held y z : List ℕ) → held ≡ first ∷ wanted → SameText true held y
    → HoldsAlike [] y z → ⊥
stands_nowhere first wanted held y z is h ([], e) =
    not_at_end first wanted z (y, e, subst (λ v. SameText true v y) is h)
stands_nowhere first wanted held y z is h (b ∷ x, e) = no_text b (x ++ (y ++ z)) e

pub folds_alike : (d c : ℕ) → SameFold d c → simple_fold d ≡ simple_fold c
unfolding SameFold
folds_alike d c h = h
