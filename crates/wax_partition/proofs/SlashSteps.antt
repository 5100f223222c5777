-- A text without its first `/`, character after character.
use Rattle.std.proofs.Common.{◌≡◌, ℕ, ◌+◌, ◌<◌, ◌≤◌, ◌==◌, ◌||◌, Bool, true, false, not, List, [], ◌∷◌, ◌++◌}
use Rattle.std.proofs.Common.{length, drop, get_or, if◌then◌else◌, refl, sym, ◌∙◌, ap, append_assoc}
use Rattle.std.proofs.{Common.append-nil, lemmas.List.drop_all}
use Rattle.wax_facts.proofs.TextSteps.{drop_here}
use Rattle.wax_partition.specs.Kept.{without_slash}

-- what is kept of the characters to come, where the first `/` is gone or isn't
abbrev pub still : Bool → List ℕ → List ℕ
still true cs = cs
still false cs = without_slash cs

at_slash : (b : Bool) (c : ℕ) (cs : List ℕ) → (if not b then c ∷ [] else []) ++ still b cs
    ≡ (if b then cs else c ∷ without_slash cs)
at_slash true c cs = refl
at_slash false c cs = refl

one_more : (gone : Bool) (c : ℕ) (cs : List ℕ)
    → (if gone || not (c == 47) then c ∷ [] else []) ++ still (gone || (c == 47)) cs ≡ still gone (c ∷ cs)
one_more true c cs = refl
one_more false c cs = at_slash (c == 47) c cs

pub slash_step : (cs : List ℕ) (i c : ℕ) (gone : Bool) (kept all : List ℕ) → i < length cs → c ≡ get_or cs i c
    → kept ++ still gone (drop i cs) ≡ all →
    (kept ++ (if gone || not (c == 47) then c ∷ [] else [])) ++ still (gone || (c == 47))
    (drop (i + 1) cs) ≡ all
slash_step cs i c gone kept all lt e h =
    append_assoc kept (if gone || not (c == 47) then c ∷ [] else [])
    (still (gone || (c == 47)) (drop (i + 1) cs))
    ∙ ap (λ z. kept ++ z) (one_more gone c (drop (i + 1) cs) ∙ ap (still gone) (sym (drop_here cs i c lt e)))
    ∙ h

still_nil : (gone : Bool) → still gone [] ≡ []
still_nil true = refl
still_nil false = refl

pub slash_end : (cs : List ℕ) (i : ℕ) (gone : Bool) (kept all : List ℕ) → length cs ≤ i
    → kept ++ still gone (drop i cs) ≡ all → kept ≡ all
slash_end cs i gone kept all le h =
    sym (append-nil kept) ∙ ap (λ z. kept ++ z) (sym (still_nil gone))
    ∙ ap (λ z. kept ++ still gone z) (sym (drop_all i cs le)) ∙ h
