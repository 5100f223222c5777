-- Paths and candidates along names.
use Rattle.std.proofs.Common.{◌≡◌, ℕ, true, false, List, [], ◌∷◌, ◌++◌, suc, refl, ◌∙◌, append_assoc, arith}
use Rattle.std.proofs.{Common.{inl, inr}, lemmas.Bool.{cases_Bool, false_from_ne_true}}
use Rattle.std.proofs.{lemmas.Bool.Decides.Decides-eqb, lemmas.List.Elements.{All-head, All-tail}}
use Rattle.std.specs.{Prelude.All, List.{Contains, join_with_byte}}
use Rattle.wax_directory.specs.Shown.{IsPlain, join}
use Rattle.wax_query.proofs.Ends.{open_append}
use Rattle.wax_query.specs.Below.{ends_open}
use Rattle.wax_walk.specs.NamedPaths.{texts_along, start_texts, PathsAreJoined}
use Rattle.wax_walk.specs.Paths.{PathTexts, item_texts}

open_slash : (x : List ℕ) → ¬ (x ≡ []) → ends_open x ≡ true → Contains x 47
open_slash [] some e = absurd (some refl)
open_slash (c ∷ []) some e = (0, omega arith, (Decides-eqb c 47).0 e)
open_slash (c ∷ d ∷ x) some e =
    let h = open_slash (d ∷ x) (λ q. (cc)) e in (suc h.0, omega (arith, h.1), h.2)

closed_plain : (x : List ℕ) → IsPlain x → ends_open x ≡ false
closed_plain x plain = false_from_ne_true (ends_open x) (λ e. plain.one_name (open_slash x plain.not_empty e))

closed_end : (at x : List ℕ) → IsPlain x → ends_open (at ++ x) ≡ false
closed_end [] x plain = closed_plain x plain
closed_end (c ∷ []) [] plain = absurd (plain.not_empty refl)
closed_end (c ∷ []) (d ∷ x) plain = closed_plain (d ∷ x) plain
closed_end (c ∷ d ∷ at) x plain = closed_end (d ∷ at) x plain

-- after a name, a further name needs a `/`
join_twice : (at x y : List ℕ) → IsPlain x → join (join at x) y ≡ join at (x ++ 47 ∷ y)
join_twice at x y plain = elim (cases_Bool (ends_open at)) [
  | inl e ↦ rw (e, closed_end at x plain) (append_assoc at x (47 ∷ y))
  | inr e ↦ rw (e, slashed) (append_assoc at (47 ∷ x) (47 ∷ y))
] where
  slashed : ends_open (at ++ 47 ∷ x) ≡ false
  slashed = open_append at 47 x ∙ closed_end (47 ∷ []) x plain

-- a text along names
along : List ℕ → List (List ℕ) → List ℕ
along at [] = at
along at (x ∷ names) = along (join at x) names

along_joined : (at x : List ℕ) (names : List (List ℕ)) → All IsPlain (x ∷ names)
    → along at (x ∷ names) ≡ join at (join_with_byte 47 (x ∷ names))
unfolding along
along_joined at x [] plain = refl
along_joined at x (y ∷ names) plain =
    along_joined (join at x) y names (All-tail IsPlain x (y ∷ names) plain)
    ∙ join_twice at x (join_with_byte 47 (y ∷ names)) (All-head IsPlain x (y ∷ names) plain)

each_along : (at : PathTexts) (names : List (List ℕ)) → texts_along at names
    ≡ record { path = along at.path names; root = at.root; candidate = along at.candidate names }
unfolding along
each_along at [] = refl
each_along at (x ∷ names) = each_along (item_texts at x) names

pub paths_are_joined : PathsAreJoined
paths_are_joined start x names plain = each_along (start_texts start) (x ∷ names)
    ∙ rw (along_joined start x names plain, along_joined [] x names plain) refl
