-- Texts of literals: they have no `/` and no backslash.
use Rattle.std.proofs.Common.{true≢false, ◌≡◌, ◌≢◌, ℕ, Bool, false, List, [], ◌∷◌, ◌++◌, ◌||◌, ◌==◌, inl, inr}
use Rattle.std.proofs.{Common.{refl, sym, ◌∙◌}, lemmas.Bool.Decides.eqb_tells}
use Rattle.std.specs.List.{list_any}
use Rattle.wax_token.specs.{Meaning.HasNoSlash, Reads.is_one_of}
use Rattle.wax_parse.specs.Backslash.{HasNoBackslash}
use Rattle.wax_parse.proofs.Escaped.{or_false}

unequal : (c d : ℕ) → (c == d) ≡ false → d ≢ c
unequal c d e f = elim (eqb_tells c d) [ inl h ↦ true≢false (sym h.0 ∙ e) | inr h ↦ h.1 (sym f) ]

unequal_test : (c d : ℕ) → d ≢ c → (c == d) ≡ false
unequal_test c d n = elim (eqb_tells c d) [ inl h ↦ absurd (n (sym h.1)) | inr h ↦ h.0 ]

abbrev has_slash_or_backslash : List ℕ → Bool
has_slash_or_backslash t = list_any (is_one_of (47 ∷ 92 ∷ [])) t

pub literal_text : (t : List ℕ) → has_slash_or_backslash t ≡ false → HasNoBackslash t
literal_text [] e = tt
literal_text (c ∷ t) e =
    let h = or_false (is_one_of (47 ∷ 92 ∷ []) c) (has_slash_or_backslash t) e in
    let k = or_false (47 == c) ((92 == c) || false) h.0 in
    let l = or_false (92 == c) false k.1 in
    (unequal 92 c l.0, literal_text t h.1)

pub is_literal_text : (t : List ℕ) → HasNoSlash t → HasNoBackslash t → has_slash_or_backslash t ≡ false
is_literal_text [] h n = refl
is_literal_text (c ∷ t) h n = rw (unequal_test 47 c h.0, unequal_test 92 c n.0) (is_literal_text t h.1 n.1)

-- ---- texts in a row
pub backslash_append : (s t : List ℕ) → HasNoBackslash s → HasNoBackslash t → HasNoBackslash (s ++ t)
backslash_append [] t h k = k
backslash_append (c ∷ s) t h k = (h.0, backslash_append s t h.1 k)

pub backslash_front : (s t : List ℕ) → HasNoBackslash (s ++ t) → HasNoBackslash s
backslash_front [] t h = tt
backslash_front (c ∷ s) t h = (h.0, backslash_front s t h.1)

pub backslash_rest : (s t : List ℕ) → HasNoBackslash (s ++ t) → HasNoBackslash t
backslash_rest [] t h = h
backslash_rest (c ∷ s) t h = backslash_rest s t h.1
