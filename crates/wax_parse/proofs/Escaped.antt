-- Texts whose meta characters are escaped, and what they begin with.
use Rattle.std.proofs.Common.{true≢false, ◌≡◌, ◌≢◌, ℕ, Bool, true, false, List, [], ◌∷◌, ◌++◌, ◌||◌, ◌⊎◌, inl}
use Rattle.std.proofs.Common.{inr, if◌then◌else◌, refl, sym, ◌∙◌, ap, arith, append_assoc}
use Rattle.std.specs.List.{list_any}
use Rattle.wax_token.specs.Reads.{all_spelled, escapable, is_one_of, spelled}
use Rattle.wax_parse.specs.Backslash.{HasNoBackslash}

pub or_false : (a b : Bool) → (a || b) ≡ false → (a ≡ false) × (b ≡ false)
or_false true b e = absurd (true≢false e)
or_false false b e = (refl, e)

-- ---- a meta character, and one that isn't
abbrev pub IsMeta : ℕ → Type 0
IsMeta c = is_one_of escapable c ≡ true

abbrev pub IsPlain : ℕ → Type 0
IsPlain c = is_one_of escapable c ≡ false

kind : (c : ℕ) → IsMeta c ⊎ IsPlain c
kind c =
    elim (is_one_of escapable c) as (λ b. (b ≡ true) ⊎ (b ≡ false)) [ true ↦ inl refl | false ↦ inr refl ]

differ : (c d : ℕ) → IsMeta c → IsPlain d → c ≡ d → ⊥
differ c d e f g = true≢false (sym e ∙ ap (is_one_of escapable) g ∙ f)

-- ---- what is escaped
-- the text with a backslash before each meta character
abbrev pub escaped : List ℕ → List ℕ
escaped s = all_spelled escapable s

abbrev piece : ℕ → Bool → List ℕ
piece c b = if b then 92 ∷ c ∷ [] else c ∷ []

meta_escaped : (c : ℕ) (s : List ℕ) → IsMeta c → escaped (c ∷ s) ≡ 92 ∷ c ∷ escaped s
meta_escaped c s e = ap (λ b. piece c b ++ escaped s) e

plain_escaped : (c : ℕ) (s : List ℕ) → IsPlain c → escaped (c ∷ s) ≡ c ∷ escaped s
plain_escaped c s e = ap (λ b. piece c b ++ escaped s) e

pub nothing_escaped : (s : List ℕ) → list_any (is_one_of escapable) s ≡ false → s ≡ escaped s
nothing_escaped [] e = refl
nothing_escaped (c ∷ s) e =
    let h = or_false (is_one_of escapable c) (list_any (is_one_of escapable) s) e in
    ap (λ z. c ∷ z) (nothing_escaped s h.1) ∙ sym (plain_escaped c s h.0)

pub escaped_append : (s t : List ℕ) → escaped (s ++ t) ≡ escaped s ++ escaped t
escaped_append [] t = refl
escaped_append (c ∷ s) t =
    ap (λ z. spelled escapable c ++ z) (escaped_append s t)
    ∙ sym (append_assoc (spelled escapable c) (escaped s) (escaped t))

heads : (c d : ℕ) (s t : List ℕ) → c ∷ s ≡ d ∷ t → c ≡ d
heads c d s t e = cc

tails : (c d : ℕ) (s t : List ℕ) → c ∷ s ≡ d ∷ t → s ≡ t
tails c d s t e = cc

some_is_not_none : (c : ℕ) (s : List ℕ) → c ∷ s ≡ [] → ⊥
some_is_not_none c s e = cc

pub none_escaped : (s : List ℕ) → escaped s ≡ [] → s ≡ []
none_escaped [] e = refl
none_escaped (c ∷ s) e = elim (kind c) [
  | inl k ↦ absurd (some_is_not_none 92 (c ∷ escaped s) (sym (meta_escaped c s k) ∙ e))
  | inr k ↦ absurd (some_is_not_none c (escaped s) (sym (plain_escaped c s k) ∙ e))
]

-- no escaped text begins with a meta character
pub not_meta_first : (c : ℕ) (s r : List ℕ) → IsMeta c → escaped s ≡ c ∷ r → ⊥
not_meta_first c [] r m e = some_is_not_none c r (sym e)
not_meta_first c (d ∷ s) r m e = elim (kind d) [
  | inl k ↦ differ c 92 m refl (heads c 92 r (d ∷ escaped s) (sym e ∙ meta_escaped d s k))
  | inr k ↦ differ c d m k (heads c d r (escaped s) (sym e ∙ plain_escaped d s k))
]

pub slash_is_no_backslash : ◌≢◌ {A = ℕ} 47 92
slash_is_no_backslash e = omega (arith, e)

-- the text begins with f, and r is what comes after it, escaped
abbrev pub BeginsWith : List ℕ → List ℕ → List ℕ → Type 0
BeginsWith s f r = (u : List ℕ) × (s ≡ f ++ u) × (r ≡ escaped u)

-- a character that is neither meta character nor backslash
pub plain_first : (c : ℕ) (s r : List ℕ) → IsPlain c → c ≢ 92 → escaped s ≡ c ∷ r → BeginsWith s (c ∷ []) r
plain_first c [] r m n e = absurd (some_is_not_none c r (sym e))
plain_first c (d ∷ s) r m n e = elim (kind d) [
  | inl k ↦ absurd (n (heads c 92 r (d ∷ escaped s) (sym e ∙ meta_escaped d s k)))
  | inr k ↦ (
      let f : c ∷ r ≡ d ∷ escaped s = sym e ∙ plain_escaped d s k in
      (s, ap (λ z. z ∷ s) (sym (heads c d r (escaped s) f)), tails c d r (escaped s) f))
]

-- a backslash and a meta character
meta_first : (c : ℕ) (s r : List ℕ) → IsMeta c → escaped s ≡ 92 ∷ c ∷ r → BeginsWith s (c ∷ []) r
meta_first c [] r m e = absurd (some_is_not_none 92 (c ∷ r) (sym e))
meta_first c (d ∷ s) r m e = elim (kind d) [
  | inl k ↦ (
      let f : c ∷ r ≡ d ∷ escaped s = tails 92 92 (c ∷ r) (d ∷ escaped s) (sym e ∙ meta_escaped d s k) in
      (s, ap (λ z. z ∷ s) (sym (heads c d r (escaped s) f)), tails c d r (escaped s) f))
  | inr k ↦ (
      let f : c ∷ r ≡ escaped s = tails 92 d (c ∷ r) (escaped s) (sym e ∙ plain_escaped d s k) in
      absurd (not_meta_first c s r m (sym f)))
]

-- where an escaped text begins with another that has no backslash, so does the text
pub front : (f s r : List ℕ) → HasNoBackslash f → escaped s ≡ escaped f ++ r → BeginsWith s f r
front [] s r n e = (s, refl, sym e)
front (c ∷ f) s r n e =
    let h = first in
    let k = front f h.0 r n.1 (sym h.2) in
    (k.0, h.1 ∙ ap (λ z. c ∷ z) k.1, k.2)
  where
    first : BeginsWith s (c ∷ []) (escaped f ++ r)
    first = elim (kind c) [
      | inl k ↦ meta_first c s (escaped f ++ r) k (e ∙ ap (λ z. z ++ r) (meta_escaped c f k))
      | inr k ↦ plain_first c s (escaped f ++ r) k n.0 (e ∙ ap (λ z. z ++ r) (plain_escaped c f k))
    ]
