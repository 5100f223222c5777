-- What a whole expression spells.
use Rattle.std.proofs.Common.{◌≡◌, ℕ, false, List, [], ◌∷◌, sym, ◌∙◌, ap, subst, refl}
use Rattle.wax_token.specs.{Syntax.{Tree, leaf, literal}, Reads.{Span, Place, whole, start, utf8_len, Reads}}
use Rattle.wax_parse.specs.inner.Reading.{GlobFrom, Sole, Unreadable}

pub reads_empty : (e : List ℕ) (t : Tree Span) (s : Span) → e ≡ [] → s ≡ (0, 0)
    → t ≡ leaf s (literal false []) → Reads e t × ((u : Tree Span) → Reads e u → u ≡ t)
reads_empty e t s blank span made =
    let k : t ≡ leaf (0, 0) (literal false []) = made ∙ ap (λ z. leaf z (literal false [])) span in
    subst (λ z. Reads z t × ((u : Tree Span) → Reads z u → u ≡ t)) (sym blank) (k, λ u h. h ∙ sym k)

pub reads_sole : (e : List ℕ) (t : Tree Span) (q : Place) → (e ≡ [] → ⊥)
    → Sole (GlobFrom (utf8_len e) whole 128 (start e)) t q → Reads e t × ((u : Tree Span) → Reads e u → u ≡ t)
reads_sole [] t q some s = absurd (some refl)
reads_sole (c ∷ e) t q some s = ((s.0.1, q, s.0.0), λ u h. (s.1 u h.1 (h.2, h.0)).0)

pub reads_fails : (e : List ℕ) → (e ≡ [] → ⊥) → Unreadable (GlobFrom (utf8_len e) whole 128 (start e))
    → (t : Tree Span) → Reads e t → ⊥
reads_fails [] some s t h = some refl
reads_fails (c ∷ e) some s t h = s t h.1 (h.2, h.0)
