-- What meant texts hold within them.
use Rattle.std.proofs.Common.{◌≡◌, ℕ, zero, suc, ◌<◌, Bool, true, List, [], ◌∷◌, ◌++◌, length, get_or, chars}
use Rattle.std.proofs.Common.{encode_utf8_all, sym, ◌∙◌, ap, subst, arith, append_assoc, append-nil}
use Rattle.std.proofs.lemmas.Str.{encodes-chars, encodes-append}
use Rattle.std.specs.Str.{IsUtf8}
use Rattle.wax_token.specs.{Meaning.{Means, MeansEach}, Reads.Span, Syntax.Tree, Words.trees}

-- where the tokens mean a text, each of them means a piece of it
pub each_meant : (ts : List (Tree Span)) (i : ℕ) (t : Tree Span) → i < length ts → t ≡ get_or ts i t
    → (before after : Bool) (s : List ℕ) → MeansEach (trees ts) before after s →
    (b : Bool) × (a : Bool) × (x : List ℕ) × (y : List ℕ) × (z : List ℕ) × (s ≡ x ++ (y ++ z)) × Means t b a y
each_meant [] i t lt e before after s h = absurd (omega (arith, lt))
each_meant (u ∷ []) zero t lt e before after s h =
    (before, after, [], s, [], sym (append-nil s), subst (λ w. Means w before after s) (sym e) h)
each_meant (u ∷ []) (suc i) t lt e before after s h = absurd (omega (arith, lt))
each_meant (u ∷ v ∷ vs) zero t lt e before after s h =
    (before, true, [], h.0, h.1, h.2, subst (λ w. Means w before true h.0) (sym e) h.3)
each_meant (u ∷ v ∷ vs) (suc i) t lt e before after s h =
    let r : (b : Bool) × (a : Bool) × (x : List ℕ) × (y : List ℕ) × (z : List ℕ) × (h.1 ≡ x ++ (y ++ z))
    × Means t b a y = each_meant (v ∷ vs) i t (omega (arith, lt)) e true after h.1 h.4 in (
      r.0,
      r.1,
      h.0 ++ r.2,
      r.3,
      r.4,
      h.2 ∙ ap (λ w. h.0 ++ w) r.5 ∙ sym (append_assoc h.0 r.2 (r.3 ++ r.4)),
      r.6,
    )

-- a piece of a piece
pub regroup : (x a m v z : List ℕ) → x ++ ((a ++ (m ++ v)) ++ z) ≡ (x ++ a) ++ (m ++ (v ++ z))
regroup x a m v z = ap (λ w. x ++ w) (append_assoc a (m ++ v) z ∙ ap (λ w. a ++ w) (append_assoc m v z))
    ∙ sym (append_assoc x a (m ++ (v ++ z)))

-- the same of bytes
pub bytes_within : (text needle x t z : List ℕ) → IsUtf8 text → IsUtf8 needle → chars needle ≡ t
    → chars text ≡ x ++ (t ++ z) → text ≡ encode_utf8_all x ++ (needle ++ encode_utf8_all z)
bytes_within text needle x t z u v e f =
    sym (encodes-chars text u) ∙ ap encode_utf8_all f ∙ encodes-append x (t ++ z)
    ∙ ap (λ w. encode_utf8_all x ++ w) (encodes-append t z
    ∙ ap (λ w. w ++ encode_utf8_all z) (ap encode_utf8_all (sym e) ∙ encodes-chars needle v))
