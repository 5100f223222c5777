-- Captures that are collected one after another.
use Rattle.std.proofs.Common.{◌≡◌, ◌≤◌, ℕ, suc, ◌+◌, List, [], ◌∷◌, ◌++◌, Some, None, slice_get, take, length}
use Rattle.std.proofs.Common.{encode_utf8_all, sym, ◌∙◌, ap, ap₂, append-nil, length-append, take_all, ⊎_elim}
use Rattle.std.proofs.Common.{arith, IsUtf8, chars}
use Rattle.std.proofs.lemmas.Option.{none-some, slice_get_within, get_or_from_slice_get, slice_get_cases}
use Rattle.std.proofs.{lemmas.List.{take_more, map-append}, lemmas.List.Concat.flat_map-append}
use Rattle.std.proofs.lemmas.Str.{encodes-chars}
use Rattle.std.specs.List.{flat_map}
use Rattle.wax_c.specs.Captures.{Texts, texts_of}

take_one_more : {X : Type 0} (xs : List X) (k : ℕ) (x : X) → slice_get xs k ≡ Some x
    → take (k + 1) xs ≡ take k xs ++ x ∷ []
take_one_more xs k x e =
    take_more xs k x (slice_get_within xs k x e)
    ∙ ap (λ z. take k xs ++ z ∷ []) (get_or_from_slice_get xs k x x e)

slice_get_tail : {X : Type 0} (x : X) (xs : List X) (k : ℕ) → slice_get (x ∷ xs) (k + 1) ≡ slice_get xs k
slice_get_tail x xs k = let next : k + 1 ≡ suc k = omega arith in ap (slice_get (x ∷ xs)) next

texts : List ℕ → List ℕ → Texts
texts bytes lengths = record { bytes = bytes; lengths = lengths }

-- one text more, as its bytes
abbrev pub with_text : Texts → List ℕ → Texts
with_text t bytes = record { bytes = t.bytes ++ bytes; lengths = t.lengths ++ length bytes ∷ [] }

texts_more : (captures : List (List ℕ)) (c : List ℕ)
    → texts_of (captures ++ c ∷ []) ≡ with_text (texts_of captures) (encode_utf8_all c)
unfolding texts
texts_more captures c =
    ap₂ texts
    (flat_map-append encode_utf8_all captures (c ∷ [])
    ∙ ap (λ z. flat_map encode_utf8_all captures ++ z) (append-nil (encode_utf8_all c)))
    (map-append (λ capture. length (encode_utf8_all capture)) captures (c ∷ []))

-- the next capture is after a text and the captures before it
pub collected_more : (captures : List (List ℕ)) (text part : List ℕ) (k : ℕ) (t : Texts) → IsUtf8 part
    → slice_get (text ∷ captures) (k + 1) ≡ Some (chars part) → texts_of (take k captures) ≡ t
    → texts_of (take (k + 1) captures) ≡ with_text t part
collected_more captures text part k t utf8 is before =
    ap texts_of (take_one_more captures k (chars part) (sym (slice_get_tail text captures k) ∙ is))
    ∙ texts_more (take k captures) (chars part)
    ∙ ap₂ with_text before (encodes-chars part utf8)

-- the texts and the lengths grew by the next capture
pub collected_next : (captures : List (List ℕ)) (text part : List ℕ) (old new : Texts) → IsUtf8 part
    → slice_get (text ∷ captures) (length old.lengths + 1) ≡ Some (chars part)
    → texts_of (take (length old.lengths) captures) ≡ old
    → new.bytes ≡ old.bytes ++ part → new.lengths ≡ old.lengths ++ length part ∷ []
    → texts_of (take (length new.lengths) captures) ≡ new
unfolding texts
collected_next captures text part old new utf8 is before bytes lengths =
    let grown : length new.lengths ≡ length old.lengths + 1 =
    ap length lengths ∙ length-append old.lengths (length part ∷ []) in
    ap (λ n. texts_of (take n captures)) grown
    ∙ collected_more captures text part (length old.lengths) old utf8 is before
    ∙ ap₂ texts (sym bytes) (sym lengths)

-- after the last one
pub collected_all : (captures : List (List ℕ)) (text : List ℕ) (k : ℕ) (t : Texts)
    → slice_get (text ∷ captures) (k + 1) ≡ None → texts_of (take k captures) ≡ t → texts_of captures ≡ t
collected_all captures text k t none before =
    let past : length captures ≤ k =
    ⊎_elim (λ p. absurd (none-some p.0 (sym none ∙ slice_get_tail text captures k ∙ p.2))) (λ p. p.0)
    (slice_get_cases captures k).1 in
    ap texts_of (sym (take_all k captures past)) ∙ before
