-- Parts of a text by places in its characters.
use Rattle.std.proofs.Common.{◌≡◌, ℕ, zero, suc, ◌+◌, ◌-◌, ◌≤◌, inl, inr, false, List, [], ◌∷◌, ◌++◌, length}
use Rattle.std.proofs.Common.{min, get_or, take, drop, refl, sym, ◌∙◌, ap, arith, length-drop, length-take}
use Rattle.std.proofs.lemmas.Bool.{cases_eq}
use Rattle.std.proofs.lemmas.List.{get_or-drop, get_or-take, drop-drop, drop-take, map-append}
use Rattle.wax_capture.specs.{Captures.tree_capture, inner.Parts.{part_between, parts}}

pub unless_slash : (x : List ℕ) → (x ≡ 47 ∷ [] → ⊥) → tree_capture false false x ≡ x
unless_slash [] h = refl
unless_slash (c ∷ []) h = elim (cases_eq c 47) [
  | inl same ↦ absurd (h (ap (λ d. d ∷ []) same))
  | inr other ↦ grind (arith, other)
]
unless_slash (c ∷ d ∷ s) h = refl

pub between_first : (s : List ℕ) (at n : ℕ) → part_between s (at + min n 1, at + n)
    ≡ drop 1 (take n (drop at s))
between_first s at zero = let e : at + 0 - (at + min 0 1) ≡ 0 = omega arith in
    ap (λ k. take k (drop (at + min 0 1) s)) e
between_first s at (suc m) =
    let e : at + suc m - (at + min (suc m) 1) ≡ m = omega arith in
    let f : at + min (suc m) 1 ≡ at + 1 = omega arith in
    let n : suc m ≡ 1 + m = omega arith in
    let g : drop 1 (take (1 + m) (drop at s)) ≡ take m (drop 1 (drop at s)) = drop-take 1 m (drop at s) in
    let d : drop 1 (drop at s) ≡ drop (at + 1) s = drop-drop 1 at s in
    ap (λ k. take k (drop (at + min (suc m) 1) s)) e ∙ ap (λ k. take m (drop k s)) f
    ∙ sym (ap (λ k. drop 1 (take k (drop at s))) n ∙ g ∙ ap (take m) d)

pub parts_push : (s : List ℕ) (places : List (ℕ × ℕ)) (a b : ℕ)
    → parts s (places ++ (a, b) ∷ []) ≡ parts s places ++ part_between s (a, b) ∷ []
parts_push s places a b = map-append (part_between s) places ((a, b) ∷ [])

-- a part that is one `/`
pub one_slash : (s : List ℕ) (at n d : ℕ) → at + n ≤ length s → take n (drop at s) ≡ 47 ∷ []
    → (n ≡ 1) × (get_or s at d ≡ 47)
one_slash s at n d within h =
    let e : length (take n (drop at s)) ≡ 1 = ap length h in
    let one : n ≡ 1 = omega (arith, e, length-take n (drop at s), length-drop at s, within) in
    let k : at ≡ at + 0 = omega arith in (
      one,
      ap (λ i. get_or s i d) k ∙ sym (get_or-drop at s 0 d)
          ∙ sym (get_or-take n (drop at s) 0 d (omega (arith, one))) ∙ ap (λ z. get_or z 0 d) h,
    )
