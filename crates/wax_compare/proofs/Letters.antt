-- Each character is in a block, and no cut is between two of a block.
use Rattle.std.proofs.Common.{◌≡◌, ◌+◌, ◌<◌, ◌≤◌, ◌⊎◌, ℕ, zero, suc, List, Contains, length, get_or, sym, ◌∙◌}
use Rattle.std.proofs.{Common.{subst, inl, inr, arith}, lemmas.Bool.cases_lt}
use Rattle.std.proofs.lemmas.List.{get_or_default, get_or_past}
use Rattle.std.specs.{List.Sorted.IsNonDecreasing, Char.IsScalar}
use Rattle.wax_program.specs.declared.instruction.Instruction.{Instruction}
use Rattle.wax_compare.specs.Cuts.{AreLetters, CutApart, SameBlock, StandsFor}
use Rattle.wax_compare.specs.inner.Cutting.{AreKept, HasLetter, IsCutOut, IsInBlock, Serve}
use Rattle.wax_compare.proofs.Blocks.{cut_out, scalar_small, turned}

module _ (cuts : List ℕ) (rises : IsNonDecreasing cuts) where
  up : (i j : ℕ) → i ≤ j → j < length cuts → get_or cuts i 0 ≤ get_or cuts j 0
  up i j le lt = rises i j 0 le lt

  -- a cut is at most the first character of the block, or beyond its last one
  pub sided : (i p : ℕ) → i < length cuts → Contains cuts p → (p ≤ get_or cuts i 0)
      ⊎ (get_or cuts (i + 1) 1114112 ≤ p)
  sided i p within has =
      let is : get_or cuts has.0 0 ≡ p = get_or_default cuts has.0 0 p has.1 ∙ has.2 in
      elim (cases_lt i has.0) [
        | inl after ↦ inr (let le : get_or cuts (i + 1) 0 ≤ get_or cuts has.0 0 =
            up (i + 1) has.0 (omega (arith, after)) has.1 in
            let same : get_or cuts (i + 1) 0 ≡ get_or cuts (i + 1) 1114112 =
            get_or_default cuts (i + 1) 0 1114112 (omega (arith, after, has.1)) in
            omega (arith, le, same, is))
        | inr before ↦ inl (let le : get_or cuts has.0 0 ≤ get_or cuts i 0 = up has.0 i before within in
            omega (arith, le, is))
      ]

  below : (i c d p : ℕ) → i < length cuts → IsInBlock cuts i c → IsInBlock cuts i d
      → Contains cuts p → p ≤ c → p ≤ d
  below i c d p within inc ind has le = elim (sided i p within has) [
    | inl low ↦ omega (arith, low, ind.0)
    | inr high ↦ (let no : ⊥ = omega (arith, high, inc.1, le) in absurd no)
  ]

  pub block_same : (i c d : ℕ) → i < length cuts → IsInBlock cuts i c
      → IsInBlock cuts i d → SameBlock cuts c d
  block_same i c d within inc ind p has = (below i c d p within inc ind has, below i d c p within ind inc has)

  -- the block of a character, looked for from one that begins before it
  block_from : (fuel i c : ℕ) → fuel + i ≡ length cuts → i < length cuts → get_or cuts i 0 ≤ c → c < 1114112
      → (j : ℕ) × (j < length cuts) × IsInBlock cuts j c
  block_from zero i c e lt le small = (let no : ⊥ = omega (arith, e, lt) in absurd no)
  block_from (suc fuel) i c e lt le small = elim (cases_lt (i + 1) (length cuts)) [
    | inr last ↦ (i, lt, (le, subst (λ z. c < z) (sym (get_or_past cuts (i + 1) 1114112 last)) small))
    | inl more ↦ elim (cases_lt c (get_or cuts (i + 1) 1114112)) [
      | inl before ↦ (i, lt, (le, before))
      | inr after ↦ (let same : get_or cuts (i + 1) 0 ≡ get_or cuts (i + 1) 1114112 =
          get_or_default cuts (i + 1) 0 1114112 more in
          block_from fuel (i + 1) c (omega (arith, e)) more (omega (arith, same, after)) small)
    ]
  ]

  pub some_block : (c : ℕ) → Contains cuts 0 → c < 1114112 → (j : ℕ) × (j < length cuts) × IsInBlock cuts j c
  some_block c zeroth small =
      let first : get_or cuts 0 0 ≤ get_or cuts zeroth.0 0 = up 0 zeroth.0 (omega arith) zeroth.1 in
      block_from (length cuts) 0 c (omega arith) (omega (arith, zeroth.1))
      (omega (arith, first, zeroth.2)) small

-- one more block
pub serve_more : (cuts old new : List ℕ) (n : ℕ) → AreKept old new → Serve cuts old n
    → ((c : ℕ) → IsScalar c → IsInBlock cuts n c → HasLetter cuts new c) → Serve cuts new (n + 1)
serve_more cuts old new n kept before now i c lt scalar in' = elim (cases_lt i n) [
  | inl less ↦ (let h = before i c less scalar in' in (h.0, kept h.0 h.1, h.2, h.3))
  | inr past ↦
      (let same : i ≡ n = omega (arith, lt, past) in now c scalar (subst (λ k. IsInBlock cuts k c) same in'))
]

-- all blocks
pub letters_stand : (code other : List Instruction) (cuts letters sorted : List ℕ) → IsNonDecreasing cuts
    → Contains cuts 0 → IsCutOut cuts 47 → CutApart code cuts → CutApart other cuts
    → Serve cuts letters (length cuts) → AreKept letters sorted → AreLetters code other sorted
letters_stand code other cuts letters sorted rises zeroth slash one two serves kept c scalar =
    let small = scalar_small c scalar in
    let block = some_block cuts rises c zeroth small in
    let h = serves block.0 c block.1 scalar block.2 in
    let stands : StandsFor code other h.0 c = record {
      first = one c h.0 small h.2 h.3;
      second = two c h.0 small h.2 h.3;
      slash = (cut_out cuts c h.0 h.3 47 slash, cut_out cuts h.0 c (turned cuts c h.0 h.3) 47 slash);
    } in
    (h.0, kept h.0 h.1, stands)
