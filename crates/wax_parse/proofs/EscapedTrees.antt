-- The tree that an escaped text without backslash spells: longest literals and separators.
use Rattle.std.proofs.Common.{◌≡◌, ℕ, zero, suc, ◌+◌, ◌-◌, ◌≤◌, Bool, true, false, List, [], ◌∷◌, ◌++◌}
use Rattle.std.proofs.Common.{length, inl, inr, refl, sym, ◌∙◌, ap, subst, arith, length-append}
use Rattle.std.proofs.lemmas.Bool.{cases_eq}
use Rattle.wax_token.specs.Meaning.{HasNoSlash}
use Rattle.wax_token.specs.Reads.{IsSpan, NoLiteralFollows, Place, Reads, ReadsToken, ReadsTokens, Span}
use Rattle.wax_token.specs.Reads.{deepest, no_flags, start, utf8_len, whole}
use Rattle.wax_token.specs.Syntax.{Leaf, literal, separator, Tree, leaf, concatenation, Trees, none, more}
use Rattle.wax_parse.specs.Backslash.{HasNoBackslash}
use Rattle.wax_parse.proofs.Escaped.{escaped, escaped_append}
use Rattle.wax_parse.proofs.{Literals.{backslash_front, backslash_rest, is_literal_text}, Meant.treeless}

bytes_append : (s t : List ℕ) → utf8_len (s ++ t) ≡ utf8_len s + utf8_len t
bytes_append [] t = omega arith
bytes_append (c ∷ s) t = omega (arith, bytes_append s t)

-- a longest beginning without `/`
abbrev Run : List ℕ → Type 0
Run s = (t r : List ℕ) × (s ≡ t ++ r) × HasNoSlash t × NoLiteralFollows (escaped r)

run : (s : List ℕ) → Run s
run [] = ([], [], refl, tt, tt)
run (c ∷ s) = elim (cases_eq c 47) [
  | inl e ↦ ([], c ∷ s, refl, tt, subst (λ z. NoLiteralFollows (escaped (z ∷ s))) (sym e) refl)
  | inr n ↦ (let h = run s in (c ∷ h.0, h.1, ap (λ z. c ∷ z) h.2, (n, h.3), h.4))
]

-- the place before an escaped text
abbrev before : List ℕ → Place
before s = start (escaped s)

module _ (size : ℕ) where
  -- the span of t, which r follows
  abbrev span : List ℕ → List ℕ → Span
  span t r = (size - utf8_len (escaped t ++ escaped r), utf8_len (escaped t))

  is_span : (t r : List ℕ) → utf8_len (escaped t ++ escaped r) ≤ size →
      IsSpan size (span t r) (start (escaped t ++ escaped r)) (before r)
  is_span t r l = (omega (arith, l), sym (bytes_append (escaped t) (escaped r)))

  -- a first token of the escaped text s, and the shorter text r after it
  abbrev First : Bool → List ℕ → Type 0
  First first s = (k : Span) × (l : Leaf) × (r : List ℕ) × (length r + 1 ≤ length s) × HasNoBackslash r
      × (utf8_len (escaped r) ≤ size) × ReadsToken size (leaf k l) whole first (before s) (before r)

  slash_first : (first : Bool) (s : List ℕ) → HasNoBackslash s → utf8_len (escaped (47 ∷ s)) ≤ size →
      First first (47 ∷ s)
  slash_first first s n l = (
    span (47 ∷ []) s,
    separator,
    s,
    omega arith,
    n,
    omega (arith, l),
    (before (47 ∷ s), no_flags, ((refl, refl), λ q. treeless (before s) q s refl), is_span (47 ∷ []) s l),
  )

  literal_first : (first : Bool) (c : ℕ) (t r : List ℕ) → HasNoSlash (c ∷ t) → HasNoBackslash ((c ∷ t) ++ r) →
      NoLiteralFollows (escaped r) → utf8_len (escaped (c ∷ t) ++ escaped r) ≤ size
      → First first ((c ∷ t) ++ r)
  literal_first first c t r h n f l =
      let e : escaped ((c ∷ t) ++ r) ≡ escaped (c ∷ t) ++ escaped r = escaped_append (c ∷ t) r in
      let b : HasNoBackslash (c ∷ t) = backslash_front (c ∷ t) r n in (
        span (c ∷ t) r,
        literal false (c ∷ t),
        r,
        omega (arith, length-append t r),
        backslash_rest (c ∷ t) r n,
        omega (arith, l, bytes_append (escaped (c ∷ t)) (escaped r)),
        (
          before ((c ∷ t) ++ r),
          no_flags,
          (refl, ((λ g. (cc)), is_literal_text (c ∷ t) h b), (e, refl), f),
          subst (λ z. IsSpan size (span (c ∷ t) r) (start z) (before r)) (sym e) (is_span (c ∷ t) r l),
        ),
      )

  run_first : (first : Bool) (c : ℕ) (s : List ℕ) → HasNoSlash (c ∷ []) → HasNoBackslash (c ∷ s) →
      utf8_len (escaped (c ∷ s)) ≤ size → First first (c ∷ s)
  run_first first c s d n l =
      let h = run s in
      let e : c ∷ s ≡ (c ∷ h.0) ++ h.1 = ap (λ z. c ∷ z) h.2 in
      let f : escaped (c ∷ s) ≡ escaped (c ∷ h.0) ++ escaped h.1 =
      ap escaped e ∙ escaped_append (c ∷ h.0) h.1 in
      let m : utf8_len (escaped (c ∷ h.0) ++ escaped h.1) ≤ size = subst (λ z. utf8_len z ≤ size) f l in
      let g : First first ((c ∷ h.0) ++ h.1) =
      literal_first first c h.0 h.1 (d.0, h.3) (subst HasNoBackslash e n) h.4 m in
      subst (First first) (sym e) g

  first_token : (first : Bool) (c : ℕ) (s : List ℕ) → HasNoBackslash (c ∷ s)
      → utf8_len (escaped (c ∷ s)) ≤ size →
      First first (c ∷ s)
  first_token first c s n l = elim (cases_eq c 47) [
    | inl e ↦ (
        let m : utf8_len (escaped (47 ∷ s)) ≤ size = subst (λ z. utf8_len (escaped (z ∷ s)) ≤ size) e l in
        subst (λ z. First first (z ∷ s)) (sym e) (slash_first first s n.1 m))
    | inr d ↦ run_first first c s (d, tt) n l
  ]

  -- tokens that are leaves
  abbrev Tokens : Bool → List ℕ → Type 0
  Tokens first s =
      (ts : Trees Span) × ReadsTokens size ts whole first (before s) (before []) × (deepest ts ≡ 0)

  tokens : (n : ℕ) (first : Bool) (s : List ℕ) → length s ≤ n → HasNoBackslash s
      → utf8_len (escaped s) ≤ size →
      Tokens first s
  tokens n first [] k h l = (none, refl, refl)
  tokens zero first (c ∷ s) k h l = absurd (omega (arith, k))
  tokens (suc n) first (c ∷ s) k h l =
      let f = first_token first c s h l in
      let g = tokens n false f.2 (omega (arith, k, f.3)) f.4 f.5 in
      (more (leaf f.0 f.1) g.0, (before f.2, f.6, g.1), omega (arith, g.2))

-- a text without backslash is spelled by the escaped text
pub spells : (e s : List ℕ) → e ≡ escaped s → HasNoBackslash s → (t : Tree Span) × Reads e t
spells e [] f n = subst (λ z. (t : Tree Span) × Reads z t) (sym f) (leaf (0, 0) (literal false []), refl)
spells [] (c ∷ s) f n = (leaf (0, 0) (literal false []), refl)
spells (d ∷ e) (c ∷ s) f n =
    let size : ℕ = utf8_len (d ∷ e) in
    let l : utf8_len (escaped (c ∷ s)) ≤ size = subst (λ z. utf8_len z ≤ size) f (omega arith) in
    let h = tokens size (length (c ∷ s)) true (c ∷ s) (omega arith) n l in
    let g = subst (λ z. ReadsTokens size h.0 whole true (start z) (start [])) (sym f) h.1 in (
      concatenation (0, size) h.0,
      (omega (arith, h.2), start [], ((λ b. (cc)), g, (omega arith, omega arith), refl)),
    )
