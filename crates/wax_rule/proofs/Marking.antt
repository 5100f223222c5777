-- Which columns of a label's line have a mark.
use Rattle.std.proofs.Common.{◌≡◌, ◌+◌, ◌-◌, ◌^◌, ◌<◌, ◌≤◌, ◌∷◌, ℕ, List, [], max, arith, zero, suc, inl, inr}
use Rattle.std.proofs.{Common.{subst, length}, lemmas.Bool.cases_lt, lemmas.Str.len_utf8_bounds}
use Rattle.std.specs.{Prelude.◌↔◌, Char.len_utf8}
use Rattle.wax_query.specs.Spans.{Span}
use Rattle.wax_token.specs.Reads.{utf8_len}
use Rattle.wax_rule.specs.Drawn.{byte_after, columns_before}
use Rattle.wax_rule.specs.PictureLines.{byte_of_column, IsInSpan, IsColumnOf, HasCaret}
use Rattle.wax_rule.proofs.Columns.{one_more}

-- at least the one byte of a character is left after its column
pub byte_of_column_less : (e : List ℕ) (k : ℕ) → k < length e → byte_of_column e k < utf8_len e
byte_of_column_less [] k inside = omega (arith, inside)
byte_of_column_less (c ∷ e) zero inside = omega (arith, (len_utf8_bounds c).0)
byte_of_column_less (c ∷ e) (suc k) inside = omega (arith, byte_of_column_less e k (omega (arith, inside)))

past_first : (byte c : ℕ) (e : List ℕ)
    → columns_before (suc byte) (c ∷ e) ≡ 1 + columns_before (suc byte - len_utf8 c) e
past_first byte c e = one_more (suc byte) c e (grind arith)

columns_fit : (byte : ℕ) (e : List ℕ) → columns_before byte e ≤ length e
columns_fit byte [] = omega arith
columns_fit zero (c ∷ e) = omega arith
columns_fit (suc byte) (c ∷ e) = omega (arith, past_first byte c e, columns_fit (suc byte - len_utf8 c) e)

columns_are : (byte : ℕ) (e : List ℕ) (k : ℕ) → k < length e
    → (k < columns_before byte e) ↔ (byte_of_column e k < byte)
columns_are byte [] k inside = absurd (omega (arith, inside))
columns_are zero (c ∷ e) k inside = ((λ less. omega (arith, less)), (λ less. omega (arith, less)))
columns_are (suc byte) (c ∷ e) zero inside =
    ((λ less. omega arith), (λ less. omega (arith, past_first byte c e)))
columns_are (suc byte) (c ∷ e) (suc k) inside =
    let one = past_first byte c e in
    let rest = columns_are (suc byte - len_utf8 c) e k (omega (arith, inside)) in (
      (λ less. omega (arith, rest.0 (omega (arith, less, one)))),
      (λ less. omega (arith, one, rest.1 (omega (arith, less)))),
    )

-- the columns that are counted before a byte are those whose characters begin before it
pub column_of : (byte : ℕ) (e : List ℕ) → IsColumnOf e byte (columns_before byte e)
column_of byte e = record { at_most = columns_fit byte e; exactly = columns_are byte e }

not_less : (e : List ℕ) (byte a b : ℕ) → IsColumnOf e byte a → IsColumnOf e byte b → a < b → ⊥
not_less e byte a b first second less =
    let inside : a < length e = omega (arith, less, second.at_most) in
    let itself : a < a = (first.exactly a inside).1 ((second.exactly a inside).0 less) in
    omega (arith, itself)

-- and there is no other such column
only_column : (e : List ℕ) (byte a b : ℕ) → IsColumnOf e byte a → IsColumnOf e byte b → a ≡ b
only_column e byte a b first second = elim (cases_lt a b) [
  | inl less ↦ absurd (not_less e byte a b first second less)
  | inr b_to_a ↦ elim (cases_lt b a) [
    | inl less ↦ absurd (not_less e byte b a second first less)
    | inr a_to_b ↦ omega (arith, b_to_a, a_to_b)
  ]
]

-- two runs of columns with the same columns are one
pub same_run : (a m b n : ℕ) → 0 < n → ((k : ℕ) → ((a ≤ k) × (k < a + m)) ↔ ((b ≤ k) × (k < b + n)))
    → (a ≡ b) × (m ≡ n)
same_run a m b n some same =
    let first = (same b).1 (omega arith, omega (arith, some)) in
    let back = (same a).0 (omega arith, omega (arith, first.0, first.1)) in
    let last = (same (b + n - 1)).1 (omega (arith, some), omega (arith, some)) in
    let end = (same (a + m - 1)).0 (omega (arith, first.0, first.1), omega (arith, first.0, first.1)) in
    (omega (arith, first.0, back.0), omega (arith, first.0, first.1, back.0, last.1, end.1))

module _ (e : List ℕ) (span : Span) (small : utf8_len e < 2 ^ 64) where
  abbrev start : ℕ
  start = columns_before span.0 e

  abbrev end : ℕ
  end = columns_before (byte_after span) e

  in_span : (k : ℕ) → start ≤ k → k < end → IsInSpan e span k
  in_span k from before =
      let from_end = column_of (byte_after span) e in
      let inside : k < length e = omega (arith, before, from_end.at_most) in
      let after : byte_of_column e k < byte_after span = (from_end.exactly k inside).0 before in
      record {
        has_character = inside;
        from = elim (cases_lt (byte_of_column e k) span.0) [
          | inl less ↦
              let early : k < start = ((column_of span.0 e).exactly k inside).1 less in
              absurd (omega (arith, early, from))
          | inr not_less ↦ not_less
        ];
        before = omega (arith, after);
      }

  from_span : (k : ℕ) → IsInSpan e span k → (start ≤ k) × (k < end)
  from_span k in_it =
      let inside = in_it.has_character in
      let fits : byte_of_column e k < utf8_len e = byte_of_column_less e k inside in (
        elim (cases_lt k start) [
          | inl less ↦
              let early : byte_of_column e k < span.0 = ((column_of span.0 e).exactly k inside).0 less in
              absurd (omega (arith, early, in_it.from))
          | inr not_less ↦ not_less
        ],
        ((column_of (byte_after span) e).exactly k inside).1 (omega (arith, in_it.before, fits, small)),
      )

  -- the marks are in exactly the columns that have one
  pub marks_are : (k : ℕ) → ((start ≤ k) × (k < start + max 1 (end - start))) ↔ HasCaret e span k
  marks_are k = elim (cases_lt start end) [
    | inl some ↦ (
      (λ marked. inl (in_span k marked.0 (omega (arith, some, marked.0, marked.1)))),
      (λ has. elim has [
        | inl in_it ↦ let run = from_span k in_it in (run.0, omega (arith, some, run.0, run.1))
        | inr empty ↦ absurd (empty.0 start (in_span start (omega arith) some))
      ]),
    )
    | inr none ↦
        let no_column : (c : ℕ) → ¬ (IsInSpan e span c) = λ c in_it.
        let run = from_span c in_it in omega (arith, none, run.0, run.1) in (
          (λ marked.
              let same : start ≡ k = omega (arith, none, marked.0, marked.1) in
              inr (no_column, subst (λ v. IsColumnOf e span.0 v) same (column_of span.0 e))),
          (λ has. elim has [
            | inl in_it ↦ absurd (no_column k in_it)
            | inr empty ↦
                let same : start ≡ k = only_column e span.0 start k (column_of span.0 e) empty.1 in
                (omega (arith, same), omega (arith, same))
          ]),
        )
  ]
