-- The numbers that the alternatives of lines get.
use Rattle.std.proofs.Common.{◌≡◌, ◌↔◌, ℕ, zero, suc, ◌≤◌, ◌<◌, ◌+◌, Bool, true, false, ◌&&◌, ◌||◌, cond, ◌⊎◌}
use Rattle.std.proofs.Common.{List, [], ◌∷◌, ◌++◌, drop, length, get_or, refl, sym, ◌∙◌, ap, subst, inl, inr}
use Rattle.std.proofs.{Common.{arith, nat_le}, lemmas.Bool.{cases_lt, le-leb, lt-leb}, lemmas.List.drop_more}
use Rattle.std.specs.List.{list_any}
use Rattle.wax_match.proofs.Numbered.{numbered_push}
use Rattle.wax_match.specs.{Numbered.MeansNumbered, declared.encode.ends.Numbered.Numbered}
use Rattle.wax_token.specs.{Meaning.Means, Reads.Span, Syntax.Tree, Words.members}
use Rattle.wax_exclude.proofs.Tests.{and_true}
use Rattle.wax_exclude.specs.{Covers.{ends_wild, some_everything}, declared.split.SplitLine.SplitLine}
use Rattle.wax_exclude.specs.inner.Listed.{none_reincludes}
use Rattle.wax_exclude.specs.inner.Numbers.{HasMatch, IsSettledFrom, MatchesBy, covers_everything}
use Rattle.wax_exclude.specs.inner.Numbers.{number_after}

-- numbered patterns and what is left to number, as a whole
module _ (Whole : ℕ → List ℕ → Type 0) where
  abbrev pub Completes : List Numbered → (ℕ → List ℕ → Type 0) → Type 0
  Completes patterns Left = (k : ℕ) (s : List ℕ) → (MeansNumbered patterns k s ⊎ Left k s) ↔ Whole k s

  -- one more alternative
  pub alternative_added : (own above i : ℕ) (ts : List (Tree Span)) (t : Tree Span)
      (old new : List Numbered) (p : Numbered)
      → i < length ts → t ≡ get_or ts i t → new ≡ old ++ p ∷ []
      → p.number ≡ cond (ends_wild (members t)) above own → p.pattern.now ≡ t
      → Completes old (MatchesBy own above (drop i ts))
      → Completes new (MatchesBy own above (drop (i + 1) ts))
  alternative_added own above i ts t old new p lt is grown number pattern all k s =
      let split : drop i ts ≡ t ∷ drop (i + 1) ts =
      drop_more ts i t lt ∙ ap (λ u. u ∷ drop (i + 1) ts) (sym is) in
      let push = numbered_push old p k s in (
        (λ h. elim h [
          | inl m ↦ elim (push.0 (subst (λ ps. MeansNumbered ps k s) grown m)) [
            | inl one ↦ (all k s).0 (inr (subst (λ us. MatchesBy own above us k s) (sym split)
                (inl (one.0 ∙ number, subst (λ u. Means u false false s) pattern one.1))))
            | inr was ↦ (all k s).0 (inl was)
          ]
          | inr left ↦ (all k s).0 (inr (subst (λ us. MatchesBy own above us k s) (sym split) (inr left)))
        ]),
        (λ w. elim ((all k s).1 w) [
          | inl was ↦ inl (subst (λ ps. MeansNumbered ps k s) (sym grown) (push.1 (inr was)))
          | inr left ↦ elim (subst (λ us. MatchesBy own above us k s) split left) [
            | inl one ↦ inl (subst (λ ps. MeansNumbered ps k s) (sym grown)
                (push.1 (inl (one.0 ∙ sym number, subst (λ u. Means u false false s) (sym pattern) one.1))))
            | inr rest ↦ inr rest
          ]
        ]),
      )

  -- one more line
  pub line_added : (top before number covering i : ℕ) (lines : List SplitLine) (line : SplitLine)
      (old new : List Numbered)
      → i < length lines → line ≡ get_or lines i line → number ≡ number_after before line.ignores
      → covering ≡ cond (none_reincludes (drop i lines)) top number
      → ((k : ℕ) (s : List ℕ) → MeansNumbered new k s
      ↔ (MeansNumbered old k s ⊎ MatchesBy number covering line.alternatives k s))
      → Completes old (HasMatch top before (drop i lines))
      → Completes new (HasMatch top number (drop (i + 1) lines))
  line_added top before number covering i lines line old new lt is n c added all k s =
      let split : drop i lines ≡ line ∷ drop (i + 1) lines =
      drop_more lines i line lt ∙ ap (λ l. l ∷ drop (i + 1) lines) (sym is) in
      let own = number_after before line.ignores in
      let above : covering ≡ cond (none_reincludes (line ∷ drop (i + 1) lines)) top own =
      c ∙ ap (λ ls. cond (none_reincludes ls) top number) split
      ∙ ap (λ m. cond (none_reincludes (line ∷ drop (i + 1) lines)) top m) n in
      let here : MatchesBy number covering line.alternatives k s
      ≡ MatchesBy own (cond (none_reincludes (line ∷ drop (i + 1) lines)) top own) line.alternatives k s =
      (λ j. MatchesBy (n j) (above j) line.alternatives k s) in
      let rest : HasMatch top number (drop (i + 1) lines) k s ≡ HasMatch top own (drop (i + 1) lines) k s =
      ap (λ m. HasMatch top m (drop (i + 1) lines) k s) n in
      let push = added k s in (
        (λ h. elim h [
          | inl m ↦ elim (push.0 m) [
            | inl was ↦ (all k s).0 (inl was)
            | inr one ↦ (all k s).0
                (inr (subst (λ ls. HasMatch top before ls k s) (sym split) (inl (subst (λ T. T) here one))))
          ]
          | inr left ↦ (all k s).0
              (inr (subst (λ ls. HasMatch top before ls k s) (sym split) (inr (subst (λ T. T) rest left))))
        ]),
        (λ w. elim ((all k s).1 w) [
          | inl was ↦ inl (push.1 (inl was))
          | inr left ↦ elim (subst (λ ls. HasMatch top before ls k s) split left) [
            | inl one ↦ inl (push.1 (inr (subst (λ T. T) (sym here) one)))
            | inr more ↦ inr (subst (λ T. T) (sym rest) more)
          ]
        ]),
      )

-- ---- the last line that re-includes
all_later : (lines : List SplitLine) (m i : ℕ) → none_reincludes (drop m lines) ≡ true → m ≤ i
    → none_reincludes (drop i lines) ≡ true
all_later [] m i h le = none_left i
  where
    none_left : (n : ℕ) → none_reincludes (drop n []) ≡ true
    none_left zero = refl
    none_left (suc n) = refl
all_later (line ∷ lines) zero zero h le = h
all_later (line ∷ lines) zero (suc i) h le =
    all_later lines zero i (and_true line.ignores (none_reincludes lines) h).1 (omega arith)
all_later (line ∷ lines) (suc m) zero h le = absurd (omega (arith, le))
all_later (line ∷ lines) (suc m) (suc i) h le = all_later lines m i h (omega (arith, le))

some_later : (lines : List SplitLine) (m i : ℕ) (line : SplitLine) → m < length lines
    → get_or lines m line ≡ line → line.ignores ≡ false → i ≤ m
    → none_reincludes (drop i lines) ≡ false
some_later [] m i line lt at out le = absurd (omega (arith, lt))
some_later (l ∷ lines) zero zero line lt at out le =
    ap (λ b. b && none_reincludes lines) (ap (λ z. z.ignores) at ∙ out)
some_later (l ∷ lines) zero (suc i) line lt at out le = absurd (omega (arith, le))
some_later (l ∷ lines) (suc m) zero line lt at out le =
    ap (λ b. l.ignores && b) (some_later lines m zero line (omega (arith, lt)) at out (omega arith))
    ∙ and_false l.ignores
  where
    and_false : (b : Bool) → (b && false) ≡ false
    and_false true = refl
    and_false false = refl
some_later (l ∷ lines) (suc m) (suc i) line lt at out le =
    some_later lines m i line (omega (arith, lt)) at out (omega (arith, le))

pub settled_at_start : (lines : List SplitLine) (settled : ℕ) → settled ≡ 0
    → none_reincludes (drop settled lines) ≡ true → IsSettledFrom lines settled
settled_at_start lines settled none h = record {
  within = omega (arith, none);
  marks =
      λ i. all_later lines settled i h (omega (arith, none)) ∙ sym (le-leb settled i (omega (arith, none)));
}

pub settled_after : (lines : List SplitLine) (settled at : ℕ) (line : SplitLine) → settled ≤ length lines
    → settled ≡ at + 1 → get_or lines at line ≡ line → line.ignores ≡ false
    → none_reincludes (drop settled lines) ≡ true → IsSettledFrom lines settled
settled_after lines settled at line within e here out h = record {
  within = within;
  marks = λ i. elim (cases i) [
    | inl le ↦ all_later lines settled i h le ∙ sym (le-leb settled i le)
    | inr gt ↦ some_later lines at i line (omega (arith, within, e)) here out (omega (arith, gt, e))
        ∙ sym (lt-leb settled i gt)
  ];
}
  where
    cases : (i : ℕ) → (settled ≤ i) ⊎ (i < settled)
    cases i = elim (cases_lt i settled) [ inl lt ↦ inr lt | inr le ↦ inl le ]

-- ---- what covers everything
abbrev pub Everything : SplitLine → Bool
Everything line = some_everything line.alternatives

any_settled : (lines : List SplitLine) → none_reincludes lines ≡ true
    → list_any Everything lines ≡ covers_everything lines
any_settled [] h = refl
any_settled (line ∷ lines) h =
    ap (λ b. Everything line || b) (any_settled lines (and_true line.ignores (none_reincludes lines) h).1)
    ∙ sym (ap (λ b. (b && Everything line) || covers_everything lines) h)

suc_le : (n i : ℕ) → nat_le (suc n) (suc i) ≡ nat_le n i
suc_le n i = elim (cases_lt i n) [
  | inl lt ↦ lt-leb (suc n) (suc i) (omega (arith, lt)) ∙ sym (lt-leb n i lt)
  | inr le ↦ le-leb (suc n) (suc i) (omega (arith, le)) ∙ sym (le-leb n i le)
]

pub any_from : (lines : List SplitLine) (settled : ℕ)
    → ((i : ℕ) → none_reincludes (drop i lines) ≡ nat_le settled i)
    → list_any Everything (drop settled lines) ≡ covers_everything lines
any_from lines zero marks = any_settled lines (marks zero ∙ le-leb zero zero (omega arith))
any_from [] (suc n) marks = refl
any_from (line ∷ lines) (suc n) marks =
    any_from lines n (λ i. marks (suc i) ∙ suc_le n i)
    ∙ sym (ap (λ b. (b && Everything line) || covers_everything lines)
    (marks zero ∙ lt-leb (suc n) zero (omega arith)))
