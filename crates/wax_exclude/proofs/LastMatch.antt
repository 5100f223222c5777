-- The last line that matches a text decides.
use Rattle.std.proofs.Common.{◌≡◌, ℕ, Bool, true, false, cond, List, [], ◌∷◌, ◌++◌, ◌⊎◌, refl, ap, sym, ◌∙◌}
use Rattle.std.proofs.{Common.{inl, inr, subst}, lemmas.Bool.{cases_Bool, false≢true, false_from_ne_true}}
use Rattle.std.proofs.lemmas.List.Elements.{All-cons, All-head, All-nil, All-tail}
use Rattle.std.specs.Prelude.{IsTrue, ◌↔◌, All}
use Rattle.wax_token.specs.{Decided.{means_test, means_tested}, Meaning.Means}
use Rattle.wax_exclude.specs.{Ignored.{Line, ignored_after, is_ignored}, Deciding.IsLastMatch}

module _ {A : Type 0} (s : List ℕ) where
  -- the line doesn't match the text
  abbrev Misses : Line A → Type 0
  Misses line = ¬ (Means line.glob false false s)

  -- a line decides, and ignores
  abbrev Ignores : List (Line A) → Type 0
  Ignores lines = (line : Line A) × IsLastMatch lines s line × (line.ignores ≡ true)

  -- it is so with a line before these
  ignores_later : (line : Line A) (lines : List (Line A)) → Ignores lines → Ignores (line ∷ lines)
  ignores_later line lines h = (
    h.0,
    record {
      before = line ∷ h.1.before;
      after = h.1.after;
      split = ap (λ ls. line ∷ ls) h.1.split;
      matches = h.1.matches;
      is_last = h.1.is_last;
    },
    h.2,
  )

  -- what the lines say after others, by which the text is ignored or not
  abbrev Says : Bool → List (Line A) → Type 0
  Says was lines = Ignores lines ⊎ ((was ≡ true) × All Misses lines)

  -- the first of these lines matches or doesn't
  says_more : (line : Line A) (lines : List (Line A)) (was : Bool)
      → Says (cond (means_test line.glob false false s) line.ignores was) lines → Says was (line ∷ lines)
  says_more line lines was h = elim h [
    | inl i ↦ inl (ignores_later line lines i)
    | inr w ↦ elim (cases_Bool (means_test line.glob false false s)) [
      | inl d ↦ inl (
        line,
        record {
          before = [];
          after = lines;
          split = refl;
          matches = (means_tested line.glob false false s).0 d;
          is_last = w.1;
        },
        sym (ap (λ b. cond b line.ignores was) d) ∙ w.0,
      )
      | inr d ↦ inr (
        sym (ap (λ b. cond b line.ignores was) d) ∙ w.0,
        All-cons Misses line lines
            (λ m. false≢true (sym d ∙ (means_tested line.glob false false s).1 m)) w.1,
      )
    ]
  ]

  says_forward : (lines : List (Line A)) (was : Bool) → ignored_after was lines s ≡ true → Says was lines
  says_forward [] was e = inr (e, All-nil Misses)
  says_forward (line ∷ lines) was e = says_more line lines was
      (says_forward lines (cond (means_test line.glob false false s) line.ignores was) e)

  no_line : (line : Line A) (before after : List (Line A)) → [] ≡ before ++ line ∷ after → ⊥
  no_line line [] after e = cc
  no_line line (x ∷ before) after e = cc

  -- a line that decides is the first of these or a later one
  decided_more : (first : Line A) (lines : List (Line A)) (line : Line A) (before after : List (Line A))
      → first ∷ lines ≡ before ++ line ∷ after → Means line.glob false false s → All Misses after
      → line.ignores ≡ true
      → Ignores lines ⊎ (Means first.glob false false s × (first.ignores ≡ true) × All Misses lines)
  decided_more first lines line [] after e m l i =
      let p : first ≡ line = cc in
      let q : lines ≡ after = cc in
      inr (
        subst (λ v. Means v.glob false false s) (sym p) m,
        ap (λ v. v.ignores) p ∙ i,
        subst (All Misses) (sym q) l,
      )
  decided_more first lines line (x ∷ before) after e m l i =
      let q : lines ≡ before ++ line ∷ after = cc in
      inl (line, record { before = before; after = after; split = q; matches = m; is_last = l }, i)

  says_back : (lines : List (Line A)) (was : Bool) → Says was lines → ignored_after was lines s ≡ true
  says_back [] was (inl h) = absurd (no_line h.0 h.1.before h.1.after h.1.split)
  says_back [] was (inr h) = h.0
  says_back (line ∷ lines) was h =
      let d = means_test line.glob false false s in
      says_back lines (cond d line.ignores was) (elim h [
        | inl i ↦
            elim (decided_more line lines i.0 i.1.before i.1.after i.1.split i.1.matches i.1.is_last i.2) [
              | inl j ↦ inl j
              | inr j ↦ inr (
                ap (λ b. cond b line.ignores was) ((means_tested line.glob false false s).1 j.0) ∙ j.1,
                j.2,
              )
            ]
        | inr w ↦ inr (
          ap (λ b. cond b line.ignores was) (false_from_ne_true d
              (λ e. All-head Misses line lines w.1 ((means_tested line.glob false false s).0 e))) ∙ w.0,
          All-tail Misses line lines w.1,
        )
      ])

  pub last_match_decides : (lines : List (Line A)) → IsTrue (is_ignored lines s) ↔ Ignores lines
  last_match_decides lines = (
    (λ e. elim (says_forward lines false e) [ inl h ↦ h | inr h ↦ absurd (false≢true h.0) ]),
    (λ h. says_back lines false (inl h)),
  )
