-- Lines that decide nothing, and how they are found.
use Rattle.std.proofs.Common.{◌≡◌, ◌↔◌, ◌⊎◌, ◌∙◌, ◌<◌, ◌≤◌, ◌+◌, ◌++◌, ◌∷◌, [], ℕ, zero, suc, true, false}
use Rattle.std.proofs.Common.{List, Option, Some, None, Contains, IsPermutation, ap, arith, inl, inr, length}
use Rattle.std.proofs.Common.{length-append, refl, slice_get, subst, sym}
use Rattle.std.proofs.lemmas.Bool.{cases_eq, cases_lt, false≢true}
use Rattle.std.proofs.lemmas.List.Elements.{Contains-append_left, Contains-append_right, Contains-push}
use Rattle.std.proofs.{lemmas.List.Elements.Contains-push_cases, lemmas.List.Sorted.Contains-permutation}
use Rattle.std.proofs.{lemmas.Map.Made.Contains-tail, lemmas.Option.{none-some, same_Some, slice_get_within}}
use Rattle.std.specs.Prelude.{IfOk, Result, Ok, Err}
use Rattle.wax_compare.specs.{Comparison.IsWanted, declared.wanted.Texts.TheVariants.Paths}
use Rattle.wax_compare.specs.declared.wanted.Wanted.TheVariants.{Both, FirstOnly}
use Rattle.wax_exclude.specs.Idle.{AreIdleAmong, DecidesSome, HasEffect, IsCoveredBy, IsLastOfSome, IsPath}
use Rattle.wax_exclude.specs.Idle.{IsReason, LineIgnores, LineMeans, TakesNothing}
use Rattle.wax_exclude.specs.{Undecided.{AreGlobsAt, IsGlobAt, SomeLineMeans}, inner.Idle.AreMatchedBy}
use Rattle.wax_exclude.specs.{Ignored.Line, declared.idle.IdleLine.IdleLine}
use Rattle.wax_lazy.specs.Numbers.{IsLastNumber}
use Rattle.wax_match.proofs.Numbered.{numbered_push}
use Rattle.wax_match.specs.{Numbered.MeansNumbered, declared.encode.ends.Numbered.Numbered}
use Rattle.wax_program.specs.{Closed.IsClosed, Machine.{Accepts, mark}}
use Rattle.wax_program.specs.declared.instruction.Instruction.{Instruction}
use Rattle.wax_token.specs.{Decided.{Decided, means_decided}, Meaning.{Means, MeansSome}, Reads.Span}
use Rattle.wax_token.specs.{Syntax.Tree, Words.trees}

-- ---- what some lines mean
module _ (lines : List (Line Span)) where
  not_among : (s : List ℕ) → SomeLineMeans lines [] s → ⊥
  not_among s h = absurd (let lt : h.1.0 < 0 = h.1.1 in omega (arith, lt))

  some_first : (i : ℕ) (indexes : List ℕ) (s : List ℕ) → SomeLineMeans lines (i ∷ indexes) s
      ↔ (LineMeans lines i s ⊎ SomeLineMeans lines indexes s)
  some_first i indexes s = (
    (λ h. elim (cases_eq i h.0) [
      | inl same ↦ inl (subst (λ k. LineMeans lines k s) (sym same) h.2)
      | inr other ↦ inr (h.0, Contains-tail i indexes h.0 other h.1, h.2)
    ]),
    (λ h. elim h [
      | inl m ↦ (i, Contains-append_left (i ∷ []) indexes i (Contains-push [] i), m)
      | inr later ↦ (later.0, Contains-append_right (i ∷ []) indexes later.0 later.1, later.2)
    ]),
  )

  pub only_one : (i : ℕ) (s : List ℕ) → SomeLineMeans lines (i ∷ []) s ↔ LineMeans lines i s
  only_one i s = (
    (λ h. elim ((some_first i [] s).0 h) [ inl m ↦ m | inr n ↦ absurd (not_among s n) ]),
    (λ m. (some_first i [] s).1 (inl m)),
  )

  -- globs mean what their lines do
  pub globs_mean : (indexes : List ℕ) (globs : List (Tree Span)) → AreGlobsAt lines indexes globs
      → (s : List ℕ) → MeansSome (trees globs) false false s ↔ SomeLineMeans lines indexes s
  globs_mean [] [] at s = ((λ h. absurd h), (λ h. absurd (not_among s h)))
  globs_mean [] (t ∷ globs) at s = absurd at
  globs_mean (i ∷ indexes) [] at s = absurd at
  globs_mean (i ∷ indexes) (t ∷ globs) at s =
      let rest = globs_mean indexes globs at.1 s in
      let first = some_first i indexes s in (
        (λ h. first.1 (elim h [
          | inl m ↦ inl (record {
            line = at.0.line;
            is = at.0.is;
            means = subst (λ u. Means u false false s) at.0.glob_is m;
          })
          | inr m ↦ inr (rest.0 m)
        ])),
        (λ h. elim (first.0 h) [
          | inl m ↦ inl (subst (λ u. Means u false false s) (sym at.0.glob_is)
              (subst (λ l. Means l.glob false false s) (same_Some m.line at.0.line (sym m.is ∙ at.0.is))
              m.means))
          | inr m ↦ inr (rest.1 m)
        ]),
      )

  pub one_glob_more : (indexes : List ℕ) (globs : List (Tree Span)) (index : ℕ) (glob : Tree Span)
      → AreGlobsAt lines indexes globs → IsGlobAt lines index glob
      → AreGlobsAt lines (indexes ++ index ∷ []) (globs ++ glob ∷ [])
  one_glob_more [] [] index glob are is = (is, tt)
  one_glob_more [] (t ∷ globs) index glob are is = absurd are
  one_glob_more (i ∷ indexes) [] index glob are is = absurd are
  one_glob_more (i ∷ indexes) (t ∷ globs) index glob are is =
      (are.0, one_glob_more indexes globs index glob are.1 is)

  -- ---- whether lines mean a text
  line_decided : (i : ℕ) (s : List ℕ) → Decided (LineMeans lines i s)
  line_decided i s = at (slice_get lines i) refl
    where
      at : (found : Option (Line Span)) → slice_get lines i ≡ found → Decided (LineMeans lines i s)
      at None e = inr (λ m. none-some m.line (sym e ∙ m.is))
      at (Some line) e = elim (means_decided line.glob false false s) [
        | inl m ↦ inl (record { line = line; is = e; means = m })
        | inr n ↦ inr (λ m. n (subst (λ l. Means l.glob false false s)
            (same_Some m.line line (sym m.is ∙ e)) m.means))
      ]

  among_decided : (indexes : List ℕ) (s : List ℕ) → Decided (SomeLineMeans lines indexes s)
  among_decided [] s = inr (not_among s)
  among_decided (i ∷ indexes) s = elim (line_decided i s) [
    | inl m ↦ inl ((some_first i indexes s).1 (inl m))
    | inr n ↦ elim (among_decided indexes s) [
      | inl h ↦ inl ((some_first i indexes s).1 (inr h))
      | inr none ↦ inr (λ h. elim ((some_first i indexes s).0 h) [ inl m ↦ n m | inr later ↦ none later ])
    ]
  ]

  -- ---- lines after a line
  abbrev pub AreLater : ℕ → List ℕ → Type 0
  AreLater index covers = (k : ℕ) → Contains covers k → index < k

  -- no plain path that the line means is left
  pub covered : (index : ℕ) (covers sorted : List ℕ) → IsPermutation covers sorted → AreLater index covers
      → ((s : List ℕ) → IsWanted FirstOnly Paths (LineMeans lines index) (SomeLineMeans lines covers) s → ⊥)
      → IsCoveredBy (LineMeans lines) index sorted
  covered index covers sorted p later none s path m = elim (among_decided covers s) [
    | inl h ↦ (h.0, Contains-permutation covers sorted h.0 p h.1, later h.0 h.1, h.2)
    | inr n ↦ absurd (none s (record { scalars = path.0; among = path.1; decided = (m, n) }))
  ]

  pub one_later : (index last : ℕ) (old new : List ℕ) → new ≡ old ++ last ∷ [] → index < last
      → AreLater index old → AreLater index new
  one_later index last old new grown lt later k h =
      elim (Contains-push_cases old last k (subst (λ ks. Contains ks k) grown h)) [
        | inl was ↦ later k was
        | inr same ↦ subst (λ n. index < n) same lt
      ]

  -- ---- lines before a line
  module _ (index : ℕ) where
    -- no plain path that the line means is meant by one of the first lines that ignore
    abbrev pub TakesNoneOf : ℕ → Type 0
    TakesNoneOf count = (k : ℕ) (s : List ℕ) → k < count → LineIgnores lines k → IsPath s
        → LineMeans lines index s → LineMeans lines k s → ⊥

    pub takes_none_more : (k : ℕ)
        → ((s : List ℕ) → IsWanted Both Paths (LineMeans lines index) (SomeLineMeans lines (k ∷ [])) s → ⊥)
        → TakesNoneOf k → TakesNoneOf (k + 1)
    takes_none_more k none before j s lt ignores path m other = elim (cases_lt j k) [
      | inl earlier ↦ before j s earlier ignores path m other
      | inr past ↦ (let same : j ≡ k = omega (arith, lt, past) in
          none s (record {
            scalars = path.0;
            among = path.1;
            decided = (m, (only_one k s).1 (subst (λ n. LineMeans lines n s) same other));
          }))
    ]

    pub takes_none_of_other : (k : ℕ) (line : Line Span) → slice_get lines k ≡ Some line
        → line.ignores ≡ false → TakesNoneOf k → TakesNoneOf (k + 1)
    takes_none_of_other k line is out before j s lt ignores path m other = elim (cases_lt j k) [
      | inl earlier ↦ before j s earlier ignores path m other
      | inr past ↦ (let same : j ≡ k = omega (arith, lt, past) in
          absurd (false≢true (sym out ∙ ap (λ l. l.ignores) (same_Some line ignores.line
          (sym is ∙ ap (slice_get lines) (sym same) ∙ ignores.is)) ∙ ignores.ignores)))
    ]

    pub takes_nothing : (line : Line Span) → slice_get lines index ≡ Some line → line.ignores ≡ false
        → TakesNoneOf index → TakesNothing (LineIgnores lines) (LineMeans lines) index
    takes_nothing line is out none = record {
      re_includes =
          λ g. false≢true (sym out ∙ ap (λ l. l.ignores) (same_Some line g.line (sym is ∙ g.is)) ∙ g.ignores);
      none = λ s path t. none t.1.0 s t.1.1 t.1.2 path t.0 t.1.3;
    }

    pub takes_some : (k : ℕ) (line : Line Span) (s : List ℕ) → slice_get lines k ≡ Some line
        → line.ignores ≡ true → k < index
        → IsWanted Both Paths (LineMeans lines index) (SomeLineMeans lines (k ∷ [])) s
        → HasEffect (LineIgnores lines) (LineMeans lines) index
    takes_some k line s is ignores lt w = inr (
      s,
      (w.scalars, w.among),
      (
        w.decided.0,
        (k, lt, record { line = line; is = is; ignores = ignores }, (only_one k s).0 w.decided.1),
      ),
    )

  -- ---- the last line that means a path
  pub last_of_some : (code : List Instruction) (index : ℕ) (s : List ℕ) (last : Option ℕ)
      → AreMatchedBy lines code → IsLastNumber code s last
      → ((k : ℕ) → last ≡ Some k → k ≤ index) → IsPath s → LineMeans lines index s
      → IsLastOfSome (LineMeans lines) index
  last_of_some code index s None by none few path m = absurd (none index ((by.means index s).1 m))
  last_of_some code index s (Some k) by is few path m = record {
    path = s;
    is_path = path;
    means = m;
    is_last = λ later lt other. omega (arith, lt, few k refl, is.1 later ((by.means later s).1 other));
  }

-- ---- lines by their indexes
module _ (lines : List (Line Span)) where
  -- the patterns are those of the first lines, each with the index of its line
  abbrev pub AreOfFirst : List Numbered → ℕ → Type 0
  AreOfFirst patterns count = (k : ℕ) (s : List ℕ) → MeansNumbered patterns k s
      ↔ ((k < count) × LineMeans lines k s)

  pub line_numbered : (old : List Numbered) (i : ℕ) (line : Line Span) (p : Numbered)
      → slice_get lines i ≡ Some line → p.number ≡ i → p.pattern.now ≡ line.glob → AreOfFirst old i
      → AreOfFirst (old ++ p ∷ []) (i + 1)
  line_numbered old i line p is number pattern are k s =
      let push = numbered_push old p k s in (
        (λ h. elim (push.0 h) [
          | inl m ↦ (let at : k ≡ i = m.0 ∙ number in (
            omega (arith, at),
            subst (λ j. LineMeans lines j s) (sym at)
                (record { line = line; is = is; means = subst (λ t. Means t false false s) pattern m.1 }),
          ))
          | inr m ↦ (let n = (are k s).0 m in (omega (arith, n.0), n.1))
        ]),
        (λ h. push.1 (elim (cases_lt k i) [
          | inl lt ↦ inr ((are k s).1 (lt, h.1))
          | inr past ↦ (let same : k ≡ i = omega (arith, past, h.0) in
              let m = subst (λ j. LineMeans lines j s) same h.1 in
              inl (
                same ∙ sym number,
                subst (λ t. Means t false false s) (sym pattern)
                    (subst (λ l. Means l.glob false false s) (same_Some m.line line (sym m.is ∙ is)) m.means),
              ))
        ])),
      )

  pub all_numbered : (patterns : List Numbered) (code : List Instruction) (count : ℕ) → length lines ≤ count
      → AreOfFirst patterns count → IsClosed code
      → ((k : ℕ) (s : List ℕ) → Accepts code 0 (s ++ mark k ∷ []) ↔ MeansNumbered patterns k s)
      → AreMatchedBy lines code
  all_numbered patterns code count all are closed accepts = record {
    closed = closed;
    means = λ k s. (
      (λ a. ((are k s).0 ((accepts k s).0 a)).1),
      (λ m. (accepts k s).1 ((are k s).1 (omega (arith, all, slice_get_within lines k m.line m.is), m))),
    );
  }

-- what follows from two clauses about a value in an `Ok`
pub both_ok : {X E : Type 0} (r : Result X E) {P Q R : X → Type 0} → IfOk r P → IfOk r Q
    → ((x : X) → P x → Q x → R x) → IfOk r R
both_ok (Ok x) p q f = f x p q
both_ok (Err e) p q f = tt

-- ---- the lines that were looked at
module _ (Ignores : ℕ → Type 0) (Matches : ℕ → List ℕ → Type 0) where
  pub none_idle : (idle : List IdleLine) → idle ≡ [] → AreIdleAmong Ignores Matches 0 idle
  none_idle idle e = record {
    within = λ k x is. absurd (none-some x (sym (ap (λ xs. slice_get xs k) e) ∙ is));
    ascending = λ j k x y lt here there. absurd (none-some y (sym (ap (λ xs. slice_get xs k) e) ∙ there));
    each = λ k x is. absurd (none-some x (sym (ap (λ xs. slice_get xs k) e) ∙ is));
    others = λ i lt none. absurd (omega (arith, lt));
  }

  pub one_decides : (count : ℕ) (idle : List IdleLine) → DecidesSome Ignores Matches count
      → AreIdleAmong Ignores Matches count idle → AreIdleAmong Ignores Matches (count + 1) idle
  one_decides count idle d a = record {
    within = λ k x is. omega (arith, a.within k x is);
    ascending = a.ascending;
    each = a.each;
    others = λ i lt none. elim (cases_lt i count) [
      | inl before ↦ a.others i before none
      | inr past ↦
          (let same : count ≡ i = omega (arith, lt, past) in subst (DecidesSome Ignores Matches) same d)
    ];
  }

  pub one_idle : (count : ℕ) (old new : List IdleLine) (x : IdleLine) → new ≡ old ++ x ∷ [] → x.index ≡ count
      → IsReason Ignores Matches count x.reason
      → AreIdleAmong Ignores Matches count old → AreIdleAmong Ignores Matches (count + 1) new
  one_idle count old new x grown at reason a = record {
    within = λ k y is. elim (pushed old x k y (sym (ap (λ xs. slice_get xs k) grown) ∙ is)) [
      | inl was ↦ omega (arith, a.within k y was)
      | inr same ↦ subst (λ z. z.index < count + 1) same (omega (arith, at))
    ];
    ascending = λ j k y z lt here there.
        let bound : k < length new = slice_get_within new k z there in
        let low : j < length old = omega (arith, lt, bound, ap length grown, length-append old (x ∷ [])) in
        let early : slice_get old j ≡ Some y =
        sym (front old x j low) ∙ (sym (ap (λ xs. slice_get xs j) grown) ∙ here) in
        elim (pushed old x k z (sym (ap (λ xs. slice_get xs k) grown) ∙ there)) [
          | inl was ↦ a.ascending j k y z lt early was
          | inr same ↦ subst (λ w. y.index < w.index) same (omega (arith, a.within j y early, at))
        ];
    each = λ k y is. elim (pushed old x k y (sym (ap (λ xs. slice_get xs k) grown) ∙ is)) [
      | inl was ↦ a.each k y was
      | inr same ↦ subst (λ z. IsReason Ignores Matches z.index z.reason) same
          (subst (λ i. IsReason Ignores Matches i x.reason) (sym at) reason)
    ];
    others = λ i lt none. elim (cases_lt i count) [
      | inl before ↦
          a.others i before (λ k y was. none k y (ap (λ xs. slice_get xs k) grown ∙ kept old x k y was))
      | inr past ↦ (let same : count ≡ i = omega (arith, lt, past) in
          absurd (none (length old) x (ap (λ xs. slice_get xs (length old)) grown ∙ last old x) (at ∙ same)))
    ];
  }
    where
      last : (xs : List IdleLine) (y : IdleLine) → slice_get (xs ++ y ∷ []) (length xs) ≡ Some y
      last [] y = refl
      last (z ∷ xs) y = last xs y

      kept : (xs : List IdleLine) (y : IdleLine) (k : ℕ) (z : IdleLine) → slice_get xs k ≡ Some z
          → slice_get (xs ++ y ∷ []) k ≡ Some z
      kept [] y k z e = absurd (none-some z e)
      kept (w ∷ xs) y zero z e = e
      kept (w ∷ xs) y (suc k) z e = kept xs y k z e

      front : (xs : List IdleLine) (y : IdleLine) (j : ℕ) → j < length xs
          → slice_get (xs ++ y ∷ []) j ≡ slice_get xs j
      front [] y j low = absurd (omega (arith, low))
      front (w ∷ xs) y zero low = refl
      front (w ∷ xs) y (suc j) low = front xs y j (omega (arith, low))

      pushed : (xs : List IdleLine) (y : IdleLine) (k : ℕ) (z : IdleLine)
          → slice_get (xs ++ y ∷ []) k ≡ Some z → (slice_get xs k ≡ Some z) ⊎ (y ≡ z)
      pushed [] y zero z e = inr (same_Some y z e)
      pushed [] y (suc k) z e = absurd (none-some z e)
      pushed (w ∷ xs) y zero z e = inl e
      pushed (w ∷ xs) y (suc k) z e = pushed xs y k z e
