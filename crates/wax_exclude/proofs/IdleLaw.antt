-- Without lines that decide nothing, a list ignores the same plain paths.
use Rattle.std.proofs.Common.{◌≡◌, ◌≢◌, ◌∙◌, ◌⊎◌, ◌<◌, ◌==◌, ◌++◌, ◌∷◌, [], ℕ, zero, suc, Bool, true, false}
use Rattle.std.proofs.Common.{cond, Contains, List, Some, ap, arith, eq-eqb, inl, inr, length, map, refl}
use Rattle.std.proofs.Common.{slice_get, sym, subst}
use Rattle.std.proofs.lemmas.Bool.{cases_Bool, cases_eq, cases_lt, eqb-true, false_from_ne_true, false≢true}
use Rattle.std.proofs.{lemmas.List.Elements.Contains-append_right, lemmas.Option.{none-some, same_Some}}
use Rattle.std.specs.{List.list_any, Prelude.filter}
use Rattle.wax_exclude.proofs.Tests.{or_true}
use Rattle.wax_exclude.specs.Idle.{AllIdleLinesCanGo, DecidesNothing, IdleLinesCanGo, IdleLinesCanGoTogether}
use Rattle.wax_exclude.specs.Idle.{IsPath, IsReason, LineIgnores, LineMeans, TakesNothing, drop_where}
use Rattle.wax_exclude.specs.{Idle.{is_known, known_indexes}, declared.idle.IdleLine.IdleLine}
use Rattle.wax_exclude.specs.declared.idle.IdleReason.{IdleReason}
use Rattle.wax_exclude.specs.declared.idle.IdleReason.TheVariants.{Covered, TakesNothingBack, Unknown}
use Rattle.wax_exclude.specs.Ignored.{Line, ignored_after, is_ignored}
use Rattle.wax_token.specs.{Decided.{means_test, means_tested}, Meaning.Means, Reads.Span}

-- where no line goes, all stay
none_goes : (lines : List (Line Span)) (goes : ℕ → Bool) → ((k : ℕ) → goes k ≡ false)
    → drop_where goes lines ≡ lines
none_goes [] goes none = refl
none_goes (line ∷ lines) goes none =
    let rest = drop_where (λ k. goes (suc k)) lines in
    ap (λ g. cond g rest (line ∷ rest)) (none 0)
    ∙ ap (λ ls. line ∷ ls) (none_goes lines (λ k. goes (suc k)) (λ k. none (suc k)))

-- the line after some others goes alone
one_goes : (before after : List (Line Span)) (line : Line Span) (goes : ℕ → Bool)
    → goes (length before) ≡ true → ((k : ℕ) → goes k ≡ true → k ≡ length before)
    → drop_where goes (before ++ line ∷ after) ≡ before ++ after
one_goes [] after line goes is only =
    let rest = drop_where (λ k. goes (suc k)) after in
    ap (λ g. cond g rest (line ∷ rest)) is ∙ none_goes after (λ k. goes (suc k)) (λ k.
    false_from_ne_true (goes (suc k)) (λ e. let at : suc k ≡ 0 = only (suc k) e in omega (arith, at)))
one_goes (first ∷ before) after line goes is only =
    let rest = drop_where (λ k. goes (suc k)) (before ++ line ∷ after) in
    ap (λ g. cond g rest (first ∷ rest)) (false_from_ne_true (goes 0) (λ e.
    let at : 0 ≡ suc (length before) = only 0 e in omega (arith, at)))
    ∙ ap (λ ls. first ∷ ls) (one_goes before after line (λ k. goes (suc k)) is (λ k e.
    let at : suc k ≡ suc (length before) = only (suc k) e in omega (arith, at)))

module _ (s : List ℕ) where
  -- what is said after a line
  abbrev Said : Line Span → Bool → Bool
  Said line was = cond (means_test line.glob false false s) line.ignores was

  abbrev NoneMeans : List (Line Span) → Type 0
  NoneMeans lines = (k : ℕ) → LineMeans lines k s → ⊥

  -- no line after the one with this index means the text
  abbrev IsLast : List (Line Span) → ℕ → Type 0
  IsLast lines k = (later : ℕ) → k < later → LineMeans lines later s → ⊥

  module _ (line : Line Span) (lines : List (Line Span)) where
    -- a line that goes says nothing
    after_first : (rest : List (Line Span)) (gone was : Bool)
        → ignored_after was (cond gone rest (line ∷ rest)) s
        ≡ ignored_after (cond gone was (Said line was)) rest s
    after_first rest true was = refl
    after_first rest false was = refl

    means_first : Means line.glob false false s → LineMeans (line ∷ lines) 0 s
    means_first m = record { line = line; is = refl; means = m }

    means_later : (k : ℕ) → LineMeans lines k s → LineMeans (line ∷ lines) (suc k) s
    means_later k m = record { line = m.line; is = m.is; means = m.means }

    abbrev means_earlier : (k : ℕ) → LineMeans (line ∷ lines) (suc k) s → LineMeans lines k s
    means_earlier k m = record { line = m.line; is = m.is; means = m.means }

    missed : (was : Bool) → (Means line.glob false false s → ⊥) → Said line was ≡ was
    missed was none = ap (λ t. cond t line.ignores was)
        (false_from_ne_true (means_test line.glob false false s)
        (λ e. none ((means_tested line.glob false false s).0 e)))

    meant : (was : Bool) (m : LineMeans (line ∷ lines) 0 s) → Said line was ≡ m.line.ignores
    meant was m =
        let same : line ≡ m.line = same_Some line m.line m.is in
        ap (λ t. cond t line.ignores was) ((means_tested line.glob false false s).1
        (subst (λ l. Means l.glob false false s) (sym same) m.means))
        ∙ ap (λ l. l.ignores) same

    last_later : (k : ℕ) → IsLast lines k → IsLast (line ∷ lines) (suc k)
    last_later k last zero lt m = absurd (omega (arith, lt))
    last_later k last (suc later) lt m = last later (omega (arith, lt)) (means_earlier later m)

    last_first : NoneMeans lines → IsLast (line ∷ lines) 0
    last_first none zero lt m = absurd (omega (arith, lt))
    last_first none (suc later) lt m = none later (means_earlier later m)

    none_more : means_test line.glob false false s ≡ false → NoneMeans lines → NoneMeans (line ∷ lines)
    none_more e none zero m = false≢true (sym e ∙ (means_tested line.glob false false s).1
        (subst (λ l. Means l.glob false false s) (sym (same_Some line m.line m.is)) m.means))
    none_more e none (suc k) m = none k (means_earlier k m)

  stays : (gone was now : Bool) → now ≡ was → cond gone was now ≡ was
  stays true was now e = refl
  stays false was now e = e

  -- lines that don't mean the text say nothing, whichever of them go
  pub unmatched : (lines : List (Line Span)) (goes : ℕ → Bool) (was : Bool) → NoneMeans lines
      → ignored_after was (drop_where goes lines) s ≡ was
  unmatched [] goes was none = refl
  unmatched (line ∷ lines) goes was none =
      after_first line lines (drop_where (λ k. goes (suc k)) lines) (goes 0) was
      ∙ unmatched lines (λ k. goes (suc k)) (cond (goes 0) was (Said line was))
      (λ k m. none (suc k) (means_later line lines k m))
      ∙ stays (goes 0) was (Said line was)
      (missed line lines was (λ m. none 0 (means_first line lines m)))

  -- the last line that means the text decides, if it stays
  pub last_decides : (lines : List (Line Span)) (goes : ℕ → Bool) (k : ℕ) (was : Bool)
      (m : LineMeans lines k s) → goes k ≡ false → IsLast lines k
      → ignored_after was (drop_where goes lines) s ≡ m.line.ignores
  last_decides [] goes k was m stay last = absurd (none-some m.line m.is)
  last_decides (line ∷ lines) goes zero was m stay last =
      let rest = drop_where (λ k. goes (suc k)) lines in
      after_first line lines rest (goes 0) was
      ∙ ap (λ g. ignored_after (cond g was (Said line was)) rest s) stay
      ∙ unmatched lines (λ k. goes (suc k)) (Said line was)
      (λ k h. last (suc k) (omega arith) (means_later line lines k h))
      ∙ meant line lines was m
  last_decides (line ∷ lines) goes (suc k) was m stay last =
      after_first line lines (drop_where (λ k. goes (suc k)) lines) (goes 0) was
      ∙ last_decides lines (λ k. goes (suc k)) k (cond (goes 0) was (Said line was))
      (means_earlier line lines k m) stay
      (λ later lt h. last (suc later) (omega (arith, lt)) (means_later line lines later h))

  -- lines of which none that ignores means the text don't ignore it, whichever of them go
  none_ignored : (lines : List (Line Span)) (goes : ℕ → Bool)
      → ((k : ℕ) → LineIgnores lines k → LineMeans lines k s → ⊥)
      → ignored_after false (drop_where goes lines) s ≡ false
  none_ignored [] goes none = refl
  none_ignored (line ∷ lines) goes none =
      let rest = drop_where (λ k. goes (suc k)) lines in
      after_first line lines rest (goes 0) false
      ∙ ap (λ b. ignored_after b rest s) (stays (goes 0) false (Said line false) first)
      ∙ none_ignored lines (λ k. goes (suc k)) (λ k i m.
      none (suc k) (record { line = i.line; is = i.is; ignores = i.ignores }) (means_later line lines k m))
    where
      at : (t i : Bool) → means_test line.glob false false s ≡ t → line.ignores ≡ i → cond t i false ≡ false
      at true true e f = absurd (none 0 (record { line = line; is = refl; ignores = f })
          (means_first line lines ((means_tested line.glob false false s).0 e)))
      at true false e f = refl
      at false i e f = refl

      first : Said line false ≡ false
      first = at (means_test line.glob false false s) line.ignores refl refl

  -- as if no line went
  abbrev pub none : ℕ → Bool
  none k = false

  pub all_stay : (lines : List (Line Span)) → is_ignored (drop_where none lines) s ≡ is_ignored lines s
  all_stay lines = ap (λ ls. is_ignored ls s) (none_goes lines none (λ k. refl))

  -- no line means the text, or there is a last one that does
  find_last : (lines : List (Line Span)) → NoneMeans lines ⊎ ((k : ℕ) × LineMeans lines k s × IsLast lines k)
  find_last [] = inl (λ k m. none-some m.line m.is)
  find_last (line ∷ lines) = elim (find_last lines) [
    | inr f ↦ inr (suc f.0, means_later line lines f.0 f.1, last_later line lines f.0 f.2)
    | inl none ↦ elim (cases_Bool (means_test line.glob false false s)) [
      | inl e ↦ inr (
        0,
        means_first line lines ((means_tested line.glob false false s).0 e),
        last_first line lines none,
      )
      | inr e ↦ inl (none_more line lines e none)
    ]
  ]

  module _ (lines : List (Line Span)) (goes : ℕ → Bool)
      (nothing : (k : ℕ) → goes k ≡ true → DecidesNothing lines k) (path : IsPath s) where
    none_ignores : (k : ℕ) → LineMeans lines k s → IsLast lines k
        → TakesNothing (LineIgnores lines) (LineMeans lines) k
        → (j : ℕ) → LineIgnores lines j → LineMeans lines j s → ⊥
    none_ignores k m last takes j i h = elim (cases_lt j k) [
      | inl before ↦ takes.none s path (m, (j, before, i, h))
      | inr past ↦ elim (cases_eq j k) [
        | inl same ↦ takes.re_includes (subst (LineIgnores lines) same i)
        | inr other ↦ last j (omega (arith, past, other)) h
      ]
    ]

    -- the last line that means the text goes: then it takes nothing back, so no line that ignores means it
    by_reason : (k : ℕ) → LineMeans lines k s → IsLast lines k → (reason : IdleReason) → reason ≢ Unknown
        → IsReason (LineIgnores lines) (LineMeans lines) k reason
        → is_ignored (drop_where goes lines) s ≡ is_ignored lines s
    by_reason k m last (Covered covers) known h = let c = h s path m in absurd (last c.0 c.2 c.3)
    by_reason k m last TakesNothingBack known h =
        none_ignored lines goes (none_ignores k m last h)
        ∙ sym (none_ignored lines none (none_ignores k m last h)) ∙ all_stay lines
    by_reason k m last Unknown known h = absurd (known refl)

    by_last : (k : ℕ) → LineMeans lines k s → IsLast lines k → (gone : Bool) → goes k ≡ gone
        → is_ignored (drop_where goes lines) s ≡ is_ignored lines s
    by_last k m last false e = last_decides lines goes k false m e last
        ∙ sym (last_decides lines none k false m refl last) ∙ all_stay lines
    by_last k m last true e = let n = nothing k e in by_reason k m last n.reason n.is_known n.is

    pub same_without : is_ignored (drop_where goes lines) s ≡ is_ignored lines s
    same_without = elim (find_last lines) [
      | inl n ↦ unmatched lines goes false n ∙ sym (unmatched lines none false n) ∙ all_stay lines
      | inr f ↦ by_last f.0 f.1 f.2 (goes f.0) refl
    ]

-- ---- one line, some lines, and all lines that decide nothing

pub idle_can_go : IdleLinesCanGo
idle_can_go before after line reason s known path h =
    let at = length before in
    let goes = λ (k : ℕ). k == at in
    let all = before ++ line ∷ after in
    ap (λ ls. is_ignored ls s)
    (sym (one_goes before after line goes (eq-eqb at at refl) (λ k e. eqb-true k at e)))
    ∙ same_without s all goes (λ k e. record {
      reason = reason;
      is_known = known;
      is = subst (λ n. IsReason (LineIgnores all) (LineMeans all) n reason) (sym (eqb-true k at e)) h;
    }) path

listed : (k : ℕ) (indexes : List ℕ) → list_any (λ i. i == k) indexes ≡ true → Contains indexes k
listed k [] e = absurd (false≢true e)
listed k (i ∷ indexes) e = elim (or_true (i == k) (list_any (λ j. j == k) indexes) e) [
  | inl here ↦ (0, omega arith, eqb-true i k here)
  | inr later ↦ Contains-append_right (i ∷ []) indexes k (listed k indexes later)
]

pub idle_can_go_together : IdleLinesCanGoTogether
idle_can_go_together lines indexes s nothing path =
    same_without s lines (λ k. list_any (λ i. i == k) indexes) (λ k e. nothing k (listed k indexes e)) path

-- an idle line with this index whose reason is known
record KnownAt (idle : List IdleLine) (index : ℕ) : Type 0 where
  pub at : ℕ
  pub line : IdleLine
  pub is : slice_get idle at ≡ Some line
  pub known : is_known line.reason ≡ true
  pub index_is : line.index ≡ index

known_later : (x : IdleLine) (idle : List IdleLine) (index : ℕ) → KnownAt idle index
    → KnownAt (x ∷ idle) index
known_later x idle index h =
    record { at = suc h.at; line = h.line; is = h.is; known = h.known; index_is = h.index_is }

known_first : (x : IdleLine) (idle : List IdleLine) (index : ℕ) (known : Bool) → is_known x.reason ≡ known
    → (Contains (known_indexes idle) index → KnownAt idle index)
    → Contains (map (λ y. y.index) (cond known (x ∷ filter (λ y. is_known y.reason) idle)
    (filter (λ y. is_known y.reason) idle))) index
    → KnownAt (x ∷ idle) index
known_first x idle index true e further (zero, lt, at) =
    record { at = 0; line = x; is = refl; known = e; index_is = at }
known_first x idle index true e further (suc i, lt, at) =
    known_later x idle index (further (i, omega (arith, lt), at))
known_first x idle index false e further found = known_later x idle index (further found)

known_at : (idle : List IdleLine) (index : ℕ) → Contains (known_indexes idle) index → KnownAt idle index
known_at [] index h = absurd (let lt : h.0 < 0 = h.1 in omega (arith, lt))
known_at (x ∷ idle) index h = known_first x idle index (is_known x.reason) refl (known_at idle index) h

pub known_reason : (reason : IdleReason) → is_known reason ≡ true → reason ≢ Unknown
known_reason reason known e = false≢true (sym (ap is_known e) ∙ known)

pub all_idle_can_go : AllIdleLinesCanGo
all_idle_can_go lines idle s are path = idle_can_go_together lines (known_indexes idle) s (λ index has.
    let x = known_at idle index has in
    record {
      reason = x.line.reason;
      is_known = known_reason x.line.reason x.known;
      is = subst (λ n. IsReason (LineIgnores lines) (LineMeans lines) n x.line.reason) x.index_is
          (are.each x.at x.line x.is);
    }) path
