-- Lines are removed from an ignore list until none is known to decide nothing.
use Rattle.std.proofs.Common.{◌≡◌, ◌↔◌, ◌⊎◌, ◌∙◌, ◌<◌, ◌+◌, ◌==◌, ◌||◌, ◌++◌, ◌∷◌, [], ℕ, zero, suc, All}
use Rattle.std.proofs.Common.{Bool, true, false, cond, Contains, List, Some, ap, append-nil, append_assoc}
use Rattle.std.proofs.Common.{arith, eqb-true, eq-eqb, filter, filter_map, get_or, inl, inr, length, not}
use Rattle.std.proofs.Common.{option_map, refl, slice_get, subst, sym, take}
use Rattle.std.proofs.lemmas.Bool.{cases_Bool, false_from_ne_true, false≢true}
use Rattle.std.proofs.lemmas.List.{length-take-le, map-append, take_more}
use Rattle.std.proofs.lemmas.List.Elements.{Contains-append_cases, Contains-append_left}
use Rattle.std.proofs.lemmas.List.Elements.{Contains-append_right, Contains-push_cases}
use Rattle.std.proofs.lemmas.Option.{none-some, same_Some, slice_get-get_or, slice_get-map, slice_get_within}
use Rattle.std.specs.List.{AllZip, list_any, range_with_len}
use Rattle.wax_exclude.proofs.Dropped.{RisesBy, all_at, at_is, comes_before, contains_at, drop_push, found_at}
use Rattle.wax_exclude.proofs.Dropped.{in_range, increasing_from, passed, passes, picked, range_rises}
use Rattle.wax_exclude.proofs.Dropped.{rises_dropped, rises_first, rises_from, rises_passed, rises_rest}
use Rattle.wax_exclude.proofs.Dropped.{same_index, shorter_at, stayed, stays_at, zip_dropped, zip_first}
use Rattle.wax_exclude.proofs.{Dropped.{zip_length, zip_second}, IdleLaw.{all_idle_can_go, known_reason}}
use Rattle.wax_exclude.proofs.Tests.{or_right, or_true}
use Rattle.wax_exclude.specs.Idle.{AreIdle, IsCoveredBy, IsPath, IsReason, IsTakenBack, LineIgnores}
use Rattle.wax_exclude.specs.{Idle.{LineMeans, TakesNothing, is_known, without}, Ignored.{Line, is_ignored}}
use Rattle.wax_exclude.specs.Tidy.{AreAt, CanGoAfter, GoInTurn, Removes, StillIgnores, StillMeans, TidiesUp}
use Rattle.wax_exclude.specs.{Tidy.indexes_of, declared.idle.IdleLine.IdleLine}
use Rattle.wax_exclude.specs.declared.idle.IdleReason.{IdleReason}
use Rattle.wax_exclude.specs.declared.idle.IdleReason.TheVariants.{Covered, TakesNothingBack, Unknown}
use Rattle.wax_exclude.specs.inner.Tidy.{IsRenumbered, IsSameReason, unknown_indexes}
use Rattle.wax_token.specs.Reads.{Span}

-- ---- indexes of lines
by_index : (lines : List IdleLine) (j k : ℕ) → slice_get (indexes_of lines) j ≡ Some k
    → (x : IdleLine) × (slice_get lines j ≡ Some x) × (x.index ≡ k)
by_index [] j k e = absurd (none-some k e)
by_index (x ∷ lines) zero k e = (x, refl, same_Some x.index k e)
by_index (x ∷ lines) (suc j) k e = by_index lines j k e

has_index : (lines : List IdleLine) (j : ℕ) (x : IdleLine) → slice_get lines j ≡ Some x
    → Contains (indexes_of lines) x.index
has_index lines j x e =
    contains_at (indexes_of lines) j x.index
    (slice_get-map (λ (y : IdleLine). y.index) lines j ∙ ap (option_map (λ (y : IdleLine). y.index)) e)

-- whether an index is that of one of these lines
abbrev pub is_one_of : List IdleLine → ℕ → Bool
is_one_of lines k = list_any (λ i. i == k) (indexes_of lines)

pub any_index : (lines : List IdleLine) (k : ℕ) → list_any (λ x. x.index == k) lines ≡ is_one_of lines k
any_index [] k = refl
any_index (x ∷ lines) k = ap (λ b. (x.index == k) || b) (any_index lines k)

is_one_at : (lines : List IdleLine) (j : ℕ) (x : IdleLine) → slice_get lines j ≡ Some x
    → is_one_of lines x.index ≡ true
is_one_at [] j x e = absurd (none-some x e)
is_one_at (y ∷ lines) zero x e =
    ap (λ b. b || is_one_of lines x.index)
    (eq-eqb y.index x.index (ap (λ (z : IdleLine). z.index) (same_Some y x e)))
is_one_at (y ∷ lines) (suc j) x e =
    or_right (y.index == x.index) (is_one_of lines x.index) (is_one_at lines j x e)

one_of : (lines : List IdleLine) (k : ℕ) → is_one_of lines k ≡ true
    → (j : ℕ) × (x : IdleLine) × (slice_get lines j ≡ Some x) × (x.index ≡ k)
one_of [] k e = absurd (false≢true e)
one_of (x ∷ lines) k e = elim (or_true (x.index == k) (is_one_of lines k) e) [
  | inl here ↦ (0, x, refl, eqb-true x.index k here)
  | inr later ↦ (let f = one_of lines k later in (suc f.0, f.1, f.2, f.3))
]

-- ---- the indexes that stay, one after the other
module _ (known : List IdleLine) (indexes : List ℕ) (i : ℕ) (old : List ℕ) (lt : i < length indexes)
    (was : old ≡ without (indexes_of known) (take i indexes)) where
  next_stays : (gone : Bool) → is_one_of known i ≡ gone
      → old ++ cond gone [] (get_or indexes i 0 ∷ []) ≡ without (indexes_of known) (take (i + 1) indexes)
  next_stays gone e =
      let at = get_or indexes i 0 in
      let long : length (take i indexes) ≡ i = length-take-le i indexes (omega (arith, lt)) in
      ap (λ r. r ++ cond gone [] (at ∷ [])) was
      ∙ ap (λ g. without (indexes_of known) (take i indexes) ++ cond g [] (at ∷ []))
      (sym (ap (is_one_of known) long ∙ e))
      ∙ sym (drop_push (is_one_of known) (take i indexes) at)
      ∙ ap (without (indexes_of known)) (sym (take_more indexes i 0 lt))

  pub one_stays : (new : List ℕ) → list_any (λ x. x.index == i) known ≡ false
      → new ≡ old ++ get_or indexes i 0 ∷ [] → new ≡ without (indexes_of known) (take (i + 1) indexes)
  one_stays new e grown = grown ∙ next_stays false (sym (any_index known i) ∙ e)

  pub one_goes : list_any (λ x. x.index == i) known ≡ true
      → old ≡ without (indexes_of known) (take (i + 1) indexes)
  one_goes e = sym (append-nil old) ∙ next_stays true (sym (any_index known i) ∙ e)

-- ---- the lines that are left, and their indexes in the whole list
module _ (lines left : List (Line Span)) (indexes : List ℕ) (at : AreAt lines indexes left) where
  line_at : (p k : ℕ) (line : Line Span) → slice_get indexes p ≡ Some k → slice_get lines k ≡ Some line
      → slice_get left p ≡ Some line
  line_at p k line here is =
      let f = zip_first indexes left (λ j l. slice_get lines j ≡ Some l) at p k here in
      f.1 ∙ (sym f.2 ∙ is)

  ignores_left : (p k : ℕ) → slice_get indexes p ≡ Some k → LineIgnores lines k → LineIgnores left p
  ignores_left p k here i =
      record { line = i.line; is = line_at p k i.line here i.is; ignores = i.ignores }

  means_left : (p k : ℕ) (s : List ℕ) → slice_get indexes p ≡ Some k → LineMeans lines k s
      → LineMeans left p s
  means_left p k s here m = record { line = m.line; is = line_at p k m.line here m.is; means = m.means }

  means_in : (p : ℕ) (s : List ℕ) → LineMeans left p s
      → (k : ℕ) × (slice_get indexes p ≡ Some k) × LineMeans lines k s
  means_in p s m =
      let f = zip_second indexes left (λ j l. slice_get lines j ≡ Some l) at p m.line m.is in
      (f.0, f.1, record { line = m.line; is = f.2; means = m.means })

  module _ (up : RisesBy (λ n. n) indexes) (old : List ℕ)
      (others : (k : ℕ) → Contains indexes k ↔ ((k < length lines) × ¬ (Contains old k))) where
    -- a line that is left, once those are gone that were before, and some before it
    module _ (gone : List ℕ) (p k : ℕ) (here : slice_get indexes p ≡ Some k)
        (kept : (j : ℕ) → Contains old j → Contains gone j)
        (before : (j : ℕ) → Contains gone j → Contains old j ⊎ (j < k)) where
      there : (q j : ℕ) → slice_get indexes q ≡ Some j → (j < k → ⊥) → Contains gone j → ⊥
      there q j is past h = elim (before j h) [
        | inl was ↦ ((others j).0 (contains_at indexes q j is)).1 was
        | inr lt ↦ past lt
      ]

      covered : (covers found : List ℕ) → found ≡ filter_map (slice_get indexes) covers
          → IsCoveredBy (LineMeans left) p covers → IsCoveredBy (StillMeans lines gone) k found
      covered covers found same h s path m =
          let c = h s path (means_left p k s here m.means) in
          let f = means_in c.0 s c.3 in
          let lt : k < f.0 = up p c.0 k f.0 c.2 here f.1 in
          let cover = found_at covers c.0 c.1 in (
            f.0,
            subst (λ ks. Contains ks f.0) (sym same) (picked indexes covers cover.0 c.0 f.0 cover.1 f.1),
            lt,
            record { is_there = there c.0 f.0 f.1 (λ past. omega (arith, lt, past)); means = f.2 },
          )

      taken_back : (s : List ℕ) → IsTakenBack (StillIgnores lines gone) (StillMeans lines gone) k s
          → IsTakenBack (LineIgnores left) (LineMeans left) p s
      taken_back s b =
          let j = b.1.0 in
          let i = b.1.2 in
          let m = b.1.3 in
          let f = found_at indexes j ((others j).1
          (slice_get_within lines j i.ignores.line i.ignores.is, (λ o. i.is_there (kept j o)))) in (
            means_left p k s here b.0.means,
            (
              f.0,
              comes_before indexes up f.0 p j k f.1 here b.1.1,
              ignores_left f.0 j f.1 i.ignores,
              means_left f.0 j s f.1 m.means,
            ),
          )

      takes_nothing : TakesNothing (LineIgnores left) (LineMeans left) p
          → TakesNothing (StillIgnores lines gone) (StillMeans lines gone) k
      takes_nothing t = record {
        re_includes = λ i. t.re_includes (ignores_left p k here i.ignores);
        none = λ s path b. t.none s path (taken_back s b);
      }

      reason : (r found : IdleReason) → IsSameReason indexes r found
          → IsReason (LineIgnores left) (LineMeans left) p r
          → IsReason (StillIgnores lines gone) (StillMeans lines gone) k found
      reason (Covered covers) (Covered found) same h = covered covers.items found.items same h
      reason (Covered covers) TakesNothingBack same h = absurd same
      reason (Covered covers) Unknown same h = tt
      reason TakesNothingBack (Covered found) same h = absurd same
      reason TakesNothingBack TakesNothingBack same h = takes_nothing h
      reason TakesNothingBack Unknown same h = tt
      reason Unknown (Covered found) same h = absurd same
      reason Unknown TakesNothingBack same h = absurd same
      reason Unknown Unknown same h = tt

      can_go : (x y : IdleLine) → y.index ≡ k → is_known y.reason ≡ true
          → IsSameReason indexes x.reason y.reason
          → IsReason (LineIgnores left) (LineMeans left) p x.reason → CanGoAfter lines gone y
      can_go x y is known same h =
          let holds = reason x.reason y.reason same h in
          let still = there p k here (λ lt. omega (arith, lt)) in
          let low = ((others k).0 (contains_at indexes p k here)).0 in record {
            within = omega (arith, is, low);
            is_there = subst (λ n. Contains gone n → ⊥) (sym is) still;
            is_known = known_reason y.reason known;
            is = subst (λ n. IsReason (StillIgnores lines gone) (StillMeans lines gone) n y.reason) (sym is)
                holds;
          }

    same_known : (r found : IdleReason) → IsSameReason indexes r found → is_known found ≡ is_known r
    same_known (Covered covers) (Covered found) same = refl
    same_known (Covered covers) TakesNothingBack same = absurd same
    same_known (Covered covers) Unknown same = absurd same
    same_known TakesNothingBack (Covered found) same = absurd same
    same_known TakesNothingBack TakesNothingBack same = refl
    same_known TakesNothingBack Unknown same = absurd same
    same_known Unknown (Covered found) same = absurd same
    same_known Unknown TakesNothingBack same = absurd same
    same_known Unknown Unknown same = refl

    -- it is known why this line among those that are left decides nothing
    abbrev IsIdle : IdleLine → Type 0
    IsIdle x = (is_known x.reason ≡ true) × IsReason (LineIgnores left) (LineMeans left) x.index x.reason

    go_in_turn : (known found : List IdleLine) (gone : List ℕ) → AllZip (IsRenumbered indexes) known found
        → RisesBy (λ x. x.index) known → ((j : ℕ) (x : IdleLine) → slice_get known j ≡ Some x → IsIdle x)
        → ((k : ℕ) → Contains old k → Contains gone k)
        → ((k : ℕ) → Contains gone k
        → Contains old k ⊎ ((j : ℕ) (y : IdleLine) → slice_get found j ≡ Some y → k < y.index))
        → GoInTurn lines gone found
    go_in_turn [] [] gone zip rise idle kept before = tt
    go_in_turn [] (y ∷ found) gone zip rise idle kept before = absurd zip
    go_in_turn (x ∷ known) [] gone zip rise idle kept before = absurd zip
    go_in_turn (x ∷ known) (y ∷ found) gone zip rise idle kept before =
        let same = zip.0 in
        let is = idle 0 x refl in (
          can_go gone x.index y.index same.index kept
              (λ k h. elim (before k h) [ inl was ↦ inl was | inr low ↦ inr (low 0 y refl) ])
              x y refl (same_known x.reason y.reason same.reason ∙ is.0) same.reason is.1,
          go_in_turn known found (gone ++ y.index ∷ []) zip.1 (rises_rest (λ z. z.index) x known rise)
              (λ j z e. idle (suc j) z e)
              (λ k h. Contains-append_left gone (y.index ∷ []) k (kept k h))
              (λ k h. elim (Contains-push_cases gone y.index k h) [
                | inl early ↦ elim (before k early) [
                  | inl was ↦ inl was
                  | inr low ↦ inr (λ j z e. low (suc j) z e)
                ]
                | inr new ↦ inr (λ j z e.
                    let f = zip_second known found (IsRenumbered indexes) zip.1 j z e in
                    let lt : x.index < f.0.index = rises_first (λ w. w.index) x known rise j f.0 f.1 in
                    subst (λ n. n < z.index) new
                    (up x.index f.0.index y.index z.index lt same.index f.2.index))
              ]),
        )

in_turn_both : (lines : List (Line Span)) (gone : List ℕ) (old more : List IdleLine) → GoInTurn lines gone old
    → GoInTurn lines (gone ++ indexes_of old) more → GoInTurn lines gone (old ++ more)
in_turn_both lines gone [] more first later = subst (λ ks. GoInTurn lines ks more) (append-nil gone) later
in_turn_both lines gone (x ∷ old) more first later = (
  first.0,
  in_turn_both lines (gone ++ x.index ∷ []) old more first.1
      (subst (λ ks. GoInTurn lines ks more) (sym (append_assoc gone (x.index ∷ []) (indexes_of old))) later),
)

-- ---- round after round
-- After these lines were removed, those with these indexes are left, and ignore the same plain paths.
pub record IsLeft (lines : List (Line Span)) (removed : List IdleLine) (indexes : List ℕ) : Type 0 where
  pub removes : Removes lines removed indexes
  pub left : List (Line Span)
  pub at : AreAt lines indexes left
  pub same : (s : List ℕ) → IsPath s → is_ignored left s ≡ is_ignored lines s

pub all_left : (lines : List (Line Span)) → IsLeft lines [] (range_with_len 0 (length lines))
all_left lines =
    let n = length lines in record {
      removes = record {
        in_turn = tt;
        ascending = range_rises n;
        others = λ k. (
          (λ h. ((in_range n k).0 h, (λ gone. let lt : gone.0 < 0 = gone.1 in omega (arith, lt)))),
          (λ h. (in_range n k).1 h.0),
        );
      };
      left = lines;
      at = all_at [] lines;
      same = λ s path. refl;
    }

module _ (lines left : List (Line Span)) (removed : List IdleLine) (indexes : List ℕ)
    (was : IsLeft lines removed indexes) (is : left ≡ filter_map (slice_get lines) indexes) where
  whole : was.left ≡ left
  whole = at_is lines indexes was.left was.at ∙ sym is

  at : AreAt lines indexes left
  at = subst (λ ls. AreAt lines indexes ls) whole was.at

  up : RisesBy (λ n. n) indexes
  up = rises_from indexes was.removes.ascending

  module _ (idle : List IdleLine) (are : AreIdle left idle) (known : List IdleLine)
      (knows : known ≡ filter (λ x. is_known x.reason) idle) where
    pub all_within : All (λ x. x.index < length indexes) known
    all_within k d lt =
        let x = get_or known k d in
        let e = slice_get-get_or known k d lt in
        let f = passed (λ (y : IdleLine). is_known y.reason) idle k x
        (ap (λ xs. slice_get xs k) (sym knows) ∙ e) in
        let low : x.index < length left = are.within f.0 x f.2 in
        let long : length indexes ≡ length left =
        zip_length indexes left (λ j l. slice_get lines j ≡ Some l) at in
        omega (arith, low, long)

    none_known : length (filter (λ (x : IdleLine). is_known x.reason) idle) ≡ 0 → (j : ℕ) (x : IdleLine)
        → slice_get idle j ≡ Some x → is_known x.reason ≡ false
    none_known none j x e = false_from_ne_true (is_known x.reason) (λ known.
        let f = passes (λ (y : IdleLine). is_known y.reason) idle j x e known in
        let lt = f.1 in
        omega (arith, none, lt))

    is_unknown : (j : ℕ) (x : IdleLine) → slice_get idle j ≡ Some x → is_known x.reason ≡ false
        → Contains (unknown_indexes idle) x.index
    is_unknown j x e unknown =
        let p = λ (y : IdleLine). not (is_known y.reason) in
        let f = found_at (filter p idle) x (passes p idle j x e (ap not unknown)) in
        has_index (filter p idle) f.0 x f.1

    -- nothing more is known
    pub tidied_up : known ≡ [] → TidiesUp lines removed indexes left (unknown_indexes idle)
    tidied_up none = record {
      at = at;
      removes = was.removes;
      same = λ s path. ap (λ ls. is_ignored ls s) (sym whole) ∙ was.same s path;
      is_tidy = λ k lt not_unknown. are.others k lt (λ j x e is.
          not_unknown (subst (λ n. Contains (unknown_indexes idle) n) is
          (is_unknown j x e (none_known (ap length (sym knows ∙ none)) j x e))));
    }

    module _ (found : List IdleLine) (zip : AllZip (IsRenumbered indexes) known found) where
      rise : RisesBy (λ (x : IdleLine). x.index) known
      rise = subst (λ xs. RisesBy (λ (x : IdleLine). x.index) xs) (sym knows)
          (rises_passed (λ (x : IdleLine). x.index) (λ (x : IdleLine). is_known x.reason) idle
          are.ascending)

      each_idle : (j : ℕ) (x : IdleLine) → slice_get known j ≡ Some x
          → (is_known x.reason ≡ true) × IsReason (LineIgnores left) (LineMeans left) x.index x.reason
      each_idle j x e =
          let f = passed (λ (y : IdleLine). is_known y.reason) idle j x
          (ap (λ xs. slice_get xs j) (sym knows) ∙ e) in
          (f.1, are.each f.0 x f.2)

      -- an index that stays is none of those that go
      not_new : (k q : ℕ) → is_one_of known q ≡ false → slice_get indexes q ≡ Some k
          → Contains (indexes_of found) k → ⊥
      not_new k q stay here new =
          let place = found_at (indexes_of found) k new in
          let y = by_index found place.0 k place.1 in
          let x = zip_second known found (IsRenumbered indexes) zip place.0 y.0 y.1 in
          let there : slice_get indexes x.0.index ≡ Some k = x.2.index ∙ ap Some y.2 in
          let same : x.0.index ≡ q = same_index indexes up x.0.index q k there here in
          false≢true (sym stay ∙ ap (is_one_of known) (sym same) ∙ is_one_at known place.0 x.0 x.1)

      both : indexes_of (removed ++ found) ≡ indexes_of removed ++ indexes_of found
      both = map-append (λ (x : IdleLine). x.index) removed found

      stays : (k : ℕ) → Contains (without (indexes_of known) indexes) k
          → (k < length lines) × ¬ (Contains (indexes_of (removed ++ found)) k)
      stays k h =
          let f = found_at (without (indexes_of known) indexes) k h in
          let d = stayed (is_one_of known) indexes f.0 k f.1 in
          let o = (was.removes.others k).0 (contains_at indexes d.0 k d.2) in (
            o.0,
            (λ g. elim (Contains-append_cases (indexes_of removed) (indexes_of found) k
                (subst (λ ks. Contains ks k) both g)) [
                  | inl early ↦ o.1 early
                  | inr new ↦ not_new k d.0 d.1 d.2 new
                ]),
          )

      -- an index that goes is one of the new ones
      new_index : (k q : ℕ) → is_one_of known q ≡ true → slice_get indexes q ≡ Some k
          → Contains (indexes_of found) k
      new_index k q gone here =
          let x = one_of known q gone in
          let y = zip_first known found (IsRenumbered indexes) zip x.0 x.1 x.2 in
          let same : y.0.index ≡ k =
          same_Some y.0.index k (sym y.2.index ∙ ap (slice_get indexes) x.3 ∙ here) in
          subst (λ n. Contains (indexes_of found) n) same (has_index found x.0 y.0 y.1)

      left_there : (k : ℕ) → (k < length lines) × ¬ (Contains (indexes_of (removed ++ found)) k)
          → Contains (without (indexes_of known) indexes) k
      left_there k h =
          let none : Contains (indexes_of removed ++ indexes_of found) k → ⊥ =
          λ g. h.1 (subst (λ ks. Contains ks k) (sym both) g) in
          let f = found_at indexes k ((was.removes.others k).1 (
            h.0,
            (λ early.
                none (Contains-append_left (indexes_of removed) (indexes_of found) k early)),
          )) in
          elim (cases_Bool (is_one_of known f.0)) [
            | inl gone ↦ absurd (none (Contains-append_right (indexes_of removed) (indexes_of found) k
                (new_index k f.0 gone f.1)))
            | inr stay ↦ (let p = stays_at (is_one_of known) indexes f.0 k f.1 stay in
                contains_at (without (indexes_of known) indexes) p.0 k p.1)
          ]

      pub fewer_left : IsLeft lines (removed ++ found) (without (indexes_of known) indexes)
      fewer_left = record {
        removes = record {
          in_turn = in_turn_both lines [] removed found was.removes.in_turn
              (go_in_turn lines left indexes at up (indexes_of removed) was.removes.others known found
              (indexes_of removed) zip rise each_idle (λ k h. h) (λ k h. inl h));
          ascending = increasing_from (without (indexes_of known) indexes)
              (rises_dropped (λ n. n) (is_one_of known) indexes up);
          others = λ k. (stays k, left_there k);
        };
        left = without (indexes_of known) left;
        at = zip_dropped indexes left (λ j l. slice_get lines j ≡ Some l) (is_one_of known) at;
        same = λ s path.
            ap (λ xs. is_ignored (without (indexes_of xs) left) s) knows
            ∙ all_idle_can_go left idle s are path
            ∙ ap (λ ls. is_ignored ls s) (sym whole)
            ∙ was.same s path;
      }

-- if something is known, fewer lines are left
pub fewer : (known found : List IdleLine) (indexes : List ℕ) → AllZip (IsRenumbered indexes) known found
    → 0 < length known → length (without (indexes_of known) indexes) < length indexes
fewer [] found indexes zip some = absurd (omega (arith, some))
fewer (x ∷ known) found indexes zip some =
    let f = zip_first (x ∷ known) found (IsRenumbered indexes) zip 0 x refl in
    shorter_at (is_one_of (x ∷ known)) indexes x.index f.0.index f.2.index (is_one_at (x ∷ known) 0 x refl)
