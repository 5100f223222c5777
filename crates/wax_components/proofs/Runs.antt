-- Components, run after run.
use Rattle.std.proofs.Common.{◌≡◌, ℕ, suc, ◌+◌, ◌<◌, ◌≤◌, Bool, true, false, not, List, [], ◌∷◌, ◌++◌, take}
use Rattle.std.proofs.Common.{drop, length, refl, sym, ◌∙◌, ap, subst, arith, inl, inr, max, get_or, ◌-◌}
use Rattle.std.proofs.Common.{slice_range}
use Rattle.std.proofs.lemmas.List.{append_assoc, take-append-drop, drop_more, drop-drop, length-drop}
use Rattle.std.proofs.lemmas.List.Elements.{All-append, All-cons, All-nil}
use Rattle.std.proofs.lemmas.List.Sums.{prefix_len-le-length}
use Rattle.std.specs.List.{All, before_first, list_all, position_or_len}
use Rattle.wax_token.specs.{Syntax.Tree, Kinds.{is_boundary, is_separator, is_tree_wildcard}}
use Rattle.wax_components.specs.Parts.{IsComponent, begun, components_in, begins_with_boundary}
use Rattle.wax_components.specs.Parts.{ends_with_boundary}

past_one : {X : Type 0} (n : ℕ) (x : X) (xs : List X) → drop (1 + n) (x ∷ xs) ≡ drop n xs
past_one n x xs = let e : 1 + n ≡ suc n = omega arith in ap (λ k. drop k (x ∷ xs)) e

one_more : {X : Type 0} (n : ℕ) (x : X) (xs : List X) → take (1 + n) (x ∷ xs) ≡ x ∷ take n xs
one_more n x xs = let e : 1 + n ≡ suc n = omega arith in ap (λ k. take k (x ∷ xs)) e

-- ---- no component begins before the next boundary
abbrev NoneInRun : {A : Type 0} → List (Tree A) → Type 0
NoneInRun ts = components_in false ts ≡ components_in true (drop (position_or_len is_boundary ts) ts)

within_run_at : {A : Type 0} (t : Tree A) (ts : List (Tree A)) (s w : Bool) → is_separator t ≡ s
    → is_tree_wildcard t ≡ w →
    NoneInRun ts → NoneInRun (t ∷ ts)
within_run_at t ts true true e f h = simp (e, f)
within_run_at t ts true false e f h = simp (e, f)
within_run_at t ts false true e f h = simp (e, f)
within_run_at t ts false false e f h =
    rw (e, f) (h ∙ ap (components_in true) (sym (past_one (position_or_len is_boundary ts) t ts)))

within_run : {A : Type 0} (ts : List (Tree A)) → NoneInRun ts
within_run [] = refl
within_run (t ∷ ts) = within_run_at t ts (is_separator t) (is_tree_wildcard t) refl refl (within_run ts)

-- ---- the part that begins with the first of some tokens: one boundary, or all up to the next
abbrev Step : {A : Type 0} → Tree A → List (Tree A) → ℕ → Type 0
Step t ts n =
    (n ≤ length (t ∷ ts))
    × (is_separator t ≡ true → components_in true (t ∷ ts) ≡ components_in true (drop n (t ∷ ts)))
    × (is_separator t ≡ false → components_in true (t ∷ ts)
    ≡ take n (t ∷ ts) ∷ components_in true (drop n (t ∷ ts)))

step : {A : Type 0} (t : Tree A) (ts : List (Tree A)) (s w : Bool) → is_separator t ≡ s
    → is_tree_wildcard t ≡ w →
    Step t ts (max (position_or_len is_boundary (t ∷ ts)) 1)
step t ts true w e f = rw e (omega arith, (λ k. refl), (λ k. absurd (cc)))
step t ts false true e f = rw (e, f) (omega arith, (λ k. absurd (cc)), (λ k. refl))
step t ts false false e f =
    let p : ℕ = position_or_len is_boundary ts in
    let first : position_or_len is_boundary (t ∷ ts) ≡ 1 + p = rw (e, f) refl in
    let most : max (1 + p) 1 ≡ 1 + p = omega arith in
    subst (Step t ts) (sym (ap (λ z. max z 1) first ∙ most)) (
      omega (arith, prefix_len-le-length (λ u. not (is_boundary u)) ts),
      (λ k. absurd (cc)),
      (λ k. rw (e, f) (
          ap (λ z. (t ∷ take p ts) ∷ z) (within_run ts)
          ∙ ap (λ z. z ∷ components_in true (drop p ts)) (sym (one_more p t ts))
          ∙ ap (λ z. take (1 + p) (t ∷ ts) ∷ components_in true z) (sym (past_one p t ts))
          )),
    )

pub part_fits : {A : Type 0} (ts : List (Tree A)) (i : ℕ) → i < length ts
    → i + max (position_or_len is_boundary (drop i ts)) 1 ≤ length ts
part_fits ts i h =
    omega (arith, h, prefix_len-le-length (λ u. not (is_boundary u)) (drop i ts), length-drop i ts)

pub next_part : {A : Type 0} (ts : List (Tree A)) (i n : ℕ) (x : Tree A) → i < length ts → x ≡ get_or ts i x →
    n ≡ max (position_or_len is_boundary (drop i ts)) 1 →
    (i + n ≤ length ts)
    × (is_separator x ≡ true → components_in true (drop i ts) ≡ components_in true (drop (i + n) ts))
    × (is_separator x ≡ false → components_in true (drop i ts)
    ≡ slice_range ts i (i + n) ∷ components_in true (drop (i + n) ts))
next_part ts i n x h e k =
    let us : List (Tree _) = drop (i + 1) ts in
    let split : drop i ts ≡ x ∷ us = drop_more ts i x h ∙ ap (λ z. z ∷ us) (sym e) in
    let m : n ≡ max (position_or_len is_boundary (x ∷ us)) 1 =
    k ∙ ap (λ z. max (position_or_len is_boundary z) 1) split in
    let s : Step x us n =
    subst (Step x us) (sym m) (step x us (is_separator x) (is_tree_wildcard x) refl refl) in
    let len : length ts - i ≡ length (x ∷ us) = sym (length-drop i ts) ∙ ap length split in
    let rest : drop n (x ∷ us) ≡ drop (i + n) ts = ap (drop n) (sym split) ∙ drop-drop n i ts in
    let there : (i + n) - i ≡ n = omega arith in (
      omega (arith, s.0, len, h),
      (λ q. ap (components_in true) split ∙ s.1 q ∙ ap (components_in true) rest),
      (λ q. ap (components_in true) split ∙ s.2 q
          ∙ ap (λ z. take n (x ∷ us) ∷ components_in true z) rest
          ∙ ap (λ z. take n z ∷ components_in true (drop (i + n) ts)) (sym split)
          ∙ ap (λ z. take z (drop i ts) ∷ components_in true (drop (i + n) ts)) (sym there)),
    )

-- ---- each component can't be made longer
ends-push : {A : Type 0} (ts : List (Tree A)) (t : Tree A) → ends_with_boundary (ts ++ t ∷ []) ≡ is_boundary t
ends-push [] t = refl
ends-push (u ∷ []) t = refl
ends-push (u ∷ v ∷ vs) t = ends-push (v ∷ vs) t

run_at : {A : Type 0} (t : Tree A) (ts : List (Tree A)) (b : Bool) → is_boundary t ≡ b →
    list_all (λ u. not (is_boundary u)) (before_first is_boundary ts) ≡ true →
    list_all (λ u. not (is_boundary u)) (before_first is_boundary (t ∷ ts)) ≡ true
run_at t ts true e h = rw e refl
run_at t ts false e h = rw e (rw (one_more (position_or_len is_boundary ts) t ts) (rw e h))

run_is_plain : {A : Type 0} (ts : List (Tree A))
    → list_all (λ u. not (is_boundary u)) (before_first is_boundary ts) ≡ true
run_is_plain [] = refl
run_is_plain (t ∷ ts) = run_at t ts (is_boundary t) refl (run_is_plain ts)

end_at : {A : Type 0} (t : Tree A) (ts : List (Tree A)) (b : Bool) → is_boundary t ≡ b →
    begins_with_boundary (drop (position_or_len is_boundary ts) ts) ≡ true →
    begins_with_boundary (drop (position_or_len is_boundary (t ∷ ts)) (t ∷ ts)) ≡ true
end_at t ts true e h = rw e e
end_at t ts false e h = rw e (rw (past_one (position_or_len is_boundary ts) t ts) h)

run_ends : {A : Type 0} (ts : List (Tree A))
    → begins_with_boundary (drop (position_or_len is_boundary ts) ts) ≡ true
run_ends [] = refl
run_ends (t ∷ ts) = end_at t ts (is_boundary t) refl (run_ends ts)

begun_is_longest : {A : Type 0} (at_edge : Bool) (before : List (Tree A)) (t : Tree A)
    (ts : List (Tree A)) (s w : Bool) →
    is_separator t ≡ s → is_tree_wildcard t ≡ w → (at_edge ≡ true → ends_with_boundary before ≡ true) →
    All (IsComponent (before ++ t ∷ ts)) (begun at_edge t ts)
begun_is_longest at_edge before t ts true w e f h = rw e (All-nil _)
begun_is_longest at_edge before t ts false true e f h =
    rw (e, f) (All-cons (IsComponent (before ++ t ∷ ts)) (t ∷ []) [] (before, ts, refl, inl (t, refl, f))
    (All-nil (IsComponent (before ++ t ∷ ts))))
begun_is_longest false before t ts false false e f h = rw (e, f) (All-nil _)
begun_is_longest true before t ts false false e f h =
    let run : List (Tree _) = before_first is_boundary ts in
    let after : List (Tree _) = drop (position_or_len is_boundary ts) ts in
    let plain : not (is_boundary t) ≡ true = rw (e, f) refl in
    rw (e, f) (All-cons (IsComponent (before ++ t ∷ ts)) (t ∷ run) [] (
      before,
      after,
      ap (λ z. before ++ t ∷ z) (sym (take-append-drop (position_or_len is_boundary ts) ts)),
      inr ((omega arith, rw plain (run_is_plain ts)), h refl, run_ends ts),
    ) (All-nil (IsComponent (before ++ t ∷ ts))))

longest_from : {A : Type 0} (at_edge : Bool) (before ts : List (Tree A))
    → (at_edge ≡ true → ends_with_boundary before ≡ true) →
    All (IsComponent (before ++ ts)) (components_in at_edge ts)
longest_from at_edge before [] h = All-nil _
longest_from at_edge before (t ∷ ts) h =
    All-append (IsComponent (before ++ t ∷ ts)) (begun at_edge t ts) (components_in (is_boundary t) ts)
    (begun_is_longest at_edge before t ts (is_separator t) (is_tree_wildcard t) refl refl h)
    (subst (λ all. All (IsComponent all) (components_in (is_boundary t) ts)) (append_assoc before (t ∷ []) ts)
    (longest_from (is_boundary t) (before ++ t ∷ []) ts (λ k. ends-push before t ∙ k)))

pub components_are_longest : {A : Type 0} (ts : List (Tree A)) → All (IsComponent ts) (components_in true ts)
components_are_longest ts = longest_from true [] ts (λ _. refl)
