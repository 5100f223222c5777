-- Forks and jumps that are linked with the places that they lead to.
use Rattle.std.proofs.Common.{◌≡◌, ◌≢◌, ℕ, ◌+◌, ◌<◌, ◌≤◌, Option, Some, None, List, length, set, slice_get}
use Rattle.std.proofs.{Common.{inl, inr, refl, sym, ◌∙◌, ap, subst, arith, length-set}, lemmas.Bool.cases_eq}
use Rattle.std.proofs.{lemmas.List.{get_or-set_same, get_or-set_other}, lemmas.Option.slice_get_within}
use Rattle.wax_program.specs.declared.instruction.Instruction.{Instruction}
use Rattle.wax_program.specs.declared.instruction.Instruction.TheVariants.{Check, Repeat, Components, Fork}
use Rattle.wax_program.specs.declared.instruction.Instruction.TheVariants.{Jump, Back, End}
use Rattle.wax_program.specs.inner.Jumps.{AreJumpsBelow, IsJump, IsUpTo, JumpsTo, link_at}

one_target : (i : Instruction) (j k l : ℕ) → JumpsTo i j k → JumpsTo i j l → k ≡ l
one_target (Check t) j k l g h = absurd g
one_target (Repeat t) j k l g h = absurd g
one_target Components j k l g h = absurd g
one_target (Fork n) j k l g h = g ∙ sym h
one_target (Jump n) j k l g h = g ∙ sym h
one_target (Back n) j k l g h = g ∙ sym h
one_target (End low high) j k l g h = absurd g

pub some_is : {X : Type 0} (x y : X) → Some x ≡ Some y → x ≡ y
some_is x y e = ap (λ o. elim o [ None ↦ x | Some z ↦ z ]) e

-- where a jump leads, by its instruction
pub target_of : (code : List Instruction) (j k : ℕ) (i : Instruction) → slice_get code j ≡ Some i
    → IsJump code j k → JumpsTo i j k
target_of code j k i is (i', is', h) = subst (λ x. JumpsTo x j k) (some_is i' i (sym is' ∙ is)) h

module _ (code : List Instruction) (at : ℕ) (last before : List (Option ℕ))
    (held : AreJumpsBelow code at last before) where
  unique : (k l j : ℕ) → IsJump code j k → IsJump code j l → k ≡ l
  unique k l j (i, is, g) h = one_target i j k l g (target_of code j l i is h)

  -- the instruction at the place leads to none of the program
  pub none_more : ((k : ℕ) → IsJump code at k → k ≤ length code → ⊥)
      → AreJumpsBelow code (at + 1) last before
  none_more none = record {
    last_room = held.last_room;
    before_room = held.before_room;
    last_is = λ k j e. let (jump, lt) = held.last_is k j e in (jump, omega (arith, lt));
    before_is = held.before_is;
    all_last = λ k j jump lt le. elim (cases_eq j at) [
      | inl e ↦ absurd (none k (subst (λ x. IsJump code x k) e jump) le)
      | inr ne ↦ held.all_last k j jump (omega (arith, lt, ne)) le
    ];
    all_before = λ k i j of lt le jump less. elim (cases_eq i at) [
      | inl e ↦ absurd (none k (subst (λ x. IsJump code x k) e of) le)
      | inr ne ↦ held.all_before k i j of (omega (arith, lt, ne)) le jump less
    ];
    none = λ i le. held.none i (omega (arith, le));
  }

  module _ (to : ℕ) (leads : IsJump code at to) (within : to < length last) where
    kept_last : (k : ℕ) → k ≢ to → link_at (set last to (Some at)) k ≡ link_at last k
    kept_last k ne = get_or-set_other last to k (Some at) None ne

    new_last : link_at (set last to (Some at)) to ≡ Some at
    new_last = get_or-set_same last to (Some at) None within

    before_within : at < length before
    before_within =
        let (i, is, _) = leads in omega (arith, slice_get_within code at i is, held.before_room)

    kept_before : (k : ℕ) → k ≢ at → link_at (set before at (link_at last to)) k ≡ link_at before k
    kept_before k ne = get_or-set_other before at k (link_at last to) None ne

    new_before : link_at (set before at (link_at last to)) at ≡ link_at last to
    new_before = get_or-set_same before at (link_at last to) None before_within

    pub linked : AreJumpsBelow code (at + 1) (set last to (Some at)) (set before at (link_at last to))
    linked = record {
      last_room = subst (λ n. length code < n) (sym (length-set last to (Some at))) held.last_room;
      before_room = length-set before at (link_at last to) ∙ held.before_room;
      last_is = λ k j e. elim (cases_eq k to) [
        | inl same ↦
            let is : at ≡ j = some_is at j
            (sym new_last ∙ subst (λ x. link_at (set last to (Some at)) x ≡ Some j) same e) in
            (subst (λ x. IsJump code x k) is (subst (IsJump code at) (sym same) leads), omega (arith, is))
        | inr ne ↦
            let (jump, lt) = held.last_is k j (sym (kept_last k ne) ∙ e) in (jump, omega (arith, lt))
      ];
      before_is = λ k i j of e. elim (cases_eq i at) [
        | inl same ↦
            let there = subst (λ x. link_at (set before at (link_at last to)) x ≡ Some j) same e in
            let (jump, lt) = held.last_is to j (sym new_before ∙ there) in
            let goal = unique to k at leads (subst (λ x. IsJump code x k) same of) in
            (subst (IsJump code j) goal jump, omega (arith, lt, same))
        | inr ne ↦ held.before_is k i j of (sym (kept_before i ne) ∙ e)
      ];
      all_last = λ k j jump lt le. elim (cases_eq k to) [
        | inl same ↦
            subst (λ x. IsUpTo j (link_at (set last to (Some at)) x)) (sym same)
            (subst (IsUpTo j) (sym new_last) (omega (arith, lt)))
        | inr ne ↦ subst (IsUpTo j) (sym (kept_last k ne)) (elim (cases_eq j at) [
          | inl e ↦ absurd (ne (unique k to at (subst (λ x. IsJump code x k) e jump) leads))
          | inr other ↦ held.all_last k j jump (omega (arith, lt, other)) le
        ])
      ];
      all_before = λ k i j of lt le jump less. elim (cases_eq i at) [
        | inl same ↦
            let goal = unique to k at leads (subst (λ x. IsJump code x k) same of) in
            subst (λ x. IsUpTo j (link_at (set before at (link_at last to)) x)) (sym same)
            (subst (IsUpTo j) (sym new_before)
            (held.all_last to j (subst (IsJump code j) (sym goal) jump) (omega (arith, less, same))
            (subst (λ x. x ≤ length code) (sym goal) le)))
        | inr ne ↦ subst (IsUpTo j) (sym (kept_before i ne))
            (held.all_before k i j of (omega (arith, lt, ne)) le jump less)
      ];
      none = λ i le. kept_before i (λ e. omega (arith, le, e)) ∙ held.none i (omega (arith, le));
    }

-- ---- links that are followed
pub link_rank : Option ℕ → ℕ
link_rank None = 0
link_rank (Some j) = j + 1

pub rank_smaller : (next after : Option ℕ) (i : ℕ) → next ≡ Some i → ((j : ℕ) → after ≡ Some j → j < i)
    → link_rank after < link_rank next
unfolding link_rank
rank_smaller next None i e less =
    let some : 0 < i + 1 = omega arith in
    subst (λ o. 0 < link_rank o) (sym e) some
rank_smaller next (Some j) i e less =
    let some : j + 1 < i + 1 = omega (arith, less j refl) in
    subst (λ o. j + 1 < link_rank o) (sym e) some
