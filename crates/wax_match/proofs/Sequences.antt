-- The instructions of a sequence, written from its last token to its first.
use Rattle.std.proofs.Common.{◌≡◌, ℕ, zero, suc, ◌-◌, ◌<◌, ◌≤◌, ◌||◌, Bool, true, false, List, [], ◌∷◌, ◌++◌}
use Rattle.std.proofs.Common.{length, get_or, drop, drop-cons, ltb, nat_le, rules, Option, Some}
use Rattle.std.proofs.Common.{if◌then◌else◌, refl, sym, ◌∙◌, ap, inl, inr, arith, append-nil, append_assoc}
use Rattle.std.proofs.{lemmas.Bool.{cases_lt, lt-ltb, le-ltb}, lemmas.List.drop_all}
use Rattle.wax_program.specs.declared.instruction.Instruction.{Instruction}
use Rattle.wax_match.specs.inner.Code.{copied_code, copies_code, counted_code, never, repeated_code}
use Rattle.wax_match.specs.inner.Code.{sequence_code, skip, instructions_of, up_to_code}
use Rattle.wax_token.specs.{Cost.holds_tree, Syntax.Tree, Words.trees}

or_true : (b c : Bool) → c ≡ true → (b || c) ≡ true
or_true true c e = refl
or_true false c e = e

or_false : (b c : Bool) → c ≡ false → (b || c) ≡ b
or_false true c e = refl
or_false false c e = e

module _ {A : Type 0} (ts : List (Tree A)) (i : ℕ) (t : Tree A) (before after : Bool) (within : i < length ts)
    (at : t ≡ get_or ts i t) where
  here : drop i ts ≡ t ∷ drop (suc i) ts
  here = drop-cons ts i t within ∙ ap (λ z. z ∷ drop (suc i) ts) (sym at)

  pub sequence_last : length ts ≤ suc i → sequence_code (trees (drop i ts)) before after
      ≡ instructions_of t before after ++ sequence_code (trees (drop (suc i) ts)) true after
  sequence_last le =
      let e : drop (suc i) ts ≡ [] = drop_all (suc i) ts le in
      ap (λ z. sequence_code (trees z) before after) (here ∙ ap (λ z. t ∷ z) e)
      ∙ sym (append-nil (instructions_of t before after))
      ∙ ap (λ z. instructions_of t before after ++ sequence_code (trees z) true after) (sym e)

  pub sequence_more : suc i < length ts → sequence_code (trees (drop i ts)) before after
      ≡ instructions_of t before true ++ sequence_code (trees (drop (suc i) ts)) true after
  sequence_more lt =
      let u : Tree A = get_or ts (suc i) t in
      let e : drop (suc i) ts ≡ u ∷ drop (suc (suc i)) ts = drop-cons ts (suc i) t lt in
      ap (λ z. sequence_code (trees z) before after) (here ∙ ap (λ z. t ∷ z) e)
      ∙ ap (λ z. instructions_of t before true ++ sequence_code (trees z) true after) (sym e)

-- one more token is written before the others
pub sequence_put : {A : Type 0} (ts : List (Tree A)) (index : ℕ) (t : Tree A) (before after b f : Bool)
    (new mid old : List Instruction) → 0 < index → index ≤ length ts → t ≡ get_or ts (index - 1) t
    → b ≡ (before || ltb 0 (index - 1)) → f ≡ (after || ltb index (length ts)) → new ≡ instructions_of t b f
    ++ mid → mid ≡ sequence_code (trees (drop index ts)) (before || ltb 0 index) after ++ old
    → new ≡ sequence_code (trees (drop (index - 1) ts)) (before || ltb 0 (index - 1)) after ++ old
sequence_put ts zero t before after b f new mid old some le at is_b is_f e g = absurd (omega (arith, some))
sequence_put ts (suc i) t before after b f new mid old some le at is_b is_f e g =
    let p : suc i - 1 ≡ i = omega arith in
    let at : t ≡ get_or ts i t = rw p at at in
    let is_b : b ≡ (before || ltb 0 i) = rw p at is_b in
    let later : (before || ltb 0 (suc i)) ≡ true =
    or_true before (ltb 0 (suc i)) (lt-ltb 0 (suc i) (omega arith)) in
    let rest : List Instruction = sequence_code (trees (drop (suc i) ts)) true after in
    let joined : new ≡ (instructions_of t (before || ltb 0 i) f ++ rest) ++ old =
    e ∙ ap (λ z. instructions_of t z f ++ mid) is_b ∙ ap (λ z. instructions_of t (before || ltb 0 i) f ++ z)
    (g ∙ ap (λ z. sequence_code (trees (drop (suc i) ts)) z after ++ old) later)
    ∙ sym (append_assoc (instructions_of t (before || ltb 0 i) f) rest old) in
    let code : instructions_of t (before || ltb 0 i) f ++ rest
    ≡ sequence_code (trees (drop i ts)) (before || ltb 0 i) after =
    elim (cases_lt (suc i) (length ts)) [
      | inl lt ↦ (let h : f ≡ true =
          is_f ∙ or_true after (ltb (suc i) (length ts)) (lt-ltb (suc i) (length ts) lt) in
          ap (λ z. instructions_of t (before || ltb 0 i) z ++ rest) h
          ∙ sym (sequence_more ts i t (before || ltb 0 i) after (omega arith) at lt))
      | inr past ↦ (let h : f ≡ after =
          is_f ∙ or_false after (ltb (suc i) (length ts)) (le-ltb (suc i) (length ts) past) in
          ap (λ z. instructions_of t (before || ltb 0 i) z ++ rest) h
          ∙ sym (sequence_last ts i t (before || ltb 0 i) after (omega arith) at past))
    ] in
    joined ∙ ap (λ z. z ++ old) code
    ∙ ap (λ z. sequence_code (trees (drop z ts)) (before || ltb 0 z) after ++ old) (sym p)

either_way : (b : Bool) {x y : List Instruction} → x ≡ y → (if b then x else y) ≡ y
either_way true e = e
either_way false e = refl

above_none : (n : ℕ) → nat_le (suc n) 0 ≡ false
above_none n = search rules

above_one : (n : ℕ) → nat_le (suc (suc n)) 1 ≡ false
above_one n = search rules

-- where there are no copies, what stands around them doesn't matter
pub no_copies : {A : Type 0} (low : ℕ) (high : Option ℕ) (t : Tree A) (before after : Bool) → high ≡ Some 0
    → repeated_code low high t before after ≡ counted_code low high (instructions_of t before after)
no_copies low high t before after e = rw e (either_way (holds_tree t) (same low))
  where
    a : List Instruction
    a = instructions_of t before after

    same : (low : ℕ) → copied_code low (Some 0) (instructions_of t) before after ≡ counted_code low (Some 0) a
    same zero = refl
    same (suc zero) =
        ap (λ b. if b then copies_code 1 a ++ up_to_code (0 - 1) a else never) (sym (above_none 0))
    same (suc (suc low)) =
        ap (λ b. if b then copies_code (suc (suc low)) a ++ up_to_code (0 - suc (suc low)) a else never)
        (sym (above_none (suc low)))

-- nor where there is at most one
pub one_copy : {A : Type 0} (low : ℕ) (high : Option ℕ) (t : Tree A) (before after : Bool) → high ≡ Some 1
    → repeated_code low high t before after ≡ counted_code low high (instructions_of t before after)
one_copy low high t before after e = rw e (either_way (holds_tree t) (same low))
  where
    a : List Instruction
    a = instructions_of t before after

    same : (low : ℕ) → copied_code low (Some 1) (instructions_of t) before after ≡ counted_code low (Some 1) a
    same zero = ap skip (sym (append-nil a))
    same (suc zero) = sym (append-nil (a ++ []) ∙ append-nil a)
    same (suc (suc low)) =
        ap (λ b. if b then copies_code (suc (suc low)) a ++ up_to_code (1 - suc (suc low)) a else never)
        (sym (above_one low))
