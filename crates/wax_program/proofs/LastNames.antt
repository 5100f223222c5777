-- Programs that begin with components and stay in one from then on.
use Rattle.std.proofs.Common.{◌≡◌, ℕ, zero, suc, ◌+◌, ◌-◌, ◌≤◌, ◌<◌, ◌⊎◌, ◌↔◌, List, [], ◌∷◌, ◌++◌, length}
use Rattle.std.proofs.Common.{Some, slice_get, refl, sym, ◌∙◌, ap, subst, inl, inr, arith, ◌*◌, length-append}
use Rattle.std.proofs.{Common.{Bool, IfOk, IsTrue}, lemmas.Option.slice_get_within, Math.Nat.mul-le-mul_right}
use Rattle.std.proofs.lemmas.Str.{IsUtf8-append, IsUtf8-from_ascii, chars-append, chars_past_char}
use Rattle.std.proofs.{Math.Utf8.encode, lemmas.Str.Ascii.{IsAscii-cons, IsAscii-nil}}
use Rattle.std.specs.{Prelude.{Result, Ok, Err}, Str.{IsUtf8, chars}}
use Rattle.wax_program.specs.declared.instruction.Instruction.{Instruction}
use Rattle.wax_program.specs.declared.instruction.Instruction.TheVariants.{Check, Repeat, Components, Fork}
use Rattle.wax_program.specs.declared.instruction.Instruction.TheVariants.{Jump, Back, End}
use Rattle.wax_program.specs.Last.{IsCutBetween, IsLastName, ReadsLast}
use Rattle.wax_program.specs.Machine.{PassesTest, Moves, AcceptsIn, Accepts}
use Rattle.wax_program.specs.inner.Names.{StaysInName, StayInName}
use Rattle.wax_program.proofs.{Advancing.chars_few, Steps.{after_any, after_slash, after_fork}}
use Rattle.wax_token.specs.Meaning.{HasNoSlash}

some_same : {i j : Instruction} → Some i ≡ Some j → i ≡ j
some_same e = cc

cons_nil : {c : ℕ} {s : List ℕ} → c ∷ s ≡ [] → ⊥
cons_nil e = cc

head_same : {c d : ℕ} {s t : List ℕ} → c ∷ s ≡ d ∷ t → c ≡ d
head_same e = cc

tail_same : {c d : ℕ} {s t : List ℕ} → c ∷ s ≡ d ∷ t → s ≡ t
tail_same e = cc

-- ---- texts with a `/`
slash_inside : (p q : List ℕ) → HasNoSlash (p ++ 47 ∷ q) → ⊥
slash_inside [] q h = h.0 refl
slash_inside (c ∷ p) q h = slash_inside p q h.1

-- what follows the last `/` is the same however the text is parted
name_same : (p q r s : List ℕ) → p ++ 47 ∷ q ≡ r ++ 47 ∷ s → HasNoSlash q → HasNoSlash s → q ≡ s
name_same [] q [] s e h g = tail_same e
name_same [] q (d ∷ r) s e h g = absurd (slash_inside r s (subst HasNoSlash (tail_same e) h))
name_same (c ∷ p) q [] s e h g = absurd (slash_inside p q (subst HasNoSlash (sym (tail_same e)) g))
name_same (c ∷ p) q (d ∷ r) s e h g = name_same p q r s (tail_same e) h g

module _ (code : List Instruction) where
  -- ---- from the place 2 on
  moved : (n k : ℕ) (i : Instruction) (s : List ℕ) → 2 ≤ k → StaysInName i k
      → ((x : ℕ) (t : List ℕ) → 2 ≤ x → AcceptsIn code n x t → HasNoSlash t)
      → Moves i (AcceptsIn code n) k s → HasNoSlash s
  moved n k (Check t) [] le stays again m = absurd m
  moved n k (Check t) (c ∷ s) le stays again m =
      ((λ e. stays (subst (PassesTest t) e m.0)), again (k + 1) s (omega (arith, le)) m.1)
  moved n k (Repeat t) [] le stays again m = tt
  moved n k (Repeat t) (c ∷ s) le stays again (inl m) = again (k + 1) (c ∷ s) (omega (arith, le)) m
  moved n k (Repeat t) (c ∷ s) le stays again (inr m) =
      ((λ e. stays (subst (PassesTest t) e m.0)), again k s le m.1)
  moved n k Components s le stays again m = absurd stays
  moved n k (Fork j) s le stays again (inl m) = again (k + 1) s (omega (arith, le)) m
  moved n k (Fork j) s le stays again (inr m) = again (k + 1 + j) s (omega (arith, le)) m
  moved n k (Jump j) s le stays again m = again (k + 1 + j) s (omega (arith, le)) m
  moved n k (Back j) s le stays again m = again (k - j) s (omega (arith, stays)) m
  moved n k (End i j) s le stays again m = subst HasNoSlash (sym m.3) ((λ e. absurd (omega (arith, e))), tt)

  module _ (stay : StayInName code (length code)) where
    no_slash : (n k : ℕ) (s : List ℕ) → 2 ≤ k → AcceptsIn code n k s → HasNoSlash s
    no_slash zero k s le a = absurd a
    no_slash (suc n) k s le (inl a) = subst HasNoSlash (sym a.1) tt
    no_slash (suc n) k s le (inr a) =
        let inside : k < length code = slice_get_within code k a.0 a.1 in
        let stays : StaysInName a.0 k = stay k a.0 le (omega (arith, inside)) a.1 in
        moved n k a.0 s le stays (λ x t lt b. no_slash n x t lt b) a.2

    module _ (fork : slice_get code 0 ≡ Some (Fork 1)) (components : slice_get code 1 ≡ Some Components) where
      not_ended : (k : ℕ) (i : Instruction) → slice_get code k ≡ Some i → k ≡ length code → ⊥
      not_ended k i is e = let inside : k < length code = slice_get_within code k i is in
          omega (arith, inside, e)

      -- ---- the components are some text and a `/`
      taken : (n : ℕ) (s : List ℕ) → AcceptsIn code n 1 s
          → (p : List ℕ) × (q : List ℕ) × (s ≡ p ++ 47 ∷ q) × Accepts code 2 q
      taken zero s a = absurd a
      taken (suc n) s (inl a) = absurd (not_ended 1 Components components a.0)
      taken (suc n) [] (inr a) =
          let m : Moves Components (AcceptsIn code n) 1 [] =
          subst (λ z. Moves z (AcceptsIn code n) 1 []) (some_same (sym a.1 ∙ components)) a.2 in
          absurd m
      taken (suc n) (c ∷ s) (inr a) =
          let m : Moves Components (AcceptsIn code n) 1 (c ∷ s) =
          subst (λ z. Moves z (AcceptsIn code n) 1 (c ∷ s)) (some_same (sym a.1 ∙ components)) a.2 in
          elim m [
            | inl b ↦ (let (p, q, e, acc) = taken n s b in (c ∷ p, q, ap (λ z. c ∷ z) e, acc))
            | inr b ↦ ([], s, ap (λ z. z ∷ s) b.0, (n, b.1))
          ]

      untaken : (p q : List ℕ) → Accepts code 2 q → Accepts code 1 (p ++ 47 ∷ q)
      untaken [] q a = after_slash code 1 47 q components refl a
      untaken (c ∷ p) q a = after_any code 1 c (p ++ 47 ∷ q) components (untaken p q a)

      -- ---- the whole program
      forked : (s : List ℕ) → Accepts code 0 s → Accepts code 1 s ⊎ Accepts code 2 s
      forked s (zero, a) = absurd a
      forked s (suc n, inl a) = absurd (not_ended 0 (Fork 1) fork a.0)
      forked s (suc n, inr a) =
          let m : Moves (Fork 1) (AcceptsIn code n) 0 s =
          subst (λ z. Moves z (AcceptsIn code n) 0 s) (some_same (sym a.1 ∙ fork)) a.2 in
          elim m [ inl b ↦ inl (n, b) | inr b ↦ inr (n, b) ]

      pub reads_last_of : ReadsLast code
      reads_last_of before name none = ((alone, alone_too), (whole, whole_too))
        where
          alone : Accepts code 0 name → Accepts code 2 name
          alone a = elim (forked name a) [
            | inl b ↦ (let (p, q, e, acc) = taken b.0 name b.1 in
                absurd (slash_inside p q (subst HasNoSlash e none)))
            | inr b ↦ b
          ]

          alone_too : Accepts code 2 name → Accepts code 0 name
          alone_too a = after_fork 1 code 0 name fork (inr a)

          whole : Accepts code 0 (before ++ 47 ∷ name) → Accepts code 2 name
          whole a = elim (forked (before ++ 47 ∷ name) a) [
            | inl b ↦ (let (p, q, e, acc) = taken b.0 (before ++ 47 ∷ name) b.1 in
                let same : name ≡ q =
                name_same before name p q e none (no_slash acc.0 2 q (omega arith) acc.1) in
                subst (Accepts code 2) (sym same) acc)
            | inr b ↦
                absurd (slash_inside before name (no_slash b.0 2 (before ++ 47 ∷ name) (omega arith) b.1))
          ]

          whole_too : Accepts code 2 name → Accepts code 0 (before ++ 47 ∷ name)
          whole_too a = after_fork 1 code 0 (before ++ 47 ∷ name) fork (inl (untaken before name a))

-- ---- the last component of a text
past_slash : (bs : List ℕ) → IsUtf8 bs → IsUtf8 (47 ∷ bs)
past_slash bs u =
    IsUtf8-append (47 ∷ []) bs (IsUtf8-from_ascii (47 ∷ []) (IsAscii-cons 47 [] (omega arith) IsAscii-nil)) u

-- the bytes of a text that is cut behind a `/`
pub cut_chars : (front name : List ℕ) → IsUtf8 front → IsUtf8 name
    → chars (front ++ 47 ∷ name) ≡ chars front ++ 47 ∷ chars name
unfolding encode
cut_chars front name u v =
    chars-append front (47 ∷ name) u
    ∙ ap (λ z. chars front ++ z) (chars_past_char (47 ∷ name) name 47 (past_slash name v) refl)

pub cut_between : (front name : List ℕ) → IsUtf8 front → IsUtf8 name → IsCutBetween (front ++ 47 ∷ name) name
cut_between front name u v =
    let few = chars_few front u in
    let whole = ap length (cut_chars front name u v) in
    let counted = length-append (chars front) (47 ∷ chars name) in
    let bytes = length-append front (47 ∷ name) in
    record {
      bytes = omega (arith, bytes);
      least = omega (arith, few.0, whole, counted, bytes);
      most = omega (arith, few.1, whole, counted, bytes);
    }

pub not_cut : (bs : List ℕ) → IsCutBetween bs bs
not_cut bs = record { bytes = omega arith; least = omega arith; most = omega arith }

-- ---- what a run answers and counts
pub name_decides : (code : List Instruction) (text name : List ℕ) → ReadsLast code → IsLastName text name
    → Accepts code 2 name ↔ Accepts code 0 text
name_decides code text name last (none, inl e) =
    let (onward, backward) = (last [] name none).0 in
    ((λ a. subst (Accepts code 0) (sym e) (backward a)), (λ a. onward (subst (Accepts code 0) e a)))
name_decides code text name last (none, inr (before, e)) =
    let (onward, backward) = (last before name none).1 in
    ((λ a. subst (Accepts code 0) (sym e) (backward a)), (λ a. onward (subst (Accepts code 0) e a)))

pub same_answer : {E : Type 0} (r : Result Bool E) (A B : Type 0) → A ↔ B → IfOk r (λ b. IsTrue b ↔ A)
    → IfOk r (λ b. IsTrue b ↔ B)
same_answer (Ok b) A B h g = ((λ t. h.0 (g.0 t)), (λ t. g.1 (h.1 t)))
same_answer (Err e) A B h g = tt

pub counted_name : (len old met new bytes left chars rest : ℕ) → 4 ≤ len → left ≤ bytes
    → bytes + 4 * rest ≤ left + 4 * chars → met ≤ old + (bytes - left) → new ≤ met + len * (rest + 1)
    → new ≤ old + len * (chars + 1)
counted_name len old met new bytes left chars rest long le most a b =
    let passed : ℕ = chars - rest in
    let whole : rest + passed ≡ chars = omega (arith, le, most) in
    let less : 4 * passed ≤ len * passed = mul-le-mul_right passed (let k : 4 ≤ len = long in k) in
    subst (λ k. new ≤ old + len * (k + 1)) whole (omega (arith, less, le, most, whole, a, b))
