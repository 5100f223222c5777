-- The instructions of a token tree lead through exactly the texts that the tree means.
use Rattle.std.proofs.Common.{◌≡◌, ℕ, zero, suc, ◌+◌, ◌-◌, ◌<◌, ◌≤◌, ◌⊎◌, Bool, true, false, List, [], ◌∷◌}
use Rattle.std.proofs.Common.{◌++◌, Option, Some, None, nat_le, if◌then◌else◌, refl, sym, ◌∙◌, ap, subst, inl}
use Rattle.std.proofs.Common.{inr, arith, rules}
use Rattle.wax_program.specs.declared.instruction.Test.TheVariants.{Char, Folded, Class, NotSlash, Any, Never}
use Rattle.wax_program.specs.declared.instruction.Instruction.{Instruction}
use Rattle.wax_program.specs.declared.instruction.Instruction.TheVariants.{Repeat, Components}
use Rattle.unicode.specs.CaseFolding.{simple_fold}
use Rattle.wax_token.specs.Syntax.{Leaf, literal, class, separator, one, zero_or_more, tree, Tree, leaf}
use Rattle.wax_token.specs.Syntax.{alternation, concatenation, repetition, Trees, none, more}
use Rattle.wax_token.specs.Meaning.{TreeMeans, HasNoSlash, SameFold, SameText, LeafMeans, Copies, Means}
use Rattle.wax_token.specs.{Meaning.{MeansSome, MeansEach}, Cost.holds_tree}
use Rattle.wax_query.specs.{Ranges.AtMost, Components.{BeginsWithSlash, EndsWithSlash}}
use Rattle.wax_match.specs.inner.Code.{slash_code, never, skip, choose, literal_code, wildcard_code}
use Rattle.wax_match.specs.inner.Code.{leaf_instructions, copies_code, up_to_code, counted_code, many_code}
use Rattle.wax_match.specs.inner.Code.{copied_code, instructions_of, branches_code, sequence_code}
use Rattle.wax_match.proofs.Fragments.{Spells, OneOf, spells_empty, spells_test, spells_repeat}
use Rattle.wax_match.proofs.Fragments.{spells_components, spells_append, spells_same, spells_loop}
use Rattle.wax_match.proofs.Fragments.{spells_skip, spells_choose}
use Rattle.wax_token.proofs.Copies.{Many, ManyWithin, OneThen, Repeats, TwoMore, open_from, open_to, many_add}
use Rattle.wax_token.proofs.Copies.{many_split, same_from, same_to, two_more_from, two_more_to}
use Rattle.wax_token.proofs.Moved.{means_moved}

pub spells_slash : Spells slash_code (λ s. s ≡ 47 ∷ [])
spells_slash = spells_same (λ s h. h.1 ∙ ap (λ c. c ∷ []) h.2) (λ s h. (47, h, refl)) (spells_test (Char 47))

pub spells_never : Spells never (λ s. ⊥)
spells_never = spells_same (λ s h. h.2) (λ s h. absurd h) (spells_test Never)

pub spells_any : Spells (Repeat Any ∷ []) (λ s. Unit {0})
spells_any = spells_repeat Any (λ s. Unit {0}) tt (λ c s h k. tt) (λ c s h. (tt, tt))

pub spells_star : Spells (Repeat NotSlash ∷ []) HasNoSlash
spells_star = spells_repeat NotSlash HasNoSlash tt (λ c s h k. (h, k)) (λ c s h. h)

slash_then_any : Spells (slash_code ++ Repeat Any ∷ []) BeginsWithSlash
slash_then_any = spells_same (λ s h. (h.1, h.2 ∙ ap (λ z. z ++ h.1) h.3))
    (λ s h. (47 ∷ [], h.0, h.1, refl, tt)) (spells_append spells_slash spells_any)

pub both_from : (s x y : List ℕ) → s ≡ x ++ y → x ≡ 47 ∷ [] → (y ≡ []) ⊎ EndsWithSlash y
    → BeginsWithSlash s × EndsWithSlash s
both_from s x y e f (inl h) = let g : s ≡ 47 ∷ [] = cc in (([], g), ([], g))
both_from s x y e f (inr h) = (
  (h.0 ++ 47 ∷ [], e ∙ ap (λ z. z ++ y) f ∙ ap (λ z. 47 ∷ z) h.1),
  (47 ∷ h.0, e ∙ ap (λ z. z ++ y) f ∙ ap (λ z. 47 ∷ z) h.1),
)

pub both_to : (s t u : List ℕ) → s ≡ 47 ∷ t → s ≡ u ++ 47 ∷ []
    → OneThen (λ s. s ≡ 47 ∷ []) (λ s. (s ≡ []) ⊎ EndsWithSlash s) s
both_to s t [] e f = (47 ∷ [], t, e, refl, inl (let g : t ≡ [] = cc in g))
both_to s t (c ∷ u) e f = (47 ∷ [], t, e, refl, inr (u, (let g : t ≡ u ++ 47 ∷ [] = cc in g)))

spells_both : Spells (slash_code ++ skip (Components ∷ [])) (λ s. BeginsWithSlash s × EndsWithSlash s)
spells_both = spells_same (λ s h. both_from s h.0 h.1 h.2 h.3 h.4) (λ s h. both_to s h.0.0 h.1.0 h.0.1 h.1.1)
    (spells_append spells_slash (spells_skip spells_components))

pub spells_wildcard : (before after rooted : Bool)
    → Spells (wildcard_code before after rooted) (TreeMeans before after rooted)
spells_wildcard false false false = spells_any
spells_wildcard false false true = slash_then_any
spells_wildcard false true false = spells_skip spells_components
spells_wildcard false true true = spells_both
spells_wildcard true true rooted = spells_both
spells_wildcard true false rooted = spells_skip slash_then_any

SameText-nil : (b : Bool) (s : List ℕ) → SameText b [] s → s ≡ []
SameText-nil b [] h = refl
SameText-nil b (c ∷ s) h = absurd h

not_nil : (c : ℕ) (s : List ℕ) → c ∷ s ≡ [] → ⊥
not_nil c s e = cc

nil-SameText : (b : Bool) (s : List ℕ) → s ≡ [] → SameText b [] s
nil-SameText b [] h = tt
nil-SameText b (c ∷ s) h = not_nil c s h

plain_put : (c : ℕ) (t s : List ℕ) → OneThen (OneOf (Char c)) (SameText false t) s → SameText false (c ∷ t) s
plain_put c t s h = subst (SameText false (c ∷ t)) (sym (h.2 ∙ ap (λ z. z ++ h.1) h.3.1)) (sym h.3.2, h.4)

plain_take : (c : ℕ) (t s : List ℕ) → SameText false (c ∷ t) s → OneThen (OneOf (Char c)) (SameText false t) s
plain_take c t [] h = absurd h
plain_take c t (d ∷ s) h = (d ∷ [], s, refl, (d, refl, sym h.0), h.1)

folded_put : (c : ℕ) (t s : List ℕ) → OneThen (OneOf (Folded (simple_fold c))) (SameText true t) s
    → SameText true (c ∷ t) s
unfolding SameFold
folded_put c t s h = subst (SameText true (c ∷ t)) (sym (h.2 ∙ ap (λ z. z ++ h.1) h.3.1)) (h.3.2, h.4)

folded_take : (c : ℕ) (t s : List ℕ) → SameText true (c ∷ t) s
    → OneThen (OneOf (Folded (simple_fold c))) (SameText true t) s
unfolding SameFold
folded_take c t [] h = absurd h
folded_take c t (d ∷ s) h = (d ∷ [], s, refl, (d, refl, h.0), h.1)

pub spells_literal : (b : Bool) (t : List ℕ) → Spells (literal_code b t) (SameText b t)
spells_literal b [] = spells_same (nil-SameText b) (SameText-nil b) spells_empty
spells_literal false (c ∷ t) = spells_same (plain_put c t) (plain_take c t)
    (spells_append (spells_test (Char c)) (spells_literal false t))
spells_literal true (c ∷ t) = spells_same (folded_put c t) (folded_take c t)
    (spells_append (spells_test (Folded (simple_fold c))) (spells_literal true t))

pub spells_leaf : (l : Leaf) (before after : Bool)
    → Spells (leaf_instructions l before after) (LeafMeans l before after)
spells_leaf (literal b t) before after = spells_literal b t
spells_leaf (class negated xs) before after = spells_test (Class (negated, xs))
spells_leaf separator before after = spells_slash
spells_leaf one before after = spells_test NotSlash
spells_leaf (zero_or_more _) before after = spells_star
spells_leaf (tree rooted) before after = spells_wildcard before after rooted

-- ---- copies
pub le_from : (m n : ℕ) → nat_le m n ≡ true → m ≤ n
le_from m n e = search rules

pub not_le_from : (m n : ℕ) → nat_le m n ≡ false → m ≤ n → ⊥
not_le_from m n e h = search rules

-- at most n texts of P
abbrev pub UpTo : (List ℕ → Type 0) → ℕ → List ℕ → Type 0
UpTo P n s = (k : ℕ) × (k ≤ n) × Many P k s

module _ {a : List Instruction} {P : List ℕ → Type 0} (f : Spells a P) where
  spells_copies : (n : ℕ) → Spells (copies_code n a) (Many P n)
  spells_copies zero = spells_empty
  spells_copies (suc n) = spells_append f (spells_copies n)

  up_to_from : (n : ℕ) (s : List ℕ) → (s ≡ []) ⊎ OneThen P (UpTo P n) s → UpTo P (suc n) s
  up_to_from n s (inl h) = (0, omega arith, h)
  up_to_from n s (inr h) = (suc h.4.0, omega (arith, h.4.1), (h.0, h.1, h.2, h.3, h.4.2))

  up_to_to : (n k : ℕ) (s : List ℕ) → k ≤ suc n → Many P k s → (s ≡ []) ⊎ OneThen P (UpTo P n) s
  up_to_to n zero s le h = inl h
  up_to_to n (suc k) s le h = inr (h.0, h.1, h.2, h.3, (k, omega (arith, le), h.4))

  spells_up_to : (n : ℕ) → Spells (up_to_code n a) (UpTo P n)
  spells_up_to zero = spells_same (λ s h. (0, omega arith, h)) (λ s h. none_left h.0 s h.1 h.2) spells_empty
    where
      none_left : (k : ℕ) (s : List ℕ) → k ≤ 0 → Many P k s → s ≡ []
      none_left zero s le h = h
      none_left (suc k) s le h = absurd (omega (arith, le))
  spells_up_to (suc n) = spells_same (up_to_from n) (λ s h. up_to_to n h.0 s h.1 h.2)
      (spells_skip (spells_append f (spells_up_to n)))

  closed_from : (low high : ℕ) → low ≤ high → (s : List ℕ) → OneThen (Many P low) (UpTo P (high - low)) s
      → ManyWithin P low (Some high) s
  closed_from low high le s h = (
    low + h.4.0,
    omega arith,
    omega (arith, h.4.1, le),
    subst (Many P (low + h.4.0)) (sym h.2) (many_add P low h.4.0 h.0 h.1 h.3 h.4.2),
  )

  closed_to : (low high : ℕ) → (s : List ℕ) → ManyWithin P low (Some high) s
      → OneThen (Many P low) (UpTo P (high - low)) s
  closed_to low high s h =
      let e : h.0 ≡ low + (h.0 - low) = omega (arith, h.1) in
      let r : OneThen (Many P low) (Many P (h.0 - low)) s =
      many_split P low (h.0 - low) s (subst (λ z. Many P z s) e h.3) in
      (r.0, r.1, r.2, r.3, (h.0 - low, omega (arith, h.1, h.2), r.4))

  spells_closed : (low high : ℕ) (b : Bool) → nat_le low high ≡ b →
      Spells (if b then copies_code low a ++ up_to_code (high - low) a else never)
      (ManyWithin P low (Some high))
  spells_closed low high true e = spells_same (closed_from low high (le_from low high e)) (closed_to low high)
      (spells_append (spells_copies low) (spells_up_to (high - low)))
  spells_closed low high false e =
      spells_same (λ s h. absurd h) (λ s h. not_le_from low high e (omega (arith, h.1, h.2))) spells_never

  pub spells_counted : (low : ℕ) (high : Option ℕ) → Spells (counted_code low high a) (ManyWithin P low high)
  spells_counted low None =
      spells_same (open_from P low) (open_to P low) (spells_append (spells_copies low) (spells_loop f))
  spells_counted low (Some high) = spells_closed low high (nat_le low high) refl

-- ---- repetitions
module _ (Body : Bool → Bool → List ℕ → Type 0) where
  module _ {code : Bool → Bool → List Instruction}
      (f : (before after : Bool) → Spells (code before after) (Body before after)) where
    spells_many : (low : ℕ) (high : Option ℕ) (before after : Bool)
        → Spells (many_code low high code before after) (TwoMore Body low high before after)
    spells_many low high before after =
        spells_same (two_more_from Body low high before after) (two_more_to Body low high before after)
        (spells_append (f before true) (spells_append (spells_counted (f true true) low high) (f true after)))

  abbrev two_more : Option ℕ → Option ℕ
  two_more None = None
  two_more (Some n) = Some (suc (suc n))

  fewer : (k : ℕ) (high : Option ℕ) → AtMost (suc (suc k)) (two_more high) → AtMost k high
  fewer k None h = tt
  fewer k (Some n) h = omega (arith, h)

  further : (k : ℕ) (high : Option ℕ) → AtMost k high → AtMost (suc (suc k)) (two_more high)
  further k None h = tt
  further k (Some n) h = omega (arith, h)

  few : (k : ℕ) (high : Option ℕ) → k ≤ 1 → AtMost k (two_more high)
  few k None h = tt
  few k (Some n) h = omega (arith, h)

  module _ (before after : Bool) (s : List ℕ) where
    any_to : (high : Option ℕ) (k : ℕ) → AtMost k (two_more high) → Copies k Body before after s →
        (s ≡ []) ⊎ (Body before after s ⊎ TwoMore Body 0 high before after s)
    any_to high zero le c = inl c
    any_to high (suc zero) le c = inr (inl c)
    any_to high (suc (suc k)) le c = inr (inr (k, omega arith, fewer k high le, c))

    some_to : (high : Option ℕ) (k : ℕ) → 1 ≤ k → AtMost k (two_more high) → Copies k Body before after s →
        Body before after s ⊎ TwoMore Body 0 high before after s
    some_to high zero low le c = absurd (omega (arith, low))
    some_to high (suc zero) low le c = inl c
    some_to high (suc (suc k)) low le c = inr (k, omega arith, fewer k high le, c)

    some_from : (low : ℕ) (high : Option ℕ) → low ≤ 1 → Body before after s
        ⊎ TwoMore Body 0 high before after s → Repeats Body low (two_more high) before after s
    some_from low high l (inl p) = (1, l, few 1 high (omega arith), p)
    some_from low high l (inr h) = (suc (suc h.0), omega (arith, l), further h.0 high h.2, h.3)

    any_from : (high : Option ℕ) → (s ≡ []) ⊎ (Body before after s ⊎ TwoMore Body 0 high before after s)
        → Repeats Body 0 (two_more high) before after s
    any_from high (inl e) = (0, omega arith, few 0 high (omega arith), e)
    any_from high (inr h) = some_from 0 high (omega arith) h

    many_more_to : (low : ℕ) (high : Option ℕ) (k : ℕ) → suc (suc low) ≤ k → AtMost k (two_more high)
        → Copies k Body before after s → TwoMore Body low high before after s
    many_more_to low high zero l le c = absurd (omega (arith, l))
    many_more_to low high (suc zero) l le c = absurd (omega (arith, l))
    many_more_to low high (suc (suc k)) l le c = (k, omega (arith, l), fewer k high le, c)

    many_more_from : (low : ℕ) (high : Option ℕ) → TwoMore Body low high before after s
        → Repeats Body (suc (suc low)) (two_more high) before after s
    many_more_from low high h = (suc (suc h.0), omega (arith, h.1), further h.0 high h.2, h.3)

    at_one_to : (k : ℕ) → k ≤ 1 → Copies k Body before after s → (s ≡ []) ⊎ Body before after s
    at_one_to zero l c = inl c
    at_one_to (suc zero) l c = inr c
    at_one_to (suc (suc k)) l c = absurd (omega (arith, l))

    one_to : (k : ℕ) → 1 ≤ k → k ≤ 1 → Copies k Body before after s → Body before after s
    one_to zero l m c = absurd (omega (arith, l))
    one_to (suc zero) l m c = c
    one_to (suc (suc k)) l m c = absurd (omega (arith, m))

    zero_to : (k : ℕ) → k ≤ 0 → Copies k Body before after s → s ≡ []
    zero_to zero l c = c
    zero_to (suc k) l c = absurd (omega (arith, l))

  module _ {code : Bool → Bool → List Instruction}
      (f : (before after : Bool) → Spells (code before after) (Body before after)) (before after : Bool) where
    no_way : (low high : ℕ) → high < low → Spells never (Repeats Body low (Some high) before after)
    no_way low high lt = spells_same (λ s h. absurd h)
        (λ s h. let e : high < high = omega (arith, lt, h.1, h.2) in omega (arith, e)) spells_never

    any_way : (high : Option ℕ)
        → Spells (skip (choose (code before after) (many_code 0 high code before after)))
        (Repeats Body 0 (two_more high) before after)
    any_way high =
        spells_same (λ s. any_from before after s high) (λ s h. any_to before after s high h.0 h.2 h.3)
        (spells_skip (spells_choose (f before after) (spells_many f 0 high before after)))

    some_way : (high : Option ℕ) → Spells (choose (code before after) (many_code 0 high code before after))
        (Repeats Body 1 (two_more high) before after)
    some_way high = spells_same (λ s. some_from before after s 1 high (omega arith))
        (λ s h. some_to before after s high h.0 h.1 h.2 h.3)
        (spells_choose (f before after) (spells_many f 0 high before after))

    many_way : (low : ℕ) (high : Option ℕ) → Spells (many_code low high code before after)
        (Repeats Body (suc (suc low)) (two_more high) before after)
    many_way low high = spells_same (λ s. many_more_from before after s low high)
        (λ s h. many_more_to before after s low high h.0 h.1 h.2 h.3) (spells_many f low high before after)

    pub spells_copied : (low : ℕ) (high : Option ℕ)
        → Spells (copied_code low high code before after) (Repeats Body low high before after)
    spells_copied zero (Some zero) = spells_same (λ s e. (0, omega arith, omega arith, e))
        (λ s h. zero_to before after s h.0 h.2 h.3) spells_empty
    spells_copied zero (Some (suc zero)) =
        spells_same (λ s h.
        elim h [ inl e ↦ (0, omega arith, omega arith, e) | inr p ↦ (1, omega arith, omega arith, p) ])
        (λ s h. at_one_to before after s h.0 h.2 h.3) (spells_skip (f before after))
    spells_copied zero (Some (suc (suc high))) = any_way (Some high)
    spells_copied zero None = any_way None
    spells_copied (suc zero) (Some zero) = no_way 1 0 (omega arith)
    spells_copied (suc zero) (Some (suc zero)) = spells_same (λ s p. (1, omega arith, omega arith, p))
        (λ s h. one_to before after s h.0 h.1 h.2 h.3) (f before after)
    spells_copied (suc zero) (Some (suc (suc high))) = some_way (Some high)
    spells_copied (suc zero) None = some_way None
    spells_copied (suc (suc low)) (Some zero) = no_way (suc (suc low)) 0 (omega arith)
    spells_copied (suc (suc low)) (Some (suc zero)) = no_way (suc (suc low)) 1 (omega arith)
    spells_copied (suc (suc low)) (Some (suc (suc high))) = many_way low (Some high)
    spells_copied (suc (suc low)) None = many_way low None

-- ---- the main theorem
mutual
  pub compiled : {A : Type 0} (t : Tree A) (before after : Bool)
      → Spells (instructions_of t before after) (Means t before after)
  compiled (leaf a l) before after = spells_leaf l before after
  compiled (alternation a ts) before after = compiled_branches ts before after
  compiled (concatenation a ts) before after = compiled_sequence ts before after
  compiled (repetition a t low high) before after =
      elim (holds_tree t) as (λ h. holds_tree t ≡ h → Spells (if h then copied_code low high
      (instructions_of t) before after else counted_code low high (instructions_of t before after))
      (Repeats (Means t) low high before after)) [
        | true ↦ λ e. spells_copied (Means t) (λ b f. compiled t b f) before after low high
        | false ↦ λ e.
            spells_same (λ s h. (h.0, h.1, h.2, same_from (Means t) (means_moved t e) h.0 before after s h.3))
            (λ s h. (h.0, h.1, h.2, same_to (Means t) (means_moved t e) h.0 before after s h.3))
            (spells_counted (compiled t before after) low high)
      ] refl

  compiled_branches : {A : Type 0} (ts : Trees A) (before after : Bool)
      → Spells (branches_code ts before after) (MeansSome ts before after)
  compiled_branches none before after = spells_never
  compiled_branches (more t ts) before after =
      spells_choose (compiled t before after) (compiled_branches ts before after)

  pub compiled_sequence : {A : Type 0} (ts : Trees A) (before after : Bool)
      → Spells (sequence_code ts before after) (MeansEach ts before after)
  compiled_sequence none before after = spells_empty
  compiled_sequence (more t none) before after = compiled t before after
  compiled_sequence (more t (more u us)) before after =
      spells_append (compiled t before true) (compiled_sequence (more u us) true after)
