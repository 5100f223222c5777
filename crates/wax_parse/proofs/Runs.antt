-- Runs of characters and of archetypes, step by step.
use Rattle.std.proofs.Common.{true≢false, ◌≡◌, ℕ, zero, suc, ◌<◌, ◌≤◌, Bool, true, false, not, ◌||◌, ◌&&◌}
use Rattle.std.proofs.Common.{List, [], ◌∷◌, ◌++◌, length, Option, Some, None, if◌then◌else◌, ◌==◌, refl, sym}
use Rattle.std.proofs.Common.{◌∙◌, ap, subst, arith, append_assoc, append-nil}
use Rattle.wax_token.specs.declared.token.Archetype.{Archetype}
use Rattle.wax_token.specs.{declared.token.Archetype.TheVariants.Character, Syntax.literal}
use Rattle.wax_token.specs.Reads.{is_one_of, starts_with_one_of, escapable, class_escapable}
use Rattle.wax_parse.specs.inner.Parser.{strip, escaped_step, literal_step, put, literal_run, literal_leaf}
use Rattle.wax_parse.specs.inner.Parser.{is_plain_character, is_plain_text, StopsPlain, class_step, range_to}
use Rattle.wax_parse.specs.inner.Parser.{archetype_of, archetype_after, archetype_step, put_some, go_on}
use Rattle.wax_parse.specs.inner.Parser.{class_run, prefixed}

pub none_some : {A : Type 0} (x : A) → None ≡ Some x → ⊥
none_some x e = cc

pub or_false : (a b : Bool) → (a || b) ≡ false → (a ≡ false) × (b ≡ false)
or_false true b e = absurd (true≢false e)
or_false false b e = (refl, e)

pub and_true : (a b : Bool) → (a && b) ≡ true → (a ≡ true) × (b ≡ true)
and_true true b e = (refl, e)
and_true false b e = absurd (true≢false (sym e))

not_true : (b : Bool) → not b ≡ true → b ≡ false
not_true true e = absurd (true≢false (sym e))
not_true false e = refl

-- ---- one more character
pub shift_one : {A : Type 0} (whole t p q : List A) (c : A) → whole ≡ t ++ p → p ≡ c ∷ q
    → whole ≡ (t ++ c ∷ []) ++ q
shift_one whole t p q c e f = e ∙ ap (λ z. t ++ z) f ∙ sym (append_assoc t (c ∷ []) q)

pub plain_more : (t : List ℕ) (c : ℕ) → is_plain_text t ≡ true → is_plain_character c ≡ true
    → is_plain_text (t ++ c ∷ []) ≡ true
plain_more [] c e f = ap (λ b. b && true) f
plain_more (d ∷ t) c e f =
    let h : (is_plain_character d ≡ true) × (is_plain_text t ≡ true) =
    and_true (is_plain_character d) (is_plain_text t) e in
    ap (λ b. b && is_plain_text (t ++ c ∷ [])) h.0 ∙ plain_more t c h.1 f

-- ---- the run of a literal by its steps
abbrev StepsTo : List ℕ → Option (ℕ × List ℕ) → Type 0
StepsTo p None = literal_run p ≡ ([], p)
StepsTo p (Some r) = literal_run p ≡ put r.0 (literal_run r.1)

abbrev last_run : ℕ → Bool → List ℕ × List ℕ
last_run c b = if b then ([], c ∷ []) else (c ∷ [], [])

abbrev LastStepsTo : ℕ → Bool → Option (ℕ × List ℕ) → Type 0
LastStepsTo c b None = last_run c b ≡ ([], c ∷ [])
LastStepsTo c b (Some r) = last_run c b ≡ put r.0 (literal_run r.1)

abbrev one_step : ℕ → List ℕ → Bool → Option (ℕ × List ℕ)
one_step c s b = if b then None else Some (c, s)

-- the run of a class where the bracket closes, or goes on
abbrev class_choice : List ℕ → Option (List Archetype × List ℕ) → Bool → Option (List Archetype × List ℕ)
class_choice s again b = if b then Some ([], s) else again

run_last : (c : ℕ) → StepsTo (c ∷ []) (literal_step (c ∷ []))
run_last c = elim (92 == c) as (λ b. LastStepsTo c (b || is_one_of (47 ∷ escapable) c)
    (if b then None else one_step c [] (is_one_of (47 ∷ escapable) c))) [
      | true ↦ refl
      | false ↦ elim (is_one_of (47 ∷ escapable) c)
          as (λ b. LastStepsTo c b (one_step c [] b)) [ true ↦ refl | false ↦ refl ]
    ]

run_steps : (p : List ℕ) → StepsTo p (literal_step p)
run_steps [] = refl
run_steps (c ∷ []) = run_last c
run_steps (c ∷ d ∷ s) = elim (92 == c) as (λ b. (92 == c) ≡ b → StepsTo (c ∷ d ∷ s) (if b then escaped_step
    escapable (d ∷ s) else if is_one_of (47 ∷ escapable) c then None else Some (c, d ∷ s))) [
      | true ↦ λ e. elim (is_one_of escapable d)
          as (λ b. is_one_of escapable d ≡ b → StepsTo (c ∷ d ∷ s) (if b then Some (d, s) else None)) [
            | true ↦ λ f. rw (e, f) refl
            | false ↦ λ f. rw (e, f) refl
          ] refl
      | false ↦ λ e. elim (is_one_of (47 ∷ escapable) c)
          as (λ b. is_one_of (47 ∷ escapable) c ≡ b
          → StepsTo (c ∷ d ∷ s) (if b then None else Some (c, d ∷ s))) [
            | true ↦ λ f. rw (e, f) refl
            | false ↦ λ f. rw (e, f) refl
          ] refl
    ] refl

pub run_step : (p q : List ℕ) (c : ℕ) → literal_step p ≡ Some (c, q) → literal_run p ≡ put c (literal_run q)
run_step p q c e = subst (StepsTo p) e (run_steps p)

pub run_stop : (p : List ℕ) → literal_step p ≡ None → literal_run p ≡ ([], p)
run_stop p e = subst (StepsTo p) e (run_steps p)

-- a run so far
pub run_more : (whole t p q : List ℕ) (c : ℕ) → literal_step p ≡ Some (c, q)
    → literal_run whole ≡ (t ++ (literal_run p).0, (literal_run p).1) →
    literal_run whole ≡ ((t ++ c ∷ []) ++ (literal_run q).0, (literal_run q).1)
run_more whole t p q c e h =
    h ∙ ap (λ r. (t ++ r.0, r.1)) (run_step p q c e)
    ∙ ap (λ z. (z, (literal_run q).1)) (sym (append_assoc t (c ∷ []) (literal_run q).0))

pub run_end : (whole t p : List ℕ) → literal_step p ≡ None
    → literal_run whole ≡ (t ++ (literal_run p).0, (literal_run p).1) → literal_run whole ≡ (t, p)
run_end whole t p e h = h ∙ ap (λ r. (t ++ r.0, r.1)) (run_stop p e) ∙ ap (λ z. (z, p)) (append-nil t)

plain_step : (c : ℕ) (s : List ℕ) → is_plain_character c ≡ true → literal_step (c ∷ s) ≡ Some (c, s)
plain_step c s e =
    let h : ((92 == c) ≡ false) × (is_one_of (47 ∷ escapable) c ≡ false) =
    or_false (92 == c) (is_one_of (47 ∷ escapable) c) (not_true (is_one_of (92 ∷ 47 ∷ escapable) c) e) in
    ap (λ b. if b then escaped_step escapable s else if is_one_of (47 ∷ escapable) c then None
    else Some (c, s)) h.0
    ∙ ap (one_step c s) h.1

-- plain characters first
pub run_plain : (t q : List ℕ) → is_plain_text t ≡ true
    → literal_run (t ++ q) ≡ (t ++ (literal_run q).0, (literal_run q).1)
run_plain [] q e = refl
run_plain (c ∷ t) q e =
    let h : (is_plain_character c ≡ true) × (is_plain_text t ≡ true) =
    and_true (is_plain_character c) (is_plain_text t) e in
    run_step (c ∷ (t ++ q)) (t ++ q) c (plain_step c (t ++ q) h.0) ∙ ap (put c) (run_plain t q h.1)

-- no plain character and no backslash
stops : (q : List ℕ) → StopsPlain q → strip 92 q ≡ None → literal_step q ≡ None
stops [] h e = refl
stops (c ∷ s) h e = elim (92 == c)
    as (λ b. (if b then Some s else None) ≡ None → not (b || is_one_of (47 ∷ escapable) c) ≡ false →
    (if b then escaped_step escapable s else one_step c s (is_one_of (47 ∷ escapable) c)) ≡ None) [
      | true ↦ λ g k. absurd (none_some s (sym g))
      | false ↦ λ g k. elim (is_one_of (47 ∷ escapable) c) as (λ b. not b ≡ false → one_step c s b ≡ None) [
        | true ↦ λ m. refl
        | false ↦ λ m. absurd (true≢false m)
      ] k
    ] e h

pub run_borrowed : (whole t q : List ℕ) → whole ≡ t ++ q → is_plain_text t ≡ true → StopsPlain q
    → strip 92 q ≡ None → literal_run whole ≡ (t, q)
run_borrowed whole t q e f g h =
    run_end whole t q (stops q g h) (ap literal_run e ∙ run_plain t q f)

pub run_owned : (whole t q u v : List ℕ) → whole ≡ t ++ q → is_plain_text t ≡ true
    → u ≡ t ++ (literal_run q).0 → v ≡ (literal_run q).1 → literal_run whole ≡ (u, v)
run_owned whole t q u v e f g h = ap literal_run e ∙ run_plain t q f ∙ (λ i. (sym g i, sym h i))

-- ---- the leaf of a run
pub leaf_empty : (b : Bool) (t q : List ℕ) → t ≡ [] → literal_leaf b (t, q) ≡ None
leaf_empty b t q e = ap (λ z. literal_leaf b (z, q)) e

escape_starts : (q s : List ℕ) → strip 92 q ≡ Some s → starts_with_one_of (92 ∷ []) q ≡ true
escape_starts [] s e = absurd (none_some s e)
escape_starts (c ∷ q) s e = elim (92 == c) as (λ b. (if b then Some q else None) ≡ Some s
    → (b || false) ≡ true) [ true ↦ λ f. refl | false ↦ λ f. absurd (none_some s f) ] e

pub leaf_escape : (b : Bool) (t q s : List ℕ) → strip 92 q ≡ Some s → literal_leaf b (t, q) ≡ None
leaf_escape b [] q s e = refl
leaf_escape b (c ∷ t) q s e = ap (λ z. if z then None else Some (literal b (c ∷ t), q)) (escape_starts q s e)

no_escape : (q : List ℕ) → strip 92 q ≡ None → starts_with_one_of (92 ∷ []) q ≡ false
no_escape [] e = refl
no_escape (c ∷ q) e = elim (92 == c) as (λ b. (if b then Some q else None) ≡ None
    → (b || false) ≡ false) [ true ↦ λ f. absurd (none_some q (sym f)) | false ↦ λ f. refl ] e

leaf_plain : (b : Bool) (t q : List ℕ) → (t ≡ [] → ⊥) → strip 92 q ≡ None
    → literal_leaf b (t, q) ≡ Some (literal b t, q)
leaf_plain b [] q e f = absurd (e refl)
leaf_plain b (c ∷ t) q e f = ap (λ z. if z then None else Some (literal b (c ∷ t), q)) (no_escape q f)

pub leaf_some : (l : Bool × List ℕ) (b : Bool) (t q : List ℕ) → l ≡ (b, t) → (t ≡ [] → ⊥) → strip 92 q ≡ None
    → literal_leaf b (t, q) ≡ Some (literal l.0 l.1, q)
leaf_some l b t q made e f = leaf_plain b t q e f ∙ ap (λ z. Some (literal z.0 z.1, q)) (sym made)

-- ---- the run of a class by its steps
abbrev Shrinks : {A : Type 0} → List ℕ → Option (A × List ℕ) → Type 0
Shrinks p None = Unit {0}
Shrinks p (Some r) = length r.1 < length p

class_step_shrinks : (p : List ℕ) → Shrinks p (class_step p)
class_step_shrinks [] = tt
class_step_shrinks (c ∷ []) = elim (92 == c) as (λ b.
    Shrinks (c ∷ []) (if b then None else if is_one_of class_escapable c then None else Some (c, []))) [
      | true ↦ tt
      | false ↦ elim (is_one_of class_escapable c)
          as (λ b. Shrinks (c ∷ []) (if b then None else Some (c, []))) [ true ↦ tt | false ↦ omega arith ]
    ]
class_step_shrinks (c ∷ d ∷ s) =
    elim (92 == c) as (λ b. Shrinks (c ∷ d ∷ s) (if b then (if is_one_of class_escapable d then Some (d, s)
    else None) else if is_one_of class_escapable c then None else Some (c, d ∷ s))) [
      | true ↦ elim (is_one_of class_escapable d)
          as (λ b. Shrinks (c ∷ d ∷ s) (if b then Some (d, s) else None)) [ true ↦ omega arith | false ↦ tt ]
      | false ↦ elim (is_one_of class_escapable c)
          as (λ b.
          Shrinks (c ∷ d ∷ s) (if b then None else Some (c, d ∷ s))) [ true ↦ tt | false ↦ omega arith ]
    ]

range_shrinks : (p s : List ℕ) (c : ℕ) (o : Option (ℕ × List ℕ)) → length s < length p → Shrinks s o
    → Shrinks p (range_to c o)
range_shrinks p s c None h g = tt
range_shrinks p s c (Some r) h g = omega (arith, h, g)

archetype_shrinks : (p : List ℕ) (c : ℕ) (s : List ℕ) → length s < length p → Shrinks p (archetype_of c s)
archetype_shrinks p c [] h = h
archetype_shrinks p c (d ∷ s) h =
    elim (45 == d) as (λ b. Shrinks p (if b then range_to c (class_step s) else Some (Character c, d ∷ s))) [
      | true ↦ range_shrinks p s c (class_step s) (omega (arith, h)) (class_step_shrinks s)
      | false ↦ h
    ]

pub archetype_step_shrinks : (p : List ℕ) → Shrinks p (archetype_step p)
archetype_step_shrinks p = elim (class_step p) as (λ o. Shrinks p o → Shrinks p (archetype_after o)) [
  | None ↦ λ h. tt
  | Some r ↦ λ h. archetype_shrinks p r.0 r.1 h
] (class_step_shrinks p)

prefixed_put : (xs : List Archetype) (a : Archetype) (o : Option (List Archetype × List ℕ))
    → prefixed xs (put_some a o) ≡ prefixed (xs ++ a ∷ []) o
prefixed_put xs a None = refl
prefixed_put xs a (Some r) = ap (λ z. Some (z, r.1)) (sym (append_assoc xs (a ∷ []) r.0))

not_closed : (c : ℕ) (s : List ℕ) → strip 93 (c ∷ s) ≡ None → (93 == c) ≡ false
not_closed c s e = elim (93 == c) as (λ b. (if b then Some s else None) ≡ None
    → b ≡ false) [ true ↦ λ f. absurd (none_some s (sym f)) | false ↦ λ f. refl ] e

pub class_more : (whole : Option (List Archetype × List ℕ)) (xs : List Archetype) (n : ℕ) (p q : List ℕ)
    (a : Archetype) → strip 93 p ≡ None →
    archetype_step p ≡ Some (a, q) → length p ≤ n → whole ≡ prefixed xs (class_run n p) →
    (m : ℕ) × (length q ≤ m) × (whole ≡ prefixed (xs ++ a ∷ []) (class_run m q))
class_more whole xs n [] q a e f h w = absurd (let x : Archetype × List ℕ = (a, q) in none_some x f)
class_more whole xs zero (c ∷ s) q a e f h w = absurd (omega (arith, h))
class_more whole xs (suc n) (c ∷ s) q a e f h w = (
  n,
  (let k : length q < length (c ∷ s) = subst (Shrinks (c ∷ s)) f (archetype_step_shrinks (c ∷ s)) in
      omega (arith, k, h)),
  w ∙ ap (λ b. prefixed xs (class_choice s (go_on (class_run n) (archetype_step (c ∷ s))) b))
      (not_closed c s e)
      ∙ ap (λ o. prefixed xs (go_on (class_run n) o)) f ∙ prefixed_put xs a (class_run n q),
)

prefixed_none : (o : Option (List Archetype × List ℕ)) → o ≡ prefixed [] o
prefixed_none None = refl
prefixed_none (Some r) = refl

pub class_start : (p : List ℕ) (xs : List Archetype) → xs ≡ [] → (m : ℕ) × (length p ≤ m)
    × (class_run (length p) p ≡ prefixed xs (class_run m p))
class_start p xs e = (
  length p,
  omega arith,
  prefixed_none (class_run (length p) p) ∙ ap (λ z. prefixed z (class_run (length p) p)) (sym e),
)
