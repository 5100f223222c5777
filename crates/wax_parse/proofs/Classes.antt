-- The classes that the parser reads are those that are spelled.
use Rattle.std.proofs.Common.{true≢false, ◌≡◌, ℕ, zero, suc, ◌<◌, ◌≤◌, Bool, true, false, ◌||◌, List, [], ◌∷◌}
use Rattle.std.proofs.Common.{◌++◌, length, Option, Some, None, if◌then◌else◌, ◌==◌, codes, refl, sym, ◌∙◌}
use Rattle.std.proofs.Common.{ap, subst, arith, length-append, append_assoc, eqb-true, inl, inr}
use Rattle.std.proofs.lemmas.Bool.Decides.{eqb_tells}
use Rattle.wax_token.specs.declared.token.Archetype.{Archetype}
use Rattle.wax_token.specs.declared.token.Archetype.TheVariants.{Character, Range}
use Rattle.wax_token.specs.Reads.{is_one_of, starts_with_one_of, class_escapable, spelled, archetype_text}
use Rattle.wax_token.specs.Reads.{archetypes_text, IsPlainArchetype, AllPlain}
use Rattle.wax_parse.specs.inner.Parser.{strip, escaped_step, class_step, range_to, archetype_of}
use Rattle.wax_parse.specs.inner.Parser.{archetype_after, archetype_step, put_some, go_on, class_run}
use Rattle.wax_parse.proofs.Runs.{none_some, or_false}

-- a character that is of a set isn't one that isn't
pub outside : (set : List ℕ) (k c : ℕ) → is_one_of set k ≡ false → is_one_of set c ≡ true → (k == c) ≡ false
outside set k c out into = elim (eqb_tells k c) [
  | inl e ↦ absurd (true≢false (sym into ∙ ap (is_one_of set) (sym e.1) ∙ out))
  | inr e ↦ e.0
]

pub not_member : (set : List ℕ) (k c : ℕ) → is_one_of set k ≡ true
    → is_one_of set c ≡ false → (k == c) ≡ false
not_member set k c into out = elim (eqb_tells k c) [
  | inl e ↦ absurd (true≢false (sym into ∙ ap (is_one_of set) e.1 ∙ out))
  | inr e ↦ e.0
]

unequal : (c : ℕ) → (c ≡ 92 → ⊥) → (92 == c) ≡ false
unequal c h = elim (eqb_tells 92 c) [ inl e ↦ absurd (h (sym e.1)) | inr e ↦ e.0 ]

equal_not : (c : ℕ) → (92 == c) ≡ false → c ≡ 92 → ⊥
equal_not c e f = true≢false ((let z : true ≡ (92 == c) = ap (λ k. 92 == k) (sym f) in z) ∙ e)

-- ---- a character
abbrev as_spelled : ℕ → Bool → List ℕ
as_spelled c b = if b then 92 ∷ c ∷ [] else c ∷ []

pub class_step_complete : (c : ℕ) (q : List ℕ) → (c ≡ 92 → ⊥)
    → class_step (spelled class_escapable c ++ q) ≡ Some (c, q)
class_step_complete c q h = elim (is_one_of class_escapable c)
    as (λ b. is_one_of class_escapable c ≡ b → class_step (as_spelled c b ++ q) ≡ Some (c, q)) [
      | true ↦ λ e. ap (λ b. if b then Some (c, q) else None) e
      | false ↦ λ e. ap (λ b. if b then escaped_step class_escapable q else if is_one_of class_escapable c
          then None else Some (c, q)) (unequal c h)
          ∙ ap (λ b. if b then None else Some (c, q)) e
    ] refl

abbrev GoodCharacter : List ℕ → Option (ℕ × List ℕ) → Type 0
GoodCharacter p None = Unit {0}
GoodCharacter p (Some r) = (p ≡ spelled class_escapable r.0 ++ r.1) × (r.0 ≡ 92 → ⊥)

escaped_sound : (s : List ℕ) → GoodCharacter (92 ∷ s) (escaped_step class_escapable s)
escaped_sound [] = tt
escaped_sound (d ∷ s) = elim (is_one_of class_escapable d)
    as (λ b. is_one_of class_escapable d ≡ b → GoodCharacter (92 ∷ d ∷ s) (if b then Some (d, s) else None)) [
      | true ↦ λ e. (ap (λ b. as_spelled d b ++ s) (sym e), equal_not d (outside class_escapable 92 d refl e))
      | false ↦ λ e. tt
    ] refl

pub class_step_sound : (p : List ℕ) → GoodCharacter p (class_step p)
class_step_sound [] = tt
class_step_sound (c ∷ s) = elim (92 == c) as (λ b. (92 == c) ≡ b → GoodCharacter (c ∷ s) (if b
    then escaped_step class_escapable s else if is_one_of class_escapable c then None else Some (c, s))) [
      | true ↦ λ e. subst (λ z. GoodCharacter (z ∷ s) (escaped_step class_escapable s))
          (eqb-true 92 c e) (escaped_sound s)
      | false ↦ λ e. elim (is_one_of class_escapable c)
          as (λ b. is_one_of class_escapable c ≡ b
          → GoodCharacter (c ∷ s) (if b then None else Some (c, s))) [
            | true ↦ λ f. tt
            | false ↦ λ f. (ap (λ b. as_spelled c b ++ s) (sym f), equal_not c e)
          ] refl
    ] refl

-- ---- an archetype
character_only : (c : ℕ) (q : List ℕ) → starts_with_one_of (45 ∷ []) q ≡ false
    → archetype_of c q ≡ Some (Character c, q)
character_only c [] e = refl
character_only c (d ∷ q) e = ap (λ b. if b then range_to c (class_step q) else Some (Character c, d ∷ q))
    (or_false (45 == d) false e).0

pub archetype_complete : (a : Archetype) (q : List ℕ) → IsPlainArchetype a
    → starts_with_one_of (45 ∷ []) q ≡ false → archetype_step (archetype_text a ++ q) ≡ Some (a, q)
archetype_complete (Character c) q h e = ap archetype_after (class_step_complete c q h) ∙ character_only c q e
archetype_complete (Range c d) q h e =
    ap archetype_step (append_assoc (spelled class_escapable c ++ codes "-") (spelled class_escapable d) q
    ∙ append_assoc (spelled class_escapable c) (codes "-") (spelled class_escapable d ++ q))
    ∙ ap archetype_after (class_step_complete c (45 ∷ (spelled class_escapable d ++ q)) h.0)
    ∙ ap (range_to c) (class_step_complete d q h.1)

abbrev GoodArchetype : List ℕ → Option (Archetype × List ℕ) → Type 0
GoodArchetype p None = Unit {0}
GoodArchetype p (Some r) = (p ≡ archetype_text r.0 ++ r.1) × IsPlainArchetype r.0

range_sound : (c : ℕ) (s : List ℕ) (o : Option (ℕ × List ℕ)) → (c ≡ 92 → ⊥) → GoodCharacter s o
    → GoodArchetype (spelled class_escapable c ++ 45 ∷ s) (range_to c o)
range_sound c s None h g = tt
range_sound c s (Some r) h g = (
  ap (λ z. spelled class_escapable c ++ 45 ∷ z) g.0
      ∙ sym (append_assoc (spelled class_escapable c ++ codes "-") (spelled class_escapable r.0) r.1
      ∙ append_assoc (spelled class_escapable c) (codes "-") (spelled class_escapable r.0 ++ r.1)),
  (h, g.1),
)

of_sound : (c : ℕ) (s : List ℕ) → (c ≡ 92 → ⊥)
    → GoodArchetype (spelled class_escapable c ++ s) (archetype_of c s)
of_sound c [] h = (refl, h)
of_sound c (d ∷ s) h = elim (45 == d) as (λ b. (45 == d) ≡ b → GoodArchetype (spelled class_escapable c ++ d
    ∷ s) (if b then range_to c (class_step s) else Some (Character c, d ∷ s))) [
      | true ↦
          λ e. subst (λ z. GoodArchetype (spelled class_escapable c ++ z ∷ s) (range_to c (class_step s)))
          (eqb-true 45 d e) (range_sound c s (class_step s) h (class_step_sound s))
      | false ↦ λ e. (refl, h)
    ] refl

pub archetype_sound : (p : List ℕ) → GoodArchetype p (archetype_step p)
archetype_sound p = elim (class_step p) as (λ o. GoodCharacter p o → GoodArchetype p (archetype_after o)) [
  | None ↦ λ g. tt
  | Some r ↦ λ g. subst (λ z. GoodArchetype z (archetype_of r.0 r.1)) (sym g.0) (of_sound r.0 r.1 g.1)
] (class_step_sound p)

-- ---- all archetypes, up to the bracket
spelled_starts : (k c : ℕ) (q : List ℕ) → is_one_of class_escapable k ≡ true → (k == 92) ≡ false
    → starts_with_one_of (k ∷ []) (spelled class_escapable c ++ q) ≡ false
spelled_starts k c q into other = elim (is_one_of class_escapable c)
    as (λ b. is_one_of class_escapable c ≡ b → starts_with_one_of (k ∷ []) (as_spelled c b ++ q) ≡ false) [
      | true ↦ λ e. ap (λ b. b || false) other
      | false ↦ λ e. ap (λ b. b || false) (not_member class_escapable k c into e)
    ] refl

archetype_starts : (k : ℕ) (a : Archetype) (q : List ℕ) → is_one_of class_escapable k ≡ true
    → (k == 92) ≡ false → starts_with_one_of (k ∷ []) (archetype_text a ++ q) ≡ false
archetype_starts k (Character c) q into other = spelled_starts k c q into other
archetype_starts k (Range c d) q into other =
    ap (starts_with_one_of (k ∷ []))
    (append_assoc (spelled class_escapable c ++ codes "-") (spelled class_escapable d) q
    ∙ append_assoc (spelled class_escapable c) (codes "-") (spelled class_escapable d ++ q))
    ∙ spelled_starts k c (45 ∷ (spelled class_escapable d ++ q)) into other

-- archetypes and the bracket that closes them
abbrev pub closing : List Archetype → List ℕ → List ℕ
closing xs q = archetypes_text xs ++ 93 ∷ q

closing-cons : (a : Archetype) (xs : List Archetype) (q : List ℕ)
    → closing (a ∷ xs) q ≡ archetype_text a ++ closing xs q
closing-cons a xs q = append_assoc (archetype_text a) (archetypes_text xs) (93 ∷ q)

no_dash : (xs : List Archetype) (q : List ℕ) → starts_with_one_of (45 ∷ []) (closing xs q) ≡ false
no_dash [] q = refl
no_dash (a ∷ xs) q = ap (starts_with_one_of (45 ∷ [])) (closing-cons a xs q)
    ∙ archetype_starts 45 a (closing xs q) refl refl

not_closed : (p : List ℕ) → starts_with_one_of (93 ∷ []) p ≡ false → strip 93 p ≡ None
not_closed [] e = refl
not_closed (c ∷ s) e = ap (λ b. if b then Some s else None) (or_false (93 == c) false e).0

class_go : (n : ℕ) (p r : List ℕ) (a : Archetype) → starts_with_one_of (93 ∷ []) p ≡ false
    → archetype_step p ≡ Some (a, r) → class_run (suc n) p ≡ put_some a (class_run n r)
class_go n [] r a e f = absurd (let x : Archetype × List ℕ = (a, r) in none_some x f)
class_go n (c ∷ s) r a e f =
    ap (λ b. if b then Some ([], s) else go_on (class_run n) (archetype_step (c ∷ s)))
    (or_false (93 == c) false e).0 ∙ ap (go_on (class_run n)) f

spelled_some : (c : ℕ) → 0 < length (spelled class_escapable c)
spelled_some c = elim (is_one_of class_escapable c)
    as (λ b. 0 < length (as_spelled c b)) [ true ↦ omega arith | false ↦ omega arith ]

archetype_some : (a : Archetype) → 0 < length (archetype_text a)
archetype_some (Character c) = spelled_some c
archetype_some (Range c d) = omega (
  arith,
  spelled_some d,
  length-append (spelled class_escapable c ++ codes "-") (spelled class_escapable d),
)

pub class_run_complete : (n : ℕ) (xs : List Archetype) (q : List ℕ) → AllPlain xs → length (closing xs q) ≤ n
    → class_run n (closing xs q) ≡ Some (xs, q)
class_run_complete zero [] q h le = absurd (omega (arith, le))
class_run_complete (suc n) [] q h le = refl
class_run_complete zero (a ∷ xs) q h le = absurd (omega (
  arith,
  le,
  archetype_some a,
  ap length (closing-cons a xs q),
  length-append (archetype_text a) (closing xs q),
))
class_run_complete (suc n) (a ∷ xs) q h le =
    ap (class_run (suc n)) (closing-cons a xs q)
    ∙ class_go n (archetype_text a ++ closing xs q) (closing xs q) a (archetype_starts 93 a
    (closing xs q) refl refl) (archetype_complete a (closing xs q) h.0 (no_dash xs q))
    ∙ ap (put_some a) (class_run_complete n xs q h.1 (omega (
      arith,
      le,
      archetype_some a,
      ap length (closing-cons a xs q),
      length-append (archetype_text a) (closing xs q),
    )))

abbrev pub GoodRun : List ℕ → Option (List Archetype × List ℕ) → Type 0
GoodRun p None = Unit {0}
GoodRun p (Some r) = (p ≡ closing r.0 r.1) × AllPlain r.0

put_sound : (p s : List ℕ) (a : Archetype) (o : Option (List Archetype × List ℕ)) → p ≡ archetype_text a ++ s
    → IsPlainArchetype a → GoodRun s o → GoodRun p (put_some a o)
put_sound p s a None e h g = tt
put_sound p s a (Some r) e h g =
    (e ∙ ap (λ z. archetype_text a ++ z) g.0 ∙ sym (closing-cons a r.0 r.1), (h, g.1))

pub class_run_sound : (n : ℕ) (p : List ℕ) → GoodRun p (class_run n p)
class_run_sound n [] = tt
class_run_sound zero (c ∷ s) = tt
class_run_sound (suc n) (c ∷ s) = elim (93 == c) as (λ b. (93 == c) ≡ b
    → GoodRun (c ∷ s) (if b then Some ([], s) else go_on (class_run n) (archetype_step (c ∷ s)))) [
      | true ↦ λ e. (ap (λ z. z ∷ s) (sym (eqb-true 93 c e)), tt)
      | false ↦ λ e. elim (archetype_step (c ∷ s))
          as (λ o. GoodArchetype (c ∷ s) o → GoodRun (c ∷ s) (go_on (class_run n) o)) [
            | None ↦ λ g. tt
            | Some r ↦ λ g. put_sound (c ∷ s) r.1 r.0 (class_run n r.1) g.0 g.1 (class_run_sound n r.1)
          ] (archetype_sound (c ∷ s))
    ] refl
