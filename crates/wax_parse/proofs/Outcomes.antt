-- From what a part of the parser answers to what the whole answers.
use Rattle.std.proofs.Common.{◌≡◌, ℕ, Bool, List, [], ◌∷◌, ◌++◌, Some, Result, Ok, Err, IsErrAnd, chars, sym}
use Rattle.std.proofs.Common.{◌∙◌, ap, subst, arith, length-append, append_assoc}
use Rattle.wax_query.specs.{Outcome.MatchBuild, declared.diagnostics.Refusal.Refusal}
use Rattle.wax_query.specs.declared.diagnostics.Refusal.TheVariants.{Refused, Memory}
use Rattle.wax_token.specs.{Syntax.{Leaf, Tree}, Reads.{Span, Place, Around, in_repetition, utf8_len}}
use Rattle.wax_parse.specs.{Accepted.IsPlace, inner.Parser.{around_of, at, flags_end, read_leaf}}
use Rattle.wax_parse.specs.inner.Reading.{GlobFrom, IsRefusal, Sole, Unreadable, HasSuffix, HasProperSuffix}
use Rattle.wax_parse.proofs.{Places.token_takes, Flags.{flags_reached, flags_text}}
use Rattle.wax_parse.specs.declared.parse.surroundings.Around as code
use Rattle.wax_parse.specs.declared.parse.surroundings.Around.TheVariants as around

-- a refusal is handed on, for a reason that follows from the first
err_as : {T U E : Type 0} (e : Refusal E) (A : T → Type 0) (B : E → Type 0) (C : U → Type 0) (D : E → Type 0)
    → ((x : E) → B x → D x) →
    MatchBuild {T = T} {E = E} (Err e) A B → MatchBuild {T = U} {E = E} (Err e) C D
err_as (Refused x) A B C D f h = f x h
err_as Memory A B C D f h = tt

pub passed_up : {T U E : Type 0} (r : Result U (Refusal E)) (e : Refusal E) (A : T → Type 0) (B : E → Type 0)
    (C : U → Type 0) (D : E → Type 0) →
    IsErrAnd r (λ y. y ≡ e) → ((x : E) → B x → D x)
    → MatchBuild {T = T} {E = E} (Err e) A B → MatchBuild r C D
passed_up (Ok u) e A B C D is f h = absurd is
passed_up (Err y) e A B C D is f h = subst (λ z. MatchBuild (Err z) C D) (sym is) (err_as e A B C D f h)

pub refused_as : {U E : Type 0} (r : Refusal E) (P : E → Type 0) (C : U → Type 0) (D : E → Type 0)
    → ((x : E) → P x → D x) → IsRefusal P r → MatchBuild {T = U} {E = E} (Err r) C D
refused_as (Refused x) P C D f h = f x h
refused_as Memory P C D f h = absurd h

pub as_made : {A : Type 0} (R : A → Place → Type 0) (t u : A) (q : Place) → t ≡ u → Sole R u q → Sole R t q
as_made R t u q e s = subst (λ z. Sole R z q) (sym e) s

-- the flag groups and the opening character are taken
pub opening_taken : (c : ℕ) (p n : Place) → flags_end p ≡ at n.insensitive (c ∷ n.rest)
    → HasProperSuffix p.rest n.rest
opening_taken c p n e =
    let f : (x : List ℕ) × (p.rest ≡ x ++ (flags_end p).rest) =
    flags_text p (flags_end p) (flags_reached p) in (
      f.0 ++ c ∷ [],
      f.1 ∙ ap (λ z. f.0 ++ z.rest) e ∙ sym (append_assoc f.0 (c ∷ []) n.rest),
      omega (arith, length-append f.0 (c ∷ [])),
    )

pub flags_beyond : (p m : Place) → flags_end p ≡ m → HasSuffix p.rest m.rest
flags_beyond p m e = subst (λ z. HasSuffix p.rest z.rest) e (flags_text p (flags_end p) (flags_reached p))

pub taken_more : (p q r : List ℕ) → HasProperSuffix p q → HasSuffix q r → HasProperSuffix p r
taken_more p q r h k = (
  h.0 ++ k.0,
  h.1 ∙ ap (λ z. h.0 ++ z) k.1 ∙ sym (append_assoc h.0 k.0 r),
  omega (arith, h.2, length-append h.0 k.0),
)

pub one_beyond : (c : ℕ) (p q : List ℕ) → p ≡ c ∷ q → HasSuffix p q
one_beyond c p q e = (c ∷ [], e)

-- what was read inside a repetition, in the scope around it
pub inner_sole : (inner outer : List ℕ) (a : code.Around) (depth : ℕ) (from : Place) (t : Tree Span)
    (q : Place) → inner ≡ outer → a ≡ around.InRepetition →
    Sole (GlobFrom (utf8_len (chars inner)) (around_of a) depth from) t q
    → Sole (GlobFrom (utf8_len (chars outer)) in_repetition depth from) t q
inner_sole inner outer a depth from t q e f h =
    subst (λ b. Sole (GlobFrom (utf8_len (chars outer)) (around_of b) depth from) t q) f
    (subst (λ z. Sole (GlobFrom (utf8_len (chars z)) (around_of a) depth from) t q) e h)

pub inner_fails : (inner outer : List ℕ) (a : code.Around) (depth : ℕ) (from : Place) (s : Span)
    → inner ≡ outer → a ≡ around.InRepetition →
    Unreadable (GlobFrom (utf8_len (chars inner)) (around_of a) depth from) × IsPlace (chars inner) s
    → Unreadable (GlobFrom (utf8_len (chars outer)) in_repetition depth from) × IsPlace (chars outer) s
inner_fails inner outer a depth from s e f h =
    subst (λ b. Unreadable (GlobFrom (utf8_len (chars outer)) (around_of b) depth from)
    × IsPlace (chars outer) s) f
    (subst (λ z. Unreadable (GlobFrom (utf8_len (chars z)) (around_of a) depth from) × IsPlace (chars z) s) e
    h)

-- what a leaf and the flag groups before it take
pub leaf_taken : (around : Around) (first : Bool) (l : Leaf) (p m q : Place) → flags_end p ≡ m
    → read_leaf around first m ≡ Some (l, q) → HasProperSuffix p.rest q.rest
leaf_taken around first l p m q e f = token_takes around first l p q (ap (read_leaf around first) e ∙ f)
