-- How a folder's text goes on to the texts of what is below it.
use Rattle.std.proofs.Common.{◌≡◌, ◌≢◌, ◌↔◌, ℕ, ◌*◌, ◌≤◌, ◌==◌, Bool, true, false, List, [], ◌∷◌, ◌++◌}
use Rattle.std.proofs.Common.{length, Option, None, if◌then◌else◌, inl, inr, refl, sym, ◌∙◌, ap, subst, arith}
use Rattle.std.proofs.{Common.append_assoc, lemmas.Bool.Decides.nat_tests, lemmas.List.nil_from_length}
use Rattle.std.proofs.lemmas.Str.{chars-nil}
use Rattle.std.specs.Str.{IsUtf8, all_scalars, chars}
use Rattle.wax_program.specs.{declared.onward.Ahead.TheVariants.{Path, Below}, Last.IsLastName}
use Rattle.wax_program.specs.Onward.{IsAhead, ahead_of}
use Rattle.wax_program.proofs.{Advancing.chars_few, Scalars.{scalars_after, scalars_append, scalars_before}}
use Rattle.wax_query.proofs.{Below.{Begins, GoesOn, path_begins}, Ends.{closed_name, not_same, open_append}}
use Rattle.wax_query.specs.Below.{IsBelowWithin, IsPathWithin, ends_open, folder_text}
use Rattle.wax_query.specs.Components.{HasNoSlash}

-- ---- how a text ends
open_after : (before name : List ℕ) → ends_open (before ++ 47 ∷ name) ≡ ends_open name
open_after before [] = open_append before 47 []
open_after before (c ∷ name) = open_append before 47 (c ∷ name)

pub last_open : (text name : List ℕ) → IsLastName text name → ends_open text ≡ ends_open name
last_open text name (none, inl e) = ap ends_open e
last_open text name (none, inr (before, e)) = ap ends_open e ∙ open_after before name

is_zero : (n : ℕ) → (n == 0) ≡ true → n ≡ 0
is_zero n e = grind (arith, nat_tests)

is_some : (n : ℕ) → (n == 0) ≡ false → n ≢ 0
is_some n e = grind (arith, nat_tests)

pub ahead_after : (text : List ℕ) (bytes : List ℕ) → IsLastName text (chars bytes)
    → (length bytes == 0) ≡ true → Path ≡ ahead_of text
ahead_after text bytes last e =
    let none : chars bytes ≡ [] = ap chars (nil_from_length bytes (is_zero (length bytes) e)) ∙ chars-nil in
    ap (λ b. if b then Path else Below) (sym (last_open text (chars bytes) last ∙ ap ends_open none))

pub ahead_inside : (text : List ℕ) (bytes : List ℕ) → IsUtf8 bytes → IsLastName text (chars bytes)
    → (length bytes == 0) ≡ false → Below ≡ ahead_of text
ahead_inside text bytes utf8 last some =
    ap (λ b. if b then Path else Below) (sym (last_open text (chars bytes) last ∙ closed (chars bytes) refl))
  where
    no_bytes : length bytes ≤ 4 * 0 → ⊥
    no_bytes le = is_some (length bytes) some (omega (arith, le))

    closed : (cs : List ℕ) → cs ≡ chars bytes → ends_open cs ≡ false
    closed [] e = absurd
        (no_bytes (subst (λ (z : List ℕ). length bytes ≤ 4 * length z) (sym e) (chars_few bytes utf8).1))
    closed (c ∷ cs) e = closed_name (c ∷ cs) (λ e. (cc)) (subst HasNoSlash (sym e) last.0)

-- a plain path ends with a name
goes_closed : (c : ℕ) (s : List ℕ) → c ≢ 47 → GoesOn None s → ends_open (c ∷ s) ≡ false
goes_closed c [] ne h = not_same c 47 ne
goes_closed c (d ∷ s) ne (inl h) = goes_closed d s h.0 h.1
goes_closed c (d ∷ []) ne (inr h) = absurd h.1
goes_closed c (d ∷ e ∷ s) ne (inr h) = goes_closed e s h.1.0 h.1.1

pub path_closed : (most : Option ℕ) (s : List ℕ) → IsPathWithin most s → (text : List ℕ)
    → ends_open (text ++ s) ≡ false
path_closed most s (names, are, some, few, e) text =
    from s ((path_begins None s).0 (names, are, some, tt, e))
  where
    from : (s : List ℕ) → Begins None s → ends_open (text ++ s) ≡ false
    from [] h = absurd h
    from (c ∷ s) h = open_append text c s ∙ goes_closed c s h.0 h.1

-- ---- what is below a folder
module _ (most : Option ℕ) (P : List ℕ → Type 0) (text : List ℕ) (scalars : all_scalars text ≡ true) where
  abbrev Below_at : Bool → Type 0
  Below_at b = (x : List ℕ)
      × ((path : List ℕ) × IsPathWithin most path × (x ≡ (if b then text else text ++ 47 ∷ []) ++ path))
      × (all_scalars x ≡ true) × P x

  each_way : (b : Bool)
      → ((s : List ℕ) × IsAhead most (if b then Path else Below) s × P (text ++ s)) ↔ Below_at b
  each_way true = (
    (λ (s, (all, h), p). (text ++ s, (s, h, refl), scalars_append text s scalars all, p)),
    (λ (x, (path, h, e), all, p).
        (path, (scalars_after text path (subst (λ z. all_scalars z ≡ true) e all), h), subst P e p)),
  )
  each_way false = (
    (λ (s, (all, (path, h, e)), p). (
      text ++ s,
      (path, h, ap (λ z. text ++ z) e ∙ sym (append_assoc text (47 ∷ []) path)),
      scalars_append text s scalars all,
      p,
    )),
    (λ (x, (path, h, e), all, p).
        let same = e ∙ append_assoc text (47 ∷ []) path in (
          47 ∷ path,
          (scalars_after text (47 ∷ path) (subst (λ z. all_scalars z ≡ true) same all), (path, h, refl)),
          subst P same p,
        )),
  )

  pub ahead_below : ((s : List ℕ) × IsAhead most (ahead_of text) s × P (text ++ s))
      ↔ ((x : List ℕ) × IsBelowWithin most text x × (all_scalars x ≡ true) × P x)
  ahead_below = each_way (ends_open text)

-- what is below a folder begins with its text
pub below_scalars : (most : Option ℕ) (text x : List ℕ) → IsBelowWithin most text x → all_scalars x ≡ true
    → all_scalars text ≡ true
below_scalars most text x (path, h, e) all =
    of (ends_open text) (scalars_before (folder_text text) path (subst (λ z. all_scalars z ≡ true) e all))
  where
    of : (b : Bool) → all_scalars (if b then text else text ++ 47 ∷ []) ≡ true → all_scalars text ≡ true
    of true k = k
    of false k = scalars_before text (47 ∷ []) k

pub folder_scalars : (text : List ℕ) → all_scalars text ≡ true → all_scalars (folder_text text) ≡ true
folder_scalars text all = of (ends_open text)
  where
    of : (b : Bool) → all_scalars (if b then text else text ++ 47 ∷ []) ≡ true
    of true = all
    of false = scalars_append text (47 ∷ []) all refl
