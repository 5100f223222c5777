-- What closes and what follows, where flag groups may stand between.
use Rattle.std.proofs.Common.{◌≡◌, ℕ, Bool, true, false, List, [], ◌∷◌, Option, Some, None, if◌then◌else◌}
use Rattle.std.proofs.Common.{◌==◌, codes, refl, sym, ◌∙◌, ap, subst, inl, inr, eqb-true}
use Rattle.wax_token.specs.Reads.{Place, Past, Flags, no_flags, group, Around, whole, in_alternation}
use Rattle.wax_token.specs.Reads.{in_repetition, IsEnd, starts_with_one_of, NoWildcardFollows, TreeCloses}
use Rattle.wax_token.specs.Reads.{TreeFollows}
use Rattle.wax_parse.specs.inner.Parser.{at, strip, flags_end, is_end, after_slash, closed_by_slash}
use Rattle.wax_parse.specs.inner.Parser.{after_stars, after_star, star_after, after_tree}
use Rattle.wax_parse.proofs.{Runs.none_some, Classes.outside, Flags.{flags_reached, flags_cases, flags_last}}

-- ---- no `*` and no `$`
pub no_wildcard_sound : (q : Place) → starts_with_one_of (codes "*$") (flags_end q).rest ≡ false
    → NoWildcardFollows q
no_wildcard_sound q e = λ m f. elim (flags_cases q m f) [
  | inl g ↦ subst (λ z. starts_with_one_of (codes "*$") z.rest ≡ false) (sym g) e
  | inr g ↦ parenthesis m.rest g
]
  where
    parenthesis : (t : List ℕ) → starts_with_one_of (40 ∷ []) t ≡ true
        → starts_with_one_of (codes "*$") t ≡ false
    parenthesis [] g = refl
    parenthesis (c ∷ t) g = rw (outside (40 ∷ []) 42 c refl g, outside (40 ∷ []) 36 c refl g) refl

pub no_wildcard_complete : (q : Place) → NoWildcardFollows q
    → starts_with_one_of (codes "*$") (flags_end q).rest ≡ false
no_wildcard_complete q h = h (flags_end q) (flags_reached q)

-- ---- what closes a `**`
pub strip_is : (k : ℕ) (p s : List ℕ) → strip k p ≡ Some s → p ≡ k ∷ s
strip_is k [] s e = absurd (none_some s e)
strip_is k (c ∷ p) s e =
    elim (k == c) as (λ z. (k == c) ≡ z → (if z then Some p else None) ≡ Some s → c ∷ p ≡ k ∷ s) [
      | true ↦ λ f g. (let h : p ≡ s = cc in λ i. sym (eqb-true k c f) i ∷ h i)
      | false ↦ λ f g. absurd (none_some s g)
    ] refl e

-- whether a glob ends
pub end_sound : (around : Around) (q : Place) → is_end around q.rest ≡ true → IsEnd around q
end_sound whole q e = nothing q.rest e
  where
    nothing : (s : List ℕ) → is_end whole s ≡ true → s ≡ []
    nothing [] e = refl
    nothing (c ∷ s) e = absurd (false_true e)
      where
        false_true : false ≡ true → ⊥
        false_true e = cc
end_sound in_alternation q e = e
end_sound in_repetition q e = e

pub end_complete : (around : Around) (q : Place) → IsEnd around q → is_end around q.rest ≡ true
end_complete whole q e = ap (is_end whole) e
end_complete in_alternation q e = e
end_complete in_repetition q e = e

-- no `/` ends a glob
pub slash_goes_on : (around : Around) (s : List ℕ) → is_end around (47 ∷ s) ≡ false
slash_goes_on whole s = refl
slash_goes_on in_alternation s = refl
slash_goes_on in_repetition s = refl

-- nor do flag groups
pub group_goes_on : (around : Around) (s : List ℕ) → is_end around (40 ∷ s) ≡ false
group_goes_on whole s = refl
group_goes_on in_alternation s = refl
group_goes_on in_repetition s = refl

abbrev ClosesIf : Around → Place → Option Place → Type 0
ClosesIf around n None = Unit {0}
ClosesIf around n (Some q) = TreeCloses around n q

slash_sound : (around : Around) (n p : Place) → Flags n p → ClosesIf around n (closed_by_slash p)
slash_sound around n p f =
    elim (strip 47 p.rest) as (λ o. strip 47 p.rest ≡ o → ClosesIf around n (after_slash p.insensitive o)) [
      | None ↦ λ e. tt
      | Some s ↦ λ e. inl (p, f, (strip_is 47 p.rest s e, refl))
    ] refl

stars_sound : (around : Around) (b : Bool) (s : List ℕ) → ClosesIf around (at b s) (after_stars around b s)
stars_sound around b s = elim (is_end around s) as (λ z. is_end around s ≡ z
    → ClosesIf around (at b s) (if z then Some (at b s) else closed_by_slash (flags_end (at b s)))) [
      | true ↦ λ e. inr (refl, end_sound around (at b s) e)
      | false ↦ λ e. slash_sound around (at b s) (flags_end (at b s)) (flags_reached (at b s))
    ] refl

slash_after : (m q : Place) → Past (codes "/") m q → closed_by_slash m ≡ Some q
slash_after m q h = ap (λ t. after_slash m.insensitive (strip 47 t)) h.0
    ∙ ap (λ b. Some (at b q.rest)) (sym h.1)

-- a glob goes on where flag groups lead to a `/`
goes_on : (around : Around) (p m : Place) (s : List ℕ) → Flags p m → m.rest ≡ 47 ∷ s
    → is_end around p.rest ≡ false
goes_on around p m s no_flags e = ap (is_end around) e ∙ slash_goes_on around s
goes_on around p m s (group b bs k f g) e = ap (is_end around) f.0 ∙ group_goes_on around _

stars_complete : (around : Around) (n q : Place) → TreeCloses around n q
    → after_stars around n.insensitive n.rest ≡ Some q
stars_complete around n q (inl h) =
    ap (λ z. if z then Some n else closed_by_slash (flags_end n)) (goes_on around n h.0 q.rest h.1 h.2.0)
    ∙ ap closed_by_slash (sym (flags_last n h.0 h.1 (ap (starts_with_one_of (40 ∷ [])) h.2.0)))
    ∙ slash_after h.0 q h.2
stars_complete around n q (inr h) =
    ap (λ z. if z then Some n else closed_by_slash (flags_end n))
    (ap (λ z. is_end around z.rest) h.0 ∙ end_complete around q h.1) ∙ ap (λ z. Some z) h.0

-- ---- `**` and what closes it
abbrev pub TreeFrom : Around → Place → Place → Type 0
TreeFrom around p q = (n : Place) × Past (codes "**") p n × TreeCloses around n q

abbrev pub TreeIf : Around → Place → Option Place → Type 0
TreeIf around p None = Unit {0}
TreeIf around p (Some q) = TreeFrom around p q

pub tree_sound : (around : Around) (p : Place) → TreeIf around p (after_tree around p)
tree_sound around p = elim (strip 42 p.rest)
    as (λ o. strip 42 p.rest ≡ o → TreeIf around p (star_after around p.insensitive o)) [
      | None ↦ λ e. tt
      | Some s ↦
          λ e. elim (strip 42 s)
          as (λ o. strip 42 s ≡ o → TreeIf around p (after_star around p.insensitive o)) [
            | None ↦ λ f. tt
            | Some t ↦ λ f. closed t (strip_is 42 p.rest s e ∙ ap (λ z. 42 ∷ z) (strip_is 42 s t f))
                (after_stars around p.insensitive t) (stars_sound around p.insensitive t)
          ] refl
    ] refl
  where
    closed : (t : List ℕ) → p.rest ≡ 42 ∷ 42 ∷ t → (o : Option Place)
        → ClosesIf around (at p.insensitive t) o → TreeIf around p o
    closed t e None h = tt
    closed t e (Some q) h = (at p.insensitive t, (e, refl), h)

pub tree_complete : (around : Around) (p q : Place) → TreeFrom around p q → after_tree around p ≡ Some q
tree_complete around p q h =
    ap (λ t. star_after around p.insensitive (strip 42 t)) h.1.0
    ∙ ap (λ b. after_stars around b h.0.rest) (sym h.1.1) ∙ stars_complete around h.0 q h.2

-- ---- flag groups, and then `**`
pub follows_sound : (around : Around) (p q : Place) → TreeFrom around (flags_end p) q → TreeFollows around p q
follows_sound around p q h = (flags_end p, h.0, flags_reached p, h.1, h.2)

pub follows_complete : (around : Around) (p q : Place) → TreeFollows around p q
    → after_tree around (flags_end p) ≡ Some q
follows_complete around p q h =
    ap (after_tree around) (sym (flags_last p h.0 h.2 (ap (starts_with_one_of (40 ∷ [])) h.3.0)))
    ∙ tree_complete around h.0 q (h.1, h.3, h.4)
