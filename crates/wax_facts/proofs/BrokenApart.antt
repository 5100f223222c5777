-- Where the rules find no break, no boundary meets another.
use Rattle.std.proofs.Common.{Bool, [], false, if◌then◌else◌, refl, true, ◌∷◌, ◌≡◌}
use Rattle.wax_token.specs.Reads.{Span}
use Rattle.wax_token.specs.Syntax.{Tree, Trees, alternation, concatenation, leaf, more, none, repetition}
use Rattle.wax_facts.specs.Rules.{adjacent_boundaries, adjacent_span, are_incompatible, boundary_break}
use Rattle.wax_facts.specs.{Rules.broken, Situated.Situated}
use Rattle.wax_facts.specs.Orderly.{Apart, ApartEach, ApartSome, Flat, FlatEach, FlatSome}
use Rattle.wax_facts.proofs.Lists.{nil_left, nil_right}
use Rattle.wax_facts.proofs.NoBreak.{Lawful, LawfulEach, LawfulSome, after_this, before_these, broken_lawful}
use Rattle.wax_facts.proofs.{NoBreak.top, NoMeeting.meet}

compatible : {A : Type 0} (b : Bool) (x : A) → (if b then x ∷ [] else []) ≡ [] → b ≡ false
compatible true x e = absurd (let f : ⊥ = cc in f)
compatible false x e = refl

mutual
  all_apart : (c : Situated) (t : Tree Span) → Flat t → Lawful c t → Apart t
  all_apart c (leaf a x) w h = tt
  all_apart c (alternation a ts) w h = some_apart c ts w h.1
  all_apart c (concatenation a ts) w h = each_apart c ts w h.0 h.1
  all_apart c (repetition a t low high) w h =
      (compatible (are_incompatible low high) _ h.0, all_apart c t w h.2)

  some_apart : (c : Situated) (ts : Trees Span) → FlatSome ts → LawfulSome c ts → ApartSome ts
  some_apart c none w h = tt
  some_apart c (more t ts) w h = (all_apart c t w.0 h.0, some_apart c ts w.1 h.1)

  each_apart : (c : Situated) (ts : Trees Span) → FlatEach ts → adjacent_boundaries ts ≡ []
      → LawfulEach c ts → ApartEach ts
  each_apart c none w g h = tt
  each_apart c (more t none) w g h = (all_apart (before_these c none) t w.1 h.0, (λ e. refl), tt)
  each_apart c (more t (more u us)) w g h = (
    all_apart (before_these c (more u us)) t w.1 h.0,
    (λ e. meet (before_these c (more u us)) (before_these (after_this c t) us) t u w.0 w.2.0 w.1 w.2.1
        (nil_left (boundary_break (adjacent_span t u)) (adjacent_boundaries (more u us)) g)
        h.0 h.1.0 refl refl e),
    each_apart (after_this c t) (more u us) w.2
        (nil_right (boundary_break (adjacent_span t u)) (adjacent_boundaries (more u us)) g) h.1,
  )

pub broken_apart : (t : Tree Span) → Flat t → broken t ≡ [] → Apart t
broken_apart t w e = all_apart (top t) t w (broken_lawful t e)
