-- A token after a boundary starts in none, and one before a boundary ends in none.
use Rattle.std.proofs.Common.{Bool, None, Some, [], false, if◌then◌else◌, refl, sym, true, ◌&&◌, ◌∙◌, ◌≡◌}
use Rattle.wax_token.specs.Reads.{Span}
use Rattle.wax_token.specs.Syntax.{Leaf, Tree, Trees, alternation, concatenation, leaf, more, none}
use Rattle.wax_token.specs.{Syntax.repetition, Words.{annotation_of, members}}
use Rattle.wax_token.specs.Kinds.{is_such, is_boundary_leaf}
use Rattle.wax_facts.specs.Rules.{adjacent_span, alternative_breaks, boundary_break, side_has_boundary}
use Rattle.wax_facts.specs.Situated.{Situated, ends_in, first_starts_in, last_ends_in, some_ends_in}
use Rattle.wax_facts.specs.Situated.{some_starts_in, starts_with_leaf}
use Rattle.wax_facts.specs.Orderly.{Flat, FlatEach, FlatSome, is_token}
use Rattle.wax_query.specs.Spans.{span_union}
use Rattle.wax_facts.proofs.BareSides.{Bare, FirstBare, LastBare, alternative_parts, bare_of, repetition_bare}
use Rattle.wax_facts.proofs.NoBreak.{Lawful, LawfulEach, LawfulSome, after_this, before_these}
use Rattle.wax_facts.proofs.Truths.{and_right, false_or, true_false}

token_first : (t : Tree Span) → is_token t ≡ true → is_such is_boundary_leaf t ≡ false → FirstBare (members t)
token_first (leaf a l) e b = b
token_first (alternation a ts) e b = b
token_first (concatenation a ts) e b = true_false (sym e)
token_first (repetition a t low high) e b = b

token_last : (t : Tree Span) → is_token t ≡ true → is_such is_boundary_leaf t ≡ false → LastBare (members t)
token_last (leaf a l) e b = b
token_last (alternation a ts) e b = b
token_last (concatenation a ts) e b = true_false (sym e)
token_last (repetition a t low high) e b = b

mutual
  no_start : (c : Situated) (t : Tree Span) → Flat t → FirstBare (members t) → Lawful c t
      → side_has_boundary c.left ≡ true → starts_with_leaf is_boundary_leaf t ≡ false
  no_start c (leaf a x) w b h e = b
  no_start c (alternation a ts) w b h e = some_no_start a c ts w h.0 h.1 e
  no_start c (concatenation a ts) w b h e = first_no_start c ts w b h.1 e
  no_start c (repetition a t low high) w b h e = let k : Bare c (members t) =
      bare_of (repetition_bare a c t low high h.1) in no_start c t w (k.0 e) h.2 e

  some_no_start : (a : Span) (c : Situated) (ts : Trees Span) → FlatSome ts
      → alternative_breaks a c.left c.right ts ≡ [] → LawfulSome c ts → side_has_boundary c.left ≡ true
      → some_starts_in is_boundary_leaf ts ≡ false
  some_no_start a c none w g h e = refl
  some_no_start a c (more t ts) w g h e =
      let p : Bare c (members t) × (alternative_breaks a c.left c.right ts ≡ []) =
      alternative_parts a c t ts g in
      false_or (starts_with_leaf is_boundary_leaf t) (some_starts_in is_boundary_leaf ts)
      (no_start c t w.0 (p.0.0 e) h.0 e) (some_no_start a c ts w.1 p.1 h.1 e)

  first_no_start : (c : Situated) (ts : Trees Span) → FlatEach ts → FirstBare ts → LawfulEach c ts
      → side_has_boundary c.left ≡ true → first_starts_in is_boundary_leaf ts ≡ false
  first_no_start c none w b h e = refl
  first_no_start c (more t ts) w b h e = no_start (before_these c ts) t w.1 (token_first t w.0 b) h.0 e

mutual
  no_end : (c : Situated) (t : Tree Span) → Flat t → LastBare (members t) → Lawful c t
      → side_has_boundary c.right ≡ true → ends_in is_boundary_leaf t ≡ false
  no_end c (leaf a x) w b h e = b
  no_end c (alternation a ts) w b h e = some_no_end a c ts w h.0 h.1 e
  no_end c (concatenation a ts) w b h e = last_no_end c ts w b h.1 e
  no_end c (repetition a t low high) w b h e = let k : Bare c (members t) =
      bare_of (repetition_bare a c t low high h.1) in no_end c t w (k.1 e) h.2 e

  some_no_end : (a : Span) (c : Situated) (ts : Trees Span) → FlatSome ts
      → alternative_breaks a c.left c.right ts ≡ [] → LawfulSome c ts → side_has_boundary c.right ≡ true
      → some_ends_in is_boundary_leaf ts ≡ false
  some_no_end a c none w g h e = refl
  some_no_end a c (more t ts) w g h e =
      let p : Bare c (members t) × (alternative_breaks a c.left c.right ts ≡ []) =
      alternative_parts a c t ts g in
      false_or (ends_in is_boundary_leaf t) (some_ends_in is_boundary_leaf ts)
      (no_end c t w.0 (p.0.1 e) h.0 e) (some_no_end a c ts w.1 p.1 h.1 e)

  last_no_end : (c : Situated) (ts : Trees Span) → FlatEach ts → LastBare ts → LawfulEach c ts
      → side_has_boundary c.right ≡ true → last_ends_in is_boundary_leaf ts ≡ false
  last_no_end c none w b h e = refl
  last_no_end c (more t none) w b h e = no_end (before_these c none) t w.1 (token_last t w.0 b) h.0 e
  last_no_end c (more t (more u us)) w b h e = last_no_end (after_this c t) (more u us) w.2 b h.1 e

such_starts : (such : Leaf → Bool) (t : Tree Span) → is_such such t ≡ true → starts_with_leaf such t ≡ true
such_starts such (leaf a l) e = e
such_starts such (alternation a ts) e = true_false (sym e)
such_starts such (concatenation a ts) e = true_false (sym e)
such_starts such (repetition a t low high) e = true_false (sym e)

not_both : (b : Bool) (s : Span) → boundary_break (if b then Some s else None) ≡ [] → b ≡ false
not_both true s e = absurd (let f : ⊥ = cc in f)
not_both false s e = refl

pub meet : (c d : Situated) (t u : Tree Span) → is_token t ≡ true → is_token u ≡ true → Flat t → Flat u
    → boundary_break (adjacent_span t u) ≡ [] →
    Lawful c t → Lawful d u → side_has_boundary c.right ≡ starts_with_leaf is_boundary_leaf u
    → side_has_boundary d.left ≡ ends_in is_boundary_leaf t →
    ends_in is_boundary_leaf t ≡ true → starts_with_leaf is_boundary_leaf u ≡ false
meet c d t u i j v w g h k x y e = elim (is_such is_boundary_leaf u)
    as (λ b. is_such is_boundary_leaf u ≡ b → starts_with_leaf is_boundary_leaf u ≡ false) [
      | false ↦ λ f. no_start d u w (token_first u j f) k (y ∙ e)
      | true ↦ λ f. at_leaf f (is_such is_boundary_leaf t) refl
    ] refl
  where
    at_leaf : is_such is_boundary_leaf u ≡ true → (b : Bool) → is_such is_boundary_leaf t ≡ b
        → starts_with_leaf is_boundary_leaf u ≡ false
    at_leaf f true m =
        true_false (sym f ∙ and_right (is_such is_boundary_leaf t) (is_such is_boundary_leaf u)
        (not_both (is_such is_boundary_leaf t && is_such is_boundary_leaf u)
        (span_union (annotation_of t) (annotation_of u)) g) m)
    at_leaf f false m =
        true_false (sym e ∙ no_end c t v (token_last t i m) h (x ∙ such_starts is_boundary_leaf u f))
