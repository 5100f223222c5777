-- If no row of the rules holds, a sub-glob next to a boundary has no boundary on that side.
use Rattle.std.proofs.Common.{Bool, None, Option, Some, [], false, if◌then◌else◌, refl, true, ℕ, ◌&&◌, ◌≡◌}
use Rattle.wax_token.specs.Reads.{Span}
use Rattle.wax_token.specs.Syntax.{Tree, Trees, alternation, class, concatenation, leaf, literal, more, none}
use Rattle.wax_token.specs.{Syntax.{one, repetition, separator, tree, zero_or_more}, Words.members}
use Rattle.wax_token.specs.Kinds.{is_separator_leaf, is_such, is_tree_leaf, is_boundary_leaf}
use Rattle.wax_facts.specs.Rules.{alternative_breaks, branch_breaks, break_in, first_that_holds}
use Rattle.wax_facts.specs.{Rules.{side_has_boundary, last_of, rows_of, sub_glob_breaks}, Situated.Situated}
use Rattle.wax_facts.proofs.{Lists.{nil_left, nil_right}, Truths.{and_left, true_false}}

three_not : {A : Type 0} (a b c : Bool) (x y z : A) (o : Option A)
    → (if a then Some x else if b then Some y else if c then Some z else o) ≡ None
    → (a ≡ false) × (b ≡ false) × (c ≡ false)
three_not false false false x y z o h = (refl, refl, refl)
three_not false false true x y z o h = absurd (let f : ⊥ = cc in f)
three_not false true c x y z o h = absurd (let f : ⊥ = cc in f)
three_not true b c x y z o h = absurd (let f : ⊥ = cc in f)

four_not : {A : Type 0} (a b c d : Bool) (w x y z : A) (o : Option A)
    → (if a then Some w else if b then Some x else if c then Some y else if d then Some z else o) ≡ None →
    (a ≡ false) × (b ≡ false) × (c ≡ false) × (d ≡ false)
four_not false false false false w x y z o h = (refl, refl, refl, refl)
four_not false false false true w x y z o h = absurd (let f : ⊥ = cc in f)
four_not false false true d w x y z o h = absurd (let f : ⊥ = cc in f)
four_not false true c d w x y z o h = absurd (let f : ⊥ = cc in f)
four_not true b c d w x y z o h = absurd (let f : ⊥ = cc in f)

no_row : (branch : _) (s : Span) (o : Option _) → break_in branch s o ≡ [] → o ≡ None
no_row branch s None e = refl
no_row branch s (Some row) e = absurd (let f : ⊥ = cc in f)

not_boundary : (t : Tree Span) → is_such is_separator_leaf t ≡ false → is_such is_tree_leaf t ≡ false
    → is_such is_boundary_leaf t ≡ false
not_boundary (leaf a (literal i t)) e f = refl
not_boundary (leaf a (class n xs)) e f = refl
not_boundary (leaf a separator) e f = true_false e
not_boundary (leaf a one) e f = refl
not_boundary (leaf a (zero_or_more v)) e f = refl
not_boundary (leaf a (tree rooted)) e f = true_false f
not_boundary (alternation a ts) e f = refl
not_boundary (concatenation a ts) e f = refl
not_boundary (repetition a t low high) e f = refl

abbrev pub FirstBare : Trees Span → Type 0
FirstBare none = Unit {0}
FirstBare (more t ts) = is_such is_boundary_leaf t ≡ false

abbrev pub LastBare : Trees Span → Type 0
LastBare none = Unit {0}
LastBare (more t ts) = is_such is_boundary_leaf (last_of t ts) ≡ false

-- a sub-glob next to a boundary has no boundary on that side
abbrev pub Bare : Situated → Trees Span → Type 0
Bare c ts = (side_has_boundary c.left ≡ true → FirstBare ts)
    × (side_has_boundary c.right ≡ true → LastBare ts)

rows_bare : (branch : _) (c : Situated) (ts : Trees Span)
    → first_that_holds (rows_of branch c.left c.right ts) ≡ None → Bare c ts
rows_bare branch c none h = ((λ e. tt), λ e. tt)
rows_bare branch c (more t none) h =
    let separator_left : Bool = is_such is_separator_leaf t && side_has_boundary c.left in
    let separator_right : Bool = is_such is_separator_leaf t && side_has_boundary c.right in
    let k : (separator_left ≡ false) × (separator_right ≡ false) × (is_such is_tree_leaf t ≡ false) =
    three_not separator_left separator_right (is_such is_tree_leaf t) _ _ _ _ h in (
      (λ e. not_boundary t (and_left (is_such is_separator_leaf t) (side_has_boundary c.left) k.0 e) k.2),
      λ e. not_boundary t (and_left (is_such is_separator_leaf t) (side_has_boundary c.right) k.1 e) k.2,
    )
rows_bare branch c (more t (more u us)) h =
    let separator_left : Bool = is_such is_separator_leaf t && side_has_boundary c.left in
    let separator_right : Bool = is_such is_separator_leaf (last_of u us) && side_has_boundary c.right in
    let tree_left : Bool = is_such is_tree_leaf t && side_has_boundary c.left in
    let tree_right : Bool = is_such is_tree_leaf (last_of u us) && side_has_boundary c.right in
    let k : (separator_left ≡ false) × (separator_right ≡ false) × (tree_left ≡ false)
    × (tree_right ≡ false) = four_not separator_left separator_right tree_left tree_right _ _ _ _ _ h in (
      (λ e. not_boundary t (and_left (is_such is_separator_leaf t) (side_has_boundary c.left) k.0 e)
          (and_left (is_such is_tree_leaf t) (side_has_boundary c.left) k.2 e)),
      λ e. not_boundary (last_of u us) (and_left (is_such is_separator_leaf (last_of u us)) (side_has_boundary
          c.right) k.1 e) (and_left (is_such is_tree_leaf (last_of u us)) (side_has_boundary c.right) k.3 e),
    )

sub_glob_bare : (branch : _) (s : Span) (c : Situated) (t : Tree Span)
    → sub_glob_breaks branch s c.left c.right t ≡ [] → Bare c (members t)
sub_glob_bare branch s c t e = rows_bare branch c (members t)
    (no_row branch s (first_that_holds (rows_of branch c.left c.right (members t))) e)

pub data IsBare (c : Situated) (ts : Trees Span) : Type 0 where
  bare : Bare c ts → IsBare c ts

is_bare : (branch : _) (s : Span) (c : Situated) (t : Tree Span)
    → sub_glob_breaks branch s c.left c.right t ≡ [] → IsBare c (members t)
is_bare branch s c t e = bare (sub_glob_bare branch s c t e)

pub bare_of : {c : Situated} {ts : Trees Span} → IsBare c ts → Bare c ts
bare_of (bare h) = h

alternative_bare : (a : Span) (c : Situated) (t : Tree Span) (ts : Trees Span)
    → alternative_breaks a c.left c.right (more t ts) ≡ [] → IsBare c (members t)
alternative_bare a c t ts e = search (is_bare, nil_left _ (alternative_breaks a c.left c.right ts) e)

pub repetition_bare : (a : Span) (c : Situated) (t : Tree Span) (low : ℕ) (high : Option ℕ)
    → branch_breaks c.left c.right (repetition a t low high) ≡ [] → IsBare c (members t)
repetition_bare a c t low high e = search (is_bare, e)

pub alternative_parts : (a : Span) (c : Situated) (t : Tree Span) (ts : Trees Span)
    → alternative_breaks a c.left c.right (more t ts) ≡ [] → Bare c (members t)
    × (alternative_breaks a c.left c.right ts ≡ [])
alternative_parts a c t ts e =
    (bare_of (alternative_bare a c t ts e), nil_right _ (alternative_breaks a c.left c.right ts) e)
