-- How the parser reads: what its private functions answer. No part of the language's definition.
use Rattle.std.specs.Char.{is_ascii_digit}
use Rattle.std.specs.Prelude.{chars, ltb, ◌+◌, ◌*◌, ◌-◌, ◌^◌, ℕ, zero, suc, Bool, true, false, List, [], ◌∷◌}
use Rattle.std.specs.Prelude.{◌++◌, length, Option, Some, None, codes, ◌==◌, ◌≡◌, not, if◌then◌else◌, ⊤}
use Rattle.std.specs.List.{list_all}
use Rattle.wax_token.specs.declared.token.Archetype.{Archetype}
use Rattle.wax_token.specs.declared.token.Archetype.TheVariants.{Character, Range}
use Rattle.wax_token.specs.declared.token.Evaluation.{Evaluation}
use Rattle.wax_token.specs.declared.token.Evaluation.TheVariants.{Eager, Lazy}
use Rattle.wax_token.specs.Syntax.{Leaf, literal, class, separator, one, zero_or_more, tree}
use Rattle.wax_token.specs.Reads.{Place, Around, whole, in_alternation, in_repetition, is_one_of}
use Rattle.wax_token.specs.Reads.{starts_with_one_of, escapable, class_escapable}
use Rattle.wax_parse.specs.declared.parse.flags.Cursor.{Cursor}
use Rattle.wax_parse.specs.declared.parse.surroundings.Around as code
use Rattle.wax_parse.specs.declared.parse.surroundings.Around.TheVariants as around

abbrev pub strip : ℕ → List ℕ → Option (List ℕ)
strip c [] = None
strip c (d ∷ s) = if c == d then Some s else None

-- ---- characters that a backslash may stand before
abbrev pub escaped_step : List ℕ → List ℕ → Option (ℕ × List ℕ)
escaped_step set [] = None
escaped_step set (d ∷ s) = if is_one_of set d then Some (d, s) else None

-- the next character, where those of the set are escaped, and the text after it; a stop ends the run
abbrev pub spelled_step : List ℕ → List ℕ → List ℕ → Option (ℕ × List ℕ)
spelled_step set stop [] = None
spelled_step set stop (c ∷ s) =
    if 92 == c then escaped_step set s else if is_one_of stop c then None else Some (c, s)

abbrev pub literal_step : List ℕ → Option (ℕ × List ℕ)
literal_step p = spelled_step escapable (47 ∷ escapable) p

abbrev pub class_step : List ℕ → Option (ℕ × List ℕ)
class_step p = spelled_step class_escapable class_escapable p

-- ---- literals
-- a character that stands for itself
abbrev pub is_plain_character : ℕ → Bool
is_plain_character c = not (is_one_of (92 ∷ 47 ∷ escapable) c)

abbrev pub is_plain_text : List ℕ → Bool
is_plain_text t = list_all is_plain_character t

-- the end, or a character that isn't plain
abbrev pub StopsPlain : List ℕ → Type 0
StopsPlain [] = ⊤
StopsPlain (c ∷ s) = is_plain_character c ≡ false

abbrev pub put : {A B : Type 0} → A → List A × B → List A × B
put c r = (c ∷ r.0, r.1)

-- the longest run of a literal, and the text after it
abbrev pub literal_run : List ℕ → List ℕ × List ℕ
literal_run [] = ([], [])
literal_run (c ∷ []) = if is_one_of (92 ∷ 47 ∷ escapable) c then ([], c ∷ []) else (c ∷ [], [])
literal_run (c ∷ d ∷ s) =
    if 92 == c then (if is_one_of escapable d then put d (literal_run s) else ([], c ∷ d ∷ s))
    else if is_one_of (47 ∷ escapable) c then ([], c ∷ d ∷ s) else put c (literal_run (d ∷ s))

abbrev pub literal_leaf : Bool → List ℕ × List ℕ → Option (Leaf × List ℕ)
literal_leaf b ([], q) = None
literal_leaf b (c ∷ t, q) = if starts_with_one_of (92 ∷ []) q then None else Some (literal b (c ∷ t), q)

-- ---- classes
abbrev pub range_to : ℕ → Option (ℕ × List ℕ) → Option (Archetype × List ℕ)
range_to c None = None
range_to c (Some r) = Some (Range c r.0, r.1)

-- an archetype that begins with the character c
abbrev pub archetype_of : ℕ → List ℕ → Option (Archetype × List ℕ)
archetype_of c [] = Some (Character c, [])
archetype_of c (d ∷ s) = if 45 == d then range_to c (class_step s) else Some (Character c, d ∷ s)

abbrev pub archetype_after : Option (ℕ × List ℕ) → Option (Archetype × List ℕ)
archetype_after None = None
archetype_after (Some r) = archetype_of r.0 r.1

abbrev pub archetype_step : List ℕ → Option (Archetype × List ℕ)
archetype_step p = archetype_after (class_step p)

abbrev pub put_some : Archetype → Option (List Archetype × List ℕ) → Option (List Archetype × List ℕ)
put_some a None = None
put_some a (Some r) = Some (put a r)

abbrev pub go_on : (List ℕ → Option (List Archetype × List ℕ)) → Option (Archetype × List ℕ)
    → Option (List Archetype × List ℕ)
go_on again None = None
go_on again (Some r) = put_some r.0 (again r.1)

-- at most n archetypes, up to the closing bracket
abbrev pub class_run : ℕ → List ℕ → Option (List Archetype × List ℕ)
class_run n [] = None
class_run zero (c ∷ s) = None
class_run (suc n) (c ∷ s) = if 93 == c then Some ([], s) else go_on (class_run n) (archetype_step (c ∷ s))

abbrev pub class_leaf : Bool → Option (List Archetype × List ℕ) → Option (Leaf × List ℕ)
class_leaf negated None = None
class_leaf negated (Some ([], q)) = None
class_leaf negated (Some (a ∷ xs, q)) = Some (class negated (a ∷ xs), q)

-- a run after these archetypes
abbrev pub prefixed : List Archetype → Option (List Archetype × List ℕ) → Option (List Archetype × List ℕ)
prefixed xs None = None
prefixed xs (Some r) = Some (xs ++ r.0, r.1)

-- a class, after its opening bracket
abbrev pub read_class : List ℕ → Option (Leaf × List ℕ)
read_class [] = None
read_class (c ∷ s) = if 33 == c then class_leaf true (class_run (length s) s)
    else class_leaf false (class_run (length (c ∷ s)) (c ∷ s))

-- ---- flag groups
abbrev pub at : Bool → List ℕ → Place
at b s = record { insensitive = b; rest = s }

-- where a cursor stands
abbrev pub place : Cursor → Place
place c = at c.is_case_insensitive (chars c.rest.now)

-- `i` after a dash
abbrev pub toggle_off : Option (List ℕ) → Option (Bool × List ℕ)
toggle_off None = None
toggle_off (Some s) = Some (false, s)

-- a toggle, and the text after it
abbrev pub toggle_step : List ℕ → Option (Bool × List ℕ)
toggle_step [] = None
toggle_step (c ∷ s) = if 105 == c then Some (true, s) else if 45 == c then toggle_off (strip 105 s) else None

-- the place after the toggles and their `)`, where the toggle b was the last one
abbrev mutual
  pub group_end : Bool → List ℕ → Option Place
  group_end b [] = None
  group_end b (c ∷ s) = if 41 == c then Some (at b s) else if 105 == c then group_end true s
      else if 45 == c then dash_end s else None

  pub dash_end : List ℕ → Option Place
  dash_end [] = None
  dash_end (c ∷ s) = if 105 == c then group_end false s else None

abbrev pub first_toggle : Option (Bool × List ℕ) → Option Place
first_toggle None = None
first_toggle (Some r) = group_end r.0 r.1

abbrev pub after_question : Option (List ℕ) → Option Place
after_question None = None
after_question (Some s) = first_toggle (toggle_step s)

abbrev pub after_parenthesis : Option (List ℕ) → Option Place
after_parenthesis None = None
after_parenthesis (Some s) = after_question (strip 63 s)

-- the place after a flag group
abbrev pub group_step : List ℕ → Option Place
group_step p = after_parenthesis (strip 40 p)

abbrev pub flags_on : (Place → Place) → Place → Option Place → Place
flags_on again p None = p
flags_on again p (Some q) = again q

-- the place after at most n flag groups
abbrev pub flags_run : ℕ → Place → Place
flags_run zero p = p
flags_run (suc n) p = flags_on (flags_run n) p (group_step p.rest)

-- the place after all flag groups
abbrev pub flags_end : Place → Place
flags_end p = flags_run (length p.rest) p

-- ---- what ends a glob
abbrev pub around_of : code.Around → Around
around_of around.Whole = whole
around_of around.InAlternation = in_alternation
around_of around.InRepetition = in_repetition

abbrev pub is_end : Around → List ℕ → Bool
is_end whole [] = true
is_end whole (c ∷ s) = false
is_end in_alternation s = starts_with_one_of (codes ",}") s
is_end in_repetition s = starts_with_one_of (codes ":>") s

-- ---- the other leaves
abbrev pub after_slash : Bool → Option (List ℕ) → Option Place
after_slash b None = None
after_slash b (Some s) = Some (at b s)

-- after `**`: the place after flag groups and the `/`, or the end of the glob
abbrev pub closed_by_slash : Place → Option Place
closed_by_slash p = after_slash p.insensitive (strip 47 p.rest)

abbrev pub after_stars : Around → Bool → List ℕ → Option Place
after_stars around b s = if is_end around s then Some (at b s) else closed_by_slash (flags_end (at b s))

abbrev pub after_star : Around → Bool → Option (List ℕ) → Option Place
after_star around b None = None
after_star around b (Some s) = after_stars around b s

abbrev pub star_after : Around → Bool → Option (List ℕ) → Option Place
star_after around b None = None
star_after around b (Some s) = after_star around b (strip 42 s)

-- the place after `**` and what closes it
abbrev pub after_tree : Around → Place → Option Place
after_tree around p = star_after around p.insensitive (strip 42 p.rest)

abbrev pub boundary_leaf : Place → Option Place → Leaf × Place
boundary_leaf p None = (separator, p)
boundary_leaf p (Some q) = (tree true, q)

abbrev pub zero_or_more_leaf : Evaluation → Place → Option (Leaf × Place)
zero_or_more_leaf evaluation p =
    if starts_with_one_of (codes "*$") (flags_end p).rest then None else Some (zero_or_more evaluation, p)

-- a leaf before which and after which literals are the same
abbrev pub with_flag : Bool → Option (Leaf × List ℕ) → Option (Leaf × Place)
with_flag b None = None
with_flag b (Some r) = Some (r.0, at b r.1)

-- a leaf that isn't a `**` at the beginning of the glob
abbrev pub inner_leaf : Around → Bool → List ℕ → Option (Leaf × Place)
inner_leaf around b [] = None
inner_leaf around b (c ∷ s) =
    if 47 == c then Some (boundary_leaf (at b s) (after_tree around (flags_end (at b s))))
    else if 63 == c then Some (one, at b s)
    else if 42 == c then zero_or_more_leaf Eager (at b s)
    else if 36 == c then zero_or_more_leaf Lazy (at b s)
    else if 91 == c then with_flag b (read_class s)
    else with_flag b (literal_leaf b (literal_run (c ∷ s)))

abbrev pub first_leaf : Around → Place → Option Place → Option (Leaf × Place)
first_leaf around p None = inner_leaf around p.insensitive p.rest
first_leaf around p (Some q) = Some (tree false, q)

abbrev pub read_leaf : Around → Bool → Place → Option (Leaf × Place)
read_leaf around false p = inner_leaf around p.insensitive p.rest
read_leaf around true p = first_leaf around p (after_tree around p)

-- ---- bounds
abbrev pub digit_step : List ℕ → Option (ℕ × List ℕ)
digit_step [] = None
digit_step (c ∷ s) = if is_ascii_digit c then Some (c - 48, s) else None

-- the number with one more digit, where it has 64 bits
abbrev pub next_number : ℕ → ℕ → Option ℕ
next_number n d = if ltb (n * 10 + d) (2 ^ 64) then Some (n * 10 + d) else None

-- the number n, with all digits that follow
abbrev pub digits_run : ℕ → List ℕ → Option (ℕ × List ℕ)
digits_run n [] = Some (n, [])
digits_run n (c ∷ s) =
    if is_ascii_digit c
    then (if ltb (n * 10 + (c - 48)) (2 ^ 64) then digits_run (n * 10 + (c - 48)) s else None)
    else Some (n, c ∷ s)

abbrev pub digits_after : Option (ℕ × List ℕ) → Option (ℕ × List ℕ)
digits_after None = None
digits_after (Some r) = digits_run r.0 r.1

abbrev pub number_run : List ℕ → Option (ℕ × List ℕ)
number_run s = digits_after (digit_step s)

abbrev pub with_value : {A : Type 0} → A → Option (List ℕ) → Option (A × List ℕ)
with_value a None = None
with_value a (Some s) = Some (a, s)

abbrev pub upper_end : Option (ℕ × List ℕ) → Option (Option ℕ × List ℕ)
upper_end None = None
upper_end (Some r) = with_value (Some r.0) (strip 62 r.1)

abbrev pub upper_or : List ℕ → Option (List ℕ) → Option (Option ℕ × List ℕ)
upper_or s None = upper_end (number_run s)
upper_or s (Some r) = Some (None, r)

-- an upper bound, if there is one, and the text after the `>`
abbrev pub read_upper : List ℕ → Option (Option ℕ × List ℕ)
read_upper s = upper_or s (strip 62 s)

abbrev pub with_lower : ℕ → Option (Option ℕ × List ℕ) → Option ((ℕ × Option ℕ) × List ℕ)
with_lower n None = None
with_lower n (Some r) = Some ((n, r.0), r.1)

abbrev pub upper_after : ℕ → List ℕ → Option (List ℕ) → Option ((ℕ × Option ℕ) × List ℕ)
upper_after n s None = with_value (n, Some n) (strip 62 s)
upper_after n s (Some r) = with_lower n (read_upper r)

abbrev pub lower_after : Option (ℕ × List ℕ) → Option ((ℕ × Option ℕ) × List ℕ)
lower_after None = None
lower_after (Some r) = upper_after r.0 r.1 (strip 44 r.1)

abbrev pub read_numbers : List ℕ → Option ((ℕ × Option ℕ) × List ℕ)
read_numbers s = lower_after (number_run s)

abbrev pub numbers_or : List ℕ → Option (List ℕ) → Option ((ℕ × Option ℕ) × List ℕ)
numbers_or s None = read_numbers s
numbers_or s (Some r) = Some ((1, None), r)

abbrev pub bounds_after : List ℕ → Option (List ℕ) → Option ((ℕ × Option ℕ) × List ℕ)
bounds_after s None = with_value (0, None) (strip 62 s)
bounds_after s (Some r) = numbers_or r (strip 62 r)

-- the bounds of a repetition, and the text after its `>`
abbrev pub read_bounds : List ℕ → Option ((ℕ × Option ℕ) × List ℕ)
read_bounds s = bounds_after s (strip 58 s)
