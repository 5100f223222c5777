-- Which expressions spell which token trees. A place is what is still to come, so a span is a difference of
-- lengths.
use Rattle.std.specs.Prelude.{◌≡◌, ◌≢◌, ℕ, ◌+◌, ◌*◌, ◌-◌, ◌^◌, ◌<◌, ◌≤◌, max, Bool, true, false, ◌⊎◌, List}
use Rattle.std.specs.Prelude.{[], ◌∷◌, ◌++◌, Option, Some, None, codes, ◌==◌, if◌then◌else◌, ⊤}
use Rattle.std.specs.{List.{list_any, list_all}, Char.{len_utf8, is_ascii_digit}}
use Rattle.wax_token.specs.declared.token.Archetype.{Archetype}
use Rattle.wax_token.specs.declared.token.Archetype.TheVariants.{Character, Range}
use Rattle.wax_token.specs.declared.token.Evaluation.{Evaluation}
use Rattle.wax_token.specs.declared.token.Evaluation.TheVariants.{Eager, Lazy}
use Rattle.wax_token.specs.Syntax.{Leaf, literal, class, separator, one, zero_or_more, tree, Tree, leaf}
use Rattle.wax_token.specs.Syntax.{alternation, concatenation, repetition, Trees, none, more}

-- the first byte, and the number of bytes
abbrev pub Span : Type 0
Span = ℕ × ℕ

-- A place in the expression.
pub record Place : Type 0 where
  -- whether a literal here ignores case
  pub insensitive : Bool
  -- the characters that come after it
  pub rest : List ℕ

abbrev pub utf8_len : List ℕ → ℕ
utf8_len [] = 0
utf8_len (c ∷ cs) = len_utf8 c + utf8_len cs

-- from p the characters cs lead to q
abbrev pub Past : List ℕ → Place → Place → Type 0
Past cs p q = (p.rest ≡ cs ++ q.rest) × (q.insensitive ≡ p.insensitive)

abbrev pub is_one_of : List ℕ → ℕ → Bool
is_one_of set c = list_any (λ d. d == c) set

abbrev pub starts_with_one_of : List ℕ → List ℕ → Bool
starts_with_one_of set [] = false
starts_with_one_of set (c ∷ cs) = is_one_of set c

-- what is spelled by a backslash and itself in a literal, and in a class
abbrev pub escapable : List ℕ
escapable = codes "?*$:<>()[]{},"

abbrev pub class_escapable : List ℕ
class_escapable = codes "[]-"

-- a character as it is written, where those of the set are escaped
abbrev pub spelled : List ℕ → ℕ → List ℕ
spelled set c = if is_one_of set c then 92 ∷ c ∷ [] else c ∷ []

abbrev pub all_spelled : List ℕ → List ℕ → List ℕ
all_spelled set [] = []
all_spelled set (c ∷ cs) = spelled set c ++ all_spelled set cs

-- not empty, and without `/` and backslash
abbrev pub IsLiteralText : List ℕ → Type 0
IsLiteralText t = (t ≢ []) × (list_any (is_one_of (47 ∷ 92 ∷ [])) t ≡ false)

-- nothing that a literal could go on with: no plain character, and no backslash
abbrev pub NoLiteralFollows : List ℕ → Type 0
NoLiteralFollows [] = ⊤
NoLiteralFollows (c ∷ cs) = is_one_of (47 ∷ escapable) c ≡ true

-- flag groups: `i` for true and `-i` for false
abbrev pub toggles_text : List Bool → List ℕ
toggles_text [] = []
toggles_text (true ∷ bs) = codes "i" ++ toggles_text bs
toggles_text (false ∷ bs) = codes "-i" ++ toggles_text bs

abbrev pub last_toggle : Bool → List Bool → Bool
last_toggle b [] = b
last_toggle b (c ∷ bs) = last_toggle c bs

-- from p some flag groups, perhaps none, lead to q
pub data Flags : Place → Place → Type 0 where
  no_flags : {p : Place} → Flags p p
  group : {p q : Place} (b : Bool) (bs : List Bool) (m : Place) →
      Past (codes "(?" ++ toggles_text (b ∷ bs) ++ codes ")") p m →
      Flags (record m { insensitive = last_toggle b bs }) q → Flags p q

abbrev pub archetype_text : Archetype → List ℕ
archetype_text (Character c) = spelled class_escapable c
archetype_text (Range c d) = spelled class_escapable c ++ codes "-" ++ spelled class_escapable d

abbrev pub archetypes_text : List Archetype → List ℕ
archetypes_text [] = []
archetypes_text (a ∷ xs) = archetype_text a ++ archetypes_text xs

-- a class's characters can be any but a backslash
abbrev pub IsPlainArchetype : Archetype → Type 0
IsPlainArchetype (Character c) = c ≡ 92 → ⊥
IsPlainArchetype (Range c d) = (c ≡ 92 → ⊥) × (d ≡ 92 → ⊥)

abbrev pub AllPlain : List Archetype → Type 0
AllPlain [] = ⊤
AllPlain (a ∷ xs) = IsPlainArchetype a × AllPlain xs

abbrev pub class_text : Bool → List Archetype → List ℕ
class_text true xs = codes "[!" ++ archetypes_text xs ++ codes "]"
class_text false xs = codes "[" ++ archetypes_text xs ++ codes "]"

-- a decimal number of 64 bits
abbrev pub decimal_from : ℕ → List ℕ → ℕ
decimal_from n [] = n
decimal_from n (d ∷ ds) = decimal_from (10 * n + (d - 48)) ds

abbrev pub IsNumber : List ℕ → ℕ → Type 0
IsNumber ds n = (ds ≢ []) × (list_all is_ascii_digit ds ≡ true) × (decimal_from 0 ds ≡ n) × (n < 2 ^ 64)

pub data ReadsBounds (cs : List ℕ) (low : ℕ) (high : Option ℕ) : Type 0 where
  any_number : cs ≡ [] → low ≡ 0 → high ≡ None → ReadsBounds cs low high
  at_least_one : cs ≡ codes ":" → low ≡ 1 → high ≡ None → ReadsBounds cs low high
  exactly : (ds : List ℕ) → cs ≡ codes ":" ++ ds → IsNumber ds low → high ≡ Some low → ReadsBounds cs low high
  at_least : (ds : List ℕ) → cs ≡ codes ":" ++ ds ++ codes "," → IsNumber ds low → high ≡ None →
      ReadsBounds cs low high
  between : (ds es : List ℕ) (most : ℕ) → cs ≡ codes ":" ++ ds ++ codes "," ++ es →
      IsNumber ds low → IsNumber es most →
      high ≡ Some most → ReadsBounds cs low high

-- where a sub-glob stands: nothing, `,` or `}`, `:` or `>` ends it
pub data Around : Type 0 where
  whole : Around
  in_alternation : Around
  in_repetition : Around

abbrev pub IsEnd : Around → Place → Type 0
IsEnd whole q = q.rest ≡ []
IsEnd in_alternation q = starts_with_one_of (codes ",}") q.rest ≡ true
IsEnd in_repetition q = starts_with_one_of (codes ":>") q.rest ≡ true

abbrev pub evaluation_text : Evaluation → List ℕ
evaluation_text Eager = codes "*"
evaluation_text Lazy = codes "$"

-- no flag groups and then `*` or `$` follow
abbrev pub NoWildcardFollows : Place → Type 0
NoWildcardFollows q = (m : Place) → Flags q m → starts_with_one_of (codes "*$") m.rest ≡ false

-- after `**`: flag groups and `/`, or the end of the sub-glob
abbrev pub TreeCloses : Around → Place → Place → Type 0
TreeCloses around p q = ((m : Place) × Flags p m × Past (codes "/") m q) ⊎ ((p ≡ q) × IsEnd around q)

-- flag groups and then `**`, closed
abbrev pub TreeFollows : Around → Place → Place → Type 0
TreeFollows around p q = (m n : Place) × Flags p m × Past (codes "**") m n × TreeCloses around n q

-- a leaf from p, after its flags, to q; `first` says that it is the first token of its sub-glob
abbrev pub ReadsLeaf : Around → Bool → Leaf → Place → Place → Type 0
ReadsLeaf around first (literal insensitive t) p q =
    (insensitive ≡ p.insensitive) × IsLiteralText t
    × Past (all_spelled escapable t) p q × NoLiteralFollows q.rest
ReadsLeaf around first (class negated xs) p q =
    (xs ≢ []) × AllPlain xs × Past (class_text negated xs) p q
    × (negated ≡ false → starts_with_one_of (codes "!") (archetypes_text xs) ≡ false)
ReadsLeaf around first separator p q =
    Past (codes "/") p q × ((r : Place) → TreeFollows around q r → ⊥)
ReadsLeaf around first one p q = Past (codes "?") p q
ReadsLeaf around first (zero_or_more evaluation) p q =
    Past (evaluation_text evaluation) p q × NoWildcardFollows q
ReadsLeaf around first (tree true) p q = (m : Place) × Past (codes "/") p m × TreeFollows around m q
ReadsLeaf around first (tree false) p q =
    (first ≡ true) × (n : Place) × Past (codes "**") p n × TreeCloses around n q

-- in an expression of so many bytes
module _ (size : ℕ) where
  -- a span from p to q
  abbrev pub IsSpan : Span → Place → Place → Type 0
  IsSpan s p q = (s.0 + utf8_len p.rest ≡ size) × (s.1 + utf8_len q.rest ≡ utf8_len p.rest)

  abbrev mutual
    -- one token of a concatenation, from its flags on
    pub ReadsToken : Tree Span → Around → Bool → Place → Place → Type 0
    ReadsToken (leaf s l) around first p q =
        (m : Place) × Flags p m × ReadsLeaf around first l m q × IsSpan s p q
    ReadsToken (alternation s ts) around first p q =
        (m n k : Place) × Flags p m × Past (codes "{") m n × ReadsBranches ts n k × Past (codes "}") k q
        × IsSpan s p q
    ReadsToken (repetition s t low high) around first p q =
        (m n k : Place) × (cs : List ℕ) × Flags p m × Past (codes "<") m n × ReadsGlob t in_repetition n k
        × ReadsBounds cs low high × Past (cs ++ codes ">") k q × IsSpan s p q
    ReadsToken (concatenation s ts) around first p q = ⊥

    -- the tokens of a concatenation
    pub ReadsTokens : Trees Span → Around → Bool → Place → Place → Type 0
    ReadsTokens none around first p q = p ≡ q
    ReadsTokens (more t ts) around first p q =
        (m : Place) × ReadsToken t around first p m × ReadsTokens ts around false m q

    -- a glob or a sub-glob, up to what ends it
    pub ReadsGlob : Tree Span → Around → Place → Place → Type 0
    ReadsGlob (concatenation s ts) around p q =
        (q.rest ≢ p.rest) × ReadsTokens ts around true p q × IsSpan s p q × IsEnd around q
    ReadsGlob (leaf s l) around p q = ⊥
    ReadsGlob (alternation s ts) around p q = ⊥
    ReadsGlob (repetition s t low high) around p q = ⊥

    -- the branches of an alternation
    pub ReadsBranches : Trees Span → Place → Place → Type 0
    ReadsBranches none p q = ⊥
    ReadsBranches (more t none) p q = ReadsGlob t in_alternation p q
    ReadsBranches (more t (more u us)) p q =
        (m n : Place) × ReadsGlob t in_alternation p m × Past (codes ",") m n × ReadsBranches (more u us) n q

-- how deep sub-globs nest
abbrev mutual
  pub nesting : {A : Type 0} → Tree A → ℕ
  nesting (leaf a l) = 0
  nesting (alternation a ts) = 1 + deepest ts
  nesting (concatenation a ts) = deepest ts
  nesting (repetition a t low high) = 1 + nesting t

  pub deepest : {A : Type 0} → Trees A → ℕ
  deepest none = 0
  deepest (more t ts) = max (nesting t) (deepest ts)

abbrev pub start : List ℕ → Place
start e = record { insensitive = false; rest = e }

-- the expression e spells the tree t
abbrev pub Reads : List ℕ → Tree Span → Type 0
Reads [] t = t ≡ leaf (0, 0) (literal false [])
Reads (c ∷ cs) t = (nesting t ≤ 128) × (q : Place) × ReadsGlob (utf8_len (c ∷ cs)) t whole (start (c ∷ cs)) q
